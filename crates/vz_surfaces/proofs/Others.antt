-- A change of the submissions on one surface leaves what is kept of the others.
use Rattle.std.proofs.Common.{arith, ◌≡◌, Bool, true, false, not, ◌&&◌, Option, Some, None, List, map, find, refl, ap, sym, ◌∙◌, Contains, count_by}
use Rattle.std.proofs.lemmas.Bool.Decides.{nat_tests}
use Rattle.std.specs.Option.{option_map}
use Rattle.std.proofs.lemmas.Bool.{and_parts}
use Rattle.vz_ids.specs.declared.SurfaceId.{SurfaceId}
use Rattle.vz_ids.specs.Ids.{same_surface}
use Rattle.vz_rules.specs.declared.entry.State.{State}
use Rattle.vz_rules.specs.declared.entry.State.TheVariants.{Waiting, Active, Past, Dropped}
use Rattle.vz_rules.specs.World.{Surface, Submission, is_waiting, is_active, is_on}
use Rattle.vz_rules.proofs.Reached.{from_same}
use Rattle.vz_rules.proofs.Rising.{find_map}
use Rattle.vz_surfaces.specs.Reading.{standing}
use Rattle.vz_surfaces.specs.Memory.{held_in, kept_of}
use Rattle.vz_surfaces.proofs.Finding.{find_fixed, count_kept}

-- where it cannot be true it is false
pub never : (t : Bool) → (t ≡ true → false ≡ true) → t ≡ false
never true h = sym (h refl)
never false h = refl

pub no_and : (a b : Bool) → b ≡ false → (a && b) ≡ false
no_and true b h = h
no_and false b h = refl

pub and_swap : (a b : Bool) → (a && b) ≡ (b && a)
and_swap true true = refl
and_swap true false = refl
and_swap false true = refl
and_swap false false = refl

-- what is on one surface is on no other
pub off : (id q : SurfaceId) (s : Submission) → same_surface id q ≡ false → is_on q s ≡ true → is_on id s ≡ false
off id q s apart on = never (is_on id s) (λ e. sym apart ∙ (ap (λ x. same_surface x q) (sym (from_same s.submitted.id id e)) ∙ on))

-- what waits is not active
state_waits : (x : State) → (elim x as (λ x. Bool) [ Waiting ↦ true | _ ↦ false ]) ≡ true → (elim x as (λ x. Bool) [ Active ↦ true | _ ↦ false ]) ≡ false
state_waits Waiting h = refl
state_waits Active h = sym h
state_waits Past h = refl
state_waits Dropped h = refl

pub waits_inactive : (s : Submission) → is_waiting s ≡ true → is_active s ≡ false
waits_inactive s h = state_waits s.state h

-- a change of the submissions on a surface
pub record ChangesOn (id : SurfaceId) (f : Submission → Submission) (subs : List Submission) : Type 0 where
  pub submitted : (s : Submission) → Contains subs s → (f s).submitted ≡ s.submitted
  pub others : (s : Submission) → Contains subs s → is_on id s ≡ false → f s ≡ s

module _ (id : SurfaceId) (f : Submission → Submission) (subs : List Submission) (h : ChangesOn id f subs) where
  pub count_on : (q : SurfaceId) → count_by (is_on q) (map f subs) ≡ count_by (is_on q) subs
  count_on q = count_kept (is_on q) f subs (λ s c. ap (λ i. same_surface i.id q) (h.submitted s c))

  other_same : (test : Submission → Bool) (q : SurfaceId) → same_surface id q ≡ false → (s : Submission) → Contains subs s → (test (f s) && is_on q (f s)) ≡ (test s && is_on q s)
  other_same test q apart s c = grind (arith, nat_tests, off id q s apart, no_and (test (f s)) (is_on q (f s)), no_and (test s) (is_on q s))

  pub other_found : (test : Submission → Bool) (q : SurfaceId) → same_surface id q ≡ false → find (λ s. test s && is_on q s) (map f subs) ≡ find (λ s. test s && is_on q s) subs
  other_found test q apart =
      find_fixed (λ s. test s && is_on q s) f subs (other_same test q apart)
      (λ s c e. h.others s c (off id q s apart (and_parts (test s) (is_on q s) e).1))

-- what is kept of a surface, where what is on it is kept alike
pub kept_alike : (q : SurfaceId) (subs new : List Submission) → count_by (is_on q) new ≡ count_by (is_on q) subs → held_in is_waiting q new ≡ held_in is_waiting q subs
    → held_in is_active q new ≡ held_in is_active q subs → (c : Surface) → kept_of q new c ≡ kept_of q subs c
kept_alike q subs new n w a c = λ i. record { client = c.client; number = c.number; accepted = n i; waiting = w i; active = a i }

pub mapped_alike : {A B : Type 0} (f g : A → B) (o : Option A) → ((x : A) → f x ≡ g x) → option_map f o ≡ option_map g o
mapped_alike f g None h = refl
mapped_alike f g (Some x) h = ap (λ z. Some z) (h x)

-- a surface changes and keeps what is kept of it
pub record KeepsKept (g : Surface → Surface) : Type 0 where
  pub client : (c : Surface) → (g c).client ≡ c.client
  pub number : (c : Surface) → (g c).number ≡ c.number
  pub id : (c : Surface) → (g c).id ≡ c.id
  pub destroyed : (c : Surface) → (g c).destroyed ≡ c.destroyed

pub surfaces_kept : (g : Surface → Surface) (q : SurfaceId) (ss : List Surface) (subs : List Submission) → KeepsKept g
    → option_map (kept_of q subs) (standing q (map g ss)) ≡ option_map (kept_of q subs) (standing q ss)
surfaces_kept g q ss subs h = grind (arith, nat_tests, find_map)

pub count_standing : (g : Surface → Surface) (ss : List Surface) → KeepsKept g → count_by (λ (s : Surface). not s.destroyed) (map g ss) ≡ count_by (λ (s : Surface). not s.destroyed) ss
count_standing g ss h = count_kept (λ (s : Surface). not s.destroyed) g ss (λ c p. ap not (h.destroyed c))
