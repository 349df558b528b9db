-- What is kept of surfaces where a submission is accepted.
use Rattle.std.proofs.Common.{◌≡◌, ℕ, ◌+◌, Bool, true, false, not, ◌&&◌, Option, Some, None, List, [], ◌∷◌, ◌++◌, map, refl, ap, sym, ◌∙◌, arith, cond, Contains, count_by}
use Rattle.std.proofs.lemmas.Bool.Decides.{nat_tests}
use Rattle.std.specs.Option.{option_map}
use Rattle.std.proofs.lemmas.Bool.{and_parts, or_cases, both_ways}
use Rattle.vz_ids.specs.declared.FrameSinkId.{FrameSinkId}
use Rattle.vz_ids.specs.declared.LocalSurfaceId.{LocalSurfaceId}
use Rattle.vz_ids.specs.declared.SurfaceId.{SurfaceId}
use Rattle.vz_ids.specs.Ids.{same_surface, is_raised}
use Rattle.vz_pixels.specs.Block.{Block}
use Rattle.vz_frame.specs.declared.frame.CompositorFrame.{CompositorFrame}
use Rattle.vz_rules.specs.declared.entry.State.TheVariants.{Dropped}
use Rattle.vz_rules.specs.World.{Surface as Created, FrameData, Submission, is_waiting, is_active, is_on}
use Rattle.vz_rules.specs.Messages.{is_last, violates, replace_on}
use Rattle.vz_rules.specs.Scene.{or_else}
use Rattle.vz_rules.specs.Kept.{last_in, is_surface_of}
use Rattle.vz_rules.proofs.Reached.{from_same, self_same}
use Rattle.vz_rules.proofs.Members.{when_same, contains_at}
use Rattle.vz_rules.proofs.Counts.{count_push, count_none}
use Rattle.vz_rules.proofs.Kept_accepted.{none_waits}
use Rattle.vz_rules.proofs.Kept_last.{raised_from_all}
use Rattle.vz_surfaces.specs.Stored.{Stored, surface_of, new_surface, accepted_as, waiting_with, storing}
use Rattle.vz_surfaces.specs.Reading.{standing, existing_count, held_of}
use Rattle.vz_surfaces.specs.Keeping.{KeepsStored}
use Rattle.vz_surfaces.specs.declared.table.Surface.{Surface}
use Rattle.vz_surfaces.specs.Memory.{held_in, kept_of, surface_at, holding, empty_surface, IsSinkOf}
use Rattle.vz_surfaces.proofs.Finding.{find_fixed, find_none, find_end, find_not_end}
use Rattle.vz_surfaces.proofs.Others.{never, no_and, and_swap, waits_inactive, ChangesOn, count_on, other_found, kept_alike, mapped_alike}

-- A new id

raises_none : (a : LocalSurfaceId) → is_raised a a ≡ true → ⊥
raises_none a h = grind (arith, nat_tests, and_parts, or_cases)

-- where the id goes on from the last one no surface has it
pub is_unknown : (st : Stored) (c : ℕ) (sink : FrameSinkId) (local : LocalSurfaceId) → KeepsStored st → IsSinkOf c sink st → violates (last_in st.surfaces c) local ≡ false
    → is_last (last_in st.surfaces c) local ≡ false → (s : Created) → Contains st.surfaces s → same_surface s.id (surface_of sink local) ≡ false
is_unknown st c sink local keeps of v l s p = never (same_surface s.id (surface_of sink local)) (λ e.
    let same : s.id ≡ surface_of sink local = from_same s.id (surface_of sink local) e in
    let owner = of.alone s p (ap (λ (i : SurfaceId). i.sink) same) in
    let n = contains_at st.surfaces s p in
    let on = raised_from_all keeps.clients st.surfaces c local (last_in st.surfaces c) keeps.surfaces refl v l n.0 s n.1 owner in
    absurd (raises_none local (ap (λ (i : SurfaceId). is_raised i.local local) (sym same) ∙ on)))

-- and so no submission is on it
pub is_unused : (st : Stored) (id : SurfaceId) → KeepsStored st → ((s : Created) → Contains st.surfaces s → same_surface s.id id ≡ false) → (s : Submission) → Contains st.subs s → is_on id s ≡ false
is_unused st id keeps unknown s p =
    let made = keeps.numbers.created s p in ap (λ i. same_surface i id) (sym made.2) ∙ unknown made.0 made.1

-- Submissions

replaced_by : (w o : Bool) (s : Submission) → o ≡ false → cond (w && o) (record s { state = Dropped }) s ≡ s
replaced_by w o s e = ap (λ (t : Bool). cond t (record s { state = Dropped }) s) (no_and w o e)

pub replaces_on : (id : SurfaceId) (subs : List Submission) → ChangesOn id (replace_on id) subs
replaces_on id subs = grind (arith, nat_tests, when_same, replaced_by)

acts_by : (w o : Bool) (s : Submission) → (w ≡ true → is_active s ≡ false) → is_active (cond (w && o) (record s { state = Dropped }) s) ≡ is_active s
acts_by true true s h = sym (h refl)
acts_by true false s h = refl
acts_by false o s h = refl

acts_same : (id : SurfaceId) (s : Submission) → is_active (replace_on id s) ≡ is_active s
acts_same id s = acts_by (is_waiting s) (is_on id s) s (waits_inactive s)

module _ (id : SurfaceId) (i : FrameData) (subs : List Submission) (at : i.id ≡ id) where
  -- the submissions with the new one
  abbrev pub more : List Submission
  more = map (replace_on id) subs ++ waiting_with i ∷ []

  here : is_on id (waiting_with i) ≡ true
  here = ap (λ x. same_surface x id) at ∙ self_same id

  pub count_here : count_by (is_on id) more ≡ count_by (is_on id) subs + 1
  count_here =
      count_push (is_on id) (map (replace_on id) subs) (waiting_with i)
      ∙ (ap (λ (t : Bool). count_by (is_on id) (map (replace_on id) subs) + cond t 1 0) here ∙ ap (λ n. n + 1) (count_on id (replace_on id) subs (replaces_on id subs) id))

  pub waits_here : held_in is_waiting id more ≡ Some (held_of i)
  waits_here =
      let test = λ (s : Submission). is_waiting s && is_on id s in
      ap (option_map (λ (s : Submission). held_of s.submitted))
      (find_end test (map (replace_on id) subs) (waiting_with i)
      ∙ (ap (λ o. or_else o (cond (is_on id (waiting_with i)) (Some (waiting_with i)) None))
      (find_none test (map (replace_on id) subs) (λ s c. and_swap (is_waiting s) (is_on id s) ∙ none_waits id subs s c))
      ∙ ap (λ (t : Bool). cond t (Some (waiting_with i)) None) here))

  pub acts_here : held_in is_active id more ≡ held_in is_active id subs
  acts_here =
      let test = λ (s : Submission). is_active s && is_on id s in
      ap (option_map (λ (s : Submission). held_of s.submitted))
      (find_not_end test (map (replace_on id) subs) (waiting_with i) refl
      ∙ find_fixed test (replace_on id) subs
      (λ s c. ap (λ b. b && is_on id (replace_on id s)) (acts_same id s) ∙ ap (λ (x : FrameData). is_active s && same_surface x.id id) ((replaces_on id subs).submitted s c))
      (λ s c e. still (is_waiting s) (is_on id s) s (waits_inactive s) (and_parts (is_active s) (is_on id s) e).0))
    where
      still : (w o : Bool) (s : Submission) → (w ≡ true → is_active s ≡ false) → is_active s ≡ true → cond (w && o) (record s { state = Dropped }) s ≡ s
      still true o s h e = absurd (both_ways (is_active s) (h refl) e)
      still false o s h e = refl

  -- on other surfaces nothing changes
  pub elsewhere : (q : SurfaceId) → same_surface id q ≡ false → (c : Created) → kept_of q more c ≡ kept_of q subs c
  elsewhere q apart c =
      let changes = replaces_on id subs in
      let away : is_on q (waiting_with i) ≡ false = ap (λ x. same_surface x q) at ∙ apart in
      kept_alike q subs more
      (count_push (is_on q) (map (replace_on id) subs) (waiting_with i) ∙ (ap (λ (t : Bool). count_by (is_on q) (map (replace_on id) subs) + cond t 1 0) away ∙ (add_none (count_by (is_on q) (map (replace_on id) subs)) ∙ count_on id (replace_on id) subs changes q)))
      (ap (option_map (λ (s : Submission). held_of s.submitted)) (find_not_end (λ s. is_waiting s && is_on q s) (map (replace_on id) subs) (waiting_with i) away ∙ other_found id (replace_on id) subs changes is_waiting q apart))
      (ap (option_map (λ (s : Submission). held_of s.submitted)) (find_not_end (λ s. is_active s && is_on q s) (map (replace_on id) subs) (waiting_with i) refl ∙ other_found id (replace_on id) subs changes is_active q apart))
      c
    where
      add_none : (n : ℕ) → n + 0 ≡ n
      add_none n = omega arith

-- Surfaces

-- what a surface was before a submission is accepted on it: a new one, or itself
abbrev pub before_hold : Bool → ℕ → SurfaceId → Stored → Option Surface
before_hold last c id st = cond last (surface_at st id) (Some (empty_surface c (count_by (is_surface_of c) st.surfaces + 1)))

module _ (st : Stored) (c : ℕ) (sink : FrameSinkId) (local : LocalSurfaceId) (frame : CompositorFrame) (blocks : List Block) where
  abbrev the_id : SurfaceId
  the_id = surface_of sink local

  abbrev the_data : FrameData
  the_data = accepted_as c the_id frame blocks st.subs

  abbrev the_new : Created
  the_new = new_surface c the_id frame st.surfaces

  here_by : (t : Bool) → (t ≡ false → (s : Created) → Contains st.surfaces s → same_surface s.id the_id ≡ false) → (t ≡ false → (s : Submission) → Contains st.subs s → is_on the_id s ≡ false)
      → option_map (kept_of the_id (more the_id the_data st.subs refl)) (standing the_id (cond t st.surfaces (st.surfaces ++ the_new ∷ []))) ≡ option_map (holding the_data.sub frame blocks) (before_hold t c the_id st)
  unfolding surface_at
  here_by true unknown unused = by (standing the_id st.surfaces)
    where
      held : (x : Created) → kept_of the_id (more the_id the_data st.subs refl) x ≡ holding the_data.sub frame blocks (kept_of the_id st.subs x)
      held x =
          λ i. record {
            client = x.client;
            number = x.number;
            accepted = count_here the_id the_data st.subs refl i;
            waiting = waits_here the_id the_data st.subs refl i;
            active = acts_here the_id the_data st.subs refl i;
          }

      by : (o : Option Created) → option_map (kept_of the_id (more the_id the_data st.subs refl)) o ≡ option_map (holding the_data.sub frame blocks) (option_map (kept_of the_id st.subs) o)
      by None = refl
      by (Some x) = ap (λ z. Some z) (held x)
  here_by false unknown unused =
      ap (option_map (kept_of the_id (more the_id the_data st.subs refl)))
      (find_end (λ s. same_surface s.id the_id && not s.destroyed) st.surfaces the_new
      ∙ (ap (λ o. or_else o (cond (same_surface the_id the_id && true) (Some the_new) None))
      (find_none (λ s. same_surface s.id the_id && not s.destroyed) st.surfaces (λ s p. ap (λ b. b && not s.destroyed) (unknown refl s p)))
      ∙ ap (λ (t : Bool). cond (t && true) (Some the_new) None) (self_same the_id)))
      ∙ ap (λ z. Some z) held
    where
      none : count_by (is_on the_id) st.subs ≡ 0
      none = count_none (is_on the_id) st.subs (unused refl)

      held : kept_of the_id (more the_id the_data st.subs refl) the_new
          ≡ holding the_data.sub frame blocks (empty_surface c (count_by (is_surface_of c) st.surfaces + 1))
      held =
          λ i. record {
            client = c;
            number = count_by (is_surface_of c) st.surfaces + 1;
            accepted = (count_here the_id the_data st.subs refl ∙ ap (λ n. n + 1) none) i;
            waiting = (waits_here the_id the_data st.subs refl ∙ ap (λ n. Some (record (held_of the_data) { index = n + 1 })) none) i;
            active = (acts_here the_id the_data st.subs refl
                ∙ ap (option_map (λ (s : Submission). held_of s.submitted)) (find_none (λ s. is_active s && is_on the_id s) st.subs (λ s p. no_and (is_active s) (is_on the_id s) (unused refl s p)))) i;
          }

  -- what is kept of the surface of the submission
  pub stored_here : KeepsStored st → IsSinkOf c sink st → violates (last_in st.surfaces c) local ≡ false
      → surface_at (storing c sink local frame blocks st) the_id ≡ option_map (holding the_data.sub frame blocks) (before_hold (is_last (last_in st.surfaces c) local) c the_id st)
  unfolding surface_at storing
  stored_here keeps of v =
      here_by (is_last (last_in st.surfaces c) local) (is_unknown st c sink local keeps of v) (λ l. is_unused st the_id keeps (is_unknown st c sink local keeps of v l))

  apart_by : (t : Bool) (q : SurfaceId) → same_surface the_id q ≡ false → standing q (cond t st.surfaces (st.surfaces ++ the_new ∷ [])) ≡ standing q st.surfaces
  apart_by true q apart = refl
  apart_by false q apart = find_not_end (λ s. same_surface s.id q && not s.destroyed) st.surfaces the_new (ap (λ b. b && true) apart)

  -- and of the others
  pub stored_apart : (q : SurfaceId) → same_surface the_id q ≡ false → surface_at (storing c sink local frame blocks st) q ≡ surface_at st q
  unfolding surface_at storing
  stored_apart q apart =
      ap (option_map (kept_of q (more the_id the_data st.subs refl))) (apart_by (is_last (last_in st.surfaces c) local) q apart)
      ∙ mapped_alike (kept_of q (more the_id the_data st.subs refl)) (kept_of q st.subs) (standing q st.surfaces) (elsewhere the_id the_data st.subs refl q apart)

  -- how many exist
  pub stored_count : existing_count (storing c sink local frame blocks st) ≡ existing_count st + cond (is_last (last_in st.surfaces c) local) 0 1
  unfolding existing_count storing
  stored_count = grind (arith, nat_tests, count_push)
