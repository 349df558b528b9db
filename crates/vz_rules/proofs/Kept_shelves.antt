-- What is kept of resources, where submissions change and where one is accepted.
use Rattle.std.proofs.Common.{◌≡◌, ℕ, ◌+◌, ◌-◌, ◌≤◌, Bool, true, ◌&&◌, ◌==◌, inl, inr, List, [], ◌∷◌, ◌++◌, map, ap, sym, ◌∙◌, arith, cond, subst, Contains, count_by, sum_by}
use Rattle.std.specs.Prelude.{nat_lt}
use Rattle.std.proofs.lemmas.Bool.{and_parts, and_from}
use Rattle.std.specs.List.{list_any}
use Rattle.vz_frame.specs.declared.frame.Listing.{Listing}
use Rattle.vz_frame.specs.Frame.{lists}
use Rattle.vz_rules.specs.declared.entry.Returned.{Returned}
use Rattle.vz_rules.specs.World.{Client, Resource, Submission}
use Rattle.vz_rules.specs.Kept.{KeepsShelf, KeepsResource, KeepsReturn, HasResource, AreRising, borrows, holds_of, count_of, is_by}
use Rattle.vz_rules.proofs.Members.{contains_map, map_contains, contains_push, all_at, all_from}
use Rattle.vz_rules.proofs.Counts.{count_less, count_same, count_push}

-- one that holds in the end held before
held_before : (f : Submission → Submission) (holding more : Submission → Bool) (c id : ℕ) (s : Submission) → (f s).submitted ≡ s.submitted
    → (more (f s) ≡ true → holding s ≡ true) → holds_of more c id (f s) ≡ true → holds_of holding c id s ≡ true
held_before f holding more c id s e h k =
    let outer = and_parts (((f s).submitted.sub.client == c) && more (f s)) (list_any (lists id) (f s).submitted.frame.resources) k in
    let inner = and_parts ((f s).submitted.sub.client == c) (more (f s)) outer.0 in
    and_from ((s.submitted.sub.client == c) && holding s) (list_any (lists id) s.submitted.frame.resources)
    (and_from (s.submitted.sub.client == c) (holding s) (ap (λ i. i.sub.client == c) (sym e) ∙ inner.0) (h inner.1))
    (ap (λ i. list_any (lists id) i.frame.resources) (sym e) ∙ outer.1)

-- submissions keep what they were accepted with, and no more of them hold
pub shelf_of_subs : (f : Submission → Submission) (holding more : Submission → Bool) (subs : List Submission) (c : Client)
    → ((s : Submission) → (f s).submitted ≡ s.submitted)
    → ((s : Submission) → Contains subs s → more (f s) ≡ true → holding s ≡ true) → KeepsShelf holding subs c → KeepsShelf more (map f subs) c
shelf_of_subs f holding more subs c name held h =
    record {
      taken = omega (arith, h.taken, count_same f (is_by c.number) (is_by c.number) subs (λ s. ap (λ i. i.sub.client == c.number) (name s)));
      rising = h.rising;
      listed = λ s l p by q.
          let m = contains_map f subs s p in
          let e : s.submitted ≡ m.0.submitted = ap (λ (x : Submission). x.submitted) (sym m.2) ∙ name m.0 in
          h.listed m.0 l m.1 (ap (λ i. i.sub.client) (sym e) ∙ by) (subst (λ i. Contains i.frame.resources l) e q);
      totals = λ s p.
          let t = h.totals s p in
          record {
            reclaimed = t.reclaimed;
            queued = t.queued;
            lent = t.lent ∙ sym (count_same f (borrows c.number s.id) (borrows c.number s.id) subs (λ x. ap (λ i. (i.sub.client == c.number) && list_any (lists s.id) i.frame.resources) (name x)));
            out = omega (
              arith,
              t.out,
              count_less f (holds_of more c.number s.id) (holds_of holding c.number s.id) subs
                  (λ x m. held_before f holding more c.number s.id x (name x) (held x m)),
            );
            in_queue = t.in_queue;
          };
      returns = h.returns;
    }

-- a client changes and keeps its number, its resources and its queue, and takes no message back
pub record KeepsStock (c d : Client) : Type 0 where
  pub number : d.number ≡ c.number
  pub resources : d.resources ≡ c.resources
  pub queue : d.queue ≡ c.queue
  pub taken : c.taken ≤ d.taken

pub shelf_of_client : (holding : Submission → Bool) (subs : List Submission) (c d : Client) → KeepsStock c d → KeepsShelf holding subs c
    → KeepsShelf holding subs d
shelf_of_client holding subs c d same h =
    record {
      taken = omega (arith, h.taken, same.taken, ap (λ n. count_by (is_by n) subs) same.number);
      rising = subst AreRising (sym same.resources) h.rising;
      listed = λ s l p by q. subst (λ r. HasResource r l.id) (sym same.resources) (h.listed s l p (by ∙ same.number) q);
      totals = λ s p.
          subst (λ n. KeepsResource holding subs n d.queue s) (sym same.number)
          (subst (λ q. KeepsResource holding subs c.number q s) (sym same.queue) (h.totals s (subst (λ r. Contains r s) same.resources p)));
      returns = λ r p.
          subst (λ n. KeepsReturn n d.resources r) (sym same.number)
          (subst (λ x. KeepsReturn c.number x r) (sym same.resources) (h.returns r (subst (λ q. Contains q r) same.queue p)));
    }

-- Resources that change and keep their ids

pub has_mapped : (g : Resource → Resource) (rs : List Resource) (id : ℕ) → ((s : Resource) → (g s).id ≡ s.id) → HasResource rs id → HasResource (map g rs) id
has_mapped g rs id name h = (g h.0, map_contains g rs h.0 h.1, name h.0 ∙ h.2)

pub rising_map : (g : Resource → Resource) (rs : List Resource) → ((s : Resource) → (g s).id ≡ s.id) → AreRising rs → AreRising (map g rs)
rising_map g [] name h = tt
rising_map g (r ∷ rs) name h = (
  all_from (λ (t : Resource). nat_lt (g r).id t.id) (map g rs) (λ t p.
      let m = contains_map g rs t p in
      ap (λ n. nat_lt n t.id) (name r) ∙ (ap (λ n. nat_lt r.id n) (ap (λ (x : Resource). x.id) (sym m.2) ∙ name m.0) ∙ all_at (λ (x : Resource). nat_lt r.id x.id) rs m.0 h.0 m.1)),
  rising_map g rs name h.1,
)

-- One submission more

-- a resource changes by one reference lent, where the new submission lists it
pub record Lends (c : ℕ) (new : Submission) (g : Resource → Resource) : Type 0 where
  pub id : (s : Resource) → (g s).id ≡ s.id
  pub queued : (s : Resource) → (g s).queued ≡ s.queued
  pub reclaimed : (s : Resource) → (g s).reclaimed ≡ s.reclaimed
  pub lent : (s : Resource) → (g s).lent ≡ s.lent + cond (borrows c s.id new) 1 0

pub return_mapped : (g : Resource → Resource) (c : ℕ) (rs : List Resource) (r : Returned) → ((s : Resource) → (g s).id ≡ s.id) → KeepsReturn c rs r
    → KeepsReturn c (map g rs) r
return_mapped g c rs r name h = record { client = h.client; some = h.some; known = has_mapped g rs r.id name h.known }

one_less : (a b c : Bool) → cond ((a && b) && c) 1 0 ≤ cond (a && c) 1 0
one_less true true true = omega arith
one_less _ _ _ = omega arith

lent_totals : (f : Submission → Submission) (holding more : Submission → Bool) (subs : List Submission) (new : Submission) (c : ℕ) (queue : List Returned) (g : Resource → Resource) (s : Resource)
    → ((x : Submission) → (f x).submitted ≡ x.submitted) → ((x : Submission) → Contains subs x → more (f x) ≡ true → holding x ≡ true) → Lends c new g
    → KeepsResource holding subs c queue s → KeepsResource more (map f subs ++ new ∷ []) c queue (g s)
lent_totals f holding more subs new c queue g s name held lends t =
    let i : (g s).id ≡ s.id = lends.id s in
    let count = count_push (borrows c s.id) (map f subs) new in
    let same = count_same f (borrows c s.id) (borrows c s.id) subs (λ x. ap (λ i. (i.sub.client == c) && list_any (lists s.id) i.frame.resources) (name x)) in
    let holders = count_push (holds_of more c s.id) (map f subs) new in
    let fewer = count_less f (holds_of more c s.id) (holds_of holding c s.id) subs (λ x m. held_before f holding more c s.id x (name x) (held x m)) in
    let one = one_less (new.submitted.sub.client == c) (more new) (list_any (lists s.id) new.submitted.frame.resources) in
    record {
      reclaimed = omega (arith, t.reclaimed, lends.reclaimed s, lends.queued s);
      queued = omega (arith, t.queued, lends.queued s, lends.lent s);
      lent = ap (λ n. n) (lends.lent s) ∙ (omega (arith, t.lent, count, same) ∙ ap (λ n. count_by (borrows c n) (map f subs ++ new ∷ [])) (sym i));
      out =
          let bound : count_by (holds_of more c s.id) (map f subs ++ new ∷ []) ≤ (g s).lent - (g s).queued =
          omega (arith, t.out, t.queued, holders, fewer, one, lends.lent s, lends.queued s) in
          subst (λ n. count_by (holds_of more c n) (map f subs ++ new ∷ []) ≤ (g s).lent - (g s).queued) (sym i) bound;
      in_queue = lends.queued s ∙ (t.in_queue ∙ (ap (λ n. n + sum_by (count_of s.id) queue) (sym (lends.reclaimed s)) ∙ ap (λ n. (g s).reclaimed + sum_by (count_of n) queue) (sym i)));
    }

-- a client's shelf, where a submission is accepted
pub shelf_more : (f : Submission → Submission) (holding more : Submission → Bool) (subs : List Submission) (new : Submission) (c : Client) (d : Client) (g : Resource → Resource)
    → ((x : Submission) → (f x).submitted ≡ x.submitted) → ((x : Submission) → Contains subs x → more (f x) ≡ true → holding x ≡ true) → Lends c.number new g
    → d.number ≡ c.number → d.resources ≡ map g c.resources → d.queue ≡ c.queue → c.taken + cond (is_by c.number new) 1 0 ≤ d.taken
    → ((l : Listing) → new.submitted.sub.client ≡ c.number → Contains new.submitted.frame.resources l → HasResource c.resources l.id)
    → KeepsShelf holding subs c → KeepsShelf more (map f subs ++ new ∷ []) d
shelf_more f holding more subs new c d g name held lends number resources queue taken knows h =
    let after = map f subs ++ new ∷ [] in
    record {
      taken = omega (
        arith,
        h.taken,
        taken,
        count_push (is_by c.number) (map f subs) new,
        count_same f (is_by c.number) (is_by c.number) subs (λ s. ap (λ i. i.sub.client == c.number) (name s)),
        ap (λ n. count_by (is_by n) after) number,
      );
      rising = subst AreRising (sym resources) (rising_map g c.resources lends.id h.rising);
      listed = λ s l p by q.
          subst (λ r. HasResource r l.id) (sym resources) (has_mapped g c.resources l.id lends.id (elim (contains_push (map f subs) new s p) [
            | inl p ↦
                let m = contains_map f subs s p in
                let e : s.submitted ≡ m.0.submitted = ap (λ (x : Submission). x.submitted) (sym m.2) ∙ name m.0 in
                h.listed m.0 l m.1 (ap (λ i. i.sub.client) (sym e) ∙ (by ∙ number)) (subst (λ i. Contains i.frame.resources l) e q)
            | inr e ↦ knows l (ap (λ (x : Submission). x.submitted.sub.client) e ∙ (by ∙ number)) (subst (λ (x : Submission). Contains x.submitted.frame.resources l) (sym e) q)
          ]));
      totals = λ s p.
          let m = contains_map g c.resources s (subst (λ r. Contains r s) resources p) in
          subst (λ n. KeepsResource more after n d.queue s) (sym number)
          (subst (λ q. KeepsResource more after c.number q s) (sym queue)
          (subst (λ x. KeepsResource more after c.number c.queue x) m.2 (lent_totals f holding more subs new c.number c.queue g m.0 name held lends (h.totals m.0 m.1))));
      returns = λ r p.
          subst (λ n. KeepsReturn n d.resources r) (sym number)
          (subst (λ x. KeepsReturn c.number x r) (sym resources) (return_mapped g c.number c.resources r lends.id (h.returns r (subst (λ q. Contains q r) queue p))));
    }
