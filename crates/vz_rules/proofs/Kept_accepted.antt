-- What is kept of submissions where one is accepted, and of what is in flight and of time.
use Rattle.std.proofs.Common.{◌≡◌, ℕ, ◌+◌, ◌≤◌, Bool, true, false, ◌&&◌, ◌==◌, inl, inr, Option, Some, None, List, [], ◌∷◌, ◌++◌, map, take, refl, ap, sym, ◌∙◌, arith, cond, subst, slice_get, Contains, count_by}
use Rattle.std.proofs.lemmas.Bool.{and_parts, both_ways, eq-eqb, eqb-true, cases_order, and_right}
use Rattle.vz_ids.specs.declared.SurfaceId.{SurfaceId}
use Rattle.vz_ids.specs.declared.Sub.{Sub}
use Rattle.vz_ids.specs.Ids.{same_surface, same_sub}
use Rattle.vz_rules.specs.declared.entry.State.TheVariants.{Dropped}
use Rattle.vz_rules.specs.World.{Client, Surface, Submission, is_waiting, is_active, is_on, sub_of}
use Rattle.vz_rules.specs.Messages.{replace_on}
use Rattle.vz_rules.specs.Kept.{KeepsNumbers, KeepsStates, KeepsFlight, KeepsTime, IsCreated, is_by}
use Rattle.vz_rules.proofs.Reached.{from_same, self_same}
use Rattle.vz_rules.proofs.Members.{contains_map, map_contains, contains_at, at_push, contains_push, push_contains}
use Rattle.vz_rules.proofs.Counts.{count_none, count_push, count_at, count_before}
use Rattle.vz_rules.proofs.Kept_names.{KeepsSurface}
use Rattle.vz_rules.proofs.Kept_states.{OpensNone, drops_when, on_and, Stands}
use Rattle.vz_rules.proofs.Facts.{and_false}

-- Numbers

pub numbers_of_more : (ss : List Surface) (subs : List Submission) (new : Surface) → KeepsNumbers ss subs → KeepsNumbers (ss ++ new ∷ []) subs
numbers_of_more ss subs new h =
    record { numbered = h.numbered; ordered = h.ordered; created = λ s c. let d = h.created s c in (d.0, push_contains ss new d.0 d.1, d.2, d.3) }

pub numbers_more : (ss : List Surface) (subs : List Submission) (new : Submission) → new.submitted.index ≡ count_by (is_on new.submitted.id) subs + 1
    → new.submitted.sub.ordinal ≡ count_by (is_by new.submitted.sub.client) subs + 1 → IsCreated ss new → KeepsNumbers ss subs → KeepsNumbers ss (subs ++ new ∷ [])
numbers_more ss subs new index ordinal made h =
    record {
      numbered = λ n s p. elim (at_push subs new n s p) [
        | inl r ↦ h.numbered n s r.0 ∙ ap (λ l. count_by (is_on s.submitted.id) l + 1) (sym r.1)
        | inr r ↦ subst (λ (x : Submission). x.submitted.index ≡ count_by (is_on x.submitted.id) (take n (subs ++ new ∷ [])) + 1) r.1
            (index ∙ ap (λ l. count_by (is_on new.submitted.id) l + 1) (sym r.2))
      ];
      ordered = λ n s p. elim (at_push subs new n s p) [
        | inl r ↦ h.ordered n s r.0 ∙ ap (λ l. count_by (is_by s.submitted.sub.client) l + 1) (sym r.1)
        | inr r ↦ subst (λ (x : Submission). x.submitted.sub.ordinal ≡ count_by (is_by x.submitted.sub.client) (take n (subs ++ new ∷ [])) + 1) r.1
            (ordinal ∙ ap (λ l. count_by (is_by new.submitted.sub.client) l + 1) (sym r.2))
      ];
      created = λ s c. elim (contains_push subs new s c) [ inl m ↦ h.created s m | inr e ↦ subst (IsCreated ss) e made ];
    }

-- no two submissions have one name
pub subs_differ : (ss : List Surface) (subs : List Submission) → KeepsNumbers ss subs
    → (n m : ℕ) (s t : Submission) → slice_get subs n ≡ Some s → slice_get subs m ≡ Some t → same_sub (sub_of s) (sub_of t) ≡ true → n ≡ m
subs_differ ss subs h n m s t p q e =
    let both = and_parts (s.submitted.sub.client == t.submitted.sub.client) (s.submitted.sub.ordinal == t.submitted.sub.ordinal) e in
    let client = eqb-true s.submitted.sub.client t.submitted.sub.client both.0 in
    let ordinal = eqb-true s.submitted.sub.ordinal t.submitted.sub.ordinal both.1 in
    let one = h.ordered n s p in
    let two = h.ordered m t q in
    let same = ap (λ c. count_by (is_by c) (take n subs)) client in
    elim (cases_order n m) [
      | inl k ↦ k
      | inr r ↦ elim r [
        | inl l ↦ absurd (omega (arith, ordinal, one, two, same, count_before (is_by t.submitted.sub.client) subs n m s p both.0 l))
        | inr l ↦ absurd (omega (arith, ordinal, one, two, same, count_before (is_by t.submitted.sub.client) subs m n t q (eq-eqb t.submitted.sub.client t.submitted.sub.client refl) l))
      ]
    ]

-- States

pub replaces : (id : SurfaceId) → OpensNone (replace_on id)
replaces id = drops_when (λ s. is_waiting s && is_on id s)

-- where the waiting one is replaced none waits on the surface
pub none_waits : (id : SurfaceId) (subs : List Submission) (s : Submission) → Contains (map (replace_on id) subs) s → (is_on id s && is_waiting s) ≡ false
none_waits id subs s c =
    let m = contains_map (replace_on id) subs s c in
    subst (λ x. (is_on id x && is_waiting x) ≡ false) m.2 (gone (is_waiting m.0) (is_on id m.0) m.0 refl refl)
  where
    gone : (w o : Bool) (x : Submission) → is_waiting x ≡ w → is_on id x ≡ o
        → (is_on id (cond (w && o) (record x { state = Dropped }) x) && is_waiting (cond (w && o) (record x { state = Dropped }) x)) ≡ false
    gone true true x e f = ap (λ t. t && false) f
    gone true false x e f = ap (λ t. t && is_waiting x) f
    gone false o x e f = ap (λ t. t && is_waiting x) f ∙ (ap (λ t. o && t) e ∙ and_false o)

waits_once : (n : ℕ) (t : Bool) → n ≤ 1 → (t ≡ true → n ≡ 0) → n + cond t 1 0 ≤ 1
waits_once n true l h = omega (arith, h refl)
waits_once n false l h = omega (arith, l)

stays_once : (n : ℕ) (t : Bool) → n ≤ 1 → t ≡ false → n + cond t 1 0 ≤ 1
stays_once n true l h = absurd (cc)
stays_once n false l h = omega (arith, l)

-- a new submission waits, and none other on its surface
pub record IsNew (ss : List Surface) (subs : List Submission) (new : Submission) : Type 0 where
  pub waits : is_waiting new ≡ true
  pub acts : is_active new ≡ false
  pub was : new.was_active ≡ false
  pub index : new.submitted.index ≡ count_by (is_on new.submitted.id) subs + 1
  pub alone : (s : Submission) → Contains subs s → (is_on new.submitted.id s && is_waiting s) ≡ false
  pub stands : Stands ss new.submitted.id

pub states_more : (ss : List Surface) (subs : List Submission) (new : Submission) → KeepsNumbers ss subs → IsNew ss subs new → KeepsStates ss subs
    → KeepsStates ss (subs ++ new ∷ [])
states_more ss subs new numbers is h =
    record {
      one_waits = λ id. subst (λ n. n ≤ 1) (sym (count_push (on_and is_waiting id) subs new))
          (waits_once (count_by (on_and is_waiting id) subs) (on_and is_waiting id new) (h.one_waits id) (λ e.
          let same : new.submitted.id ≡ id = from_same new.submitted.id id (and_parts (is_on id new) (is_waiting new) e).0 in
          count_none (on_and is_waiting id) subs (λ s c. subst (λ i. (is_on i s && is_waiting s) ≡ false) same (is.alone s c))));
      one_is_active = λ id. subst (λ n. n ≤ 1) (sym (count_push (on_and is_active id) subs new))
          (stays_once (count_by (on_and is_active id) subs) (on_and is_active id new) (h.one_is_active id) (and_right (is_on id new) (is_active new) is.acts));
      waits_later = λ s t p q waits acts same. elim (contains_push subs new t q) [
        | inr e ↦ absurd (both_ways (is_active new) is.acts (ap is_active e ∙ acts))
        | inl b ↦ elim (contains_push subs new s p) [
          | inl a ↦ h.waits_later s t a b waits acts same
          | inr e ↦
              let on : is_on new.submitted.id t ≡ true =
              (ap (λ i. same_surface t.submitted.id i) (ap (λ (x : Submission). x.submitted.id) e ∙ from_same s.submitted.id t.submitted.id same) ∙ self_same t.submitted.id) in
              let id : t.submitted.id ≡ new.submitted.id = from_same t.submitted.id new.submitted.id on in
              let m = contains_at subs t b in
              let less = count_at (is_on new.submitted.id) subs m.0 t m.1 on in
              let same_count = ap (λ i. count_by (is_on i) (take m.0 subs)) id in
              omega (arith, numbers.numbered m.0 t m.1, less, same_count, is.index, ap (λ (x : Submission). x.submitted.index) e)
        ]
      ];
      stand = λ s c o. elim (contains_push subs new s c) [ inl m ↦ h.stand s m o | inr e ↦ subst (λ (x : Submission). Stands ss x.submitted.id) e is.stands ];
      was_active = λ s c acts. elim (contains_push subs new s c) [
        | inl m ↦ h.was_active s m acts
        | inr e ↦ absurd (both_ways (is_active new) is.acts (ap is_active e ∙ acts))
      ];
      was_not = λ s c waits. elim (contains_push subs new s c) [ inl m ↦ h.was_not s m waits | inr e ↦ ap (λ (x : Submission). x.was_active) (sym e) ∙ is.was ];
    }

-- Flight

pub flight_keeps : (f : Submission → Submission) (o : Option (List Sub)) (subs : List Submission) → ((s : Submission) → (f s).submitted ≡ s.submitted)
    → KeepsFlight o subs → KeepsFlight o (map f subs)
flight_keeps f o subs name h drawn sub e c =
    let m = h drawn sub e c in (f m.0, map_contains f subs m.0 m.1, ap (λ i. i.sub) (name m.0) ∙ m.2)

pub flight_more : (o : Option (List Sub)) (subs : List Submission) (new : Submission) → KeepsFlight o subs → KeepsFlight o (subs ++ new ∷ [])
flight_more o subs new h drawn sub e c = let m = h drawn sub e c in (m.0, push_contains subs new m.0 m.1, m.2)

pub flight_none : (subs : List Submission) → KeepsFlight None subs
flight_none subs drawn sub e c = absurd (cc)

-- Time

pub time_of_surfaces : (g : Surface → Surface) (cs : List Client) (ss : List Surface) (now : ℕ) → KeepsSurface g → KeepsTime cs ss now
    → KeepsTime cs (map g ss) now
time_of_surfaces g cs ss now name h =
    record {
      tick = h.tick;
      born = λ s c. let m = contains_map g ss s c in omega (arith, h.born m.0 m.1, name.born m.0, ap (λ (x : Surface). x.born) m.2);
      delivered = h.delivered;
      answered = h.answered;
    }

pub time_of_more : (cs : List Client) (ss : List Surface) (new : Surface) (now : ℕ) → new.born ≤ now → KeepsTime cs ss now → KeepsTime cs (ss ++ new ∷ []) now
time_of_more cs ss new now b h =
    record {
      tick = h.tick;
      born = λ s c. elim (contains_push ss new s c) [ inl m ↦ h.born s m | inr e ↦ subst (λ (x : Surface). x.born ≤ now) e b ];
      delivered = h.delivered;
      answered = h.answered;
    }

-- a client's begin-frame and answer are no later than this tick
pub record IsTimely (now : ℕ) (c : Client) : Type 0 where
  pub delivered : (n : ℕ) → c.delivered ≡ Some n → n ≤ now
  pub answered : c.answered ≤ now

-- the tick goes on, and clients change but are timely
pub time_of_clients : (k : Client → Client) (cs : List Client) (ss : List Surface) (now next : ℕ) → now ≤ next → next ≤ 4294967231
    → ((c : Client) → Contains cs c → IsTimely now c → IsTimely next (k c)) → KeepsTime cs ss now → KeepsTime (map k cs) ss next
time_of_clients k cs ss now next l top timely h =
    let was : (c : Client) → Contains cs c → IsTimely now c = λ c p. record { delivered = λ n e. h.delivered c n p e; answered = h.answered c p } in
    record {
      tick = top;
      born = λ s c. omega (arith, h.born s c, l);
      delivered = λ c n p e. let m = contains_map k cs c p in (timely m.0 m.1 (was m.0 m.1)).delivered n (ap (λ (x : Client). x.delivered) m.2 ∙ e);
      answered = λ c p. let m = contains_map k cs c p in subst (λ (x : Client). x.answered ≤ next) m.2 (timely m.0 m.1 (was m.0 m.1)).answered;
    }
