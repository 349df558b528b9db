-- What is kept of the states of submissions: over changes that open none, over a round, and over one submission more.
use Rattle.std.proofs.Common.{◌≡◌, ◌<◌, ◌≤◌, Bool, true, false, ◌&&◌, ◌⊎◌, inl, inr, List, map, filter, refl, ap, sym, ◌∙◌, arith, cond, subst, Contains, count_by}
use Rattle.std.proofs.lemmas.Bool.{and_parts, and_from, or_cases, or_left, or_right, both_ways, cond_both}
use Rattle.std.specs.List.{list_any}
use Rattle.vz_ids.specs.declared.SurfaceId.{SurfaceId}
use Rattle.vz_ids.specs.Ids.{same_surface}
use Rattle.vz_rules.specs.declared.entry.State.TheVariants.{Active, Past, Dropped}
use Rattle.vz_rules.specs.World.{Surface, Submission, is_waiting, is_active, is_on}
use Rattle.vz_rules.specs.Settle.{after_round}
use Rattle.vz_rules.specs.Kept.{KeepsStates, is_open, stands_in}
use Rattle.vz_rules.proofs.Reached.{from_same, self_same}
use Rattle.vz_rules.proofs.Members.{when_same, contains_map, contains_at, at_same, any_from, filter_has}
use Rattle.vz_rules.proofs.Counts.{count_less, one_place}
use Rattle.vz_rules.proofs.Facts.{same_either}

-- a submission changes, and is waiting or active only where it was
pub record OpensNone (f : Submission → Submission) : Type 0 where
  pub submitted : (s : Submission) → (f s).submitted ≡ s.submitted
  pub waits : (s : Submission) → is_waiting (f s) ≡ true → is_waiting s ≡ true
  pub acts : (s : Submission) → is_active (f s) ≡ true → is_active s ≡ true
  pub was : (s : Submission) → (f s).was_active ≡ s.was_active

-- some submissions are dropped
pub drops_when : (test : Submission → Bool) → OpensNone (λ s. cond (test s) (record s { state = Dropped }) s)
drops_when test =
    record {
      submitted = λ s. when_same (λ (x : Submission). x.submitted) (λ s. record s { state = Dropped }) (test s) s refl;
      waits = λ s. cond_both (test s) _ s (λ x. is_waiting x ≡ true → is_waiting s ≡ true) (λ e h. absurd (cc)) (λ e h. h);
      acts = λ s. cond_both (test s) _ s (λ x. is_active x ≡ true → is_active s ≡ true) (λ e h. absurd (cc)) (λ e h. h);
      was = λ s. when_same (λ (x : Submission). x.was_active) (λ s. record s { state = Dropped }) (test s) s refl;
    }

abbrev pub Stands : List Surface → SurfaceId → Type 0
Stands ss id = stands_in ss id ≡ true

-- it stands in a state on a surface
abbrev pub on_and : (Submission → Bool) → SurfaceId → Submission → Bool
on_and p id s = is_on id s && p s

on_before : (f : Submission → Submission) (p q : Submission → Bool) (id : SurfaceId) (s : Submission) → (f s).submitted ≡ s.submitted → (p (f s) ≡ true → q s ≡ true)
    → on_and p id (f s) ≡ true → on_and q id s ≡ true
on_before f p q id s e h k =
    let both = and_parts (is_on id (f s)) (p (f s)) k in
    and_from (is_on id s) (q s) (ap (λ i. same_surface i.id id) (sym e) ∙ both.0) (h both.1)

pub open_before : (f : Submission → Submission) → OpensNone f → (s : Submission) → is_open (f s) ≡ true → is_open s ≡ true
open_before f name s h =
    elim (or_cases (is_waiting (f s)) (is_active (f s)) h) [
      | inl e ↦ or_left (is_waiting s) (is_active s) (name.waits s e)
      | inr e ↦ or_right (is_waiting s) (is_active s) (name.acts s e)
    ]

-- where none opens and the surfaces of the open ones stand
pub states_keep : (f : Submission → Submission) (ss more : List Surface) (subs : List Submission) → OpensNone f
    → ((s : Submission) → Contains subs s → is_open (f s) ≡ true → Stands ss s.submitted.id → Stands more s.submitted.id)
    → KeepsStates ss subs → KeepsStates more (map f subs)
states_keep f ss more subs name stands h =
    record {
      one_waits = λ id. omega (arith, h.one_waits id, count_less f (on_and is_waiting id) (on_and is_waiting id) subs (λ s c. on_before f is_waiting is_waiting id s (name.submitted s) (name.waits s)));
      one_is_active = λ id. omega (arith, h.one_is_active id, count_less f (on_and is_active id) (on_and is_active id) subs (λ s c. on_before f is_active is_active id s (name.submitted s) (name.acts s)));
      waits_later = λ s t p q waits acts same.
          let a = contains_map f subs s p in
          let b = contains_map f subs t q in
          let e : s.submitted ≡ a.0.submitted = ap (λ (x : Submission). x.submitted) (sym a.2) ∙ name.submitted a.0 in
          let d : t.submitted ≡ b.0.submitted = ap (λ (x : Submission). x.submitted) (sym b.2) ∙ name.submitted b.0 in
          let later = h.waits_later a.0 b.0 a.1 b.1 (name.waits a.0 (ap is_waiting a.2 ∙ waits)) (name.acts b.0 (ap is_active b.2 ∙ acts))
          (ap (λ i. same_surface i.id b.0.submitted.id) (sym e) ∙ (ap (λ i. same_surface s.submitted.id i.id) (sym d) ∙ same)) in
          omega (arith, later, ap (λ i. i.index) e, ap (λ i. i.index) d);
      stand = λ s c o.
          let a = contains_map f subs s c in
          let e : a.0.submitted ≡ s.submitted = sym (name.submitted a.0) ∙ ap (λ (x : Submission). x.submitted) a.2 in
          let now : is_open (f a.0) ≡ true = ap is_open a.2 ∙ o in
          subst (λ i. Stands more i.id) e (stands a.0 a.1 now (h.stand a.0 a.1 (open_before f name a.0 now)));
      was_active = λ s c acts.
          let a = contains_map f subs s c in
          ap (λ (x : Submission). x.was_active) (sym a.2) ∙ (name.was a.0 ∙ h.was_active a.0 a.1 (name.acts a.0 (ap is_active a.2 ∙ acts)));
      was_not = λ s c waits.
          let a = contains_map f subs s c in
          ap (λ (x : Submission). x.was_active) (sym a.2) ∙ (name.was a.0 ∙ h.was_not a.0 a.1 (name.waits a.0 (ap is_waiting a.2 ∙ waits)));
    }

-- A round

abbrev after_by : Bool → Bool → Submission → Submission
after_by becomes past s = cond becomes (record s { state = Active; was_active = true }) (cond past (record s { state = Past }) s)

waits_by : (b u : Bool) (s : Submission) → is_waiting (after_by b u s) ≡ true → (is_waiting s ≡ true) × (b ≡ false)
waits_by true u s h = absurd (cc)
waits_by false true s h = absurd (cc)
waits_by false false s h = (h, refl)

acts_by : (b u : Bool) (s : Submission) → is_active (after_by b u s) ≡ true → (b ≡ true) ⊎ ((b ≡ false) × (u ≡ false) × (is_active s ≡ true))
acts_by true u s h = inl refl
acts_by false true s h = absurd (cc)
acts_by false false s h = inr (refl, refl, h)

was_by : (b u : Bool) (s : Submission) → (is_active s ≡ true → s.was_active ≡ true) → is_active (after_by b u s) ≡ true → (after_by b u s).was_active ≡ true
was_by true u s k h = refl
was_by false true s k h = absurd (cc)
was_by false false s k h = k h

was_not_by : (b u : Bool) (s : Submission) → (is_waiting s ≡ true → s.was_active ≡ false) → is_waiting (after_by b u s) ≡ true
    → (after_by b u s).was_active ≡ false
was_not_by true u s k h = absurd (cc)
was_not_by false true s k h = absurd (cc)
was_not_by false false s k h = k h

past_false : (a any : Bool) → (a && any) ≡ false → a ≡ true → any ≡ false
past_false true any h e = h
past_false false any h e = absurd (cc)

-- the submissions of a round, of which these are ready
module _ (becomes : Submission → Bool) (ss : List Surface) (subs : List Submission) (waits : (s : Submission) → becomes s ≡ true → is_waiting s ≡ true)
    (h : KeepsStates ss subs) where
  abbrev risen : List Submission
  risen = filter becomes subs

  abbrev after : Submission → Submission
  after s = after_round becomes risen s

  abbrev ends : Submission → Bool
  ends s = is_active s && list_any (is_on s.submitted.id) risen

  pub frame_after : (s : Submission) → (after s).submitted ≡ s.submitted
  frame_after s = same_either (λ (x : Submission). x.submitted) (becomes s) (ends s) _ _ s refl refl

  pub open_after : (s : Submission) → is_open (after s) ≡ true → is_open s ≡ true
  open_after s o =
      elim (or_cases (is_waiting (after s)) (is_active (after s)) o) [
        | inl e ↦ or_left (is_waiting s) (is_active s) (waits_by (becomes s) (ends s) s e).0
        | inr e ↦ elim (acts_by (becomes s) (ends s) s e) [
          | inl b ↦ or_left (is_waiting s) (is_active s) (waits s b)
          | inr r ↦ or_right (is_waiting s) (is_active s) r.2
        ]
      ]

  -- where one becomes active on a surface, no other one is active there
  acts_where : (id : SurfaceId) (any : Bool) → list_any (is_on id) risen ≡ any → count_by (on_and is_active id) (map after subs) ≤ 1
  acts_where id true e =
      omega (
        arith,
        h.one_waits id,
        count_less after (on_and is_active id) (on_and is_waiting id) subs (λ s c k.
            let both = and_parts (is_on id (after s)) (is_active (after s)) k in
            let on : is_on id s ≡ true = ap (λ i. same_surface i.id id) (sym (frame_after s)) ∙ both.0 in
            and_from (is_on id s) (is_waiting s) on (elim (acts_by (becomes s) (ends s) s both.1) [
              | inl b ↦ waits s b
              | inr r ↦ absurd (both_ways (list_any (is_on s.submitted.id) risen) (past_false (is_active s) _ r.1 r.2) (ap (λ x. list_any (is_on x) risen) (from_same s.submitted.id id on) ∙ e))
            ])),
      )
  acts_where id false e =
      omega (
        arith,
        h.one_is_active id,
        count_less after (on_and is_active id) (on_and is_active id) subs (λ s c k.
            let both = and_parts (is_on id (after s)) (is_active (after s)) k in
            let on : is_on id s ≡ true = ap (λ i. same_surface i.id id) (sym (frame_after s)) ∙ both.0 in
            and_from (is_on id s) (is_active s) on (elim (acts_by (becomes s) (ends s) s both.1) [
              | inl b ↦ absurd (both_ways (list_any (is_on id) risen) e (any_from (is_on id) risen s (filter_has becomes subs s c b) on))
              | inr r ↦ r.2
            ])),
      )

  acts_once : (id : SurfaceId) → count_by (on_and is_active id) (map after subs) ≤ 1
  acts_once id = acts_where id (list_any (is_on id) risen) refl

  -- one that waits on is not ready, and so none of its surface becomes active
  waits_after : (a b : Submission) → Contains subs a → Contains subs b → is_waiting (after a) ≡ true → is_active (after b) ≡ true
      → same_surface a.submitted.id b.submitted.id ≡ true → b.submitted.index < a.submitted.index
  waits_after a b p q waiting active same =
      let w = waits_by (becomes a) (ends a) a waiting in
      elim (acts_by (becomes b) (ends b) b active) [
        | inl e ↦
            let n = contains_at subs a p in
            let m = contains_at subs b q in
            let id = b.submitted.id in
            let place = one_place (on_and is_waiting id) subs n.0 m.0 a b (h.one_waits id) n.1 m.1 (and_from (is_on id a) (is_waiting a) same w.0)
            (and_from (is_on id b) (is_waiting b) (self_same id) (waits b e)) in
            let one : a ≡ b = at_same subs n.0 m.0 a b n.1 m.1 place in
            absurd (both_ways (becomes a) w.1 (ap becomes one ∙ e))
        | inr r ↦ h.waits_later a b p q w.0 r.2 same
      ]

  pub states_round : KeepsStates ss (map after subs)
  states_round =
      record {
        one_waits = λ id. omega (
          arith,
          h.one_waits id,
          count_less after (on_and is_waiting id) (on_and is_waiting id) subs
              (λ s c. on_before after is_waiting is_waiting id s (frame_after s) (λ e. (waits_by (becomes s) (ends s) s e).0)),
        );
        one_is_active = acts_once;
        waits_later = λ s t p q waiting active same.
            let a = contains_map after subs s p in
            let b = contains_map after subs t q in
            let e : s.submitted ≡ a.0.submitted = ap (λ (x : Submission). x.submitted) (sym a.2) ∙ frame_after a.0 in
            let d : t.submitted ≡ b.0.submitted = ap (λ (x : Submission). x.submitted) (sym b.2) ∙ frame_after b.0 in
            let later = waits_after a.0 b.0 a.1 b.1 (ap is_waiting a.2 ∙ waiting) (ap is_active b.2 ∙ active)
            (ap (λ i. same_surface i.id b.0.submitted.id) (sym e) ∙ (ap (λ i. same_surface s.submitted.id i.id) (sym d) ∙ same)) in
            omega (arith, later, ap (λ i. i.index) e, ap (λ i. i.index) d);
        stand = λ s c o.
            let a = contains_map after subs s c in
            let e : a.0.submitted ≡ s.submitted = sym (frame_after a.0) ∙ ap (λ (x : Submission). x.submitted) a.2 in
            subst (λ i. Stands ss i.id) e (h.stand a.0 a.1 (open_after a.0 (ap is_open a.2 ∙ o)));
        was_active = λ s c active.
            let a = contains_map after subs s c in
            ap (λ (x : Submission). x.was_active) (sym a.2) ∙ was_by (becomes a.0) (ends a.0) a.0 (h.was_active a.0 a.1) (ap is_active a.2 ∙ active);
        was_not = λ s c waiting.
            let a = contains_map after subs s c in
            ap (λ (x : Submission). x.was_active) (sym a.2) ∙ was_not_by (becomes a.0) (ends a.0) a.0 (h.was_not a.0 a.1) (ap is_waiting a.2 ∙ waiting);
      }

-- where the surfaces alone change, and those of the open ones stand on
pub states_of_surfaces : (ss more : List Surface) (subs : List Submission) → ((id : SurfaceId) → Stands ss id → Stands more id) → KeepsStates ss subs
    → KeepsStates more subs
states_of_surfaces ss more subs stands h =
    record {
      one_waits = h.one_waits;
      one_is_active = h.one_is_active;
      waits_later = h.waits_later;
      stand = λ s c o. stands s.submitted.id (h.stand s c o);
      was_active = h.was_active;
      was_not = h.was_not;
    }
