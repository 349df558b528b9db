-- Between two submissions of a surface nothing changes where no damage between them reaches.
use Rattle.std.proofs.Common.{◌≡◌, ℕ, zero, suc, ◌+◌, ◌-◌, ◌<◌, ◌≤◌, Bool, true, false, ◌&&◌, inl, inr, Some, List, [], ◌∷◌, take, refl, ap, sym, ◌∙◌, arith, cond, slice_get, Contains, count_by}
use Rattle.std.specs.Prelude.{nat_lt, nat_le}
use Rattle.std.proofs.lemmas.Bool.{and_parts, and_from, cases_order, ltb-true, leb-true, lt-ltb, le-leb}
use Rattle.vz_geom.specs.declared.Point.{Point}
use Rattle.vz_geom.specs.Rectangle.{has, sized}
use Rattle.vz_ids.specs.declared.SurfaceId.{SurfaceId}
use Rattle.vz_ids.specs.Ids.{same_surface}
use Rattle.vz_frame.specs.Frame.{frame_size, root_damage}
use Rattle.vz_rules.specs.World.{FrameData}
use Rattle.vz_rules.specs.Damage.{is_between}
use Rattle.vz_rules.specs.Trace.{trace, AreHonest}
use Rattle.vz_rules.proofs.Members.{contains_at, at_contains, at_same}
use Rattle.vz_rules.proofs.Counts.{count_cons, count_at, count_before}
use Rattle.vz_rules.proofs.Reached.{from_same, self_same}

-- Places

-- the place of the next one after so many that pass
place_by : {A : Type 0} (p : A → Bool) (y : A) (ys : List A) (t : Bool) → p y ≡ t
    → ((k : ℕ) → k < count_by p ys → (n : ℕ) × (x : A) × (slice_get ys n ≡ Some x) × (p x ≡ true) × (count_by p (take n ys) ≡ k))
    → (k : ℕ) → k < count_by p (y ∷ ys)
    → (n : ℕ) × (x : A) × (slice_get (y ∷ ys) n ≡ Some x) × (p x ≡ true) × (count_by p (take n (y ∷ ys)) ≡ k)
place_by p y ys true e rest zero l = (0, y, refl, e, refl)
place_by p y ys true e rest (suc k) l =
    let one : ◌≡◌ {A = ℕ} (cond (p y) 1 0) 1 = rw e refl in
    let r = rest k (omega (arith, l, one, count_cons p y ys)) in
    (suc r.0, r.1, r.2, r.3, omega (arith, r.4, one, count_cons p y (take r.0 ys)))
place_by p y ys false e rest k l =
    let none : ◌≡◌ {A = ℕ} (cond (p y) 1 0) 0 = rw e refl in
    let r = rest k (omega (arith, l, none, count_cons p y ys)) in
    (suc r.0, r.1, r.2, r.3, omega (arith, r.4, none, count_cons p y (take r.0 ys)))

pub place_of : {A : Type 0} (p : A → Bool) (xs : List A) (k : ℕ) → k < count_by p xs
    → (n : ℕ) × (x : A) × (slice_get xs n ≡ Some x) × (p x ≡ true) × (count_by p (take n xs) ≡ k)
place_of p [] k l = absurd (omega (arith, l))
place_of p (y ∷ ys) k l = place_by p y ys (p y) refl (place_of p ys) k l

-- Numbers

abbrev pub on_surface : SurfaceId → FrameData → Bool
on_surface id i = same_surface i.id id

-- what was accepted: numbers in order on each surface, and one size
pub record IsAccepted (active : List FrameData) : Type 0 where
  pub numbered : (n : ℕ) (i : FrameData) → slice_get active n ≡ Some i → i.index ≡ count_by (on_surface i.id) (take n active) + 1
  pub sizes : (i j : FrameData) → Contains active i → Contains active j → same_surface i.id j.id ≡ true → frame_size i.frame ≡ frame_size j.frame

number_on : (active : List FrameData) → IsAccepted active → (n : ℕ) (i : FrameData) (id : SurfaceId) → slice_get active n ≡ Some i → i.id ≡ id
    → i.index ≡ count_by (on_surface id) (take n active) + 1
number_on active h n i id at e = h.numbered n i at ∙ ap (λ s. count_by (on_surface s) (take n active) + 1) e

-- one number on one surface is one frame
pub one_of_index : (active : List FrameData) → IsAccepted active → (i j : FrameData) → Contains active i → Contains active j → same_surface i.id j.id ≡ true → i.index ≡ j.index → i ≡ j
one_of_index active h i j p q same e =
    let n = contains_at active i p in
    let m = contains_at active j q in
    let id = from_same i.id j.id same in
    let ni = number_on active h n.0 i j.id n.1 id in
    let nj = number_on active h m.0 j j.id m.1 refl in
    elim (cases_order n.0 m.0) [
      | inl k ↦ at_same active n.0 m.0 i j n.1 m.1 k
      | inr r ↦ elim r [
        | inl l ↦ absurd (omega (arith, e, ni, nj, count_before (on_surface j.id) active n.0 m.0 i n.1 same l))
        | inr l ↦ absurd (omega (arith, e, ni, nj, count_before (on_surface j.id) active m.0 n.0 j m.1 (self_same j.id) l))
      ]
    ]

-- a frame on the surface of j with this number
abbrev IsNumber : List FrameData → FrameData → ℕ → FrameData → Type 0
IsNumber active j k u = Contains active u × (u.id ≡ j.id) × (u.index ≡ k)

-- each number from that of an earlier one up to that of a later one is taken
number_taken : (active : List FrameData) → IsAccepted active → (i j : FrameData) → Contains active i → Contains active j → same_surface i.id j.id ≡ true → (d : ℕ)
    → j.index ≡ i.index + suc d
    → (u : FrameData) × IsNumber active j (i.index + d) u
number_taken active h i j p q same d e =
    let n = contains_at active i p in
    let m = contains_at active j q in
    let ni = number_on active h n.0 i j.id n.1 (from_same i.id j.id same) in
    let nj = number_on active h m.0 j j.id m.1 refl in
    let r = place_of (on_surface j.id) active (count_by (on_surface j.id) (take n.0 active) + d)
    (omega (arith, e, ni, nj, count_at (on_surface j.id) active m.0 j m.1 (self_same j.id))) in
    let id = from_same r.1.id j.id r.3 in
    (r.1, (at_contains active r.0 r.1 r.2, id, omega (arith, ni, r.4, number_on active h r.0 r.1 j.id r.2 id)))

-- Between

between_parts : (from : ℕ) (i j : FrameData) → is_between from i j ≡ true → (same_surface j.id i.id ≡ true) × (from < j.index) × (j.index ≤ i.index)
between_parts from i j h =
    let last = and_parts (same_surface j.id i.id && nat_lt from j.index) (nat_le j.index i.index) h in
    let first = and_parts (same_surface j.id i.id) (nat_lt from j.index) last.0 in
    (first.0, ltb-true from j.index first.1, leb-true j.index i.index last.1)

between_from : (from : ℕ) (i j : FrameData) → same_surface j.id i.id ≡ true → from < j.index → j.index ≤ i.index → is_between from i j ≡ true
between_from from i j same l m =
    and_from (same_surface j.id i.id && nat_lt from j.index) (nat_le j.index i.index)
    (and_from (same_surface j.id i.id) (nat_lt from j.index) same (lt-ltb from j.index l)) (le-leb j.index i.index m)

-- no damage after one number up to that of a frame reaches the point
abbrev pub NoneReaches : List FrameData → Point → ℕ → FrameData → Type 0
NoneReaches active l from j = (u : FrameData) → Contains active u → is_between from j u ≡ true → has (root_damage u.frame) l ≡ false

module _ (active : List FrameData) (h : IsAccepted active) (honest : AreHonest active) (l : Point) where
  -- the next one does not change the point
  next_same : (u j : FrameData) → Contains active u → Contains active j → u.id ≡ j.id → j.index ≡ u.index + 1 → has (sized (frame_size j.frame)) l ≡ true
      → has (root_damage j.frame) l ≡ false
      → trace u l ≡ trace j l
  next_same u j p q id e inside misses =
      let n = contains_at active u p in
      let m = contains_at active j q in
      honest n.0 m.0 u j n.1 m.1 (ap (λ s. same_surface s j.id) id ∙ self_same j.id) e l inside misses

  between_by : (d : ℕ) (i j : FrameData) → Contains active i → Contains active j → same_surface i.id j.id ≡ true → j.index ≡ i.index + d → has (sized (frame_size j.frame)) l ≡ true
      → NoneReaches active l i.index j → trace i l ≡ trace j l
  between_by zero i j p q same e inside none = ap (λ u. trace u l) (one_of_index active h i j p q same (omega (arith, e)))
  between_by (suc d) i j p q same e inside none =
      let r = number_taken active h i j p q same d e in
      let u : FrameData = r.0 in
      let there : IsNumber active j (i.index + d) u = r.1 in
      let on_u : same_surface i.id u.id ≡ true = ap (same_surface i.id) there.1 ∙ same in
      let size : frame_size u.frame ≡ frame_size j.frame = h.sizes u j there.0 q (ap (λ s. same_surface s j.id) there.1 ∙ self_same j.id) in
      between_by d i u p there.0 on_u there.2 (ap (λ s. has (sized s) l) size ∙ inside)
      (λ v c b.
      let parts = between_parts i.index u v b in
      none v c (between_from i.index j v (ap (same_surface v.id) (sym there.1) ∙ parts.0) parts.1 (omega (arith, parts.2, there.2, e))))
      ∙ next_same u j there.0 q there.1 (omega (arith, there.2, e)) inside
      (none j q (between_from i.index j j (self_same j.id) (omega (arith, e)) (omega arith)))

  -- an earlier frame and a later one of its surface draw the same where no damage between them reaches
  pub same_between : (i j : FrameData) → Contains active i → Contains active j → same_surface i.id j.id ≡ true → i.index ≤ j.index → has (sized (frame_size j.frame)) l ≡ true
      → NoneReaches active l i.index j → trace i l ≡ trace j l
  same_between i j p q same le inside none = between_by (j.index - i.index) i j p q same (omega (arith, le)) inside none
