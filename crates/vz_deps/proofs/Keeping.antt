-- What is kept of the lacks where one of them goes, and where some are added.
use Rattle.std.proofs.Common.{◌≡◌, ℕ, ◌+◌, ◌-◌, ◌≤◌, ◌<◌, Bool, true, false, ◌==◌, ◌&&◌, cond, nat_lt, nat_eq, Option, Some, None, zero, suc, List, [], ◌∷◌, ◌++◌, length, refl, ap, sym, subst, inl, inr, ◌||◌, ◌∙◌, arith, min, vec_capacity, option_to_list}
use Rattle.std.specs.Map.{lookup, set_value}
use Rattle.std.specs.Option.{option_map}
use Rattle.std.proofs.Math.Nat.{min-le_left, min-le_right, min-eq_left, min-eq_right}
use Rattle.std.proofs.lemmas.Bool.Decides.{nat_tests}
use Rattle.vz_ids.specs.declared.SurfaceId.{SurfaceId}
use Rattle.vz_deps.specs.declared.bunches.Lack.{Lack}
use Rattle.vz_deps.specs.declared.bunches.Seat.{Seat}
use Rattle.vz_deps.specs.declared.bunches.Bunches.{Bunches}
use Rattle.vz_deps.specs.declared.lacks.Count.{Count}
use Rattle.vz_deps.specs.declared.lacks.Lacks.{Lacks}
use Rattle.vz_deps.specs.Bunching.{same_lack, bunch_of, Stands}
use Rattle.vz_deps.specs.Placing.{bunch_for}
use Rattle.vz_deps.specs.Lacking.{on_in, count_in, bunches_for, is_done, is_in, unready, lacks_of, IsKept, HasSame, HasSameSeats, IsLowered, noted, IsCleared}
use Rattle.vz_deps.proofs.Same.{either, pick_yes, pick_no, some_same, none_some, from_lack, own_lack, from_number}

-- Counts

first_one : {X : Type 0} (o n m : ℕ) (x y : X) (rest : List X) → 0 < n → m ≡ n
    → length (cond (n - 1 == 0) (o ∷ []) []) + length (cond (nat_lt 0 (n - 1)) (x ∷ rest) rest) ≡ length (cond (nat_lt 0 m) (y ∷ rest) rest)
first_one o n m x y rest k e = grind (arith, nat_tests, either)

later_one : {X : Type 0} (n : ℕ) (t : Bool) (x : X) (xs ys : List X) → n + length xs ≡ length ys → n + length (cond t (x ∷ xs) xs) ≡ length (cond t (x ∷ ys) ys)
later_one n true x xs ys h = omega (arith, h)
later_one n false x xs ys h = h

pub unready_lower : (o : ℕ) (c : Count) (es : List (ℕ × Count)) → lookup (nat_eq o) es ≡ Some c → 0 < c.unmet
    → length (noted o (c.unmet - 1)) + length (unready (set_value (nat_eq o) es (record c { unmet = c.unmet - 1 }))) ≡ length (unready es)
unfolding noted unready
unready_lower o c [] h k = absurd (cc)
unready_lower o c (e ∷ es) h k = grind (arith, nat_tests, unready_lower o c es, first_one, some_same, later_one)

pub noted_last : (o n : ℕ) → n ≡ 0 → noted o n ≡ o ∷ []
unfolding noted
noted_last o n h = ap (λ n. cond (n == 0) (o ∷ []) []) h

pub noted_none : (o n : ℕ) → (n ≡ 0 → ⊥) → noted o n ≡ []
unfolding noted
noted_none o n h = grind (arith, nat_tests, either, from_number n 0, pick_no)

-- one that lacks something is among those
pub one_unready : (o : ℕ) (c : Count) (es : List (ℕ × Count)) → lookup (nat_eq o) es ≡ Some c → 0 < c.unmet → 0 < length (unready es)
unfolding unready
one_unready o c [] h k = absurd (cc)
one_unready o c (e ∷ es) h k = grind (arith, nat_tests, one_unready o c es, some_same)

pub more_length : (xs : List ℕ) (x : ℕ) → length (xs ++ x ∷ []) ≡ length xs + 1
more_length [] x = omega arith
more_length (y ∷ xs) x = let rest = more_length xs x in omega (arith, rest)

pub joined_length : {X : Type 0} (xs ys : List X) → length (xs ++ ys) ≡ length xs + length ys
joined_length [] ys = omega arith
joined_length (x ∷ xs) ys = let rest = joined_length xs ys in omega (arith, rest)

-- Tests

and_yes : (t : Bool) → (false || (t && true)) ≡ t
and_yes true = refl
and_yes false = refl

or_no : (t s : Bool) → (t || (s && false)) ≡ t
or_no true s = refl
or_no false true = refl
or_no false false = refl

two_false : (t s : Bool) → s ≡ false → (t && s) ≡ false
two_false true s h = h
two_false false s h = refl

-- Which are noted

in_joined : (o : ℕ) (xs ys : List ℕ) → is_in o (xs ++ ys) ≡ (is_in o xs || is_in o ys)
unfolding is_in
in_joined o [] ys = refl
in_joined o (x ∷ xs) ys = grind (arith, nat_tests, in_joined o xs ys)

in_noted : (o p n : ℕ) → is_in o (noted p n) ≡ ((n == 0) && nat_eq o p)
unfolding is_in noted
in_noted o p n = grind (arith, nat_tests)

-- What a submission lacks, where one lack is gone

module _ (on on' : Lack → Option SurfaceId) (x : Lack) (gone : (y : Lack) → on' y ≡ cond (same_lack x y) None (on y)) where
  abbrev of_it : ℕ → ℕ → Lack
  of_it o n = record { order = o; nth = n }

  stays : (y : Lack) → same_lack x y ≡ false → on' y ≡ on y
  stays y h = gone y ∙ pick_no _ _ _ h

  others_lacks : (o n : ℕ) → nat_eq x.order o ≡ false → lacks_of on' o n ≡ lacks_of on o n
  unfolding lacks_of
  others_lacks o zero h = refl
  others_lacks o (suc n) h = (λ i. others_lacks o n h i ++ option_to_list (stays (of_it o n) (ap (λ t. t && (x.nth == n)) h) i))

  before_it : (n : ℕ) → n ≤ x.nth → lacks_of on' x.order n ≡ lacks_of on x.order n
  unfolding lacks_of
  before_it zero h = refl
  before_it (suc n) h = grind (arith, nat_tests, before_it n, stays, two_false)

  one_fewer : (d : SurfaceId) → on x ≡ Some d → (n : ℕ) → x.nth < n → length (lacks_of on' x.order n) + 1 ≡ length (lacks_of on x.order n)
  unfolding lacks_of
  one_fewer d found zero h = absurd (omega (arith, h))
  one_fewer d found (suc n) h = grind (arith, nat_tests, either, from_number, pick_yes, own_lack, before_it, joined_length, one_fewer d found n, stays, two_false)

-- a submission with a lack lacks something
pub lacks_some : (on : Lack → Option SurfaceId) (x : Lack) (d : SurfaceId) → on x ≡ Some d → (n : ℕ) → x.nth < n → 0 < length (lacks_of on x.order n)
lacks_some on x d found n h =
    let less = one_fewer on (λ y. cond (same_lack x y) None (on y)) x (λ y. refl) d found n h in
    omega (arith, less)

-- One lack goes

module _ (a b : Lacks) (x : Lack) (d : SurfaceId) (kept : IsKept a) (found : on_in a x ≡ Some d)
    (gone : (y : Lack) → on_in b y ≡ cond (same_lack x y) None (on_in a y))
    (stands : (w : Bool) → Stands (bunches_for w b))
    (bunch : (w : Bool) (y : Lack) → bunch_of (bunches_for w b) y ≡ cond (same_lack x y) None (bunch_of (bunches_for w a) y))
    (low : IsLowered x.order a.counts.entries b.counts.entries)
    (freed : (c : Count) → count_in a x.order ≡ Some c → b.freed.items ≡ a.freed.items ++ noted x.order (c.unmet - 1))
    (few : length b.freed.items + length (unready b.counts.entries) ≡ length a.freed.items + length (unready a.counts.entries))
    (places : vec_capacity b.freed ≡ vec_capacity a.freed) where
  -- its count
  abbrev its : (c : Count) × (count_in a x.order ≡ Some c) × (x.nth < c.all)
  its = kept.within x d found

  pub its_unmet : 0 < its.0.unmet
  its_unmet =
      let some = lacks_some (on_in a) x d found its.0.all its.2 in
      let is = kept.counted x.order its.0 its.1 in
      omega (arith, some, is)

  abbrev fewer_count : Count
  fewer_count = record its.0 { unmet = its.0.unmet - 1 }

  count_now : (o : ℕ) → count_in b o ≡ cond (nat_eq x.order o) (Some fewer_count) (count_in a o)
  count_now o = low.1 its.0 its.1 o

  left_there : (y : Lack) (e : SurfaceId) → on_in b y ≡ Some e → (same_lack x y ≡ false) × (on_in a y ≡ Some e)
  left_there y e h = grind (arith, nat_tests, either (same_lack x y), none_some e (on_in b y), pick_yes, pick_no)

  listed_now : (w : Bool) (y : Lack) → bunch_of (bunches_for w b) y ≡ option_map (bunch_for w) (on_in b y)
  listed_now w y = grind (arith, nat_tests)

  within_now : (y : Lack) (e : SurfaceId) → on_in b y ≡ Some e → (c : Count) × (count_in b y.order ≡ Some c) × (y.nth < c.all)
  within_now y e h =
      let was = kept.within y e (left_there y e h).1 in
      elim (either (nat_eq x.order y.order)) [
        | inl k ↦
            let same : was.0 ≡ its.0 = some_same was.0 its.0 (sym was.1 ∙ ap (count_in a) (sym (from_number x.order y.order k)) ∙ its.1) in
            (fewer_count, count_now y.order ∙ pick_yes _ _ _ k, subst (λ (c : Count). y.nth < c.all) same was.2)
        | inr k ↦ (was.0, count_now y.order ∙ pick_no _ _ _ k ∙ was.1, was.2)
      ]

  counted_now : (o : ℕ) (c : Count) → count_in b o ≡ Some c → c.unmet ≡ length (lacks_of (on_in b) o c.all)
  counted_now o c h =
      elim (either (nat_eq x.order o)) [
        | inl k ↦
            let at : x.order ≡ o = from_number x.order o k in
            let is : fewer_count ≡ c = some_same fewer_count c (sym (pick_yes _ _ _ k) ∙ sym (count_now o) ∙ h) in
            let less = one_fewer (on_in a) (on_in b) x gone d found its.0.all its.2 in
            let was = kept.counted x.order its.0 its.1 in
            let now : its.0.unmet - 1 ≡ length (lacks_of (on_in b) x.order its.0.all) = omega (arith, less, was) in
            subst (λ (c : Count). c.unmet ≡ length (lacks_of (on_in b) o c.all)) is (subst (λ o. its.0.unmet - 1 ≡ length (lacks_of (on_in b) o its.0.all)) at now)
        | inr k ↦ kept.counted o c (sym (pick_no _ _ _ k) ∙ sym (count_now o) ∙ h) ∙ sym (ap length (others_lacks (on_in a) (on_in b) x gone o c.all k))
      ]

  freed_now : (o : ℕ) → is_in o b.freed.items ≡ is_done (count_in b o)
  freed_now o = grind (arith, nat_tests, in_joined, in_noted, either, from_number, its_unmet, and_yes, count_now, pick_yes, or_no, pick_no)

  pub kept_now : IsKept b
  kept_now = grind (arith, nat_tests, listed_now, within_now, counted_now, freed_now)

  pub cleared_now : (met : SurfaceId → Bool) → met d ≡ true → (y : Lack) → IsCleared met (on_in a y) (on_in b y)
  cleared_now met m y =
      elim (either (same_lack x y)) [
        | inl k ↦ inr (d, ap (on_in a) (sym (from_lack x y k)) ∙ found, m, gone y ∙ pick_yes _ _ _ k)
        | inr k ↦ inl (gone y ∙ pick_no _ _ _ k)
      ]

  pub all_now : (o : ℕ) → option_map (λ (c : Count). c.all) (count_in b o) ≡ option_map (λ (c : Count). c.all) (count_in a o)
  all_now o = grind (arith, nat_tests, either (nat_eq x.order o), count_now o, pick_yes, from_number x.order o, pick_no)

-- Nothing but the room changes

same_stands : (a b : Bunches) → HasSameSeats a b → Stands a → Stands b
same_stands a b same h = grind (arith, nat_tests)

same_bunch_of : (a b : Bunches) → HasSameSeats a b → (x : Lack) → bunch_of b x ≡ bunch_of a x
same_bunch_of a b same x = ap (λ e. option_map (λ (s : Seat). s.bunch) (lookup (same_lack x) e)) same.seated

pub same_kept : (a b : Lacks) → HasSame a b → IsKept a → IsKept b
same_kept a b same kept = record {
  stands = λ w. stands w;
  listed = λ w x. listed w x ∙ ap (λ e. option_map (bunch_for w) (lookup (same_lack x) e)) (sym same.on);
  within = λ x d h.
      (let was = kept.within x d (sym (on x) ∙ h) in (was.0, count x.order ∙ was.1, was.2));
  counted = λ o c h. kept.counted o c (sym (count o) ∙ h) ∙ ap (λ e. length (lacks_of (λ x. lookup (same_lack x) e) o c.all)) (sym same.on);
  freed = λ o. ap (is_in o) same.freed ∙ kept.freed o ∙ ap is_done (sym (count o));
  few = (let was = kept.few in let f = ap length same.freed in let c = ap length same.counts in let u = ap (λ e. length (unready e)) same.counts in omega (arith, was, f, c, u));
  room = (let was = kept.room in let c = ap length same.counts in let p = same.places in omega (arith, was, c, p));
}
  where
    on : (x : Lack) → on_in b x ≡ on_in a x
    on x = ap (λ e. lookup (same_lack x) e) same.on

    count : (o : ℕ) → count_in b o ≡ count_in a o
    count o = ap (λ e. lookup (nat_eq o) e) same.counts

    stands : (w : Bool) → Stands (bunches_for w b)
    stands true = same_stands a.sinks b.sinks same.sinks (kept.stands true)
    stands false = same_stands a.groups b.groups same.groups (kept.stands false)

    listed : (w : Bool) (x : Lack) → bunch_of (bunches_for w b) x ≡ option_map (bunch_for w) (on_in a x)
    listed true x = same_bunch_of a.sinks b.sinks same.sinks x ∙ kept.listed true x
    listed false x = same_bunch_of a.groups b.groups same.groups x ∙ kept.listed false x

-- Nothing is lacked

pub nobody : (o : ℕ) → is_in o [] ≡ false
unfolding is_in
nobody o = refl

nobody_unready : length (unready []) ≡ 0
unfolding unready
nobody_unready = refl

pub empty_kept : (l : Lacks) → l.on.entries ≡ [] → ((w : Bool) → Stands (bunches_for w l)) → ((w : Bool) (x : Lack) → bunch_of (bunches_for w l) x ≡ None) → l.counts.entries ≡ [] → l.freed.items ≡ [] → IsKept l
empty_kept l on stands none counts freed = grind (arith, nat_tests, none_some, nobody, nobody_unready)

pub by_kind : (P : Bool → Type 0) → P false → P true → (w : Bool) → P w
by_kind P p q false = p
by_kind P p q true = q

-- Room

pub least_mono : (a b x y : ℕ) → a ≤ x → b ≤ y → min a b ≤ min x y
least_mono a b x y p q = grind (arith, nat_tests, min-le_left a b, min-le_right a b, min-eq_left, min-eq_right)

-- the room for counts and for their places
pub room_places : (a b c d e n : ℕ) → n ≤ min a (min b (min c (min d e))) → n ≤ e
room_places a b c d e n h = grind (arith, nat_tests, min-le_right a (min b (min c (min d e))), min-le_right b (min c (min d e)), min-le_right c (min d e), min-le_right d e)
