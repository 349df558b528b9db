-- Two visitors of one walk.
use Rattle.std.proofs.Common.{◌≡◌, ℕ, Bool, true, false, List, [], ◌++◌, sym, ◌∙◌, subst}
use Rattle.vz_rules.specs.Walk.{Visit, too_much}
use Rattle.vz_walk.specs.Meeting.{Meets}
use Rattle.vz_walk.specs.Weighing.{IsWeighed, IsHeavy}
use Rattle.vz_walk.proofs.Weighing.{heavy_front, weighed_none}

unlike : {P : Type 0} (t : Bool) → t ≡ true → t ≡ false → P
unlike true e f = absurd (cc)
unlike false e f = absurd (cc)

module _ {V A B : Type 0} (first_met : A → A → List Visit → Type 0) (first_stops : A → List Visit → Type 0)
    (second_met : B → B → List Visit → Type 0) (second_stops : B → List Visit → Type 0)
    (one : V → A) (two : V → B) (by_first : V → Bool) where
  abbrev Has : V → V → List Visit → Type 0
  Has start v visits = first_met (one start) (one v) visits × second_met (two start) (two v) visits × (by_first v ≡ false)

  abbrev Stops : V → List Visit → Type 0
  Stops v visits = (by_first v ≡ true → first_stops (one v) visits) × (by_first v ≡ false → second_stops (two v) visits)

  -- the first one stops
  pub stops_first : (r : Bool) (old new : V) (xs : List Visit) → r ≡ false → by_first new ≡ true
      → Meets first_met first_stops r (one old) (one new) xs → Meets Has Stops false old new xs
  stops_first r old new xs off by h = record {
    all = λ start before e k. absurd (cc);
    some = λ start before e k.
        let s = h.some (one start) before off k.0 in
        record { front = s.front; back = s.back; splits = s.splits; there = (λ t. s.there, λ f. unlike (by_first new) by f) };
  }

  -- it goes on, and the second one answers
  pub meets_second : (r s : Bool) (old new : V) (xs : List Visit) → r ≡ true → by_first new ≡ by_first old
      → Meets first_met first_stops r (one old) (one new) xs → Meets second_met second_stops s (two old) (two new) xs
      → Meets Has Stops s old new xs
  meets_second r s old new xs on by h i = record {
    all = λ start before e k. (h.all (one start) before on k.0, i.all (two start) before e k.1, by ∙ k.2);
    some = λ start before e k.
        let t = i.some (two start) before e k.1 in
        record {
          front = t.front;
          back = t.back;
          splits = t.splits;
          there = (λ u. unlike (by_first new) u (by ∙ k.2), λ f. t.there);
        };
  }

-- A weigher first

module _ {V B : Type 0} (quads : V → ℕ) (second_met : B → B → List Visit → Type 0) (second_stops : B → List Visit → Type 0)
    (two : V → B) (by_first : V → Bool) where
  abbrev Weighs : V → V → List Visit → Type 0
  Weighs start v visits = IsWeighed (quads v) visits × second_met (two start) (two v) visits × (by_first v ≡ false)

  abbrev Ends : V → List Visit → Type 0
  Ends v visits = (by_first v ≡ true → IsHeavy visits) × (by_first v ≡ false → second_stops (two v) visits)

  begins : (v : V) → quads v ≡ 0 → by_first v ≡ false → second_met (two v) (two v) [] → Weighs v v []
  begins v none on met = (subst (λ n. IsWeighed n []) (sym none) weighed_none, met, on)

  -- it did not stop: that is not too much, and the other one met all
  pub is_light : (r : Bool) (old new : V) (all : List Visit) → r ≡ true → quads old ≡ 0 → by_first old ≡ false
      → second_met (two old) (two old) [] → Meets Weighs Ends r old new all → too_much all ≡ false
  is_light r old new all e none on met h = (h.all old [] e (begins old none on met)).0.few

  pub other_met : (r : Bool) (old new : V) (all : List Visit) → r ≡ true → quads old ≡ 0 → by_first old ≡ false
      → second_met (two old) (two old) [] → Meets Weighs Ends r old new all → second_met (two old) (two new) all
  other_met r old new all e none on met h = (h.all old [] e (begins old none on met)).1

  -- it stopped: that is too much
  pub is_heavy_first : (r : Bool) (old new : V) (all : List Visit) → r ≡ false → quads old ≡ 0 → by_first old ≡ false
      → second_met (two old) (two old) [] → by_first new ≡ true → Meets Weighs Ends r old new all → too_much all ≡ true
  is_heavy_first r old new all e none on met by h =
      let s = h.some old [] e (begins old none on met) in
      heavy_front s.front s.back all s.splits (s.there.0 by)
