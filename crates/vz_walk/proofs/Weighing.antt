-- Weights, as one visit more is met.
use Rattle.std.proofs.Common.{◌≡◌, ℕ, ◌+◌, ◌<◌, ◌≤◌, Bool, true, false, ◌||◌, nat_lt, nat_le, cond, not, List, [], ◌∷◌, ◌++◌, refl, subst}
use Rattle.std.proofs.Common.{sym, ap, ◌∙◌, arith}
use Rattle.std.specs.List.{list_any}
use Rattle.std.proofs.lemmas.Bool.Decides.{nat_tests}
use Rattle.std.proofs.lemmas.List.{append-nil}
use Rattle.std.proofs.lemmas.List.Folds.{list_any-append}
use Rattle.std.proofs.lemmas.List.Sums.{sum_by-append}
use Rattle.vz_rules.specs.Walk.{Visit, Quad, weight, is_quad, is_deep, too_much}
use Rattle.vz_walk.specs.Meeting.{Meets}
use Rattle.vz_walk.specs.Weighing.{IsWeighed, IsHeavy}

or_parts : (a b : Bool) → (a || b) ≡ false → (a ≡ false) × (b ≡ false)
or_parts true b e = absurd (cc)
or_parts false b e = (refl, e)

or_true : (t : Bool) → (t || true) ≡ true
or_true true = refl
or_true false = refl

weight_append : (xs ys : List Visit) → weight (xs ++ ys) ≡ weight xs + weight ys
unfolding weight
weight_append xs ys = sum_by-append (λ m. cond (is_quad m) 1 0) xs ys

light : (n : ℕ) (deep : Bool) → n ≤ 65536 → deep ≡ false → (nat_lt 65536 n || deep) ≡ false
light n deep few e = ap (λ t. nat_lt 65536 n || t) e ∙ (ap (λ t. t || false) (few_is n few) ∙ refl)
  where
    few_is : (n : ℕ) → n ≤ 65536 → nat_lt 65536 n ≡ false
    few_is n h = grind (arith, nat_tests)

heavy : (n : ℕ) (deep : Bool) → 65536 < n → (nat_lt 65536 n || deep) ≡ true
heavy n deep many = ap (λ t. t || deep) (many_is n many)
  where
    many_is : (n : ℕ) → 65536 < n → nat_lt 65536 n ≡ true
    many_is n h = grind (arith, nat_tests)

-- nothing is met
pub weighed_none : IsWeighed 0 []
unfolding weight too_much
weighed_none = record { quads = refl; few = refl }

one_quad : (xs : List Visit) → weight (xs ++ Quad ∷ []) ≡ weight xs + 1
unfolding weight
one_quad xs = sum_by-append (λ m. cond (is_quad m) 1 0) xs (Quad ∷ [])

still : (xs : List Visit) (x : Visit) → is_deep x ≡ false → list_any is_deep xs ≡ false → list_any is_deep (xs ++ x ∷ []) ≡ false
still xs x e f = list_any-append is_deep xs (x ∷ []) ∙ (ap (λ t. t || (is_deep x || false)) f ∙ ap (λ t. t || false) e)

-- a quad more, below the limit
pub weighed_quad : (n : ℕ) (xs : List Visit) → n < 65536 → IsWeighed n xs → IsWeighed (n + 1) (xs ++ Quad ∷ [])
unfolding too_much
weighed_quad n xs few h =
    let count : n + 1 ≡ weight (xs ++ Quad ∷ []) = ap (λ m. m + 1) h.quads ∙ sym (one_quad xs) in
    record {
      quads = count;
      few = light (weight (xs ++ Quad ∷ [])) (list_any is_deep (xs ++ Quad ∷ [])) (let same = h.quads in omega (arith, count, few))
          (still xs Quad refl (or_parts _ _ h.few).1);
    }

-- and at the limit
pub heavy_quad : (n : ℕ) (xs : List Visit) → 65536 ≤ n → IsWeighed n xs → IsHeavy (xs ++ Quad ∷ [])
unfolding too_much
heavy_quad n xs many h =
    let count : n + 1 ≡ weight (xs ++ Quad ∷ []) = ap (λ m. m + 1) h.quads ∙ sym (one_quad xs) in
    heavy (weight (xs ++ Quad ∷ [])) (list_any is_deep (xs ++ Quad ∷ [])) (omega (arith, count, many))

none : (x : Visit) → is_quad x ≡ false → weight (x ∷ []) ≡ 0
unfolding weight
none x e = ap {B = ℕ} (λ (t : Bool). 0 + cond t 1 0) e

no_quad : (xs : List Visit) (x : Visit) → is_quad x ≡ false → weight (xs ++ x ∷ []) ≡ weight xs
no_quad xs x e = weight_append xs (x ∷ []) ∙ (ap (λ n. weight xs + n) (none x e) ∙ same (weight xs))
  where
    same : (n : ℕ) → n + 0 ≡ n
    same n = omega arith

-- a visit that is no quad and not deep
pub weighed_other : (n : ℕ) (xs : List Visit) (x : Visit) → is_quad x ≡ false → is_deep x ≡ false → IsWeighed n xs
    → IsWeighed n (xs ++ x ∷ [])
unfolding too_much
weighed_other n xs x e f h =
    record {
      quads = h.quads ∙ sym (no_quad xs x e);
      few = ap (λ m. nat_lt 65536 m || list_any is_deep (xs ++ x ∷ [])) (no_quad xs x e)
          ∙ (ap (λ t. nat_lt 65536 (weight xs) || t) (still xs x f (or_parts _ _ h.few).1
          ∙ sym (or_parts (nat_lt 65536 (weight xs)) _ h.few).1) ∙ h.few);
    }

-- one that is deep
pub heavy_deep : (xs : List Visit) (x : Visit) → is_deep x ≡ true → IsHeavy (xs ++ x ∷ [])
unfolding too_much
heavy_deep xs x e =
    ap (λ t. nat_lt 65536 (weight (xs ++ x ∷ [])) || t) (list_any-append is_deep xs (x ∷ [])
    ∙ (ap (λ t. list_any is_deep xs || (t || false)) e ∙ or_true (list_any is_deep xs)))
    ∙ or_true (nat_lt 65536 (weight (xs ++ x ∷ [])))

or_front : (a b c d : Bool) → (a ≡ true → c ≡ true) → (b ≡ true → d ≡ true) → (a || b) ≡ true → (c || d) ≡ true
or_front true b c d f g h = ap (λ t. t || d) (f refl)
or_front false true c d f g h = ap (λ t. c || t) (g refl) ∙ or_true c
or_front false false c d f g h = absurd (cc)

heavier : (a b : ℕ) → nat_lt 65536 a ≡ true → nat_lt 65536 (a + b) ≡ true
heavier a b h = grind (arith, nat_tests)

-- what begins with too much is too much
pub heavy_front : (xs ys all : List Visit) → xs ++ ys ≡ all → IsHeavy xs → too_much all ≡ true
unfolding too_much
heavy_front xs ys all e h =
    ap (λ l. nat_lt 65536 (weight l) || list_any is_deep l) (sym e)
    ∙ or_front _ _ _ _ (λ k. ap (nat_lt 65536) (weight_append xs ys)
    ∙ heavier (weight xs) (weight ys) k) (λ k. list_any-append is_deep xs ys ∙ ap (λ t. t || list_any is_deep ys) k) h

-- A weigher

pub deep_enough : (depth : ℕ) → nat_le depth 64 ≡ not (nat_lt 64 depth)
deep_enough depth = grind (arith, nat_tests)

module _ {V : Type 0} (quads : V → ℕ) where
  abbrev Has : V → V → List Visit → Type 0
  Has first v visits = IsWeighed (quads v) visits

  abbrev Stops : V → List Visit → Type 0
  Stops v visits = IsHeavy visits

  -- it counts a quad
  pub counts : (old new : V) → quads old < 65536 → quads new ≡ quads old + 1 → Meets Has Stops true old new (Quad ∷ [])
  counts old new few e = record {
    all = λ first before on h. subst (λ n. IsWeighed n (before ++ Quad ∷ [])) (sym e) (weighed_quad (quads old) before few h);
    some = λ first before off h. absurd (cc);
  }

  -- it stops at a quad
  pub stops_at : (old new : V) → 65536 ≤ quads old → Meets Has Stops false old new (Quad ∷ [])
  stops_at old new many = record {
    all = λ first before on h. absurd (cc);
    some = λ first before off h. record {
      front = before ++ Quad ∷ [];
      back = [];
      splits = append-nil
          (before ++ Quad ∷ []);
      there = heavy_quad (quads old) before many h;
    };
  }

  -- a range counts nothing, nor does a surface
  pub passes : (r : Bool) (v : V) (x : Visit) → is_quad x ≡ false → r ≡ not (is_deep x) → Meets Has Stops r v v (x ∷ [])
  passes r v x other e = record {
    all = λ first before on h. weighed_other (quads v) before x other (not_true (is_deep x) (sym e ∙ on)) h;
    some = λ first before off h. record {
      front = before ++ x ∷ [];
      back = [];
      splits = append-nil
          (before ++ x ∷ []);
      there = heavy_deep before x (not_false (is_deep x) (sym e ∙ off));
    };
  }
    where
      not_true : (t : Bool) → not t ≡ true → t ≡ false
      not_true false e = refl
      not_true true e = absurd (cc)

      not_false : (t : Bool) → not t ≡ false → t ≡ true
      not_false true e = refl
      not_false false e = absurd (cc)

  -- the weight of all
  pub weighs : (old new : V) (all : List Visit) → quads old ≡ 0 → Meets Has Stops true old new all → IsWeighed (quads new) all
  weighs old new all e h = h.all old [] refl (subst (λ n. IsWeighed n []) (sym e) weighed_none)

  -- too much
  pub is_heavy : (old new : V) (all : List Visit) → quads old ≡ 0 → Meets Has Stops false old new all → too_much all ≡ true
  is_heavy old new all e h =
      let s = h.some old [] refl (subst (λ n. IsWeighed n []) (sym e) weighed_none) in
      heavy_front s.front s.back all s.splits s.there
