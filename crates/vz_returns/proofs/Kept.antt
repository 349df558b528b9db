-- Which submissions wait when one is opened or fed.
use Rattle.std.proofs.Common.{◌≡◌, ℕ, zero, suc, ◌+◌, Bool, true, false, not, ◌==◌, ◌&&◌, ◌||◌, List, [], ◌∷◌, ◌++◌, filter, map, insert, refl, ap, sym, ◌∙◌, arith, cond}
use Rattle.std.specs.List.{list_any, list_all}
use Rattle.std.proofs.{lemmas.Bool.Decides.nat_tests, lemmas.List.Folds.list_any-append, lemmas.Bool.eqb-true as from_eqb}
use Rattle.vz_ids.specs.{declared.Sub.Sub, Ids.same_sub}
use Rattle.vz_rules.specs.World.{Submission, sub_of}
use Rattle.vz_rules.proofs.Counts.{count_cons}
use Rattle.vz_returns.specs.Unfed.{before, in_order, is_open, place_in, opened, fed, AreUnfed, mark_of}
pub use Rattle.std.proofs.lemmas.Bool.{and_parts as both, or_parts as two_false, and_from as two_true}

same_numbers : {c c' o o' : ℕ} → c ≡ c' → o ≡ o' → ◌≡◌ {A = Sub} (record { client = c; ordinal = o }) (record { client = c'; ordinal = o' })
same_numbers p q = cc

pub from_same_sub : (a b : Sub) → same_sub a b ≡ true → a ≡ b
from_same_sub a b h = let parts = both (a.client == b.client) (a.ordinal == b.ordinal) h in same_numbers (from_eqb _ _ parts.0) (from_eqb _ _ parts.1)

in_front : (a b c : Bool) → (b || (a || c)) ≡ (a || (b || c))
in_front a b c = grind (arith, nat_tests)

opened_at : (list : List Sub) (s t : Sub) (n : ℕ) → is_open (insert list n s) t ≡ (same_sub s t || is_open list t)
opened_at [] s t zero = refl
opened_at [] s t (suc n) = refl
opened_at (x ∷ list) s t zero = refl
opened_at (x ∷ list) s t (suc n) = ap (λ b. same_sub x t || b) (opened_at list s t n) ∙ in_front (same_sub s t) (same_sub x t) (is_open list t)

pub opened_has : (list : List Sub) (s t : Sub) → is_open (opened s list) t ≡ (same_sub s t || is_open list t)
opened_has list s t = opened_at list s t (place_in list s)

not_both : (x s t : Sub) → same_sub x s ≡ false → same_sub s t ≡ true → same_sub x t ≡ false
not_both x s t other same = sym (ap (same_sub x) (from_same_sub s t same)) ∙ other

pub fed_has : (list : List Sub) (s t : Sub) → is_open (fed s list) t ≡ (not (same_sub s t) && is_open list t)
fed_has [] s t = grind (arith, nat_tests)
fed_has (x ∷ list) s t = grind (arith, nat_tests, fed_has list s t, from_same_sub x s, not_both x s t)

-- The order

over : (a b c : Sub) → before a b ≡ true → before b c ≡ true → before a c ≡ true
over a b c h k = grind (arith, nat_tests)

pub or_after : (a b : Sub) → before a b ≡ false → same_sub a b ≡ false → before b a ≡ true
or_after a b h k = grind (arith, nat_tests)

-- what one comes before, an earlier one comes before
pub all_over : (a b : Sub) (list : List Sub) → before a b ≡ true → list_all (before b) list ≡ true → list_all (before a) list ≡ true
all_over a b [] h k = refl
all_over a b (x ∷ list) h k = let parts = both (before b x) (list_all (before b) list) k in two_true _ _ (over a b x h parts.0) (all_over a b list h parts.1)

-- none comes before one that comes before all
none_before : (s : Sub) (list : List Sub) → list_all (before s) list ≡ true → place_in list s ≡ 0
none_before s [] h = refl
none_before s (x ∷ list) h = grind (arith, nat_tests, both (before s x) (list_all (before s) list) h, count_cons, none_before s list)

all_in : (a s : Sub) (list : List Sub) (n : ℕ) → before a s ≡ true → list_all (before a) list ≡ true → list_all (before a) (insert list n s) ≡ true
all_in a s [] zero h k = two_true _ _ h refl
all_in a s [] (suc n) h k = two_true _ _ h refl
all_in a s (x ∷ list) zero h k = two_true _ _ h k
all_in a s (x ∷ list) (suc n) h k = let parts = both (before a x) (list_all (before a) list) k in two_true _ _ parts.0 (all_in a s list n h parts.1)

one_more : (n : ℕ) → 1 + n ≡ suc n
one_more n = omega arith

pub opened_in_order : (list : List Sub) (s : Sub) → in_order list ≡ true → is_open list s ≡ false → in_order (opened s list) ≡ true
unfolding in_order
opened_in_order [] s sorted none = refl
opened_in_order (x ∷ list) s sorted none =
    let order = both (list_all (before x) list) (in_order list) sorted in
    let other = two_false (same_sub x s) (is_open list s) none in
    elim (before x s) as (λ (t : Bool). before x s ≡ t → in_order (opened s (x ∷ list)) ≡ true) [
      | true ↦ λ e.
          let place : place_in (x ∷ list) s ≡ suc (place_in list s) = count_cons (λ t. before t s) x list ∙ ap (λ t. cond t 1 0 + place_in list s) e ∙ one_more (place_in list s) in
          ap (λ n. in_order (insert (x ∷ list) n s)) place
          ∙ two_true _ _ (all_in x s list (place_in list s) e order.0) (opened_in_order list s order.1 other.1)
      | false ↦ λ e.
          let first : before s x ≡ true = or_after x s e other.0 in
          let all : list_all (before s) (x ∷ list) ≡ true = two_true _ _ first (all_over s x list first order.0) in
          ap (λ n. in_order (insert (x ∷ list) n s)) (none_before s (x ∷ list) all) ∙ two_true _ _ all sorted
    ] refl

all_left : (a : Sub) (p : Sub → Bool) (list : List Sub) → list_all (before a) list ≡ true → list_all (before a) (filter p list) ≡ true
all_left a p [] h = refl
all_left a p (x ∷ list) h = grind (arith, nat_tests, both (before a x) (list_all (before a) list) h, two_true, all_left a p list)

pub fed_in_order : (list : List Sub) (s : Sub) → in_order list ≡ true → in_order (fed s list) ≡ true
unfolding in_order
fed_in_order [] s sorted = refl
fed_in_order (x ∷ list) s sorted = grind (arith, nat_tests, both (list_all (before x) list) (in_order list) sorted, fed_in_order list s, two_true, all_left x)

-- The machine's state

pub accepted_unfed : (subs : List Submission) (list : List Sub) (s : Submission) → s.fed ≡ false → AreUnfed subs list → AreUnfed (subs ++ s ∷ []) (opened (sub_of s) list)
accepted_unfed subs list s new are t = grind (arith, nat_tests, opened_has list (sub_of s) t, list_any-append)

one_marked : (s : Submission) (f t : Sub) (rest : Bool) (b : Bool) → same_sub (sub_of s) f ≡ b
    → (not (same_sub f t) && ((not s.fed && same_sub (sub_of s) t) || rest)) ≡ ((not (cond b (record s { fed = true }) s).fed && same_sub (sub_of (cond b (record s { fed = true }) s)) t) || (not (same_sub f t) && rest))
one_marked s f t rest true e = grind (arith, nat_tests, from_same_sub (sub_of s) f e)
one_marked s f t rest false e = grind (arith, nat_tests, not_both (sub_of s) f t e)

pub marked_unfed : (subs : List Submission) (list : List Sub) (f : Sub) → AreUnfed subs list → AreUnfed (map (mark_of f) subs) (fed f list)
marked_unfed subs list f are t = fed_has list f t ∙ ap (λ b. not (same_sub f t) && b) (are t) ∙ each subs
  where
    each : (subs : List Submission) → (not (same_sub f t) && list_any (λ x. not x.fed && same_sub (sub_of x) t) subs) ≡ list_any (λ x. not x.fed && same_sub (sub_of x) t) (map (mark_of f) subs)
    each [] = elim (same_sub f t) as (λ (b : Bool). (not b && false) ≡ false) [ true ↦ refl | false ↦ refl ]
    each (s ∷ subs) =
        one_marked s f t (list_any (λ x. not x.fed && same_sub (sub_of x) t) subs) (same_sub (sub_of s) f) refl
        ∙ ap (λ b. (not (mark_of f s).fed && same_sub (sub_of (mark_of f s)) t) || b) (each subs)
