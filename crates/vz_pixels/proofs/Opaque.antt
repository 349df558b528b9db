-- Colours that are opaque, one after the other.
use Rattle.std.proofs.Common.{◌≡◌, ℕ, zero, suc, ◌+◌, ◌<◌, Bool, true, false, ◌&&◌, ◌==◌, List, [], ◌∷◌, length, get_or, take, ◌≤◌, refl, ap, sym, ◌∙◌, arith}
use Rattle.std.proofs.lemmas.List.{take_all}
use Rattle.vz_pixels.specs.Colour.{Colour, is_opaque}
use Rattle.vz_pixels.specs.Block.{are_opaque}

with_true : (t : Bool) → (t && true) ≡ (true && t)
with_true true = refl
with_true false = refl

assoc : (a b c : Bool) → (a && (b && c)) ≡ ((a && b) && c)
assoc true b c = refl
assoc false b c = refl

-- one more of them
pub one_more : (d : Colour) (cs : List Colour) (k : ℕ) → k < length cs → are_opaque (take (suc k) cs) ≡ (are_opaque (take k cs) && is_opaque (get_or cs k d))
one_more d [] k low = absurd (omega (arith, low))
one_more d (c ∷ cs) zero low = with_true (is_opaque c)
one_more d (c ∷ cs) (suc k) low =
    ap (λ t. is_opaque c && t) (one_more d cs k (omega (arith, low))) ∙ assoc (is_opaque c) (are_opaque (take k cs)) (is_opaque (get_or cs k d))

-- all of them
pub all_of_them : (cs : List Colour) (k : ℕ) (t : Bool) → length cs ≤ k → t ≡ are_opaque (take k cs) → t ≡ are_opaque cs
all_of_them cs k t most is = is ∙ ap are_opaque (take_all k cs most)

-- and what was found of the ones before
pub more_of_them : (cs : List Colour) (k : ℕ) (before t : Bool) → before ≡ are_opaque (take k cs)
    → are_opaque (take (suc k) cs) ≡ (are_opaque (take k cs) && t) → (before && t) ≡ are_opaque (take (k + 1) cs)
more_of_them cs k before t is more =
    let next : suc k ≡ k + 1 = omega arith in
    ap (λ x. x && t) is ∙ (sym more ∙ ap (λ n. are_opaque (take n cs)) next)
