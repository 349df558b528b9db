-- What a test of all lanes says of colours.
use Rattle.std.proofs.Common.{◌≡◌, ℕ, zero, suc, ◌*◌, ◌%◌, ◌^◌, ◌≤◌, Bool, true, false, not, cond, eqb, ltb, List, [], ◌∷◌, length, map, IsTrue, w8, refl, arith}
use Rattle.std.specs.Prelude.{replicate}
use Rattle.std.proofs.{lemmas.Simd.tops_compared, lemmas.Simd.mask_l-mod, lemmas.Simd.length-zip2, lemmas.Bool.Decides.nat_tests}
use lib.Lanes.{zip2, Each1, mask_l, top}
use Rattle.vz_pixels.specs.Colour.{Colour, transparent}
use Rattle.vz_kernel.specs.Lanes.{channels, AreBytes}

abbrev AreUnset : List Bool → Type 0
AreUnset ms = Each1 (λ m. m ≡ false) ms

unset : (ms : List Bool) → mask_l ms ≡ 0 → AreUnset ms
unset [] e = tt
unset (true ∷ ms) e = absurd (omega arith)
unset (false ∷ ms) e = (refl, unset ms (omega arith))

is_zero : (n : ℕ) → IsTrue (eqb n 0) → n ≡ 0
is_zero n h = grind arith

-- where no lane passes a test, none does
pub none_pass : (t : ℕ → ℕ → Bool) (xs ys : List ℕ) → length xs ≡ 64 → length ys ≡ 64
    → IsTrue (eqb (mask_l (map (top 7) (zip2 (λ a b. cond (t a b) 255 0) xs ys)) % 2 ^ 64) 0) → AreUnset (zip2 t xs ys)
none_pass t xs ys e f h = grind (arith, nat_tests, tops_compared w8 t xs ys, length-zip2 t xs ys, unset (zip2 t xs ys), mask_l-mod (zip2 t xs ys) 64, is_zero)

abbrev pub differs : ℕ → ℕ → Bool
differs a b = not (eqb a b)

same : (x : ℕ) → differs x 0 ≡ false → x ≡ 0
same x h = grind arith

pub clear : (cs : List Colour) (n : ℕ) → length (channels cs) ≡ n → AreUnset (zip2 differs (channels cs) (replicate n 0)) → Each1 (λ c. c ≡ transparent) cs
clear [] n e h = tt
clear (c ∷ cs) zero e h = absurd (omega arith)
clear (c ∷ cs) (suc zero) e h = absurd (omega arith)
clear (c ∷ cs) (suc (suc zero)) e h = absurd (omega arith)
clear (c ∷ cs) (suc (suc (suc zero))) e h = absurd (omega arith)
clear (c ∷ cs) (suc (suc (suc (suc n)))) e h = grind (arith, nat_tests, clear cs n)

-- the least channels of opaque colours
abbrev pub least_opaque : ℕ → List ℕ
least_opaque zero = []
least_opaque (suc n) = 0 ∷ 0 ∷ 0 ∷ 255 ∷ least_opaque n

full : (a : ℕ) → a ≤ 255 → ltb a 255 ≡ false → a ≡ 255
full a low h = grind arith

pub opaque : (cs : List Colour) (n : ℕ) → AreBytes (channels cs) → length (channels cs) ≡ 4 * n → AreUnset (zip2 ltb (channels cs) (least_opaque n)) → Each1 (λ c. c.a ≡ 255) cs
opaque [] n b e h = tt
opaque (c ∷ cs) zero b e h = absurd (omega arith)
opaque (c ∷ cs) (suc n) b e h = (full c.a b.1.1.1.0 h.1.1.1.0, opaque cs n b.1.1.1.1 (omega arith) h.1.1.1.1)
