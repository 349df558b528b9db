-- Products of bytes and one number by a multiply of high halves.
use Rattle.std.proofs.Common.{◌≡◌, ℕ, zero, suc, ◌+◌, ◌-◌, ◌*◌, ◌/◌, ◌%◌, ◌^◌, ◌<◌, ◌≤◌, List, [], ◌∷◌, length, map, Fits, w8, refl, ap, ◌∙◌, arith}
use Rattle.std.specs.Prelude.{replicate}
use Rattle.std.proofs.{Math.Nat.mul-le-mul_left, Math.Nat.mul-le-mul_right, lemmas.Bool.Decides.nat_tests}
use lib.Lanes.{zip2, Each1, number_l, digits_l}
use Rattle.vz_pixels.specs.Colour.{mul}
use Rattle.vz_kernel.specs.Lanes.{evens, odds, factor_of, AreBytes}
use Rattle.vz_kernel.proofs.Vectors.{twice, low}

-- the bytes of a lane of two, times 256, over a number
raised : (x y r : ℕ) → x < 256 → y < 256 → ((x + 256 * (y + 256 * r)) % 65536 * 256 % 65536 ≡ x * 256) × ((x + 256 * (y + 256 * r)) % 65536 / 256 * 256 % 65536 ≡ y * 256)
raised x y r p q = grind (arith, nat_tests, low x y r p q)

pub raised_evens_is : (n : ℕ) (xs : List ℕ) → length xs ≡ twice n → Each1 (Fits w8) xs
    → zip2 (λ a b. a * b % 65536) (digits_l 65536 n (number_l 256 xs)) (replicate n 256) ≡ map (λ x. x * 256) (evens xs)
raised_evens_is zero [] e h = refl
raised_evens_is zero (x ∷ xs) e h = absurd (omega arith)
raised_evens_is (suc n) [] e h = absurd (omega arith)
raised_evens_is (suc n) (x ∷ []) e h = absurd (omega arith)
raised_evens_is (suc n) (x ∷ y ∷ zs) e h = grind (arith, nat_tests, raised x y, low x y, raised_evens_is n zs)

pub raised_odds_is : (n : ℕ) (xs : List ℕ) → length xs ≡ twice n → Each1 (Fits w8) xs
    → zip2 (λ a b. a * b % 65536) (zip2 (λ a (b : ℕ). a / 2 ^ b) (digits_l 65536 n (number_l 256 xs)) (replicate n 8)) (replicate n 256) ≡ map (λ x. x * 256) (odds xs)
raised_odds_is zero [] e h = refl
raised_odds_is zero (x ∷ xs) e h = absurd (omega arith)
raised_odds_is (suc n) [] e h = absurd (omega arith)
raised_odds_is (suc n) (x ∷ []) e h = absurd (omega arith)
raised_odds_is (suc n) (x ∷ y ∷ zs) e h = grind (arith, nat_tests, raised x y, low x y, raised_odds_is n zs)

-- the high half of a product z, of a byte a times 256 and the factor of b, where t is a * b: b to 127
below : (t z : ℕ) → t ≤ 32385 → z ≡ t * 65792 → (z % 4294967296 / 65536 + 128) / 256 ≡ (t + 127) / 255
below t z p e = grind (arith, nat_tests)

-- the same for b of 128 to 254
above : (a t z : ℕ) → a ≤ 255 → 128 * a ≤ t → t ≤ 254 * a → z ≡ t * 65792 + a * 256 → (z % 4294967296 / 65536 + 128) / 256 ≡ (t + 127) / 255
above a t z p q r e = grind (arith, nat_tests)

-- the same for 255
whole : (a t z : ℕ) → a ≤ 255 → t ≡ a * 255 → z ≡ a * 16776960 → (z % 4294967296 / 65536 + 128) / 256 ≡ (t + 127) / 255
whole a t z p q e = grind (arith, nat_tests)

-- a product of three, put in another order
turned : (a b : ℕ) → a * 256 * (b * 257) ≡ a * b * 65792
turned a b = omega arith

turned_more : (a b : ℕ) → a * 256 * (b * 257 + 1) ≡ a * b * 65792 + a * 256
turned_more a b = omega arith

high_by : (a b f m k : ℕ) → b / 128 ≡ m → b / 255 ≡ k → f ≡ b * 257 - b / 255 + b / 128 → a ≤ 255 → b ≤ 255 → (a * 256 * f % 4294967296 / 65536 + 128) / 256 ≡ (a * b + 127) / 255
high_by a b f zero k e d is p q =
    let small : b ≤ 127 = omega arith in
    let g : f ≡ b * 257 = omega arith in
    let bound : a * b ≤ 32385 = let h = mul-le-mul_right b p in omega arith in
    below (a * b) (a * 256 * f) bound (ap (λ k. a * 256 * k) g ∙ turned a b)
high_by a b f (suc zero) zero e d is p q =
    let g : f ≡ b * 257 + 1 = omega arith in
    let from : 128 ≤ b = omega arith in
    let to : b ≤ 254 = omega arith in
    let least : 128 * a ≤ a * b = let h = mul-le-mul_left a from in omega arith in
    let most : a * b ≤ 254 * a = let h = mul-le-mul_left a to in omega arith in
    above a (a * b) (a * 256 * f) p least most (ap (λ k. a * 256 * k) g ∙ turned_more a b)
high_by a b f (suc zero) (suc k) e d is p q =
    let full : b ≡ 255 = omega arith in
    let g : f ≡ 65535 = omega arith in
    let t : a * b ≡ a * 255 = ap (λ k. a * k) full in
    let z : a * 256 * f ≡ a * 16776960 = ap (λ k. a * 256 * k) g ∙ omega arith in
    whole a (a * b) (a * 256 * f) p t z
high_by a b f (suc (suc m)) k e d is p q = absurd (omega arith)

-- the sum of a high half and a byte above it
plus_high : (h p v : ℕ) → (h + 128) / 256 ≡ v → p + v ≤ 255 → (h + (p * 256 % 65536 + 128) % 65536) % 65536 / 256 ≡ p + v
plus_high h p v e small = omega arith

-- a product of a byte and one number, and a byte added, as lanes of 16 and of 32 bits compute it
lane_plus : (a b f p : ℕ) → f ≡ b * 257 - b / 255 + b / 128 → a ≤ 255 → b ≤ 255 → p + mul a b ≤ 255
    → (a * 256 * f % 4294967296 / 65536 + (p * 256 % 65536 + 128) % 65536) % 65536 / 256 ≡ p + mul a b
unfolding mul
lane_plus a b f p is x y small = plus_high _ p _ (high_by a b f _ _ refl refl is x y) small

-- the high halves of lanes times factors
abbrev pub highs : ℕ → List ℕ → List ℕ → List ℕ
highs n fs xs = zip2 (λ a (b : ℕ). a / 2 ^ b) (zip2 (λ a b. a * b % 4294967296) (map (λ a. a) xs) (map (λ a. a) fs)) (replicate n 16)

-- high halves and bytes above them, rounded
abbrev pub sums : ℕ → List ℕ → List ℕ → List ℕ
sums n hs ps =
    zip2 (λ a (b : ℕ). a / 2 ^ b) (zip2 (λ a b. (a + b) % 65536) hs (zip2 (λ a b. (a + b) % 65536) (zip2 (λ a b. a * b % 65536) ps (replicate n 256)) (replicate n 128))) (replicate n 8)

high_small : (z : ℕ) → z % 4294967296 / 65536 < 65536
high_small z = omega arith

pub highs_small : (n : ℕ) (fs xs : List ℕ) → Each1 (λ x. x < 65536) (highs n fs xs)
highs_small n fs [] = tt
highs_small n [] (x ∷ xs) = tt
highs_small zero (f ∷ fs) (x ∷ xs) = tt
highs_small (suc n) (f ∷ fs) (x ∷ xs) = (high_small (x * f), highs_small n fs xs)

sum_small : (z : ℕ) → z % 65536 / 256 ≤ 255
sum_small z = omega arith

pub bytes_sums : (n : ℕ) (hs ps : List ℕ) → AreBytes (sums n hs ps)
bytes_sums n [] ps = tt
bytes_sums zero (h ∷ hs) [] = tt
bytes_sums (suc n) (h ∷ hs) [] = tt
bytes_sums zero (h ∷ hs) (p ∷ ps) = tt
bytes_sums (suc n) (h ∷ hs) (p ∷ ps) = (sum_small (h + (p * 256 % 65536 + 128) % 65536), bytes_sums n hs ps)

pub sums_are : (n b : ℕ) (xs ps : List ℕ) → b ≤ 255 → length xs ≡ n → AreBytes xs → AreBytes (zip2 (λ x p. p + mul x b) xs ps)
    → sums n (map (λ a. a) (highs n (replicate n (factor_of b)) (map (λ x. x * 256) xs))) ps ≡ zip2 (λ x p. p + mul x b) xs ps
sums_are n b [] ps y e xs-bytes small = refl
sums_are zero b (x ∷ xs) ps y e xs-bytes small = absurd (omega arith)
sums_are (suc n) b (x ∷ xs) [] y e xs-bytes small = refl
sums_are (suc n) b (x ∷ xs) (p ∷ ps) y e xs-bytes small = grind (arith, nat_tests, lane_plus x b (factor_of b) p refl xs-bytes.0 y small.0, sums_are n b xs ps y)
