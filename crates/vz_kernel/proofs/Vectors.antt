-- What the operations on the lanes of vectors leave.
use Rattle.std.proofs.Common.{◌≡◌, ℕ, zero, suc, ◌+◌, ◌-◌, ◌*◌, ◌/◌, ◌%◌, ◌^◌, ◌<◌, ◌≤◌, List, [], ◌∷◌, ◌++◌, length, map, get_or, Fits, w8, refl, ap, ◌∙◌, arith}
use Rattle.std.specs.Prelude.{replicate}
use Rattle.std.proofs.{Math.Nat.mul-le-mul_right, lemmas.Bool.Decides.nat_tests}
use lib.Lanes.{zip2, Each1, number_l, digits_l}
use Rattle.vz_pixels.specs.Colour.{mul}
use Rattle.vz_pixels.proofs.Parts.{mul_at_most}
use Rattle.vz_kernel.specs.Lanes.{evens, odds, woven, doubled, AreBytes}

abbrev pub twice : ℕ → ℕ
twice zero = zero
twice (suc n) = suc (suc (twice n))

-- the lowest two bytes of a number, and what is above them
pub low : (x y r : ℕ) → x < 256 → y < 256 → ((x + 256 * (y + 256 * r)) % 65536 ≡ x + 256 * y) × ((x + 256 * (y + 256 * r)) / 65536 ≡ r)
low x y r p q = (omega arith, omega arith)

pub evens_is : (n : ℕ) (xs : List ℕ) → length xs ≡ twice n → Each1 (Fits w8) xs → zip2 (λ a b. a % b) (digits_l 65536 n (number_l 256 xs)) (replicate n 256) ≡ evens xs
evens_is zero [] e h = refl
evens_is zero (x ∷ xs) e h = absurd (omega arith)
evens_is (suc n) [] e h = absurd (omega arith)
evens_is (suc n) (x ∷ []) e h = absurd (omega arith)
evens_is (suc n) (x ∷ y ∷ zs) e h = grind (arith, nat_tests, low x y (number_l 256 zs), evens_is n zs)

pub odds_is : (n : ℕ) (xs : List ℕ) → length xs ≡ twice n → Each1 (Fits w8) xs → zip2 (λ a (b : ℕ). a / 2 ^ b) (digits_l 65536 n (number_l 256 xs)) (replicate n 8) ≡ odds xs
odds_is zero [] e h = refl
odds_is zero (x ∷ xs) e h = absurd (omega arith)
odds_is (suc n) [] e h = absurd (omega arith)
odds_is (suc n) (x ∷ []) e h = absurd (omega arith)
odds_is (suc n) (x ∷ y ∷ zs) e h = grind (arith, nat_tests, low x y (number_l 256 zs), odds_is n zs)

-- two bytes in one lane, over a number
two : (x y r : ℕ) → x ≤ 255 → y ≤ 255
    → (((x + y * 256 % 65536) % 65536 + 65536 * r) % 256 ≡ x) × (((x + y * 256 % 65536) % 65536 + 65536 * r) / 256 % 256 ≡ y) × (((x + y * 256 % 65536) % 65536 + 65536 * r) / 256 / 256 ≡ r)
two x y r p q = (omega arith, omega arith, omega arith)

-- lanes of which each has two bytes
abbrev joined : ℕ → List ℕ → List ℕ → List ℕ
joined n xs ys = zip2 (λ a b. (a + b) % 65536) xs (zip2 (λ a b. a * b % 65536) ys (replicate n 256))

pub woven_is : (n : ℕ) (xs ys : List ℕ) → length xs ≡ n → length ys ≡ n → AreBytes xs → AreBytes ys → digits_l 256 (twice n) (number_l 65536 (joined n xs ys)) ≡ woven xs ys
woven_is zero [] ys e f p q = refl
woven_is zero (x ∷ xs) ys e f p q = absurd (omega arith)
woven_is (suc n) [] ys e f p q = absurd (omega arith)
woven_is (suc n) (x ∷ xs) [] e f p q = absurd (omega arith)
woven_is (suc n) (x ∷ xs) (y ∷ ys) e f p q = grind (arith, nat_tests, woven_is n xs ys)

-- each two lanes of bytes as one of 32 bits
abbrev fours : List ℕ → List ℕ
fours [] = []
fours (x ∷ []) = []
fours (x ∷ y ∷ zs) = (x + 65536 * y) ∷ fours zs

-- the lowest four bytes of two lanes of bytes, over a number
four : (x y r : ℕ) → x ≤ 255 → y ≤ 255
    → ((x + 65536 * (y + 65536 * r)) % 256 ≡ x) × ((x + 65536 * (y + 65536 * r)) / 256 % 256 ≡ 0) × ((x + 65536 * (y + 65536 * r)) / 256 / 256 % 256 ≡ y)
    × ((x + 65536 * (y + 65536 * r)) / 256 / 256 / 256 % 256 ≡ 0) × ((x + 65536 * (y + 65536 * r)) / 256 / 256 / 256 / 256 ≡ r)
four x y r p q = (omega arith, omega arith, omega arith, omega arith, omega arith)

-- the same bytes as one lane
one : (x y r : ℕ) → x ≤ 255 → y ≤ 255
    → ((x + 256 * (0 + 256 * (y + 256 * (0 + 256 * r)))) % 4294967296 ≡ x + 65536 * y) × ((x + 256 * (0 + 256 * (y + 256 * (0 + 256 * r)))) / 4294967296 ≡ r)
one x y r p q = (omega arith, omega arith)

pub fours_are : (n : ℕ) (xs : List ℕ) → length xs ≡ twice n → AreBytes xs → digits_l 4294967296 n (number_l 256 (digits_l 256 (twice (twice n)) (number_l 65536 xs))) ≡ fours xs
fours_are zero [] e p = refl
fours_are zero (x ∷ xs) e p = absurd (omega arith)
fours_are (suc n) [] e p = absurd (omega arith)
fours_are (suc n) (x ∷ []) e p = absurd (omega arith)
fours_are (suc n) (x ∷ y ∷ zs) e p =
    let m = number_l 65536 zs in
    let f = four x y m p.0 p.1.0 in
    let bytes = digits_l 256 (twice (twice n)) m in
    let o = one x y (number_l 256 bytes) p.0 p.1.0 in
    (λ i. digits_l 4294967296 (suc n) (f.0 i + 256 * (f.1 i + 256 * (f.2 i + 256 * (f.3 i + 256 * number_l 256 (digits_l 256 (twice (twice n)) (f.4 i)))))))
    ∙ (λ i. o.0 i ∷ digits_l 4294967296 n (o.1 i)) ∙ ap (λ l. (x + 65536 * y) ∷ l) (fours_are n zs (omega arith) p.1.1)

-- the bytes of a number
bytes : (x y z w r : ℕ) → x ≤ 255 → y ≤ 255 → z ≤ 255 → w ≤ 255
    → ((x + 256 * (y + 256 * (z + 256 * (w + 256 * r)))) % 256 ≡ x) × ((x + 256 * (y + 256 * (z + 256 * (w + 256 * r)))) / 256 % 256 ≡ y) × ((x + 256 * (y + 256 * (z + 256 * (w + 256 * r)))) / 256 / 256 % 256 ≡ z)
    × ((x + 256 * (y + 256 * (z + 256 * (w + 256 * r)))) / 256 / 256 / 256 % 256 ≡ w) × ((x + 256 * (y + 256 * (z + 256 * (w + 256 * r)))) / 256 / 256 / 256 / 256 ≡ r)
bytes x y z w r p q s t = (omega arith, omega arith, omega arith, omega arith, omega arith)

-- lanes of which each has four bytes
abbrev joined_fours : ℕ → List ℕ → List ℕ → List ℕ
joined_fours n xs ys = zip2 (λ a b. (a + b) % 4294967296) (fours xs) (zip2 (λ a b. a * b % 4294967296) (fours ys) (replicate n 256))

woven_fours : (n : ℕ) (xs ys : List ℕ) → length xs ≡ twice n → length ys ≡ twice n → AreBytes xs → AreBytes ys
    → digits_l 256 (twice (twice n)) (number_l 4294967296 (joined_fours n xs ys)) ≡ woven xs ys
woven_fours zero [] ys e f p q = refl
woven_fours zero (x ∷ xs) ys e f p q = absurd (omega arith)
woven_fours (suc n) [] ys e f p q = absurd (omega arith)
woven_fours (suc n) (x ∷ []) ys e f p q = absurd (omega arith)
woven_fours (suc n) (x ∷ z ∷ xs) [] e f p q = absurd (omega arith)
woven_fours (suc n) (x ∷ z ∷ xs) (y ∷ []) e f p q = absurd (omega arith)
woven_fours (suc n) (x ∷ z ∷ xs) (y ∷ w ∷ ys) e f p q = grind (arith, nat_tests, bytes x y z w, woven_fours n xs ys)

-- bytes of lanes that were read as lanes twice as wide
abbrev wide : ℕ → List ℕ → List ℕ
wide n xs = digits_l 4294967296 n (number_l 256 (digits_l 256 (twice (twice n)) (number_l 65536 xs)))

pub woven_by_fours_is : (n : ℕ) (xs ys : List ℕ) → length xs ≡ twice n → length ys ≡ twice n → AreBytes xs → AreBytes ys
    → digits_l 256 (twice (twice n)) (number_l 4294967296 (zip2 (λ a b. (a + b) % 4294967296) (wide n xs) (zip2 (λ a b. a * b % 4294967296) (wide n ys) (replicate n 256)))) ≡ woven xs ys
woven_by_fours_is n xs ys e f p q = grind (arith, nat_tests, fours_are n xs e p, fours_are n ys f q, woven_fours n xs ys e f p q)

-- the second place of each two from a place on, twice
abbrev places : ℕ → ℕ → List ℕ
places i zero = []
places i (suc n) = suc i ∷ suc i ∷ places (suc (suc i)) n

shift : (x y : ℕ) (zs : List ℕ) (i n : ℕ) → map (λ k. get_or (x ∷ y ∷ zs) k 0) (places (suc (suc i)) n) ≡ map (λ k. get_or zs k 0) (places i n)
shift x y zs i zero = refl
shift x y zs i (suc n) = ap (λ l. get_or zs (suc i) 0 ∷ get_or zs (suc i) 0 ∷ l) (shift x y zs (suc (suc i)) n)

pub doubled_is : (n : ℕ) (xs ys : List ℕ) → length xs ≡ twice n → map (λ k. get_or (xs ++ ys) k 0) (places 0 n) ≡ doubled xs
doubled_is zero [] ys e = refl
doubled_is zero (x ∷ xs) ys e = absurd (omega arith)
doubled_is (suc n) [] ys e = absurd (omega arith)
doubled_is (suc n) (x ∷ []) ys e = absurd (omega arith)
doubled_is (suc n) (x ∷ y ∷ zs) ys e = ap (λ l. y ∷ y ∷ l) (shift x y (zs ++ ys) 0 n ∙ doubled_is n zs ys (omega arith))

-- a product of two bytes as lanes of 16 and of 32 bits compute it
abbrev lane : ℕ → ℕ → ℕ
lane a b = ((a * b % 65536 + 128) % 65536 * 257 % 4294967296) / 65536

rounded : (p : ℕ) → p ≤ 65025 → ((p % 65536 + 128) % 65536 * 257 % 4294967296) / 65536 ≡ (p + 127) / 255
rounded p h = omega arith

bytes_product : (a b : ℕ) → a ≤ 255 → b ≤ 255 → a * b ≤ 65025
bytes_product a b p q = let h = mul-le-mul_right b p in omega arith

lane_is : (a b : ℕ) → a ≤ 255 → b ≤ 255 → lane a b ≡ mul a b
unfolding mul
lane_is a b p q = rounded (a * b) (bytes_product a b p q)

lane_small : (a b : ℕ) → lane a b < 65536
lane_small a b = omega arith

-- the lanes before the last cast
abbrev pub lanes_of : ℕ → List ℕ → List ℕ → List ℕ
lanes_of n xs ys =
    zip2 (λ a (b : ℕ). a / 2 ^ b) (zip2 (λ a b. a * b % 4294967296) (map (λ a. a) (zip2 (λ a b. (a + b) % 65536) (zip2 (λ a b. a * b % 65536) xs ys) (replicate n 128))) (replicate n 257)) (replicate n 16)

pub parts_small : (n : ℕ) (xs ys : List ℕ) → Each1 (λ x. x < 65536) (lanes_of n xs ys)
parts_small zero [] ys = tt
parts_small zero (x ∷ xs) [] = tt
parts_small zero (x ∷ xs) (y ∷ ys) = tt
parts_small (suc n) [] ys = tt
parts_small (suc n) (x ∷ xs) [] = tt
parts_small (suc n) (x ∷ xs) (y ∷ ys) = (lane_small x y, parts_small n xs ys)

pub parts_is : (n : ℕ) (xs ys : List ℕ) → length xs ≡ n → AreBytes xs → AreBytes ys → map (λ a. a) (lanes_of n xs ys) ≡ zip2 mul xs ys
parts_is zero [] ys e p q = refl
parts_is zero (x ∷ xs) ys e p q = absurd (omega arith)
parts_is (suc n) [] ys e p q = absurd (omega arith)
parts_is (suc n) (x ∷ xs) [] e p q = refl
parts_is (suc n) (x ∷ xs) (y ∷ ys) e p q = (λ i. lane_is x y p.0 q.0 i ∷ parts_is n xs ys (omega arith) p.1 q.1 i)

left : (x : ℕ) → x ≤ 255 → (255 + (256 - x)) % 256 ≡ 255 - x
left x h = omega arith

pub rest_is : (n : ℕ) (xs : List ℕ) → length xs ≡ n → AreBytes xs → zip2 (λ a b. (a + (256 - b)) % 256) (replicate n 255) xs ≡ map (λ x. 255 - x) xs
rest_is zero [] e h = refl
rest_is zero (x ∷ xs) e h = absurd (omega arith)
rest_is (suc n) [] e h = absurd (omega arith)
rest_is (suc n) (x ∷ xs) e h = (λ i. left x h.0 i ∷ rest_is n xs (omega arith) h.1 i)

-- what is left of the alphas, from what is left of all
pub rest_of_alphas : (xs : List ℕ) → doubled (odds (map (λ x. 255 - x) xs)) ≡ map (λ x. 255 - x) (doubled (odds xs))
rest_of_alphas [] = refl
rest_of_alphas (x ∷ []) = refl
rest_of_alphas (x ∷ y ∷ []) = refl
rest_of_alphas (x ∷ y ∷ z ∷ []) = refl
rest_of_alphas (x ∷ y ∷ z ∷ w ∷ vs) = ap (λ l. (255 - w) ∷ (255 - w) ∷ l) (rest_of_alphas vs)

pub bytes_fit : (xs : List ℕ) → Each1 (Fits w8) xs → AreBytes xs
bytes_fit [] h = tt
bytes_fit (x ∷ xs) h = ((let f = h.0.fits in omega arith), bytes_fit xs h.1)

pub bytes_evens : (xs : List ℕ) → AreBytes xs → AreBytes (evens xs)
bytes_evens [] h = tt
bytes_evens (x ∷ []) h = tt
bytes_evens (x ∷ y ∷ zs) h = (h.0, bytes_evens zs h.1.1)

pub bytes_odds : (xs : List ℕ) → AreBytes xs → AreBytes (odds xs)
bytes_odds [] h = tt
bytes_odds (x ∷ []) h = tt
bytes_odds (x ∷ y ∷ zs) h = (h.1.0, bytes_odds zs h.1.1)

pub bytes_doubled : (xs : List ℕ) → AreBytes xs → AreBytes (doubled xs)
bytes_doubled [] h = tt
bytes_doubled (x ∷ []) h = tt
bytes_doubled (x ∷ y ∷ zs) h = (h.1.0, (h.1.0, bytes_doubled zs h.1.1))

pub small_part : (a b : ℕ) → a ≤ 255 → b ≤ 255 → mul a b ≤ 255
small_part a b p q = let h = mul_at_most a b p in omega arith

pub bytes_parts : (xs ys : List ℕ) → AreBytes xs → AreBytes ys → AreBytes (zip2 mul xs ys)
bytes_parts [] ys p q = tt
bytes_parts (x ∷ xs) [] p q = tt
bytes_parts (x ∷ xs) (y ∷ ys) p q = (small_part x y p.0 q.0, bytes_parts xs ys p.1 q.1)
