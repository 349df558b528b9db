-- Pixels of a row as lanes, and lanes as pixels of a row.
use Rattle.std.proofs.Common.{◌≡◌, ℕ, zero, suc, ◌+◌, ◌*◌, ◌/◌, ◌%◌, ◌<◌, ◌≤◌, List, [], ◌∷◌, length, map, get_or, slice_set, refl, ap, sym, ◌∙◌, arith}
use Rattle.std.specs.Prelude.{take}
use Rattle.std.proofs.{lemmas.List.drop_more, lemmas.List.take_all, lemmas.Bool.Decides.nat_tests, lemmas.Grind.common_steps}
use lib.Lanes.{Each1, chunk, put_chunk, number_l, digits_l}
use Rattle.vz_pixels.specs.Colour.{Colour, IsPremultiplied, transparent}
use Rattle.vz_kernel.specs.Lanes.{channels_of, word_of, channels, colours, AreBytes}

-- these are n colours from a place on as numbers, and the colours are premultiplied and of bytes
pub record IsRead (xs : List Colour) (i n : ℕ) (ws : List ℕ) : Type 0 where
  pub value : ws ≡ map word_of (chunk i n xs)
  pub good : Each1 IsPremultiplied (chunk i n xs)
  pub bytes : AreBytes (channels (chunk i n xs))

pub read_none : (xs : List Colour) (i : ℕ) → IsRead xs i 0 []
read_none xs i = record { value = refl; good = tt; bytes = tt }

-- one colour more, before the others
pub read_more : (xs : List Colour) (i j n w : ℕ) (rest : List ℕ) → j ≡ i + 1 → i < length xs → w ≡ word_of (get_or xs i transparent) → IsPremultiplied (get_or xs i transparent)
    → AreBytes (channels_of (get_or xs i transparent)) → IsRead xs j n rest → IsRead xs i (suc n) (w ∷ rest)
read_more xs i j n w rest next low e good b r = grind (arith, nat_tests, drop_more xs i transparent low)

abbrev fours : ℕ → ℕ
fours zero = zero
fours (suc n) = suc (suc (suc (suc (fours n))))

-- the bytes of a number of four bytes, over others
bytes_of : (r g b a m : ℕ) → r ≤ 255 → g ≤ 255 → b ≤ 255 → a ≤ 255 → (n : ℕ) → n ≡ r + 256 * (g + 256 * (b + 256 * a)) + 4294967296 * m
    → (n % 256 ≡ r) × (n / 256 % 256 ≡ g) × (n / 256 / 256 % 256 ≡ b) × (n / 256 / 256 / 256 % 256 ≡ a) × (n / 256 / 256 / 256 / 256 ≡ m)
bytes_of r g b a m p q s t n e = grind (arith, nat_tests)

-- the bytes of numbers that are colours are their channels
pub spelled : (n : ℕ) (cs : List Colour) → length cs ≡ n → AreBytes (channels cs) → digits_l 256 (fours n) (number_l 4294967296 (map word_of cs)) ≡ channels cs
spelled zero [] e h = refl
spelled zero (c ∷ cs) e h = absurd (omega arith)
spelled (suc n) [] e h = absurd (omega arith)
spelled (suc n) (c ∷ cs) e h = grind (arith, nat_tests, spelled n cs)

-- the colour of the k-th four channels
abbrev pub colour_in : List ℕ → ℕ → Colour
colour_in vs k = record { r = get_or vs (4 * k) 0; g = get_or vs (4 * k + 1) 0; b = get_or vs (4 * k + 2) 0; a = get_or vs (4 * k + 3) 0 }

past : (r g b a : ℕ) (vs : List ℕ) (k : ℕ) → colour_in (r ∷ g ∷ b ∷ a ∷ vs) (suc k) ≡ colour_in vs k
past r g b a vs k = grind (arith, nat_tests)

pub colour_is : (vs : List ℕ) (k : ℕ) → 4 * k + 3 < length vs → get_or (colours vs) k transparent ≡ colour_in vs k
colour_is [] k h = absurd (omega arith)
colour_is (r ∷ []) k h = absurd (omega arith)
colour_is (r ∷ g ∷ []) k h = absurd (omega arith)
colour_is (r ∷ g ∷ b ∷ []) k h = absurd (omega arith)
colour_is (r ∷ g ∷ b ∷ a ∷ vs) zero h = refl
colour_is (r ∷ g ∷ b ∷ a ∷ vs) (suc k) h = colour_is vs k (omega arith) ∙ sym (past r g b a vs k)

pub length_colours : (vs : List ℕ) (n : ℕ) → length vs ≡ 4 * n → length (colours vs) ≡ n
length_colours [] n e = omega arith
length_colours (r ∷ []) n e = absurd (omega arith)
length_colours (r ∷ g ∷ []) n e = absurd (omega arith)
length_colours (r ∷ g ∷ b ∷ []) n e = absurd (omega arith)
length_colours (r ∷ g ∷ b ∷ a ∷ vs) zero e = absurd (omega arith)
length_colours (r ∷ g ∷ b ∷ a ∷ vs) (suc n) e = ap suc (length_colours vs n (omega arith))

pub is_good : (vs : List ℕ) (k n : ℕ) → length vs ≡ 4 * n → k < n → Each1 IsPremultiplied (colours vs) → IsPremultiplied (colour_in vs k)
is_good vs k n long low good = grind (arith, nat_tests, common_steps, colour_is vs k, length_colours vs n long)

-- the colours of the channels of colours
pub colours_channels : (cs : List Colour) → colours (channels cs) ≡ cs
colours_channels [] = refl
colours_channels (c ∷ cs) = ap (λ l. c ∷ l) (colours_channels cs)

put_none : (i : ℕ) (xs : List Colour) → put_chunk i xs [] ≡ xs
put_none i [] = refl
put_none zero (x ∷ xs) = refl
put_none (suc i) (x ∷ xs) = ap (λ l. x ∷ l) (put_none i xs)

put_more : (i : ℕ) (xs ys : List Colour) (j k : ℕ) (c : Colour) → j ≡ i + k → k < length ys → i + length ys ≤ length xs → c ≡ get_or ys k transparent
    → slice_set (put_chunk i xs (take k ys)) j c ≡ put_chunk i xs (take (suc k) ys)
put_more i [] ys j k c e low fits is = absurd (omega arith)
put_more i (x ∷ xs) [] j k c e low fits is = absurd (omega arith)
put_more zero (x ∷ xs) (y ∷ ys) zero zero c e low fits is = ap (λ d. d ∷ xs) is ∙ ap (λ l. y ∷ l) (sym (put_none zero xs))
put_more zero (x ∷ xs) (y ∷ ys) zero (suc k) c e low fits is = absurd (omega arith)
put_more zero (x ∷ xs) (y ∷ ys) (suc j) zero c e low fits is = absurd (omega arith)
put_more zero (x ∷ xs) (y ∷ ys) (suc j) (suc k) c e low fits is = ap (λ l. y ∷ l) (put_more zero xs ys j k c (omega arith) (omega arith) (omega arith) is)
put_more (suc i) (x ∷ xs) (y ∷ ys) zero k c e low fits is = absurd (omega arith)
put_more (suc i) (x ∷ xs) (y ∷ ys) (suc j) k c e low fits is = ap (λ l. x ∷ l) (put_more i xs (y ∷ ys) j k c (omega arith) low (omega arith) is)

-- the first k of these colours are written from a place on
abbrev pub IsPut : List Colour → ℕ → List Colour → ℕ → List Colour → Type 0
IsPut xs i ys k now = now ≡ put_chunk i xs (take k ys)

pub none_put : (xs : List Colour) (i : ℕ) (ys : List Colour) → IsPut xs i ys 0 xs
none_put xs i ys = sym (put_none i xs)

pub one_put : (xs : List Colour) (i : ℕ) (ys : List Colour) (j k : ℕ) (c : Colour) (now : List Colour) → j ≡ i + k → k < length ys → i + length ys ≤ length xs → c ≡ get_or ys k transparent → IsPut xs i ys k now
    → IsPut xs i ys (suc k) (slice_set now j c)
one_put xs i ys j k c now e low fits is before = ap (λ l. slice_set l j c) before ∙ put_more i xs ys j k c e low fits is

pub all_put : (xs : List Colour) (i : ℕ) (ys : List Colour) (n : ℕ) (now : List Colour) → length ys ≡ n → IsPut xs i ys n now → now ≡ put_chunk i xs ys
all_put xs i ys n now e h = h ∙ ap (put_chunk i xs) (take_all n ys (omega arith))
