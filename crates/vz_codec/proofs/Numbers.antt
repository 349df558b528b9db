-- Numbers of bytes: what is read is spelled so, and what is spelled is read again.
use Rattle.std.proofs.Common.{◌≡◌, ℕ, zero, suc, ◌+◌, ◌-◌, ◌*◌, ◌/◌, ◌%◌, ◌^◌, ◌<◌, Bool, true, ◌&&◌}
use Rattle.std.proofs.Common.{List, [], ◌∷◌, ◌++◌, length, get_or, drop, refl, sym, ap, ◌∙◌, append_assoc, arith}
use Rattle.std.specs.Int.{Width, byte_len, byte_at, byte_worth, bytes_low_first, sum_through}
use Rattle.std.specs.Int.{from_le_bytes, to_le_bytes}
use Rattle.std.proofs.lemmas.Bool.{and_from}
use Rattle.std.proofs.lemmas.List.{get_or-drop}
use Rattle.std.proofs.Math.Nat.{pow-suc, div-div-eq-div-mul}

abbrev pub IsBytes : List ℕ → Type 0
IsBytes bytes = (i : ℕ) → get_or bytes i 0 < 256

pub IsBytes-drop : (n : ℕ) (bytes : List ℕ) → IsBytes bytes → IsBytes (drop n bytes)
IsBytes-drop n bytes h i = rw get_or-drop (h (n + i))

-- what was taken from the front, and whether it fits
pub record Took (bytes text rest : List ℕ) (good : Bool) : Type 0 where
  pub parts : bytes ≡ text ++ rest
  pub rest_fits : IsBytes rest
  pub fits : good ≡ true

-- first one field, and then another
pub also : {bytes text mid more rest : List ℕ} {p q : Bool} → Took bytes text mid p → Took mid more rest q
    → Took bytes (text ++ more) rest (p && q)
also {bytes} {text} {mid} {more} {rest} {p} {q} t u =
    record {
      parts = t.parts ∙ ap (λ (r : List ℕ). text ++ r) u.parts ∙ sym (append_assoc text more rest);
      rest_fits = u.rest_fits;
      fits = and_from p q t.fits u.fits;
    }

-- ---- a number by its bytes one after the other, the low one first, and its bytes

abbrev value : List ℕ → ℕ
value [] = 0
value (b ∷ bs) = b + 256 * value bs

abbrev spelled : ℕ → ℕ → List ℕ
spelled zero n = []
spelled (suc k) n = (n % 256) ∷ spelled k (n / 256)

spelled_length : (k n : ℕ) → length (spelled k n) ≡ k
spelled_length zero n = refl
spelled_length (suc k) n = ap suc (spelled_length k (n / 256))

value_spelled : (k n : ℕ) → n < 256 ^ k → value (spelled k n) ≡ n
value_spelled zero n few = omega arith
value_spelled (suc k) n few =
    let p = pow-suc 256 k in
    let high : n / 256 < 256 ^ k = omega arith in
    omega (arith, value_spelled k (n / 256) high)

spelled_value : (bs : List ℕ) → IsBytes bs → spelled (length bs) (value bs) ≡ bs
spelled_value [] small = refl
spelled_value (b ∷ bs) small =
    let byte : b < 256 = small 0 in
    let low : (b + 256 * value bs) % 256 ≡ b = omega arith in
    let high : (b + 256 * value bs) / 256 ≡ value bs = omega arith in
    λ i. low i ∷ (ap (spelled (length bs)) high ∙ spelled_value bs (λ j. small (suc j))) i

value_below : (bs : List ℕ) → IsBytes bs → value bs < 256 ^ length bs
value_below [] small = omega arith
value_below (b ∷ bs) small =
    let byte : b < 256 = small 0 in
    omega (arith, pow-suc 256 (length bs), value_below bs (λ j. small (suc j)))

-- ---- the same as one sum and as parts of one number

abbrev total : (ℕ → ℕ) → ℕ → ℕ
total byte k = sum_through (λ i. byte_worth i (byte i)) k

scaled : (x p q : ℕ) → q ≡ p * 256 → x * q ≡ 256 * (x * p)
scaled x p q is = ap (λ m. x * m) is ∙ grind arith

total_step : (byte : ℕ → ℕ) (k : ℕ) → total byte (suc k) ≡ byte 0 + 256 * total (λ i. byte (suc i)) k
total_step byte zero = omega arith
total_step byte (suc k) =
    let last = scaled (byte (suc (suc k))) (256 ^ suc k) (256 ^ suc (suc k)) (pow-suc 256 (suc k)) in
    omega (arith, total_step byte k, last)

total_is : (k : ℕ) (bs : List ℕ) → length bs ≡ suc k → total (λ i. get_or bs i 0) k ≡ value bs
total_is k [] len = absurd (omega arith)
total_is zero (b ∷ []) len = omega arith
total_is zero (b ∷ c ∷ bs) len = absurd (omega arith)
total_is (suc k) (b ∷ bs) len =
    let rest = total_is k bs (omega arith) in
    total_step (λ i. get_or (b ∷ bs) i 0) k ∙ ap (λ n. b + 256 * n) rest

byte_is : (i n : ℕ) → byte_at i n ≡ n / 256 ^ i % 256
byte_is zero n = omega arith
byte_is (suc i) n = refl

parts_are : (k i n : ℕ) → bytes_low_first i k n ≡ spelled k (n / 256 ^ i)
parts_are zero i n = refl
parts_are (suc k) i n =
    let next : n / 256 ^ suc i ≡ n / 256 ^ i / 256 =
    ap (λ p. n / p) (pow-suc 256 i) ∙ sym (div-div-eq-div-mul n (256 ^ i) 256) in
    λ j. byte_is i n j ∷ (parts_are k (suc i) n ∙ ap (spelled k) next) j

-- ---- numbers of a width

module _ (w : Width) (some : 0 < byte_len w) where
  bytes_are : (n : ℕ) → to_le_bytes w n ≡ spelled (byte_len w) n
  bytes_are n =
      let whole : n / 256 ^ 0 ≡ n = omega arith in
      parts_are (byte_len w) 0 n ∙ ap (spelled (byte_len w)) whole

  number_is : (bytes : List ℕ) → length bytes ≡ byte_len w → from_le_bytes w bytes ≡ value bytes
  number_is bytes len = total_is (byte_len w - 1) bytes (omega arith)

  pub le_length : (n : ℕ) → length (to_le_bytes w n) ≡ byte_len w
  le_length n = ap (λ (bs : List ℕ). length bs) (bytes_are n) ∙ spelled_length (byte_len w) n

  pub le_back : (bytes : List ℕ) → length bytes ≡ byte_len w → IsBytes bytes
      → to_le_bytes w (from_le_bytes w bytes) ≡ bytes
  le_back bytes len small =
      bytes_are (from_le_bytes w bytes) ∙ ap (spelled (byte_len w)) (number_is bytes len)
      ∙ ap (λ k. spelled k (value bytes)) (sym len) ∙ spelled_value bytes small

  pub le_again : (n : ℕ) → n < 256 ^ byte_len w → from_le_bytes w (to_le_bytes w n) ≡ n
  le_again n few = number_is (to_le_bytes w n) (le_length n) ∙ ap value (bytes_are n) ∙ value_spelled (byte_len w) n few

  pub le_below : (bytes : List ℕ) → length bytes ≡ byte_len w → IsBytes bytes → from_le_bytes w bytes < 256 ^ byte_len w
  le_below bytes len small = rw (number_is bytes len, sym len) (value_below bytes small)
