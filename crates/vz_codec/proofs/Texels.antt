-- Many colours at once: where their bytes are there and premultiplied, they are what stands there.
use Rattle.std.proofs.Common.{◌≡◌, ℕ, zero, suc, ◌+◌, ◌*◌, ◌/◌, ◌<◌, ◌≤◌, Bool, true, false, ◌↔◌, ◌∙◌, arith}
use Rattle.std.proofs.Common.{Result, List, [], ◌∷◌, ◌++◌, length, take, drop, get_or, Ok, Err, refl, sym, ap}
use Rattle.std.specs.List.{flat_map}
use Rattle.std.proofs.Math.Seq.{take-add}
use Rattle.std.proofs.lemmas.Bool.{and_from, eq-eqb}
use Rattle.std.proofs.lemmas.Grind.{flat_map-append}
use Rattle.std.proofs.lemmas.List.{get_or-drop, get_or-take, length-take-le, length-drop, take_all, take-append-drop}
use Rattle.std.proofs.lemmas.List.FromFn.{length-map-range_with_len}
use Rattle.vz_pixels.specs.Block.{Block, colour_at as texel_at, colours_of, are_premultiplied}
use Rattle.vz_pixels.proofs.Bytes.{colours_upto, one_more, all_is, whole_is}
use Rattle.vz_pixels.specs.declared.block.BlockError.{BlockError}
use Rattle.vz_pixels.specs.declared.block.BlockError.TheVariants.{BadSize, NotPremultiplied}
use Rattle.vz_pixels.specs.Colour.{colour_bytes}
use Rattle.vz_codec.specs.Reading.{colour_of, colour_at, many_at}
use Rattle.vz_codec.proofs.Many.{manys}
use Rattle.vz_codec.proofs.Simple.{four_bytes, colours_where}

byte_is : (bytes : List ℕ) (m j : ℕ) → j < 4 → get_or (take 4 (drop m bytes)) j 0 ≡ get_or bytes (m + j) 0
byte_is bytes m j small = get_or-take 4 (drop m bytes) j 0 small ∙ get_or-drop m bytes j 0

texel_is : (bytes : List ℕ) (k : ℕ) → colour_of (take 4 (drop (4 * k) bytes)) ≡ texel_at bytes k
texel_is bytes k =
    let first : 4 * k + 0 ≡ 4 * k = omega arith in
    let r = byte_is bytes (4 * k) 0 (omega arith) ∙ ap (λ i. get_or bytes i 0) first in
    let g = byte_is bytes (4 * k) 1 (omega arith) in
    let b = byte_is bytes (4 * k) 2 (omega arith) in
    let a = byte_is bytes (4 * k) 3 (omega arith) in
    λ i. record { r = r i; g = g i; b = b i; a = a i }

-- the first colours are spelled by the first bytes
spelled : (bytes : List ℕ) (k : ℕ) → 4 * k ≤ length bytes
    → flat_map colour_bytes (colours_upto bytes k) ≡ take (4 * k) bytes
spelled bytes zero there = refl
spelled bytes (suc k) there =
    let next : suc k ≡ k + 1 = omega arith in
    let more : 4 * k + 4 ≡ 4 * suc k = omega arith in
    let front = spelled bytes k (omega arith) in
    let four = take 4 (drop (4 * k) bytes) in
    let long : length four ≡ 4 = length-take-le 4 (drop (4 * k) bytes) (omega (arith, length-drop (4 * k) bytes)) in
    let last = ap colour_bytes (sym (texel_is bytes k)) ∙ four_bytes four long in
    ap (λ m. flat_map colour_bytes (colours_upto bytes m)) next ∙ ap (flat_map colour_bytes) (one_more bytes k)
    ∙ flat_map-append colour_bytes (colours_upto bytes k) (texel_at bytes k ∷ []) ∙ (λ i. front i ++ last i)
    ∙ sym (take-add (4 * k) 4 bytes) ∙ ap (λ m. take m bytes) more

-- all of them
texels : (bytes : List ℕ) (n : ℕ) → 4 * n ≤ length bytes → let front = take (4 * n) bytes in
    are_premultiplied front ≡ true → many_at colour_at n bytes ≡ Ok (colours_of front, drop (4 * n) bytes)
texels bytes n there good =
    let front = take (4 * n) bytes in
    let long : length (take (4 * n) bytes) ≡ 4 * n = length-take-le (4 * n) bytes there in
    let count : n ≡ length front / 4 = omega arith in
    let pixels = colours_upto front n in
    let rest = drop (4 * n) bytes in
    let text = spelled front n (omega arith) ∙ take_all (4 * n) front (omega arith) in
    let all = eq-eqb _ _ (length-map-range_with_len (texel_at front) 0 n) in
    let fits = and_from _ _ all (all_is front n count ∙ good) in
    let read = (manys (colours_where (λ _. true) (λ _ _. refl)) n).again pixels rest fits in
    ap (many_at colour_at n) (sym (take-append-drop (4 * n) bytes) ∙ ap (λ xs. xs ++ rest) (sym text)) ∙ read
    ∙ ap (λ ps. Ok (ps, rest)) (whole_is front n count)

-- what is not refused is premultiplied
not_refused : (r : Result Block BlockError) (block : Block) (sized good : Bool) → r ≡ Ok block
    → (r ≡ Err BadSize) ↔ (sized ≡ false) → (r ≡ Err NotPremultiplied) ↔ ((sized ≡ true) × (good ≡ false)) → good ≡ true
not_refused r block sized true is bad_size refused = refl
not_refused r block true false is bad_size refused = let other = refused.1 (refl, refl) in absurd (cc)
not_refused r block false false is bad_size refused = let other = bad_size.1 refl in absurd (cc)

-- a block that is made of the bytes that are left has the colours that are read
pub block_there : (bytes rest : List ℕ) (n : ℕ) (r : Result Block BlockError) (block : Block) (sized : Bool)
    → rest ≡ bytes → 4 * n ≤ length bytes → let front = take (4 * n) rest in r ≡ Ok block
    → (r ≡ Err BadSize) ↔ (sized ≡ false)
    → (r ≡ Err NotPremultiplied) ↔ ((sized ≡ true) × (are_premultiplied front ≡ false))
    → block.pixels ≡ colours_of front → many_at colour_at n bytes ≡ Ok (block.pixels, drop (4 * n) bytes)
block_there bytes rest n r block sized same there is bad_size refused block_is =
    let good = not_refused r block sized (are_premultiplied (take (4 * n) rest)) is bad_size refused in
    texels bytes n there (ap (λ xs. are_premultiplied (take (4 * n) xs)) (sym same) ∙ good)
    ∙ ap (λ ps. Ok (ps, drop (4 * n) bytes)) (ap (λ xs. colours_of (take (4 * n) xs)) (sym same) ∙ sym block_is)
