-- The colours of bytes, and the texels of blocks.
use Rattle.std.proofs.Common.{◌≡◌, ℕ, zero, suc, ◌+◌, ◌-◌, ◌*◌, ◌<◌, ◌≤◌, ◌/◌, Bool, true, false, ◌&&◌, List, [], ◌∷◌, ◌++◌, length, map, get_or, nat_lt, Option, Some, None, IsSome, IfSome, IsTrue, is_some, nat_le, ◌==◌, ◌↔◌, refl, ap, subst, sym, ◌∙◌, arith}
use Rattle.std.specs.List.{range_with_len, list_all}
use Rattle.std.proofs.Math.Nat.{mul-le-mul_right}
use Rattle.std.proofs.lemmas.List.{get_or_default}
use Rattle.std.proofs.lemmas.List.Folds.{list_all-append, list_all_at}
use Rattle.std.proofs.lemmas.List.FromFn.{map-range_with_len_more, length-map-range_with_len, get_or-map-range_with_len}
use Rattle.vz_pixels.specs.Colour.{Colour, is_premultiplied, transparent}
use Rattle.vz_pixels.specs.Block.{Block, IsBlock, is_block_size, texel, colour_at, colours_of, are_premultiplied}

-- the first k colours
abbrev pub colours_upto : List ℕ → ℕ → List Colour
colours_upto bytes k = map (colour_at bytes) (range_with_len 0 k)

pub one_more : (bytes : List ℕ) (k : ℕ) → colours_upto bytes (k + 1) ≡ colours_upto bytes k ++ colour_at bytes k ∷ []
one_more bytes k = map-range_with_len_more (colour_at bytes) 0 k k (omega arith)

one_is : (c : Colour) → is_premultiplied c ≡ true → list_all is_premultiplied (c ∷ []) ≡ true
one_is c h = rw h refl

both : (a b : Bool) → a ≡ true → b ≡ true → (a && b) ≡ true
both a b p q = rw (p, q)

-- one more colour is premultiplied
pub all_more : (bytes : List ℕ) (k : ℕ) → list_all is_premultiplied (colours_upto bytes k) ≡ true → is_premultiplied (colour_at bytes k) ≡ true
    → list_all is_premultiplied (colours_upto bytes (k + 1)) ≡ true
all_more bytes k h p =
    ap (list_all is_premultiplied) (one_more bytes k) ∙ list_all-append is_premultiplied (colours_upto bytes k) (colour_at bytes k ∷ [])
    ∙ both _ _ h (one_is (colour_at bytes k) p)

-- one colour is not
pub not_all : (bytes : List ℕ) (k n : ℕ) → k < n → is_premultiplied (colour_at bytes k) ≡ false → list_all is_premultiplied (colours_upto bytes n) ≡ false
not_all bytes k n below h =
    let long : length (colours_upto bytes n) ≡ n = length-map-range_with_len (colour_at bytes) 0 n in
    let at_k : get_or (colours_upto bytes n) k transparent ≡ colour_at bytes k = get_or-map-range_with_len (colour_at bytes) 0 n k k transparent below (omega arith) in
    list_all_at is_premultiplied (colours_upto bytes n) k transparent (omega arith) (ap is_premultiplied at_k ∙ h)

-- where all are premultiplied, each is
pub one_of_all : (bytes : List ℕ) (k n : ℕ) → k < n → list_all is_premultiplied (colours_upto bytes n) ≡ true → is_premultiplied (colour_at bytes k) ≡ true
one_of_all bytes k n below all = cases (is_premultiplied (colour_at bytes k)) (λ h. not_all bytes k n below h)
  where
    clash : {P : Type 0} → list_all is_premultiplied (colours_upto bytes n) ≡ false → P
    clash e = absurd (other (list_all is_premultiplied (colours_upto bytes n)) all e)
      where
        other : (t : Bool) → t ≡ true → t ≡ false → ⊥
        other t p q = cc

    cases : (t : Bool) → (t ≡ false → list_all is_premultiplied (colours_upto bytes n) ≡ false) → t ≡ true
    cases true f = refl
    cases false f = clash (f refl)

inside : (x y w h : ℕ) → x < w → y < h → y * w + x < w * h
inside x y w h across down =
    let rows : (y + 1) * w ≤ h * w = mul-le-mul_right w (omega arith) in
    let one : (y + 1) * w ≡ y * w + w = grind arith in
    let turned : h * w ≡ w * h = grind arith in
    omega arith

lt_true : (a b : ℕ) → a < b → nat_lt a b ≡ true
lt_true a b h = grind arith

-- what stands at the place of a column and a row is the texel
pub texel_is : (b c : Block) → b ≡ c → IsBlock b → (x y : ℕ) (p : Colour) → x < c.w → y < c.h → p ≡ get_or b.pixels (y * b.w + x) p → p ≡ texel c x y
unfolding texel
texel_is b c same is x y p across down e =
    let P : Block → Type 0 = λ k. p ≡ get_or k.pixels (y * k.w + x) p in
    let one : IsBlock c = subst IsBlock same is in
    let low : y * c.w + x < length c.pixels = let all = one.all in let i = inside x y c.w c.h across down in omega arith in
    rw (lt_true x c.w across) (subst P same e ∙ get_or_default c.pixels (y * c.w + x) p transparent low)

-- all colours of the bytes are the first ones, up to the last
pub whole_is : (bytes : List ℕ) (k : ℕ) → k ≡ length bytes / 4 → colours_upto bytes k ≡ colours_of bytes
unfolding colours_of
whole_is bytes k e = ap (colours_upto bytes) e

pub all_is : (bytes : List ℕ) (k : ℕ) → k ≡ length bytes / 4 → list_all is_premultiplied (colours_upto bytes k) ≡ are_premultiplied bytes
unfolding are_premultiplied
all_is bytes k e = ap (list_all is_premultiplied) (whole_is bytes k e)

-- there is none exactly where the test fails
pub none_fails : {A : Type 0} (o : Option A) (t : Bool) → IsSome o ↔ IsTrue t → is_some o ≡ false → t ≡ false
none_fails None false h e = refl
none_fails None true h e = let clash : false ≡ true = h.1 refl in absurd (cc)
none_fails (Some a) t h e = absurd (cc)

pub some_holds : {A : Type 0} (o : Option A) (t : Bool) → IsSome o ↔ IsTrue t → is_some o ≡ true → t ≡ true
some_holds o t h e = h.0 e

-- a value that is there and is what the test asks for
pub some_is : {A : Type 0} (o : Option A) (a b : A) → o ≡ Some a → IfSome o (λ x. x ≡ b) → a ≡ b
some_is {A} o a b e h = let P : Option A → Type 0 = λ p. IfSome p (λ x. x ≡ b) in subst P e h

-- one more pixel at the end
pub pushed : (bytes : List ℕ) (k : ℕ) (xs ys : List Colour) (p : Colour) → xs ≡ colours_upto bytes k → p ≡ colour_at bytes k → ys ≡ xs ++ p ∷ [] → ys ≡ colours_upto bytes (k + 1)
pushed bytes k xs ys p e f g = g ∙ ap (λ zs. zs ++ p ∷ []) e ∙ ap (λ q. colours_upto bytes k ++ q ∷ []) f ∙ sym (one_more bytes k)

length_is : (bytes : List ℕ) → length (colours_of bytes) ≡ length bytes / 4
length_is bytes = ap length (sym (whole_is bytes (length bytes / 4) refl)) ∙ length-map-range_with_len (colour_at bytes) 0 (length bytes / 4)

parts : (a b : Bool) → (a && b) ≡ true → (a ≡ true) × (b ≡ true)
parts true b h = (refl, h)
parts false b h = absurd (cc)

true_le : (a b : ℕ) → nat_le a b ≡ true → a ≤ b
true_le a b h = grind arith

true_eq : (a b : ℕ) → (a == b) ≡ true → a ≡ b
true_eq a b h = grind arith

-- the colours of bytes of a right size make a block
pub makes_block : (w h : ℕ) (bytes : List ℕ) (pixels : List Colour) → is_block_size w h (length bytes) ≡ true → pixels ≡ colours_of bytes → IsBlock (record { w = w; h = h; pixels = pixels })
makes_block w h bytes pixels size e =
    let k = parts _ _ size in
    let sides = parts _ _ k.0 in
    let wide = parts _ _ sides.0 in
    let high = parts _ _ sides.1 in
    let four = true_eq (length bytes) (4 * (w * h)) k.1 in
    record {
      w_from = true_le 1 w wide.0;
      w_to = true_le w 256 wide.1;
      h_from = true_le 1 h high.0;
      h_to = true_le h 256 high.1;
      all = ap length e ∙ length_is bytes ∙ omega arith;
    }

-- one more colour is premultiplied or not
pub upto_more : (bytes : List ℕ) (k : ℕ) → list_all is_premultiplied (colours_upto bytes (k + 1)) ≡ (list_all is_premultiplied (colours_upto bytes k) && is_premultiplied (colour_at bytes k))
upto_more bytes k =
    ap (list_all is_premultiplied) (one_more bytes k) ∙ list_all-append is_premultiplied (colours_upto bytes k) (colour_at bytes k ∷ [])
    ∙ ap (λ t. list_all is_premultiplied (colours_upto bytes k) && t) (single (colour_at bytes k))
  where
    and_true : (t : Bool) → (t && true) ≡ t
    and_true true = refl
    and_true false = refl

    single : (c : Colour) → list_all is_premultiplied (c ∷ []) ≡ is_premultiplied c
    single c = and_true (is_premultiplied c)

-- and so with what was found before it
pub row_more : (bytes : List ℕ) (from k : ℕ) (good t : Bool) → list_all is_premultiplied (colours_upto bytes k) ≡ (list_all is_premultiplied (colours_upto bytes from) && good)
    → t ≡ is_premultiplied (colour_at bytes k)
    → list_all is_premultiplied (colours_upto bytes (k + 1)) ≡ (list_all is_premultiplied (colours_upto bytes from) && (good && t))
row_more bytes from k good t before e =
    upto_more bytes k ∙ ap (λ x. x && is_premultiplied (colour_at bytes k)) before ∙ assoc (list_all is_premultiplied (colours_upto bytes from)) good (is_premultiplied (colour_at bytes k))
    ∙ ap (λ x. list_all is_premultiplied (colours_upto bytes from) && (good && x)) (sym e)
  where
    assoc : (a b c : Bool) → ((a && b) && c) ≡ (a && (b && c))
    assoc true b c = refl
    assoc false b c = refl

-- where not all of the first ones are premultiplied, not all of more are
pub upto_stays : (bytes : List ℕ) (m d : ℕ) → list_all is_premultiplied (colours_upto bytes m) ≡ false → list_all is_premultiplied (colours_upto bytes (m + d)) ≡ false
upto_stays bytes m zero h = let same : m + 0 ≡ m = omega arith in rw same h
upto_stays bytes m (suc d) h =
    let more : m + suc d ≡ (m + d) + 1 = omega arith in
    ap (λ n. list_all is_premultiplied (colours_upto bytes n)) more ∙ upto_more bytes (m + d)
    ∙ ap (λ t. t && is_premultiplied (colour_at bytes (m + d))) (upto_stays bytes m d h)

and_false : (a b : Bool) → b ≡ false → (a && b) ≡ false
and_false true b h = h
and_false false b h = refl

-- where not all of the first ones are premultiplied, not all are
pub upto_fails : (bytes : List ℕ) (m : ℕ) → m ≤ length bytes / 4 → list_all is_premultiplied (colours_upto bytes m) ≡ false → false ≡ are_premultiplied bytes
upto_fails bytes m below h =
    let split : length bytes / 4 ≡ m + (length bytes / 4 - m) = omega arith in
    sym (ap (λ n. list_all is_premultiplied (colours_upto bytes n)) split ∙ upto_stays bytes m (length bytes / 4 - m) h) ∙ all_is bytes (length bytes / 4) refl

-- a row with one that is not
pub row_fails : (bytes : List ℕ) (from : ℕ) → from + 16 ≤ length bytes / 4 → list_all is_premultiplied (colours_upto bytes (from + 16)) ≡ (list_all is_premultiplied (colours_upto bytes from) && false) → false ≡ are_premultiplied bytes
row_fails bytes from below e = upto_fails bytes (from + 16) below (e ∙ and_false _ false refl)

-- one that is not
pub one_fails : (bytes : List ℕ) (k : ℕ) → k < length bytes / 4 → false ≡ is_premultiplied (colour_at bytes k) → false ≡ are_premultiplied bytes
one_fails bytes k below e = upto_fails bytes (k + 1) (omega arith) (upto_more bytes k ∙ and_false _ _ (sym e))

pub all_hold : (bytes : List ℕ) (k : ℕ) → k ≡ length bytes / 4 → list_all is_premultiplied (colours_upto bytes k) ≡ true → true ≡ are_premultiplied bytes
all_hold bytes k e h = sym h ∙ all_is bytes k e
