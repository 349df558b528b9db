-- Words by their first ones, and tests of several parts.
use Rattle.std.proofs.Common.{◌≡◌, ℕ, ◌<◌, ◌≤◌, ◌-◌, List, [], ◌∷◌, length, get_or, take, drop, suc, length-drop, take_all, Bool, true, false, ◌&&◌, ◌==◌, refl, ap, arith}
use Rattle.std.specs.declared.string.String.{String}
use Rattle.std.specs.String.{string_bytes}
use Rattle.vz_rules.specs.Command.{Word, same_text}
use Rattle.vz_words.specs.Words.{texts}

-- a test of two parts, and its parts
pub both : (a b : Bool) → a ≡ true → b ≡ true → (a && b) ≡ true
both true b p q = q
both false b p q = p

pub parts : (a b : Bool) → (a && b) ≡ true → (a ≡ true) × (b ≡ true)
parts true b h = (refl, h)
parts false b h = absurd (let e : false ≡ true = h in cc)

-- texts with the same bytes are one
pub same_text_is : (a b : Word) → same_text a b ≡ true → a ≡ b
same_text_is [] [] h = refl
same_text_is [] (b ∷ bs) h = cc
same_text_is (a ∷ as') [] h = cc
same_text_is (a ∷ as') (b ∷ bs) h = let k = parts (a == b) (same_text as' bs) h in let e : a ≡ b = grind arith in let es = same_text_is as' bs k.1 in cc

pub same_text_refl : (a : Word) → same_text a a ≡ true
same_text_refl [] = refl
same_text_refl (a ∷ as') = both (a == a) (same_text as' as') (grind arith) (same_text_refl as')

-- the words behind the first few
abbrev pub behind : {A : Type 0} → ℕ → List A → List A
behind k ws = take (length ws - k) (drop k ws)

behind_is : {A : Type 0} (k : ℕ) (ws : List A) → k ≤ length ws → behind k ws ≡ drop k ws
behind_is k ws some = take_all (length ws - k) (drop k ws) (omega (arith, length-drop k ws))

-- words by their first one, two, three and four
pub front_1 : {A : Type 0} (ws : List (String A)) (a : String A) → 1 ≤ length ws → a ≡ get_or ws 0 a → texts ws ≡ string_bytes a ∷ texts (behind 1 ws)
front_1 [] a some ia = absurd (omega arith)
front_1 (p ∷ ws) a some ia = rw (behind_is 1 (p ∷ ws) some) cc

pub front_2 : {A : Type 0} (ws : List (String A)) (a b : String A) → 2 ≤ length ws → a ≡ get_or ws 0 a → b ≡ get_or ws 1 b
    → texts ws ≡ string_bytes a ∷ string_bytes b ∷ texts (behind 2 ws)
front_2 [] a b some ia ib = absurd (omega arith)
front_2 (p ∷ []) a b some ia ib = absurd (omega arith)
front_2 (p ∷ q ∷ ws) a b some ia ib = rw (behind_is 2 (p ∷ q ∷ ws) some) cc

pub front_3 : {A : Type 0} (ws : List (String A)) (a b c : String A) → 3 ≤ length ws → a ≡ get_or ws 0 a → b ≡ get_or ws 1 b → c ≡ get_or ws 2 c
    → texts ws ≡ string_bytes a ∷ string_bytes b ∷ string_bytes c ∷ texts (behind 3 ws)
front_3 [] a b c some ia ib ic = absurd (omega arith)
front_3 (p ∷ []) a b c some ia ib ic = absurd (omega arith)
front_3 (p ∷ q ∷ []) a b c some ia ib ic = absurd (omega arith)
front_3 (p ∷ q ∷ r ∷ ws) a b c some ia ib ic = rw (behind_is 3 (p ∷ q ∷ r ∷ ws) some) cc

-- three words, and no more
pub all_3 : {A : Type 0} (ws : List (String A)) (a b c : String A) → length ws ≡ 3 → a ≡ get_or ws 0 a → b ≡ get_or ws 1 b → c ≡ get_or ws 2 c
    → texts ws ≡ string_bytes a ∷ string_bytes b ∷ string_bytes c ∷ []
all_3 (p ∷ q ∷ r ∷ []) a b c three ia ib ic = cc
all_3 [] a b c three ia ib ic = absurd (omega arith)
all_3 (p ∷ []) a b c three ia ib ic = absurd (omega arith)
all_3 (p ∷ q ∷ []) a b c three ia ib ic = absurd (omega arith)
all_3 (p ∷ q ∷ r ∷ s ∷ ws) a b c three ia ib ic = absurd (omega arith)

-- one word, and no more
pub all_1 : {A : Type 0} (ws : List (String A)) (a : String A) → length ws ≡ 1 → a ≡ get_or ws 0 a → texts ws ≡ string_bytes a ∷ []
all_1 (p ∷ []) a one ia = cc
all_1 [] a one ia = absurd (omega arith)
all_1 (p ∷ q ∷ ws) a one ia = absurd (omega arith)

pub length_texts : {A : Type 0} (ws : List (String A)) → length (texts ws) ≡ length ws
length_texts [] = refl
length_texts (w ∷ ws) = ap suc (length_texts ws)

-- fewer words than these are not these
pub too_few_1 : {A : Type 0} (ws : List (String A)) (a : Word) (rest : List Word) → length ws < 1 → texts ws ≡ a ∷ rest → ⊥
too_few_1 [] a rest few is = cc
too_few_1 (p ∷ ws) a rest few is = omega arith

pub too_few_2 : {A : Type 0} (ws : List (String A)) (a b : Word) (rest : List Word) → length ws < 2 → texts ws ≡ a ∷ b ∷ rest → ⊥
too_few_2 [] a b rest few is = cc
too_few_2 (p ∷ []) a b rest few is = cc
too_few_2 (p ∷ q ∷ ws) a b rest few is = omega arith

pub too_few_3 : {A : Type 0} (ws : List (String A)) (a b c : Word) (rest : List Word) → length ws < 3 → texts ws ≡ a ∷ b ∷ c ∷ rest → ⊥
too_few_3 [] a b c rest few is = cc
too_few_3 (p ∷ []) a b c rest few is = cc
too_few_3 (p ∷ q ∷ []) a b c rest few is = cc
too_few_3 (p ∷ q ∷ r ∷ ws) a b c rest few is = omega arith

pub none_of : {A : Type 0} (ws : List (String A)) → length ws < 1 → texts ws ≡ []
none_of [] few = refl
none_of (p ∷ ws) few = absurd (omega arith)
