-- The laws of values of several kinds, which a tag before them tells apart.
use Rattle.std.proofs.Common.{◌≡◌, ◌≢◌, ℕ, suc, ◌+◌, ◌<◌, ◌≤◌, Bool, true, false, ◌&&◌, cond, eqb}
use Rattle.std.proofs.Common.{List, [], ◌∷◌, ◌++◌, length, get_or, drop, Ok, refl, sym, ap, ◌∙◌, append_assoc, arith}
use Rattle.std.proofs.lemmas.Bool.{and_parts, eqb-true, eqb-false}
use Rattle.vz_frame.specs.Fits.{within}
use Rattle.vz_codec.specs.Spelling.{u8_bytes}
use Rattle.vz_codec.specs.Reading.{Read, Reading, made, bare, named, tagged, tag_at}
use Rattle.vz_codec.specs.Fields.{Kind, field}
use Rattle.vz_codec.proofs.Numbers.{IsBytes}
use Rattle.vz_codec.proofs.Lawful.{Judged, IsRead, IsField, lower, pair_of, pair_read, make_by}
use Rattle.vz_codec.proofs.Simple.{tags, in_range}

-- the tag of a value, and what stands behind it
abbrev pub tag_of : {A : Type 0} → (A → List ℕ) → A → ℕ
tag_of spell a = get_or (spell a) 0 0

abbrev pub behind : {A : Type 0} → (A → List ℕ) → A → List ℕ
behind spell a = drop 1 (spell a)

-- the values of a tag that fit
abbrev pub fits_as : {A : Type 0} → (A → List ℕ) → (A → Bool) → ℕ → A → Bool
fits_as spell fit tag a = eqb (tag_of spell a) tag && fit a

abbrev pub part : {A : Type 0} → (A → List ℕ) → (A → Bool) → ℕ → Reading A → Kind A
part spell fit tag read = field read (behind spell) (fits_as spell fit tag)

-- each reading reads what has its tag
abbrev pub AreParts : {A : Type 0} → (A → List ℕ) → (A → Bool) → ℕ → List (Reading A) → Reading A → Type 0
AreParts spell fit n [] last = IsRead (part spell fit n last) 0
AreParts spell fit n (read ∷ more) last = IsRead (part spell fit n read) 0 × AreParts spell fit (suc n) more last

infixr 3 ◌⨾◌
pub ◌⨾◌ : {P Q : Type 0} → P → Q → P × Q
p ⨾ q = (p, q)

-- the values of a tag that are made of another field's
pub turned : {A B : Type 0} {k : Kind A} {l : ℕ} → IsField k l → (spell : B → List ℕ) (fit : B → Bool) (n : ℕ)
    (to : A → B)
    → ((a : A) → k.fitting a ≡ true → (behind spell (to a) ≡ k.spelling a) × (fits_as spell fit n (to a) ≡ true))
    → IsRead (part spell fit n (made to k.reading)) 0
turned {A} {B} {k} {l} t spell fit n to there bytes =
    lower (part spell fit n (made to k.reading)) l bytes (made to k.reading bytes)
    (make_by k l to (behind spell) (fits_as spell fit n) (λ a _ h. there a h) bytes (k.reading bytes) (t.law bytes))

-- a value that is its tag alone
pub lone : {A : Type 0} (spell : A → List ℕ) (fit : A → Bool) (n : ℕ) (a : A) → behind spell a ≡ []
    → fits_as spell fit n a ≡ true → IsRead (part spell fit n (bare a)) 0
lone spell fit n a none good bytes =
    (omega arith, λ fits. record { parts = ap (λ text. text ++ bytes) (sym none); rest_fits = fits; fits = good })

-- the tag whose reading is chosen
abbrev chosen : {A : Type 0} → ℕ → List (Reading A) → ℕ → ℕ
chosen n [] tag = n
chosen n (read ∷ more) tag = cond (eqb tag n) n (chosen (suc n) more tag)

chosen_by : (n tag m : ℕ) (b : Bool) → eqb tag n ≡ b → (tag ≢ n → m ≡ tag) → cond b n m ≡ tag
chosen_by n tag m true e other = sym (eqb-true tag n e)
chosen_by n tag m false e other = other (eqb-false tag n e)

chosen_is : {A : Type 0} (n : ℕ) (reads : List (Reading A)) (tag : ℕ) → n ≤ tag → tag ≤ n + length reads
    → chosen n reads tag ≡ tag
chosen_is n [] tag low high = omega arith
chosen_is n (read ∷ more) tag low high =
    chosen_by n tag (chosen (suc n) more tag) (eqb tag n) refl
    (λ other. chosen_is (suc n) more tag (omega arith) (omega arith))

module _ {A : Type 0} (spell : A → List ℕ) (fit : A → Bool) where
  either : (b : Bool) (n m : ℕ) (bytes : List ℕ) (p q : Read A) → Judged (behind spell) (fits_as spell fit n) 0 bytes p
      → Judged (behind spell) (fits_as spell fit m) 0 bytes q
      → Judged (behind spell) (fits_as spell fit (cond b n m)) 0 bytes (cond b p q)
  either true n m bytes p q one two = one
  either false n m bytes p q one two = two

  named_read : (n : ℕ) (reads : List (Reading A)) (last : Reading A) → AreParts spell fit n reads last → (tag : ℕ)
      → IsRead (part spell fit (chosen n reads tag) (named n reads last tag)) 0
  named_read n [] last t tag bytes = t bytes
  named_read n (read ∷ more) last t tag bytes =
      either (eqb tag n) n (chosen (suc n) more tag) bytes (read bytes) (named (suc n) more last tag bytes) (t.0 bytes)
      (named_read (suc n) more last t.1 tag bytes)

  -- a value's tag is one of them, and the value is read again by it
  abbrev pub IsTold : ℕ → List (Reading A) → Reading A → A → Type 0
  IsTold low reads last a =
      let tag = tag_of spell a in
      (spell a ≡ u8_bytes tag ++ behind spell a) × (within low (low + length reads) tag ≡ true)
      × ((rest : List ℕ) → fit a ≡ true → named low reads last tag (behind spell a ++ rest) ≡ Ok (a, rest))

  module _ (low : ℕ) (reads : List (Reading A)) (last : Reading A) (small : low + length reads < 256)
      (parts : AreParts spell fit low reads last) (told : (a : A) → IsTold low reads last a) where
    abbrev tag_kind : Kind ℕ
    tag_kind = field (tag_at low (low + length reads)) u8_bytes (within low (low + length reads))

    abbrev part_of : ℕ → Kind A
    part_of n = part spell fit (chosen low reads n) (named low reads last n)

    tagged_there : (p : ℕ × A) → (tag_kind.fitting p.0 && (part_of p.0).fitting p.1) ≡ true
        → (spell p.1 ≡ u8_bytes p.0 ++ behind spell p.1) × (fit p.1 ≡ true)
    tagged_there p h =
        let each = and_parts (tag_kind.fitting p.0) ((part_of p.0).fitting p.1) h in
        let is = and_parts (eqb (tag_of spell p.1) (chosen low reads p.0)) (fit p.1) each.1 in
        let range = in_range low (low + length reads) p.0 each.0 in
        let same : tag_of spell p.1 ≡ p.0 = eqb-true _ _ is.0 ∙ chosen_is low reads p.0 range.0 range.1 in
        ((told p.1).0 ∙ ap (λ n. u8_bytes n ++ behind spell p.1) same, is.1)

    pub tagged_field : IsField (field (tagged low reads last) spell fit) 1
    unfolding tagged
    tagged_field =
        let tag = tags low (low + length reads) small in
        let both = pair_read tag_kind part_of 1 0 tag.law (named_read low reads last parts) in
        let there = λ (p : ℕ × A). λ (_ : IsBytes ((pair_of tag_kind part_of).spelling p)). tagged_there p in
        record {
          law = λ bytes. make_by (pair_of tag_kind part_of) 1 (λ p. p.1) spell fit there bytes _ (both bytes);
          again = λ a rest h.
              let front = u8_bytes (tag_of spell a) in
              let text = ap (λ text. text ++ rest) (told a).0 ∙ append_assoc front (behind spell a) rest in
              rw (text, tag.again (tag_of spell a) (behind spell a ++ rest) (told a).1, (told a).2 rest h) refl;
        }
