-- Kinds of fields: what is read is spelled by the bytes taken and fits, what fits and is spelled is read again,
-- whatever follows, and each fault has its place.
use Rattle.std.proofs.Common.{◌≡◌, ℕ, ◌+◌, ◌<◌, ◌≤◌, Bool, true, false, ◌&&◌, cond, ltb, eqb}
use Rattle.std.proofs.Common.{List, [], ◌++◌, length, take, drop, Ok, Err, refl, sym, ap, subst, ◌∙◌}
use Rattle.std.proofs.Common.{append_assoc, arith, inl, inr}
use Rattle.std.proofs.lemmas.Bool.{and_parts, and_from, cases_lt, ltb-false, le-ltb, eq-eqb, eqb-true}
use Rattle.std.proofs.lemmas.List.{take_at, drop_at, take-append-drop, length-append, length-take-le, length-drop}
use Rattle.std.proofs.lemmas.List.{get_or_append_left, get_or_past}
use Rattle.vz_codec.specs.declared.fault.FileRule.{FileRule}
use Rattle.vz_codec.specs.declared.fault.FileRule.TheVariants as fault
use Rattle.vz_codec.specs.Reading.{Fault, Read, ◌>>=◌, ◌⊳◌, short, tested, made, checked, front_at}
use Rattle.vz_codec.specs.Fields.{Kind, field}
use Rattle.vz_codec.proofs.Numbers.{IsBytes, IsBytes-drop, Took, also}

-- a fault among n bytes: a short one stands at their end, any other at a byte that is there
pub record Placed (n : ℕ) (e : Fault) : Type 0 where
  pub within : e.left ≤ n
  pub at_end : e.rule ≡ fault.Short → e.left ≡ 0
  pub before_end : (e.rule ≡ fault.Short → ⊥) → 0 < e.left

-- what is said of a reading: the bytes that it took at least, and that they spell what fits, or where the fault stands
abbrev pub Judged : {A : Type 0} → (A → List ℕ) → (A → Bool) → ℕ → List ℕ → Read A → Type 0
Judged spell good least bytes (Ok x) =
    (length x.1 + least ≤ length bytes) × (IsBytes bytes → Took bytes (spell x.0) x.1 (good x.0))
Judged spell good least bytes (Err e) = Placed (length bytes) e

abbrev pub Judges : {A : Type 0} → Kind A → ℕ → List ℕ → Read A → Type 0
Judges k least bytes read = Judged k.spelling k.fitting least bytes read

-- what is said of reading a kind of field, whatever the bytes
abbrev pub IsRead : {A : Type 0} → Kind A → ℕ → Type 0
IsRead k least = (bytes : List ℕ) → Judges k least bytes (k.reading bytes)

-- the laws of a kind of field
pub record IsField {A : Type 0} (k : Kind A) (least : ℕ) : Type 0 where
  pub law : IsRead k least
  pub again : (a : A) (rest : List ℕ) → k.fitting a ≡ true → k.reading (k.spelling a ++ rest) ≡ Ok (a, rest)

-- the same kind by another test that says the same
pub refit : {A : Type 0} {k : Kind A} {l : ℕ} → IsField k l → (good : A → Bool) → ((a : A) → k.fitting a ≡ good a)
    → IsField (field k.reading k.spelling good) l
refit {A} {k} {l} t good same = subst (λ (f : A → Bool). IsField (field k.reading k.spelling f) l) (λ i a. same a i) t

-- a test that another one makes needless
pub implied : (a b : Bool) → (b ≡ true → a ≡ true) → (a && b) ≡ b
implied true b h = refl
implied false true h = h refl
implied false false h = refl

-- fewer bytes at least
pub lower : {A : Type 0} (k : Kind A) (l : ℕ) (bytes : List ℕ) (r : Read A) → Judges k l bytes r → Judges k 0 bytes r
lower k l bytes (Ok x) j = (omega (arith, j.0), j.1)
lower k l bytes (Err e) j = j

pub fewer : {A : Type 0} {k : Kind A} {l : ℕ} → IsField k l → IsField k 0
fewer {A} {k} {l} t = record { law = λ bytes. lower k l bytes (k.reading bytes) (t.law bytes); again = t.again }

-- ---- bytes as they stand

abbrev front_of : ℕ → Kind (List ℕ)
front_of n = field (front_at n) (λ xs. xs) (λ xs. eqb (length xs) n)

front_by : (n : ℕ) (bytes : List ℕ) (b : Bool) → ltb (length bytes) n ≡ b
    → Judges (front_of n) n bytes (cond b (Err short) (Ok (take n bytes, drop n bytes)))
front_by n bytes true e =
    record { within = omega arith; at_end = λ _. refl; before_end = λ other. absurd (other refl) }
front_by n bytes false e =
    let long : n ≤ length bytes = ltb-false _ _ e in
    let taken = length-take-le n bytes long in (
      omega (arith, length-drop n bytes),
      λ fits. record {
        parts = sym (take-append-drop n bytes);
        rest_fits = IsBytes-drop n bytes fits;
        fits = eq-eqb (length (take n bytes)) n taken;
      },
    )

pub fronts : (n : ℕ) → IsField (front_of n) n
fronts n = record {
  law = λ bytes. front_by n bytes (ltb (length bytes) n) refl;
  again = λ xs rest h.
      let len : length xs ≡ n = eqb-true _ _ h in
      let long : ltb (length (xs ++ rest)) n ≡ false = le-ltb _ _ (omega (arith, len, length-append xs rest)) in
      rw (long, take_at xs rest n len, drop_at xs rest n len) refl;
}

-- ---- a field, and then another

abbrev pub pair_of : {A B : Type 0} → Kind A → (A → Kind B) → Kind (A × B)
pair_of a b =
    field (a.reading ⊳ λ x. (b x).reading) (λ p. a.spelling p.0 ++ (b p.0).spelling p.1)
    (λ p. a.fitting p.0 && (b p.0).fitting p.1)

module _ {A B : Type 0} (a : Kind A) (b : A → Kind B) (la lb : ℕ)
    (t : IsRead a la) (u : (x : A) → IsRead (b x) lb) where
  second_by : (bytes : List ℕ) (x : A × List ℕ) → Judges a la bytes (Ok x) → (r : Read B) → Judges (b x.0) lb x.1 r
      → Judges (pair_of a b) (la + lb) bytes (r >>= λ y. Ok ((x.0, y.0), y.1))
  second_by bytes x j (Ok y) k = (omega (arith, j.0, k.0), λ fits. also (j.1 fits) (k.1 (j.1 fits).rest_fits))
  second_by bytes x j (Err e) k =
      record { within = omega (arith, j.0, k.within); at_end = k.at_end; before_end = k.before_end }

  first_by : (bytes : List ℕ) (r : Read A) → Judges a la bytes r
      → Judges (pair_of a b) (la + lb) bytes (r >>= λ x. (b x.0).reading x.1 >>= λ y. Ok ((x.0, y.0), y.1))
  first_by bytes (Ok x) j = second_by bytes x j ((b x.0).reading x.1) (u x.0 x.1)
  first_by bytes (Err e) j = j

  pub pair_read : IsRead (pair_of a b) (la + lb)
  pair_read bytes = first_by bytes (a.reading bytes) (t bytes)

pub thens : {A B : Type 0} {a : Kind A} {la : ℕ} {b : A → Kind B} {lb : ℕ} → IsField a la → ((x : A) → IsField (b x) lb)
    → IsField (pair_of a b) (la + lb)
thens {A} {B} {a} {la} {b} {lb} t u = record {
  law = pair_read a b la lb t.law (λ x. (u x).law);
  again = λ p rest h.
      let each = and_parts (a.fitting p.0) ((b p.0).fitting p.1) h in
      let one = t.again p.0 ((b p.0).spelling p.1 ++ rest) each.0 in
      let two = (u p.0).again p.1 rest each.1 in
      ap (pair_of a b).reading (append_assoc (a.spelling p.0) ((b p.0).spelling p.1) rest) ∙ rw (one, two) refl;
}

infixl 20 ◌⊠◌
pub ◌⊠◌ : {A B : Type 0} {a : Kind A} {la : ℕ} {b : Kind B} {lb : ℕ} → IsField a la → IsField b lb
    → IsField (pair_of a (λ _. b)) (la + lb)
t ⊠ u = thens t (λ _. u)

-- ---- a field whose value is good

abbrev check_of : {A : Type 0} → FileRule → (A → Bool) → Kind A → Kind A
check_of rule good k = field (checked rule good k.reading) k.spelling (λ a. k.fitting a && good a)

module _ {A : Type 0} {k : Kind A} {l : ℕ} (t : IsField k l) (some : 0 < l) (rule : FileRule)
    (other : rule ≡ fault.Short → ⊥) (good : A → Bool) where
  test_by : (bytes : List ℕ) (x : A × List ℕ) → Judges k l bytes (Ok x) → (b : Bool) → good x.0 ≡ b
      → Judges (check_of rule good k) l bytes (tested bytes rule b (Ok x))
  test_by bytes x j true e = (
    j.0,
    λ fits.
        let t = j.1 fits in
        record { parts = t.parts; rest_fits = t.rest_fits; fits = and_from (k.fitting x.0) (good x.0) t.fits e },
  )
  test_by bytes x j false e =
      record { within = omega arith; at_end = λ h. absurd (other h); before_end = λ _. omega (arith, j.0, some) }

  check_by : (bytes : List ℕ) (q : Read A) → Judges k l bytes q
      → Judges (check_of rule good k) l bytes (q >>= λ x. tested bytes rule (good x.0) (Ok x))
  check_by bytes (Ok x) j = test_by bytes x j (good x.0) refl
  check_by bytes (Err e) j = j

  pub checks : IsField (check_of rule good k) l
  checks = record {
    law = λ bytes. check_by bytes (k.reading bytes) (t.law bytes);
    again = λ a rest h. let each = and_parts (k.fitting a) (good a) h in rw (t.again a rest each.0, each.1) refl;
  }

-- ---- what is made of a field's value

text_fits : (bytes text rest : List ℕ) → bytes ≡ text ++ rest → IsBytes bytes → IsBytes text
text_fits bytes text rest parts fits i =
    elim (cases_lt i (length text)) [
      | inl lt ↦ rw (sym (get_or_append_left text rest 0 i lt), sym parts) (fits i)
      | inr le ↦ rw (get_or_past text i 0 le) (omega arith)
    ]

module _ {A B : Type 0} (k : Kind A) (l : ℕ) (to : A → B) (spell : B → List ℕ) (fit : B → Bool)
    (there : (a : A) → IsBytes (k.spelling a) → k.fitting a ≡ true
    → (spell (to a) ≡ k.spelling a) × (fit (to a) ≡ true)) where
  pub make_by : (bytes : List ℕ) (q : Read A) → Judges k l bytes q
      → Judged spell fit l bytes (q >>= λ x. Ok (to x.0, x.1))
  make_by bytes (Ok x) j = (
    j.0,
    λ fits.
        let took = j.1 fits in
        let h = there x.0 (text_fits bytes (k.spelling x.0) x.1 took.parts fits) took.fits in
        record { parts = took.parts ∙ ap (λ text. text ++ x.1) (sym h.0); rest_fits = took.rest_fits; fits = h.1 },
  )
  make_by bytes (Err e) j = j

-- what is made of a value is read again where the value is
pub remade : {A B : Type 0} {k : Kind A} {l : ℕ} → IsField k l → (to : A → B) (a : A) (rest : List ℕ)
    → k.fitting a ≡ true → made to k.reading (k.spelling a ++ rest) ≡ Ok (to a, rest)
remade t to a rest h = rw (t.again a rest h) refl

pub makes : {A B : Type 0} {k : Kind A} {l : ℕ} → IsField k l → (to : A → B) (spell : B → List ℕ) (fit : B → Bool)
    → ((a : A) → IsBytes (k.spelling a) → k.fitting a ≡ true → (spell (to a) ≡ k.spelling a) × (fit (to a) ≡ true))
    → ((b : B) → fit b ≡ true → (a : A) × (to a ≡ b) × (spell b ≡ k.spelling a) × (k.fitting a ≡ true))
    → IsField (field (made to k.reading) spell fit) l
makes {A} {B} {k} {l} t to spell fit there back = record {
  law = λ bytes. make_by k l to spell fit there bytes (k.reading bytes) (t.law bytes);
  again = λ b rest h.
      let from = back b h in
      ap (λ text. made to k.reading (text ++ rest)) from.2 ∙ remade t to from.0 rest from.3
      ∙ ap (λ x. Ok (x, rest)) from.1;
}

-- a record of a field's values
pub records : {A B : Type 0} {k : Kind A} {l : ℕ} → IsField k l → (to : A → B) (from : B → A)
    (spell : B → List ℕ) (fit : B → Bool) → ((a : A) → from (to a) ≡ a) → ((b : B) → to (from b) ≡ b)
    → ((b : B) → spell b ≡ k.spelling (from b)) → ((b : B) → fit b ≡ k.fitting (from b))
    → IsField (field (made to k.reading) spell fit) l
records {A} {B} {k} t to from spell fit there back same_text same_fit =
    makes t to spell fit
    (λ a _ h. (same_text (to a) ∙ ap k.spelling (there a), same_fit (to a) ∙ ap k.fitting (there a) ∙ h))
    (λ b h. (from b, back b, same_text b, sym (same_fit b) ∙ h))

-- a value that takes no bytes
pub alone : {A : Type 0} (a : A) (spell : A → List ℕ) (fit : A → Bool) → spell a ≡ [] → fit a ≡ true
    → ((x : A) → fit x ≡ true → a ≡ x) → IsField (field (λ bytes. Ok (a, bytes)) spell fit) 0
alone {A} a spell fit none good only = record {
  law = λ bytes. (
    omega arith,
    λ fits. record { parts = ap (λ text. text ++ bytes) (sym none); rest_fits = fits; fits = good },
  );
  again = λ x rest h.
      let same = only x h in
      let text : spell x ≡ [] = ap spell (sym same) ∙ none in
      rw text (ap (λ (y : A). Ok (y, rest)) same);
}
