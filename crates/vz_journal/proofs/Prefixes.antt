-- The lines that a text begins with.
use Rattle.std.proofs.Common.{◌≡◌, ℕ, zero, suc, ◌+◌, ◌≤◌, Bool, true, false, not, ◌==◌, List, [], ◌∷◌, ◌++◌, length, le_refl, cond, count_by, Some, None, refl, sym, ap, ◌∙◌, append_assoc, if◌then◌else◌, arith, eqb-true}
use Rattle.std.specs.List.{list_all, flat_map}
use Rattle.std.proofs.lemmas.Bool.{and_parts, and_from, not-true}
use Rattle.std.proofs.lemmas.List.{length-append}
use Rattle.std.proofs.lemmas.List.Sums.{sum_by-cons}
use Rattle.vz_rules.specs.Log.{lines_upto}
use Rattle.vz_journal.specs.Reading.{Read, items_at, all_at, with_first}
use Rattle.vz_journal.proofs.Chosen.{either}
use Rattle.vz_journal.proofs.Took.{Taking}
use Rattle.vz_journal.proofs.Again.{Again, anything, all_again}
use Rattle.vz_journal.proofs.Feeds.{is_within, no_feed, IsLine}

abbrev pub is_feed : ℕ → Bool
is_feed b = b == 10

-- how many lines a text has
abbrev pub feeds : List ℕ → ℕ
feeds bytes = count_by is_feed bytes

feeds_cons : (b : ℕ) (bs : List ℕ) → feeds (b ∷ bs) ≡ cond (is_feed b) 1 0 + feeds bs
feeds_cons b bs = sum_by-cons (λ (c : ℕ). cond (is_feed c) 1 0) b bs

feeds_other : (b : ℕ) (bs : List ℕ) → is_feed b ≡ false → feeds (b ∷ bs) ≡ feeds bs
feeds_other b bs other =
    let none : 0 + feeds bs ≡ feeds bs = omega arith in
    feeds_cons b bs ∙ ap (λ (t : Bool). cond t 1 0 + feeds bs) other ∙ none

within_other : (b : ℕ) → is_within b ≡ true → is_feed b ≡ false
within_other b h = not-true (is_feed b) h

-- ---- one line

feeds_front : (front r : List ℕ) → no_feed front ≡ true → feeds ((front ++ 10 ∷ []) ++ r) ≡ suc (feeds r)
feeds_front [] r plain = let e : feeds (10 ∷ r) ≡ 1 + feeds r = feeds_cons 10 r in omega (arith, e)
feeds_front (b ∷ bs) r plain =
    let parts = and_parts (is_within b) (no_feed bs) plain in
    feeds_other b ((bs ++ 10 ∷ []) ++ r) (within_other b parts.0) ∙ feeds_front bs r parts.1

pub feeds_line : (text r : List ℕ) → IsLine text → feeds (text ++ r) ≡ suc (feeds r)
feeds_line text r line = ap (λ (t : List ℕ). feeds (t ++ r)) line.is ∙ feeds_front line.front r line.plain

upto_front : (front : List ℕ) (n : ℕ) (r : List ℕ) → no_feed front ≡ true → lines_upto (suc n) ((front ++ 10 ∷ []) ++ r) ≡ (front ++ 10 ∷ []) ++ lines_upto n r
upto_front [] n r plain = refl
upto_front (b ∷ bs) n r plain =
    let parts = and_parts (is_within b) (no_feed bs) plain in
    ap (λ (t : Bool). b ∷ lines_upto (if t then n else suc n) ((bs ++ 10 ∷ []) ++ r)) (within_other b parts.0) ∙ ap (λ t. b ∷ t) (upto_front bs n r parts.1)

pub upto_line : (text : List ℕ) (n : ℕ) (r : List ℕ) → IsLine text → lines_upto (suc n) (text ++ r) ≡ text ++ lines_upto n r
upto_line text n r line =
    ap (λ (t : List ℕ). lines_upto (suc n) (t ++ r)) line.is ∙ upto_front line.front n r line.plain ∙ ap (λ (t : List ℕ). t ++ lines_upto n r) (sym line.is)

pub upto_none : (r : List ℕ) → lines_upto 0 r ≡ []
upto_none [] = refl
upto_none (b ∷ bs) = refl

-- the first line of a text that has one
pub record FirstLine (bytes : List ℕ) : Type 0 where
  pub line : List ℕ
  pub rest : List ℕ
  pub is_line : IsLine line
  pub parts : bytes ≡ line ++ rest

pub first_line : (bytes : List ℕ) → 1 ≤ feeds bytes → FirstLine bytes
first_line [] some = absurd (omega arith)
first_line (b ∷ bs) some = either (is_feed b)
    (λ feed. record {
      line = 10 ∷ [];
      rest = bs;
      is_line = record { front = []; is = refl; plain = refl };
      parts = ap (λ (c : ℕ). c ∷ bs) (eqb-true b 10 feed);
    })
    (λ other.
    let e = feeds_other b bs other in
    let l = first_line bs (omega (arith, e, some)) in
    record {
      line = b ∷ l.line;
      rest = l.rest;
      is_line = record {
        front = b ∷ l.is_line.front;
        is = ap (λ t. b ∷ t) l.is_line.is;
        plain = and_from (is_within b) (no_feed l.is_line.front) (ap not other) l.is_line.plain;
      };
      parts = ap (λ t. b ∷ t) l.parts;
    })

-- a text has one first line
one_front : (a b r s : List ℕ) → no_feed a ≡ true → no_feed b ≡ true → (a ++ 10 ∷ []) ++ r ≡ (b ++ 10 ∷ []) ++ s → (a ≡ b) × (r ≡ s)
one_front [] [] r s p q e = (refl, cc)
one_front [] (y ∷ ys) r s p q e =
    let parts = and_parts (is_within y) (no_feed ys) q in
    let is : 10 ≡ y = cc in
    absurd (let none = ap is_within is ∙ parts.0 in cc)
one_front (x ∷ xs) [] r s p q e =
    let parts = and_parts (is_within x) (no_feed xs) p in
    let is : 10 ≡ x = cc in
    absurd (let none = ap is_within is ∙ parts.0 in cc)
one_front (x ∷ xs) (y ∷ ys) r s p q e =
    let parts_x = and_parts (is_within x) (no_feed xs) p in
    let parts_y = and_parts (is_within y) (no_feed ys) q in
    let head : x ≡ y = cc in
    let tail : (xs ++ 10 ∷ []) ++ r ≡ (ys ++ 10 ∷ []) ++ s = cc in
    let rest = one_front xs ys r s parts_x.1 parts_y.1 tail in
    let same : x ∷ xs ≡ y ∷ ys = ap (λ (c : ℕ). c ∷ xs) head ∙ ap (λ t. y ∷ t) rest.0 in
    (same, rest.1)

pub one_line : (a b r s : List ℕ) → IsLine a → IsLine b → a ++ r ≡ b ++ s → (a ≡ b) × (r ≡ s)
one_line a b r s line_a line_b e =
    let both_ways : (line_a.front ++ 10 ∷ []) ++ r ≡ (line_b.front ++ 10 ∷ []) ++ s = ap (λ (t : List ℕ). t ++ r) (sym line_a.is) ∙ e ∙ ap (λ (t : List ℕ). t ++ s) line_b.is in
    let same = one_front line_a.front line_b.front r s line_a.plain line_b.plain both_ways in
    (line_a.is ∙ ap (λ (t : List ℕ). t ++ 10 ∷ []) same.0 ∙ sym line_b.is, same.1)

-- ---- lines of a kind

-- how a kind of line is read and written
pub record Lines {A : Type 0} (read : List ℕ → Read A) (text : A → List ℕ) (good : A → Bool) : Type 0 where
  pub taking : Taking read text good
  pub again : Again read text good anything
  pub line : (a : A) → good a ≡ true → IsLine (text a)

pub line_long : (text : List ℕ) → IsLine text → 1 ≤ length text
line_long text line = omega (arith, ap length line.is, length-append line.front (10 ∷ []))

-- rows of lines, and what follows them
pub upto_rows : {A : Type 0} {read : List ℕ → Read A} {text : A → List ℕ} {good : A → Bool} → Lines read text good → (xs : List A) (n : ℕ) (r : List ℕ) → list_all good xs ≡ true
    → lines_upto (length xs + n) (flat_map text xs ++ r) ≡ flat_map text xs ++ lines_upto n r
upto_rows t [] n r all = let e : 0 + n ≡ n = omega arith in ap (λ (k : ℕ). lines_upto k r) e
upto_rows {A} {read} {text} {good} t (x ∷ xs) n r all =
    let parts = and_parts (good x) (list_all good xs) all in
    let e : suc (length xs) + n ≡ suc (length xs + n) = omega arith in
    ap (λ (k : ℕ). lines_upto k ((text x ++ flat_map text xs) ++ r)) e
    ∙ ap (lines_upto (suc (length xs + n))) (append_assoc (text x) (flat_map text xs) r)
    ∙ upto_line (text x) (length xs + n) (flat_map text xs ++ r) (t.line x parts.0)
    ∙ ap (λ (s : List ℕ). text x ++ s) (upto_rows t xs n r parts.1)
    ∙ sym (append_assoc (text x) (flat_map text xs) (lines_upto n r))

pub feeds_rows : {A : Type 0} {read : List ℕ → Read A} {text : A → List ℕ} {good : A → Bool} → Lines read text good → (xs : List A) (r : List ℕ) → list_all good xs ≡ true → feeds (flat_map text xs ++ r) ≡ length xs + feeds r
feeds_rows t [] r all = omega arith
feeds_rows {A} {read} {text} {good} t (x ∷ xs) r all =
    let parts = and_parts (good x) (list_all good xs) all in
    let e = ap feeds (append_assoc (text x) (flat_map text xs) r) ∙ feeds_line (text x) (flat_map text xs ++ r) (t.line x parts.0) in
    let rest = feeds_rows t xs r parts.1 in
    omega (arith, e, rest)

-- whether a line of the kind is first is told by the first line
pub stays_none : {A : Type 0} {read : List ℕ → Read A} {text : A → List ℕ} {good : A → Bool} → Lines read text good → (l : List ℕ) (r s : List ℕ) → IsLine l → read (l ++ r) ≡ None → read (l ++ s) ≡ None
stays_none {A} {read} {text} {good} t l r s line none = by_answer (read (l ++ s)) refl
  where
    by_answer : (found : Read A) → read (l ++ s) ≡ found → found ≡ None
    by_answer None e = refl
    by_answer (Some a) e =
        let took = t.taking.law (l ++ s) a e in
        let same = one_line l (text a.0) s a.1 line (t.line a.0 took.fits) took.parts in
        let again = t.again.law a.0 r took.fits refl in
        absurd (let other = sym (ap (λ (k : List ℕ). read (k ++ r)) same.0) ∙ none in cc)

-- where the row ends, no further line of the kind stands
after_first : {A : Type 0} {read : List ℕ → Read A} {text : A → List ℕ} {good : A → Bool} → Lines read text good → (n : ℕ) (bytes : List ℕ) → length bytes ≤ suc n → ((rest : List ℕ) → length rest ≤ n → read (items_at read n rest).1 ≡ None)
    → (found : Read A) → read bytes ≡ found → read (with_first found bytes (items_at read n)).1 ≡ None
after_first t n bytes long others None e = e
after_first {A} {read} {text} t n bytes long others (Some a) e =
    let took = t.taking.law bytes a e in
    let room : length a.1 ≤ n = omega (arith, line_long (text a.0) (t.line a.0 took.fits), ap length took.parts, length-append (text a.0) a.1) in
    others a.1 room

row_ends : {A : Type 0} (read : List ℕ → Read A) (text : A → List ℕ) (good : A → Bool) → Lines read text good → read [] ≡ None → (n : ℕ) (bytes : List ℕ) → length bytes ≤ n → read (items_at read n bytes).1 ≡ None
unfolding items_at
row_ends read text good t empty zero [] long = empty
row_ends read text good t empty zero (b ∷ bs) long = absurd (omega arith)
row_ends {A} read text good t empty (suc n) bytes long = after_first t n bytes long (λ rest room. row_ends read text good t empty n rest room) (read bytes) refl

pub all_ends : {A : Type 0} {read : List ℕ → Read A} {text : A → List ℕ} {good : A → Bool} → Lines read text good → read [] ≡ None → (bytes : List ℕ) → read (all_at read bytes).1 ≡ None
all_ends {A} {read} {text} {good} t empty bytes = row_ends read text good t empty (length bytes) bytes (le_refl (length bytes))

-- a row that ends is read whole
pub row_again : {A : Type 0} {read : List ℕ → Read A} {text : A → List ℕ} {good : A → Bool} → Lines read text good → ((a : A) → 1 ≤ length (text a)) → (xs : List A) (rest : List ℕ) → list_all good xs ≡ true → read rest ≡ None → all_at read (flat_map text xs ++ rest) ≡ (xs, rest)
row_again t long xs rest all none = all_again t.again (record { some = long; may = λ a s. refl }) xs rest all refl none
