-- Parts of a line that can be named and are written are read again.
use Rattle.std.proofs.Common.{◌≡◌, ℕ, zero, suc, ◌≤◌, Bool, true, false, not, ◌&&◌, ◌==◌, ltb, leb, codes, List, [], ◌∷◌, ◌++◌, length, slice_index, Option, Some, None, refl, sym, ap, ◌∙◌, append_assoc, if◌then◌else◌, arith, leb-true, le-leb, eqb-true, eq-eqb, le_refl, decimal}
use Rattle.std.specs.List.{list_all, flat_map}
use Rattle.std.proofs.lemmas.Bool.{and_parts, and_from, not-true}
use Rattle.std.proofs.lemmas.List.{length-append, drop_at}
use Rattle.vz_ids.specs.declared.Sub.{Sub}
use Rattle.vz_rules.specs.Log.{then_number, with_count, activated_text, destroyed_text, returned_text, fed_text, is_log_number, is_count, is_log_client, has_text_sub, has_text_lost, has_text_return}
use Rattle.vz_journal.specs.Reading.{Read, ◌>>=◌, begins, after, word_at, with_first, items_at, all_at, is_digit, number_at, count_at, client_at, next_number_at, next_count_at, sub_at, counted_at, return_at, reclaim_at, activated_at, destroyed_at, returned_at, fed_by, fed_at}
use Rattle.vz_journal.proofs.Chosen.{pick}
use Rattle.vz_journal.proofs.Numerals.{number_again}
use Rattle.vz_journal.proofs.Took.{sub_text, lost_text, return_text, reclaim_text, has_text_of}

-- what is written and can be named is read again, before some bytes
pub record Again {A : Type 0} (read : List ℕ → Read A) (text : A → List ℕ) (good : A → Bool) (before : List ℕ → Bool) : Type 0 where
  pub law : (a : A) (rest : List ℕ) → good a ≡ true → before rest ≡ true → read (text a ++ rest) ≡ Some (a, rest)

-- no digit comes first
abbrev pub no_digit_first : List ℕ → Bool
no_digit_first bytes = not (is_digit (slice_index bytes 0))

-- any bytes
abbrev pub anything : List ℕ → Bool
anything bytes = true

-- a first part is read, and then what follows
pub next : {A B : Type 0} {read : List ℕ → Read A} {text : A → List ℕ} {good : A → Bool} {before : List ℕ → Bool} → Again read text good before → (a : A) (rest : List ℕ) (f : A × List ℕ → Option B) (y : Option B)
    → good a ≡ true → before rest ≡ true → f (a, rest) ≡ y → (read (text a ++ rest) >>= f) ≡ y
next {A} {B} {read} {text} t a rest f y good fits e =
    let one : read (text a ++ rest) ≡ Some (a, rest) = t.law a rest good fits in
    rw one e

-- ---- words

pub begins_again : (word rest : List ℕ) → begins word (word ++ rest) ≡ true
begins_again [] rest = refl
begins_again (w ∷ ws) rest = and_from (w == w) (begins ws (ws ++ rest)) (eq-eqb w w refl) (begins_again ws rest)

pub words : (word : List ℕ) → Again (word_at word) (λ _. word) (λ _. true) anything
unfolding word_at
words word = record {
  law = λ _ rest _ _. pick (begins word (word ++ rest)) (Some (tt, after word (word ++ rest))) None (begins_again word rest) ∙ ap (λ (t : List ℕ). Some (tt, t)) (drop_at word rest (length word) refl);
}

-- ---- numbers

pub numbers : Again number_at decimal is_log_number no_digit_first
numbers = record { law = λ n rest small ends. number_again n rest (leb-true _ _ small) (not-true _ ends) }

pub counts : Again count_at decimal is_count no_digit_first
unfolding count_at
counts = record {
  law = λ n rest good ends.
      let parts = and_parts (ltb 0 n) (is_log_number n) good in
      next numbers n rest _ _ parts.1 ends (pick (ltb 0 n) (Some (n, rest)) None parts.0);
}

client_number : (c : ℕ) → is_log_client c ≡ true → is_log_number c ≡ true
client_number c good =
    let parts = and_parts (ltb 0 c) (leb c 16) good in
    let low : c ≤ 16 = leb-true c 16 parts.1 in
    le_number c (omega arith)
  where
    le_number : (n : ℕ) → n ≤ 4294967295 → is_log_number n ≡ true
    le_number n h = le-leb n 4294967295 h

pub clients : Again client_at decimal is_log_client no_digit_first
unfolding client_at
clients = record {
  law = λ n rest good ends. next numbers n rest _ _ (client_number n good) ends (pick (is_log_client n) (Some (n, rest)) None good);
}

pub next_numbers : Again next_number_at then_number is_log_number no_digit_first
unfolding next_number_at
next_numbers = record {
  law = λ n rest good ends. next (words (codes " ")) tt (decimal n ++ rest) _ _ refl refl (numbers.law n rest good ends);
}

pub next_counts : Again next_count_at then_number is_count no_digit_first
unfolding next_count_at
next_counts = record {
  law = λ n rest good ends. next (words (codes " ")) tt (decimal n ++ rest) _ _ refl refl (counts.law n rest good ends);
}

-- ---- a client with something of it

pub subs : Again sub_at sub_text has_text_sub no_digit_first
unfolding sub_at
subs = record {
  law = λ s rest good ends.
      let parts = and_parts (is_log_client s.client) (is_count s.ordinal) good in
      ap sub_at (append_assoc (decimal s.client) (46 ∷ decimal s.ordinal) rest)
      ∙ next clients s.client (46 ∷ (decimal s.ordinal ++ rest)) _ _ parts.0 refl
      (next (words (codes ".")) tt (decimal s.ordinal ++ rest) _ _ refl refl
      (next counts s.ordinal rest _ _ parts.1 ends refl));
}

pub counteds : (c : ℕ) → Again (counted_at c) (λ r. with_count r.id r.count) (has_text_of c) no_digit_first
unfolding counted_at
counteds c = record {
  law = λ r rest good ends.
      let own = and_parts (r.client == c) (has_text_return r) good in
      let last = and_parts (is_log_client r.client && is_count r.id) (is_count r.count) own.1 in
      let first = and_parts (is_log_client r.client) (is_count r.id) last.0 in
      let same : c ≡ r.client = sym (eqb-true r.client c own.0) in
      ap (counted_at c) (append_assoc (decimal r.id) (120 ∷ decimal r.count) rest)
      ∙ next counts r.id (120 ∷ (decimal r.count ++ rest)) _ _ first.1 refl
      (next (words (codes "x")) tt (decimal r.count ++ rest) _ _ refl refl
      (next counts r.count rest _ _ last.1 ends (ap (λ (k : ℕ). Some (record { client = k; id = r.id; count = r.count }, rest)) same)));
}

pub returns : Again return_at return_text has_text_return no_digit_first
unfolding return_at
returns = record {
  law = λ r rest good ends.
      let last = and_parts (is_log_client r.client && is_count r.id) (is_count r.count) good in
      let first = and_parts (is_log_client r.client) (is_count r.id) last.0 in
      ap return_at (append_assoc (decimal r.client) (46 ∷ with_count r.id r.count) rest)
      ∙ next clients r.client (46 ∷ (with_count r.id r.count ++ rest)) _ _ first.0 refl
      (next (words (codes ".")) tt (with_count r.id r.count ++ rest) _ _ refl refl
      ((counteds r.client).law r rest (and_from (r.client == r.client) (has_text_return r) (eq-eqb r.client r.client refl) good) ends));
}

-- ---- items

pub reclaims : (c : ℕ) → Again (reclaim_at c) reclaim_text (has_text_of c) no_digit_first
unfolding reclaim_at
reclaims c = record {
  law = λ r rest good ends. next (words (codes " ")) tt (with_count r.id r.count ++ rest) _ _ refl refl ((counteds c).law r rest good ends);
}

pub activateds : Again activated_at activated_text has_text_sub no_digit_first
unfolding activated_at
activateds = record {
  law = λ s rest good ends. next (words (codes " +")) tt (sub_text s ++ rest) _ _ refl refl (subs.law s rest good ends);
}

pub destroyeds : Again destroyed_at destroyed_text has_text_lost no_digit_first
unfolding destroyed_at
destroyeds = record {
  law = λ l rest good ends.
      next (words (codes " x")) tt (lost_text l ++ rest) _ _ refl refl
      (next subs (record { client = l.client; ordinal = l.surface }) rest _ _ good ends refl);
}

pub returneds : Again returned_at returned_text has_text_return no_digit_first
unfolding returned_at
returneds = record {
  law = λ r rest good ends. next (words (codes " <")) tt (return_text r ++ rest) _ _ refl refl (returns.law r rest good ends);
}

fed_again : (presented : Bool) (s : Sub) (rest : List ℕ) → has_text_sub s ≡ true → no_digit_first rest ≡ true
    → fed_at ((32 ∷ (if presented then 112 else 100) ∷ sub_text s) ++ rest) ≡ Some (record { sub = s; presented = presented }, rest)
unfolding fed_at fed_by word_at
fed_again true s rest good ends = next subs s rest _ _ good ends refl
fed_again false s rest good ends = next subs s rest _ _ good ends refl

pub feds : Again fed_at fed_text (λ f. has_text_sub f.sub) no_digit_first
feds = record { law = λ f rest good ends. fed_again f.presented f.sub rest good ends }

-- ---- items in a row

-- a text is not empty, and may stand before any of its kind
pub record Starting {A : Type 0} (text : A → List ℕ) (before : List ℕ → Bool) : Type 0 where
  pub some : (a : A) → 1 ≤ length (text a)
  pub may : (a : A) (rest : List ℕ) → before (text a ++ rest) ≡ true

pub row_before : {A : Type 0} (text : A → List ℕ) (before : List ℕ → Bool) → Starting text before → (xs : List A) (rest : List ℕ) → before rest ≡ true → before (flat_map text xs ++ rest) ≡ true
row_before text before t [] rest h = h
row_before text before t (x ∷ xs) rest h = ap before (append_assoc (text x) (flat_map text xs) rest) ∙ t.may x (flat_map text xs ++ rest)

one_first : {A : Type 0} (read : List ℕ → Read A) (n : ℕ) (bytes rest : List ℕ) (a : A) (xs : List A) (last : List ℕ) → read bytes ≡ Some (a, rest) → items_at read n rest ≡ (xs, last) → items_at read (suc n) bytes ≡ (a ∷ xs, last)
unfolding items_at
one_first {A} read n bytes rest a xs last h others =
    ap (λ (r : Read A). with_first r bytes (items_at read n)) h ∙ ap (λ (x : List A × List ℕ). (a ∷ x.0, x.1)) others

none_there : {A : Type 0} (read : List ℕ → Read A) (n : ℕ) (bytes : List ℕ) → read bytes ≡ None → items_at read n bytes ≡ ([], bytes)
unfolding items_at
none_there read zero bytes h = refl
none_there {A} read (suc n) bytes h = ap (λ (r : Read A). with_first r bytes (items_at read n)) h

items_again : {A : Type 0} {read : List ℕ → Read A} {text : A → List ℕ} {good : A → Bool} {before : List ℕ → Bool} → Again read text good before → Starting text before
    → (xs : List A) (rest : List ℕ) (n : ℕ) → list_all good xs ≡ true → before rest ≡ true → read rest ≡ None → length (flat_map text xs ++ rest) ≤ n → items_at read n (flat_map text xs ++ rest) ≡ (xs, rest)
items_again {A} {read} {text} {good} {before} t s [] rest n all may none long = none_there read n rest none
items_again {A} {read} {text} {good} {before} t s (x ∷ xs) rest zero all may none long =
    absurd (omega (arith, s.some x, ap length (append_assoc (text x) (flat_map text xs) rest), length-append (text x) (flat_map text xs ++ rest)))
items_again {A} {read} {text} {good} {before} t s (x ∷ xs) rest (suc n) all may none long =
    let parts = and_parts (good x) (list_all good xs) all in
    let group = append_assoc (text x) (flat_map text xs) rest in
    let front = t.law x (flat_map text xs ++ rest) parts.0 (row_before text before s xs rest may) in
    let room : length (flat_map text xs ++ rest) ≤ n = omega (arith, s.some x, ap length group, length-append (text x) (flat_map text xs ++ rest)) in
    one_first read n ((text x ++ flat_map text xs) ++ rest) (flat_map text xs ++ rest) x xs rest (ap read group ∙ front) (items_again t s xs rest n parts.1 may none room)

pub all_again : {A : Type 0} {read : List ℕ → Read A} {text : A → List ℕ} {good : A → Bool} {before : List ℕ → Bool} → Again read text good before → Starting text before
    → (xs : List A) (rest : List ℕ) → list_all good xs ≡ true → before rest ≡ true → read rest ≡ None → all_at read (flat_map text xs ++ rest) ≡ (xs, rest)
all_again {A} {read} {text} t s xs rest all may none = items_again t s xs rest (length (flat_map text xs ++ rest)) all may none (le_refl (length (flat_map text xs ++ rest)))
