-- Parts of a line that are read are written so, and can be named.
use Rattle.std.proofs.Common.{◌≡◌, ℕ, Bool, true, ◌&&◌, ◌==◌, ltb, codes, List, [], ◌∷◌, ◌++◌, Option, Some, refl, sym, ap, ◌∙◌, subst, le-leb, eqb-true, eq-eqb, decimal}
use Rattle.std.proofs.lemmas.Bool.{and_parts, and_from}
use Rattle.vz_ids.specs.declared.Sub.{Sub}
use Rattle.vz_rules.specs.declared.entry.Returned.{Returned}
use Rattle.vz_rules.specs.declared.entry.Lost.{Lost}
use Rattle.vz_rules.specs.Log.{then_number, dotted, with_count, activated_text, destroyed_text, returned_text, fed_text, is_log_number, is_count, is_log_client, has_text_sub, has_text_lost, has_text_return}
use Rattle.vz_journal.specs.Reading.{Read, ◌>>=◌, begins, after, word_at, one_of, number_at, count_at, client_at, next_number_at, next_count_at, sub_at, counted_at, return_at, reclaim_at, activated_at, destroyed_at, returned_at, fed_by, fed_at}
use Rattle.vz_journal.proofs.Chosen.{then_some, tested_some, some_is, none_is_not, chosen, joined}
use Rattle.vz_journal.proofs.Numerals.{number_took}

-- the bytes are a text and a rest, and its value can be named
pub record Took (bytes text rest : List ℕ) (good : Bool) : Type 0 where
  pub parts : bytes ≡ text ++ rest
  pub fits : good ≡ true

-- what is read is written so, and can be named
pub record Taking {A : Type 0} (read : List ℕ → Read A) (text : A → List ℕ) (good : A → Bool) : Type 0 where
  pub law : (bytes : List ℕ) (x : A × List ℕ) → read bytes ≡ Some x → Took bytes (text x.0) x.1 (good x.0)

-- a first part, and the reading of what follows
pub from_step : {A B : Type 0} {read : List ℕ → Read A} {text : A → List ℕ} {good : A → Bool} {R : Type 0} → Taking read text good → (bytes : List ℕ) (f : A × List ℕ → Option B) (y : B) → (read bytes >>= f) ≡ Some y
    → ((a : A × List ℕ) → Took bytes (text a.0) a.1 (good a.0) → f a ≡ Some y → R) → R
from_step {A} {B} {read} t bytes f y e next = then_some (read bytes) f y e (λ a given is. next a (t.law bytes a given) is)

-- the value that is made of the parts
pub finish : {A : Type 0} {bytes : List ℕ} {made x : A × List ℕ} (text : A → List ℕ) (good : A → Bool) → Some made ≡ Some x → Took bytes (text made.0) made.1 (good made.0) → Took bytes (text x.0) x.1 (good x.0)
finish {A} {bytes} {made} {x} text good e t = subst (λ (y : A × List ℕ). Took bytes (text y.0) y.1 (good y.0)) (some_is made x e) t

-- the same bytes, with another text and another test
pub judged : {bytes text rest : List ℕ} {p : Bool} (q : Bool) → q ≡ true → Took bytes text rest p → Took bytes text rest q
judged q e t = record { parts = t.parts; fits = e }

-- two parts, one behind the other
pub both : {bytes a r b s : List ℕ} {p q : Bool} → Took bytes a r p → Took r b s q → Took bytes (a ++ b) s (p && q)
both {bytes} {a} {r} {b} {s} {p} {q} t u = record { parts = joined bytes a b r s t.parts u.parts; fits = and_from p q t.fits u.fits }

-- ---- words

pub begins_took : (word bytes : List ℕ) → begins word bytes ≡ true → bytes ≡ word ++ after word bytes
begins_took [] bytes h = refl
begins_took (w ∷ ws) [] h = absurd cc
begins_took (w ∷ ws) (b ∷ bs) h =
    let parts = and_parts (w == b) (begins ws bs) h in
    ap (λ (c : ℕ). c ∷ bs) (sym (eqb-true w b parts.0)) ∙ ap (λ t. w ∷ t) (begins_took ws bs parts.1)

pub words : (word : List ℕ) → Taking (word_at word) (λ _. word) (λ _. true)
unfolding word_at
words word = record {
  law = λ bytes x e.
      chosen (begins word bytes) _ _ (Some x) e
      (λ there e1. finish (λ (_ : Unit {0}). word) (λ _. true) e1 (record { parts = begins_took word bytes there; fits = refl }))
      (λ _ e1. none_is_not x e1);
}

-- words and values that belong together
abbrev pub AreTexts : {A : Type 0} → (A → List ℕ) → (A → Bool) → List (List ℕ × A) → Type 0
AreTexts text good [] = Unit {0}
AreTexts text good (w ∷ ws) = (w.0 ≡ text w.1) × (good w.1 ≡ true) × AreTexts text good ws

pub one_took : {A : Type 0} (text : A → List ℕ) (good : A → Bool) (ws : List (List ℕ × A)) → AreTexts text good ws → (bytes : List ℕ) (x : A × List ℕ) → one_of ws bytes ≡ Some x → Took bytes (text x.0) x.1 (good x.0)
unfolding one_of
one_took text good [] texts bytes x e = none_is_not x e
one_took text good (w ∷ ws) texts bytes x e =
    chosen (begins w.0 bytes) _ _ (Some x) e
    (λ there e1. finish text good e1 (record { parts = begins_took w.0 bytes there ∙ ap (λ t. t ++ after w.0 bytes) texts.0; fits = texts.1 }))
    (λ _ e1. one_took text good ws texts.2 bytes x e1)

pub one_of_words : {A : Type 0} (text : A → List ℕ) (good : A → Bool) (ws : List (List ℕ × A)) → AreTexts text good ws → Taking (one_of ws) text good
one_of_words text good ws texts = record { law = one_took text good ws texts }

-- ---- numbers

pub numbers : Taking number_at decimal is_log_number
numbers = record {
  law = λ bytes x e.
      let t = number_took bytes x e in
      record { parts = t.0; fits = le-leb _ _ t.1 };
}

pub counts : Taking count_at decimal is_count
unfolding count_at
counts = record {
  law = λ bytes x e.
      from_step numbers bytes _ x e (λ n t e1.
      let test = tested_some (ltb 0 n.0) n x e1 in
      finish decimal is_count (ap Some test.1) (judged (is_count n.0) (and_from (ltb 0 n.0) (is_log_number n.0) test.0 t.fits) t));
}

pub clients : Taking client_at decimal is_log_client
unfolding client_at
clients = record {
  law = λ bytes x e.
      from_step numbers bytes _ x e (λ n t e1.
      let test = tested_some (is_log_client n.0) n x e1 in
      finish decimal is_log_client (ap Some test.1) (judged (is_log_client n.0) test.0 t));
}

pub next_numbers : Taking next_number_at then_number is_log_number
unfolding next_number_at
next_numbers = record {
  law = λ bytes x e.
      from_step (words (codes " ")) bytes _ x e (λ blank t0 e1.
      both t0 (numbers.law blank.1 x e1));
}

pub next_counts : Taking next_count_at then_number is_count
unfolding next_count_at
next_counts = record {
  law = λ bytes x e.
      from_step (words (codes " ")) bytes _ x e (λ blank t0 e1.
      both t0 (counts.law blank.1 x e1));
}

-- ---- a client with something of it

abbrev pub sub_text : Sub → List ℕ
sub_text s = dotted s.client s.ordinal

abbrev pub lost_text : Lost → List ℕ
lost_text l = dotted l.client l.surface

abbrev pub return_text : Returned → List ℕ
return_text r = decimal r.client ++ 46 ∷ with_count r.id r.count

pub subs : Taking sub_at sub_text has_text_sub
unfolding sub_at
subs = record {
  law = λ bytes x e.
      from_step clients bytes _ x e (λ c t0 e1.
      from_step (words (codes ".")) c.1 _ x e1 (λ dot t1 e2.
      from_step counts dot.1 _ x e2 (λ k t2 e3.
      finish sub_text has_text_sub e3 (judged (is_log_client c.0 && is_count k.0) (and_from (is_log_client c.0) (is_count k.0) t0.fits t2.fits) (both t0 (both t1 t2))))));
}

-- a return of a client that can be named
abbrev pub has_text_of : ℕ → Returned → Bool
has_text_of c r = (r.client == c) && has_text_return r

pub counteds : (c : ℕ) → is_log_client c ≡ true → Taking (counted_at c) (λ r. with_count r.id r.count) (has_text_of c)
unfolding counted_at
counteds c named = record {
  law = λ bytes x e.
      from_step counts bytes _ x e (λ id t0 e1.
      from_step (words (codes "x")) id.1 _ x e1 (λ times t1 e2.
      from_step counts times.1 _ x e2 (λ n t2 e3.
      let first : (is_log_client c && is_count id.0) ≡ true = and_from (is_log_client c) (is_count id.0) named t0.fits in
      let all : (is_log_client c && is_count id.0 && is_count n.0) ≡ true = and_from (is_log_client c && is_count id.0) (is_count n.0) first t2.fits in
      let good : ((c == c) && (is_log_client c && is_count id.0 && is_count n.0)) ≡ true = and_from (c == c) _ (eq-eqb c c refl) all in
      finish (λ (r : Returned). with_count r.id r.count) (has_text_of c) e3 (judged ((c == c) && (is_log_client c && is_count id.0 && is_count n.0)) good (both t0 (both t1 t2))))));
}

pub returns : Taking return_at return_text has_text_return
unfolding return_at
returns = record {
  law = λ bytes x e.
      from_step clients bytes _ x e (λ c t0 e1.
      from_step (words (codes ".")) c.1 _ x e1 (λ dot t1 e2.
      let t2 = (counteds c.0 t0.fits).law dot.1 x e2 in
      let good = and_parts (x.0.client == c.0) (has_text_return x.0) t2.fits in
      let same : c.0 ≡ x.0.client = sym (eqb-true x.0.client c.0 good.0) in
      let parts : bytes ≡ (decimal c.0 ++ (46 ∷ with_count x.0.id x.0.count)) ++ x.1 = (both t0 (both t1 t2)).parts in
      record { parts = subst (λ (k : ℕ). bytes ≡ (decimal k ++ (46 ∷ with_count x.0.id x.0.count)) ++ x.1) same parts; fits = good.1 }));
}

-- ---- items

abbrev pub reclaim_text : Returned → List ℕ
reclaim_text r = 32 ∷ with_count r.id r.count

pub reclaims : (c : ℕ) → is_log_client c ≡ true → Taking (reclaim_at c) reclaim_text (has_text_of c)
unfolding reclaim_at
reclaims c named = record {
  law = λ bytes x e.
      from_step (words (codes " ")) bytes _ x e (λ blank t0 e1.
      both t0 ((counteds c named).law blank.1 x e1));
}

pub activateds : Taking activated_at activated_text has_text_sub
unfolding activated_at
activateds = record {
  law = λ bytes x e.
      from_step (words (codes " +")) bytes _ x e (λ sign t0 e1.
      both t0 (subs.law sign.1 x e1));
}

pub destroyeds : Taking destroyed_at destroyed_text has_text_lost
unfolding destroyed_at
destroyeds = record {
  law = λ bytes x e.
      from_step (words (codes " x")) bytes _ x e (λ sign t0 e1.
      from_step subs sign.1 _ x e1 (λ s t1 e2.
      finish destroyed_text has_text_lost e2 (both t0 t1)));
}

pub returneds : Taking returned_at returned_text has_text_return
unfolding returned_at
returneds = record {
  law = λ bytes x e.
      from_step (words (codes " <")) bytes _ x e (λ sign t0 e1.
      both t0 (returns.law sign.1 x e1));
}

pub feds : Taking fed_at fed_text (λ f. has_text_sub f.sub)
unfolding fed_at fed_by
feds = record {
  law = λ bytes x e.
      chosen (begins (codes " p") bytes) _ _ (Some x) e
      (λ there e1.
      from_step subs (after (codes " p") bytes) _ x e1 (λ s t1 e2.
      finish fed_text (λ f. has_text_sub f.sub) e2 (both {a = codes " p"} {p = true} (record { parts = begins_took (codes " p") bytes there; fits = refl }) t1)))
      (λ _ e1.
      from_step (words (codes " d")) bytes _ x e1 (λ sign t0 e2.
      from_step subs sign.1 _ x e2 (λ s t1 e3.
      finish fed_text (λ f. has_text_sub f.sub) e3 (both t0 t1))));
}
