-- The entry that a text begins with.
use Rattle.std.proofs.Common.{◌≡◌, ℕ, ◌-◌, ◌≤◌, List, [], ◌∷◌, ◌++◌, length, drop, Some, None, refl, sym, ap, ◌∙◌, subst, arith}
use Rattle.std.proofs.lemmas.List.{length-append}
use Rattle.vz_rules.specs.declared.entry.Entry.{Entry}
use Rattle.vz_rules.specs.Log.{entry_text}
use Rattle.vz_journal.specs.Answers.{IsFirstEntry}
use Rattle.vz_journal.specs.Reading.{entry_at}
use Rattle.vz_journal.proofs.Took_lines as took
use Rattle.vz_journal.proofs.Again_lines as again
use Rattle.vz_journal.proofs.Chosen.{none_is_not}

behind : (front rest : List ℕ) → drop (length front) (front ++ rest) ≡ rest
behind [] rest = refl
behind (b ∷ bs) rest = behind bs rest

-- what is left is no longer than all
pub shorter : (text here after : List ℕ) (n : ℕ) (e : Entry) → here ≡ text → entry_at here ≡ Some (e, after) → n ≡ length after → n ≤ length text
shorter text here after n e same found left =
    let t = took.entries.law here (e, after) found in
    omega (arith, left, ap length (sym same ∙ t.parts), length-append (entry_text e) after)

first_here : (text after : List ℕ) (e : Entry) → entry_at text ≡ Some (e, after) → IsFirstEntry text (Some (e, length text - length after))
first_here text after e found =
    let t = took.entries.law text (e, after) found in
    let long : length text - length after ≡ length (entry_text e) = omega (arith, ap length t.parts, length-append (entry_text e) after) in
    let rest : drop (length text - length after) text ≡ after = ap (λ n. drop n text) long ∙ (ap (drop (length (entry_text e))) t.parts ∙ behind (entry_text e) after) in
    (t.fits, long, t.parts ∙ ap (λ (l : List ℕ). entry_text e ++ l) (sym rest))

-- the entry that is read
pub first_is : (text here after : List ℕ) (n : ℕ) (e : Entry) → here ≡ text → entry_at here ≡ Some (e, after) → n ≡ length after → IsFirstEntry text (Some (e, length text - n))
first_is text here after n e same found left =
    subst (λ (k : ℕ). IsFirstEntry text (Some (e, length text - k))) (sym left) (first_here text after e (ap entry_at (sym same) ∙ found))

-- where none is read there is none
pub none_first : (text here : List ℕ) → here ≡ text → entry_at here ≡ None → IsFirstEntry text None
none_first text here same none e good begins =
    none_is_not (e, begins.0) (sym (ap entry_at (sym same) ∙ none) ∙ (ap entry_at (sym begins.1) ∙ again.entries.law e begins.0 good refl))
