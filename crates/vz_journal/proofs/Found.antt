-- A whole log: what is read is what the text stands for, and where nothing is read, the first bad line is told.
use Rattle.std.proofs.Common.{◌≡◌, ℕ, zero, suc, ◌+◌, ◌-◌, ◌≤◌, ◌<◌, Bool, true, false, ◌==◌, List, [], ◌∷◌, ◌++◌, length, None, Result, Ok, Err, refl, sym, ap, ◌∙◌, subst, append_assoc, if◌then◌else◌, arith, eqb-true, codes, ◌⊎◌, inl, inr}
use Rattle.std.specs.List.{list_all, flat_map}
use Rattle.std.proofs.lemmas.Bool.{and_parts, cases_order}
use Rattle.std.proofs.lemmas.List.{length-append, append_cancel_left}
use Rattle.vz_ids.specs.declared.Sub.{Sub}
use Rattle.vz_rules.specs.declared.entry.Returned.{Returned}
use Rattle.vz_rules.specs.declared.entry.Entry.{Entry}
use Rattle.vz_rules.specs.declared.entry.Rest.{Rest}
use Rattle.vz_rules.specs.Log.{event_text, reply_text, effects_text, entry_text, held_text, open_text, log_text, lines_upto, has_text_sub, has_text_return, has_text_entry, Spellable, IsLogFront, IsFirstBadLine}
use Rattle.vz_journal.specs.declared.stop.LogError.{LogError}
use Rattle.vz_journal.specs.declared.stop.LogError.TheVariants as errors
use Rattle.vz_journal.specs.Giving.{GivesLog}
use Rattle.vz_journal.specs.Answers.{IsLog, IsReading, Finds}
use Rattle.vz_journal.specs.Reading.{Read, begins, after, word_at, one_of, all_at, event_at, entry_at, held_at, open_at, lines_at, line_count, ended, log_in}
use Rattle.vz_journal.proofs.Chosen.{chosen}
use Rattle.vz_journal.proofs.Took.{begins_took}
use Rattle.vz_journal.proofs.Took_lines.{all_took}
use Rattle.vz_journal.proofs.Took_lines as took
use Rattle.vz_journal.proofs.Again.{begins_again}
use Rattle.vz_journal.proofs.Again_lines as again
use Rattle.vz_journal.proofs.Feeds.{IsLine, entry_line, held_line, open_line, last_line}
use Rattle.vz_journal.proofs.Prefixes.{feeds, feeds_line, upto_line, upto_none, first_line, one_line, Lines, line_long, upto_rows, feeds_rows, stays_none, all_ends, row_again}

-- ---- the kinds of lines

pub entry_lines : Lines entry_at entry_text has_text_entry
entry_lines = record { taking = took.entries; again = again.entries; line = entry_line }

pub held_lines : Lines held_at held_text has_text_return
held_lines = record { taking = took.helds; again = again.helds; line = held_line }

pub open_lines : Lines open_at open_text has_text_sub
open_lines = record { taking = took.opens; again = again.opens; line = open_line }

entry_long : (e : Entry) → 1 ≤ length (entry_text e)
unfolding entry_text
entry_long e = omega (arith, length-append (event_text e.event ++ (32 ∷ reply_text e.reply) ++ effects_text e.effects) (10 ∷ []))

held_long : (r : Returned) → 1 ≤ length (held_text r)
held_long r = omega arith

open_long : (s : Sub) → 1 ≤ length (open_text s)
open_long s = omega arith

abbrev pub entries_text : List Entry → List ℕ
entries_text h = flat_map entry_text h

abbrev pub helds_text : List Returned → List ℕ
helds_text hs = flat_map held_text hs

abbrev pub opens_text : List Sub → List ℕ
opens_text us = flat_map open_text us

-- the lines of a history and a rest, and what follows them
abbrev pub lines_and : List Entry × Rest → List ℕ → List ℕ
lines_and x r = entries_text x.0 ++ (helds_text x.1.held ++ (opens_text x.1.unfed ++ r))

log_parts : (a b c w l : List ℕ) → a ++ b ++ c ++ w ++ l ≡ a ++ (b ++ (c ++ (w ++ l)))
log_parts a b c w l = simp append_assoc

pub log_is : (x : List Entry × Rest) → log_text x.0 x.1 ≡ lines_and x (codes "end\n")
unfolding log_text
log_is x = log_parts (entries_text x.0) (helds_text x.1.held) (opens_text x.1.unfed) (codes "end") (10 ∷ [])

lines_more : (a b c r s : List ℕ) → (a ++ (b ++ (c ++ r))) ++ s ≡ a ++ (b ++ (c ++ (r ++ s)))
lines_more a b c r s = simp append_assoc

and_more : (x : List Entry × Rest) (r s : List ℕ) → lines_and x r ++ s ≡ lines_and x (r ++ s)
and_more x r s = lines_more (entries_text x.0) (helds_text x.1.held) (opens_text x.1.unfed) r s

-- ---- lines, read

-- the bytes are these lines and what follows them, and no line more of a kind stands where its kind ends
pub record Parts (bytes : List ℕ) (x : List Entry × Rest) (r : List ℕ) : Type 0 where
  pub parts : bytes ≡ lines_and x r
  pub entries : list_all has_text_entry x.0 ≡ true
  pub held : list_all has_text_return x.1.held ≡ true
  pub unfed : list_all has_text_sub x.1.unfed ≡ true
  pub no_entry : entry_at (helds_text x.1.held ++ (opens_text x.1.unfed ++ r)) ≡ None
  pub no_held : held_at (opens_text x.1.unfed ++ r) ≡ None
  pub no_open : open_at r ≡ None

entry_empty : entry_at [] ≡ None
unfolding entry_at event_at one_of
entry_empty = refl

held_empty : held_at [] ≡ None
unfolding held_at word_at
held_empty = refl

open_empty : open_at [] ≡ None
unfolding open_at word_at
open_empty = refl

pub parts_of : (bytes : List ℕ) → Parts bytes (lines_at bytes).0 (lines_at bytes).1
unfolding lines_at
parts_of bytes =
    let t0 = all_took took.entries bytes in
    let t1 = all_took took.helds (all_at entry_at bytes).1 in
    let t2 = all_took took.opens (all_at held_at (all_at entry_at bytes).1).1 in
    let behind : (all_at entry_at bytes).1 ≡ helds_text (all_at held_at (all_at entry_at bytes).1).0 ++ (opens_text (all_at open_at (all_at held_at (all_at entry_at bytes).1).1).0 ++ (all_at open_at (all_at held_at (all_at entry_at bytes).1).1).1) = t1.parts ∙ ap (λ (t : List ℕ). helds_text (all_at held_at (all_at entry_at bytes).1).0 ++ t) t2.parts in
    record {
      parts = t0.parts ∙ ap (λ (t : List ℕ). entries_text (all_at entry_at bytes).0 ++ t) behind;
      entries = t0.fits;
      held = t1.fits;
      unfed = t2.fits;
      no_entry = ap entry_at (sym behind) ∙ all_ends entry_lines entry_empty bytes;
      no_held = ap held_at (sym t2.parts) ∙ all_ends held_lines held_empty (all_at entry_at bytes).1;
      no_open = all_ends open_lines open_empty (all_at held_at (all_at entry_at bytes).1).1;
    }

abbrev from_open : List Entry → List Returned → List Sub × List ℕ → (List Entry × Rest) × List ℕ
from_open h hs x = ((h, record { held = hs; unfed = x.0 }), x.1)

abbrev from_held : List Entry → List Returned × List ℕ → (List Entry × Rest) × List ℕ
from_held h x = from_open h x.0 (all_at open_at x.1)

abbrev from_entries : List Entry × List ℕ → (List Entry × Rest) × List ℕ
from_entries x = from_held x.0 (all_at held_at x.1)

-- such lines are read
pub parts_again : (bytes : List ℕ) (x : List Entry × Rest) (r : List ℕ) → Parts bytes x r → lines_at bytes ≡ (x, r)
unfolding lines_at
parts_again bytes x r p =
    let e0 = ap (all_at entry_at) p.parts ∙ row_again entry_lines entry_long x.0 (helds_text x.1.held ++ (opens_text x.1.unfed ++ r)) p.entries p.no_entry in
    let e1 = row_again held_lines held_long x.1.held (opens_text x.1.unfed ++ r) p.held p.no_held in
    let e2 = row_again open_lines open_long x.1.unfed r p.unfed p.no_open in
    ap (λ (y : List Entry × List ℕ). from_entries y) e0 ∙ ap (λ (y : List Returned × List ℕ). from_held x.0 y) e1 ∙ ap (λ (y : List Sub × List ℕ). from_open x.0 x.1.held y) e2

-- ---- a log is read

pub end_no_entry : (hs : List Returned) (us : List Sub) → entry_at (helds_text hs ++ (opens_text us ++ codes "end\n")) ≡ None
unfolding entry_at event_at one_of
end_no_entry (r ∷ rs) us = refl
end_no_entry [] (s ∷ ss) = refl
end_no_entry [] [] = refl

end_no_held : (us : List Sub) → held_at (opens_text us ++ codes "end\n") ≡ None
unfolding held_at word_at
end_no_held (s ∷ ss) = refl
end_no_held [] = refl

end_no_open : open_at (codes "end\n") ≡ None
unfolding open_at word_at
end_no_open = refl

log_has_parts : (h : List Entry) (rest : Rest) → Spellable h rest → Parts (log_text h rest) (h, rest) (codes "end\n")
unfolding Spellable
log_has_parts h rest s = record {
  parts = log_is (h, rest);
  entries = s.0;
  held = s.1;
  unfed = s.2;
  no_entry = end_no_entry rest.held rest.unfed;
  no_held = end_no_held rest.unfed;
  no_open = end_no_open;
}

pub log_lines : (h : List Entry) (rest : Rest) → Spellable h rest → lines_at (log_text h rest) ≡ ((h, rest), codes "end\n")
log_lines h rest s = parts_again (log_text h rest) (h, rest) (codes "end\n") (log_has_parts h rest s)

pub log_again : (h : List Entry) (rest : Rest) → Spellable h rest → log_in (log_text h rest) ≡ Ok (h, rest)
unfolding log_in ended
log_again h rest s = ap (λ (y : (List Entry × Rest) × List ℕ). ended y.0 y.1) (log_lines h rest s)

spelled : (bytes : List ℕ) (x : List Entry × Rest) (r : List ℕ) → Parts bytes x r → Spellable x.0 x.1
unfolding Spellable
spelled bytes x r p = (p.entries, p.held, p.unfed)

-- nothing stands behind the last line
only_end : (r : List ℕ) → begins (codes "end\n") r ≡ true → (length r == 4) ≡ true → r ≡ codes "end\n"
only_end r there four =
    let parts = begins_took (codes "end\n") r there in
    let long : length r ≡ 4 = eqb-true (length r) 4 four in
    let none : after (codes "end\n") r ≡ [] = empty (after (codes "end\n") r) (omega (arith, ap length parts, long)) in
    parts ∙ ap (λ (t : List ℕ). codes "end\n" ++ t) none
  where
    empty : (t : List ℕ) → length t ≤ 0 → t ≡ []
    empty [] h = refl
    empty (b ∷ bs) h = absurd (omega arith)

-- ---- a text that is no log

-- whether a line of a kind stands before rows of another is told by the first line
stays_before : {A B : Type 0} {read : List ℕ → Read A} {text : A → List ℕ} {good : A → Bool} {read_other : List ℕ → Read B} {text_other : B → List ℕ} {good_other : B → Bool} → Lines read text good → Lines read_other text_other good_other
    → (xs : List B) (r s : List ℕ) → list_all good_other xs ≡ true → (read r ≡ None → read s ≡ None) → read (flat_map text_other xs ++ r) ≡ None → read (flat_map text_other xs ++ s) ≡ None
stays_before t other [] r s all stays none = stays none
stays_before {A} {B} {read} {text} {good} {read_other} {text_other} {good_other} t other (x ∷ xs) r s all stays none =
    let parts = and_parts (good_other x) (list_all good_other xs) all in
    ap read (append_assoc (text_other x) (flat_map text_other xs) s)
    ∙ stays_none t (text_other x) (flat_map text_other xs ++ r) (flat_map text_other xs ++ s) (other.line x parts.0) (ap read (sym (append_assoc (text_other x) (flat_map text_other xs) r)) ∙ none)

-- the same lines, with another text behind the line that follows them
other_parts : (bytes : List ℕ) (x : List Entry × Rest) (l r s : List ℕ) → IsLine l → Parts bytes x (l ++ r) → Parts (lines_and x (l ++ s)) x (l ++ s)
other_parts bytes x l r s line p = record {
  parts = refl;
  entries = p.entries;
  held = p.held;
  unfed = p.unfed;
  no_entry = stays_before entry_lines held_lines x.1.held (opens_text x.1.unfed ++ (l ++ r)) (opens_text x.1.unfed ++ (l ++ s)) p.held
      (stays_before entry_lines open_lines x.1.unfed (l ++ r) (l ++ s) p.unfed (stays_none entry_lines l r s line)) p.no_entry;
  no_held = stays_before held_lines open_lines x.1.unfed (l ++ r) (l ++ s) p.unfed (stays_none held_lines l r s line) p.no_held;
  no_open = stays_none open_lines l r s line p.no_open;
}

-- where some log begins with the lines and a further one, that one is the last
last_of_log : (bytes : List ℕ) (x : List Entry × Rest) (l r s : List ℕ) → IsLine l → Parts bytes x (l ++ r) → IsLogFront (lines_and x (l ++ s)) → (more : List ℕ) × (l ++ (s ++ more) ≡ codes "end\n")
unfolding IsLogFront
last_of_log bytes x l r s line p front =
    let more = front.3.0 in
    let group : lines_and x (l ++ s) ++ front.3.0 ≡ lines_and x (l ++ (s ++ front.3.0)) = and_more x (l ++ s) front.3.0 ∙ ap (lines_and x) (append_assoc l s front.3.0) in
    let own = parts_again _ x (l ++ (s ++ front.3.0)) (other_parts bytes x l r (s ++ front.3.0) line p) in
    let theirs = log_lines front.0 front.1 front.2 in
    let same : (x, l ++ (s ++ front.3.0)) ≡ ((front.0, front.1), codes "end\n") = sym own ∙ ap lines_at (sym group ∙ front.3.1) ∙ theirs in
    (front.3.0, ap (λ (y : (List Entry × Rest) × List ℕ). y.1) same)

-- lines that a log begins with
is_front : (bytes : List ℕ) (x : List Entry × Rest) (r s more : List ℕ) → Parts bytes x r → s ++ more ≡ codes "end\n" → IsLogFront (lines_and x s)
unfolding IsLogFront
is_front bytes x r s more p whole =
    (x.0, x.1, spelled bytes x r p, (more, and_more x s more ∙ ap (lines_and x) whole ∙ sym (log_is x)))

-- the first lines, and how many there are
upto_parts : (bytes : List ℕ) (x : List Entry × Rest) (r : List ℕ) (n : ℕ) → Parts bytes x r → lines_upto (line_count x + n) bytes ≡ lines_and x (lines_upto n r)
upto_parts bytes x r n p =
    let k : line_count x + n ≡ length x.0 + (length x.1.held + (length x.1.unfed + n)) = omega arith in
    ap (λ (m : ℕ). lines_upto m bytes) k ∙ ap (lines_upto (length x.0 + (length x.1.held + (length x.1.unfed + n)))) p.parts
    ∙ upto_rows entry_lines x.0 (length x.1.held + (length x.1.unfed + n)) (helds_text x.1.held ++ (opens_text x.1.unfed ++ r)) p.entries
    ∙ ap (λ (t : List ℕ). entries_text x.0 ++ t) (upto_rows held_lines x.1.held (length x.1.unfed + n) (opens_text x.1.unfed ++ r) p.held
    ∙ ap (λ (t : List ℕ). helds_text x.1.held ++ t) (upto_rows open_lines x.1.unfed n r p.unfed))

feeds_parts : (bytes : List ℕ) (x : List Entry × Rest) (r : List ℕ) → Parts bytes x r → feeds bytes ≡ line_count x + feeds r
feeds_parts bytes x r p =
    let e0 = ap feeds p.parts ∙ feeds_rows entry_lines x.0 (helds_text x.1.held ++ (opens_text x.1.unfed ++ r)) p.entries in
    let e1 = feeds_rows held_lines x.1.held (opens_text x.1.unfed ++ r) p.held in
    let e2 = feeds_rows open_lines x.1.unfed r p.unfed in
    omega (arith, e0, e1, e2)

no_log : (bytes : List ℕ) (line : ℕ) → log_in bytes ≡ Err line → (h : List Entry) (rest : Rest) → Spellable h rest → bytes ≡ log_text h rest → ⊥
no_log bytes line e h rest s is = let other = sym e ∙ ap log_in is ∙ log_again h rest s in absurd cc

-- the line that follows is the last one of a log where some log goes on with it
goes_on_last : (bytes : List ℕ) (x : List Entry × Rest) (r : List ℕ) → Parts bytes x r → 1 ≤ feeds r → IsLogFront (lines_upto (line_count x + 1) bytes) → begins (codes "end\n") r ≡ true
goes_on_last bytes x r p some front =
    let f = first_line r some in
    let upto : lines_upto (line_count x + 1) bytes ≡ lines_and x (f.line ++ []) = upto_parts bytes x r 1 p ∙ ap (λ (t : List ℕ). lines_and x (lines_upto 1 t)) f.parts ∙ ap (lines_and x) (upto_line f.line 0 f.rest f.is_line ∙ ap (λ (t : List ℕ). f.line ++ t) (upto_none f.rest)) in
    let own : Parts bytes x (f.line ++ f.rest) = subst (λ (t : List ℕ). Parts bytes x t) f.parts p in
    let end = last_of_log bytes x f.line f.rest [] f.is_line own (subst IsLogFront upto front) in
    let same = one_line f.line (codes "end\n") end.0 [] f.is_line last_line end.1 in
    ap (begins (codes "end\n")) (f.parts ∙ ap (λ (t : List ℕ). t ++ f.rest) same.0) ∙ begins_again (codes "end\n") f.rest

-- the line after the ones that were read is bad
next_is_bad : (bytes : List ℕ) (line : ℕ) (x : List Entry × Rest) (r : List ℕ) → Parts bytes x r → log_in bytes ≡ Err line → line ≡ line_count x + 1 → begins (codes "end\n") r ≡ false → IsFirstBadLine bytes line
next_is_bad bytes line x r p e is other =
    let count = feeds_parts bytes x r p in
    let before : line - 1 ≡ line_count x + 0 = omega (arith, is) in
    let first : lines_upto (line - 1) bytes ≡ lines_and x [] = ap (λ (m : ℕ). lines_upto m bytes) before ∙ upto_parts bytes x r 0 p ∙ ap (lines_and x) (upto_none r) in
    record {
      no_log = no_log bytes line e;
      from_one = omega (arith, is);
      before = (omega (arith, is, count), subst IsLogFront (sym first) (is_front bytes x r [] (codes "end\n") p refl));
      bad = λ low front.
          let there = goes_on_last bytes x r p (omega (arith, is, count, low)) (subst (λ (m : ℕ). IsLogFront (lines_upto m bytes)) is front) in
          absurd (let wrong = sym there ∙ other in cc);
    }

-- no log goes on behind its last line
nothing_behind : (bytes : List ℕ) (x : List Entry × Rest) (r : List ℕ) → Parts bytes x (codes "end\n" ++ r) → 1 ≤ feeds r → IsLogFront (lines_upto (line_count x + 2) bytes) → ⊥
nothing_behind bytes x r p some front =
    let f = first_line r some in
    let second : lines_upto 1 r ≡ f.line ++ [] = ap (lines_upto 1) f.parts ∙ upto_line f.line 0 f.rest f.is_line ∙ ap (λ (t : List ℕ). f.line ++ t) (upto_none f.rest) in
    let upto : lines_upto (line_count x + 2) bytes ≡ lines_and x (codes "end\n" ++ (f.line ++ [])) = upto_parts bytes x (codes "end\n" ++ r) 2 p ∙ ap (lines_and x) (upto_line (codes "end\n") 1 r last_line ∙ ap (λ (t : List ℕ). codes "end\n" ++ t) second) in
    let end = last_of_log bytes x (codes "end\n") r (f.line ++ []) last_line p (subst IsLogFront upto front) in
    let long : 1 ≤ length f.line = line_long f.line f.is_line in
    let size = length-append (f.line ++ []) end.0 in
    let size_line = length-append f.line [] in
    let whole = ap length end.1 in
    omega (arith, long, size, size_line, whole)

-- the line behind the last one is bad
behind_is_bad : (bytes : List ℕ) (line : ℕ) (x : List Entry × Rest) (r : List ℕ) → Parts bytes x r → log_in bytes ≡ Err line → line ≡ line_count x + 2 → begins (codes "end\n") r ≡ true → IsFirstBadLine bytes line
behind_is_bad bytes line x r p e is there =
    let rest = after (codes "end\n") r in
    let parts = begins_took (codes "end\n") r there in
    let own : Parts bytes x (codes "end\n" ++ after (codes "end\n") r) = subst (λ (t : List ℕ). Parts bytes x t) parts p in
    let count = feeds_parts bytes x (codes "end\n" ++ after (codes "end\n") r) own in
    let last = feeds_line (codes "end\n") (after (codes "end\n") r) last_line in
    let before : line - 1 ≡ line_count x + 1 = omega (arith, is) in
    let first : lines_upto (line - 1) bytes ≡ lines_and x (codes "end\n" ++ []) = ap (λ (m : ℕ). lines_upto m bytes) before ∙ upto_parts bytes x (codes "end\n" ++ after (codes "end\n") r) 1 own
    ∙ ap (lines_and x) (upto_line (codes "end\n") 0 (after (codes "end\n") r) last_line ∙ ap (λ (t : List ℕ). codes "end\n" ++ t) (upto_none (after (codes "end\n") r))) in
    record {
      no_log = no_log bytes line e;
      from_one = omega (arith, is);
      before = (omega (arith, is, count, last), subst IsLogFront (sym first) (is_front bytes x r (codes "end\n" ++ []) [] p refl));
      bad = λ low front. nothing_behind bytes x (after (codes "end\n") r) own (omega (arith, is, count, last, low)) (subst (λ (m : ℕ). IsLogFront (lines_upto m bytes)) is front);
    }

-- ---- what is answered

abbrev is_err : ℕ → Result (List Entry × Rest) ℕ
is_err line = Err line

abbrev is_ok : List Entry × Rest → Result (List Entry × Rest) ℕ
is_ok x = Ok x

err_is : (a b : ℕ) → is_err a ≡ is_err b → b ≡ a
err_is a b e = cc

ok_is : (a b : List Entry × Rest) → is_ok a ≡ is_ok b → a ≡ b
ok_is a b e = cc

pub read_is_log : (bytes : List ℕ) (y : List Entry × Rest) → log_in bytes ≡ Ok y → IsLog bytes y.0 y.1
unfolding log_in ended
read_is_log bytes y e =
    let x = (lines_at bytes).0 in
    let r = (lines_at bytes).1 in
    let p = parts_of bytes in
    chosen (begins (codes "end\n") (lines_at bytes).1) _ _ (is_ok y) e
    (λ there e1. chosen (length (lines_at bytes).1 == 4) _ _ (is_ok y) e1
    (λ four e2.
    let same : (lines_at bytes).0 ≡ y = ok_is (lines_at bytes).0 y e2 in
    let text : bytes ≡ log_text (lines_at bytes).0.0 (lines_at bytes).0.1 = p.parts ∙ ap (lines_and (lines_at bytes).0) (only_end (lines_at bytes).1 there four) ∙ sym (log_is (lines_at bytes).0) in
    subst (λ (z : List Entry × Rest). IsLog bytes z.0 z.1) same (spelled bytes (lines_at bytes).0 (lines_at bytes).1 p, text))
    (λ _ e2. absurd cc))
    (λ _ e1. absurd cc)

pub refused_is_bad : (bytes : List ℕ) (line : ℕ) → log_in bytes ≡ Err line → IsFirstBadLine bytes line
unfolding log_in ended
refused_is_bad bytes line e =
    chosen (begins (codes "end\n") (lines_at bytes).1) _ _ (is_err line) e
    (λ there e1. chosen (length (lines_at bytes).1 == 4) _ _ (is_err line) e1
    (λ _ e2. absurd cc)
    (λ _ e2. behind_is_bad bytes line (lines_at bytes).0 (lines_at bytes).1 (parts_of bytes) e (err_is (line_count (lines_at bytes).0 + 2) line e2) there))
    (λ other e1. next_is_bad bytes line (lines_at bytes).0 (lines_at bytes).1 (parts_of bytes) e (err_is (line_count (lines_at bytes).0 + 1) line e1) other)

pub is_reading : (bytes : List ℕ) (result : Result (List Entry × Rest) LogError) → GivesLog result (log_in bytes) → IsReading bytes result
is_reading bytes (Ok x) gives = read_is_log bytes x gives
is_reading bytes (Err errors.Memory) gives = tt
is_reading bytes (Err (errors.Refused line)) gives = refused_is_bad bytes line gives

pub finds : (bytes : List ℕ) (result : Result (List Entry × Rest) LogError) → GivesLog result (log_in bytes) → (h : List Entry) (rest : Rest) → IsLog bytes h rest → Finds result h rest
finds bytes (Ok x) gives h rest log =
    let same = sym gives ∙ ap log_in log.1 ∙ log_again h rest log.0 in
    ok_is x (h, rest) same
finds bytes (Err errors.Memory) gives h rest log = tt
finds bytes (Err (errors.Refused line)) gives h rest log = no_log bytes line gives h rest log.0 log.1

-- ---- laws of the text

-- a text stands for one history and one rest
pub one_value : (bytes : List ℕ) (g h : List Entry) (rest_g rest_h : Rest) → IsLog bytes g rest_g → IsLog bytes h rest_h → (g ≡ h) × (rest_g ≡ rest_h)
one_value bytes g h rest_g rest_h of_g of_h =
    let same = sym (log_again g rest_g of_g.0) ∙ ap log_in (sym of_g.1 ∙ of_h.1) ∙ log_again h rest_h of_h.0 in
    let pair = ok_is (g, rest_g) (h, rest_h) same in
    (ap (λ (x : List Entry × Rest). x.0) pair, ap (λ (x : List Entry × Rest). x.1) pair)

pub none_behind : (bytes more : List ℕ) (g h : List Entry) (rest_g rest_h : Rest) → IsLog bytes g rest_g → IsLog (bytes ++ more) h rest_h → more ≡ []
none_behind bytes more g h rest_g rest_h of_g of_h =
    let whole : bytes ++ more ≡ lines_and (g, rest_g) (codes "end\n" ++ more) = ap (λ (t : List ℕ). t ++ more) (of_g.1 ∙ log_is (g, rest_g)) ∙ and_more (g, rest_g) (codes "end\n") more in
    let own : Parts (lines_and (g, rest_g) (codes "end\n" ++ [])) (g, rest_g) (codes "end\n" ++ []) = subst (λ (t : List ℕ). Parts t (g, rest_g) (codes "end\n")) (log_is (g, rest_g)) (log_has_parts g rest_g of_g.0) in
    let mine = parts_again _ (g, rest_g) (codes "end\n" ++ more) (other_parts (lines_and (g, rest_g) (codes "end\n")) (g, rest_g) (codes "end\n") [] more last_line own) in
    let theirs = log_lines h rest_h of_h.0 in
    let same : ((g, rest_g), codes "end\n" ++ more) ≡ ((h, rest_h), codes "end\n") = sym mine ∙ ap lines_at (sym whole ∙ of_h.1) ∙ theirs in
    append_cancel_left (codes "end\n") more [] (ap (λ (y : (List Entry × Rest) × List ℕ). y.1) same)

pub found_again : (h : List Entry) (rest : Rest) → Spellable h rest → (found : Result (List Entry × Rest) LogError) → IsReading (log_text h rest) found → Finds found h rest
found_again h rest s (Ok x) reading =
    let same = one_value (log_text h rest) x.0 h x.1 rest reading (s, refl) in
    λ i. (same.0 i, same.1 i)
found_again h rest s (Err errors.Memory) reading = tt
found_again h rest s (Err (errors.Refused line)) reading = reading.no_log h rest s refl

-- ---- the first bad line

abbrev pub Verdict : List ℕ → Type 0
Verdict bytes = ((h : List Entry) × (rest : Rest) × IsLog bytes h rest) ⊎ ((line : ℕ) × IsFirstBadLine bytes line)

verdict_of : (bytes : List ℕ) (r : Result (List Entry × Rest) ℕ) → log_in bytes ≡ r → Verdict bytes
verdict_of bytes (Ok x) e = inl (x.0, x.1, read_is_log bytes x e)
verdict_of bytes (Err line) e = inr (line, refused_is_bad bytes line e)

pub verdict : (bytes : List ℕ) → Verdict bytes
verdict bytes = verdict_of bytes (log_in bytes) refl

pub never_both : (bytes : List ℕ) (h : List Entry) (rest : Rest) (line : ℕ) → IsLog bytes h rest → IsFirstBadLine bytes line → ⊥
never_both bytes h rest line log bad = bad.no_log h rest log.0 log.1

-- more lines begin with fewer
upto_more : (m n : ℕ) (bytes : List ℕ) → m ≤ n → (more : List ℕ) × (lines_upto m bytes ++ more ≡ lines_upto n bytes)
upto_more m n [] low = ([], refl)
upto_more zero n (b ∷ bs) low = (lines_upto n (b ∷ bs), refl)
upto_more (suc m) zero (b ∷ bs) low = absurd (omega arith)
upto_more (suc m) (suc n) (b ∷ bs) low =
    let rest = by_feed (b == 10) (upto_more m n bs (omega arith)) (upto_more (suc m) (suc n) bs low) in
    (rest.0, ap (λ (t : List ℕ). b ∷ t) rest.1)
  where
    by_feed : (t : Bool) → ((more : List ℕ) × (lines_upto m bs ++ more ≡ lines_upto n bs)) → ((more : List ℕ) × (lines_upto (suc m) bs ++ more ≡ lines_upto (suc n) bs))
        → (more : List ℕ) × (lines_upto (if t then m else suc m) bs ++ more ≡ lines_upto (if t then n else suc n) bs)
    by_feed true fewer same = fewer
    by_feed false fewer same = same

front_of_front : (a more : List ℕ) → IsLogFront (a ++ more) → IsLogFront a
unfolding IsLogFront
front_of_front a more front = (front.0, front.1, front.2, (more ++ front.3.0, sym (append_assoc a more front.3.0) ∙ front.3.1))

not_before : (bytes : List ℕ) (a b : ℕ) → IsFirstBadLine bytes a → IsFirstBadLine bytes b → a < b → ⊥
not_before bytes a b of_a of_b less =
    let more = upto_more a (b - 1) bytes (omega arith) in
    let front = front_of_front (lines_upto a bytes) more.0 (subst IsLogFront (sym more.1) of_b.before.1) in
    of_a.bad (omega (arith, of_b.before.0)) front

pub one_bad_line : (bytes : List ℕ) (a b : ℕ) → IsFirstBadLine bytes a → IsFirstBadLine bytes b → a ≡ b
one_bad_line bytes a b of_a of_b = by_order (cases_order a b)
  where
    by_order : (a ≡ b) ⊎ ((a < b) ⊎ (b < a)) → a ≡ b
    by_order (inl same) = same
    by_order (inr (inl less)) = absurd (not_before bytes a b of_a of_b less)
    by_order (inr (inr less)) = absurd (not_before bytes b a of_b of_a less)
