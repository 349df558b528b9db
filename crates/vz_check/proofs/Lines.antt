-- The lines of entries at the front of a text.
use Rattle.std.proofs.Common.{◌≡◌, ℕ, ◌≤◌, true, codes, Some, List, [], ◌∷◌, ◌++◌, length, refl, sym, ap, ◌∙◌, append_assoc, append-nil, arith}
use Rattle.std.specs.List.{flat_map, list_all}
use Rattle.std.proofs.{lemmas.Bool.and_parts, lemmas.Bool.and_from, lemmas.List.length-append, lemmas.Grind.flat_map-append}
use Rattle.vz_rules.specs.{declared.entry.Entry.Entry, declared.entry.Rest.Rest}
use Rattle.vz_rules.specs.Log.{event_text, reply_text, effects_text, entry_text, log_text, held_text, open_text, has_text_entry, Spellable, BeginsWith}
use Rattle.vz_journal.specs.Reading.{entry_at}
use Rattle.vz_journal.proofs.Again_lines as again

abbrev pub lines_of : List Entry → List ℕ
lines_of h = flat_map entry_text h

pub one_more : (h : List Entry) (e : Entry) → lines_of (h ++ e ∷ []) ≡ lines_of h ++ entry_text e
one_more h e = flat_map-append entry_text h (e ∷ []) ∙ ap (λ l. lines_of h ++ l) (append-nil (entry_text e))

pub spelled_more : (h : List Entry) (e : Entry) → list_all has_text_entry h ≡ true → has_text_entry e ≡ true → list_all has_text_entry (h ++ e ∷ []) ≡ true
spelled_more [] e all one = and_from (has_text_entry e) true one refl
spelled_more (x ∷ h) e all one =
    let both = and_parts (has_text_entry x) (list_all has_text_entry h) all in
    and_from (has_text_entry x) (list_all has_text_entry (h ++ e ∷ [])) both.0 (spelled_more h e both.1 one)

pub last_spelled : (h : List Entry) (e : Entry) → list_all has_text_entry (h ++ e ∷ []) ≡ true → has_text_entry e ≡ true
last_spelled [] e all = (and_parts (has_text_entry e) true all).0
last_spelled (x ∷ h) e all = last_spelled h e (and_parts (has_text_entry x) (list_all has_text_entry (h ++ e ∷ [])) all).1

pub entry_long : (e : Entry) → 1 ≤ length (entry_text e)
unfolding entry_text
entry_long e = omega (arith, length-append (event_text e.event ++ (32 ∷ reply_text e.reply) ++ effects_text e.effects) (10 ∷ []))

some_is : (x y : Entry × List ℕ) → Some x ≡ Some y → x ≡ y
some_is x y e = cc

-- texts that begin with the lines of two entries: these are one, and so is what follows
pub one_entry : (e f : Entry) (r s : List ℕ) → has_text_entry e ≡ true → has_text_entry f ≡ true → entry_text e ++ r ≡ entry_text f ++ s → (e ≡ f) × (r ≡ s)
one_entry e f r s good_e good_f same =
    let pair = some_is (e, r) (f, s) (sym (again.entries.law e r good_e refl) ∙ (ap entry_at same ∙ again.entries.law f s good_f refl)) in
    (ap (λ (x : Entry × List ℕ). x.0) pair, ap (λ (x : Entry × List ℕ). x.1) pair)

-- entries that are written alike are one
pub same_entry : (e f : Entry) → has_text_entry e ≡ true → has_text_entry f ≡ true → entry_text e ≡ entry_text f → e ≡ f
same_entry e f good_e good_f same = (one_entry e f [] [] good_e good_f (ap (λ (l : List ℕ). l ++ []) same)).0

-- a log is the lines of its entries and the log of no entry
pub log_behind : (h : List Entry) (rest : Rest) → log_text h rest ≡ lines_of h ++ log_text [] rest
unfolding log_text
log_behind h rest = parts (lines_of h) (flat_map held_text rest.held) (flat_map open_text rest.unfed) (codes "end") (10 ∷ [])
  where
    parts : (a b c d f : List ℕ) → a ++ b ++ c ++ d ++ f ≡ a ++ (b ++ c ++ d ++ f)
    parts a b c d f = simp append_assoc

-- the log of an entry and others begins with the entry's line
pub log_begins : (e : Entry) (h : List Entry) (rest : Rest) → BeginsWith (log_text (e ∷ h) rest) (entry_text e)
log_begins e h rest = (lines_of h ++ log_text [] rest, sym (log_behind (e ∷ h) rest ∙ append_assoc (entry_text e) (lines_of h) (log_text [] rest)))

-- no log is empty
pub log_is_some : (h : List Entry) (rest : Rest) → [] ≡ log_text h rest → ⊥
unfolding log_text
log_is_some h rest none =
    let long = length-append (lines_of h ++ flat_map held_text rest.held ++ flat_map open_text rest.unfed ++ codes "end") (10 ∷ []) in
    absurd (omega (arith, ap length none, long))

pub spelled_part : (h : List Entry) (rest : Rest) → Spellable h rest → Spellable [] rest
unfolding Spellable
spelled_part h rest s = (refl, s.1, s.2)

pub spelled_with : (h : List Entry) (rest : Rest) → list_all has_text_entry h ≡ true → Spellable [] rest → Spellable h rest
unfolding Spellable
spelled_with h rest all s = (all, s.1, s.2)

pub first_good : (e : Entry) (h : List Entry) (rest : Rest) → Spellable (e ∷ h) rest → has_text_entry e ≡ true
unfolding Spellable
first_good e h rest s = (and_parts (has_text_entry e) (list_all has_text_entry h) s.0).0
