-- What stands as a log is made and written in pieces.
use Rattle.std.proofs.Common.{◌≡◌, ℕ, ◌+◌, ◌<◌, ◌≤◌, List, [], ◌∷◌, ◌++◌, length, take, drop, get_or, refl, sym, ap, subst, ◌∙◌, arith, append_assoc, append-nil, take_all, codes}
use Rattle.std.specs.List.{flat_map}
use Rattle.std.proofs.{lemmas.Grind.flat_map-append, lemmas.List.take_more, lemmas.List.take-append-drop, lemmas.List.Concat.flat_map-cons}
use Rattle.vz_outside.specs.Shelved.{Shelved, Appends, AppendsFront, KeepsOthers}
use Rattle.vz_outside.proofs.Calls.{Ran, append_nothing}
use Rattle.vz_rules.specs.{declared.entry.Entry.Entry, declared.entry.Rest.Rest, Log.log_text, Log.entry_text, Log.held_text, Log.open_text}
use Rattle.vz_player.specs.Written.{AppendsPart}
use Rattle.vz_player.proofs.Adding.{HasAdded, more_added, front_added}

-- so much of a log was made: a part of it was written, and the rest is left in the text
pub record HasMade (made left : List ℕ) (slot : ℕ) (old new : Shelved) : Type 0 where
  pub part : List ℕ
  pub made_is : made ≡ part ++ left
  pub added : HasAdded part slot old new

module _ (made left : List ℕ) (slot : ℕ) (a b : Shelved) (before : HasMade made left slot a b) where
  -- more was made
  pub more_made : (more longer : List ℕ) → longer ≡ left ++ more → HasMade (made ++ more) longer slot a b
  more_made more longer is = record {
    part = before.part;
    made_is = ap (λ (l : List ℕ). l ++ more) before.made_is ∙ (append_assoc before.part left more ∙ ap (λ (l : List ℕ). before.part ++ l) (sym is));
    added = before.added;
  }

  -- a part of the text was written
  pub piece_written :
      (shorter : List ℕ) (c : Shelved) → AppendsPart left shorter (b.name slot) b c → KeepsOthers (b.name slot) b c → Ran b c → HasMade made shorter slot a c
  piece_written shorter c moved kept ran = record {
    part = before.part ++ moved.part;
    made_is = before.made_is ∙ (ap (λ (l : List ℕ). before.part ++ l) moved.all_is ∙ sym (append_assoc before.part moved.part shorter));
    added = more_added slot before.part a b c before.added moved.part (before.part ++ moved.part) moved.appended kept ran refl;
  }

  -- all of the text was written
  pub all_written :
      (c : Shelved) → Appends left (b.name slot) b c → KeepsOthers (b.name slot) b c → Ran b c → HasAdded made slot a c
  all_written c added kept ran = more_added slot before.part a b c before.added left made added kept ran before.made_is

  -- of the text a front part was written
  pub piece_stopped : (rest all : List ℕ) (c : Shelved) → AppendsFront left (b.name slot) b c → all ≡ made ++ rest → AppendsFront all (a.name slot) a c
  piece_stopped rest all c begun is = front_added slot before.part a b c before.added left rest all begun (is ∙ ap (λ (l : List ℕ). l ++ rest) before.made_is)

  -- no more was written
  pub stopped : (rest all : List ℕ) → all ≡ made ++ rest → AppendsFront all (a.name slot) a b
  stopped rest all is =
      piece_stopped rest all b (λ told. (0, omega arith, append_nothing (b.name slot) b told)) is

-- a log is the lines of its entries, and the log of no entry
pub log_is : (h : List Entry) (rest : Rest) → log_text h rest ≡ flat_map entry_text h ++ log_text [] rest
unfolding log_text
log_is h rest = parts (flat_map entry_text h) (flat_map held_text rest.held) (flat_map open_text rest.unfed) (codes "end") (10 ∷ [])
  where
    parts : (a b c d f : List ℕ) → a ++ b ++ c ++ d ++ f ≡ a ++ (b ++ c ++ d ++ f)
    parts a b c d f = simp append_assoc

-- of its first entries, of the others and of no entry
log_behind : (h g : List Entry) (n : ℕ) (rest : Rest) → g ≡ h → log_text h rest ≡ flat_map entry_text (take n g) ++ (flat_map entry_text (drop n g) ++ log_text [] rest)
log_behind h g n rest same =
    log_is h rest
    ∙ (ap (λ (l : List Entry). flat_map entry_text l ++ log_text [] rest) (sym same ∙ sym (take-append-drop n g))
    ∙ (ap (λ (l : List ℕ). l ++ log_text [] rest) (flat_map-append entry_text (take n g) (drop n g))
    ∙ append_assoc (flat_map entry_text (take n g)) (flat_map entry_text (drop n g)) (log_text [] rest)))

-- of all entries and of no entry
log_whole : (h g : List Entry) (n : ℕ) (rest : Rest) → g ≡ h → length g ≤ n → log_text h rest ≡ flat_map entry_text (take n g) ++ log_text [] rest
log_whole h g n rest same all =
    log_is h rest ∙ ap (λ (l : List Entry). flat_map entry_text l ++ log_text [] rest) (sym same ∙ sym (take_all n g all))

-- the lines of one entry more
lines_more : (g : List Entry) (n : ℕ) (d e : Entry) → n < length g → e ≡ get_or g n d → flat_map entry_text (take (n + 1) g) ≡ flat_map entry_text (take n g) ++ entry_text e
lines_more g n d e low at =
    ap (flat_map entry_text) (take_more g n d low)
    ∙ (flat_map-append entry_text (take n g) (get_or g n d ∷ [])
    ∙ ap (λ (l : List ℕ). flat_map entry_text (take n g) ++ l) (one_line (get_or g n d) ∙ ap entry_text (sym at)))
  where
    one_line : (x : Entry) → flat_map entry_text (x ∷ []) ≡ entry_text x
    one_line x = flat_map-cons entry_text x [] ∙ append-nil (entry_text x)

-- the line of one entry more was made
pub line_made :
    (g : List Entry) (n : ℕ) (d e : Entry) → n < length g → e ≡ get_or g n d → (left longer : List ℕ) (slot : ℕ) (a b : Shelved) →
    HasMade (flat_map entry_text (take n g)) left slot a b → longer ≡ left ++ entry_text e → HasMade (flat_map entry_text (take (n + 1) g)) longer slot a b
line_made g n d e low at left longer slot a b before is =
    subst (λ (l : List ℕ). HasMade l longer slot a b) (sym (lines_more g n d e low at))
    (more_made (flat_map entry_text (take n g)) left slot a b before (entry_text e) longer is)

-- behind the lines of all entries the end was made
pub end_made :
    (h g : List Entry) (n : ℕ) (rest : Rest) → g ≡ h → length g ≤ n → (left longer : List ℕ) (slot : ℕ) (a b : Shelved) →
    HasMade (flat_map entry_text (take n g)) left slot a b → longer ≡ left ++ log_text [] rest → HasMade (log_text h rest) longer slot a b
end_made h g n rest same all left longer slot a b before is =
    subst (λ (l : List ℕ). HasMade l longer slot a b) (sym (log_whole h g n rest same all))
    (more_made (flat_map entry_text (take n g)) left slot a b before (log_text [] rest) longer is)

-- after the lines of some entries no more of the log was written
pub log_stopped :
    (h g : List Entry) (n : ℕ) (rest : Rest) → g ≡ h → (left : List ℕ) (slot : ℕ) (a b : Shelved) →
    HasMade (flat_map entry_text (take n g)) left slot a b → AppendsFront (log_text h rest) (a.name slot) a b
log_stopped h g n rest same left slot a b before =
    stopped (flat_map entry_text (take n g)) left slot a b before (flat_map entry_text (drop n g) ++ log_text [] rest) (log_text h rest) (log_behind h g n rest same)

-- or a front part of what is left
pub log_begun :
    (h g : List Entry) (n : ℕ) (rest : Rest) → g ≡ h → (left : List ℕ) (slot : ℕ) (a b c : Shelved) →
    HasMade (flat_map entry_text (take n g)) left slot a b → AppendsFront left (b.name slot) b c → AppendsFront (log_text h rest) (a.name slot) a c
log_begun h g n rest same left slot a b c before begun =
    piece_stopped (flat_map entry_text (take n g)) left slot a b before (flat_map entry_text (drop n g) ++ log_text [] rest) (log_text h rest) c begun
    (log_behind h g n rest same)

-- of a log that was made a front part of what is left was written
pub made_begun :
    (all left : List ℕ) (slot : ℕ) (a b c : Shelved) → HasMade all left slot a b → AppendsFront left (b.name slot) b c → AppendsFront all (a.name slot) a c
made_begun all left slot a b c before begun = piece_stopped all left slot a b before [] all c begun (sym (append-nil all))

-- nothing is a part that leaves all
pub none_moved : (all : List ℕ) (slot : ℕ) (s : Shelved) → AppendsPart all all (s.name slot) s s
none_moved all slot s = record { part = []; all_is = refl; appended = append_nothing (s.name slot) s }

-- all is a part that leaves nothing
pub all_moved :
    (all left : List ℕ) (slot : ℕ) (a b : Shelved) → left ≡ [] → Appends all (a.name slot) a b → AppendsPart all left (a.name slot) a b
all_moved all left slot a b none appended = record {
  part = all;
  all_is = sym (append-nil all) ∙ ap (λ (l : List ℕ). all ++ l) (sym none);
  appended = appended;
}
