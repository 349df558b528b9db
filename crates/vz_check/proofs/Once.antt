-- One verdict is true of a log and the bytes of its frames.
use Rattle.std.proofs.Common.{◌≡◌, ℕ, ◌+◌, true, List, [], ◌∷◌, ◌++◌, length, ◌⊎◌, inl, inr, refl, sym, ap, subst, ◌∙◌, append_assoc, append-nil}
use Rattle.std.specs.List.{list_all}
use Rattle.std.proofs.{lemmas.Bool.and_parts, lemmas.List.append_cancel_left, lemmas.Grind.flat_map-append}
use Rattle.vz_rules.specs.{Plan.Plan, Plan.IsPlan, declared.entry.Entry.Entry, declared.entry.Rest.Rest, Step.Legal}
use Rattle.vz_rules.specs.Log.{entry_text, log_text, rest_of, has_text_entry, Spellable, BeginsWith}
use Rattle.vz_rules.proofs.{Prefixes.legal-at, Kept_spelled.legal_spelled}
use Rattle.vz_journal.specs.{Answers.IsLog, Reading.entry_at}
use Rattle.vz_journal.proofs.Again_lines as again
use Rattle.vz_journal.proofs.Found.{one_value, log_is, end_no_entry}
use Rattle.vz_check.specs.declared.verdict.What.{What}
use Rattle.vz_check.specs.declared.verdict.What.TheVariants.{LogText, Reply, Frame, Rest as RestOf, Length}
use Rattle.vz_check.specs.{declared.verdict.Verdict.Verdict, declared.verdict.Verdict.TheVariants.Yes, declared.verdict.Verdict.TheVariants.No}
use Rattle.vz_check.specs.Verdict.{frames_of, IsSound, IsNext, IsMade, IsFault, IsVerdict}
use Rattle.vz_check.proofs.{Growing.frames_front, Lines.lines_of, Lines.one_more, Lines.one_entry, Lines.log_behind}

-- of two histories they are one, or one begins with the other
abbrev Longer : List Entry → List Entry → Type 0
Longer h g = (e : Entry) × (more : List Entry) × (h ≡ g ++ e ∷ more)

abbrev Compared : List Entry → List Entry → Type 0
Compared h g = (h ≡ g) ⊎ (Longer h g ⊎ Longer g h)

both : {x y : Entry} {h g : List Entry} → x ≡ y → h ≡ g → ◌≡◌ {A = List Entry} (x ∷ h) (y ∷ g)
both e is = λ i. e i ∷ is i

compared_more : (x y : Entry) (h g : List Entry) → x ≡ y → Compared h g → Compared (x ∷ h) (y ∷ g)
compared_more x y h g e (inl is) = inl (both e is)
compared_more x y h g e (inr (inl l)) = inr (inl (l.0, l.1, both e l.2))
compared_more x y h g e (inr (inr l)) = inr (inr (l.0, l.1, both (sym e) l.2))

compared : (h g : List Entry) (r s : List ℕ) → list_all has_text_entry h ≡ true → list_all has_text_entry g ≡ true → lines_of h ++ r ≡ lines_of g ++ s → Compared h g
compared [] [] r s all_h all_g same = inl refl
compared [] (y ∷ g) r s all_h all_g same = inr (inr (y, g, refl))
compared (x ∷ h) [] r s all_h all_g same = inr (inl (x, h, refl))
compared (x ∷ h) (y ∷ g) r s all_h all_g same =
    let of_h = and_parts (has_text_entry x) (list_all has_text_entry h) all_h in
    let of_g = and_parts (has_text_entry y) (list_all has_text_entry g) all_g in
    let pair = one_entry x y (lines_of h ++ r) (lines_of g ++ s) of_h.0 of_g.0 (sym (append_assoc (entry_text x) (lines_of h) r) ∙ (same ∙ append_assoc (entry_text y) (lines_of g) s)) in
    compared_more x y h g pair.0 (compared h g r s of_h.1 of_g.1 pair.1)

middle_good : (h more : List Entry) (e : Entry) → list_all has_text_entry (h ++ e ∷ more) ≡ true → has_text_entry e ≡ true
middle_good [] more e all = (and_parts (has_text_entry e) (list_all has_text_entry more) all).0
middle_good (x ∷ h) more e all = middle_good h more e (and_parts (has_text_entry x) (list_all has_text_entry (h ++ e ∷ more)) all).1

module _ (p : Plan) (log bytes : List ℕ) where
  -- one entry is next
  one_next : (h : List Entry) (e f : Entry) → IsNext log h e → IsNext log h f → e ≡ f
  one_next h e f of_e of_f =
      let same : entry_text e ++ of_e.1.0 ≡ entry_text f ++ of_f.1.0 = append_cancel_left (lines_of h) (entry_text e ++ of_e.1.0) (entry_text f ++ of_f.1.0) (front h e of_e ∙ sym (front h f of_f)) in
      (one_entry e f of_e.1.0 of_f.1.0 of_e.0 of_f.0 same).0
    where
      front : (k : List Entry) (x : Entry) (n : IsNext log k x) → lines_of k ++ (entry_text x ++ n.1.0) ≡ log
      front k x n = sym (append_assoc (lines_of k) (entry_text x) n.1.0) ∙ (ap (λ l. l ++ n.1.0) (sym (one_more k x)) ∙ n.1.1)

  -- no entry is next where the log ends
  not_both : (h : List Entry) (e : Entry) (rest : Rest) → IsNext log h e → IsLog log h rest → ⊥
  not_both h e rest next is =
      let same : entry_text e ++ next.1.0 ≡ log_text [] rest = append_cancel_left (lines_of h) (entry_text e ++ next.1.0) (log_text [] rest)
      (sym (append_assoc (lines_of h) (entry_text e) next.1.0) ∙ (ap (λ l. l ++ next.1.0) (sym (one_more h e)) ∙ (next.1.1 ∙ (is.1 ∙ log_behind h rest)))) in
      let some = again.entries.law e next.1.0 next.0 refl in
      let none = ap entry_at (same ∙ log_is ([], rest)) ∙ end_no_entry rest.held rest.unfed in
      absurd (let wrong = sym some ∙ none in cc)

  -- what has no fault further on has none before
  passes : (h more : List Entry) (e : Entry) → IsSound p log bytes (h ++ e ∷ more) → IsNext log h e × IsMade p h e × BeginsWith bytes (frames_of p (h ++ e ∷ []))
  passes h more e sound =
      let whole : (h ++ e ∷ []) ++ more ≡ h ++ e ∷ more = append_assoc h (e ∷ []) more in
      let lines : lines_of (h ++ e ∷ more) ≡ lines_of (h ++ e ∷ []) ++ lines_of more = ap lines_of (sym whole) ∙ flat_map-append entry_text (h ++ e ∷ []) more in
      let frames = frames_front p (h ++ e ∷ []) more in (
        (middle_good h more e sound.spelled, (lines_of more ++ sound.stands.0, sym (append_assoc (lines_of (h ++ e ∷ [])) (lines_of more) sound.stands.0) ∙ (ap (λ l. l ++ sound.stands.0) (sym lines) ∙ sound.stands.1))),
        legal-at p h more e sound.legal,
        (frames.0 ++ sound.drawn.0, sym (append_assoc (frames_of p (h ++ e ∷ [])) frames.0 sound.drawn.0) ∙ (ap (λ l. l ++ sound.drawn.0) (sym frames.1 ∙ ap (frames_of p) whole) ∙ sound.drawn.1)),
      )

  no_fault_before : (h more : List Entry) (e : Entry) (what : What) → IsSound p log bytes (h ++ e ∷ more) → IsFault p log bytes h what → ⊥
  unfolding IsFault
  no_fault_before h more e LogText sound f = f.0 e (passes h more e sound).0
  no_fault_before h more e Reply sound f = let t = passes h more e sound in f.2 (subst (IsMade p h) (one_next h e f.0 t.0 f.1) t.1)
  no_fault_before h more e Frame sound f =
      let t = passes h more e sound in
      f.3 (subst (λ (x : Entry). BeginsWith bytes (frames_of p (h ++ x ∷ []))) (one_next h e f.0 t.0 f.1) t.2)
  no_fault_before h more e RestOf sound f = not_both h e f.0 (passes h more e sound).0 f.1
  no_fault_before h more e Length sound f = not_both h e (rest_of p h) (passes h more e sound).0 f.0

  one_fault : (h : List Entry) (v w : What) → IsFault p log bytes h v → IsFault p log bytes h w → v ≡ w
  unfolding IsFault
  one_fault h LogText LogText f g = refl
  one_fault h LogText Reply f g = absurd (f.0 g.0 g.1)
  one_fault h LogText Frame f g = absurd (f.0 g.0 g.1)
  one_fault h LogText RestOf f g = absurd (f.1 g.0 g.1)
  one_fault h LogText Length f g = absurd (f.1 (rest_of p h) g.0)
  one_fault h Reply LogText f g = absurd (g.0 f.0 f.1)
  one_fault h Reply Reply f g = refl
  one_fault h Reply Frame f g = absurd (f.2 (subst (IsMade p h) (one_next h g.0 f.0 g.1 f.1) g.2))
  one_fault h Reply RestOf f g = absurd (not_both h f.0 g.0 f.1 g.1)
  one_fault h Reply Length f g = absurd (not_both h f.0 (rest_of p h) f.1 g.0)
  one_fault h Frame LogText f g = absurd (g.0 f.0 f.1)
  one_fault h Frame Reply f g = absurd (g.2 (subst (IsMade p h) (one_next h f.0 g.0 f.1 g.1) f.2))
  one_fault h Frame Frame f g = refl
  one_fault h Frame RestOf f g = absurd (not_both h f.0 g.0 f.1 g.1)
  one_fault h Frame Length f g = absurd (not_both h f.0 (rest_of p h) f.1 g.0)
  one_fault h RestOf LogText f g = absurd (g.1 f.0 f.1)
  one_fault h RestOf Reply f g = absurd (not_both h g.0 f.0 g.1 f.1)
  one_fault h RestOf Frame f g = absurd (not_both h g.0 f.0 g.1 f.1)
  one_fault h RestOf RestOf f g = refl
  one_fault h RestOf Length f g = absurd (f.2 (one_value log h h f.0 (rest_of p h) f.1 g.0).1)
  one_fault h Length LogText f g = absurd (g.1 (rest_of p h) f.0)
  one_fault h Length Reply f g = absurd (not_both h g.0 (rest_of p h) g.1 f.0)
  one_fault h Length Frame f g = absurd (not_both h g.0 (rest_of p h) g.1 f.0)
  one_fault h Length RestOf f g = absurd (g.2 (one_value log h h g.0 (rest_of p h) g.1 f.0).1)
  one_fault h Length Length f g = refl

  -- a log of a legal history with its rest has no fault
  yes_log : (h : List Entry) → IsPlan p → Legal p h → log ≡ log_text h (rest_of p h) → IsLog log h (rest_of p h)
  yes_log h plan legal is = (legal_spelled p h plan legal, is)

  yes_sound : (h : List Entry) → IsPlan p → Legal p h → log ≡ log_text h (rest_of p h) → bytes ≡ frames_of p h → IsSound p log bytes h
  unfolding Spellable
  yes_sound h plan legal is drawn = record {
    spelled = (legal_spelled p h plan legal).0;
    stands = (log_text [] (rest_of p h), sym (is ∙ log_behind h (rest_of p h)));
    legal = legal;
    drawn = ([], append-nil (frames_of p h) ∙ sym drawn);
  }

  not_here : (h : List Entry) (what : What) → IsLog log h (rest_of p h) → bytes ≡ frames_of p h → IsFault p log bytes h what → ⊥
  unfolding IsFault
  not_here h LogText is drawn f = f.1 (rest_of p h) is
  not_here h Reply is drawn f = not_both h f.0 (rest_of p h) f.1 is
  not_here h Frame is drawn f = not_both h f.0 (rest_of p h) f.1 is
  not_here h RestOf is drawn f = f.2 (one_value log h h f.0 (rest_of p h) f.1 is).1
  not_here h Length is drawn f = f.1 drawn

  fronts : (g h : List Entry) → IsSound p log bytes g → IsSound p log bytes h → Compared g h
  fronts g h of_g of_h = compared g h of_g.stands.0 of_h.stands.0 of_g.spelled of_h.spelled (of_g.stands.1 ∙ sym of_h.stands.1)

  not_yes : (g h : List Entry) (what : What) → Compared g h → IsSound p log bytes g → IsLog log g (rest_of p g) → bytes ≡ frames_of p g → IsSound p log bytes h → IsFault p log bytes h what → ⊥
  not_yes g h what (inl same) sound is drawn of_h f = not_here g what is drawn (subst (λ (x : List Entry). IsFault p log bytes x what) (sym same) f)
  not_yes g h what (inr (inl l)) sound is drawn of_h f = no_fault_before h l.1 l.0 what (subst (IsSound p log bytes) l.2 sound) f
  not_yes g h what (inr (inr l)) sound is drawn of_h f = not_both g l.0 (rest_of p g) (passes g l.1 l.0 (subst (IsSound p log bytes) l.2 of_h)).0 is

  same_no : (g h : List Entry) (m n : ℕ) (v w : What) → Compared g h → IsSound p log bytes g → m ≡ length g + 1 → IsFault p log bytes g v → IsSound p log bytes h → n ≡ length h + 1 → IsFault p log bytes h w → No m v ≡ No n w
  same_no g h m n v w (inl same) of_g place_g f of_h place_h k =
      let what = one_fault g v w f (subst (λ (x : List Entry). IsFault p log bytes x w) (sym same) k) in
      let place : m ≡ n = place_g ∙ (ap (λ (x : List Entry). length x + 1) same ∙ sym place_h) in
      λ i. No (place i) (what i)
  same_no g h m n v w (inr (inl l)) of_g place_g f of_h place_h k = absurd (no_fault_before h l.1 l.0 w (subst (IsSound p log bytes) l.2 of_g) k)
  same_no g h m n v w (inr (inr l)) of_g place_g f of_h place_h k = absurd (no_fault_before g l.1 l.0 v (subst (IsSound p log bytes) l.2 of_h) f)

  pub one_verdict : (v w : Verdict) → IsPlan p → IsVerdict p log bytes v → IsVerdict p log bytes w → v ≡ w
  unfolding IsVerdict
  one_verdict Yes Yes plan a b = refl
  one_verdict Yes (No n w) plan a b =
      let sound = yes_sound a.0 plan a.1 a.2 a.3 in
      absurd (not_yes a.0 b.0 w (fronts a.0 b.0 sound b.1) sound (yes_log a.0 plan a.1 a.2) a.3 b.1 b.3)
  one_verdict (No m v) Yes plan a b =
      let sound = yes_sound b.0 plan b.1 b.2 b.3 in
      absurd (not_yes b.0 a.0 v (fronts b.0 a.0 sound a.1) sound (yes_log b.0 plan b.1 b.2) b.3 a.1 a.3)
  one_verdict (No m v) (No n w) plan a b = same_no a.0 b.0 m n v w (fronts a.0 b.0 a.1 b.1) a.1 a.2 a.3 b.1 b.2 b.3
