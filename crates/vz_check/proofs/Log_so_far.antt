-- How a log stands that is gone through up to a place, and what is then to be said of it.
use Rattle.std.proofs.Common.{◌≡◌, ℕ, ◌+◌, ◌-◌, ◌<◌, ◌≤◌, true, Option, Some, None, List, [], ◌∷◌, ◌++◌, length, take, drop, take_all, drop-drop, length-drop, refl, sym, ap, subst, ◌∙◌, append_assoc, append-nil, arith}
use Rattle.std.specs.List.{list_all}
use Rattle.std.proofs.lemmas.List.{length-append, append_cancel_left}
use Rattle.vz_outside.specs.Shelved.{Shelved, Reading, ReadsOnly}
use Rattle.vz_outside.proofs.Calls.{Ran}
use Rattle.vz_rules.specs.Plan.{Plan, IsPlan}
use Rattle.vz_rules.specs.{World.Machine, World.opening, declared.entry.Event.Event, declared.entry.Entry.Entry, declared.entry.Rest.Rest}
use Rattle.vz_rules.specs.Step.{entry_in, world, world_from, NamesClient, Legal, LegalFrom}
use Rattle.vz_rules.specs.Log.{entry_text, log_text, rest_in, rest_of, has_text_entry, Spellable, BeginsWith}
use Rattle.vz_rules.proofs.{Runs.world-more, Runs.legal-more, Kept_spelled.legal_spelled}
use Rattle.vz_journal.specs.Answers.{IsLog, IsFirstEntry}
use Rattle.vz_check.specs.declared.verdict.What.{What}
use Rattle.vz_check.specs.declared.verdict.What.TheVariants.{LogText, Reply as OtherReply, Frame, Rest as OtherRest, Length}
use Rattle.vz_check.specs.Verdict.{frames_of, IsSound, IsNext, IsMade, IsFault, IsVerdict}
use Rattle.vz_check.specs.Judged.{Gives, IsJudged, IsMadeLine, made_bytes, drawn_bytes, IsFound, IsSomeLog, IsFoundAtEnd, verdict_at}
use Rattle.vz_check.proofs.Giving.{HasRead, none_read, more_read, gives_before, lacks_behind, given, given_is, take_front}
use Rattle.vz_check.proofs.Growing.{frames_more, no_frames}
use Rattle.vz_check.proofs.Lines.{lines_of, one_more, spelled_more, last_spelled, entry_long, same_entry, log_behind, log_begins, log_is_some, spelled_part, spelled_with, first_good}

-- the entries so far have no fault: the machine made them, and their frames were read
pub record Stands (p : Plan) (log : List ℕ) (slot : ℕ) (a b : Shelved) (m : Machine) (at count : ℕ) (h : List Entry) : Type 0 where
  pub spelled : list_all has_text_entry h ≡ true
  pub front : log ≡ lines_of h ++ drop at log
  pub legal : Legal p h
  pub machine : m ≡ record { plan = p; world = world p h }
  pub number : count ≡ length h
  pub few : count ≤ at
  pub within : at ≤ length log
  pub read : HasRead (frames_of p h) slot a b

-- there are such entries
abbrev pub StandsSome : Plan → List ℕ → ℕ → Shelved → Shelved → Machine → ℕ → ℕ → Type 0
StandsSome p log slot a b m at count = (h : List Entry) × Stands p log slot a b m at count h

-- before the first entry
pub stands_first : (p : Plan) (log : List ℕ) (slot : ℕ) (s : Shelved) (m : Machine) → m ≡ record { plan = p; world = opening p } → s.mode slot ≡ Some Reading → StandsSome p log slot s s m 0 0
unfolding Legal LegalFrom world world_from
stands_first p log slot s m is opened = (
  [],
  record {
    spelled = refl;
    front = refl;
    legal = tt;
    machine = is;
    number = refl;
    few = omega arith;
    within = omega arith;
    read = subst (λ l. HasRead l slot s s) (sym (no_frames p)) (none_read slot s opened);
  },
)

-- the line of the entry that a text begins with
pub line_is : (text : List ℕ) (e : Entry) (n : ℕ) → IsFirstEntry text (Some (e, n)) → take n text ≡ entry_text e
line_is text e n first = ap (λ k. take k text) first.1 ∙ (ap (take (length (entry_text e))) first.2 ∙ take_front (entry_text e) (drop n text))

-- it is not empty, and stands in the text
pub line_some : (text : List ℕ) (e : Entry) (n : ℕ) → IsFirstEntry text (Some (e, n)) → 1 ≤ n
line_some text e n first = omega (arith, first.1, entry_long e)

pub line_within : (text : List ℕ) (e : Entry) (n : ℕ) → IsFirstEntry text (Some (e, n)) → n ≤ length text
line_within text e n first = omega (arith, first.1, ap length first.2, length-append (entry_text e) (drop n text))

-- a text that begins with no entry is the log of none where it is one
pub rest_alone : (text : List ℕ) (g : List Entry) (rest : Rest) → IsFirstEntry text None → IsLog text g rest → (r : Rest) × IsLog text [] r
rest_alone text [] rest none is = (rest, is)
rest_alone text (x ∷ g) rest none is = absurd (none x (first_good x g rest is.0) (subst (λ l. BeginsWith l (entry_text x)) (sym is.1) (log_begins x g rest)))

none_behind : (at : ℕ) (log : List ℕ) → length log ≤ at → drop at log ≡ []
none_behind at log all = no_bytes (drop at log) (omega (arith, all, length-drop at log))
  where
    no_bytes : (l : List ℕ) → length l ≤ 0 → l ≡ []
    no_bytes [] none = refl
    no_bytes (b ∷ bs) none = absurd (omega arith)

entry_is_some : (e : Entry) (more : List ℕ) → entry_text e ++ more ≡ [] → ⊥
entry_is_some e more none = absurd (omega (arith, entry_long e, ap length none, length-append (entry_text e) more))

-- the entry that the machine makes can be named
own_good : (p : Plan) (h : List Entry) (v : Event) → IsPlan p → Legal p h → NamesClient p v → has_text_entry (entry_in p (world p h) v) ≡ true
unfolding entry_in Spellable
own_good p h v is legal names =
    let made = entry_in p (world p h) v in
    last_spelled h (entry_in p (world p h) v) (legal_spelled p (h ++ entry_in p (world p h) v ∷ []) is (legal-more p h (entry_in p (world p h) v) legal names refl)).0

module _ (p : Plan) (log : List ℕ) (slot : ℕ) (a b : Shelved) (m : Machine) (at count : ℕ) (h : List Entry) (before : Stands p log slot a b m at count h) where
  -- nothing was found so far
  is_sound : (bytes : List ℕ) → IsSound p log (frames_of p h ++ bytes) h
  is_sound bytes = record {
    spelled = before.spelled;
    stands = (drop at log, sym before.front);
    legal = before.legal;
    drawn = (bytes, refl);
  }

  place_is : count + 1 ≡ length h + 1
  place_is = omega (arith, before.number)

  -- an entry that the rest begins with is the next one
  next_front : (e : Entry) (n : ℕ) → IsFirstEntry (drop at log) (Some (e, n)) → lines_of (h ++ e ∷ []) ++ drop n (drop at log) ≡ log
  next_front e n first =
      ap (λ l. l ++ drop n (drop at log)) (one_more h e) ∙ (append_assoc (lines_of h) (entry_text e) (drop n (drop at log)) ∙ (ap (λ l. lines_of h ++ l) (sym first.2) ∙ sym before.front))

  is_next : (e : Entry) (n : ℕ) → IsFirstEntry (drop at log) (Some (e, n)) → IsNext log h e
  is_next e n first = (first.0, (drop n (drop at log), next_front e n first))

  -- where its line is the machine's, it is the one that the machine makes
  is_made : (e : Entry) (n : ℕ) → IsPlan p → IsFirstEntry (drop at log) (Some (e, n)) → IsMadeLine (record { plan = p; world = world p h }) e.event (take n (drop at log)) → IsMade p h e
  is_made e n plan first made =
      (made.0, same_entry e (entry_in p (world p h) e.event) first.0 (own_good p h e.event plan before.legal made.0) (sym (line_is (drop at log) e n first) ∙ made.1))

  has_frame : (e : Entry) → IsMade p h e → frames_of p (h ++ e ∷ []) ≡ frames_of p h ++ made_bytes (record { plan = p; world = world p h }) e.event
  has_frame e made = frames_more p h e ∙ ap (λ (x : Entry). frames_of p h ++ drawn_bytes p (world p h) x.reply) made.1

  -- an entry more has no fault
  stands_more :
      (c : Shelved) (next : Machine) (e : Entry) (n : ℕ) → IsPlan p → IsFirstEntry (drop at log) (Some (e, n)) → IsFound m e.event (take n (drop at log)) slot b c next None
      → next.plan ≡ m.plan → ReadsOnly slot b c → Ran b c → StandsSome p log slot a c next (at + n) (count + 1)
  stands_more c next e n plan first found same kept ran =
      let now = subst (λ (x : Machine). IsFound x e.event (take n (drop at log)) slot b c next None) before.machine found in
      let made = is_made e n plan first now.0 in
      let left : drop n (drop at log) ≡ drop (at + n) log = drop-drop n at log in (
        h ++ e ∷ [],
        record {
          spelled = spelled_more h e before.spelled first.0;
          front = sym (next_front e n first) ∙ ap (λ l. lines_of (h ++ e ∷ []) ++ l) left;
          legal = legal-more p h e before.legal made.0 made.1;
          machine = λ i. record { plan = (same ∙ ap (λ (x : Machine). x.plan) before.machine) i; world = (now.2 ∙ sym (world-more p h e)) i };
          number = omega (arith, before.number, length-append h (e ∷ []));
          few = omega (arith, before.few, line_some (drop at log) e n first);
          within = omega (arith, before.within, line_within (drop at log) e n first, length-drop at log);
          read = subst (λ l. HasRead l slot a c) (sym (has_frame e made)) (more_read slot (frames_of p h) a b before.read c (made_bytes (record { plan = p; world = world p h }) e.event) now.1 kept ran);
        },
      )

  -- what is given of a slot of which no more is read
  as_given : (what : What) → IsFault p log (frames_of p h ++ given slot b []) h what → IsJudged p log slot a (verdict_at (count + 1) (Some what))
  unfolding IsVerdict
  as_given what fault =
      (frames_of p h ++ given slot b [], gives_before slot (frames_of p h) a b before.read (given slot b []) (given_is slot b []), (h, is_sound (given slot b []), place_is, fault))

  -- the next entry has a fault
  fault_next :
      (c : Shelved) (next : Machine) (e : Entry) (n : ℕ) (what : What) → IsPlan p → IsFirstEntry (drop at log) (Some (e, n)) → IsFound m e.event (take n (drop at log)) slot b c next (Some what)
      → IsJudged p log slot a (verdict_at (count + 1) (Some what))
  unfolding IsFault IsVerdict
  fault_next c next e n LogText plan first found = absurd found
  fault_next c next e n OtherRest plan first found = absurd found
  fault_next c next e n Length plan first found = absurd found
  fault_next c next e n OtherReply plan first found =
      let now = subst (λ (x : Machine). IsFound x e.event (take n (drop at log)) slot b c next (Some OtherReply)) before.machine found in
      as_given OtherReply (e, is_next e n first, λ made. now (made.0, line_is (drop at log) e n first ∙ ap entry_text made.1))
  fault_next c next e n Frame plan first found =
      let now = subst (λ (x : Machine). IsFound x e.event (take n (drop at log)) slot b c next (Some Frame)) before.machine found in
      let made = is_made e n plan first now.0 in
      let whole = has_frame e made ∙ sym (append-nil (frames_of p h ++ made_bytes (record { plan = p; world = world p h }) e.event)) in
      let lacks = lacks_behind slot (frames_of p h) a b before.read (made_bytes (record { plan = p; world = world p h }) e.event) (frames_of p (h ++ e ∷ [])) [] now.1.0 now.1.2 whole in
      (frames_of p h ++ now.1.0, gives_before slot (frames_of p h) a b before.read now.1.0 now.1.1, (h, is_sound now.1.0, place_is, (e, is_next e n first, made, lacks)))

  -- the log of these entries, where the rest is the log of none
  log_from : (rest : Rest) → drop at log ≡ log_text [] rest → log ≡ log_text h rest
  log_from rest is = before.front ∙ (ap (λ l. lines_of h ++ l) is ∙ sym (log_behind h rest))

  rest_from : (rest : Rest) → log ≡ log_text h rest → drop at log ≡ log_text [] rest
  rest_from rest is = append_cancel_left (lines_of h) (drop at log) (log_text [] rest) (sym before.front ∙ (is ∙ log_behind h rest))

  no_next : IsFirstEntry (drop at log) None → (e : Entry) → IsNext log h e → ⊥
  no_next none e next =
      none e next.0 (
        next.1.0,
        append_cancel_left (lines_of h) (entry_text e ++ next.1.0) (drop at log)
            (sym (append_assoc (lines_of h) (entry_text e) next.1.0) ∙ (ap (λ l. l ++ next.1.0) (sym (one_more h e)) ∙ (next.1.1 ∙ before.front))),
      )

  -- behind the entries there is no fault, or the first one
  text_fault : IsFirstEntry (drop at log) None → (IsSomeLog (drop at log) → ⊥) → IsJudged p log slot a (verdict_at (count + 1) (Some LogText))
  unfolding IsFault
  text_fault none no_log = as_given LogText (no_next none, λ rest is. no_log ([], rest, (spelled_part h rest is.0, rest_from rest is.1)))

  rest_fault : IsFirstEntry (drop at log) None → IsSomeLog (drop at log) → (drop at log ≡ log_text [] (rest_in (world p h)) → ⊥) → IsJudged p log slot a (verdict_at (count + 1) (Some OtherRest))
  unfolding IsFault rest_of
  rest_fault none some other =
      let rest = rest_alone (drop at log) some.0 some.1 none some.2 in
      as_given OtherRest (rest.0, (spelled_with h rest.0 before.spelled rest.1.0, log_from rest.0 rest.1.1), λ same. other (rest.1.1 ∙ ap (log_text []) same))

  length_fault : IsPlan p → drop at log ≡ log_text [] (rest_in (world p h)) → (bytes : List ℕ) → Gives bytes slot b → (bytes ≡ [] → ⊥) → IsJudged p log slot a (verdict_at (count + 1) (Some Length))
  unfolding IsFault IsVerdict rest_of
  length_fault plan is bytes gives some =
      (frames_of p h ++ bytes, gives_before slot (frames_of p h) a b before.read bytes gives, (h, is_sound bytes, place_is, ((legal_spelled p h plan before.legal, log_from (rest_in (world p h)) is), λ whole. some (append_cancel_left (frames_of p h) bytes [] (whole ∙ sym (append-nil (frames_of p h)))))))

  no_fault : drop at log ≡ log_text [] (rest_in (world p h)) → Gives [] slot b → IsJudged p log slot a (verdict_at (count + 1) None)
  unfolding IsVerdict rest_of
  no_fault is gives =
      (frames_of p h, (λ told. gives_before slot (frames_of p h) a b before.read [] gives told ∙ append-nil (frames_of p h)), (h, before.legal, log_from (rest_in (world p h)) is, refl))

  found_at_end : (what : Option What) → IsPlan p → IsFirstEntry (drop at log) None → IsFoundAtEnd (record { plan = p; world = world p h }) (drop at log) slot b what → IsJudged p log slot a (verdict_at (count + 1) what)
  found_at_end None plan none found = no_fault found.0 found.1
  found_at_end (Some LogText) plan none found = text_fault none found
  found_at_end (Some OtherReply) plan none found = absurd found
  found_at_end (Some Frame) plan none found = absurd found
  found_at_end (Some OtherRest) plan none found = rest_fault none found.0 found.1
  found_at_end (Some Length) plan none found = length_fault plan found.0 found.1.0 found.1.1 found.1.2

  judged_at_end : (what : Option What) → IsPlan p → IsFirstEntry (drop at log) None → IsFoundAtEnd m (drop at log) slot b what → IsJudged p log slot a (verdict_at (count + 1) what)
  judged_at_end what plan none found = found_at_end what plan none (subst (λ (x : Machine). IsFoundAtEnd x (drop at log) slot b what) before.machine found)

  -- nothing is left of the log
  nothing_left : length log ≤ at → IsJudged p log slot a (verdict_at (count + 1) (Some LogText))
  nothing_left all =
      let empty = none_behind at log all in
      text_fault (λ e good begins. entry_is_some e begins.0 (begins.1 ∙ empty)) (λ some. log_is_some some.0 some.1 (sym empty ∙ some.2.1))

-- what is left of the log, as the code has it
abbrev pub left_of : List ℕ → ℕ → List ℕ
left_of log at = take (length log - at) (drop at log)

left_is : (log : List ℕ) (at : ℕ) → left_of log at ≡ drop at log
left_is log at = take_all (length log - at) (drop at log) (omega (arith, length-drop at log))

-- what is known of some such entries, told
pub more_stand :
    (p : Plan) (log : List ℕ) (slot : ℕ) (a b c : Shelved) (m next : Machine) (at count : ℕ) (e : Entry) (n : ℕ) → StandsSome p log slot a b m at count → IsPlan p → IsFirstEntry (left_of log at) (Some (e, n))
    → IsFound m e.event (take n (left_of log at)) slot b c next None → next.plan ≡ m.plan → ReadsOnly slot b c → Ran b c → StandsSome p log slot a c next (at + n) (count + 1)
more_stand p log slot a b c m next at count e n s plan first found same kept ran =
    stands_more p log slot a b m at count s.0 s.1 c next e n plan (subst (λ (l : List ℕ). IsFirstEntry l (Some (e, n))) (left_is log at) first)
    (subst (λ (l : List ℕ). IsFound m e.event (take n l) slot b c next None) (left_is log at) found) same kept ran

pub entry_judged :
    (p : Plan) (log : List ℕ) (slot : ℕ) (a b c : Shelved) (m next : Machine) (at count : ℕ) (e : Entry) (n : ℕ) (what : What) → StandsSome p log slot a b m at count → IsPlan p → IsFirstEntry (left_of log at) (Some (e, n))
    → IsFound m e.event (take n (left_of log at)) slot b c next (Some what) → IsJudged p log slot a (verdict_at (count + 1) (Some what))
entry_judged p log slot a b c m next at count e n what s plan first found =
    fault_next p log slot a b m at count s.0 s.1 c next e n what plan (subst (λ (l : List ℕ). IsFirstEntry l (Some (e, n))) (left_is log at) first)
    (subst (λ (l : List ℕ). IsFound m e.event (take n l) slot b c next (Some what)) (left_is log at) found)

pub end_judged :
    (p : Plan) (log : List ℕ) (slot : ℕ) (a b : Shelved) (m : Machine) (at count : ℕ) (what : Option What) → StandsSome p log slot a b m at count → IsPlan p → IsFirstEntry (left_of log at) None
    → IsFoundAtEnd m (left_of log at) slot b what → IsJudged p log slot a (verdict_at (count + 1) what)
end_judged p log slot a b m at count what s plan none found =
    judged_at_end p log slot a b m at count s.0 s.1 what plan (subst (λ (l : List ℕ). IsFirstEntry l None) (left_is log at) none) (subst (λ (l : List ℕ). IsFoundAtEnd m l slot b what) (left_is log at) found)

pub none_judged : (p : Plan) (log : List ℕ) (slot : ℕ) (a b : Shelved) (m : Machine) (at count : ℕ) → StandsSome p log slot a b m at count → length log ≤ at → IsJudged p log slot a (verdict_at (count + 1) (Some LogText))
none_judged p log slot a b m at count s all = nothing_left p log slot a b m at count s.0 s.1 all

pub was_read : (p : Plan) (log : List ℕ) (slot : ℕ) (a b : Shelved) (m : Machine) (at count : ℕ) (s : StandsSome p log slot a b m at count) → HasRead (frames_of p s.0) slot a b
was_read p log slot a b m at count s = s.1.read

-- fewer bytes of the log are left
pub fewer : (all at n : ℕ) → at < all → 1 ≤ n → all - (at + n) < all - at
fewer all at n here some = omega (arith, here, some)
