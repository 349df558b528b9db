-- From the opening of a run to the history that is gathered when all threads have ended.
use Rattle.std.proofs.Common.{◌≡◌, ℕ, zero, suc, ◌+◌, ◌-◌, ◌<◌, ◌≤◌, ◌⊎◌, inl, inr, Bool, List, [], map, length, get_or, All, refl, ap, sym, ◌∙◌, subst, arith, Some, Result, Ok, Err, OnOk, OnErr, false}
use Rattle.std.proofs.{lemmas.List.get_or-map, lemmas.List.length-map, lemmas.Bool.Decides.nat_tests, lemmas.Grind.common_steps}
use Rattle.atomic_table.specs.Seated.{TableId}
use Rattle.vz_loans.specs.Rule.{places}
use Rattle.vz_frame.specs.declared.message.ClientFile.{ClientFile}
use Rattle.vz_outside.specs.Told.{Call, AreTold}
use Rattle.vz_outside.proofs.Passing.{told_of}
use Rattle.vz_outside.specs.{Shelved.Shelved, Shelved.Appends, Shelved.Behaves, declared.shelf.ShelfError.TheVariants.Memory}
use Rattle.vz_outside.specs.declared.shelf.ShelfError.{ShelfError}
use Rattle.vz_outside.proofs.{Calls.call_same, Calls.kept_same, Calls.append_nothing, Rises.ok_not_failed}
use Rattle.vz_rules.specs.{Plan.Plan, Plan.message_counts, declared.entry.Entry.Entry, Step.Legal, Step.LegalFrom, Course.displayed, Course.IsPaced}
use Rattle.vz_rules.specs.Frames.{written, written_of, painted, painted_of, drawn_frames, drawn_frames_from, frames_bytes}
use Rattle.vz_desk.specs.Books.{numbered}
use Rattle.vz_desk.specs.{declared.totals.Totals.Totals, Totals.DisplayTotals, Totals.no_totals, Totals.no_display_totals, Totals.AreTotals}
use Rattle.vz_desk.specs.{Owners.Owner, Owners.fresh, Owners.fresh_from, Owners.IsSameOwner, Gathering.IsGatheredClient, Gathering.IsGatheredDisplay}
use Rattle.vz_player.specs.{Gated.AreGated, Played.entries_by}
use Rattle.vz_threads.specs.{Courses.frames_of, Outlets.Outlook, Outlets.file_of, Tails.TookAll}
use Rattle.vz_threads.specs.Crews.{IsAtWork, IsCrew, CrewWorksOn, messages_of, HasTakenAll}
use Rattle.vz_threads.specs.Rounds.{Setup, IsCut, HasPlayed, HasEnded, PlaysAll, IsCutShort}
use Rattle.vz_threads.specs.Told.{HasToldAll, IsToldOf}
use Rattle.vz_threads.specs.Runs.{IsReady, IsOpened, CanPlay, IsUpToTail, IsCutThere, IsRestOf, HasRun}
use Rattle.vz_threads.proofs.Telling.{places_counted, mine_counted, none_beyond}
use Rattle.vz_threads.proofs.{Ending.paced_on, Going.amid, Showing.shown_amid, Showing.frames_amid}
use Rattle.vz_desk.proofs.Owning.{same_plan}

-- Before the first round

behaves_none : (s : Shelved) → Behaves {T = Unit {0}} s s (Ok tt)
behaves_none s = grind (arith, nat_tests, call_same s, ok_not_failed)

no_frames : (p : Plan) (n : ℕ) → frames_of p [] n ≡ []
unfolding frames_bytes written drawn_frames drawn_frames_from written_of
no_frames p n = refl

none_painted : (p : Plan) (n : ℕ) → painted p [] n ≡ 0
unfolding painted drawn_frames drawn_frames_from painted_of
none_painted p n = refl

none_displayed : displayed [] ≡ []
unfolding displayed
none_displayed = refl

pub legal_first : (p : Plan) → Legal p []
unfolding Legal LegalFrom
legal_first p = tt

-- the display has made no round
pub none_played : (k : Setup) (paced : Bool) (start : Outlook) (id : TableId) → IsReady k start → HasPlayed k paced start start (fresh id k.plan no_display_totals 0) 0
none_played k paced start id r = record {
  history = [];
  at = record {
    begins = r.begins;
    display = refl;
    sees = record { planned = refl; seen = refl; legal = legal_first k.plan };
    rests = refl;
    shown = record {
      fixed = refl;
      display = r.display;
      counted = steps (painted k.plan [] k.buffers) (none_painted k.plan k.buffers);
      written = subst (λ (l : List ℕ). Appends l (file_of start) start.shelf start.shelf) (sym (no_frames k.plan k.buffers)) (append_nothing (file_of start) start.shelf);
      others = kept_same (file_of start) start.shelf;
      behaves = behaves_none start.shelf;
    };
  };
  made = none_displayed;
  pace = λ t n low. absurd (omega (arith, low));
}
  where
    steps : (n : ℕ) → n ≡ 0 → start.steps ≡ start.steps + n
    steps n none = omega (arith, none)

-- The ends of the clients

fresh_length : (id : TableId) (p : Plan) (k n : ℕ) → length (fresh_from id p k n) ≡ n
fresh_length id p k zero = refl
fresh_length id p k (suc n) = ap suc (fresh_length id p (k + 1) n)

fresh_at : (id : TableId) (p : Plan) (k n i : ℕ) (d : Owner Totals) → i < n → get_or (fresh_from id p k n) i d ≡ fresh id p no_totals (k + i)
fresh_at id p k zero i d low = absurd (omega (arith, low))
fresh_at id p k (suc n) zero d low = ap (fresh id p no_totals) (omega arith)
fresh_at id p k (suc n) (suc i) d low = fresh_at id p (k + 1) n i d (omega (arith, low)) ∙ ap (fresh id p no_totals) (omega arith)

files_are : (p : Plan) (messages : List ℕ) → messages ≡ message_counts p → length messages ≡ length p.files
files_are p messages counts = ap length counts ∙ length-map p.files (λ (file : ClientFile). length file.messages)

-- they are at work, and a gate has to be told of nothing
pub fresh_work : (told : Call → Type 0) (id : TableId) (p : Plan) (messages : List ℕ) (ends : List (Owner Totals)) → messages ≡ message_counts p → ends ≡ fresh_from id p 1 (length messages) → All (IsAtWork told id p) ends
fresh_work told id p messages ends counts are i d low =
    subst (IsAtWork told id p) (sym (ap (λ (l : List (Owner Totals)). get_or l i d) are ∙ fresh_at id p 1 (length messages) i d inside)) (record {
      desk = refl;
      plan = refl;
      client = (omega arith, omega (arith, inside, files_are p messages counts));
      timely = refl;
      gated = λ n first upto. absurd (omega (arith, first, upto));
      few = omega arith;
    })
  where
    inside : i < length messages
    inside = let many = ap length are ∙ fresh_length id p 1 (length messages) in omega (arith, low, many)

pub fresh_crew : (told : Call → Type 0) (id : TableId) (p : Plan) (messages : List ℕ) (ends : List (Owner Totals)) → messages ≡ message_counts p → ends ≡ fresh_from id p 1 (length messages) → IsCrew told id messages ends
fresh_crew told id p messages ends counts are = record { plan = p; work = fresh_work told id p messages ends counts are; counts = counts }

pub fresh_many : (id : TableId) (p : Plan) (n : ℕ) (ends : List (Owner Totals)) → ends ≡ fresh_from id p 1 n → length ends ≡ n
fresh_many id p n ends are = ap length are ∙ fresh_length id p 1 n

-- as many come back
pub as_many : (told : Call → Type 0) (a b : List (Owner Totals)) → CrewWorksOn told a b → length b ≡ length a
as_many told a b w = grind (arith, nat_tests, length-map)

-- all of the desk
pub all_of_desk : (told : Call → Type 0) (id : TableId) (messages : List ℕ) (os : List (Owner Totals)) → IsCrew told id messages os → All (λ (o : Owner Totals). o.desk ≡ id) os
all_of_desk told id messages os crew i d low = (crew.work i d low).desk

-- The ends that come back

either_order : (a b : ℕ) → (suc a ≤ b) ⊎ (b < suc a)
either_order zero zero = inr (omega arith)
either_order zero (suc b) = inl (omega arith)
either_order (suc a) zero = inr (omega arith)
either_order (suc a) (suc b) = elim (either_order a b) [ inl l ↦ inl (omega (arith, l)) | inr l ↦ inr (omega (arith, l)) ]

module _ (told : Call → Type 0) (id : TableId) (p : Plan) (messages : List ℕ) (a b : List (Owner Totals)) (counts : messages ≡ message_counts p) (are : a ≡ fresh_from id p 1 (length messages)) (works : CrewWorksOn told a b) where
  none : Owner Totals
  none = fresh id p no_totals 0

  abbrev end_of : ℕ → Owner Totals
  end_of c = get_or b (c - 1) none

  back_inside : (c : ℕ) → 1 ≤ c → c ≤ length p.files → c - 1 < length b
  back_inside c from upto = let many = as_many told a b works ∙ fresh_many id p (length messages) a are in omega (arith, from, upto, many, files_are p messages counts)

  -- each of them is the one of its place
  back_number : (c : ℕ) → 1 ≤ c → c ≤ length p.files → (end_of c).number ≡ c
  back_number c from upto =
      let low = back_inside c from upto in
      let many = as_many told a b works ∙ fresh_many id p (length messages) a are in
      sym (get_or-map (λ (o : Owner Totals). o.number) b (c - 1) none 0 low)
      ∙ ap (λ (l : List ℕ). get_or l (c - 1) 0) (works.numbers ∙ ap (map (λ (o : Owner Totals). o.number)) are)
      ∙ get_or-map (λ (o : Owner Totals). o.number) (fresh_from id p 1 (length messages)) (c - 1) none 0 (omega (arith, low, many, fresh_length id p 1 (length messages)))
      ∙ ap (λ (o : Owner Totals). o.number) (fresh_at id p 1 (length messages) (c - 1) none (omega (arith, low, many)))
      ∙ omega (arith, from)

  -- and at work
  back_work : (c : ℕ) → 1 ≤ c → c ≤ length p.files → IsAtWork told id p (end_of c)
  back_work c from upto = (works.work id p (fresh_work told id p messages a counts are)) (c - 1) none (back_inside c from upto)

  module _ (q : Plan) (h : List Entry) (gathered : All (IsGatheredClient q h) b) where
    back_totals : (c : ℕ) → 1 ≤ c → c ≤ length p.files → AreTotals q h c (end_of c).totals
    back_totals c from upto = subst (λ (n : ℕ). AreTotals q h n (end_of c).totals) (back_number c from upto) (gathered (c - 1) none (back_inside c from upto)).counted

    -- each client took all of its messages, and each of its calls took one
    pub each_took : All (HasTakenAll messages) b → (c : ℕ) → 1 ≤ c → c ≤ length p.files → TookAll p h c
    each_took took c from upto =
        let is = back_number c from upto in
        let w = back_work c from upto in
        let totals = back_totals c from upto in
        record {
          each = sym totals.calls ∙ w.timely ∙ totals.taken;
          all = sym totals.taken ∙ took (c - 1) none (back_inside c from upto) ∙ ap (messages_of messages) is ∙ ap (λ (l : List ℕ). messages_of l c) counts;
        }

    -- a gate was told of each of its entries
    client_gated : (c : ℕ) → 1 ≤ c → c ≤ length p.files → AreTold told c (entries_by [] c) (entries_by h c)
    client_gated c from upto =
        let totals = back_totals c from upto in
        told_of told c 0 (end_of c).totals.calls (entries_by [] c) (entries_by h c) refl (totals.calls ∙ mine_counted c h from)
        (subst (λ (n : ℕ). AreTold told n 0 (end_of c).totals.calls) (back_number c from upto) (back_work c from upto).gated)

    display_gated : (d : Owner DisplayTotals) → d.number ≡ 0 → HasToldAll told d → IsGatheredDisplay q h d → AreTold told 0 (entries_by [] 0) (entries_by h 0)
    display_gated d is all g =
        told_of told 0 0 (length (places d.number d.seen)) (entries_by [] 0) (entries_by h 0) refl
        (sym (ap length g.gathered.mine) ∙ ap (λ (n : ℕ). length (places n (numbered h))) is ∙ places_counted 1 0 h) all

    other_gated : Legal p h → (c : ℕ) → 1 ≤ c → length p.files < c → AreTold told c (entries_by [] c) (entries_by h c)
    other_gated legal c from far n first upto = let none = none_beyond p h c from far legal in absurd (omega (arith, first, upto, none))

    -- a gate was told of each entry of the history
    pub all_gated : Legal p h → (d : Owner DisplayTotals) → d.number ≡ 0 → HasToldAll told d → IsGatheredDisplay q h d → AreGated told h
    all_gated legal d is all g zero = display_gated d is all g
    all_gated legal d is all g (suc n) =
        elim (either_order n (length p.files)) [
          | inl low ↦ client_gated (suc n) (omega arith) low
          | inr high ↦ other_gated legal (suc n) (omega arith) high
        ]

-- all is there for the rounds
pub can_play : (told : Call → Type 0) (k : Setup) (paced : Bool) (start : Outlook) (messages : List ℕ) (id : TableId) (callers : ℕ) (ends : List (Owner Totals)) (d : Owner DisplayTotals) → IsReady k start → IsOpened k.plan messages id callers ends d
    → CanPlay told id messages paced start ends d
can_play told k paced start messages id callers ends d ready opened = record {
  crew = fresh_crew told id k.plan messages ends opened.counts opened.ends_are;
  desk = ap (λ (o : Owner DisplayTotals). o.desk) opened.display_is;
  begun = (k, start, subst (λ (o : Owner DisplayTotals). HasPlayed k paced start start o 0) (sym opened.display_is) (none_played k paced start id ready));
}

-- The display's end

-- the plan is the one that was opened
pub plan_is : (p q : Plan) (h : List Entry) (d : Owner DisplayTotals) → d.plan ≡ Some p → IsGatheredDisplay q h d → q ≡ p
plan_is p q h d planned g = same_plan q p (sym g.gathered.planned ∙ planned)

-- the rounds are over, and the tail is left
pub up_to_tail : (k : Setup) (rounds : ℕ) (paced : Bool) (start now : Outlook) (q : Plan) (d : Owner DisplayTotals) (h : List Entry) → HasEnded k paced start now d rounds → Legal k.plan h → IsGatheredDisplay q h d
    → ((c : ℕ) → 1 ≤ c → c ≤ length k.plan.files → TookAll k.plan h c) → IsUpToTail k rounds paced start now h
up_to_tail k rounds paced start now q d h e legal g took =
    let stay : places 0 (numbered h) ≡ places 0 d.seen = ap (λ (n : ℕ). places n (numbered h)) (sym e.at.display) ∙ g.gathered.mine ∙ ap (λ (n : ℕ). places n d.seen) e.at.display in
    let between = amid d.seen e.history h e.at.sees.seen g.gathered.begun stay in
    record {
      first = e.first;
      over = e.over;
      all = between.same ∙ e.all;
      made = e.made;
      is_over = e.is_over;
      pace = λ t. subst (λ (l : List Entry). IsPaced k.plan l rounds) (sym between.all) (paced_on k.plan e.history between.more rounds (e.pace t));
      took = took;
      shown = shown_amid k start now e.history h legal between e.at.shown;
    }

-- the drawings up to there are shown still, where what was left could not be taken
pub ended_cut : (k : Setup) (rounds : ℕ) (paced : Bool) (start now : Outlook) (d : Owner DisplayTotals) → (e : HasEnded k paced start now d rounds) → IsCut k start now d e.history (Err Memory)
ended_cut k rounds paced start now d e = Rattle.vz_threads.proofs.Following.cut_at k start now d e.history e.at

-- or the run was cut short
pub cut_there : (k : Setup) (start now : Outlook) (q : Plan) (d : Owner DisplayTotals) (g h : List Entry) (r : Result (Unit {0}) ShelfError) → IsCut k start now d g r → Legal k.plan h → IsGatheredDisplay q h d → IsCutThere k start now h r
cut_there k start now q d g h r cut legal all = grind (arith, nat_tests, common_steps, amid (numbered g) g h refl, frames_amid k start g h legal)

-- What comes of a run once all threads have ended

-- the display has made no entry
fresh_told : (told : Call → Type 0) (id : TableId) (p : Plan) → IsToldOf told (fresh id p no_display_totals 0)
fresh_told told id p = record { counted = refl; all = λ n first upto. absurd (omega (arith, first, upto)) }

-- no frame is in flight
pub either_way : {E : Type 0} (r : Result (Unit {0}) E) (A B P : Type 0) → OnOk r A → OnErr r B → (A → P) → (B → P) → P
either_way r _ _ _ a b f g = grind (arith, nat_tests)

pub fresh_planned : (p : Plan) (id : TableId) (d0 d : Owner DisplayTotals) → d0 ≡ fresh id p no_display_totals 0 → IsSameOwner d0 d → d.plan ≡ Some p
fresh_planned p id d0 d is same = same.plan ∙ ap (λ (o : Owner DisplayTotals). o.plan) is

module _ (told : Call → Type 0) (k : Setup) (rounds : ℕ) (paced : Bool) (start now : Outlook) (id : TableId) (callers : ℕ) (q : Plan) (messages : List ℕ) (ends0 ends2 : List (Owner Totals)) (d0 d : Owner DisplayTotals) (h : List Entry) where
  module _ (ready : IsReady k start) (opened : IsOpened k.plan messages id callers ends0 d0) (same : IsSameOwner d0 d) where
    first_played : HasPlayed k paced start start d0 0
    first_played = subst (λ (o : Owner DisplayTotals). HasPlayed k paced start start o 0) (sym opened.display_is) (none_played k paced start id ready)

    pub plan_same : IsGatheredDisplay q h d → q ≡ k.plan
    plan_same g = plan_is k.plan q h d (fresh_planned k.plan id d0 d opened.display_is same) g

    -- a gate was told of each entry of the history
    run_gated : CrewWorksOn told ends0 ends2 → (IsToldOf told d0 → HasToldAll told d) → Legal k.plan h → All (IsGatheredClient q h) ends2 → IsGatheredDisplay q h d → AreGated told h
    run_gated works own legal clients display =
        all_gated told id k.plan messages ends0 ends2 opened.counts opened.ends_are works q h clients legal d (same.number ∙ ap (λ (o : Owner DisplayTotals). o.number) opened.display_is)
        (own (subst (IsToldOf told) (sym opened.display_is) (fresh_told told id k.plan))) display

    pub has_run : (played result : Result (Unit {0}) ShelfError) → OnOk played (PlaysAll paced start d0 now d rounds) → OnErr played (IsCutShort paced start d0 now d played) → IsRestOf played result
        → OnOk result (All (HasTakenAll messages) ends2) → CrewWorksOn told ends0 ends2 → (IsToldOf told d0 → HasToldAll told d) → Legal q h → All (IsGatheredClient q h) ends2 → IsGatheredDisplay q h d
        → HasRun told k rounds paced start now h result
    has_run (Ok x) (Ok y) plays cut rest took works own legal clients display =
        let good = subst (λ (p : Plan). Legal p h) (plan_same display) legal in
        record {
          legal = good;
          gated = run_gated works own good clients display;
          whole = up_to_tail k rounds paced start now q d h (plays k start first_played) good display (each_took told id k.plan messages ends0 ends2 opened.counts opened.ends_are works q h clients took);
          cut = tt;
        }
    has_run (Ok x) (Err e) plays cut rest took works own legal clients display =
        let good = subst (λ (p : Plan). Legal p h) (plan_same display) legal in
        let ended = plays k start first_played in
        record {
          legal = good;
          gated = run_gated works own good clients display;
          whole = tt;
          cut = subst (IsCutThere k start now h) (sym rest) (cut_there k start now q d ended.history h (Err Memory) (ended_cut k rounds paced start now d ended) good display);
        }
    has_run (Err e) result plays cut rest took works own legal clients display =
        let good = subst (λ (p : Plan). Legal p h) (plan_same display) legal in
        let short = cut k start first_played in
        subst (HasRun told k rounds paced start now h) (sym rest) (record {
          legal = good;
          gated = run_gated works own good clients display;
          whole = tt;
          cut = cut_there k start now q d short.0 h (Err e) short.1 good display;
        })

    -- no frame is in flight then
    pub lands : (played : Result (Unit {0}) ShelfError) → OnOk played (PlaysAll paced start d0 now d rounds) → OnErr played (IsCutShort paced start d0 now d played) → d.totals.in_flight ≡ false
    lands played plays cut =
        either_way played (PlaysAll paced start d0 now d rounds) (IsCutShort paced start d0 now d played) (d.totals.in_flight ≡ false) plays cut
        (λ plays. (plays k start first_played).at.rests) (λ short. (short k start first_played).1.rests)
