-- How the display goes on by its calls.
use Rattle.std.proofs.Common.{◌≡◌, ℕ, zero, suc, ◌+◌, ◌≤◌, ◌||◌, Bool, true, false, cond, not, List, [], ◌∷◌, ◌++◌, filter, length, take, refl, ap, sym, ◌∙◌, subst, append-nil, append_assoc, arith, take_all, Option, Some, None, Result, Ok, Err}
use mathlib.Core.Logic.{dite}
use native.Mathlib.Decide.{ℕ_discrete}
use Rattle.std.specs.Prelude.{count_by, IsTrue, IsFalse}
use Rattle.std.proofs.{lemmas.List.Sums.sum_by-append, lemmas.Bool.Decides.nat_tests, lemmas.Grind.common_steps}
use Rattle.vz_rules.proofs.Counts.{count_cons}
use mathlib.Core.List.{IsPrefix}
use Rattle.vz_loans.specs.Rule.{places}
use Rattle.vz_outside.specs.{Shelved.KeepsOthers, Shelved.AppendsFront, Shelved.Behaves, declared.shelf.ShelfError.TheVariants.Memory}
use Rattle.vz_outside.specs.declared.shelf.ShelfError.{ShelfError}
use Rattle.vz_outside.proofs.{Calls.ran_one, Behaving.memory_behaves}
use Rattle.vz_rules.specs.{Plan.Plan, World.World, World.Scene, declared.entry.Event.Event, declared.entry.Reply.Reply, declared.entry.Entry.Entry}
use Rattle.vz_rules.specs.{Scene.scene_of, Frames.drawn_frame_of}
use Rattle.vz_rules.specs.declared.entry.Event.TheVariants as event
use Rattle.vz_rules.specs.declared.entry.Reply.TheVariants as reply
use Rattle.vz_rules.specs.Step.{world, step_in, entry_in, outcome_of, answer_to, begin_answer}
use Rattle.vz_rules.specs.Course.{is_of_client, is_drawn, displayed, IsShow, AreRounds, is_begin, is_draw, is_calm, IsPaced}
use Rattle.vz_machine.specs.{Pictured.Pictured, Stepping.ShowsDrawn}
use Rattle.vz_desk.specs.{Books.numbered, Flights.flies_by, Answers.IsPaused, Drawings.Draws}
use Rattle.vz_desk.specs.{Owners.Owner, Owners.IsSameOwner, Owners.MakesNone, Totals.DisplayTotals, Displays.Displays, Displays.EndsFrame}
use Rattle.vz_threads.specs.Courses.{frames_of}
use Rattle.vz_threads.specs.Outlets.{Outlook, MayShow, Shows, BeginsFrame, file_of}
use Rattle.vz_threads.specs.Rounds.{Setup, AreShown, IsAt, IsCut, Continues, HasPlayed, HasBegun}
use Rattle.vz_threads.proofs.Ending.{paced_on}
use Rattle.vz_threads.proofs.Going.{Amid, IsOwn, Made, made_is, waited_is}
use Rattle.vz_threads.proofs.Showing.{shown_amid, shown_other, Pictures, pictures, may_show, shown_next, front_next, front_whole, frames_amid, frames_other, others_next, behaves_next}

plain_frame : (s : Option Scene) (r : Reply) → is_drawn r ≡ false → drawn_frame_of s r ≡ []
plain_frame s r none = grind (arith, nat_tests)

begin_plain : (p : Plan) (w : World) (v : Event) (e : Entry) → (v ≡ event.Begin) → e ≡ entry_in p w v → is_drawn e.reply ≡ false
unfolding entry_in step_in outcome_of answer_to begin_answer
begin_plain p w v e begin is = ap (λ (x : Entry). is_drawn x.reply) (is ∙ ap (entry_in p w) begin)

over_plain : (p : Plan) (w : World) (v : Event) (e : Entry) → (v ≡ event.Over) → e ≡ entry_in p w v → is_drawn e.reply ≡ false
unfolding entry_in step_in outcome_of answer_to
over_plain p w v e over is = ap (λ (x : Entry). is_drawn x.reply) (is ∙ ap (entry_in p w) over)

plain_flies : (v : Event) (r : Reply) (flies : Bool) → IsOwn v → is_drawn r ≡ false → flies ≡ false → flies_by flies v r ≡ false
plain_flies v r flies own plain none = grind (arith, nat_tests)

later_by : (h before : List Entry) (e : Entry) → Amid h before → IsPrefix h (before ++ e ∷ [])
later_by h before e between = (between.more ++ e ∷ [], sym (append_assoc h between.more (e ∷ [])) ∙ ap (λ (l : List Entry). l ++ e ∷ []) (sym between.all))

module _ (k : Setup) (start now : Outlook) (d d' : Owner DisplayTotals) (h : List Entry) (at : IsAt k start now d h) (same : IsSameOwner d d') where
  made : (v : Event) → IsOwn v → (x : Displays d d' v) → Made k.plan d' h v x.before x.made
  made v own x = (made_is k.plan x.plan d d' h x.before v x.made at.sees at.display own same x.makes).1

  -- by an entry that draws nothing
  pub plain_goes : (v : Event) → IsOwn v → (x : Displays d d' v) → is_drawn x.made.reply ≡ false → Continues k start now d' h (x.made ∷ []) (x.before ++ x.made ∷ [])
  plain_goes v own x plain =
      let m = made v own x in
      record {
        at = record {
          begins = at.begins;
          display = m.display;
          sees = m.sees;
          rests = ap (λ (t : DisplayTotals). t.in_flight) x.totals ∙ plain_flies x.made.event x.made.reply d.totals.in_flight (ap is_of_client m.is_event ∙ own) plain at.rests;
          shown = shown_other k start now x.before x.made (plain_frame (scene_of (world k.plan x.before)) x.made.reply plain) (shown_amid k start now h x.before m.legal m.amid at.shown);
        };
        later = later_by h x.before x.made m.amid;
        made = m.displayed_is;
      }

  pub event_is : (v : Event) → IsOwn v → (x : Displays d d' v) → x.made.event ≡ v
  event_is v own x = (made v own x).is_event

  -- by Begin
  pub begun_goes : (x : Displays d d' event.Begin) → Continues k start now d' h (x.made ∷ []) (x.before ++ x.made ∷ [])
  begun_goes x = let m = made event.Begin refl x in plain_goes event.Begin refl x (begin_plain k.plan (world k.plan x.before) x.made.event x.made m.is_event m.entry)

  -- by Over
  pub over_goes : (x : Displays d d' event.Over) → Continues k start now d' h (x.made ∷ []) (x.before ++ x.made ∷ [])
  over_goes x = let m = made event.Over refl x in plain_goes event.Over refl x (over_plain k.plan (world k.plan x.before) x.made.event x.made m.is_event m.entry)

  -- by a drawing that draws nothing
  none_drawn : (m : Rattle.vz_rules.specs.World.Machine) (r : Reply) → ShowsDrawn m r None → is_drawn r ≡ false
  none_drawn m r shows = grind (arith, nat_tests)

  pub drawn_none : (x : Draws d d' None) → (show : List Entry) × (history : List Entry) × IsShow show × Continues k start now d' h show history
  drawn_none x =
      let plain = none_drawn (record { plan = x.displays.plan; world = world x.displays.plan x.displays.before }) x.displays.made.reply x.shows in
      (x.displays.made ∷ [], x.displays.before ++ x.displays.made ∷ [], (event_is event.Draw refl x.displays, plain), plain_goes event.Draw refl x.displays plain)

  -- by none, while others made entries
  pub waited_goes : MakesNone d d' → (q : IsPaused d') → Amid h q.history × IsAt k start now d' q.history × IsTrue (is_calm k.plan (world k.plan q.history))
  waited_goes none q = grind (arith, nat_tests, waited_is k.plan q.plan d d' h q.history at.sees at.display same none q.sees, shown_amid k start now h q.history)

  -- cut short where it made none, for want of memory
  pub cut_here : MakesNone d d' → IsCut k start now d' h (Err Memory)
  cut_here none = grind (arith, nat_tests, front_whole, memory_behaves, ran_one)

-- A drawing, shown, and its Done

is_show : (e f : Entry) → e.event ≡ event.Draw → IsTrue (is_drawn e.reply) → f.event ≡ event.Done → IsShow (e ∷ f ∷ [])
is_show e f draw drawn done = (draw, drawn, done)

draw_flies : (v : Event) (r : Reply) (flies : Bool) → v ≡ event.Draw → is_drawn r ≡ true → flies_by flies v r ≡ true
draw_flies v r flies draw drawn = ap (λ (x : Event). flies_by flies x r) draw ∙ ap (λ (t : Bool). t || flies) drawn

done_lands : (v : Event) (r : Reply) (flies : Bool) → v ≡ event.Done → flies_by flies v r ≡ false
done_lands v r flies done = ap (λ (x : Event). flies_by flies x r) done

shown_plain : (r : Reply) → r ≡ reply.Shown → is_drawn r ≡ false
shown_plain r is = ap is_drawn is

module _ (k : Setup) (start was now : Outlook) (d d' d'' : Owner DisplayTotals) (h : List Entry) (x : Pictured) (at : IsAt k start was d h) (same : IsSameOwner d d') (draws : Draws d d' (Some x)) where
  drawing : Made k.plan d' h event.Draw draws.displays.before draws.displays.made
  drawing = (made_is k.plan draws.displays.plan d d' h draws.displays.before event.Draw draws.displays.made at.sees at.display refl same draws.displays.makes).1

  before_shown : AreShown k start was draws.displays.before
  before_shown = shown_amid k start was h draws.displays.before drawing.legal drawing.amid at.shown

  pictured : Pictures k start was draws.displays.before draws.displays.made x
  pictured = grind (arith, nat_tests, pictures, before_shown, made_is)

  -- the outlet may show it
  pub may : MayShow was x
  may = may_show k start was draws.displays.before draws.displays.made x at.begins before_shown pictured

  -- a frame is in flight then
  pub flies : d'.totals.in_flight ≡ true
  flies =
      ap (λ (t : DisplayTotals). t.in_flight) draws.displays.totals
      ∙ draw_flies draws.displays.made.event draws.displays.made.reply d.totals.in_flight drawing.is_event (ap is_drawn pictured.drawn)

  module _ (fixed : now.fixed ≡ was.fixed) (others : KeepsOthers (file_of was) was.shelf now.shelf) (then : IsSameOwner d' d'') (ends : EndsFrame d' d'') where
    done : Made k.plan d'' (draws.displays.before ++ draws.displays.made ∷ []) event.Done ends.0.before ends.0.made
    done = (made_is k.plan ends.0.plan d' d'' (draws.displays.before ++ draws.displays.made ∷ []) ends.0.before event.Done ends.0.made drawing.sees drawing.display refl then ends.0.makes).1

    abbrev final : List Entry
    final = ends.0.before ++ ends.0.made ∷ []

    displayed_final : displayed final ≡ displayed h ++ (draws.displays.made ∷ ends.0.made ∷ [])
    displayed_final =
        done.displayed_is ∙ ap (λ (l : List Entry). l ++ ends.0.made ∷ []) drawing.displayed_is
        ∙ append_assoc (displayed h) (draws.displays.made ∷ []) (ends.0.made ∷ [])

    rests_final : d''.totals.in_flight ≡ false
    rests_final =
        ap (λ (t : DisplayTotals). t.in_flight) ends.0.totals ∙ done_lands ends.0.made.event ends.0.made.reply d'.totals.in_flight done.is_event

    later_final : IsPrefix h final
    later_final =
        let a = later_by h draws.displays.before draws.displays.made drawing.amid in
        let b = later_by (draws.displays.before ++ draws.displays.made ∷ []) ends.0.before ends.0.made done.amid in
        (a.0 ++ b.0, sym (append_assoc h a.0 b.0) ∙ ap (λ (l : List Entry). l ++ b.0) a.1 ∙ b.1)

    -- shown, and done
    pub shows_goes : Shows x was now → Behaves {T = Unit {0}} was.shelf now.shelf (Ok tt) → (show : List Entry) × (history : List Entry) × IsShow show × Continues k start now d'' h show history
    shows_goes shows behaves = (
      draws.displays.made ∷ ends.0.made ∷ [],
      final,
      is_show draws.displays.made ends.0.made drawing.is_event (ap is_drawn pictured.drawn) done.is_event,
      record {
        at = record {
          begins = at.begins;
          display = done.display;
          sees = done.sees;
          rests = rests_final;
          shown = shown_other k start now ends.0.before ends.0.made (plain_frame (scene_of (world k.plan ends.0.before)) ends.0.made.reply (shown_plain ends.0.made.reply ends.1))
              (shown_amid k start now (draws.displays.before ++ draws.displays.made ∷ []) ends.0.before done.legal done.amid
              (shown_next k start was now draws.displays.before draws.displays.made x at.begins before_shown pictured fixed shows others behaves));
        };
        later = later_final;
        made = displayed_final;
      },
    )

    -- or begun, and done
    pub begun_cut : (r : Result (Unit {0}) ShelfError) → BeginsFrame x was now → Behaves was.shelf now.shelf r → (history : List Entry) × IsCut k start now d'' history r
    begun_cut r begun behaves = (
      final,
      record {
        display = done.display;
        planned = done.sees.planned;
        later = ([], append-nil (numbered final) ∙ sym done.sees.seen);
        mine = ap (λ (n : ℕ). places n d''.seen) done.display ∙ ap (places 0) done.sees.seen;
        rests = rests_final;
        fixed = fixed ∙ at.shown.fixed;
        begun = subst (λ (l : List ℕ). AppendsFront l (file_of start) start.shelf now.shelf) (sym same_frames) (front_next k start was now draws.displays.before draws.displays.made x at.begins before_shown pictured begun);
        others = others_next k start was now draws.displays.before at.begins before_shown others;
        behaves = behaves_next k start r was now draws.displays.before before_shown behaves;
      },
    )
      where
        same_frames : frames_of k.plan final k.buffers ≡ frames_of k.plan (draws.displays.before ++ draws.displays.made ∷ []) k.buffers
        same_frames =
            frames_other k start ends.0.before ends.0.made (plain_frame (scene_of (world k.plan ends.0.before)) ends.0.made.reply (shown_plain ends.0.made.reply ends.1))
            ∙ frames_amid k start (draws.displays.before ++ draws.displays.made ∷ []) ends.0.before done.legal done.amid

-- Rounds

rounds_more : (n : ℕ) (es show : List Entry) (b : Entry) → AreRounds n es → b.event ≡ event.Begin → IsShow show → AreRounds (suc n) (es ++ b ∷ show)
rounds_more zero es show b are begin is =
    (b, show, [], ap (λ (l : List Entry). l ++ b ∷ show) are ∙ ap (λ (l : List Entry). b ∷ l) (sym (append-nil show)), begin, is, refl)
rounds_more (suc n) es show b are begin is = (
  are.0,
  are.1,
  are.2 ++ b ∷ show,
  ap (λ (l : List Entry). l ++ b ∷ show) are.3 ∙ ap (λ (l : List Entry). are.0 ∷ l) (append_assoc are.1 are.2 (b ∷ show)),
  are.4,
  are.5,
  rounds_more n are.2 show b are.6 begin is,
)

-- what is no client's is counted among the display's entries
counts_shown : (t : Entry → Bool) → ((e : Entry) → is_of_client e.event ≡ true → t e ≡ false) → (h : List Entry) → count_by t h ≡ count_by t (displayed h)
unfolding displayed
counts_shown t own [] = refl
counts_shown t own (e ∷ h) = grind (arith, nat_tests, count_cons t e h, counts_shown t own h, count_cons t e (filter (λ x. not (is_of_client x.event)) h))

client_begins : (v : Event) → is_of_client v ≡ true → (elim v [ event.Begin ↦ true | _ ↦ false ]) ≡ false
client_begins v is = grind (arith, nat_tests)

client_draws : (v : Event) → is_of_client v ≡ true → (elim v [ event.Draw ↦ true | _ ↦ false ]) ≡ false
client_draws v is = grind (arith, nat_tests)

-- how many begin-frames and drawings these are
abbrev Count : ℕ → ℕ → List Entry → Type 0
Count begins draws es = (count_by is_begin es ≡ begins) × (count_by is_draw es ≡ draws)

both_count : (a b c d : ℕ) (xs ys : List Entry) → Count a b xs → Count c d ys → Count (a + c) (b + d) (xs ++ ys)
both_count a b c d xs ys x y = grind (arith, nat_tests, sum_by-append)

event_count : (e : Entry) (v : Event) → e.event ≡ v → Count (cond (elim v [ event.Begin ↦ true | _ ↦ false ]) 1 0) (cond (elim v [ event.Draw ↦ true | _ ↦ false ]) 1 0) (e ∷ [])
event_count e v is = grind (arith, nat_tests, count_cons)

rounds_count : (n : ℕ) (es : List Entry) → AreRounds n es → Count n n es
rounds_count zero es are = (ap (count_by is_begin) are, ap (count_by is_draw) are)
rounds_count (suc n) es are = grind (arith, nat_tests, common_steps, rounds_count n are.2 are.6, event_count, event_count are.0)

-- a pause of the round that is begun makes it paced
pub paced_more : (p : Plan) (n : ℕ) (h first : List Entry) (b : Entry) → displayed h ≡ first ++ b ∷ [] → AreRounds n first → b.event ≡ event.Begin → IsPaced p h n → IsTrue (is_calm p (world p h)) → IsPaced p h (n + 1)
paced_more p n h first b all are begin paced calm t low = dite (ℕ_discrete t n) (λ same. here same) (λ other. paced t (omega (arith, low, other)))
  where
    counted : Count (n + 1) (n + 0) (first ++ b ∷ [])
    counted = both_count n n 1 0 first (b ∷ []) (rounds_count n first are) (event_count b event.Begin begin)

    whole : take (length h) h ≡ h
    whole = take_all (length h) h (omega arith)

    here : t ≡ n → (m : ℕ) × (m ≤ length h) × (count_by is_begin (take m h) ≡ t + 1) × (count_by is_draw (take m h) ≡ t) × IsTrue (is_calm p (world p (take m h)))
    here same = (
      length h,
      omega arith,
      ap (count_by is_begin) whole ∙ (counts_shown is_begin (λ e is. client_begins e.event is) h ∙ (ap (count_by is_begin) all ∙ (counted.0 ∙ ap (λ k. k + 1) (sym same)))),
      ap (count_by is_draw) whole ∙ (counts_shown is_draw (λ e is. client_draws e.event is) h ∙ (ap (count_by is_draw) all ∙ (counted.1 ∙ (omega arith ∙ sym same)))),
      subst (λ (l : List Entry). IsTrue (is_calm p (world p l))) (sym whole) calm,
    )

-- a round that was begun is made by a show
pub round_made : (k : Setup) (paced : Bool) (start now : Outlook) (d : Owner DisplayTotals) (n : ℕ) (h first show history : List Entry) (b : Entry) → displayed h ≡ first ++ b ∷ [] → AreRounds n first → b.event ≡ event.Begin
    → (IsTrue paced → IsPaced k.plan h (n + 1)) → IsShow show → Continues k start now d h show history → HasPlayed k paced start now d (n + 1)
round_made k paced start now d n h first show history b all are begin pace is on = record {
  history = history;
  at = on.at;
  made = subst (λ (m : ℕ). AreRounds m (displayed history)) next
      (subst (AreRounds (suc n)) (sym (on.made ∙ (ap (λ (l : List Entry). l ++ show) all ∙ append_assoc first (b ∷ []) show))) (rounds_more n first show b are begin is));
  pace = λ t. subst (λ (l : List Entry). IsPaced k.plan l (n + 1)) on.later.1 (paced_on k.plan h on.later.0 (n + 1) (pace t));
}
  where
    next : suc n ≡ n + 1
    next = omega arith

-- behind a pause, where that was asked, the display has made no entry more
pub record Paused (k : Setup) (start now : Outlook) (d : Owner DisplayTotals) (h : List Entry) (paced : Bool) : Type 0 where
  pub history : List Entry
  pub later : IsPrefix h history
  pub same : displayed history ≡ displayed h
  pub at : IsAt k start now d history
  pub calm : IsTrue paced → IsTrue (is_calm k.plan (world k.plan history))

pub paused_by : (k : Setup) (start now : Outlook) (d d' : Owner DisplayTotals) (h : List Entry) → IsAt k start now d h → IsSameOwner d d' → MakesNone d d' → (paced : Bool) → (IsTrue paced → IsPaused d') → (IsFalse paced → d' ≡ d)
    → Paused k start now d' h paced
paused_by k start now d d' h at same none true calm stays = grind (arith, nat_tests, common_steps, waited_goes k start now d d' h at same none)
paused_by k start now d d' h at same none false calm stays = grind (arith, nat_tests, common_steps)

-- a round ends by a show behind the pause
pub round_ends : (k : Setup) (paced : Bool) (start was now : Outlook) (d d' d'' : Owner DisplayTotals) (n : ℕ) (b : HasBegun k paced start was d n) → Paused k start was d' b.history paced
    → ((h : List Entry) → IsAt k start was d' h → (show : List Entry) × (history : List Entry) × IsShow show × Continues k start now d'' h show history) → HasPlayed k paced start now d'' (n + 1)
round_ends k paced start was now d d' d'' n b q shows =
    let s = shows q.history q.at in
    round_made k paced start now d'' n q.history b.first s.0 s.1 b.begin (q.same ∙ b.all) b.made b.is_begin pace s.2 s.3
  where
    pace : IsTrue paced → IsPaced k.plan q.history (n + 1)
    pace t =
        paced_more k.plan n q.history b.first b.begin (q.same ∙ b.all) b.made b.is_begin
        (subst (λ (l : List Entry). IsPaced k.plan l n) q.later.1 (paced_on k.plan b.history q.later.0 n (b.pace t))) (q.calm t)

-- and is cut short behind it
pub cut_behind : (k : Setup) (start was now : Outlook) (d' d'' : Owner DisplayTotals) (h : List Entry) (paced : Bool) (r : Result (Unit {0}) ShelfError) → Paused k start was d' h paced
    → ((g : List Entry) → IsAt k start was d' g → (history : List Entry) × IsCut k start now d'' history r) → (history : List Entry) × IsCut k start now d'' history r
cut_behind k start was now d' d'' h paced r q cut = cut q.history q.at
