-- How a command answers at each of its ends.
use Rattle.std.proofs.Common.{rules, ◌≡◌, ℕ, ◌+◌, ◌≤◌, Result, Ok, Err, IsErrOf, IsErrAnd, List, [], take, inl, inr, refl, ap, subst, ◌∙◌}
use Rattle.std.specs.String.{string_bytes}
use Rattle.vz_outside.specs.Shelved.{Shelved, SameFiles}
use Rattle.vz_outside.specs.Shelved.{Behaves as CallBehaves}
use Rattle.vz_outside.specs.declared.shelf.ShelfError.{ShelfError}
use Rattle.vz_outside.specs.declared.shelf.ShelfError.TheVariants as shelf_error
use Rattle.vz_outside.proofs.{Behaving.on_err, Calls.Ran, Calls.ran_none, Calls.ran_then_ran}
use Rattle.vz_player.specs.Written.{AreWhole, AreBegun, KeepsAllBut}
use Rattle.vz_rules.specs.{Command.Word, Command.Command, Frames.Honest, Frames.frames, Frames.written, Step.Legal, World.Machine, World.opening}
use Rattle.vz_rules.specs.{Plan.Plan, Plan.IsPlan, declared.entry.Event.Event, declared.entry.Entry.Entry}
use Rattle.vz_rules.proofs.Chained.{written_is}
use Rattle.viz_run.specs.{Answered.AnswersFor, Answered.AnswersAll, Read.MissesOne, Stops.Behaves, Stops.stop_of, declared.refused.Refused.Refused}
use Rattle.viz_run.specs.{Causes.DoesFor, Causes.LeavesFor, Causes.RefusesFor, Inputs.Inputs, Inputs.AreAccepted, Inputs.plan_of, Inputs.events_for}
use Rattle.viz_run.specs.Commands.{Asks, AsksNothing, buffers_of, input_names, output_names}
use Rattle.viz_run.specs.Ends.{IsHistory, IsAsked, IsPart, TellsEnd, outputs_of, points_of}
use Rattle.viz_run.specs.{Site.Site, Site.site, Stepped.Makes, declared.end.End.End, declared.stop.Stop.Stop}
use Rattle.viz_run.specs.declared.stop.Stop.TheVariants as stop
use Rattle.viz_run.proofs.{Opened.its_plan, Stopping.stops_at, Stopping.stops_after}
use Rattle.viz_run.proofs.Performing.{if_ok, at_err, ok_at_err, behaves_for, none_refused, unrefused, memory_no_fault, others_of, misses_of}
use Rattle.viz_run.proofs.Stepping.{begun_since, others_since, holds_at_err, ok_is_none, same_err, stays_at}

-- the words that ask for a command ask for its answer
pub asked_for :
    (words : List Word) (c : Command) (asks : Asks words c) (h : List Entry) (before after : Site) (r : Result End Stop)
    → AnswersFor c h before after r → AnswersAll words h before after r
asked_for words c asks h before after r answers = record {
  done = if_ok r _ _ (λ ended does. (c, asks, does)) answers.done;
  low = answers.low;
  words = λ at. absurd (answers.words at);
  input = λ x at. (c, asks, answers.input x at);
  unbegun = answers.unbegun;
  front = at_err r _ _ (λ leaves. inr (c, asks, leaves)) answers.front;
  others = others_of words c asks before.shelf after.shelf answers.others;
  behaves = behaves_for r before.shelf after.shelf (misses_of words c asks before.shelf) answers.behaves;
}

-- an error of a shelf cut it short
pub cut_at :
    (c : Command) (h : List Entry) (before after : Site) (r : Result End Stop) (e : ShelfError) → IsErrAnd r (λ s. s ≡ stop_of e)
    → LeavesFor c h before after → KeepsAllBut (output_names c) before.shelf after.shelf
    → Behaves (MissesOne (input_names c) before.shelf) before.shelf after.shelf r → AnswersFor c h before after r
cut_at c h before after r e is leaves others behaves = record {
  done = ok_at_err _ r _ is;
  low = ok_at_err _ r _ is;
  words = λ at. none_refused e r stop.Words is tt at;
  input = λ x at. absurd (none_refused e r (stop.Input x) is tt at);
  unbegun = unrefused e r _ is;
  front = on_err r _ leaves;
  others = others;
  behaves = behaves;
}

-- all was done
pub done_at :
    (c : Command) (h : List Entry) (before after : Site) (ended : End) → DoesFor c h before after (string_bytes ended.line) ended.status
    → ended.status ≤ 1 → KeepsAllBut (output_names c) before.shelf after.shelf → Ran before.shelf after.shelf → AnswersFor c h before after (Ok ended)
done_at c h before after ended does low others ran = record {
  done = does;
  low = low;
  words = ok_is_none ended stop.Words;
  input = λ x at. absurd (ok_is_none ended (stop.Input x) at);
  unbegun = tt;
  front = tt;
  others = others;
  behaves = stops_after (Ok ended) before.shelf after.shelf ran (ok_is_none ended stop.Fault);
}

-- the words ask for no command
pub refused_words :
    (words : List Word) (h : List Entry) (s : Shelved) (m : ℕ) → AsksNothing words → h ≡ [] → AnswersAll words h (site s m) (site s m) (Err stop.Words)
refused_words words h s m nothing empty = record {
  done = tt;
  low = tt;
  words = λ at. nothing;
  input = λ x at. absurd (other x at);
  unbegun = λ refusal. record { history = empty; files = λ told name. refl; steps = refl };
  front = inl (record { history = empty; files = λ told name. refl; steps = refl });
  others = λ told name none. refl;
  behaves = stops_after (Err stop.Words) s s (ran_none s) no_fault;
}
  where
    other : (x : Refused) → IsErrOf {T = End} (Err stop.Words) (stop.Input x) → ⊥
    other x at = search rules

    no_fault : IsErrOf {T = End} (Err stop.Words) stop.Fault → ⊥
    no_fault at = search rules

module _ (c : Command) (h : List Entry) (a b : Shelved) (m : ℕ) (r : Result End Stop) where
  -- there was no memory before any work
  pub memory_at : IsErrAnd r (λ s. s ≡ stop.Memory) → h ≡ [] → SameFiles a b → Ran a b → AnswersFor c h (site a m) (site b m) r
  memory_at is empty same ran =
      cut_at c h (site a m) (site b m) r shelf_error.Memory is (inl (record { history = empty; files = same; steps = refl }))
      (λ told name none. same told name) (stops_after r a b ran (memory_no_fault r is))

  -- an input was refused, or was not read
  pub refused_at :
      {T : Type 0} (e : Stop) → IsErrAnd r (λ s. s ≡ e) → (IsErrOf {T = T} (Err e) stop.Words → ⊥)
      → ((x : Refused) → IsErrOf {T = T} (Err e) (stop.Input x) → RefusesFor c a x) → h ≡ [] → SameFiles a b
      → Behaves {T = T} (MissesOne (input_names c) a) a b (Err e) → AnswersFor c h (site a m) (site b m) r
  refused_at {T = T} e is words input empty same behaves = record {
    done = ok_at_err _ r _ is;
    low = ok_at_err _ r _ is;
    words = λ at. words (same_err {U = T} e stop.Words r is at);
    input = λ x at. input x (same_err {U = T} e (stop.Input x) r is at);
    unbegun = holds_at_err r _ (record { history = empty; files = same; steps = refl });
    front = on_err r _ (inl (record { history = empty; files = same; steps = refl }));
    others = λ told name none. same told name;
    behaves = stays_at {U = T} e r a b is behaves;
  }

-- Behind the reading of inputs that were accepted and give this plan

module _
    (c : Command) (h : List Entry) (a b d : Shelved) (m n : ℕ) (read : Ran a b) (same : SameFiles a b)
    (i : Inputs) (accepted : AreAccepted a c i) (p : Plan) (plan : p ≡ plan_of c i)
  where
    leaves : IsPart c i h → AreBegun (outputs_of c p h) b d → LeavesFor c h (site a m) (site d n)
    leaves part begun = inr (
      i,
      accepted,
      record {
        history = part;
        outputs = subst (λ (x : Plan). AreBegun (outputs_of c x h) a d) plan (begun_since (outputs_of c p h) a b d read.call same begun);
      },
    )

    -- a call failed
    pub cut_behind :
        {T : Type 0} (e : ShelfError) (r : Result End Stop) → IsErrAnd r (λ s. s ≡ stop_of e) → IsPart c i h → AreBegun (outputs_of c p h) b d
        → KeepsAllBut (output_names c) b d → CallBehaves {T = T} b d (Err e) → AnswersFor c h (site a m) (site d n) r
    cut_behind e r is part begun others behaves =
        cut_at c h (site a m) (site d n) r e is (leaves part begun) (others_since (output_names c) a b d read.call same others)
        (stops_at e r a b d is read behaves (λ none. absurd none))

    -- there was no memory
    pub memory_behind :
        (r : Result End Stop) → IsErrAnd r (λ s. s ≡ stop.Memory) → IsPart c i h → AreBegun (outputs_of c p h) b d
        → KeepsAllBut (output_names c) b d → Ran b d → AnswersFor c h (site a m) (site d n) r
    memory_behind r is part begun others ran =
        cut_at c h (site a m) (site d n) r shelf_error.Memory is (leaves part begun) (others_since (output_names c) a b d read.call same others)
        (stops_after r a d (ran_then_ran a b d read ran) (memory_no_fault r is))

    -- all was done
    pub done_behind :
        (ended : End) → IsPlan p → Legal p h → 1 ≤ buffers_of c → IsAsked c i h → AreWhole (outputs_of c p h) d → n ≡ m + points_of c p h
        → TellsEnd c i h (string_bytes ended.line) ended.status → ended.status ≤ 1 → KeepsAllBut (output_names c) b d → Ran b d
        → AnswersFor c h (site a m) (site d n) (Ok ended)
    done_behind ended is legal some asked whole counted tells low others ran =
        done_at c h (site a m) (site d n) ended (
          i,
          accepted,
          record {
            history = asked;
            outputs = subst (λ (x : Plan). AreWhole (outputs_of c x h) d) plan whole;
            counted = counted ∙ ap (λ (x : Plan). m + points_of c x h) plan;
            whole = subst (λ (x : Plan). Honest x h → written x h (buffers_of c) ≡ frames x h) plan
                (λ honest. written_is p h (buffers_of c) is legal honest some);
          },
          tells,
        ) low (others_since (output_names c) a b d read.call same others) (ran_then_ran a b d read ran)

-- no name is kept out
pub none_kept_out : (s : Shelved) → KeepsAllBut [] s s
none_kept_out s told name none = refl

-- the plan that a machine was opened with, and the events that it takes, are those of the inputs
pub made_of :
    (c : Command) (i : Inputs) (p : Plan) (es fs : List Event) (m : Machine) → m ≡ record { plan = p; world = opening p } → fs ≡ es
    → Makes c i p es → Makes c i m.plan fs
made_of c i p es fs m is events makes = (its_plan m p is ∙ makes.0, events ∙ makes.1)

module _ (c : Command) (i : Inputs) (p : Plan) (es : List Event) (makes : Makes c i p es) (h : List Entry) where
  pub made_history : IsHistory p es h → IsHistory (plan_of c i) (events_for c i) h
  made_history history =
      subst (λ (x : Plan). IsHistory x (events_for c i) h) makes.0 (subst (λ (xs : List Event). IsHistory p xs h) makes.1 history)

  pub made_front : (n : ℕ) × IsHistory p (take n es) h → (n : ℕ) × IsHistory (plan_of c i) (take n (events_for c i)) h
  made_front front = (
    front.0,
    subst (λ (x : Plan). IsHistory x (take front.0 (events_for c i)) h) makes.0
        (subst (λ (xs : List Event). IsHistory p (take front.0 xs) h) makes.1 front.1),
  )
