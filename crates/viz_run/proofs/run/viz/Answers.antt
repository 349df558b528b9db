use Rattle.std.proofs.Common.{ℕ, List, inr, sym, subst, arith}
use Rattle.std.specs.String.{string_bytes}
use Rattle.vz_outside.specs.Sunk.{Takes, TakesFront}
use Rattle.vz_words.specs.Words.{texts}
use Rattle.viz_run.specs.Causes.{DoesAll}
use Rattle.viz_run.specs.Site.{site}
use Rattle.viz_run.proofs.Answering.{status_of, told_status, none_refused, done_asked, done_unrefused, done_or_more, done_fault, done_quiet, done_sound, done_front, told_least, called}
use Rattle.viz_run.proofs.Answering.{nothing_asked, stopped_words, stopped_input, stopped_refused, stopped_accepted, stopped_fault, stopped_quiet, stopped_line, stopped_printed, stopped_least, stopped_sound}
use Rattle.viz_run.proofs.run.viz.Goals as goal

pub returns-in-Ok-clause-range : goal.returns-in-Ok-clause-range
returns-in-Ok-clause-range g c = status_of c.tell.result c.in-Ok.ended.status c.in-Ok.ensures.answers.low c.tell.ensures.range

pub returns-in-Ok-clause-ends : goal.returns-in-Ok-clause-ends
returns-in-Ok-clause-ends g c = λ few.
    let is = told_status c.tell.result c.in-Ok.ended.status few c.tell.ensures.range in
    let before = site (g.F.Shelf.shelved c.args.shelf.now) c.args.steps.now in
    let after = site (g.F.Shelf.shelved c.perform.new.shelf) c.perform.new.steps in
    let line = string_bytes c.in-Ok.ended.line in (
      line,
      subst (λ (k : ℕ). DoesAll (texts c.args.words.now) c.perform.new.history before after line k) (sym is) c.in-Ok.ensures.answers.done,
      subst (λ (l : List ℕ). Takes l (g.O.Sink.sunk c.args.out.now) (g.O.Sink.sunk c.tell.new.out)) c.deref.ensures (c.tell.ensures.told is),
    )

pub returns-in-Ok-clause-words : goal.returns-in-Ok-clause-words
returns-in-Ok-clause-words g c = λ is. none_refused c.tell.result c.in-Ok.ended.status 2 _ c.in-Ok.ensures.answers.low c.tell.ensures.range (omega arith) (omega arith) is

pub returns-in-Ok-clause-no_other : goal.returns-in-Ok-clause-no_other
returns-in-Ok-clause-no_other g c = λ nothing. done_asked _ _ _ _ _ _ _ c.in-Ok.ensures.answers.done nothing

pub returns-in-Ok-clause-input : goal.returns-in-Ok-clause-input
returns-in-Ok-clause-input g c = λ is. none_refused c.tell.result c.in-Ok.ended.status 3 _ c.in-Ok.ensures.answers.low c.tell.ensures.range (omega arith) (omega arith) is

pub returns-in-Ok-clause-refuses : goal.returns-in-Ok-clause-refuses
returns-in-Ok-clause-refuses g c = λ d i r asks known refused. done_unrefused _ _ _ _ _ _ _ c.in-Ok.ensures.answers.done d i r asks known refused

pub returns-in-Ok-clause-complete : goal.returns-in-Ok-clause-complete
returns-in-Ok-clause-complete g c = λ d i asks known accepted. done_or_more c.tell.result c.in-Ok.ended.status c.in-Ok.ensures.answers.low c.tell.ensures.range

pub returns-in-Ok-clause-fault : goal.returns-in-Ok-clause-fault
returns-in-Ok-clause-fault g c = λ four. done_fault _ (g.F.Shelf.shelved c.args.shelf.now) (g.F.Shelf.shelved c.perform.new.shelf) c.args.steps.now c.perform.new.steps
    (g.O.Sink.sunk c.args.out.now) (g.O.Sink.sunk c.tell.new.out) c.in-Ok.ensures.answers.behaves (c.tell.ensures.fault four)

pub returns-in-Ok-clause-quiet : goal.returns-in-Ok-clause-quiet
returns-in-Ok-clause-quiet g c = λ other. done_quiet _ (g.F.Shelf.shelved c.args.shelf.now) (g.F.Shelf.shelved c.perform.new.shelf) c.args.steps.now c.perform.new.steps
    (g.O.Sink.sunk c.args.out.now) (g.O.Sink.sunk c.tell.new.out) c.in-Ok.ensures.answers.behaves (c.tell.ensures.quiet other)

pub returns-in-Ok-clause-only_line : goal.returns-in-Ok-clause-only_line
returns-in-Ok-clause-only_line g c = λ four still. inr (inr (string_bytes c.in-Ok.ended.line, c.in-Ok.ended.status, c.in-Ok.ensures.answers.done))

pub returns-in-Ok-clause-printed : goal.returns-in-Ok-clause-printed
returns-in-Ok-clause-printed g c = λ more. (
  string_bytes c.in-Ok.ended.line,
  inr (inr (inr (c.in-Ok.ended.status, c.in-Ok.ensures.answers.done))),
  subst (λ (l : List ℕ). TakesFront l (g.O.Sink.sunk c.args.out.now) (g.O.Sink.sunk c.tell.new.out)) c.deref.ensures (c.tell.ensures.begun more),
)

pub returns-in-Ok-clause-front : goal.returns-in-Ok-clause-front
returns-in-Ok-clause-front g c = λ more. done_front _ _ _ _ _ _ c.in-Ok.ensures.answers.done

pub returns-in-Ok-clause-others : goal.returns-in-Ok-clause-others
returns-in-Ok-clause-others g c = c.in-Ok.ensures.answers.others

pub returns-in-Ok-clause-call : goal.returns-in-Ok-clause-call
returns-in-Ok-clause-call g c = called _ (g.F.Shelf.shelved c.args.shelf.now) (g.F.Shelf.shelved c.perform.new.shelf) c.args.steps.now c.perform.new.steps
    (g.O.Sink.sunk c.args.out.now) (g.O.Sink.sunk c.tell.new.out) c.in-Ok.ensures.answers.behaves c.tell.ensures.known (told_least c.tell.result (g.O.Sink.sunk c.args.out.now).faults (g.O.Sink.sunk c.tell.new.out).faults c.tell.ensures.fault c.tell.ensures.quiet)

pub returns-in-Ok-clause-sound : goal.returns-in-Ok-clause-sound
returns-in-Ok-clause-sound g c = λ faultless finds. done_sound _ (g.F.Shelf.shelved c.args.shelf.now) (g.F.Shelf.shelved c.perform.new.shelf) c.args.steps.now c.perform.new.steps
    (g.O.Sink.sunk c.args.out.now) (g.O.Sink.sunk c.tell.new.out) c.in-Ok.ensures.answers.behaves c.tell.ensures.stays faultless

pub returns-in-Err-clause-range : goal.returns-in-Err-clause-range
returns-in-Err-clause-range g c = c.tell_stop.ensures.range.1

pub returns-in-Err-clause-ends : goal.returns-in-Err-clause-ends
returns-in-Err-clause-ends g c = λ is. absurd (let low = c.tell_stop.ensures.range.0 in omega (arith, is, low))

pub returns-in-Err-clause-words : goal.returns-in-Err-clause-words
returns-in-Err-clause-words g c = λ is. stopped_words (texts c.args.words.now) c.perform.new.history (g.F.Shelf.shelved c.args.shelf.now) (g.F.Shelf.shelved c.perform.new.shelf) c.args.steps.now c.perform.new.steps c.in-Err.stop
    c.tell_stop.result (g.O.Sink.sunk c.args.out.now) (g.O.Sink.sunk c.tell_stop.new.out) c.in-Err.ensures.answers.words c.in-Err.ensures.answers.input c.in-Err.ensures.answers.unbegun (c.tell_stop.ensures.words is)

pub returns-in-Err-clause-no_other : goal.returns-in-Err-clause-no_other
returns-in-Err-clause-no_other g c = λ nothing. nothing_asked (texts c.args.words.now) (g.F.Shelf.shelved c.args.shelf.now) c.in-Err.stop c.tell_stop.result (g.O.Sink.sunk c.args.out.now) (g.O.Sink.sunk c.tell_stop.new.out)
    c.in-Err.ensures.answers.input c.tell_stop.ensures.input c.tell_stop.ensures.range.0 nothing

pub returns-in-Err-clause-input : goal.returns-in-Err-clause-input
returns-in-Err-clause-input g c = λ is. stopped_input (texts c.args.words.now) c.perform.new.history (g.F.Shelf.shelved c.args.shelf.now) (g.F.Shelf.shelved c.perform.new.shelf) c.args.steps.now c.perform.new.steps c.in-Err.stop
    c.tell_stop.result (g.O.Sink.sunk c.args.out.now) (g.O.Sink.sunk c.tell_stop.new.out) c.in-Err.ensures.answers.words c.in-Err.ensures.answers.input c.in-Err.ensures.answers.unbegun (c.tell_stop.ensures.input is)

pub returns-in-Err-clause-refuses : goal.returns-in-Err-clause-refuses
returns-in-Err-clause-refuses g c = λ d i r asks known refused. stopped_refused (texts c.args.words.now) c.perform.new.history (g.F.Shelf.shelved c.args.shelf.now) (g.F.Shelf.shelved c.perform.new.shelf) c.args.steps.now c.perform.new.steps c.in-Err.stop
    c.tell_stop.result (g.O.Sink.sunk c.args.out.now) (g.O.Sink.sunk c.tell_stop.new.out) c.in-Err.ensures.answers.words c.in-Err.ensures.answers.input c.tell_stop.ensures.range.0 c.tell_stop.ensures.words c.tell_stop.ensures.input d i r asks known refused

pub returns-in-Err-clause-complete : goal.returns-in-Err-clause-complete
returns-in-Err-clause-complete g c = λ d i asks known accepted. stopped_accepted (texts c.args.words.now) c.perform.new.history (g.F.Shelf.shelved c.args.shelf.now) (g.F.Shelf.shelved c.perform.new.shelf) c.args.steps.now c.perform.new.steps c.in-Err.stop
    c.tell_stop.result (g.O.Sink.sunk c.args.out.now) (g.O.Sink.sunk c.tell_stop.new.out) c.in-Err.ensures.answers.words c.in-Err.ensures.answers.input c.tell_stop.ensures.range.0 c.tell_stop.ensures.words c.tell_stop.ensures.input d i asks known accepted

pub returns-in-Err-clause-fault : goal.returns-in-Err-clause-fault
returns-in-Err-clause-fault g c = λ four. stopped_fault (texts c.args.words.now) c.perform.new.history (g.F.Shelf.shelved c.args.shelf.now) (g.F.Shelf.shelved c.perform.new.shelf) c.args.steps.now c.perform.new.steps c.in-Err.stop
    c.tell_stop.result (g.O.Sink.sunk c.args.out.now) (g.O.Sink.sunk c.tell_stop.new.out) c.in-Err.ensures.answers.words c.in-Err.ensures.answers.input c.in-Err.ensures.answers.behaves c.tell_stop.ensures.silent (c.tell_stop.ensures.fault four)

pub returns-in-Err-clause-quiet : goal.returns-in-Err-clause-quiet
returns-in-Err-clause-quiet g c = λ other. stopped_quiet (texts c.args.words.now) c.perform.new.history (g.F.Shelf.shelved c.args.shelf.now) (g.F.Shelf.shelved c.perform.new.shelf) c.args.steps.now c.perform.new.steps c.in-Err.stop
    c.tell_stop.result (g.O.Sink.sunk c.args.out.now) (g.O.Sink.sunk c.tell_stop.new.out) c.in-Err.ensures.answers.words c.in-Err.ensures.answers.input c.in-Err.ensures.answers.behaves c.tell_stop.ensures.at_fault other (c.tell_stop.ensures.quiet other)

pub returns-in-Err-clause-only_line : goal.returns-in-Err-clause-only_line
returns-in-Err-clause-only_line g c = λ four still. stopped_line (texts c.args.words.now) c.perform.new.history (g.F.Shelf.shelved c.args.shelf.now) (g.F.Shelf.shelved c.perform.new.shelf) c.args.steps.now c.perform.new.steps c.in-Err.stop
    c.tell_stop.result (g.O.Sink.sunk c.args.out.now) (g.O.Sink.sunk c.tell_stop.new.out) c.in-Err.ensures.answers.words c.in-Err.ensures.answers.input c.in-Err.ensures.answers.behaves (c.tell_stop.ensures.fault four) still

pub returns-in-Err-clause-printed : goal.returns-in-Err-clause-printed
returns-in-Err-clause-printed g c = λ more. stopped_printed (texts c.args.words.now) c.perform.new.history (g.F.Shelf.shelved c.args.shelf.now) (g.F.Shelf.shelved c.perform.new.shelf) c.args.steps.now c.perform.new.steps c.in-Err.stop
    c.tell_stop.result (g.O.Sink.sunk c.args.out.now) (g.O.Sink.sunk c.tell_stop.new.out) c.in-Err.ensures.answers.words c.in-Err.ensures.answers.input (c.tell_stop.ensures.begun more)

pub returns-in-Err-clause-front : goal.returns-in-Err-clause-front
returns-in-Err-clause-front g c = λ more. c.in-Err.ensures.answers.front

pub returns-in-Err-clause-others : goal.returns-in-Err-clause-others
returns-in-Err-clause-others g c = c.in-Err.ensures.answers.others

pub returns-in-Err-clause-call : goal.returns-in-Err-clause-call
returns-in-Err-clause-call g c = called _ (g.F.Shelf.shelved c.args.shelf.now) (g.F.Shelf.shelved c.perform.new.shelf) c.args.steps.now c.perform.new.steps
    (g.O.Sink.sunk c.args.out.now) (g.O.Sink.sunk c.tell_stop.new.out) c.in-Err.ensures.answers.behaves c.tell_stop.ensures.known (stopped_least c.in-Err.stop c.tell_stop.result (g.O.Sink.sunk c.args.out.now) (g.O.Sink.sunk c.tell_stop.new.out) c.tell_stop.ensures.fault c.tell_stop.ensures.silent c.tell_stop.ensures.quiet)

pub returns-in-Err-clause-sound : goal.returns-in-Err-clause-sound
returns-in-Err-clause-sound g c = λ faultless finds. stopped_sound c.in-Err.stop (g.F.Shelf.shelved c.args.shelf.now) (g.F.Shelf.shelved c.perform.new.shelf) c.args.steps.now c.perform.new.steps
    (g.O.Sink.sunk c.args.out.now) (g.O.Sink.sunk c.tell_stop.new.out) c.in-Err.ensures.answers.behaves c.tell_stop.ensures.stays faultless finds

pub returns-in-Ok-clause-gated : goal.returns-in-Ok-clause-gated
returns-in-Ok-clause-gated g c = c.perform.ensures.gated

pub returns-in-Err-clause-gated : goal.returns-in-Err-clause-gated
returns-in-Err-clause-gated g c = c.perform.ensures.gated
