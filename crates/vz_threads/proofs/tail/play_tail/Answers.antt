use Rattle.std.proofs.Common.{rules, ◌≡◌, true, false, [], ◌∷◌, refl, sym, ap, ◌∙◌}
use Rattle.vz_rules.specs.{World.Machine, Course.some_waits, Step.world, declared.entry.Event.TheVariants.Begin, declared.entry.Event.TheVariants.Draw, declared.entry.Event.TheVariants.Done}
use Rattle.vz_outside.specs.Shelved.{Writing}
use Rattle.vz_outside.proofs.{Calls.ran_one, Behaving.on_err, Behaving.behaves_at, Behaving.then_behaves}
use Rattle.vz_player.specs.Taken.{AddsFramesFront}
use Rattle.vz_player.proofs.{Adding.others_kept, Taking.plan_all, Taking.stopped_all, Telling.gated_none, Telling.gated_then}
use Rattle.vz_threads.specs.Tails.{GoesOn}
use Rattle.vz_threads.proofs.Tailing.{first_begins, next_begins, next_nears, then_written, all_written, front_written, stopped_goes, then_goes, one_goes, show_alone, show_done, tail_added}
use Rattle.vz_threads.proofs.tail.play_tail.Goals as goal

-- The begin-frames

pub loop-player-init : goal.loop-player-init
loop-player-init g c = record {
  tail = first_begins c.args.file.slot c.args.player.now c.args.steps.now (g.F.Shelf.shelved c.args.shelf.now) c.requires.due c.requires.open;
  gated = gated_none (g.G.Gate.told c.args.gate.now) c.args.player.now.history c.args.player.now.history refl;
}

pub loop-player-smaller : goal.loop-player-smaller
loop-player-smaller g c =
    let waits : some_waits (world c.loop-player.player.plan c.loop-player.player.history) ≡ true =
    sym (ap (λ (m : Machine). some_waits m.world) c.machine.ensures) ∙ (sym c.waiting.ensures ∙ c.loop-player-test.true) in
    next_nears c.loop-player.player c.play_frames.new.player c.in_ok-play_frames.ensures.played c.loop-player.invariant.tail.due waits

pub loop-player-preserved : goal.loop-player-preserved
loop-player-preserved g c =
    let waits : some_waits (world c.loop-player.player.plan c.loop-player.player.history) ≡ true =
    sym (ap (λ (m : Machine). some_waits m.world) c.machine.ensures) ∙ (sym c.waiting.ensures ∙ c.loop-player-test.true) in
    let done = c.in_ok-play_frames.ensures in
    record {
      tail =
          next_begins c.args.file.slot c.args.player.now c.loop-player.player c.play_frames.new.player c.args.steps.now c.loop-player.steps c.play_frames.new.steps
          (g.F.Shelf.shelved c.args.shelf.now) (g.F.Shelf.shelved c.loop-player.shelf) (g.F.Shelf.shelved c.play_frames.new.shelf)
          c.loop-player.invariant.tail waits done.played done.written done.others (ran_one tt _ _ done.behaves) done.counted;
      gated = gated_then (g.G.Gate.told c.args.gate.now) c.args.player.now.history c.loop-player.player.history c.play_frames.new.player.history c.loop-player.invariant.gated done.gated;
    }

pub returns-in_err-play_frames-clause-stops : goal.returns-in_err-play_frames-clause-stops
returns-in_err-play_frames-clause-stops g c =
    on_err c.from_residual.result (GoesOn c.args.player.now c.play_frames.new.player)
    (then_goes c.args.player.now c.loop-player.player c.play_frames.new.player c.loop-player.invariant.tail.begun.begins c.loop-player.invariant.tail.begun.grown
    (stopped_goes c.loop-player.player c.play_frames.new.player (Begin ∷ []) c.in_err-play_frames.ensures.stops))

pub returns-in_err-play_frames-clause-begun : goal.returns-in_err-play_frames-clause-begun
returns-in_err-play_frames-clause-begun g c =
    let a = g.F.Shelf.shelved c.args.shelf.now in
    let after = g.F.Shelf.shelved c.play_frames.new.shelf in
    on_err c.from_residual.result (AddsFramesFront c.args.player.now c.play_frames.new.player (a.name c.args.file.slot) a after)
    (front_written c.args.file.slot _ _ _ _ a _ c.loop-player.invariant.tail.written c.play_frames.new.player after c.in_err-play_frames.ensures.begun)

pub returns-in_err-play_frames-clause-others : goal.returns-in_err-play_frames-clause-others
returns-in_err-play_frames-clause-others g c = others_kept c.args.file.slot _ _ _ _ c.loop-player.invariant.tail.written.added c.in_err-play_frames.ensures.others

pub returns-in_err-play_frames-clause-behaves : goal.returns-in_err-play_frames-clause-behaves
returns-in_err-play_frames-clause-behaves g c =
    behaves_at _ _ _ _ c.from_residual.ensures.1 (then_behaves _ _ _ _ c.loop-player.invariant.tail.written.added.ran c.in_err-play_frames.ensures.behaves (λ z. z))

-- The drawing

pub returns-in_err-play_frames-2-clause-stops : goal.returns-in_err-play_frames-2-clause-stops
returns-in_err-play_frames-2-clause-stops g c =
    on_err c.from_residual-in_err-play_frames-2.result (GoesOn c.args.player.now c.play_frames-2.new.player)
    (then_goes c.args.player.now c.loop-player.player c.play_frames-2.new.player c.loop-player.invariant.tail.begun.begins c.loop-player.invariant.tail.begun.grown
    (stopped_goes c.loop-player.player c.play_frames-2.new.player (Draw ∷ []) c.in_err-play_frames-2.ensures.stops))

pub returns-in_err-play_frames-2-clause-begun : goal.returns-in_err-play_frames-2-clause-begun
returns-in_err-play_frames-2-clause-begun g c =
    let a = g.F.Shelf.shelved c.args.shelf.now in
    let after = g.F.Shelf.shelved c.play_frames-2.new.shelf in
    on_err c.from_residual-in_err-play_frames-2.result (AddsFramesFront c.args.player.now c.play_frames-2.new.player (a.name c.args.file.slot) a after)
    (front_written c.args.file.slot _ _ _ _ a _ c.loop-player.invariant.tail.written c.play_frames-2.new.player after c.in_err-play_frames-2.ensures.begun)

pub returns-in_err-play_frames-2-clause-others : goal.returns-in_err-play_frames-2-clause-others
returns-in_err-play_frames-2-clause-others g c = others_kept c.args.file.slot _ _ _ _ c.loop-player.invariant.tail.written.added c.in_err-play_frames-2.ensures.others

pub returns-in_err-play_frames-2-clause-behaves : goal.returns-in_err-play_frames-2-clause-behaves
returns-in_err-play_frames-2-clause-behaves g c =
    behaves_at _ _ _ _ c.from_residual-in_err-play_frames-2.ensures.1
    (then_behaves _ _ _ _ c.loop-player.invariant.tail.written.added.ran c.in_err-play_frames-2.ensures.behaves (λ z. z))

-- if nothing was drawn, that is all

pub returns-then-not-ends_drawn-clause-tail : goal.returns-then-not-ends_drawn-clause-tail
returns-then-not-ends_drawn-clause-tail g c =
    let rest : some_waits (world c.loop-player.player.plan c.loop-player.player.history) ≡ false =
    sym (ap (λ (m : Machine). some_waits m.world) c.machine.ensures) ∙ (sym c.waiting.ensures ∙ c.loop-player-test.false) in
    let none : c.ends_drawn.result ≡ false = search rules in
    tail_added c.args.player.now c.loop-player.player c.play_frames-2.new.player c.loop-player.invariant.tail.begun rest
    (show_alone c.loop-player.player c.play_frames-2.new.player c.ends_drawn.result c.in_ok-play_frames-2.ensures.played (λ h e at. c.ends_drawn.ensures h e (c.history.ensures.value ∙ at)) none)

pub returns-then-not-ends_drawn-clause-written : goal.returns-then-not-ends_drawn-clause-written
returns-then-not-ends_drawn-clause-written g c =
    let drawn = c.in_ok-play_frames-2.ensures in
    all_written c.args.file.slot _ _ _ _ _ _
    (then_written c.args.file.slot _ _ _ _ _ _ c.loop-player.invariant.tail.written c.play_frames-2.new.player c.play_frames-2.new.steps (g.F.Shelf.shelved c.play_frames-2.new.shelf) drawn.written drawn.others (ran_one tt _ _ drawn.behaves) drawn.counted)

pub returns-then-not-ends_drawn-clause-counted : goal.returns-then-not-ends_drawn-clause-counted
returns-then-not-ends_drawn-clause-counted g c =
    let drawn = c.in_ok-play_frames-2.ensures in
    (then_written c.args.file.slot _ _ _ _ _ _ c.loop-player.invariant.tail.written c.play_frames-2.new.player c.play_frames-2.new.steps (g.F.Shelf.shelved c.play_frames-2.new.shelf) drawn.written drawn.others (ran_one tt _ _ drawn.behaves) drawn.counted).painted

pub returns-then-not-ends_drawn-clause-others : goal.returns-then-not-ends_drawn-clause-others
returns-then-not-ends_drawn-clause-others g c = others_kept c.args.file.slot _ _ _ _ c.loop-player.invariant.tail.written.added c.in_ok-play_frames-2.ensures.others

pub returns-then-not-ends_drawn-clause-behaves : goal.returns-then-not-ends_drawn-clause-behaves
returns-then-not-ends_drawn-clause-behaves g c = then_behaves _ _ _ _ c.loop-player.invariant.tail.written.added.ran c.in_ok-play_frames-2.ensures.behaves (λ z. z)

-- What follows a drawing

pub play_frames-requires-3-clause-going : goal.play_frames-requires-3-clause-going
play_frames-requires-3-clause-going g c = λ _ _.
    ap (λ p. p.stopped) c.in_ok-play_frames-2.ensures.played ∙ (stopped_all c.loop-player.player (Draw ∷ []) ∙ (ap (λ p. p.stopped) c.loop-player.invariant.tail.begun.grown ∙ c.requires.going))

pub play_frames-requires-3-clause-size : goal.play_frames-requires-3-clause-size
play_frames-requires-3-clause-size g c = λ _ _.
    ap (λ p. p.plan.size) c.in_ok-play_frames-2.ensures.played
    ∙ (ap (λ p. p.size) (plan_all c.loop-player.player (Draw ∷ [])) ∙ (ap (λ p. p.plan.size) c.loop-player.invariant.tail.begun.grown ∙ c.requires.size))

pub play_frames-requires-3-clause-open : goal.play_frames-requires-3-clause-open
play_frames-requires-3-clause-open g c = λ _ _.
    c.in_ok-play_frames-2.ensures.behaves.call.slots c.args.file.slot Writing (c.loop-player.invariant.tail.written.added.ran.call.slots c.args.file.slot Writing c.requires.open)

pub returns-in_err-play_frames-3-clause-stops : goal.returns-in_err-play_frames-3-clause-stops
returns-in_err-play_frames-3-clause-stops g c =
    on_err c.from_residual-in_err-play_frames-3.result (GoesOn c.args.player.now c.play_frames-3.new.player)
    (then_goes c.args.player.now c.loop-player.player c.play_frames-3.new.player c.loop-player.invariant.tail.begun.begins c.loop-player.invariant.tail.begun.grown
    (one_goes c.loop-player.player c.play_frames-2.new.player c.play_frames-3.new.player Draw c.in_ok-play_frames-2.ensures.played
    (stopped_goes c.play_frames-2.new.player c.play_frames-3.new.player (Done ∷ []) c.in_err-play_frames-3.ensures.stops)))

pub returns-in_err-play_frames-3-clause-begun : goal.returns-in_err-play_frames-3-clause-begun
returns-in_err-play_frames-3-clause-begun g c =
    let drawn = c.in_ok-play_frames-2.ensures in
    let a = g.F.Shelf.shelved c.args.shelf.now in
    let after = g.F.Shelf.shelved c.play_frames-3.new.shelf in
    on_err c.from_residual-in_err-play_frames-3.result (AddsFramesFront c.args.player.now c.play_frames-3.new.player (a.name c.args.file.slot) a after)
    (front_written c.args.file.slot _ _ _ _ a _
    (then_written c.args.file.slot _ _ _ _ _ _ c.loop-player.invariant.tail.written c.play_frames-2.new.player c.play_frames-2.new.steps (g.F.Shelf.shelved c.play_frames-2.new.shelf) drawn.written drawn.others (ran_one tt _ _ drawn.behaves) drawn.counted)
    c.play_frames-3.new.player after c.in_err-play_frames-3.ensures.begun)

pub returns-in_err-play_frames-3-clause-others : goal.returns-in_err-play_frames-3-clause-others
returns-in_err-play_frames-3-clause-others g c =
    let drawn = c.in_ok-play_frames-2.ensures in
    let shown = then_written c.args.file.slot _ _ _ _ _ _ c.loop-player.invariant.tail.written c.play_frames-2.new.player c.play_frames-2.new.steps (g.F.Shelf.shelved c.play_frames-2.new.shelf) drawn.written drawn.others (ran_one tt _ _ drawn.behaves) drawn.counted in
    others_kept c.args.file.slot _ _ _ _ shown.added c.in_err-play_frames-3.ensures.others

pub returns-in_err-play_frames-3-clause-behaves : goal.returns-in_err-play_frames-3-clause-behaves
returns-in_err-play_frames-3-clause-behaves g c =
    let drawn = c.in_ok-play_frames-2.ensures in
    let shown = then_written c.args.file.slot _ _ _ _ _ _ c.loop-player.invariant.tail.written c.play_frames-2.new.player c.play_frames-2.new.steps (g.F.Shelf.shelved c.play_frames-2.new.shelf) drawn.written drawn.others (ran_one tt _ _ drawn.behaves) drawn.counted in
    behaves_at _ _ _ _ c.from_residual-in_err-play_frames-3.ensures.1 (then_behaves _ _ _ _ shown.added.ran c.in_err-play_frames-3.ensures.behaves (λ z. z))

pub returns-clause-tail : goal.returns-clause-tail
returns-clause-tail g c =
    let rest : some_waits (world c.loop-player.player.plan c.loop-player.player.history) ≡ false =
    sym (ap (λ (m : Machine). some_waits m.world) c.machine.ensures) ∙ (sym c.waiting.ensures ∙ c.loop-player-test.false) in
    let some : c.ends_drawn.result ≡ true = search rules in
    tail_added c.args.player.now c.loop-player.player c.play_frames-3.new.player c.loop-player.invariant.tail.begun rest
    (show_done c.loop-player.player c.play_frames-2.new.player c.play_frames-3.new.player c.ends_drawn.result c.in_ok-play_frames-2.ensures.played (λ h e at. c.ends_drawn.ensures h e (c.history.ensures.value ∙ at)) some
    c.in_ok-play_frames-3.ensures.played)

pub returns-clause-written : goal.returns-clause-written
returns-clause-written g c =
    let drawn = c.in_ok-play_frames-2.ensures in
    let more = c.in_ok-play_frames-3.ensures in
    let shown = then_written c.args.file.slot _ _ _ _ _ _ c.loop-player.invariant.tail.written c.play_frames-2.new.player c.play_frames-2.new.steps (g.F.Shelf.shelved c.play_frames-2.new.shelf) drawn.written drawn.others (ran_one tt _ _ drawn.behaves) drawn.counted in
    all_written c.args.file.slot _ _ _ _ _ _ (then_written c.args.file.slot _ _ _ _ _ _ shown c.play_frames-3.new.player c.play_frames-3.new.steps (g.F.Shelf.shelved c.play_frames-3.new.shelf) more.written more.others (ran_one tt _ _ more.behaves) more.counted)

pub returns-clause-counted : goal.returns-clause-counted
returns-clause-counted g c =
    let drawn = c.in_ok-play_frames-2.ensures in
    let more = c.in_ok-play_frames-3.ensures in
    let shown = then_written c.args.file.slot _ _ _ _ _ _ c.loop-player.invariant.tail.written c.play_frames-2.new.player c.play_frames-2.new.steps (g.F.Shelf.shelved c.play_frames-2.new.shelf) drawn.written drawn.others (ran_one tt _ _ drawn.behaves) drawn.counted in
    (then_written c.args.file.slot _ _ _ _ _ _ shown c.play_frames-3.new.player c.play_frames-3.new.steps (g.F.Shelf.shelved c.play_frames-3.new.shelf) more.written more.others (ran_one tt _ _ more.behaves) more.counted).painted

pub returns-clause-others : goal.returns-clause-others
returns-clause-others g c =
    let drawn = c.in_ok-play_frames-2.ensures in
    let shown = then_written c.args.file.slot _ _ _ _ _ _ c.loop-player.invariant.tail.written c.play_frames-2.new.player c.play_frames-2.new.steps (g.F.Shelf.shelved c.play_frames-2.new.shelf) drawn.written drawn.others (ran_one tt _ _ drawn.behaves) drawn.counted in
    others_kept c.args.file.slot _ _ _ _ shown.added c.in_ok-play_frames-3.ensures.others

pub returns-clause-behaves : goal.returns-clause-behaves
returns-clause-behaves g c =
    let drawn = c.in_ok-play_frames-2.ensures in
    let shown = then_written c.args.file.slot _ _ _ _ _ _ c.loop-player.invariant.tail.written c.play_frames-2.new.player c.play_frames-2.new.steps (g.F.Shelf.shelved c.play_frames-2.new.shelf) drawn.written drawn.others (ran_one tt _ _ drawn.behaves) drawn.counted in
    then_behaves _ _ _ _ shown.added.ran c.in_ok-play_frames-3.ensures.behaves (λ z. z)

-- The gate

pub returns-in_err-play_frames-clause-gated : goal.returns-in_err-play_frames-clause-gated
returns-in_err-play_frames-clause-gated g c =
    gated_then (g.G.Gate.told c.args.gate.now) c.args.player.now.history c.loop-player.player.history c.play_frames.new.player.history c.loop-player.invariant.gated c.in_err-play_frames.ensures.gated

pub returns-in_err-play_frames-2-clause-gated : goal.returns-in_err-play_frames-2-clause-gated
returns-in_err-play_frames-2-clause-gated g c =
    gated_then (g.G.Gate.told c.args.gate.now) c.args.player.now.history c.loop-player.player.history c.play_frames-2.new.player.history c.loop-player.invariant.gated c.in_err-play_frames-2.ensures.gated

pub returns-then-not-ends_drawn-clause-gated : goal.returns-then-not-ends_drawn-clause-gated
returns-then-not-ends_drawn-clause-gated g c =
    gated_then (g.G.Gate.told c.args.gate.now) c.args.player.now.history c.loop-player.player.history c.play_frames-2.new.player.history c.loop-player.invariant.gated c.in_ok-play_frames-2.ensures.gated

pub returns-in_err-play_frames-3-clause-gated : goal.returns-in_err-play_frames-3-clause-gated
returns-in_err-play_frames-3-clause-gated g c =
    let told = g.G.Gate.told c.args.gate.now in
    gated_then told c.args.player.now.history c.play_frames-2.new.player.history c.play_frames-3.new.player.history
    (gated_then told c.args.player.now.history c.loop-player.player.history c.play_frames-2.new.player.history c.loop-player.invariant.gated c.in_ok-play_frames-2.ensures.gated) c.in_err-play_frames-3.ensures.gated

pub returns-clause-gated : goal.returns-clause-gated
returns-clause-gated g c =
    let told = g.G.Gate.told c.args.gate.now in
    gated_then told c.args.player.now.history c.play_frames-2.new.player.history c.play_frames-3.new.player.history
    (gated_then told c.args.player.now.history c.loop-player.player.history c.play_frames-2.new.player.history c.loop-player.invariant.gated c.in_ok-play_frames-2.ensures.gated) c.in_ok-play_frames-3.ensures.gated
