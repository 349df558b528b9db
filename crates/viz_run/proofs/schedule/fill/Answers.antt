use Rattle.std.proofs.Common.{◌+◌, ◌≤◌, length, get_or, refl, ◌∙◌, sym, subst, arith}
use Rattle.viz_run.proofs.Flaws.{error_is, refused_is}
use Rattle.viz_run.proofs.Schedules.{events_more, flawed_here, none_flawed, draws_more, asked_of}
use Rattle.viz_run.proofs.schedule.fill.Goals as goal

pub returns-in-Some-clause-refused : goal.returns-in-Some-clause-refused
returns-in-Some-clause-refused c r is =
    let bytes = c.args.bytes.now in
    let drawn = draws_more bytes c.loop-at.at c.loop-at.draws c.from-draws.result c.is_draw.result c.loop-at-test.true c.loop-at.invariant.1
    c.is_draw.ensures c.from-draws.ensures in
    flawed_here c.args.plan.now bytes c.loop-at.at (get_or bytes c.loop-at.at 0) (c.loop-at.draws + c.from-draws.result) c.loop-at.events.items c.in-Some.rule r c.loop-at-test.true refl
    c.loop-at.invariant.2 c.loop-at.invariant.0 drawn
    (asked_of c.args.plan.now (length c.files-clients.result.now) c.size-size.result (c.loop-at.draws + c.from-draws.result) (get_or bytes c.loop-at.at 0) _ c.loop-at.invariant.4 c.loop-at.invariant.3 (sym c.rule_broken.ensures ∙ c.in-Some.is))
    (refused_is (sym (error_is _ _ is) ∙ c.refused.ensures))

pub loop-at-preserved : goal.loop-at-preserved
loop-at-preserved c =
    let bytes = c.args.bytes.now in
    let drawn = draws_more bytes c.loop-at.at c.loop-at.draws c.from-draws.result c.is_draw.result c.loop-at-test.true c.loop-at.invariant.1
    c.is_draw.ensures c.from-draws.ensures in (
      events_more c.args.plan.now bytes c.loop-at.at (get_or bytes c.loop-at.at 0) (c.loop-at.draws + c.from-draws.result) c.loop-at.events.items c.push_event.new.events.items
          c.loop-at-test.true refl c.files-clients.ensures.kept.few_files c.loop-at.invariant.0 drawn
          (asked_of c.args.plan.now (length c.files-clients.result.now) c.size-size.result (c.loop-at.draws + c.from-draws.result) (get_or bytes c.loop-at.at 0) _ c.loop-at.invariant.4 c.loop-at.invariant.3 (sym c.rule_broken.ensures ∙ c.in_default.is))
          c.push_event.ensures.pushed,
      drawn,
      c.loop-at.invariant.2,
      c.loop-at.invariant.3,
      c.loop-at.invariant.4,
      omega (arith, c.push_event.ensures.one, c.loop-at.invariant.5),
      subst (λ n. length bytes ≤ n) (sym c.push_event.ensures.room) c.loop-at.invariant.6,
    )

pub returns-clause-accepted : goal.returns-clause-accepted
returns-clause-accepted c = none_flawed c.args.plan.now c.args.bytes.now c.loop-at.at c.loop-at.events.items c.loop-at-test.false c.loop-at.invariant.2 c.loop-at.invariant.0
