use Rattle.std.proofs.Common.{not, sym, ap, length, arith}
use Rattle.std.proofs.lemmas.List.{append-nil}
use Rattle.vz_rules.specs.Settle.{is_met}
use Rattle.vz_manager.proofs.Judged.{lacks_next, lacks_all}
use Rattle.vz_manager.proofs.judging.lacked.Goals as goal

pub loop-d-init : goal.loop-d-init
loop-d-init c = (λ p w asks. sym (append-nil c.args.out.now.list), omega arith)

pub put_lacked-requires : goal.put_lacked-requires
put_lacked-requires c =
    record { room = omega (arith, c.requires.room, c.loop-d-test.true, ap length c.as_slice-dependencies.ensures, c.loop-d.invariant.1) }

pub loop-d-preserved : goal.loop-d-preserved
loop-d-preserved c =
    let before = c.loop-d.invariant in (
      λ p w asks.
          lacks_next (λ d. not (is_met w d)) c.as_slice-dependencies.result.now c.loop-d.d-index _ c.args.out.now.list _ _
          c.loop-d-test.true (before.0 p w asks) (c.put_lacked.ensures.list p w asks),
      omega (arith, before.1, c.put_lacked.ensures.room),
    )

pub returns : goal.returns
returns c =
    record {
      list = λ p w asks.
          lacks_all (λ d. not (is_met w d)) c.as_slice-dependencies.result.now _ c.loop-d.d-index _ _
          (omega (arith, c.loop-d-test.false)) c.as_slice-dependencies.ensures (c.loop-d.invariant.0 p w asks);
    }
