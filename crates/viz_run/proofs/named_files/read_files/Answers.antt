use Rattle.vz_outside.proofs.Behaving.{then_behaves, behaves_as, behaves_at, missing_before}
use Rattle.viz_run.proofs.Gathering.{read_next, misses_here, one_longer}
use Rattle.viz_run.proofs.named_files.read_files.Goals as goal

pub returns-in_err-bytes-clause-behaves : goal.returns-in_err-bytes-clause-behaves
returns-in_err-bytes-clause-behaves g c =
    let has = c.loop-name.invariant.0 in
    behaves_at c.in_err-bytes.field-0.0 c.from_residual.result _ _ c.from_residual.ensures.1
    (behaves_as c.in_err-bytes.field-0.0 _ _
    (then_behaves _ _ _ _ has.ran c.in_err-bytes.ensures.behaves
    (λ missing. misses_here c.args.names.now c.loop-name.name-index c.name-item.result _ c.loop-name-test.true c.name-item.is _ c.as_str.ensures.value (missing_before _ _ _ has.ran has.same missing)))
    (λ is. is))

pub loop-name-preserved : goal.loop-name-preserved
loop-name-preserved g c =
    let read = c.in_ok-bytes.ensures in (
      read_next c.args.limit c.args.names.now c.loop-name.name-index c.name-item.result c.loop-name.files.items c.in_ok-bytes.bytes c.push.new.self.items
          c.in_ok-bytes.bytes _ _ _ c.loop-name-test.true c.name-item.is c.loop-name.invariant.0 _ c.as_str.ensures.value read.read c.read_file.ensures.files read.behaves c.in_ok-push.ensures.items,
      one_longer c.loop-name.files.items c.push.new.self.items c.in_ok-bytes.bytes c.loop-name.name-index c.in_ok-push.ensures.items c.loop-name.invariant.1,
    )
