use Rattle.std.proofs.Common.{◌∙◌, subst}
use Rattle.vz_outside.specs.Shelved.{Appends, AppendsFront}
use Rattle.vz_outside.proofs.Behaving.{then_behaves}
use Rattle.vz_player.proofs.Adding.{others_kept}
use Rattle.vz_threads.specs.Pipes.{bytes_of, Wrote}
use Rattle.vz_threads.proofs.{Ends.as_err, Through.frame_added, Through.frame_begun}
use Rattle.vz_threads.proofs.writer.write_taken.Goals as goal

pub returns-in_err-write_all-clause-wrote : goal.returns-in_err-write_all-clause-wrote
returns-in_err-write_all-clause-wrote g c =
    let a = g.F.Shelf.shelved c.args.shelf.now in
    let b = g.F.Shelf.shelved c.loop.shelf in
    let after = g.F.Shelf.shelved c.write_all.new.shelf in
    let x = c.in-Some-take.frame in
    let before = c.loop.invariant.added in
    as_err _ c.from_residual.result (Wrote (bytes_of c.take.new.self.taken) c.args.slot a after) c.from_residual.ensures.1
    (record {
      written = tt;
      begun = frame_begun c.loop.receiver.taken c.take.new.self.taken x c.args.slot a b after before c.in-Some-take.ensures.some
          (subst (λ l. AppendsFront l (b.name c.args.slot) b after) c.bytes.ensures c.in_err-write_all.ensures.begun);
      others = others_kept c.args.slot _ _ _ _ before c.in_err-write_all.ensures.others;
      behaves = then_behaves _ _ _ _ before.ran c.in_err-write_all.ensures.behaves (λ z. z);
    })

pub loop-preserved : goal.loop-preserved
loop-preserved g c =
    let a = g.F.Shelf.shelved c.args.shelf.now in
    let b = g.F.Shelf.shelved c.loop.shelf in
    let after = g.F.Shelf.shelved c.write_all.new.shelf in
    record {
      pipe = c.in-Some-take.ensures.pipe ∙ c.loop.invariant.pipe;
      added = frame_added c.loop.receiver.taken c.take.new.self.taken c.in-Some-take.frame c.args.slot a b after c.loop.invariant.added c.in-Some-take.ensures.some
          (subst (λ l. Appends l (b.name c.args.slot) b after) c.bytes.ensures c.in_ok-write_all.ensures.appended)
          c.in_ok-write_all.ensures.others c.in_ok-write_all.ensures.behaves;
    }
