use Rattle.std.proofs.Common.{◌∙◌, sym, subst}
use mathlib.Core.List.{IsPrefix}
use Rattle.vz_outside.specs.Shelved.{Appends, AppendsFront, Behaves}
use Rattle.vz_outside.proofs.Behaving.{on_err, then_behaves}
use Rattle.vz_player.proofs.Adding.{others_kept}
use Rattle.vz_threads.specs.Pipes.{BeginsLeft}
use Rattle.vz_threads.proofs.{Ends.as_err, Through.left_added, Through.left_begun}
use Rattle.vz_threads.proofs.writer.write_left.Goals as goal

pub returns-in_err-write_all-clause-begun : goal.returns-in_err-write_all-clause-begun
returns-in_err-write_all-clause-begun g c =
    let a = g.F.Shelf.shelved c.args.shelf.now in
    let b = g.F.Shelf.shelved c.loop.shelf in
    let after = g.F.Shelf.shelved c.write_all.new.shelf in
    let sent = c.args.sent.now.sent in
    let all = subst (λ l. IsPrefix c.left.new.self.taken l) c.loop.invariant.sent c.in-Some-left.ensures.next in
    on_err c.from_residual.result (BeginsLeft c.args.receiver.now.taken sent (a.name c.args.slot) a after)
    (left_begun c.args.receiver.now.taken c.loop.receiver.taken c.left.new.self.taken sent c.in-Some-left.frame c.args.slot a b after c.loop.invariant.left c.in-Some-left.ensures.some all
    (subst (λ l. AppendsFront l (b.name c.args.slot) b after) c.bytes.ensures c.in_err-write_all.ensures.begun))

pub returns-in_err-write_all-clause-others : goal.returns-in_err-write_all-clause-others
returns-in_err-write_all-clause-others g c = others_kept c.args.slot _ _ _ _ c.loop.invariant.left.added c.in_err-write_all.ensures.others

pub returns-in_err-write_all-clause-behaves : goal.returns-in_err-write_all-clause-behaves
returns-in_err-write_all-clause-behaves g c =
    let a = g.F.Shelf.shelved c.args.shelf.now in
    let after = g.F.Shelf.shelved c.write_all.new.shelf in
    as_err _ c.from_residual.result (λ r. Behaves a after r) c.from_residual.ensures.1 (then_behaves _ _ _ _ c.loop.invariant.left.added.ran c.in_err-write_all.ensures.behaves (λ z. z))

pub loop-preserved : goal.loop-preserved
loop-preserved g c =
    let a = g.F.Shelf.shelved c.args.shelf.now in
    let b = g.F.Shelf.shelved c.loop.shelf in
    let after = g.F.Shelf.shelved c.write_all.new.shelf in
    record {
      pipe = c.in-Some-left.ensures.token ∙ c.loop.invariant.pipe ∙ sym c.in-Some-left.ensures.pipe;
      sent = c.in-Some-left.ensures.sent ∙ c.loop.invariant.sent;
      left = left_added c.args.receiver.now.taken c.loop.receiver.taken c.left.new.self.taken c.in-Some-left.frame c.args.slot a b after c.loop.invariant.left c.in-Some-left.ensures.some
          (subst (λ l. Appends l (b.name c.args.slot) b after) c.bytes.ensures c.in_ok-write_all.ensures.appended)
          c.in_ok-write_all.ensures.others c.in_ok-write_all.ensures.behaves;
    }
