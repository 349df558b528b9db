use Rattle.std.proofs.Common.{◌≡◌, ◌∙◌, ℕ, [], length, get_or, sym, subst, arith}
use Rattle.viz_run.specs.Decoded.{IsDecoded}
use Rattle.viz_run.specs.Read.{contents}
use Rattle.viz_run.proofs.Accepts.{decoded_from, contents_count}
use Rattle.viz_run.proofs.client_files.decode_each.Goals as goal

pub returns-clause-each : goal.returns-clause-each
returns-clause-each c =
    let at = c.loop-place in
    let all = contents c.args.inputs.now in
    let count = contents_count c.args.inputs.now in
    let long : length at.answers.items ≡ length c.args.inputs.now =
    omega (arith, at.invariant.0, c.loop-place-test.false, at.auto.place-end) in
    decoded_from 0 all at.answers.items (long ∙ sym count)
    (λ i e low. subst (λ (n : ℕ). IsDecoded n (get_or all i []) (get_or at.answers.items i e)) (omega arith)
    (at.invariant.1 i e (omega (arith, low, count, c.loop-place-test.false))))
