use Rattle.std.proofs.Common.{rules, ◌≡◌, ◌∙◌, ℕ, ◌<◌, [], length, get_or, sym, subst, arith}
use Rattle.viz_run.specs.Decoded.{IsDecoded}
use Rattle.viz_run.specs.Read.{contents}
use Rattle.viz_run.proofs.Accepts.{decoded_from, contents_count}
use Rattle.viz_run.proofs.client_files.decode_all.Goals as goal

pub returns-clause-each : goal.returns-clause-each
returns-clause-each g c =
    let long : length c.in_ok-answers.answers.items ≡ length c.args.inputs.now = search rules in
    let count = contents_count c.args.inputs.now in
    decoded_from 0 (contents c.args.inputs.now) c.in_ok-answers.answers.items (long ∙ sym count)
    (λ i e low. subst (λ (n : ℕ). IsDecoded n (get_or (contents c.args.inputs.now) i []) (get_or c.in_ok-answers.answers.items i e)) (omega arith)
    (c.in_ok-answers.ensures.each i e (subst (λ n. i < n) count low)).1.met)
