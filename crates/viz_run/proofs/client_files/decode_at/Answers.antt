use Rattle.std.proofs.Common.{List, ℕ, ap, sym, subst, ◌∙◌}
use Rattle.viz_run.specs.Decoded.{IsDecoded}
use Rattle.viz_run.proofs.Accepts.{contents_at}
use Rattle.viz_run.proofs.client_files.decode_at.Goals as goal

pub returns : goal.returns
returns c =
    subst (λ (bytes : List ℕ). IsDecoded c.args.place bytes c.decode_one.result)
    (c.deref.ensures.value ∙ (ap (λ v. v.items) c.index-inputs-place.is ∙ sym (contents_at c.args.inputs.now c.args.place _ c.requires.inside)))
    c.decode_one.ensures
