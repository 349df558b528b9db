use Rattle.std.proofs.Common.{Some, ap, sym, ◌∙◌}
use Rattle.vz_manager.proofs.Following.{same_upload}
use Rattle.vz_manager.proofs.quiet.uploaded.Goals as goal

pub returns : goal.returns
returns c p w x id block is here next =
    same_upload _ id _ block (ap (λ z. Some z) (sym c.in-Upload.is) ∙ (c.in-Some.ensures.next p w x is here ∙ next))
