use Rattle.std.proofs.Common.{Some, ap, sym, ◌∙◌}
use Rattle.vz_frame.specs.declared.message.Message.TheVariants.{Submit}
use Rattle.vz_manager.proofs.Judged.{same_sent}
use Rattle.vz_manager.proofs.judging.submission.Goals as goal

pub returns-clause-next : goal.returns-clause-next
returns-clause-next c = sym c.in-Some.ensures.kept ∙ (ap (λ z. Some z) c.in-Submit.is ∙ ap (λ f. Some (Submit f c.in-Submit.local)) (sym c.as_frame.ensures))

pub returns-clause-sent : goal.returns-clause-sent
returns-clause-sent c p w x local frame is here next =
    same_sent _ local _ frame (ap (λ f. Some (Submit f c.in-Submit.local)) c.as_frame.ensures ∙ (ap (λ z. Some z) (sym c.in-Submit.is) ∙ (c.in-Some.ensures.next p w x is here ∙ next)))
