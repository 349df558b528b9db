use Rattle.std.proofs.Common.{Some, ap, subst, sym, ◌∙◌}
use Rattle.vz_support.specs.{Sent.answered_by, Changed.ChangesOne, Supporting.IsSupport}
use Rattle.vz_support.proofs.Taking.{same_number, sent_is, takes_answer}
use Rattle.vz_support.proofs.support.Support.did_not_produce.Goals as goal

pub returns : goal.returns
returns c p w x n sends is =
    let kept = subst (IsSupport p w) (sym c.self.view_is) is in
    let same = same_number c.in-DidNotProduce.n n (ap (λ m. Some m) (sym c.in-DidNotProduce.is) ∙ (c.in-Some.ensures ∙ sent_is p w _ c.args.c x _ sends kept)) in
    takes_answer p w _ c.args.c x _ sends kept n c.skip.new.self c.note.new.clients c.skip.ensures.taken
    (subst (λ k. ChangesOne c.args.c (answered_by c.self.inside.tick k) c.skip.new.self c.note.new.clients) same c.note.ensures)
