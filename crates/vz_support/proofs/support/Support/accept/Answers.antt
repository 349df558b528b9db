use Rattle.std.proofs.Common.{subst, sym}
use Rattle.vz_support.specs.{Sent.answered_by, Changed.ChangesOne, Supporting.HasTaken}
use Rattle.vz_support.proofs.Submitting.{accepts}
use Rattle.vz_support.proofs.support.Support.accept.Goals as goal

pub returns : goal.returns
returns c p w x local frame before sends is taken same =
    accepts p w c.args.c x local frame before _ sends is (subst (HasTaken c.args.c before) (sym c.self.view_is) taken) c.note.new.clients
    (subst (λ n. ChangesOne c.args.c (answered_by c.self.inside.tick n) c.self.inside.clients c.note.new.clients) same c.note.ensures)
