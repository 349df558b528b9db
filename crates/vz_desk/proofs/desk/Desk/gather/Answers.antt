use Rattle.std.proofs.Common.{ap}
use Rattle.vz_desk.proofs.Gathering.{closed_by}
use Rattle.vz_desk.proofs.desk.Desk.gather.Goals as goal

pub returns-clause-clients : goal.returns-clause-clients
returns-clause-clients g c = let out = c.into_gathered.ensures in
    c.tokens_of.ensures.ends _ _ (closed_by c.tokens_of.result.items c.close.result.plan _ c.close.result.history _ (ap (λ m. m.plan) out.machine) out.history c.close.ensures.tokens)

pub returns-clause-display : goal.returns-clause-display
returns-clause-display g c = let out = c.into_gathered.ensures in
    c.tokens_of.ensures.display _ _ (closed_by c.tokens_of.result.items c.close.result.plan _ c.close.result.history _ (ap (λ m. m.plan) out.machine) out.history c.close.ensures.tokens)
