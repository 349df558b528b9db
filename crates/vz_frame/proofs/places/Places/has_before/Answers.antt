use Rattle.std.proofs.Common.{sym, ap, ◌∙◌}
use Rattle.vz_frame.specs.Places.{is_before}
use Rattle.vz_frame.proofs.Placing.{before}
use Rattle.vz_frame.proofs.places.Places.has_before.Goals as goal

pub returns-in-Some : goal.returns-in-Some
returns-in-Some g c = ap (is_before c.args.place) (sym c.in-Some.is ∙ c.first.ensures) ∙ before g.T.HasId.id_of c.args.id c.args.self.now c.args.place

pub returns-in-None : goal.returns-in-None
returns-in-None g c = ap (is_before c.args.place) (sym c.in-None.is ∙ c.first.ensures) ∙ before g.T.HasId.id_of c.args.id c.args.self.now c.args.place
