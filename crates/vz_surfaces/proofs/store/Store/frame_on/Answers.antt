use Rattle.std.proofs.Common.{ap, ◌∙◌, Some}
use Rattle.vz_surfaces.proofs.Seeing.{none_seen, frame_seen}
use Rattle.vz_surfaces.proofs.store.Store.frame_on.Goals as goal

pub returns-in-None : goal.returns-in-None
returns-in-None c = none_seen c.args.self.now c.args.id.now c.in-None.ensures

pub returns-in-Some : goal.returns-in-Some
returns-in-Some c = ap (λ z. Some z) c.new.ensures ∙ frame_seen c.args.self.now c.args.id.now c.in-Some.held.now c.in-Some.ensures
