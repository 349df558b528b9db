use Rattle.std.proofs.Common.{◌==◌, ap, ◌∙◌}
use Rattle.vz_frame.specs.Frame.{has_repeat}
use Rattle.vz_frame.proofs.Placing.{repeat_map}
use Rattle.vz_frame.proofs.places.Places.has_repeat.Goals as goal

pub returns : goal.returns
returns g c =
    let id_of = g.T.HasId.id_of in
    c.self.invariant.0 ∙ repeat_map id_of c.self.inside.items.now ∙ ap (has_repeat (λ a b. id_of b == id_of a)) c.self.view_is
