use Rattle.std.proofs.Common.{length, ap, ◌∙◌}
use Rattle.vz_refs.specs.Lasting.{numbers_in}
use Rattle.vz_refs.proofs.Counted.{same_length}
use Rattle.vz_refs.proofs.temporaries.Temporaries.len.Goals as goal

pub returns : goal.returns
returns c =
    c.len.ensures.len ∙ same_length c.self.inside.seats (numbers_in c.self.inside.numbers) c.self.inside.given c.self.inside.ever c.self.invariant.1 c.len.ensures.unique
    ∙ ap (λ v. length v.list) c.self.view_is
