use Rattle.std.proofs.Common.{map, length, ap, ◌∙◌}
use Rattle.std.specs.List.{list_any}
use Rattle.vz_ids.specs.Ids.{same_surface}
use Rattle.vz_refs.specs.Lasting.{numbers_in}
use Rattle.vz_refs.proofs.Counted.{same_length, same_ids}
use Rattle.vz_refs.proofs.temporaries.Temporaries.all.Goals as goal

pub returns-clause-ids : goal.returns-clause-ids
returns-clause-ids c x =
    same_ids c.self.inside.seats (numbers_in c.self.inside.numbers) c.self.inside.given c.self.inside.ever c.self.invariant.1 c.len.ensures.unique x
    ∙ ap (λ v. list_any (same_surface x) (map (λ t. t.id) v.list)) c.self.view_is

pub returns-clause-len : goal.returns-clause-len
returns-clause-len c =
    same_length c.self.inside.seats (numbers_in c.self.inside.numbers) c.self.inside.given c.self.inside.ever c.self.invariant.1 c.len.ensures.unique
    ∙ ap (λ v. length v.list) c.self.view_is
