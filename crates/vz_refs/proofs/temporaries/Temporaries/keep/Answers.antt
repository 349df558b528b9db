use Rattle.std.proofs.Common.{◌++◌, [], ◌∷◌, ap, ◌∙◌}
use Rattle.vz_refs.specs.Lasting.{surface_in, numbers_in}
use Rattle.vz_refs.proofs.Keyed.{of_ok}
use Rattle.vz_refs.proofs.Lasts.{more_kept_in, more_list_in}
use Rattle.vz_refs.proofs.temporaries.Temporaries.keep.Goals as goal

pub invariant_of-self : goal.invariant_of-self
invariant_of-self c = (
  c.put.ensures.stands,
  more_kept_in (surface_in c.self.inside.seats) (numbers_in c.self.inside.numbers) c.self.inside.given c.self.inside.ever c.self.invariant.1 c.args.id c.args.until c.numbers_until-first.result c.numbers_until-first.ensures
      _ c.put.ensures.surface _ (of_ok _ _ c.unwrap.result c.unwrap.ensures c.insert.ensures.updates).0 _ c.show.ensures,
)

pub returns-clause-list : goal.returns-clause-list
returns-clause-list c =
    more_list_in (surface_in c.self.inside.seats) (numbers_in c.self.inside.numbers) c.self.inside.given c.self.inside.ever c.self.invariant.1 c.args.id c.args.until c.numbers_until-first.result c.numbers_until-first.ensures
    _ c.put.ensures.surface _ (of_ok _ _ c.unwrap.result c.unwrap.ensures c.insert.ensures.updates).0 _ c.show.ensures
    ∙ ap (λ v. v.list ++ record { id = c.args.id; until = c.args.until } ∷ []) c.self.view_is
