use Rattle.std.proofs.Common.{refl, ap, ◌∙◌}
use Rattle.vz_ids.specs.Ids.{same_sink}
use Rattle.vz_refs.specs.Referring.{of_others}
use Rattle.vz_refs.specs.Lasting.{of_sink, numbers_in}
use Rattle.vz_refs.proofs.Lasts.{kept_after, left_after}
use Rattle.vz_refs.proofs.temporaries.Temporaries.sink_gone.Goals as goal

pub invariant_of-self : goal.invariant_of-self
invariant_of-self c = (
  c.end_of.ensures.ends.stands,
  kept_after (of_sink c.args.sink) c.self.inside.seats c.end_of.new.self c.end_of.ensures.ends (numbers_in c.self.inside.numbers) c.self.inside.given c.self.inside.ever c.self.invariant.1,
)

pub returns-clause-list : goal.returns-clause-list
unfolding of_others
returns-clause-list c =
    left_after (of_sink c.args.sink) c.self.inside.seats c.end_of.new.self c.end_of.ensures.ends (λ t. same_sink t.id.sink c.args.sink) (λ e. refl) c.end_of.ensures.rid
    (numbers_in c.self.inside.numbers) c.self.inside.given c.self.inside.ever c.self.invariant.1 ∙ ap (λ v. of_others c.args.sink v.list) c.self.view_is
