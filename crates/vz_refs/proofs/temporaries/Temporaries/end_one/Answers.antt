use Rattle.std.proofs.Common.{not, filter, refl, ap, ◌∙◌}
use Rattle.vz_rules.specs.Reach.{names}
use Rattle.vz_refs.specs.Lasting.{named_by, numbers_in}
use Rattle.vz_refs.proofs.Lasts.{kept_after, left_after}
use Rattle.vz_refs.proofs.temporaries.Temporaries.end_one.Goals as goal

pub invariant_of-self : goal.invariant_of-self
invariant_of-self c = (
  c.end_named.ensures.ends.stands,
  kept_after (named_by c.args.range.now) c.self.inside.seats c.end_named.new.self c.end_named.ensures.ends (numbers_in c.self.inside.numbers) c.self.inside.given c.self.inside.ever c.self.invariant.1,
)

pub returns-clause-list : goal.returns-clause-list
returns-clause-list c =
    left_after (named_by c.args.range.now) c.self.inside.seats c.end_named.new.self c.end_named.ensures.ends (λ t. names t.id c.args.range.now) (λ e. refl) c.end_named.ensures.rid
    (numbers_in c.self.inside.numbers) c.self.inside.given c.self.inside.ever c.self.invariant.1 ∙ ap (λ v. filter (λ t. not (names t.id c.args.range.now)) v.list) c.self.view_is
