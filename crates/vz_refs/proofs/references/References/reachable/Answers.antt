use Rattle.std.proofs.Common.{map, subst, ap, ◌∙◌}
use Rattle.std.specs.List.{list_any}
use Rattle.vz_ids.specs.Ids.{same_surface}
use Rattle.vz_rules.specs.Closure.{IsLeastClosed}
use Rattle.vz_refs.specs.Referring.{next_in, starts}
use Rattle.vz_refs.specs.Lasting.{all_in}
use Rattle.vz_refs.proofs.Gathering.{other_starts}
use Rattle.vz_refs.proofs.references.References.reachable.Goals as goal

pub returns-clause-least : goal.returns-clause-least
returns-clause-least g c =
    subst (λ sets. IsLeastClosed same_surface (next_in (g.S.Shows.shows c.args.s.now) sets) (starts c.args.root c.args.self.now.temporary) c.reach.new.out.list) (ap (λ v. v.sets) c.self.view_is)
    (other_starts (next_in (g.S.Shows.shows c.args.s.now) c.self.inside.sets.list) c.args.root (all_in c.all-kept.result.now.entries) c.args.self.now.temporary c.reach.new.out.list
    (λ x. c.all-kept.ensures.ids x ∙ ap (λ v. list_any (same_surface x) (map (λ t. t.id) v.temporary)) c.self.view_is) c.reach.ensures.least)
