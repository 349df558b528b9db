use Rattle.std.proofs.Common.{length, ap, sym, ◌∙◌}
use Rattle.indexmap.specs.IndexMap.{get}
use Rattle.vz_ids.specs.declared.SurfaceId.{SurfaceId}
use Rattle.vz_refs.specs.Referring.{ranges_of}
use Rattle.vz_refs.proofs.Keyed.{surfaces}
use Rattle.vz_refs.proofs.Indexed.{count_some, count_none}
use Rattle.vz_refs.proofs.sets.Sets.count.Goals as goal

pub returns-in-Some : goal.returns-in-Some
returns-in-Some c =
    count_some _ _ _ _ _ c.self.invariant c.args.id.now c.in-Some.count.now
    (sym (c.in-Some.ensures.value ∙ ap (λ (eq : SurfaceId → SurfaceId → _). get eq c.self.inside.counts c.args.id.now) surfaces ∙ c.self.invariant.counted c.args.id.now))
    ∙ ap (λ v. length (ranges_of v.list c.args.id.now)) c.self.view_is

pub returns-in-None : goal.returns-in-None
returns-in-None c =
    count_none _ _ _ _ _ c.self.invariant c.args.id.now
    (sym (c.in-None.ensures.value ∙ ap (λ (eq : SurfaceId → SurfaceId → _). get eq c.self.inside.counts c.args.id.now) surfaces ∙ c.self.invariant.counted c.args.id.now))
    ∙ ap (λ v. length (ranges_of v.list c.args.id.now)) c.self.view_is
