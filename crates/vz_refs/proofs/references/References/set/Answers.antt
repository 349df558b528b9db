use Rattle.std.proofs.Common.{[], ◌++◌, map, sym, ap, ◌∙◌}
use Rattle.vz_refs.specs.Referring.{is_set, set_one, setting, unnamed}
use Rattle.vz_refs.specs.Indexing.{changing}
use Rattle.vz_refs.proofs.Changing.{set_anew, opened_set}
use Rattle.vz_refs.proofs.Unnaming.{unnamed_none}
use Rattle.vz_refs.proofs.references.References.set.Goals as goal

pub returns-then-is_bare-clause-sets : goal.returns-then-is_bare-clause-sets
returns-then-is_bare-clause-sets c =
    sym (ap (λ v. v.sets) c.self.view_is) ∙ sym (c.is_bare.ensures.same c.if-is_bare.true) ∙ ap (λ v. setting c.args.id c.args.ranges.now v.sets) c.self.view_is

pub returns-then-is_bare-clause-temporary : goal.returns-then-is_bare-clause-temporary
returns-then-is_bare-clause-temporary c =
    unnamed_none c.args.self.now.temporary ∙ ap (λ l. unnamed l c.args.self.now.temporary) (sym (c.is_bare.ensures.none c.if-is_bare.true))

pub extend-requires-clause-set : goal.extend-requires-clause-set
extend-requires-clause-set c =
    ap (λ l. is_set l c.args.id) (c.clear.ensures.list ∙ ap (map (set_one c.args.id [])) c.open.ensures.list) ∙ opened_set c.args.id c.reserve.new.self.list

pub returns-clause-sets : goal.returns-clause-sets
returns-clause-sets c =
    c.extend.ensures.list ∙ ap (changing (λ old. old ++ c.args.ranges.now) c.args.id) (c.clear.ensures.list ∙ ap (map (set_one c.args.id [])) c.open.ensures.list)
    ∙ set_anew c.args.id c.args.ranges.now c.reserve.new.self.list ∙ ap (setting c.args.id c.args.ranges.now) (c.in_ok-reserve.ensures.list ∙ ap (λ v. v.sets) c.self.view_is)

pub returns-clause-temporary : goal.returns-clause-temporary
returns-clause-temporary c = c.end_named.ensures.list ∙ ap (λ v. unnamed c.args.ranges.now v.temporary) c.self.view_is
