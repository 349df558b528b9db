use Rattle.std.proofs.Common.{is_some, length, slice_get, sym, ap, ◌∙◌, arith}
use Rattle.std.specs.Option.{option_map, option_copied}
use Rattle.vz_refs.specs.declared.sets.Edge.{Edge}
use Rattle.vz_refs.specs.Referring.{ranges_of}
use Rattle.vz_refs.specs.Indexing.{same_nth}
use Rattle.vz_refs.proofs.Keyed.{nths, at_key, copied_some}
use Rattle.vz_refs.proofs.Indexed.{edge_there}
use Rattle.vz_refs.proofs.sets.Sets.nth.Goals as goal

pub unwrap-requires : goal.unwrap-requires
unwrap-requires c =
    let many = ap (λ v. length (ranges_of v.list c.args.of)) c.self.view_is in
    copied_some c.get.result (λ x. x.now) ∙ ap is_some (sym (at_key _ same_nth nths c.self.inside.edges _ _ c.get.ensures.value))
    ∙ edge_there _ _ _ _ _ c.self.invariant c.args.of c.args.nth (omega (arith, c.requires, many))

pub returns : goal.returns
returns c =
    sym (ap (option_map (λ (e : Edge). e.range)) (sym (ap option_copied c.unwrap.ensures) ∙ sym (at_key _ same_nth nths c.self.inside.edges (record { of = c.args.of; nth = c.args.nth }) _ c.get.ensures.value))
    ∙ c.self.invariant.ranged (record { of = c.args.of; nth = c.args.nth }) ∙ ap (λ v. slice_get (ranges_of v.list c.args.of) c.args.nth) c.self.view_is)
