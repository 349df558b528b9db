use Rattle.std.proofs.Common.{◌-◌, List, ◌∷◌, sym, ap, ◌∙◌}
use Rattle.std.proofs.lemmas.List.{nil_from_length}
use Rattle.vz_frame.specs.declared.frame.CompositorFrame.{CompositorFrame}
use Rattle.vz_frame.specs.declared.frame.DrawQuad.{DrawQuad}
use Rattle.vz_plain.specs.Finding.{quads_here}
use Rattle.vz_plain.proofs.Searching.{root_searched, no_levels, no_passes}
use Rattle.vz_plain.proofs.searched.root_of.Goals as goal

pub returns-then-levels-eq0-clause-value : goal.returns-then-levels-eq0-clause-value
returns-then-levels-eq0-clause-value c active path = no_levels c.args.levels active path c.args.submitted.now c.args.entry c.if-levels-eq0.true

pub returns-in-None-clause-value : goal.returns-in-None-clause-value
returns-in-None-clause-value c active path =
    let own = c.as_slice.ensures ∙ ap (λ (f : CompositorFrame). f.passes) c.frame.ensures.value in
    no_passes c.args.levels active path c.args.submitted.now c.args.entry (sym own ∙ nil_from_length c.as_slice.result.now c.in-None.ensures.cases)

pub returns-in-Some-clause-value : goal.returns-in-Some-clause-value
returns-in-Some-clause-value c active path =
    let own = c.as_slice.ensures ∙ ap (λ (f : CompositorFrame). f.passes) c.frame.ensures.value in
    ap (λ (qs : List DrawQuad). quads_here (record { active = active; levels = c.args.levels - 1; path = c.args.submitted.now.id ∷ path; submitted = c.args.submitted.now; entry = c.args.entry }) c.in-Some.earlier.now c.in-Some.root.now qs c.args.entry) c.as_slice-in-Some.ensures
    ∙ root_searched c.args.levels active path c.args.submitted.now c.args.entry c.as_slice.result.now c.in-Some.earlier.now c.in-Some.root.now
    c.if-levels-eq0.false own c.in-Some.ensures.cases.0
