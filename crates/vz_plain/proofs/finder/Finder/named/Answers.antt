use Rattle.std.proofs.Common.{[], ◌∷◌, length, ap, ◌∙◌, arith}
use Rattle.std.proofs.lemmas.Bool.{eq-eqb, ne_eqb}
use Rattle.std.proofs.lemmas.List.{nil_from_length, length-append}
use Rattle.vz_plain.specs.Finding.{group_here}
use Rattle.vz_plain.proofs.Searching.{named_last, named_earlier, named_nowhere}
use Rattle.vz_plain.proofs.finder.Finder.named.Goals as goal

pub returns-then-pass-id-clause-value : goal.returns-then-pass-id-clause-value
returns-then-pass-id-clause-value c =
    let last = c.in-Some.ensures.cases.0 in
    let named = eq-eqb c.in-Some.pass.now.id c.args.id c.if-pass-id.true in
    c.group.ensures.value
    ∙ (ap (group_here c.args.self.now c.in-Some.earlier.now c.in-Some.pass.now) c.in_rectangle.ensures
    ∙ (named_last c.args.self.now c.passes.left.now c.in-Some.earlier.now c.in-Some.pass.now c.args.id c.args.local last named ∙ c.passes.invariant.1))

pub passes-preserved : goal.passes-preserved
passes-preserved c =
    let last = c.in-Some.ensures.cases.0 in
    let other = ne_eqb c.in-Some.pass.now.id c.args.id c.if-pass-id.false in
    let long = ap length last ∙ length-append c.in-Some.earlier.now (c.in-Some.pass.now ∷ []) in
    let few = c.passes.invariant.0 in (
      omega (arith, long, few),
      named_earlier c.args.self.now c.passes.left.now c.in-Some.earlier.now c.in-Some.pass.now c.args.id c.args.local last other ∙ c.passes.invariant.1,
    )

pub returns-clause-value : goal.returns-clause-value
returns-clause-value c =
    let none = nil_from_length c.passes.left.now c.in_default.ensures.cases in
    named_nowhere c.args.self.now c.passes.left.now c.args.id c.args.local none ∙ c.passes.invariant.1
