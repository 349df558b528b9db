use Rattle.std.proofs.Common.{◌≡◌, length, ap, sym, ◌∙◌, arith}
use Rattle.std.proofs.lemmas.Option.{slice_get_within}
use Rattle.vz_frame.specs.declared.frame.RenderPass.{RenderPass as Pass}
use Rattle.vz_frame.specs.declared.frame.DrawQuad.{DrawQuad as Quad}
use Rattle.vz_surfaces.specs.Names.{place_named}
use Rattle.vz_surfaces.proofs.Leading.{item_is}
use Rattle.vz_surfaces.proofs.named.search.Goals as goal

pub returns-then-pass-passes : goal.returns-then-pass-passes
returns-then-pass-passes c = λ p q at here.
    let low = slice_get_within c.args.frame.now.passes c.args.pass p at in
    absurd (omega (arith, low, c.if-pass-passes.true, ap length c.as_slice-passes.ensures))

pub returns-then-quad-quads : goal.returns-then-quad-quads
returns-then-quad-quads c = λ p q at here.
    let got = item_is c.args.frame.now.passes c.as_slice-passes.result.now c.args.pass p c.index-passes-pass.result c.as_slice-passes.ensures
    c.if-pass-passes.false c.index-passes-pass.is at in
    let quads : c.as_slice-quads.result.now ≡ p.quads = c.as_slice-quads.ensures ∙ ap (λ (x : Pass). x.quads) (sym c.index-passes-pass.is ∙ got) in
    let low = slice_get_within p.quads c.args.quad q here in
    absurd (omega (arith, low, c.if-quad-quads.true, ap length quads))

pub returns : goal.returns
returns c = λ p q at here.
    let got = item_is c.args.frame.now.passes c.as_slice-passes.result.now c.args.pass p c.index-passes-pass.result c.as_slice-passes.ensures
    c.if-pass-passes.false c.index-passes-pass.is at in
    let quads : c.as_slice-quads.result.now ≡ p.quads = c.as_slice-quads.ensures ∙ ap (λ (x : Pass). x.quads) (sym c.index-passes-pass.is ∙ got) in
    c.place_named.ensures
    ∙ ap (λ (x : Quad). place_named c.args.frame.now c.args.pass x)
    (item_is p.quads c.as_slice-quads.result.now c.args.quad q c.index-quads-quad.result quads c.if-quad-quads.false c.index-quads-quad.is here)
