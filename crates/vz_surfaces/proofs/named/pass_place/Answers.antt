use Rattle.std.proofs.Common.{◌≡◌, ◌-◌, ◌==◌, false, get_or, eq-eqb, ap, sym, ◌∙◌, arith}
use Rattle.std.proofs.lemmas.Bool.Decides.{nat_tests}
use Rattle.vz_frame.specs.declared.frame.RenderPass.{RenderPass}
use Rattle.vz_surfaces.proofs.Leading.{place_here, place_over, place_none}
use Rattle.vz_surfaces.proofs.named.pass_place.Goals as goal

pub returns-then-passes-k : goal.returns-then-passes-k
returns-then-passes-k c =
    let k = c.loop-k.k in
    sym (c.loop-k.invariant.1
    ∙ place_here c.args.id c.args.passes.now k (k - 1) c.index-passes-k.result (omega arith) (omega arith) (eq-eqb _ _ c.if-passes-k.true))

pub loop-k-preserved : goal.loop-k-preserved
loop-k-preserved c =
    let k = c.loop-k.k in
    let d = c.index-passes-k.result in
    let same : d.id ≡ (get_or c.args.passes.now (k - 1) d).id = ap (λ (p : RenderPass). p.id) c.index-passes-k.is in
    let other : ((get_or c.args.passes.now (k - 1) d).id == c.args.id) ≡ false = let h = c.if-passes-k.false in grind (arith, nat_tests) in
    (omega arith, c.loop-k.invariant.1 ∙ place_over c.args.id c.args.passes.now k (k - 1) d (omega arith) (omega arith) other)

pub returns : goal.returns
returns c = place_none c.args.id c.args.passes.now c.loop-k.k (omega arith) ∙ sym c.loop-k.invariant.1
