use Rattle.std.proofs.Common.{◌≡◌, length, refl, sym, subst}
use Rattle.std.specs.Prelude.{replicate}
use Rattle.std.proofs.lemmas.Simd.{length-chunk}
use lib.Lanes.{chunk}
use Rattle.vz_kernel.specs.Lanes.{AreLanes}
use Rattle.vz_kernel.proofs.Stored.{good_lanes, stored}
use Rattle.vz_kernel.proofs.rows.TintChange.group.Goals as goal

pub store-requires-clause-good : goal.store-requires-clause-good
store-requires-clause-good c =
    let colour = c.args.self.now.colour in
    let ds = chunk c.args.at 16 c.args.row.now in
    let unders : length ds ≡ 16 = length-chunk c.args.at 16 c.args.row.now c.requires.inside in
    let tops = subst (λ n. AreLanes c.load-top.result (replicate n colour)) (sym unders) c.load-top.ensures in
    good_lanes c.tinted.result _ (c.tinted.ensures colour ds tops c.requires.factors c.load-under.ensures)

pub returns : goal.returns
returns c =
    let colour = c.args.self.now.colour in
    let ds = chunk c.args.at 16 c.args.row.now in
    let unders : length ds ≡ 16 = length-chunk c.args.at 16 c.args.row.now c.requires.inside in
    let tops = subst (λ n. AreLanes c.load-top.result (replicate n colour)) (sym unders) c.load-top.ensures in
    stored c.args.at c.args.row.now c.store.new.row c.tinted.result _ _ c.store.ensures (c.tinted.ensures colour ds tops c.requires.factors c.load-under.ensures) refl
