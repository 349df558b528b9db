use Rattle.std.proofs.Common.{rules, ◌≡◌, ◌≤◌, ◌∙◌, length, sym}
use Rattle.std.proofs.lemmas.Simd.{length-chunk}
use lib.Lanes.{chunk}
use Rattle.vz_kernel.proofs.Stored.{good_lanes, stored, left, clear_over_by, scaled_over}
use Rattle.vz_kernel.proofs.rows.OverByMix.group.Goals as goal

pub returns-then-is_clear : goal.returns-then-is_clear
returns-then-is_clear c =
    let ss = chunk c.args.at 16 c.args.src.now in
    let ds = chunk c.args.at 16 c.args.dst.now in
    let tops : length ss ≡ 16 = length-chunk c.args.at 16 c.args.src.now c.requires.src in
    let unders : length ds ≡ 16 = length-chunk c.args.at 16 c.args.dst.now c.requires.dst in
    left c.args.at 16 c.args.dst.now _ (clear_over_by c.args.self.now.opacity ss ds (tops ∙ sym unders) (c.is_clear.ensures ss c.load-top.ensures c.if-is_clear.true))

pub store-requires-clause-good : goal.store-requires-clause-good
store-requires-clause-good c =
    let low : c.args.self.now.opacity ≤ 255 = search rules in
    good_lanes c.over.result _ (c.over.ensures _ _ (c.faded.ensures _ _ low c.requires.factors c.load-top.ensures) c.load-under.ensures)

pub returns : goal.returns
returns c =
    let ss = chunk c.args.at 16 c.args.src.now in
    let ds = chunk c.args.at 16 c.args.dst.now in
    let o = c.args.self.now.opacity in
    let low : o ≤ 255 = search rules in
    stored c.args.at c.args.dst.now c.store.new.row c.over.result _ _ c.store.ensures (c.over.ensures _ ds (c.faded.ensures o ss low c.requires.factors c.load-top.ensures) c.load-under.ensures) (scaled_over o ss ds)
