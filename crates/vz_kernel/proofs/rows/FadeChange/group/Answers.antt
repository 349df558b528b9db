use Rattle.std.proofs.Common.{rules, ◌≤◌, refl}
use Rattle.vz_kernel.proofs.Stored.{good_lanes, stored}
use Rattle.vz_kernel.proofs.rows.FadeChange.group.Goals as goal

pub store-requires-clause-good : goal.store-requires-clause-good
store-requires-clause-good c =
    let low : c.args.self.now.alpha ≤ 255 = search rules in
    good_lanes c.faded.result _ (c.faded.ensures _ _ low c.requires.factors c.load-under.ensures)

pub returns : goal.returns
returns c =
    let low : c.args.self.now.alpha ≤ 255 = search rules in
    stored c.args.at c.args.row.now c.store.new.row c.faded.result _ _ c.store.ensures (c.faded.ensures _ _ low c.requires.factors c.load-under.ensures) refl
