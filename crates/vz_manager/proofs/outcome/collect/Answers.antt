use Rattle.vz_manager.proofs.Follows.{stays_uncollected, none_told}
use Rattle.vz_manager.proofs.outcome.collect.Goals as goal

pub collect-requires-clause-collects : goal.collect-requires-clause-collects
collect-requires-clause-collects c = let x = c.requires.collects in (x.0, x.1.collects)

pub returns-then-not-asked-clause-cleared : goal.returns-then-not-asked-clause-cleared
returns-then-not-asked-clause-cleared c w h = stays_uncollected w c.args.root c.args.asked c.args.settling.now h c.if-not-asked.true

pub returns-then-not-asked-clause-destroyed : goal.returns-then-not-asked-clause-destroyed
returns-then-not-asked-clause-destroyed c w h = none_told w c.args.root c.args.asked c.args.settling.now h c.if-not-asked.true c.args.destroyed.now.list

pub returns-clause-cleared : goal.returns-clause-cleared
returns-clause-cleared c w h = c.collect.ensures.cleared w h.collects

pub returns-clause-destroyed : goal.returns-clause-destroyed
returns-clause-destroyed c w h = c.collect.ensures.destroyed w h.collects
