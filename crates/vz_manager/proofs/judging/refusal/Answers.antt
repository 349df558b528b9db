use Rattle.std.proofs.Common.{None, ap, sym, ◌∙◌}
use Rattle.vz_manager.specs.Judging.{shape_refusal}
use Rattle.vz_manager.proofs.Judged.{broken_refused, unknown_refused, shape_refused, rising_here}
use Rattle.vz_manager.proofs.judging.refusal.Goals as goal

pub last-requires : goal.last-requires
last-requires c = record { number = (c.requires.some, c.requires.few) }

pub returns-in-Err : goal.returns-in-Err
returns-in-Err c p w x asks here =
    broken_refused w c.args.c x c.args.local.now c.args.frame.now here c.in-Err.rule c.in-Err.ensures.broken

pub returns-then-is_unknown : goal.returns-then-is_unknown
returns-then-is_unknown c p w x asks here =
    let told = c.is_unknown.ensures p w x c.args.frame.now (rising_here w c.args.c x asks.always here) asks.support here
    (sym c.as_slice.ensures) in
    unknown_refused w c.args.c x c.args.local.now c.args.frame.now here c.in_default.ensures.kept (sym told ∙ c.if-is_unknown.true)

pub returns : goal.returns
returns c p w x asks here =
    let told = c.is_unknown.ensures p w x c.args.frame.now (rising_here w c.args.c x asks.always here) asks.support here
    (sym c.as_slice.ensures) in
    shape_refused w c.args.c x c.args.local.now c.args.frame.now here _ _ c.in_default.ensures.kept (sym told ∙ c.if-is_unknown.false)
    (c.last.ensures.last w None asks.live)
    (c.shape_refusal.ensures ∙ ap (λ s. shape_refusal c.last.result c.args.local.now s) c.size.ensures)
