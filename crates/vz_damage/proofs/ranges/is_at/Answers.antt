use Rattle.std.proofs.Common.{◌≡◌, Some, sym, ◌∙◌, subst, arith}
use Rattle.vz_rules.specs.Scene.{id_of_frame}
use Rattle.vz_damage.proofs.Ranging.{entry_is, first_at, switched_some, same_key}
use Rattle.std.specs.Map.{lookup}
use Rattle.vz_damage.proofs.ranges.is_at.Goals as goal

pub returns-in-Some-clause-there : goal.returns-in-Some-clause-there
returns-in-Some-clause-there c e =
    entry_is c.args.shown.now.entries c.args.place _ c.args.range.now _ (id_of_frame c.args.now.now) c.in-Some.ensures.entry
    (c.is_entry.ensures.range e) (c.is_entry.ensures.shown e)

pub returns-in-Some-clause-first : goal.returns-in-Some-clause-first
returns-in-Some-clause-first c e =
    first_at c.args.place c.args.shown.now.entries (c.args.range.now, id_of_frame c.args.now.now) c.len.ensures.unique
    (entry_is c.args.shown.now.entries c.args.place _ c.args.range.now _ (id_of_frame c.args.now.now) c.in-Some.ensures.entry
    (c.is_entry.ensures.range e) (c.is_entry.ensures.shown e))

pub returns-in-Some-clause-same : goal.returns-in-Some-clause-same
returns-in-Some-clause-same c e a h =
    let found = subst (λ r. lookup (same_key r) c.args.shown.now.entries ≡ Some c.in-Some.before.now) (c.is_entry.ensures.range e)
    c.in-Some.ensures.value in
    sym (switched_some a c.args.shown.now.entries c.args.range.now c.in-Some.before.now c.args.now.now h (sym found)) ∙ c.is_entry.ensures.same e

pub returns-in-Some-clause-low : goal.returns-in-Some-clause-low
returns-in-Some-clause-low c e = let small = c.len.ensures.small in let low = c.if-len-place.false in omega (arith, small, low)
