use Rattle.std.proofs.Common.{arith, refl, sym, ◌∙◌}
use Rattle.vz_deps.specs.declared.lacks.Lacks.{Lacks}
use Rattle.vz_deps.proofs.Adding.{placed_of, forget_kept, taken_all, none_taken}
use Rattle.vz_deps.proofs.lacks.Lacks.forget.Goals as goal

pub take_all-requires : goal.take_all-requires
take_all-requires c = record { placed = placed_of c.args.self.now c.requires.kept }

pub returns-in-Some-clause-kept : goal.returns-in-Some-clause-kept
returns-in-Some-clause-kept c =
    let a = c.args.self.now in
    let b : Lacks = record { on = c.take_all.new.on; groups = c.take_all.new.groups; sinks = c.take_all.new.sinks; counts = c.swap_remove.new.self; freed = a.freed } in
    forget_kept a b c.args.order c.requires.kept c.take_all.ensures.placed
    (λ x. c.take_all.ensures.on x ∙ taken_all a c.args.order c.in-Some.count c.requires.kept (sym c.swap_remove.ensures.value ∙ c.in-Some.is) x)
    c.swap_remove.ensures.updates.0 c.requires.none refl (omega (arith, c.swap_remove.ensures.len)) refl

pub returns-in_default-clause-kept : goal.returns-in_default-clause-kept
returns-in_default-clause-kept c =
    let a = c.args.self.now in
    let b : Lacks = record { on = a.on; groups = a.groups; sinks = a.sinks; counts = c.swap_remove.new.self; freed = a.freed } in
    forget_kept a b c.args.order c.requires.kept (placed_of a c.requires.kept)
    (none_taken a c.args.order c.requires.kept (sym c.in_default.ensures.value))
    c.swap_remove.ensures.updates.0 c.requires.none refl (omega (arith, c.swap_remove.ensures.len)) refl
