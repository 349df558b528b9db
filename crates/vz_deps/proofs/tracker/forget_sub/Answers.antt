use Rattle.std.proofs.Common.{None, sym, ◌∙◌}
use Rattle.vz_deps.proofs.Released.{numbered_less}
use Rattle.vz_deps.proofs.Tracked.{subs_without, subs_stay, other_number, other_unmet}
use Rattle.vz_deps.proofs.tracker.forget_sub.Goals as goal

pub returns-in-Some-clause-numbered : goal.returns-in-Some-clause-numbered
returns-in-Some-clause-numbered c =
    numbered_less _ _ _ _ c.in-Some.number c.args.s.now c.requires.numbered (c.requires.numbered.of_sub c.args.s.now c.in-Some.number (sym c.swap_remove.ensures.value ∙ c.in-Some.is)) c.swap_remove-in-Some.ensures.updates.0 c.swap_remove.ensures.updates.0

pub returns-in-Some-clause-subs : goal.returns-in-Some-clause-subs
returns-in-Some-clause-subs c =
    subs_without c.args.subs.now.entries _ c.args.numbers.now.entries c.in-Some.number c.args.s.now c.requires.numbered (sym c.swap_remove.ensures.value ∙ c.in-Some.is) c.swap_remove-in-Some.ensures.updates.0

pub returns-in-Some-clause-unmet : goal.returns-in-Some-clause-unmet
returns-in-Some-clause-unmet c o t h =
    other_unmet c.args.lacks.now c.forget.new.self c.in-Some.number (λ x. None) None c.forget.ensures.on c.forget.ensures.counts o (other_number c.in-Some.number o _ _ t (c.swap_remove-in-Some.ensures.updates.0 o) h)

pub returns-in_default-clause-subs : goal.returns-in_default-clause-subs
returns-in_default-clause-subs c = subs_stay c.args.subs.now.entries c.args.numbers.now.entries c.args.s.now c.requires.numbered (sym c.in_default.ensures.value)
