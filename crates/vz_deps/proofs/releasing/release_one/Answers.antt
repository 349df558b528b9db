use Rattle.std.proofs.Common.{sym, ◌∙◌}
use Rattle.vz_deps.proofs.Released.{numbered_less}
use Rattle.vz_deps.proofs.releasing.release_one.Goals as goal

pub returns-in-Some-clause-numbered : goal.returns-in-Some-clause-numbered
returns-in-Some-clause-numbered c =
    numbered_less _ _ _ _ c.args.order c.in-Some.sub c.requires.numbered (sym c.swap_remove.ensures.value ∙ c.in-Some.is) c.swap_remove.ensures.updates.0 c.swap_remove-in-Some.ensures.updates.0
