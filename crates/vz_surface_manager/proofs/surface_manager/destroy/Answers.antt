use Rattle.std.proofs.Common.{◌∷◌, [], ◌++◌, ap, sym, ◌∙◌}
use Rattle.vz_rules.proofs.Kept_singly.{always_going}
use Rattle.vz_returns.specs.Owed.{waiting_on as told_on}
use Rattle.vz_surface_manager.specs.Waits.{waiting_on}
use Rattle.vz_surface_manager.proofs.surface_manager.destroy.Goals as goal

pub returns-clause-stands : goal.returns-clause-stands
unfolding waiting_on
returns-clause-stands c w d h goes marked =
    record {
      always = always_going w d h.always marked;
      live = c.go-gone.ensures.live w d goes;
      waiting = c.dropped.ensures.waits w d h.always h.waiting (c.go-gone.ensures.waiting w d goes ∙ ap (told_on w) (sym goes.name));
    }

pub returns-clause-destroyed : goal.returns-clause-destroyed
returns-clause-destroyed c w d goes = c.put.ensures.list ∙ ap (λ l. c.args.destroyed.now.list ++ l ∷ []) (c.go-gone.ensures.lost w d goes)
