use Rattle.std.specs.Prelude.{◌≡◌, ◌↔◌, None, IfOk, false}
use Rattle.std.proofs.Common.{subst}
use Rattle.vz_geom.specs.Rectangle.{has, sized}
use Rattle.vz_rules.specs.World.{Machine}
use Rattle.vz_rules.specs.Whole.{drawable_in, hit_in}
use Rattle.vz_machine.specs.Stepping.{IsOnDisplay}
use Rattle.vz_manager.specs.Hitting.{found_in}
use Rattle.vz_manager.proofs.Managed.{serves_lent}
use Rattle.vz_manager.proofs.manager.Manager.regions.Goals as goal

pub regions-requires : goal.regions-requires
regions-requires c = record { stands = (_, _, serves_lent _ _ _ _ c.deref.ensures c.self.invariant) }

pub returns : goal.returns
returns c =
    let serves = serves_lent _ _ _ _ c.deref.ensures c.self.invariant in
    record {
      none = subst (λ (m : Machine). IfOk c.regions.result (λ r. (r ≡ None) ↔ (drawable_in m.plan m.world ≡ None))) c.self.view_is
          (c.regions.ensures.none _ _ serves);
      hit = subst (λ (m : Machine). (p : _) → IsOnDisplay m p → IfOk c.regions.result (λ r. found_in r p ≡ hit_in m.plan m.world p)) c.self.view_is
          (λ p. c.regions.ensures.hit _ _ p serves);
      outside = subst (λ (m : Machine). (p : _) → has (sized m.plan.size) p ≡ false → IfOk c.regions.result (λ r. found_in r p ≡ None))
          c.self.view_is (λ p. c.regions.ensures.outside _ _ p serves);
    }
