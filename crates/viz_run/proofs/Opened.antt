-- A machine that was opened with a plan.
use Rattle.std.proofs.Common.{◌≡◌, sym, ap, subst, ◌∙◌}
use Rattle.vz_rules.specs.{Plan.Plan, World.Machine, World.opening}

module _ (m : Machine) (p : Plan) (is : m ≡ record { plan = p; world = opening p }) where
  -- its plan is that one
  pub its_plan : m.plan ≡ p
  its_plan = ap (λ (x : Machine). x.plan) is

  -- it stands at the opening of its plan
  pub its_world : m.world ≡ opening m.plan
  its_world = ap (λ (x : Machine). x.world) is ∙ sym (ap (λ (x : Machine). opening x.plan) is)

  -- what holds of the plan holds of its plan
  pub of_its_plan : (P : Plan → Type 0) → P p → P m.plan
  of_its_plan P holds = subst P (sym its_plan) holds
