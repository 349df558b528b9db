use Rattle.std.proofs.Common.{sym, ap, ◌∙◌}
use Rattle.vz_rules.specs.World.{Machine, active_frames}
use Rattle.vz_slow.specs.Reaching.{world_at}
use Rattle.vz_slow.proofs.Reaching.{opening_frames}
use Rattle.vz_slow.proofs.slow.Slow.frames_of_world.Goals as goal

pub returns-in-Opening : goal.returns-in-Opening
returns-in-Opening c =
    let p = c.self.inside.plan.now in
    c.new.ensures.items ∙ sym (ap (λ (m : Machine). active_frames m.world.subs) (sym c.self.view_is) ∙ (ap (λ s. active_frames (world_at p s).subs) c.in-Opening.is ∙ opening_frames p c.in-Opening.over))
