use Rattle.std.proofs.Common.{sym, ap, subst, ◌∙◌}
use Rattle.std.specs.Option.{option_copied}
use Rattle.vz_placement.specs.Limits.{IsInReach}
use Rattle.vz_placement.proofs.Fitting.{root_output_fits}
use Rattle.vz_placement.proofs.Sides.{nothing_in_reach}
use Rattle.vz_placement.proofs.frame.frame_rect.Goals as goal

pub at_origin-requires : goal.at_origin-requires
at_origin-requires c = root_output_fits c.args.frame.now c.in-Some.pass.now c.requires (sym c.root_pass.ensures
    ∙ ap option_copied c.in-Some.is)

pub returns-in-None-clause-reach : goal.returns-in-None-clause-reach
returns-in-None-clause-reach c = subst IsInReach (sym c.empty.ensures) nothing_in_reach
