use Rattle.std.proofs.Common.{◌≡◌, true, false, ap, sym, ◌∙◌}
use Rattle.std.specs.Prelude.{is_some}
use Rattle.vz_manager.proofs.opening.plan_of.Goals as goal

-- the files have different sinks
pub unreachable-requires : goal.unreachable-requires
unreachable-requires c = let no_way : true ≡ false = ap is_some (sym c.in-Err.ensures.back.1 ∙ c.requires.distinct) in absurd (cc)
