use Rattle.std.proofs.Common.{◌∙◌, sym, arith}
use Rattle.std.proofs.lemmas.Int.{ints}
use Rattle.vz_geom.proofs.Algebra.{same_sides}
use Rattle.vz_geom.proofs.Sets.{full_sides}
use Rattle.vz_geom.proofs.Edged.{has_points}
use Rattle.vz_geom.proofs.rect.with_edges.Goals as goal

pub returns-clause-value : goal.returns-clause-value
returns-clause-value c =
    sym (full_sides _ _ _ _ (omega (arith, ints)) (omega (arith, ints)))
    ∙ same_sides (omega (arith, ints)) (omega (arith, ints)) (omega (arith, ints)) (omega (arith, ints))

pub returns-clause-proper : goal.returns-clause-proper
returns-clause-proper c =
    has_points _ _ _ _ (omega (arith, ints)) (omega (arith, ints)) (omega (arith, ints)) (omega (arith, ints)) (omega (arith, ints)) (omega (arith, ints))

pub invariant_of-result-2 : goal.invariant_of-result-2
invariant_of-result-2 c =
    has_points _ _ _ _ (omega (arith, ints)) (omega (arith, ints)) (omega (arith, ints)) (omega (arith, ints)) (omega (arith, ints)) (omega (arith, ints))
