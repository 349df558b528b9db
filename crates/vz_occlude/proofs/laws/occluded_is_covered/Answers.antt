use Rattle.vz_occlude.proofs.Occluded.{occluded_by, by_occluded, opaque_at, opaque_all, occluder_hides}
use Rattle.vz_occlude.specs.Occluders.{is_opaque}
use Rattle.vz_occlude.proofs.laws.occluded_is_covered.Goals as goal

pub returns-clause-occluded : goal.returns-clause-occluded
returns-clause-occluded c area later = (occluded_by area later, by_occluded area later)

pub returns-clause-texels : goal.returns-clause-texels
returns-clause-texels c area block tx ty is = (λ all p. opaque_at area block tx ty p all, opaque_all area block tx ty is)

pub returns-clause-occluder : goal.returns-clause-occluder
returns-clause-occluder c mode opacity x d e h = occluder_hides mode opacity (is_opaque x) x h (λ is. is) d e
