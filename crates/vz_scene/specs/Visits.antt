-- The visits of a walk, as the machine stores them.
use Rattle.std.specs.Option.{option_copied}
use Rattle.vz_rules.specs.Walk.{Visit, Quad, Shows, Enters}
use Rattle.vz_scene.specs.declared.visit.Kind.{Kind}
use Rattle.vz_scene.specs.declared.visit.Kind.TheVariants as kind

-- the visit that is stored
abbrev pub visit_of : Kind → Visit
visit_of kind.Quad = Quad
visit_of (kind.Shows range shown seen) = Shows range (option_copied shown) seen
visit_of (kind.Enters depth submitted place) = Enters depth submitted.now place
