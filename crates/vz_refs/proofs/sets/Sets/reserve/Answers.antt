use Rattle.std.proofs.Common.{refl}
use Rattle.vz_ids.specs.Ids.{same_surface}
use Rattle.vz_refs.specs.Indexing.{same_nth, same_place, same_key}
use Rattle.vz_refs.proofs.Keyed.{unchanged}
use Rattle.vz_refs.proofs.Indexed.{kept}
use Rattle.vz_refs.proofs.sets.Sets.reserve.Goals as goal

pub invariant_of-self-in_err-reserve-2 : goal.invariant_of-self-in_err-reserve-2
invariant_of-self-in_err-reserve-2 c =
    kept _ _ _ _ _ _ _ _ _ c.self.invariant (unchanged same_surface c.self.inside.counts c.reserve.new.self c.reserve.ensures.entries)
    (unchanged same_nth c.self.inside.edges c.reserve-2.new.self c.reserve-2.ensures.entries) refl refl

pub invariant_of-self-in_err-reserve-3 : goal.invariant_of-self-in_err-reserve-3
invariant_of-self-in_err-reserve-3 c =
    kept _ _ _ _ _ _ _ _ _ c.self.invariant (unchanged same_surface c.self.inside.counts c.reserve.new.self c.reserve.ensures.entries)
    (unchanged same_nth c.self.inside.edges c.reserve-2.new.self c.reserve-2.ensures.entries) (unchanged same_place c.self.inside.ends c.reserve-3.new.self c.reserve-3.ensures.entries) refl

pub invariant_of-self-in_err-reserve-4 : goal.invariant_of-self-in_err-reserve-4
invariant_of-self-in_err-reserve-4 c =
    kept _ _ _ _ _ _ _ _ _ c.self.invariant (unchanged same_surface c.self.inside.counts c.reserve.new.self c.reserve.ensures.entries)
    (unchanged same_nth c.self.inside.edges c.reserve-2.new.self c.reserve-2.ensures.entries) (unchanged same_place c.self.inside.ends c.reserve-3.new.self c.reserve-3.ensures.entries)
    (unchanged same_key c.self.inside.sizes c.reserve-4.new.self c.reserve-4.ensures.entries)

pub invariant_of-self-2 : goal.invariant_of-self-2
invariant_of-self-2 c =
    kept _ _ _ _ _ _ _ _ _ c.self.invariant (unchanged same_surface c.self.inside.counts c.reserve.new.self c.reserve.ensures.entries)
    (unchanged same_nth c.self.inside.edges c.reserve-2.new.self c.reserve-2.ensures.entries) (unchanged same_place c.self.inside.ends c.reserve-3.new.self c.reserve-3.ensures.entries)
    (unchanged same_key c.self.inside.sizes c.reserve-4.new.self c.reserve-4.ensures.entries)
