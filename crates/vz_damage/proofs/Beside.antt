-- A walk that is weighed and measured, with another visitor beside.
use Rattle.std.proofs.Common.{◌≡◌, Bool, true, false, List, [], refl, ap, arith}
use Rattle.vz_geom.specs.Rectangle.{no_rectangle}
use Rattle.vz_rules.specs.Walk.{Visit, too_much}
use Rattle.vz_walk.specs.Meeting.{Meets}
use Rattle.vz_walk.specs.declared.both.Both.{Both}
use Rattle.vz_walk.specs.declared.weigher.Weigher.{Weigher}
use Rattle.vz_walk.specs.Weighing.{IsWeighed, IsHeavy}
use Rattle.vz_walk.proofs.Pairing.{is_light, other_met, is_heavy_first}
use Rattle.vz_damage.specs.Measured.{IsMeasured}
use Rattle.vz_damage.specs.declared.measurer.Measurer.{Measurer}
use Rattle.vz_damage.proofs.Claiming.{met_nothing}
use Rattle.std.proofs.lemmas.Bool.Decides.{nat_tests}

abbrev Measures : Measurer → Measurer → List Visit → Type 0
Measures start m visits = IsMeasured start.told.now.entries start.last.now m.damage m.ranges visits × (m.told ≡ start.told) ×
    (m.last ≡ start.last)

abbrev Never : Measurer → List Visit → Type 0
Never m visits = Unit {0}

module _ {V : Type 0} (met : V → V → List Visit → Type 0) (stopped : V → List Visit → Type 0) where
  abbrev MeetsBoth : Both Measurer V → Both Measurer V → List Visit → Type 0
  MeetsBoth start b visits = Measures start.first b.first visits × met start.second b.second visits × (b.first_stopped ≡ false)

  abbrev StopsOne : Both Measurer V → List Visit → Type 0
  StopsOne b visits = (b.first_stopped ≡ true → Never b.first visits) × (b.first_stopped ≡ false → stopped b.second visits)

  abbrev Walker : Type 0
  Walker = Both Weigher (Both Measurer V)

  abbrev MeetsAll : Walker → Walker → List Visit → Type 0
  MeetsAll start b visits = IsWeighed b.first.quads visits × MeetsBoth start.second b.second visits × (b.first_stopped ≡ false)

  abbrev EndsAt : Walker → List Visit → Type 0
  EndsAt b visits = (b.first_stopped ≡ true → IsHeavy visits) × (b.first_stopped ≡ false → StopsOne b.second visits)

  module _ (r : Bool) (w : Weigher) (m : Measurer) (v : V) (inner : Both Measurer V) (old new : Walker) (all : List Visit)
      (inner_is : inner ≡ record { first = m; second = v; first_stopped = false })
      (old_is : old ≡ record { first = w; second = inner; first_stopped = false })
      (none : w ≡ record { quads = 0 }) (damage : m.damage ≡ no_rectangle) (ranges : m.ranges ≡ []) (starts : met v v [])
      (h : Meets MeetsAll EndsAt r old new all) where
    abbrev begun : Walker
    begun = record { first = w; second = record { first = m; second = v; first_stopped = false }; first_stopped = false }

    from_start : Meets MeetsAll EndsAt r begun new all
    from_start = grind (arith, nat_tests)

    quads : w.quads ≡ 0
    quads = ap (λ (x : Weigher). x.quads) none

    measures : Measures m m []
    measures = grind (arith, nat_tests, met_nothing m.told.now.entries m.last.now)

    meets : MeetsBoth begun.second begun.second []
    meets = (measures, starts, refl)

    -- the weigher stopped: that is too much
    pub too_heavy : r ≡ false → new.first_stopped ≡ true → too_much all ≡ true
    too_heavy e by =
        is_heavy_first (λ (b : Walker). b.first.quads) MeetsBoth StopsOne (λ (b : Walker). b.second) (λ (b : Walker). b.first_stopped) r
        begun new all e quads refl meets by from_start

    -- the walk went to its end: that is not too much, and each of them met all
    pub light : r ≡ true → too_much all ≡ false
    light e =
        is_light (λ (b : Walker). b.first.quads) MeetsBoth StopsOne (λ (b : Walker). b.second) (λ (b : Walker). b.first_stopped) r
        begun new all e quads refl meets from_start

    whole : r ≡ true → MeetsBoth begun.second new.second all
    whole e =
        other_met (λ (b : Walker). b.first.quads) MeetsBoth StopsOne (λ (b : Walker). b.second) (λ (b : Walker). b.first_stopped) r
        begun new all e quads refl meets from_start

    pub measured : r ≡ true → IsMeasured m.told.now.entries m.last.now new.second.first.damage new.second.first.ranges all
    measured e = (whole e).0.0

    pub beside_met : r ≡ true → met v new.second.second all
    beside_met e = (whole e).1
