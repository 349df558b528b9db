-- The devices of a call: its shelf, its counter of steps, and its sink.
use Rattle.std.specs.Prelude.{◌≡◌, ◌≤◌, ◌⊎◌, ℕ, IsTrue}
use Rattle.vz_outside.specs.Faults.{one_more}
use Rattle.vz_outside.specs.Shelved.{Shelved, IsCall, StaysFaultless}
use Rattle.vz_outside.specs.Sunk.{Sunk}
use Rattle.vz_outside.specs.Sunk as sinks

-- what a command works on: the shelf, and the number of counted steps
pub record Site : Type 0 where
  pub shelf : Shelved
  pub steps : ℕ

-- a shelf and a count
abbrev pub site : Shelved → ℕ → Site
site shelf steps = record { shelf = shelf; steps = steps }

-- all devices at a moment: what a command works on, and the sink that it prints to
pub record Outside : Type 0 where
  pub site : Site
  pub sink : Sunk

-- all devices, from these three
abbrev pub outside : Shelved → Sunk → ℕ → Outside
outside shelf sink steps = record { site = record { shelf = shelf; steps = steps }; sink = sink }

-- no fault was counted
pub record CountsNoFault (before after : Outside) : Type 0 where
  pub shelf : after.site.shelf.faults ≡ before.site.shelf.faults
  pub sink : after.sink.faults ≡ before.sink.faults

-- the shelf counted one fault, and the sink none
pub record CountsShelfFault (before after : Outside) : Type 0 where
  pub shelf : after.site.shelf.faults ≡ one_more before.site.shelf.faults
  pub sink : after.sink.faults ≡ before.sink.faults

-- the sink counted one fault, and the shelf none
pub record CountsSinkFault (before after : Outside) : Type 0 where
  pub shelf : after.site.shelf.faults ≡ before.site.shelf.faults
  pub sink : after.sink.faults ≡ one_more before.sink.faults

-- exactly one fault was counted, by the shelf or by the sink
abbrev pub CountsOneFault : Outside → Outside → Type 0
CountsOneFault before after = CountsShelfFault before after ⊎ CountsSinkFault before after

-- neither the shelf nor the sink fails, except that a name may not exist
pub record IsFaultless (o : Outside) : Type 0 where
  pub shelf : IsTrue o.site.shelf.is_faultless
  pub sink : IsTrue o.sink.is_faultless

-- shelf and sink are still faultless, and counted no fault
pub record KeepsFaultless (before after : Outside) : Type 0 where
  pub shelf : StaysFaultless before.site.shelf after.site.shelf
  pub sink : sinks.StaysFaultless before.sink after.sink

-- what every call keeps of the shelf and the sink: open slots stay open, known bytes stay known,
-- and no count decreases
pub record IsCalled (before after : Outside) : Type 0 where
  pub shelf : IsCall before.site.shelf after.site.shelf
  pub known : after.sink.is_known ≡ before.sink.is_known
  pub faults : before.sink.faults ≤ after.sink.faults
