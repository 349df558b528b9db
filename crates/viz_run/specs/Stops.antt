-- Why a call stops, and what it does to the shelf.
use Rattle.std.specs.Prelude.{◌≡◌, ℕ, IsTrue, List, [], Result, IsErrOf}
use Rattle.vz_outside.specs.Faults.{one_more}
use Rattle.vz_outside.specs.Shelved.{Shelved, IsCall, StaysFaultless}
use Rattle.vz_outside.specs.declared.shelf.ShelfError.{ShelfError}
use Rattle.vz_outside.specs.declared.shelf.ShelfError.TheVariants as shelf_error
use Rattle.viz_run.specs.declared.refused.InputError.{InputError}
use Rattle.viz_run.specs.declared.refused.InputError.TheVariants as input_error
use Rattle.viz_run.specs.Lines.{words_line, refused_line}
use Rattle.viz_run.specs.declared.stop.Stop.{Stop}
use Rattle.viz_run.specs.declared.stop.Stop.TheVariants as stop

-- why a call stops if a shelf or a sink reports this error
abbrev pub stop_of : ShelfError → Stop
stop_of shelf_error.Failed = stop.Fault
stop_of shelf_error.Memory = stop.Memory

-- why a call stops if the inputs report this error
abbrev pub stop_for : InputError → Stop
stop_for (input_error.Refused r) = stop.Input r
stop_for input_error.Memory = stop.Memory

-- the call stops because of its words or of an input
abbrev pub IsRefusal : Stop → Type 0
IsRefusal stop.Words = Unit {0}
IsRefusal (stop.Input r) = Unit {0}
IsRefusal _ = ⊥

-- the line that is due if a call stops: none after a fault or for want of memory
abbrev pub due_line : Stop → List ℕ
due_line stop.Words = words_line
due_line (stop.Input r) = refused_line r
due_line stop.Fault = []
due_line stop.Memory = []

-- the shelf after a call that may have stopped: it counted one fault if the call stopped because
-- of a fault, and none otherwise; a faultless shelf gives a fault for this reason alone
pub record Behaves {T : Type 0} (reason : Type 0) (old new : Shelved) (result : Result T Stop) : Type 0 where
  pub call : IsCall old new
  pub fault : IsErrOf result stop.Fault → new.faults ≡ one_more old.faults
  pub quiet : (IsErrOf result stop.Fault → ⊥) → new.faults ≡ old.faults
  pub works : IsTrue old.is_faultless → IsErrOf result stop.Fault → reason
  pub stays : IsTrue old.is_faultless → (IsErrOf result stop.Fault → ⊥) → StaysFaultless old new
