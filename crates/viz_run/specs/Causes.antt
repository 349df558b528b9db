-- Why a call answers what it answers, and what it leaves.
use Rattle.std.specs.Prelude.{◌≡◌, ℕ, ◌⊎◌, List, []}
use Rattle.vz_outside.specs.Shelved.{Shelved, Name, IfKnown}
use Rattle.vz_outside.specs.Sunk.{Takes, TakesFront}
use Rattle.vz_player.specs.Written.{IsNoneOf}
use Rattle.viz_run.specs.Read.{MissesOne}
use Rattle.viz_run.specs.declared.refused.Refused.{Refused}
use Rattle.vz_rules.specs.Command.{Word, Command}
use Rattle.vz_rules.specs.declared.entry.Entry.{Entry}
use Rattle.viz_run.specs.Commands.{Asks, AsksNothing, input_names, output_names}
use Rattle.viz_run.specs.Inputs.{Inputs, AreAccepted, AreRefused}
use Rattle.viz_run.specs.Lines.{words_line, refused_line}
use Rattle.viz_run.specs.Ends.{TellsEnd, IsDone, IsCutShort, IsUnbegun}
use Rattle.viz_run.specs.Site.{Site, Outside}

-- The cause of each kind of end, for one command

-- the command's inputs were accepted, all its work was done, and this line reports how it ended,
-- with this status
abbrev pub DoesFor : Command → List Entry → Site → Site → List ℕ → ℕ → Type 0
DoesFor c h before after line status =
    (i : Inputs) × AreAccepted before.shelf c i × IsDone c i h before after × TellsEnd c i h line status

-- this is the first of the command's inputs that is refused
abbrev pub RefusesFor : Command → Shelved → Refused → Type 0
RefusesFor c shelf r = (i : Inputs) × AreRefused shelf c i r

-- no work was begun, or work on accepted inputs was cut short
abbrev pub LeavesFor : Command → List Entry → Site → Site → Type 0
LeavesFor c h before after =
    IsUnbegun h before after ⊎ ((i : Inputs) × AreAccepted before.shelf c i × IsCutShort c i h before after)

-- A call that ends

-- all that the words ask for was done, and this line reports how it ended, with this status
abbrev pub DoesAll : List Word → List Entry → Site → Site → List ℕ → ℕ → Type 0
DoesAll words h before after line status = (c : Command) × Asks words c × DoesFor c h before after line status

-- all was done, with this status, and its line was printed
abbrev pub EndsWell : List Word → ℕ → List Entry → Outside → Outside → Type 0
EndsWell words status h before after =
    (line : List ℕ) × DoesAll words h before.site after.site line status × Takes line before.sink after.sink

-- Refusals

-- among the inputs that the words name, this is the first that is refused
abbrev pub RefusesOne : List Word → Shelved → Refused → Type 0
RefusesOne words shelf r = (c : Command) × Asks words c × RefusesFor c shelf r

-- the words are those of no command, the line says so, and no work was begun
pub record RefusesWords (words : List Word) (h : List Entry) (before after : Outside) : Type 0 where
  pub nothing : AsksNothing words
  pub told : Takes words_line before.sink after.sink
  pub unbegun : IsUnbegun h before.site after.site

-- an input is refused, the line says which one, where and why, and no work was begun
pub record RefusesInput (words : List Word) (h : List Entry) (before after : Outside) : Type 0 where
  pub input : Refused
  pub refused : RefusesOne words before.site.shelf input
  pub told : Takes (refused_line input) before.sink after.sink
  pub unbegun : IsUnbegun h before.site after.site

-- What a call leaves if it does not end

-- no work was begun, or work on what the words ask for was cut short
abbrev pub LeavesFront : List Word → List Entry → Site → Site → Type 0
LeavesFront words h before after =
    IsUnbegun h before after ⊎ ((c : Command) × Asks words c × LeavesFor c h before after)

-- this line is due: none, or the line for refused words, for a refused input, or for the work that
-- was done
abbrev pub IsDue : List Word → List Entry → Site → Site → List ℕ → Type 0
IsDue words h before after line =
    (line ≡ [])
    ⊎ (AsksNothing words × (line ≡ words_line))
    ⊎ ((r : Refused) × RefusesOne words before.shelf r × (line ≡ refused_line r))
    ⊎ ((status : ℕ) × DoesAll words h before after line status)

-- a front part of the due line was printed, possibly nothing of it
abbrev pub PrintsFront : List Word → List Entry → Outside → Outside → Type 0
PrintsFront words h before after =
    (line : List ℕ) × IsDue words h before.site after.site line × TakesFront line before.sink after.sink

-- only the line is missing: the words are those of no command, an input is refused, or all was
-- done
abbrev pub MissesLine : List Word → List Entry → Site → Site → Type 0
MissesLine words h before after =
    AsksNothing words
    ⊎ ((r : Refused) × RefusesOne words before.shelf r)
    ⊎ ((line : List ℕ) × (status : ℕ) × DoesAll words h before after line status)

-- a name keeps its bytes unless the words ask for a command that writes it
abbrev pub KeepsOthers : List Word → Shelved → Shelved → Type 0
KeepsOthers words before after =
    IfKnown before
    ((name : Name) → ((c : Command) → Asks words c → IsNoneOf name (output_names c)) → after.bytes name ≡ before.bytes name)

-- the files that the words name as inputs exist
abbrev pub FindsInputs : List Word → Shelved → Type 0
FindsInputs words shelf = (c : Command) → Asks words c → MissesOne (input_names c) shelf → ⊥
