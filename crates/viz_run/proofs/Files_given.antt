-- When the inputs of a command that reads the clients' files alone are accepted, and when one is refused.
use Rattle.std.proofs.Common.{◌≡◌, ℕ, Option, Some, None, List, [], refl, ◌∙◌}
use Rattle.vz_base.specs.declared.limits.TheConstants.{MOST_FILE_BYTES}
use Rattle.vz_geom.specs.declared.Size.{Size}
use Rattle.viz_run.specs.{Read.AreReadUpto, Causes.RefusesFor}
use Rattle.viz_run.specs.{Refusals.file_refused, Refusals.plan_read, declared.refused.Refused.Refused, Planning.ArePlanned, Planning.AreUnplanned}
use Rattle.vz_outside.specs.Shelved.{Shelved}
use Rattle.vz_rules.specs.{Command.Word, Command.Command, Plan.Plan}
use Rattle.viz_run.specs.Inputs.{Inputs, AreRead, AreAccepted, first_some, first_refused, plan_of}

-- the inputs, as they were read
abbrev pub inputs_of : List (List ℕ) → Inputs
inputs_of files = record { files = files; schedules = []; logs = []; frames = [] }

alone : (o : Option Refused) → first_some o None ≡ o
alone None = refl
alone (Some r) = refl

-- the first that is refused
first_of : (c : Command) (files : List (List ℕ)) → first_refused c (inputs_of files) ≡ file_refused files
first_of c files = alone (file_refused files)

module _
    (c : Command) (names : List Word) (a : Shelved)
    (reads : (files : List (List ℕ)) → AreReadUpto MOST_FILE_BYTES names files a → AreRead a c (inputs_of files))
  where
    -- what was given is what the command reads
    pub files_given :
        (size : Size) (p : Plan) → ((files : List (List ℕ)) → plan_read size files ≡ plan_of c (inputs_of files))
        → (files : List (List ℕ)) × ArePlanned a size names files p → (i : Inputs) × AreAccepted a c i × (p ≡ plan_of c i)
    files_given size p plans given =
        let files = given.0 in
        let all = given.1 in
        (inputs_of files, record { read = reads files all.read; good = first_of c files ∙ all.good }, all.plan ∙ plans files)

    -- and so is what is refused
    pub files_refused : (r : Refused) → (files : List (List ℕ)) × AreUnplanned a names files r → RefusesFor c a r
    files_refused r found =
        let files = found.0 in
        let all = found.1 in
        (inputs_of files, record { read = reads files all.read; first = first_of c files ∙ all.first })
