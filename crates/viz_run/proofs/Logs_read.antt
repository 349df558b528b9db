-- When the inputs of `check` are accepted, and when one is refused.
use Rattle.std.proofs.Common.{◌≡◌, ℕ, Some, List, [], ◌∷◌, refl, sym, ap, ◌∙◌}
use Rattle.vz_base.specs.declared.limits.TheConstants.{MOST_FILE_BYTES, MOST_LOG_BYTES}
use Rattle.vz_check.specs.Judged.{Gives}
use Rattle.viz_run.specs.{Read.IsReadUpto, Read.AreReadUpto, Inputs.Inputs, Inputs.AreRead, Inputs.first_refused, Judged.refused_of}
use Rattle.vz_outside.specs.Shelved.{Shelved, IsCall, SameFiles, Holds, Name}
use Rattle.vz_outside.proofs.Calls.{Ran, known_after}
use Rattle.vz_rules.specs.Command.{Word, Check}
use Rattle.viz_run.proofs.Admitting.{read_first}

-- the inputs of `check`, as they were read
abbrev pub judged_inputs : List (List ℕ) → List ℕ → List ℕ → Inputs
judged_inputs files log frames = record { files = files; schedules = []; logs = log ∷ []; frames = frames ∷ [] }

-- they were read for it
pub are_read :
    (w h : ℕ) (f l : Word) (names : List Word) (files : List (List ℕ)) (log frames : List ℕ) (a b c : Shelved)
    → Ran a b → SameFiles a b → Ran a c → SameFiles a c
    → AreReadUpto MOST_FILE_BYTES names files a → IsReadUpto MOST_LOG_BYTES l log b → Holds frames f c
    → AreRead a (Check w h f l names) (judged_inputs files log frames)
are_read w h f l names files log frames a b c ran same ran_on same_on first then holds = record {
  files = first;
  schedules = tt;
  logs = (read_first MOST_LOG_BYTES l log a b ran same then, tt);
  frames = ((λ told. sym (same_on told f) ∙ holds (known_after a c ran_on.call told)), tt);
}

-- the first that is refused
pub first_of :
    (w h : ℕ) (f l : Word) (names : List Word) (files : List (List ℕ)) (log frames : List ℕ)
    → first_refused (Check w h f l names) (judged_inputs files log frames) ≡ refused_of files log
first_of w h f l names files log frames = refl

-- what a slot gives is what its name holds
pub held_by : (f : Name) (slot : ℕ) (bytes : List ℕ) (a b : Shelved) → IsCall a b → Holds (b.rest slot) f a → Gives bytes slot b → Holds bytes f a
held_by f slot bytes a b call holds gives told = holds told ∙ ap Some (gives (known_after a b call told))
