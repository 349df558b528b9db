-- Which client's file is refused, where and why; and the plan of files that are all accepted.
use Rattle.std.specs.Prelude.{ℕ, Bool, ◌+◌, ◌-◌, nat_lt, Option, Some, None, Ok, Err, List, [], ◌∷◌, ◌++◌, length, if◌then◌else◌}
use Rattle.std.specs.List.{list_any, filter_map}
use Rattle.vz_base.specs.declared.limits.TheConstants.{MOST_FILE_BYTES}
use Rattle.vz_geom.specs.declared.Size.{Size}
use Rattle.vz_ids.specs.Ids.{same_sink}
use Rattle.vz_frame.specs.declared.message.ClientFile.{ClientFile}
use Rattle.vz_codec.specs.Reading.{file_in}
use Rattle.vz_rules.specs.Plan.{Plan}
use Rattle.viz_run.specs.declared.refused.Reason.{Reason}
use Rattle.viz_run.specs.declared.refused.Reason.TheVariants.{Rule, SinkTaken, Long}
use Rattle.viz_run.specs.declared.refused.Refused.{Refused}

-- an offset in an input, and what is wrong there
pub record Flaw : Type 0 where
  pub at : ℕ
  pub reason : Reason

-- an input with more bytes than the limit is too long, at the first byte after the limit;
-- otherwise this flaw counts
abbrev pub unless_long : ℕ → List ℕ → Option Flaw → Option Flaw
unless_long limit bytes other = if nat_lt limit (length bytes) then Some (record { at = limit; reason = Long }) else other

-- the file that bytes spell, if they spell one
abbrev pub file_spelled : List ℕ → Option ClientFile
file_spelled bytes = elim (file_in bytes) [ Ok file ↦ Some file | Err fault ↦ None ]

-- the files that inputs spell
abbrev pub files_in : List (List ℕ) → List ClientFile
files_in inputs = filter_map file_spelled inputs

-- the offset of a file's sink in its bytes
abbrev pub sink_place : ℕ
sink_place = 6

-- a file's sink is that of one of these files
abbrev pub takes_sink : List ClientFile → ClientFile → Bool
takes_sink earlier file = list_any (λ (f : ClientFile). same_sink file.sink f.sink) earlier

-- what is wrong with a client's file after earlier ones: it is too long, breaks a rule of the
-- grammar, or has a sink that is taken
unfoldable pub file_flaw : List ClientFile → List ℕ → Option Flaw
file_flaw earlier bytes =
    unless_long MOST_FILE_BYTES bytes (elim (file_in bytes) [
      | Ok file ↦ (if takes_sink earlier file then Some (record { at = sink_place; reason = SinkTaken }) else None)
      | Err fault ↦ Some (record { at = length bytes - fault.left; reason = Rule fault.rule })
    ])

-- the refusal of the file with this number, for a flaw
abbrev pub refused_at : ℕ → Flaw → Refused
refused_at file flaw = record { file = file; at = flaw.at; reason = flaw.reason }

-- the first of some clients' files that is refused, after earlier ones that were not
unfoldable pub refused_behind : List ClientFile → List (List ℕ) → Option Refused
refused_behind earlier [] = None
refused_behind earlier (bytes ∷ more) =
    elim (file_flaw earlier bytes) [
      | Some flaw ↦ Some (refused_at (length earlier + 1) flaw)
      | None ↦ refused_behind (earlier ++ files_in (bytes ∷ [])) more
    ]

-- the first client's file that is refused
abbrev pub file_refused : List (List ℕ) → Option Refused
file_refused inputs = refused_behind [] inputs

-- the plan of the files read, on a display of this size
abbrev pub plan_read : Size → List (List ℕ) → Plan
plan_read size inputs = record { files = files_in inputs; size = size }
