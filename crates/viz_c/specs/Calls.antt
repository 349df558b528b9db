-- What C hands over.
use Rattle.std.specs.Prelude.{ℕ, Bool, pos, ◌&&◌, ◌==◌, nat_lt, Option, Some, None, List, [], ◌∷◌, length, take, drop, if◌then◌else◌}
use Rattle.std.specs.List.{sum}
use Rattle.vz_base.specs.declared.limits.TheConstants.{MOST_FILES, MOST_LOG_BYTES, MOST_ROUNDS}
use Rattle.vz_geom.specs.declared.Size.{Size}
use Rattle.vz_frame.specs.Fits.{within}
use Rattle.vz_rules.specs.Command.{are_sides}
use Rattle.viz_run.specs.Refusals.{file_refused, plan_read}
use Rattle.viz_run.specs.Schedule.{schedule_refused}
use Rattle.viz_run.specs.declared.refused.Reason.TheVariants.{Long}
use Rattle.viz_run.specs.declared.refused.Refused.{Refused}

-- a display may have these sides, there are 1 to 16 files, and their lengths fill the bytes
abbrev pub is_call : ℕ → ℕ → List ℕ → List ℕ → Bool
is_call w h files lengths =
    are_sides w h && within 1 MOST_FILES (length lengths) && (sum lengths == length files)

-- the same, and this column and this row are on the display
abbrev pub is_hit_call : ℕ → ℕ → ℕ → ℕ → List ℕ → List ℕ → Bool
is_hit_call w h x y files lengths = is_call w h files lengths && nat_lt x w && nat_lt y h

-- there are so many rounds, and three lengths
abbrev pub is_gen_call : ℕ → List ℕ → Bool
is_gen_call rounds lengths = within 1 MOST_ROUNDS rounds && (length lengths == 3)

-- the size of a display with these sides
abbrev pub size_of : ℕ → ℕ → Size
size_of w h = record { w = pos w; h = pos h }

-- the files of these lengths, which come one after the other in the bytes
abbrev pub cut : List ℕ → List ℕ → List (List ℕ)
cut [] bytes = []
cut (n ∷ ns) bytes = take n bytes ∷ cut ns (drop n bytes)

-- the first of the files and of the schedule that is refused
abbrev pub schedule_refused_of : Size → List (List ℕ) → List ℕ → Option Refused
schedule_refused_of size files schedule =
    elim (file_refused files) [ Some r ↦ Some r | None ↦ schedule_refused (plan_read size files) schedule ]

-- the refusal of a log that is too long
abbrev pub log_refused : List ℕ → Option Refused
log_refused log =
    if nat_lt MOST_LOG_BYTES (length log) then Some (record { file = 0; at = MOST_LOG_BYTES; reason = Long }) else None

-- the first of the files and of the log that is refused
abbrev pub log_refused_of : List (List ℕ) → List ℕ → Option Refused
log_refused_of files log = elim (file_refused files) [ Some r ↦ Some r | None ↦ log_refused log ]
