-- The verdict on a log and the bytes of its frames: yes, or the first fault of the first entry
-- that has one.
use Rattle.std.specs.Prelude.{◌≡◌, ℕ, ◌+◌, List, [], ◌∷◌, ◌++◌, length, IsTrue}
use Rattle.std.specs.List.{flat_map, list_all}
use Rattle.vz_rules.specs.Plan.{Plan}
use Rattle.vz_rules.specs.declared.entry.Entry.{Entry}
use Rattle.vz_rules.specs.declared.entry.Rest.{Rest}
use Rattle.vz_rules.specs.Step.{world, entry_in, NamesClient, Legal}
use Rattle.vz_rules.specs.Frames.{frames, frames_bytes}
use Rattle.vz_rules.specs.Log.{entry_text, log_text, rest_of, has_text_entry, BeginsWith}
use Rattle.vz_journal.specs.Answers.{IsLog}
use Rattle.vz_check.specs.declared.verdict.What.{What}
use Rattle.vz_check.specs.declared.verdict.What.TheVariants.{LogText, Reply, Frame, Rest as RestOf, Length}
use Rattle.vz_check.specs.declared.verdict.Verdict.{Verdict}
use Rattle.vz_check.specs.declared.verdict.Verdict.TheVariants.{Yes, No}

-- the bytes of the frames of a history
abbrev pub frames_of : Plan → List Entry → List ℕ
frames_of p h = frames_bytes (frames p h)

-- the entries of a log up to a place have no fault: the log has them, the machine makes them, and
-- the bytes begin with their frames
pub record IsSound (p : Plan) (log bytes : List ℕ) (h : List Entry) : Type 0 where
  pub spelled : IsTrue (list_all has_text_entry h)
  pub stands : BeginsWith log (flat_map entry_text h)
  pub legal : Legal p h
  pub drawn : BeginsWith bytes (frames_of p h)

-- the next entry of a log
abbrev pub IsNext : List ℕ → List Entry → Entry → Type 0
IsNext log h e = IsTrue (has_text_entry e) × BeginsWith log (flat_map entry_text (h ++ e ∷ []))

-- the entry is the one that the machine makes at its place
abbrev pub IsMade : Plan → List Entry → Entry → Type 0
IsMade p h e = NamesClient p e.event × (e ≡ entry_in p (world p h) e.event)

-- the fault after entries that have none
unfoldable pub IsFault : Plan → List ℕ → List ℕ → List Entry → What → Type 0
IsFault p log bytes h LogText = ((e : Entry) → IsNext log h e → ⊥) × ((rest : Rest) → IsLog log h rest → ⊥)
IsFault p log bytes h Reply = (e : Entry) × IsNext log h e × (IsMade p h e → ⊥)
IsFault p log bytes h Frame = (e : Entry) × IsNext log h e × IsMade p h e × (BeginsWith bytes (frames_of p (h ++ e ∷ [])) → ⊥)
IsFault p log bytes h RestOf = (rest : Rest) × IsLog log h rest × (rest ≡ rest_of p h → ⊥)
IsFault p log bytes h Length = IsLog log h (rest_of p h) × (bytes ≡ frames_of p h → ⊥)

-- the verdict on a log and the bytes of its frames
unfoldable pub IsVerdict : Plan → List ℕ → List ℕ → Verdict → Type 0
IsVerdict p log bytes Yes = (h : List Entry) × Legal p h × (log ≡ log_text h (rest_of p h)) × (bytes ≡ frames_of p h)
IsVerdict p log bytes (No place what) = (h : List Entry) × IsSound p log bytes h × (place ≡ length h + 1) × IsFault p log bytes h what
