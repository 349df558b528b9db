-- What is found while a log and its frames are checked.
use Rattle.std.specs.Prelude.{◌≡◌, ℕ, Bool, true, false, Option, Some, None, List, []}
use Rattle.std.specs.List.{flat_map}
use Rattle.vz_outside.specs.Shelved.{Shelved, IfKnown, Consumes}
use Rattle.vz_pixels.specs.Colour.{Colour}
use Rattle.vz_rules.specs.Plan.{Plan}
use Rattle.vz_rules.specs.World.{World, Machine}
use Rattle.vz_rules.specs.declared.entry.Event.{Event}
use Rattle.vz_rules.specs.declared.entry.Event.TheVariants as event
use Rattle.vz_rules.specs.declared.entry.Reply.{Reply}
use Rattle.vz_rules.specs.declared.entry.Entry.{Entry}
use Rattle.vz_rules.specs.declared.entry.Rest.{Rest}
use Rattle.vz_rules.specs.Step.{step_in, entry_in, NamesClient}
use Rattle.vz_rules.specs.Frames.{pixel_bytes}
use Rattle.vz_rules.specs.Log.{entry_text, log_text, rest_in, BeginsWith}
use Rattle.vz_journal.specs.Answers.{IsLog}
use Rattle.vz_slow.specs.Drawn.{drawn_picture}
use Rattle.vz_check.specs.declared.verdict.What.{What}
use Rattle.vz_check.specs.declared.verdict.What.TheVariants.{LogText, Reply as OtherReply, Frame, Rest as OtherRest, Length}
use Rattle.vz_check.specs.declared.verdict.Verdict.{Verdict}
use Rattle.vz_check.specs.declared.verdict.Verdict.TheVariants.{Yes, No}
use Rattle.vz_check.specs.Verdict.{IsVerdict}

-- the answer says whether something holds
abbrev pub IsAnswer : Bool → Type 0 → Type 0
IsAnswer true P = P
IsAnswer false P = P → ⊥

-- an event is a drawing
abbrev pub is_drawing : Event → Bool
is_drawing event.Draw = true
is_drawing _ = false

-- the slot will give these bytes: its unread rest, if that is known
abbrev pub Gives : List ℕ → ℕ → Shelved → Type 0
Gives bytes slot shelf = IfKnown shelf (shelf.rest slot ≡ bytes)

-- the verdict on a log and the bytes that a slot gives
abbrev pub IsJudged : Plan → List ℕ → ℕ → Shelved → Verdict → Type 0
IsJudged p log slot shelf verdict = (bytes : List ℕ) × Gives bytes slot shelf × IsVerdict p log bytes verdict

-- the slot gives bytes that do not begin with these
abbrev pub Lacks : List ℕ → ℕ → Shelved → Type 0
Lacks frame slot shelf = (bytes : List ℕ) × Gives bytes slot shelf × (BeginsWith bytes frame → ⊥)

-- the slot gives at least one byte
abbrev pub GivesSome : ℕ → Shelved → Type 0
GivesSome slot shelf = (bytes : List ℕ) × Gives bytes slot shelf × (bytes ≡ [] → ⊥)

-- the answer says whether these bytes were next, and they are read
abbrev pub IsFrameRead : List ℕ → ℕ → Shelved → Shelved → Bool → Type 0
IsFrameRead frame slot old new true = Consumes frame slot old new
IsFrameRead frame slot old new false = Lacks frame slot old

-- the answer says whether the slot gives no more bytes
abbrev pub IsEndRead : ℕ → Shelved → Bool → Type 0
IsEndRead slot old true = Gives [] slot old
IsEndRead slot old false = GivesSome slot old

-- the bytes of a picture, if there is one
abbrev pub picture_bytes : Option (List Colour) → List ℕ
picture_bytes None = []
picture_bytes (Some pixels) = flat_map pixel_bytes pixels

-- the bytes of the frame that a reply draws in a world
abbrev pub drawn_bytes : Plan → World → Reply → List ℕ
drawn_bytes p w reply = picture_bytes (drawn_picture p w reply)

-- the line is the one that the machine writes for an event
abbrev pub IsMadeLine : Machine → Event → List ℕ → Type 0
IsMadeLine m v line = NamesClient m.plan v × (line ≡ entry_text (entry_in m.plan m.world v))

-- the bytes of the frame of the machine's entry for an event
abbrev pub made_bytes : Machine → Event → List ℕ
made_bytes m v = drawn_bytes m.plan m.world (entry_in m.plan m.world v).reply

-- the first fault of an entry, if it has one; otherwise the machine took the step, and the frame
-- is read
abbrev pub IsFound : Machine → Event → List ℕ → ℕ → Shelved → Shelved → Machine → Option What → Type 0
IsFound m v line slot old new next None =
    IsMadeLine m v line × Consumes (made_bytes m v) slot old new × (next.world ≡ (step_in m.plan m.world v).world)
IsFound m v line slot old new next (Some OtherReply) = IsMadeLine m v line → ⊥
IsFound m v line slot old new next (Some Frame) = IsMadeLine m v line × Lacks (made_bytes m v) slot old
IsFound m v line slot old new next (Some _) = ⊥

-- the text is the log of some history
abbrev pub IsSomeLog : List ℕ → Type 0
IsSomeLog text = (h : List Entry) × (rest : Rest) × IsLog text h rest

-- the first fault after the entries, if there is one
abbrev pub IsFoundAtEnd : Machine → List ℕ → ℕ → Shelved → Option What → Type 0
IsFoundAtEnd m text slot old None = (text ≡ log_text [] (rest_in m.world)) × Gives [] slot old
IsFoundAtEnd m text slot old (Some LogText) = IsSomeLog text → ⊥
IsFoundAtEnd m text slot old (Some OtherRest) = IsSomeLog text × (text ≡ log_text [] (rest_in m.world) → ⊥)
IsFoundAtEnd m text slot old (Some Length) = (text ≡ log_text [] (rest_in m.world)) × GivesSome slot old
IsFoundAtEnd m text slot old (Some _) = ⊥

-- the verdict for what is wrong at a place
abbrev pub verdict_at : ℕ → Option What → Verdict
verdict_at place None = Yes
verdict_at place (Some what) = No place what
