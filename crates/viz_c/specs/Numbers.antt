-- The numbers that C is told.
use Rattle.std.specs.Prelude.{◌≡◌, ◌≤◌, ℕ, Result, Ok, Err, Option, Some}
use Rattle.std.specs.Option.{option_map}
use Rattle.vz_frame.specs.declared.message.ClientFile.{ClientFile}
use Rattle.vz_codec.specs.declared.fault.DecodeError.{DecodeError}
use Rattle.vz_codec.specs.declared.fault.DecodeError.TheVariants as decode_error
use Rattle.vz_codec.specs.declared.fault.FileRule.{FileRule}
use Rattle.vz_codec.specs.declared.fault.FileRule.TheVariants.{Magic, Version, Short, Tag, Limit, Colour, Trailing}
use Rattle.viz_run.specs.declared.refused.InputError.{InputError}
use Rattle.viz_run.specs.declared.refused.InputError.TheVariants as input_error
use Rattle.viz_run.specs.declared.refused.Reason.{Reason}
use Rattle.viz_run.specs.declared.refused.Reason.TheVariants.{Rule, SinkTaken, Long}
use Rattle.viz_run.specs.declared.refused.Refused.{Refused}
use Rattle.vz_check.specs.declared.verdict.What.{What}
use Rattle.vz_check.specs.declared.verdict.What.TheVariants.{LogText, Reply, Frame, Rest, Length}
use Rattle.viz_c.specs.declared.answer.Cause.{Cause}
use Rattle.viz_c.specs.Answers.{DONE, MEMORY, REFUSED}

-- the number of a rule
abbrev pub rule_number : FileRule → ℕ
rule_number Magic = 1
rule_number Version = 2
rule_number Short = 3
rule_number Tag = 4
rule_number Limit = 5
rule_number Colour = 6
rule_number Trailing = 7

-- the number of what is wrong with an input
abbrev pub reason_number : Reason → ℕ
reason_number (Rule rule) = rule_number rule
reason_number SinkTaken = 14
reason_number Long = 15

-- the number of a fault of a log or its frames
abbrev pub what_number : What → ℕ
what_number LogText = 1
what_number Reply = 2
what_number Frame = 3
what_number Rest = 4
what_number Length = 5

-- a refusal as C sees it
abbrev pub cause_of : Refused → Cause
cause_of r = record { file = r.file; reason = reason_number r.reason; at = r.at }

-- this is the refusal, as C sees it
abbrev pub IsCause : Option Refused → Cause → Type 0
IsCause refused cause = option_map cause_of refused ≡ Some cause

-- the answer for inputs that are not accepted, and the cause that is told
abbrev pub IsErrorTold : InputError → ℕ → Cause → Type 0
IsErrorTold (input_error.Refused r) code cause = (code ≡ REFUSED) × (cause ≡ cause_of r)
IsErrorTold input_error.Memory code cause = code ≡ MEMORY

-- the answer for what decoding returned, and the place that is told
abbrev pub IsDecodingTold : Result ClientFile DecodeError → ℕ → ℕ → Type 0
IsDecodingTold (Ok file) code at = code ≡ DONE
IsDecodingTold (Err (decode_error.Refused place rule)) code at = (code ≡ rule_number rule) × (at ≡ place)
IsDecodingTold (Err decode_error.Memory) code at = code ≡ MEMORY

-- an answer from one number to another
abbrev pub IsWithin : ℕ → ℕ → ℕ → Type 0
IsWithin least most code = (least ≤ code) × (code ≤ most)
