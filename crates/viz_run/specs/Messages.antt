-- The texts of refused inputs.
use Rattle.std.specs.Prelude.{ℕ, List, codes, ◌++◌}
use Rattle.std.specs.Fmt.{decimal}
use Rattle.vz_codec.specs.Messages.{rule_text}
use Rattle.viz_run.specs.declared.refused.Reason.{Reason}
use Rattle.viz_run.specs.declared.refused.Reason.TheVariants.{Rule, SinkTaken, Long}
use Rattle.viz_run.specs.declared.refused.Refused.{Refused}
use Rattle.viz_run.specs.declared.refused.InputError.{InputError}
use Rattle.viz_run.specs.declared.refused.InputError.TheVariants as input_error

-- the text of a reason, in UTF-8
abbrev pub reason_told : Reason → List ℕ
reason_told (Rule rule) = rule_text rule
reason_told SinkTaken = codes "an earlier file has this sink"
reason_told Long = codes "it is too long"

-- the text of a refusal, in UTF-8: the number of the input, the place and the reason
abbrev pub refusal_told : Refused → List ℕ
refusal_told refused =
    codes "file " ++ (decimal refused.file ++ (codes " at " ++ (decimal refused.at
    ++ (codes ": " ++ reason_told refused.reason))))

-- the text of an error, in UTF-8
abbrev pub error_told : InputError → List ℕ
error_told (input_error.Refused refused) = refusal_told refused
error_told input_error.Memory = codes "memory ran out"
