-- The texts of rules and errors.
use Rattle.std.specs.Prelude.{ℕ, List, codes, ◌++◌}
use Rattle.std.specs.Fmt.{decimal}
use Rattle.vz_codec.specs.declared.fault.FileRule.{FileRule}
use Rattle.vz_codec.specs.declared.fault.FileRule.TheVariants.{Magic, Version, Short, Tag, Limit, Colour, Trailing}
use Rattle.vz_codec.specs.declared.fault.DecodeError.{DecodeError}
use Rattle.vz_codec.specs.declared.fault.DecodeError.TheVariants.{Refused, Memory}

-- the text of a rule, in UTF-8: what is wrong if it is broken
abbrev pub rule_text : FileRule → List ℕ
rule_text Magic = codes "no message file begins so"
rule_text Version = codes "the version is unknown"
rule_text Short = codes "the file ends in a field"
rule_text Tag = codes "the tag is unknown"
rule_text Limit = codes "a number is out of its range"
rule_text Colour = codes "a channel exceeds its alpha"
rule_text Trailing = codes "bytes are left over"

-- the text of an error, in UTF-8: the place and the rule, or that memory ran out
abbrev pub error_text : DecodeError → List ℕ
error_text (Refused at rule) = codes "byte " ++ (decimal at ++ (codes ": " ++ rule_text rule))
error_text Memory = codes "memory ran out"
