-- The texts of refused relations.
use Rattle.std.specs.Prelude.{ℕ, List, codes}
use Rattle.vz_sinks.specs.declared.refusals.SinkError.{SinkError}
use Rattle.vz_sinks.specs.declared.refusals.SinkError.TheVariants.{Loop, UnknownSink, ParentOfOther, Memory}

-- the text of a refusal, in UTF-8: why the relation is not registered
abbrev pub refusal_text : SinkError → List ℕ
refusal_text Loop = codes "the child reaches the parent"
refusal_text UnknownSink = codes "no client has the parent or the child"
refusal_text ParentOfOther = codes "the parent is another client's sink"
refusal_text Memory = codes "out of memory"
