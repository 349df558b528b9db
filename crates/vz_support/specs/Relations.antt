-- The reply to a relation that a client asks for, and the relations afterwards, by why it is
-- refused.
use Rattle.std.specs.Prelude.{Option, Some, None, List}
use Rattle.vz_ids.specs.declared.FrameSinkId.{FrameSinkId}
use Rattle.vz_rules.specs.declared.entry.Reply.{Reply}
use Rattle.vz_rules.specs.declared.entry.Reply.TheVariants as reply
use Rattle.vz_rules.specs.Messages.{relate}
use Rattle.vz_sinks.specs.declared.refusals.SinkError.{SinkError}
use Rattle.vz_sinks.specs.Relating.{refusal_of}

-- the reply: the relation is registered, or refused
abbrev pub reply_for : Option SinkError → Reply
reply_for None = reply.Joined
reply_for (Some e) = elim (refusal_of e) as (λ o. Reply) [ Some r ↦ reply.Refused r | None ↦ reply.Joined ]

-- the relations afterwards
abbrev pub relations_for : Option SinkError → FrameSinkId → FrameSinkId → List (FrameSinkId × FrameSinkId)
    → List (FrameSinkId × FrameSinkId)
relations_for None parent child relations = relate parent child relations
relations_for (Some e) parent child relations = relations
