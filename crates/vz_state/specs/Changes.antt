-- What a message changes of its client, besides being taken.
use Rattle.std.specs.Prelude.{true, None, map}
use Rattle.vz_rules.specs.World.{Client}
use Rattle.vz_rules.specs.Messages.{put_resource, lend, answer_tick, reclaim}
use Rattle.vz_state.specs.declared.change.Change.{Change}
use Rattle.vz_state.specs.declared.change.Change.TheVariants as change

-- a client after a change
abbrev pub changed_by : Change → Client → Client
changed_by change.Nothing c = c
changed_by (change.Store id block) c = record c { resources = put_resource id block.now c.resources }
changed_by (change.Submit frame tick) c = answer_tick tick frame.now.metadata.ack (record c { resources = map (lend frame.now.resources) c.resources })
changed_by (change.Answer n tick) c = answer_tick tick n c
changed_by change.Reclaim c = reclaim c
changed_by change.Take c = record c { delivered = None }
changed_by change.Close c = record c { closed = true }
