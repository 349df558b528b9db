use Rattle.std.proofs.Common.{take, string_bytes}
use Rattle.std.specs.List.{flat_map}
use Rattle.vz_rules.specs.Log.{entry_text}
use Rattle.vz_player.proofs.Logging.{HasMade}
use Rattle.vz_player.proofs.log.write_log.Given as goal

-- the lines so far were made
abbrev pub invariant-loop-entry : goal.invariant-loop-entry
invariant-loop-entry g l =
    HasMade (flat_map entry_text (take l.entry-index l.entries)) (string_bytes l.text) l.slot (g.F.Shelf.shelved l.initial.shelf) (g.F.Shelf.shelved l.shelf)
