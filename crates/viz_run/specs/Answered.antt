-- All that holds of how a command ended, whether it answered or stopped.
use Rattle.std.specs.Prelude.{◌≤◌, Result, IfOk, IfErr, OnErr, IsErrOf, List, string_bytes}
use Rattle.vz_player.specs.Written.{KeepsAllBut}
use Rattle.vz_rules.specs.Command.{Word, Command}
use Rattle.vz_rules.specs.declared.entry.Entry.{Entry}
use Rattle.viz_run.specs.Causes.{DoesFor, RefusesFor, LeavesFor, DoesAll, RefusesOne, LeavesFront, KeepsOthers, FindsInputs}
use Rattle.viz_run.specs.Commands.{AsksNothing, input_names, output_names}
use Rattle.viz_run.specs.Ends.{IsUnbegun}
use Rattle.viz_run.specs.Read.{MissesOne}
use Rattle.viz_run.specs.Site.{Site}
use Rattle.viz_run.specs.Stops.{Behaves, IsRefusal}
use Rattle.viz_run.specs.declared.end.End.{End}
use Rattle.viz_run.specs.declared.refused.Refused.{Refused}
use Rattle.viz_run.specs.declared.stop.Stop.{Stop}
use Rattle.viz_run.specs.declared.stop.Stop.TheVariants as stop

-- what a command answered, and what it left
pub record AnswersFor (c : Command) (h : List Entry) (before after : Site) (result : Result End Stop) : Type 0 where
  pub done : IfOk result (λ ended. DoesFor c h before after (string_bytes ended.line) ended.status)
  pub low : IfOk result (λ ended. ended.status ≤ 1)
  pub words : IsErrOf result stop.Words → ⊥
  pub input : (r : Refused) → IsErrOf result (stop.Input r) → RefusesFor c before.shelf r
  pub unbegun : IfErr result (λ s. IsRefusal s → IsUnbegun h before after)
  pub front : OnErr result (LeavesFor c h before after)
  pub others : KeepsAllBut (output_names c) before.shelf after.shelf
  pub behaves : Behaves (MissesOne (input_names c) before.shelf) before.shelf after.shelf result

-- the same for the command that the words ask for, if they ask for one
pub record AnswersAll (asked : List Word) (h : List Entry) (before after : Site) (result : Result End Stop) : Type 0 where
  pub done : IfOk result (λ ended. DoesAll asked h before after (string_bytes ended.line) ended.status)
  pub low : IfOk result (λ ended. ended.status ≤ 1)
  pub words : IsErrOf result stop.Words → AsksNothing asked
  pub input : (r : Refused) → IsErrOf result (stop.Input r) → RefusesOne asked before.shelf r
  pub unbegun : IfErr result (λ s. IsRefusal s → IsUnbegun h before after)
  pub front : OnErr result (LeavesFront asked h before after)
  pub others : KeepsOthers asked before.shelf after.shelf
  pub behaves : Behaves (FindsInputs asked before.shelf → ⊥) before.shelf after.shelf result
