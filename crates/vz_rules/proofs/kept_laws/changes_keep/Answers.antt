use Rattle.vz_rules.proofs.Kept_steps.{always_answer}
use Rattle.vz_rules.proofs.Kept_follows.{always_round, always_settle, always_naming}
use Rattle.vz_rules.proofs.Kept_clears.{always_clearing, always_given, always_fed}
use Rattle.vz_rules.proofs.kept_laws.changes_keep.Goals as goal

pub returns : goal.returns
returns c =
    record {
      answer = always_answer;
      round = always_round;
      settle = always_settle;
      naming = always_naming;
      clearing = always_clearing;
      returns = always_given;
      feedback = always_fed;
    }
