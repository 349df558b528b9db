use Rattle.vz_rules.proofs.Kept_singly.{always_rising, others_wait, always_going, marked_on, lost_marked}
use Rattle.vz_rules.proofs.kept_laws.single_changes_keep.Goals as goal

pub returns : goal.returns
returns c =
    record {
      rising = λ w s h here waits. always_rising w s h here waits;
      waits = others_wait;
      going = always_going;
      marked = marked_on;
      lost = lost_marked;
    }
