use Rattle.std.proofs.Common.{length}
use Rattle.vz_words.proofs.names.+all_are_names.Given as goal

abbrev pub decreases-all_are_names : goal.decreases-all_are_names
decreases-all_are_names l = length l.words.now
