use Rattle.vz_outside.proofs.CollectRules.{collect_rules}
use Rattle.vz_outside.proofs.memory_sink.MemorySinkSink.write.Goals as goal

pub returns-clause-behaves : goal.returns-clause-behaves
returns-clause-behaves c =
    (collect_rules c.args.self.now c.args.from.now c.take.result c.take.new.self c.requires.piece c.take.ensures.collects).behaves
