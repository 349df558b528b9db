use Rattle.std.proofs.Common.{length}
use Rattle.vz_outside.proofs.ReadRules.{read_rules}
use Rattle.vz_outside.proofs.memory.MemoryShelfShelf.read.Goals as goal

pub returns : goal.returns
returns c =
    let rules =
    read_rules c.args.self.now c.args.slot (length c.args.into.now) c.read_on.new.into c.read_on.result c.read_on.new.self c.read_on.ensures.kept c.requires.piece c.read_on.ensures.reads in
    record {
      reads = c.read_on.ensures.reads;
      count = rules.count;
      moved = rules.moved;
      ended = rules.ended;
      kept = rules.kept;
      untouched = rules.untouched;
      behaves = rules.behaves;
    }
