use Rattle.vz_outside.proofs.WriteRules.{write_rules}
use Rattle.vz_outside.proofs.memory.MemoryShelfShelf.write.Goals as goal

pub returns : goal.returns
returns c =
    let rules =
    write_rules c.args.self.now c.args.slot c.args.from.now c.write_on.result c.write_on.new.self c.write_on.ensures.kept c.requires.piece c.write_on.ensures.writes in
    record {
      writes = c.write_on.ensures.writes;
      some = rules.some;
      count = rules.count;
      appended = rules.appended;
      others = rules.others;
      untouched = rules.untouched;
      behaves = rules.behaves;
    }
