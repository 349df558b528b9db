use Rattle.vz_outside.proofs.OpenRules.{open_rules}
use Rattle.vz_outside.proofs.memory.MemoryShelfShelf.open.Goals as goal

pub returns : goal.returns
returns c =
    let rules =
    open_rules c.args.self.now c.args.name.now c.open_file.result c.open_file.new.self c.open_file.ensures.kept c.open_file.ensures.opens in
    record {
      opens = c.open_file.ensures.opens;
      opened = rules.opened;
      whole = rules.whole;
      missing = rules.missing;
      kept = rules.kept;
      untouched = rules.untouched;
      behaves = rules.behaves;
    }
