use Rattle.vz_outside.proofs.CreateRules.{create_rules}
use Rattle.vz_outside.proofs.memory.MemoryShelfShelf.create.Goals as goal

pub returns : goal.returns
returns c =
    let rules =
    create_rules c.args.self.now c.args.name.now c.create_file.result c.create_file.new.self c.create_file.ensures.kept c.create_file.ensures.creates in
    record {
      creates = c.create_file.ensures.creates;
      opened = rules.opened;
      emptied = rules.emptied;
      others = rules.others;
      untouched = rules.untouched;
      behaves = rules.behaves;
    }
