use Rattle.std.proofs.Common.{ap, sym, subst, arith, List}
use Rattle.vz_outside.proofs.Held.{ChangesOne, change-set, kept_files, puts_made, slot_low, slot_read, stands_at_end}
use Rattle.vz_outside.proofs.Places.{stored_length}
use Rattle.vz_outside.specs.InMemory.{File, InMemory, Puts, file_at, files_of}
use Rattle.vz_outside.specs.Shelved.{Writing}
use Rattle.vz_outside.proofs.memory.MemoryShelf.write_on.Goals as goal

pub extend_file-requires : goal.extend_file-requires
extend_file-requires c =
    let seen = ap (λ (shelf : InMemory). shelf.slots) c.self.view_is in
    let found = slot_read c.self.inside.slots.items c.args.self.now.slots c.args.slot Writing c.index.result.now seen c.requires.open c.index.ensures in
    let low = slot_low _ c.args.slot c.index.result.now c.self.invariant found.1 in
    omega (arith, low, stored_length c.self.inside.files.items, c.self.inside.files.ok)

pub invariant_of-self-2 : goal.invariant_of-self-2
invariant_of-self-2 c =
    let held = files_of c.self.inside.files.items in
    kept_files (file_at held c.index.result.now.file).0 _ _ c.pass.new.self c.self.invariant
    (subst (λ (files : List File). ChangesOne (file_at held c.index.result.now.file).0 held files)
    (sym c.in_ok-extend_file.ensures.files) (change-set held c.index.result.now.file _))

pub returns-clause-writes : goal.returns-clause-writes
returns-clause-writes c =
    let seen = ap (λ (shelf : InMemory). shelf.slots) c.self.view_is in
    let found = slot_read c.self.inside.slots.items c.args.self.now.slots c.args.slot Writing c.index.result.now seen c.requires.open c.index.ensures in
    subst (λ (shelf : InMemory). Puts shelf c.args.slot c.args.from.now c.min-count.result
    (record { files = files_of c.extend_file.new.files.items; slots = c.self.inside.slots.items; calls = c.pass.new.self; piece = c.self.inside.piece }))
    c.self.view_is
    (puts_made _ c.args.slot c.min-count.result c.args.from.now c.index.result.now (files_of c.extend_file.new.files.items) c.pass.new.self
    found.1 (stands_at_end c.index.result.now.place found.2) c.min-count.ensures c.in_ok-extend_file.ensures.files c.in_ok-pass.ensures.passes c.in_ok-pass.ensures.ok)
