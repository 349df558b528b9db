use Rattle.std.proofs.Common.{◌≡◌, ◌∙◌, ap, sym, subst, arith, refl, length, set, ◌+◌, String, Vec, ℕ}
use Rattle.std.specs.Global.{Global}
use Rattle.vz_outside.proofs.{Held.kept-set, Held.moves_made, Held.slot_low, Held.slot_read, Places.stored_at, Places.stored_length}
use Rattle.vz_outside.specs.InMemory.{File, InMemory, Moves, file_at, files_of, reading_from}
use Rattle.vz_outside.specs.Shelved.{Reading}
use Rattle.vz_outside.proofs.memory.MemoryShelf.read_on.Goals as goal

pub index-requires-2 : goal.index-requires-2
index-requires-2 c =
    let seen = ap (λ (shelf : InMemory). shelf.slots) c.self.view_is in
    let found = slot_read c.self.inside.slots.items c.args.self.now.slots c.args.slot Reading c.index.result.now seen c.requires.open c.index.ensures in
    let low = slot_low _ c.args.slot c.index.result.now c.self.invariant found.1 in
    omega (arith, low, stored_length c.self.inside.files.items, c.self.inside.files.ok)

pub index_mut-requires : goal.index_mut-requires
index_mut-requires c =
    let seen = ap (λ (shelf : InMemory). shelf.slots) c.self.view_is in
    let found = slot_read c.self.inside.slots.items c.args.self.now.slots c.args.slot Reading c.index.result.now seen c.requires.open c.index.ensures in
    omega (arith, found.0, c.self.inside.slots.ok)

pub invariant_of-self-2 : goal.invariant_of-self-2
invariant_of-self-2 c =
    let seen = ap (λ (shelf : InMemory). shelf.slots) c.self.view_is in
    let found = slot_read c.self.inside.slots.items c.args.self.now.slots c.args.slot Reading c.index.result.now seen c.requires.open c.index.ensures in
    kept-set _ c.args.slot c.index.result.now _ c.pass.new.self c.self.invariant found.1 refl

pub returns-clause-reads : goal.returns-clause-reads
returns-clause-reads c =
    let seen = ap (λ (shelf : InMemory). shelf.slots) c.self.view_is in
    let found = slot_read c.self.inside.slots.items c.args.self.now.slots c.args.slot Reading c.index.result.now seen c.requires.open c.index.ensures in
    let low = slot_low _ c.args.slot c.index.result.now c.self.invariant found.1 in
    let bytes : (file_at (files_of c.self.inside.files.items) c.index.result.now.file).1 ≡ c.as_slice.result.now =
    ap (λ (f : File). f.1)
    (stored_at c.self.inside.files.items c.index.result.now.file c.index-2.result.now
    (omega (arith, low, stored_length c.self.inside.files.items))) ∙
    ap (λ (f : String Global × Vec ℕ Global). f.1.items) (sym c.index-2.ensures) ∙
    sym c.as_slice.ensures.value in
    subst (λ (shelf : InMemory). Moves shelf c.args.slot (length c.args.into.now) c.copy_piece-moved.new.into c.copy_piece-moved.result
    (record {
      files = files_of c.self.inside.files.items;
      slots = set c.self.inside.slots.items c.args.slot (reading_from c.index.result.now.file (c.next-next.result + c.copy_piece-moved.result));
      calls = c.pass.new.self;
      piece = c.self.inside.piece;
    })) c.self.view_is
    (moves_made _ c.args.slot (length c.args.into.now) c.copy_piece-moved.result c.copy_piece-moved.new.into c.as_slice.result.now
    c.next-next.result c.index.result.now c.pass.new.self found.1 c.next-next.ensures bytes c.copy_piece-moved.ensures.many
    c.copy_piece-moved.ensures.moved c.in_ok-pass.ensures.passes c.in_ok-pass.ensures.ok)
