use Rattle.std.proofs.Common.{◌∙◌, ap, sym, subst, List, ◌++◌, ◌∷◌, [], Some}
use Rattle.vz_outside.proofs.{Held.kept_push, Places.found_there, Places.place_first}
use Rattle.vz_outside.specs.{InMemory.InMemory, InMemory.IsKept, InMemory.files_of, InMemory.reading_from, declared.memory.Slot.Slot}
use Rattle.vz_outside.proofs.memory.MemoryShelf.open_file.Goals as goal

pub invariant_of-self-2 : goal.invariant_of-self-2
invariant_of-self-2 c =
    let there =
    found_there _ c.self.inside.files.items c.args.name.now (Some c.in-Some.file) _ c.deref.ensures.value c.first_named.ensures.place
    c.in-Some.is in
    let held : InMemory =
    record { files = files_of c.self.inside.files.items; slots = c.self.inside.slots.items; calls = c.self.inside.calls; piece = c.self.inside.piece } in
    subst (λ (slots : List Slot). IsKept (record held { slots = slots; calls = c.pass.new.self }))
    (sym
    (c.push_reserved.ensures.items ∙
    ap (λ (slots : List Slot). slots ++ reading_from c.in-Some.file 0 ∷ []) c.in_ok-slot.ensures.items))
    (kept_push held (reading_from c.in-Some.file 0) c.pass.new.self c.self.invariant
    (place_first (files_of c.self.inside.files.items) c.args.name.now c.in-Some.file there))
