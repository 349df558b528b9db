use Rattle.std.proofs.Common.{◌∙◌, ap, sym, subst, List, ◌++◌, ◌∷◌, []}
use Rattle.vz_outside.proofs.{Held.change_emptied, Held.kept_files, Held.kept_push, Held.ChangesOne, Places.place_first}
use Rattle.vz_outside.specs.InMemory.{File, InMemory, IsKept, files_of, writing_to}
use Rattle.vz_outside.specs.declared.memory.Slot.{Slot}
use Rattle.vz_outside.proofs.memory.MemoryShelf.create_file.Goals as goal

pub invariant_of-self-2 : goal.invariant_of-self-2
invariant_of-self-2 c =
    let held : InMemory =
    record { files = files_of c.self.inside.files.items; slots = c.self.inside.slots.items; calls = c.self.inside.calls; piece = c.self.inside.piece } in
    let files = files_of c.empty_file.new.files.items in
    let change =
    subst (λ (all : List File). ChangesOne c.args.name.now held.files all) (sym c.in_ok-file.ensures.files)
    (change_emptied held.files c.args.name.now) in
    subst (λ (slots : List Slot). IsKept (record held { files = files; slots = slots; calls = c.pass.new.self }))
    (sym
    (c.push_reserved.ensures.items ∙
    ap (λ (slots : List Slot). slots ++ writing_to c.in_ok-file.file ∷ []) c.in_ok-slot.ensures.items))
    (kept_push (record held { files = files }) (writing_to c.in_ok-file.file) c.pass.new.self
    (kept_files c.args.name.now held files held.calls c.self.invariant change)
    (place_first files c.args.name.now c.in_ok-file.file c.in_ok-file.ensures.place))
