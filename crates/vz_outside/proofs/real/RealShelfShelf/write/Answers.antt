use Rattle.std.proofs.Common.{ap, subst, ℕ}
use Rattle.vz_outside.proofs.OuterCalls.{kept_modes, open_low, other_bytes, outer_behaves, outer_untouched, same_modes, slot_bytes}
use Rattle.vz_outside.proofs.Places.{on_err}
use Rattle.vz_outside.specs.{Faults.HasCause, Outer.Outer, Outer.handle_bytes, Shelved.Writing}
use Rattle.std.specs.Io.KnownBytes.{WriteAppends}
use Rattle.vz_outside.proofs.real.RealShelfShelf.write.Goals as goal

pub returns-clause-untouched : goal.returns-clause-untouched
returns-clause-untouched g c =
    on_err c.write.result
    (outer_untouched c.args.self.now _ _
    (same_modes c.self.inside.slots.items c.args.slot c.index_mut.result.now c.write.new.self c.args.self.now.modes
    c.index_mut.ensures.value c.write.ensures.mode (ap (λ (outer : Outer). outer.modes) c.self.view_is)))

pub returns-clause-behaves : goal.returns-clause-behaves
returns-clause-behaves g c =
    outer_behaves c.args.self.now _ _ c.write.result
    (kept_modes c.args.self.now.modes _
    (same_modes c.self.inside.slots.items c.args.slot c.index_mut.result.now c.write.new.self c.args.self.now.modes
    c.index_mut.ensures.value c.write.ensures.mode (ap (λ (outer : Outer). outer.modes) c.self.view_is)))
    (subst (λ (faults : ℕ). HasCause faults c.write.new.faults c.write.result) (ap (λ (outer : Outer). outer.faults) c.self.view_is)
    c.write.ensures.cause)

pub returns-clause-bytes : goal.returns-clause-bytes
returns-clause-bytes g c =
    slot_bytes (handle_bytes g.R.File.Read.remaining g.R.File.Write.contents)
    (λ before after. WriteAppends before after c.write.result c.args.from.now)
    c.self.inside.slots.items c.args.slot c.index_mut.result.now c.write.new.self c.args.self.now.known
    (open_low c.self.inside.slots.items c.args.slot Writing c.args.self.now.modes (ap (λ (outer : Outer). outer.modes) c.self.view_is) c.requires.open)
    c.index_mut.ensures.value (ap (λ (outer : Outer). outer.known) c.self.view_is) c.write.ensures.bytes

pub returns-clause-slots : goal.returns-clause-slots
returns-clause-slots g c = record {
  modes =
      same_modes c.self.inside.slots.items c.args.slot c.index_mut.result.now c.write.new.self c.args.self.now.modes
      c.index_mut.ensures.value c.write.ensures.mode (ap (λ (outer : Outer). outer.modes) c.self.view_is);
  known =
      other_bytes (handle_bytes g.R.File.Read.remaining g.R.File.Write.contents) c.self.inside.slots.items c.args.slot c.write.new.self c.args.self.now.known
      (open_low c.self.inside.slots.items c.args.slot Writing c.args.self.now.modes (ap (λ (outer : Outer). outer.modes) c.self.view_is) c.requires.open)
      (ap (λ (outer : Outer). outer.known) c.self.view_is);
}
