use Rattle.std.proofs.Common.{refl, sym, arith}
use Rattle.std.specs.Vec.{with_item}
use Rattle.vz_refs.proofs.Keyed.{surfaces, written}
use Rattle.vz_refs.proofs.Noting.{noted_placed, noted_nowhere, noted_named}
use Rattle.vz_refs.proofs.notes.Notes.note.Goals as goal

pub returns-then-index-len : goal.returns-then-index-len
returns-then-index-len c =
    noted_placed c.args.sets.now.keys c.args.self.now (record { places = with_item c.args.self.now.places c.in-Some.index c.args.place; others = c.args.self.now.others }) c.args.id.now c.args.place
    c.in-Some.index (sym c.in-Some.ensures) refl (λ q. refl)

pub returns-else-index-len : goal.returns-else-index-len
returns-else-index-len c =
    noted_nowhere c.args.sets.now.keys c.args.self.now c.args.self.now c.args.id.now c.args.place
    c.in-Some.index (sym c.in-Some.ensures) (omega (arith, c.if-index-len.false, c.len.ensures)) refl (λ q. refl)

pub returns-in-None : goal.returns-in-None
returns-in-None c =
    noted_named c.args.sets.now.keys c.args.self.now (record { places = c.args.self.now.places; others = c.write.new.map }) c.args.id.now c.args.place
    (sym c.in-None.ensures) refl (written _ _ surfaces c.args.self.now.others c.write.new.map c.args.id.now c.args.place c.write.ensures.values)
