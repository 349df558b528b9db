use Rattle.std.proofs.Common.{length, sym, ap, subst}
use Rattle.vz_refs.specs.Noted.{noted, AreNoted}
use Rattle.vz_refs.proofs.Noting.{noted_more}
use Rattle.vz_refs.proofs.marking.add.Goals as goal

pub returns-then-not-is_out-clause-noted : goal.returns-then-not-is_out-clause-noted
returns-then-not-is_out-clause-noted c =
    let keys = c.args.sets.now.keys in
    let end = length c.as_slice-then-not-is_out.result.now in
    subst (λ l. AreNoted (noted keys c.note.new.notes) l) (sym c.put.ensures.list)
    (noted_more (noted keys c.args.notes.now) (noted keys c.note.new.notes) c.args.out.now.list c.args.id end c.requires.noted c.note.ensures (ap length c.as_slice-then-not-is_out.ensures))
