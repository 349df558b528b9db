use Rattle.std.proofs.Common.{ℕ, List, subst, string_bytes}
use Rattle.vz_outside.specs.Shelved.{Appends}
use Rattle.vz_player.proofs.Logging.{none_moved, all_moved}
use Rattle.vz_player.proofs.log.write_piece.Goals as goal

pub returns-then-len-lt-PIECE_BYTES-clause-appended : goal.returns-then-len-lt-PIECE_BYTES-clause-appended
returns-then-len-lt-PIECE_BYTES-clause-appended g c = none_moved (string_bytes c.args.text.now) c.args.slot (g.F.Shelf.shelved c.args.shelf.now)

pub returns-clause-appended : goal.returns-clause-appended
returns-clause-appended g c =
    let a = g.F.Shelf.shelved c.args.shelf.now in
    let b = g.F.Shelf.shelved c.write_all.new.shelf in
    all_moved (string_bytes c.args.text.now) _ c.args.slot a b c.clear.ensures.bytes
    (subst (λ (l : List ℕ). Appends l (a.name c.args.slot) a b) c.as_bytes.ensures.value c.in_ok-write_all.ensures.appended)
