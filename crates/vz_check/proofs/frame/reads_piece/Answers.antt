use Rattle.std.proofs.Common.{rules, ◌≡◌, ◌-◌, ◌*◌, ◌+◌, ◌≤◌, length, sym, ◌∙◌, arith}
use Rattle.vz_check.specs.Judged.{IsAnswer}
use Rattle.vz_check.proofs.Answering.{answer_as}
use Rattle.vz_check.proofs.Framing.{piece_read}
use Rattle.vz_check.proofs.frame.reads_piece.Goals as goal

pub returns-clause-found : goal.returns-clause-found
returns-clause-found g c =
    let limit = 4 * length c.args.pixels.now - 1 in
    let long : (4 * length c.args.pixels.now - 1) + 1 ≡ 4 * length c.args.pixels.now = omega (arith, c.requires.some) in
    let few : length c.in_ok-bytes.bytes.items ≤ (4 * length c.args.pixels.now - 1) + 1 = search rules in
    let first = c.deref.ensures.value in
    let second = c.deref-2.ensures.value in
    let same : IsAnswer c.is_same.result (c.in_ok-bytes.bytes.items ≡ c.in_ok-own.own.items) =
    answer_as c.is_same.result (λ e. sym first ∙ (e ∙ second)) (λ e. first ∙ (e ∙ sym second)) c.is_same.ensures in
    piece_read c.args.slot (g.F.Shelf.shelved c.args.shelf.now) (g.F.Shelf.shelved c.read_upto.new.shelf) c.args.pixels.now c.in_ok-own.own.items c.in_ok-bytes.bytes.items (4 * length c.args.pixels.now - 1) c.is_same.result
    c.in_ok-own.ensures long c.in_ok-bytes.ensures.front few c.in_ok-bytes.ensures.moved same
