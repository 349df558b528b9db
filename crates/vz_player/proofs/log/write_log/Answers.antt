use Rattle.std.proofs.Common.{◌+◌, ℕ, List, subst, string_bytes, take}
use Rattle.std.specs.List.{flat_map}
use Rattle.vz_outside.specs.Shelved.{Appends, AppendsFront}
use Rattle.vz_outside.proofs.Behaving.{on_err}
use Rattle.vz_outside.proofs.Calls.{ran_one}
use Rattle.vz_rules.specs.Log.{log_text, entry_text}
use Rattle.vz_player.proofs.Logging.{line_made, end_made, log_stopped, log_begun, made_begun, piece_written, all_written}
use Rattle.vz_player.proofs.log.write_log.Goals as goal

pub returns-in_err-push_entry-clause-begun : goal.returns-in_err-push_entry-clause-begun
returns-in_err-push_entry-clause-begun g c =
    let a = g.F.Shelf.shelved c.args.shelf.now in
    let b = g.F.Shelf.shelved c.loop-entry.shelf in
    on_err c.from_residual-in_err-push_entry.result _
    (log_stopped c.args.history.now c.as_slice-entries.result.now c.loop-entry.entry-index c.args.rest.now c.as_slice-entries.ensures (string_bytes c.loop-entry.text) c.args.slot a b
    c.loop-entry.invariant)

pub returns-in_err-write_piece-clause-begun : goal.returns-in_err-write_piece-clause-begun
returns-in_err-write_piece-clause-begun g c =
    let a = g.F.Shelf.shelved c.args.shelf.now in
    let b = g.F.Shelf.shelved c.loop-entry.shelf in
    let text = string_bytes c.push_entry.new.out in
    let made =
    line_made c.as_slice-entries.result.now c.loop-entry.entry-index _ c.entry-item.result c.loop-entry-test.true c.entry-item.is (string_bytes c.loop-entry.text) text c.args.slot a b
    c.loop-entry.invariant c.in_ok-push_entry.ensures in
    on_err c.from_residual-in_err-write_piece.result _
    (log_begun c.args.history.now c.as_slice-entries.result.now (c.loop-entry.entry-index + 1) c.args.rest.now c.as_slice-entries.ensures text c.args.slot a b
    (g.F.Shelf.shelved c.write_piece.new.shelf) made c.in_err-write_piece.ensures.begun)

pub loop-entry-preserved : goal.loop-entry-preserved
loop-entry-preserved g c =
    let a = g.F.Shelf.shelved c.args.shelf.now in
    let b = g.F.Shelf.shelved c.loop-entry.shelf in
    let entries = c.as_slice-entries.result.now in
    let text = string_bytes c.push_entry.new.out in
    let made =
    line_made entries c.loop-entry.entry-index _ c.entry-item.result c.loop-entry-test.true c.entry-item.is (string_bytes c.loop-entry.text) text c.args.slot a b c.loop-entry.invariant
    c.in_ok-push_entry.ensures in
    piece_written (flat_map entry_text (take (c.loop-entry.entry-index + 1) entries)) text c.args.slot a b made (string_bytes c.write_piece.new.text) (g.F.Shelf.shelved c.write_piece.new.shelf)
    c.in_ok-write_piece.ensures.appended c.in_ok-write_piece.ensures.others (ran_one tt _ _ c.in_ok-write_piece.ensures.behaves)

pub returns-in_err-push_rest-clause-begun : goal.returns-in_err-push_rest-clause-begun
returns-in_err-push_rest-clause-begun g c =
    let a = g.F.Shelf.shelved c.args.shelf.now in
    let b = g.F.Shelf.shelved c.loop-entry.shelf in
    on_err c.from_residual-in_err-push_rest.result _
    (log_stopped c.args.history.now c.as_slice-entries.result.now c.loop-entry.entry-index c.args.rest.now c.as_slice-entries.ensures (string_bytes c.loop-entry.text) c.args.slot a b
    c.loop-entry.invariant)

pub returns-in_err-write_all-clause-begun : goal.returns-in_err-write_all-clause-begun
returns-in_err-write_all-clause-begun g c =
    let a = g.F.Shelf.shelved c.args.shelf.now in
    let b = g.F.Shelf.shelved c.loop-entry.shelf in
    let after = g.F.Shelf.shelved c.write_all.new.shelf in
    let text = string_bytes c.push_rest.new.out in
    let made =
    end_made c.args.history.now c.as_slice-entries.result.now c.loop-entry.entry-index c.args.rest.now c.as_slice-entries.ensures c.loop-entry-test.false (string_bytes c.loop-entry.text) text
    c.args.slot a b c.loop-entry.invariant c.in_ok-push_rest.ensures in
    on_err c.from_residual-in_err-write_all.result _
    (made_begun (log_text c.args.history.now c.args.rest.now) text c.args.slot a b after made
    (subst (λ (l : List ℕ). AppendsFront l (b.name c.args.slot) b after) c.as_bytes.ensures.value c.in_err-write_all.ensures.begun))

pub returns-clause-appended : goal.returns-clause-appended
returns-clause-appended g c =
    let a = g.F.Shelf.shelved c.args.shelf.now in
    let b = g.F.Shelf.shelved c.loop-entry.shelf in
    let after = g.F.Shelf.shelved c.write_all.new.shelf in
    let text = string_bytes c.push_rest.new.out in
    let made =
    end_made c.args.history.now c.as_slice-entries.result.now c.loop-entry.entry-index c.args.rest.now c.as_slice-entries.ensures c.loop-entry-test.false (string_bytes c.loop-entry.text) text
    c.args.slot a b c.loop-entry.invariant c.in_ok-push_rest.ensures in
    let added =
    all_written (log_text c.args.history.now c.args.rest.now) text c.args.slot a b made after
    (subst (λ (l : List ℕ). Appends l (b.name c.args.slot) b after) c.as_bytes.ensures.value c.in_ok-write_all.ensures.appended) c.in_ok-write_all.ensures.others
    (ran_one tt _ _ c.in_ok-write_all.ensures.behaves) in
    added.appended
