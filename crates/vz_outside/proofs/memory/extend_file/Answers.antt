use Rattle.std.proofs.Common.{◌<◌, arith, length}
use Rattle.vz_outside.proofs.Places.{on_err, stored_extended, stored_same}
use Rattle.vz_outside.proofs.memory.extend_file.Goals as goal

pub returns-in_err-extend_from_slice-clause-same : goal.returns-in_err-extend_from_slice-clause-same
returns-in_err-extend_from_slice-clause-same c =
    let low : c.args.place < length c.args.files.now.items = omega (arith, c.args.files.now.ok, c.requires) in
    on_err c.from_residual.result
    (stored_same c.args.files.now.items c.args.place c.index_mut.result.now c.extend_from_slice.new.self low
    c.index_mut.ensures.value c.in_err-extend_from_slice.ensures.items)

pub returns-clause-files : goal.returns-clause-files
returns-clause-files c =
    let low : c.args.place < length c.args.files.now.items = omega (arith, c.args.files.now.ok, c.requires) in
    stored_extended c.args.files.now.items c.args.place c.index_mut.result.now c.extend_from_slice.new.self c.args.more.now low
    c.index_mut.ensures.value c.in_ok-extend_from_slice.ensures.items
