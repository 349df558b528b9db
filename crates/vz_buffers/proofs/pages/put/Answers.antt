use Rattle.std.proofs.Common.{◌+◌, length}
use Rattle.vz_buffers.proofs.Heads.{fits_behind, put_behind}
use Rattle.vz_buffers.proofs.pages.put.Goals as goal

pub put_span-requires : goal.put_span-requires
put_span-requires c =
    let parts = c.split_at_mut-pixels in
    fits_behind c.args.memory.now parts.result.0.now parts.result.1.now (c.args.at + length c.args.row.now) parts.ensures.value parts.ensures.front_len c.requires.fits

pub returns-clause-put : goal.returns-clause-put
returns-clause-put c =
    let parts = c.split_at_mut-pixels in
    put_behind c.args.memory.now parts.result.0.now parts.result.1.now c.put_span.new.pixels c.args.at c.args.row.now parts.ensures.value parts.ensures.front_len c.put_span.ensures
