use Rattle.std.proofs.Common.{◌<◌, length, arith, ap, ◌∙◌}
use Rattle.std.specs.Int.{w32}
use Rattle.std.proofs.lemmas.Int.{to_z-of_z}
use Rattle.vz_buffers.specs.Canvas.{Canvas}
use Rattle.vz_buffers.specs.Pages.{behind_head}
use Rattle.vz_buffers.proofs.Places.{inside, read_in}
use Rattle.vz_buffers.proofs.buffer.Buffer.at.Goals as goal

pub bounds-pixels_in-place : goal.bounds-pixels_in-place
bounds-pixels_in-place c =
    let x = c.args.x in
    let y = c.args.y in
    let r = c.requires in
    let own : Canvas = record { size = c.self.inside.size; pixels = behind_head c.self.inside.memory.items } in
    let fits = inside own c.args.self.now c.self.view_is c.self.invariant.1 x y r.left r.right r.top r.bottom in
    let stands = rw (to_z-of_z w32 x c.ranges.x, to_z-of_z w32 y c.ranges.y) at c.place.ensures.value in
    let same = ap length c.pixels_in.ensures in
    let lent = ap (λ xs. length (behind_head xs)) c.deref.ensures.value in
    omega (arith, stands, fits, same, lent)

pub offset_bounds-pixels_in-place : goal.offset_bounds-pixels_in-place
offset_bounds-pixels_in-place c =
    let low = bounds-pixels_in-place c in
    let short = c.pixels_in.type_inv.1 in
    omega (arith, low, short)

pub returns : goal.returns
returns c =
    let x = c.args.x in
    let y = c.args.y in
    let r = c.requires in
    let own : Canvas = record { size = c.self.inside.size; pixels = behind_head c.self.inside.memory.items } in
    let fits = inside own c.args.self.now c.self.view_is c.self.invariant.1 x y r.left r.right r.top r.bottom in
    let stands = rw (to_z-of_z w32 x c.ranges.x, to_z-of_z w32 y c.ranges.y) at c.place.ensures.value in
    let low : c.place.result < length own.pixels = omega (arith, stands, fits) in
    read_in own c.args.self.now c.self.view_is x y c.place.result c.index-pixels_in-place.result c.pixels_in.result.now (c.pixels_in.ensures ∙ ap behind_head c.deref.ensures.value) low stands c.index-pixels_in-place.is
