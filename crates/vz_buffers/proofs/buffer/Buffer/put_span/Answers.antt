use Rattle.std.proofs.Common.{◌∙◌, ◌≤ℤ◌, ap, length, arith, subst, sym}
use Rattle.std.specs.Int.{w32}
use Rattle.std.proofs.lemmas.Int.{to_z-of_z}
use Rattle.vz_buffers.specs.Canvas.{Canvas, pixel_place}
use Rattle.vz_buffers.specs.Pages.{behind_head}
use Rattle.vz_buffers.proofs.Places.{span_fits_in, span_left}
use Rattle.vz_buffers.proofs.Heads.{stays_memory, span_is}
use Rattle.vz_buffers.proofs.buffer.Buffer.put_span.Goals as goal

pub place-at-requires-clause-right : goal.place-at-requires-clause-right
place-at-requires-clause-right g c =
    let x = c.args.x in
    let right = span_left x (length c.args.row.now) c.args.self.now.size.w c.requires.right in
    rw (to_z-of_z w32 x c.ranges.x) (subst (λ (k : Canvas). x ≤ℤ k.size.w) (sym c.self.view_is) right)

pub put-requires : goal.put-requires
put-requires g c =
    let x = c.args.x in
    let y = c.args.y in
    let r = c.requires in
    let own : Canvas = record { size = c.self.inside.size; pixels = behind_head c.self.inside.memory.items } in
    let fits = span_fits_in own c.args.self.now c.self.view_is c.self.invariant.1 x y (length c.args.row.now) r.left r.right r.top r.bottom in
    let stands = rw (to_z-of_z w32 x c.ranges.x, to_z-of_z w32 y c.ranges.y) at c.place-at.ensures.value in
    let same = ap (λ xs. length (behind_head xs)) c.deref_mut.ensures.value in
    let long = ap length c.deref_mut.ensures.value in
    let head = c.self.invariant.0 in
    omega (arith, stands, fits, same, long, head)

pub invariant_of-self : goal.invariant_of-self
invariant_of-self g c = stays_memory _ _ c.self.inside.memory.items c.deref_mut.result.now c.put.new.memory _ c.deref_mut.ensures.value c.deref_mut.ensures.len c.put.ensures.long c.self.invariant

pub returns-clause-put : goal.returns-clause-put
returns-clause-put g c =
    let own : Canvas = record { size = c.self.inside.size; pixels = behind_head c.self.inside.memory.items } in
    let stands = rw (to_z-of_z w32 c.args.x c.ranges.x, to_z-of_z w32 c.args.y c.ranges.y) at c.place-at.ensures.value in
    span_is own c.args.self.now _ c.deref_mut.result.now c.put.new.memory _ c.place-at.result _ c.args.row.now c.self.view_is (ap behind_head c.deref_mut.ensures.value) c.deref_mut.ensures.len c.put.ensures.long c.put.ensures.put
    (stands ∙ ap (λ (k : Canvas). pixel_place k.size c.args.x c.args.y) c.self.view_is)
