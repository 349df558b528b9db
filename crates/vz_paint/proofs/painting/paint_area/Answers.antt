use Rattle.std.proofs.Common.{◌∙◌, ◌≤◌, ◌*◌, length, map, ap, subst, sym, arith}
use Rattle.vz_paint.specs.{Choice.seen, Strips.IsBrush, Strips.strip_of, declared.brush.Brush.Brush, declared.brush.Sheet.Sheet}
use Rattle.vz_paint.proofs.{Banded.area_painted, Banded.whole_is, Banded.room_is, Brushing.may_put, Brushing.same_strips, Brushing.all_able}
use Rattle.vz_paint.proofs.Grounded.{stands}
use Rattle.vz_paint.specs.declared.brush.TheConstants.{MOST_SCRATCH}
use Rattle.vz_paint.specs.Scratch.{most_bytes}
use Rattle.vz_paint.proofs.painting.paint_area.Goals as goal

pub brushes_for-requires-clause-whole : goal.brushes_for-requires-clause-whole
brushes_for-requires-clause-whole g c =
    let e = c.ground_of-ground.ensures in
    let chosen = map (λ r. r.now) c.as_slice-shown.result.now in
    whole_is c.args.area.now c.args.ops.now chosen (map (λ r. r.now) c.behind-rest.result.now) c.ground_of-ground.result.color c.as_slice-list.ensures.whole
    (ap (map (λ r. r.now)) c.as_slice-shown.ensures.value ∙ (c.choose.ensures.chosen ∙ ap (seen c.args.area.now 0) c.as_slice-list.ensures.value))
    (stands c.args.area.now chosen _ c.ground_of-ground.result.color c.ground_of-ground.result.drawn e.same e.whole e.deep c.behind-rest.ensures)

pub brushes_for-requires-clause-deepest : goal.brushes_for-requires-clause-deepest
brushes_for-requires-clause-deepest g c =
    let e = c.ground_of-ground.ensures in
    let chosen = map (λ r. r.now) c.as_slice-shown.result.now in
    room_is c.args.area.now c.args.ops.now chosen (map (λ r. r.now) c.behind-rest.result.now) c.ground_of-ground.result.color c.deepest.result
    (ap (map (λ r. r.now)) c.as_slice-shown.ensures.value ∙ (c.choose.ensures.chosen ∙ ap (seen c.args.area.now 0) c.as_slice-list.ensures.value))
    (stands c.args.area.now chosen _ c.ground_of-ground.result.color c.ground_of-ground.result.drawn e.same e.whole e.deep c.behind-rest.ensures)
    c.deepest.ensures.value

pub brushes_for-requires-clause-bytes : goal.brushes_for-requires-clause-bytes
brushes_for-requires-clause-bytes g c = subst (λ d. c.args.threads * most_bytes c.args.area.now d ≤ MOST_SCRATCH) (sym c.deepest.ensures.value) c.requires.scratch

pub put_rows-requires-after_bounds : goal.put_rows-requires-after_bounds
put_rows-requires-after_bounds g c κs within =
    let rest = c.behind-rest.result.now in
    let sheet : Sheet = record { area = c.args.area.now; ground = c.ground_of-ground.result.color; deepest = c.deepest.result } in
    let same = ap length c.as_mut_slice.ensures.value in
    let many = c.in_ok-brushes.ensures.count in
    let threads = c.requires.threads in
    may_put (λ (b : Brush). IsBrush (map (λ r. r.now) b.ops.now) b.sheet.area b.rows b.groups.items)
    (λ (b : Brush). strip_of (map (λ r. r.now) b.ops.now) b.sheet.ground b.sheet.area) c.args.buffer.now.size (map (λ r. r.now) rest) c.ground_of-ground.result.color c.args.area.now
    c.as_mut_slice.result.now c.requires.inside (omega (arith, same, many, threads)) (all_able rest sheet c.in_ok-brushes.brushes.items c.as_mut_slice.result.now c.as_mut_slice.ensures.value c.in_ok-brushes.ensures.each)

pub returns-clause-painted : goal.returns-clause-painted
returns-clause-painted g c =
    let a = c.args in
    let e = c.ground_of-ground.ensures in
    let chosen = map (λ r. r.now) c.as_slice-shown.result.now in
    let rest = c.behind-rest.result.now in
    let sheet : Sheet = record { area = a.area.now; ground = c.ground_of-ground.result.color; deepest = c.deepest.result } in
    let strips = same_strips rest sheet c.in_ok-brushes.brushes.items c.as_mut_slice.result.now c.as_mut_slice.ensures.value c.in_ok-brushes.ensures.each in
    area_painted a.buffer.now.size a.area.now a.ops.now chosen (map (λ r. r.now) rest) c.ground_of-ground.result.color a.buffer.now.pixels c.put_rows.new.self.pixels c.requires.canvas.sides
    c.requires.inside c.as_slice-list.ensures.whole
    (ap (map (λ r. r.now)) c.as_slice-shown.ensures.value ∙ (c.choose.ensures.chosen ∙ ap (seen a.area.now 0) c.as_slice-list.ensures.value))
    (stands a.area.now chosen _ c.ground_of-ground.result.color c.ground_of-ground.result.drawn e.same e.whole e.deep c.behind-rest.ensures) c.requires.canvas.all
    (c.put_rows.ensures.put (strip_of (map (λ r. r.now) rest) c.ground_of-ground.result.color a.area.now) strips)
