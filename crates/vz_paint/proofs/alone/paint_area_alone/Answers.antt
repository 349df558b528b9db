use Rattle.std.proofs.Common.{◌∙◌, [], ◌∷◌, length, map, ap, arith}
use Rattle.std.proofs.lemmas.List.Elements.{All-nil, All-push}
use Rattle.vz_paint.specs.{Choice.seen, Strips.IsBrush, Strips.strip_of, declared.brush.Brush.Brush, declared.brush.Sheet.Sheet}
use Rattle.vz_paint.proofs.Banded.{area_painted, whole_is, room_is}
use Rattle.vz_paint.proofs.{Brushing.IsReady, Brushing.may_put, Brushing.same_strips, Brushing.all_able, Grounded.stands}
use Rattle.vz_paint.proofs.alone.paint_area_alone.Goals as goal

pub new-requires-clause-whole : goal.new-requires-clause-whole
new-requires-clause-whole g c =
    let e = c.ground_of-ground.ensures in
    let chosen = map (λ r. r.now) c.as_slice-shown.result.now in
    whole_is c.args.area.now c.args.ops.now chosen (map (λ r. r.now) c.behind-rest.result.now) c.ground_of-ground.result.color c.as_slice-list.ensures.whole
    (ap (map (λ r. r.now)) c.as_slice-shown.ensures.value ∙ (c.choose.ensures.chosen ∙ ap (seen c.args.area.now 0) c.as_slice-list.ensures.value))
    (stands c.args.area.now chosen _ c.ground_of-ground.result.color c.ground_of-ground.result.drawn e.same e.whole e.deep c.behind-rest.ensures)

pub new-requires-clause-deepest : goal.new-requires-clause-deepest
new-requires-clause-deepest g c =
    let e = c.ground_of-ground.ensures in
    let chosen = map (λ r. r.now) c.as_slice-shown.result.now in
    room_is c.args.area.now c.args.ops.now chosen (map (λ r. r.now) c.behind-rest.result.now) c.ground_of-ground.result.color c.deepest.result
    (ap (map (λ r. r.now)) c.as_slice-shown.ensures.value ∙ (c.choose.ensures.chosen ∙ ap (seen c.args.area.now 0) c.as_slice-list.ensures.value))
    (stands c.args.area.now chosen _ c.ground_of-ground.result.color c.ground_of-ground.result.drawn e.same e.whole e.deep c.behind-rest.ensures)
    c.deepest.ensures.value

pub put_rows_alone-requires : goal.put_rows_alone-requires
put_rows_alone-requires g c =
    let rest = c.behind-rest.result.now in
    let sheet : Sheet = record { area = c.args.area.now; ground = c.ground_of-ground.result.color; deepest = c.deepest.result } in
    let made = c.in_ok-brush.ensures in
    let one = All-push (IsReady rest sheet) [] c.in_ok-brush.brush (All-nil (IsReady rest sheet)) (made.ops, made.sheet, made.able) in
    let long = ap length c.from_mut.ensures.value in
    may_put (λ (b : Brush). IsBrush (map (λ r. r.now) b.ops.now) b.sheet.area b.rows b.groups.items)
    (λ (b : Brush). strip_of (map (λ r. r.now) b.ops.now) b.sheet.ground b.sheet.area) c.args.buffer.now.size (map (λ r. r.now) rest) c.ground_of-ground.result.color c.args.area.now
    c.from_mut.result.now c.requires.inside (omega (arith, long)) (all_able rest sheet (c.in_ok-brush.brush ∷ []) c.from_mut.result.now c.from_mut.ensures.value one)

pub returns-clause-painted : goal.returns-clause-painted
returns-clause-painted g c =
    let a = c.args in
    let e = c.ground_of-ground.ensures in
    let chosen = map (λ r. r.now) c.as_slice-shown.result.now in
    let rest = c.behind-rest.result.now in
    let sheet : Sheet = record { area = a.area.now; ground = c.ground_of-ground.result.color; deepest = c.deepest.result } in
    let made = c.in_ok-brush.ensures in
    let one = All-push (IsReady rest sheet) [] c.in_ok-brush.brush (All-nil (IsReady rest sheet)) (made.ops, made.sheet, made.able) in
    let strips = same_strips rest sheet (c.in_ok-brush.brush ∷ []) c.from_mut.result.now c.from_mut.ensures.value one in
    area_painted a.buffer.now.size a.area.now a.ops.now chosen (map (λ r. r.now) rest) c.ground_of-ground.result.color a.buffer.now.pixels c.put_rows_alone.new.self.pixels c.requires.canvas.sides
    c.requires.inside c.as_slice-list.ensures.whole
    (ap (map (λ r. r.now)) c.as_slice-shown.ensures.value ∙ (c.choose.ensures.chosen ∙ ap (seen a.area.now 0) c.as_slice-list.ensures.value))
    (stands a.area.now chosen _ c.ground_of-ground.result.color c.ground_of-ground.result.drawn e.same e.whole e.deep c.behind-rest.ensures) c.requires.canvas.all
    (c.put_rows_alone.ensures.put (strip_of (map (λ r. r.now) rest) c.ground_of-ground.result.color a.area.now) strips)
