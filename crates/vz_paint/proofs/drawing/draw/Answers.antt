use Rattle.std.proofs.Common.{◌+◌, ◌*◌, ◌<◌, ◌≤◌, sym, subst, ap, ◌∙◌, length, get_or, ◌∷◌}
use Rattle.std.proofs.lemmas.List.Elements.{All-set}
use Rattle.vz_pixels.specs.Colour.{transparent}
use Rattle.vz_paint.specs.{Redraw.point_of, Stack.MayStand, Stack.IsItem, Stack.made_at}
use Rattle.vz_paint.proofs.{Stacked.push_inside, Grouped.is_among}
use Rattle.vz_paint.proofs.drawing.draw.Goals as goal

pub returns-in-Fill-clause-drawn : goal.returns-in-Fill-clause-drawn
returns-in-Fill-clause-drawn c = c.draw_inside.ensures.drawn (subst IsItem (sym c.in-Fill.is) tt)

pub returns-in-Blit-clause-drawn : goal.returns-in-Blit-clause-drawn
returns-in-Blit-clause-drawn c = c.draw_inside-in-Blit.ensures.drawn (subst IsItem (sym c.in-Blit.is) tt)

pub begin-requires : goal.begin-requires
begin-requires c =
    let a = c.args in
    let room : a.depth < length a.groups.now = subst (MayStand a.depth (length a.groups.now)) c.in-Push.is c.requires.may in
    subst (λ k. k ≤ length (get_or a.groups.now a.depth c.index-groups-depth.result).pixels.items) (sym c.count_in_group.ensures) (c.requires.groups a.depth c.index-groups-depth.result room)

pub returns-in-Push-clause-groups : goal.returns-in-Push-clause-groups
returns-in-Push-clause-groups c = λ m have.
    let a = c.args in
    let room : a.depth < length a.groups.now = subst (MayStand a.depth (length a.groups.now)) c.in-Push.is c.requires.may in
    All-set (λ g. m ≤ length g.pixels.items) a.groups.now a.depth c.begin.new.group (subst (λ k. m ≤ k) (sym c.begin.ensures.long) (have a.depth c.index-groups-depth.result room)) have

pub returns-in-Push-clause-drawn : goal.returns-in-Push-clause-drawn
returns-in-Push-clause-drawn c = λ r i rest low near.
    let a = c.args in
    let n = a.lines in
    let f = c.in-Push in
    let b = c.begin.ensures in
    let room : a.depth < length a.groups.now = subst (MayStand a.depth (length a.groups.now)) f.is c.requires.may in
    push_inside (point_of a.start r i) (r * n.wide + i) a.depth a.op.now f.area f.opacity f.blend rest a.groups.now c.begin.new.group (get_or a.pixels.now ((r * n.width + n.left) + i) transparent) f.is room
    (b.clear (r * n.wide + i) (subst (λ k. r * n.wide + i < k) (sym c.count_in_group.ensures) (is_among n.wide n.count r i low near))) b.area b.opacity b.mode

pub returns-in-Pop-clause-drawn : goal.returns-in-Pop-clause-drawn
returns-in-Pop-clause-drawn c = λ r i rest low near.
    let a = c.args in
    let n = a.lines in
    ap (λ o. made_at a.start n.width n.left n.wide (o ∷ rest) a.depth a.groups.now a.pixels.now r i) c.in-Pop.is ∙ c.end_inside.ensures.drawn r i rest low near
