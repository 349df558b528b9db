use Rattle.std.proofs.Common.{ap, ◌∙◌, arith}
use Rattle.std.proofs.lemmas.Int.{ints}
use Rattle.vz_geom.specs.declared.Point.{Point}
use Rattle.vz_geom.specs.Rectangle.{Rectangle}
use Rattle.vz_geom.proofs.Points.{same_point}
use Rattle.vz_hit.proofs.parts.past_size.Goals as goal

pub returns-clause-value : goal.returns-clause-value
returns-clause-value c =
    let room = c.requires.room in
    let reach = c.size_rect-size.ensures.reach in
    let across = ap (λ (q : Point). q.x) c.shift-at.ensures.value in
    let down = ap (λ (q : Point). q.y) c.shift-at.ensures.value in
    let wide = c.w.ensures ∙ ap (λ (r : Rectangle). r.w) c.size_rect-size.ensures.value in
    let high = c.h.ensures ∙ ap (λ (r : Rectangle). r.h) c.size_rect-size.ensures.value in
    same_point (omega (arith, ints)) (omega (arith, ints))

pub returns-clause-near : goal.returns-clause-near
returns-clause-near c =
    let room = c.requires.room in
    let reach = c.size_rect-size.ensures.reach in
    let across = ap (λ (q : Point). q.x) c.shift-at.ensures.value in
    let down = ap (λ (q : Point). q.y) c.shift-at.ensures.value in
    let wide = c.w.ensures in
    let high = c.h.ensures in
    record { left = omega (arith, ints); right = omega (arith, ints); top = omega (arith, ints); bottom = omega (arith, ints) }
