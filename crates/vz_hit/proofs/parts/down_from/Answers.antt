use Rattle.std.proofs.Common.{ap, ◌∙◌, arith}
use Rattle.std.proofs.lemmas.Int.{ints}
use Rattle.vz_geom.specs.Rectangle.{Rectangle, has}
use Rattle.vz_flat.proofs.Rounded.{same_sides, facts_of}
use Rattle.vz_hit.proofs.Guttering.{none_down, some_down}
use Rattle.vz_hit.proofs.parts.down_from.Goals as goal

pub returns : goal.returns
returns c p =
    let o = facts_of c.args.r.now c.is_empty.ensures.proper in
    let near = c.requires in
    c.intersect.ensures.points p
    ∙ some_down c.args.r.now c.new.result c.args.at p
    (c.new.ensures.value ∙ same_sides (omega (arith, ints)) (omega (arith, ints)) (omega (arith, ints)) (omega (arith, ints)))

pub returns-then-bottom-at : goal.returns-then-bottom-at
returns-then-bottom-at c p =
    let edge = c.bottom-bottom.ensures.value in
    let past = c.if-bottom-at.true in
    ap (λ (s : Rectangle). has s p) c.empty.ensures ∙ none_down c.args.r.now c.args.at p (omega (arith, ints))
