use Rattle.std.proofs.{Common.arith, Common.◌∙◌, lemmas.Int.ints}
use Rattle.vz_flat.proofs.Rounded.{same_sides, facts_of}
use Rattle.vz_flat.proofs.gutter.left_of.Goals as goal

pub returns : goal.returns
returns c =
    let a = c.requires.left in
    let b = c.requires.top in
    let d = c.requires.right in
    let e = c.requires.bottom in
    let o = facts_of c.args.outer.now c.requires.outer_edges in
    let i = facts_of c.args.inner.now c.requires.inner_edges in
    c.new.ensures.value
    ∙ same_sides (omega (arith, ints)) (omega (arith, ints)) (omega (arith, ints)) (omega (arith, ints))
