use Rattle.std.proofs.Common.{◌<◌, List, ◌++◌, length, take, replicate, ap, ◌∙◌, arith}
use Rattle.vz_pixels.specs.Colour.{Colour, transparent}
use Rattle.vz_plain.specs.Shown.{colour_of}
use Rattle.vz_plain.proofs.Parted.{clear_long, clear_each, first_part}
use Rattle.vz_plain.proofs.Filling.{piece_is}
use Rattle.vz_plain.proofs.pictures.piece.Goals as goal

pub paint-requires-clause-black : goal.paint-requires-clause-black
paint-requires-clause-black c = λ i low.
    let blank = c.black-room.result in
    let long = clear_long blank 256 c.args.count c.requires.few in
    let there : i < length (take c.args.count (replicate 256 blank)) = low in
    clear_each blank transparent 256 c.args.count c.requires.few i (omega (arith, long, there)) ∙ c.black-room.ensures

pub returns : goal.returns
returns c =
    let long = clear_long c.black-room.result 256 c.args.count c.requires.few in
    c.in_ok-extend_from_slice.ensures.items
    ∙ ap (λ (s : List Colour). c.args.into.now.items ++ s) (first_part c.args.count _ c.paint.new.piece (c.in_ok-paint.ensures.long ∙ long)
    ∙ piece_is (colour_of c.args.active.now c.args.root.now) c.args.count c.args.x c.args.y c.point_at.result _ c.paint.new.piece c.point_at.ensures long c.in_ok-paint.ensures)
