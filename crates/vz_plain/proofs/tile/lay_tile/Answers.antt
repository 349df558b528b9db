use Rattle.std.proofs.Common.{get_or, ap, ◌∙◌}
use Rattle.std.specs.Option.{option_copied}
use Rattle.vz_pixels.specs.Colour.{Colour, transparent}
use Rattle.vz_frame.specs.declared.frame.CompositorFrame.{CompositorFrame}
use Rattle.vz_frame.specs.Blending.{laid}
use Rattle.vz_plain.proofs.Tiles.{found_in_lists, no_block, block_laid}
use Rattle.vz_plain.proofs.tile.lay_tile.Goals as goal

pub returns-in-None : goal.returns-in-None
returns-in-None c =
    let a = c.args in
    no_block a.submitted.now a.id a.tx a.ty a.p a.mode a.opacity a.row.now c.lay_colour.new.row
    (found_in_lists a.id _ _ _ _ _ c.block_of.ensures (c.as_slice-listings.ensures ∙ ap (λ (f : CompositorFrame). f.resources) c.frame.ensures.value) c.blocks-2.ensures ∙ ap option_copied c.in-None.is)
    c.lay_colour.ensures.long
    (λ k low. c.lay_colour.ensures.each k low ∙ ap (λ (s : Colour). laid a.mode s a.opacity (get_or a.row.now k transparent)) c.transparent.ensures)

pub returns-in-Some : goal.returns-in-Some
returns-in-Some c =
    let a = c.args in
    block_laid a.submitted.now a.id a.tx a.ty c.in-Some.block.now a.p c.in_block-first.result a.mode a.opacity a.row.now c.lay_texels.new.row
    (found_in_lists a.id _ _ _ _ _ c.block_of.ensures (c.as_slice-listings.ensures ∙ ap (λ (f : CompositorFrame). f.resources) c.frame.ensures.value) c.blocks-2.ensures ∙ ap option_copied c.in-Some.is)
    c.in_block-first.ensures c.lay_texels.ensures.long c.lay_texels.ensures.each
