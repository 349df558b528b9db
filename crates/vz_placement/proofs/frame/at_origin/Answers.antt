use Rattle.std.proofs.Common.{◌≡◌, ℤ, pos, ap, ◌∙◌, to_z, of_z, w32, arith}
use Rattle.std.proofs.lemmas.Int.{ints}
use Rattle.vz_geom.specs.Rectangle.{Rectangle, with_sides, sized}
use Rattle.vz_placement.proofs.Fitting.{IsSized, is_sized, sized_in_reach}
use Rattle.vz_placement.proofs.Rooms.{read}
use Rattle.vz_placement.proofs.frame.at_origin.Goals as goal

-- the value is that of the sides
value : (r s : Rectangle) (w h : ℤ) → w ≡ r.w → h ≡ r.h → IsSized r → s ≡ with_sides (pos 0) (pos 0) (to_z w32 (of_z w32 w)) (to_z w32 (of_z w32 h)) → s ≡ sized (record { w = r.w; h = r.h })
value r s w h e f is from =
    from ∙ (ap (λ (z : ℤ). with_sides (pos 0) (pos 0) z (to_z w32 (of_z w32 h))) (ap (λ z. to_z w32 (of_z w32 z)) e ∙ read r.w is.wide (omega (arith, ints)))
    ∙ (ap (λ (z : ℤ). with_sides (pos 0) (pos 0) r.w z) (ap (λ z. to_z w32 (of_z w32 z)) f ∙ read r.h is.high (omega (arith, ints))) ∙ is.own))

pub returns-clause-value : goal.returns-clause-value
returns-clause-value c = value c.args.r.now c.new.result _ _ c.w.ensures c.h.ensures (is_sized c.args.r.now c.requires) c.new.ensures.value

pub returns-clause-reach : goal.returns-clause-reach
returns-clause-reach c =
    let is = is_sized c.args.r.now c.requires in
    sized_in_reach c.args.r.now c.new.result (value c.args.r.now c.new.result _ _ c.w.ensures c.h.ensures is c.new.ensures.value) is
