-- Which operations are drawn in some rows.
use Rattle.std.specs.Prelude.{ℕ, zero, suc, not, Bool, List, [], ◌∷◌, if◌then◌else◌}
use Rattle.vz_geom.specs.Rectangle.{Rectangle, is_empty_rect, meet}
use Rattle.vz_flat.specs.declared.op.Op.{Op}
use Rattle.vz_flat.specs.declared.op.Op.TheVariants.{Fill, Blit, Push, Pop}

-- two rectangles have points in common
abbrev pub meets : Rectangle → Rectangle → Bool
meets a b = not (is_empty_rect (meet a b))

-- the operations that are seen in a part of the display, after the start of so many groups that
-- are not seen; a group that does not meet the part is left out with everything in it
unfoldable pub seen : Rectangle → ℕ → List Op → List Op
seen part n [] = []
seen part zero (Fill area c o m ∷ ops) = if meets area part then Fill area c o m ∷ seen part zero ops else seen part zero ops
seen part (suc n) (Fill area c o m ∷ ops) = seen part (suc n) ops
seen part zero (Blit area block tx ty o m ∷ ops) =
    if meets area part then Blit area block tx ty o m ∷ seen part zero ops else seen part zero ops
seen part (suc n) (Blit area block tx ty o m ∷ ops) = seen part (suc n) ops
seen part zero (Push area o m ∷ ops) = if meets area part then Push area o m ∷ seen part zero ops else seen part (suc zero) ops
seen part (suc n) (Push area o m ∷ ops) = seen part (suc (suc n)) ops
seen part zero (Pop ∷ ops) = Pop ∷ seen part zero ops
seen part (suc n) (Pop ∷ ops) = seen part n ops
