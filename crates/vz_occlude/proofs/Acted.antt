-- What items do to a colour at a point.
use Rattle.std.proofs.Common.{◌≡◌, List, [], ◌∷◌, ◌++◌, refl, ap, sym, ◌∙◌, cond, append_assoc, append-nil}
use Rattle.vz_geom.specs.{declared.Point.Point, Rectangle.has}
use Rattle.vz_pixels.specs.Colour.{Colour, transparent}
use Rattle.vz_frame.specs.Blending.{laid}
use Rattle.vz_flat.specs.{declared.op.Op.Op, declared.op.Op.TheVariants.Pop, Ops.Group, Ops.run, Ops.value}
use Rattle.vz_occlude.specs.Items.{Items, Done, Filled, Blitted, Grouped, ops_of}
use Rattle.vz_occlude.specs.Occluders.{laid_texel}

-- the colour that items make of a colour
unfoldable pub acted : Point → Items → Colour → Colour
acted p Done d = d
acted p (Filled area c o m later) d = acted p later (cond (has area p) (laid m c o d) d)
acted p (Blitted area block tx ty o m later) d = acted p later (cond (has area p) (laid m (laid_texel area block tx ty p) o d) d)
acted p (Grouped area o m inner later) d = acted p later (cond (has area p) (laid m (acted p inner transparent) o d) d)

-- their operations make it, whatever comes after them
pub run_items : (p : Point) (items : Items) (rest : List Op) (groups : List Group) (d : Colour)
    → run p (ops_of items ++ rest) groups d ≡ run p rest groups (acted p items d)
unfolding run ops_of acted
run_items p Done rest groups d = refl
run_items p (Filled area c o m later) rest groups d = run_items p later rest groups (cond (has area p) (laid m c o d) d)
run_items p (Blitted area block tx ty o m later) rest groups d =
    run_items p later rest groups (cond (has area p) (laid m (laid_texel area block tx ty p) o d) d)
run_items p (Grouped area o m inner later) rest groups d =
    let g : Group = record { below = d; opacity = o; mode = m; has_point = has area p } in
    ap (λ ops. run p ops (g ∷ groups) transparent) (append_assoc (ops_of inner) (Pop ∷ ops_of later) rest)
    ∙ (run_items p inner (Pop ∷ (ops_of later ++ rest)) (g ∷ groups) transparent
    ∙ run_items p later rest groups (cond (has area p) (laid m (acted p inner transparent) o d) d))

-- and so the value of their operations is this colour
pub value_of_items : (p : Point) (items : Items) (d : Colour) → value (ops_of items) p d ≡ acted p items d
unfolding value run
value_of_items p items d = ap (λ ops. run p ops [] d) (sym (append-nil (ops_of items))) ∙ run_items p items [] [] d
