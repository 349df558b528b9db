-- What is painted of a whole picture.
use Rattle.std.proofs.Common.{◌≡◌, ◌∙◌, true, List, [], ◌∷◌, map, Contains, refl, sym, ap, if◌then◌else◌}
use Rattle.vz_geom.specs.{declared.Point.Point, Display.IsDisplaySize, Rectangle.Rectangle, Rectangle.has, Rectangle.sized, Rectangle.points_of}
use Rattle.vz_geom.specs.declared.Size.{Size}
use Rattle.vz_pixels.specs.Colour.{Colour, black}
use Rattle.vz_flat.specs.{Ops.value, declared.op.Op.Op}
use Rattle.vz_machine.specs.Pictured.{colours_in}
use Rattle.vz_occlude.specs.Pictures.{Flattened, flat_picture}
use Rattle.vz_rules.specs.Frames.{patched}
use Rattle.vz_rules.proofs.{Members.contains_here, Members.contains_there, Patches.in_display}

-- a part with all points of a list changes all
patched_all :
    (part : Rectangle) (ps : List Point) (f : Point → Colour) (olds : List Colour) → ((p : Point) → Contains ps p → has part p ≡ true)
    → patched part ps (map f ps) olds ≡ map f ps
unfolding patched
patched_all part [] f olds h = refl
patched_all part (p ∷ ps) f [] h = refl
patched_all part (p ∷ ps) f (old ∷ olds) h =
    ap (λ t. (if t then f p else old) ∷ patched part ps (map f ps) olds) (h p (contains_here p ps))
    ∙ ap (λ l. f p ∷ l) (patched_all part ps f olds (λ q c. h q (contains_there p q ps c)))

-- a buffer of this size that is painted whole has the colours of the picture
pub painted_whole :
    (size own : Size) (area : Rectangle) (p : Flattened) (ops : List Op) (olds pixels : List Colour) → IsDisplaySize size → own ≡ size
    → p.size ≡ size → ops ≡ p.ops → area ≡ sized size
    → pixels ≡ patched area (points_of own) (map (λ q. value ops q black) (points_of own)) olds → pixels ≡ colours_in (flat_picture p)
painted_whole size own area p ops olds pixels sides same drawn operations whole is =
    is ∙ (ap (λ (a : Rectangle). patched a (points_of own) (map (λ (q : Point). value ops q black) (points_of own)) olds) whole
    ∙ (ap (λ (s : Size). patched (sized size) (points_of s) (map (λ (q : Point). value ops q black) (points_of s)) olds) same
    ∙ (patched_all (sized size) (points_of size) (λ q. value ops q black) olds (λ q c. in_display size q sides c)
    ∙ (ap (λ (s : Size). map (λ (q : Point). value ops q black) (points_of s)) (sym drawn)
    ∙ ap (λ (o : List Op). map (λ (q : Point). value o q black) (points_of p.size)) operations))))
