-- What a display shows of a picture is what its operations paint.
use Rattle.std.proofs.Common.{◌≡◌, List, map, sym, subst}
use Rattle.std.specs.Prelude.{Result, Ok, Err, IfOk}
use Rattle.vz_geom.specs.{declared.Point.Point, declared.Size.Size, Rectangle.Rectangle, Rectangle.Covers, Rectangle.sized, Rectangle.points_of}
use Rattle.vz_pixels.specs.Colour.{Colour, black}
use Rattle.vz_rules.specs.Frames.{patched}
use Rattle.vz_machine.specs.Pictured.{colours_in}
use Rattle.vz_flat.specs.Ops.{value}
use Rattle.vz_occlude.specs.Pictures.{Flattened, flat_picture, Thinned, thin_picture}

-- each point keeps its colour, and size and damage stay
pub thinned_same : {E : Type 0} (p : Flattened) (r : Result Thinned E) → IfOk r (λ t. t.size ≡ p.size) → IfOk r (λ t. t.damage ≡ p.damage)
    → ((q : Point) (d : Colour) → IfOk r (λ t. value t.ops q d ≡ value p.ops q d))
    → IfOk r (λ t. thin_picture t ≡ flat_picture p)
thinned_same p (Ok t) size damage same = λ i. record { size = size i; colour = λ q. same q black i; changed = damage i }
thinned_same p (Err e) size damage same = tt

-- an area of a buffer is an area of the picture, where the two have the same size
pub covers_there : (p : Thinned) (size : Size) (area : Rectangle) → size ≡ (thin_picture p).size
    → Covers (sized (thin_picture p).size) area → Covers (sized size) area
covers_there p size area same inside = subst (λ s. Covers (sized s) area) (sym same) inside

-- what is painted with the operations is painted with the picture's colours
pub painted_with : (own p : Thinned) (size : Size) (area : Rectangle) (olds : List Colour) → own ≡ p → size ≡ (thin_picture p).size
    → patched area (points_of size) (map (λ q. value own.ops q black) (points_of size)) olds
    ≡ patched area (points_of (thin_picture p).size) (colours_in (thin_picture p)) olds
painted_with own p size area olds is same =
    λ i. patched area (points_of (same i)) (map (λ q. value (is i).ops q black) (points_of (same i))) olds
