-- Lists of operations that do to a colour what a function does, whatever comes after them.
use Rattle.std.proofs.Common.{◌≡◌, ℕ, Bool, List, [], ◌∷◌, ◌++◌, refl, ap, sym, ◌∙◌, cond, append-nil, arith}
use Rattle.vz_geom.specs.{declared.Point.Point, Rectangle.Rectangle, Rectangle.has}
use Rattle.vz_geom.proofs.Bounds.{in_is_full}
use Rattle.vz_pixels.specs.Colour.{Colour, transparent}
use Rattle.vz_frame.specs.{declared.blend.Blend.Blend, Blending.laid}
use Rattle.vz_flat.specs.{declared.op.Op.Op, declared.op.Op.TheVariants.Fill, Ops.Group, Ops.run, Ops.value, Parts.seen_flat, Parts.grouped_flat}
use Rattle.std.proofs.{lemmas.Bool.Decides.nat_tests, lemmas.Grind.common_steps}

-- at a point, operations act as a function, whatever comes after them
pub record ActsAs (p : Point) (ops : List Op) (f : Colour → Colour) : Type 0 where
  pub acts : (rest : List Op) (groups : List Group) (d : Colour) → run p (ops ++ rest) groups d ≡ run p rest groups (f d)

pub acts_none : (p : Point) → ActsAs p [] (λ d. d)
acts_none p = record { acts = λ rest groups d. refl }

pub acts_both : (p : Point) (xs ys : List Op) (f g : Colour → Colour) → ActsAs p xs f → ActsAs p ys g → ActsAs p (xs ++ ys) (λ d. g (f d))
acts_both p xs ys f g a b = grind (arith, nat_tests, common_steps)

pub acts_fill : (p : Point) (area : Rectangle) (c : Colour) (o : ℕ) (m : Blend)
    → ActsAs p (Fill area c o m ∷ []) (λ d. cond (has area p) (laid m c o d) d)
unfolding run
acts_fill p area c o m = record { acts = λ rest groups d. refl }

-- a group acts as its content on transparent, laid where its area has the point
pub acts_group : (p : Point) (area : Rectangle) (o : ℕ) (m : Blend) (xs : List Op) (f : Colour → Colour) → ActsAs p xs f
    → ActsAs p (grouped_flat area m o xs) (λ d. cond (has area p) (laid m (f transparent) o d) d)
unfolding run
acts_group p area o m xs f a = grind (arith, nat_tests, common_steps)

pub value_of_acts : (p : Point) (ops : List Op) (f : Colour → Colour) → ActsAs p ops f → (d : Colour) → value ops p d ≡ f d
unfolding value run
value_of_acts p ops f a d = ap (λ xs. run p xs [] d) (sym (append-nil ops)) ∙ a.acts [] [] d

pub acts_same : (p : Point) (xs : List Op) (f g : Colour → Colour) → ((d : Colour) → f d ≡ g d) → ActsAs p xs f → ActsAs p xs g
acts_same p xs f g e a = record { acts = λ rest groups d. a.acts rest groups d ∙ ap (run p rest groups) (e d) }

-- what acts in a part of the display acts so where it is left out of a part without a point
pub acts_seen : (p : Point) (part : Rectangle) (ops : List Op) (f : Colour → Colour) (w : Bool) → has part p ≡ w
    → ActsAs p ops (λ d. cond w (f d) d) → ActsAs p (seen_flat part ops) (λ d. cond w (f d) d)
acts_seen p part ops f w h a = grind (arith, nat_tests, acts_same p [], in_is_full)
