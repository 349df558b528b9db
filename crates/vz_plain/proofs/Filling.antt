-- Rows that are filled from the first column on, and pictures from the first row on.
use Rattle.std.proofs.Common.{◌≡◌, ℕ, zero, suc, ◌+◌, ◌-◌, ◌≤◌, ◌<◌, true, false, ℤ, pos, ◌+ℤ◌, Option, Some, None, List, [], ◌∷◌, ◌++◌, map, length, get_or, refl, sym, ap, ◌∙◌, arith, append_assoc}
use Rattle.std.specs.Option.{option_and_then}
use Rattle.std.proofs.lemmas.Int.{ints}
use Rattle.std.proofs.lemmas.List.{map-append}
use Rattle.vz_geom.specs.declared.Point.{Point}
use Rattle.vz_geom.specs.declared.Size.{Size}
use Rattle.vz_geom.proofs.Points.{same_point}
use Rattle.vz_geom.specs.Rectangle.{row_points, rows_points, points_of, has, sized}
use Rattle.vz_ids.specs.declared.SurfaceId.{SurfaceId}
use Rattle.vz_frame.specs.Frame.{frame_size}
use Rattle.vz_pixels.specs.Colour.{Colour, transparent, black}
use Rattle.vz_rules.specs.World.{FrameData, frame_on}
use Rattle.vz_rules.specs.Scene.{scene_at}
use Rattle.vz_rules.specs.Paint.{full, picture, pix, levels}
use Rattle.vz_rules.specs.Frames.{picture_of}
use Rattle.vz_plain.specs.Rows.{right_of, IsPainted}
use Rattle.vz_plain.specs.Shown.{colour_of}

next_pos : (x : ℕ) → pos x +ℤ pos 1 ≡ pos (x + 1)
next_pos x = omega (arith, ints)

one_less : (w x : ℕ) → x < w → w - x ≡ suc (w - (x + 1))
one_less w x h = omega arith

-- so many columns, and then the others
row_split : (n m : ℕ) (x y : ℤ) → row_points (n + m) x y ≡ row_points n x y ++ row_points m (x +ℤ pos n) y
row_split zero m x y =
    let none : 0 + m ≡ m = omega arith in
    let still : x ≡ x +ℤ pos 0 = omega (arith, ints) in
    ap (λ k. row_points k x y) none ∙ ap (λ z. row_points m z y) still
row_split (suc n) m x y =
    let one : suc n + m ≡ suc (n + m) = omega arith in
    let sum : (x +ℤ pos 1) +ℤ pos n ≡ x +ℤ pos (suc n) = omega (arith, ints) in
    ap (λ k. row_points k x y) one ∙ ap (λ ps. record { x = x; y = y } ∷ ps) (row_split n m (x +ℤ pos 1) y ∙ ap (λ z. row_points n (x +ℤ pos 1) y ++ row_points m z y) sum)

-- a row of colours that are those of its points
pub row_is : (f : Point → Colour) (n : ℕ) (x y : ℤ) (part : List Colour) → length part ≡ n → ((i : ℕ) → i < n → get_or part i transparent ≡ f (record { x = x +ℤ pos i; y = y }))
    → part ≡ map f (row_points n x y)
row_is f zero x y [] e each = refl
row_is f zero x y (c ∷ cs) e each = absurd (omega (arith, e))
row_is f (suc n) x y [] e each = absurd (omega (arith, e))
row_is f (suc n) x y (c ∷ cs) e each =
    let first : c ≡ f (record { x = x; y = y }) = each 0 (omega arith) ∙ ap f (same_point (omega (arith, ints)) refl) in
    let rest : cs ≡ map f (row_points n (x +ℤ pos 1) y) =
    row_is f n (x +ℤ pos 1) y cs (omega (arith, e)) (λ i low. each (suc i) (omega (arith, low)) ∙ ap f (same_point (omega (arith, ints)) refl))
    in
    λ j. first j ∷ rest j

-- a piece of a row that is painted
pub piece_is : (f : Point → Colour) (n x y : ℕ) (start : Point) (old part : List Colour) → start ≡ record { x = pos x; y = pos y } → length old ≡ n → IsPainted (λ q d. f q) start old part
    → part ≡ map f (row_points n (pos x) (pos y))
piece_is f n x y start old part at long is =
    row_is f n (pos x) (pos y) part (is.long ∙ long) (λ i low. is.each i (omega (arith, long, low)) ∙ ap (λ q. f (right_of q i)) at)

-- some columns more
pub row_more : (f : Point → Colour) (w x n m : ℕ) (y : ℤ) (xs zs ys : List Colour) → x + n ≤ w → m ≡ x + n → zs ≡ xs ++ map f (row_points n (pos x) y)
    → xs ++ map f (row_points (w - x) (pos x) y) ≡ ys → zs ++ map f (row_points (w - m) (pos m) y) ≡ ys
row_more f w x n m y xs zs ys fits next e filled =
    let left : n + (w - m) ≡ w - x = omega (arith, fits, next) in
    let column : pos x +ℤ pos n ≡ pos m = omega (arith, ints, next) in
    let split : row_points (w - x) (pos x) y ≡ row_points n (pos x) y ++ row_points (w - m) (pos m) y =
    ap (λ k. row_points k (pos x) y) (sym left) ∙ (row_split n (w - m) (pos x) y ∙ ap (λ z. row_points n (pos x) y ++ row_points (w - m) z y) column)
    in
    ap (λ s. s ++ map f (row_points (w - m) (pos m) y)) e
    ∙ (append_assoc xs (map f (row_points n (pos x) y)) (map f (row_points (w - m) (pos m) y))
    ∙ (ap (λ s. xs ++ s) (sym (map-append f (row_points n (pos x) y) (row_points (w - m) (pos m) y)))
    ∙ (ap (λ ps. xs ++ map f ps) (sym split) ∙ filled)))

rows_next : (h w y : ℕ) → y < h → rows_points (h - y) w (pos y) ≡ row_points w (pos 0) (pos y) ++ rows_points (h - (y + 1)) w (pos (y + 1))
rows_next h w y l =
    ap (λ n. rows_points n w (pos y)) (one_less h y l)
    ∙ ap (λ z. row_points w (pos 0) (pos y) ++ rows_points (h - (y + 1)) w z) (next_pos y)

-- one more row
pub rows_more : (f : Point → Colour) (h w y : ℕ) (xs zs ys : List Colour) → y < h → zs ≡ xs ++ map f (row_points w (pos 0) (pos y))
    → xs ++ map f (rows_points (h - y) w (pos y)) ≡ ys → zs ++ map f (rows_points (h - (y + 1)) w (pos (y + 1))) ≡ ys
rows_more f h w y xs zs ys l e filled =
    ap (λ s. s ++ map f (rows_points (h - (y + 1)) w (pos (y + 1)))) e
    ∙ (append_assoc xs (map f (row_points w (pos 0) (pos y))) (map f (rows_points (h - (y + 1)) w (pos (y + 1))))
    ∙ (ap (λ s. xs ++ s) (sym (map-append f (row_points w (pos 0) (pos y)) (rows_points (h - (y + 1)) w (pos (y + 1)))))
    ∙ (ap (λ ps. xs ++ map f ps) (sym (rows_next h w y l)) ∙ filled)))

-- what is shown of a root, by the frame on it
abbrev seen : List FrameData → SurfaceId → Point → Option FrameData → Colour
seen active root p None = black
seen active root p (Some i) = elim (has (sized (frame_size i.frame)) p) [ true ↦ pix levels active [] i p black | false ↦ black ]

of_frame : (size : Size) (active : List FrameData) (root : SurfaceId) (o : Option FrameData) → frame_on root active ≡ o
    → map (full (record { root = root; active = active })) (points_of size)
    ≡ picture_of size (elim o [ Some i ↦ Some (record { root = root; active = active }) | None ↦ None ])
unfolding full picture picture_of
of_frame size active root (Some i) e = refl
of_frame size active root None e = ap (λ o. map (λ p. seen active root p o) (points_of size)) e

-- the colours of all points are the picture
pub picture_is : (size : Size) (active : List FrameData) (root : Option SurfaceId)
    → map (colour_of active root) (points_of size) ≡ picture_of size (option_and_then (λ (r : SurfaceId). scene_at r active) root)
unfolding picture_of
picture_is size active None = refl
picture_is size active (Some r) = of_frame size active r (frame_on r active) refl
