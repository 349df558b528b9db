-- Each frame that is written has a colour for each point.
use Rattle.std.proofs.Common.{◌≡◌, ℕ, suc, nat_abs, Option, Some, None, List, [], ◌∷◌, ◌++◌, length, map, reverse, refl, sym, ap, ◌∙◌, mul_comm, slice_get}
use Rattle.std.specs.Prelude.{◌-◌}
use Rattle.std.proofs.lemmas.List.{length-map, reverse-append, reverse-reverse}
use Rattle.vz_geom.specs.{declared.Point.Point, declared.Size.Size, Rectangle.Rectangle, Rectangle.points_of}
use Rattle.vz_pixels.specs.Colour.{Colour, black}
use Rattle.vz_buffers.specs.Canvas.{pixel_count}
use Rattle.vz_rules.specs.{Plan.Plan, World.Scene, declared.entry.Entry.Entry, Paint.full, Paint.picture}
use Rattle.vz_rules.specs.Frames.{DrawnFrame, drawn_frames, picture_of, patched, repainted, stale, written_of, written}
use Rattle.vz_machine.proofs.Points.{length_points}

length_of_points : (size : Size) (f : Point → Colour) → length (map f (points_of size)) ≡ pixel_count size
length_of_points size f = length-map (points_of size) f ∙ (length_points size ∙ mul_comm (nat_abs size.h) (nat_abs size.w))

length_picture : (size : Size) (o : Option Scene) → length (picture_of size o) ≡ pixel_count size
unfolding picture_of picture
length_picture size None = length_of_points size (λ p. black)
length_picture size (Some scene) = length_of_points size (full scene)

length_patched : (part : Rectangle) (ps : List Point) (news olds : List Colour) → length (patched part ps news olds) ≡ length news
unfolding patched
length_patched part [] news olds = refl
length_patched part (p ∷ ps) [] olds = refl
length_patched part (p ∷ ps) (new ∷ news) [] = refl
length_patched part (p ∷ ps) (new ∷ news) (old ∷ olds) = ap suc (length_patched part ps news olds)

length_repainted : (size : Size) (part : Rectangle) (scene : Option Scene) (old : Option (List Colour)) → length (repainted size part scene old) ≡ pixel_count size
unfolding repainted
length_repainted size part scene None = length_picture size scene
length_repainted size part scene (Some old) = length_patched part (points_of size) (picture_of size scene) old ∙ length_picture size scene

first_same : {A : Type 0} {x y : A} {xs ys : List A} → x ∷ xs ≡ y ∷ ys → x ≡ y
first_same e = cc

length_newest : (size : Size) (count : ℕ) (drawn : List DrawnFrame) (frame : List Colour) (earlier : List (List Colour)) → written_of size count drawn ≡ frame ∷ earlier → length frame ≡ pixel_count size
unfolding written_of
length_newest size count [] frame earlier is = absurd (cc)
length_newest size count (s ∷ before) frame earlier is =
    ap length (sym (first_same is)) ∙ length_repainted size (stale size count (s ∷ before)) s.scene (slice_get (written_of size count before) (count - 1))

-- the last frame is the newest one
pub newest_is : (p : Plan) (h : List Entry) (count : ℕ) (earlier : List (List Colour)) (frame : List Colour) → written p h count ≡ earlier ++ frame ∷ []
    → written_of p.size count (reverse (drawn_frames p h)) ≡ frame ∷ reverse earlier
unfolding written
newest_is p h count earlier frame last =
    sym (reverse-reverse (written_of p.size count (reverse (drawn_frames p h)))) ∙ (ap reverse last ∙ reverse-append earlier (frame ∷ []))

-- the last frame has all points
pub last_whole : (p : Plan) (h : List Entry) (count : ℕ) (earlier : List (List Colour)) (frame : List Colour) → written p h count ≡ earlier ++ frame ∷ [] → length frame ≡ pixel_count p.size
last_whole p h count earlier frame last = length_newest p.size count (reverse (drawn_frames p h)) frame (reverse earlier) (newest_is p h count earlier frame last)
