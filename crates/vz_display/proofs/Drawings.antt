-- A display after a list of drawings.
use Rattle.std.proofs.Common.{◌≡◌, ℕ, zero, suc, ◌+◌, ◌-◌, ◌≤◌, ◌<◌, nat_abs, ◌*ℤ◌, min, true, false, if◌then◌else◌, Option, Some, None, List, [], ◌∷◌, ◌++◌, map, take, length, replicate, refl, ap, sym, ◌∙◌, slice_get, unwrap_or, length-append, arith, Contains}
use Rattle.std.specs.Prelude.{nat_lt, nat_le}
use Rattle.std.proofs.lemmas.Int.{unsigned_abs-mul}
use Rattle.std.proofs.lemmas.List.{length-take-le, length-map, length-replicate}
use Rattle.vz_geom.specs.declared.Point.{Point}
use Rattle.vz_geom.specs.declared.Size.{Size}
use Rattle.vz_geom.specs.Rectangle.{Rectangle, has, sized, bound, area_of, points_of}
use Rattle.vz_pixels.specs.Colour.{Colour}
use Rattle.vz_buffers.specs.Canvas.{Canvas}
use Rattle.vz_geom.specs.Display.{IsDisplaySize}
use Rattle.vz_buffers.specs.Turns.{Turns, damaged, turned, turns_after, stale_with}
use Rattle.vz_buffers.proofs.Turning.{stale_is, turns_size}
use Rattle.vz_rules.specs.World.{Scene}
use Rattle.vz_rules.specs.Paint.{full, picture}
use Rattle.vz_rules.specs.Frames.{DrawnFrame, picture_of, stale, patched, repainted, written_of, painted_of}
use Rattle.vz_rules.proofs.Patches.{in_display}
use Rattle.vz_rules.proofs.Members.{contains_here, contains_there}
use Rattle.vz_machine.specs.Pictured.{Pictured, colours_in}
use Rattle.vz_display.specs.Displayed.{Displayed, first_displayed, last_in, pixels_in, making_in, stale_now, steps_for, frame_of, shown, current, buffer_with, display_after, upto_most}

-- What is stale

take_map : {A B : Type 0} (f : A → B) (n : ℕ) (xs : List A) → take n (map f xs) ≡ map f (take n xs)
take_map f zero xs = refl
take_map f (suc n) [] = refl
take_map f (suc n) (x ∷ xs) = ap (λ l. f x ∷ l) (take_map f n xs)

stale_same : (size : Size) (count : ℕ) (drawn : List DrawnFrame) → stale_with size count (map (λ (s : DrawnFrame). s.damage) drawn) ≡ stale size count drawn
unfolding stale_with stale
stale_same size count drawn =
    ap (λ n. if nat_le n count then sized size else bound (take count (map (λ (s : DrawnFrame). s.damage) drawn))) (length-map drawn (λ (s : DrawnFrame). s.damage))
    ∙ ap (λ l. if nat_le (length drawn) count then sized size else bound l) (take_map (λ (s : DrawnFrame). s.damage) count drawn)

stale_after : (size : Size) (count : ℕ) (s : DrawnFrame) (before : List DrawnFrame) → 1 ≤ count → stale_now (display_after size count before) s.damage ≡ stale size count (s ∷ before)
unfolding display_after
stale_after size count s before some = stale_is size count s.damage (map (λ (t : DrawnFrame). t.damage) before) some ∙ stale_same size count (s ∷ before)

-- The buffers

length_written : (size : Size) (count : ℕ) (drawn : List DrawnFrame) → length (written_of size count drawn) ≡ length drawn
unfolding written_of
length_written size count [] = refl
length_written size count (s ∷ before) = ap suc (length_written size count before)

abbrev Kept : Type 0
Kept = List (Option Canvas)

abbrev unmade : ℕ → Kept
unmade m = replicate m None

abbrev no_canvas : Option Canvas
no_canvas = None

never : (n m k : ℕ) → unwrap_or (slice_get (take n (unmade m)) k) no_canvas ≡ no_canvas
never zero m k = refl
never (suc n) zero k = refl
never (suc n) (suc m) zero = refl
never (suc n) (suc m) (suc k) = never n m k

-- the buffer of a frame, if there is one
abbrev made_of : Size → Option (List Colour) → Option Canvas
made_of size None = None
made_of size (Some frame) = buffer_with size frame

last_made : (size : Size) (k m : ℕ) (frames : List (List Colour)) → unwrap_or (slice_get (take (suc k) (map (buffer_with size) frames ++ unmade m)) k) no_canvas ≡ made_of size (slice_get frames k)
last_made size k m [] = never (suc k) m k
last_made size zero m (f ∷ frames) = refl
last_made size (suc k) m (f ∷ frames) = last_made size k m frames

length_kept : (size : Size) (count : ℕ) (frames : List (List Colour)) → length (take count (map (buffer_with size) frames ++ unmade count)) ≡ count
length_kept size count frames =
    let both = length-append (map (buffer_with size) frames) (unmade count) in
    let none : length (unmade count) ≡ count = length-replicate count no_canvas in
    length-take-le count (map (buffer_with size) frames ++ unmade count) (omega (arith, both, none))

less_one : (k : ℕ) → suc k - 1 ≡ k
less_one k = omega arith

-- the next buffer after these drawings
last_is : (size : Size) (k : ℕ) (before : List DrawnFrame) → last_in (display_after size (suc k) before).kept ≡ made_of size (slice_get (written_of size (suc k) before) k)
unfolding display_after
last_is size k before =
    let kept : Kept = take (suc k) (map (buffer_with size) (written_of size (suc k) before) ++ unmade (suc k)) in
    let at' : length kept - 1 ≡ k = ap (λ n. n - 1) (length_kept size (suc k) (written_of size (suc k) before)) ∙ less_one k in
    ap (λ n. unwrap_or (slice_get kept n) no_canvas) at' ∙ last_made size k (suc k) (written_of size (suc k) before)

take_less : {A : Type 0} (k : ℕ) (xs : List A) → take k (take (suc k) xs) ≡ take k xs
take_less zero xs = refl
take_less (suc k) [] = refl
take_less (suc k) (x ∷ xs) = ap (λ l. x ∷ l) (take_less k xs)

-- The steps

get_none : {A : Type 0} (xs : List A) (k : ℕ) → slice_get xs k ≡ None → length xs ≤ k
get_none [] k e = omega arith
get_none (x ∷ xs) zero e = absurd (cc)
get_none (x ∷ xs) (suc k) e = let less = get_none xs k e in omega (arith, less)

get_some : {A : Type 0} (xs : List A) (k : ℕ) (x : A) → slice_get xs k ≡ Some x → k < length xs
get_some [] k y e = absurd (cc)
get_some (x ∷ xs) zero y e = omega arith
get_some (x ∷ xs) (suc k) y e = let less = get_some xs k y e in omega (arith, less)

making_is : (size : Size) (k : ℕ) (before : List DrawnFrame) → making_in size (last_in (display_after size (suc k) before).kept) ≡ (if nat_lt (length before) (suc k) then area_of (sized size) else 0)
unfolding area_of
making_is size k before = ap (making_in size) (last_is size k before) ∙ by_frame (slice_get (written_of size (suc k) before) k) refl
  where
    by_frame : (o : Option (List Colour)) → slice_get (written_of size (suc k) before) k ≡ o → making_in size (made_of size o) ≡ (if nat_lt (length before) (suc k) then area_of (sized size) else 0)
    by_frame None e =
        let many = length_written size (suc k) before in
        let few = get_none (written_of size (suc k) before) k e in
        let test : nat_lt (length before) (suc k) ≡ true = grind (arith, many, few) in
        sym (ap (λ t. if t then nat_abs (size.w *ℤ size.h) else 0) test ∙ unsigned_abs-mul size.w size.h)
    by_frame (Some f) e =
        let many = length_written size (suc k) before in
        let most = get_some (written_of size (suc k) before) k f e in
        let test : nat_lt (length before) (suc k) ≡ false = grind (arith, many, most) in
        sym (ap (λ t. if t then nat_abs (size.w *ℤ size.h) else 0) test)

turns_sized : (size : Size) (count : ℕ) (drawn : List DrawnFrame) → (display_after size count drawn).turns.size ≡ size
unfolding display_after
turns_sized size count drawn = turns_size size count (map (λ (s : DrawnFrame). s.damage) drawn)

steps_by : (size : Size) (k : ℕ) (before : List DrawnFrame) (s : DrawnFrame) → steps_for (display_after size (suc k) before) s.damage + painted_of size (suc k) before ≡ painted_of size (suc k) (s ∷ before)
unfolding steps_for painted_of
steps_by size k before s =
    let d : Displayed = display_after size (suc k) before in
    let earlier : ℕ = painted_of size (suc k) before in
    let sized_is : making_in d.turns.size (last_in d.kept) ≡ making_in size (last_in d.kept) = ap (λ z. making_in z (last_in d.kept)) (turns_sized size (suc k) before) in
    let making : making_in d.turns.size (last_in d.kept) ≡ (if nat_lt (length before) (suc k) then area_of (sized size) else 0) = sized_is ∙ making_is size k before in
    let area : area_of (stale_now d s.damage) ≡ area_of (stale size (suc k) (s ∷ before)) = ap area_of (stale_after size (suc k) s before (omega arith)) in
    added (making_in d.turns.size (last_in d.kept)) (area_of (stale_now d s.damage)) earlier _ _ making area
  where
    added : (a b c a' b' : ℕ) → a ≡ a' → b ≡ b' → (a + b) + c ≡ b' + a' + c
    added a b c a' b' e f = omega (arith, e, f)

pub steps_are : (size : Size) (count : ℕ) (before : List DrawnFrame) (s : DrawnFrame) → 1 ≤ count → steps_for (display_after size count before) s.damage + painted_of size count before ≡ painted_of size count (s ∷ before)
steps_are size zero before s some = absurd (omega arith)
steps_are size (suc k) before s some = steps_by size k before s

-- The frames

-- a part with all points of a list changes all
patched_all : (part : Rectangle) (ps : List Point) (f : Point → Colour) (olds : List Colour) → ((p : Point) → Contains ps p → has part p ≡ true) → patched part ps (map f ps) olds ≡ map f ps
unfolding patched
patched_all part [] f olds h = refl
patched_all part (p ∷ ps) f [] h = refl
patched_all part (p ∷ ps) f (old ∷ olds) h =
    ap (λ t. (if t then f p else old) ∷ patched part ps (map f ps) olds) (h p (contains_here p ps))
    ∙ ap (λ l. f p ∷ l) (patched_all part ps f olds (λ q c. h q (contains_there p q ps c)))

display_size : (size : Size) → IsDisplaySize size → IsDisplaySize size
display_size size is = record { wide = is.wide; not_too_wide = is.not_too_wide; high = is.high; not_too_high = is.not_too_high }

whole_stale : (size : Size) (count : ℕ) (drawn : List DrawnFrame) → length drawn ≤ count → stale size count drawn ≡ sized size
unfolding stale
whole_stale size count drawn few =
    let test : nat_le (length drawn) count ≡ true = grind (arith, few) in
    ap (λ t. if t then sized size else bound (map (λ (s : DrawnFrame). s.damage) (take count drawn))) test

-- the frame of a picture is the one that is written
frame_by : (size : Size) (k : ℕ) (before : List DrawnFrame) (scene : Scene) (p : Pictured) → IsDisplaySize size → p.size ≡ size → colours_in p ≡ picture size scene
    → frame_of (display_after size (suc k) before) p ≡ repainted size (stale size (suc k) (record { scene = Some scene; damage = p.changed } ∷ before)) (Some scene) (slice_get (written_of size (suc k) before) k)
unfolding frame_of repainted picture_of picture
frame_by size k before scene p sides same colours =
    let d : Displayed = display_after size (suc k) before in
    let s : DrawnFrame = record { scene = Some scene; damage = p.changed } in
    let part : Rectangle = stale size (suc k) (s ∷ before) in
    let olds : List Colour = pixels_in d.turns.size (last_in d.kept) in
    ap (λ x. patched x (points_of p.size) (colours_in p) olds) (stale_after size (suc k) s before (omega arith))
    ∙ (ap (λ z. patched part (points_of z) (colours_in p) olds) same
    ∙ (ap (λ l. patched part (points_of size) l olds) colours
    ∙ (ap (λ z. patched part (points_of size) (map (full scene) (points_of size)) (pixels_in z (last_in d.kept))) (turns_sized size (suc k) before)
    ∙ (ap (λ o. patched part (points_of size) (map (full scene) (points_of size)) (pixels_in size o)) (last_is size k before)
    ∙ by_frame (slice_get (written_of size (suc k) before) k) refl))))
  where
    by_frame : (o : Option (List Colour)) → slice_get (written_of size (suc k) before) k ≡ o
        → patched (stale size (suc k) (record { scene = Some scene; damage = p.changed } ∷ before)) (points_of size) (map (full scene) (points_of size)) (pixels_in size (made_of size o))
        ≡ repainted size (stale size (suc k) (record { scene = Some scene; damage = p.changed } ∷ before)) (Some scene) o
    by_frame None e =
        let s : DrawnFrame = record { scene = Some scene; damage = p.changed } in
        let many = length_written size (suc k) before in
        let few = get_none (written_of size (suc k) before) k e in
        let all : stale size (suc k) (s ∷ before) ≡ sized size = whole_stale size (suc k) (s ∷ before) (omega (arith, many, few)) in
        ap (λ x. patched x (points_of size) (map (full scene) (points_of size)) (pixels_in size None)) all
        ∙ patched_all (sized size) (points_of size) (full scene) (pixels_in size None) (λ q c. in_display size q (display_size size sides) c)
    by_frame (Some f) e = refl

more_by : (size : Size) (k : ℕ) (before : List DrawnFrame) (scene : Scene) (p : Pictured) → IsDisplaySize size → p.size ≡ size → colours_in p ≡ picture size scene
    → shown (display_after size (suc k) before) p ≡ display_after size (suc k) (record { scene = Some scene; damage = p.changed } ∷ before)
unfolding shown display_after turns_after written_of
more_by size k before scene p sides same colours =
    let s : DrawnFrame = record { scene = Some scene; damage = p.changed } in
    let d : Displayed = display_after size (suc k) before in
    let frames : List (List Colour) = written_of size (suc k) before in
    let all : Kept = map (buffer_with size) frames ++ unmade (suc k) in
    let turns : Turns = turned (damaged d.turns p.changed) in
    let total : ℕ = upto_most (d.painted + steps_for d p.changed) in
    let at' : slice_get frames k ≡ slice_get frames (suc k - 1) = ap (slice_get frames) (sym (less_one k)) in
    let part : Rectangle = stale size (suc k) (s ∷ before) in
    let frame : frame_of d p ≡ repainted size part (Some scene) (slice_get frames (suc k - 1)) = frame_by size k before scene p sides same colours ∙ ap (repainted size part (Some scene)) at' in
    let few : length d.kept - 1 ≡ k = ap (λ n. n - 1) (length_kept size (suc k) frames) ∙ less_one k in
    let rest : take (length d.kept - 1) d.kept ≡ take k all = ap (λ n. take n d.kept) few ∙ take_less k all in
    let painted : total ≡ upto_most (painted_of size (suc k) (s ∷ before)) = upto (painted_of size (suc k) before) (steps_for d p.changed) (painted_of size (suc k) (s ∷ before)) (steps_by size k before s) in
    ap (λ z. record { turns = turns; kept = buffer_with z (frame_of d p) ∷ take (length d.kept - 1) d.kept; painted = total }) (turns_sized size (suc k) before)
    ∙ (ap (λ l. record { turns = turns; kept = buffer_with size l ∷ take (length d.kept - 1) d.kept; painted = total }) frame
    ∙ (ap (λ l. record { turns = turns; kept = buffer_with size (repainted size part (Some scene) (slice_get frames (suc k - 1))) ∷ l; painted = total }) rest
    ∙ ap (λ n. record { turns = turns; kept = buffer_with size (repainted size part (Some scene) (slice_get frames (suc k - 1))) ∷ take k all; painted = n }) painted))
  where
    upto : (earlier steps all : ℕ) → steps + earlier ≡ all → min (min earlier 18446744073709551615 + steps) 18446744073709551615 ≡ min all 18446744073709551615
    upto earlier steps all e = omega (arith, e)

pub more_is : (size : Size) (count : ℕ) (before : List DrawnFrame) (scene : Scene) (p : Pictured) → IsDisplaySize size → 1 ≤ count → p.size ≡ size → colours_in p ≡ picture size scene
    → shown (display_after size count before) p ≡ display_after size count (record { scene = Some scene; damage = p.changed } ∷ before)
more_is size zero before scene p sides some same colours = absurd (omega arith)
more_is size (suc k) before scene p sides some same colours = more_by size k before scene p sides same colours

take_all_none : (count : ℕ) → take count (unmade count) ≡ unmade count
take_all_none zero = refl
take_all_none (suc count) = ap (λ l. no_canvas ∷ l) (take_all_none count)

pub first_is : (size : Size) (count : ℕ) → display_after size count [] ≡ first_displayed size count
unfolding display_after turns_after written_of painted_of
first_is size count = ap (λ l. record { turns = turns_after size count []; kept = l; painted = 0 }) (take_all_none count)

pub current_is : (size : Size) (count : ℕ) (drawn : List DrawnFrame) (frame : List Colour) (earlier : List (List Colour)) → 1 ≤ count → written_of size count drawn ≡ frame ∷ earlier
    → current (display_after size count drawn) ≡ buffer_with size frame
unfolding display_after
current_is size zero drawn frame earlier some is = absurd (omega arith)
current_is size (suc k) drawn frame earlier some is = ap (λ l. unwrap_or (slice_get (take (suc k) (map (buffer_with size) l ++ unmade (suc k))) 0) no_canvas) is
