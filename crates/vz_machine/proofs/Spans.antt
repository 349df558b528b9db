-- Spans of a row of pixels are patches of one row.
use Rattle.std.proofs.Common.{◌≡◌, ℕ, ◌+◌, ◌-◌, ◌*◌, ◌/◌, ◌%◌, ◌<◌, ◌≤◌, ℤ, pos, nat_abs, ◌+ℤ◌, Bool, true, false, inl, inr, ◌&&◌, if◌then◌else◌, List, ◌++◌, length, take, drop, get_or, refl, sym, ap, ◌∙◌, mul_comm, length-append, length-drop, arith}
use Rattle.std.specs.Prelude.{nat_le, nat_lt}
use Rattle.std.proofs.{Math.Nat.mul-le-mul_right, Math.Nat.mod-add-div', Math.Nat.mod-lt, lemmas.Bool.Decides.nat_tests, lemmas.Grind.common_steps}
use Rattle.std.proofs.{lemmas.Nat.div_below, lemmas.Bool.cases_lt, lemmas.Int.ints}
use Rattle.std.proofs.lemmas.List.{length-take-le, ext_get_or, get_or-take, get_or-drop, get_or_append_left, get_or-append_right}
use Rattle.vz_geom.specs.{declared.Size.Size, Rectangle.Rectangle, Rectangle.has, Rectangle.points_of, Rectangle.sized, Display.IsDisplaySize}
use Rattle.vz_geom.proofs.Sets.{to_in, of_in, both, and_true}
use Rattle.vz_pixels.specs.Colour.{Colour, black}
use Rattle.vz_buffers.specs.Canvas.{pixel_count, pixel_place, span_put}
use Rattle.vz_rules.specs.Frames.{patched}
use Rattle.vz_machine.specs.Pictured.{IsInside, row_of}
use Rattle.vz_machine.proofs.Points.{point, points_at, length_points, patched_at, length_patched}
pub use Rattle.vz_geom.proofs.Sets.{same_test as same_tests}

-- a pixel of the span where a place is in it, and the old one elsewhere
put_at : (olds news : List Colour) (a w i : ℕ) (d : Colour) → a + w ≤ length olds → length news ≡ length olds → i < length olds
    → get_or (take a olds ++ take w (drop a news) ++ drop (a + w) olds) i d ≡ (if nat_le a i && nat_lt i (a + w) then get_or news i d else get_or olds i d)
put_at olds news a w i d fits same low = by_places (nat_le a i) (nat_lt i (a + w)) refl refl
  where
    front : List Colour
    front = take a olds

    row : List Colour
    row = take w (drop a news)

    rest : List Colour
    rest = drop (a + w) olds

    front_long : length (take a olds) ≡ a
    front_long = length-take-le a olds (omega arith)

    row_long : length (take w (drop a news)) ≡ w
    row_long = length-take-le w (drop a news) (let left : length (drop a news) ≡ length news - a = length-drop a news in omega (arith, left, same))

    both_long : length (take a olds ++ take w (drop a news)) ≡ a + w
    both_long = let l = length-append (take a olds) (take w (drop a news)) in let f = front_long in let r = row_long in omega (arith, l, f, r)

    by_places : (t u : Bool) → nat_le a i ≡ t → nat_lt i (a + w) ≡ u
        → get_or (take a olds ++ take w (drop a news) ++ drop (a + w) olds) i d ≡ (if t && u then get_or news i d else get_or olds i d)
    by_places false u e f =
        let before : i < a = grind (arith, e) in
        let f_long = front_long in
        let b_long = both_long in
        get_or_append_left (take a olds ++ take w (drop a news)) (drop (a + w) olds) d i (omega (arith, b_long))
        ∙ (get_or_append_left (take a olds) (take w (drop a news)) d i (omega (arith, f_long)) ∙ get_or-take a olds i d before)
    by_places true true e f =
        let from : a ≤ i = grind (arith, e) in
        let upto : i < a + w = grind (arith, f) in
        let b_long = both_long in
        let in_it : i - a < w = omega arith in
        let back : a + (i - a) ≡ i = omega arith in
        get_or_append_left (take a olds ++ take w (drop a news)) (drop (a + w) olds) d i (omega (arith, b_long))
        ∙ (get_or-append_right (take a olds) (take w (drop a news)) a i d front_long from
        ∙ (get_or-take w (drop a news) (i - a) d in_it ∙ (get_or-drop a news (i - a) d ∙ ap (λ k. get_or news k d) back)))
    by_places true false e f =
        let past : a + w ≤ i = grind (arith, f) in
        let back : (a + w) + (i - (a + w)) ≡ i = omega arith in
        get_or-append_right (take a olds ++ take w (drop a news)) (drop (a + w) olds) (a + w) i d both_long past
        ∙ (get_or-drop (a + w) olds (i - (a + w)) d ∙ ap (λ k. get_or olds k d) back)

put_long : (olds news : List Colour) (a w : ℕ) → a + w ≤ length olds → length news ≡ length olds → length (take a olds ++ take w (drop a news) ++ drop (a + w) olds) ≡ length olds
put_long olds news a w fits same = grind (arith, nat_tests, common_steps, length-take-le a olds, length-take-le w (drop a news))

earlier : (w x y y' : ℕ) → x < w → y < y' → y * w + x < y' * w
earlier w x y y' across down = grind (arith, nat_tests, mul-le-mul_right)

-- a point is in a span of a row where its place is
span_has : (w x y n a b : ℕ) → x + n ≤ w → a < w → has (record { x = pos x; y = pos y; w = pos n; h = pos 1 }) (point a b) ≡ (nat_le (y * w + x) (b * w + a) && nat_lt (b * w + a) (y * w + x + n))
span_has w x y n a b fits across = same_tests (has (record { x = pos x; y = pos y; w = pos n; h = pos 1 }) (point a b)) (nat_le (y * w + x) (b * w + a) && nat_lt (b * w + a) (y * w + x + n)) there back
  where
    there : has (record { x = pos x; y = pos y; w = pos n; h = pos 1 }) (point a b) ≡ true → (nat_le (y * w + x) (b * w + a) && nat_lt (b * w + a) (y * w + x + n)) ≡ true
    there h =
        let i = to_in (record { x = pos x; y = pos y; w = pos n; h = pos 1 }) (point a b) h in
        let left = i.left in
        let right = i.right in
        let top = i.top in
        let bottom = i.bottom in
        let row : y ≡ b = omega (arith, ints, top, bottom) in
        let same : y * w ≡ b * w = ap (λ k. k * w) row in
        let from : x ≤ a = omega (arith, ints, left) in
        let upto : a < x + n = omega (arith, ints, right) in
        let low : y * w + x ≤ b * w + a = omega (arith, same) in
        let high : b * w + a < y * w + x + n = omega (arith, same) in
        and_true (nat_le (y * w + x) (b * w + a)) (nat_lt (b * w + a) (y * w + x + n)) (grind (arith, low)) (grind (arith, high))

    not_above : y * w + x ≤ b * w + a → b < y → ⊥
    not_above low less = let e = earlier w a b y across less in omega (arith, e, low)

    not_below : b * w + a < y * w + x + n → y < b → ⊥
    not_below high less =
        let rows : (y + 1) * w ≤ b * w = mul-le-mul_right w (omega arith) in
        let one : (y + 1) * w ≡ y * w + w = grind arith in
        omega (arith, rows, one, high, fits)

    ends : y * w + x ≤ b * w + a → b * w + a < y * w + x + n → y ≡ b
    ends low high =
        elim (cases_lt y b) [
          | inl less ↦ absurd (not_below high less)
          | inr most ↦ elim (cases_lt b y) [ inl less ↦ absurd (not_above low less) | inr least ↦ omega (arith, most, least) ]
        ]

    back : (nat_le (y * w + x) (b * w + a) && nat_lt (b * w + a) (y * w + x + n)) ≡ true → has (record { x = pos x; y = pos y; w = pos n; h = pos 1 }) (point a b) ≡ true
    back t =
        let parts = both (nat_le (y * w + x) (b * w + a)) (nat_lt (b * w + a) (y * w + x + n)) t in
        let first = parts.0 in
        let second = parts.1 in
        let low : y * w + x ≤ b * w + a = grind (arith, first) in
        let high : b * w + a < y * w + x + n = grind (arith, second) in
        let row : y ≡ b = ends low high in
        let same : y * w ≡ b * w = ap (λ k. k * w) row in
        let from : x ≤ a = omega (arith, same) in
        let upto : a < x + n = omega (arith, same) in
        of_in (record { x = pos x; y = pos y; w = pos n; h = pos 1 }) (point a b)
        (record { left = omega (arith, ints, from); right = omega (arith, ints, upto); top = omega (arith, ints, row); bottom = omega (arith, ints, row) })

-- a place of a display is that of its column and row
pub place_is : (w i : ℕ) → 0 < w → (i / w) * w + i % w ≡ i
place_is w i some = let e = mod-add-div' i w in omega (arith, e)

-- a span of a row is a patch of that row
span_is_patch : (size : Size) (x y n : ℕ) (news olds : List Colour) → 0 < nat_abs size.w → x + n ≤ nat_abs size.w → y < nat_abs size.h → length news ≡ nat_abs size.h * nat_abs size.w
    → length olds ≡ nat_abs size.h * nat_abs size.w
    → take (y * nat_abs size.w + x) olds ++ take n (drop (y * nat_abs size.w + x) news) ++ drop (y * nat_abs size.w + x + n) olds
    ≡ patched (record { x = pos x; y = pos y; w = pos n; h = pos 1 }) (points_of size) news olds
span_is_patch size x y n news olds wide across down all old_all =
    ext_get_or black put patches (long ∙ sym patch_long) same_at
  where
    w : ℕ
    w = nat_abs size.w

    put : List Colour
    put = take (y * nat_abs size.w + x) olds ++ take n (drop (y * nat_abs size.w + x) news) ++ drop (y * nat_abs size.w + x + n) olds

    part : Rectangle
    part = record { x = pos x; y = pos y; w = pos n; h = pos 1 }

    patches : List Colour
    patches = patched (record { x = pos x; y = pos y; w = pos n; h = pos 1 }) (points_of size) news olds

    fits : y * nat_abs size.w + x + n ≤ length olds
    fits =
        let rows : (y + 1) * nat_abs size.w ≤ nat_abs size.h * nat_abs size.w = mul-le-mul_right (nat_abs size.w) (omega (arith, down)) in
        let one : (y + 1) * nat_abs size.w ≡ y * nat_abs size.w + nat_abs size.w = grind arith in
        omega (arith, rows, one, across, old_all)

    long : length (take (y * nat_abs size.w + x) olds ++ take n (drop (y * nat_abs size.w + x) news) ++ drop (y * nat_abs size.w + x + n) olds) ≡ length (points_of size)
    long = put_long olds news (y * nat_abs size.w + x) n fits (all ∙ sym old_all) ∙ (old_all ∙ sym (length_points size))

    patch_long : length (patched (record { x = pos x; y = pos y; w = pos n; h = pos 1 }) (points_of size) news olds) ≡ length (points_of size)
    patch_long = length_patched (record { x = pos x; y = pos y; w = pos n; h = pos 1 }) (points_of size) news olds (all ∙ sym (length_points size)) (old_all ∙ sym (length_points size))

    same_at : (i : ℕ) → i < length (take (y * nat_abs size.w + x) olds ++ take n (drop (y * nat_abs size.w + x) news) ++ drop (y * nat_abs size.w + x + n) olds)
        → get_or (take (y * nat_abs size.w + x) olds ++ take n (drop (y * nat_abs size.w + x) news) ++ drop (y * nat_abs size.w + x + n) olds) i black
        ≡ get_or (patched (record { x = pos x; y = pos y; w = pos n; h = pos 1 }) (points_of size) news olds) i black
    same_at i low =
        let part : Rectangle = record { x = pos x; y = pos y; w = pos n; h = pos 1 } in
        let in_long = long in
        let in_points = length_points size in
        let in_it : i < nat_abs size.h * nat_abs size.w = omega (arith, low, in_long, in_points) in
        let in_olds : i < length olds = omega (arith, in_it, old_all) in
        let row : i / nat_abs size.w < nat_abs size.h = div_below i (nat_abs size.w) (nat_abs size.h) wide in_it in
        let column : i % nat_abs size.w < nat_abs size.w = mod-lt i wide in
        let back : (i / nat_abs size.w) * nat_abs size.w + i % nat_abs size.w ≡ i = place_is (nat_abs size.w) i wide in
        let here : get_or (points_of size) i (point 0 0) ≡ point (i % nat_abs size.w) (i / nat_abs size.w) =
        ap (λ k. get_or (points_of size) k (point 0 0)) (sym back) ∙ points_at size (i % nat_abs size.w) (i / nat_abs size.w) (point 0 0) column row in
        let test : has part (get_or (points_of size) i (point 0 0)) ≡ (nat_le (y * nat_abs size.w + x) i && nat_lt i (y * nat_abs size.w + x + n)) =
        ap (has part) here ∙ (span_has (nat_abs size.w) x y n (i % nat_abs size.w) (i / nat_abs size.w) across column
        ∙ ap (λ k. nat_le (y * nat_abs size.w + x) k && nat_lt k (y * nat_abs size.w + x + n)) back) in
        put_at olds news (y * nat_abs size.w + x) n i black fits (all ∙ sym old_all) in_olds
        ∙ (ap (λ t. if t then get_or news i black else get_or olds i black) (sym test)
        ∙ sym (patched_at part (points_of size) news olds i (point 0 0) black (all ∙ sym (length_points size)) (old_all ∙ sym (length_points size)) (omega (arith, in_it, in_points))))

pub row_length : (news : List Colour) (a n : ℕ) → a + n ≤ length news → length (take n (drop a news)) ≡ n
row_length news a n fits = grind (arith, nat_tests, common_steps, length-take-le n (drop a news))

-- a row of an area stands inside the pixels
pub place_fits : (size : Size) (area : Rectangle) (below : ℕ) (news : List Colour) → IsDisplaySize size → IsInside (sized size) area → below < nat_abs area.h → length news ≡ pixel_count size
    → pixel_place size area.x (area.y +ℤ pos below) + nat_abs area.w ≤ length news
place_fits size area below news sides inside low all =
    let left = inside.left in
    let top = inside.top in
    let right = inside.right in
    let bottom = inside.bottom in
    let some = inside.wide in
    let y : ℤ = area.y +ℤ pos below in
    let down : nat_abs y < nat_abs size.h = omega (arith, ints, top, bottom, low) in
    let across : nat_abs area.x + nat_abs area.w ≤ nat_abs size.w = omega (arith, ints, left, right, some) in
    let rows : (nat_abs y + 1) * nat_abs size.w ≤ nat_abs size.h * nat_abs size.w = mul-le-mul_right (nat_abs size.w) (omega (arith, down)) in
    let one : (nat_abs y + 1) * nat_abs size.w ≡ nat_abs y * nat_abs size.w + nat_abs size.w = grind arith in
    let turned : nat_abs size.h * nat_abs size.w ≡ nat_abs size.w * nat_abs size.h = mul_comm (nat_abs size.h) (nat_abs size.w) in
    omega (arith, rows, one, across, all, turned)

-- the row of an area that is put is patched
pub row_painted : (size : Size) (area : Rectangle) (below : ℕ) (news olds : List Colour) → IsDisplaySize size → IsInside (sized size) area → below < nat_abs area.h
    → length news ≡ pixel_count size → length olds ≡ pixel_count size
    → span_put olds (pixel_place size area.x (area.y +ℤ pos below)) (take (nat_abs area.w) (drop (pixel_place size area.x (area.y +ℤ pos below)) news))
    ≡ patched (row_of area below) (points_of size) news olds
unfolding span_put
row_painted size area below news olds sides inside low all old_all = grind (arith, nat_tests, ints, place_fits, row_length, span_is_patch)
