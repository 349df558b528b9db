-- The points of a display by their places, and colours that are patched.
use Rattle.std.proofs.Common.{◌≡◌, ℕ, zero, suc, ◌+◌, ◌*◌, ◌<◌, ℤ, pos, nat_abs, ◌+ℤ◌, Bool, true, false, ◌||◌, if◌then◌else◌, List, [], ◌∷◌, ◌++◌, length, map, get_or, refl, sym, ap, ◌∙◌, arith}
use Rattle.std.proofs.{lemmas.Int.ints, lemmas.List.length-append, lemmas.Bool.Decides.nat_tests}
use Rattle.vz_geom.specs.{declared.Point.Point, declared.Size.Size}
use Rattle.vz_geom.specs.Rectangle.{Rectangle, has, row_points, rows_points, points_of}
use Rattle.vz_pixels.specs.Colour.{Colour}
use Rattle.vz_rules.specs.Frames.{patched}

-- Points

abbrev pub point : ℕ → ℕ → Point
point x y = record { x = pos x; y = pos y }

length_row : (n : ℕ) (x y : ℤ) → length (row_points n x y) ≡ n
length_row zero x y = refl
length_row (suc n) x y = ap suc (length_row n (x +ℤ pos 1) y)

length_rows : (h w : ℕ) (y : ℤ) → length (rows_points h w y) ≡ h * w
length_rows zero w y = sym (omega arith)
length_rows (suc h) w y = grind (arith, nat_tests, length-append (row_points w (pos 0) y), length_row w (pos 0) y, length_rows h w)

pub length_points : (size : Size) → length (points_of size) ≡ nat_abs size.h * nat_abs size.w
unfolding points_of
length_points size = length_rows (nat_abs size.h) (nat_abs size.w) (pos 0)

row_at : (n s x : ℕ) (y : ℤ) (d : Point) → x < n → get_or (row_points n (pos s) y) x d ≡ record { x = pos (s + x); y = y }
row_at zero s x y d low = absurd (omega arith)
row_at (suc n) s zero y d low = grind (arith, nat_tests)
row_at (suc n) s (suc x) y d low = grind (arith, nat_tests, ints, row_at n)

in_front : {A : Type 0} (xs ys : List A) (i : ℕ) (d : A) → i < length xs → get_or (xs ++ ys) i d ≡ get_or xs i d
in_front [] ys i d low = absurd (omega arith)
in_front (x ∷ xs) ys zero d low = refl
in_front (x ∷ xs) ys (suc i) d low = grind (arith, nat_tests, in_front xs ys i d)

behind : {A : Type 0} (xs ys : List A) (i : ℕ) (d : A) → get_or (xs ++ ys) (length xs + i) d ≡ get_or ys i d
behind [] ys i d = grind (arith, nat_tests)
behind (x ∷ xs) ys i d = grind (arith, nat_tests, behind xs ys i d)

rows_at : (h w s x y : ℕ) (d : Point) → x < w → y < h → get_or (rows_points h w (pos s)) (y * w + x) d ≡ point x (s + y)
rows_at zero w s x y d across down = absurd (omega arith)
rows_at (suc h) w s x zero d across down =
    let first : zero * w + x ≡ x = grind arith in
    let same : s ≡ s + 0 = omega arith in
    let wide : length (row_points w (pos 0) (pos s)) ≡ w = length_row w (pos 0) (pos s) in
    let zero_more : 0 + x ≡ x = omega arith in
    ap (λ k. get_or (row_points w (pos 0) (pos s) ++ rows_points h w (pos s +ℤ pos 1)) k d) first
    ∙ (in_front (row_points w (pos 0) (pos s)) (rows_points h w (pos s +ℤ pos 1)) x d (omega (arith, wide))
    ∙ (row_at w 0 x (pos s) d across ∙ (ap (λ k. record { x = pos k; y = pos s }) zero_more ∙ ap (λ k. point x k) same)))
rows_at (suc h) w s x (suc y) d across down =
    let row = row_points w (pos 0) (pos s) in
    let wide : length row ≡ w = length_row w (pos 0) (pos s) in
    let far : suc y * w + x ≡ w + (y * w + x) = grind arith in
    let far_in : suc y * w + x ≡ length row + (y * w + x) = far ∙ ap (λ k. k + (y * w + x)) (sym wide) in
    let next : (pos s +ℤ pos 1) ≡ pos (s + 1) = omega (arith, ints) in
    let same : (s + 1) + y ≡ s + suc y = omega arith in
    ap (λ k. get_or (row ++ rows_points h w (pos s +ℤ pos 1)) k d) far_in
    ∙ (behind row (rows_points h w (pos s +ℤ pos 1)) (y * w + x) d
    ∙ (ap (λ z. get_or (rows_points h w z) (y * w + x) d) next ∙ (rows_at h w (s + 1) x y d across (omega arith) ∙ ap (λ k. point x k) same)))

-- the point at a place of a display
pub points_at : (size : Size) (x y : ℕ) (d : Point) → x < nat_abs size.w → y < nat_abs size.h → get_or (points_of size) (y * nat_abs size.w + x) d ≡ point x y
unfolding points_of
points_at size x y d across down = grind (arith, nat_tests, rows_at (nat_abs size.h) (nat_abs size.w) 0 x y d across down)

pub map_at : {A B : Type 0} (f : A → B) (xs : List A) (i : ℕ) (a : A) (b : B) → i < length xs → get_or (map f xs) i b ≡ f (get_or xs i a)
map_at f [] i a b low = absurd (omega arith)
map_at f (x ∷ xs) zero a b low = refl
map_at f (x ∷ xs) (suc i) a b low = grind (arith, nat_tests, map_at f xs i a b)

-- Patches

pub length_patched : (part : Rectangle) (ps : List Point) (news olds : List Colour) → length news ≡ length ps → length olds ≡ length ps → length (patched part ps news olds) ≡ length ps
unfolding patched
length_patched part [] [] olds n o = refl
length_patched part [] (x ∷ news) olds n o = absurd (omega (arith, n))
length_patched part (p ∷ ps) [] olds n o = absurd (omega (arith, n))
length_patched part (p ∷ ps) (x ∷ news) [] n o = absurd (omega (arith, o))
length_patched part (p ∷ ps) (x ∷ news) (y ∷ olds) n o = grind (arith, nat_tests, length_patched part ps news olds)

pub patched_at : (part : Rectangle) (ps : List Point) (news olds : List Colour) (i : ℕ) (p : Point) (d : Colour) → length news ≡ length ps → length olds ≡ length ps → i < length ps
    → get_or (patched part ps news olds) i d ≡ (if has part (get_or ps i p) then get_or news i d else get_or olds i d)
unfolding patched
patched_at part [] news olds i p d n o low = absurd (omega arith)
patched_at part (q ∷ ps) [] olds i p d n o low = absurd (omega (arith, n))
patched_at part (q ∷ ps) (x ∷ news) [] i p d n o low = absurd (omega (arith, o))
patched_at part (q ∷ ps) (x ∷ news) (y ∷ olds) zero p d n o low = refl
patched_at part (q ∷ ps) (x ∷ news) (y ∷ olds) (suc i) p d n o low = grind (arith, nat_tests, patched_at part ps news olds i p d)

-- a part without a point of the list changes nothing
pub patched_none : (part : Rectangle) (ps : List Point) (news olds : List Colour) → length news ≡ length ps → length olds ≡ length ps → ((p : Point) → has part p ≡ false) → patched part ps news olds ≡ olds
unfolding patched
patched_none part [] [] [] n o h = refl
patched_none part [] [] (y ∷ olds) n o h = absurd (omega (arith, o))
patched_none part [] (x ∷ news) olds n o h = absurd (omega (arith, n))
patched_none part (p ∷ ps) [] olds n o h = absurd (omega (arith, n))
patched_none part (p ∷ ps) (x ∷ news) [] n o h = absurd (omega (arith, o))
patched_none part (p ∷ ps) (x ∷ news) (y ∷ olds) n o h = grind (arith, nat_tests, patched_none part ps news olds)

-- two parts are painted one after the other
pub patched_twice : (one two both : Rectangle) (ps : List Point) (news olds : List Colour) → length news ≡ length ps → length olds ≡ length ps → ((p : Point) → has both p ≡ (has two p || has one p))
    → patched two ps news (patched one ps news olds) ≡ patched both ps news olds
unfolding patched
patched_twice one two both [] [] olds n o h = refl
patched_twice one two both [] (x ∷ news) olds n o h = absurd (omega (arith, n))
patched_twice one two both (p ∷ ps) [] olds n o h = absurd (omega (arith, n))
patched_twice one two both (p ∷ ps) (x ∷ news) [] n o h = absurd (omega (arith, o))
patched_twice one two both (p ∷ ps) (x ∷ news) (y ∷ olds) n o h =
    let fewer : length news ≡ length ps = omega (arith, n) in
    let less : length olds ≡ length ps = omega (arith, o) in
    ap (λ c. c ∷ patched two ps news (patched one ps news olds)) (chosen (has two p) (has one p) x y ∙ ap (λ t. if t then x else y) (sym (h p)))
    ∙ ap (λ l. (if has both p then x else y) ∷ l) (patched_twice one two both ps news olds fewer less h)
  where
    chosen : (t u : Bool) (x y : Colour) → (if t then x else (if u then x else y)) ≡ (if t || u then x else y)
    chosen true u x y = refl
    chosen false u x y = refl
