-- Rows in which operations draw the same.
use Rattle.std.proofs.Common.{◌≡◌, ℕ, zero, suc, ◌+◌, ◌≤◌, ◌<◌, ℤ, pos, nat_abs, ◌+ℤ◌, Bool, true, false, List, [], ◌∷◌, length, map, get_or, if◌then◌else◌, Some, refl, sym, ap, ◌∙◌, subst, arith, Bor}
use Rattle.std.specs.{Prelude.nat_lt, List.range_with_len}
use Rattle.std.proofs.lemmas.Bool.{ltb-true, ltb-false}
use Rattle.std.proofs.{lemmas.Int.ints, lemmas.List.get_or-map}
use Rattle.vz_geom.specs.{declared.Point.Point, Rectangle.Rectangle, Rectangle.has, Rectangle.plus, Rectangle.minus, Rectangle.corner}
use Rattle.vz_pixels.specs.Colour.{Colour, transparent}
use Rattle.vz_frame.specs.Blending.{laid}
use Rattle.vz_rules.specs.Paint.{texel_of}
use Rattle.vz_flat.specs.declared.op.Op.{Op}
use Rattle.vz_flat.specs.declared.op.Op.TheVariants.{Fill, Blit, Push, Pop}
use Rattle.vz_flat.specs.Ops.{Group, run, value, closed}
use Rattle.vz_paint.specs.{Row.place_in, Strips.strip_of, Alike.IsAlike, Alike.AreRowsAlike}

-- the first operations draw the same in so many rows
abbrev pub AreAlikeUpto : ℤ → ℕ → ℕ → List Op → Type 0
AreAlikeUpto y n k ops = (i : ℕ) (d : Op) → i < k → IsAlike y n (get_or ops i d)

-- what draws the same in some rows does so in fewer
pub alike_fewer : (y : ℤ) (n m : ℕ) (op : Op) → m ≤ n → IsAlike y n op → IsAlike y m op
alike_fewer y n m (Fill area c o b) few is = λ x j low. is x j (omega (arith, low, few))
alike_fewer y n m (Blit area block tx ty o b) few is = (λ x j low. is.0 x j (omega (arith, low, few)), is.1)
alike_fewer y n m (Push area o b) few is = λ x j low. is x j (omega (arith, low, few))
alike_fewer y n m Pop few is = refl

-- one operation more
pub alike_more : (y : ℤ) (n m k : ℕ) (ops : List Op) → m ≤ n → AreAlikeUpto y n k ops → ((d : Op) → IsAlike y m (get_or ops k d)) → AreAlikeUpto y m (k + 1) ops
alike_more y n m k ops few all own = λ i d low. by_test i d low (nat_lt i k) refl
  where
    by_test : (i : ℕ) (d : Op) → i < k + 1 → (t : Bool) → nat_lt i k ≡ t → IsAlike y m (get_or ops i d)
    by_test i d low true e = alike_fewer y n m (get_or ops i d) few (all i d (ltb-true i k e))
    by_test i d low false e =
        let more = ltb-false i k e in
        let same : k ≡ i = omega (arith, low, more) in
        subst (λ j. IsAlike y m (get_or ops j d)) same (own d)

pub not_one : (n : ℕ) → 0 < n → (n ≡ 1 → ⊥) → 1 < n
not_one zero some other = absurd (omega (arith, some))
not_one (suc zero) some other = absurd (other refl)
not_one (suc (suc k)) some other = omega arith

-- the operation at hand
pub alike_at : (ops : List (Bor Op)) (k : ℕ) (op : Bor Op) → k < length ops → op ≡ get_or ops k op → (like : Op → Type 0) → like op.now → (d : Op) → like (get_or (map (λ (r : Bor Op). r.now) ops) k d)
alike_at ops k op low is like own d = subst like (sym (get_or-map (λ r. r.now) ops k op d low ∙ ap (λ r. r.now) (sym is))) own

-- so operations give the same colours in these rows
pub runs_alike : (y : ℤ) (n : ℕ) (ops : List Op) → AreAlikeUpto y n (length ops) ops → (x : ℤ) (j : ℕ) → j < n → (groups : List Group) (d : Colour)
    → run (record { x = x; y = y +ℤ pos j }) ops groups d ≡ run (record { x = x; y = y }) ops groups d
unfolding run
runs_alike y n [] all x j low groups d = refl
runs_alike y n (Fill area c o m ∷ ops) all x j low groups d =
    ap (λ t. run (record { x = x; y = y +ℤ pos j }) ops groups (if t then laid m c o d else d)) (all 0 Pop (omega arith) x j low)
    ∙ runs_alike y n ops (λ i e less. all (suc i) e (omega (arith, less))) x j low groups (if has area (record { x = x; y = y }) then laid m c o d else d)
runs_alike y n (Blit area block tx ty o m ∷ ops) all x j low groups d =
    let own = all 0 Pop (omega arith) in
    let p : Point = record { x = x; y = y +ℤ pos j } in
    let q : Point = record { x = x; y = y } in
    ap (λ t. run p ops groups (if t then laid m (texel_of (Some block) (plus (minus p (corner area)) (record { x = tx; y = ty }))) o d else d)) (own.0 x j low ∙ own.1 x)
    ∙ (runs_alike y n ops (λ i e less. all (suc i) e (omega (arith, less))) x j low groups d
    ∙ sym (ap (λ t. run q ops groups (if t then laid m (texel_of (Some block) (plus (minus q (corner area)) (record { x = tx; y = ty }))) o d else d)) (own.1 x)))
runs_alike y n (Push area o m ∷ ops) all x j low groups d =
    ap (λ t. run (record { x = x; y = y +ℤ pos j }) ops (record { below = d; opacity = o; mode = m; has_point = t } ∷ groups) transparent) (all 0 Pop (omega arith) x j low)
    ∙ runs_alike y n ops (λ i e less. all (suc i) e (omega (arith, less))) x j low (record { below = d; opacity = o; mode = m; has_point = has area (record { x = x; y = y }) } ∷ groups) transparent
runs_alike y n (Pop ∷ ops) all x j low [] d = runs_alike y n ops (λ i e less. all (suc i) e (omega (arith, less))) x j low [] d
runs_alike y n (Pop ∷ ops) all x j low (g ∷ groups) d = runs_alike y n ops (λ i e less. all (suc i) e (omega (arith, less))) x j low groups (closed g d)

pub rows_are_alike : (ops : List Op) (y : ℤ) (n : ℕ) → AreAlikeUpto y n (length ops) ops → AreRowsAlike ops y n
unfolding value
rows_are_alike ops y n all = λ j x d low. runs_alike y n ops all x j low [] d

-- one row is like itself
pub one_is_alike : (ops : List Op) (y : ℤ) → AreRowsAlike ops y 1
one_is_alike ops y = λ j x d low.
    let same : y +ℤ pos j ≡ y = omega (arith, ints, low) in ap (λ z. value ops (record { x = x; y = z }) d) same

-- rows of the strip of an area are the same lists
pub row_like : (ops : List Op) (ground : Colour) (area : Rectangle) (y : ℤ) (from d n : ℕ) → AreRowsAlike ops y n → y ≡ area.y +ℤ pos (from + d) → (j : ℕ) → j < n → (strip_of ops ground area).row (from + (d + j)) ≡ (strip_of ops ground area).row (from + d)
row_like ops ground area y from d n alike is j low = λ t. map (λ i. each i t) (range_with_len 0 (nat_abs area.w))
  where
    further : area.y +ℤ pos (from + (d + j)) ≡ y +ℤ pos j
    further = omega (arith, ints, is)

    each : (i : ℕ) → value ops (place_in area i (from + (d + j))) ground ≡ value ops (place_in area i (from + d)) ground
    each i =
        ap (λ z. value ops (record { x = area.x +ℤ pos i; y = z }) ground) further
        ∙ (alike j (area.x +ℤ pos i) ground low ∙ ap (λ z. value ops (record { x = area.x +ℤ pos i; y = z }) ground) is)
