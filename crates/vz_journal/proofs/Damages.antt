-- The damage of a drawn frame, by its numbers.
use Rattle.std.proofs.Common.{◌≡◌, ℕ, ℤ, pos, ◌<◌, ◌≤◌, ◌+◌, true, ◌&&◌, ltb, leb, ap, ◌∙◌, arith, ltb-true, leb-true, le-ltb, to_z}
use Rattle.std.proofs.Common.{w32}
use Rattle.std.proofs.lemmas.Bool.{and_parts, or_from}
use Rattle.std.proofs.lemmas.Int.{to_z_pos}
use Rattle.vz_geom.specs.Rectangle.{with_sides}
use Rattle.vz_journal.specs.Reading.{is_drawn, drawn_on}
use Rattle.vz_journal.proofs.Chosen.{skip}

abbrev pub IsDrawn : ℕ → ℕ → ℕ → ℕ → Type 0
IsDrawn x y w h = (0 < w) × (0 < h) × (x + w ≤ 2048) × (y + h ≤ 2048)

pub drawn_parts : (x y w h : ℕ) → is_drawn x y w h ≡ true → IsDrawn x y w h
drawn_parts x y w h fits =
    let t2 = and_parts (ltb 0 w && ltb 0 h && leb (x + w) 2048) (leb (y + h) 2048) fits in
    let t1 = and_parts (ltb 0 w && ltb 0 h) (leb (x + w) 2048) t2.0 in
    let t0 = and_parts (ltb 0 w) (ltb 0 h) t1.0 in
    (ltb-true 0 w t0.0, ltb-true 0 h t0.1, leb-true (x + w) 2048 t1.1, leb-true (y + h) 2048 t2.1)

sides : (x y w h : ℕ) → 0 < w → 0 < h → with_sides (pos x) (pos y) (pos w) (pos h) ≡ drawn_on x y w h
unfolding with_sides
sides x y w h wide high = skip _ _ _ (or_from (ltb w 1) (ltb h 1) (le-ltb w 1 wide) (le-ltb h 1 high))

-- the rectangle that is made of the numbers
pub drawn_sides : (x y w h : ℕ) → is_drawn x y w h ≡ true → with_sides (to_z w32 x) (to_z w32 y) (to_z w32 w) (to_z w32 h) ≡ drawn_on x y w h
drawn_sides x y w h fits =
    let parts = drawn_parts x y w h fits in
    let is_x : to_z w32 x ≡ pos x = to_z_pos w32 x (omega (arith, parts.0, parts.2)) in
    let is_y : to_z w32 y ≡ pos y = to_z_pos w32 y (omega (arith, parts.1, parts.3)) in
    let is_w : to_z w32 w ≡ pos w = to_z_pos w32 w (omega (arith, parts.2)) in
    let is_h : to_z w32 h ≡ pos h = to_z_pos w32 h (omega (arith, parts.3)) in
    ap (λ (a : ℤ). with_sides a (to_z w32 y) (to_z w32 w) (to_z w32 h)) is_x ∙ ap (λ (a : ℤ). with_sides (pos x) a (to_z w32 w) (to_z w32 h)) is_y
    ∙ ap (λ (a : ℤ). with_sides (pos x) (pos y) a (to_z w32 h)) is_w ∙ ap (λ (a : ℤ). with_sides (pos x) (pos y) (pos w) a) is_h ∙ sides x y w h parts.0 parts.1
