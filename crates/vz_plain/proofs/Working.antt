-- Each turn leaves less work.
use Rattle.std.proofs.Common.{◌≡◌, ℕ, zero, suc, ◌+◌, ◌-◌, ◌*◌, ◌≤◌, ◌<◌, List, [], ◌∷◌, ◌++◌, length, sym, ap, ◌∙◌, arith}
use Rattle.std.proofs.Math.Nat.{mul-lt-mul_of_pos_right, add-mul, one-mul}
use Rattle.std.proofs.lemmas.List.{length-append}
use Rattle.std.proofs.lemmas.List.Sums.{sum_by-append}
use Rattle.vz_pixels.specs.Colour.{Colour}
use Rattle.vz_frame.specs.declared.frame.DrawQuad.{DrawQuad}
use Rattle.vz_plain.specs.Levels.{Level, quads_left, row_now, wide, height}
use Rattle.vz_plain.specs.Work.{tower, work, stack_work}

pub tower_some : (h : ℕ) → 0 < tower h
unfolding tower
tower_some zero = omega arith
tower_some (suc h) = let s = tower_some h in omega (arith, s)

tower_up : (h k : ℕ) → tower h ≤ tower (h + k)
unfolding tower
tower_up h zero =
    let same : h + 0 ≡ h = omega arith in
    let equal = ap tower same in
    omega (arith, equal)
tower_up h (suc k) =
    let s = tower_up h k in
    let same : h + suc k ≡ suc (h + k) = omega arith in
    let equal : tower (h + suc k) ≡ wide * tower (h + k) = ap tower same in
    omega (arith, s, equal)

-- so few quads of a lower pass are less than one of this
pub lower_is_less : (h g n : ℕ) → h < g → n < wide → n * tower h < tower g
unfolding tower
lower_is_less h g n less few =
    let same : suc h + (g - suc h) ≡ g = omega (arith, less) in
    let up : wide * tower h ≤ tower (suc h + (g - suc h)) = tower_up (suc h) (g - suc h) in
    let there : tower (suc h + (g - suc h)) ≡ tower g = ap tower same in
    let fewer : n * tower h < wide * tower h = mul-lt-mul_of_pos_right few (tower_some h) in
    omega (arith, up, there, fewer)

-- one quad of a level is painted
module _ (l : Level) (front : List DrawQuad) (quad : DrawQuad) (row : List Colour) (is : l.quads ≡ front ++ quad ∷ []) where
  abbrev after : Level
  after = row_now (quads_left l front) row

  pub one_less : work after + tower (height l.levels l.earlier) ≡ work l
  one_less =
      let t = tower (height l.levels l.earlier) in
      let n : length l.quads ≡ length front + 1 = ap length is ∙ length-append front (quad ∷ []) in
      let more : (length front + 1 + 1) * t ≡ (length front + 1) * t + t = add-mul (length front + 1) 1 t ∙ ap (λ (k : ℕ). (length front + 1) * t + k) (one-mul t) in
      sym more ∙ ap (λ (k : ℕ). (k + 1) * t) (sym n)

-- a level ends
pub finished_less : (stack : List Level) (l : Level) (none : l.quads ≡ []) → stack_work stack < stack_work (stack ++ l ∷ [])
finished_less stack l none =
    let some = tower_some (height l.levels l.earlier) in
    let n = ap length none in
    let one : (0 + 1) * tower (height l.levels l.earlier) ≡ work l = ap (λ (k : ℕ). (k + 1) * tower (height l.levels l.earlier)) (sym n) in
    let all = sum_by-append work stack (l ∷ []) in
    omega (arith, some, one, all)

pub same_work : (stack : List Level) (g : Level) (new : List Colour) → stack_work (stack ++ row_now g new ∷ []) ≡ stack_work (stack ++ g ∷ [])
same_work stack g new = sum_by-append work stack (row_now g new ∷ []) ∙ sym (sum_by-append work stack (g ∷ []))
