-- Each turn of a search leaves less.
use Rattle.std.proofs.Common.{◌≡◌, ℕ, ◌+◌, ◌*◌, ◌^◌, ◌≤◌, ◌<◌, List, [], ◌∷◌, ◌++◌, length, sym, ap, ◌∙◌, arith, subst}
use Rattle.std.proofs.lemmas.List.Sums.{sum_by-append}
use Rattle.std.proofs.lemmas.Nat.{pow_pos, pow-add}
use Rattle.std.proofs.Math.Nat.{mul-lt-mul_of_pos_right}
use Rattle.std.proofs.Math.Pow.{pow_mono}
use Rattle.vz_frame.specs.declared.frame.DrawQuad.{DrawQuad}
use Rattle.vz_plain.specs.Finding.{SearchedPass, with_quads}
use Rattle.vz_plain.specs.Remaining.{many, height_of, share_of, left_of, remaining, IsLower}

share_some : (h : ℕ) → 0 < share_of h
unfolding share_of
share_some h = pow_pos (65 * h)

-- one step higher counts for many
share_up : (h g : ℕ) → h < g → many * share_of h ≤ share_of g
unfolding share_of
share_up h g low =
    let sum : 2 ^ (65 + 65 * h) ≡ many * 2 ^ (65 * h) = pow-add 2 65 (65 * h) in
    let up = pow_mono {i = 65 + 65 * h} {j = 65 * g} (omega (arith, low)) in
    subst (λ (n : ℕ). n ≤ 2 ^ (65 * g)) sum up

-- so few quads of a lower pass are less than one of this
lower_is_less : (h g n : ℕ) → h < g → n < many → n * share_of h < share_of g
lower_is_less h g n low few =
    let up = share_up h g low in
    let less = mul-lt-mul_of_pos_right {m = n} {n = many} {k = share_of h} few (share_some h) in
    omega (arith, up, less)

-- a pass ends
pub done_less : (stack : List SearchedPass) (s : SearchedPass) → remaining stack < remaining (stack ++ s ∷ [])
done_less stack s =
    let some = share_some (height_of s.levels s.earlier) in
    let all = sum_by-append left_of stack (s ∷ []) in
    let one : left_of s ≡ length s.quads * share_of (height_of s.levels s.earlier) + share_of (height_of s.levels s.earlier) = omega (arith) in
    omega (arith, some, one, all)

-- one quad less: `next` is the pass without it
module _ (stack : List SearchedPass) (s next : SearchedPass) (quad : DrawQuad) (is : s.quads ≡ quad ∷ next.quads) (same : next ≡ with_quads s next.quads) where
  one_less : left_of next + share_of (height_of next.levels next.earlier) ≡ left_of s
  one_less =
      let t = share_of (height_of s.levels s.earlier) in
      let more : (length next.quads + 1 + 1) * t ≡ (length next.quads + 1) * t + t = omega (arith) in
      let n : length s.quads ≡ length next.quads + 1 = ap length is ∙ omega arith in
      ap (λ (x : SearchedPass). left_of x + share_of (height_of x.levels x.earlier)) same ∙ (sym more ∙ ap (λ (k : ℕ). (k + 1) * t) (sym n))

  pub quad_less : (new : List SearchedPass) → new ≡ stack ++ next ∷ [] → remaining new < remaining (stack ++ s ∷ [])
  quad_less new pushed =
      let some = share_some (height_of next.levels next.earlier) in
      let one = one_less in
      let now = ap remaining pushed ∙ sum_by-append left_of stack (next ∷ []) in
      let all = sum_by-append left_of stack (s ∷ []) in
      omega (arith, some, one, now, all)

  -- and a lower pass more
  pub inner_less : (inner : SearchedPass) (mid new : List SearchedPass) → IsLower next.levels next.earlier inner → mid ≡ stack ++ next ∷ [] → new ≡ mid ++ inner ∷ []
      → remaining new < remaining (stack ++ s ∷ [])
  inner_less inner mid new lower pushed more =
      let less = lower_is_less (height_of inner.levels inner.earlier) (height_of next.levels next.earlier) (length inner.quads + 1) lower.lower lower.few in
      let one = one_less in
      let both = ap remaining more ∙ sum_by-append left_of mid (inner ∷ []) in
      let now = ap remaining pushed ∙ sum_by-append left_of stack (next ∷ []) in
      let all = sum_by-append left_of stack (s ∷ []) in
      omega (arith, less, one, both, now, all)
