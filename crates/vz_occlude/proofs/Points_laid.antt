-- What holds of all points that are listed of a rectangle holds of each point of it.
use Rattle.std.proofs.Common.{◌≡◌, ℕ, zero, suc, ℤ, pos, ◌+ℤ◌, ◌≤ℤ◌, ◌<ℤ◌, nat_abs, Bool, true, ◌&&◌, sym, refl, ◌∙◌, arith}
use Rattle.std.specs.List.{list_all}
use Rattle.std.proofs.{lemmas.Bool.and_parts, lemmas.Int.ints, lemmas.Int.by_lt_z, lemmas.List.Folds.list_all-append}
use Rattle.vz_geom.specs.declared.Point.{Point}
use Rattle.vz_geom.specs.Rectangle.{Rectangle, has, row_points, rows_from, points_in}
use Rattle.vz_geom.proofs.Sets.{IsIn, to_in, of_in}

module _ (f : Point → Bool) (p : Point) where
  at_point : (x y : ℤ) → x ≡ p.x → y ≡ p.y → f (record { x = x; y = y }) ≡ true → f p ≡ true
  at_point x y e g h = (λ i. f (record { x = sym e i; y = sym g i })) ∙ h

  -- of n columns of a row
  in_row : (n : ℕ) (x y : ℤ) → list_all f (row_points n x y) ≡ true → x ≤ℤ p.x → p.x <ℤ (x +ℤ pos n) → y ≡ p.y → f p ≡ true
  in_row zero x y all left right e = absurd (omega (arith, ints))
  in_row (suc n) x y all left right e =
      let parts = and_parts (f (record { x = x; y = y })) (list_all f (row_points n (x +ℤ pos 1) y)) all in
      by_lt_z {P = f p ≡ true} x p.x
      (λ l. in_row n (x +ℤ pos 1) y parts.1 (omega (arith, ints)) (omega (arith, ints)) e)
      (λ l. at_point x y (omega (arith, ints)) e parts.0)

  -- of n rows of w columns
  in_rows : (n w : ℕ) (x y : ℤ) → list_all f (rows_from n w x y) ≡ true → x ≤ℤ p.x → p.x <ℤ (x +ℤ pos w) → y ≤ℤ p.y → p.y <ℤ (y +ℤ pos n) → f p ≡ true
  in_rows zero w x y all left right top bottom = absurd (omega (arith, ints))
  in_rows (suc n) w x y all left right top bottom =
      let both = sym (list_all-append f (row_points w x y) (rows_from n w x (y +ℤ pos 1))) ∙ all in
      let parts = and_parts (list_all f (row_points w x y)) (list_all f (rows_from n w x (y +ℤ pos 1))) both in
      by_lt_z {P = f p ≡ true} y p.y
      (λ l. in_rows n w x (y +ℤ pos 1) parts.1 left right (omega (arith, ints)) (omega (arith, ints)))
      (λ l. in_row w x y parts.0 left right (omega (arith, ints)))

  pub each_point : (r : Rectangle) → list_all f (points_in r) ≡ true → has r p ≡ true → f p ≡ true
  unfolding points_in
  each_point r all h =
      let i : IsIn r p = to_in r p h in
      in_rows (nat_abs r.h) (nat_abs r.w) r.x r.y all i.left (omega (arith, ints)) i.top (omega (arith, ints))

-- And what holds of each point of a rectangle holds of all that are listed of it

and_both : (a b : Bool) → a ≡ true → b ≡ true → (a && b) ≡ true
and_both a b e g = rw (e, g) refl

module _ (f : Point → Bool) where
  all_in_row : (n : ℕ) (x y : ℤ) → ((u : ℤ) → x ≤ℤ u → u <ℤ (x +ℤ pos n) → f (record { x = u; y = y }) ≡ true) → list_all f (row_points n x y) ≡ true
  all_in_row zero x y each = refl
  all_in_row (suc n) x y each =
      and_both (f (record { x = x; y = y })) (list_all f (row_points n (x +ℤ pos 1) y))
      (each x (omega (arith, ints)) (omega (arith, ints)))
      (all_in_row n (x +ℤ pos 1) y (λ u left right. each u (omega (arith, ints, left)) (omega (arith, ints, right))))

  all_in_rows : (n w : ℕ) (x y : ℤ) → ((u v : ℤ) → x ≤ℤ u → u <ℤ (x +ℤ pos w) → y ≤ℤ v → v <ℤ (y +ℤ pos n) → f (record { x = u; y = v }) ≡ true)
      → list_all f (rows_from n w x y) ≡ true
  all_in_rows zero w x y each = refl
  all_in_rows (suc n) w x y each =
      list_all-append f (row_points w x y) (rows_from n w x (y +ℤ pos 1))
      ∙ and_both (list_all f (row_points w x y)) (list_all f (rows_from n w x (y +ℤ pos 1)))
      (all_in_row w x y (λ u left right. each u y left right (omega (arith, ints)) (omega (arith, ints))))
      (all_in_rows n w x (y +ℤ pos 1) (λ u v left right top bottom. each u v left right (omega (arith, ints, top)) (omega (arith, ints, bottom))))

  pub all_points : (r : Rectangle) → pos 0 ≤ℤ r.w → pos 0 ≤ℤ r.h → ((p : Point) → has r p ≡ true → f p ≡ true) → list_all f (points_in r) ≡ true
  unfolding points_in
  all_points r wide high each =
      all_in_rows (nat_abs r.h) (nat_abs r.w) r.x r.y
      (λ u v left right top bottom.
      each (record { x = u; y = v })
      (of_in r (record { x = u; y = v }) (record {
        left = left;
        right = omega (arith, ints, right, wide);
        top = top;
        bottom = omega (arith, ints, bottom, high);
      })))
