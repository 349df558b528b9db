-- Whole rows at opacities and colours that need no product.
use Rattle.std.proofs.Common.{◌≡◌, ℕ, List, [], ◌∷◌, length, map, refl, ap, sym, ◌∙◌, arith}
use Rattle.std.specs.Prelude.{replicate}
use lib.Lanes.{zip2}
use Rattle.vz_pixels.specs.Colour.{Colour, IsPremultiplied, scale, over, transparent}
use Rattle.vz_pixels.proofs.Over.{scale_none, scale_full, transparent_stays, opaque_hides}
use Rattle.vz_kernel.specs.Rows.{laid_over, scaled, kept_in, tinted, faded}
use Rattle.std.proofs.lemmas.Bool.Decides.{nat_tests}

pub over_by_none : (o : ℕ) (src dst : List Colour) → o ≡ 0 → length dst ≡ length src → dst ≡ laid_over src o dst
unfolding laid_over
over_by_none o [] [] e long = refl
over_by_none o [] (d ∷ dst) e long = absurd (omega arith)
over_by_none o (s ∷ src) [] e long = absurd (omega arith)
over_by_none o (s ∷ src) (d ∷ dst) e long = grind (arith, nat_tests, scale_none s, transparent_stays d, over_by_none o src dst e)

pub over_by_all : (o : ℕ) (src dst : List Colour) → o ≡ 255 → zip2 over src dst ≡ laid_over src o dst
unfolding laid_over
over_by_all o [] dst e = refl
over_by_all o (s ∷ src) [] e = refl
over_by_all o (s ∷ src) (d ∷ dst) e = λ i. sym (ap (λ k. over (scale s k) d) e ∙ ap (λ c. over c d) (scale_full s)) i ∷ over_by_all o src dst e i

pub over_by : (o : ℕ) (src dst : List Colour) → zip2 (λ s d. over (scale s o) d) src dst ≡ laid_over src o dst
unfolding laid_over
over_by o src dst = refl

pub put_by_all : (o : ℕ) (src : List Colour) → o ≡ 255 → src ≡ scaled src o
unfolding scaled
put_by_all o [] e = refl
put_by_all o (s ∷ src) e = λ i. sym (ap (scale s) e ∙ scale_full s) i ∷ put_by_all o src e i

pub put_by : (o : ℕ) (src dst : List Colour) → length dst ≡ length src → zip2 (λ s _. scale s o) src dst ≡ scaled src o
unfolding scaled
put_by o [] dst long = refl
put_by o (s ∷ src) [] long = absurd (omega arith)
put_by o (s ∷ src) (d ∷ dst) long = ap (λ l. scale s o ∷ l) (put_by o src dst (omega arith))

pub kept_by : (o : ℕ) (src dst : List Colour) → zip2 (λ s d. scale d (scale s o).a) src dst ≡ kept_in src o dst
unfolding kept_in
kept_by o src dst = refl

pub kept_by_all : (o : ℕ) (src dst : List Colour) → o ≡ 255 → zip2 (λ s d. scale d s.a) src dst ≡ kept_in src o dst
unfolding kept_in
kept_by_all o [] dst e = refl
kept_by_all o (s ∷ src) [] e = refl
kept_by_all o (s ∷ src) (d ∷ dst) e = λ i. sym (ap (λ c. scale d c.a) (ap (scale s) e ∙ scale_full s)) i ∷ kept_by_all o src dst e i

none_of : (c : Colour) → IsPremultiplied c → c.a ≡ 0 → c ≡ transparent
none_of c good e = grind (arith, nat_tests)

pub tint_none : (c : Colour) (dst : List Colour) → IsPremultiplied c → c.a ≡ 0 → dst ≡ tinted c dst
unfolding tinted
tint_none c [] good e = refl
tint_none c (d ∷ dst) good e = λ i. sym (ap (λ s. over s d) (none_of c good e) ∙ transparent_stays d) i ∷ tint_none c dst good e i

pub tint_whole : (c : Colour) (dst : List Colour) → c.a ≡ 255 → replicate (length dst) c ≡ tinted c dst
unfolding tinted
tint_whole c [] e = refl
tint_whole c (d ∷ dst) e = λ i. sym (opaque_hides c d e) i ∷ tint_whole c dst e i

pub tint_by : (c : Colour) (dst : List Colour) → map (over c) dst ≡ tinted c dst
unfolding tinted
tint_by c dst = refl

pub fade_none : (c : Colour) (dst : List Colour) → c.a ≡ 0 → replicate (length dst) transparent ≡ faded c dst
unfolding faded
fade_none c [] e = refl
fade_none c (d ∷ dst) e = λ i. sym (ap (scale d) e ∙ scale_none d) i ∷ fade_none c dst e i

pub fade_whole : (c : Colour) (dst : List Colour) → c.a ≡ 255 → dst ≡ faded c dst
unfolding faded
fade_whole c [] e = refl
fade_whole c (d ∷ dst) e = λ i. sym (ap (scale d) e ∙ scale_full d) i ∷ fade_whole c dst e i

pub fade_by : (c : Colour) (a : ℕ) (dst : List Colour) → a ≡ c.a → map (λ d. scale d a) dst ≡ faded c dst
unfolding faded
fade_by c a dst e = ap (λ k. map (λ d. scale d k) dst) e
