-- What the lanes of colours are when one colour is laid over them, and when they are scaled by one number.
use Rattle.std.proofs.Common.{◌≡◌, ℕ, zero, suc, ◌+◌, ◌-◌, ◌≤◌, List, [], ◌∷◌, length, map, refl, ap, arith}
use Rattle.std.specs.Prelude.{replicate}
use lib.Lanes.{zip2, Each1}
use Rattle.vz_pixels.specs.Colour.{Colour, IsPremultiplied, mul, scale, over}
use Rattle.vz_pixels.proofs.{Parts.mul_at_most, Over.over_is_premultiplied, Over.scale_is_premultiplied}
use Rattle.vz_kernel.specs.Lanes.{channels, evens, odds, woven, AreBytes}
use Rattle.vz_kernel.proofs.Vectors.{twice, small_part}
use Rattle.std.proofs.lemmas.Bool.Decides.{nat_tests}

-- lanes by one number, and other lanes added
abbrev pub sums_by : ℕ → List ℕ → List ℕ → List ℕ
sums_by b xs ps = zip2 (λ x p. p + mul x b) xs ps

-- the lanes of one colour, as often as there are others
abbrev pub tops : Colour → List Colour → List ℕ
tops c ds = channels (replicate (length ds) c)

sum_small : (p a d : ℕ) → p ≤ a → a ≤ 255 → d ≤ 255 → p + mul d (255 - a) ≤ 255
sum_small p a d x y z = let h = mul_at_most d (255 - a) z in omega arith

pub evens_small : (c : Colour) (ds : List Colour) → AreBytes (tops c ds) → Each1 IsPremultiplied (replicate (length ds) c) → AreBytes (channels ds) → AreBytes (sums_by (255 - c.a) (evens (channels ds)) (evens (tops c ds)))
evens_small c [] p good q = tt
evens_small c (d ∷ ds) p good q = grind (arith, nat_tests, sum_small c.r c.a d.r good.0.r, sum_small c.b c.a d.b good.0.b, evens_small c ds p.1.1.1.1 good.1 q.1.1.1.1)

pub odds_small : (c : Colour) (ds : List Colour) → AreBytes (tops c ds) → Each1 IsPremultiplied (replicate (length ds) c) → AreBytes (channels ds) → AreBytes (sums_by (255 - c.a) (odds (channels ds)) (odds (tops c ds)))
odds_small c [] p good q = tt
odds_small c (d ∷ ds) p good q = grind (arith, nat_tests, sum_small c.g c.a d.g good.0.g, sum_small c.a c.a d.a, odds_small c ds p.1.1.1.1 good.1 q.1.1.1.1)

pub tinted_is : (c : Colour) (ds : List Colour) → woven (sums_by (255 - c.a) (evens (channels ds)) (evens (tops c ds))) (sums_by (255 - c.a) (odds (channels ds)) (odds (tops c ds))) ≡ channels (map (over c) ds)
unfolding over
tinted_is c [] = refl
tinted_is c (d ∷ ds) = grind (arith, nat_tests, tinted_is c ds)

pub tinted_good : (c : Colour) (ds : List Colour) → AreBytes (tops c ds) → Each1 IsPremultiplied (replicate (length ds) c) → Each1 IsPremultiplied ds → Each1 IsPremultiplied (map (over c) ds)
tinted_good c [] p g h = tt
tinted_good c (d ∷ ds) p g h = (over_is_premultiplied c d p.1.1.1.0 g.0 h.0, tinted_good c ds p.1.1.1.1 g.1 h.1)

pub length_evens : (n : ℕ) (xs : List ℕ) → length xs ≡ twice n → length (evens xs) ≡ n
length_evens zero [] e = refl
length_evens zero (x ∷ xs) e = absurd (omega arith)
length_evens (suc n) [] e = absurd (omega arith)
length_evens (suc n) (x ∷ []) e = absurd (omega arith)
length_evens (suc n) (x ∷ y ∷ zs) e = ap suc (length_evens n zs (omega arith))

pub length_odds : (n : ℕ) (xs : List ℕ) → length xs ≡ twice n → length (odds xs) ≡ n
length_odds zero [] e = refl
length_odds zero (x ∷ xs) e = absurd (omega arith)
length_odds (suc n) [] e = absurd (omega arith)
length_odds (suc n) (x ∷ []) e = absurd (omega arith)
length_odds (suc n) (x ∷ y ∷ zs) e = ap suc (length_odds n zs (omega arith))

none_added : (m : ℕ) → 0 + m ≡ m
none_added m = omega arith

-- nothing is added
pub plain : (o n : ℕ) (xs : List ℕ) → length xs ≡ n → sums_by o xs (replicate n 0) ≡ map (λ x. mul x o) xs
plain o zero [] e = refl
plain o zero (x ∷ xs) e = absurd (omega arith)
plain o (suc n) [] e = refl
plain o (suc n) (x ∷ xs) e = λ i. none_added (mul x o) i ∷ plain o n xs (omega arith) i

pub plain_small : (o : ℕ) (xs : List ℕ) → o ≤ 255 → AreBytes xs → AreBytes (map (λ x. mul x o) xs)
plain_small o [] p h = tt
plain_small o (x ∷ xs) p h = (small_part x o h.0 p, plain_small o xs p h.1)

pub faded_is : (o : ℕ) (cs : List Colour) → woven (map (λ x. mul x o) (evens (channels cs))) (map (λ x. mul x o) (odds (channels cs))) ≡ channels (map (λ c. scale c o) cs)
unfolding scale
faded_is o [] = refl
faded_is o (c ∷ cs) = ap (λ l. mul c.r o ∷ mul c.g o ∷ mul c.b o ∷ mul c.a o ∷ l) (faded_is o cs)

pub faded_good : (o : ℕ) (cs : List Colour) → Each1 IsPremultiplied cs → Each1 IsPremultiplied (map (λ c. scale c o) cs)
faded_good o [] g = tt
faded_good o (c ∷ cs) g = (scale_is_premultiplied c o g.0, faded_good o cs g.1)
