-- What the lanes of colours are when they are laid over others and scaled.
use Rattle.std.proofs.Common.{◌≡◌, ℕ, ◌+◌, ◌-◌, ◌%◌, List, [], ◌∷◌, map, refl, ap, arith}
use lib.Lanes.{zip2, Each1}
use Rattle.vz_pixels.specs.Colour.{Colour, IsPremultiplied, mul, scale, over}
use Rattle.vz_pixels.proofs.{Parts.mul_at_most, Over.over_is_premultiplied, Over.scale_is_premultiplied}
use Rattle.vz_kernel.specs.Lanes.{channels, evens, odds, woven, doubled, each_twice, AreBytes}
use Rattle.std.proofs.lemmas.Bool.Decides.{nat_tests}

-- lanes of colours over lanes of others
abbrev pub over_lanes : List ℕ → List ℕ → List ℕ
over_lanes s d =
    let rest = map (λ x. 255 - x) (doubled (odds s)) in
    zip2 (λ a b. (a + b) % 256) s (woven (zip2 mul (evens d) rest) (zip2 mul (odds d) rest))

pub over_is : (ss ds : List Colour) → AreBytes (channels ss) → AreBytes (channels ds) → Each1 IsPremultiplied ss → over_lanes (channels ss) (channels ds) ≡ channels (zip2 over ss ds)
unfolding over
over_is [] ds p q good = refl
over_is (s ∷ ss) [] p q good = refl
over_is (s ∷ ss) (d ∷ ds) p q good = grind (arith, nat_tests, mul_at_most, over_is ss ds p.1.1.1.1 q.1.1.1.1 good.1)

-- lanes of colours by lanes of parts
abbrev pub scaled_lanes : List ℕ → List ℕ → List ℕ
scaled_lanes v by = woven (zip2 mul (evens v) by) (zip2 mul (odds v) by)

pub scaled_is : (cs : List Colour) (bs : List ℕ) → scaled_lanes (channels cs) (each_twice bs) ≡ channels (zip2 scale cs bs)
unfolding scale
scaled_is [] bs = refl
scaled_is (c ∷ cs) [] = refl
scaled_is (c ∷ cs) (b ∷ bs) = ap (λ l. mul c.r b ∷ mul c.g b ∷ mul c.b b ∷ mul c.a b ∷ l) (scaled_is cs bs)

pub alphas_is : (cs : List Colour) → doubled (odds (channels cs)) ≡ each_twice (map (λ c. c.a) cs)
alphas_is [] = refl
alphas_is (c ∷ cs) = ap (λ l. c.a ∷ c.a ∷ l) (alphas_is cs)

pub parts_twice : (xs ys : List ℕ) → zip2 mul (each_twice xs) (each_twice ys) ≡ each_twice (zip2 mul xs ys)
parts_twice [] ys = refl
parts_twice (x ∷ xs) [] = refl
parts_twice (x ∷ xs) (y ∷ ys) = ap (λ l. mul x y ∷ mul x y ∷ l) (parts_twice xs ys)

pub over_good : (ss ds : List Colour) → AreBytes (channels ss) → Each1 IsPremultiplied ss → Each1 IsPremultiplied ds → Each1 IsPremultiplied (zip2 over ss ds)
over_good [] ds p g h = tt
over_good (s ∷ ss) [] p g h = tt
over_good (s ∷ ss) (d ∷ ds) p g h = (over_is_premultiplied s d p.1.1.1.0 g.0 h.0, over_good ss ds p.1.1.1.1 g.1 h.1)

pub scaled_good : (cs : List Colour) (bs : List ℕ) → Each1 IsPremultiplied cs → Each1 IsPremultiplied (zip2 scale cs bs)
scaled_good [] bs g = tt
scaled_good (c ∷ cs) [] g = tt
scaled_good (c ∷ cs) (b ∷ bs) g = (scale_is_premultiplied c b g.0, scaled_good cs bs g.1)
