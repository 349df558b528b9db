-- What sixteen pixels of a row are after they were mixed or changed.
use Rattle.std.proofs.Common.{◌≡◌, ℕ, zero, suc, ◌+◌, ◌≤◌, List, [], ◌∷◌, length, map, refl, ap, sym, subst, ◌∙◌, arith}
use Rattle.std.specs.Prelude.{take, replicate}
use Rattle.std.proofs.{lemmas.Simd.put_chunk_is, lemmas.Bool.Decides.nat_tests}
use borrow.Rule.Slice.PartMut.{put_mid}
use lib.Lanes.{zip2, Each1, chunk, put_chunk}
use Rattle.vz_pixels.specs.Colour.{Colour, IsPremultiplied, mul, scale, over, transparent}
use Rattle.vz_pixels.proofs.Over.{transparent_stays, opaque_hides, scale_full, scale_none}
use Rattle.vz_kernel.specs.Lanes.{colours, doubled, odds, each_twice, AreLanes}
use Rattle.vz_kernel.proofs.{Mixed.alphas_is, Mixed.parts_twice, Sixteen.colours_channels}

colours_are : (v : List ℕ) (cs : List Colour) → AreLanes v cs → colours v ≡ cs
colours_are v cs h = ap colours h.value ∙ colours_channels cs

pub good_lanes : (v : List ℕ) (cs : List Colour) → AreLanes v cs → Each1 IsPremultiplied (colours v)
good_lanes v cs h = subst (Each1 IsPremultiplied) (sym (colours_are v cs h)) h.good

-- what is stored as lanes is there as colours
pub stored : (at : ℕ) (row now : List Colour) (v : List ℕ) (cs ds : List Colour) → now ≡ put_chunk at row (colours v) → AreLanes v cs → cs ≡ ds → now ≡ put_chunk at row ds
stored at row now v cs ds e h same = e ∙ ap (put_chunk at row) (colours_are v cs h ∙ same)

-- what is copied over is there
pub copied : (at k : ℕ) (row ys cs ds : List Colour) → k ≡ length cs → at + length cs ≤ length row → ys ≡ cs → cs ≡ ds → put_mid at k row ys ≡ put_chunk at row ds
copied at k row ys cs ds e fits same is = grind (arith, nat_tests, put_chunk_is at row cs fits)

front_stays : (n : ℕ) (xs : List Colour) → put_chunk 0 xs (take n xs) ≡ xs
front_stays zero [] = refl
front_stays zero (x ∷ xs) = refl
front_stays (suc n) [] = refl
front_stays (suc n) (x ∷ xs) = ap (λ l. x ∷ l) (front_stays n xs)

stays : (i n : ℕ) (xs : List Colour) → put_chunk i xs (chunk i n xs) ≡ xs
stays zero n xs = front_stays n xs
stays (suc i) n [] = refl
stays (suc i) n (x ∷ xs) = ap (λ l. x ∷ l) (stays i n xs)

-- where mixing changes nothing, nothing need be stored
pub left : (at n : ℕ) (row cs : List Colour) → cs ≡ chunk at n row → row ≡ put_chunk at row cs
left at n row cs e = sym (ap (put_chunk at row) e ∙ stays at n row)

pub clear_over : (ss ds : List Colour) → length ss ≡ length ds → Each1 (λ c. c ≡ transparent) ss → zip2 over ss ds ≡ ds
clear_over [] [] e h = refl
clear_over [] (d ∷ ds) e h = absurd (omega arith)
clear_over (s ∷ ss) [] e h = absurd (omega arith)
clear_over (s ∷ ss) (d ∷ ds) e h = λ i. (ap (λ c. over c d) h.0 ∙ transparent_stays d) i ∷ clear_over ss ds (omega arith) h.1 i

none : (o : ℕ) → mul 0 o ≡ 0
unfolding mul
none o = omega arith

pub clear_over_by : (o : ℕ) (ss ds : List Colour) → length ss ≡ length ds → Each1 (λ c. c ≡ transparent) ss → zip2 (λ s d. over (scale s o) d) ss ds ≡ ds
unfolding scale mul
clear_over_by o [] [] e h = refl
clear_over_by o [] (d ∷ ds) e h = absurd (omega arith)
clear_over_by o (s ∷ ss) [] e h = absurd (omega arith)
clear_over_by o (s ∷ ss) (d ∷ ds) e h = grind (arith, nat_tests, transparent_stays d, clear_over_by o ss ds)

pub opaque_over : (ss ds : List Colour) → length ss ≡ length ds → Each1 (λ c. c.a ≡ 255) ss → ss ≡ zip2 over ss ds
opaque_over [] ds e h = refl
opaque_over (s ∷ ss) [] e h = absurd (omega arith)
opaque_over (s ∷ ss) (d ∷ ds) e h = λ i. sym (opaque_hides s d h.0) i ∷ opaque_over ss ds (omega arith) h.1 i

-- scaled colours over others
pub scaled_over : (o : ℕ) (ss ds : List Colour) → zip2 over (map (λ s. scale s o) ss) ds ≡ zip2 (λ s d. over (scale s o) d) ss ds
scaled_over o [] ds = refl
scaled_over o (s ∷ ss) [] = refl
scaled_over o (s ∷ ss) (d ∷ ds) = ap (λ l. over (scale s o) d ∷ l) (scaled_over o ss ds)

-- scaled colours in place of others
pub scaled_put : (o : ℕ) (ss ds : List Colour) → length ss ≡ length ds → map (λ s. scale s o) ss ≡ zip2 (λ s _. scale s o) ss ds
scaled_put o [] ds e = refl
scaled_put o (s ∷ ss) [] e = absurd (omega arith)
scaled_put o (s ∷ ss) (d ∷ ds) e = ap (λ l. scale s o ∷ l) (scaled_put o ss ds (omega arith))

-- colours by the scaled alphas of others
pub kept : (o n : ℕ) (ss ds : List Colour) → length ss ≡ n → zip2 scale ds (zip2 mul (map (λ s. s.a) ss) (replicate n o)) ≡ zip2 (λ s d. scale d (scale s o).a) ss ds
unfolding scale
kept o n [] [] e = refl
kept o n [] (d ∷ ds) e = refl
kept o n (s ∷ ss) [] e = refl
kept o zero (s ∷ ss) (d ∷ ds) e = absurd (omega arith)
kept o (suc n) (s ∷ ss) (d ∷ ds) e = ap (λ l. scale d (mul s.a o) ∷ l) (kept o n ss ds (omega arith))

-- the lanes of scaled alphas
pub kept_lanes : (o : ℕ) (v : List ℕ) (ss : List Colour) (n : ℕ) (by : List ℕ) → AreLanes v ss → by ≡ each_twice (replicate n o)
    → zip2 mul (doubled (odds v)) by ≡ each_twice (zip2 mul (map (λ s. s.a) ss) (replicate n o))
kept_lanes o v ss n by h e = grind (arith, nat_tests, alphas_is ss, parts_twice)

pub opaque_kept : (ss ds : List Colour) → length ss ≡ length ds → Each1 (λ c. c.a ≡ 255) ss → zip2 (λ s d. scale d s.a) ss ds ≡ ds
opaque_kept [] [] e h = refl
opaque_kept [] (d ∷ ds) e h = absurd (omega arith)
opaque_kept (s ∷ ss) [] e h = absurd (omega arith)
opaque_kept (s ∷ ss) (d ∷ ds) e h = λ i. (ap (scale d) h.0 ∙ scale_full d) i ∷ opaque_kept ss ds (omega arith) h.1 i

pub clear_kept : (n : ℕ) (ss ds : List Colour) → length ss ≡ n → length ds ≡ n → Each1 (λ c. c ≡ transparent) ss → replicate n transparent ≡ zip2 (λ s d. scale d s.a) ss ds
clear_kept zero [] ds e f h = refl
clear_kept zero (s ∷ ss) ds e f h = absurd (omega arith)
clear_kept (suc n) [] ds e f h = absurd (omega arith)
clear_kept (suc n) (s ∷ ss) [] e f h = absurd (omega arith)
clear_kept (suc n) (s ∷ ss) (d ∷ ds) e f h = λ i. sym (ap (λ c. scale d c.a) h.0 ∙ scale_none d) i ∷ clear_kept n ss ds (omega arith) (omega arith) h.1 i

-- colours by the alphas of others
pub kept_whole : (ss ds : List Colour) → zip2 scale ds (map (λ s. s.a) ss) ≡ zip2 (λ s d. scale d s.a) ss ds
kept_whole [] [] = refl
kept_whole [] (d ∷ ds) = refl
kept_whole (s ∷ ss) [] = refl
kept_whole (s ∷ ss) (d ∷ ds) = ap (λ l. scale d s.a ∷ l) (kept_whole ss ds)
