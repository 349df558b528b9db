-- What the plain loops make of a row of colours.
use Rattle.std.specs.Prelude.{ℕ, zero, suc, List, [], ◌∷◌, map}
use lib.Lanes.{zip2}
use Rattle.vz_pixels.specs.Colour.{Colour, scale, over}

-- each colour of src scaled by an opacity and blended over the one at its place in dst
unfoldable pub laid_over : List Colour → ℕ → List Colour → List Colour
laid_over src o dst = zip2 (λ s d. over (scale s o) d) src dst

-- each colour scaled by an opacity
unfoldable pub scaled : List Colour → ℕ → List Colour
scaled cs o = map (λ c. scale c o) cs

-- each colour of dst scaled by the alpha that the one at its place in src has after an opacity
unfoldable pub kept_in : List Colour → ℕ → List Colour → List Colour
kept_in src o dst = zip2 (λ s d. scale d (scale s o).a) src dst

-- one colour blended over each of these
unfoldable pub tinted : Colour → List Colour → List Colour
tinted c dst = map (over c) dst

-- each colour scaled by the alpha of one colour
unfoldable pub faded : Colour → List Colour → List Colour
faded c dst = map (λ d. scale d c.a) dst

-- the first n colours of a row, each combined with the one at its place in another row, and then
-- the rest
abbrev pub mixed_upto : (Colour → Colour → Colour) → ℕ → List Colour → List Colour → List Colour
mixed_upto f zero src dst = dst
mixed_upto f (suc n) [] dst = dst
mixed_upto f (suc n) (s ∷ src) [] = []
mixed_upto f (suc n) (s ∷ src) (d ∷ dst) = f s d ∷ mixed_upto f n src dst

-- the first n colours of a row changed, and then the rest
abbrev pub changed_upto : (Colour → Colour) → ℕ → List Colour → List Colour
changed_upto f zero row = row
changed_upto f (suc n) [] = []
changed_upto f (suc n) (c ∷ row) = f c ∷ changed_upto f n row
