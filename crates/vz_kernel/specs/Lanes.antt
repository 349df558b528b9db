-- The channels of colours as the lanes of vectors.
use Rattle.std.specs.Prelude.{◌≡◌, ℕ, ◌+◌, ◌-◌, ◌*◌, ◌/◌, ◌≤◌, List, [], ◌∷◌, replicate}
use lib.Lanes.{Each1}
use Rattle.vz_pixels.specs.Colour.{Colour, IsPremultiplied}

-- the channels of a colour: red, green, blue and alpha
abbrev pub channels_of : Colour → List ℕ
channels_of c = c.r ∷ c.g ∷ c.b ∷ c.a ∷ []

-- the same as one number, with red as the lowest byte
abbrev pub word_of : Colour → ℕ
word_of c = c.r + 256 * (c.g + 256 * (c.b + 256 * c.a))

-- the channels of colours, four for each: red, green, blue and alpha
abbrev pub channels : List Colour → List ℕ
channels [] = []
channels (c ∷ cs) = c.r ∷ c.g ∷ c.b ∷ c.a ∷ channels cs

-- the colours with these channels
abbrev pub colours : List ℕ → List Colour
colours [] = []
colours (r ∷ []) = []
colours (r ∷ g ∷ []) = []
colours (r ∷ g ∷ b ∷ []) = []
colours (r ∷ g ∷ b ∷ a ∷ xs) = record { r = r; g = g; b = b; a = a } ∷ colours xs

-- the first of each pair
abbrev pub evens : List ℕ → List ℕ
evens [] = []
evens (x ∷ []) = []
evens (x ∷ y ∷ zs) = x ∷ evens zs

-- the second of each pair
abbrev pub odds : List ℕ → List ℕ
odds [] = []
odds (x ∷ []) = []
odds (x ∷ y ∷ zs) = y ∷ odds zs

-- the elements of two lists in turn, one from the first and one from the second
abbrev pub woven : List ℕ → List ℕ → List ℕ
woven [] ys = []
woven (x ∷ xs) [] = []
woven (x ∷ xs) (y ∷ ys) = x ∷ y ∷ woven xs ys

-- the second of each pair, twice
abbrev pub doubled : List ℕ → List ℕ
doubled [] = []
doubled (x ∷ []) = []
doubled (x ∷ y ∷ zs) = y ∷ y ∷ doubled zs

-- each element twice
abbrev pub each_twice : List ℕ → List ℕ
each_twice [] = []
each_twice (x ∷ xs) = x ∷ x ∷ each_twice xs

-- each is a byte
abbrev pub AreBytes : List ℕ → Type 0
AreBytes xs = Each1 (λ x. x ≤ 255) xs

-- these lanes are the channels of these colours, which are premultiplied
pub record AreLanes (v : List ℕ) (cs : List Colour) : Type 0 where
  pub value : v ≡ channels cs
  pub good : Each1 IsPremultiplied cs

-- what a byte times 256 is multiplied by, so that the high half of the product has it by parts of 255
abbrev pub factor_of : ℕ → ℕ
factor_of b = b * 257 - b / 255 + b / 128

-- all 32 lanes are the factor of this number
abbrev pub AreFactors : ℕ → List ℕ → Type 0
AreFactors b v = v ≡ replicate 32 (factor_of b)
