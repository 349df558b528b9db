-- Opaque colours hide what they are laid on, and those of an opaque block are opaque.
use Rattle.std.proofs.Common.{◌≡◌, ℕ, zero, suc, ◌==◌, true, List, [], ◌∷◌, length, take, drop, refl, ◌∙◌, arith}
use Rattle.std.specs.List.{list_all}
use Rattle.std.proofs.{lemmas.Bool.and_parts, lemmas.Bool.eqb-true, lemmas.Bool.Decides.nat_tests}
use lib.Lanes.{zip2}
use Rattle.vz_pixels.specs.Colour.{Colour, scale, over, is_opaque}
use Rattle.vz_pixels.proofs.Over.{scale_full, opaque_hides}
use Rattle.vz_frame.specs.{declared.blend.Blend.Blend, declared.blend.Blend.TheVariants.Over, Blending.blend, Blending.laid}

all_hide : (source old : List Colour) → list_all (λ c. c.a == 255) source ≡ true → length old ≡ length source → source ≡ zip2 (λ s d. over (scale s 255) d) source old
all_hide [] old all long = refl
all_hide (s ∷ source) [] all long = absurd (omega arith)
all_hide (s ∷ source) (d ∷ old) all long = grind (arith, nat_tests, and_parts, scale_full s, opaque_hides s d, eqb-true s.a 255, all_hide source old)

pub hidden : (mode : Blend) (o : ℕ) (now source old : List Colour) → mode ≡ Over → o ≡ 255 → list_all (λ c. c.a == 255) source ≡ true → length old ≡ length source → now ≡ source → now ≡ zip2 (λ s d. laid mode s o d) source old
unfolding laid blend
hidden mode o now source old is full all long e = rw (is, full) (e ∙ all_hide source old all long)

front_opaque : (n : ℕ) (cs : List Colour) → list_all is_opaque cs ≡ true → list_all is_opaque (take n cs) ≡ true
front_opaque zero cs all = refl
front_opaque (suc n) [] all = refl
front_opaque (suc n) (c ∷ cs) all = grind (arith, nat_tests, and_parts (is_opaque c) (list_all is_opaque cs) all, front_opaque n cs)

rest_opaque : (n : ℕ) (cs : List Colour) → list_all is_opaque cs ≡ true → list_all is_opaque (drop n cs) ≡ true
rest_opaque zero cs all = all
rest_opaque (suc n) [] all = refl
rest_opaque (suc n) (c ∷ cs) all = rest_opaque n cs (and_parts (is_opaque c) (list_all is_opaque cs) all).1

-- some colours among opaque ones
pub opaque_part : (count from : ℕ) (cs : List Colour) → list_all is_opaque cs ≡ true → list_all is_opaque (take count (drop from cs)) ≡ true
opaque_part count from cs all = front_opaque count (drop from cs) (rest_opaque from cs all)
