-- What composing keeps of colours.
use Rattle.std.proofs.Common.{◌≡◌, ℕ, ◌+◌, ◌-◌, ◌≤◌, ap, ◌∙◌, arith}
use Rattle.vz_pixels.specs.Colour.{Colour, IsPremultiplied, mul, scale, over, transparent}
use Rattle.vz_pixels.proofs.Parts.{mul_at_most, mul_rises}

mul_full : (a : ℕ) → mul a 255 ≡ a
unfolding mul
mul_full a = omega arith

mul_by_none : (a : ℕ) → mul a 0 ≡ 0
unfolding mul
mul_by_none a = omega arith

mul_none : (b : ℕ) → mul 0 b ≡ 0
unfolding mul
mul_none b = omega arith

mul_comm : (a b : ℕ) → mul a b ≡ mul b a
unfolding mul
mul_comm a b = grind arith

same_colours : {r r' g g' b b' a a' : ℕ} → r ≡ r' → g ≡ g' → b ≡ b' → a ≡ a' → ◌≡◌ {A = Colour} (record { r = r; g = g; b = b; a = a }) (record { r = r'; g = g'; b = b'; a = a' })
same_colours p q s t = cc

sums : (a b c d : ℕ) → a ≤ b → c ≤ d → a + c ≤ b + d
sums a b c d p q = omega arith

pub over_is_premultiplied : (s d : Colour) → s.a ≤ 255 → IsPremultiplied s → IsPremultiplied d → IsPremultiplied (over s d)
unfolding over
over_is_premultiplied s d low p q =
    record {
      r = sums s.r s.a (mul d.r (255 - s.a)) (mul d.a (255 - s.a)) p.r (mul_rises d.r d.a (255 - s.a) q.r);
      g = sums s.g s.a (mul d.g (255 - s.a)) (mul d.a (255 - s.a)) p.g (mul_rises d.g d.a (255 - s.a) q.g);
      b = sums s.b s.a (mul d.b (255 - s.a)) (mul d.a (255 - s.a)) p.b (mul_rises d.b d.a (255 - s.a) q.b);
    }

pub over_alpha : (s d : Colour) → s.a ≤ 255 → d.a ≤ 255 → (over s d).a ≤ 255
unfolding over
over_alpha s d p q = let h = mul_at_most d.a (255 - s.a) q in omega arith

pub scale_is_premultiplied : (c : Colour) (o : ℕ) → IsPremultiplied c → IsPremultiplied (scale c o)
unfolding scale
scale_is_premultiplied c o p = record { r = mul_rises c.r c.a o p.r; g = mul_rises c.g c.a o p.g; b = mul_rises c.b c.a o p.b }

pub scale_alpha : (c : Colour) (o : ℕ) → o ≤ 255 → (scale c o).a ≤ c.a
unfolding scale
scale_alpha c o p = let h = mul_at_most o c.a p in let e = mul_comm c.a o in omega arith

hidden : (x d rest : ℕ) → rest ≡ 0 → x + mul d rest ≡ x
hidden x d rest e = ap (λ r. x + mul d r) e ∙ (let z = mul_by_none d in omega arith)

pub opaque_hides : (s d : Colour) → s.a ≡ 255 → over s d ≡ s
unfolding over
opaque_hides s d e =
    let none : 255 - s.a ≡ 0 = omega arith in
    same_colours (hidden s.r d.r (255 - s.a) none) (hidden s.g d.g (255 - s.a) none) (hidden s.b d.b (255 - s.a) none) (hidden s.a d.a (255 - s.a) none)

stays : (d : ℕ) → 0 + mul d 255 ≡ d
stays d = let e = mul_full d in omega arith

pub transparent_stays : (d : Colour) → over transparent d ≡ d
unfolding over
transparent_stays d = same_colours (stays d.r) (stays d.g) (stays d.b) (stays d.a)

alone : (x rest : ℕ) → x + mul 0 rest ≡ x
alone x rest = let e = mul_none rest in omega arith

pub over_nothing : (s : Colour) → over s transparent ≡ s
unfolding over
over_nothing s = same_colours (alone s.r (255 - s.a)) (alone s.g (255 - s.a)) (alone s.b (255 - s.a)) (alone s.a (255 - s.a))

pub scale_full : (c : Colour) → scale c 255 ≡ c
unfolding scale
scale_full c = same_colours (mul_full c.r) (mul_full c.g) (mul_full c.b) (mul_full c.a)

pub scale_none : (c : Colour) → scale c 0 ≡ transparent
unfolding scale
scale_none c = same_colours (mul_by_none c.r) (mul_by_none c.g) (mul_by_none c.b) (mul_by_none c.a)
