-- The laws of numbers, ids, rectangles and colours.
use Rattle.std.proofs.Common.{◌≡◌, ℕ, ℤ, pos, negsuc, neg_ℤ, ◌^◌, ◌<◌, ◌≤◌, Bool, true, ◌&&◌, leb, ltb}
use Rattle.std.proofs.Common.{List, [], ◌∷◌, length, refl, sym, ap, ◌∙◌, arith, SFits}
use Rattle.std.specs.Int.{Width, byte_len, w8, w16, w32, w128, from_le_bytes, to_le_bytes, cast_signed, cast_unsigned}
use Rattle.std.proofs.lemmas.Bool.{and_parts, and_from, leb-true, le-leb, ltb-true, lt-ltb, eqb-true, eq-eqb}
use Rattle.std.proofs.lemmas.Int.{ints, of_z-to_z, to_z-of_z}
use Rattle.std.proofs.Math.Facts.{Fits-of_z, sfits_to_z}
use Rattle.std.proofs.Math.Bool.{and_assoc, and_comm}
use Rattle.vz_geom.specs.Rectangle.{Rectangle}
use Rattle.vz_ids.specs.declared.LocalSurfaceId.{LocalSurfaceId}
use Rattle.vz_ids.specs.Ids.{is_valid}
use Rattle.vz_pixels.specs.Colour.{Colour, colour_bytes}
use Rattle.vz_frame.specs.Fits.{within, within_z, in_reach, fits_rect, is_number}
use Rattle.vz_frame.specs.Fits.{fits_sink, fits_local, fits_surface, fits_colour}
use Rattle.vz_codec.specs.declared.fault.FileRule.{FileRule}
use Rattle.vz_codec.specs.declared.fault.FileRule.TheVariants as fault
use Rattle.vz_codec.specs.Spelling.{u8_bytes, u16_bytes, u32_bytes, i32_bytes, u128_bytes, sink_bytes, local_bytes}
use Rattle.vz_codec.specs.Spelling.{surface_bytes, rect_bytes}
use Rattle.vz_codec.specs.Reading.{number_at, ranged_at, limited_at, tag_at, signed_at, coordinate_at}
use Rattle.vz_codec.specs.Fields.{Kind, field}
use Rattle.vz_codec.specs.Reading.{sink_at, local_of, local_at, surface_at, rect_of, rect_at, colour_of, colour_at}
use Rattle.vz_codec.proofs.Numbers.{IsBytes, le_length, le_back, le_again, le_below}
use Rattle.vz_codec.proofs.Rects.{is_made}
use Rattle.vz_codec.proofs.Lawful.{IsField, refit, implied, fronts, ◌⊠◌, checks, makes, records}

-- ---- numbers

pub in_range : (low high n : ℕ) → within low high n ≡ true → (low ≤ n) × (n ≤ high)
in_range low high n h =
    let both = and_parts (leb low n) (leb n high) h in
    (leb-true low n both.0, leb-true n high both.1)

pub from_zero : (high n : ℕ) → within 0 high n ≡ leb n high
from_zero high n = ap (λ b. b && leb n high) (le-leb 0 n (omega arith))

abbrev number_of : Width → Kind ℕ
number_of w = field (number_at w) (to_le_bytes w) (λ n. ltb n (256 ^ byte_len w))

pub numbers : (w : Width) → 0 < byte_len w → IsField (number_of w) (byte_len w)
unfolding number_at
numbers w some =
    makes (fronts (byte_len w)) (from_le_bytes w) (to_le_bytes w) (number_of w).fitting
    (λ bytes fits h.
    let len = eqb-true _ _ h in
    (le_back w some bytes len fits, lt-ltb _ _ (le_below w some bytes len fits)))
    (λ n h. (to_le_bytes w n, le_again w some n (ltb-true _ _ h), refl, eq-eqb _ _ (le_length w some n)))

pub numbers8 : IsField (field (number_at w8) u8_bytes (λ n. ltb n 256)) 1
numbers8 = numbers w8 (omega arith)

pub numbers16 : IsField (field (number_at w16) u16_bytes (λ n. ltb n (2 ^ 16))) 2
unfolding u16_bytes
numbers16 = numbers w16 (omega arith)

pub numbers32 : IsField (field (number_at w32) u32_bytes is_number) 4
unfolding u32_bytes
numbers32 = numbers w32 (omega arith)

numbers128 : IsField (field (number_at w128) u128_bytes (λ n. ltb n (2 ^ 128))) 16
unfolding u128_bytes
numbers128 = numbers w128 (omega arith)

-- numbers from low to high, which have fields of their width
module _ (rule : FileRule) (other : rule ≡ fault.Short → ⊥) (w : Width) (some : 0 < byte_len w) (low high : ℕ)
    (small : high < 256 ^ byte_len w) where
  pub ranged : IsField (field (ranged_at rule w low high) (to_le_bytes w) (within low high)) (byte_len w)
  unfolding ranged_at
  ranged =
      refit (checks (numbers w some) some rule other (within low high)) (within low high)
      (λ n. implied _ _ (λ h. lt-ltb n (256 ^ byte_len w) (omega (arith, (in_range low high n h).1, small))))

pub limited8 : (low high : ℕ) → high < 256 → IsField (field (limited_at w8 low high) u8_bytes (within low high)) 1
limited8 low high small = ranged fault.Limit (λ e. cc) w8 (omega arith) low high small

pub limited16 : (low high : ℕ) → high < 2 ^ 16 → IsField (field (limited_at w16 low high) u16_bytes (within low high)) 2
unfolding u16_bytes
limited16 low high small = ranged fault.Limit (λ e. cc) w16 (omega arith) low high small

pub limited32 : (low high : ℕ) → high < 2 ^ 32 → IsField (field (limited_at w32 low high) u32_bytes (within low high)) 4
unfolding u32_bytes
limited32 low high small = ranged fault.Limit (λ e. cc) w32 (omega arith) low high small

pub tags : (low high : ℕ) → high < 256 → IsField (field (tag_at low high) u8_bytes (within low high)) 1
tags low high small = ranged fault.Tag (λ e. cc) w8 (omega arith) low high small

-- a number of four bytes in two's complement
abbrev is_signed : ℤ → Bool
is_signed z = within_z (neg_ℤ (pos 2147483648)) (pos 2147483647) z

signed_fits : (z : ℤ) → SFits w32 z → is_signed z ≡ true
signed_fits (pos n) h = let few = h.sfits in grind (arith, ints)
signed_fits (negsuc n) h = let few = h.sfits in grind (arith, ints)

fits_signed : (z : ℤ) → is_signed z ≡ true → SFits w32 z
fits_signed (pos n) h = record { sfits = grind (arith, ints) }
fits_signed (negsuc n) h = record { sfits = grind (arith, ints) }

pub signed : IsField (field signed_at i32_bytes is_signed) 4
unfolding signed_at i32_bytes
signed =
    makes numbers32 (cast_signed w32) i32_bytes is_signed
    (λ n _ h.
    let few = ltb-true _ _ h in
    (ap u32_bytes (of_z-to_z w32 n few), signed_fits (cast_signed w32 n) (sfits_to_z (record { fits = few }))))
    (λ z h.
    let fits = fits_signed z h in
    (cast_unsigned w32 z, to_z-of_z w32 z fits, refl, lt-ltb _ _ (Fits-of_z fits).fits))

near : (z : ℤ) → in_reach z ≡ true → is_signed z ≡ true
near z h = grind (arith, ints)

pub coordinates : IsField (field coordinate_at i32_bytes in_reach) 4
unfolding coordinate_at
coordinates =
    refit (checks signed (omega arith) fault.Limit (λ e. cc) in_reach) in_reach (λ z. implied _ _ (λ h. near z h))

-- ---- ids

pub sinks : IsField (field sink_at sink_bytes fits_sink) 8
unfolding sink_at
sinks =
    records (numbers32 ⊠ numbers32) (λ p. record { client_id = p.0; sink_id = p.1 }) (λ s. (s.client_id, s.sink_id))
    sink_bytes fits_sink (λ _. refl) (λ _. refl) (λ _. refl) (λ _. refl)

last_first : (a b c v : Bool) → (a && b && c && v) ≡ (v && a && b && c)
last_first a b c v = and_comm (a && b && c) v ∙ simp and_assoc

pub locals : IsField (field local_at local_bytes fits_local) 24
unfolding local_at
locals =
    let fit : LocalSurfaceId → Bool = λ l. is_number l.parent && is_number l.child && ltb l.token.0 (2 ^ 128) in
    let local =
    records (numbers32 ⊠ numbers32 ⊠ numbers128) local_of (λ l. ((l.parent, l.child), l.token.0)) local_bytes fit
    (λ _. refl) (λ _. refl) (λ _. refl) (λ _. refl) in
    refit (checks local (omega arith) fault.Limit (λ e. cc) is_valid) fits_local
    (λ l. last_first (is_number l.parent) (is_number l.child) (ltb l.token.0 (2 ^ 128)) (is_valid l))

pub surfaces : IsField (field surface_at surface_bytes fits_surface) 32
unfolding surface_at
surfaces =
    records (sinks ⊠ locals) (λ p. record { sink = p.0; local = p.1 }) (λ s. (s.sink, s.local))
    surface_bytes fits_surface (λ _. refl) (λ _. refl) (λ _. refl) (λ _. refl)

-- ---- rectangles and colours

pub rects : IsField (field rect_at rect_bytes fits_rect) 16
unfolding rect_at
rects =
    let fit : Rectangle → Bool = λ r. is_signed r.x && is_signed r.y && is_signed r.w && is_signed r.h in
    let four =
    records (signed ⊠ signed ⊠ signed ⊠ signed) rect_of (λ r. (((r.x, r.y), r.w), r.h)) rect_bytes fit
    (λ _. refl) (λ _. refl) (λ _. refl) (λ _. refl) in
    refit (checks four (omega arith) fault.Limit (λ e. cc) fits_rect) fits_rect
    (λ r. implied (fit r) (fits_rect r) (λ h.
    let made = is_made r.x r.y r.w r.h h in
    let place = and_from _ _ (near r.x made.left) (near r.y made.top) in
    and_from _ _ (and_from _ _ place (near r.w made.wide)) (near r.h made.high)))

abbrev is_least : Colour → Bool
is_least c = leb c.r c.a && leb c.g c.a && leb c.b c.a

pub four_bytes : (f : List ℕ) → length f ≡ 4 → colour_bytes (colour_of f) ≡ f
four_bytes (r ∷ g ∷ b ∷ a ∷ []) h = refl
four_bytes [] h = absurd (omega arith)
four_bytes (r ∷ []) h = absurd (omega arith)
four_bytes (r ∷ g ∷ []) h = absurd (omega arith)
four_bytes (r ∷ g ∷ b ∷ []) h = absurd (omega arith)
four_bytes (r ∷ g ∷ b ∷ a ∷ x ∷ xs) h = absurd (omega arith)

-- colours that pass another test by their bytes alone
pub colours_where : (good : Colour → Bool) → ((f : List ℕ) → IsBytes f → good (colour_of f) ≡ true)
    → IsField (field colour_at colour_bytes (λ c. good c && is_least c)) 4
unfolding colour_at
colours_where good all =
    let four =
    makes (fronts 4) colour_of colour_bytes good (λ f fits h. (four_bytes f (eqb-true _ _ h), all f fits))
    (λ c h. (colour_bytes c, refl, refl, refl)) in
    checks four (omega arith) fault.Colour (λ e. cc) is_least

pub colours : IsField (field colour_at colour_bytes fits_colour) 4
colours =
    refit (colours_where (λ c. ltb c.a 256) (λ f fits. lt-ltb _ _ (fits 3))) fits_colour
    (λ c. sym (and_assoc (ltb c.a 256) (leb c.r c.a && leb c.g c.a) (leb c.b c.a))
    ∙ ap (λ t. t && leb c.b c.a) (sym (and_assoc (ltb c.a 256) (leb c.r c.a) (leb c.g c.a))))
