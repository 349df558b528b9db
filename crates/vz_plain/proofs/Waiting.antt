-- Levels that wait: what a row becomes once they are laid on it.
use Rattle.std.proofs.Common.{◌≡◌, ℕ, ◌+◌, ◌-◌, ◌≤◌, ◌<◌, Bool, true, false, ◌&&◌, if◌then◌else◌, Option, Some, None, List, length, take, drop, get_or, refl, sym, ap, ◌∙◌, arith}
use Rattle.std.specs.Prelude.{nat_le, nat_lt}
use Rattle.std.specs.Option.{option_map}
use Rattle.std.proofs.lemmas.Bool.{ltb-true, ltb-false}
use Rattle.std.proofs.lemmas.Bool.Decides.{nat_tests}
use Rattle.std.proofs.lemmas.List.{get_or-take, get_or-drop}
use borrow.Rule.Slice.PartMut.{put_mid}
use Rattle.vz_geom.specs.declared.Point.{Point}
use Rattle.vz_pixels.specs.Colour.{Colour, transparent}
use Rattle.vz_frame.specs.Blending.{laid}
use Rattle.vz_frame.proofs.Parts.{below_part, in_part, behind_part, part_of, length_part, length_replaced}
use Rattle.vz_rules.specs.World.{FrameData}
use Rattle.vz_plain.specs.Rows.{IsPainted}
use Rattle.vz_plain.specs.Levels.{Level, rest, moved, IsJoined, IsWaiting, IsPaintedWith}

-- another change: whatever is painted as the first one tells is painted as it tells
pub mapped : (active : List FrameData) (f g : Point → Colour → Colour) (p q : Point) (old now : List Colour) (o : Option Level) → ((new : List Colour) → IsPainted f p old new → IsPainted g q old new)
    → IsPaintedWith active f p old now o → IsPaintedWith active g q old now o
mapped active f g p q old now None h is = h now is
mapped active f g p q old now (Some l) h is =
    record { fits = is.fits; long = is.long; ends = λ row last painted joined. h last (is.ends row last painted joined) }

-- the same colours
pub same_row : (f : Point → Colour → Colour) (p : Point) (old a b : List Colour) → length b ≡ length a → ((i : ℕ) → i < length a → get_or b i transparent ≡ get_or a i transparent) → IsPainted f p old a → IsPainted f p old b
same_row f p old a b long same is =
    record { long = long ∙ is.long; each = λ i low. let n = is.long in same i (omega (arith, low, n)) ∙ is.each i low }

or_less : {P : Type 0} (a b : ℕ) → (a < b → P) → (b ≤ a → P) → P
or_less {P} a b less more = by_test (nat_lt a b) refl
  where
    by_test : (t : Bool) → nat_lt a b ≡ t → P
    by_test true e = less (ltb-true a b e)
    by_test false e = more (ltb-false a b e)

-- the places of a level that is moved
same_places : (a b i k : ℕ) → (nat_le (a + b) (b + i) && nat_lt (b + i) (a + b + k)) ≡ (nat_le a i && nat_lt i (a + k))
same_places a b i k = grind (arith, nat_tests)

before_places : (a b i k : ℕ) → i < b → (nat_le (a + b) i && nat_lt i (a + b + k)) ≡ false
before_places a b i k less = grind (arith, nat_tests, less)

behind_places : (a b i k n : ℕ) → b + n ≤ i → a + k ≤ n → (nat_le (a + b) i && nat_lt i (a + b + k)) ≡ false
behind_places a b i k n more fits = grind (arith, nat_tests, more, fits)

-- a place of a part
place_of : (xs : List Colour) (from k i : ℕ) → i < k → get_or (take k (drop from xs)) i transparent ≡ get_or xs (from + i) transparent
place_of xs from k i low = get_or-take k (drop from xs) i transparent low ∙ get_or-drop from xs i transparent

-- a part of a row is painted with a level, and so the row is
module _ (active : List FrameData) (f g : Point → Colour → Colour) (p q : Point) (sub old base mid : List Colour) (from n : ℕ) (l : Level) (part : length sub ≡ n) (fits : from + n ≤ length base) (same : length base ≡ length old)
    (whole : (new : List Colour) → IsPainted f p sub new → IsPainted g q old (put_mid from n base new)) (is : IsWaiting active f p sub mid l) where
  mid_long : length mid ≡ n
  mid_long = is.long ∙ part

  abbrev big : List Colour
  big = put_mid from n base mid

  big_long : length big ≡ length base
  big_long = length_replaced transparent base mid from n fits mid_long

  module _ (row last : List Colour) (painted : IsPainted (rest active l) l.start l.row row) (joined : IsJoined (moved from l) row big last) where
    few : l.from + length row ≤ n
    few = let r = painted.long in let m = mid_long in let h = is.fits in omega (arith, r, m, h)

    last_long : length last ≡ length base
    last_long = joined.long ∙ big_long

    abbrev inner : List Colour
    inner = take n (drop from last)

    inner_long : length inner ≡ n
    inner_long = let w = last_long in length_part transparent last from n (omega (arith, w, fits))

    inner_each : (i : ℕ) → i < length mid → get_or inner i transparent
        ≡ (if nat_le l.from i && nat_lt i (l.from + length row) then laid l.mode (get_or row (i - l.from) transparent) l.opacity (get_or mid i transparent) else get_or mid i transparent)
    inner_each i low =
        let m = mid_long in
        let w = big_long in
        let back : from + i - from ≡ i = omega arith in
        let less : from + i - (l.from + from) ≡ i - l.from = omega arith in
        let there : get_or big (from + i) transparent ≡ get_or mid i transparent =
        in_part transparent from n base mid (from + i) (omega (arith, fits)) m (omega arith) (omega (arith, low, m)) ∙ ap (λ k. get_or mid k transparent) back
        in
        let test = same_places l.from from i (length row) in
        place_of last from n i (omega (arith, low, m))
        ∙ (joined.each (from + i) (omega (arith, w, low, m, fits))
        ∙ (λ j. if test j then laid l.mode (get_or row (less j) transparent) l.opacity (there j) else there j))

    at_each : (i : ℕ) → i < length (put_mid from n base inner) → get_or last i transparent ≡ get_or (put_mid from n base inner) i transparent
    at_each i low = or_less i from front (λ least. or_less i (from + n) (inside least) behind)
      where
        within : i < length big
        within = let w = big_long in let v = length_replaced transparent base inner from n fits inner_long in omega (arith, w, v, low)

        bare : (nat_le (l.from + from) i && nat_lt i (l.from + from + length row)) ≡ false → get_or last i transparent ≡ get_or big i transparent
        bare e = joined.each i within ∙ ap (λ t. if t then laid l.mode (get_or row (i - (l.from + from)) transparent) l.opacity (get_or big i transparent) else get_or big i transparent) e

        front : i < from → get_or last i transparent ≡ get_or (put_mid from n base inner) i transparent
        front less =
            bare (before_places l.from from i (length row) less)
            ∙ (below_part transparent from n base mid i (omega (arith, fits)) less ∙ sym (below_part transparent from n base inner i (omega (arith, fits)) less))

        inside : from ≤ i → i < from + n → get_or last i transparent ≡ get_or (put_mid from n base inner) i transparent
        inside least most =
            sym (in_part transparent from n base inner i (omega (arith, fits)) inner_long least most ∙ part_of transparent last from n i least most)

        behind : from + n ≤ i → get_or last i transparent ≡ get_or (put_mid from n base inner) i transparent
        behind least =
            bare (behind_places l.from from i (length row) n least few)
            ∙ (behind_part transparent from n base mid i (omega (arith, fits)) mid_long least ∙ sym (behind_part transparent from n base inner i (omega (arith, fits)) inner_long least))

    ended : IsPainted g q old last
    ended =
        same_row g q old (put_mid from n base inner) last (last_long ∙ sym (length_replaced transparent base inner from n fits inner_long)) at_each
        (whole inner (is.ends row inner painted (record { long = inner_long ∙ sym mid_long; each = inner_each })))

  pub lifted : IsWaiting active g q old big (moved from l)
  lifted =
      record {
        fits = let h = is.fits in let m = mid_long in let w = big_long in omega (arith, h, m, w, fits);
        long = big_long ∙ same;
        ends = ended;
      }

-- a part of a row is painted at once or with a level, and so the row is
pub part_with : (active : List FrameData) (f g : Point → Colour → Colour) (p q : Point) (sub old base mid : List Colour) (from n : ℕ) (o : Option Level) → length sub ≡ n → from + n ≤ length base → length base ≡ length old
    → ((new : List Colour) → IsPainted f p sub new → IsPainted g q old (put_mid from n base new)) → IsPaintedWith active f p sub mid o → IsPaintedWith active g q old (put_mid from n base mid) (option_map (moved from) o)
part_with active f g p q sub old base mid from n None part fits same whole is = whole mid is
part_with active f g p q sub old base mid from n (Some l) part fits same whole is = lifted active f g p q sub old base mid from n l part fits same whole is
