-- Bands that are taken one by one.
use Rattle.std.proofs.Common.{◌≡◌, ℕ, zero, suc, Bool, true, false, ◌+◌, ◌*◌, ◌≤◌, List, [], ◌∷◌, ◌++◌, length, take, drop, slice_set, refl, ap, ap₂, sym, ◌∙◌, subst, arith}
use Rattle.std.specs.Borrow.{GName}
use Rattle.std.specs.List.{All}
use Rattle.std.proofs.Math.Nat.{mul-le-mul_right}
use Rattle.std.proofs.lemmas.List.{length-take-le, length-drop}
use Rattle.vz_base.specs.declared.limits.TheConstants.{GREATEST_DISPLAY_SIDE}
use Rattle.vz_pixels.specs.Colour.{Colour}
use Rattle.vz_buffers.specs.declared.bands.Place.{Place}
use Rattle.vz_buffers.specs.declared.crew.Parts.{Parts}
use Rattle.vz_buffers.specs.Bands.{Strip, FitsIn, MayPaint, ArePainted, rows_put, rows_from}
use Rattle.vz_buffers.specs.Taken.{Work, IsReady, AreReady, IsPlaced, IsBand, MayHold, drawn, drawn_if, strip_of}
use Rattle.vz_buffers.proofs.Banding.{rows_both, shift}

-- the first part of a band
upper_band : (w : Work) (broad from count f n m k : ℕ) (pixels top : List Colour) → IsBand w from count pixels → broad ≡ w.width → f ≡ from → n + m ≡ count → k ≡ n * broad → top ≡ take k pixels → IsBand w f n top
upper_band w broad from count f n m k pixels top band wide first all part is =
    let part : k ≡ n * w.width = part ∙ ap (λ z. n * z) wide in
    let less : n * w.width ≤ count * w.width = mul-le-mul_right w.width (omega (arith, all)) in
    let long = band.counted in
    let upto = band.upto in
    let few = band.few in
    record {
      upto = omega (arith, first, all, upto);
      few = omega (arith, first, all, few);
      counted = ap length is ∙ (length-take-le k pixels (omega (arith, part, less, long)) ∙ part);
    }

-- the rest of it
lower_band : (w : Work) (broad from count g n m k : ℕ) (pixels bottom : List Colour) → IsBand w from count pixels → broad ≡ w.width → g ≡ from + n → n + m ≡ count → k ≡ n * broad → bottom ≡ drop k pixels → IsBand w g m bottom
lower_band w broad from count g n m k pixels bottom band wide later all part is =
    let part : k ≡ n * w.width = part ∙ ap (λ z. n * z) wide in
    let parts : (n + m) * w.width ≡ n * w.width + m * w.width = grind arith in
    let whole : count * w.width ≡ n * w.width + m * w.width = ap (λ z. z * w.width) (sym all) ∙ parts in
    let left_over = length-drop k pixels in
    let long = band.counted in
    let upto = band.upto in
    let few = band.few in
    record {
      upto = omega (arith, later, all, upto);
      few = omega (arith, later, all, few);
      counted = ap length is ∙ omega (arith, left_over, part, whole, long);
    }

-- the parts of a band may be held, the first one by whoever aims at it
pub may_hold :
    {P : Type 0} (able : P → Type 0) (strip : P → Strip) (w : Work) (broad from count k : ℕ) (parts : Parts) (painters : List P) (name : GName) (pixels top bottom : List Colour) → AreReady able strip w painters → IsBand w from count pixels →
    broad ≡ w.width → parts.now.from ≡ from → parts.later.from ≡ from + parts.now.count → parts.now.count + parts.later.count ≡ count → k ≡ parts.now.count * broad → top ≡ take k pixels → bottom ≡ drop k pixels
    → MayHold able strip w (record { name = name; before = top; from = parts.now.from; count = parts.now.count }) parts painters name top bottom
may_hold able strip w broad from count k parts painters name pixels top bottom ready band wide first later all part up low =
    let n = parts.now.count in
    let m = parts.later.count in
    record {
      ready = ready;
      target = record {
        lent = refl;
        held = refl;
        first = refl;
        many = refl;
      };
      band = upper_band w broad from count parts.now.from n m k pixels top band wide first all part up;
      next = lower_band w broad from count parts.later.from n m k pixels bottom band wide later all part low;
    }

-- the rows of ready painters fit
ready_fits : {P : Type 0} (able : P → Type 0) (strip : P → Strip) (w : Work) (painters : List P) → AreReady able strip w painters → FitsIn w.width w.left w.wide w.strip
ready_fits able strip w [] are = absurd (let some = are.some in omega (arith, some))
ready_fits able strip w (p ∷ ps) are = (are.all 0 p are.some).fits

-- and they are not too wide
pub ready_small : {P : Type 0} (able : P → Type 0) (strip : P → Strip) (w : Work) (broad : ℕ) (painters : List P) → AreReady able strip w painters → broad ≡ w.width → broad ≤ GREATEST_DISPLAY_SIDE
ready_small able strip w broad [] are same = absurd (let some = are.some in omega (arith, some))
ready_small able strip w broad (p ∷ ps) are same = subst (λ z. z ≤ GREATEST_DISPLAY_SIDE) (sym same) (are.all 0 p are.some).small

-- ready painters of which the first was used
pub set_ready : {P : Type 0} (able : P → Type 0) (strip : P → Strip) (w : Work) (painters : List P) (x : P) → AreReady able strip w painters → IsReady able strip w x → AreReady able strip w (slice_set painters 0 x)
set_ready able strip w [] x are is = absurd (let some = are.some in omega (arith, some))
set_ready able strip w (p ∷ ps) x are is = record {
  some = are.some;
  all = all;
}
  where
    all : All (IsReady able strip w) (x ∷ ps)
    all zero d low = is
    all (suc i) d low = are.all (suc i) d low

-- both parts are drawn
pub both_drawn :
    {P : Type 0} (able : P → Type 0) (strip : P → Strip) (w : Work) (broad : ℕ) (painters : List P) (from count k : ℕ) (parts : Parts) (pixels top bottom upper mid lower : List Colour) → AreReady able strip w painters → broad ≡ w.width →
    parts.now.from ≡ from → parts.later.from ≡ from + parts.now.count → parts.now.count + parts.later.count ≡ count → k ≡ parts.now.count * broad → pixels ≡ top ++ bottom → length top ≡ k → upper ≡ mid →
    mid ≡ drawn w parts.now.from parts.now.count top → lower ≡ drawn w parts.later.from parts.later.count bottom → upper ++ lower ≡ drawn w from count pixels
both_drawn able strip w broad painters from count k parts pixels top bottom upper mid lower are wide_is first later all part cut long same up low =
    let fits = ready_fits able strip w painters are in
    let row = rows_from from w.strip.row in
    let n = parts.now.count in
    let m = parts.later.count in
    let long : length top ≡ n * w.width = long ∙ (part ∙ ap (λ z. n * z) wide_is) in
    ap₂ ◌++◌ (same ∙ (up ∙ ap (λ z. rows_put w.width w.left (rows_from z w.strip.row) n top) first))
    (low ∙ (ap (λ z. rows_put w.width w.left (rows_from z w.strip.row) m bottom) later ∙ ap (λ r. rows_put w.width w.left r m bottom) (shift from n w.strip.row)))
    ∙ (sym (rows_both w.width w.left w.wide n m row top bottom (λ j. fits.each (from + j)) fits.inside long)
    ∙ (ap (λ z. rows_put w.width w.left row z (top ++ bottom)) all ∙ ap (rows_put w.width w.left row count) (sym cut)))

-- a band that waits has its pixels still
pub waits : (done : Bool) (w : Work) (from count : ℕ) (before now : List Colour) → now ≡ drawn_if done w from count before → done ≡ false → now ≡ before
unfolding drawn_if
waits done w from count before now is not_done = is ∙ ap (λ d. drawn_if d w from count before) not_done

-- one that is done is drawn
pub is_drawn : (done : Bool) (w : Work) (from count : ℕ) (before now : List Colour) → now ≡ drawn_if done w from count before → done ≡ true → now ≡ drawn w from count before
unfolding drawn_if
is_drawn done w from count before now is done_is = is ∙ ap (λ d. drawn_if d w from count before) done_is

-- one that is begun waits
pub begun : (w : Work) (from count : ℕ) (before now : List Colour) → now ≡ before → now ≡ drawn_if false w from count before
unfolding drawn_if
begun w from count before now is = is

-- the band at hand is the one that is meant
pub own_band : (w : Work) (from count f n : ℕ) (before now : List Colour) → IsBand w from count before → f ≡ from → n ≡ count → now ≡ before → IsBand w f n now
own_band w from count f n before now band first many same =
    subst (λ z. IsBand w z n now) (sym first) (subst (λ z. IsBand w from z now) (sym many) (subst (IsBand w from count) (sym same) band))

-- what was drawn of the band at hand was drawn of the one that is meant
pub own_drawn : (w : Work) (from count f n : ℕ) (before now after : List Colour) → f ≡ from → n ≡ count → now ≡ before → after ≡ drawn w f n now → after ≡ drawn w from count before
own_drawn w from count f n before now after first many same is =
    is
    ∙ (ap (λ z. drawn w z n now) first
    ∙ (ap (λ z. drawn w from z now) many ∙ ap (drawn w from count) same))

-- and then the band is done
pub now_done : (w : Work) (from count : ℕ) (before after : List Colour) → after ≡ drawn w from count before → after ≡ drawn_if true w from count before
unfolding drawn_if
now_done w from count before after is = is

-- rows that fit there fit where they stand
pub fits_there : (w : Work) (place : Place) (t : Strip) → IsPlaced w place → t ≡ w.strip → FitsIn w.width w.left w.wide w.strip → FitsIn place.width place.left place.wide t
fits_there w place t placed same fits =
    subst (λ z. FitsIn z place.left place.wide t) (sym placed.across)
    (subst (λ z. FitsIn w.width z place.wide t) (sym placed.behind) (subst (λ z. FitsIn w.width w.left z t) (sym placed.broad) (subst (FitsIn w.width w.left w.wide) (sym same) fits)))

-- and what is drawn there is drawn where they stand
pub drawn_there : (w : Work) (place : Place) (t : Strip) (from count : ℕ) (before after : List Colour) → IsPlaced w place → t ≡ w.strip → after ≡ rows_put place.width place.left (rows_from from t.row) count before → after ≡ drawn w from count before
drawn_there w place t from count before after placed same is =
    is
    ∙ (ap (λ z. rows_put z place.left (rows_from from t.row) count before) placed.across
    ∙ (ap (λ z. rows_put w.width z (rows_from from t.row) count before) placed.behind ∙ ap (λ (z : Strip). rows_put w.width w.left (rows_from from z.row) count before) same))

-- a painter that still can is ready again
pub still_ready : {P : Type 0} (able : P → Type 0) (strip : P → Strip) (w : Work) (old new : P) → IsReady able strip w old → able new → strip new ≡ strip old → IsReady able strip w new
still_ready able strip w old new is can same = record {
  ready = can;
  draws = same ∙ is.draws;
  fits = is.fits;
  small = is.small;
}

module _ {P : Type 0} (able : P → Type 0) (strip : P → Strip) (width left wide from count : ℕ) (pixels : List Colour) where
  -- what such painters do
  abbrev pub work_of : List P → Work
  work_of painters = record {
    width = width;
    left = left;
    wide = wide;
    strip = strip_of strip painters;
  }

  -- painters that may paint are ready for what the first one draws
  pub may_ready : (painters : List P) → MayPaint able strip width left wide from count painters pixels → AreReady able strip (work_of painters) painters
  may_ready [] may = absurd (let some = may.some in omega (arith, some))
  may_ready (p ∷ ps) may =
      let same : strip p ≡ may.ready.0 = (may.ready.3 0 p may.some).1 in
      record {
        some = may.some;
        all = λ i d low. record {
          ready = (may.ready.3 i d low).0;
          draws = (may.ready.3 i d low).1 ∙ sym same;
          fits = subst (FitsIn width left wide) (sym same) may.ready.1;
          small = may.small;
        };
      }

  -- and the band is one of its rows
  pub may_band : (painters : List P) → MayPaint able strip width left wide from count painters pixels → IsBand (work_of painters) from count pixels
  may_band [] may = absurd (let some = may.some in omega (arith, some))
  may_band (p ∷ ps) may =
      let same : strip p ≡ may.ready.0 = (may.ready.3 0 p may.some).1 in
      record {
        upto = subst (λ (z : Strip). from + count ≤ z.high) (sym same) may.ready.2;
        few = may.few;
        counted = may.counted;
      }

  -- and what is drawn then was painted
  pub job_painted : (painters : List P) (after : List Colour) → MayPaint able strip width left wide from count painters pixels → after ≡ drawn (work_of painters) from count pixels → ArePainted strip width left from count painters pixels after
  job_painted [] after may is = absurd (let some = may.some in omega (arith, some))
  job_painted (p ∷ ps) after may is = λ s same. is ∙ ap (λ (z : Strip). rows_put width left (rows_from from z.row) count pixels) (same 0 p may.some)
