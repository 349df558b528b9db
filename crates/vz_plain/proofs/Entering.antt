-- Levels that begin: of groups, and of surfaces that are shown.
use Rattle.std.proofs.Common.{◌≡◌, ℕ, ◌+◌, ◌-◌, ◌≤◌, ◌<◌, true, ◌&&◌, if◌then◌else◌, Option, Some, None, List, length, take, drop, get_or, replicate, refl, sym, ap, ◌∙◌, arith, subst}
use Rattle.std.specs.Prelude.{nat_le, nat_lt, MatchOption}
use Rattle.std.proofs.lemmas.Int.{ints}
use Rattle.std.proofs.lemmas.Bool.Decides.{nat_tests}
use Rattle.std.proofs.lemmas.List.{get_or-replicate, length-replicate}
use borrow.Rule.Slice.PartMut.{put_same}
use Rattle.vz_geom.specs.declared.Point.{Point}
use Rattle.vz_geom.specs.Rectangle.{has, plus, corner}
use Rattle.vz_geom.proofs.Points.{same_point}
use Rattle.vz_pixels.specs.Colour.{Colour, transparent}
use Rattle.vz_pixels.proofs.Over.{scale_full}
use Rattle.vz_frame.specs.declared.blend.Blend.{Blend}
use Rattle.vz_frame.specs.declared.blend.Blend.TheVariants.{Src}
use Rattle.vz_frame.specs.declared.frame.RenderPass.{RenderPass}
use Rattle.vz_frame.specs.Blending.{blend, laid}
use Rattle.vz_frame.proofs.Parts.{length_part}
use Rattle.vz_rules.specs.World.{FrameData}
use Rattle.vz_plain.specs.Rows.{right_of, IsPainted}
use Rattle.vz_plain.specs.Painting.{Painter, embedded, passes_in, pass_here, group_here}
use Rattle.vz_plain.specs.Levels.{Level, rest, moved, IsJoined, IsWaiting, IsPaintedWith, IsNever, IsEntered}
use Rattle.vz_plain.proofs.Parted.{repainted, unpainted}
use Rattle.vz_plain.proofs.Rowed.{group_painted, group_part}
use Rattle.vz_plain.proofs.Waiting.{mapped, same_row, lifted}

all_places : (i k : ℕ) → i < k → (nat_le 0 i && nat_lt i (0 + k)) ≡ true
all_places i k low = grind (arith, nat_tests, low)

-- a row that is laid on all places of another
joined_whole : (l : Level) (own under last : List Colour) → l.from ≡ 0 → length own ≡ length under → IsJoined l own under last
    → (i : ℕ) → i < length under → get_or last i transparent ≡ laid l.mode (get_or own i transparent) l.opacity (get_or under i transparent)
joined_whole l own under last first same joined i low =
    let here : i - 0 ≡ i = omega arith in
    let test = all_places i (length own) (omega (arith, low, same)) in
    joined.each i low
    ∙ (ap (λ (f : ℕ). if nat_le f i && nat_lt i (f + length own) then laid l.mode (get_or own (i - f) transparent) l.opacity (get_or under i transparent) else get_or under i transparent) first
    ∙ (λ j. if test j then laid l.mode (get_or own (here j) transparent) l.opacity (get_or under i transparent) else get_or under i transparent))

-- Groups

pub group_waits : (p : Painter) (earlier : List RenderPass) (pass : RenderPass) (m : Blend) (o : ℕ) (start : Point) (from to : ℕ) (row : List Colour) (l : Level) → from ≤ to → to ≤ length row
    → ((i : ℕ) → i < length row → has pass.output (right_of start i) ≡ (nat_le from i && nat_lt i to))
    → l.start ≡ right_of start from → l.row ≡ replicate (to - from) transparent → l.from ≡ from → l.mode ≡ m → l.opacity ≡ o
    → ((q : Point) (d : Colour) → rest p.active l q d ≡ pass_here p earlier pass q d)
    → IsWaiting p.active (group_here p earlier pass m o) start row row l
group_waits p earlier pass m o start from to row l up fits exact at blank place mode opacity same =
    subst (λ (x : Level). IsWaiting p.active (group_here p earlier pass m o) start row row x) shifted
    (subst (λ (r : List Colour). IsWaiting p.active (group_here p earlier pass m o) start row r (moved from here)) (put_same from (to - from) row)
    (lifted p.active inside (group_here p earlier pass m o) (right_of start from) start part row row part from (to - from) here part_long (omega (arith, up, fits)) refl
    (λ new h. group_part p earlier pass m o start from to row new up fits exact h) waits))
  where
    inside : Point → Colour → Colour
    inside q d = laid m (pass_here p earlier pass q transparent) o d

    part : List Colour
    part = take (to - from) (drop from row)

    part_long : length part ≡ to - from
    part_long = length_part transparent row from (to - from) (omega (arith, up, fits))

    here : Level
    here = record l { from = 0 }

    shifted : moved from here ≡ l
    shifted = ap (λ (k : ℕ). record l { from = k }) (let e : 0 + from ≡ from = omega arith in e ∙ sym place)

    clear : List Colour
    clear = replicate (to - from) transparent

    clear_is : length clear ≡ to - from
    clear_is = length-replicate (to - from) transparent

    waits : IsWaiting p.active inside (right_of start from) part part here
    waits =
        record {
          fits = let b = ap length blank in let n = clear_is in let k = part_long in omega (arith, b, n, k);
          long = refl;
          ends = λ own last painted joined.
              let moved_row : IsPainted (pass_here p earlier pass) (right_of start from) clear own =
              repainted (rest p.active l) (pass_here p earlier pass) (right_of start from) (right_of start from) clear own (λ i d. same (right_of (right_of start from) i) d)
              (subst (λ (q : Point). IsPainted (rest p.active l) q clear own) at (subst (λ (r : List Colour). IsPainted (rest p.active l) l.start r own) blank painted))
              in
              let own_long : length own ≡ length part = let w = moved_row.long in let n = clear_is in let k = part_long in omega (arith, w, n, k) in
              let k = part_long in
              group_painted (pass_here p earlier pass) m o (right_of start from) clear own part last (clear_is ∙ sym part_long)
              (λ i low. get_or-replicate (to - from) i transparent transparent (omega (arith, low, k)))
              moved_row joined.long
              (λ i low. joined_whole here own part last refl own_long joined i low ∙ (λ j. laid (mode j) (get_or own i transparent) (opacity j) (get_or part i transparent)));
        }

-- what is painted as its group is painted as all passes tell
pub named_waits : (p : Painter) (passes earlier : List RenderPass) (pass : RenderPass) (id : ℕ) (m : Blend) (o : ℕ) (local start : Point) (row : List Colour) (level : Option Level) → start ≡ plus local (corner pass.output)
    → ((l : Point) (d : Colour) → passes_in p passes id m o l d ≡ group_here p earlier pass m o (plus l (corner pass.output)) d)
    → IsPaintedWith p.active (group_here p earlier pass m o) start row row level → IsPaintedWith p.active (passes_in p passes id m o) local row row level
named_waits p passes earlier pass id m o local start row level at is =
    mapped p.active (group_here p earlier pass m o) (passes_in p passes id m o) start local row row level (λ new h.
    repainted (group_here p earlier pass m o) (passes_in p passes id m o) start local row new (λ i d.
    let point : right_of start i ≡ plus (right_of local i) (corner pass.output) = ap (λ (q : Point). right_of q i) at ∙ same_point (omega (arith, ints)) refl in
    ap (λ (q : Point). group_here p earlier pass m o q d) point ∙ sym (is (right_of local i) d)) h)

-- Surfaces

-- a row that is laid by mode Src at opacity 255 takes the place of the other
replaces : (c d : Colour) → laid Src c 255 d ≡ c
unfolding laid blend
replaces c d = scale_full c

entered_painted : (p : Painter) (i : FrameData) (first : Point) (row : List Colour) (m : Blend) (o : ℕ) (l : Level) (own : List Colour) → IsEntered p i first row m o l → IsPainted (rest p.active l) l.start l.row own
    → IsPainted (embedded p p.path i) first row own
entered_painted p i first row m o l own is painted =
    is.paints own (subst (λ (q : Point). IsPainted (rest p.active l) q row own) is.start (subst (λ (r : List Colour). IsPainted (rest p.active l) l.start r own) is.row painted))

pub straight_waits : (p : Painter) (i : FrameData) (first : Point) (row : List Colour) (l : Level) → IsEntered p i first row Src 255 l → IsWaiting p.active (embedded p p.path i) first row row l
straight_waits p i first row l is =
    record {
      fits = let f = is.from in let r = ap length is.row in omega (arith, f, r);
      long = refl;
      ends = λ own last painted joined.
          let done = entered_painted p i first row Src 255 l own is painted in
          let long = done.long in
          same_row (embedded p p.path i) first row own last (joined.long ∙ sym long)
          (λ k low. joined_whole l own row last is.from long joined k (omega (arith, low, long))
          ∙ ((λ j. laid (is.mode j) (get_or own k transparent) (is.opacity j) (get_or row k transparent)) ∙ replaces (get_or own k transparent) (get_or row k transparent))) done;
    }

pub straight_with : (p : Painter) (i : FrameData) (first : Point) (row own : List Colour) (o : Option Level) → own ≡ row → MatchOption o (IsNever (embedded p p.path i)) (IsEntered p i first own Src 255)
    → IsPaintedWith p.active (embedded p p.path i) first row row o
straight_with p i first row own None same is = unpainted (embedded p p.path i) first row is
straight_with p i first row own (Some l) same is = straight_waits p i first row l (subst (λ (r : List Colour). IsEntered p i first r Src 255 l) same is)

pub apart_waits : (p : Painter) (i : FrameData) (m : Blend) (o : ℕ) (first : Point) (n : ℕ) (row : List Colour) (l : Level) → length row ≡ n → IsEntered p i first (replicate n transparent) m o l
    → IsWaiting p.active (λ q d. laid m (embedded p p.path i q transparent) o d) first row row l
apart_waits p i m o first n row l all is =
    record {
      fits = let f = is.from in let r = ap length is.row in let k = length-replicate n transparent in omega (arith, f, r, k, all);
      long = refl;
      ends = λ own last painted joined.
          let done = entered_painted p i first (replicate n transparent) m o l own is painted in
          let k = length-replicate n transparent in
          let own_long : length own ≡ length row = done.long ∙ (k ∙ sym all) in
          group_painted (embedded p p.path i) m o first (replicate n transparent) own row last (k ∙ sym all)
          (λ j low. get_or-replicate n j transparent transparent (omega (arith, low, all))) done joined.long
          (λ k low. joined_whole l own row last is.from own_long joined k low ∙ (λ j. laid (is.mode j) (get_or own k transparent) (is.opacity j) (get_or row k transparent)));
    }
