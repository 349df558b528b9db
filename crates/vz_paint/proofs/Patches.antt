-- What is drawn in the columns and rows that an area has.
use Rattle.std.proofs.Common.{◌≡◌, ℕ, ◌+◌, ◌-◌, ◌*◌, ◌≤◌, ◌<◌, ℤ, pos, ◌+ℤ◌, ◌≤ℤ◌, ◌<ℤ◌, Bool, true, false, ◌&&◌, if◌then◌else◌, List, ◌∷◌, length, take, drop, map, get_or, replicate, refl, sym, ap, ◌∙◌, subst, arith}
use Rattle.std.specs.Prelude.{nat_le, nat_lt}
use Rattle.std.proofs.{lemmas.Int.ints, lemmas.List.get_or-map, lemmas.List.length-map, lemmas.List.get_or-replicate, lemmas.List.length-replicate}
use Rattle.std.proofs.lemmas.Bool.{and_parts, leb-true, ltb-true, ltb-false, le-leb, lt-ltb, and_from as both_true}
use Rattle.std.proofs.{lemmas.Simd.get_or-zip2, lemmas.Simd.length-zip2, lemmas.Bool.Decides.nat_tests}
use lib.Lanes.{zip2}
use Rattle.vz_geom.specs.{declared.Point.Point, Rectangle.Rectangle, Rectangle.IsRectangle, Rectangle.has}
use Rattle.vz_geom.proofs.{Numbers.given, Numbers.stays, Sets.to_in}
use Rattle.vz_pixels.specs.{Block.Block, Colour.Colour, Colour.transparent, Colour.scale}
use Rattle.vz_frame.specs.{declared.blend.Blend.Blend, Blending.blend, Blending.laid}
use Rattle.vz_frame.proofs.Parts.{part_of, length_part}
use Rattle.vz_flat.specs.{declared.op.Op.Op, declared.op.Op.TheVariants.Fill, declared.op.Op.TheVariants.Blit, Ops.Group, Ops.run, Ops.is_inside}
use Rattle.vz_paint.specs.{Row.right_of, Row.IsStart, Stack.IsItem, Redraw.point_of, Redraw.step_of}
use Rattle.vz_paint.proofs.{Spanned.IsBefore, Blitted.FitsBlock, Blitted.fits_block, Redrawn.IsUpto, Redrawn.part_fits, Redrawn.rows_next}
use borrow.Rule.Slice.PartMut.{put_mid}

not_both : (t : Bool) → t ≡ true → t ≡ false → ⊥
not_both t e f = cc

-- a point above an area, and one under it, is not in it
pub above_none : (area : Rectangle) (p : Point) → p.y <ℤ area.y → has area p ≡ false
above_none area p above = grind (arith, nat_tests, to_in area p, ints)

pub under_none : (area : Rectangle) (p : Point) → (area.y +ℤ area.h) ≤ℤ p.y → has area p ≡ false
under_none area p under = grind (arith, nat_tests, to_in area p, ints)

-- rows above the first row of an area, and from its end on
pub rows_above : (area : Rectangle) (start : Point) (count top r i : ℕ) → IsBefore area.y start.y count top → r < top → has area (point_of start r i) ≡ false
rows_above area start count top r i is low = grind (arith, nat_tests, above_none area (point_of start r i), ints)

pub rows_under : (area : Rectangle) (start : Point) (count bottom r i : ℕ) → IsBefore (area.y +ℤ area.h) start.y count bottom → r < count → bottom ≤ r → has area (point_of start r i) ≡ false
rows_under area start count bottom r i is low more = grind (arith, nat_tests, under_none area (point_of start r i), ints)

-- rows that an area has
pub row_top : (area : Rectangle) (start : Point) (count top r : ℕ) → IsBefore area.y start.y count top → r < count → top ≤ r → area.y ≤ℤ (start.y +ℤ pos r)
row_top area start count top r is low more = grind (arith, nat_tests, ints)

pub row_bottom : (area : Rectangle) (start : Point) (count bottom r : ℕ) → IsBefore (area.y +ℤ area.h) start.y count bottom → r < bottom → (start.y +ℤ pos r) <ℤ (area.y +ℤ area.h)
row_bottom area start count bottom r is low = grind (arith, nat_tests, ints)

-- colours that are laid where an area has a point
abbrev pub laying : Point → Rectangle → (ℕ → ℕ → Colour) → ℕ → Blend → ℕ → ℕ → Colour → Colour
laying start area colour o m r i d = if has area (point_of start r i) then laid m (colour r i) o d else d

-- where it has none, nothing changes
pub laid_none : (start : Point) (area : Rectangle) (colour : ℕ → ℕ → Colour) (o : ℕ) (m : Blend) (r i : ℕ) (d : Colour) → has area (point_of start r i) ≡ false → laying start area colour o m r i d ≡ d
laid_none start area colour o m r i d e = ap (λ t. if t then laid m (colour r i) o d else d) e

-- what an item makes of a colour
pub item_runs : (start : Point) (op : Op) (rest : List Op) (stack : List Group) (r i : ℕ) (d : Colour) → IsItem op → run (point_of start r i) (op ∷ rest) stack d ≡ run (point_of start r i) rest stack (step_of start op r i d)
unfolding run
item_runs start op rest stack r i d is = grind (arith, nat_tests)

-- edges are passed as they are
pub top_given : (area : Rectangle) (y : ℤ) → IsRectangle area → y ≡ area.y → given y ≡ area.y
top_given area y is same = grind (arith, nat_tests, stays y, ints)

pub bottom_given : (area : Rectangle) (y : ℤ) → IsRectangle area → y ≡ area.y +ℤ area.h → given y ≡ area.y +ℤ area.h
bottom_given area y is same = grind (arith, nat_tests, stays y, ints)

-- a row more is filled
pub level_next : (width left wide count k at : ℕ) (ground : Colour) (before now new : List Colour) → IsUpto width left wide count 0 k (λ r i d. ground) before now → k < count → left + wide ≤ width → length before ≡ count * width → at ≡ k * width + left
    → new ≡ replicate (length (take ((at + wide) - at) (drop at now))) ground → IsUpto width left wide count 0 (k + 1) (λ r i d. ground) before (put_mid at ((at + wide) - at) now new)
level_next width left wide count k at ground before now new is low inside all at_is new_is =
    let fits = part_fits width left wide k count wide (length before) inside low (omega arith) all in
    let same = is.long in
    let part = length_part transparent now at ((at + wide) - at) (omega (arith, fits, same, at_is)) in
    let long : length new ≡ (at + wide) - at = ap length new_is ∙ (length-replicate (length (take ((at + wide) - at) (drop at now))) ground ∙ part) in
    rows_next width left wide count 0 k 0 wide at (at + wide) (λ r i d. ground) before now new is low (omega arith) (omega arith) inside all (omega (arith, at_is)) (omega (arith, at_is)) long
    (λ i least near.
    ap (λ l. get_or l (i - 0) transparent) new_is
    ∙ get_or-replicate (length (take ((at + wide) - at) (drop at now))) (i - 0) ground transparent (omega (arith, part, near)))
    (λ i near none d. absurd (not_both (nat_le 0 i && nat_lt i wide) (both_true (nat_le 0 i) (nat_lt i wide) (le-leb 0 i (omega arith)) (lt-ltb i wide near)) none))

-- a row more is blended with a colour
pub tint_next : (width left wide count first k at from to : ℕ) (start : Point) (area : Rectangle) (c own : Colour) (o : ℕ) (m : Blend) (before now new : List Colour) → IsUpto width left wide count first k (step_of start (Fill area c o m)) before now
    → k < count → from ≤ to → to ≤ wide → left + wide ≤ width → length before ≡ count * width → at ≡ k * width + left
    → ((i : ℕ) → i < wide → has area (point_of start k i) ≡ (nat_le from i && nat_lt i to)) → own ≡ scale c o
    → new ≡ map (blend m own) (take ((at + to) - (at + from)) (drop (at + from) now))
    → IsUpto width left wide count first (k + 1) (step_of start (Fill area c o m)) before (put_mid (at + from) ((at + to) - (at + from)) now new)
unfolding laid
tint_next width left wide count first k at from to start area c own o m before now new is low up most inside all at_is exact own_is new_is =
    let fits = part_fits width left wide k count to (length before) inside low most all in
    let same = is.long in
    let a = at + from in
    let n = (at + to) - (at + from) in
    let some = take n (drop a now) in
    let part = length_part transparent now a n (omega (arith, fits, same, at_is, up)) in
    let long : length new ≡ n = ap length new_is ∙ (length-map some (blend m own) ∙ part) in
    rows_next width left wide count first k from to a (at + to) (step_of start (Fill area c o m)) before now new is low up most inside all (omega (arith, at_is)) (omega (arith, at_is)) long
    (λ i least near.
    let here : has area (point_of start k i) ≡ true = exact i (omega (arith, near, most)) ∙ both_true (nat_le from i) (nat_lt i to) (le-leb from i least) (lt-ltb i to near) in
    let place : ((k * width + left) + i) - a ≡ i - from = omega (arith, at_is, least) in
    let was : get_or some (i - from) transparent ≡ get_or now ((k * width + left) + i) transparent =
    ap (λ j. get_or some j transparent) (sym place) ∙ part_of transparent now a n ((k * width + left) + i) (omega (arith, at_is, least)) (omega (arith, at_is, near, up))
    in
    ap (λ l. get_or l (i - from) transparent) new_is
    ∙ (get_or-map (blend m own) some (i - from) transparent transparent (omega (arith, part, near, least))
    ∙ (ap (blend m own) was
    ∙ (ap (λ s. blend m s (get_or now ((k * width + left) + i) transparent)) own_is
    ∙ ap (λ t. if t then laid m c o (get_or now ((k * width + left) + i) transparent) else get_or now ((k * width + left) + i) transparent) (sym here)))))
    (λ i near none d. laid_none start area (λ r i. c) o m k i d (exact i near ∙ none))

-- a row more is blended with other colours
pub mix_next : (width left wide count first k at from to : ℕ) (start : Point) (area : Rectangle) (colour : ℕ → ℕ → Colour) (o : ℕ) (m : Blend) (source before now new : List Colour)
    → IsUpto width left wide count first k (laying start area colour o m) before now
    → k < count → from ≤ to → to ≤ wide → left + wide ≤ width → length before ≡ count * width → at ≡ k * width + left
    → ((i : ℕ) → i < wide → has area (point_of start k i) ≡ (nat_le from i && nat_lt i to)) → length source ≡ to - from
    → ((i : ℕ) → from ≤ i → i < to → get_or source (i - from) transparent ≡ colour k i)
    → new ≡ zip2 (λ s d. laid m s o d) source (take ((at + to) - (at + from)) (drop (at + from) now))
    → IsUpto width left wide count first (k + 1) (laying start area colour o m) before (put_mid (at + from) ((at + to) - (at + from)) now new)
mix_next width left wide count first k at from to start area colour o m source before now new is low up most inside all at_is exact counted colours new_is =
    let fits = part_fits width left wide k count to (length before) inside low most all in
    let same = is.long in
    let a = at + from in
    let n = (at + to) - (at + from) in
    let some = take n (drop a now) in
    let part = length_part transparent now a n (omega (arith, fits, same, at_is, up)) in
    let long : length new ≡ n = ap length new_is ∙ (length-zip2 (λ s d. laid m s o d) source some (omega (arith, counted, part, up)) ∙ omega (arith, counted, up)) in
    rows_next width left wide count first k from to a (at + to) (laying start area colour o m) before now new is low up most inside all (omega (arith, at_is)) (omega (arith, at_is)) long
    (λ i least near.
    let here : has area (point_of start k i) ≡ true = exact i (omega (arith, near, most)) ∙ both_true (nat_le from i) (nat_lt i to) (le-leb from i least) (lt-ltb i to near) in
    let place : ((k * width + left) + i) - a ≡ i - from = omega (arith, at_is, least) in
    let was : get_or some (i - from) transparent ≡ get_or now ((k * width + left) + i) transparent =
    ap (λ j. get_or some j transparent) (sym place) ∙ part_of transparent now a n ((k * width + left) + i) (omega (arith, at_is, least)) (omega (arith, at_is, near, up))
    in
    ap (λ l. get_or l (i - from) transparent) new_is
    ∙ (get_or-zip2 (λ s d. laid m s o d) source some (i - from) transparent transparent transparent (omega (arith, counted, near, least)) (omega (arith, part, near, least))
    ∙ (ap (λ s. laid m s o (get_or some (i - from) transparent)) (colours i least near)
    ∙ (ap (laid m (colour k i) o) was
    ∙ ap (λ t. if t then laid m (colour k i) o (get_or now ((k * width + left) + i) transparent) else get_or now ((k * width + left) + i) transparent) (sym here)))))
    (λ i near none d. laid_none start area colour o m k i d (exact i near ∙ none))

-- an area that has no columns of these has no point of them
pub no_columns : (area : Rectangle) (start : Point) (wide count from to top bottom r i : ℕ) → to ≤ from → ((r i : ℕ) → r < top → has area (point_of start r i) ≡ false) → ((r i : ℕ) → r < count → bottom ≤ r → has area (point_of start r i) ≡ false)
    → ((r i : ℕ) → r < count → top ≤ r → r < bottom → i < wide → has area (point_of start r i) ≡ (nat_le from i && nat_lt i to)) → r < count → i < wide → has area (point_of start r i) ≡ false
no_columns area start wide count from to top bottom r i none above under exact low near = by_tests (nat_lt r top) (nat_lt r bottom) refl refl
  where
    nowhere : (t : Bool) → (nat_le from i && nat_lt i to) ≡ t → (nat_le from i && nat_lt i to) ≡ false
    nowhere true e =
        let parts = and_parts (nat_le from i) (nat_lt i to) e in
        let least = leb-true from i parts.0 in
        let less = ltb-true i to parts.1 in
        absurd (omega (arith, least, less, none))
    nowhere false e = e

    by_tests : (t u : Bool) → nat_lt r top ≡ t → nat_lt r bottom ≡ u → has area (point_of start r i) ≡ false
    by_tests true u e g = above r i (ltb-true r top e)
    by_tests false false e g = under r i low (ltb-false r bottom g)
    by_tests false true e g = exact r i low (ltb-false r top e) (ltb-true r bottom g) near ∙ nowhere (nat_le from i && nat_lt i to) refl

-- the texels of a row that an area has are in the block
pub block_row : (area : Rectangle) (block : Block) (first start low_point : Point) (o : ℕ) (m : Blend) (wide count k from to top bottom : ℕ) → from < to → to ≤ wide → bottom ≤ count
    → ((r i : ℕ) → r < count → top ≤ r → r < bottom → i < wide → has area (point_of start r i) ≡ (nat_le from i && nat_lt i to)) → top ≤ k → k < bottom → low_point ≡ record { x = start.x; y = start.y +ℤ pos k } → is_inside (Blit area block first.x first.y o m) ≡ true
    → FitsBlock area block first low_point from to
block_row area block first start low_point o m wide count k from to top bottom some most down exact least less is inside =
    fits_block area block first low_point o m wide from to some most
    (λ i near. ap (λ (q : Point). has area (right_of q i)) is ∙ exact k i (omega (arith, down, less)) least less near) inside

pub low_start : (start low_point : Point) (k : ℕ) → IsStart start → low_point ≡ record { x = start.x; y = start.y +ℤ pos k } → IsStart low_point
low_start start low_point k is at = subst IsStart (sym at) (record { left = is.left; right = is.right })

pub near_row : (y : ℤ) (k count : ℕ) → k < count → (y +ℤ pos count) ≤ℤ pos 2048 → (y +ℤ pos k) ≤ℤ pos 2048
near_row y k count low most = omega (arith, ints, low, most)
