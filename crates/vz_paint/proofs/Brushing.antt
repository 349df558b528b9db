-- What a brush draws, and what brushes it takes to paint an area.
use Rattle.std.proofs.Common.{◌≡◌, ℕ, ◌<◌, nat_abs, List, ◌++◌, length, take, drop, map, arith, Bor}
use Rattle.std.specs.List.{All}
use Rattle.std.proofs.{lemmas.Int.ints, Math.Seq.take-append_seam, lemmas.List.FromFn.length-map-range_with_len, lemmas.Bool.Decides.nat_tests}
use Rattle.vz_geom.specs.{declared.Point.Point, declared.Size.Size, Rectangle.Rectangle, Rectangle.sized}
use Rattle.vz_pixels.specs.Colour.{Colour}
use Rattle.vz_buffers.specs.Bands.{Strip, FitsIn, ArePainters, MayPut}
use Rattle.vz_machine.specs.Pictured.{IsInside}
use Rattle.vz_flat.specs.{declared.op.Op.Op, Ops.value}
use Rattle.vz_paint.specs.{Row.place_in, Row.IsStart, Stack.HavePixels, declared.brush.Sheet.Sheet}
use Rattle.vz_paint.specs.{Strips.IsArea, Strips.IsBrush, Strips.strip_of, declared.brush.Brush.Brush, declared.group.OpenGroup.OpenGroup}

-- a row of an area begins on a display
pub start_is : (area : Rectangle) (start : Point) → IsArea area → start.x ≡ area.x → IsStart start
start_is area start on is = grind (arith, nat_tests, ints)

-- a row of the strip has a colour for each column of the area
pub row_long : (ops : List Op) (ground : Colour) (area : Rectangle) (k : ℕ) → length ((strip_of ops ground area).row k) ≡ nat_abs area.w
row_long ops ground area k = length-map-range_with_len (λ (i : ℕ). value ops (place_in area i k) ground) 0 (nat_abs area.w)

-- a brush that has drawn rows can draw the next ones
pub brush_stays : (ops : List Op) (area : Rectangle) (rows : ℕ) (items lent now : List OpenGroup) (len : ℕ) → IsBrush ops area rows items → lent ≡ items → length lent ≡ len → length now ≡ length lent → ((n : ℕ) → HavePixels n lent → HavePixels n now) → IsBrush ops area rows (take len (now ++ drop (length now) items))
brush_stays ops area rows items lent now len is same counted long pixels = grind (arith, nat_tests, take-append_seam now (drop (length now) items))

-- the rows of an area fit on the display
pub strip_fits : (size : Size) (ops : List Op) (ground : Colour) (area : Rectangle) → IsInside (sized size) area → FitsIn (nat_abs size.w) (nat_abs area.x) (nat_abs area.w) (strip_of ops ground area)
strip_fits size ops ground area inside = grind (arith, nat_tests, length-map-range_with_len, ints)

-- brushes for one drawing can paint its area
are_painters : {P : Type 0} (able : P → Type 0) (strip : P → Strip) (size : Size) (ops : List Op) (ground : Colour) (area : Rectangle) (brushes : List P) → IsInside (sized size) area
    → All (λ b. able b × (strip b ≡ strip_of ops ground area)) brushes
    → ArePainters able strip (nat_abs size.w) (nat_abs area.x) (nat_abs area.w) (nat_abs area.h) brushes
are_painters able strip size ops ground area brushes inside each = (strip_of ops ground area, strip_fits size ops ground area inside, omega arith, each)

-- and may put it into a buffer
pub may_put : {P : Type 0} (able : P → Type 0) (strip : P → Strip) (size : Size) (ops : List Op) (ground : Colour) (area : Rectangle) (brushes : List P) → IsInside (sized size) area → 0 < length brushes
    → All (λ b. able b × (strip b ≡ strip_of ops ground area)) brushes → MayPut able strip size area brushes
may_put able strip size ops ground area brushes inside some each = grind (arith, nat_tests, ints, are_painters able strip size ops ground area brushes inside each)

-- a brush for these operations
abbrev pub IsReady : List (Bor Op) → Sheet → Brush → Type 0
IsReady ops sheet b = (b.ops.now ≡ ops) × (b.sheet ≡ sheet) × IsBrush (map (λ r. r.now) b.ops.now) b.sheet.area b.rows b.groups.items

strip_is : (ops : List (Bor Op)) (sheet : Sheet) (b : Brush) → b.ops.now ≡ ops → b.sheet ≡ sheet → strip_of (map (λ r. r.now) b.ops.now) b.sheet.ground b.sheet.area ≡ strip_of (map (λ r. r.now) ops) sheet.ground sheet.area
strip_is ops sheet b of_ops on = grind (arith, nat_tests)

-- brushes for the same operations draw the same rows
pub same_strips : (ops : List (Bor Op)) (sheet : Sheet) (made brushes : List Brush) → brushes ≡ made → All (IsReady ops sheet) made
    → All (λ (b : Brush). strip_of (map (λ r. r.now) b.ops.now) b.sheet.ground b.sheet.area ≡ strip_of (map (λ r. r.now) ops) sheet.ground sheet.area) brushes
same_strips ops sheet made brushes is each = grind (arith, nat_tests, strip_is ops sheet)

-- and each can draw them
pub all_able : (ops : List (Bor Op)) (sheet : Sheet) (made brushes : List Brush) → brushes ≡ made → All (IsReady ops sheet) made
    → All (λ (b : Brush). IsBrush (map (λ r. r.now) b.ops.now) b.sheet.area b.rows b.groups.items × (strip_of (map (λ r. r.now) b.ops.now) b.sheet.ground b.sheet.area ≡ strip_of (map (λ r. r.now) ops) sheet.ground sheet.area)) brushes
all_able ops sheet made brushes is each = grind (arith, nat_tests, strip_is ops sheet)
