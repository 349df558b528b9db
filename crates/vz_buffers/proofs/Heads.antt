-- Memory, and the pixels behind those that stand unused.
use Rattle.std.proofs.Common.{◌≡◌, ℕ, ◌+◌, ◌*◌, ◌-◌, ◌≤◌, ◌++◌, List, [], length, take, drop, replicate, nat_abs, ap, sym, subst, ◌∙◌, arith}
use Rattle.std.proofs.Math.Seq.{take-append_seam, drop-append_seam, take-nil}
use Rattle.std.proofs.lemmas.List.{length-drop, drop-replicate}
use Rattle.vz_pixels.specs.Colour.{Colour}
use Rattle.vz_buffers.specs.declared.bands.Place.{Place}
use Rattle.vz_buffers.specs.declared.pages.TheConstants.{HEAD}
use Rattle.vz_geom.specs.declared.Size.{Size}
use Rattle.vz_geom.specs.Rectangle.{Rectangle}
use Rattle.vz_buffers.specs.Bands.{Strip, MayFill, IsFilled, ArePut, rows_put}
use Rattle.vz_buffers.specs.Canvas.{Canvas, IsCanvas, span_put}
use Rattle.vz_buffers.specs.Pages.{behind_head}

-- what stands behind a front of the head's length
pub behind_front : (front back : List Colour) → length front ≡ HEAD → behind_head (front ++ back) ≡ back
behind_front front back long = ap (λ n. drop n (front ++ back)) (sym long) ∙ drop-append_seam front back

-- the same of memory that is known as these two
pub behind_parts : (memory front back : List Colour) → memory ≡ front ++ back → length front ≡ HEAD → behind_head memory ≡ back
behind_parts memory front back is long = ap behind_head is ∙ behind_front front back long

-- painters that may paint the pixels of memory may paint what stands behind its front
pub may_behind : {P : Type 0} → (able : P → Type 0) (strip : P → Strip) (place : Place) (count : ℕ) (painters : List P) (memory front back : List Colour) → memory ≡ front ++ back → length front ≡ HEAD
    → MayFill able strip place count painters (behind_head memory) → MayFill able strip place count painters back
may_behind able strip place count painters memory front back is long = subst (MayFill able strip place count painters) (behind_parts memory front back is long)

-- rows that were painted behind the front were painted into the pixels of the memory
pub filled_behind : {P : Type 0} → (strip : P → Strip) (place : Place) (count : ℕ) (painters : List P) (memory front before after : List Colour) → memory ≡ front ++ before → length front ≡ HEAD
    → IsFilled strip place count painters before after → IsFilled strip place count painters (behind_head memory) (behind_head (front ++ after))
filled_behind strip place count painters memory front before after is long filled = λ s same.
    behind_front front after long
    ∙ (filled s same ∙ ap (rows_put place.width (place.top * place.width + place.left) s.row count) (sym (behind_parts memory front before is long)))

-- a span that was put behind the front was put into the pixels of the memory
pub put_behind : (memory front before after : List Colour) (at : ℕ) (row : List Colour) → memory ≡ front ++ before → length front ≡ HEAD → after ≡ span_put before at row
    → behind_head (front ++ after) ≡ span_put (behind_head memory) at row
put_behind memory front before after at row is long put =
    behind_front front after long ∙ (put ∙ ap (λ xs. span_put xs at row) (sym (behind_parts memory front before is long)))

-- a span that fits into the pixels of memory fits behind its front
pub fits_behind : (memory front back : List Colour) (n : ℕ) → memory ≡ front ++ back → length front ≡ HEAD → n ≤ length (behind_head memory) → n ≤ length back
fits_behind memory front back n is long = subst (λ xs. n ≤ length xs) (behind_parts memory front back is long)

-- equal pixels, behind as many as the head has
pub black_behind : (memory : List Colour) (count : ℕ) (c : Colour) → memory ≡ replicate (HEAD + count) c → behind_head memory ≡ replicate count c
black_behind memory count c is = ap behind_head is ∙ (drop-replicate HEAD (HEAD + count) c ∙ ap (λ n. replicate n c) (omega arith))

-- there are as many pixels as the memory has behind the head
pub long_behind : (memory : List Colour) → length (behind_head memory) ≡ length memory - HEAD
long_behind memory = length-drop HEAD memory

-- what a vector has after its items were lent and written
pub lent : (n : ℕ) (new rest : List Colour) → length new ≡ n → take n (new ++ rest) ≡ new
lent n new rest long = ap (λ k. take k (new ++ rest)) (sym long) ∙ take-append_seam new rest

-- memory of a canvas of this size
abbrev pub IsMemory : Size → List Colour → Type 0
IsMemory size memory = (HEAD ≤ length memory) × IsCanvas (record { size = size; pixels = behind_head memory })

-- what is as long is memory of a canvas of that size, too
pub as_long : (size : Size) (old new : List Colour) → length new ≡ length old → IsMemory size old → IsMemory size new
as_long size old new same is =
    let head = is.0 in
    let all = is.1.all in (
      omega (arith, same, head),
      record {
        sides = is.1.sides;
        all = long_behind new ∙ (ap (λ n. n - HEAD) same ∙ (sym (long_behind old) ∙ all));
      },
    )

-- and stays it where a vector lent it
pub stays_memory : (size : Size) (n : ℕ) (old lender new rest : List Colour) → lender ≡ old → length lender ≡ n → length new ≡ length lender → IsMemory size old → IsMemory size (take n (new ++ rest))
stays_memory size n old lender new rest value len long is =
    subst (IsMemory size) (sym (lent n new rest (long ∙ len))) (as_long size old new (long ∙ ap length value) is)

-- rows that were painted into the pixels of memory that a vector lent were put into the canvas
pub rows_are : {P : Type 0} → (strip : P → Strip) (place : Place) (count : ℕ) (painters : List P) (own c : Canvas) (area : Rectangle) (n : ℕ) (lender new rest : List Colour) → own ≡ c
    → place.width ≡ nat_abs own.size.w → place.left ≡ nat_abs area.x → place.top ≡ nat_abs area.y → count ≡ nat_abs area.h → behind_head lender ≡ own.pixels → length lender ≡ n → length new ≡ length lender
    → IsFilled strip place count painters (behind_head lender) (behind_head new) → ArePut strip c area painters (behind_head (take n (new ++ rest)))
rows_are strip place count painters own c area n lender new rest same width left top high pixels len long filled =
    subst (λ (k : Canvas). ArePut strip k area painters (behind_head (take n (new ++ rest)))) same
    (λ s all. ap behind_head (lent n new rest (long ∙ len)) ∙ (filled s all ∙ (λ i. rows_put (width i) (top i * width i + left i) s.row (high i) (pixels i))))

-- and so was a span
pub span_is : (own c : Canvas) (n : ℕ) (lender new rest : List Colour) (at place : ℕ) (row : List Colour) → own ≡ c → behind_head lender ≡ own.pixels → length lender ≡ n → length new ≡ length lender
    → behind_head new ≡ span_put (behind_head lender) at row → at ≡ place → behind_head (take n (new ++ rest)) ≡ span_put c.pixels place row
span_is own c n lender new rest at place row same pixels len long put stands =
    ap behind_head (lent n new rest (long ∙ len)) ∙ (put ∙ (λ i. span_put ((pixels ∙ ap (λ (k : Canvas). k.pixels) same) i) (stands i) row))

-- an empty vector that was filled with equal pixels has so many of them behind the head
pub resized_behind : (old new : List Colour) (x : Colour) (n m count : ℕ) → old ≡ [] → m ≡ 0 → n ≡ HEAD + count → new ≡ take n old ++ replicate (n - m) x → behind_head new ≡ replicate count x
resized_behind old new x n m count nothing none total is =
    let all : n - m ≡ HEAD + count = omega (arith, none, total) in
    black_behind new count x (is ∙ (ap (λ o. take n o ++ replicate (n - m) x) nothing ∙ (ap (λ o. o ++ replicate (n - m) x) (take-nil n) ∙ ap (λ k. replicate k x) all)))
