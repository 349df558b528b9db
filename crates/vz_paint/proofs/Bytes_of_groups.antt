-- How many bytes the groups of brushes take.
use Rattle.std.proofs.Common.{◌≡◌, ℕ, ◌+◌, ◌*◌, ◌≤◌, ◌<◌, max, nat_abs, List, [], ◌∷◌, ◌++◌, length, ap, sym, subst, arith}
use Rattle.std.proofs.Math.Nat.{mul-le-mul_right}
use Rattle.vz_geom.specs.Rectangle.{Rectangle}
use Rattle.vz_flat.specs.{declared.op.Op.Op, Ops.deepest}
use Rattle.vz_paint.specs.declared.brush.TheConstants.{AT_ONCE, MOST_SCRATCH}
use Rattle.vz_paint.specs.{declared.brush.Brush.Brush, declared.group.OpenGroup.OpenGroup}
use Rattle.vz_paint.specs.Scratch.{group_bytes, scratch_bytes, most_bytes}

-- one group more
pub groups_push : (groups : List OpenGroup) (g : OpenGroup) → group_bytes (groups ++ g ∷ []) ≡ group_bytes groups + 4 * length g.pixels.items
unfolding group_bytes
groups_push [] g = omega arith
groups_push (h ∷ groups) g = omega (arith, groups_push groups g)

pub no_groups : (groups : List OpenGroup) (pixels : ℕ) → groups ≡ [] → group_bytes groups ≡ 4 * (0 * pixels)
unfolding group_bytes
no_groups groups pixels none = subst (λ (l : List OpenGroup). group_bytes l ≡ 4 * (0 * pixels)) (sym none) (omega arith)

-- so many groups of so many pixels, and one more
pub groups_more : (groups now : List OpenGroup) (g : OpenGroup) (count pixels : ℕ) → now ≡ groups ++ g ∷ [] → length g.pixels.items ≡ pixels → group_bytes groups ≡ 4 * (count * pixels)
    → group_bytes now ≡ 4 * ((count + 1) * pixels)
groups_more groups now g count pixels is long all =
    let more : (count + 1) * pixels ≡ count * pixels + pixels = grind arith in
    let pushed = groups_push groups g in
    let same : group_bytes now ≡ group_bytes (groups ++ g ∷ []) = ap group_bytes is in
    omega (arith, more, pushed, same, long, all)

-- one brush more
pub brushes_push : (brushes : List Brush) (b : Brush) → scratch_bytes (brushes ++ b ∷ []) ≡ scratch_bytes brushes + group_bytes b.groups.items
unfolding scratch_bytes
brushes_push [] b = omega arith
brushes_push (h ∷ brushes) b = omega (arith, brushes_push brushes b)

pub no_brushes : (brushes : List Brush) (most : ℕ) → brushes ≡ [] → scratch_bytes brushes ≤ 0 * most
unfolding scratch_bytes
no_brushes brushes most none = subst (λ (l : List Brush). scratch_bytes l ≤ 0 * most) (sym none) (omega arith)

-- so many brushes of at most so many bytes, and one more
pub brushes_more : (brushes now : List Brush) (b : Brush) (count most : ℕ) → now ≡ brushes ++ b ∷ [] → group_bytes b.groups.items ≤ most → scratch_bytes brushes ≤ count * most
    → scratch_bytes now ≤ (count + 1) * most
brushes_more brushes now b count most is few all =
    let more : (count + 1) * most ≡ count * most + most = grind arith in
    let pushed = brushes_push brushes b in
    let same : scratch_bytes now ≡ scratch_bytes (brushes ++ b ∷ []) = ap scratch_bytes is in
    omega (arith, more, pushed, same, few, all)

-- the rows that are drawn at once of each group are no more than a brush may take
pub few_bytes : (area : Rectangle) (groups rows once wide : ℕ) (items : List OpenGroup) → wide ≡ nat_abs area.w → rows ≤ once → once * (wide * (groups + 1)) ≤ max AT_ONCE (wide * (groups + 1))
    → group_bytes items ≡ 4 * (groups * (rows * wide)) → group_bytes items ≤ most_bytes area groups
few_bytes area groups rows once wide items across fewer under all =
    let one : rows * (wide * (groups + 1)) ≤ once * (wide * (groups + 1)) = mul-le-mul_right (wide * (groups + 1)) fewer in
    let parts : rows * (wide * (groups + 1)) ≡ groups * (rows * wide) + rows * wide = grind arith in
    subst (λ w. group_bytes items ≤ 4 * max AT_ONCE (w * (groups + 1))) across (omega (arith, one, parts, under, all))

-- several threads take no more than is allowed
pub threads_fit : (area : Rectangle) (ops : List Op) (threads bytes deep : ℕ) → 1 ≤ threads → (threads ≡ 1 → ⊥) → (1 < threads → threads * bytes ≤ MOST_SCRATCH)
    → bytes ≡ most_bytes area deep → deep ≡ deepest 0 ops → threads * most_bytes area (deepest 0 ops) ≤ MOST_SCRATCH
threads_fit area ops threads bytes deep some more few is deep_is =
    let fit : threads * bytes ≤ MOST_SCRATCH = few (grind arith) in
    subst (λ d. threads * most_bytes area d ≤ MOST_SCRATCH) deep_is (subst (λ b. threads * b ≤ MOST_SCRATCH) is fit)
