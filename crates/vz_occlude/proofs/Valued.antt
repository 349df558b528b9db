-- What is kept of whole operations has their value.
use Rattle.std.proofs.Common.{◌≡◌, ℕ, ◌+◌, ◌≤◌, Bool, true, false, if◌then◌else◌, List, refl, ap, sym, ◌∙◌, subst, arith}
use Rattle.vz_geom.specs.declared.Point.{Point}
use Rattle.vz_pixels.specs.Colour.{Colour}
use Rattle.vz_flat.specs.{declared.op.Op.Op, Ops.value, Ops.is_whole, Ops.deepest}
use Rattle.vz_occlude.specs.Items.{Items, Done, Filled, Blitted, Grouped, items_of, ops_of}
use Rattle.vz_occlude.specs.Occlusion.{is_occluded, kept, gone, kept_items, gone_items}
use Rattle.vz_occlude.proofs.{Acted.value_of_items, Same.kept_same, Shaped.kept_whole, Shaped.kept_deep, Parsed.items_are}

-- at each point and on each colour
pub kept_value : (ops : List Op) (p : Point) (d : Colour) → is_whole ops ≡ true → value (kept ops) p d ≡ value ops p d
unfolding kept
kept_value ops p d whole =
    value_of_items p (kept_items (items_of ops)) d
    ∙ (kept_same p (items_of ops) d
    ∙ (sym (value_of_items p (items_of ops) d) ∙ ap (λ l. value l p d) (items_are ops whole)))

-- it is whole
pub whole_kept : (ops : List Op) → is_whole ops ≡ true → is_whole (kept ops) ≡ true
unfolding kept
whole_kept ops whole = kept_whole (items_of ops) (ap is_whole (items_are ops whole) ∙ whole)

-- and no deeper
pub kept_no_deeper : (ops : List Op) → is_whole ops ≡ true → deepest 0 (kept ops) ≤ deepest 0 ops
unfolding kept
kept_no_deeper ops whole =
    subst (λ l. deepest 0 (ops_of (kept_items (items_of ops))) ≤ deepest 0 l) (items_are ops whole) (kept_deep (items_of ops))

-- All items are kept if none is removed

one_kept : (t : Bool) (item : Items → Items) (later later' : Items) (k : ℕ) → (if t then 1 else 0) + k ≡ 0 → (k ≡ 0 → later' ≡ later)
    → (if t then later' else item later') ≡ item later
one_kept true item later later' k none f = absurd (omega (arith, none))
one_kept false item later later' k none f =
    let no_k : k ≡ 0 = omega (arith, none) in
    ap item (f no_k)

group_kept : (t : Bool) (area : _) (o : _) (m : _) (inner later inner' later' : Items) (n k : ℕ) → (if t then 1 else n) + k ≡ 0
    → (n ≡ 0 → inner' ≡ inner) → (k ≡ 0 → later' ≡ later)
    → (if t then later' else Grouped area o m inner' later') ≡ Grouped area o m inner later
group_kept true area o m inner later inner' later' n k none f g = absurd (omega (arith, none))
group_kept false area o m inner later inner' later' n k none f g =
    let no_n : n ≡ 0 = omega (arith, none) in
    let no_k : k ≡ 0 = omega (arith, none) in
    let a = f no_n in
    let b = g no_k in
    λ i. Grouped area o m (a i) (b i)

all_items : (items : Items) → gone_items items ≡ 0 → kept_items items ≡ items
unfolding kept_items gone_items
all_items Done none = refl
all_items (Filled area c o m later) none =
    one_kept (is_occluded area later) (Filled area c o m) later (kept_items later) (gone_items later) none (all_items later)
all_items (Blitted area block tx ty o m later) none =
    one_kept (is_occluded area later) (Blitted area block tx ty o m) later (kept_items later) (gone_items later) none (all_items later)
all_items (Grouped area o m inner later) none =
    group_kept (is_occluded area later) area o m inner later (kept_items inner) (kept_items later) (gone_items inner) (gone_items later)
    none (all_items inner) (all_items later)

pub all_kept : (ops : List Op) → is_whole ops ≡ true → gone ops ≡ 0 → kept ops ≡ ops
unfolding kept gone
all_kept ops whole none = ap ops_of (all_items (items_of ops) none) ∙ items_are ops whole
