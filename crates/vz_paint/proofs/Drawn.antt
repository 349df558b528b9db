-- Some rows after so many operations.
use Rattle.std.proofs.Common.{◌≡◌, ℕ, ◌+◌, ◌≤◌, ◌<◌, true, List, [], ◌∷◌, length, drop, get_or, sym, ap, ◌∙◌, arith}
use Rattle.std.specs.List.{list_all}
use Rattle.std.proofs.{lemmas.Bool.and_parts, lemmas.Bool.eqb-true, lemmas.List.drop_more}
use Rattle.std.proofs.{lemmas.List.FromFn.length-map-range_with_len, lemmas.List.FromFn.get_or-map-range_with_len, lemmas.Bool.Decides.nat_tests}
use Rattle.vz_geom.specs.declared.Point.{Point}
use Rattle.vz_pixels.specs.Colour.{Colour, transparent}
use Rattle.vz_buffers.specs.Bands.{rows_put}
use Rattle.vz_flat.specs.declared.op.Op.{Op}
use Rattle.vz_flat.specs.Ops.{run, value, is_nested, is_inside, is_whole, deepest}
use Rattle.vz_flat.proofs.Nested.{deepest_least, all_dropped}
use Rattle.vz_paint.specs.declared.group.OpenGroup.{OpenGroup}
use Rattle.vz_paint.specs.Redraw.{point_of, AreLines, IsOutside, IsRedrawn, rows_of}
use Rattle.vz_paint.specs.Stack.{drawn_over, made_at, HavePixels, MayStand, open_after}
use Rattle.vz_paint.proofs.Redrawn.{put_all}

-- after k operations: so many groups are open, and what is left makes of each place its value
pub record IsDrawn (ground : Colour) (start : Point) (width left wide count : ℕ) (all : List Op) (first : List OpenGroup) (k : ℕ) (before now : List Colour) (groups : List OpenGroup) (depth : ℕ) : Type 0 where
  pub long : length now ≡ length before
  pub kept : (n : ℕ) → HavePixels n first → HavePixels n groups
  pub counted : length groups ≡ length first
  pub nested : is_nested depth (drop k all) ≡ true
  pub inside : list_all is_inside (drop k all) ≡ true
  pub room : deepest depth (drop k all) ≤ length first
  pub same : (r i : ℕ) → r < count → i < wide → made_at start width left wide (drop k all) depth groups now r i ≡ value all (point_of start r i) ground
  pub rest : (j : ℕ) → IsOutside width left wide count j → get_or now j transparent ≡ get_or before j transparent

pub begins : (ground : Colour) (start : Point) (width left wide count : ℕ) (all : List Op) (before now : List Colour) (groups : List OpenGroup) → is_whole all ≡ true → deepest 0 all ≤ length groups → IsRedrawn width left wide count (λ r i d. ground) before now → IsDrawn ground start width left wide count all groups 0 before now groups 0
unfolding is_whole value drawn_over
begins ground start width left wide count all before now groups whole room is = grind (arith, nat_tests, and_parts (is_nested 0 all) (list_all is_inside all) whole)

pub split : (all : List Op) (k : ℕ) (op : Op) → k < length all → get_or all k op ≡ op → drop k all ≡ op ∷ drop (k + 1) all
split all k op low at = drop_more all k op low ∙ ap (λ o. o ∷ drop (k + 1) all) at

module _ (ground : Colour) (start : Point) (width left wide count : ℕ) (all : List Op) (first : List OpenGroup) (k : ℕ) (before now : List Colour) (groups : List OpenGroup) (depth : ℕ) (is : IsDrawn ground start width left wide count all first k before now groups depth) (op : Op) (low : k < length all) (at : get_or all k op ≡ op) where
  pub inside_next : is_inside op ≡ true
  inside_next = grind (arith, nat_tests, split all k op low at, and_parts (is_inside op))

  pub open_next : depth ≤ length groups
  open_next = grind (arith, nat_tests, deepest_least depth (drop k all))

  pub may_next : MayStand depth (length groups) op
  unfolding is_nested deepest
  may_next = grind (arith, nat_tests, split all k op low at, deepest_least, and_parts)

  pub next : (then_now : List Colour) (then_groups : List OpenGroup) (now_open : ℕ) → now_open ≡ open_after depth op → length then_now ≡ length now → length then_groups ≡ length groups → ((n : ℕ) → HavePixels n groups → HavePixels n then_groups)
      → ((j : ℕ) → IsOutside width left wide count j → get_or then_now j transparent ≡ get_or now j transparent)
      → ((r i : ℕ) (rest : List Op) → r < count → i < wide → made_at start width left wide (op ∷ rest) depth groups now r i ≡ made_at start width left wide rest now_open then_groups then_now r i)
      → IsDrawn ground start width left wide count all first (k + 1) before then_now then_groups now_open
  unfolding is_nested deepest
  next then_now then_groups now_open after long counted kept outside drawn = grind (arith, nat_tests, split, and_parts)

rows_long : (ops : List Op) (ground : Colour) (start : Point) (wide k : ℕ) → length (rows_of ops ground start wide k) ≡ wide
rows_long ops ground start wide k = length-map-range_with_len (λ (i : ℕ). value ops (point_of start k i) ground) 0 wide

pub ends : (ground : Colour) (start : Point) (width left wide count : ℕ) (all : List Op) (first : List OpenGroup) (k : ℕ) (before now : List Colour) (groups : List OpenGroup) (depth : ℕ) → IsDrawn ground start width left wide count all first k before now groups depth → length all ≤ k → AreLines start width left wide count before
    → now ≡ rows_put width left (rows_of all ground start wide) count before
unfolding run is_nested drawn_over
ends ground start width left wide count all first k before now groups depth is done lines =
    let none : drop k all ≡ [] = all_dropped all k done in
    let closed : depth ≡ 0 = eqb-true depth 0 (ap (is_nested depth) (sym none) ∙ is.nested) in
    put_all width left wide count (rows_of all ground start wide) before now (rows_long all ground start wide) lines.inside lines.long
    (λ r i low near.
    ap (λ n. made_at start width left wide [] n groups now r i) (sym closed)
    ∙ (ap (λ l. made_at start width left wide l depth groups now r i) (sym none)
    ∙ (is.same r i low near ∙ sym (get_or-map-range_with_len (λ (i : ℕ). value all (point_of start r i) ground) 0 wide i i transparent near (omega arith)))))
    is.rest is.long
