-- The items of whole operations, and the operations of items.
use Rattle.std.proofs.Common.{◌≡◌, ℕ, ◌+◌, ◌-◌, ◌≤◌, true, List, [], ◌∷◌, ◌++◌, length, refl, ap, sym, ◌∙◌, arith, append_assoc, append-nil}
use Rattle.std.specs.{Prelude.nat_lt, List.list_all}
use Rattle.std.proofs.lemmas.Bool.{and_parts, eqb-true, ltb-true}
use Rattle.vz_geom.specs.Rectangle.{Rectangle}
use Rattle.vz_frame.specs.declared.blend.Blend.{Blend}
use Rattle.vz_flat.specs.{declared.op.Op.Op, declared.op.TheConstants.MOST_OPEN, Ops.is_nested, Ops.is_inside, Ops.is_whole}
use Rattle.vz_flat.specs.declared.op.Op.TheVariants.{Fill, Blit, Push, Pop}
use Rattle.vz_occlude.specs.Items.{Items, Done, Filled, Blitted, Grouped, ops_of, put_first, put_group, levels, innermost, items_of}
use Rattle.vz_occlude.specs.Walk_so_far.{ops_behind}

-- Operations of items are read as these items

-- items at the front of the innermost list
unfoldable joined_items : Items → Items → Items
joined_items Done later = later
joined_items (Filled area c o m rest) later = Filled area c o m (joined_items rest later)
joined_items (Blitted area block tx ty o m rest) later = Blitted area block tx ty o m (joined_items rest later)
joined_items (Grouped area o m inner rest) later = Grouped area o m inner (joined_items rest later)

joined_none : (items : Items) → joined_items items Done ≡ items
unfolding joined_items
joined_none Done = refl
joined_none (Filled area c o m rest) = ap (Filled area c o m) (joined_none rest)
joined_none (Blitted area block tx ty o m rest) = ap (Blitted area block tx ty o m) (joined_none rest)
joined_none (Grouped area o m inner rest) = ap (Grouped area o m inner) (joined_none rest)

levels_of_items : (items : Items) (rest : List Op) (later : Items) (outer : List Items) → levels rest ≡ later ∷ outer
    → levels (ops_of items ++ rest) ≡ joined_items items later ∷ outer
unfolding levels ops_of joined_items
levels_of_items Done rest later outer e = e
levels_of_items (Filled area c o m more) rest later outer e = ap (put_first (Filled area c o m)) (levels_of_items more rest later outer e)
levels_of_items (Blitted area block tx ty o m more) rest later outer e = ap (put_first (Blitted area block tx ty o m)) (levels_of_items more rest later outer e)
levels_of_items (Grouped area o m inner more) rest later outer e =
    let behind = levels_of_items more rest later outer e in
    let own = levels_of_items inner (Pop ∷ (ops_of more ++ rest)) Done (joined_items more later ∷ outer) (ap (λ ls. Done ∷ ls) behind) in
    ap (λ ops. put_group area o m (levels ops)) (append_assoc (ops_of inner) (Pop ∷ ops_of more) rest)
    ∙ (ap (put_group area o m) own ∙ ap (λ items. Grouped area o m items (joined_items more later) ∷ outer) (joined_none inner))

pub read_again : (items : Items) → items_of (ops_of items) ≡ items
unfolding items_of levels
read_again items =
    ap (λ ops. innermost (levels ops)) (sym (append-nil (ops_of items)))
    ∙ (ap innermost (levels_of_items items [] Done [] refl) ∙ joined_none items)

-- Whole operations are those of their items

-- so many lists of items, whose operations are these
pub record AreLevels (n : ℕ) (ops : List Op) (lists : List Items) : Type 0 where
  pub count : length lists ≡ n + 1
  pub same : ops_behind lists ≡ ops

first_put : (n : ℕ) (op : Op) (item : Items → Items) (ops : List Op) (lists : List Items) → ((items : Items) → ops_of (item items) ≡ op ∷ ops_of items)
    → AreLevels n ops lists → AreLevels n (op ∷ ops) (put_first item lists)
unfolding ops_behind
first_put n op item ops [] e are = absurd (let h = are.count in omega (arith, h))
first_put n op item ops (items ∷ []) e are = record { count = are.count; same = e items ∙ ap (λ rest. op ∷ rest) are.same }
first_put n op item ops (items ∷ next ∷ outer) e are =
    record {
      count = are.count;
      same = ap (λ front. front ++ (Pop ∷ ops_behind (next ∷ outer))) (e items) ∙ ap (λ rest. op ∷ rest) are.same;
    }

group_put : (n : ℕ) (area : Rectangle) (o : ℕ) (m : Blend) (ops : List Op) (lists : List Items)
    → AreLevels (n + 1) ops lists → AreLevels n (Push area o m ∷ ops) (put_group area o m lists)
unfolding ops_behind ops_of
group_put n area o m ops [] are = absurd (let h = are.count in omega (arith, h))
group_put n area o m ops (inner ∷ []) are = absurd (let h = are.count in omega (arith, h))
group_put n area o m ops (inner ∷ later ∷ []) are =
    record { count = (let h = are.count in omega (arith, h)); same = ap (λ rest. Push area o m ∷ rest) are.same }
group_put n area o m ops (inner ∷ later ∷ next ∷ outer) are =
    record {
      count = (let h = are.count in omega (arith, h));
      same = ap (λ rest. Push area o m ∷ rest)
          (append_assoc (ops_of inner) (Pop ∷ ops_of later) (Pop ∷ ops_behind (next ∷ outer)) ∙ are.same);
    }

pop_put : (n : ℕ) (ops : List Op) (lists : List Items) → 0 ≤ n → nat_lt 0 n ≡ true → AreLevels (n - 1) ops lists → AreLevels n (Pop ∷ ops) (Done ∷ lists)
unfolding ops_behind ops_of
pop_put n ops [] low some are = absurd (let h = are.count in omega (arith, h))
pop_put n ops (items ∷ outer) low some are =
    let more = ltb-true 0 n some in
    record { count = (let h = are.count in omega (arith, h, more)); same = ap (λ rest. Pop ∷ rest) are.same }

opens_fill : (area : Rectangle) (c : _) (o : ℕ) (m : Blend) (items : Items) → ops_of (Filled area c o m items) ≡ Fill area c o m ∷ ops_of items
unfolding ops_of
opens_fill area c o m items = refl

opens_blit : (area : Rectangle) (block : _) (tx ty : _) (o : ℕ) (m : Blend) (items : Items) → ops_of (Blitted area block tx ty o m items) ≡ Blit area block tx ty o m ∷ ops_of items
unfolding ops_of
opens_blit area block tx ty o m items = refl

ends : ops_behind (Done ∷ []) ≡ []
unfolding ops_behind ops_of
ends = refl

pub levels_are : (n : ℕ) (ops : List Op) → is_nested n ops ≡ true → AreLevels n ops (levels ops)
unfolding levels is_nested
levels_are n [] h = record { count = none (eqb-true n 0 h); same = ends }
  where
    none : n ≡ 0 → 1 ≡ n + 1
    none e = omega (arith, e)
levels_are n (Fill area c o m ∷ ops) h =
    first_put n (Fill area c o m) (Filled area c o m) ops (levels ops) (λ items. opens_fill area c o m items) (levels_are n ops h)
levels_are n (Blit area block tx ty o m ∷ ops) h =
    first_put n (Blit area block tx ty o m) (Blitted area block tx ty o m) ops (levels ops) (λ items. opens_blit area block tx ty o m items) (levels_are n ops h)
levels_are n (Push area o m ∷ ops) h =
    group_put n area o m ops (levels ops) (levels_are (n + 1) ops (and_parts (nat_lt n MOST_OPEN) (is_nested (n + 1) ops) h).1)
levels_are n (Pop ∷ ops) h =
    let parts = and_parts (nat_lt 0 n) (is_nested (n - 1) ops) h in
    pop_put n ops (levels ops) (omega arith) parts.0 (levels_are (n - 1) ops parts.1)

only_one : (ops : List Op) (lists : List Items) → AreLevels 0 ops lists → ops_of (innermost lists) ≡ ops
unfolding ops_behind
only_one ops [] are = absurd (let h = are.count in omega (arith, h))
only_one ops (items ∷ []) are = are.same
only_one ops (items ∷ next ∷ outer) are = absurd (let h = are.count in omega (arith, h))

pub items_are : (ops : List Op) → is_whole ops ≡ true → ops_of (items_of ops) ≡ ops
unfolding is_whole items_of
items_are ops h = only_one ops (levels ops) (levels_are 0 ops (and_parts (is_nested 0 ops) (list_all is_inside ops) h).0)
