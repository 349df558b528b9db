-- Operations one more at a time, of which the later ones are read as items.
use Rattle.std.proofs.Common.{◌≡◌, ℕ, zero, suc, ◌+◌, ◌-◌, ◌≤◌, ◌<◌, ◌^◌, Bool, true, false, List, [], ◌∷◌, ◌++◌, take, drop, length, refl, ap, sym, ◌∙◌, cond, subst, arith, append_assoc, append-nil, length-append}
use Rattle.std.specs.Prelude.{nat_lt, ⊤, Some, slice_get, slice_index_or}
use Rattle.std.proofs.{lemmas.Option.slice_get_read, lemmas.Bool.and_parts}
use Rattle.std.specs.List.{list_all, list_any}
use Rattle.std.proofs.{lemmas.List.take_all, lemmas.List.take-append-le, lemmas.List.length-take, lemmas.List.Folds.list_all-append}
use Rattle.vz_geom.specs.Rectangle.{Rectangle, covers_rect}
use Rattle.vz_frame.specs.declared.blend.Blend.{Blend}
use Rattle.vz_flat.specs.{declared.op.Op.Op, declared.op.TheConstants.MOST_OPEN, Ops.is_nested, Ops.is_inside, Ops.is_whole}
use Rattle.vz_flat.specs.declared.op.Op.TheVariants.{Fill, Blit, Push, Pop}
use Rattle.vz_occlude.specs.{declared.bound.TheConstants.MOST_OCCLUDERS, declared.culler.Level.Level, Roles.role_of, Roles.occludes}
use Rattle.vz_occlude.specs.{declared.role.Role.Role, declared.culler.OcclusionCuller.OcclusionCuller, Occluders.occluders_of, Occluders.listed_if}
use Rattle.vz_occlude.specs.declared.role.Role.TheVariants.{Single, Begins, Ends}
use Rattle.vz_occlude.specs.Items.{Items, Done, Filled, Blitted, Grouped, ops_of, put_first, put_group, levels, innermost, items_of}
use Rattle.vz_occlude.specs.Occlusion.{is_occluded, kept_items, gone_items, kept, gone}
use Rattle.vz_occlude.specs.Walk_so_far.{ops_behind, occluders_behind, gone_behind, level_of, levels_behind, IsAt, IsKeptAt, Precedes, HasTaken}
use Rattle.vz_occlude.proofs.Parsed.{AreLevels, levels_are}
use Rattle.vz_occlude.proofs.Walked.{IsBefore, fill_before, blit_before, start_inside, occluded_is, at_occluded, at_kept, at_end, remembered, goes_up, outer_occluders, at_occluded_group, at_kept_group}

-- How the later operations are read

record IsSplit (lists : List Items) : Type 0 where
  items : Items
  outer : List Items
  is : lists ≡ items ∷ outer

record IsSplitTwice (lists : List Items) : Type 0 where
  inner : Items
  next : Items
  outer : List Items
  is : lists ≡ inner ∷ next ∷ outer

split : (lists : List Items) (n : ℕ) → length lists ≡ n + 1 → IsSplit lists
split [] n e = absurd (omega (arith, e))
split (items ∷ outer) n e = record { items = items; outer = outer; is = refl }

split_twice : (lists : List Items) (n : ℕ) → length lists ≡ (n + 1) + 1 → IsSplitTwice lists
split_twice [] n e = absurd (omega (arith, e))
split_twice (items ∷ []) n e = absurd (omega (arith, e))
split_twice (inner ∷ next ∷ outer) n e = record { inner = inner; next = next; outer = outer; is = refl }

-- an item before others
pub record SingleLevels (op : Op) (later : List Op) (area : Rectangle) : Type 0 where
  pub items : Items
  pub outer : List Items
  pub item : Items
  pub parts : levels later ≡ items ∷ outer
  pub more : levels (op ∷ later) ≡ item ∷ outer
  pub before : IsBefore op area (occludes op) items item

abbrev SingleIn : Op → List Op → Role → Type 0
SingleIn op later (Single area) = SingleLevels op later area
SingleIn op later (Begins area) = ⊤
SingleIn op later Ends = ⊤

pub single_levels : (op : Op) (n : ℕ) (later : List Op) (area : Rectangle) → role_of op ≡ Single area
    → is_nested n (op ∷ later) ≡ true → SingleLevels op later area
unfolding levels is_nested
single_levels (Fill a c o m) n later area e h =
    let s = split (levels later) n (levels_are n later h).count in
    subst (SingleIn (Fill a c o m) later) e
    (record {
      items = s.items;
      outer = s.outer;
      item = Filled a c o m s.items;
      parts = s.is;
      more = ap (put_first (Filled a c o m)) s.is;
      before = fill_before a c o m s.items;
    })
single_levels (Blit a block tx ty o m) n later area e h =
    let s = split (levels later) n (levels_are n later h).count in
    subst (SingleIn (Blit a block tx ty o m) later) e
    (record {
      items = s.items;
      outer = s.outer;
      item = Blitted a block tx ty o m s.items;
      parts = s.is;
      more = ap (put_first (Blitted a block tx ty o m)) s.is;
      before = blit_before a block tx ty o m s.items;
    })
single_levels (Push a o m) n later area e h = absurd (cc)
single_levels Pop n later area e h = absurd (cc)

-- the begin of a group before others
pub record BeginLevels (op : Op) (later : List Op) (area : Rectangle) : Type 0 where
  pub opacity : ℕ
  pub mode : Blend
  pub inner : Items
  pub next : Items
  pub outer : List Items
  pub is : op ≡ Push area opacity mode
  pub parts : levels later ≡ inner ∷ next ∷ outer
  pub more : levels (op ∷ later) ≡ Grouped area opacity mode inner next ∷ outer

abbrev BeginIn : Op → List Op → Role → Type 0
BeginIn op later (Single area) = ⊤
BeginIn op later (Begins area) = BeginLevels op later area
BeginIn op later Ends = ⊤

pub begin_levels : (op : Op) (n : ℕ) (later : List Op) (area : Rectangle) → role_of op ≡ Begins area
    → is_nested n (op ∷ later) ≡ true → BeginLevels op later area
unfolding levels is_nested
begin_levels (Fill a c o m) n later area e h = absurd (cc)
begin_levels (Blit a block tx ty o m) n later area e h = absurd (cc)
begin_levels (Push a o m) n later area e h =
    let s = split_twice (levels later) n (levels_are (n + 1) later (and_parts (nat_lt n MOST_OPEN) (is_nested (n + 1) later) h).1).count in
    subst (BeginIn (Push a o m) later) e
    (record {
      opacity = o;
      mode = m;
      inner = s.inner;
      next = s.next;
      outer = s.outer;
      is = refl;
      parts = s.is;
      more = ap (put_group a o m) s.is;
    })
begin_levels Pop n later area e h = absurd (cc)

-- the end of a group before others
pub record EndLevels (op : Op) (later : List Op) : Type 0 where
  pub items : Items
  pub outer : List Items
  pub is : op ≡ Pop
  pub parts : levels later ≡ items ∷ outer
  pub more : levels (op ∷ later) ≡ Done ∷ items ∷ outer

pub end_levels : (op : Op) (n : ℕ) (later : List Op) → role_of op ≡ Ends → is_nested n (op ∷ later) ≡ true → EndLevels op later
unfolding levels is_nested
end_levels (Fill a c o m) n later e h = absurd (cc)
end_levels (Blit a block tx ty o m) n later e h = absurd (cc)
end_levels (Push a o m) n later e h = absurd (cc)
end_levels Pop n later e h =
    let s = split (levels later) (n - 1) (levels_are (n - 1) later (and_parts (nat_lt 0 n) (is_nested (n - 1) later) h).1).count in
    record { items = s.items; outer = s.outer; is = refl; parts = s.is; more = ap (λ lists. Done ∷ lists) s.is }

-- How many are removed

one_or : (t : Bool) (n : ℕ) → cond t 1 n ≤ n + 1
one_or true n = omega arith
one_or false n = omega arith

one_more : (item later : Items) (area : Rectangle) (outer : List Items) (n : ℕ) → gone_items item ≡ cond (is_occluded area later) 1 0 + gone_items later
    → gone_items later + gone_behind outer ≤ n → gone_items item + gone_behind outer ≤ suc n
one_more item later area outer n e h = let k = one_or (is_occluded area later) 0 in omega (arith, e, h, k)

pub gone_few : (ops : List Op) → gone_behind (levels ops) ≤ length ops
unfolding levels gone_behind gone_items
gone_few [] = omega arith
gone_few (Fill area c o m ∷ ops) = first (levels ops) (gone_few ops)
  where
    first : (lists : List Items) → gone_behind lists ≤ length ops → gone_behind (put_first (Filled area c o m) lists) ≤ suc (length ops)
    first [] h = omega (arith, h)
    first (items ∷ outer) h = one_more (Filled area c o m items) items area outer (length ops) refl h
gone_few (Blit area block tx ty o m ∷ ops) = first (levels ops) (gone_few ops)
  where
    first : (lists : List Items) → gone_behind lists ≤ length ops → gone_behind (put_first (Blitted area block tx ty o m) lists) ≤ suc (length ops)
    first [] h = omega (arith, h)
    first (items ∷ outer) h = one_more (Blitted area block tx ty o m items) items area outer (length ops) refl h
gone_few (Push area o m ∷ ops) = first (levels ops) (gone_few ops)
  where
    first : (lists : List Items) → gone_behind lists ≤ length ops → gone_behind (put_group area o m lists) ≤ suc (length ops)
    first [] h = omega (arith, h)
    first (inner ∷ []) h = omega (arith, h)
    first (inner ∷ next ∷ outer) h = let k = one_or (is_occluded area next) (gone_items inner) in omega (arith, h, k)
gone_few (Pop ∷ ops) = let h = gone_few ops in omega (arith, h)

-- The last occluders

occluder_none : (outer own : List Rectangle) (area : Rectangle) → outer ++ take MOST_OCCLUDERS own ≡ outer ++ take MOST_OCCLUDERS (own ++ listed_if false area)
occluder_none outer own area = ap (λ rs. outer ++ take MOST_OCCLUDERS rs) (sym (append-nil own))

own_count : (outer own : List Rectangle) (n : ℕ) → n ≡ length outer → length (outer ++ take MOST_OCCLUDERS own) - n ≡ length (take MOST_OCCLUDERS own)
own_count outer own n e = let h = length-append outer (take MOST_OCCLUDERS own) in omega (arith, e, h)

all_full : (outer own : List Rectangle) (area : Rectangle) (n : ℕ) → n ≡ length outer → MOST_OCCLUDERS ≤ length (outer ++ take MOST_OCCLUDERS own) - n
    → outer ++ take MOST_OCCLUDERS own ≡ outer ++ take MOST_OCCLUDERS (own ++ area ∷ [])
all_full outer own area n e most =
    let c = own_count outer own n e in
    let t = length-take MOST_OCCLUDERS own in
    let many : MOST_OCCLUDERS ≤ length own = omega (arith, c, t, most) in
    ap (λ rs. outer ++ rs) (sym (take-append-le MOST_OCCLUDERS own (area ∷ []) many))

pub occluder_more : (outer own : List Rectangle) (area : Rectangle) (n : ℕ) → n ≡ length outer → length (outer ++ take MOST_OCCLUDERS own) - n < MOST_OCCLUDERS
    → (outer ++ take MOST_OCCLUDERS own) ++ area ∷ [] ≡ outer ++ take MOST_OCCLUDERS (own ++ area ∷ [])
occluder_more outer own area n e less =
    let c = own_count outer own n e in
    let t = length-take MOST_OCCLUDERS own in
    let few : length own < MOST_OCCLUDERS = omega (arith, c, t, less) in
    let l = length-append own (area ∷ []) in
    let low : length own ≤ MOST_OCCLUDERS = omega (arith, few) in
    let fits : length (own ++ area ∷ []) ≤ MOST_OCCLUDERS = omega (arith, few, l) in
    append_assoc outer (take MOST_OCCLUDERS own) (area ∷ [])
    ∙ ap (λ rs. outer ++ rs) (ap (λ rs. rs ++ area ∷ []) (take_all MOST_OCCLUDERS own low) ∙ sym (take_all MOST_OCCLUDERS (own ++ area ∷ []) fits))

-- one more is not put where there are enough
pub occluder_full : (outer own : List Rectangle) (area : Rectangle) (t : Bool) (n : ℕ) → n ≡ length outer → MOST_OCCLUDERS ≤ length (outer ++ take MOST_OCCLUDERS own) - n
    → outer ++ take MOST_OCCLUDERS own ≡ outer ++ take MOST_OCCLUDERS (own ++ listed_if t area)
occluder_full outer own area true n e most = all_full outer own area n e most
occluder_full outer own area false n e most = occluder_none outer own area

-- nor if the operation is none
pub occluder_not : (outer own : List Rectangle) (area : Rectangle) (t : Bool) → t ≡ false → outer ++ take MOST_OCCLUDERS own ≡ outer ++ take MOST_OCCLUDERS (own ++ listed_if t area)
occluder_not outer own area true e = absurd (cc)
occluder_not outer own area false e = occluder_none outer own area

-- Over all operations

record IsNestedIn (ops : List Op) : Type 0 where
  pub count : ℕ
  pub nested : is_nested count ops ≡ true

nested_later : (xs ys : List Op) (n : ℕ) → is_nested n (xs ++ ys) ≡ true → IsNestedIn ys
unfolding is_nested
nested_later [] ys n h = record { count = n; nested = h }
nested_later (Fill area c o m ∷ xs) ys n h = nested_later xs ys n h
nested_later (Blit area block tx ty o m ∷ xs) ys n h = nested_later xs ys n h
nested_later (Push area o m ∷ xs) ys n h = nested_later xs ys (n + 1) (and_parts (nat_lt n MOST_OPEN) (is_nested (n + 1) (xs ++ ys)) h).1
nested_later (Pop ∷ xs) ys n h = nested_later xs ys (n - 1) (and_parts (nat_lt 0 n) (is_nested (n - 1) (xs ++ ys)) h).1

-- the operations from an index on were taken, and those before it stay
pub record IsWalked (all : List Op) (place : ℕ) (t : OcclusionCuller) : Type 0 where
  pub later : List Op
  pub parts : all ≡ take place t.ops.items ++ later
  pub before : place ≤ t.kept
  pub stands : IsAt (levels later) t

pub walk_starts : (all : List Op) (n : ℕ) (t : OcclusionCuller) → IsAt (Done ∷ []) t → t.ops.items ≡ all → t.kept ≡ length all → n ≡ length all → IsWalked all n t
unfolding levels
walk_starts all n t is same kept count =
    record {
      later = [];
      parts = sym (append-nil (take n t.ops.items) ∙ (ap (take n) same ∙ take_all n all (omega (arith, count))));
      before = omega (arith, kept, count);
      stands = is;
    }

-- the operation before an index
last_read : (ops : List Op) (place : ℕ) → place < length ops → (op : Op) × (slice_get ops place ≡ Some op) × (take (place + 1) ops ≡ take place ops ++ op ∷ [])
last_read [] place low = absurd (omega (arith, low))
last_read (op ∷ ops) zero low = (op, refl, refl)
last_read (first ∷ ops) (suc place) low =
    let r = last_read ops place (omega (arith, low)) in
    let next : suc place + 1 ≡ suc (place + 1) = omega arith in
    (r.0, r.1, ap (λ n. take n (first ∷ ops)) next ∙ ap (λ rest. first ∷ rest) r.2)

one_less : (ops : List Op) (place : ℕ) (op : Op) (all later : List Op) → take (place + 1) ops ≡ take place ops ++ op ∷ [] → all ≡ take (place + 1) ops ++ later → all ≡ take place ops ++ (op ∷ later)
one_less ops place op all later e parts = parts ∙ (ap (λ front. front ++ later) e ∙ append_assoc (take place ops) (op ∷ []) later)

-- the one before the index may be taken
pub may_take : (all : List Op) (left place : ℕ) (t : OcclusionCuller) → is_whole all ≡ true → length all < 2 ^ 64 → left ≡ place + 1
    → (w : IsWalked all left t) → (n : ℕ) × (op : Op) × Precedes n op w.later place t × (take (place + 1) t.ops.items ≡ take place t.ops.items ++ op ∷ [])
unfolding is_whole
may_take all left place t whole low e w =
    let inside = w.stands.low in
    let before = w.before in
    let r = last_read t.ops.items place (omega (arith, e, inside, before)) in
    let parts = one_less t.ops.items place r.0 all w.later r.2 (w.parts ∙ ap (λ n. take n t.ops.items ++ w.later) e) in
    let front = take place t.ops.items in
    let both = and_parts (is_nested 0 all) (list_all is_inside all) whole in
    let nested = nested_later front (r.0 ∷ w.later) 0 (sym (ap (is_nested 0) parts) ∙ both.0) in
    let insides = and_parts (list_all is_inside front) (list_all is_inside (r.0 ∷ w.later))
    (sym (list_all-append is_inside front (r.0 ∷ w.later)) ∙ (sym (ap (list_all is_inside) parts) ∙ both.1)) in
    let long = ap length parts ∙ length-append front (r.0 ∷ w.later) in (
      nested.count,
      r.0,
      record {
        is = r.1;
        before = omega (arith, e, before);
        nested = nested.nested;
        inside = (and_parts (is_inside r.0) (list_all is_inside w.later) insides.1).0;
        few = omega (arith, low, long);
        stands = w.stands;
      },
      r.2,
    )

pub walk_goes : (all : List Op) (left place : ℕ) (op : Op) (t u : OcclusionCuller) → left ≡ place + 1 → (w : IsWalked all left t)
    → take (place + 1) t.ops.items ≡ take place t.ops.items ++ op ∷ [] → HasTaken place (levels (op ∷ w.later)) t u → IsWalked all place u
walk_goes all left place op t u e w read taken =
    record {
      later = op ∷ w.later;
      parts = one_less t.ops.items place op all w.later read (w.parts ∙ ap (λ n. take n t.ops.items ++ w.later) e)
          ∙ ap (λ front. front ++ (op ∷ w.later)) (sym taken.ahead);
      before = taken.before;
      stands = taken.stands;
    }

pub walk_ends : (all : List Op) (left : ℕ) (t : OcclusionCuller) → left ≡ 0 → IsWalked all left t → IsAt (levels all) t
walk_ends all left t none w = subst (λ ops. IsAt (levels ops) t) (sym (w.parts ∙ ap (λ n. take n t.ops.items ++ w.later) none)) w.stands

-- what was kept of all, and how many were removed
only_list : (ops : List Op) (lists : List Items) (t : OcclusionCuller) → AreLevels 0 ops lists → IsAt lists t
    → (drop t.kept t.ops.items ≡ ops_of (kept_items (innermost lists))) × (t.removed ≡ gone_items (innermost lists))
unfolding ops_behind gone_behind
only_list ops [] t are is = absurd (let h = are.count in omega (arith, h))
only_list ops (items ∷ []) t are is = (is.kept, is.removed ∙ none (gone_items items))
  where
    none : (n : ℕ) → n + 0 ≡ n
    none n = omega arith
only_list ops (items ∷ next ∷ outer) t are is = absurd (let h = are.count in omega (arith, h))

pub all_taken : (ops : List Op) (t : OcclusionCuller) → is_whole ops ≡ true → IsAt (levels ops) t
    → (drop t.kept t.ops.items ≡ kept ops) × (t.removed ≡ gone ops)
unfolding is_whole items_of kept gone
all_taken ops t whole is = only_list ops (levels ops) t (levels_are 0 ops (and_parts (is_nested 0 ops) (list_all is_inside ops) whole).0) is

-- What the steps ask for and answer

pub innermost_start : (n : ℕ) (op : Op) (later : List Op) (place : ℕ) (t : OcclusionCuller) → Precedes n op later place t → t.start ≤ length t.occluders.items
innermost_start n op later place t p = start_inside (levels later) t p.stands

pub one_more_fits : (n : ℕ) (op : Op) (later : List Op) (place : ℕ) (t : OcclusionCuller) → Precedes n op later place t → t.removed + 1 < 2 ^ 64
one_more_fits n op later place t p = let a = p.stands.removed in let b = gone_few later in let c = p.few in omega (arith, a, b, c)

some_is : (x y : Op) → Some x ≡ Some y → x ≡ y
some_is x y e = cc

-- there is one operation at an index
pub same_op : (ops : List Op) (place : ℕ) (op other : Op) → slice_get ops place ≡ Some op → slice_get ops place ≡ Some other → op ≡ other
same_op ops place op other e f = some_is op other (sym e ∙ f)

pub place_inside : (n : ℕ) (op : Op) (later : List Op) (place : ℕ) (t : OcclusionCuller) → Precedes n op later place t → place < length t.ops.items
place_inside n op later place t p = let a = p.before in let b = p.stands.low in omega (arith, a, b)

-- what is read at the index
pub read_op : (n : ℕ) (op : Op) (later : List Op) (place : ℕ) (t : OcclusionCuller) (read : Op) → Precedes n op later place t → read ≡ slice_index_or t.ops.items place read → op ≡ read
read_op n op later place t read p is =
    same_op t.ops.items place op read p.is (slice_get_read t.ops.items (length t.ops.items) place read refl (place_inside n op later place t p) is)

abbrev pub any_covers : Rectangle → List Rectangle → Bool
any_covers area occluders = list_any (λ cover. covers_rect cover area) occluders

abbrev pub any_from : Rectangle → ℕ → List Rectangle → Bool
any_from area start occluders = any_covers area (drop start occluders)

module _ (n : ℕ) (op : Op) (later : List Op) (place : ℕ) (area : Rectangle) (t u : OcclusionCuller) (p : Precedes n op later place t)
    (e : role_of op ≡ Single area)
    (cover : (outer own : List Rectangle) → t.start ≡ length outer → t.occluders.items ≡ outer ++ take MOST_OCCLUDERS own
    → u.occluders.items ≡ outer ++ take MOST_OCCLUDERS (own ++ listed_if (occludes op) area))
    (start : u.start ≡ t.start) (behind : u.behind.items ≡ t.behind.items)
    (occluded : Bool) (h : occluded ≡ any_covers area (drop t.start t.occluders.items)) where
  s : SingleLevels op later area
  s = single_levels op n later area e p.nested

  stands : IsAt (s.items ∷ s.outer) t
  stands = subst (λ lists. IsAt lists t) s.parts p.stands

  occluders : u.occluders.items ≡ occluders_behind s.outer ++ take MOST_OCCLUDERS (occluders_of s.items ++ listed_if (occludes op) area)
  unfolding occluders_behind
  occluders = cover (occluders_behind s.outer) (occluders_of s.items) stands.start stands.occluders

  is : occluded ≡ is_occluded area s.items
  is = h ∙ occluded_is area s.outer s.items t.start t.occluders.items stands.start stands.occluders

  pub single_occluded : occluded ≡ true → u.ops.items ≡ t.ops.items → u.kept ≡ t.kept → u.removed ≡ t.removed + 1 → HasTaken place (levels (op ∷ later)) t u
  single_occluded yes_occluded same kept removed =
      record {
        stands = subst (λ lists. IsAt lists u) (sym s.more)
            (at_occluded op area (occludes op) s.items s.item s.outer t u stands s.before occluders start behind
            (let a = stands.low in let b = ap length same in omega (arith, a, b, kept)) (ap length same)
            (sym is ∙ yes_occluded) (λ i. drop (kept i) (same i)) removed);
        before = (let a = p.before in omega (arith, a, kept));
        ahead = ap (take place) same;
      }

  pub single_kept : occluded ≡ false → IsKeptAt place op t u → u.removed ≡ t.removed → HasTaken place (levels (op ∷ later)) t u
  single_kept not_occluded kept removed =
      record {
        stands = subst (λ lists. IsAt lists u) (sym s.more)
            (at_kept op area (occludes op) s.items s.item s.outer t u stands s.before occluders start behind
            kept.low kept.long (sym is ∙ not_occluded) (kept.kept p.is) removed);
        before = kept.before;
        ahead = kept.ahead;
      }

module _ (n : ℕ) (op : Op) (later : List Op) (place : ℕ) (area : Rectangle) (t : OcclusionCuller) (p : Precedes n op later place t) (e : role_of op ≡ Begins area) where
  b : BeginLevels op later area
  b = begin_levels op n later area e p.nested

  at_begin : IsAt (b.inner ∷ b.next ∷ b.outer) t
  at_begin = subst (λ lists. IsAt lists t) b.parts p.stands

  -- something is remembered
  pub begin_some : 1 ≤ length t.behind.items
  unfolding levels_behind
  begin_some =
      let l = ap length at_begin.behind ∙ length-append (levels_behind (length t.ops.items) (b.next ∷ b.outer)) (level_of (length t.ops.items) (b.next ∷ b.outer) ∷ []) in
      omega (arith, l)

  module _ (rest : List Level) (level : Level) (popped : t.behind.items ≡ rest ++ level ∷ []) where
    r : (level ≡ level_of (length t.ops.items) (b.next ∷ b.outer)) × (rest ≡ levels_behind (length t.ops.items) (b.next ∷ b.outer))
    r = remembered area b.opacity b.mode b.inner b.next b.outer t at_begin rest level popped

    starts : level.start ≡ length (occluders_behind b.outer)
    starts = ap (λ (l : Level). l.start) r.0

    up : (t.kept ≤ level.kept) × (level.kept ≤ length t.ops.items)
    up = goes_up area b.opacity b.mode b.inner b.next b.outer t at_begin level r.0

    pub begin_fits : level.removed + 1 < 2 ^ 64
    unfolding gone_behind
    begin_fits =
        let a = ap (λ (l : Level). l.removed) r.0 in
        let c = at_begin.removed in
        let d = one_more_fits n op later place t p in omega (arith, a, c, d)

    module _ (occluders : List Rectangle) (left : occluders ≡ take t.start t.occluders.items) where
      outer_ones : occluders ≡ occluders_behind (b.next ∷ b.outer)
      outer_ones = left ∙ outer_occluders area b.opacity b.mode b.inner b.next b.outer t at_begin

      pub begin_start : level.start ≤ length occluders
      unfolding occluders_behind
      begin_start =
          let l = ap length outer_ones ∙ length-append (occluders_behind b.outer) (take MOST_OCCLUDERS (occluders_of b.next)) in
          let a = starts in omega (arith, l, a)

      module _ (occluded : Bool) (h : occluded ≡ any_covers area (drop level.start occluders)) (u : OcclusionCuller)
          (same : u.occluders.items ≡ occluders) (start : u.start ≡ level.start) (behind : u.behind.items ≡ rest) where
        is_begin : occluded ≡ is_occluded area b.next
        is_begin = h ∙ occluded_is area b.outer b.next level.start occluders starts outer_ones

        pub begin_occluded : occluded ≡ true → u.ops.items ≡ t.ops.items → u.kept ≡ level.kept → u.removed ≡ level.removed + 1 → HasTaken place (levels (op ∷ later)) t u
        begin_occluded yes_occluded ops kept removed =
            record {
              stands = subst (λ lists. IsAt lists u) (sym b.more)
                  (at_occluded_group area b.opacity b.mode b.inner b.next b.outer t at_begin u (same ∙ outer_ones) (start ∙ starts) (behind ∙ r.1)
                  (let a = up.1 in let c = ap length ops in omega (arith, a, c, kept)) (ap length ops)
                  (sym is_begin ∙ yes_occluded) ops (kept ∙ ap (λ (l : Level). l.kept) r.0) (removed ∙ ap (λ (l : Level). l.removed + 1) r.0));
              before = (let a = p.before in let c = up.0 in omega (arith, a, c, kept));
              ahead = ap (take place) ops;
            }

        pub begin_kept : occluded ≡ false → IsKeptAt place op t u → u.removed ≡ t.removed → HasTaken place (levels (op ∷ later)) t u
        begin_kept not_occluded kept removed =
            record {
              stands = subst (λ lists. IsAt lists u) (sym b.more)
                  (at_kept_group area b.opacity b.mode b.inner b.next b.outer t at_begin u (same ∙ outer_ones) (start ∙ starts) (behind ∙ r.1)
                  kept.low kept.long (sym is_begin ∙ not_occluded) (kept.kept p.is ∙ ap (λ o. o ∷ drop t.kept t.ops.items) b.is) removed);
              before = kept.before;
              ahead = kept.ahead;
            }

pub end_taken : (n : ℕ) (op : Op) (later : List Op) (place : ℕ) (t u : OcclusionCuller) → Precedes n op later place t → role_of op ≡ Ends
    → IsKeptAt place op t u → u.occluders.items ≡ t.occluders.items → u.start ≡ length t.occluders.items → u.removed ≡ t.removed
    → u.behind.items ≡ t.behind.items ++ record { start = t.start; kept = t.kept; removed = t.removed } ∷ [] → HasTaken place (levels (op ∷ later)) t u
end_taken n op later place t u p e kept occluders start removed behind =
    let l = end_levels op n later e p.nested in
    record {
      stands = subst (λ lists. IsAt lists u) (sym l.more)
          (at_end l.items l.outer t u (subst (λ lists. IsAt lists t) l.parts p.stands) kept.low kept.long
          (kept.kept p.is ∙ ap (λ o. o ∷ drop t.kept t.ops.items) l.is) occluders start removed behind);
      before = kept.before;
      ahead = kept.ahead;
    }
