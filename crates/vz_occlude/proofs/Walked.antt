-- A walk over operations, one more at a time.
use Rattle.std.proofs.Common.{◌≡◌, ℕ, ◌+◌, ◌-◌, ◌≤◌, Bool, true, false, List, [], ◌∷◌, ◌++◌, take, drop, length, refl, ap, sym, ◌∙◌, cond, arith, append_assoc, append-nil, length-append}
use Rattle.std.specs.List.{list_any}
use Rattle.std.proofs.lemmas.List.{take_at, drop_at, drop_all}
use Rattle.vz_geom.specs.Rectangle.{Rectangle, covers_rect}
use Rattle.vz_frame.specs.declared.blend.Blend.{Blend}
use Rattle.vz_flat.specs.declared.op.Op.{Op}
use Rattle.vz_flat.specs.declared.op.Op.TheVariants.{Fill, Blit, Push, Pop}
use Rattle.vz_occlude.specs.{declared.bound.TheConstants.MOST_OCCLUDERS, declared.culler.Level.Level}
use Rattle.vz_occlude.specs.{declared.culler.OcclusionCuller.OcclusionCuller, Occlusion.is_occluded, Occlusion.kept_items, Occlusion.gone_items}
use Rattle.vz_occlude.specs.Items.{Items, Done, Filled, Blitted, Grouped, ops_of}
use Rattle.vz_occlude.specs.Occluders.{occluders_of, listed_if, is_occluder, is_opaque, is_opaque_blit}
use Rattle.vz_occlude.specs.Walk_so_far.{ops_behind, kept_behind, occluders_behind, gone_behind, level_of, levels_behind, IsAt}
use Rattle.vz_occlude.proofs.Ends_of_lists.{same_ends, count_behind, last_ones}

-- Nothing taken

pub at_none : (t : OcclusionCuller) → t.kept ≡ length t.ops.items → t.occluders.items ≡ [] → t.start ≡ 0 → t.removed ≡ 0 → t.behind.items ≡ [] → IsAt (Done ∷ []) t
unfolding ops_behind occluders_behind gone_behind levels_behind ops_of kept_items gone_items occluders_of
at_none t a b c d e =
    record {
      low = omega (arith, a);
      kept = drop_all t.kept t.ops.items (omega (arith, a));
      occluders = b;
      start = c;
      removed = d;
      behind = e;
    }

-- The occluders of the innermost list

pub start_inside : (lists : List Items) (t : OcclusionCuller) → IsAt lists t → t.start ≤ length t.occluders.items
unfolding occluders_behind
start_inside [] t is = let e = is.start in omega (arith, e)
start_inside (items ∷ outer) t is =
    let e = is.start in
    let long : length t.occluders.items ≡ length (occluders_behind outer) + length (take MOST_OCCLUDERS (occluders_of items)) = ap length is.occluders ∙ length-append (occluders_behind outer) (take MOST_OCCLUDERS (occluders_of items)) in
    omega (arith, e, long)

pub own_occluders : (outer : List Items) (items : Items) (start : ℕ) (occluders : List Rectangle) → start ≡ length (occluders_behind outer) → occluders ≡ occluders_behind (items ∷ outer)
    → drop start occluders ≡ take MOST_OCCLUDERS (occluders_of items)
unfolding occluders_behind
own_occluders outer items start occluders e f =
    ap (λ n. drop n occluders) e ∙ (ap (drop (length (occluders_behind outer))) f ∙ drop_at (occluders_behind outer) (take MOST_OCCLUDERS (occluders_of items)) (length (occluders_behind outer)) refl)

pub occluded_is : (area : Rectangle) (outer : List Items) (items : Items) (start : ℕ) (occluders : List Rectangle) → start ≡ length (occluders_behind outer) → occluders ≡ occluders_behind (items ∷ outer)
    → list_any (λ cover. covers_rect cover area) (drop start occluders) ≡ is_occluded area items
occluded_is area outer items start occluders e f = ap (list_any (λ cover. covers_rect cover area)) (own_occluders outer items start occluders e f)

-- One item more

-- an item before others: what it adds to what is kept, to what is gone and to the occluders
pub record IsBefore (op : Op) (area : Rectangle) (counts : Bool) (later item : Items) : Type 0 where
  pub kept : ops_of (kept_items item) ≡ cond (is_occluded area later) (ops_of (kept_items later)) (op ∷ ops_of (kept_items later))
  pub gone : gone_items item ≡ cond (is_occluded area later) 1 0 + gone_items later
  pub occluders : occluders_of item ≡ occluders_of later ++ listed_if counts area

pub fill_before : (area : Rectangle) (c : _) (o : ℕ) (m : Blend) (later : Items) → IsBefore (Fill area c o m) area (is_occluder m o (is_opaque c)) later (Filled area c o m later)
unfolding ops_of kept_items gone_items occluders_of
fill_before area c o m later = record { kept = by_test (is_occluded area later); gone = refl; occluders = refl }
  where
    by_test : (t : Bool) → ops_of (cond t (kept_items later) (Filled area c o m (kept_items later))) ≡ cond t (ops_of (kept_items later)) (Fill area c o m ∷ ops_of (kept_items later))
    by_test true = refl
    by_test false = refl

pub blit_before : (area : Rectangle) (block : _) (tx ty : _) (o : ℕ) (m : Blend) (later : Items) → IsBefore (Blit area block tx ty o m) area (is_occluder m o (is_opaque_blit area block tx ty)) later (Blitted area block tx ty o m later)
unfolding ops_of kept_items gone_items occluders_of
blit_before area block tx ty o m later = record { kept = by_test (is_occluded area later); gone = refl; occluders = refl }
  where
    by_test : (t : Bool) → ops_of (cond t (kept_items later) (Blitted area block tx ty o m (kept_items later))) ≡ cond t (ops_of (kept_items later)) (Blit area block tx ty o m ∷ ops_of (kept_items later))
    by_test true = refl
    by_test false = refl

kept_same : (item later : Items) (outer : List Items) → ops_of (kept_items item) ≡ ops_of (kept_items later) → kept_behind (item ∷ outer) ≡ kept_behind (later ∷ outer)
unfolding ops_behind
kept_same item later [] e = e
kept_same item later (next ∷ outer) e = ap (λ ops. ops ++ (Pop ∷ kept_behind (next ∷ outer))) e

kept_more : (op : Op) (item later : Items) (outer : List Items) → ops_of (kept_items item) ≡ op ∷ ops_of (kept_items later) → kept_behind (item ∷ outer) ≡ op ∷ kept_behind (later ∷ outer)
unfolding ops_behind
kept_more op item later [] e = e
kept_more op item later (next ∷ outer) e = ap (λ ops. ops ++ (Pop ∷ kept_behind (next ∷ outer))) e

same_levels : (n m : ℕ) (item later : Items) (outer : List Items) → n ≡ m → levels_behind n (item ∷ outer) ≡ levels_behind m (later ∷ outer)
unfolding levels_behind
same_levels n m item later [] e = refl
same_levels n m item later (next ∷ outer) e = ap (λ k. levels_behind k (next ∷ outer) ++ level_of k (next ∷ outer) ∷ []) e

module _ (op : Op) (area : Rectangle) (counts : Bool) (later item : Items) (outer : List Items) (t u : OcclusionCuller)
    (is : IsAt (later ∷ outer) t) (before : IsBefore op area counts later item)
    (cover : u.occluders.items ≡ occluders_behind outer ++ take MOST_OCCLUDERS (occluders_of later ++ listed_if counts area))
    (start : u.start ≡ t.start) (behind : u.behind.items ≡ t.behind.items)
    (low : u.kept ≤ length u.ops.items) (long : length u.ops.items ≡ length t.ops.items) where
  more_occluders : u.occluders.items ≡ occluders_behind (item ∷ outer)
  unfolding occluders_behind
  more_occluders = cover ∙ ap (λ rs. occluders_behind outer ++ take MOST_OCCLUDERS rs) (sym before.occluders)

  pub at_occluded : is_occluded area later ≡ true → drop u.kept u.ops.items ≡ drop t.kept t.ops.items → u.removed ≡ t.removed + 1 → IsAt (item ∷ outer) u
  unfolding gone_behind
  at_occluded occluded kept removed =
      record {
        low = low;
        kept = kept ∙ (is.kept ∙ sym (kept_same item later outer (before.kept ∙ ap (λ h. cond h (ops_of (kept_items later)) (op ∷ ops_of (kept_items later))) occluded)));
        occluders = more_occluders;
        start = start ∙ is.start;
        removed = (let a = is.removed in let b = before.gone ∙ ap (λ h. cond h 1 0 + gone_items later) occluded in omega (arith, removed, a, b));
        behind = behind ∙ (is.behind ∙ same_levels (length t.ops.items) (length u.ops.items) later item outer (sym long));
      }

  pub at_kept : is_occluded area later ≡ false → drop u.kept u.ops.items ≡ op ∷ drop t.kept t.ops.items → u.removed ≡ t.removed → IsAt (item ∷ outer) u
  unfolding gone_behind
  at_kept shown kept removed =
      record {
        low = low;
        kept = kept ∙ (ap (λ ops. op ∷ ops) is.kept
            ∙ sym (kept_more op item later outer (before.kept ∙ ap (λ h. cond h (ops_of (kept_items later)) (op ∷ ops_of (kept_items later))) shown)));
        occluders = more_occluders;
        start = start ∙ is.start;
        removed = (let a = is.removed in let b = before.gone ∙ ap (λ h. cond h 1 0 + gone_items later) shown in omega (arith, removed, a, b));
        behind = behind ∙ (is.behind ∙ same_levels (length t.ops.items) (length u.ops.items) later item outer (sym long));
      }

-- The end of a group

same_level : {a a' b b' c c' : ℕ} → a ≡ a' → b ≡ b' → c ≡ c' → ◌≡◌ {A = Level} (record { start = a; kept = b; removed = c }) (record { start = a'; kept = b'; removed = c' })
same_level e f g = λ i. record { start = e i; kept = f i; removed = g i }

-- where those that were kept begin
kept_from : (lists : List Items) (t : OcclusionCuller) → IsAt lists t → t.kept ≡ length t.ops.items - length (kept_behind lists)
kept_from lists t is =
    let a = count_behind t.ops.items (kept_behind lists) t.kept is.kept in
    let b = is.low in omega (arith, a, b)

pub at_end : (items : Items) (outer : List Items) (t u : OcclusionCuller) → IsAt (items ∷ outer) t
    → u.kept ≤ length u.ops.items → length u.ops.items ≡ length t.ops.items
    → drop u.kept u.ops.items ≡ Pop ∷ drop t.kept t.ops.items → u.occluders.items ≡ t.occluders.items → u.start ≡ length t.occluders.items → u.removed ≡ t.removed
    → u.behind.items ≡ t.behind.items ++ record { start = t.start; kept = t.kept; removed = t.removed } ∷ []
    → IsAt (Done ∷ items ∷ outer) u
unfolding ops_behind occluders_behind gone_behind levels_behind ops_of kept_items gone_items occluders_of
at_end items outer t u is low long kept occluders start removed behind =
    record {
      low = low;
      kept = kept ∙ ap (λ ops. Pop ∷ ops) is.kept;
      occluders = occluders ∙ (is.occluders ∙ sym (append-nil (occluders_behind (items ∷ outer))));
      start = start ∙ ap length is.occluders;
      removed = removed ∙ (is.removed ∙ none (gone_behind (items ∷ outer)));
      behind = behind ∙ ((λ i. is.behind i ++ same_level is.start (kept_from (items ∷ outer) t is) is.removed i ∷ [])
          ∙ ap (λ n. levels_behind n (items ∷ outer) ++ level_of n (items ∷ outer) ∷ []) (sym long));
    }
  where
    none : (n : ℕ) → n ≡ 0 + n
    none n = omega arith

-- The begin of a group

with_outer : (area : Rectangle) (o : ℕ) (m : Blend) (inner next item : Items) → ops_of (kept_items item) ≡ Push area o m ∷ (ops_of (kept_items inner) ++ (Pop ∷ ops_of (kept_items next)))
    → (outer : List Items) → kept_behind (item ∷ outer) ≡ Push area o m ∷ kept_behind (inner ∷ next ∷ outer)
unfolding ops_behind
with_outer area o m inner next item own [] = own
with_outer area o m inner next item own (third ∷ outer) =
    ap (λ ops. ops ++ (Pop ∷ kept_behind (third ∷ outer))) own
    ∙ ap (λ ops. Push area o m ∷ ops) (append_assoc (ops_of (kept_items inner)) (Pop ∷ ops_of (kept_items next)) (Pop ∷ kept_behind (third ∷ outer)))

-- what was kept behind a group whose operations are removed
left_over : (inner next : Items) (outer : List Items) (t : OcclusionCuller) → IsAt (inner ∷ next ∷ outer) t
    → drop (length t.ops.items - length (kept_behind (next ∷ outer))) t.ops.items ≡ kept_behind (next ∷ outer)
unfolding ops_behind
left_over inner next outer t is =
    last_ones t.ops.items (ops_of (kept_items inner) ++ Pop ∷ []) (kept_behind (next ∷ outer)) t.kept
    (is.kept ∙ sym (append_assoc (ops_of (kept_items inner)) (Pop ∷ []) (kept_behind (next ∷ outer))))

-- and it begins behind the group
behind_group : (inner next : Items) (outer : List Items) (t : OcclusionCuller) → IsAt (inner ∷ next ∷ outer) t
    → t.kept ≤ length t.ops.items - length (kept_behind (next ∷ outer))
unfolding ops_behind
behind_group inner next outer t is =
    let a = kept_from (inner ∷ next ∷ outer) t is in
    let b = length-append (ops_of (kept_items inner)) (Pop ∷ kept_behind (next ∷ outer)) in omega (arith, a, b)

module _ (area : Rectangle) (o : ℕ) (m : Blend) (inner next : Items) (outer : List Items) where
  abbrev item : Items
  item = Grouped area o m inner next

  group_occluded : (h : Bool) → h ≡ true → ops_of (cond h (kept_items next) (Grouped area o m (kept_items inner) (kept_items next))) ≡ ops_of (kept_items next)
  group_occluded true e = refl
  group_occluded false e = absurd (cc)

  -- without it
  kept_without : is_occluded area next ≡ true → kept_behind (item ∷ outer) ≡ kept_behind (next ∷ outer)
  unfolding kept_items
  kept_without occluded = kept_same item next outer (group_occluded (is_occluded area next) occluded)

  group_shown : (h : Bool) → h ≡ false → ops_of (cond h (kept_items next) (Grouped area o m (kept_items inner) (kept_items next))) ≡ Push area o m ∷ (ops_of (kept_items inner) ++ (Pop ∷ ops_of (kept_items next)))
  unfolding ops_of
  group_shown true e = absurd (cc)
  group_shown false e = refl

  -- with it
  kept_with : is_occluded area next ≡ false → kept_behind (item ∷ outer) ≡ Push area o m ∷ kept_behind (inner ∷ next ∷ outer)
  unfolding kept_items
  kept_with shown = with_outer area o m inner next item (group_shown (is_occluded area next) shown) outer

  module _ (t : OcclusionCuller) (is : IsAt (inner ∷ next ∷ outer) t) where
    -- what was remembered
    pub remembered : (behind : List Level) (level : Level) → t.behind.items ≡ behind ++ level ∷ []
        → (level ≡ level_of (length t.ops.items) (next ∷ outer)) × (behind ≡ levels_behind (length t.ops.items) (next ∷ outer))
    unfolding levels_behind
    remembered behind level e =
        same_ends level (level_of (length t.ops.items) (next ∷ outer)) behind (levels_behind (length t.ops.items) (next ∷ outer)) (sym e ∙ is.behind)

    -- the place from which something was kept behind the group
    pub goes_up : (level : Level) → level ≡ level_of (length t.ops.items) (next ∷ outer) → (t.kept ≤ level.kept) × (level.kept ≤ length t.ops.items)
    goes_up level e =
        let a = behind_group inner next outer t is in
        let b = ap (λ (l : Level). l.kept) e in (omega (arith, a, b), omega (arith, b))

    -- the occluders of the lists round the group
    pub outer_occluders : take t.start t.occluders.items ≡ occluders_behind (next ∷ outer)
    unfolding occluders_behind
    outer_occluders =
        ap (λ n. take n t.occluders.items) is.start
        ∙ (ap (take (length (occluders_behind (next ∷ outer)))) is.occluders
        ∙ take_at (occluders_behind (next ∷ outer)) (take MOST_OCCLUDERS (occluders_of inner)) (length (occluders_behind (next ∷ outer))) refl)

    module _ (u : OcclusionCuller) (occluders : u.occluders.items ≡ occluders_behind (next ∷ outer)) (start : u.start ≡ length (occluders_behind outer))
        (behind : u.behind.items ≡ levels_behind (length t.ops.items) (next ∷ outer))
        (low : u.kept ≤ length u.ops.items) (long : length u.ops.items ≡ length t.ops.items) where
      group_occluders : u.occluders.items ≡ occluders_behind (item ∷ outer)
      unfolding occluders_behind occluders_of
      group_occluders = occluders

      pub at_occluded_group : is_occluded area next ≡ true → u.ops.items ≡ t.ops.items → u.kept ≡ length t.ops.items - length (kept_behind (next ∷ outer))
          → u.removed ≡ gone_behind (next ∷ outer) + 1 → IsAt (item ∷ outer) u
      unfolding gone_behind gone_items
      at_occluded_group occluded same kept removed =
          record {
            low = low;
            kept = (λ i. drop (kept i) (same i)) ∙ (left_over inner next outer t is ∙ sym (kept_without occluded));
            occluders = group_occluders;
            start = start;
            removed = (let b = ap (λ h. cond h 1 (gone_items inner)) occluded in omega (arith, removed, b));
            behind = behind ∙ same_levels (length t.ops.items) (length u.ops.items) next item outer (sym long);
          }

      pub at_kept_group : is_occluded area next ≡ false → drop u.kept u.ops.items ≡ Push area o m ∷ drop t.kept t.ops.items
          → u.removed ≡ t.removed → IsAt (item ∷ outer) u
      unfolding gone_behind gone_items
      at_kept_group shown kept removed =
          record {
            low = low;
            kept = kept ∙ (ap (λ ops. Push area o m ∷ ops) is.kept ∙ sym (kept_with shown));
            occluders = group_occluders;
            start = start;
            removed = (let a = is.removed in let b = ap (λ h. cond h 1 (gone_items inner)) shown in omega (arith, removed, a, b));
            behind = behind ∙ same_levels (length t.ops.items) (length u.ops.items) next item outer (sym long);
          }
