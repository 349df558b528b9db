-- Operations of items: how deep they are, and whether they are whole.
use Rattle.std.proofs.Common.{◌≡◌, ℕ, ◌+◌, ◌-◌, ◌≤◌, max, Bool, true, false, ◌&&◌, List, [], ◌∷◌, ◌++◌, refl, ap, sym, ◌∙◌, cond, arith, append_assoc, append-nil}
use Rattle.std.specs.{Prelude.nat_lt, List.list_all}
use Rattle.std.proofs.{lemmas.Bool.and_parts, lemmas.Bool.lt-ltb, lemmas.List.Folds.list_all-append}
use Rattle.vz_flat.specs.{declared.op.Op.Op, declared.op.TheConstants.MOST_OPEN}
use Rattle.vz_flat.specs.{declared.op.Op.TheVariants.Blit, declared.op.Op.TheVariants.Pop, Ops.is_nested, Ops.is_inside, Ops.is_whole, Ops.deepest}
use Rattle.vz_flat.proofs.Nested.{deepest_least}
use Rattle.vz_occlude.specs.Items.{Items, Done, Filled, Blitted, Grouped, ops_of}
use Rattle.vz_occlude.specs.Occlusion.{is_occluded, kept_items}

and_true : (a b : Bool) → a ≡ true → b ≡ true → (a && b) ≡ true
and_true a b e f = rw (e, f) refl

-- no more groups than the limit are open in items that stand in so many
unfoldable pub nests : ℕ → Items → Bool
nests n Done = true
nests n (Filled area c o m later) = nests n later
nests n (Blitted area block tx ty o m later) = nests n later
nests n (Grouped area o m inner later) = nat_lt n MOST_OPEN && (nests (n + 1) inner && nests n later)

-- the texels of items are inside their blocks
unfoldable pub insides : Items → Bool
insides Done = true
insides (Filled area c o m later) = insides later
insides (Blitted area block tx ty o m later) = is_inside (Blit area block tx ty o m) && insides later
insides (Grouped area o m inner later) = insides inner && insides later

-- the greatest number of groups that are open at once in items that stand in so many
unfoldable pub depth : ℕ → Items → ℕ
depth n Done = n
depth n (Filled area c o m later) = depth n later
depth n (Blitted area block tx ty o m later) = depth n later
depth n (Grouped area o m inner later) = max (depth (n + 1) inner) (depth n later)

-- Items of operations

and_assoc : (a b c d : Bool) → (a && (b && (c && d))) ≡ ((a && (b && c)) && d)
and_assoc true true c d = refl
and_assoc true false c d = refl
and_assoc false b c d = refl

after_pop : (n : ℕ) (ops : List Op) → is_nested (n + 1) (Pop ∷ ops) ≡ is_nested n ops
unfolding is_nested
after_pop n ops = ap (λ t. t && is_nested (n + 1 - 1) ops) (lt-ltb 0 (n + 1) (omega arith)) ∙ ap (λ k. is_nested k ops) (back n)
  where
    back : (n : ℕ) → (n + 1) - 1 ≡ n
    back n = omega arith

pub nested_items : (n : ℕ) (items : Items) (rest : List Op) → is_nested n (ops_of items ++ rest) ≡ (nests n items && is_nested n rest)
unfolding is_nested ops_of nests
nested_items n Done rest = refl
nested_items n (Filled area c o m later) rest = nested_items n later rest
nested_items n (Blitted area block tx ty o m later) rest = nested_items n later rest
nested_items n (Grouped area o m inner later) rest =
    ap (λ ops. nat_lt n MOST_OPEN && is_nested (n + 1) ops) (append_assoc (ops_of inner) (Pop ∷ ops_of later) rest)
    ∙ (ap (λ t. nat_lt n MOST_OPEN && t)
    (nested_items (n + 1) inner (Pop ∷ (ops_of later ++ rest))
    ∙ ap (λ t. nests (n + 1) inner && t) (after_pop n (ops_of later ++ rest) ∙ nested_items n later rest))
    ∙ and_assoc (nat_lt n MOST_OPEN) (nests (n + 1) inner) (nests n later) (is_nested n rest))

pub inside_items : (items : Items) → list_all is_inside (ops_of items) ≡ insides items
unfolding ops_of insides is_inside
inside_items Done = refl
inside_items (Filled area c o m later) = inside_items later
inside_items (Blitted area block tx ty o m later) = ap (λ t. is_inside (Blit area block tx ty o m) && t) (inside_items later)
inside_items (Grouped area o m inner later) =
    list_all-append is_inside (ops_of inner) (Pop ∷ ops_of later)
    ∙ (ap (λ t. t && list_all is_inside (ops_of later)) (inside_items inner) ∙ ap (λ t. insides inner && t) (inside_items later))

joined : (n a b c : ℕ) → n + 1 ≤ a → max a (max (n + 1) (max b c)) ≡ max (max a b) c
joined n a b c h = omega (arith, h)

depth_least : (n : ℕ) (items : Items) → n ≤ depth n items
unfolding depth
depth_least n Done = omega arith
depth_least n (Filled area c o m later) = depth_least n later
depth_least n (Blitted area block tx ty o m later) = depth_least n later
depth_least n (Grouped area o m inner later) = let h = depth_least n later in omega (arith, h)

pub deepest_items : (n : ℕ) (items : Items) (rest : List Op) → deepest n (ops_of items ++ rest) ≡ max (depth n items) (deepest n rest)
unfolding deepest ops_of depth
deepest_items n Done rest = largest (deepest n rest) (deepest_least n rest)
  where
    largest : (k : ℕ) → n ≤ k → k ≡ max n k
    largest k h = omega (arith, h)
deepest_items n (Filled area c o m later) rest = deepest_items n later rest
deepest_items n (Blitted area block tx ty o m later) rest = deepest_items n later rest
deepest_items n (Grouped area o m inner later) rest =
    ap (λ ops. deepest (n + 1) ops) (append_assoc (ops_of inner) (Pop ∷ ops_of later) rest)
    ∙ (deepest_items (n + 1) inner (Pop ∷ (ops_of later ++ rest))
    ∙ (ap (λ k. max (depth (n + 1) inner) (max (n + 1) k)) (ap (λ k. deepest k (ops_of later ++ rest)) (back n) ∙ deepest_items n later rest)
    ∙ joined n (depth (n + 1) inner) (depth n later) (deepest n rest) (depth_least (n + 1) inner)))
  where
    back : (n : ℕ) → (n + 1) - 1 ≡ n
    back n = omega arith

-- What is kept

by_choice : (P : Items → Type 0) (t : Bool) (a b : Items) → P a → P b → P (cond t a b)
by_choice P true a b p q = p
by_choice P false a b p q = q

kept_nests : (n : ℕ) (items : Items) → nests n items ≡ true → nests n (kept_items items) ≡ true
unfolding nests kept_items
kept_nests n Done h = refl
kept_nests n (Filled area c o m later) h =
    let rest = kept_nests n later h in
    by_choice (λ items. nests n items ≡ true) (is_occluded area later) (kept_items later) (Filled area c o m (kept_items later)) rest rest
kept_nests n (Blitted area block tx ty o m later) h =
    let rest = kept_nests n later h in
    by_choice (λ items. nests n items ≡ true) (is_occluded area later) (kept_items later) (Blitted area block tx ty o m (kept_items later)) rest rest
kept_nests n (Grouped area o m inner later) h =
    let parts = and_parts (nat_lt n MOST_OPEN) (nests (n + 1) inner && nests n later) h in
    let both = and_parts (nests (n + 1) inner) (nests n later) parts.1 in
    let rest = kept_nests n later both.1 in
    by_choice (λ items. nests n items ≡ true) (is_occluded area later) (kept_items later) (Grouped area o m (kept_items inner) (kept_items later)) rest
    (and_true (nat_lt n MOST_OPEN) (nests (n + 1) (kept_items inner) && nests n (kept_items later)) parts.0
    (and_true (nests (n + 1) (kept_items inner)) (nests n (kept_items later)) (kept_nests (n + 1) inner both.0) rest))

kept_insides : (items : Items) → insides items ≡ true → insides (kept_items items) ≡ true
unfolding insides kept_items
kept_insides Done h = refl
kept_insides (Filled area c o m later) h =
    let rest = kept_insides later h in
    by_choice (λ items. insides items ≡ true) (is_occluded area later) (kept_items later) (Filled area c o m (kept_items later)) rest rest
kept_insides (Blitted area block tx ty o m later) h =
    let parts = and_parts (is_inside (Blit area block tx ty o m)) (insides later) h in
    let rest = kept_insides later parts.1 in
    by_choice (λ items. insides items ≡ true) (is_occluded area later) (kept_items later) (Blitted area block tx ty o m (kept_items later)) rest
    (and_true (is_inside (Blit area block tx ty o m)) (insides (kept_items later)) parts.0 rest)
kept_insides (Grouped area o m inner later) h =
    let parts = and_parts (insides inner) (insides later) h in
    let rest = kept_insides later parts.1 in
    by_choice (λ items. insides items ≡ true) (is_occluded area later) (kept_items later) (Grouped area o m (kept_items inner) (kept_items later)) rest
    (and_true (insides (kept_items inner)) (insides (kept_items later)) (kept_insides inner parts.0) rest)

kept_depth : (n : ℕ) (items : Items) → depth n (kept_items items) ≤ depth n items
unfolding depth kept_items
kept_depth n Done = omega arith
kept_depth n (Filled area c o m later) =
    let rest = kept_depth n later in
    by_choice (λ items. depth n items ≤ depth n later) (is_occluded area later) (kept_items later) (Filled area c o m (kept_items later)) rest rest
kept_depth n (Blitted area block tx ty o m later) =
    let rest = kept_depth n later in
    by_choice (λ items. depth n items ≤ depth n later) (is_occluded area later) (kept_items later) (Blitted area block tx ty o m (kept_items later)) rest rest
kept_depth n (Grouped area o m inner later) =
    let rest = kept_depth n later in
    let own = kept_depth (n + 1) inner in
    by_choice (λ items. depth n items ≤ max (depth (n + 1) inner) (depth n later)) (is_occluded area later) (kept_items later) (Grouped area o m (kept_items inner) (kept_items later))
    (omega (arith, rest)) (omega (arith, rest, own))

-- Whole lists

whole_items : (items : Items) → is_whole (ops_of items) ≡ (nests 0 items && insides items)
unfolding is_whole is_nested
whole_items items =
    ap (λ ops. is_nested 0 ops && list_all is_inside (ops_of items)) (sym (append-nil (ops_of items)))
    ∙ (ap (λ t. t && list_all is_inside (ops_of items)) (nested_items 0 items [] ∙ and_one (nests 0 items))
    ∙ ap (λ t. nests 0 items && t) (inside_items items))
  where
    and_one : (a : Bool) → (a && true) ≡ a
    and_one true = refl
    and_one false = refl

-- what is kept of whole operations of items is whole
pub kept_whole : (items : Items) → is_whole (ops_of items) ≡ true → is_whole (ops_of (kept_items items)) ≡ true
kept_whole items h =
    let parts = and_parts (nests 0 items) (insides items) (sym (whole_items items) ∙ h) in
    whole_items (kept_items items) ∙ and_true (nests 0 (kept_items items)) (insides (kept_items items)) (kept_nests 0 items parts.0) (kept_insides items parts.1)

deepest_alone : (items : Items) → deepest 0 (ops_of items) ≡ depth 0 items
unfolding deepest
deepest_alone items =
    ap (deepest 0) (sym (append-nil (ops_of items))) ∙ (deepest_items 0 items [] ∙ none (depth 0 items))
  where
    none : (k : ℕ) → max k 0 ≡ k
    none k = omega arith

-- and no deeper
pub kept_deep : (items : Items) → deepest 0 (ops_of (kept_items items)) ≤ deepest 0 (ops_of items)
kept_deep items =
    let a = deepest_alone items in
    let b = deepest_alone (kept_items items) in
    let h = kept_depth 0 items in omega (arith, a, b, h)
