-- Chains of frames, and maps of groups.
use Rattle.std.proofs.Common.{◌≡◌, ℕ, ◌+◌, ◌-◌, ◌<◌, ◌≤◌, ◌⊎◌, inl, inr, Bool, true, false, Option, Some, None, List, [], ◌∷◌, ◌++◌, map, filter, length, get_or, slice_get, refl, sym, ap, ◌∙◌, subst, arith, Bor}
use Rattle.std.specs.{BTreeMap.BTreeMap, BTreeMap.get, List.Sorted.IsPartitionedBy, List.Sorted.IsPartitionPoint}
use Rattle.std.proofs.lemmas.List.{get_or-map, get_or_default, get_or_append_left, get_or-append-add, length-append, length-map}
use Rattle.std.proofs.{lemmas.Option.slice_get-get_or, lemmas.Option.slice_get_within, lemmas.Option.slice_get-map, lemmas.Bool.Decides.nat_tests}
use Rattle.vz_ids.specs.{declared.SurfaceId.SurfaceId, Ids.same_sink, Ids.same_group, Ids.at_least, Ids.group_of, declared.GroupKey.GroupKey}
use Rattle.vz_rules.specs.World.{FrameData}
use Rattle.vz_scene.specs.Groups.{is_newer, IsChain, IsNewest, by_group, frames_at, HasGroups}
use Rattle.vz_ids.proofs.Ages.{both, eq_is, eq_so, at_least_is, at_least_trans, newer_is, newer_so}
use Rattle.vz_scene.proofs.Showing.{clash, newer_reaches}

some_same : {A : Type 0} {a b : A} → Some a ≡ Some b → a ≡ b
some_same f = cc

-- what is newer than a newer one is newer
newer_trans : (x y z : FrameData) → is_newer x y ≡ true → is_newer y z ≡ true → is_newer x z ≡ true
newer_trans x y z e f = grind (arith, nat_tests, both, at_least_is, newer_reaches, newer_is, eq_so, newer_so)

-- the last of a list
last_read : (xs : List FrameData) (x d : FrameData) → slice_get xs (length xs - 1) ≡ Some x → get_or xs (length xs - 1) d ≡ x
last_read xs x d e = some_same (sym (slice_get-get_or xs (length xs - 1) d (slice_get_within xs (length xs - 1) x e)) ∙ e)

-- a chain goes on by one that is newer than its last
pub chain_more : (xs : List FrameData) (x y : FrameData) → IsChain xs → slice_get xs (length xs - 1) ≡ Some y → is_newer x y ≡ true → IsChain (xs ++ x ∷ [])
chain_more xs x y chain last new m n d h k = by (n_is n k)
  where
    within : length xs - 1 < length xs
    within = slice_get_within xs (length xs - 1) y last

    long : length (xs ++ x ∷ []) ≡ length xs + 1
    long = length-append xs (x ∷ [])

    n_is : (n : ℕ) → n < length (xs ++ x ∷ []) → (n < length xs) ⊎ (n ≡ length xs)
    n_is n k = let l = long in grind arith

    at_end : get_or (xs ++ x ∷ []) (length xs) d ≡ x
    at_end = ap (λ l. get_or (xs ++ x ∷ []) l d) ends ∙ get_or-append-add xs (x ∷ []) 0 d
      where
        ends : length xs ≡ length xs + 0
        ends = omega arith

    newer_all : (m : ℕ) → m < length xs → is_newer x (get_or xs m d) ≡ true
    newer_all m l = on (before m l)
      where
        before : (m : ℕ) → m < length xs → (m ≡ length xs - 1) ⊎ (m < length xs - 1)
        before m l = grind arith

        on : (m ≡ length xs - 1) ⊎ (m < length xs - 1) → is_newer x (get_or xs m d) ≡ true
        on (inl e) = ap (is_newer x) (ap (λ j. get_or xs j d) e ∙ last_read xs y d last) ∙ new
        on (inr s) = newer_trans x y (get_or xs m d) new (ap (λ z. is_newer z (get_or xs m d)) (sym (last_read xs y d last)) ∙ chain m (length xs - 1) d s within)

    by : (n < length xs) ⊎ (n ≡ length xs) → is_newer (get_or (xs ++ x ∷ []) n d) (get_or (xs ++ x ∷ []) m d) ≡ true
    by (inl l) =
        ap (λ z. is_newer z (get_or (xs ++ x ∷ []) m d)) (get_or_append_left xs (x ∷ []) d n l)
        ∙ (ap (is_newer (get_or xs n d)) (get_or_append_left xs (x ∷ []) d m (omega arith)) ∙ chain m n d h l)
    by (inr e) =
        ap (λ z. is_newer z (get_or (xs ++ x ∷ []) m d)) (ap (λ j. get_or (xs ++ x ∷ []) j d) e ∙ at_end)
        ∙ (ap (is_newer x) (get_or_append_left xs (x ∷ []) d m (omega arith)) ∙ newer_all m (omega arith))

-- where those of a chain that pass a test are a front part, the last of this is the newest that does
pub chain_newest : (test : FrameData → Bool) (xs : List FrameData) (count : ℕ) (x : FrameData) → IsChain xs → IsPartitionPoint (λ (i : FrameData). test i ≡ true) (λ (i : FrameData). test i ≡ false) xs count → 0 < count → count ≤ length xs
    → x ≡ get_or xs (count - 1) x → IsNewest test xs x
chain_newest test xs count x chain point some within is =
    record {
      there = (count - 1, omega arith, sym is);
      passes = ap test is ∙ point.0 (count - 1) x (omega arith) (omega arith);
      others = λ y c e. others y c.0 c.1 c.2 e;
    }
  where
    others : (y : FrameData) (k : ℕ) → k < length xs → get_or xs k y ≡ y → test y ≡ true → (y ≡ x) ⊎ (is_newer x y ≡ true)
    others y k l r e = by (place k l)
      where
        place : (k : ℕ) → k < length xs → (count ≤ k) ⊎ ((k ≡ count - 1) ⊎ (k < count - 1))
        place k l = grind arith

        by : (count ≤ k) ⊎ ((k ≡ count - 1) ⊎ (k < count - 1)) → (y ≡ x) ⊎ (is_newer x y ≡ true)
        by (inl h) = absurd (clash (test y) e (ap test (sym r) ∙ point.1 k y h l))
        by (inr (inl h)) = inl (sym r ∙ (ap (λ j. get_or xs j y) h ∙ (get_or_default xs (count - 1) y x (omega arith) ∙ sym is)))
        by (inr (inr h)) = inr (ap (λ z. is_newer z y) (is ∙ get_or_default xs (count - 1) x y (omega arith)) ∙ (ap (is_newer (get_or xs (count - 1) y)) (sym r) ∙ chain k (count - 1) y h (omega arith)))

-- the last of a chain is the newest
pub last_newest : (xs : List FrameData) (x : FrameData) → IsChain xs → slice_get xs (length xs - 1) ≡ Some x → IsNewest (λ _. true) xs x
last_newest xs x chain last =
    let within = slice_get_within xs (length xs - 1) x last in
    chain_newest (λ _. true) xs (length xs) x chain ((λ k d l h. refl), (λ k d l h. absurd (omega arith))) (omega arith) (omega arith) (sym (last_read xs x x last))

-- those of a chain that a surface is at least are a front part
pub chain_parts : (rs : List (Bor FrameData)) (end : SurfaceId) → IsChain (map (λ r. r.now) rs) → IsPartitionedBy (λ (r : Bor FrameData). at_least end r.now.id) rs
chain_parts rs end chain i j d h k e = by (order i j h)
  where
    order : (i j : ℕ) → i ≤ j → (i ≡ j) ⊎ (i < j)
    order i j h = grind arith

    read : (n : ℕ) → n < length rs → get_or (map (λ (r : Bor FrameData). r.now) rs) n d.now ≡ (get_or rs n d).now
    read n l = get_or-map (λ (r : Bor FrameData). r.now) rs n d d.now l

    by : (i ≡ j) ⊎ (i < j) → at_least end (get_or rs i d).now.id ≡ true
    by (inl s) = ap (λ n. at_least end (get_or rs n d).now.id) s ∙ e
    by (inr l) =
        at_least_trans end (get_or rs j d).now.id (get_or rs i d).now.id e (newer_reaches (get_or rs j d).now (get_or rs i d).now
        (ap (λ z. is_newer z (get_or rs i d).now) (sym (read j k)) ∙ (ap (is_newer (get_or (map (λ (r : Bor FrameData). r.now) rs) j d.now)) (sym (read i (omega arith))) ∙ chain i j d.now l (mapped_long k))))
      where
        mapped_long : j < length rs → j < length (map (λ (r : Bor FrameData). r.now) rs)
        mapped_long k = let l = length-map rs (λ (r : Bor FrameData). r.now) in omega arith

-- what was found of references is so of what they refer to
pub point_read : (rs : List (Bor FrameData)) (test : FrameData → Bool) (n : ℕ) → n ≤ length rs → IsPartitionPoint (λ (r : Bor FrameData). test r.now ≡ true) (λ (r : Bor FrameData). test r.now ≡ false) rs n
    → IsPartitionPoint (λ (i : FrameData). test i ≡ true) (λ (i : FrameData). test i ≡ false) (map (λ (r : Bor FrameData). r.now) rs) n
point_read [] test n l p = (λ k d h m. absurd (omega arith), λ k d h m. absurd (omega arith))
point_read (r ∷ rs) test n l p =
    let all : List (Bor FrameData) = r ∷ rs in
    (λ k d h m. ap test (get_or-map (λ (r : Bor FrameData). r.now) all k r d (omega arith)) ∙ p.0 k r h m, λ k d h m. let w : k < length all = shorter k m in ap test (get_or-map (λ (r : Bor FrameData). r.now) all k r d w) ∙ p.1 k r h w)
  where
    shorter : (k : ℕ) → k < length (map (λ (r : Bor FrameData). r.now) (r ∷ rs)) → k < length (r ∷ rs)
    shorter k m = let l = length-map (r ∷ rs) (λ (r : Bor FrameData). r.now) in omega arith

-- the last reference is to the last frame
pub last_of_references : (rs : List (Bor FrameData)) (xs : List FrameData) (r : Bor FrameData) → map (λ (r : Bor FrameData). r.now) rs ≡ xs → slice_get rs (length rs - 1) ≡ Some r → slice_get xs (length xs - 1) ≡ Some r.now
last_of_references rs xs r is e = grind (arith, nat_tests, slice_get-map, length-map)

-- where those up to a surface end
pub chain_point : (rs : List (Bor FrameData)) (xs : List FrameData) (end : SurfaceId) (n : ℕ) → map (λ (r : Bor FrameData). r.now) rs ≡ xs → IsChain xs → n ≤ length rs
    → (IsPartitionedBy (λ (r : Bor FrameData). at_least end r.now.id) rs → IsPartitionPoint (λ (r : Bor FrameData). at_least end r.now.id ≡ true) (λ (r : Bor FrameData). at_least end r.now.id ≡ false) rs n)
    → IsPartitionPoint (λ (i : FrameData). at_least end i.id ≡ true) (λ (i : FrameData). at_least end i.id ≡ false) xs n
chain_point rs xs end n is chain h point =
    subst (λ (l : List FrameData). IsPartitionPoint (λ (i : FrameData). at_least end i.id ≡ true) (λ (i : FrameData). at_least end i.id ≡ false) l n) is
    (point_read rs (λ (i : FrameData). at_least end i.id) n h (point (chain_parts rs end (subst IsChain (sym is) chain))))

-- as many references as frames
pub as_many_references : (rs : List (Bor FrameData)) (xs : List FrameData) → map (λ (r : Bor FrameData). r.now) rs ≡ xs → length xs ≡ length rs
as_many_references rs xs is = ap length (sym is) ∙ length-map rs (λ (r : Bor FrameData). r.now)

-- what an index reads
pub read_reference : (rs : List (Bor FrameData)) (xs : List FrameData) (r : Bor FrameData) (n : ℕ) → map (λ (r : Bor FrameData). r.now) rs ≡ xs → n < length rs → r ≡ get_or rs n r → r.now ≡ get_or xs n r.now
read_reference rs xs r n is h e = grind (arith, nat_tests, get_or-map)

-- Maps of groups

pub group_is : (m : BTreeMap GroupKey (List FrameData)) (all : List FrameData) (id : SurfaceId) (key : GroupKey) (xs : List FrameData) → HasGroups m all → key ≡ group_of id → Some xs ≡ get by_group m key → xs ≡ filter (λ (i : FrameData). same_group i.id id) all
group_is m all id key xs has is e = ap (λ (o : Option (List FrameData)). elim o [ Some active ↦ active | None ↦ [] ]) e ∙ (ap (frames_at m) is ∙ has id)

pub group_none : (m : BTreeMap GroupKey (List FrameData)) (all : List FrameData) (id : SurfaceId) (key : GroupKey) → HasGroups m all → key ≡ group_of id → None ≡ get by_group m key → [] ≡ filter (λ (i : FrameData). same_group i.id id) all
group_none m all id key has is e = ap (λ (o : Option (List FrameData)). elim o [ Some active ↦ active | None ↦ [] ]) e ∙ (ap (frames_at m) is ∙ has id)

pub one_key : (a b : SurfaceId) → same_group a b ≡ true → group_of a ≡ group_of b
one_key a b e = grind (arith, nat_tests, both (same_sink a.sink b.sink), both, eq_is)
