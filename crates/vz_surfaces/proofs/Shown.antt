-- What is found in the groups is what a range shows.
use Rattle.std.proofs.Common.{arith, ◌≡◌, Bool, true, false, not, ◌&&◌, ◌||◌, ◌⊎◌, inl, inr, Option, Some, None, is_some, List, [], ◌∷◌, map, filter, find, reverse, refl, ap, sym, ◌∙◌, cond, subst, Contains}
use Rattle.std.proofs.lemmas.Bool.Decides.{nat_tests}
use Rattle.std.specs.Option.{option_map, option_map_or}
use Rattle.std.specs.List.{list_any}
use Rattle.std.proofs.lemmas.List.{reverse-append}
use Rattle.std.proofs.lemmas.Bool.{and_parts, and_from, both_ways, or_right}
use Rattle.vz_ids.specs.declared.SurfaceId.{SurfaceId}
use Rattle.vz_ids.specs.declared.SurfaceRange.{SurfaceRange}
use Rattle.vz_ids.specs.Ids.{same_sink, same_surface, same_group, newer, at_least}
use Rattle.vz_rules.specs.World.{Surface as Created, FrameData, Submission, is_active, is_on, active_frames}
use Rattle.vz_rules.specs.Scene.{or_else, newest, newer_frame, in_range, from_start, after_start, shown_frame, id_of_frame}
use Rattle.vz_rules.specs.Kept.{stands_in}
use Rattle.vz_rules.proofs.Reached.{from_same, self_same}
use Rattle.vz_rules.proofs.Members.{contains_here, contains_there, contains_none, contains_cases, contains_map, map_contains, filter_at, filter_has, filter_none, find_at, any_at, any_from, found}
use Rattle.vz_surfaces.specs.Stored.{Stored}
use Rattle.vz_surfaces.specs.Reading.{standing, held_of, seen_frames, shown_in}
use Rattle.vz_surfaces.specs.declared.table.Surface.{Surface}
use Rattle.vz_surfaces.specs.declared.table.Table.{Table}
use Rattle.vz_surfaces.specs.declared.groups.Groups.{Groups}
use Rattle.vz_surfaces.specs.Memory.{look, kept_of, surface_at, KeepsTable}
use Rattle.vz_surfaces.specs.Chains.{chain_at, is_newer_id, IsRising, KeepsGroups, starts_from}
use Rattle.vz_ids.proofs.Ages.{newer_once, at_least_trans}
use Rattle.vz_surfaces.proofs.Finding.{find_end}
use Rattle.vz_surfaces.proofs.Others.{never}
use Rattle.vz_surfaces.proofs.Grouping.{reach_group, rising_less, same_groups, group_from}

-- The last of a rising list that passes

-- a surface of the table has an active frame
abbrev pub is_acting : Table → SurfaceId → Bool
is_acting t id = option_map_or (λ (s : Surface). is_some s.active) (look t id) false

-- what was found, if it passes
abbrev pub id_passes : (SurfaceId → Bool) → Option SurfaceId → Option SurfaceId
id_passes test None = None
id_passes test (Some id) = cond (test id) (Some id) None

-- the newest surface with an active frame of the group of a start, which is another than the end's
abbrev pub id_from : Table → Groups → Option SurfaceId → SurfaceId → Option SurfaceId
id_from t g None end = None
id_from t g (Some start) end = cond (same_group start end) None (id_passes (λ id. at_least id start) (find (is_acting t) (reverse (chain_at g start))))

pub last_step : {A : Type 0} (p : A → Bool) (x : A) (xs : List A) → find p (reverse (x ∷ xs)) ≡ or_else (find p (reverse xs)) (cond (p x) (Some x) None)
last_step p x xs = ap (find p) (reverse-append (x ∷ []) xs) ∙ find_end p (reverse xs) x

pub none_last : (p : SurfaceId → Bool) (xs : List SurfaceId) → find p (reverse xs) ≡ None → (y : SurfaceId) → Contains xs y → p y ≡ false
none_last p [] e y c = absurd (contains_none y c)
none_last p (x ∷ xs) e y c = grind (arith, nat_tests, last_step p x xs, none_last p xs, contains_cases x y xs c)

-- it passes, and the others that do are older
pub record IsLast (p : SurfaceId → Bool) (xs : List SurfaceId) (x : SurfaceId) : Type 0 where
  pub there : Contains xs x
  pub passes : p x ≡ true
  pub others : (y : SurfaceId) → Contains xs y → p y ≡ true → (y ≡ x) ⊎ (is_newer_id x y ≡ true)

some_same : {a b : SurfaceId} → Some a ≡ Some b → a ≡ b
some_same f = cc

pub is_last : (p : SurfaceId → Bool) (xs : List SurfaceId) (x : SurfaceId) → IsRising xs → find p (reverse xs) ≡ Some x → IsLast p xs x
unfolding IsRising
is_last p [] x h e = absurd (cc)
is_last p (z ∷ xs) x h e = by (find p (reverse xs)) refl (p z) refl (sym (last_step p z xs) ∙ e) (λ y f. is_last p xs y h.1 f)
  where
    by : (o : Option SurfaceId) → find p (reverse xs) ≡ o → (t : Bool) → p z ≡ t → or_else o (cond t (Some z) None) ≡ Some x
        → ((y : SurfaceId) → find p (reverse xs) ≡ Some y → IsLast p xs y) → IsLast p (z ∷ xs) x
    by None f true g k rest =
        let same : z ≡ x = some_same k in
        record {
          there = subst (λ w. Contains (z ∷ xs) w) same (contains_here z xs);
          passes = ap p (sym same) ∙ g;
          others = λ y c m. elim (contains_cases z y xs c) [
            | inl s ↦ inl (sym s ∙ same)
            | inr r ↦ absurd (both_ways (p y) (none_last p xs f y r) m)
          ];
        }
    by None f false g k rest = absurd (cc)
    by (Some w) f t g k rest =
        let same : w ≡ x = some_same k in
        let last = rest w f in
        subst (IsLast p (z ∷ xs)) same
        (record {
          there = contains_there z w xs last.there;
          passes = last.passes;
          others = λ y c m. elim (contains_cases z y xs c) [
            | inl s ↦ inr (subst (λ v. is_newer_id w v ≡ true) s (h.0 w last.there))
            | inr r ↦ last.others y r m
          ];
        })

-- The newest of frames, by its id

newest_there : (xs : List FrameData) (j : FrameData) → newest xs ≡ Some j → Contains xs j
newest_there [] j e = absurd (cc)
newest_there (y ∷ ys) j e = by (newest ys) refl e (newest_there ys)
  where
    one : {a b : FrameData} → Some a ≡ Some b → a ≡ b
    one f = cc

    pick : (k : FrameData) (t : Bool) → Contains ys k → cond t (Some k) (Some y) ≡ Some j → Contains (y ∷ ys) j
    pick k true c f = subst (λ z. Contains (y ∷ ys) z) (one f) (contains_there y k ys c)
    pick k false c f = subst (λ z. Contains (y ∷ ys) z) (one f) (contains_here y ys)

    by : (o : Option FrameData) → newest ys ≡ o → newer_frame y o ≡ Some j → ((k : FrameData) → newest ys ≡ Some k → Contains ys k) → Contains (y ∷ ys) j
    by None g f rest = subst (λ z. Contains (y ∷ ys) z) (one f) (contains_here y ys)
    by (Some k) g f rest = pick k (newer k.id.local y.id.local) (rest k g) f

-- an id is this one, or that of an older surface
abbrev IsOldOf : SurfaceId → FrameData → Type 0
IsOldOf id j = (j.id ≡ id) ⊎ (is_newer_id id j.id ≡ true)

newer_part : (a b : SurfaceId) → is_newer_id a b ≡ true → newer a.local b.local ≡ true
newer_part a b e = (and_parts (same_sink a.sink b.sink) (newer a.local b.local) e).1

newer_at_least : (a b : SurfaceId) → is_newer_id a b ≡ true → at_least a b ≡ true
newer_at_least a b e = or_right (same_surface a b) (same_sink a.sink b.sink && newer a.local b.local) e

old_at_least : (id : SurfaceId) (j : FrameData) → IsOldOf id j → at_least id j.id ≡ true
old_at_least id j (inl e) = ap (λ i. at_least id i) e ∙ ap (λ b. b || (same_sink id.sink id.sink && newer id.local id.local)) (self_same id)
old_at_least id j (inr e) = newer_at_least id j.id e

pub newest_of : (xs : List FrameData) (id : SurfaceId) (i : FrameData) → Contains xs i → i.id ≡ id → ((j : FrameData) → Contains xs j → IsOldOf id j) → id_of_frame (newest xs) ≡ Some id
newest_of [] id i c e old = absurd (contains_none i c)
newest_of (y ∷ ys) id i c e old =
    by (newest ys) refl (λ k d f. newest_of ys id k d f (λ j m. old j (contains_there y j ys m)))
  where
    -- the first one is newest where it has the id
    stays : (k : FrameData) (t : Bool) → newer k.id.local y.id.local ≡ t → k.id ≡ id ⊎ (t ≡ false) → y.id ≡ id → id_of_frame (cond t (Some k) (Some y)) ≡ Some id
    stays k true f (inl g) h = ap (λ z. Some z) g
    stays k true f (inr g) h = absurd (both_ways true g refl)
    stays k false f g h = ap (λ z. Some z) h

    goes : (k : FrameData) (t : Bool) → newer k.id.local y.id.local ≡ t → k.id ≡ id → IsOldOf id y → id_of_frame (cond t (Some k) (Some y)) ≡ Some id
    goes k true f g h = ap (λ z. Some z) g
    goes k false f g (inl h) = ap (λ z. Some z) h
    goes k false f g (inr h) = absurd (both_ways (newer k.id.local y.id.local) f (ap (λ (x : SurfaceId). newer x.local y.id.local) g ∙ newer_part id y.id h))

    not_newer : (k : FrameData) → Contains ys k → y.id ≡ id → (k.id ≡ id) ⊎ (newer k.id.local y.id.local ≡ false)
    not_newer k m h =
        inr (ap (λ (x : SurfaceId). newer k.id.local x.local) h ∙ newer_once id k.id (old_at_least id k (old k (contains_there y k ys m))))

    by : (o : Option FrameData) → newest ys ≡ o → ((k : FrameData) → Contains ys k → k.id ≡ id → id_of_frame (newest ys) ≡ Some id) → id_of_frame (newer_frame y o) ≡ Some id
    by None g rest = elim (contains_cases y i ys c) [
      | inl s ↦ ap (λ (x : FrameData). Some x.id) s ∙ ap (λ z. Some z) e
      | inr r ↦ absurd (none_is g (rest i r e))
    ]
      where
        none_is : newest ys ≡ None → id_of_frame (newest ys) ≡ Some id → ⊥
        none_is f k = let no_way : ◌≡◌ {A = Option SurfaceId} None (Some id) = sym (ap id_of_frame f) ∙ k in absurd (cc)
    by (Some k) g rest = elim (contains_cases y i ys c) [
      | inl s ↦ change (newer k.id.local y.id.local) refl (not_newer k (newest_there ys k g) (ap (λ (x : FrameData). x.id) s ∙ e)) (ap (λ (x : FrameData). x.id) s ∙ e)
      | inr r ↦ goes k (newer k.id.local y.id.local) refl (some_same (sym (ap id_of_frame g) ∙ rest i r e)) (old y (contains_here y ys))
    ]
      where
        change : (t : Bool) → newer k.id.local y.id.local ≡ t → (k.id ≡ id) ⊎ (newer k.id.local y.id.local ≡ false) → y.id ≡ id → id_of_frame (cond t (Some k) (Some y)) ≡ Some id
        change t f (inl h) l = stays k t f (inl h) l
        change t f (inr h) l = stays k t f (inr (sym f ∙ h)) l

-- Frames that are seen, and surfaces of the table with an active frame

acting_by : (o : Option Created) (st : Stored) (id : SurfaceId) → option_map_or (λ (s : Surface). is_some s.active) (option_map (kept_of id st.subs) o) false ≡ (is_some o && list_any (λ s. is_active s && is_on id s) st.subs)
acting_by None st id = refl
acting_by (Some c) st id = some_held (find (λ s. is_active s && is_on id s) st.subs) ∙ found (λ s. is_active s && is_on id s) st.subs
  where
    some_held : (o : Option Submission) → is_some (option_map (λ (s : Submission). held_of s.submitted) o) ≡ is_some o
    some_held None = refl
    some_held (Some s) = refl

pub acting_is : (t : Table) (st : Stored) (id : SurfaceId) → KeepsTable t st → is_acting t id ≡ (stands_in st.surfaces id && list_any (λ s. is_active s && is_on id s) st.subs)
unfolding surface_at
acting_is t st id h = ap (λ o. option_map_or (λ (s : Surface). is_some s.active) o false) (h.surfaces id) ∙ acting_by (standing id st.surfaces) st id

module _ (t : Table) (g : Groups) (st : Stored) (ht : KeepsTable t st) (hg : KeepsGroups g st) where
  seen_acts : (i : FrameData) → Contains (seen_frames st) i → is_acting t i.id ≡ true
  seen_acts i c =
      let a = filter_at (λ (i : FrameData). stands_in st.surfaces i.id) (active_frames st.subs) i c in
      let s = contains_map (λ (s : Submission). s.submitted) (filter is_active st.subs) i a.0 in
      let b = filter_at is_active st.subs s.0 s.1 in
      acting_is t st i.id ht
      ∙ and_from (stands_in st.surfaces i.id) (list_any (λ s. is_active s && is_on i.id s) st.subs) a.1
      (any_from (λ s. is_active s && is_on i.id s) st.subs s.0 b.0 (and_from (is_active s.0) (is_on i.id s.0) b.1 (ap (λ (x : FrameData). same_surface x.id i.id) s.2 ∙ self_same i.id)))

  acts_seen : (id : SurfaceId) → is_acting t id ≡ true → (i : FrameData) × Contains (seen_frames st) i × (i.id ≡ id)
  acts_seen id e =
      let both = and_parts (stands_in st.surfaces id) (list_any (λ s. is_active s && is_on id s) st.subs) (sym (acting_is t st id ht) ∙ e) in
      let s = any_at (λ s. is_active s && is_on id s) st.subs both.1 in
      let parts = and_parts (is_active s.0) (is_on id s.0) s.2 in
      let at : s.0.submitted.id ≡ id = from_same s.0.submitted.id id parts.1 in (
        s.0.submitted,
        filter_has (λ (i : FrameData). stands_in st.surfaces i.id) (active_frames st.subs) s.0.submitted
            (map_contains (λ (s : Submission). s.submitted) (filter is_active st.subs) s.0 (filter_has is_active st.subs s.0 s.1 parts.0)) (ap (stands_in st.surfaces) at ∙ both.0),
        at,
      )

  standing_by : (id q : SurfaceId) → same_group id q ≡ true → (o : Option Created) → standing id st.surfaces ≡ o → is_some o ≡ true → Contains (map (λ (c : Created). c.id) (filter (λ (c : Created). same_group c.id q && not c.destroyed) st.surfaces)) id
  standing_by id q f None e k = absurd (cc)
  standing_by id q f (Some c) e k =
      let there = find_at (λ (s : Created). same_surface s.id id && not s.destroyed) st.surfaces c e in
      let both = and_parts (same_surface c.id id) (not c.destroyed) there.1 in
      let at = from_same c.id id both.0 in
      subst (Contains (map (λ (c : Created). c.id) (filter (λ (c : Created). same_group c.id q && not c.destroyed) st.surfaces))) at
      (map_contains (λ (c : Created). c.id) (filter (λ (c : Created). same_group c.id q && not c.destroyed) st.surfaces) c
      (filter_has (λ (c : Created). same_group c.id q && not c.destroyed) st.surfaces c there.0 (and_from (same_group c.id q) (not c.destroyed) (ap (λ i. same_group i q) at ∙ f) both.1)))

  -- a frame that is seen is on a surface of its group
  seen_in : (q : SurfaceId) (i : FrameData) → Contains (seen_frames st) i → same_group i.id q ≡ true → Contains (chain_at g q) i.id
  seen_in q i c f =
      let a = filter_at (λ (i : FrameData). stands_in st.surfaces i.id) (active_frames st.subs) i c in
      subst (λ l. Contains l i.id) (sym (hg.chain q)) (standing_by i.id q f (standing i.id st.surfaces) refl a.1)

  -- a surface that exists is in its group
  pub chain_has : (id : SurfaceId) → stands_in st.surfaces id ≡ true → Contains (chain_at g id) id
  chain_has id e = subst (λ l. Contains l id) (sym (hg.chain id)) (standing_by id id (group_from id id refl refl) (standing id st.surfaces) refl e)

  starts_is : (s : Option SurfaceId) (end : SurfaceId) (i : FrameData) → from_start s end i ≡ starts_from s end i.id
  starts_is None end i = refl
  starts_is (Some start) end i = refl

  start_goes : (s : Option SurfaceId) (end a b : SurfaceId) → at_least a b ≡ true → starts_from s end b ≡ true → starts_from s end a ≡ true
  start_goes None end a b e f = refl
  start_goes (Some start) end a b e f = grind (arith, nat_tests, at_least_trans a b start e)

  old_or : (a b : SurfaceId) → (b ≡ a) ⊎ (is_newer_id a b ≡ true) → at_least a b ≡ true
  old_or a b (inl e) = ap (λ i. at_least a i) e ∙ ap (λ x. x || (same_sink a.sink a.sink && newer a.local a.local)) (self_same a)
  old_or a b (inr e) = newer_at_least a b e

  symmetric : (a b : SurfaceId) → same_group a b ≡ true → same_group b a ≡ true
  symmetric a b e = let s = same_groups a b e in group_from b a (sym s.0) (sym s.1)

  -- the part of a range in the end's group
  in_by : (range : SurfaceRange) (o : Option SurfaceId) → find (is_acting t) (reverse (filter (at_least range.end) (chain_at g range.end))) ≡ o
      → id_passes (starts_from range.start range.end) o ≡ id_of_frame (newest (filter (in_range range) (seen_frames st)))
  in_by range None e =
      sym (ap (λ l. id_of_frame (newest l)) (filter_none (in_range range) (seen_frames st) (λ i c. never (in_range range i) (λ f.
      let at = (and_parts (at_least range.end i.id) (from_start range.start range.end i) f).0 in
      let inside = filter_has (at_least range.end) (chain_at g range.end) i.id (seen_in range.end i c (symmetric range.end i.id (reach_group range.end i.id at))) at in
      sym (none_last (is_acting t) (filter (at_least range.end) (chain_at g range.end)) e i.id inside) ∙ seen_acts i c))))
  in_by range (Some x) e = by (starts_from range.start range.end x) refl
    where
      chain : List SurfaceId
      chain = filter (at_least range.end) (chain_at g range.end)

      last : IsLast (is_acting t) chain x
      last = is_last (is_acting t) chain x (rising_less (at_least range.end) (chain_at g range.end) (hg.rising range.end)) e

      old : (j : FrameData) → Contains (seen_frames st) j → at_least range.end j.id ≡ true → (j.id ≡ x) ⊎ (is_newer_id x j.id ≡ true)
      old j c at = last.others j.id (filter_has (at_least range.end) (chain_at g range.end) j.id (seen_in range.end j c (symmetric range.end j.id (reach_group range.end j.id at))) at) (seen_acts j c)

      by : (b : Bool) → starts_from range.start range.end x ≡ b → cond b (Some x) None ≡ id_of_frame (newest (filter (in_range range) (seen_frames st)))
      by true f =
          let i = acts_seen x last.passes in
          let at : at_least range.end x ≡ true = (filter_at (at_least range.end) (chain_at g range.end) x last.there).1 in
          sym (newest_of (filter (in_range range) (seen_frames st)) x i.0
          (filter_has (in_range range) (seen_frames st) i.0 i.1 (and_from (at_least range.end i.0.id) (from_start range.start range.end i.0) (ap (at_least range.end) i.2 ∙ at) (starts_is range.start range.end i.0 ∙ (ap (starts_from range.start range.end) i.2 ∙ f))))
          i.2 (λ j c. let k = filter_at (in_range range) (seen_frames st) j c in old j k.0 (and_parts (at_least range.end j.id) (from_start range.start range.end j) k.1).0))
      by false f =
          sym (ap (λ l. id_of_frame (newest l)) (filter_none (in_range range) (seen_frames st) (λ j c. never (in_range range j) (λ k.
          let both = and_parts (at_least range.end j.id) (from_start range.start range.end j) k in
          sym f ∙ start_goes range.start range.end x j.id (old_or x j.id (old j c both.0)) (sym (starts_is range.start range.end j) ∙ both.1)))))

  -- the group of the start
  from_by : (start end : SurfaceId) (o : Option SurfaceId) → find (is_acting t) (reverse (chain_at g start)) ≡ o → same_group start end ≡ false
      → id_passes (λ id. at_least id start) o ≡ id_of_frame (newest (filter (after_start (Some start) end) (seen_frames st)))
  from_by start end None e f =
      sym (ap (λ l. id_of_frame (newest l)) (filter_none (after_start (Some start) end) (seen_frames st) (λ i c. never (after_start (Some start) end i) (λ k.
      let at = (and_parts (not (same_group start end)) (at_least i.id start) k).1 in
      sym (none_last (is_acting t) (chain_at g start) e i.id (seen_in start i c (reach_group i.id start at))) ∙ seen_acts i c))))
  from_by start end (Some x) e f = by (at_least x start) refl
    where
      last : IsLast (is_acting t) (chain_at g start) x
      last = is_last (is_acting t) (chain_at g start) x (hg.rising start) e

      old : (j : FrameData) → Contains (seen_frames st) j → at_least j.id start ≡ true → (j.id ≡ x) ⊎ (is_newer_id x j.id ≡ true)
      old j c at = last.others j.id (seen_in start j c (reach_group j.id start at)) (seen_acts j c)

      by : (b : Bool) → at_least x start ≡ b → cond b (Some x) None ≡ id_of_frame (newest (filter (after_start (Some start) end) (seen_frames st)))
      by true k =
          let i = acts_seen x last.passes in
          sym (newest_of (filter (after_start (Some start) end) (seen_frames st)) x i.0
          (filter_has (after_start (Some start) end) (seen_frames st) i.0 i.1 (and_from (not (same_group start end)) (at_least i.0.id start) (ap not f) (ap (λ i. at_least i start) i.2 ∙ k)))
          i.2 (λ j c. let m = filter_at (after_start (Some start) end) (seen_frames st) j c in old j m.0 (and_parts (not (same_group start end)) (at_least j.id start) m.1).1))
      by false k =
          sym (ap (λ l. id_of_frame (newest l)) (filter_none (after_start (Some start) end) (seen_frames st) (λ j c. never (after_start (Some start) end j) (λ m.
          let at = (and_parts (not (same_group start end)) (at_least j.id start) m).1 in
          sym k ∙ at_least_trans x j.id start (old_or x j.id (old j c at)) at))))

  -- what is found is what the range shows
  pub ids_show : (range : SurfaceRange) → or_else (id_passes (starts_from range.start range.end) (find (is_acting t) (reverse (filter (at_least range.end) (chain_at g range.end))))) (id_from t g range.start range.end) ≡ shown_in st range
  unfolding shown_in shown_frame
  ids_show range = grind (arith, nat_tests, in_by range, filter_none, from_by)
