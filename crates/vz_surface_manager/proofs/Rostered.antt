-- What a walk meets is what it draws, in another order.
use Rattle.std.proofs.Common.{◌≡◌, Bool, true, Some, List, [], ◌∷◌, ◌++◌, refl, ap, sym, ◌∙◌, subst, arith}
use Rattle.std.proofs.Common.{inl, inr, Contains, map, filter}
use Rattle.std.proofs.{lemmas.List.append-nil, lemmas.List.Elements.filter_map-append, lemmas.Bool.Decides.nat_tests, lemmas.Grind.common_steps}
use Rattle.std.specs.List.{list_any, filter_map}
use Rattle.vz_geom.specs.declared.Size.{Size}
use Rattle.vz_ids.specs.{declared.SurfaceId.SurfaceId, declared.Sub.Sub, Ids.same_sub}
use Rattle.vz_rules.specs.{Closure.adding, Kept.stands_in}
use Rattle.vz_rules.specs.World.{FrameData, Scene, Submission, active_frames, has_sub, is_active, sub_of}
use Rattle.vz_rules.specs.Walk.{Visit, Quad, Shows, Enters, goes_into, walked_subs}
use Rattle.vz_rules.proofs.Members.{contains_none, contains_cases, contains_map, map_contains, contains_at, at_same, any_at, any_from}
use Rattle.vz_rules.proofs.Members.{filter_at, filter_has, filter_map_at, filter_map_has, same_tests}
use Rattle.vz_rules.proofs.{Kept_accepted.subs_differ, Kept_rounds.self_sub as own_sub}
use Rattle.vz_surfaces.specs.{Stored.Stored, Reading.seen_frames, Keeping.KeepsStored}
use Rattle.vz_walk.specs.{Meeting.Meets, Scenes.scene_in, Scenes.walked_in}
use Rattle.vz_damage.proofs.Entering.{Each, GoesTo, goes_to_active}
use Rattle.vz_surface_manager.specs.Flown.{Flown, subs_of}
use Rattle.vz_surface_manager.specs.Rosters.{flown_as, flown_in, flown_from, flown_at, same_flown, met_in, IsRosterOf}
use Rattle.vz_surface_manager.proofs.Counted.{Apart, seen_apart, drawn_once, as_many}
use Rattle.vz_surface_manager.proofs.Gathered.{adding_from, adding_has, adding_once, once_before, once_behind}

-- what holds of each visit holds of one of them
each_at : (P : Visit → Type 0) (xs : List Visit) (x : Visit) → Each P xs → Contains xs x → P x
each_at P [] x h c = absurd (contains_none x c)
each_at P (y ∷ xs) x h c = elim (contains_cases y x xs c) [ inl e ↦ subst P e h.0 | inr m ↦ each_at P xs x h.1 m ]

-- Names

-- the names of what is drawn are those of the definitions
pub drawn_names : (scene : Scene) (visits : List Visit) → subs_of (flown_in scene.active visits) ≡ walked_subs scene visits
unfolding flown_in walked_subs
drawn_names scene visits = twice (filter (λ (i : FrameData). list_any (goes_into i) visits) scene.active)
  where
    twice : (is : List FrameData) → map (λ (f : Flown). f.0) (map flown_as is) ≡ map (λ (i : FrameData). i.sub) is
    twice [] = refl
    twice (i ∷ is) = ap (λ (l : List Sub). i.sub ∷ l) (twice is)

-- lists with the same members have the same names
has_more : (xs ys : List Flown) → ((f : Flown) → Contains xs f → Contains ys f) → (sub : Sub) → has_sub (subs_of xs) sub ≡ true
    → has_sub (subs_of ys) sub ≡ true
has_more xs ys all sub e =
    let m = any_at (same_sub sub) (subs_of xs) e in
    let f = contains_map (λ (g : Flown). g.0) xs m.0 m.1 in
    any_from (same_sub sub) (subs_of ys) f.0.0 (map_contains (λ (g : Flown). g.0) ys f.0 (all f.0 f.1)) (ap (same_sub sub) f.2 ∙ m.2)

-- A walk into frames of which no two have one name

module _ (active : List FrameData) (visits : List Visit) (goes : Each (GoesTo active) visits) (alone : (i j : FrameData)
    → Contains active i → Contains active j → same_sub i.sub j.sub ≡ true → i ≡ j) (apart : Apart (λ (i : FrameData). i.sub) active) where
  -- one that is met is of a frame that is drawn
  drawn_by : (x : Visit) (f : Flown) → Contains visits x → GoesTo active x → flown_at x ≡ Some f → Contains (flown_in active visits) f
  unfolding flown_in
  drawn_by Quad f c h e = absurd (cc)
  drawn_by (Shows range now seen) f c h e = absurd (cc)
  drawn_by (Enters depth i place) f c h e =
      let is : flown_as i ≡ f = cc in
      subst (λ x. Contains (map flown_as (filter (λ (j : FrameData). list_any (goes_into j) visits) active)) x) is
      (map_contains flown_as (filter (λ (j : FrameData). list_any (goes_into j) visits) active) i
      (filter_has (λ (j : FrameData). list_any (goes_into j) visits) active i h
      (any_from (goes_into i) visits (Enters depth i place) c (own_sub i.sub))))

  met_is_drawn : (f : Flown) → Contains (filter_map flown_at visits) f → Contains (flown_in active visits) f
  met_is_drawn f c = grind (arith, nat_tests, common_steps, filter_map_at flown_at visits f c, drawn_by)

  met_by : (i : FrameData) (x : Visit) → Contains active i → Contains visits x → GoesTo active x → goes_into i x ≡ true
      → flown_at x ≡ Some (flown_as i)
  met_by i x a c h e = grind (arith, nat_tests)

  -- and one that is drawn is met
  drawn_is_met : (f : Flown) → Contains (flown_in active visits) f → Contains (filter_map flown_at visits) f
  unfolding flown_in
  drawn_is_met f c =
      let m = contains_map flown_as (filter (λ (j : FrameData). list_any (goes_into j) visits) active) f c in
      let a = filter_at (λ (j : FrameData). list_any (goes_into j) visits) active m.0 m.1 in
      let v = any_at (goes_into m.0) visits a.1 in
      filter_map_has flown_at visits v.0 f v.1
      (met_by m.0 v.0 a.0 v.1 (each_at (GoesTo active) visits v.0 goes v.1) v.2 ∙ ap (λ x. Some x) m.2)

  flown_alone : (f g : Flown) → Contains (flown_in active visits) f → Contains (flown_in active visits) g → same_flown f g ≡ true → f ≡ g
  unfolding flown_in
  flown_alone f g c d e =
      let m = contains_map flown_as (filter (λ (j : FrameData). list_any (goes_into j) visits) active) f c in
      let n = contains_map flown_as (filter (λ (j : FrameData). list_any (goes_into j) visits) active) g d in
      let a = filter_at (λ (j : FrameData). list_any (goes_into j) visits) active m.0 m.1 in
      let b = filter_at (λ (j : FrameData). list_any (goes_into j) visits) active n.0 n.1 in
      sym m.2 ∙ (ap flown_as (alone m.0 n.0 a.0 b.0
      (ap (λ (x : Flown). same_sub x.0 n.0.sub) m.2 ∙ (ap (λ (x : Flown). same_sub f.0 x.0) n.2 ∙ e))) ∙ n.2)

  all_met : (f : Flown) → Contains (flown_in active visits) f → Contains (met_in visits) f
  unfolding met_in
  all_met f c =
      adding_has (λ g. Contains (flown_in active visits) g) flown_alone [] (filter_map flown_at visits) f
      (λ g k. absurd (contains_none g k)) met_is_drawn (drawn_is_met f c)

  only_met : (f : Flown) → Contains (met_in visits) f → Contains (flown_in active visits) f
  unfolding met_in
  only_met f c =
      elim (adding_from [] (filter_map flown_at visits) f c) [ inl k ↦ absurd (contains_none f k) | inr k ↦ met_is_drawn f k ]

  pub met_is_roster : IsRosterOf (flown_in active visits) (met_in visits)
  unfolding met_in
  met_is_roster =
      record {
        all = all_met;
        only = only_met;
        many = as_many (λ f. own_sub f.0) (met_in visits) (flown_in active visits) (adding_once [] (filter_map flown_at visits) tt)
            (drawn_once active visits apart) only_met all_met;
        names = λ sub. same_tests (has_sub (subs_of (met_in visits)) sub) (has_sub (subs_of (flown_in active visits)) sub)
            (has_more (met_in visits) (flown_in active visits) only_met sub)
            (has_more (flown_in active visits) (met_in visits) all_met sub);
        before = once_before (met_in visits) (adding_once [] (filter_map flown_at visits) tt);
        behind = once_behind (met_in visits) (adding_once [] (filter_map flown_at visits) tt);
      }

-- Frames of a store

-- one that is seen is that of a submission
seen_sub : (st : Stored) (i : FrameData) → Contains (seen_frames st) i → (s : Submission) × Contains st.subs s × (s.submitted ≡ i)
seen_sub st i c =
    let a = filter_at (λ (j : FrameData). stands_in st.surfaces j.id) (active_frames st.subs) i c in
    let m = contains_map (λ (s : Submission). s.submitted) (filter is_active st.subs) i a.0 in
    (m.0, (filter_at is_active st.subs m.0 m.1).0, m.2)

-- and no two have one name
seen_alone : (st : Stored) → KeepsStored st → (i j : FrameData) → Contains (seen_frames st) i → Contains (seen_frames st) j
    → same_sub i.sub j.sub ≡ true → i ≡ j
seen_alone st keeps i j c d e =
    let s = seen_sub st i c in
    let t = seen_sub st j d in
    let n = contains_at st.subs s.0 s.1 in
    let m = contains_at st.subs t.0 t.1 in
    let same : same_sub (sub_of s.0) (sub_of t.0) ≡ true = ap (λ (k : FrameData). same_sub k.sub t.0.submitted.sub) s.2
    ∙ (ap (λ (k : FrameData). same_sub i.sub k.sub) t.2 ∙ e) in
    let one : s.0 ≡ t.0 = at_same st.subs n.0 m.0 s.0 t.0 n.1 m.1
    (subs_differ st.surfaces st.subs keeps.numbers n.0 m.0 s.0 t.0 n.1 m.1 same) in
    sym s.2 ∙ (ap (λ (x : Submission). x.submitted) one ∙ t.2)

-- what a walk over a store meets is what it draws
pub walk_is_roster : (size : Size) (root : SurfaceId) (st : Stored) → KeepsStored st
    → IsRosterOf (flown_from size root st) (met_in (walked_in size root st))
walk_is_roster size root st keeps =
    met_is_roster (seen_frames st) (walked_in size root st) (goes_to_active size (scene_in root st)) (seen_alone st keeps)
    (seen_apart st keeps)

-- The visitor

adding_more : (xs ys zs : List Flown) → adding same_flown xs (ys ++ zs) ≡ adding same_flown (adding same_flown xs ys) zs
adding_more xs [] zs = refl
adding_more xs (y ∷ ys) zs = adding_more (adding same_flown xs (y ∷ [])) ys zs

met_more : (before : List Visit) (x : Visit) → adding same_flown (met_in before) (filter_map flown_at (x ∷ [])) ≡ met_in (before ++ x ∷ [])
unfolding met_in
met_more before x = grind (arith, nat_tests, adding_more [] (filter_map flown_at before) (filter_map flown_at (x ∷ [])), filter_map-append flown_at before (x ∷ []))

-- nothing is met at first
pub nothing_met : met_in [] ≡ []
unfolding met_in
nothing_met = refl

module _ {V : Type 0} (roster : V → List Flown) where
  abbrev Has : V → V → List Visit → Type 0
  Has first v visits = roster v ≡ met_in visits

  abbrev Stops : V → List Visit → Type 0
  Stops v visits = Unit {0}

  -- one visit is met where the walk goes on
  pub meets_one : (r : Bool) (old new : V) (x : Visit)
      → (r ≡ true → roster new ≡ adding same_flown (roster old) (filter_map flown_at (x ∷ []))) → Meets Has Stops r old new (x ∷ [])
  meets_one r old new x step = grind (arith, nat_tests, met_more, append-nil)
