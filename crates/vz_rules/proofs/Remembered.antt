-- What an aggregation remembers of its scene: the number of each frame, and what each range showed.
use Rattle.std.proofs.Common.{◌≡◌, ℕ, zero, suc, ◌+◌, Bool, true, false, Option, Some, None, List, [], ◌∷◌, ◌++◌, map, filter, find, length, refl, ap, sym, ◌∙◌, cond, subst, Contains}
use Rattle.std.specs.Prelude.{is_some}
use Rattle.std.specs.Option.{option_map}
use Rattle.std.specs.List.{AllByRecursion, list_any, filter_map, cons_option, flat_map}
use Rattle.std.proofs.lemmas.Bool.{not-false}
use Rattle.std.proofs.lemmas.List.Elements.{All-from_recursion, All-contains}
use Rattle.vz_geom.specs.declared.Size.{Size}
use Rattle.vz_ids.specs.declared.SurfaceId.{SurfaceId}
use Rattle.vz_ids.specs.declared.SurfaceRange.{SurfaceRange}
use Rattle.vz_ids.specs.Ids.{same_surface, same_range, newer}
use Rattle.vz_frame.specs.declared.frame.RenderPass.{RenderPass}
use Rattle.vz_frame.specs.declared.frame.DrawQuad.{DrawQuad}
use Rattle.vz_frame.specs.declared.frame.Material.{Material}
use Rattle.vz_frame.specs.declared.frame.Material.TheVariants.{Solid, Tile, Surface, Pass}
use Rattle.vz_frame.specs.Frame.{passes_down, names_pass}
use Rattle.vz_rules.specs.World.{FrameData, Scene, frame_on}
use Rattle.vz_rules.specs.Closure.{adding}
use Rattle.vz_rules.specs.Scene.{shown_frame, newest, newer_frame, in_range, after_start, or_else, id_of_frame}
use Rattle.vz_rules.specs.Paint.{on_path, levels}
use Rattle.vz_rules.specs.Walk.{Placement, Visit, Quad, Shows, Enters, WalkNamed, WalkRange, quad_walked, pass_walked, groups_walked, root_walked, range_walked, walk, whole, walk_of, place_in}
use Rattle.vz_rules.specs.Damage.{shown_range, of_same_range, aggregation_of, index_in, shows_other, is_switched}
use Rattle.vz_rules.proofs.Members.{contains_here, contains_there, find_at, found, any_from, filter_at}
use Rattle.vz_rules.proofs.Reached.{from_same, self_same}
use Rattle.vz_rules.proofs.Misses.{range_is}

-- Each element of a list

abbrev pub Each : {A : Type 0} → (A → Type 0) → List A → Type 0
Each P xs = AllByRecursion P xs

each_append : {A : Type 0} (P : A → Type 0) (xs ys : List A) → Each P xs → Each P ys → Each P (xs ++ ys)
each_append P [] ys h k = k
each_append P (x ∷ xs) ys h k = (h.0, each_append P xs ys h.1 k)

each_flat : {A B : Type 0} (P : B → Type 0) (f : A → List B) (xs : List A) → ((x : A) → Each P (f x)) → Each P (flat_map f xs)
each_flat P f [] h = tt
each_flat P f (x ∷ xs) h = each_append P (f x) (flat_map f xs) (h x) (each_flat P f xs h)

each_choice : {A : Type 0} (P : A → Type 0) (t : Bool) (xs ys : List A) → Each P xs → Each P ys → Each P (elim t [ true ↦ xs | false ↦ ys ])
each_choice P true xs ys h k = h
each_choice P false xs ys h k = k

each_option : {B : Type 0} (Q : B → Type 0) (o : Option B) (ys : List B) → ((y : B) → o ≡ Some y → Q y) → Each Q ys → Each Q (cons_option o ys)
each_option Q None ys h k = k
each_option Q (Some y) ys h k = (h y refl, k)

each_mapped : {A B : Type 0} (P : A → Type 0) (Q : B → Type 0) (h : A → Option B) → ((x : A) (y : B) → P x → h x ≡ Some y → Q y) → (xs : List A) → Each P xs
    → Each Q (filter_map h xs)
each_mapped P Q h follows [] each = tt
each_mapped P Q h follows (x ∷ xs) each = each_option Q (h x) (filter_map h xs) (λ y e. follows x y each.0 e) (each_mapped P Q h follows xs each.1)

each_cond : {A : Type 0} (P : A → Type 0) (t : Bool) (xs ys : List A) → Each P xs → Each P ys → Each P (cond t xs ys)
each_cond P true xs ys h k = h
each_cond P false xs ys h k = k

each_adding : {A : Type 0} (Q : A → Type 0) (same : A → A → Bool) (xs ys : List A) → Each Q xs → Each Q ys → Each Q (adding same xs ys)
each_adding Q same xs [] h k = h
each_adding Q same xs (y ∷ ys) h k =
    each_adding Q same (cond (list_any (same y) xs) xs (xs ++ y ∷ [])) ys
    (each_cond Q (list_any (same y) xs) xs (xs ++ y ∷ []) h (each_append Q xs (y ∷ []) h (k.0, tt))) k.1

each_at : {A : Type 0} (P : A → Type 0) (xs : List A) (x : A) → Each P xs → Contains xs x → P x
each_at P xs x h c = All-contains P xs x (All-from_recursion P xs h) c

-- What a walk meets

-- what a range shows is what it shows of these frames
abbrev pub IsNow : List FrameData → Visit → Type 0
IsNow active (Shows range now seen) = now ≡ shown_frame active range
IsNow active Quad = Unit {0}
IsNow active (Enters depth i place) = Unit {0}

module _ (active : List FrameData) (walks : WalkRange) (ranges : (range : SurfaceRange) (place : Placement) → Each (IsNow active) (walks range place)) where
  quad_now : (named : WalkNamed) → ((id : ℕ) (place : Placement) → Each (IsNow active) (named id place))
      → (pass : RenderPass) (place : Placement) (quad : DrawQuad) (m : Material) → quad.material ≡ m
      → Each (IsNow active) (quad_walked named walks pass place quad)
  unfolding quad_walked
  quad_now named h pass place quad (Solid c) e = rw e (tt, tt)
  quad_now named h pass place quad (Tile id tx ty) e = rw e (tt, tt)
  quad_now named h pass place quad (Surface range b) e = rw e (tt, ranges range (place_in place pass quad))
  quad_now named h pass place quad (Pass id) e = rw e (tt, h id (place_in place pass quad))

  pass_now : (named : WalkNamed) → ((id : ℕ) (place : Placement) → Each (IsNow active) (named id place)) → (pass : RenderPass) (place : Placement)
      → Each (IsNow active) (pass_walked named walks pass place)
  unfolding pass_walked
  pass_now named h pass place = each_flat (IsNow active) (quad_walked named walks pass place) pass.quads (λ quad. quad_now named h pass place quad quad.material refl)

  groups_now : (passes : List RenderPass) (id : ℕ) (place : Placement) → Each (IsNow active) (groups_walked walks passes id place)
  unfolding groups_walked
  groups_now [] id place = tt
  groups_now (pass ∷ earlier) id place =
      each_choice (IsNow active) (names_pass id pass) _ _ (pass_now (groups_walked walks earlier) (groups_now earlier) pass _) (groups_now earlier id place)

  root_now : (passes : List RenderPass) (place : Placement) → Each (IsNow active) (root_walked walks passes place)
  unfolding root_walked
  root_now [] place = tt
  root_now (root ∷ earlier) place = pass_now (groups_walked walks earlier) (groups_now earlier) root place

into_now : (active : List FrameData) (path : List SurfaceId) (place : Placement) (surface : FrameData → List Visit) → ((i : FrameData) → Each (IsNow active) (surface i)) → (o : Option FrameData)
    → Each (IsNow active) (elim o [ None ↦ [] | Some i ↦ elim (on_path path i) [ true ↦ [] | false ↦ Enters (length path + 1) i place ∷ surface i ] ])
into_now active path place surface h None = tt
into_now active path place surface h (Some i) =
    each_choice (IsNow active) (on_path path i) [] (Enters (length path + 1) i place ∷ surface i) tt (tt, h i)

walk_now : (n : ℕ) (active : List FrameData) (path : List SurfaceId) (i : FrameData) (place : Placement) → Each (IsNow active) (walk n active path i place)
unfolding walk range_walked
walk_now zero active path i place = tt
walk_now (suc n) active path i place =
    root_now active (range_walked (walk n active) active (i.id ∷ path))
    (λ range at. (refl, into_now active (i.id ∷ path) at (λ j. walk n active (i.id ∷ path) j at) (λ j. walk_now n active (i.id ∷ path) j at) (shown_frame active range)))
    (passes_down i.frame) place

whole_now : (n : ℕ) (size : Size) (active : List FrameData) (o : Option FrameData)
    → Each (IsNow active) (elim o [ None ↦ [] | Some i ↦ Enters 1 i (whole size) ∷ walk n active [] i (whole size) ])
whole_now n size active None = tt
whole_now n size active (Some i) = (tt, walk_now n active [] i (whole size))

-- each range that a walk meets shows what it shows of the scene's frames
pub shows_are : (size : Size) (scene : Scene) → Each (IsNow scene.active) (walk_of size scene)
unfolding walk_of
shows_are size scene = whole_now levels size scene.active (frame_on scene.root scene.active)

-- What is remembered

abbrev Recalled : List FrameData → SurfaceRange × Option SurfaceId → Type 0
Recalled active x = x.1 ≡ id_of_frame (shown_frame active x.0)

recalled_by : (active : List FrameData) (m : Visit) (x : SurfaceRange × Option SurfaceId) → IsNow active m → shown_range m ≡ Some x → Recalled active x
recalled_by active Quad x h e = absurd (cc)
recalled_by active (Enters depth i place) x h e = absurd (cc)
recalled_by active (Shows range None seen) x h e =
    let s : ◌≡◌ {A = SurfaceRange × Option SurfaceId} (range, None) x = cc in
    subst (Recalled active) s (ap id_of_frame h)
recalled_by active (Shows range (Some i) seen) x h e =
    let s : ◌≡◌ {A = SurfaceRange × Option SurfaceId} (range, Some i.id) x = cc in
    subst (Recalled active) s (ap id_of_frame h)

-- a range is remembered with the surface that it showed
range_recalled : (size : Size) (scene : Scene) → Each (Recalled scene.active) (aggregation_of scene (walk_of size scene)).ranges
unfolding aggregation_of
range_recalled size scene =
    each_adding (Recalled scene.active) of_same_range [] (filter_map shown_range (walk_of size scene)) tt
    (each_mapped (IsNow scene.active) (Recalled scene.active) shown_range (recalled_by scene.active) (walk_of size scene) (shows_are size scene))

find_mapped : (id : SurfaceId) (active : List FrameData)
    → find (λ (x : SurfaceId × ℕ). same_surface x.0 id) (map (λ (i : FrameData). (i.id, i.index)) active) ≡ option_map (λ (i : FrameData). (i.id, i.index)) (frame_on id active)
find_mapped id [] = refl
find_mapped id (i ∷ is) =
    elim (same_surface i.id id) as (λ (t : Bool). ◌≡◌ {A = Option (SurfaceId × ℕ)}
    (cond t (Some (i.id, i.index)) (find (λ (x : SurfaceId × ℕ). same_surface x.0 id) (map (λ (j : FrameData). (j.id, j.index)) is)))
    (option_map (λ (j : FrameData). (j.id, j.index)) (cond t (Some i) (frame_on id is)))) [ true ↦ refl | false ↦ find_mapped id is ]

-- the number of a frame that was active is remembered
pub index_is : (scene : Scene) (visits : List Visit) (i j : FrameData) → frame_on j.id scene.active ≡ Some i → index_in (aggregation_of scene visits) j ≡ i.index
unfolding aggregation_of
index_is scene visits i j on =
    ap (λ (o : Option (SurfaceId × ℕ)). elim o [ Some x ↦ x.1 | None ↦ 0 ]) (find_mapped j.id scene.active ∙ ap (option_map (λ (k : FrameData). (k.id, k.index))) on)

-- Frames

-- no two frames are on one surface
abbrev pub AreAlone : List FrameData → Type 0
AreAlone active = (i j : FrameData) → Contains active i → Contains active j → same_surface i.id j.id ≡ true → i ≡ j

newest_by : (x i : FrameData) (xs : List FrameData) (o : Option FrameData) → ((j : FrameData) → o ≡ Some j → Contains xs j) → newer_frame x o ≡ Some i → Contains (x ∷ xs) i
newest_by x i xs None h e = let s : x ≡ i = cc in subst (Contains (x ∷ xs)) s (contains_here x xs)
newest_by x i xs (Some j) h e =
    elim (newer j.id.local x.id.local) as (λ (t : Bool). cond t (Some j) (Some x) ≡ Some i → Contains (x ∷ xs) i) [
      | true ↦ λ k. let s : j ≡ i = cc in subst (Contains (x ∷ xs)) s (contains_there x j xs (h j refl))
      | false ↦ λ k. let s : x ≡ i = cc in subst (Contains (x ∷ xs)) s (contains_here x xs)
    ] e

newest_in : (xs : List FrameData) (i : FrameData) → newest xs ≡ Some i → Contains xs i
newest_in [] i h = absurd (cc)
newest_in (x ∷ xs) i h = newest_by x i xs (newest xs) (newest_in xs) h

shown_by : (active : List FrameData) (p q : FrameData → Bool) (o : Option FrameData) (i : FrameData) → newest (filter p active) ≡ o → or_else o (newest (filter q active)) ≡ Some i
    → Contains active i
shown_by active p q None i h e = (filter_at q active i (newest_in (filter q active) i e)).0
shown_by active p q (Some j) i h e = let s : j ≡ i = cc in (filter_at p active i (newest_in (filter p active) i (h ∙ ap Some s))).0

pub shown_in : (active : List FrameData) (range : SurfaceRange) (i : FrameData) → shown_frame active range ≡ Some i → Contains active i
unfolding shown_frame
shown_in active range i h = shown_by active (in_range range) (after_start range.start range.end) (newest (filter (in_range range) active)) i refl h

pub alone_on : (active : List FrameData) (i : FrameData) → AreAlone active → Contains active i → frame_on i.id active ≡ Some i
alone_on active i alone c =
    elim (frame_on i.id active) as (λ (o : Option FrameData). frame_on i.id active ≡ o → is_some o ≡ true → o ≡ Some i) [
      | None ↦ λ e h. absurd (cc)
      | Some k ↦ λ e h. let at = find_at (λ j. same_surface j.id i.id) active k e in ap Some (alone k i at.0 c at.1)
    ] refl (found (λ j. same_surface j.id i.id) active ∙ any_from (λ j. same_surface j.id i.id) active i c (self_same i.id))

-- Ranges that show what they showed

-- a range that is not switched was met, and showed a surface, which it shows now
same_shown : (was : Option SurfaceId) (now : Option FrameData) → shows_other was now ≡ false → (j : FrameData) × (now ≡ Some j) × (was ≡ Some j.id)
same_shown None now h = absurd (cc)
same_shown (Some id) None h = absurd (cc)
same_shown (Some id) (Some j) h = (j, refl, ap Some (from_same id j.id (not-false _ h)))

shown_id : (o : Option FrameData) (id : SurfaceId) → Some id ≡ id_of_frame o → (i : FrameData) × (o ≡ Some i) × (i.id ≡ id)
shown_id None id h = absurd (cc)
shown_id (Some i) id h = (i, refl, sym (let s : id ≡ i.id = cc in s))

was_met : (o : Option (SurfaceRange × Option SurfaceId)) (now : Option FrameData) → ◌≡◌ {A = Bool} (elim o [ Some x ↦ shows_other x.1 now | None ↦ true ]) false
    → (x : SurfaceRange × Option SurfaceId) × (o ≡ Some x) × (shows_other x.1 now ≡ false)
was_met None now h = absurd (cc)
was_met (Some x) now h = (x, refl, h)

pub not_switched_shows : (size : Size) (scene : Scene) (range : SurfaceRange) (now : Option FrameData) → is_switched (aggregation_of scene (walk_of size scene)) range now ≡ false
    → (i : FrameData) × (j : FrameData) × (now ≡ Some j) × (shown_frame scene.active range ≡ Some i) × (i.id ≡ j.id)
not_switched_shows size scene range now h =
    let ranges = (aggregation_of scene (walk_of size scene)).ranges in
    let met = was_met (find (λ x. same_range x.0 range) ranges) now h in
    let at = find_at (λ (x : SurfaceRange × Option SurfaceId). same_range x.0 range) ranges met.0 met.1 in
    let same = same_shown met.0.1 now met.2 in
    let was : met.0.1 ≡ id_of_frame (shown_frame scene.active range) =
    each_at (Recalled scene.active) ranges met.0 (range_recalled size scene) at.0 ∙ ap (λ r. id_of_frame (shown_frame scene.active r)) (range_is met.0.0 range at.1) in
    let shown = shown_id (shown_frame scene.active range) same.0.id (sym same.2 ∙ was) in
    (shown.0, same.0, same.1, shown.1, shown.2)
