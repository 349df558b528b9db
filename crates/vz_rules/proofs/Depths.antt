-- Where no path is deeper than 64 surfaces, a walk over more levels meets the same.
use Rattle.std.proofs.Common.{◌≡◌, ℕ, zero, suc, ◌+◌, ◌≤◌, Bool, true, false, ◌||◌, Option, Some, None, List, [], ◌∷◌, ◌++◌, length, refl, ap, sym, ◌∙◌, arith}
use Rattle.std.specs.Prelude.{nat_lt}
use Rattle.std.specs.List.{list_any, flat_map}
use Rattle.vz_geom.specs.declared.Size.{Size}
use Rattle.vz_geom.specs.Rectangle.{minus, corner}
use Rattle.vz_ids.specs.declared.SurfaceId.{SurfaceId}
use Rattle.vz_ids.specs.declared.SurfaceRange.{SurfaceRange}
use Rattle.vz_frame.specs.declared.frame.RenderPass.{RenderPass}
use Rattle.vz_frame.specs.declared.frame.DrawQuad.{DrawQuad}
use Rattle.vz_frame.specs.declared.frame.Material.{Material}
use Rattle.vz_frame.specs.declared.frame.Material.TheVariants.{Solid, Tile, Surface, Pass}
use Rattle.vz_frame.specs.Frame.{passes_down, names_pass}
use Rattle.vz_rules.specs.World.{FrameData, Scene, frame_on}
use Rattle.vz_rules.specs.Scene.{shown_frame}
use Rattle.vz_rules.specs.Paint.{on_path, levels}
use Rattle.vz_rules.specs.Walk.{Placement, Visit, Shows, Enters, WalkNamed, WalkRange, is_deep, place_in, quad_walked, pass_walked, groups_walked, root_walked, range_walked, walk, walk_of, whole, weight, too_much}
use Rattle.vz_rules.specs.Depth.{walk_over}
use Rattle.vz_rules.proofs.Facts.{or_true}
use Rattle.std.proofs.lemmas.Bool.{or_parts}
use Rattle.vz_rules.proofs.Levels.{Shallow, shallow_parts, not_deep}

flat_same : {A : Type 0} (f g : A → List Visit) (xs : List A) → ((x : A) → Shallow (f x) → f x ≡ g x) → Shallow (flat_map f xs) → flat_map f xs ≡ flat_map g xs
flat_same f g [] same h = refl
flat_same f g (x ∷ xs) same h =
    ap (λ ms. ms ++ flat_map f xs) (same x (shallow_parts.front (f x) (flat_map f xs) h)) ∙ ap (λ ms. g x ++ ms) (flat_same f g xs same (shallow_parts.back (f x) (flat_map f xs) h))

-- two walks that meet the same where the first does not go too deep
abbrev SameRange : WalkRange → WalkRange → Type 0
SameRange f g = (range : SurfaceRange) (place : Placement) → Shallow (f range place) → f range place ≡ g range place

abbrev SameNamed : WalkNamed → WalkNamed → Type 0
SameNamed f g = (id : ℕ) (place : Placement) → Shallow (f id place) → f id place ≡ g id place

module _ (f g : WalkRange) (same : SameRange f g) where
  quad_same : (a b : WalkNamed) → SameNamed a b → (pass : RenderPass) (place : Placement) (quad : DrawQuad) (m : Material) → quad.material ≡ m
      → Shallow (quad_walked a f pass place quad) → quad_walked a f pass place quad ≡ quad_walked b g pass place quad
  unfolding quad_walked
  quad_same a b named pass place quad (Solid c) e h = rw e refl
  quad_same a b named pass place quad (Tile id tx ty) e h = rw e refl
  quad_same a b named pass place quad (Surface range c) e h = rw e (ap (λ ms. Visit.Quad ∷ ms) (same range (place_in place pass quad) (rw e at h)))
  quad_same a b named pass place quad (Pass id) e h = rw e (ap (λ ms. Visit.Quad ∷ ms) (named id (place_in place pass quad) (rw e at h)))

  pass_same : (a b : WalkNamed) → SameNamed a b → (pass : RenderPass) (place : Placement) → Shallow (pass_walked a f pass place) → pass_walked a f pass place ≡ pass_walked b g pass place
  unfolding pass_walked
  pass_same a b named pass place h =
      flat_same (quad_walked a f pass place) (quad_walked b g pass place) pass.quads (λ quad. quad_same a b named pass place quad quad.material refl) h

  choose : (t : Bool) (ms ns os ps : List Visit) → (Shallow ms → ms ≡ os) → (Shallow ns → ns ≡ ps) → Shallow (elim t [ true ↦ ms | false ↦ ns ])
      → ◌≡◌ {A = List Visit} (elim t [ true ↦ ms | false ↦ ns ]) (elim t [ true ↦ os | false ↦ ps ])
  choose true ms ns os ps h k s = h s
  choose false ms ns os ps h k s = k s

  groups_same : (passes : List RenderPass) → SameNamed (groups_walked f passes) (groups_walked g passes)
  unfolding groups_walked
  groups_same [] id place h = refl
  groups_same (pass ∷ earlier) id place h =
      choose (names_pass id pass) _ _ _ _
      (pass_same (groups_walked f earlier) (groups_walked g earlier) (groups_same earlier) pass (record place { shift = minus place.shift (corner pass.output) }))
      (groups_same earlier id place) h

  root_same : (passes : List RenderPass) (place : Placement) → Shallow (root_walked f passes place) → root_walked f passes place ≡ root_walked g passes place
  unfolding root_walked
  root_same [] place h = refl
  root_same (root ∷ earlier) place h = pass_same (groups_walked f earlier) (groups_walked g earlier) (groups_same earlier) root place h

module _ (active : List FrameData) where
  -- n and m levels are enough behind a path, and meet the same
  abbrev SameLevels : ℕ → ℕ → Type 0
  SameLevels n m = (path : List SurfaceId) (i : FrameData) (place : Placement) → length path + 1 ≤ 64 → 65 ≤ n + length path → 65 ≤ m + length path
      → Shallow (walk n active path i place) → walk n active path i place ≡ walk m active path i place

  entered : (n m : ℕ) → SameLevels n m → (path : List SurfaceId) (i : FrameData) (place : Placement) → 65 ≤ n + length path → 65 ≤ m + length path → (t : Bool)
      → Shallow (elim t [ true ↦ [] | false ↦ Enters (length path + 1) i place ∷ walk n active path i place ])
      → ◌≡◌ {A = List Visit} (elim t [ true ↦ [] | false ↦ Enters (length path + 1) i place ∷ walk n active path i place ])
      (elim t [ true ↦ [] | false ↦ Enters (length path + 1) i place ∷ walk m active path i place ])
  entered n m same path i place en em true h = refl
  entered n m same path i place en em false h =
      ap (λ ms. Enters (length path + 1) i place ∷ ms)
      (same path i place (not_deep (length path + 1) ((or_parts (nat_lt 64 (length path + 1)) (list_any is_deep (walk n active path i place)) h).0)) en em
      ((or_parts (nat_lt 64 (length path + 1)) (list_any is_deep (walk n active path i place)) h).1))

  shown : (n m : ℕ) → SameLevels n m → (path : List SurfaceId) (place : Placement) → 65 ≤ n + length path → 65 ≤ m + length path → (s : Option FrameData)
      → Shallow (elim s [ None ↦ [] | Some i ↦ elim (on_path path i) [ true ↦ [] | false ↦ Enters (length path + 1) i place ∷ walk n active path i place ] ])
      → ◌≡◌ {A = List Visit} (elim s [ None ↦ [] | Some i ↦ elim (on_path path i) [ true ↦ [] | false ↦ Enters (length path + 1) i place ∷ walk n active path i place ] ])
      (elim s [ None ↦ [] | Some i ↦ elim (on_path path i) [ true ↦ [] | false ↦ Enters (length path + 1) i place ∷ walk m active path i place ] ])
  shown n m same path place en em None h = refl
  shown n m same path place en em (Some i) h = entered n m same path i place en em (on_path path i) h

  range_same : (n m : ℕ) → SameLevels n m → (path : List SurfaceId) → 65 ≤ n + length path → 65 ≤ m + length path
      → SameRange (range_walked (walk n active) active path) (range_walked (walk m active) active path)
  unfolding range_walked
  range_same n m same path en em range place h =
      ap (λ ms. Shows range (shown_frame active range) place.window ∷ ms) (shown n m same path place en em (shown_frame active range) h)

  levels_same : (n m : ℕ) → SameLevels n m
  unfolding walk
  levels_same zero m path i place short en em h = absurd (omega arith)
  levels_same (suc n) zero path i place short en em h = absurd (omega arith)
  levels_same (suc n) (suc m) path i place short en em h =
      root_same (range_walked (walk n active) active (i.id ∷ path)) (range_walked (walk m active) active (i.id ∷ path))
      (range_same n m (levels_same n m) (i.id ∷ path) (omega arith) (omega arith)) (passes_down i.frame) place h

root_by : (n m : ℕ) → 65 ≤ n → 65 ≤ m → (size : Size) (active : List FrameData) (s : Option FrameData)
    → Shallow (elim s [ None ↦ [] | Some i ↦ Enters 1 i (whole size) ∷ walk n active [] i (whole size) ])
    → ◌≡◌ {A = List Visit} (elim s [ None ↦ [] | Some i ↦ Enters 1 i (whole size) ∷ walk n active [] i (whole size) ])
    (elim s [ None ↦ [] | Some i ↦ Enters 1 i (whole size) ∷ walk m active [] i (whole size) ])
root_by n m en em size active None h = refl
root_by n m en em size active (Some i) h =
    ap (λ ms. Enters 1 i (whole size) ∷ ms) (levels_same active n m [] i (whole size) (omega arith) (omega arith) (omega arith) h)

over_same : (n m : ℕ) → 65 ≤ n → 65 ≤ m → (size : Size) (scene : Scene) → Shallow (walk_over n size scene) → walk_over n size scene ≡ walk_over m size scene
unfolding walk_over
over_same n m en em size scene h = root_by n m en em size scene.active (frame_on scene.root scene.active) h

of_over : (size : Size) (scene : Scene) → walk_of size scene ≡ walk_over 65 size scene
unfolding walk_of walk_over levels
of_over size scene = refl

-- where a drawing is not too much, more levels meet the same
pub walks_same : (size : Size) (scene : Scene) (n : ℕ) → 65 ≤ n → too_much (walk_of size scene) ≡ false → walk_over n size scene ≡ walk_of size scene
unfolding too_much
walks_same size scene n many h =
    let shallow : Shallow (walk_over 65 size scene) = ap (list_any is_deep) (sym (of_over size scene)) ∙ (or_parts (nat_lt 65536 (weight (walk_of size scene))) _ h).1 in
    sym (over_same 65 n (omega arith) many size scene shallow) ∙ sym (of_over size scene)

limit_by : (ms ns : List Visit) → (Shallow ms → ms ≡ ns) → (Shallow ns → ns ≡ ms) → (a b : Bool) → list_any is_deep ms ≡ a → list_any is_deep ns ≡ b → too_much ms ≡ too_much ns
unfolding too_much
limit_by ms ns h k false b e d = ap too_much (h e)
limit_by ms ns h k true false e d = ap too_much (sym (k d))
limit_by ms ns h k true true e d =
    ap (λ t. nat_lt 65536 (weight ms) || t) e ∙ (or_true (nat_lt 65536 (weight ms)) ∙ (sym (or_true (nat_lt 65536 (weight ns))) ∙ ap (λ t. nat_lt 65536 (weight ns) || t) (sym d)))

-- a drawing is too much over more levels where it is over 65
pub limits_same : (size : Size) (scene : Scene) (n : ℕ) → 65 ≤ n → too_much (walk_over n size scene) ≡ too_much (walk_of size scene)
limits_same size scene n many =
    limit_by (walk_over n size scene) (walk_over 65 size scene) (over_same n 65 many (omega arith) size scene) (over_same 65 n (omega arith) many size scene) _ _ refl refl
    ∙ ap too_much (sym (of_over size scene))
