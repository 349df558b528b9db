-- What is met does not depend on the size of the display, but for places.
use Rattle.std.proofs.Common.{◌≡◌, ℕ, zero, suc, pos, ◌+◌, Bool, true, false, ◌||◌, Option, Some, None, List, [], ◌∷◌, ◌++◌, map, nat_lt}
use Rattle.std.proofs.Common.{count_by, length, refl, sym, ap, ◌∙◌}
use Rattle.std.specs.List.{flat_map, list_any}
use Rattle.std.proofs.lemmas.List.{map-append}
use Rattle.vz_geom.specs.declared.Size.{Size}
use Rattle.vz_geom.specs.Rectangle.{no_rectangle, minus, corner}
use Rattle.vz_ids.specs.declared.SurfaceId.{SurfaceId}
use Rattle.vz_ids.specs.declared.SurfaceRange.{SurfaceRange}
use Rattle.vz_frame.specs.declared.frame.RenderPass.{RenderPass}
use Rattle.vz_frame.specs.declared.frame.DrawQuad.{DrawQuad}
use Rattle.vz_frame.specs.declared.frame.Material.{Material}
use Rattle.vz_frame.specs.declared.frame.Material.TheVariants.{Solid, Tile, Surface, Pass}
use Rattle.vz_frame.specs.Frame.{passes_down, names_pass}
use Rattle.vz_rules.specs.World.{FrameData, Scene, frame_on}
use Rattle.vz_rules.specs.Scene.{shown_frame}
use Rattle.vz_rules.specs.Paint.{on_path, levels}
use Rattle.vz_rules.proofs.Counts.{count_cons}
use Rattle.vz_rules.specs.Walk.{Placement, Visit, Quad, Shows, Enters, WalkNamed, WalkRange, WalkSurface, place_in, quad_walked}
use Rattle.vz_rules.specs.Walk.{pass_walked, groups_walked, root_walked, range_walked, walk, walk_of, whole, weight, is_quad, is_deep}
use Rattle.vz_rules.specs.Walk.{too_much}

nowhere : Placement
nowhere = record { shift = record { x = pos 0; y = pos 0 }; window = no_rectangle }

-- a visit without its place
unfoldable bare : Visit → Visit
bare Quad = Quad
bare (Shows range o seen) = Shows range o no_rectangle
bare (Enters depth i place) = Enters depth i nowhere

-- the same is met but for places
abbrev Alike : List Visit → List Visit → Type 0
Alike xs ys = map bare xs ≡ map bare ys

-- Counts

weight_bare : (xs : List Visit) → count_by is_quad (map bare xs) ≡ count_by is_quad xs
unfolding bare
weight_bare [] = refl
weight_bare (Quad ∷ xs) = count_cons is_quad Quad (map bare xs) ∙ (ap (λ n. 1 + n) (weight_bare xs) ∙ sym (count_cons is_quad Quad xs))
weight_bare (Shows range o seen ∷ xs) =
    count_cons is_quad (Shows range o no_rectangle) (map bare xs) ∙ (ap (λ n. 0 + n) (weight_bare xs)
    ∙ sym (count_cons is_quad (Shows range o seen) xs))
weight_bare (Enters depth i place ∷ xs) =
    count_cons is_quad (Enters depth i nowhere) (map bare xs) ∙ (ap (λ n. 0 + n) (weight_bare xs)
    ∙ sym (count_cons is_quad (Enters depth i place) xs))

deep_bare : (xs : List Visit) → list_any is_deep (map bare xs) ≡ list_any is_deep xs
unfolding bare
deep_bare [] = refl
deep_bare (Quad ∷ xs) = deep_bare xs
deep_bare (Shows range o seen ∷ xs) = deep_bare xs
deep_bare (Enters depth i place ∷ xs) = ap (λ t. nat_lt 64 depth || t) (deep_bare xs)

weight_alike : (xs ys : List Visit) → Alike xs ys → weight xs ≡ weight ys
unfolding weight
weight_alike xs ys e = sym (weight_bare xs) ∙ (ap (count_by is_quad) e ∙ weight_bare ys)

much_alike : (xs ys : List Visit) → Alike xs ys → too_much xs ≡ too_much ys
unfolding too_much
much_alike xs ys e =
    ap (λ n. nat_lt 65536 n || list_any is_deep xs) (weight_alike xs ys e)
    ∙ ap (λ t. nat_lt 65536 (weight ys) || t) (sym (deep_bare xs) ∙ (ap (list_any is_deep) e ∙ deep_bare ys))

-- Walks

abbrev NamedAlike : WalkNamed → Type 0
NamedAlike named = (id : ℕ) (p q : Placement) → Alike (named id p) (named id q)

abbrev RangesAlike : WalkRange → Type 0
RangesAlike ranges = (range : SurfaceRange) (p q : Placement) → Alike (ranges range p) (ranges range q)

abbrev SurfacesAlike : WalkSurface → Type 0
SurfacesAlike surface = (path : List SurfaceId) (i : FrameData) (p q : Placement) → Alike (surface path i p) (surface path i q)

abbrev inner : WalkNamed → WalkRange → RenderPass → DrawQuad → Placement → Material → List Visit
inner named ranges pass quad place m =
    elim m [
      | Pass id ↦ named id (place_in place pass quad)
      | Surface range background ↦ ranges range (place_in place pass quad)
      | _ ↦ []
    ]

inner_alike : (named : WalkNamed) (ranges : WalkRange) (pass : RenderPass) (quad : DrawQuad) (p q : Placement) (m : Material)
    → NamedAlike named → RangesAlike ranges
    → Alike (inner named ranges pass quad p m) (inner named ranges pass quad q m)
inner_alike named ranges pass quad p q (Pass id) n r = n id (place_in p pass quad) (place_in q pass quad)
inner_alike named ranges pass quad p q (Surface range background) n r = r range (place_in p pass quad) (place_in q pass quad)
inner_alike named ranges pass quad p q (Solid c) n r = refl
inner_alike named ranges pass quad p q (Tile id tx ty) n r = refl

quad_alike : (named : WalkNamed) (ranges : WalkRange) (pass : RenderPass) (quad : DrawQuad) (p q : Placement) → NamedAlike named
    → RangesAlike ranges
    → Alike (quad_walked named ranges pass p quad) (quad_walked named ranges pass q quad)
unfolding quad_walked
quad_alike named ranges pass quad p q n r = ap (λ l. bare Quad ∷ l) (inner_alike named ranges pass quad p q quad.material n r)

quads_alike : (f g : DrawQuad → List Visit) (quads : List DrawQuad) → ((x : DrawQuad) → Alike (f x) (g x))
    → Alike (flat_map f quads) (flat_map g quads)
quads_alike f g [] h = refl
quads_alike f g (x ∷ xs) h =
    map-append bare (f x) (flat_map f xs) ∙ (ap (λ l. l ++ map bare (flat_map f xs)) (h x)
    ∙ (ap (λ l. map bare (g x) ++ l) (quads_alike f g xs h) ∙ sym (map-append bare (g x) (flat_map g xs))))

pass_alike : (named : WalkNamed) (ranges : WalkRange) (pass : RenderPass) (p q : Placement) → NamedAlike named → RangesAlike ranges
    → Alike (pass_walked named ranges pass p) (pass_walked named ranges pass q)
unfolding pass_walked
pass_alike named ranges pass p q n r = quads_alike (quad_walked named ranges pass p) (quad_walked named ranges pass q) pass.quads
    (λ x. quad_alike named ranges pass x p q n r)

inside : RenderPass → Placement → Placement
inside pass place = record place { shift = minus place.shift (corner pass.output) }

group_alike : (ranges : WalkRange) (pass : RenderPass) (earlier : List RenderPass) (id : ℕ) (p q : Placement)
    → NamedAlike (groups_walked ranges earlier) → RangesAlike ranges → (t : Bool)
    → Alike (elim t [
      | true ↦ pass_walked (groups_walked ranges earlier) ranges pass
          (inside pass p)
      | false ↦ groups_walked ranges earlier id p
    ])
    (elim t [ true ↦ pass_walked (groups_walked ranges earlier) ranges pass (inside pass q) | false ↦ groups_walked ranges earlier id q ])
group_alike ranges pass earlier id p q n r true = pass_alike (groups_walked ranges earlier) ranges pass (inside pass p) (inside pass q) n r
group_alike ranges pass earlier id p q n r false = n id p q

groups_alike : (ranges : WalkRange) (passes : List RenderPass) → RangesAlike ranges → NamedAlike (groups_walked ranges passes)
unfolding groups_walked inside
groups_alike ranges [] r id p q = refl
groups_alike ranges (pass ∷ earlier) r id p q =
    group_alike ranges pass earlier id p q (groups_alike ranges earlier r) r (names_pass id pass)

root_alike : (ranges : WalkRange) (passes : List RenderPass) (p q : Placement) → RangesAlike ranges
    → Alike (root_walked ranges passes p) (root_walked ranges passes q)
unfolding root_walked
root_alike ranges [] p q r = refl
root_alike ranges (root ∷ earlier) p q r = pass_alike (groups_walked ranges earlier) ranges root p q (groups_alike ranges earlier r) r

range_alike : (surface : WalkSurface) (active : List FrameData) (path : List SurfaceId) → SurfacesAlike surface
    → RangesAlike (range_walked surface active path)
unfolding range_walked bare
range_alike surface active path s range p q = by (shown_frame active range)
  where
    behind : Placement → Option FrameData → List Visit
    behind place o = elim o [
      | None ↦ []
      | Some i ↦ elim (on_path path i) [
        | true ↦ []
        | false ↦ Enters
            (length path + 1) i place ∷ surface path i place
      ]
    ]

    entered : (i : FrameData) (t : Bool) → Alike (elim t [ true ↦ [] | false ↦ Enters (length path + 1) i p ∷ surface path i p ])
        (elim t [ true ↦ [] | false ↦ Enters (length path + 1) i q ∷ surface path i q ])
    entered i true = refl
    entered i false = ap (λ l. Enters (length path + 1) i nowhere ∷ l) (s path i p q)

    by : (o : Option FrameData) → Alike (Shows range o p.window ∷ behind p o) (Shows range o q.window ∷ behind q o)
    by None = refl
    by (Some i) = ap (λ l. Shows range (Some i) no_rectangle ∷ l) (entered i (on_path path i))

walks_alike : (n : ℕ) (active : List FrameData) → SurfacesAlike (walk n active)
unfolding walk
walks_alike zero active path i p q = refl
walks_alike (suc n) active path i p q = root_alike (range_walked (walk n active) active (i.id ∷ path)) (passes_down i.frame) p q
    (range_alike (walk n active) active (i.id ∷ path) (walks_alike n active))

alike : (a b : Size) (scene : Scene) → Alike (walk_of a scene) (walk_of b scene)
unfolding walk_of bare
alike a b scene = by (frame_on scene.root scene.active)
  where
    by : (o : Option FrameData) → Alike (elim o [ None ↦ [] | Some i ↦ Enters 1 i (whole a) ∷ walk levels scene.active [] i (whole a) ])
        (elim o [ None ↦ [] | Some i ↦ Enters 1 i (whole b) ∷ walk levels scene.active [] i (whole b) ])
    by None = refl
    by (Some i) = ap (λ l. Enters 1 i nowhere ∷ l) (walks_alike levels scene.active [] i (whole a) (whole b))

-- the weight is the same on each display
pub same_weight : (a b : Size) (scene : Scene) → weight (walk_of a scene) ≡ weight (walk_of b scene)
same_weight a b scene = weight_alike (walk_of a scene) (walk_of b scene) (alike a b scene)

pub same_much : (a b : Size) (scene : Scene) → too_much (walk_of a scene) ≡ too_much (walk_of b scene)
same_much a b scene = much_alike (walk_of a scene) (walk_of b scene) (alike a b scene)
