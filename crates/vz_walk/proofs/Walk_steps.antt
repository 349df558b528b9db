-- What is to be met from where a walk stands.
use Rattle.std.proofs.Common.{◌≡◌, ℕ, ◌+◌, ◌<◌, Bool, true, false, Option, Some, None, List, [], ◌∷◌, ◌++◌, take, drop, length, get_or}
use Rattle.std.proofs.Common.{slice_get, sym, ap, ◌∙◌, arith}
use Rattle.std.specs.List.{flat_map}
use Rattle.std.proofs.lemmas.List.{append-nil, take-append-drop}
use Rattle.std.proofs.lemmas.Grind.{take_at_read, flat_map-append}
use Rattle.std.proofs.lemmas.Option.{slice_get-get_or}
use Rattle.vz_geom.specs.Rectangle.{Rectangle, minus, corner}
use Rattle.vz_ids.specs.declared.SurfaceRange.{SurfaceRange}
use Rattle.vz_frame.specs.declared.frame.RenderPass.{RenderPass}
use Rattle.vz_frame.specs.declared.frame.DrawQuad.{DrawQuad}
use Rattle.vz_frame.specs.declared.frame.Material.{Material}
use Rattle.vz_frame.specs.declared.frame.Material.TheVariants.{Surface, Pass}
use Rattle.vz_rules.specs.World.{FrameData}
use Rattle.vz_rules.specs.Scene.{shown_frame}
use Rattle.vz_rules.specs.Paint.{on_path}
use Rattle.vz_rules.specs.Walk.{Placement, Visit, WalkRange, WalkNamed, Quad, Shows, Enters, place_in, quad_walked, pass_walked}
use Rattle.vz_rules.specs.Walk.{range_walked, walk}
use Rattle.vz_surfaces.specs.Names.{place_named}
use Rattle.vz_surfaces.proofs.Leading.{pass_named, place_before}
use Rattle.vz_walk.proofs.Passing.{groups_at}
use Rattle.vz_walk.specs.Walking.{Stand, ranges_of, named_of, quad_of, pass_in, pass_of, group_in, group_at, shown_at}

-- Quads of a pass

-- one quad more
pub quads_next : (f : DrawQuad → List Visit) (quads : List DrawQuad) (n : ℕ) (q : DrawQuad) → n < length quads → q ≡ get_or quads n q
    → flat_map f (take n quads) ++ f q ≡ flat_map f (take (n + 1) quads)
quads_next f quads n q h here =
    ap (λ l. flat_map f (take n quads) ++ l) (sym (append-nil (f q)) ∙ ap (λ x. flat_map f (x ∷ [])) here)
    ∙ (sym (flat_map-append f (take n quads) (get_or quads n q ∷ [])) ∙ ap (flat_map f) (sym (take_at_read quads n q h).1))

-- and those behind it
pub quads_all : (f : DrawQuad → List Visit) (quads : List DrawQuad) (n : ℕ) (q : DrawQuad) → n < length quads → q ≡ get_or quads n q
    → (flat_map f (take n quads) ++ f q) ++ flat_map f (drop (n + 1) quads) ≡ flat_map f quads
quads_all f quads n q h here =
    ap (λ l. l ++ flat_map f (drop (n + 1) quads)) (quads_next f quads n q h here)
    ∙ (sym (flat_map-append f (take (n + 1) quads) (drop (n + 1) quads)) ∙ ap (flat_map f) (take-append-drop (n + 1) quads))

-- Passes

there : (passes : List RenderPass) (k : ℕ) (p : RenderPass) → k < length passes → p ≡ get_or passes k p → slice_get passes k ≡ Some p
there passes k p h here = slice_get-get_or passes k p h ∙ ap (λ x. Some x) (sym here)

-- the quads of the pass at a place
pub pass_is : (it : Stand) (passes : List RenderPass) (k : ℕ) (p : RenderPass) (quads : List DrawQuad) (place : Placement)
    → passes ≡ it.frame.passes → k < length passes → p ≡ get_or passes k p → quads ≡ p.quads
    → flat_map (quad_of it k p place) quads ≡ pass_of it k place
unfolding pass_walked
pass_is it passes k p quads place e h here own =
    ap (flat_map (quad_of it k p place)) own
    ∙ sym (ap (λ l. pass_in (ranges_of it) it.frame.passes k place (slice_get l k)) (sym e)
    ∙ ap (pass_in (ranges_of it) it.frame.passes k place) (there passes k p h here))

-- the pass at a place, as a group
pub group_is : (it : Stand) (passes : List RenderPass) (k : ℕ) (p : RenderPass) (place inside : Placement) → passes ≡ it.frame.passes
    → k < length passes → p ≡ get_or passes k p → inside ≡ record place { shift = minus place.shift (corner p.output) }
    → pass_of it k inside ≡ group_at (ranges_of it) it.frame.passes place (Some k)
group_is it passes k p place inside e h here at =
    let ranges = ranges_of it in
    let own = it.frame.passes in
    let some : slice_get own k ≡ Some p = ap (λ l. slice_get l k) (sym e) ∙ there passes k p h here in
    ap (pass_in ranges own k inside) some ∙ (ap (λ x. pass_in ranges own k x (Some p)) at ∙ ap (group_in ranges own k place) (sym some))

-- what is met by the name of a pass quad, where it leads to
pub name_is : (it : Stand) (k id : ℕ) (quad : DrawQuad) (o : Option ℕ) (place : Placement) → k < length it.frame.passes
    → quad.material ≡ Pass id → o ≡ place_named it.frame k quad → group_at (ranges_of it) it.frame.passes place o ≡ named_of it k id place
name_is it k id quad o place h m is =
    ap (group_at (ranges_of it) it.frame.passes place) (is ∙ pass_named it.frame k quad id m)
    ∙ sym (groups_at (ranges_of it) it.frame.passes k id place (omega arith))

-- it leads to an earlier pass
pub name_before : (it : Stand) (k at id : ℕ) (quad : DrawQuad) (o : Option ℕ) → quad.material ≡ Pass id
    → o ≡ place_named it.frame k quad → o ≡ Some at → at < k
name_before it k at id quad o m is e = place_before id it.frame.passes k at (sym (is ∙ pass_named it.frame k quad id m) ∙ e)

-- Quads

-- what is met in what a quad draws, by its material
abbrev pub inner_of : WalkNamed → WalkRange → RenderPass → Placement → DrawQuad → Material → List Visit
inner_of named ranges pass place quad m =
    elim m [
      | Pass id ↦ named id (place_in place pass quad)
      | Surface range background ↦ ranges range (place_in place pass quad)
      | _ ↦ []
    ]

-- a quad, and what is met in what it draws
pub quad_is : (it : Stand) (k : ℕ) (pass : RenderPass) (place : Placement) (quad : DrawQuad) (m : Material) (inner : List Visit)
    → quad.material ≡ m
    → inner ≡ inner_of (named_of it k) (ranges_of it) pass place quad m → (Quad ∷ []) ++ inner ≡ quad_of it k pass place quad
unfolding quad_walked
quad_is it k pass place quad m inner e is = ap (λ l. Quad ∷ l) (is ∙ ap (inner_of (named_of it k) (ranges_of it) pass place quad) (sym e))

-- Ranges

-- what is met of what a range shows
abbrev pub behind : Stand → Placement → Option FrameData → List Visit
behind it place o = elim o [ None ↦ [] | Some i ↦ shown_at it i place ]

-- a range, and what is met of what it shows
pub range_is : (it : Stand) (range : SurfaceRange) (place : Placement) (o : Option FrameData) (window : Rectangle)
    → window ≡ place.window → o ≡ shown_frame it.active range
    → (Shows range o window ∷ []) ++ behind it place o ≡ ranges_of it range place
unfolding range_walked
range_is it range place o window w e =
    ap (λ x. Shows range o x ∷ behind it place o) w ∙ ap (λ x. Shows range x place.window ∷ behind it place x) e

-- a surface that is on the path
pub again_is : (it : Stand) (i : FrameData) (place : Placement) → on_path it.path i ≡ true → [] ≡ shown_at it i place
again_is it i place on = ap (λ (t : Bool). elim t [
  | true ↦ []
  | false ↦ Enters
      (length it.path + 1) i place ∷ walk it.levels it.active it.path i place
]) (sym on)

-- one that is not
pub enters_is : (it : Stand) (i : FrameData) (place : Placement) (depth : ℕ) → on_path it.path i ≡ false → depth ≡ length it.path + 1
    → (Enters depth i place ∷ []) ++ walk it.levels it.active it.path i place ≡ shown_at it i place
enters_is it i place depth off deep =
    ap (λ d. Enters d i place ∷ walk it.levels it.active it.path i place) deep
    ∙ ap (λ (t : Bool). elim t [ true ↦ [] | false ↦ Enters (length it.path + 1) i place ∷ walk it.levels it.active it.path i place ])
    (sym off)
