-- A drawing stays on the display: what its walk sees does, and so does its damage.
use Rattle.std.proofs.Common.{◌≡◌, ℕ, zero, suc, ℤ, pos, ◌+ℤ◌, ◌≤ℤ◌, ◌+◌, Bool, true, false, ◌&&◌, inl, inr, Option, Some, None, List, [], ◌∷◌, ◌++◌, length, get_or, refl, ap, ◌∙◌, arith, subst, Contains, flat_map, is_some}
use Rattle.std.specs.Prelude.{int_le, int_lt}
use Rattle.std.proofs.lemmas.List.Elements.{Contains-get_or}
use Rattle.std.proofs.lemmas.Int.{ints}
use Rattle.vz_geom.specs.declared.Size.{Size}
use Rattle.vz_geom.specs.Rectangle.{Rectangle, is_empty_rect, meet, moved, corner, minus, sized, bound, no_rectangle, Covers}
use Rattle.vz_geom.proofs.Bounds.{IsFull, IsInside, of_full, to_full, inside_of, join_second, bound_is_least, meet_is_covered}
use Rattle.vz_ids.specs.declared.SurfaceId.{SurfaceId}
use Rattle.vz_ids.specs.declared.SurfaceRange.{SurfaceRange}
use Rattle.vz_ids.specs.Ids.{same_surface}
use Rattle.vz_frame.specs.declared.frame.RenderPass.{RenderPass}
use Rattle.vz_frame.specs.declared.frame.DrawQuad.{DrawQuad}
use Rattle.vz_frame.specs.declared.frame.Material.{Material}
use Rattle.vz_frame.specs.declared.frame.Material.TheVariants.{Solid, Tile, Surface, Pass}
use Rattle.vz_frame.specs.Frame.{passes_down, names_pass}
use Rattle.vz_geom.specs.Display.{IsDisplaySize}
use Rattle.vz_rules.specs.World.{FrameData, Scene, Aggregation, frame_on}
use Rattle.vz_rules.specs.Scene.{shown_frame}
use Rattle.vz_rules.specs.Paint.{on_path, levels}
use Rattle.vz_rules.specs.Walk.{Placement, Visit, Quad, Shows, Enters, WalkNamed, WalkRange, seen_part, place_in, quad_walked, pass_walked, groups_walked, root_walked, range_walked, whole, walk, walk_of}
use Rattle.vz_rules.specs.Damage.{is_switched, claims_of, claims, damage_at, drawn_damage}
use Rattle.vz_rules.specs.Log.{has_text_damage}
use Rattle.vz_rules.proofs.Members.{contains_here, contains_there, contains_none, contains_cases, append_contains}
use Rattle.std.proofs.lemmas.Bool.{cond_both}

-- the window of a place is on the display
abbrev IsOn : Size → Placement → Type 0
IsOn size place = Covers (sized size) place.window

-- what is met is seen on the display
abbrev IsMetOn : Size → Visit → Type 0
IsMetOn size Quad = Unit {0}
IsMetOn size (Shows range shows seen) = Covers (sized size) seen
IsMetOn size (Enters depth i place) = IsOn size place

-- all of it
abbrev AllOn : Size → List Visit → Type 0
AllOn size ms = (m : Visit) → Contains ms m → IsMetOn size m

none_on : (size : Size) → AllOn size []
none_on size m c = absurd (contains_none m c)

cons_on : (size : Size) (m : Visit) (ms : List Visit) → IsMetOn size m → AllOn size ms → AllOn size (m ∷ ms)
cons_on size m ms first rest n c = elim (contains_cases m n ms c) [ inl e ↦ subst (IsMetOn size) e first | inr r ↦ rest n r ]

append_on : (size : Size) (ms ns : List Visit) → AllOn size ms → AllOn size ns → AllOn size (ms ++ ns)
append_on size ms ns one two m c = elim (append_contains ms ns m c) [ inl r ↦ one m r | inr r ↦ two m r ]

flat_on : {A : Type 0} (size : Size) (f : A → List Visit) (xs : List A) → ((x : A) → AllOn size (f x)) → AllOn size (flat_map f xs)
flat_on size f [] h = none_on size
flat_on size f (x ∷ xs) h = append_on size (f x) (flat_map f xs) (h x) (flat_on size f xs h)

covers_more : (a b c : Rectangle) → Covers a b → Covers b c → Covers a c
covers_more a b c f g p h = f p (g p h)

seen_on : (size : Size) (place : Placement) (pass : RenderPass) (quad : DrawQuad) → IsOn size place → IsOn size (place_in place pass quad)
unfolding seen_part
seen_on size place pass quad h =
    let moved_output = moved pass.output place.shift in
    covers_more (sized size) place.window _ h
    (covers_more place.window (meet place.window moved_output) _ (meet_is_covered place.window moved_output).0 (meet_is_covered (meet place.window moved_output) _).0)

-- Passes

module _ (size : Size) (ranges : WalkRange) (ranges_on : (range : SurfaceRange) (place : Placement) → IsOn size place → AllOn size (ranges range place)) where
  material_on : (named : WalkNamed) → ((id : ℕ) (place : Placement) → IsOn size place → AllOn size (named id place)) → (m : Material) (place : Placement)
      → IsOn size place
      → AllOn size (elim m [ Pass id ↦ named id place | Surface range background ↦ ranges range place | _ ↦ [] ])
  material_on named named_on (Solid c) place h = none_on size
  material_on named named_on (Tile id tx ty) place h = none_on size
  material_on named named_on (Surface range background) place h = ranges_on range place h
  material_on named named_on (Pass id) place h = named_on id place h

  pass_on : (named : WalkNamed) → ((id : ℕ) (place : Placement) → IsOn size place → AllOn size (named id place)) → (pass : RenderPass) (place : Placement)
      → IsOn size place
      → AllOn size (pass_walked named ranges pass place)
  unfolding pass_walked quad_walked
  pass_on named named_on pass place h =
      flat_on size (quad_walked named ranges pass place) pass.quads (λ quad.
      cons_on size Quad _ tt (material_on named named_on quad.material (place_in place pass quad) (seen_on size place pass quad h)))

  group_by : (t : Bool) (one two : List Visit) → AllOn size one → AllOn size two → AllOn size (elim t [ true ↦ one | false ↦ two ])
  group_by true one two h k = h
  group_by false one two h k = k

  groups_on : (earlier : List RenderPass) (id : ℕ) (place : Placement) → IsOn size place → AllOn size (groups_walked ranges earlier id place)
  unfolding groups_walked
  groups_on [] id place h = none_on size
  groups_on (pass ∷ earlier) id place h =
      group_by (names_pass id pass) _ _
      (pass_on (groups_walked ranges earlier) (groups_on earlier) pass (record place { shift = minus place.shift (corner pass.output) }) h)
      (groups_on earlier id place h)

  root_on : (passes : List RenderPass) (place : Placement) → IsOn size place → AllOn size (root_walked ranges passes place)
  unfolding root_walked
  root_on [] place h = none_on size
  root_on (root ∷ earlier) place h = pass_on (groups_walked ranges earlier) (groups_on earlier) root place h

-- Surfaces

path_on : (size : Size) (t : Bool) (ms : List Visit) → AllOn size ms → AllOn size (elim t [ true ↦ [] | false ↦ ms ])
path_on size true ms h = none_on size
path_on size false ms h = h

shown_on : (size : Size) (n : ℕ) (active : List FrameData) (path : List SurfaceId) (o : Option FrameData) (place : Placement) → IsOn size place
    → ((p : List SurfaceId) (i : FrameData) (at_place : Placement) → IsOn size at_place → AllOn size (walk n active p i at_place))
    → AllOn size (elim o [ None ↦ [] | Some i ↦ elim (on_path path i) [ true ↦ [] | false ↦ Enters (length path + 1) i place ∷ walk n active path i place ] ])
shown_on size n active path None place h deeper = none_on size
shown_on size n active path (Some i) place h deeper = path_on size (on_path path i) _ (cons_on size (Enters (length path + 1) i place) _ h (deeper path i place h))

walk_on : (size : Size) (n : ℕ) (active : List FrameData) (path : List SurfaceId) (i : FrameData) (place : Placement) → IsOn size place
    → AllOn size (walk n active path i place)
unfolding walk range_walked
walk_on size zero active path i place h = none_on size
walk_on size (suc n) active path i place h =
    root_on size (range_walked (walk n active) active (i.id ∷ path))
    (λ range p k. cons_on size (Shows range (shown_frame active range) p.window) _ k
    (shown_on size n active (i.id ∷ path) (shown_frame active range) p k (walk_on size n active)))
    (passes_down i.frame) place h

walked_on : (size : Size) (o : Option FrameData) (active : List FrameData)
    → AllOn size (elim o [ None ↦ [] | Some i ↦ Enters 1 i (whole size) ∷ walk levels active [] i (whole size) ])
walked_on size None active = none_on size
walked_on size (Some i) active = cons_on size (Enters 1 i (whole size)) _ (λ p e. e) (walk_on size levels active [] i (whole size) (λ p e. e))

walk_of_on : (size : Size) (scene : Scene) → AllOn size (walk_of size scene)
unfolding walk_of
walk_of_on size scene = walked_on size (frame_on scene.root scene.active) scene.active

-- Claims

abbrev AllCovered : Size → List Rectangle → Type 0
AllCovered size rs = (r : Rectangle) → Contains rs r → Covers (sized size) r

one_covered : (size : Size) (r : Rectangle) → Covers (sized size) r → AllCovered size (r ∷ [])
one_covered size r h s c = elim (contains_cases r s [] c) [ inl e ↦ subst (Covers (sized size)) e h | inr k ↦ absurd (contains_none s k) ]

none_covered : (size : Size) → AllCovered size []
none_covered size s c = absurd (contains_none s c)

claim_covered : (size : Size) (a : Aggregation) (accepted : List FrameData) (m : Visit) → IsMetOn size m → AllCovered size (claims_of a accepted m)
unfolding claims_of
claim_covered size a accepted Quad h = none_covered size
claim_covered size a accepted (Shows range shows seen) h = cond_both (is_switched a range shows) (seen ∷ []) [] (AllCovered size) (λ e. (one_covered size seen h)) (λ e. (none_covered size))
claim_covered size a accepted (Enters depth i place) h =
    one_covered size (damage_at a accepted i place)
    (covers_more (sized size) place.window _ h (covers_more place.window _ _ (meet_is_covered place.window _).0 (meet_is_covered _ _).0))

flat_covered : (size : Size) (a : Aggregation) (accepted : List FrameData) (ms : List Visit) → AllOn size ms
    → AllCovered size (flat_map (claims_of a accepted) ms)
flat_covered size a accepted [] h s c = absurd (contains_none s c)
flat_covered size a accepted (m ∷ ms) h s c =
    elim (append_contains (claims_of a accepted m) (flat_map (claims_of a accepted) ms) s c) [
      | inl r ↦ claim_covered size a accepted m (h m (contains_here m ms)) s r
      | inr r ↦ flat_covered size a accepted ms (λ n k. h n (contains_there m n ms k)) s r
    ]

claims_covered : (size : Size) (o : Option Aggregation) (accepted : List FrameData) (root : SurfaceId) (walked : List Visit) → AllOn size walked
    → AllCovered size (claims size o accepted root walked)
unfolding claims
claims_covered size None accepted root walked h = one_covered size (sized size) (λ p e. e)
claims_covered size (Some a) accepted root walked h =
    cond_both (same_surface a.root root) (flat_map (claims_of a accepted) walked) (sized size ∷ []) (AllCovered size) (λ e. (flat_covered size a accepted walked h)) (λ e. (one_covered size (sized size) (λ p e. e)))

-- the damage of a drawing is on the display
pub damage_covered : (size : Size) (o : Option Aggregation) (accepted : List FrameData) (scene : Scene)
    → Covers (sized size) (drawn_damage size o accepted scene.root (walk_of size scene))
unfolding drawn_damage
damage_covered size o accepted scene =
    let rs = claims size o accepted scene.root (walk_of size scene) in
    let all : AllCovered size rs = claims_covered size o accepted scene.root (walk_of size scene) (walk_of_on size scene) in
    bound_is_least rs (sized size) (λ k d l. all (get_or rs k d) (Contains-get_or rs k d l))

-- Its text

display_full : (size : Size) → IsDisplaySize size → IsFull (sized size)
display_full size h = record { wide = h.wide; high = h.high }

-- the whole display, where nothing was drawn yet
first_full : (size : Size) → IsDisplaySize size → is_empty_rect (bound (sized size ∷ [])) ≡ false
unfolding bound
first_full size h =
    let full = to_full (sized size) (display_full size h) in
    ap is_empty_rect (join_second (sized size) no_rectangle full refl) ∙ full

damage_full_by : (size : Size) (o : Option Aggregation) (accepted : List FrameData) (scene : Scene) → IsDisplaySize size
    → (is_some o && is_empty_rect (drawn_damage size o accepted scene.root (walk_of size scene))) ≡ false
    → is_empty_rect (drawn_damage size o accepted scene.root (walk_of size scene)) ≡ false
unfolding drawn_damage claims
damage_full_by size None accepted scene h e = first_full size h
damage_full_by size (Some a) accepted scene h e = e

six : (a b c d e f : Bool) → a ≡ true → b ≡ true → c ≡ true → d ≡ true → e ≡ true → f ≡ true → (a && b && c && d && e && f) ≡ true
six a b c d e f p q r s t u = rw (p, q, r, s, t, u)

le_test : (a b : ℤ) → a ≤ℤ b → int_le a b ≡ true
le_test a b h = grind (arith, ints)

lt_test : (a : ℤ) → pos 1 ≤ℤ a → int_lt (pos 0) a ≡ true
lt_test a h = grind (arith, ints)

text_by : (size : Size) (r : Rectangle) → IsDisplaySize size → IsFull r → IsInside (sized size) r → has_text_damage r ≡ true
text_by size r h full inside =
    let right : (r.x +ℤ r.w) ≤ℤ pos 2048 = omega (arith, ints, inside.right, h.not_too_wide) in
    let bottom : (r.y +ℤ r.h) ≤ℤ pos 2048 = omega (arith, ints, inside.bottom, h.not_too_high) in
    six (int_le (pos 0) r.x) (int_le (pos 0) r.y) (int_lt (pos 0) r.w) (int_lt (pos 0) r.h) (int_le (r.x +ℤ r.w) (pos 2048)) (int_le (r.y +ℤ r.h) (pos 2048))
    (le_test (pos 0) r.x inside.left) (le_test (pos 0) r.y inside.top) (lt_test r.w full.wide) (lt_test r.h full.high)
    (le_test (r.x +ℤ r.w) (pos 2048) right) (le_test (r.y +ℤ r.h) (pos 2048) bottom)

-- the damage of a drawing has a text
pub damage_text : (size : Size) (o : Option Aggregation) (accepted : List FrameData) (scene : Scene) → IsDisplaySize size
    → (is_some o && is_empty_rect (drawn_damage size o accepted scene.root (walk_of size scene))) ≡ false
    → has_text_damage (drawn_damage size o accepted scene.root (walk_of size scene)) ≡ true
damage_text size o accepted scene h e =
    let r = drawn_damage size o accepted scene.root (walk_of size scene) in
    let full = of_full r (damage_full_by size o accepted scene h e) in
    text_by size r h full (inside_of (sized size) r full (damage_covered size o accepted scene))
