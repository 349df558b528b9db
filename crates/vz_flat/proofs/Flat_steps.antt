-- What the steps of flattening ask of each other, and what they append.
use Rattle.std.proofs.Common.{◌≡◌, ℕ, zero, suc, ◌+◌, ◌-◌, ◌<◌, ◌≤◌, Some, List, [], ◌∷◌, ◌++◌, take, drop, length, get_or, reverse, refl, ap, sym, ◌∙◌, subst, arith, append_assoc, append-nil, Contains}
use Rattle.std.proofs.{lemmas.List.drop_more, lemmas.List.drop_all, lemmas.List.reverse-append, lemmas.List.take_all, lemmas.Bool.Decides.nat_tests}
use Rattle.std.proofs.lemmas.Grind.{take_at_read, common_steps}
use Rattle.vz_geom.specs.{declared.Point.Point, Rectangle.minus, Rectangle.corner}
use Rattle.vz_ids.specs.{declared.SurfaceId.SurfaceId, declared.SurfaceRange.SurfaceRange}
use Rattle.vz_frame.specs.{declared.frame.RenderPass.RenderPass, declared.frame.DrawQuad.DrawQuad}
use Rattle.vz_rules.specs.{World.FrameData, World.Submission, World.is_active, Scene.shown_frame, Kept.IsWhole, Walk.Placement, Walk.place_in}
use Rattle.vz_rules.proofs.{Members.contains_map, Members.filter_at, Remembered.shown_in}
use Rattle.vz_surfaces.specs.{Stored.Stored, Reading.seen_frames, Keeping.KeepsFrames}
use Rattle.vz_placement.specs.Limits.{HasRoom, IsPassInReach, IsQuadInReach, coordinates, room_for}
use Rattle.vz_placement.proofs.Rooms.{room_less, room_minus, place_room, drawn_room}
use Rattle.vz_flat.specs.{declared.op.Op.Op, Parts.seen_flat, Flat.quads_flat, Flat.root_flat, Flat.flat}
use Rattle.vz_flat.specs.Flattening.{Stand, ranges_of, material_here, quads_here, earlier_of}
use Rattle.vz_flat.proofs.Wholes.{frame_whole}

-- Room

pub group_room : (levels : ℕ) (place inner : Placement) (k : ℕ) (pass : RenderPass) → IsPassInReach pass
    → inner ≡ record place { shift = minus place.shift (corner pass.output) }
    → HasRoom (room_for levels (k + 1) + coordinates 1) place.shift → HasRoom (room_for levels (k + 1)) inner.shift
group_room levels place inner k pass reach is room =
    place_room (room_for levels (k + 1)) inner (record place { shift = minus place.shift (corner pass.output) }) is
    (room_minus (room_for levels (k + 1) + coordinates 1) (room_for levels (k + 1)) place.shift (corner pass.output) room reach.drawn.first (omega arith))

pub name_room : (levels : ℕ) (p : Point) (k at : ℕ) → at < k → HasRoom (room_for levels k + coordinates 1) p
    → HasRoom (room_for levels (at + 1) + coordinates 1) p
name_room levels p k at low room = grind (arith, nat_tests, room_less)

pub quad_room : (levels n : ℕ) (place inner : Placement) (pass : RenderPass) (quad : DrawQuad) → inner ≡ place_in place pass quad
    → IsQuadInReach quad
    → HasRoom (room_for levels (n + 1)) place.shift → HasRoom (room_for levels n + coordinates 1) inner.shift
quad_room levels n place inner pass quad is reach room = grind (arith, nat_tests, place_room, drawn_room levels n place quad room reach)

count_room : (levels : ℕ) (p : Point) (count : ℕ) → 0 < count → count ≤ 16 → (levels ≡ 0 → ⊥)
    → HasRoom (room_for levels 0) p → HasRoom (room_for (levels - 1) (count - 1 + 1)) p
count_room levels p count some few deep room = grind (arith, nat_tests, room_less)

-- for the last pass of a surface
pub surface_room : (levels : ℕ) (p : Point) (i : FrameData) (passes : List RenderPass) → IsWhole i → passes ≡ i.frame.passes
    → (length passes ≡ 0 → ⊥) → (levels ≡ 0 → ⊥) → HasRoom (room_for levels 0) p → HasRoom (room_for (levels - 1) (length passes - 1 + 1)) p
surface_room levels p i passes fine own some deep room =
    let same = ap length own in
    let few = (frame_whole i fine).few in
    count_room levels p (length passes) (omega (arith, some)) (omega (arith, same, few)) deep room

-- Frames

pub frame_of : (st : Stored) (i : FrameData) → KeepsFrames st → Contains (seen_frames st) i → IsWhole i
frame_of st i keeps c =
    let m = contains_map (λ (s : Submission). s.submitted) _ i (filter_at _ _ i c).0 in
    subst IsWhole m.2 (keeps m.0 (filter_at is_active st.subs m.0 m.1).0)

pub seen_whole : (st : Stored) (range : SurfaceRange) (i : FrameData) → KeepsFrames st → shown_frame (seen_frames st) range ≡ Some i
    → IsWhole i
seen_whole st range i keeps e = frame_of st i keeps (shown_in (seen_frames st) range i e)

-- What is appended

pub none_yet : (s : Stand) (earlier : List RenderPass) (pass : RenderPass) (place : Placement) (quads : List DrawQuad) (ops : List Op)
    → ops ≡ ops ++ quads_here s earlier pass place (drop (length quads) quads)
unfolding quads_flat
none_yet s earlier pass place quads ops = grind (arith, nat_tests, common_steps, drop_all (length quads) quads)

-- a quad in front of those from a place on
split_at : (quads : List DrawQuad) (j k : ℕ) (quad : DrawQuad) → j + 1 ≡ k → k ≤ length quads → quad ≡ get_or quads j quad
    → drop j quads ≡ quad ∷ drop k quads
split_at quads j k quad next most is = grind (arith, nat_tests, drop_more quads j quad)

split_before : (quads : List DrawQuad) (k : ℕ) (quad : DrawQuad) → 0 < k → k ≤ length quads → quad ≡ get_or quads (k - 1) quad
    → drop (k - 1) quads ≡ quad ∷ drop k quads
split_before quads k quad some most is = split_at quads (k - 1) k quad (omega (arith, some)) most is

quads_more : (s : Stand) (earlier : List RenderPass) (pass : RenderPass) (place : Placement) (quad : DrawQuad) (behind : List DrawQuad)
    → quads_here s earlier pass place (quad ∷ behind) ≡ quads_here s earlier pass place behind ++ seen_flat (place_in place pass quad).window (material_here s earlier quad (place_in place pass quad))
unfolding quads_flat
quads_more s earlier pass place quad behind = refl

pub one_more : (s : Stand) (earlier : List RenderPass) (pass : RenderPass) (place : Placement) (quads : List DrawQuad) (k : ℕ) (quad : DrawQuad) (first old new : List Op)
    → 0 < k → k ≤ length quads → quad ≡ get_or quads (k - 1) quad → old ≡ first ++ quads_here s earlier pass place (drop k quads)
    → new ≡ old ++ seen_flat (place_in place pass quad).window (material_here s earlier quad (place_in place pass quad))
    → new ≡ first ++ quads_here s earlier pass place (drop (k - 1) quads)
one_more s earlier pass place quads k quad first old new some most is so_far e =
    let part = seen_flat (place_in place pass quad).window (material_here s earlier quad (place_in place pass quad)) in
    e
    ∙ (ap (λ l. l ++ part) so_far
    ∙ (append_assoc first (quads_here s earlier pass place (drop k quads)) part
    ∙ ap (λ l. first ++ l)
    (sym (quads_more s earlier pass place quad (drop k quads)) ∙ ap (quads_here s earlier pass place) (sym (split_before quads k quad some most is)))))

-- the root pass, by its place
turned : (passes : List RenderPass) (k : ℕ) (root : RenderPass) → k + 1 ≡ length passes → root ≡ get_or passes k root
    → reverse passes ≡ root ∷ reverse (take k passes)
turned passes k root e here = grind (arith, nat_tests, take_all, take_at_read passes k root, reverse-append (take k passes) (get_or passes k root ∷ []))

root_is : (s : Stand) (k : ℕ) (root : RenderPass) (place : Placement) → k + 1 ≡ length s.seen.frame.passes
    → root ≡ get_or s.seen.frame.passes k root
    → quads_here s (earlier_of s k) root place root.quads ≡ root_flat s.seen (ranges_of s) (reverse s.seen.frame.passes) place
unfolding root_flat
root_is s k root place e here = sym (ap (λ l. root_flat s.seen (ranges_of s) l place) (turned s.seen.frame.passes k root e here))

pub surface_is : (levels : ℕ) (active : List FrameData) (path : List SurfaceId) (i : FrameData) (id : SurfaceId) (place : Placement)
    (passes : List RenderPass) (k : ℕ) (root : RenderPass) (old new : List Op) → (levels ≡ 0 → ⊥) → id ≡ i.id → passes ≡ i.frame.passes
    → k + 1 ≡ length passes → root ≡ get_or passes k root
    → new ≡ old ++ quads_here (record { active = active; levels = levels - 1; path = id ∷ path; seen = i }) (take k i.frame.passes) root place root.quads
    → new ≡ old ++ flat levels active path i place
unfolding flat
surface_is zero active path i id place passes k root old new some same own e here is = absurd (some refl)
surface_is (suc n) active path i id place passes k root old new some same own e here is =
    let last : k + 1 ≡ length i.frame.passes = e ∙ ap length own in
    let there : root ≡ get_or i.frame.passes k root = here ∙ ap (λ l. get_or l k root) own in
    let earlier = take k i.frame.passes in
    is
    ∙ ap (λ l. old ++ l)
    (ap (λ (m : ℕ). quads_here (record { active = active; levels = m; path = id ∷ path; seen = i }) earlier root place root.quads) (one_less n)
    ∙ (ap (λ (x : SurfaceId). quads_here (record { active = active; levels = n; path = x ∷ path; seen = i }) earlier root place root.quads) same
    ∙ root_is (record { active = active; levels = n; path = i.id ∷ path; seen = i }) k root place last there))
  where
    one_less : (n : ℕ) → suc n - 1 ≡ n
    one_less n = omega arith

-- a frame without passes draws nothing
pub no_passes : (levels : ℕ) (active : List FrameData) (path : List SurfaceId) (i : FrameData) (place : Placement) (passes : List RenderPass)
    (ops : List Op) → passes ≡ i.frame.passes → length passes ≡ 0 → ops ≡ ops ++ flat levels active path i place
unfolding flat root_flat
no_passes zero active path i place passes ops own e = sym (append-nil ops)
no_passes (suc n) active path i place passes ops own e = grind (arith, nat_tests, common_steps)
