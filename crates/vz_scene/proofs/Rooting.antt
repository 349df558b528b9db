-- The walk from the root of a display.
use Rattle.std.proofs.Common.{◌≡◌, false, Option, Some, None, List, [], ◌∷◌, ◌++◌, refl, arith}
use Rattle.std.specs.Option.{option_to_list}
use Rattle.vz_geom.specs.declared.Size.{Size}
use Rattle.vz_ids.specs.declared.SurfaceId.{SurfaceId}
use Rattle.vz_rules.specs.{World.FrameData, World.frame_on, Paint.levels}
use Rattle.vz_rules.specs.Walk.{Placement, Visit, Enters, whole, walk, walk_of, weight, too_much}
use Rattle.vz_scene.specs.Walking.{Cursor, stack_walked, maybe_walked}
use Rattle.vz_scene.proofs.Stacking.{maybe_stack}
use Rattle.std.proofs.{lemmas.List.append-nil, lemmas.Bool.Decides.nat_tests}

-- nothing is walked where nothing is on the root
pub walk_none : (size : Size) (root : SurfaceId) (active : List FrameData) (o : Option FrameData) → o ≡ frame_on root active → o ≡ None → walk_of size (record { root = root; active = active }) ≡ []
unfolding walk_of
walk_none size root active o e is = grind (arith, nat_tests)

-- and it is not too much
pub nothing_is_little : too_much [] ≡ false
unfolding too_much weight
nothing_is_little = refl

-- the walk from the frame on the root
pub walk_some : (size : Size) (root : SurfaceId) (active : List FrameData) (o : Option FrameData) (i : FrameData) (old walked : List Visit) (first items : List Cursor) (it : Option Cursor) (place : Placement)
    → o ≡ frame_on root active → o ≡ Some i → old ≡ [] → walked ≡ old ++ Enters 1 i place ∷ [] → place ≡ whole size → first ≡ [] → items ≡ first ++ option_to_list it
    → maybe_walked active it ≡ walk 65 active [] i place → walk_of size (record { root = root; active = active }) ≡ walked ++ stack_walked active items
unfolding walk_of levels stack_walked
walk_some size root active o i old walked first items it place e is f g h k l m = grind (arith, nat_tests, maybe_stack active [] it, append-nil (maybe_walked active it))
