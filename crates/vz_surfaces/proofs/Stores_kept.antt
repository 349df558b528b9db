-- What leaves a store as it is.
use Rattle.std.proofs.Common.{arith, ◌≡◌, Bool, true, false, ◌&&◌, not, Option, Some, None, List, [], ◌∷◌, map, refl, ap, ◌∙◌, cond, is_some}
use Rattle.std.proofs.lemmas.Bool.Decides.{nat_tests}
use Rattle.vz_ids.specs.declared.Sub.{Sub}
use Rattle.vz_rules.specs.Plan.{Plan}
use Rattle.vz_rules.specs.World.{World, Surface, Scene}
use Rattle.vz_rules.specs.Scene.{scene_of}
use Rattle.vz_rules.specs.Reach.{naming, name_one, is_named_now}
use Rattle.vz_rules.specs.Returns.{give_back, feed, mark_fed}
use Rattle.vz_rules.specs.Messages.{Answer}
use Rattle.vz_rules.specs.Step.{begin_answer, draw_answer, scene_answer}
use Rattle.vz_surfaces.specs.Stored.{Stored, bare_surface, bare_sub, stored_of}
use Rattle.vz_surfaces.proofs.Following.{agree}

-- a change that is not seen
pub map_unseen : {A B : Type 0} (g : A → B) (f : A → A) (xs : List A) → ((x : A) → g (f x) ≡ g x) → map g (map f xs) ≡ map g xs
map_unseen g f [] e = refl
map_unseen g f (x ∷ xs) e = ap (λ y. y ∷ map g (map f xs)) (e x) ∙ ap (λ l. g x ∷ l) (map_unseen g f xs e)

named_by : (t : Bool) (c : Surface) → bare_surface (cond t (record c { named = true }) c) ≡ bare_surface c
named_by true c = refl
named_by false c = refl

pub stays_named : (w : World) → stored_of (naming w) ≡ stored_of w
unfolding stored_of naming
stays_named w = agree (map_unseen bare_surface (name_one w) w.surfaces (λ c. named_by (not c.destroyed && is_named_now w c.id) c)) refl

pub stays_given : (w : World) → stored_of (give_back w) ≡ stored_of w
unfolding stored_of give_back
stays_given w = refl

pub stays_fed : (presented : List Sub) (w : World) → stored_of (feed presented w) ≡ stored_of w
unfolding stored_of feed
stays_fed presented w = agree refl (map_unseen bare_sub (mark_fed w presented) w.subs (λ s. refl))

-- one of two answers
either : (t : Bool) (a b : Answer) (st : Stored) → stored_of a.world ≡ st → stored_of b.world ≡ st → stored_of (cond t a b).world ≡ st
either true a b st e f = e
either false a b st e f = f

pub stays_ticked : (p : Plan) (w : World) → stored_of (begin_answer p w).world ≡ stored_of w
unfolding stored_of begin_answer
stays_ticked p w = refl

pub stays_scene : (p : Plan) (w : World) (scene : Scene) → stored_of (scene_answer p w scene).world ≡ stored_of w
unfolding stored_of scene_answer
stays_scene p w scene = grind (arith, nat_tests, either)

seen_or : (w : World) (o : Option Scene) (f : Scene → Answer) (b : Answer) → ((s : Scene) → stored_of (f s).world ≡ stored_of w) → stored_of b.world ≡ stored_of w
    → stored_of (elim o as (λ o. Answer) [ Some s ↦ f s | None ↦ b ]).world ≡ stored_of w
seen_or w None f b e g = g
seen_or w (Some s) f b e g = e s

pub stays_drawn : (p : Plan) (w : World) → stored_of (draw_answer p w).world ≡ stored_of w
unfolding draw_answer
stays_drawn p w = either (is_some w.in_flight) _ _ (stored_of w) refl (seen_or w (scene_of w) (scene_answer p w) _ (stays_scene p w) refl)
