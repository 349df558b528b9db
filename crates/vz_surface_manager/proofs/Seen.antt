-- A drawing: the active submission of each surface was seen.
use Rattle.std.proofs.Common.{◌&&◌, ◌≡◌, Bool, Option, Some, None, is_some, List, [], ◌∷◌, refl, cond, arith}
use Rattle.std.specs.Option.{option_map}
use Rattle.vz_geom.specs.Rectangle.{Rectangle, is_empty_rect}
use Rattle.vz_ids.specs.{declared.SurfaceId.SurfaceId, declared.Sub.Sub}
use Rattle.vz_rules.specs.declared.entry.Reply.TheVariants as reply
use Rattle.vz_rules.specs.{Plan.Plan, Damage.aggregation_of, Damage.drawn_damage, Messages.Answer, Messages.says}
use Rattle.vz_rules.specs.World.{World, Scene, FrameData, Aggregation, frame_on}
use Rattle.vz_rules.specs.{Walk.Visit, Walk.walk_of, Walk.walked_subs, Step.scene_answer, Step.draw_answer, Step.accepted_frames}
use Rattle.vz_damage.specs.{Told.Told, Told.Damaged, Told.told_on, Told.with_seen, Measured.without_indices, Measured.what_changed}
use Rattle.vz_damage.specs.Accepted.{scene_from}
use Rattle.vz_surface_manager.specs.{Told_damage.AreTold, Told_damage.index_of, Told_damage.index_on, Allowed.Draws, Allowed.drawn_reply}
use Rattle.vz_surface_manager.proofs.Absent.{no_frame}
use Rattle.std.proofs.lemmas.Bool.Decides.{nat_tests}

abbrev Where : Bool → Told → Option Told
Where t y = cond t (Some y) None

where_seen : (t : Bool) (y : Told) → option_map with_seen (Where t y) ≡ Where t (with_seen y)
where_seen t y = grind (arith, nat_tests)

-- the index of each active frame is remembered
remembered : (id : SurfaceId) (root : SurfaceId) (walked : List Visit) (active : List FrameData)
    → index_on (Some (aggregation_of (record { root = root; active = active }) walked)) id ≡ index_of (frame_on id active)
unfolding aggregation_of
remembered id root walked [] = refl
remembered id root walked (i ∷ active) = grind (arith, nat_tests, remembered id root walked active)

module _ (p : Plan) (w : World) (root : SurfaceId) (k : Draws p w root) where
  abbrev scene : Scene
  scene = scene_from root w

  abbrev walked : List Visit
  walked = walk_of p.size scene

  abbrev damage : Rectangle
  damage = drawn_damage p.size w.last (accepted_frames w) root walked

  abbrev now : Option Aggregation
  now = Some (aggregation_of scene walked)

  -- what is answered where nothing changed, and where this did
  abbrev answered : Bool → Answer
  answered t =
      cond t (says reply.Unchanged (record w { last = now }))
      (says (reply.Drawn damage) (record w { last = now; in_flight = Some (walked_subs scene walked) }))

  answer_is : draw_answer p w ≡ answered (is_some w.last && is_empty_rect damage)
  unfolding draw_answer scene_answer
  answer_is = grind (arith, nat_tests)

  -- The answer

  reply_by : (t : Bool) → (answered t).reply ≡ drawn_reply (cond t None (Some damage))
  reply_by t = grind (arith, nat_tests)

  some_map : (o : Option Aggregation) → is_some (option_map without_indices o) ≡ is_some o
  some_map o = grind (arith, nat_tests)

  -- what a drawing answers is what the damage tells
  pub reply_drawn : (d : Damaged) (r : Rectangle) → AreTold w d → r ≡ damage → (draw_answer p w).reply ≡ drawn_reply (what_changed d.last r)
  reply_drawn d r told e = grind (arith, nat_tests, answer_is, reply_by, some_map w.last)

  -- The world

  told_now : (d d' : Damaged) (f : Option (List Sub)) → AreTold w d
      → ((id : SurfaceId) → told_on d'.surfaces id ≡ option_map with_seen (told_on d.surfaces id))
      → d'.last ≡ option_map without_indices now → AreTold (record w { last = now; in_flight = f }) d'
  told_now d d' f told tells last = grind (arith, nat_tests, where_seen, remembered, no_frame)

  told_as : (d d' : Damaged) → AreTold w d → ((id : SurfaceId) → told_on d'.surfaces id ≡ option_map with_seen (told_on d.surfaces id))
      → d'.last ≡ option_map without_indices now → (t : Bool) → AreTold (answered t).world d'
  told_as d d' told tells last t = grind (arith, nat_tests, told_now d d' w.in_flight told tells last, told_now d d')

  pub told_drawn : (d d' : Damaged) → AreTold w d
      → ((id : SurfaceId) → told_on d'.surfaces id ≡ option_map with_seen (told_on d.surfaces id))
      → d'.last ≡ option_map without_indices now → AreTold (draw_answer p w).world d'
  told_drawn d d' told tells last = grind (arith, nat_tests, answer_is, told_as d d' told tells last)

-- Where nothing is drawn

either : (t : Bool) (a : Answer) (w : World) (d : Damaged) → AreTold w d → AreTold a.world d
    → AreTold (cond t (says reply.Busy w) a).world d
either t a w d told then = grind (arith, nat_tests)
