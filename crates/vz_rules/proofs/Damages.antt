-- The damage that a drawing of a history tells is that of its claims.
use Rattle.std.proofs.Common.{◌≡◌, true, Option, Some, None, List, [], ◌∷◌, ◌++◌, ap, sym, ◌∙◌, cond, subst}
use Rattle.vz_geom.specs.Rectangle.{Rectangle, is_empty_rect, bound, sized}
use Rattle.vz_rules.specs.Plan.{Plan}
use Rattle.vz_rules.specs.declared.entry.Entry.{Entry}
use Rattle.vz_rules.specs.declared.entry.Reply.TheVariants as reply
use Rattle.vz_rules.specs.World.{World, Scene}
use Rattle.vz_rules.specs.Scene.{scene_of}
use Rattle.vz_rules.specs.Walk.{walk_of}
use Rattle.vz_rules.specs.Damage.{claims, drawn_damage}
use Rattle.vz_rules.specs.Step.{accepted_frames, entry_in, world, Legal}
use Rattle.vz_rules.specs.Whole.{had_root, claims_after, damage_after}
use Rattle.vz_rules.proofs.Prefixes.{legal-at}
use Rattle.vz_rules.proofs.Drawings.{Says, damage_in, says_step}

bound_by : (p : Plan) (w : World) (scene : Scene) (o : Option Scene) → o ≡ Some scene
    → bound (elim o [
      | Some s ↦ claims p.size w.last (accepted_frames w) s.root (walk_of p.size s)
      | None ↦ cond (had_root w.last w.root) [] (sized p.size ∷ [])
    ]) ≡ damage_in p w scene
unfolding drawn_damage
bound_by p w scene None e = absurd (cc)
bound_by p w scene (Some s) e = let same : s ≡ scene = cc in ap (damage_in p w) same

-- where something can be seen it is that of the scene
damage_seen : (p : Plan) (h : List Entry) (scene : Scene) → scene_of (world p h) ≡ Some scene → damage_after p h ≡ damage_in p (world p h) scene
unfolding damage_after claims_after
damage_seen p h scene e = bound_by p (world p h) scene (scene_of (world p h)) e

says_at : (p : Plan) (h : List Entry) (e : Entry) (k : List Entry) → Legal p (h ++ e ∷ k) → Says p (world p h) e.reply
unfolding entry_in
says_at p h e k l = subst (λ (x : Entry). Says p (world p h) x.reply) (sym (legal-at p h k e l).1) (says_step p (world p h) e.event)

pub drawn_tells : (p : Plan) (h : List Entry) (e : Entry) (k : List Entry) (damage : Rectangle) → Legal p (h ++ e ∷ k) → e.reply ≡ reply.Drawn damage → damage ≡ damage_after p h
drawn_tells p h e k damage l is =
    let seen = subst (Says p (world p h)) is (says_at p h e k l) in
    seen.2 ∙ sym (damage_seen p h seen.0 seen.1)

pub unchanged_tells : (p : Plan) (h : List Entry) (e : Entry) (k : List Entry) → Legal p (h ++ e ∷ k) → e.reply ≡ reply.Unchanged → is_empty_rect (damage_after p h) ≡ true
unchanged_tells p h e k l is =
    let seen = subst (Says p (world p h)) is (says_at p h e k l) in
    ap is_empty_rect (damage_seen p h seen.0 seen.1) ∙ seen.3
