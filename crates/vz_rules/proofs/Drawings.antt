-- What the reply to a drawing says of the scene and its damage.
use Rattle.std.proofs.Common.{◌≡◌, true, false, Some, refl}
use Rattle.std.specs.Prelude.{is_some}
use Rattle.std.proofs.lemmas.Bool.{cond_both}
use Rattle.vz_geom.specs.Rectangle.{is_empty_rect}
use Rattle.vz_rules.specs.Plan.{Plan}
use Rattle.vz_rules.specs.declared.entry.Event.{Event}
use Rattle.vz_rules.specs.declared.entry.Event.TheVariants as event
use Rattle.vz_rules.specs.declared.entry.Reply.{Reply}
use Rattle.vz_rules.specs.declared.entry.Reply.TheVariants as reply
use Rattle.vz_rules.specs.World.{World, Scene}
use Rattle.vz_rules.specs.Scene.{scene_of}
use Rattle.vz_rules.specs.Messages.{Answer, accepted}
use Rattle.vz_rules.specs.Step.{begin_answer, done_answer, answer_to, outcome_of, step_in}
pub use Rattle.vz_rules.proofs.Cases.{damage_in}
use Rattle.vz_rules.specs.Whole.{is_aggregation}
use Rattle.vz_rules.proofs.Cases.{few_cases, drawing_cases}

-- a drawing's damage is that of what is seen, and where it is empty nothing is drawn
abbrev pub Says : Plan → World → Reply → Type 0
Says p w (reply.Drawn damage) = (scene : Scene) × (scene_of w ≡ Some scene) × (damage ≡ damage_in p w scene)
Says p w reply.Unchanged = (scene : Scene) × (scene_of w ≡ Some scene) × (is_some w.last ≡ true) × (is_empty_rect (damage_in p w scene) ≡ true)
Says p w _ = Unit {0}

abbrev Said : Plan → World → Answer → Type 0
Said p w a = Says p w a.reply

says_other : (p : Plan) (w : World) (r : Reply) → is_aggregation r ≡ false → Says p w r
says_other p w (reply.Drawn damage) h = absurd (cc)
says_other p w reply.Unchanged h = absurd (cc)
says_other p w _ h = tt

says_answer : (p : Plan) (w : World) (e : Event) → Said p w (answer_to p w e)
unfolding answer_to accepted begin_answer done_answer
says_answer p w (event.Client n) =
    few_cases p w n (Said p w) (record { others = λ r e a clients root relations. says_other p w r e; submitted = λ c e number local frame good at. tt; left = λ c clients. tt })
says_answer p w event.Begin = tt
says_answer p w event.Draw = drawing_cases p w (Said p w) tt tt (λ scene idle e. record { much = tt; unchanged = λ some none. (scene, e, some, none); drawn = λ full. (scene, e, refl) })
says_answer p w event.Done = cond_both (is_some w.in_flight) _ _ (Said p w) (λ e. tt) (λ e. tt)
says_answer p w event.Over = tt

pub says_step : (p : Plan) (w : World) (e : Event) → Says p w (step_in p w e).reply
unfolding step_in outcome_of
says_step p w e = says_answer p w e
