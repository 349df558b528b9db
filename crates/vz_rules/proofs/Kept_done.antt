-- What follows the end of a drawn frame, and the end of all: between steps nothing becomes active and nothing is destroyed.
use Rattle.std.proofs.Common.{◌≡◌, true, Option, Some, None, cond, unwrap_or, List, [], refl, ap, ◌∙◌}
use Rattle.std.specs.Prelude.{is_some}
use Rattle.vz_ids.specs.declared.Sub.{Sub}
use Rattle.vz_rules.specs.declared.entry.Fed.{Fed}
use Rattle.vz_rules.specs.declared.entry.Lost.{Lost}
use Rattle.vz_rules.specs.declared.entry.Reply.{Reply}
use Rattle.vz_rules.specs.declared.entry.Reply.TheVariants as reply
use Rattle.vz_rules.specs.declared.entry.Event.TheVariants as event
use Rattle.vz_rules.specs.declared.entry.Returned.{Returned}
use Rattle.vz_rules.specs.Plan.{Plan}
use Rattle.vz_rules.specs.World.{World}
use Rattle.vz_rules.specs.Settle.{is_met, has_come, is_ready, ready}
use Rattle.vz_rules.specs.Reach.{is_named_now, naming, roots, reach, lost_in, collect, destroyed_in}
use Rattle.vz_rules.specs.Scene.{shown}
use Rattle.vz_rules.specs.Returns.{give_back, returned_in, feed, fed_in}
use Rattle.vz_rules.specs.Messages.{says}
use Rattle.vz_rules.specs.Step.{Outcome, done_answer, answer_to, outcome_of, step_in}
use Rattle.vz_rules.specs.Kept.{Keeps, no_effects}
use Rattle.vz_rules.specs.Ends.{landed, presenting}
use Rattle.vz_rules.proofs.Kept_answers.{keeps_over}
use Rattle.vz_rules.proofs.Kept_collected.{collect_stays}
use Rattle.vz_rules.proofs.Kept_quiet.{settle_stays, activated_none, destroyed_none, nothing_follows}

landed_ready : (w : World) → ready (landed w) ≡ ready w
unfolding ready is_ready has_come is_met
landed_ready w = refl

landed_named : (w : World) → naming w ≡ w → naming (landed w) ≡ landed w
unfolding naming is_named_now
landed_named w h = ap landed h

landed_lost : (w : World) → lost_in (landed w) ≡ lost_in w
unfolding lost_in reach roots shown
landed_lost w = refl

given_fed : (drawn : List Sub) (w : World) → fed_in drawn (give_back w) ≡ fed_in drawn w
unfolding fed_in give_back
given_fed drawn w = refl

same_outcomes : (r : Reply) (w v : World) (as' bs : List Sub) (cs ds : List Lost) (es fs : List Returned) (gs hs : List Fed) → as' ≡ bs → cs ≡ ds → es ≡ fs → gs ≡ hs
    → v ≡ w
    → ◌≡◌ {A = Outcome} (record { reply = r; effects = record { activated = as'; destroyed = cs; returned = es; fed = gs }; world = v }) (record { reply = r; effects = record { activated = bs; destroyed = ds; returned = fs; fed = hs }; world = w })
same_outcomes r w v as' bs cs ds es fs gs hs a b c d e = cc

-- where nothing is ready, named or lost, returns and feedback alone follow
presents : (drawn : List Sub) (w : World) → ready w ≡ [] → naming w ≡ w → lost_in w ≡ [] → outcome_of drawn (record { reply = reply.Shown; world = w }) ≡ presenting drawn w
unfolding outcome_of
presents drawn w none named lost =
    let settled = settle_stays w none in
    let collected = ap collect settled ∙ collect_stays w named lost in
    same_outcomes reply.Shown (feed drawn (give_back w)) _ _ [] _ [] _ (returned_in w) _ (fed_in drawn w)
    (activated_none w none)
    (ap destroyed_in settled ∙ destroyed_none w named lost)
    (ap returned_in collected)
    (ap (λ v. fed_in drawn (give_back v)) collected ∙ given_fed drawn w)
    (ap (λ v. feed drawn (give_back v)) collected)

-- the end of a drawn frame
pub done_presents : (p : Plan) (w : World) (drawn : List Sub) → Keeps w → w.in_flight ≡ Some drawn → step_in p w event.Done ≡ presenting drawn (landed w)
unfolding step_in answer_to done_answer
done_presents p w drawn h e =
    rw e (presents drawn (landed w) (landed_ready w ∙ h.none_ready) (landed_named w h.all_named) (landed_lost w ∙ h.none_lost))

idles_by : (w : World) (o : Option (List Sub)) → Keeps w → o ≡ None
    → outcome_of (unwrap_or o []) (cond (is_some o) (says reply.Shown (landed w)) (says reply.Nothing w)) ≡ record { reply = reply.Nothing; effects = no_effects; world = w }
idles_by w None h e = nothing_follows reply.Nothing w h
idles_by w (Some drawn) h e = absurd (cc)

pub done_idles : (p : Plan) (w : World) → Keeps w → w.in_flight ≡ None → step_in p w event.Done ≡ record { reply = reply.Nothing; effects = no_effects; world = w }
unfolding step_in answer_to done_answer
done_idles p w h e = idles_by w w.in_flight h e

-- the end
pub over_idles : (p : Plan) (w : World) → Keeps w → step_in p w event.Over ≡ record { reply = reply.Ended; effects = no_effects; world = record w { over = true } }
unfolding step_in answer_to
over_idles p w h = nothing_follows reply.Ended (record w { over = true }) (keeps_over p w h)
