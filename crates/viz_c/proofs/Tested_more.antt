-- What is hit once a tester has taken its events.
use Rattle.std.proofs.Common.{◌≡◌, ◌++◌, List, ap, subst, ◌∙◌}
use Rattle.vz_geom.specs.declared.Point.{Point}
use Rattle.vz_player.specs.Tested.{Tested, first_tested}
use Rattle.vz_rules.specs.{Plan.Plan, declared.entry.Event.Event, Hit.Target as Hit, Step.Legal, Whole.hit_last}
use Rattle.viz_run.specs.{Ends.events_in, Taken.HasTested}
use Rattle.viz_c.specs.Hitting.{IsHitIn}

-- what is hit at a tester's point after these events, of which it has taken each
pub hit_in :
    (p : Plan) (point : Point) (es : List Event) (first last : Tested) (hit : Hit) → first ≡ first_tested p point → HasTested es first last
    → Legal last.plan last.history → hit ≡ hit_last last.plan last.history last.point → IsHitIn p es point hit
hit_in p point es first last hit begun tested legal is =
    let plan : last.plan ≡ p = tested.plan ∙ ap (λ (t : Tested). t.plan) begun in
    let place : last.point ≡ point = tested.point ∙ ap (λ (t : Tested). t.point) begun in (
      last.history,
      record {
        legal = subst (λ (q : Plan). Legal q last.history) plan legal;
        all = tested.history ∙ ap (λ (t : Tested). events_in t.history ++ es) begun;
      },
      is ∙ (ap (λ (q : Plan). hit_last q last.history last.point) plan ∙ ap (λ (o : Point). hit_last p last.history o) place),
    )
