use Rattle.std.proofs.Common.{not, get_or, sym, ap, refl, ◌∙◌, arith, subst}
use Rattle.std.specs.Option.{option_to_list}
use Rattle.std.proofs.lemmas.List.{length-set}
use Rattle.vz_rules.specs.World.{Submission}
use Rattle.vz_state.specs.Holding.{feedback_by, fed_by}
use Rattle.vz_state.specs.Outs.{unfed, IsPutInto}
use Rattle.vz_state.proofs.Flagged.{changed, at_rest}
use Rattle.vz_state.proofs.Rooming.{put_none, put_next, put_all, room_for, feedback_gives, all_changed}
use Rattle.vz_state.proofs.returns.feed_all.Goals as goal

pub loop-k-init : goal.loop-k-init
loop-k-init c = record { count = refl; same = refl; told = put_none c.args.told.now }

pub feed-requires : goal.feed-requires
unfolding unfed
feed-requires c = λ none.
    let old = c.args.submissions.now in
    let k = c.loop-k.k in
    let d = c.index-submissions-k.result in
    let f = feedback_by c.args.in_flight.now c.args.presented.now in
    let own = ap (λ l. get_or l k d) c.loop-k.invariant.same ∙ at_rest (fed_by c.args.in_flight.now c.args.presented.now) old k d c.loop-k-test.true in
    room_for f (λ s. not s.fed) old k d c.args.told.now c.loop-k.told (feedback_gives c.args.in_flight.now c.args.presented.now) c.loop-k-test.true c.requires
    c.loop-k.invariant.told (ap (λ (s : Submission). not s.fed) (sym own) ∙ ap not none)

pub loop-k-preserved : goal.loop-k-preserved
loop-k-preserved c =
    let old = c.args.submissions.now in
    let k = c.loop-k.k in
    let d = c.index-submissions-k.result in
    let f = feedback_by c.args.in_flight.now c.args.presented.now in
    let g = fed_by c.args.in_flight.now c.args.presented.now in
    let own = ap (λ l. get_or l k d) c.loop-k.invariant.same ∙ at_rest g old k d c.loop-k-test.true in
    record {
      count = length-set c.loop-k.submissions k c.feed.new.self ∙ c.loop-k.invariant.count;
      same = changed g old c.loop-k.submissions k d c.feed.new.self c.loop-k-test.true c.loop-k.invariant.same (λ _. c.feed.ensures.submission);
      told = put_next f old k d c.args.told.now c.loop-k.told c.feed.new.told c.loop-k-test.true c.loop-k.invariant.told
          (subst (λ (s : Submission). IsPutInto c.loop-k.told c.feed.new.told (option_to_list (f s))) own c.feed.ensures.told);
    }

pub returns-clause-submissions : goal.returns-clause-submissions
returns-clause-submissions c = c.loop-k.invariant.same ∙ all_changed (fed_by c.args.in_flight.now c.args.presented.now) c.args.submissions.now c.loop-k.k (omega arith)

pub returns-clause-told : goal.returns-clause-told
returns-clause-told c = put_all (feedback_by c.args.in_flight.now c.args.presented.now) c.args.submissions.now c.loop-k.k c.args.told.now c.loop-k.told (omega arith) c.loop-k.invariant.told
