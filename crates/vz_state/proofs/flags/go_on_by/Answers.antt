use Rattle.std.proofs.Common.{◌<◌, ◌&&◌, Bool, true, false, get_or, if◌then◌else◌, ap, ◌∙◌, arith, length}
use Rattle.vz_rules.specs.World.{Submission, is_active}
use Rattle.vz_rules.specs.declared.entry.State.TheVariants.{Active, Past}
use Rattle.std.proofs.lemmas.List.{length-set}
use Rattle.vz_state.proofs.Flagged.{changed, flag_at}
use Rattle.vz_state.proofs.flags.go_on_by.Goals as goal

-- a submission by its two flags
abbrev gone_on : Submission → Bool → Bool → Submission
gone_on s a b = if a then record s { state = Active; was_active = true } else (if is_active s && b then record s { state = Past } else s)

pub loop-k-preserved : goal.loop-k-preserved
loop-k-preserved c =
    let k = c.loop-k.k in
    let old = c.args.submissions.now in
    let within : k < length old = omega arith in
    let d = c.index-submissions-k.result in
    let s = get_or c.loop-k.submissions k d in
    record {
      count = length-set c.loop-k.submissions k c.go_on.new.self ∙ c.loop-k.invariant.count;
      same = λ p q ps qs. changed (λ x. gone_on x (p x) (q x)) old c.loop-k.submissions k d c.go_on.new.self within (c.loop-k.invariant.same p q ps qs) (λ was.
          c.go_on.ensures ∙ (ap (λ (a : Bool). gone_on s a (get_or c.args.replaced.now k false)) (flag_at p old c.args.becomes.now k s d false within ps was)
          ∙ ap (λ (b : Bool). gone_on s (p s) b) (flag_at q old c.args.replaced.now k s d false within qs was)));
    }
