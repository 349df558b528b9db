use Rattle.std.proofs.Common.{ap, sym, ◌∙◌, ◌++◌, ◌∷◌, [], take, length, arith}
use Rattle.vz_occlude.specs.declared.bound.TheConstants.{MOST_OCCLUDERS}
use Rattle.vz_occlude.specs.Occluders.{listed_if}
use Rattle.vz_occlude.specs.Roles.{occludes}
use Rattle.vz_occlude.proofs.Taken.{occluder_full, occluder_not, occluder_more}
use Rattle.vz_occlude.proofs.occluder.put_occluder.Goals as goal

pub returns-then-len-start-ge-MOST_OCCLUDERS : goal.returns-then-len-start-ge-MOST_OCCLUDERS
returns-then-len-start-ge-MOST_OCCLUDERS c outer own e is =
    let long = c.len.ensures.value ∙ ap length is in
    let many = c.if-len-start-ge-MOST_OCCLUDERS.true in
    is ∙ occluder_full outer own c.args.area.now (occludes c.args.op.now) c.args.start e (omega (arith, long, many))

pub returns-then-not-occludes : goal.returns-then-not-occludes
returns-then-not-occludes c outer own e is =
    is ∙ occluder_not outer own c.args.area.now (occludes c.args.op.now) (sym c.occludes.ensures ∙ c.if-not-occludes.true)

pub returns : goal.returns
returns c outer own e is =
    let long = c.len.ensures.value ∙ ap length is in
    let few = c.if-len-start-ge-MOST_OCCLUDERS.false in
    c.in_ok-push.ensures.ok ∙ ap (λ x. c.args.occluders.now.items ++ x ∷ []) c.new.ensures ∙ (ap (λ rs. rs ++ c.args.area.now ∷ []) is
    ∙ (occluder_more outer own c.args.area.now c.args.start e (omega (arith, long, few))
    ∙ ap (λ t. outer ++ take MOST_OCCLUDERS (own ++ listed_if t c.args.area.now)) (sym (sym c.occludes.ensures ∙ c.if-not-occludes.false))))
