use Rattle.std.proofs.Common.{length, sym, ap, ◌∙◌, arith}
use Rattle.vz_outside.proofs.Calls.{ran_none}
use Rattle.viz_run.specs.Read.{contents}
use Rattle.viz_run.specs.Refusals.{file_refused, plan_read}
use Rattle.viz_run.proofs.Stopping.{stops_at}
use Rattle.viz_run.proofs.Admitting.{input_of}
use Rattle.viz_run.proofs.planning.read_plan.Goals as goal

pub returns-in_err-inputs-clause-behaves : goal.returns-in_err-inputs-clause-behaves
returns-in_err-inputs-clause-behaves g c =
    let s = g.F.Shelf.shelved c.args.shelf.now in
    stops_at c.in_err-inputs.field-0.0 c.from_residual.result s s _ c.from_residual.ensures.1 (ran_none s) c.in_err-inputs.ensures.behaves
    (λ missing. missing)

pub plan_of-requires-clause-some : goal.plan_of-requires-clause-some
plan_of-requires-clause-some g c = omega (arith, ap length c.deref.ensures.value, c.in_ok-inputs.ensures.all, c.requires.some)

pub plan_of-requires-clause-few : goal.plan_of-requires-clause-few
plan_of-requires-clause-few g c = omega (arith, ap length c.deref.ensures.value, c.in_ok-inputs.ensures.all, c.requires.few)

pub returns-in_err-plan_of-clause-input : goal.returns-in_err-plan_of-clause-input
returns-in_err-plan_of-clause-input g c =
    let files = c.in_ok-inputs.inputs.items in
    input_of c.in_err-plan_of.field-0.0 c.from_residual-in_err-plan_of.result _ c.from_residual-in_err-plan_of.ensures.1
    (λ x is. (
      contents files,
      record {
        read = c.in_ok-inputs.ensures.read;
        first = ap (λ fs. file_refused (contents fs)) (sym c.deref.ensures.value) ∙ c.in_err-plan_of.ensures.refused x is;
      },
    ))

pub returns-clause-planned : goal.returns-clause-planned
returns-clause-planned g c =
    let files = c.in_ok-inputs.inputs.items in (
      contents files,
      record {
        read = c.in_ok-inputs.ensures.read;
        good = ap (λ fs. file_refused (contents fs)) (sym c.deref.ensures.value) ∙ c.in_ok-plan_of.ensures.accepted;
        plan = c.in_ok-plan_of.ensures.plan ∙ ap (λ fs. plan_read c.args.size (contents fs)) c.deref.ensures.value;
      },
    )
