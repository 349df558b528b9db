use Rattle.std.proofs.Common.{true, false, Some, None, refl, sym, ap, ◌∙◌}
use Rattle.std.specs.List.{list_any}
use Rattle.vz_rules.specs.Messages.{is_unknown}
use Rattle.vz_state.proofs.Submitting.{refusal_is}
use Rattle.vz_state.proofs.refusal.submit_refusal.Goals as goal

pub returns-in-Err : goal.returns-in-Err
returns-in-Err c = refusal_is _ _ _ _ (Some c.in-Err.rule) _ _ _ c.in-Err.ensures.broken refl refl refl

pub returns-then-has_unknown : goal.returns-then-has_unknown
returns-then-has_unknown c = refusal_is _ _ _ _ None true _ _ c.in-Ok.ensures.kept (ap (list_any (is_unknown c.args.resources.now)) (sym c.as_slice.ensures) ∙ (sym c.has_unknown.ensures ∙ c.if-has_unknown.true)) refl refl

pub returns-then-violates : goal.returns-then-violates
returns-then-violates c = refusal_is _ _ _ _ None false true _ c.in-Ok.ensures.kept (ap (list_any (is_unknown c.args.resources.now)) (sym c.as_slice.ensures) ∙ (sym c.has_unknown.ensures ∙ c.if-has_unknown.false)) (sym c.violates.ensures ∙ c.if-violates.true) refl

pub returns-then-has_other_size : goal.returns-then-has_other_size
returns-then-has_other_size c = refusal_is _ _ _ _ None false false true c.in-Ok.ensures.kept (ap (list_any (is_unknown c.args.resources.now)) (sym c.as_slice.ensures) ∙ (sym c.has_unknown.ensures ∙ c.if-has_unknown.false)) (sym c.violates.ensures ∙ c.if-violates.false) (sym c.has_other_size.ensures ∙ c.if-has_other_size.true)

pub returns : goal.returns
returns c = refusal_is _ _ _ _ None false false false c.in-Ok.ensures.kept (ap (list_any (is_unknown c.args.resources.now)) (sym c.as_slice.ensures) ∙ (sym c.has_unknown.ensures ∙ c.if-has_unknown.false)) (sym c.violates.ensures ∙ c.if-violates.false) (sym c.has_other_size.ensures ∙ c.if-has_other_size.false)
