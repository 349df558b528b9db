use Rattle.std.proofs.Common.{◌≡◌, ◌-◌, ◌++◌, ◌∷◌, [], List, length, sym, ap, ◌∙◌, arith}
use Rattle.std.specs.List.{flat_map}
use Rattle.vz_ids.specs.declared.FrameSinkId.{FrameSinkId}
use Rattle.vz_ids.specs.Ids.{same_sink}
use Rattle.vz_rules.specs.Closure.{closure, adding}
use Rattle.vz_rules.specs.Messages.{children}
use Rattle.vz_state.proofs.Closing.{closure_next, closure_zero, closure_end}
use Rattle.vz_state.proofs.sinks.reached.Goals as goal

pub loop-left-init : goal.loop-left-init
loop-left-init c =
    ap (closure same_sink (children c.args.relations.now) (length c.args.relations.now))
    (sym (c.in_ok-push.ensures.items ∙ ap (λ (l : List FrameSinkId). l ++ c.args.a ∷ []) c.new-sinks.ensures.items))

pub returns-then-len-before : goal.returns-then-len-before
returns-then-len-before c =
    let next = children c.args.relations.now in
    let others = c.deref-in-loop-left.ensures.value ∙ (c.in_ok-others.ensures ∙ ap (flat_map next) c.deref.ensures.value) in
    let as_many : length c.add_all.new.sinks.items ≡ length c.loop-left.sinks.items =
    omega (arith, c.add_all.new.sinks.ok.0, c.loop-left.sinks.ok.0, c.len.ensures, c.if-len-before.true, c.len-before.ensures) in
    sym (c.loop-left.invariant ∙ closure_end same_sink next c.loop-left.left c.loop-left.sinks.items _ c.add_all.new.sinks.items others c.in_ok-add_all.ensures as_many)

pub loop-left-preserved : goal.loop-left-preserved
loop-left-preserved c =
    let next = children c.args.relations.now in
    let others = c.deref-in-loop-left.ensures.value ∙ (c.in_ok-others.ensures ∙ ap (flat_map next) c.deref.ensures.value) in
    c.loop-left.invariant ∙ (closure_next same_sink next c.loop-left.left c.loop-left.sinks.items (omega arith)
    ∙ ap (closure same_sink next (c.loop-left.left - 1)) (ap (adding same_sink c.loop-left.sinks.items) (sym others) ∙ sym c.in_ok-add_all.ensures))

pub returns : goal.returns
returns c = sym (c.loop-left.invariant ∙ closure_zero same_sink (children c.args.relations.now) c.loop-left.left c.loop-left.sinks.items (omega arith))
