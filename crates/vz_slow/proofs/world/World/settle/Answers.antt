use Rattle.std.proofs.Common.{◌-◌, ◌++◌, refl, sym, ap, ◌∙◌, map, arith}
use Rattle.std.specs.List.{list_any}
use Rattle.vz_rules.specs.World.{World, sub_of}
use Rattle.vz_rules.specs.Settle.{settle, activated_in, rounds, activated_over, ready}
use Rattle.vz_state.specs.Rising.{meets}
use Rattle.vz_slow.proofs.Rounds.{rounds_next, activated_next, rounds_end, activated_end, append_none, rounds_zero, activated_zero, joined}
use Rattle.vz_slow.proofs.world.World.settle.Goals as goal

pub loop-left-init : goal.loop-left-init
unfolding settle activated_in
loop-left-init c =
    record {
      same = ap (λ n. rounds n c.args.self.now) (sym c.accepted-left.ensures);
      met = λ d. c.in_ok-ever_active.ensures d ∙ ap (list_any (meets d)) (c.deref.ensures.value ∙ ap (λ (u : World). u.subs) c.self.view_is);
      active = ap (λ n. activated_over n c.args.self.now) (sym c.accepted-left.ensures) ∙ ap (λ l. l ++ activated_over c.accepted-left.result c.args.self.now) (sym c.new-all.ensures.items);
    }

pub returns-then-not-branch-clause-activated : goal.returns-then-not-branch-clause-activated
returns-then-not-branch-clause-activated c =
    let none = c.in_ok-settle_once.ensures.end c.if-not-branch.true in
    c.in_ok-settle_once.ensures.all
    ∙ (ap (λ l. c.loop-left.all.items ++ l) none ∙ sym (c.loop-left.invariant.active ∙ ap (λ l. c.loop-left.all.items ++ l) (activated_end c.loop-left.left c.loop-left.self none)))

pub returns-then-not-branch-clause-world : goal.returns-then-not-branch-clause-world
returns-then-not-branch-clause-world c =
    c.in_ok-settle_once.ensures.world ∙ sym (c.loop-left.invariant.same ∙ rounds_end c.loop-left.left c.loop-left.self (c.in_ok-settle_once.ensures.end c.if-not-branch.true))

pub loop-left-preserved : goal.loop-left-preserved
loop-left-preserved c =
    let w = c.loop-left.self in
    record {
      met = c.in_ok-settle_once.ensures.met;
      same = c.loop-left.invariant.same ∙ (rounds_next c.loop-left.left w (omega arith) ∙ ap (rounds (c.loop-left.left - 1)) (sym c.in_ok-settle_once.ensures.world));
      active = joined c.loop-left.all.items (map sub_of (ready w)) (map sub_of (ready w)) _ _ _ c.in_ok-settle_once.ensures.all refl
          (c.loop-left.invariant.active ∙ ap (λ l. c.loop-left.all.items ++ l) (activated_next c.loop-left.left w (omega arith)
          ∙ ap (λ x. map sub_of (ready w) ++ activated_over (c.loop-left.left - 1) x) (sym c.in_ok-settle_once.ensures.world)));
    }

pub returns-clause-activated : goal.returns-clause-activated
returns-clause-activated c =
    sym (c.loop-left.invariant.active ∙ (ap (λ l. c.loop-left.all.items ++ l) (activated_zero c.loop-left.left c.loop-left.self (omega arith)) ∙ append_none c.loop-left.all.items))

pub returns-clause-world : goal.returns-clause-world
returns-clause-world c = sym (c.loop-left.invariant.same ∙ rounds_zero c.loop-left.left c.loop-left.self (omega arith))
