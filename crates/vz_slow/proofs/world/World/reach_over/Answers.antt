use Rattle.std.proofs.Common.{◌≡◌, drop, length, refl, sym, ap, ◌∙◌, subst, arith}
use Rattle.std.specs.List.{flat_map}
use Rattle.vz_ids.specs.Ids.{same_surface}
use Rattle.vz_rules.specs.Closure.{closure}
use Rattle.vz_rules.specs.Reach.{referenced}
use Rattle.vz_rules.proofs.Reached.{self_same}
use Rattle.vz_state.proofs.Closing.{closure_zero}
use Rattle.vz_slow.proofs.Asked_once.{AreAsked, rest_is, adding_more, all_asked, step_on, step_last}
use Rattle.vz_slow.proofs.world.World.reach_over.Goals as goal

pub loop-left-init : goal.loop-left-init
loop-left-init c =
    let next = referenced c.args.self.now in
    record {
      left = ap (closure same_surface next (length c.args.active.now)) (sym c.in_ok-ids.ensures)
          ∙ ap (λ l. closure same_surface next (length l) c.in_ok-ids.ids) (sym c.as_slice-left.ensures);
      within = omega arith;
      asked = refl;
    }

pub returns-then-as_slice-asked : goal.returns-then-as_slice-asked
returns-then-as_slice-asked c =
    let next = referenced c.args.self.now in
    let others = c.deref.ensures.value ∙ (c.in_ok-others.ensures ∙ ap (flat_map next) (rest_is c.loop-left.asked c.as_slice.result.now ∙ ap (drop c.loop-left.asked) c.as_slice.ensures)) in
    let now = ap length c.as_slice-in-loop-left.ensures in
    let before = ap length c.as_slice-asked.ensures in
    let as_many : length c.add_all.new.self ≡ length c.loop-left.ids = omega (arith, now, before, c.if-as_slice-asked.true) in
    step_last same_surface self_same next c.loop-left.left c.loop-left.asked _ c.loop-left.ids c.deref.result.now c.add_all.new.self
    c.loop-left.invariant.left c.loop-left.invariant.asked others c.in_ok-add_all.ensures as_many

pub loop-left-preserved : goal.loop-left-preserved
loop-left-preserved c =
    let next = referenced c.args.self.now in
    let others = c.deref.ensures.value ∙ (c.in_ok-others.ensures ∙ ap (flat_map next) (rest_is c.loop-left.asked c.as_slice.result.now ∙ ap (drop c.loop-left.asked) c.as_slice.ensures)) in
    let before = ap length c.as_slice-asked.ensures in
    let more = adding_more same_surface self_same c.deref.result.now c.loop-left.ids c.add_all.new.self c.in_ok-add_all.ensures in
    record {
      left = step_on same_surface self_same next c.loop-left.left c.loop-left.asked _ c.loop-left.ids c.deref.result.now c.add_all.new.self
          c.loop-left.invariant.left (omega arith) c.loop-left.invariant.asked others c.in_ok-add_all.ensures;
      within = omega (arith, before, more);
      asked = subst (λ n. AreAsked same_surface self_same next n c.add_all.new.self) (sym before)
          (all_asked same_surface self_same next c.loop-left.asked c.loop-left.ids c.deref.result.now c.add_all.new.self c.loop-left.invariant.asked others c.in_ok-add_all.ensures);
    }

pub returns : goal.returns
returns c = sym (c.loop-left.invariant.left ∙ closure_zero same_surface (referenced c.args.self.now) c.loop-left.left c.loop-left.ids (omega arith))
