use Rattle.std.proofs.Common.{None, length, refl, ap, sym, ◌∙◌, subst, arith}
use Rattle.vz_rules.specs.declared.entry.Event.TheVariants as event
use Rattle.vz_rules.specs.Step.{begin_answer}
use Rattle.vz_returns.specs.Lent.{NoneReleased, resources_out}
use Rattle.vz_surface_manager.specs.Live.{Live}
use Rattle.vz_manager.specs.Serving.{Served, Serves}
use Rattle.vz_manager.proofs.Following.{step_of}
use Rattle.vz_manager.proofs.Own_changes.{always_begun, begin_sent, ticked}
use Rattle.vz_manager.proofs.Rested.{begun_keeps, rest_serves}
use Rattle.vz_manager.proofs.parts.Parts.begin_at_rest.Goals as goal

pub ticked-requires : goal.ticked-requires
ticked-requires c = omega (arith, ap length (ap (λ (v : Served). v.settling.waiting.due) c.self.view_is ∙ c.requires.none_waits))

pub returns-clause-step : goal.returns-clause-step
returns-clause-step c p w old =
    let h = subst (Serves p w) (sym c.self.view_is) old in
    let next = ticked p w c.begin-tick.result (c.begin-tick.ensures.reply p w h.support) in
    step_of p w event.Begin (begin_answer p w) c.nothing_follows.result (begin_sent p w) refl
    (begun_keeps p w _ _ (record { live = c.tick.new.self; waiting = c.ticked.new.self })
    (record {
      serves = h;
      none_waits = ap (λ (v : Served). v.settling.waiting.due) c.self.view_is ∙ c.requires.none_waits;
      none_lasts = ap (λ (v : Served). v.settling.live.kept.temporary) c.self.view_is ∙ c.requires.none_lasts;
      kept = c.begin-tick.ensures.world p w h.support;
      stands = record {
        always = always_begun p w h.keeps.always;
        live = c.tick.ensures.live p w None h.keeps.always h.settling.live next;
        waiting = c.ticked.ensures.waits w p h.keeps.always h.keeps.none_ready h.settling.waiting next;
      };
      few = c.tick.ensures.temporary;
    }))
    (c.nothing_follows.ensures.reply ∙ sym (c.begin-tick.ensures.reply p w h.support)) c.nothing_follows.ensures.effects

pub returns-clause-serves : goal.returns-clause-serves
returns-clause-serves c p w old =
    let h = subst (Serves p w) (sym c.self.view_is) old in
    let next = ticked p w c.begin-tick.result (c.begin-tick.ensures.reply p w h.support) in
    rest_serves p w _ _ _
    (record {
      serves = h;
      none_waits = ap (λ (v : Served). v.settling.waiting.due) c.self.view_is ∙ c.requires.none_waits;
      none_lasts = ap (λ (v : Served). v.settling.live.kept.temporary) c.self.view_is ∙ c.requires.none_lasts;
      kept = c.begin-tick.ensures.world p w h.support;
      stands = record {
        always = always_begun p w h.keeps.always;
        live = c.tick.ensures.live p w None h.keeps.always h.settling.live next;
        waiting = c.ticked.ensures.waits w p h.keeps.always h.keeps.none_ready h.settling.waiting next;
      };
      few = c.tick.ensures.temporary;
    })
    (subst NoneReleased (sym (ap (λ (v : Live). v.lent) c.tick.ensures.rest)) h.released)
    (omega (arith, ap (λ (v : Live). resources_out v.lent) c.tick.ensures.rest))
