use Rattle.std.proofs.Common.{◌++◌, List, map, ap, ◌∙◌}
use Rattle.vz_rules.specs.Settle.{ready}
use Rattle.vz_state.specs.declared.risen.Risen.{Risen}
use Rattle.vz_slow.proofs.Rounds.{subs_noted, round_meets}
use Rattle.vz_slow.proofs.world.World.settle_once.Goals as goal

pub returns-clause-met : goal.returns-clause-met
returns-clause-met c =
    round_meets c.args.self.now c.round.new.self c.args.ever_active.now c.add_risen.new.met c.deref.result.now c.round.ensures (c.deref.ensures.value ∙ c.in_ok-signs.ensures.risen)
    c.in_ok-add_risen.ensures c.requires

pub returns-clause-all : goal.returns-clause-all
returns-clause-all c =
    let w = c.args.self.now in
    c.in_ok-append.ensures.items ∙ ap (λ l. c.args.all.now.items ++ l) (c.in_ok-subs_of.ensures
    ∙ (ap (λ (l : List Risen). map (λ (r : Risen). r.sub) l) (c.deref-2.ensures.value ∙ c.in_ok-signs.ensures.risen) ∙ subs_noted w.surfaces (ready w)))
