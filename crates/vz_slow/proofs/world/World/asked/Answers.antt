use Rattle.std.proofs.Common.{◌==◌, find, sym, ap, ◌∙◌}
use Rattle.std.specs.Option.{option_copied}
use Rattle.vz_rules.specs.World.{World, Client, client_at}
use Rattle.vz_slow.proofs.Asking.{some_asked}
use Rattle.vz_slow.proofs.world.World.asked.Goals as goal

pub returns-in-Some : goal.returns-in-Some
returns-in-Some c =
    let found = ap (λ (w : World). client_at w c.args.c) (sym c.self.view_is)
    ∙ (ap (find (λ (x : Client). x.number == c.args.c)) (sym c.deref.ensures.value) ∙ (sym c.client_of.ensures ∙ ap option_copied c.in-Some.is)) in
    some_asked c.args.plan.now c.args.self.now c.args.c c.in-Some.client.now c.asked_of.result found
    (c.asked_of.ensures c.args.self.now (ap (λ (w : World). w.tick) (sym c.self.view_is)) (ap (λ (w : World). w.over) (sym c.self.view_is)))
