use Rattle.std.proofs.Common.{◌≡◌, eq-eqb, ◌∙◌, arith}
use Rattle.std.proofs.lemmas.Bool.Decides.{nat_tests}
use Rattle.vz_slow.proofs.Answering.{root_refused, root_named, number_is}
use Rattle.vz_slow.proofs.world.World.name_root.Goals as goal

pub returns-then-c-ne1 : goal.returns-then-c-ne1
returns-then-c-ne1 c = λ x h e. c.in_ok-refuse.ensures.value x h ∙ root_refused c.args.self.now x c.args.local
    (let n : x.number ≡ c.args.c = number_is c.args.self.now c.args.c x h in let t = c.if-c-ne1.true in grind (arith, nat_tests))

pub returns : goal.returns
returns c = λ x h e.
    root_named c.args.self.now _ x c.args.sink c.args.local (eq-eqb _ _ (number_is c.args.self.now c.args.c x h ∙ c.if-c-ne1.false)) e (c.self.view_is ∙ c.in_ok-change.ensures x h)
