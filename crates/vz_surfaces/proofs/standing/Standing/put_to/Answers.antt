use Rattle.std.proofs.Common.{ap, sym, ◌∙◌, ◌++◌, map, length, append-nil, arith}
use Rattle.vz_surfaces.specs.declared.standing.Numbered.{Numbered}
use Rattle.vz_surfaces.specs.Numbers.{list_at}
use Rattle.vz_surfaces.proofs.Numbering.{none_up_to}
use Rattle.vz_surfaces.proofs.standing.Standing.put_to.Goals as goal

-- up to 0 there are none
pub returns-then-to-eq0-clause-list : goal.returns-then-to-eq0-clause-list
returns-then-to-eq0-clause-list c =
    let none = none_up_to (list_at c.args.self.now c.args.c) c.args.to c.requires.first c.if-to-eq0.true in
    sym (ap (λ l. c.args.out.now.list ++ map (λ (x : Numbered). x.id) l) none ∙ append-nil c.args.out.now.list)

pub returns-then-to-eq0-clause-spare : goal.returns-then-to-eq0-clause-spare
returns-then-to-eq0-clause-spare c =
    let none = none_up_to (list_at c.args.self.now c.args.c) c.args.to c.requires.first c.if-to-eq0.true in
    omega (arith, ap length none)
