use Rattle.std.proofs.Common.{Option, List, length, refl, subst}
use Rattle.std.specs.Prelude.{IfSome, MatchOption}
use Rattle.vz_pixels.specs.Colour.{Colour}
use Rattle.vz_plain.specs.Painting.{embedded}
use Rattle.vz_plain.specs.Levels.{Level, IsEntered, IsLower, IsNever}
use Rattle.vz_plain.proofs.Entering.{apart_waits}
use Rattle.vz_plain.proofs.paint.Painter.apart.Goals as goal

pub returns-in-Some-clause-painted : goal.returns-in-Some-clause-painted
returns-in-Some-clause-painted c =
    let p = c.args.self.now in
    let i = c.args.submitted.now in
    let entered =
    subst (λ (o : Option Level). MatchOption o (IsNever (embedded p p.path i)) (IsEntered p i c.args.first c.in_ok-own.own.items c.args.mode c.args.opacity)) c.in-Some.is c.in_ok-entered.ensures.entered
    in
    apart_waits p i c.args.mode c.args.opacity c.args.first (length c.args.row.now) c.args.row.now c.in-Some.level refl
    (subst (λ (r : List Colour). IsEntered p i c.args.first r c.args.mode c.args.opacity c.in-Some.level) c.in_ok-own.ensures entered)

pub returns-in-Some-clause-lower : goal.returns-in-Some-clause-lower
returns-in-Some-clause-lower c = λ earlier.
    subst (λ (o : Option Level). IfSome o (IsLower c.args.self.now.levels earlier)) c.in-Some.is (c.in_ok-entered.ensures.lower earlier)
