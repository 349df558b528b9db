use Rattle.std.proofs.Common.{◌<◌, ◌∙◌, length, take, get_or, subst, sym, ap}
use Rattle.std.proofs.lemmas.List.{get_or-replicate, length-replicate, length-take-le}
use Rattle.vz_pixels.specs.Colour.{transparent}
use Rattle.vz_paint.proofs.Grouped.{still_long, has_new}
use Rattle.vz_paint.proofs.group.clear.Goals as goal

pub returns-clause-long : goal.returns-clause-long
returns-clause-long c =
    let a = c.args in still_long a.pixels.now c.level.new.row a.count c.requires (ap length c.level.ensures ∙ length-replicate (length (take a.count a.pixels.now)) _)

pub returns-clause-clear : goal.returns-clause-clear
returns-clause-clear c = λ k near.
    let a = c.args in
    let part = length-take-le a.count a.pixels.now c.requires in
    has_new a.pixels.now c.level.new.row a.count c.requires (ap length c.level.ensures ∙ length-replicate (length (take a.count a.pixels.now)) _) k near
    ∙ (ap (λ l. get_or l k transparent) c.level.ensures
    ∙ (get_or-replicate (length (take a.count a.pixels.now)) k c.transparent.result transparent (subst (λ n. k < n) (sym part) near) ∙ c.transparent.ensures))
