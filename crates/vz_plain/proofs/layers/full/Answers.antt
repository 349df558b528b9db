use Rattle.std.proofs.Common.{◌-◌, [], take, drop, sym, ap, ◌∙◌, subst}
use Rattle.std.specs.Option.{option_copied}
use Rattle.vz_geom.specs.declared.Point.{Point}
use Rattle.vz_rules.specs.Paint.{pix, levels}
use Rattle.vz_plain.specs.Rows.{IsPainted}
use Rattle.vz_plain.proofs.Rowed.{full_painted}
use Rattle.vz_plain.proofs.layers.full.Goals as goal

pub returns-in_ok-root_row-in-Some : goal.returns-in_ok-root_row-in-Some
unfolding levels
returns-in_ok-root_row-in-Some c =
    let here = c.size_span-here.result in
    let e = c.size_span-here.ensures in
    full_painted c.args.active.now c.args.root.now c.in-Some.submitted.now c.args.start here.from here.to c.args.row.now c.root_row.new.row
    e.ordered e.most (sym c.frame_on.ensures ∙ ap option_copied c.in-Some.is) c.requires.black e.exact
    (subst (λ (q : Point). IsPainted (pix levels c.args.active.now [] c.in-Some.submitted.now) q (take (here.to - here.from) (drop here.from c.args.row.now)) c.root_row.new.row) c.right_of-first.ensures c.in_ok-root_row-in-Some.ensures)
