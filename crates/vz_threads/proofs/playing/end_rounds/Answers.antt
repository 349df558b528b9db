use Rattle.std.proofs.Common.{◌++◌, ◌∷◌, [], Err, subst, sym}
use Rattle.vz_outside.specs.declared.shelf.ShelfError.TheVariants.{Memory}
use Rattle.vz_threads.specs.{Outlets.Outlook, Rounds.IsCut, Rounds.HasEnded}
use Rattle.vz_threads.proofs.{Rounding.cut_here, Rounding.over_goes, Following.rounds_over, Following.cut_at}
use Rattle.vz_threads.proofs.playing.end_rounds.Goals as goal

pub returns-in_default-clause-cut : goal.returns-in_default-clause-cut
returns-in_default-clause-cut g c = λ k start h at.
    (h, cut_here k start (g.O.Outlet.stands c.args.outlet.now) c.args.d.now c.tell_over.new.d h at c.tell_over.ensures.same c.in_default.ensures.none)

pub returns-then-is_cut-clause-cut : goal.returns-then-is_cut-clause-cut
returns-then-is_cut-clause-cut g c = λ k start h at.
    let over = c.in-Ok.ensures.made in
    let now = g.O.Outlet.stands c.args.outlet.now in
    let on = over_goes k start now c.args.d.now c.tell_over.new.d h at c.tell_over.ensures.same over in
    let history = over.before ++ over.made ∷ [] in
    (history, subst (λ (s : Outlook). IsCut k start s c.tell_over.new.d history (Err Memory)) (sym c.close.ensures) (cut_at k start now c.tell_over.new.d history on.at))

pub returns-clause-ended : goal.returns-clause-ended
returns-clause-ended g c = λ k paced start n p.
    subst (λ (s : Outlook). HasEnded k paced start s c.tell_over.new.d n) (sym c.close.ensures)
    (rounds_over k paced start (g.O.Outlet.stands c.args.outlet.now) c.args.d.now c.tell_over.new.d n p c.tell_over.ensures.same c.in-Ok.ensures.made)

pub returns-in_default-clause-told : goal.returns-in_default-clause-told
returns-in_default-clause-told g c = c.tell_over.ensures.told

pub returns-then-is_cut-clause-told : goal.returns-then-is_cut-clause-told
returns-then-is_cut-clause-told g c = c.tell_over.ensures.told

pub returns-clause-told : goal.returns-clause-told
returns-clause-told g c = c.tell_over.ensures.told
