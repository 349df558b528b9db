use Rattle.std.proofs.Common.{List, ◌≡◌, OnOk, sym, ◌∙◌, subst}
use Rattle.vz_surface_manager.specs.Flown.{Flown}
use Rattle.vz_surface_manager.proofs.Entries.{noted_again, noted_new}
use Rattle.vz_surface_manager.proofs.roster.Roster.note.Goals as goal

pub returns-then-has : goal.returns-then-has
returns-then-has c = noted_again c.args.self.now (c.args.sub, c.args.listings.now) (sym c.has.ensures ∙ c.if-has.true)

pub returns : goal.returns
returns c =
    subst (λ (l : List Flown). OnOk c.put.result (c.put.new.self ≡ l))
    (noted_new c.args.self.now (c.args.sub, c.args.listings.now) (sym c.has.ensures ∙ c.if-has.false)) c.put.ensures.ok
