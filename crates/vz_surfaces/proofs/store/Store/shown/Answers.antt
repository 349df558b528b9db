use Rattle.std.proofs.Common.{ap, ◌∙◌}
use Rattle.std.specs.Option.{option_map}
use Rattle.vz_surfaces.specs.declared.groups.Link.{Link}
use Rattle.vz_surfaces.proofs.Storing_whole.{shown_ids}
use Rattle.vz_surfaces.proofs.store.Store.shown.Goals as goal

pub returns-in-None : goal.returns-in-None
returns-in-None c =
    let inside = c.self.inside in
    ap (option_map (λ (l : Link). l.id)) c.in-None.ensures ∙ shown_ids inside.table inside.waits inside.owners inside.groups inside.told c.args.self.now c.args.range.now c.self.invariant.0 c.self.view_is

pub returns-in-Some : goal.returns-in-Some
returns-in-Some c =
    let inside = c.self.inside in
    ap (option_map (λ (l : Link). l.id)) c.in-Some.ensures ∙ shown_ids inside.table inside.waits inside.owners inside.groups inside.told c.args.self.now c.args.range.now c.self.invariant.0 c.self.view_is
