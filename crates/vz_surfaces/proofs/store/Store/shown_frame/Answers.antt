use Rattle.std.proofs.Common.{ap, ◌∙◌, Some}
use Rattle.std.specs.Option.{option_map}
use Rattle.vz_surfaces.specs.declared.groups.Link.{Link}
use Rattle.vz_surfaces.proofs.Storing_whole.{shown_ids, shown_acts}
use Rattle.vz_surfaces.proofs.Seeing.{range_none, range_seen, none_seen, frame_seen}
use Rattle.vz_surfaces.proofs.store.Store.shown_frame.Goals as goal

pub returns-in_default : goal.returns-in_default
returns-in_default c =
    let inside = c.self.inside in
    let range = c.args.range.now in
    let ids = shown_ids inside.table inside.waits inside.owners inside.groups inside.told c.args.self.now range c.self.invariant.0 c.self.view_is in
    range_none c.args.self.now range (ap (option_map (λ (l : Link). l.id)) c.in_default.ensures ∙ ids)

pub returns-in-None : goal.returns-in-None
returns-in-None c =
    let inside = c.self.inside in
    let range = c.args.range.now in
    let link = c.in-Some.link.now in
    let ids = shown_ids inside.table inside.waits inside.owners inside.groups inside.told c.args.self.now range c.self.invariant.0 c.self.view_is in
    let acts = shown_acts inside.table inside.waits inside.owners inside.groups inside.told c.args.self.now range c.self.invariant.0 c.self.view_is link c.in-Some.ensures in
    none_seen c.args.self.now link.id (c.in-None.ensures ∙ acts) ∙ range_seen c.args.self.now range link.id c.requires (ap (option_map (λ (l : Link). l.id)) c.in-Some.ensures ∙ ids)

pub returns-in-Some-active : goal.returns-in-Some-active
returns-in-Some-active c =
    let inside = c.self.inside in
    let range = c.args.range.now in
    let link = c.in-Some.link.now in
    let ids = shown_ids inside.table inside.waits inside.owners inside.groups inside.told c.args.self.now range c.self.invariant.0 c.self.view_is in
    let acts = shown_acts inside.table inside.waits inside.owners inside.groups inside.told c.args.self.now range c.self.invariant.0 c.self.view_is link c.in-Some.ensures in
    ap (λ z. Some z) c.new.ensures
    ∙ (frame_seen c.args.self.now link.id c.in-Some-active.held.now (c.in-Some-active.ensures ∙ acts)
    ∙ range_seen c.args.self.now range link.id c.requires (ap (option_map (λ (l : Link). l.id)) c.in-Some.ensures ∙ ids))
