use Rattle.std.proofs.Common.{subst, sym}
use Rattle.vz_surfaces.specs.Numbers.{KeepsLists}
use Rattle.vz_surfaces.proofs.Listing.{marked_lists}
use Rattle.vz_surfaces.proofs.Storing.{stored_more}
use Rattle.vz_surfaces.proofs.Storing_whole.{marked_stands}
use Rattle.vz_surfaces.proofs.store.Store.mark_all.Goals as goal

pub returns : goal.returns
returns c = stored_more c.self.inside.told c.show.new.self _ c.args.self.now c.show.ensures c.self.view_is

pub invariant_of-self : goal.invariant_of-self
invariant_of-self c =
    let inside = c.self.inside in (
      marked_stands inside.groups inside.table inside.waits inside.owners c.mark_all.new.owners inside.told c.show.new.self c.args.self.now c.args.c c.requires c.self.invariant.0 c.self.view_is c.show.ensures c.mark_all.ensures.owners c.mark_all.ensures.marking,
      subst (KeepsLists inside.standing) (sym (returns c)) (marked_lists inside.standing c.args.self.now c.args.c (subst (KeepsLists inside.standing) c.self.view_is c.self.invariant.1)),
    )
