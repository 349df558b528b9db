use Rattle.std.proofs.Common.{subst, sym}
use Rattle.vz_surfaces.specs.Numbers.{KeepsLists}
use Rattle.vz_surfaces.proofs.Storing.{stored_more, found_standing, kept_at, IsKeptAt, lost_reads, waiting_reads, active_reads}
use Rattle.vz_surfaces.proofs.Storing_whole.{destroyed_stands, destroyed_lists}
use Rattle.vz_surfaces.proofs.store.Store.destroy.Goals as goal

pub unreachable-requires : goal.unreachable-requires
unreachable-requires c =
    let inside = c.self.inside in
    found_standing inside.table inside.waits inside.owners inside.told c.args.self.now c.args.id.now c.self.invariant.0.kept c.self.view_is c.requires.exists c.in_default.ensures.gone

pub returns-clause-destroyed : goal.returns-clause-destroyed
returns-clause-destroyed c = stored_more c.self.inside.told c.show.new.self _ c.args.self.now c.show.ensures c.self.view_is

kept : (c : goal.Joined-change) → IsKeptAt c.args.self.now c.args.id.now c.in-Some.surface
kept c =
    let inside = c.self.inside in
    kept_at inside.table inside.waits inside.owners inside.told c.args.self.now c.args.id.now c.in-Some.surface c.self.invariant.0.kept c.self.view_is c.in-Some.ensures.gone

pub invariant_of-self : goal.invariant_of-self
invariant_of-self c =
    let inside = c.self.inside in (
      destroyed_stands inside.groups c.remove-3.new.self inside.table c.remove.new.self inside.waits c.remove-2.new.self inside.owners inside.told c.show.new.self c.args.self.now c.args.id.now c.in-Some.surface c.sub_of-waiting.result c.requires.keeps c.self.invariant.0
          c.self.view_is c.show.ensures c.in-Some.ensures.gone c.sub_of-waiting.ensures c.remove-2.ensures.none c.remove-2.ensures.others c.remove.ensures.surfaces c.remove.ensures.keys c.remove.ensures.len c.remove.ensures.keyed c.remove-3.ensures.chain c.remove-3.ensures.newest,
      subst (KeepsLists c.remove-4.new.self) (sym (returns-clause-destroyed c)) (destroyed_lists inside.standing c.remove-4.new.self c.args.self.now c.args.id.now c.in-Some.surface c.requires.keeps (kept c)
          (subst (KeepsLists inside.standing) c.self.view_is c.self.invariant.1) c.remove-4.ensures),
    )

pub returns-clause-lost : goal.returns-clause-lost
returns-clause-lost c = lost_reads c.args.self.now c.args.id.now c.in-Some.surface (kept c)

pub returns-clause-waiting : goal.returns-clause-waiting
returns-clause-waiting c = waiting_reads c.args.self.now c.args.id.now c.in-Some.surface c.sub_of-waiting.result (kept c) c.sub_of-waiting.ensures

pub returns-clause-active : goal.returns-clause-active
returns-clause-active c = active_reads c.args.self.now c.args.id.now c.in-Some.surface c.sub_of.result (kept c) c.sub_of.ensures

pub remove-requires : goal.remove-requires
remove-requires c = c.self.invariant.0.kept.table.keyed
