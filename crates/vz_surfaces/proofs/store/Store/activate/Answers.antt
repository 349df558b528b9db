use Rattle.std.proofs.Common.{◌≡◌, ◌≤◌, ◌-◌, ◌==◌, ℕ, cond, subst, sym, arith}
use Rattle.vz_surfaces.specs.Memory.{owner_at, marked_up}
use Rattle.vz_surfaces.specs.Numbers.{KeepsLists}
use Rattle.vz_surfaces.proofs.Awaiting.{id_found, none_found}
use Rattle.vz_surfaces.proofs.Storing.{stored_more, found_waiting, past_reads}
use Rattle.vz_surfaces.proofs.Storing_whole.{activated_stands, activated_lists, has_group, mark_number, mark_there}
use Rattle.vz_surfaces.proofs.store.Store.activate.Goals as goal

pub unreachable-requires : goal.unreachable-requires
unreachable-requires c =
    let inside = c.self.inside in
    found_waiting inside.table inside.waits inside.owners inside.told c.args.self.now c.args.s c.self.invariant.0.kept c.self.view_is c.requires.waits (none_found inside.waits c.args.s c.in_default.ensures.found)

pub note_active-requires : goal.note_active-requires
note_active-requires c =
    let inside = c.self.inside in
    has_group inside.groups inside.table inside.waits inside.owners inside.told c.args.self.now c.args.s c.in-Some.link.id c.requires.keeps c.self.invariant.0 c.self.view_is c.requires.waits (id_found inside.waits c.args.s c.in-Some.link c.in-Some.ensures.found)

pub raise-number-requires-clause-keyed : goal.raise-number-requires-clause-keyed
raise-number-requires-clause-keyed c = c.self.invariant.0.kept.table.keyed

pub raise-number-requires-clause-there : goal.raise-number-requires-clause-there
raise-number-requires-clause-there c = c.self.invariant.0.awaited.keys c.args.s c.in-Some.link (sym c.in-Some.ensures.found)

pub mark_before-requires-clause-client : goal.mark_before-requires-clause-client
mark_before-requires-clause-client c =
    let inside = c.self.inside in
    mark_number inside.groups inside.table inside.waits inside.owners inside.told c.args.self.now c.args.s c.in-Some.link.id c.requires.keeps c.self.invariant.0 c.self.view_is c.requires.waits (id_found inside.waits c.args.s c.in-Some.link c.in-Some.ensures.found)

pub mark_before-requires-clause-number : goal.mark_before-requires-clause-number
mark_before-requires-clause-number c =
    let inside = c.self.inside in
    let there = mark_there inside.groups inside.table inside.waits inside.owners inside.told c.args.self.now c.args.s c.in-Some.link.id c.requires.keeps c.self.invariant.0 c.self.view_is c.requires.waits (id_found inside.waits c.args.s c.in-Some.link c.in-Some.ensures.found) in
    omega (arith, there.2, c.raise-number.ensures.number there.0 there.1)

pub returns-clause-activated : goal.returns-clause-activated
returns-clause-activated c = stored_more c.self.inside.told c.show.new.self _ c.args.self.now c.show.ensures c.self.view_is

pub invariant_of-self : goal.invariant_of-self
invariant_of-self c =
    let inside = c.self.inside in (
      activated_stands inside.groups c.note_active.new.self inside.table c.raise-number.new.self inside.waits c.take.new.self inside.owners c.mark_before.new.owners inside.told c.show.new.self c.args.self.now c.args.s c.in-Some.link.id c.requires.keeps c.self.invariant.0 c.self.view_is c.requires.waits
          c.show.ensures (id_found inside.waits c.args.s c.in-Some.link c.in-Some.ensures.found) c.take.ensures.others c.raise-number.ensures.surfaces c.raise-number.ensures.keys c.raise-number.ensures.keyed c.note_active.ensures.chain c.note_active.ensures.newest
          (λ x e. subst (λ (n : ℕ). (q : ℕ) → 1 ≤ q → owner_at c.mark_before.new.owners q ≡ cond (q == c.args.s.client) (marked_up (n - 1) (owner_at inside.owners c.args.s.client)) (owner_at inside.owners q)) (c.raise-number.ensures.number x e) c.mark_before.ensures.owners)
          c.mark_before.ensures.marking,
      subst (KeepsLists inside.standing) (sym (returns-clause-activated c)) (activated_lists inside.standing c.args.self.now c.args.s c.requires.keeps c.requires.waits (subst (KeepsLists inside.standing) c.self.view_is c.self.invariant.1)),
    )

pub returns-clause-past : goal.returns-clause-past
returns-clause-past c =
    let inside = c.self.inside in
    past_reads inside.table inside.waits inside.owners inside.told c.args.self.now c.args.s c.in-Some.link.id c.raise-number.result.1 c.requires.keeps c.self.invariant.0.kept c.self.view_is c.requires.waits (id_found inside.waits c.args.s c.in-Some.link c.in-Some.ensures.found) c.raise-number.ensures.past
