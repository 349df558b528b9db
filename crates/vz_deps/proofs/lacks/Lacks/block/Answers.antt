use Rattle.std.proofs.Common.{arith, refl, length, vec_capacity, ◌-◌}
use Rattle.vz_deps.specs.declared.lacks.Lacks.{Lacks}
use Rattle.vz_deps.proofs.Same.{on_ok}
use Rattle.vz_deps.proofs.Keeping.{room_places}
use Rattle.vz_deps.proofs.Adding.{placed_of, block_kept}
use Rattle.vz_deps.proofs.lacks.Lacks.block.Goals as goal

pub put_all-requires-clause-placed : goal.put_all-requires-clause-placed
put_all-requires-clause-placed c = placed_of c.args.self.now c.requires.kept

pub returns-clause-kept : goal.returns-clause-kept
returns-clause-kept c =
    let a = c.args.self.now in
    let b : Lacks = record { on = c.put_all.new.on; groups = c.put_all.new.groups; sinks = c.put_all.new.sinks; counts = c.insert.new.self; freed = a.freed } in
    block_kept a b c.args.order c.args.unmet.now c.requires.kept c.requires.new c.requires.some c.put_all.ensures.placed c.put_all.ensures.on
    (on_ok _ _ _ c.unwrap.ensures c.insert.ensures.updates).0 (on_ok _ _ _ c.unwrap.ensures c.insert.ensures.entries) refl
    (let room = room_places _ _ _ _ (vec_capacity a.freed - length a.counts.entries) _ c.requires.room in omega (arith, room))
