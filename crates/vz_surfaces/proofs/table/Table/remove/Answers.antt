use Rattle.std.proofs.Common.{rules, ◌≡◌, None, cond, sym}
use Rattle.vz_ids.specs.declared.SurfaceId.{SurfaceId}
use Rattle.vz_surfaces.specs.Memory.{is_key, key_at}
use Rattle.vz_surfaces.proofs.Lodging.{go_look, go_keyed}
use Rattle.vz_surfaces.proofs.table.Table.remove.Goals as goal

pub returns-in-None-clause-keyed : goal.returns-in-None-clause-keyed
returns-in-None-clause-keyed c = record { there = λ id key e. c.requires.there id key (search rules); apart = λ a b key e f. c.requires.apart a b key (search rules) (search rules) }

pub returns-in-Some-clause-surfaces : goal.returns-in-Some-clause-surfaces
returns-in-Some-clause-surfaces c =
    let goes : (q : SurfaceId) → key_at (record { surfaces = c.try_remove.new.self; keys = c.swap_remove.new.self }) q ≡ cond (is_key c.args.id.now q) None (key_at c.args.self.now q) = λ q. search rules in
    go_look c.args.self.now (record { surfaces = c.try_remove.new.self; keys = c.swap_remove.new.self }) c.requires c.args.id.now c.in-Some.key (sym c.in-Some.ensures.value) c.try_remove.ensures.updates goes

pub returns-in-Some-clause-keyed : goal.returns-in-Some-clause-keyed
returns-in-Some-clause-keyed c =
    let goes : (q : SurfaceId) → key_at (record { surfaces = c.try_remove.new.self; keys = c.swap_remove.new.self }) q ≡ cond (is_key c.args.id.now q) None (key_at c.args.self.now q) = λ q. search rules in
    go_keyed c.args.self.now (record { surfaces = c.try_remove.new.self; keys = c.swap_remove.new.self }) c.requires c.args.id.now c.in-Some.key (sym c.in-Some.ensures.value) c.try_remove.ensures.updates goes
