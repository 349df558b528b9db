use Rattle.std.proofs.Common.{rules, IfOk, is_some, ◌≡◌, ◌+◌, Some, cond, length, ap, ◌∙◌, subst}
use Rattle.vz_ids.specs.declared.SurfaceId.{SurfaceId}
use Rattle.vz_surfaces.specs.Memory.{is_key, key_at}
use Rattle.vz_surfaces.proofs.Lodging.{put_look, put_keyed, no_key}
use Rattle.vz_surfaces.proofs.table.Table.put.Goals as goal

pub returns-clause-surfaces : goal.returns-clause-surfaces
returns-clause-surfaces c =
    let put : (q : SurfaceId) → key_at (record { surfaces = c.insert_reserved-key.new.self; keys = c.insert.new.self }) q ≡ cond (is_key c.args.id q) (Some c.insert_reserved-key.result) (key_at c.args.self.now q) = λ q. search rules in
    put_look c.args.self.now (record { surfaces = c.insert_reserved-key.new.self; keys = c.insert.new.self }) c.requires.keyed c.args.id c.insert_reserved-key.result c.args.surface c.insert_reserved-key.ensures.was_vacant c.insert_reserved-key.ensures.updates put

pub returns-clause-keyed : goal.returns-clause-keyed
returns-clause-keyed c =
    let put : (q : SurfaceId) → key_at (record { surfaces = c.insert_reserved-key.new.self; keys = c.insert.new.self }) q ≡ cond (is_key c.args.id q) (Some c.insert_reserved-key.result) (key_at c.args.self.now q) = λ q. search rules in
    put_keyed c.args.self.now (record { surfaces = c.insert_reserved-key.new.self; keys = c.insert.new.self }) c.requires.keyed c.args.id c.insert_reserved-key.result c.args.surface c.insert_reserved-key.ensures.was_vacant c.insert_reserved-key.ensures.updates put

pub returns-clause-len : goal.returns-clause-len
returns-clause-len c =
    let table = c.args.self.now in
    let len = subst (λ r. IfOk r (λ old. length c.insert.new.self.entries ≡ length table.keys.entries + cond (is_some old) 0 1)) c.unwrap.ensures c.insert.ensures.len in
    let old = subst (λ r. IfOk r (λ old. old ≡ key_at table c.args.id)) c.unwrap.ensures c.insert.ensures.old in
    len ∙ ap (λ o. length table.keys.entries + cond (is_some o) 0 1) (old ∙ no_key table c.requires.keyed c.args.id c.requires.new)
