use Rattle.std.proofs.Common.{true, false, not, ◌&&◌, is_some, find, sym, ap, ◌∙◌}
use Rattle.vz_ids.specs.Ids.{same_surface}
use Rattle.vz_rules.specs.World.{World, Surface}
use Rattle.vz_slow.proofs.Losing.{root_is}
use Rattle.vz_slow.proofs.world.World.root_list.Goals as goal

pub returns-then-not-exists : goal.returns-then-not-exists
returns-then-not-exists c =
    let surfaces = c.deref.ensures.value ∙ ap (λ (u : World). u.surfaces) c.self.view_is in
    let there = sym (ap (λ l. is_some (find (λ (s : Surface). same_surface s.id c.in-Some.id && not s.destroyed) l)) surfaces) ∙ (sym c.exists.ensures ∙ c.if-not-exists.true) in
    c.new-then-not-exists.ensures ∙ sym (root_is c.args.self.now c.in-Some.id false (sym (ap (λ (u : World). u.root) c.self.view_is) ∙ c.in-Some.is) there)

pub returns-in_ok-one-in-Some : goal.returns-in_ok-one-in-Some
returns-in_ok-one-in-Some c =
    let surfaces = c.deref.ensures.value ∙ ap (λ (u : World). u.surfaces) c.self.view_is in
    let there = sym (ap (λ l. is_some (find (λ (s : Surface). same_surface s.id c.in-Some.id && not s.destroyed) l)) surfaces) ∙ (sym c.exists.ensures ∙ c.if-not-exists.false) in
    c.in_ok-one-in-Some.ensures ∙ sym (root_is c.args.self.now c.in-Some.id true (sym (ap (λ (u : World). u.root) c.self.view_is) ∙ c.in-Some.is) there)
