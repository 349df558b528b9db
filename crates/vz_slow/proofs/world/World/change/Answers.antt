use Rattle.std.proofs.Common.{◌==◌, sym, ap, ◌∙◌, subst, if◌then◌else◌}
use Rattle.vz_rules.specs.World.{World, Client}
use Rattle.vz_rules.specs.Messages.{took}
use Rattle.vz_state.specs.Changes.{changed_by}
use Rattle.vz_state.specs.Small.{AreSmallClients}
use Rattle.vz_state.proofs.Placed.{placed_map}
use Rattle.vz_slow.proofs.Answering.{changed_is}
use Rattle.vz_slow.proofs.world.World.change.Goals as goal

pub change_one-requires : goal.change_one-requires
change_one-requires c = subst AreSmallClients (sym (c.deref_mut.ensures.value ∙ ap (λ (u : World). u.clients) c.self.view_is)) c.requires

pub returns : goal.returns
returns c = λ x h.
    let was = c.deref_mut.ensures.value in
    changed_is c.args.self.now _ c.self.view_is (changed_by c.args.change.now) c.args.c x h _
    (placed_map c.self.inside.clients (λ (y : Client). if y.number == c.args.c then took (changed_by c.args.change.now y) else y) _ c.change_one.new.clients c.change_one.auto.clients c.deref_mut.ensures.len was c.in_ok-change_one.ensures)
