use Rattle.std.proofs.Common.{◌==◌, find, sym, ap, ◌∙◌, subst, if◌then◌else◌}
use Rattle.vz_rules.specs.World.{World, Client}
use Rattle.vz_rules.specs.Messages.{took}
use Rattle.vz_state.specs.Changes.{changed_by}
use Rattle.vz_state.specs.Small.{AreSmallClients, AreNumbered}
use Rattle.vz_state.proofs.Placed.{placed_map}
use Rattle.vz_slow.proofs.Answering.{changed_is}
use Rattle.vz_slow.proofs.world.World.change_alone.Goals as goal

pub change_alone-requires-clause-small : goal.change_alone-requires-clause-small
change_alone-requires-clause-small c = subst AreSmallClients (sym (c.deref_mut.ensures.value ∙ ap (λ (u : World). u.clients) c.self.view_is)) c.requires.small

pub change_alone-requires-clause-numbered : goal.change_alone-requires-clause-numbered
change_alone-requires-clause-numbered c = subst (AreNumbered 1) (sym (c.deref_mut.ensures.value ∙ ap (λ (u : World). u.clients) c.self.view_is)) c.requires.numbered

pub returns-clause-value : goal.returns-clause-value
returns-clause-value c = λ x h.
    let was = c.deref_mut.ensures.value in
    let found = ap (find (λ (y : Client). y.number == c.args.c)) (was ∙ ap (λ (u : World). u.clients) c.self.view_is) ∙ h in
    changed_is c.args.self.now _ c.self.view_is (changed_by c.args.change.now) c.args.c x h _
    (placed_map c.self.inside.clients (λ (y : Client). if y.number == c.args.c then took (changed_by c.args.change.now y) else y) _ c.change_alone.new.clients c.change_alone.auto.clients c.deref_mut.ensures.len was (c.in_ok-change_alone.ensures.value x found))
