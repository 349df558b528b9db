use Rattle.std.proofs.Common.{◌≤◌, List, map, sym, ap, ◌∙◌, subst}
use Rattle.std.specs.List.{flat_map}
use Rattle.vz_rules.specs.World.{World, Client}
use Rattle.vz_rules.specs.Returns.{queue_returns, returns_of}
use Rattle.vz_state.specs.Holding.{holding}
use Rattle.vz_state.specs.Outs.{all_outs, IsPutInto}
use Rattle.vz_state.proofs.Placed.{placed_map}
use Rattle.vz_slow.proofs.Returning.{given_is, returned_is}
use Rattle.vz_slow.proofs.world.World.give_back.Goals as goal

pub give_back_clients-requires : goal.give_back_clients-requires
give_back_clients-requires c =
    subst (λ (l : List Client). all_outs l ≤ c.args.told.now.spare) (sym (c.deref_mut.ensures.value ∙ ap (λ (w : World). w.clients) c.self.view_is)) c.requires

pub returns-clause-told : goal.returns-clause-told
returns-clause-told c =
    subst (IsPutInto c.args.told.now c.give_back_clients.new.told)
    (returned_is c.args.self.now _ c.self.view_is c.deref.result.now c.deref-2.result.now c.deref_mut.result.now _ c.deref.ensures.value c.deref-2.ensures.value c.deref_mut.ensures.value
    (ap (λ (h : World). flat_map (returns_of h) c.deref_mut.result.now) c.new-holders.ensures)) c.give_back_clients.ensures.told

pub returns-clause-world : goal.returns-clause-world
returns-clause-world c =
    given_is c.args.self.now _ c.self.view_is c.deref.result.now c.deref-2.result.now _ c.deref.ensures.value c.deref-2.ensures.value
    (placed_map c.self.inside.clients (queue_returns (holding c.deref.result.now c.deref-2.result.now c.self.inside.in_flight)) _ c.give_back_clients.new.clients c.give_back_clients.auto.clients
    c.deref_mut.ensures.len c.deref_mut.ensures.value
    (c.give_back_clients.ensures.clients ∙ ap (λ (h : World). map (queue_returns h) c.deref_mut.result.now) c.new-holders.ensures))
