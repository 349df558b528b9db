use Rattle.std.proofs.Common.{◌≤◌, List, refl, sym, ap, ◌∙◌, subst}
use Rattle.vz_rules.specs.World.{World, Submission}
use Rattle.vz_state.specs.Holding.{fed_by}
use Rattle.vz_state.specs.Outs.{unfed, IsPutInto}
use Rattle.vz_state.proofs.Placed.{placed_map}
use Rattle.vz_slow.proofs.Returning.{feed_is, fed_is}
use Rattle.vz_slow.proofs.world.World.feed.Goals as goal

pub feed_all-requires : goal.feed_all-requires
feed_all-requires c =
    subst (λ (l : List Submission). unfed l ≤ c.args.told.now.spare) (sym (c.deref_mut.ensures.value ∙ ap (λ (w : World). w.subs) c.self.view_is)) c.requires

pub returns-clause-told : goal.returns-clause-told
returns-clause-told c =
    subst (IsPutInto c.args.told.now c.feed_all.new.told) (fed_is c.args.self.now _ c.self.view_is c.args.presented.now c.deref_mut.result.now _ c.deref_mut.ensures.value refl) c.feed_all.ensures.told

pub returns-clause-world : goal.returns-clause-world
returns-clause-world c =
    feed_is c.args.self.now _ c.self.view_is c.args.presented.now _
    (placed_map c.self.inside.subs (fed_by c.self.inside.in_flight c.args.presented.now) _ c.feed_all.new.submissions c.feed_all.auto.submissions c.deref_mut.ensures.len c.deref_mut.ensures.value c.feed_all.ensures.submissions)
