use Rattle.std.proofs.Common.{[], ◌++◌, ap, ◌∙◌}
use Rattle.vz_rules.specs.Returns.{returned_in, fed_in}
use Rattle.vz_slow.proofs.Following.{follow_effects, follow_world}
use Rattle.vz_slow.proofs.world.World.follow.Goals as goal

pub returns-clause-effects : goal.returns-clause-effects
returns-clause-effects c = λ r.
    c.in-Ok.ensures
    ∙ follow_effects c.args.self.now c.settle.new.self c.collect.new.self c.give_back.new.self [] r _ _ _ _
    c.in_ok-activated.ensures.world c.in_ok-destroyed.ensures.world c.give_back.ensures.world
    (c.in_ok-short.ensures ∙ (c.from_vec.ensures ∙ c.in_ok-activated.ensures.activated)) (c.in_ok-short-2.ensures ∙ (c.from_vec-2.ensures ∙ c.in_ok-destroyed.ensures.destroyed))
    (c.in_ok-short-3.ensures ∙ (c.into_list.ensures ∙ (c.give_back.ensures.told.list ∙ ap (λ l. l ++ returned_in c.collect.new.self) (c.make_room.ensures.list ∙ c.new-returned.ensures))))
    (c.in_ok-short-4.ensures ∙ (c.into_list-2.ensures ∙ (c.feed.ensures.told.list ∙ ap (λ l. l ++ fed_in [] c.give_back.new.self) (c.make_room-2.ensures.list ∙ c.new-fed.ensures))))

pub returns-clause-world : goal.returns-clause-world
returns-clause-world c = λ r.
    follow_world c.args.self.now c.settle.new.self c.collect.new.self c.give_back.new.self c.feed.new.self [] r
    c.in_ok-activated.ensures.world c.in_ok-destroyed.ensures.world c.give_back.ensures.world c.feed.ensures.world
