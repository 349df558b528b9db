-- Changes of the machine's state that are none of what is kept for the clients.
use Rattle.std.proofs.Common.{◌≡◌, ℕ, zero, suc, Bool, true, false, ◌==◌, Option, Some, None, is_some, List, [], ◌∷◌, map, find, arith}
use Rattle.std.proofs.Common.{length, refl, ap, sym, ◌∙◌, cond}
use Rattle.vz_ids.specs.{declared.FrameSinkId.FrameSinkId, declared.Sub.Sub}
use Rattle.vz_rules.specs.declared.entry.Reply.TheVariants as reply
use Rattle.vz_rules.specs.{Plan.Plan, Returns.queue_returns, Returns.give_back, Returns.feed, Step.scene_answer, Step.draw_answer}
use Rattle.vz_rules.specs.World.{World, Client, Scene}
use Rattle.vz_rules.specs.{Scene.scene_of, Walk.walk_of, Walk.too_much}
use Rattle.vz_rules.specs.{Settle.round, Settle.rounds, Settle.settle, Reach.naming, Reach.clearing, Reach.collect, Messages.Answer, Messages.says}
use Rattle.vz_support.specs.{Sending.AreSenders, Supporting.Supported, Supporting.IsSupport}
use Rattle.vz_support.proofs.Clients_kept.{stays_given as keeps_given}
use Rattle.vz_sinks.specs.Relating.{seat_of, related_in}
use Rattle.std.proofs.lemmas.Bool.Decides.{nat_tests}

-- what is kept for the clients is of these parts of the state alone
pub record IsLike (w u : World) : Type 0 where
  pub clients : u.clients ≡ w.clients
  pub relations : u.relations ≡ w.relations
  pub tick : u.tick ≡ w.tick
  pub root : u.root ≡ w.root
  pub over : u.over ≡ w.over

same_senders : (p : Plan) (w u : World) (v : Supported) → u.clients ≡ w.clients → AreSenders p w v.clients → AreSenders p u v.clients
same_senders p w u v e h =
    record { count = h.count ∙ ap length (sym e); each = λ c x at. h.each c x (ap (find (λ (z : Client). z.number == c)) (sym e) ∙ at) }

-- the hierarchy of a state with these seats and relations
pub related_by : (first : FrameSinkId) (w u : World) → map seat_of u.clients ≡ map seat_of w.clients → u.relations ≡ w.relations
    → related_in first w ≡ related_in first u
related_by first w u e f = λ i. record { first = first; seats = sym e i; relations = sym f i }

pub stays_like : (p : Plan) (w u : World) (v : Supported) → IsLike w u → IsSupport p w v → IsSupport p u v
stays_like p w u v like h = grind (arith, nat_tests, same_senders p w u v like.clients h.clients, related_by v.sinks.first w u (ap (map seat_of) like.clients) like.relations)

-- Rounds

pub stays_round : (p : Plan) (w : World) (v : Supported) → IsSupport p w v → IsSupport p (round w) v
unfolding round
stays_round p w v h = stays_like p w (round w) v (record { clients = refl; relations = refl; tick = refl; root = refl; over = refl }) h

stays_rounds : (n : ℕ) (p : Plan) (w : World) (v : Supported) → IsSupport p w v → IsSupport p (rounds n w) v
unfolding rounds
stays_rounds zero p w v h = h
stays_rounds (suc n) p w v h = stays_rounds n p (round w) v (stays_round p w v h)

pub stays_settled : (p : Plan) (w : World) (v : Supported) → IsSupport p w v → IsSupport p (settle w) v
unfolding settle
stays_settled p w v h = stays_rounds (length w.subs) p w v h

-- Collections

pub stays_named : (p : Plan) (w : World) (v : Supported) → IsSupport p w v → IsSupport p (naming w) v
unfolding naming
stays_named p w v h = stays_like p w (naming w) v (record { clients = refl; relations = refl; tick = refl; root = refl; over = refl }) h

pub stays_cleared : (p : Plan) (w : World) (v : Supported) → IsSupport p w v → IsSupport p (clearing w) v
unfolding clearing
stays_cleared p w v h = stays_like p w (clearing w) v (record { clients = refl; relations = refl; tick = refl; root = refl; over = refl }) h

pub stays_collected : (p : Plan) (w : World) (v : Supported) → IsSupport p w v → IsSupport p (collect w) v
unfolding collect
stays_collected p w v h = stays_cleared p (naming w) v (stays_named p w v h)

-- Ends

pub same_seats : (f : Client → Client) (xs : List Client) → ((x : Client) → seat_of (f x) ≡ seat_of x)
    → map seat_of (map f xs) ≡ map seat_of xs
same_seats f [] e = refl
same_seats f (x ∷ xs) e = λ i. e x i ∷ same_seats f xs e i

pub stays_given : (p : Plan) (w : World) (v : Supported) → IsSupport p w v → IsSupport p (give_back w) v
unfolding give_back
stays_given p w v h = grind (arith, nat_tests, keeps_given p w v.clients h.clients, related_by v.sinks.first w (give_back w), same_seats (queue_returns w) w.clients)

pub stays_fed : (p : Plan) (w : World) (presented : List Sub) (v : Supported) → IsSupport p w v → IsSupport p (feed presented w) v
unfolding feed
stays_fed p w presented v h =
    stays_like p w (feed presented w) v (record { clients = refl; relations = refl; tick = refl; root = refl; over = refl }) h

like_either : (t : Bool) (a b : Answer) (w : World) → IsLike w a.world → IsLike w b.world → IsLike w (cond t a b).world
like_either true a b w e f = e
like_either false a b w e f = f

like_scene : (p : Plan) (w : World) (scene : Scene) → IsLike w (scene_answer p w scene).world
unfolding scene_answer
like_scene p w scene = grind (arith, nat_tests, like_either (too_much (walk_of p.size scene)), like_either)

like_maybe : (p : Plan) (w : World) (o : Option Scene)
    → IsLike w (elim o as (λ o. Answer) [ Some scene ↦ scene_answer p w scene | None ↦ says reply.NoRoot w ]).world
like_maybe p w None = record { clients = refl; relations = refl; tick = refl; root = refl; over = refl }
like_maybe p w (Some scene) = like_scene p w scene

like_drawn : (p : Plan) (w : World) → IsLike w (draw_answer p w).world
unfolding draw_answer
like_drawn p w = grind (arith, nat_tests, like_either (is_some w.in_flight), like_maybe p w (scene_of w))

pub stays_drawn : (p : Plan) (w : World) (v : Supported) → IsSupport p w v → IsSupport p (draw_answer p w).world v
stays_drawn p w v h = stays_like p w (draw_answer p w).world v (like_drawn p w) h
