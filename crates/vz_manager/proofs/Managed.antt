-- The machine over its parts: a step goes on from the world that the events before it led to.
use Rattle.std.proofs.Common.{◌≡◌, ℕ, ◌≤◌, List, [], ◌∷◌, ◌++◌, Some, length, refl, ap, sym, ◌∙◌, subst}
use Rattle.vz_rules.specs.{declared.entry.Event.Event, Plan.Plan, Step.step_in}
use Rattle.vz_rules.specs.World.{World, Machine, Client, client_at, opening}
use Rattle.vz_machine.specs.{Stepping.HasClient, Stepping.Goes, Stepping.Answers, declared.machine.Step.Step}
use Rattle.vz_support.proofs.Asking.{known_there, numbered_there}
use Rattle.vz_manager.specs.{Serving.Served, Serving.Serves, Serving.IsStepOf, Managing.after, Managing.led_to}

-- one event more
pub after_more : (p : Plan) (w : World) (es : List Event) (e : Event) → after p w (es ++ e ∷ []) ≡ (step_in p (after p w es) e).world
unfolding after
after_more p w [] e = refl
after_more p w (d ∷ es) e = after_more p (step_in p w d).world es e

-- what stands for the world behind a step stands for that of the longer list
pub stands_more : (p : Plan) (told more : List Event) (e : Event) (v : Served) → more ≡ told ++ e ∷ []
    → Serves p (step_in p (led_to p told).world e).world v → Serves p (led_to p more).world v
stands_more p told more e v shown h =
    subst (λ w. Serves p w v) (sym (after_more p (opening p) told e) ∙ sym (ap (after p (opening p)) shown)) h

-- what stands for a state stands for it where it is lent
pub serves_lent : (p : Plan) (w : World) (lent v : Served) → lent ≡ v → Serves p w v → Serves p w lent
serves_lent p w lent v is = subst (λ (x : Served). Serves p w x) (sym is)

-- the machine goes on by one step
pub goes_more : (m : Machine) (p : Plan) (told more : List Event) (e : Event) → led_to p told ≡ m → more ≡ told ++ e ∷ [] → Goes m e (led_to p more)
goes_more m p told more e is shown =
    subst (λ (x : Machine). Goes x e (led_to p more)) is
    (λ i. record { plan = p; world = (ap (after p (opening p)) shown ∙ after_more p (opening p) told e) i })

-- a client of the plan is one of those that are kept
pub known_client : (m : Machine) (p : Plan) (told : List Event) (c : ℕ) (v : Served) → led_to p told ≡ m → HasClient m c
    → Serves p (led_to p told).world v → (1 ≤ c) × (c ≤ length v.support.clients)
known_client m p told c v is has h =
    known_there (led_to p told) c v.support h.of_plan h.support (subst (λ (x : Machine). HasClient x c) (sym is) has)

-- and there it is
pub found_client : (p : Plan) (w : World) (c : ℕ) (v : Served) → Serves p w v → 1 ≤ c → c ≤ length v.support.clients
    → (x : Client) × (client_at w c ≡ Some x)
found_client p w c v h some known =
    numbered_there w c h.keeps.always.clients some (subst (λ n. c ≤ n) h.support.clients.count known)

-- a step's answer is the machine's
pub answers_so : (m : Machine) (p : Plan) (told : List Event) (e : Event) (s : Step) → led_to p told ≡ m → IsStepOf p (led_to p told).world e s
    → Answers m e s
answers_so m p told e s is h = subst (λ (x : Machine). Answers x e s) is (record { reply = h.reply; effects = h.effects })

-- nothing was told yet
pub opened_so : (p q : Plan) (told : List Event) → q ≡ p → told ≡ [] → led_to q told ≡ record { plan = p; world = opening p }
unfolding after
opened_so p q told same none = λ i. led_to (same i) (none i)

-- so what stands for the opening world stands for that which nothing led to
pub serves_opened : (p q : Plan) (told : List Event) (v : Served) → q ≡ p → told ≡ [] → Serves p (opening p) v → Serves q (led_to q told).world v
serves_opened p q told v same none h = subst (λ (m : Machine). Serves m.plan m.world v) (sym (opened_so p q told same none)) h
