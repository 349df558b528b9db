-- What is asked of a client is what is asked of it in the machine's state.
use Rattle.std.proofs.Common.{◌≡◌, ℕ, ◌+◌, ◌-◌, ◌<◌, ◌≤◌, Bool, true, false, not, ◌&&◌, ◌||◌, ◌==◌, nat_lt, Option, Some, None, is_some}
use Rattle.std.proofs.Common.{is_none, length, option_copied, Bor, refl, ap, ◌∙◌, arith}
use Rattle.std.proofs.{lemmas.Bool.eq-eqb, lemmas.Bool.Decides.nat_tests}
use Rattle.vz_frame.specs.{declared.message.Message.Message, declared.message.Message.TheVariants.Await, Frame.first_of}
use Rattle.vz_rules.specs.{Plan.Plan, Kept.KeepsClients, Kept.KeepsPlan, Course.waits, Course.is_idle, Course.has_answered, Step.is_attached}
use Rattle.vz_rules.specs.World.{World, Client, Machine, client_at, next_message}
use Rattle.vz_rules.proofs.{Cases.number_at, Kept_small.at_there, Members.at_contains, Members.any_from, Members.found}
use Rattle.vz_machine.specs.Stepping.{HasClient, asked, waits_at, idle_at, answered_at, attached_at, listed_at, listed_in}
use Rattle.vz_support.specs.{Sent.sender_at, Sending.IsSender, Supporting.Supported, Supporting.IsSupport, Supporting.is_await}
use Rattle.vz_support.proofs.Clients_kept.{tells_next}
use Rattle.vz_sinks.specs.Relating.{standing, attached_in}
use Rattle.vz_sinks.proofs.Same_seats.{standing_is, attached_as}

-- a copy of what is borrowed is there where that is
pub copied_none : {A : Type 0} (o : Option (Bor A)) (t : Bool) → is_some o ≡ not t → t ≡ is_none (option_copied o)
copied_none o t e = grind (arith, nat_tests)

some_client : (o : Option Client) → is_some o ≡ true → (x : Client) × (o ≡ Some x)
some_client None h = absurd (cc)
some_client (Some x) h = (x, refl)

-- where clients are numbered from 1, each number up to their count is one of theirs
pub numbered_there : (w : World) (c : ℕ) → KeepsClients w.clients → 1 ≤ c → c ≤ length w.clients → (x : Client) × (client_at w c ≡ Some x)
numbered_there w c keeps some known =
    let below : c - 1 < length w.clients = omega (arith, some, known) in
    let at = at_there w.clients (c - 1) below in
    let first : at.0.number ≡ c - 1 + 1 = keeps.numbered (c - 1) at.0 at.1 in
    let number : at.0.number ≡ c = omega (arith, first, some) in
    some_client (client_at w c)
    (found (λ (z : Client). z.number == c) w.clients
    ∙ any_from (λ (z : Client). z.number == c) w.clients at.0 (at_contains w.clients (c - 1) at.0 at.1) (eq-eqb at.0.number c number))

-- each client of the plan is kept
pub known_there : (m : Machine) (c : ℕ) (v : Supported) → KeepsPlan m.plan m.world → IsSupport m.plan m.world v → HasClient m c
    → (1 ≤ c) × (c ≤ length v.clients)
known_there m c v keeps is has = grind (arith, nat_tests)

-- what is kept of a client of the state
pub kept_of : (p : Plan) (w : World) (v : Supported) (c : ℕ) (x : Client) → IsSupport p w v → client_at w c ≡ Some x
    → IsSender p x (sender_at v.clients c)
kept_of p w v c x is here = is.clients.each c x here

pub next_same : (p : Plan) (w : World) (v : Supported) (c : ℕ) (x : Client) → IsSupport p w v → client_at w c ≡ Some x
    → first_of (sender_at v.clients c).left ≡ next_message p x
next_same p w v c x is here = grind (arith, nat_tests, number_at w c x here, tells_next p w x v.clients is.clients)

-- the begin-frame that stands
pub stands_same : (p : Plan) (w : World) (v : Supported) (c : ℕ) (x : Client) → IsSupport p w v → client_at w c ≡ Some x
    → standing v.sinks.seats c ≡ x.delivered
stands_same p w v c x is here = ap (λ (s : _). standing s.seats c) is.sinks ∙ standing_is w.clients x c here

pub attached_same : (p : Plan) (w : World) (v : Supported) (c : ℕ) (x : Client) → IsSupport p w v → client_at w c ≡ Some x
    → attached_in v.sinks c ≡ is_attached p w x
attached_same p w v c x is here = ap (λ s. attached_in s c) is.sinks ∙ attached_as p w x c v.sinks.first is.first here

waits_by : (o : Option Message) (d : Option ℕ) (a b : Bool)
    → (is_await o && not (is_some d) && a && b)
    ≡ elim o as (λ o. Bool) [ Some m ↦ (elim m as (λ m. Bool) [ Await ↦ is_none d && a && b | _ ↦ false ]) | None ↦ false ]
waits_by o d a b = grind (arith, nat_tests)

pub waits_same : (p : Plan) (w : World) (v : Supported) (c : ℕ) (x : Client) → IsSupport p w v → client_at w c ≡ Some x
    → (is_await (first_of (sender_at v.clients c).left) && not (is_some (standing v.sinks.seats c)) && not v.over
    && not (sender_at v.clients c).closed) ≡ waits p w x
waits_same p w v c x is here =
    (λ i. is_await (next_same p w v c x is here i) && not (is_some (stands_same p w v c x is here i)) && not (is.over i)
    && not ((kept_of p w v c x is here).closed i))
    ∙ waits_by (next_message p x) x.delivered (not w.over) (not x.closed)

-- a question about a client that is there
asked_here : (m : Machine) (v : Supported) (c : ℕ) (b : Bool) (f : Client → Bool) → KeepsClients m.world.clients
    → IsSupport m.plan m.world v → 1 ≤ c → c ≤ length v.clients
    → ((x : Client) → client_at m.world c ≡ Some x → b ≡ f x) → b ≡ asked (client_at m.world c) f
asked_here m v c b f keeps is some known same = grind (arith, nat_tests, numbered_there m.world c keeps some)

module _ (m : Machine) (v : Supported) (c : ℕ) (keeps : KeepsClients m.world.clients) (is : IsSupport m.plan m.world v) (some : 1 ≤ c)
    (known : c ≤ length v.clients) where
  pub waits_here : (a s o d : Bool) → a ≡ is_await (first_of (sender_at v.clients c).left) → s ≡ is_some (standing v.sinks.seats c)
      → o ≡ v.over
      → d ≡ (sender_at v.clients c).closed → (a && not s && not o && not d) ≡ waits_at m c
  waits_here a s o d ea es eo ed =
      (λ i. ea i && not (es i) && not (eo i) && not (ed i))
      ∙ asked_here m v c _ (waits m.plan m.world) keeps is some known (λ x here. waits_same m.plan m.world v c x is here)

  waits_is : (x : Client) → client_at m.world c ≡ Some x → waits_at m c ≡ waits m.plan m.world x
  waits_is x here = ap (λ o. asked o (waits m.plan m.world)) here

  pub idle_here : (d n s : Bool) → d ≡ (sender_at v.clients c).closed → n ≡ is_none (first_of (sender_at v.clients c).left)
      → s ≡ waits_at m c
      → (d || n || s) ≡ idle_at m c
  idle_here d n s ed en es =
      asked_here m v c _ (is_idle m.plan m.world) keeps is some known
      (λ x here.
      (λ i.
      (ed ∙ (kept_of m.plan m.world v c x is here).closed) i || (en ∙ ap is_none (next_same m.plan m.world v c x is here)) i
      || (es ∙ waits_is x here) i))

  pub answered_here : (t n : ℕ) → t ≡ v.tick → n ≡ (sender_at v.clients c).answered → (nat_lt 0 t && (n == t)) ≡ answered_at m c
  answered_here t n et en =
      asked_here m v c _ (has_answered m.world) keeps is some known
      (λ x here.
      (λ i. nat_lt 0 ((et ∙ is.tick) i) && ((en ∙ (kept_of m.plan m.world v c x is here).answered) i == (et ∙ is.tick) i)))

  pub attached_here : (b : Bool) → b ≡ attached_in v.sinks c → b ≡ attached_at m c
  attached_here b e =
      asked_here m v c b (is_attached m.plan m.world) keeps is some known (λ x here. e ∙ attached_same m.plan m.world v c x is here)

  pub listed_here : (n : ℕ) → n ≡ listed_in (first_of (sender_at v.clients c).left) → n ≡ listed_at m c
  listed_here n e = grind (arith, nat_tests, numbered_there m.world c keeps some, next_same m.plan m.world v c)
