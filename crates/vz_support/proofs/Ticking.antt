-- A begin-frame and the end are those of the machine's state.
use Rattle.std.proofs.Common.{◌≡◌, ℕ, true, ap, sym, ◌∙◌, arith}
use Rattle.vz_rules.specs.{declared.entry.Reply.TheVariants.Ticked, Plan.Plan, World.World, Step.next_tick, Step.begin_answer}
use Rattle.vz_support.proofs.{Clients_kept.stays_begun, Requesting.makes, Requesting.first_is, Requesting.relations_are}
use Rattle.vz_sinks.specs.Relating.{Related, delivered_to}
use Rattle.vz_sinks.proofs.Same_seats.{delivered_as}
use Rattle.vz_support.specs.Supporting.{Supported, IsSupport}
use Rattle.std.proofs.lemmas.Bool.Decides.{nat_tests}

pub says_ticked : (p : Plan) (w : World) (v : Supported) (tick : ℕ) → IsSupport p w v → tick ≡ next_tick v.tick
    → (begin_answer p w).reply ≡ Ticked tick
unfolding begin_answer
says_ticked p w v tick is e = ap (λ n. Ticked n) (sym (e ∙ ap next_tick is.tick))

pub ticks : (p : Plan) (w : World) (v : Supported) (tick : ℕ) (s : Related) → IsSupport p w v → tick ≡ next_tick v.tick
    → s.first ≡ v.sinks.first
    → s.seats ≡ delivered_to v.sinks tick → s.relations ≡ v.sinks.relations
    → IsSupport p (begin_answer p w).world (record v { sinks = s; tick = tick })
unfolding begin_answer
ticks p w v tick s is e first seats relations =
    makes p (begin_answer p w).world (record v { sinks = s; tick = tick }) (stays_begun p w v.clients is.clients)
    (first_is p w v s is first)
    (seats ∙ ((λ i. delivered_to (is.sinks i) ((e ∙ ap next_tick is.tick) i))
    ∙ sym (delivered_as p w (next_tick w.tick) v.sinks.first is.first)))
    (relations ∙ relations_are p w v is) (e ∙ ap next_tick is.tick) is.root is.over

pub is_over : (p : Plan) (w : World) (v : Supported) → IsSupport p w v → IsSupport p (record w { over = true }) (record v { over = true })
is_over p w v is = grind (arith, nat_tests, makes p)
