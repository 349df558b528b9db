-- The entry of an event that a stage takes.
use Rattle.std.proofs.Common.{◌≡◌, ◌∙◌, sym, ap}
use Rattle.vz_machine.specs.{Stepping.Answers, declared.machine.Step.Step}
use Rattle.vz_rules.specs.{declared.entry.Effects.Effects, declared.entry.Entry.Entry, Step.Outcome, Step.entry_in, Step.step_in, World.Machine}
use Rattle.vz_rules.specs.{declared.entry.Event.Event, declared.entry.Reply.Reply}

-- the entry of an event that is answered
pub entry_is :
    (m : Machine) (v w u : Event) (s : Step) (e : Entry) → w ≡ v → u ≡ v → Answers m v s
    → e ≡ record { event = u; reply = s.reply; effects = s.effects } → e ≡ entry_in m.plan m.world w
unfolding entry_in
entry_is m v w u s e same own answers is =
    let o : Outcome = step_in m.plan m.world w in
    let next : step_in m.plan m.world v ≡ o = ap (step_in m.plan m.world) (sym same) in
    let reply_is : s.reply ≡ o.reply = answers.reply ∙ ap (λ (x : Outcome). x.reply) next in
    let effects_are : s.effects ≡ o.effects = answers.effects ∙ ap (λ (x : Outcome). x.effects) next in
    is ∙ (ap (λ (x : Event). record { event = x; reply = s.reply; effects = s.effects }) (own ∙ sym same)
    ∙ (ap (λ (r : Reply). record { event = w; reply = r; effects = s.effects }) reply_is
    ∙ ap (λ (f : Effects). record { event = w; reply = o.reply; effects = f }) effects_are))
