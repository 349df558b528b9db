-- The entry of an event, and that a drawing alone has a picture.
use Rattle.std.proofs.Common.{◌≡◌, Bool, true, false, None, sym, ap, subst, ◌∙◌}
use Rattle.std.specs.Prelude.{is_some, if◌then◌else◌}
use Rattle.vz_rules.specs.{declared.entry.Event.Event, declared.entry.Reply.Reply, declared.entry.Effects.Effects}
use Rattle.vz_rules.specs.declared.entry.Event.TheVariants as event
use Rattle.vz_rules.specs.declared.entry.Reply.TheVariants as reply
use Rattle.vz_rules.specs.{declared.entry.Entry.Entry, World.World, World.Client, World.Machine, Messages.Answer, Messages.says, Messages.accepted}
use Rattle.vz_rules.specs.Step.{Outcome, begin_answer, done_answer, answer_to, outcome_of, step_in, entry_in}
use Rattle.vz_rules.proofs.Cases.{client_cases}
use Rattle.vz_machine.specs.{Stepping.Answers, Stepping.ShowsDrawn, declared.machine.Step.Step}

-- an event that is no drawing
abbrev pub IsOther : Event → Type 0
IsOther event.Draw = ⊥
IsOther _ = Unit {0}

done_by : (m : Machine) (w : World) (t : Bool) → ShowsDrawn m (if t then says reply.Shown (record w { in_flight = None }) else says reply.Nothing w).reply None
done_by m w true = tt
done_by m w false = tt

undrawn : (m : Machine) (v : Event) → IsOther v → ShowsDrawn m (step_in m.plan m.world v).reply None
unfolding step_in outcome_of answer_to begin_answer done_answer accepted
undrawn m (event.Client c) other =
    client_cases m.plan m.world c (λ (a : Answer). ShowsDrawn m a.reply None) tt (λ (x : Client) found same.
    record {
      turned = λ q r t e. tt;
      not_yet = λ e. tt;
      stored = λ id block u e. tt;
      submitted = λ local frame u e. tt;
      noted = λ n e. tt;
      reclaimed = λ e. tt;
      rooted = λ local root e. tt;
      joined = λ parent child u e. tt;
      began = λ n u e. tt;
      over = λ e. tt;
      left = λ e. tt;
    })
undrawn m event.Begin other = tt
undrawn m event.Draw other = absurd other
undrawn m event.Done other = done_by m m.world (is_some m.world.in_flight)
undrawn m event.Over other = tt

-- an event that is no drawing has no picture
pub no_picture : (m : Machine) (v w : Event) (s : Step) (e : Entry) → IsOther v → Answers m v s → e ≡ record { event = w; reply = s.reply; effects = s.effects } → ShowsDrawn m e.reply None
no_picture m v w s e other answers is =
    subst (λ (r : Reply). ShowsDrawn m r None) (sym (ap (λ (x : Entry). x.reply) is ∙ answers.reply)) (undrawn m v other)

-- the entry of an event that is answered
pub entry_is : (m : Machine) (v w u : Event) (s : Step) (e : Entry) → w ≡ v → u ≡ v → Answers m v s → e ≡ record { event = u; reply = s.reply; effects = s.effects } → e ≡ entry_in m.plan m.world w
unfolding entry_in
entry_is m v w u s e same own answers is =
    let o : Outcome = step_in m.plan m.world w in
    let next : step_in m.plan m.world v ≡ o = ap (step_in m.plan m.world) (sym same) in
    let reply_is : s.reply ≡ o.reply = answers.reply ∙ ap (λ (x : Outcome). x.reply) next in
    let effects_are : s.effects ≡ o.effects = answers.effects ∙ ap (λ (x : Outcome). x.effects) next in
    is ∙ (ap (λ (x : Event). record { event = x; reply = s.reply; effects = s.effects }) (own ∙ sym same)
    ∙ (ap (λ (r : Reply). record { event = w; reply = r; effects = s.effects }) reply_is ∙ ap (λ (f : Effects). record { event = w; reply = o.reply; effects = f }) effects_are))
