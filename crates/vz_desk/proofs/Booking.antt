-- What a book keeps, as it takes an event.
use Rattle.std.proofs.Common.{◌≡◌, ℕ, ◌<◌, ◌≤◌, true, false, Option, List, [], ◌∷◌, ◌++◌, length, sym, ap, subst, ◌∙◌, arith}
use Rattle.std.specs.Prelude.{is_some, IsTrue}
use Rattle.vz_rules.specs.{Plan.Plan, World.World, World.Machine, World.opening, declared.entry.Event.Event, declared.entry.Entry.Entry}
use Rattle.vz_base.specs.declared.limits.TheConstants.{MOST_FILES}
use Rattle.vz_rules.specs.declared.entry.Event.TheVariants as event
use Rattle.vz_rules.specs.declared.entry.Reply.{Reply}
use Rattle.vz_rules.specs.Step.{step_in, entry_in, world, world_from, NamesClient, Legal, LegalFrom}
use Rattle.vz_rules.proofs.Runs.{world-more, legal-more}
use Rattle.vz_machine.specs.{declared.machine.Step.Step, Stepping.Answers, Stepping.Goes, Stepping.ShowsDrawn, Pictured.Pictured}
use Rattle.vz_desk.proofs.Flying.{done_lands}
use Rattle.vz_desk.specs.Books.{Booked, machine_of, next_entry, booked_on, IsBooked}
use Rattle.std.proofs.lemmas.Bool.Decides.{nat_tests}

-- the entry of a step that answers an event
pub entry_is : (m : Machine) (v : Event) (s : Step) (e : Entry) → Answers m v s → e ≡ record { event = v; reply = s.reply; effects = s.effects } → e ≡ entry_in m.plan m.world v
unfolding entry_in
entry_is m v s e answers is = is ∙ (λ i. record { event = v; reply = answers.reply i; effects = answers.effects i })

pub event_is : (p : Plan) (w : World) (v : Event) (e : Entry) → e ≡ entry_in p w v → e.event ≡ v
unfolding entry_in
event_is p w v e is = ap (λ (x : Entry). x.event) is

module _ {S : Type 0} {n : ℕ} where
  -- what a book becomes
  pub new_is : (m m' : Machine) (spare : ℕ) (old : Booked S) (v : Event) (e : Entry) (h g : List Entry) (r : Option S) (a : Option ℕ) → IsBooked m n spare old → e ≡ entry_in m.plan m.world v → Goes m v m'
      → h ≡ old.history → g ≡ h ++ e ∷ [] → r ≡ old.reason → a ≡ old.awaited → record { plan = m'.plan; history = g; reason = r; awaited = a } ≡ booked_on old v
  unfolding booked_on
  new_is m m' spare old v e h g r a is entry goes same more reason awaited = grind (arith, nat_tests)

  -- what a book keeps stands for what it becomes
  pub booked_is : (m m' : Machine) (spare spare' : ℕ) (old new : Booked S) (v : Event) (e : Entry) → IsBooked m n spare old → NamesClient old.plan v → e ≡ entry_in m.plan m.world v → Goes m v m'
      → (IsTrue (is_some m'.world.in_flight) → 0 < spare') → new ≡ booked_on old v → IsBooked m' n spare' new
  unfolding booked_on
  booked_is m m' spare spare' old new v e is named entry goes room new_is = grind (arith, nat_tests, legal-more, event_is, world-more)

  -- what a book becomes by a step of its machine
  pub goes_on : {a : Option ℕ} (m m' : Machine) (spare : ℕ) (old : Booked S) (v : Event) (s : Step) (e : Entry) (h h1 g : List Entry) (r : Option S) → IsBooked m n spare (record { plan = m.plan; history = h; reason = r; awaited = a })
      → record { plan = m.plan; history = h; reason = r; awaited = a } ≡ old → Answers m v s → Goes m v m' → e ≡ record { event = v; reply = s.reply; effects = s.effects } → h1 ≡ h → g ≡ h1 ++ e ∷ []
      → record { plan = m'.plan; history = g; reason = r; awaited = a } ≡ booked_on old v
  goes_on {a = a} m m' spare old v s e h h1 g r is view answers goes entry same more = new_is m m' spare old v e h1 g r a (subst (IsBooked m n spare) view is) (entry_is m v s e answers entry) goes
      (same ∙ ap (λ (b : Booked S). b.history) view) more (ap (λ (b : Booked S). b.reason) view) (ap (λ (b : Booked S). b.awaited) view)

  -- what it keeps
  pub keeps_on : {a : Option ℕ} (m m' : Machine) (spare spare' : ℕ) (old : Booked S) (v : Event) (s : Step) (e : Entry) (h h1 g : List Entry) (r : Option S) → IsBooked m n spare (record { plan = m.plan; history = h; reason = r; awaited = a })
      → record { plan = m.plan; history = h; reason = r; awaited = a } ≡ old → Answers m v s → Goes m v m' → e ≡ record { event = v; reply = s.reply; effects = s.effects } → h1 ≡ h → g ≡ h1 ++ e ∷ []
      → NamesClient old.plan v → (IsTrue (is_some m'.world.in_flight) → 0 < spare') → IsBooked m' n spare' (record { plan = m'.plan; history = g; reason = r; awaited = a })
  keeps_on m m' spare spare' old v s e h h1 g r is view answers goes entry same more named room = booked_is m m' spare spare' old _ v e (subst (IsBooked m n spare) view is) named (entry_is m v s e answers entry) goes room
      (goes_on m m' spare old v s e h h1 g r is view answers goes entry same more)

  -- what a drawing shows, in the world behind the history
  pub shows_on : (m : Machine) (spare : ℕ) (old : Booked S) (v : Event) (s : Step) (o : Option Pictured) → IsBooked m n spare old → Answers m v s → ShowsDrawn m s.reply o → ShowsDrawn (machine_of old) (next_entry old v).reply o
  unfolding entry_in
  shows_on m spare old v s o is answers shows = subst (λ (x : Machine × Reply). ShowsDrawn x.0 x.1 o) (λ i. (is.behind i, (answers.reply ∙ ap (λ (x : Machine). (step_in x.plan x.world v).reply) is.behind) i)) shows

  empty_keeps : {a : Option ℕ} (m : Machine) (spare : ℕ) (r : Option S) → m.world ≡ opening m.plan → n ≡ length m.plan.files → length m.plan.files ≤ MOST_FILES → IsBooked m n spare (record { plan = m.plan; history = []; reason = r; awaited = a })
  unfolding world world_from Legal LegalFrom opening
  empty_keeps m spare r opens counted few = grind (arith, nat_tests)

  -- a book before the first event
  pub new_keeps : {a : Option ℕ} (m : Machine) (spare : ℕ) (r : Option S) (h : List Entry) → h ≡ [] → m.world ≡ opening m.plan → n ≡ length m.plan.files → length m.plan.files ≤ MOST_FILES → IsBooked m n spare (record { plan = m.plan; history = h; reason = r; awaited = a })
  new_keeps {a = a} m spare r h empty opens counted few = subst (λ (x : List Entry). IsBooked m n spare (record { plan = m.plan; history = x; reason = r; awaited = a })) (sym empty) (empty_keeps m spare r opens counted few)

-- after Done no frame is in flight
pub landed : (m m' : Machine) (spare : ℕ) → Goes m event.Done m' → IsTrue (is_some m'.world.in_flight) → 0 < spare
landed m m' spare goes flies = let none : false ≡ true = ap is_some (sym (ap (λ (x : Machine). x.world.in_flight) goes ∙ done_lands m.plan m.world)) ∙ flies in absurd (cc)
