-- What a register keeps, as it takes an event.
use Rattle.std.proofs.Common.{◌≡◌, ℕ, List, [], ◌∷◌, ◌++◌, length, refl, sym, ap, subst, ◌∙◌, arith}
use Rattle.std.specs.Prelude.{zip}
use Rattle.vz_rules.specs.{World.Machine, World.opening, declared.entry.Event.Event, declared.entry.Entry.Entry}
use Rattle.vz_rules.specs.Step.{entry_in, world, world_from, NamesClient, Legal, LegalFrom}
use Rattle.vz_rules.proofs.Runs.{world-more, legal-more}
use Rattle.vz_machine.specs.{declared.machine.Step.Step, Stepping.Answers, Stepping.Goes}
use Rattle.vz_turn.specs.{declared.brief.Brief.Brief, Briefs.brief_in}
use Rattle.vz_turn.specs.Registers.{Registered, entries_of, machine_of, next_entry, registered_on, TellsNext, IsRegistered}
use Rattle.std.proofs.{lemmas.Bool.Decides.nat_tests, lemmas.Grind.common_steps}

-- the entries of a log are those that got numbers
entries_zip : (cs : List ℕ) (h : List Entry) → length cs ≡ length h → entries_of (zip cs h) ≡ h
unfolding entries_of
entries_zip [] [] even = refl
entries_zip [] (e ∷ h) even = absurd (omega arith)
entries_zip (c ∷ cs) [] even = absurd (omega arith)
entries_zip (c ∷ cs) (e ∷ h) even = ap (λ (l : List Entry). e ∷ l) (entries_zip cs h (omega arith))

zip_more : (cs : List ℕ) (h : List Entry) (c : ℕ) (e : Entry) → length cs ≡ length h → zip (cs ++ c ∷ []) (h ++ e ∷ []) ≡ zip cs h ++ (c, e) ∷ []
zip_more [] [] c e even = refl
zip_more [] (x ∷ h) c e even = absurd (omega arith)
zip_more (d ∷ cs) [] c e even = absurd (omega arith)
zip_more (d ∷ cs) (x ∷ h) c e even = ap (λ (l : List (ℕ × Entry)). (d, x) ∷ l) (zip_more cs h c e (omega arith))

length_zip : (cs : List ℕ) (h : List Entry) → length cs ≡ length h → length (zip cs h) ≡ length h
length_zip [] [] even = refl
length_zip [] (x ∷ h) even = absurd (omega arith)
length_zip (d ∷ cs) [] even = absurd (omega arith)
length_zip (d ∷ cs) (x ∷ h) even = let rest = length_zip cs h (omega arith) in omega arith

-- a register before the first event
new_is : (m : Machine) → m.world ≡ opening m.plan → IsRegistered m [] []
unfolding world world_from Legal LegalFrom
new_is m opens = record { even = refl; behind = opens; legal = tt }

pub new_keeps : (m : Machine) (cs : List ℕ) (h : List Entry) → cs ≡ [] → h ≡ [] → m.world ≡ opening m.plan → IsRegistered m cs h
new_keeps m cs h no_callers none opens = subst (λ (x : List ℕ × List Entry). IsRegistered m x.0 x.1) (λ i. (sym no_callers i, sym none i)) (new_is m opens)

module _ (m : Machine) (cs : List ℕ) (h : List Entry) (is : IsRegistered m cs h) where
  -- the entries of the log are legal
  pub legal_there : Legal m.plan (entries_of (zip cs h))
  legal_there = subst (Legal m.plan) (sym (entries_zip cs h is.even)) is.legal

  pub still_legal : (m' : Machine) (cs' : List ℕ) (h' : List Entry) → m' ≡ m → cs' ≡ cs → h' ≡ h → Legal m'.plan (entries_of (zip cs' h'))
  still_legal m' cs' h' same callers entries = subst (λ (x : Machine × List ℕ × List Entry). Legal x.0.plan (entries_of (zip x.1 x.2))) (λ i. (sym same i, sym callers i, sym entries i)) legal_there

  module _ (r : Registered) (view : record { plan = m.plan; log = zip cs h } ≡ r) where
    -- the machine of a register is in the world after its log
    pub behind_is : m ≡ machine_of r
    behind_is = subst (λ (x : Registered). m ≡ machine_of x) view (λ i. record { plan = m.plan; world = (is.behind ∙ ap (world m.plan) (sym (entries_zip cs h is.even))) i })

    pub history_is : h ≡ entries_of r.log
    history_is = sym (entries_zip cs h is.even) ∙ ap (λ (x : Registered). entries_of x.log) view

    pub legal_is : Legal r.plan (entries_of r.log)
    legal_is = subst (λ (x : Registered). Legal x.plan (entries_of x.log)) view legal_there

    module _ (m' : Machine) (v : Event) (s : Step) (e : Entry) (answers : Answers m v s) (goes : Goes m v m') (entry : e ≡ record { event = v; reply = s.reply; effects = s.effects }) where
      made_by : e ≡ entry_in m.plan m.world v
      unfolding entry_in
      made_by = entry ∙ (λ i. record { event = v; reply = answers.reply i; effects = answers.effects i })

      event_is : e.event ≡ v
      event_is = ap (λ (x : Entry). x.event) entry

      -- the entry that is made is the next one
      made_next : e ≡ next_entry r v
      made_next = made_by ∙ ap (λ (x : Machine). entry_in x.plan x.world v) behind_is

      plan_stays : m'.plan ≡ m.plan
      plan_stays = ap (λ (x : Machine). x.plan) goes

      -- what holds with one more entry
      more_keeps : NamesClient m.plan v → (c : ℕ) → IsRegistered m' (cs ++ c ∷ []) (h ++ e ∷ [])
      more_keeps named c = grind (arith, nat_tests, common_steps, world-more m.plan h e, legal-more m.plan h e is.legal (subst (NamesClient m.plan) (sym event_is) named), made_by)

      module _ (c : ℕ) (cs1 cs2 : List ℕ) (h1 h2 : List Entry) (callers : cs1 ≡ cs) (with_caller : cs2 ≡ cs1 ++ c ∷ []) (entries : h1 ≡ h) (with_entry : h2 ≡ h1 ++ e ∷ []) where
        all_callers : cs2 ≡ cs ++ c ∷ []
        all_callers = with_caller ∙ ap (λ (l : List ℕ). l ++ c ∷ []) callers

        all_entries : h2 ≡ h ++ e ∷ []
        all_entries = with_entry ∙ ap (λ (l : List Entry). l ++ e ∷ []) entries

        pub goes_on : record { plan = m'.plan; log = zip cs2 h2 } ≡ registered_on r c v
        unfolding registered_on
        goes_on = grind (arith, nat_tests, plan_stays, made_next, all_callers, all_entries, zip_more cs h c e is.even)

        pub keeps_on : NamesClient r.plan v → IsRegistered m' cs2 h2
        keeps_on named = subst (λ (x : List ℕ × List Entry). IsRegistered m' x.0 x.1) (λ i. (sym all_callers i, sym all_entries i)) (more_keeps (subst (λ (x : Registered). NamesClient x.plan v) (sym view) named) c)

        pub told_is : (n : ℕ) (b : Brief) → n ≡ length h2 → b ≡ brief_in e.reply → TellsNext r v (record { place = n; reply = b })
        told_is n b place reply = grind (arith, nat_tests, common_steps, all_entries, made_next, length_zip cs h is.even)
