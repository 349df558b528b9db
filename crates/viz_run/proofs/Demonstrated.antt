-- The plan of the demonstration and its events.
use Rattle.std.proofs.Common.{◌≡◌, ℕ, zero, suc, ◌+◌, ◌≤◌, ◌<◌, All, List, [], ◌∷◌, ◌++◌, length, take, take_all, sym, ap, subst, ◌∙◌, arith}
use Rattle.std.proofs.lemmas.List.Elements.{All-nil, All-cons}
use Rattle.vz_base.specs.declared.limits.TheConstants.{DEFAULT_BUFFERS}
use Rattle.vz_display.specs.Displayed.{upto_most}
use Rattle.vz_gen.specs.Make.{make}
use Rattle.vz_rules.specs.{Command.Demo, Plan.Plan}
use Rattle.vz_rules.specs.{Frames.painted, Step.NamesClient, Step.Legal, Step.LegalFrom, declared.entry.Event.Event, declared.entry.Entry.Entry}
use Rattle.vz_rules.specs.declared.entry.Event.TheVariants as event
use Rattle.viz_run.specs.{Planned.demo_plan, Ends.IsHistory, Ends.events_in, Lines.drawn_count, Lines.return_count, Lines.demo_text, Lines.end_line}
use Rattle.viz_run.specs.Demo.{demo_events, four, round, rounds}

module _ (n : ℕ) where
  client_named : (c : ℕ) → 0 < c → c ≤ 3 → NamesClient (demo_plan n) (event.Client c)
  unfolding make
  client_named c some few = (some, few)

  four_named : (c : ℕ) → 0 < c → c ≤ 3 → (es : List Event) → All (NamesClient (demo_plan n)) es → All (NamesClient (demo_plan n)) (four c ++ es)
  four_named c some few es rest =
      let P : Event → Type 0 = NamesClient (demo_plan n) in
      let one : P (event.Client c) = client_named c some few in
      All-cons P (event.Client c) (event.Client c ∷ event.Client c ∷ event.Client c ∷ es) one
      (All-cons P (event.Client c) (event.Client c ∷ event.Client c ∷ es) one
      (All-cons P (event.Client c) (event.Client c ∷ es) one (All-cons P (event.Client c) es one rest)))

  round_named : (es : List Event) → All (NamesClient (demo_plan n)) es → All (NamesClient (demo_plan n)) (round ++ es)
  round_named es rest =
      let P : Event → Type 0 = NamesClient (demo_plan n) in
      let shown : List Event = event.Draw ∷ event.Done ∷ es in
      All-cons P event.Begin (four 2 ++ four 3 ++ shown) tt
      (four_named 2 (omega arith) (omega arith) (four 3 ++ shown)
      (four_named 3 (omega arith) (omega arith) shown (All-cons P event.Draw (event.Done ∷ es) tt (All-cons P event.Done es tt rest))))

  rounds_named : (m : ℕ) → All (NamesClient (demo_plan n)) (rounds m)
  unfolding rounds
  rounds_named zero = All-nil (NamesClient (demo_plan n))
  rounds_named (suc m) = round_named (rounds m) (rounds_named m)

  -- each event is of a client that there is
  pub events_named : All (NamesClient (demo_plan n)) (demo_events n)
  events_named = four_named 1 (omega arith) (omega arith) (rounds n) (rounds_named n)

-- an empty history is one of no event
pub none_played : (p : Plan) (es : List Event) (h : List Entry) → h ≡ [] → (n : ℕ) × IsHistory p (take n es) h
unfolding Legal LegalFrom
none_played p es h empty = (0, record { legal = subst (Legal p) (sym empty) tt; all = ap events_in empty })

-- one of all events is one of the first of them
pub all_played : (p : Plan) (es : List Event) (h : List Entry) → IsHistory p es h → (n : ℕ) × IsHistory p (take n es) h
all_played p es h is = (length es, subst (λ xs. IsHistory p xs h) (sym (take_all (length es) es (omega arith))) is)

-- what is said of this plan and of these events is said of those of the demonstration
module _ (n : ℕ) (p : Plan) (es : List Event) (plan : p ≡ demo_plan n) (events : es ≡ demo_events n) where
  pub named_by : All (NamesClient p) es
  named_by = subst (λ (x : Plan). All (NamesClient x) es) (sym plan) (subst (All (NamesClient (demo_plan n))) (sym events) (events_named n))

  pub history_by : (h : List Entry) → IsHistory p es h → IsHistory (demo_plan n) (demo_events n) h
  history_by h is = subst (λ (x : Plan). IsHistory x (demo_events n) h) plan (subst (λ (xs : List Event). IsHistory p xs h) events is)

  pub front_by : (h : List Entry) → (k : ℕ) × IsHistory p (take k es) h → (k : ℕ) × IsHistory (demo_plan n) (take k (demo_events n)) h
  front_by h front = (
    front.0,
    subst (λ (x : Plan). IsHistory x (take front.0 (demo_events n)) h) plan
        (subst (λ (xs : List Event). IsHistory p (take front.0 xs) h) events front.1),
  )

  pub counted_by : (h : List Entry) (s t : ℕ) → t ≡ s + painted p h DEFAULT_BUFFERS → t ≡ s + painted (demo_plan n) h DEFAULT_BUFFERS
  counted_by h s t counted = counted ∙ ap (λ (x : Plan). s + painted x h DEFAULT_BUFFERS) plan

  -- the line is that of its history
  pub line_by :
      (h told : List Entry) (points : ℕ) (text : List ℕ) → told ≡ h → points ≡ upto_most (painted p h DEFAULT_BUFFERS)
      → text ≡ demo_text (length told) (drawn_count told) (upto_most (return_count told)) points
      → text ≡ end_line (Demo n) (demo_plan n) h
  line_by h told points text same says is =
      is ∙ ap (λ (xs : List Entry). demo_text (length xs) (drawn_count xs) (upto_most (return_count xs)) points) same
      ∙ ap (demo_text (length h) (drawn_count h) (upto_most (return_count h)))
      (says ∙ ap (λ (x : Plan). upto_most (painted x h DEFAULT_BUFFERS)) plan)
