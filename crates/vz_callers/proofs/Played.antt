-- What the calls of all callers come to.
use Rattle.std.specs.Prelude.{All, Result, Ok, Err, OnOk}
use Rattle.std.proofs.lemmas.List.{length-map}
use Rattle.vz_frame.specs.declared.message.ClientFile.{ClientFile}
use Rattle.std.proofs.Common.{◌≡◌, ℕ, zero, suc, ◌+◌, Bool, true, Option, Some, List, [], ◌∷◌, ◌++◌, length, refl, ap, sym, ◌∙◌, subst, arith}
use Rattle.atomic_table.specs.Seated.{TableId}
use Rattle.vz_loans.specs.Tokens.{Caller, unused, unused_from, IsAtRest}
use Rattle.vz_loans.proofs.Closing.{each_of, all_of, each_on}
use Rattle.vz_rules.specs.{Plan.Plan, Plan.message_counts, Step.Legal, Step.LegalFrom, Course.displayed, Whole.mine, declared.entry.Entry.Entry}
use Rattle.vz_turn.specs.Calls.{IsClosed}
use Rattle.vz_outside.specs.Told.{Call}
use Rattle.vz_outside.proofs.Passing.{told_none}
use Rattle.vz_callers.specs.{Callers.events_of, Callers.Stays, Callers.IsClient, Callers.HasTold, Callers.IsDisplay, Crews.numbers_of, Crews.HasCalledAll, Crews.IsBack}
use Rattle.vz_callers.specs.Turns.{rounds, IsTurns, AreEntriesTold}
use Rattle.vz_callers.proofs.{Called.rests_then, Crewing.all_pushed, Ended.all_told, Ended.turns, Ended.plan_is}

-- The passes of a new hub

pub unused_count : (id : TableId) (o : Option Plan) (k n : ℕ) → length (unused_from {P = Plan} {E = Entry} id o k n) ≡ n
unused_count id o k zero = refl
unused_count id o k (suc n) = omega (arith, unused_count id o (k + 1) n)

pub unused_first : (id : TableId) (o : Option Plan) (n : ℕ) → unused_from {P = Plan} {E = Entry} id o 0 (n + 1) ≡ unused id o 0 ∷ unused_from id o 1 n
unused_first id o n =
    let next : suc n ≡ n + 1 = omega arith in
    subst (λ (m : ℕ). unused_from {P = Plan} {E = Entry} id o 0 m ≡ unused id o 0 ∷ unused_from id o 1 n) next refl

pub unused_rests : (id : TableId) (o : Option Plan) (t : Caller Plan Entry) → t ≡ unused id o 0 → IsAtRest id t
unused_rests id o t is = (ap (λ (x : Caller Plan Entry). x.lock) is, ap (λ (x : Caller Plan Entry). x.inside) is)

pub counted : (p : Plan) (messages : List ℕ) → messages ≡ message_counts p → length messages ≡ length p.files
counted p messages counts = ap length counts ∙ length-map p.files (λ (file : ClientFile). length file.messages)

-- no history yet
pub none_legal : (p : Plan) (h : List Entry) → h ≡ [] → Legal p h
unfolding Legal LegalFrom
none_legal p h none = subst (Legal p) (sym none) tt

-- and no entry of which a gate might be told
pub none_told : (told : Call → Type 0) (h : List Entry) → h ≡ [] → AreEntriesTold told h
unfolding displayed mine
none_told told h none = subst (AreEntriesTold told) (sym none) (record { display = told_none told 0 0 0 (omega arith); clients = λ c from. told_none told c 0 0 (omega arith) })

-- The passes at the end

pub all_rest : (told : Call → Type 0) (id : TableId) (p : Plan) (messages : List ℕ) (back all : List (Caller Plan Entry)) (first display : Caller Plan Entry) (complete : Bool) → IsBack told id p messages back complete → all ≡ back ++ display ∷ []
    → IsAtRest id first → Stays first display → All (IsAtRest id) all
all_rest told id p messages back all first display complete b is rests stays =
    all_pushed (IsAtRest id) back all display is (all_of (IsAtRest id) back (each_on (IsClient id p) (IsAtRest id) (λ t k. k.rests) back (each_of (IsClient id p) back b.clients))) (rests_then id first display rests stays)

module _ (told : Call → Type 0) (id : TableId) (p q : Plan) (messages : List ℕ) (ticks n : ℕ) (h : List Entry) (new back all : List (Caller Plan Entry)) (first display : Caller Plan Entry)
    (counts : messages ≡ message_counts p) (many : n ≡ length p.files) (first_new : first ≡ unused id (Some p) 0) (new_are : new ≡ unused_from id (Some p) 1 n) (stays : Stays first display)
    (all_are : all ≡ back ++ display ∷ []) (closed : IsClosed q h all) (legal : Legal q h) where
  closed_there : IsClosed q h (back ++ display ∷ [])
  closed_there = subst (IsClosed q h) all_are closed

  same_plan : q ≡ p
  same_plan = plan_is p q h back display closed_there (stays.0.2 ∙ ap (λ (t : Caller Plan Entry). t.plan) first_new)

  -- the history is legal, whether all calls were made or not
  pub legal_there : Legal p h
  legal_there = subst (λ (r : Plan). Legal r h) same_plan legal

  module _ (complete : Bool) (shown : IsDisplay 0 first → HasTold told display) (b : IsBack told id p messages back complete) (numbers : numbers_of back ≡ numbers_of new) where
    zeroth : display.number ≡ 0
    zeroth = stays.0.1 ∙ ap (λ (t : Caller Plan Entry). t.number) first_new

    display_shown : HasTold told display
    display_shown = shown (record { zeroth = ap (λ (t : Caller Plan Entry). t.number) first_new; made = ap (λ (t : Caller Plan Entry). length (events_of t)) first_new })

    numbers_are : numbers_of back ≡ numbers_of (unused_from {P = Plan} {E = Entry} id (Some p) 1 (length p.files))
    numbers_are = numbers ∙ ap numbers_of (new_are ∙ ap (unused_from {P = Plan} {E = Entry} id (Some p) 1) many)

    -- the gate was told of each entry, whether all calls were made or not
    pub told_there : AreEntriesTold told h
    told_there = all_told told id p q h back display closed_there zeroth (each_of (IsClient id p) back b.clients) (each_of (HasTold told) back b.gated) display_shown numbers_are

    pub all_turns : {E : Type 0} (played : Result (Unit {0}) E) → OnOk played (events_of display ≡ events_of first ++ rounds ticks) → complete ≡ true → OnOk played (IsTurns p ticks h)
    all_turns (Err e) made is = tt
    all_turns (Ok x) made is =
        turns told id p q h back display closed_there zeroth (each_of (IsClient id p) back b.clients) (each_of (HasTold told) back b.gated) display_shown numbers_are messages ticks counts
        (made ∙ ap (λ (t : Caller Plan Entry). events_of t ++ rounds ticks) first_new) (each_of (HasCalledAll messages) back (b.all is)) same_plan legal
