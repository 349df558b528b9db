-- What a turn leaves of a pass.
use Rattle.std.proofs.Common.{◌≡◌, ℕ, ◌+◌, List, [], ◌∷◌, ◌++◌, length, Some, sym, ap, subst, ◌∙◌, arith}
use Rattle.std.specs.Prelude.{All}
use mathlib.Core.List.{IsPrefix}
use Rattle.vz_loans.specs.Rule.{Log, places}
use Rattle.vz_loans.specs.Tokens.{Caller, mine, numbered, IsSameCaller, IsClosedBy}
use Rattle.vz_rules.specs.{Plan.Plan, World.Machine, declared.entry.Event.Event, declared.entry.Entry.Entry, Step.Legal}
use Rattle.vz_turn.specs.{declared.brief.Told.Told, Calls.Makes, Calls.IsClosed}
use Rattle.vz_turn.specs.Registers.{Registered, entries_of, machine_of, next_entry, registered_on, TellsNext}
use Rattle.std.proofs.{lemmas.Bool.Decides.nat_tests, lemmas.Grind.common_steps}

-- the pass before a turn and in it, and the register that was found
module _ (t0 t1 : Caller Plan Entry) (r : Registered) (first : IsSameCaller t0 t1) (planned : t1.plan ≡ Some r.plan) (found : t1.seen ≡ r.log) (later : IsPrefix t0.seen t1.seen) (stays : mine t1 ≡ mine t0) where
  -- the register is left with one more entry
  module _ (r' : Registered) (n : ℕ) (v : Event) (number : n ≡ t1.number) (ok : r' ≡ registered_on r n v) where
    plan_left : r'.plan ≡ r.plan
    unfolding registered_on
    plan_left = ap (λ (x : Registered). x.plan) ok

    log_left : r'.log ≡ r.log ++ (t1.number, next_entry r v) ∷ []
    unfolding registered_on
    log_left = ap (λ (x : Registered). x.log) ok ∙ ap (λ (k : ℕ). r.log ++ (k, next_entry r v) ∷ []) number

    pub plan_kept : t1.plan ≡ Some r'.plan
    plan_kept = planned ∙ ap Some (sym plan_left)

    pub entry_added : r'.log ≡ t1.seen ++ (t1.number, next_entry r v) ∷ []
    entry_added = log_left ∙ ap (λ (l : Log Entry). l ++ (t1.number, next_entry r v) ∷ []) (sym found)

    pub makes : (t2 : Caller Plan Entry) (told : Told) → TellsNext r v told → Legal r'.plan (entries_of r'.log) → IsSameCaller t1 t2 → t2.seen ≡ r'.log
        → ((e : Entry) → r'.log ≡ t1.seen ++ (t1.number, e) ∷ [] → mine t2 ≡ mine t1 ++ (length t1.seen + 1) ∷ []) → Makes t0 t2 v told
    makes t2 told tells legal second seen one = grind (arith, nat_tests, common_steps, log_left, plan_left, entry_added)

-- what remains of a hub
module _ (m : Machine) (r : Registered) (h : List Entry) (machine : m ≡ machine_of r) (history : h ≡ entries_of r.log) where
  pub closed_behind : (passes : List (Caller Plan Entry)) → All (IsClosedBy r.plan r.log) passes → ((n : ℕ) → numbered n passes ≡ 0 → places n r.log ≡ []) → IsClosed m.plan h passes
  closed_behind passes closed others = record {
    log = r.log;
    entries = sym history;
    closed = subst (λ (p : Plan). All (IsClosedBy p r.log) passes) (sym (ap (λ (x : Machine). x.plan) machine)) closed;
    others = others;
  }
