-- The gate is told of each entry of a command's history.
use Rattle.std.specs.Prelude.{count_by, filter}
use Rattle.std.proofs.Common.{◌≡◌, ℕ, zero, suc, ◌+◌, ◌≤◌, Bool, true, false, not, cond, ◌==◌, List, [], ◌∷◌, length, refl, sym, ap, subst, ◌∙◌, arith, ne_eqb}
use Rattle.vz_outside.specs.Told.{Call}
use Rattle.vz_outside.proofs.Passing.{told_of}
use Rattle.vz_rules.specs.{Plan.Plan, World.World, World.opening, Course.is_of_client, Course.displayed, Whole.is_of, Whole.mine, declared.entry.Entry.Entry, declared.entry.Event.Event}
use Rattle.vz_rules.specs.Step.{step_in, NamesClient, Legal, LegalFrom}
use Rattle.vz_rules.specs.declared.entry.Event.TheVariants as event
use Rattle.vz_player.specs.{Played.actor_in, Played.is_step_of, Played.entries_by, Gated.IsGated, Gated.AreGated}
use Rattle.vz_rules.proofs.Counts.{count_cons}
use Rattle.vz_player.proofs.Telling.{gated_none}
use Rattle.vz_callers.specs.Turns.{AreEntriesTold}

-- no history
pub none_gated : (told : Call → Type 0) (h : List Entry) → h ≡ [] → AreGated told h
none_gated told h none = gated_none told [] h none

-- what was made by a player or a tester that had made none before
pub made_gated : (told : Call → Type 0) (first last h : List Entry) → first ≡ [] → h ≡ last → IsGated told first last → AreGated told h
made_gated told first last h none is t = subst (λ (l : List Entry). IsGated told [] l) (sym is) (subst (λ (l : List Entry). IsGated told l last) none t)

-- How many entries an actor made

counted_if : (b : Bool) (e : Entry) (n : ℕ) (xs : List Entry) → n ≡ length xs → cond b 1 0 + n ≡ length (cond b (e ∷ xs) xs)
counted_if true e n xs is = omega (arith, is)
counted_if false e n xs is = omega (arith, is)

counted_one : (t u : Entry → Bool) (e : Entry) (h : List Entry) → t e ≡ u e → count_by t h ≡ length (filter u h) → count_by t (e ∷ h) ≡ length (filter u (e ∷ h))
counted_one t u e h same is = count_cons t e h ∙ (ap (λ (b : Bool). cond b 1 0 + count_by t h) same ∙ counted_if (u e) e (count_by t h) (filter u h) is)

counted_all : (t u : Entry → Bool) → ((e : Entry) → t e ≡ u e) → (h : List Entry) → count_by t h ≡ length (filter u h)
counted_all t u same [] = refl
counted_all t u same (e ∷ h) = counted_one t u e h (same e) (counted_all t u same h)

client_test : (c : ℕ) → 1 ≤ c → (v : Event) → (actor_in v == c) ≡ elim v [ event.Client d ↦ d == c | _ ↦ false ]
client_test c some (event.Client d) = refl
client_test c some event.Begin = ne_eqb 0 c (λ e. absurd (omega (arith, some, e)))
client_test c some event.Draw = ne_eqb 0 c (λ e. absurd (omega (arith, some, e)))
client_test c some event.Done = ne_eqb 0 c (λ e. absurd (omega (arith, some, e)))
client_test c some event.Over = ne_eqb 0 c (λ e. absurd (omega (arith, some, e)))

mine_counted : (c : ℕ) → 1 ≤ c → (h : List Entry) → entries_by h c ≡ length (mine h c)
unfolding mine
mine_counted c some h = counted_all (is_step_of c) (is_of c) (λ (e : Entry). client_test c some e.event) h

display_test : (p : Plan) (v : Event) → NamesClient p v → (actor_in v == 0) ≡ not (is_of_client v)
display_test p (event.Client c) named = ne_eqb c 0 (λ e. let some = named.0 in absurd (omega (arith, some, e)))
display_test p event.Begin named = refl
display_test p event.Draw named = refl
display_test p event.Done named = refl
display_test p event.Over named = refl

displayed_from : (p : Plan) (w : World) (h : List Entry) → LegalFrom p w h → count_by (is_step_of 0) h ≡ length (filter (λ (e : Entry). not (is_of_client e.event)) h)
unfolding LegalFrom
displayed_from p w [] legal = refl
displayed_from p w (e ∷ h) legal =
    counted_one (is_step_of 0) (λ (x : Entry). not (is_of_client x.event)) e h (display_test p e.event legal.0) (displayed_from p (step_in p w e.event).world h legal.2)

display_counted : (p : Plan) (h : List Entry) → Legal p h → entries_by h 0 ≡ length (displayed h)
unfolding Legal displayed
display_counted p h legal = displayed_from p (opening p) h legal

-- what the callers of a hub made
pub turns_gated : (told : Call → Type 0) (p : Plan) (h : List Entry) → Legal p h → AreEntriesTold told h → AreGated told h
turns_gated told p h legal t zero = told_of told 0 0 (length (displayed h)) 0 (entries_by h 0) refl (sym (display_counted p h legal)) t.display
turns_gated told p h legal t (suc n) = told_of told (suc n) 0 (length (mine h (suc n))) 0 (entries_by h (suc n)) refl (sym (mine_counted (suc n) (omega arith) h)) (t.clients (suc n) (omega arith))
