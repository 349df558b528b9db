-- The gate is told of each entry that a history gets.
use Rattle.std.proofs.Common.{◌≡◌, ℕ, zero, suc, ◌+◌, ◌<◌, ◌≤◌, Bool, true, false, not, cond, ◌==◌, ◌⊎◌, List, [], ◌∷◌, ◌++◌, length, take, drop, get_or, refl, sym, ap, subst, ◌∙◌, arith}
use Rattle.std.specs.Prelude.{count_by}
use Rattle.std.proofs.lemmas.{Bool.eqb-true}
use Rattle.vz_outside.specs.Told.{Call, IsTold, number_of, AreTold}
use Rattle.vz_outside.proofs.Passing.{told_as, told_none, told_one, told_then, told_of}
use Rattle.vz_rules.specs.{Plan.Plan, World.World, Step.entry_in, declared.entry.Event.Event, declared.entry.Entry.Entry}
use Rattle.vz_player.specs.Played.{next_number, actor_in, is_step_of, entries_by, steps_of, HasCounted}
use Rattle.vz_player.specs.Gated.{IsGated, AreGated}
use Rattle.vz_player.proofs.Counting.{capped, count_more, one_counted}

-- no entry more
pub gated_none : (told : Call → Type 0) (h g : List Entry) → g ≡ h → IsGated told h g
gated_none told h g same actor = told_none told actor (entries_by h actor) (entries_by g actor) (let e = ap (λ (l : List Entry). entries_by l actor) same in omega (arith, e))

-- some entries, and then others
pub gated_then : (told : Call → Type 0) (h g k : List Entry) → IsGated told h g → IsGated told g k → IsGated told h k
gated_then told h g k first next actor = told_then told actor (entries_by h actor) (entries_by g actor) (entries_by k actor) (first actor) (next actor)

-- one entry more, which is a step of this actor or not
one_gated : (told : Call → Type 0) (most : ℕ) (h : List Entry) (e : Entry) (taken : List ℕ) (number actor : ℕ) (t : Bool) → (actor_in e.event == actor) ≡ t → HasCounted most h taken → actor_in e.event < most
    → number ≡ next_number (get_or taken (actor_in e.event) 0) → IsTold told (actor_in e.event) number → AreTold told actor (entries_by h actor) (entries_by (h ++ e ∷ []) actor)
one_gated told most h e taken number actor true is counted within named t =
    let same : actor_in e.event ≡ actor = eqb-true (actor_in e.event) actor is in
    let one : ◌≡◌ {A = ℕ} (cond (actor_in e.event == actor) 1 0) 1 = ap {B = ℕ} (λ (b : Bool). cond b 1 0) is in
    let more : entries_by (h ++ e ∷ []) actor ≡ entries_by h actor + 1 = count_more h e actor ∙ ap (λ (m : ℕ). entries_by h actor + m) one in
    let there : get_or taken (actor_in e.event) 0 ≡ steps_of h actor = ap (λ (i : ℕ). get_or taken i 0) same ∙ counted.each actor (subst (λ (i : ℕ). i < most) same within) in
    told_one told actor (entries_by h actor) (entries_by (h ++ e ∷ []) actor) number more
    (named ∙ (ap next_number there ∙ (capped (entries_by h actor) ∙ ap number_of (sym more))))
    (told_as told (actor_in e.event) actor number number same refl t)
one_gated told most h e taken number actor false is counted within named t =
    let none : ◌≡◌ {A = ℕ} (cond (actor_in e.event == actor) 1 0) 0 = ap {B = ℕ} (λ (b : Bool). cond b 1 0) is in
    let same : entries_by (h ++ e ∷ []) actor ≡ entries_by h actor + 0 = count_more h e actor ∙ ap (λ (m : ℕ). entries_by h actor + m) none in
    told_none told actor (entries_by h actor) (entries_by (h ++ e ∷ []) actor) (omega (arith, same))

event_is : (p : Plan) (w : World) (v : Event) (e : Entry) → e ≡ entry_in p w v → e.event ≡ v
unfolding entry_in
event_is p w v e is = ap (λ (x : Entry). x.event) is

-- A turn, as the code of a player makes it

-- its step is counted
pub turn_counts :
    {e : Entry} {h l g : List Entry} {taken : List ℕ} (p : Plan) (w : World) (most : ℕ) (v : Event) (a : ℕ)
    → HasCounted most h taken → e ≡ entry_in p w v → l ≡ h → g ≡ l ++ e ∷ [] → actor_in v < most → a ≡ actor_in v
    → (new : List ℕ) → new ≡ take a taken ++ next_number (get_or taken a 0) ∷ drop (a + 1) taken → HasCounted most g new
turn_counts {e} {h} {l} {g} {taken} p w most v a counted entry same more within actor new is =
    let own : e.event ≡ v = event_is p w v e entry in
    let at : a ≡ actor_in e.event = actor ∙ ap actor_in (sym own) in
    let here : actor_in e.event < most = subst (λ (u : Event). actor_in u < most) (sym own) within in
    subst (λ (k : List Entry). HasCounted most k new) (sym (more ∙ ap (λ (x : List Entry). x ++ e ∷ []) same))
    (one_counted most h e taken new (next_number (get_or taken (actor_in e.event) 0)) counted here refl (is ∙ ap (λ (j : ℕ). take j taken ++ next_number (get_or taken j 0) ∷ drop (j + 1) taken) at))

-- the gate is told of it
pub turn_gated :
    {e : Entry} {h l g : List Entry} {taken : List ℕ} (p : Plan) (w : World) (most : ℕ) (v : Event) (a : ℕ)
    → HasCounted most h taken → e ≡ entry_in p w v → l ≡ h → g ≡ l ++ e ∷ [] → actor_in v < most → a ≡ actor_in v
    → (told : Call → Type 0) (old : List Entry) (b number : ℕ) → h ≡ old → b ≡ a → number ≡ next_number (get_or taken a 0) → IsTold told b number → IsGated told old g
turn_gated {e} {h} {l} {g} {taken} p w most v a counted entry same more within actor told old b number was named numbered t k =
    let own : e.event ≡ v = event_is p w v e entry in
    let at : a ≡ actor_in e.event = actor ∙ ap actor_in (sym own) in
    let here : actor_in e.event < most = subst (λ (u : Event). actor_in u < most) (sym own) within in
    told_of told k (entries_by h k) (entries_by (h ++ e ∷ []) k) (entries_by old k) (entries_by g k) (ap (λ (x : List Entry). entries_by x k) was)
    (ap (λ (x : List Entry). entries_by x k) (sym (more ∙ ap (λ (x : List Entry). x ++ e ∷ []) same)))
    (one_gated told most h e taken number k (actor_in e.event == k) refl counted here (numbered ∙ ap (λ (i : ℕ). next_number (get_or taken i 0)) at) (told_as told b (actor_in e.event) number number (named ∙ at) refl t))

-- it was not taken
pub unturned_counts : (most : ℕ) {h g : List Entry} {taken : List ℕ} → g ≡ h → HasCounted most h taken → HasCounted most g taken
unturned_counts most {taken = taken} same counted = subst (λ (l : List Entry). HasCounted most l taken) (sym same) counted

pub unturned_gated : (told : Call → Type 0) {h g : List Entry} (old : List Entry) → g ≡ h → h ≡ old → IsGated told old g
unturned_gated told {g = g} old same was = gated_none told old g (same ∙ was)
