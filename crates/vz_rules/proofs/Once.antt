-- Each reference goes back once, at the step after which nothing holds its resource.
use Rattle.std.proofs.Common.{◌≤◌, ◌≡◌, ℕ, ◌+◌, ◌-◌, Bool, true, false, not, ◌&&◌, ◌==◌, Option, Some, None, List, [], ◌∷◌, ◌++◌, refl, ap, sym, ◌∙◌, subst, cond, arith, find, sum_by, count_by, is_some}
use Rattle.std.specs.Prelude.{nat_lt}
use Rattle.std.specs.List.{list_any}
use Rattle.std.proofs.lemmas.Bool.{eqb-true, ltb-true, ltb-false, lt-ltb, le-ltb, and_parts, eq-eqb}
use Rattle.vz_frame.specs.Frame.{lists}
use Rattle.vz_ids.specs.declared.Sub.{Sub}
use Rattle.vz_frame.specs.declared.message.ClientFile.{ClientFile}
use Rattle.vz_rules.specs.Plan.{Plan, IsPlan}
use Rattle.vz_rules.specs.declared.entry.Event.{Event}
use Rattle.vz_rules.specs.declared.entry.Event.TheVariants as event
use Rattle.vz_rules.specs.declared.entry.Returned.{Returned}
use Rattle.vz_rules.specs.declared.entry.Entry.{Entry}
use Rattle.vz_rules.specs.World.{Client, Resource, Submission, World, client_at, new_client, new_clients, opening, resource_in}
use Rattle.vz_rules.specs.Returns.{holds, is_held, goes_back, give_back, feed, mark_fed}
use Rattle.vz_rules.specs.Step.{answer_to, outcome_of, presented_by, step_in, world, entry_in, NamesClient, Legal}
use Rattle.vz_rules.specs.Log.{rest_of}
use Rattle.vz_rules.specs.Accounts.{share_of, of_client, total_of, lent_in, queued_in, is_return_of, out_between, IsReturnedOnce, ReturnsEachOnce}
use Rattle.vz_rules.proofs.Facts.{and_counted, some_of}
use Rattle.vz_rules.proofs.Rising.{find_test, sum_same, counted}
use Rattle.vz_rules.proofs.Given.{size_of, given_of, amount_in}
use Rattle.vz_rules.proofs.Runs.{world-more}
use Rattle.vz_rules.proofs.Prefixes.{legal-front, legal-at, Steps, along}
use Rattle.vz_rules.proofs.Numbered.{client_there}
use Rattle.vz_rules.proofs.Accounted.{Accounted, accounted, accounts_are, stepped, before_giving, back_of, steps_accounted, opening_accounted}
use Rattle.vz_rules.specs.Kept.{KeepsAlways, KeepsShelf, out_of}
use Rattle.vz_rules.proofs.Members.{any_at, any_from, find_at, found, any_map}
use Rattle.vz_rules.proofs.Kept_facts.{held_is_out}
use Rattle.vz_rules.proofs.Kept_first.{keeps_world}
use Rattle.vz_rules.proofs.Cases.{number_at}

-- Giving back and feedback leave what is held

pub held_left : (p : Plan) (w : World) (e : Event) (c id : ℕ) → is_held (step_in p w e).world c id ≡ is_held (before_giving p w e) c id
unfolding step_in outcome_of is_held feed give_back
held_left p w e c id =
    let W : World = before_giving p w e in
    let given : World = give_back W in
    let presented : List Sub = presented_by w e in
    any_map (mark_fed given presented) (λ s. (s.submitted.sub.client == c) && holds (feed presented given) s && list_any (lists id) s.submitted.frame.resources)
    (λ s. (s.submitted.sub.client == c) && holds W s && list_any (lists id) s.submitted.frame.resources) W.subs (λ s. refl)

-- What a step gives back

-- with q queued, l lent, and b for what is held
size_by : (q l : ℕ) (b : Bool) → cond (nat_lt q l && not b) (l - q) 0 ≡ cond b 0 (l - q)
size_by q l true = elim (nat_lt q l) as (λ (t : Bool). cond (t && false) (l - q) 0 ≡ 0) [ true ↦ refl | false ↦ refl ]
size_by q l false =
    elim (nat_lt q l) as (λ (t : Bool). nat_lt q l ≡ t → cond (t && true) (l - q) 0 ≡ l - q) [
      | true ↦ λ e. refl
      | false ↦ λ e. omega (arith, ltb-false q l e)
    ] refl

one_by : (q l : ℕ) (b : Bool) → ◌≡◌ {A = ℕ} (cond (nat_lt q l && not b) 1 0) (cond b 0 (cond (nat_lt 0 (l - q)) 1 0))
one_by q l true = elim (nat_lt q l) as (λ (t : Bool). ◌≡◌ {A = ℕ} (cond (t && false) 1 0) 0) [ true ↦ refl | false ↦ refl ]
one_by q l false =
    elim (nat_lt q l) as (λ (t : Bool). nat_lt q l ≡ t → ◌≡◌ {A = ℕ} (cond (t && true) 1 0) (cond (nat_lt 0 (l - q)) 1 0)) [
      | true ↦ λ e. ap (λ (t : Bool). cond t 1 0) (sym (lt-ltb 0 (l - q) (omega (arith, ltb-true q l e))))
      | false ↦ λ e. ap (λ (t : Bool). cond t 1 0) (sym (le-ltb 0 (l - q) (omega (arith, ltb-false q l e))))
    ] refl

module _ (w : World) (c id : ℕ) (x : Client) (number : x.number ≡ c) where
  abbrev held : Bool
  held = is_held w c id

  abbrev lent : ℕ
  lent = total_of (λ s. s.lent) id x

  abbrev queued : ℕ
  queued = total_of (λ s. s.queued) id x

  same_held : (s : Resource) → s.id ≡ id → is_held w x.number s.id ≡ held
  same_held s e = ap (λ n. is_held w n s.id) number ∙ ap (is_held w c) e

  size_of_none : (b : Bool) → ◌≡◌ {A = ℕ} 0 (cond b 0 (0 - 0))
  size_of_none true = refl
  size_of_none false = refl

  one_of_none : (b : Bool) → ◌≡◌ {A = ℕ} 0 (cond b 0 (cond (nat_lt 0 (0 - 0)) 1 0))
  one_of_none true = refl
  one_of_none false = refl

  size_given : (o : Option Resource) → resource_in id x.resources ≡ o
      → counted (given_of size_of (goes_back w) x.number) o ≡ cond held 0 (counted (λ s. s.lent) o - counted (λ s. s.queued) o)
  size_given None e = size_of_none held
  size_given (Some s) e =
      ap (λ b. cond (nat_lt s.queued s.lent && not b) (s.lent - s.queued) 0) (same_held s (eqb-true s.id id (find_test (λ (r : Resource). r.id == id) x.resources s e)))
      ∙ size_by s.queued s.lent held

  one_given : (o : Option Resource) → resource_in id x.resources ≡ o
      → counted (given_of (λ r. 1) (goes_back w) x.number) o ≡ cond held 0 (cond (nat_lt 0 (counted (λ s. s.lent) o - counted (λ s. s.queued) o)) 1 0)
  one_given None e = one_of_none held
  one_given (Some s) e =
      ap (λ b. cond (nat_lt s.queued s.lent && not b) 1 0) (same_held s (eqb-true s.id id (find_test (λ (r : Resource). r.id == id) x.resources s e)))
      ∙ one_by s.queued s.lent held

  -- the references that go back, and the number of their returns
  size_back : back_of size_of w id x ≡ cond held 0 (lent - queued)
  size_back = size_given (resource_in id x.resources) refl

  one_back : back_of (λ r. 1) w id x ≡ cond held 0 (cond (nat_lt 0 (lent - queued)) 1 0)
  one_back = one_given (resource_in id x.resources) refl

count_returns : (c id : ℕ) (rs : List Returned) → count_by (is_return_of c id) rs ≡ sum_by (amount_in (λ r. 1) c id) rs
count_returns c id rs = sum_same (λ r. cond (is_return_of c id r) 1 0) (amount_in (λ r. 1) c id) rs (λ r. and_counted (r.client == c) (r.id == id))

-- One entry

-- what an entry returns, by what is held and what is out
record IsBack (p : Plan) (w v : World) (e : Entry) (c id : ℕ) : Type 0 where
  size : sum_by (share_of c id) e.effects.returned ≡ cond (is_held v c id) 0 (out_between w v c id)
  one : count_by (is_return_of c id) e.effects.returned ≡ cond (is_held v c id) 0 (cond (nat_lt 0 (out_between w v c id)) 1 0)

back_from : (p : Plan) (w v : World) (e : Entry) (c id : ℕ) (b : Bool) (n : ℕ) → is_held v c id ≡ b → out_between w v c id ≡ n → sum_by (share_of c id) e.effects.returned ≡ cond b 0 n
    → count_by (is_return_of c id) e.effects.returned ≡ cond b 0 (cond (nat_lt 0 n) 1 0) → IsBack p w v e c id
back_from p w v e c id b n held out size one =
    record {
      size = size ∙ (ap (λ t. cond t 0 n) (sym held) ∙ ap (cond (is_held v c id) 0) (sym out));
      one = one ∙ (ap {B = ℕ} (λ t. cond t 0 (cond (nat_lt 0 n) 1 0)) (sym held) ∙ ap {B = ℕ} (λ m. cond (is_held v c id) 0 (cond (nat_lt 0 m) 1 0)) (sym out));
    }

step_back : (p : Plan) (w : World) (h : List Entry) (e : Entry) (c id : ℕ) → Accounted p w h → NamesClient p e.event → e ≡ entry_in p w e.event → NamesClient p (event.Client c)
    → IsBack p w (step_in p w e.event).world e c id
step_back p w h e c id i names is named =
    let v : World = (step_in p w e.event).world in
    let W : World = before_giving p w e.event in
    let there = client_there p v c (steps_accounted p w h e i names is).numbers named in
    let s = stepped p w e c id there.0 i.numbers i.rising is there.1 in
    let number = number_at (answer_to p w e.event).world c s.middle s.found in
    let lent : lent_in v c id ≡ total_of (λ s. s.lent) id s.middle = ap (of_client (total_of (λ s. s.lent) id)) there.1 ∙ s.given.lent in
    let queued : queued_in w c id ≡ total_of (λ s. s.queued) id s.middle = ap (of_client (total_of (λ s. s.queued) id)) s.goes.found ∙ sym s.goes.answered.queued in
    let out : out_between w v c id ≡ total_of (λ s. s.lent) id s.middle - total_of (λ s. s.queued) id s.middle = ap (λ n. n - queued_in w c id) lent ∙ ap (λ n. total_of (λ s. s.lent) id s.middle - n) queued in
    back_from p w v e c id (is_held W c id) (total_of (λ s. s.lent) id s.middle - total_of (λ s. s.queued) id s.middle) (held_left p w e.event c id) out
    (s.effect size_of ∙ size_back W c id s.middle number) (count_returns c id e.effects.returned ∙ (s.effect (λ r. 1) ∙ one_back W c id s.middle number))

-- each entry of a legal history returns what is not held, once
returned_once : (p : Plan) (h : List Entry) (e : Entry) (k : List Entry) (c id : ℕ) → Legal p (h ++ e ∷ k) → NamesClient p (event.Client c) → IsReturnedOnce p h e c id
returned_once p h e k c id l named =
    let w : World = world p h in
    let v : World = world p (h ++ e ∷ []) in
    let at = legal-at p h k e l in
    let back : IsBack p w v e c id = subst (λ u. IsBack p w u e c id) (sym (world-more p h e)) (step_back p w h e c id (accounted p h (legal-front p h (e ∷ k) l)) at.0 at.1 named) in
    let out : ℕ = out_between w v c id in
    record {
      held = λ t. back.one ∙ ap (λ b. cond b 0 (cond (nat_lt 0 out) 1 0)) t;
      once = λ t. back.one ∙ ap (λ b. cond b 0 (cond (nat_lt 0 out) 1 0)) t;
      all = λ t. back.size ∙ ap (λ b. cond b 0 out) t;
    }

-- What is still held

-- of what nothing holds, all that was lent is queued
abbrev NoneOut : Plan → World → ℕ → ℕ → Type 0
NoneOut p w c id = is_held w c id ≡ false → lent_in w c id ≡ queued_in w c id

record Settles (p : Plan) (c id : ℕ) (w : World) (h : List Entry) : Type 0 where
  accounts : Accounted p w h
  none_out : NoneOut p w c id

step_none : (p : Plan) (c id : ℕ) (w : World) (h : List Entry) (e : Entry) → NamesClient p (event.Client c) → Accounted p w h → NamesClient p e.event → e ≡ entry_in p w e.event
    → NoneOut p (step_in p w e.event).world c id
step_none p c id w h e named i names is none =
    let v : World = (step_in p w e.event).world in
    let W : World = before_giving p w e.event in
    let there = client_there p v c (steps_accounted p w h e i names is).numbers named in
    let s = stepped p w e c id there.0 i.numbers i.rising is there.1 in
    let t = i.totals c id s.goes.before s.goes.found in
    let number = number_at (answer_to p w e.event).world c s.middle s.found in
    let free : is_held W c id ≡ false = sym (held_left p w e.event c id) ∙ none in
    let out : ℕ = total_of (λ s. s.lent) id s.middle - total_of (λ s. s.queued) id s.middle in
    let back = size_back W c id s.middle number ∙ ap (λ b. cond b 0 out) free in
    omega (
      arith,
      ap (of_client (total_of (λ s. s.lent) id)) there.1,
      ap (of_client (total_of (λ s. s.queued) id)) there.1,
      s.given.lent,
      s.given.queued,
      back,
      s.goes.answered.queued,
      s.goes.answered.lent,
      t.paid,
    )

steps_settle : (p : Plan) (c id : ℕ) → NamesClient p (event.Client c) → Steps p (Settles p c id)
steps_settle p c id named w h e i names is =
    record { accounts = steps_accounted p w h e i.accounts names is; none_out = step_none p c id w h e named i.accounts names is }

opening_none : (p : Plan) (c id : ℕ) → NoneOut p (opening p) c id
unfolding opening
opening_none p c id none = by_new 1 p.files
  where
    by_new : (n : ℕ) (files : List ClientFile)
        → of_client (total_of (λ s. s.lent) id) (find (λ x. x.number == c) (new_clients n files)) ≡ of_client (total_of (λ s. s.queued) id) (find (λ x. x.number == c) (new_clients n files))
    by_new n [] = refl
    by_new n (f ∷ fs) =
        elim (n == c) as (λ (t : Bool). of_client (total_of (λ s. s.lent) id) (cond t (Some (new_client n f.sink)) (find (λ x. x.number == c) (new_clients (n + 1) fs)))
        ≡ of_client (total_of (λ s. s.queued) id) (cond t (Some (new_client n f.sink)) (find (λ x. x.number == c) (new_clients (n + 1) fs)))) [
          | true ↦ refl
          | false ↦ by_new (n + 1) fs
        ]

-- nothing is in the rest of what nothing holds
unheld_rest : (p : Plan) (h : List Entry) (c id : ℕ) → Legal p h → NamesClient p (event.Client c) → is_held (world p h) c id ≡ false → sum_by (share_of c id) (rest_of p h).held ≡ 0
unheld_rest p h c id l named none =
    let start : Settles p c id (opening p) [] = record { accounts = opening_accounted p; none_out = opening_none p c id } in
    let all = along p (Settles p c id) (steps_settle p c id named) start h l in
    omega (arith, all.none_out none, (accounts_are p h c id l named).held)

-- What is held is in the rest

-- a resource that is held was stored
held_stored : (w : World) (x : Client) (id : ℕ) → KeepsShelf (holds w) w.subs x → is_held w x.number id ≡ true → is_some (resource_in id x.resources) ≡ true
unfolding is_held
held_stored w x id shelf h =
    let s = any_at (λ (t : Submission). (t.submitted.sub.client == x.number) && holds w t && list_any (lists id) t.submitted.frame.resources) w.subs h in
    let outer = and_parts ((s.0.submitted.sub.client == x.number) && holds w s.0) (list_any (lists id) s.0.submitted.frame.resources) s.2 in
    let inner = and_parts (s.0.submitted.sub.client == x.number) (holds w s.0) outer.0 in
    let l = any_at (lists id) s.0.submitted.frame.resources outer.1 in
    let r = shelf.listed s.0 l.0 s.1 (eqb-true s.0.submitted.sub.client x.number inner.0) l.1 in
    found (λ (t : Resource). t.id == id) x.resources
    ∙ any_from (λ (t : Resource). t.id == id) x.resources r.0 r.1 (eq-eqb r.0.id id (r.2 ∙ eqb-true l.0.id id l.2))

held_out : (w : World) (c id : ℕ) (x : Client) → KeepsAlways w → client_at w c ≡ Some x → is_held w c id ≡ true → queued_in w c id + 1 ≤ lent_in w c id
held_out w c id x keeps at h =
    let member = find_at (λ (y : Client). y.number == c) w.clients x at in
    let number = number_at w c x at in
    let held : is_held w x.number id ≡ true = ap (λ n. is_held w n id) number ∙ h in
    let s = some_of (resource_in id x.resources) (held_stored w x id (keeps.shelves x member.0) held) in
    let stored = find_at (λ (t : Resource). t.id == id) x.resources s.0 s.1 in
    let same : s.0.id ≡ id = eqb-true s.0.id id stored.1 in
    let out : 1 ≤ out_of s.0 = held_is_out w x s.0 keeps member.0 stored.0 (ap (is_held w x.number) same ∙ held) in
    let lent = ap (of_client (total_of (λ t. t.lent) id)) at ∙ ap (counted (λ t. t.lent)) s.1 in
    let queued = ap (of_client (total_of (λ t. t.queued) id)) at ∙ ap (counted (λ t. t.queued)) s.1 in
    omega (arith, lent, queued, out)

held_rest : (p : Plan) (h : List Entry) (c id : ℕ) → IsPlan p → Legal p h → NamesClient p (event.Client c) → is_held (world p h) c id ≡ true → 1 ≤ sum_by (share_of c id) (rest_of p h).held
held_rest p h c id plan l named held =
    let there = client_there p (world p h) c (accounted p h l).numbers named in
    omega (arith, (accounts_are p h c id l named).held, held_out (world p h) c id there.0 (keeps_world p h plan).always there.1 held)

-- each lent reference is returned once
pub returns_once : (p : Plan) (h : List Entry) → IsPlan p → Legal p h → ReturnsEachOnce p h
returns_once p h plan l =
    record {
      steps = λ before behind e c id is named. returned_once p before e behind c id (subst (Legal p) is l) named;
      total = λ c id named. let a = accounts_are p h c id l named in omega (arith, a.held, a.queued);
      rest = λ c id named none. unheld_rest p h c id l named none;
      held = λ c id named held. held_rest p h c id plan l named held;
    }
