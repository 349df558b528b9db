-- Each step keeps the rule.
use Rattle.std.proofs.Common.{◌≡◌, ◌≢◌, ℕ, ◌+◌, ◌%◌, ◌^◌, ◌<◌, ◌≤◌, cond, eqb, List, [], ◌∷◌, length, get_or, set, sym, refl, ap, ◌∙◌, subst, arith, eq-eqb, ne_eqb, length-set, get_or-set_same, get_or-set_other}
use mathlib.Core.Logic.{dite}
use mathlib.Core.List.{IsPrefix}
use mathlib.Core.Option.{none, some, some-injective, some-ne-none}
use mathlib.Core.Option as maybe
use native.Mathlib.Decide.{ℕ_discrete}
use native.Mathlib.Nat.{mod-add-mod}
use lib.ListN.{get_elem?}
use lib.Seq.{set-get_or}
use Rattle.std.specs.Prelude.{Option, Some, IfSome}
use Rattle.atomic_table.specs.Table.{State, Me, step, keeps, takes, Allows}
use Rattle.atomic_table.proofs.Lists.{at_set, set_else, set_again, one_turn}
use Rattle.vz_loans.specs.{declared.view.View.View, declared.view.Stage.Stage}
use Rattle.vz_loans.specs.declared.view.Stage.TheVariants.{Idle, Waiting, Inside}
use Rattle.vz_loans.specs.Rule.{Log, AllOld, AllTell, tickets_at, Place, home, away, IsInTurn, Knows, Fits, ticketed, claimed, spared, kept_on, Lies, Turns, blank, view, staged, took, Enters, looked}
use Rattle.vz_loans.proofs.Logs.{set_at, one_view, total_set, total_le, prefix_all, tells_left}
use Rattle.std.proofs.lemmas.Bool.Decides.{nat_tests}

module _ {K P E : Type 0} where
  -- what a seat knows stays so, where others take tickets
  pub knows_more : (tickets turns tickets' : ℕ) (agreed : Option P) (log : Log E) (owner owner' : ℕ → ℕ) (place : Place K) (j : ℕ) (v : View P E) → tickets ≤ tickets' → ((t : ℕ) → t < tickets → owner' t ≡ owner t)
      → (st : Stage) → Knows tickets turns agreed log owner place j v st → Knows tickets' turns agreed log owner' place j v st
  knows_more tickets turns tickets' agreed log owner owner' place j v up same st k = grind (arith, nat_tests)

  -- the same of a seat that is not in turn, where a turn begins or ends
  pub knows_out : (tickets turns turns' : ℕ) (agreed agreed' : Option P) (log log' : Log E) (owner : ℕ → ℕ) (place place' : Place K) (j : ℕ) (v : View P E) → ((t : ℕ) → turns ≤ t → owner t ≡ j → turns' ≤ t)
      → (st : Stage) → (IsInTurn st → ⊥) → Knows tickets turns agreed log owner place j v st → Knows tickets turns' agreed' log' owner place' j v st
  knows_out tickets turns turns' agreed agreed' log log' owner place place' j v up st out k = grind (arith, nat_tests)

  pub in_turn : (tickets turns : ℕ) (agreed : Option P) (log : Log E) (owner : ℕ → ℕ) (place : Place K) (j : ℕ) (v : View P E) (st : Stage) → Knows tickets turns agreed log owner place j v st → IsInTurn st → owner turns ≡ j
  in_turn tickets turns agreed log owner place j v st k i = grind (arith, nat_tests)

  pub few_tickets : (tickets turns : ℕ) (agreed : Option P) (log : Log E) (owner : ℕ → ℕ) (place : Place K) (j : ℕ) (v : View P E) (st : Stage) → Knows tickets turns agreed log owner place j v st → tickets_at st ≤ length v.claims
  few_tickets tickets turns agreed log owner place j v st k = grind (arith, nat_tests)

  pub turn_open : (tickets turns : ℕ) (agreed : Option P) (log : Log E) (owner : ℕ → ℕ) (place : Place K) (j : ℕ) (v : View P E) (st : Stage) → Knows tickets turns agreed log owner place j v st → IsInTurn st → turns < tickets
  turn_open tickets turns agreed log owner place j v st k i = grind (arith, nat_tests)

pub has_ticket : (st : Stage) → IsInTurn st → tickets_at st ≡ 1
has_ticket st i = grind (arith, nat_tests)

abbrev pub ticket_of : Stage → ℕ
ticket_of (Waiting t) = t
ticket_of (Inside t) = t
ticket_of _ = 0

module _ {P : Type 0} where
  pub planned_is : (a o : Option P) (p : P) → o ≡ Some p → IfSome o (λ q. a ≡ Some q) → a ≡ Some p
  planned_is a o p e h = subst (λ (x : Option P). IfSome x (λ q. a ≡ Some q)) e h

pub put : (ℕ → ℕ) → ℕ → ℕ → ℕ → ℕ
put f i x j = cond (eqb j i) x (f j)

pub put_here : (f : ℕ → ℕ) (i x : ℕ) → put f i x i ≡ x
unfolding put
put_here f i x = ap (λ b. cond b x (f i)) (eq-eqb i i refl)

pub put_else : (f : ℕ → ℕ) (i x j : ℕ) → j ≢ i → put f i x j ≡ f j
unfolding put
put_else f i x j ne = ap (λ b. cond b x (f j)) (ne_eqb j i ne)

module _ {K P E : Type 0} (plan_of : K → P) (entries_of : K → Log E) (plan : P) (callers : ℕ) where
  abbrev V : Type 0
  V = View P E

  abbrev St : Type 0
  St = State (Option K) V

  abbrev M : Type 0
  M = Me (Option K) V

  abbrev Rule : St → Type 0
  Rule = Turns plan_of entries_of plan callers

  abbrev pub InTurn : List V → ℕ → Type 0
  InTurn vs front = (v : V) × (get_elem? vs front ≡ some v) × IsInTurn v.stage

  -- the seat in turn stays, where a view changes that is not in turn
  pub front_stays : (vs : List V) (front id : ℕ) (v w : V) → get_elem? vs id ≡ some v → (IsInTurn v.stage → ⊥) → InTurn vs front → InTurn (set vs id w) front
  front_stays vs front id v w at out (u, here, i) = grind (arith, nat_tests, one_view vs id u v, set_else vs id front w)

  pub lies_on : (homes : List (maybe.Option (Option K))) (vs ws : List V) (agreed : Option P) (log : Log E) (front front' : ℕ) (place : Place K) → (InTurn vs front → InTurn ws front')
      → Lies plan_of entries_of homes vs agreed log front place → Lies plan_of entries_of homes ws agreed log front' place
  lies_on homes vs ws agreed log front front' (home k) on l = l
  lies_on homes vs ws agreed log front front' away on l = on l

  -- the views after the seat id has the view w
  pub seats_stay : (F : ℕ → V → Type 0) (vs : List V) (id : ℕ) (w : V) → F id w → ((j : ℕ) (v : V) → j ≢ id → get_elem? vs j ≡ some v → F j v) → (j : ℕ) (v : V) → get_elem? (set vs id w) j ≡ some v → F j v
  seats_stay F vs id w mine others j v e = grind (arith, nat_tests, at_set vs id j w v e)

  pub open_turn : (s : St) (r : Rule s) → InTurn s.views (r.owner r.turns) → r.turns < r.tickets
  open_turn s r h = turn_open r.tickets r.turns (Some plan) r.log r.owner r.place (r.owner r.turns) h.0 h.0.stage (r.each_seat (r.owner r.turns) h.0 h.1).knows h.2

  -- no other seat is in turn than the owner of the turn's ticket
  pub alone : (s : St) (r : Rule s) (id : ℕ) → r.owner r.turns ≡ id → (j : ℕ) (v : V) → j ≢ id → get_elem? s.views j ≡ some v → IsInTurn v.stage → ⊥
  alone s r id is j v ne e i = ne (sym (in_turn r.tickets r.turns (Some plan) r.log r.owner r.place j v v.stage (r.each_seat j v e).knows i) ∙ is)

  pub turn_at : (vs : List V) (front id : ℕ) (v : V) → get_elem? vs id ≡ some v → front ≡ id → InTurn vs front → IsInTurn v.stage
  turn_at vs front id v at is h = subst (λ (x : V). IsInTurn x.stage) (one_view vs id h.0 v (subst (λ (k : ℕ). get_elem? vs k ≡ some h.0) is h.1) at) h.2

  abbrev pub AtHome : List (maybe.Option (Option K)) → Option P → Log E → Place K → Type 0
  AtHome homes agreed log place = (k : K) × (place ≡ home k) × (get_elem? homes 0 ≡ some (some (Some k))) × (agreed ≡ Some (plan_of k)) × (entries_of k ≡ log)

  -- where no seat is in turn, the state is at home
  pub at_home : (homes : List (maybe.Option (Option K))) (vs : List V) (agreed : Option P) (log : Log E) (front : ℕ) (place : Place K) → (InTurn vs front → ⊥) → Lies plan_of entries_of homes vs agreed log front place → AtHome homes agreed log place
  at_home homes vs agreed log front (home k) out l = (k, refl, l.0, l.1, l.2)
  at_home homes vs agreed log front away out l = absurd (out l)

  pub few_out : (s : St) (r : Rule s) → r.tickets ≤ r.turns + callers
  few_out s r = let a = total_le ticketed claimed s.views (λ j v e. few_tickets r.tickets r.turns (Some plan) r.log r.owner r.place j v v.stage (r.each_seat j v e).knows) in let b = r.counted in let c = r.numbered in let d = r.spare in omega arith

  pub takes_ticket : (slots id : ℕ) (me : M) → me.0.stage ≡ Idle → 0 < length me.0.claims → Allows Rule slots id me 0 (λ n. (n + 1) % 2 ^ 64) (took (step slots 0 1 0 none) me)
  takes_ticket slots id me idle some_claim s r _ at _ = let t : ℕ = r.tickets in let u : ℕ = r.turns in let w : V = staged (Waiting t) me.0 in let owner' : ℕ → ℕ = put r.owner t id in let n : ℕ = get_or s.words 0 0 in let new : ℕ = (n + 1) % 2 ^ 64 in
      let wide = r.wide in let none_yet : tickets_at me.0.stage ≡ 0 = ap tickets_at idle in let sum = total_set ticketed s.views id me.0 w at in let counted = r.counted in let below : u ≤ t = omega arith in
      let out : IsInTurn me.0.stage → ⊥ = λ i. subst IsInTurn idle i in let f = r.each_seat id me.0 at in (
        w,
        keeps,
        tt,
        record {
          tickets = t + 1;
          turns = u;
          log = r.log;
          owner = owner';
          place = r.place;
          few = r.few;
          wide = length-set s.words 0 new ∙ wide;
          tickets_is = get_or-set_same s.words 0 new 0 (omega arith) ∙ ap (λ (k : ℕ). (k + 1) % 2 ^ 64) r.tickets_is ∙ mod-add-mod t (2 ^ 64) 1;
          turns_is = get_or-set_other s.words 0 1 new 0 (λ e. omega arith) ∙ r.turns_is;
          counted = omega arith;
          numbered = let c = total_set claimed s.views id me.0 w at in let d = total_set spared s.views id me.0 w at in let k = r.numbered in omega arith;
          spare = let d = total_set spared s.views id me.0 w at in let k = r.spare in omega arith;
          once = λ m. let c = total_set (kept_on m) s.views id me.0 w at in let k = r.once m in omega arith;
          strange = r.strange;
          each_seat = seats_stay (Fits (t + 1) u (Some plan) r.log owner' r.place) s.views id w
              record { planned = f.planned; begun = f.begun; olds = f.olds; told = f.told; knows = (below, omega arith, put_here r.owner t id, some_claim) }
              (λ j v ne e. let g = r.each_seat j v e in record {
                planned = g.planned;
                begun = g.begun;
                olds = g.olds;
                told = g.told;
                knows = knows_more t u (t + 1) (Some plan) r.log r.owner owner' r.place j v (omega arith) (λ k l. put_else r.owner t id k (λ e. omega arith)) v.stage g.knows;
              });
          lies = lies_on s.homes s.views (set s.views id w) (Some plan) r.log (r.owner u) (owner' u) r.place
              (λ (h : InTurn s.views (r.owner u)). let l : u < t = open_turn s r h in subst (InTurn (set s.views id w)) (sym (put_else r.owner t id u (λ e. omega arith))) (front_stays s.views (r.owner u) id me.0 w at out h)) r.lies;
        },
        (t, r.tickets_is, refl),
      )

  abbrev Looked : M → ℕ → M → ℕ → Type 0
  Looked me n m t = (n ≡ t % 2 ^ 64 → Enters plan_of entries_of me t m) × (n ≢ t % 2 ^ 64 → m ≡ me)

  any_ticket : (me m : M) (n t : ℕ) → me.0.stage ≡ Waiting t → Looked me n m t → looked plan_of entries_of (step 0 0 0 0 none) me n m
  any_ticket me m n t is h = λ (u : ℕ) e. subst (Looked me n m) (ap ticket_of (sym is ∙ e)) h

  pub looks : (slots id : ℕ) (me : M) (t : ℕ) (p : P) → me.0.stage ≡ Waiting t → me.0.plan ≡ Some p → Allows Rule slots id me 1 (λ n. n) (looked plan_of entries_of (step slots 1 0 0 none) me)
  looks slots id me t p is planned s r _ at _ = let n : ℕ = get_or s.words 1 0 in let u : ℕ = r.turns in let wide = r.wide in let f = r.each_seat id me.0 at in
      let known = subst (Knows r.tickets u (Some plan) r.log r.owner r.place id me.0) is f.knows in let out : IsInTurn me.0.stage → ⊥ = λ i. subst IsInTurn is i in dite (ℕ_discrete n (t % 2 ^ 64))
      (λ hit. let a : u ≤ t = known.0 in let b : t < r.tickets = known.1 in let c : r.tickets ≤ u + callers = few_out s r in let d = r.few in
      let now : u ≡ t = one_turn u t (2 ^ 64) a (omega arith) (sym r.turns_is ∙ hit) in let mine : r.owner u ≡ id = ap r.owner now ∙ known.2 in
      let h = at_home s.homes s.views (Some plan) r.log (r.owner u) r.place (λ (i : InTurn s.views (r.owner u)). out (turn_at s.views (r.owner u) id me.0 at mine i)) r.lies in
      let k : K = h.0 in let agrees : (Some plan) ≡ Some p = planned_is (Some plan) me.0.plan p planned f.planned in let w : V = view (Inside t) me.0.plan (entries_of k) [] me.0.claims me.0.spares in
      let one : tickets_at me.0.stage ≡ 1 = ap tickets_at is in let sum = total_set ticketed s.views id me.0 w at in let counted = r.counted in (
        w,
        takes 0 (Some k),
        h.2,
        record {
          tickets = r.tickets;
          turns = u;
          log = r.log;
          owner = r.owner;
          place = away;
          few = r.few;
          wide = length-set s.words 1 n ∙ wide;
          tickets_is = get_or-set_other s.words 1 0 n 0 (λ e. omega arith) ∙ r.tickets_is;
          turns_is = get_or-set_same s.words 1 n 0 (omega arith) ∙ r.turns_is;
          counted = omega arith;
          numbered = let c = total_set claimed s.views id me.0 w at in let d = total_set spared s.views id me.0 w at in let k = r.numbered in omega arith;
          spare = let d = total_set spared s.views id me.0 w at in let k = r.spare in omega arith;
          once = λ m. let c = total_set (kept_on m) s.views id me.0 w at in let k = r.once m in omega arith;
          strange = r.strange;
          each_seat = seats_stay (Fits r.tickets u (Some plan) r.log r.owner away) s.views id w
              record { planned = f.planned; begun = prefix_all (entries_of k) r.log h.4; olds = tt; told = f.told; knows = (sym now, b, known.2, known.3, refl, h.4, planned ∙ sym agrees) }
              (λ j v ne e. let g = r.each_seat j v e in record {
                planned = g.planned;
                begun = g.begun;
                olds = g.olds;
                told = g.told;
                knows = knows_out r.tickets u u (Some plan) (Some plan) r.log r.log r.owner r.place away j v (λ x le own. le) v.stage (alone s r id mine j v ne e) g.knows;
              });
          lies = (w, subst (λ (j : ℕ). get_elem? (set s.views id w) j ≡ some w) (sym mine) (set_at s.views id me.0 w at), tt);
        },
        any_ticket me (w, (0, Some k) ∷ me.1) n t is ((λ _. (k, refl, planned ∙ sym agrees ∙ h.3, subst (IsPrefix me.0.seen) (sym h.4) f.begun, subst (λ (x : Option P × Log E). AllOld x.0 me.0.olds x.1) (λ i. (h.3 i, sym h.4 i)) f.olds, subst (AllTell me.0.claims) (sym h.4) (tells_left me.0.claims (blank me.0.spares) r.log f.told))), λ miss. absurd (miss hit)),
      ))
      (λ miss. (
        me.0,
        keeps,
        tt,
        subst (λ (x : List ℕ × List V). Rule record { words = x.0; homes = s.homes; views = x.1 }) (λ i. (sym (set-get_or s.words 1 0) i, sym (set_again s.views id me.0 at) i)) r,
        any_ticket me me n t is ((λ hit. absurd (miss hit)), λ _. refl),
      ))
