-- What a client's end becomes, where a turn made an entry.
use Rattle.std.proofs.Common.{◌≡◌, ℕ, ◌+◌, ◌^◌, ◌<◌, ◌≤◌, Bool, true, false, ◌==◌, cond, Option, Some, None, List, [], ◌∷◌, ◌++◌, filter, length, refl, ap, sym, ◌∙◌, subst, arith, length-append, append_assoc, append-nil, eq-eqb}
use Rattle.std.proofs.{lemmas.Int.ints, lemmas.Int.clamps, lemmas.List.Sums.sum_by_push, lemmas.List.Sums.length-filter, lemmas.Grind.common_steps}
use Rattle.std.specs.Prelude.{count_by, ◌&&◌}
use Rattle.std.proofs.{lemmas.List.Elements.filter-append, lemmas.Bool.Decides.nat_tests}
use mathlib.Core.List.{IsPrefix}
use Rattle.vz_loans.specs.{Rule.places, Tokens.Caller, Tokens.mine as places_of, Tokens.IsSameCaller}
use Rattle.vz_rules.specs.{Plan.Plan, declared.entry.Event.Event, declared.entry.Entry.Entry}
use Rattle.vz_rules.specs.declared.entry.Event.TheVariants as event
use Rattle.vz_rules.specs.{Step.entry_in, Step.world, Step.Legal, Whole.mine, Whole.is_of, Whole.is_in_time, Accounts.accepts, Accounts.takes}
use Rattle.vz_rules.proofs.{Counts.count_push, Runs.legal-more}
use Rattle.vz_desk.specs.declared.answer.Note.{Note}
use Rattle.vz_desk.specs.{declared.answer.Answer.Answer, declared.totals.Totals.Totals, Answers.Told, Answers.Answered, Answers.is_early}
use Rattle.vz_machine.specs.Stepping.{waits_at}
use Rattle.vz_desk.proofs.{Telling.waited_in_time, Booking.event_is, Displaying.length_numbered}
use Rattle.vz_desk.specs.Books.{Booked, machine_of, numbered, next_entry, booked_on}
use Rattle.vz_desk.specs.Totals.{AreTotals, AreFew, noted, with_note, lent_by, lent_from, refuses, TellsNext}
use Rattle.vz_desk.specs.Owners.{Owner, owner_of, IsEnd, MakesNone, IsSameOwner}
use Rattle.vz_desk.proofs.Owning.{none_more, totals_stay, longer_history, same_plan, entries_of_numbered}

-- One entry more

lent_push : (p : Plan) (g : List Entry) (c : ℕ) (h : List Entry) (e : Entry) → is_of c e ≡ true → lent_from p g c (h ++ e ∷ []) ≡ lent_from p g c h + lent_by p (g ++ h) c e
lent_push p g c [] e of = let none : g ++ [] ≡ g = append-nil g in ap (λ (t : Bool). cond t (lent_by p g c e) 0 + 0) of ∙ (let x = ap (λ k. lent_by p k c e) none in omega (arith, x))
lent_push p g c (x ∷ h) e of =
    let rest = lent_push p (g ++ x ∷ []) c h e of in
    let same = ap (λ k. lent_by p k c e) (append_assoc g (x ∷ []) h) in
    omega (arith, rest, same)

-- the totals of a client with its next entry
totals_push : (p : Plan) (c : ℕ) (t : Totals) (h : List Entry) (e : Entry) → is_of c e ≡ true → AreTotals p h c t → AreTotals p (h ++ e ∷ []) c (with_note t (is_in_time e.reply) (noted p h c e))
unfolding takes mine
totals_push p c t h e of are = grind (arith, nat_tests, common_steps, filter-append, count_push, ints, clamps, lent_push, sum_by_push)

-- No count is at its end

filter_fits : (f : Entry → Bool) (h : List Entry) → length (filter f h) ≤ length h
filter_fits f [] = omega arith
filter_fits f (e ∷ h) = grind (arith, nat_tests, filter_fits f h)

count_fits : (f : Entry → Bool) (h : List Entry) → count_by f h ≤ length h
count_fits f h = let a = length-filter f h in let b = filter_fits f h in omega (arith, a, b)

mine_fits : (h : List Entry) (c : ℕ) → length (mine h c) ≤ length h
unfolding mine
mine_fits h c = filter_fits (is_of c) h

takes_fit : (h : List Entry) (c : ℕ) → length (takes h c) ≤ length (mine h c)
unfolding takes
takes_fit h c = filter_fits (λ (x : Entry). is_in_time x.reply) (mine h c)

totals_fit : (p : Plan) (c : ℕ) (t : Totals) (h : List Entry) → AreTotals p h c t → length h + 1 < 2 ^ 64 → AreFew t
totals_fit p c t h are few = grind (arith, nat_tests, mine_fits h c, takes_fit h c, count_fits accepts (mine h c), count_fits refuses (mine h c))

-- A turn

-- the token before a turn, in it and after it, where the turn made the client's entry behind this history
pub record Entered (t0 t1 t2 : Caller Plan Entry) (plan : Plan) (h : List Entry) (e : Entry) : Type 0 where
  pub first : IsSameCaller t0 t1
  pub second : IsSameCaller t1 t2
  pub planned : t1.plan ≡ Some plan
  pub found : t1.seen ≡ numbered h
  pub later : IsPrefix t0.seen t1.seen
  pub mine : places_of t1 ≡ places_of t0
  pub seen : t2.seen ≡ numbered (h ++ e ∷ [])
  pub added : places_of t2 ≡ places_of t1 ++ (length t1.seen + 1) ∷ []
  pub rests : t2.inside ≡ false
  pub legal : Legal plan h
  pub entry : e ≡ entry_in plan (world plan h) (event.Client t1.number)

-- the totals before the turn are those of the client behind the history that it finds
pub counted_there : (t0 t1 : Caller Plan Entry) (plan : Plan) (h : List Entry) (totals : Totals) → IsEnd t0 totals → IsSameCaller t0 t1 → t1.plan ≡ Some plan → t1.seen ≡ numbered h → IsPrefix t0.seen t1.seen → places_of t1 ≡ places_of t0
    → AreTotals plan h t1.number totals
counted_there t0 t1 plan h totals old first planned found later mine =
    let same : old.plan ≡ plan = same_plan old.plan plan (sym old.sees.planned ∙ sym first.2 ∙ planned) in
    let longer = longer_history old.history h (subst (λ (s : List (ℕ × Entry) × List (ℕ × Entry)). IsPrefix s.0 s.1) (λ i. (old.sees.seen i, found i)) later) in
    let places_stay : places t0.number (numbered (old.history ++ longer.0)) ≡ places t0.number (numbered old.history) =
    ap (λ (g : List Entry). places t0.number (numbered g)) (sym longer.1) ∙ ap (places t0.number) (sym found) ∙ ap (λ (n : ℕ). places n t1.seen) (sym first.1) ∙ mine ∙ ap (places t0.number) old.sees.seen in
    let none = none_more 1 t0.number old.history longer.0 old.client.0 places_stay in
    subst (λ (x : Plan × (List Entry × ℕ)). AreTotals x.0 x.1.0 x.1.1 totals) (λ i. (same i, (sym longer.1 i, sym first.1 i))) (totals_stay old.plan t0.number totals old.history longer.0 none old.counted)

is_of_client : (p : Plan) (h : List Entry) (c : ℕ) (e : Entry) → e ≡ entry_in p (world p h) (event.Client c) → is_of c e ≡ true
is_of_client p h c e is = ap (λ (v : Event). elim v as (λ _. Bool) [ event.Client d ↦ d == c | _ ↦ false ]) (event_is p (world p h) (event.Client c) e is) ∙ eq-eqb c c refl

-- what the end becomes
pub called_end : (t0 t1 t2 : Caller Plan Entry) (plan : Plan) (h : List Entry) (e : Entry) (totals : Totals) → IsEnd t0 totals → Entered t0 t1 t2 plan h e
    → IsEnd t2 (with_note totals (is_in_time e.reply) (noted plan h t1.number e))
called_end t0 t1 t2 plan h e totals old t = grind (arith, nat_tests, same_plan, event_is, totals_push, is_of_client, counted_there, legal-more)

-- what is told of it
pub called_told : (t0 t1 t2 : Caller Plan Entry) (plan : Plan) (h : List Entry) (e : Entry) (totals new : Totals) (note : Note) (timely : Bool) → Entered t0 t1 t2 plan h e → note ≡ noted plan h t1.number e → timely ≡ is_in_time e.reply
    → new ≡ with_note totals timely note → Told (owner_of t0 totals) (owner_of t2 new) note
called_told t0 t1 t2 plan h e totals new note timely t noted_is timely_is new_is = grind (arith, nat_tests, length_numbered h)

-- a turn may end with one entry of its client
pub may_add : (t : Caller Plan Entry) (plan : Plan) (h g : List Entry) (e : Entry) → t.seen ≡ numbered h → g ≡ h ++ e ∷ [] → e ≡ entry_in plan (world plan h) (event.Client t.number)
    → numbered g ≡ t.seen ++ (t.number, e) ∷ []
may_add t plan h g e found more is = grind (arith, nat_tests, common_steps, event_is plan (world plan h))

snoc_same : (g h : List Entry) (x y : Entry) → g ++ x ∷ [] ≡ h ++ y ∷ [] → x ≡ y
snoc_same [] [] x y is = cc
snoc_same [] (b ∷ h) x y is = let l = ap length is in let m = length-append h (y ∷ []) in absurd (omega (arith, l, m))
snoc_same (a ∷ g) [] x y is = let l = ap length is in let m = length-append g (x ∷ []) in absurd (omega (arith, l, m))
snoc_same (a ∷ g) (b ∷ h) x y is = let rest : g ++ x ∷ [] ≡ h ++ y ∷ [] = cc in snoc_same g h x y rest

module _ {S : Type 0} where
  -- the last entry that is seen after a turn is the one that it made
  pub last_made : (b new : Booked S) (v : Event) (seen : List (ℕ × Entry)) (h : List Entry) (e : Entry) → new ≡ booked_on b v → seen ≡ numbered new.history → seen ≡ numbered (h ++ e ∷ []) → e ≡ next_entry b v
  unfolding booked_on
  last_made b new v seen h e goes is now = grind (arith, nat_tests, entries_of_numbered, entries_of_numbered new.history, snoc_same h b.history e (next_entry b v))

  -- the plan is the one that was found
  pub plan_kept : (b new : Booked S) (v : Event) (o : Option Plan) → new ≡ booked_on b v → o ≡ Some b.plan → o ≡ Some new.plan
  unfolding booked_on
  plan_kept b new v o goes is = is ∙ ap (λ (x : Booked S). Some x.plan) (sym goes)

  -- an entry more gives no reason to stop
  pub runs_on : (b new : Booked S) (v : Event) → new ≡ booked_on b v → b.reason ≡ None → new.reason ≡ None
  unfolding booked_on
  runs_on b new v goes none = ap (λ (x : Booked S). x.reason) goes ∙ none

  -- the entries are those that were found and one of the client
  pub client_leaves : (t : Caller Plan Entry) (b new : Booked S) (n : ℕ) → t.seen ≡ numbered b.history → n ≡ t.number → new ≡ booked_on b (event.Client n)
      → numbered new.history ≡ t.seen ++ (t.number, next_entry b (event.Client n)) ∷ []
  unfolding booked_on
  client_leaves t b new n found number goes = grind (arith, nat_tests, may_add t b.plan b.history new.history)

  pub entered : (t0 t1 t2 : Caller Plan Entry) (b new : Booked S) (n : ℕ) → IsSameCaller t0 t1 → t1.plan ≡ Some b.plan → t1.seen ≡ numbered b.history → IsPrefix t0.seen t1.seen → places_of t1 ≡ places_of t0
      → n ≡ t1.number → Legal b.plan b.history → new ≡ booked_on b (event.Client n) → IsSameCaller t1 t2 → t2.seen ≡ numbered new.history
      → ((e : Entry) → numbered new.history ≡ t1.seen ++ (t1.number, e) ∷ [] → places_of t2 ≡ places_of t1 ++ (length t1.seen + 1) ∷ []) → t2.inside ≡ false
      → Entered t0 t1 t2 b.plan b.history (next_entry b (event.Client n))
  unfolding booked_on
  entered t0 t1 t2 b new n first planned found later mine number legal goes second seen one rests = grind (arith, nat_tests, client_leaves t1 b new n found number goes)

  noted_there : (b : Booked S) (n m : ℕ) (note : Note) (timely : Bool) → n ≡ m → TellsNext b n note timely → note ≡ noted b.plan b.history m (next_entry b (event.Client n))
  noted_there b n m note timely number told = told.note ∙ ap (λ k. noted b.plan b.history k (next_entry b (event.Client n))) number

  -- the end after the turn, with the totals that the note gives
  pub client_end : (t0 t1 t2 : Caller Plan Entry) (b : Booked S) (n : ℕ) (totals new : Totals) (note : Note) (timely : Bool) → IsEnd t0 totals → n ≡ t1.number → TellsNext b n note timely
      → new ≡ with_note totals timely note → Entered t0 t1 t2 b.plan b.history (next_entry b (event.Client n)) → IsEnd t2 new
  client_end t0 t1 t2 b n totals new note timely old number told is t = grind (arith, nat_tests, noted_there b n t1.number note timely number told, called_end t0 t1 t2 b.plan b.history)

  -- and what is told of it
  pub client_told : (t0 t1 t2 : Caller Plan Entry) (b : Booked S) (n : ℕ) (totals new : Totals) (note : Note) (timely : Bool) → n ≡ t1.number → TellsNext b n note timely → new ≡ with_note totals timely note
      → Entered t0 t1 t2 b.plan b.history (next_entry b (event.Client n)) → Told (owner_of t0 totals) (owner_of t2 new) note
  client_told t0 t1 t2 b n totals new note timely number told is t = grind (arith, nat_tests, called_told t0 t1 t2 b.plan b.history, noted_there b n t1.number note timely number told)

  -- no count is at its end in the turn
  pub few_there : (t0 t1 : Caller Plan Entry) (b : Booked S) (n : ℕ) (totals : Totals) (note : Note) (timely : Bool) → IsEnd t0 totals → IsSameCaller t0 t1 → t1.plan ≡ Some b.plan → t1.seen ≡ numbered b.history → IsPrefix t0.seen t1.seen
      → places_of t1 ≡ places_of t0 → TellsNext b n note timely → AreFew totals
  few_there t0 t1 b n totals note timely old first planned found later mine told = totals_fit b.plan t1.number totals b.history (counted_there t0 t1 b.plan b.history totals old first planned found later mine) told.few

  -- a client that does not wait makes no entry that comes too early
  pub waits_out : (b : Booked S) (n : ℕ) (patient waits : Bool) (e : Entry) → waits ≡ waits_at (machine_of b) n → (patient && waits) ≡ false → e ≡ next_entry b (event.Client n) → patient ≡ true → is_early e.reply ≡ false
  waits_out b n patient waits e is out made patiently = grind (arith, nat_tests, waited_in_time b.plan (world b.plan b.history) n e)

pub same_owner : (t0 t1 t2 : Caller Plan Entry) (totals new : Totals) → IsSameCaller t0 t1 → IsSameCaller t1 t2 → IsPrefix t0.seen t2.seen → IsSameOwner (owner_of t0 totals) (owner_of t2 new)
same_owner t0 t1 t2 totals new first second later = grind (arith, nat_tests)

-- what was found begins what is left
pub later_still : (s t u : List (ℕ × Entry)) (x : ℕ × Entry) → IsPrefix s t → u ≡ t ++ x ∷ [] → IsPrefix s u
later_still s t u x p is = (p.0 ++ x ∷ [], sym (append_assoc s p.0 (x ∷ [])) ∙ ap (λ l. l ++ x ∷ []) p.1 ∙ sym is)

-- Waiting

prefix_on : (s t u : List (ℕ × Entry)) → IsPrefix s t → IsPrefix t u → IsPrefix s u
prefix_on s t u p q = (p.0 ++ q.0, sym (append_assoc s p.0 q.0) ∙ ap (λ l. l ++ q.0) p.1 ∙ q.1)

told_on : (a b c : Owner Totals) (note : Note) → IsSameOwner a b → MakesNone a b → Told b c note → Told a c note
told_on a b c note same none t = grind (arith, nat_tests, prefix_on a.seen b.seen (numbered t.before) same.later t.makes.later)

module _ {S : Type 0} where
  pub answered_on : (a b c : Owner Totals) (answer : Answer S) → IsSameOwner a b → MakesNone a b → Answered b c answer → Answered a c answer
  answered_on a b c answer same none t = grind (arith, nat_tests, told_on)
