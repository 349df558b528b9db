-- What the display's end keeps, while clients make their entries and as the display makes its own.
use Rattle.std.proofs.Common.{◌≡◌, ℕ, suc, ◌+◌, ◌≤◌, Bool, true, false, cond, eqb, not, List, [], ◌∷◌, ◌++◌, length, refl, ap, sym, ◌∙◌, subst, arith, append-nil, append_assoc, length-append, ◌||◌, Some, None, inr}
use Rattle.std.specs.Prelude.{count_by, sum_by, is_some}
use Rattle.std.proofs.lemmas.List.Sums.{sum_by-append, sum_by-cons, count_by-le-length}
use Rattle.std.proofs.{lemmas.List.Elements.filter-append, lemmas.Bool.Decides.nat_tests}
use mathlib.Core.List.{IsPrefix, map-append}
use Rattle.vz_loans.specs.{Rule.places, Rule.places_from, Tokens.Caller, Tokens.mine as places_of, Tokens.IsSameCaller, Tokens.MayLeave}
use Rattle.vz_rules.specs.{Plan.Plan, World.World, declared.entry.Event.Event, declared.entry.Reply.Reply, Messages.says}
use Rattle.vz_rules.specs.declared.entry.Event.TheVariants as event
use Rattle.vz_rules.specs.declared.entry.Reply.TheVariants as reply
use Rattle.vz_rules.specs.{declared.entry.Effects.Effects, declared.entry.Entry.Entry, Course.is_drawn, Course.is_of_client, Course.displayed}
use Rattle.vz_rules.specs.Step.{Legal, world, entry_in, step_in, answer_to, outcome_of, done_answer, NamesClient}
use Rattle.vz_rules.proofs.Runs.{legal-more}
use Rattle.vz_desk.specs.Books.{Booked, booked_on, next_entry, caller_in, numbered}
use Rattle.vz_desk.specs.{Flights.flies_by, Flights.flies_behind, Totals.DisplayTotals, Totals.AreDisplayTotals, Totals.noted_plainly}
use Rattle.vz_desk.specs.declared.answer.Note.{Note}
use Rattle.vz_desk.specs.{Owners.Owner, Owners.owner_of, Owners.IsDisplayEnd, Owners.IsSameOwner, Displays.with_entry, Displays.Displays}
use Rattle.vz_desk.proofs.{Flying.flights_are_told, Owning.one_less, Owning.longer_history}

-- Entries of others

none_step : (v : Event) (r : Reply) (f : Effects) (k : ℕ) (ps : List ℕ) (more : List Entry) → cond (eqb (caller_in v) 0) (k ∷ ps) ps ≡ [] → (ps ≡ [] → displayed more ≡ [])
    → displayed (record { event = v; reply = r; effects = f } ∷ more) ≡ []
unfolding displayed
none_step v r f k ps more is rest = grind (arith, nat_tests)

-- where the display has no place, it has no entry
none_displayed : (k : ℕ) (more : List Entry) → places_from k 0 (numbered more) ≡ [] → displayed more ≡ []
unfolding displayed
none_displayed k [] is = refl
none_displayed k (e ∷ more) is = none_step e.event e.reply e.effects k (places_from (k + 1) 0 (numbered more)) more is (none_displayed (k + 1) more)

-- where the display has no place more, it has no entry more
none_more : (k : ℕ) (h more : List Entry) → places_from k 0 (numbered (h ++ more)) ≡ places_from k 0 (numbered h) → displayed more ≡ []
none_more k [] more is = none_displayed k more is
none_more k (e ∷ h) more is = none_more (k + 1) h more (one_less (eqb (caller_in e.event) 0) k (places_from (k + 1) 0 (numbered (h ++ more))) (places_from (k + 1) 0 (numbered h)) is)

displayed_more : (h more : List Entry) → displayed (h ++ more) ≡ displayed h ++ displayed more
unfolding displayed
displayed_more h more = filter-append (λ e. not (is_of_client e.event)) h more

displayed_one : (v : Event) (r : Reply) (f : Effects) (h : List Entry) → length (displayed h) ≤ length h → length (displayed (record { event = v; reply = r; effects = f } ∷ h)) ≤ length h + 1
unfolding displayed
displayed_one v r f h few = grind (arith, nat_tests)

displayed_few : (h : List Entry) → length (displayed h) ≤ length h
unfolding displayed
displayed_few [] = omega arith
displayed_few (e ∷ h) = let one = displayed_one e.event e.reply e.effects h (displayed_few h) in omega arith

displayed_stays : (h more : List Entry) → displayed more ≡ [] → displayed h ≡ displayed (h ++ more)
displayed_stays h more none = sym (displayed_more h more ∙ ap (λ (l : List Entry). displayed h ++ l) none ∙ append-nil (displayed h))

pub counted_same : (h g : List Entry) (t : DisplayTotals) → displayed h ≡ displayed g → AreDisplayTotals h t → AreDisplayTotals g t
counted_same h g t same are = grind (arith, nat_tests)

-- the display's entries in a longer history, where it has no place more
module _ (old h : List Entry) (s : List (ℕ × Entry)) where
  pub shown_same : s ≡ numbered old → IsPrefix s (numbered h) → places 0 (numbered h) ≡ places 0 s → displayed old ≡ displayed h
  shown_same seen later stay = grind (arith, nat_tests, longer_history old h, displayed_stays old, none_more 1 old)

-- a token before a turn and in it, and the book that was found
pub record Entered {S : Type 0} (t0 t1 : Caller Plan Entry) (b : Booked S) : Type 0 where
  pub first : IsSameCaller t0 t1
  pub planned : t1.plan ≡ Some b.plan
  pub found : t1.seen ≡ numbered b.history
  pub later : IsPrefix t0.seen t1.seen
  pub stays : places_of t1 ≡ places_of t0
  pub legal : Legal b.plan b.history

-- a token in a turn and after it, and the history that was put back
pub record Left (t1 t2 : Caller Plan Entry) (h : List Entry) : Type 0 where
  pub second : IsSameCaller t1 t2
  pub rests : t2.inside ≡ false
  pub seen : t2.seen ≡ numbered h

module _ {S : Type 0} (t0 t1 : Caller Plan Entry) (b : Booked S) (totals : DisplayTotals) (old : IsDisplayEnd t0 totals) (e : Entered t0 t1 b) where
  pub same_before : displayed old.history ≡ displayed b.history
  same_before = grind (arith, nat_tests, shown_same old.history b.history t0.seen old.sees.seen (subst (IsPrefix t0.seen) e.found e.later))

  -- a frame is in flight where the display's end tells so
  pub flies_there : is_some (world b.plan b.history).in_flight ≡ totals.in_flight
  flies_there = flights_are_told b.plan b.history e.legal ∙ sym (old.counted.in_flight ∙ ap (flies_behind false) same_before)

  -- a turn without an entry
  pub quiet_display : (t2 : Caller Plan Entry) (h : List Entry) → Left t1 t2 h → h ≡ b.history → IsDisplayEnd t2 totals
  quiet_display t2 h l same = grind (arith, nat_tests, counted_same, same_before)

-- An entry of the display's own

one_more : (t : Bool) (n m : ℕ) → m ≡ cond t 1 0 + sum_by (λ (x : Entry). 0) [] → n + m ≡ cond t (n + 1) n
one_more t n m is = grind (arith, nat_tests)

count_more : (f : Entry → Bool) (h : List Entry) (e : Entry) → count_by f (h ++ e ∷ []) ≡ cond (f e) (count_by f h + 1) (count_by f h)
count_more f h e = sum_by-append (λ x. cond (f x) 1 0) h (e ∷ []) ∙ one_more (f e) (count_by f h) (sum_by (λ x. cond (f x) 1 0) (e ∷ [])) (sum_by-cons (λ x. cond (f x) 1 0) e [])

flies_more : (b : Bool) (h : List Entry) (e : Entry) → flies_behind b (h ++ e ∷ []) ≡ flies_by (flies_behind b h) e.event e.reply
flies_more b [] e = refl
flies_more b (x ∷ h) e = flies_more (flies_by b x.event x.reply) h e

own_displayed : (v : Event) (r : Reply) (f : Effects) → is_of_client v ≡ false → displayed (record { event = v; reply = r; effects = f } ∷ []) ≡ record { event = v; reply = r; effects = f } ∷ []
unfolding displayed
own_displayed v r f own = grind (arith, nat_tests)

pub own_names : (p : Plan) (v : Event) → is_of_client v ≡ false → NamesClient p v
own_names p v own = grind (arith, nat_tests)

counted_more : (before : List Entry) (e : Entry) (t : DisplayTotals) → is_of_client e.event ≡ false → AreDisplayTotals before t → AreDisplayTotals (before ++ e ∷ []) (with_entry t e)
counted_more before e t own are = grind (arith, nat_tests, displayed_more before (e ∷ []), own_displayed e.event e.reply e.effects own, count_more, flies_more false (displayed before) e)

pub event_is : (p : Plan) (w : World) (v : Event) → (entry_in p w v).event ≡ v
unfolding entry_in
event_is p w v = refl

numbered_more : (h : List Entry) (e : Entry) → numbered (h ++ e ∷ []) ≡ numbered h ++ (caller_in e.event, e) ∷ []
numbered_more h e = map-append (λ (x : Entry). (caller_in x.event, x)) h (e ∷ [])

-- the entries that are put back are one more
pub adds_entry : (n : ℕ) (s : List (ℕ × Entry)) (before h : List Entry) (e : Entry) → s ≡ numbered before → h ≡ before ++ e ∷ [] → caller_in e.event ≡ n → numbered h ≡ s ++ (n, e) ∷ []
adds_entry n s before h e found more own = ap numbered more ∙ numbered_more before e ∙ (λ i. sym found i ++ (own i, e) ∷ [])

pub length_numbered : (h : List Entry) → length (numbered h) ≡ length h
length_numbered [] = refl
length_numbered (e ∷ h) = ap suc (length_numbered h)

-- what a book becomes by an event
pub booked_history : {S : Type 0} (b b' : Booked S) (v : Event) → b' ≡ booked_on b v → b'.history ≡ b.history ++ next_entry b v ∷ []
unfolding booked_on
booked_history b b' v is = ap (λ x. x.history) is

pub booked_plan : {S : Type 0} (b b' : Booked S) (v : Event) → b' ≡ booked_on b v → b'.plan ≡ b.plan
unfolding booked_on
booked_plan b b' v is = ap (λ x. x.plan) is

-- in a turn of the display that has made the entry of an event
module _ {S : Type 0} (t0 t1 : Caller Plan Entry) (b b' : Booked S) (v : Event) (totals : DisplayTotals) (old : IsDisplayEnd t0 totals) (e : Entered t0 t1 b) (own : is_of_client v ≡ false) (is : b' ≡ booked_on b v) where
  abbrev pub made : Entry
  made = next_entry b v

  own_made : is_of_client made.event ≡ false
  own_made = ap is_of_client (event_is b.plan (world b.plan b.history) v) ∙ own

  pub adds : numbered b'.history ≡ t1.seen ++ (t1.number, made) ∷ []
  adds = grind (arith, nat_tests, adds_entry, booked_history, event_is)

  -- what it puts back
  pub leaves_plan : t1.plan ≡ Some b'.plan
  leaves_plan = e.planned ∙ ap (λ (p : Plan). Some p) (sym (booked_plan b b' v is))

  pub leaves_entries : MayLeave t1 (numbered b'.history)
  leaves_entries = inr (made, adds)

  pub counts_on : AreDisplayTotals b'.history (with_entry totals made)
  counts_on = subst (λ (g : List Entry). AreDisplayTotals g (with_entry totals made)) (sym (booked_history b b' v is))
      (counted_more b.history made totals own_made (counted_same old.history b.history totals (same_before t0 t1 b totals old e) old.counted))

  module _ (t2 : Caller Plan Entry) (l : Left t1 t2 b'.history) (new : DisplayTotals) (counts : new ≡ with_entry totals made) where
    -- what the end becomes
    abbrev pub on_display : IsDisplayEnd t2 new
    on_display = record {
      rests = l.rests;
      display = l.second.1 ∙ e.first.1 ∙ old.display;
      plan = b.plan;
      history = b'.history;
      sees = record {
        planned = l.second.2 ∙ e.planned;
        seen = l.seen;
        legal = subst (Legal b.plan) (sym (booked_history b b' v is))
            (legal-more b.plan b.history made e.legal (subst (NamesClient b.plan) (sym (event_is b.plan (world b.plan b.history) v)) (own_names b.plan v own)) (ap (entry_in b.plan (world b.plan b.history)) (sym (event_is b.plan (world b.plan b.history) v))));
      };
      counted = subst (AreDisplayTotals b'.history) (sym counts) counts_on;
    }

    -- it has seen no less
    pub on_same : (d : Owner DisplayTotals) → owner_of t0 totals ≡ d → IsSameOwner d (owner_of t2 new)
    on_same d view_is = subst (λ (o : Owner DisplayTotals). IsSameOwner o (owner_of t2 new)) view_is record {
      desk = l.second.0 ∙ e.first.0;
      plan = l.second.2 ∙ e.first.2;
      number = l.second.1 ∙ e.first.1;
      later = (e.later.0 ++ (t1.number, made) ∷ [], sym (append_assoc t0.seen e.later.0 ((t1.number, made) ∷ [])) ∙ ap (λ (s : List (ℕ × Entry)). s ++ (t1.number, made) ∷ []) e.later.1 ∙ sym adds ∙ sym l.seen);
    }

    -- what its owner is told
    abbrev pub on_displays : (d : Owner DisplayTotals) → owner_of t0 totals ≡ d
        → ((x : Entry) → numbered b'.history ≡ t1.seen ++ (t1.number, x) ∷ [] → places_of t2 ≡ places_of t1 ++ (length t1.seen + 1) ∷ []) → Displays d (owner_of t2 new) v
    on_displays d view_is one = record {
      plan = b.plan;
      before = b.history;
      made = made;
      makes = record {
        planned = l.second.2 ∙ e.planned;
        legal = e.legal;
        later = subst (λ (o : Owner DisplayTotals). IsPrefix o.seen (numbered b.history)) view_is (subst (IsPrefix t0.seen) e.found e.later);
        entry = refl;
        seen = l.seen ∙ ap numbered (booked_history b b' v is);
        mine = one made adds ∙ (λ i. (e.stays ∙ ap (λ (o : Owner DisplayTotals). places o.number o.seen) view_is) i ++ ((ap length e.found ∙ length_numbered b.history) i + 1) ∷ []);
      };
      totals = counts ∙ ap (λ (o : Owner DisplayTotals). with_entry o.totals made) view_is;
    }

-- what the display's totals become by its events
module _ {S : Type 0} (t : DisplayTotals) (b : Booked S) where
  pub begin_counts : record { begins = t.begins + 1; draws = t.draws; drawn = t.drawn; dones = t.dones; in_flight = t.in_flight } ≡ with_entry t (next_entry b event.Begin)
  unfolding entry_in
  begin_counts = refl

  pub over_counts : record { begins = t.begins; draws = t.draws; drawn = t.drawn; dones = t.dones; in_flight = t.in_flight } ≡ with_entry t (next_entry b event.Over)
  unfolding entry_in
  over_counts = refl

  pub done_counts : record { begins = t.begins; draws = t.draws; drawn = t.drawn; dones = t.dones + 1; in_flight = false } ≡ with_entry t (next_entry b event.Done)
  unfolding entry_in
  done_counts = refl

  abbrev drawing : Bool → DisplayTotals
  drawing drew = record { begins = t.begins; draws = t.draws + 1; drawn = cond drew (t.drawn + 1) t.drawn; dones = t.dones; in_flight = drew || t.in_flight }

  pub draw_counts : is_drawn (next_entry b event.Draw).reply ≡ true → record { begins = t.begins; draws = t.draws + 1; drawn = t.drawn + 1; dones = t.dones; in_flight = true } ≡ with_entry t (next_entry b event.Draw)
  unfolding entry_in
  draw_counts drew = sym (ap drawing drew)

  pub other_counts : is_drawn (next_entry b event.Draw).reply ≡ false → record { begins = t.begins; draws = t.draws + 1; drawn = t.drawn; dones = t.dones; in_flight = t.in_flight } ≡ with_entry t (next_entry b event.Draw)
  unfolding entry_in
  other_counts drew = sym (ap drawing drew)

-- how the end of a frame is answered
pub done_shown : {S : Type 0} (b : Booked S) → is_some (world b.plan b.history).in_flight ≡ true → (next_entry b event.Done).reply ≡ reply.Shown
unfolding entry_in step_in answer_to outcome_of done_answer
done_shown b flies = ap (λ (t : Bool). (cond t (says reply.Shown (record (world b.plan b.history) { in_flight = None })) (says reply.Nothing (world b.plan b.history))).reply) flies

pub done_nothing : {S : Type 0} (b : Booked S) → is_some (world b.plan b.history).in_flight ≡ false → (next_entry b event.Done).reply ≡ reply.Nothing
unfolding entry_in step_in answer_to outcome_of done_answer
done_nothing b flies = ap (λ (t : Bool). (cond t (says reply.Shown (record (world b.plan b.history) { in_flight = None })) (says reply.Nothing (world b.plan b.history))).reply) flies

pub booked_length : {S : Type 0} (b b' : Booked S) (v : Event) → b' ≡ booked_on b v → length b'.history ≡ length b.history + 1
booked_length b b' v is = ap length (booked_history b b' v is) ∙ length-append b.history (next_entry b v ∷ [])

-- what is noted of an entry of the display
pub note_is : {S : Type 0} (b b' : Booked S) (v : Event) (note : Note) (place : ℕ) → b' ≡ booked_on b v → note ≡ record { place = place; accepted = false; refused = false; lent = 0; back = 0 } → place ≡ length b'.history → note ≡ noted_plainly b.history
note_is b b' v note place is plain at = plain ∙ ap (λ (n : ℕ). record { place = n; accepted = false; refused = false; lent = 0; back = 0 }) (at ∙ booked_length b b' v is)

-- a count of the display's entries is at most the number of all
pub counted_few : (f : Entry → Bool) (h : List Entry) (n place : ℕ) → n ≡ count_by f (displayed h) → place ≡ length h → n ≤ place
counted_few f h n place is all = let a = count_by-le-length f (displayed h) in let b = displayed_few h in omega arith
