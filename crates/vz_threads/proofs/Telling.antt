-- The gate is told of each entry of an end.
use Rattle.std.proofs.Common.{◌≡◌, ℕ, suc, ◌+◌, ◌<◌, Bool, true, false, cond, eqb, List, [], ◌∷◌, filter, length, refl, ap, sym, ◌∙◌, arith}
use Rattle.std.specs.Prelude.{Result, Ok, Err, IfOk, OnOk, OnErr}
use Rattle.std.proofs.{lemmas.List.length-append, lemmas.Bool.Decides.nat_tests}
use Rattle.vz_loans.specs.Rule.{places_from}
use Rattle.vz_outside.specs.Told.{Call, IsTold, number_of}
use Rattle.vz_outside.proofs.Passing.{told_as, told_one, told_then, told_of}
use Rattle.vz_rules.specs.{Plan.Plan, World.World, World.opening, declared.entry.Event.Event, declared.entry.Entry.Entry}
use Rattle.vz_rules.specs.{Step.step_in, Step.world, Step.NamesClient, Step.LegalFrom, Step.Legal, Whole.mine, Whole.is_of}
use Rattle.vz_rules.specs.declared.entry.Event.TheVariants as event
use Rattle.vz_rules.proofs.Counts.{count_cons}
use Rattle.vz_machine.specs.Pictured.{Pictured}
use Rattle.vz_desk.specs.{Books.caller_in, Books.numbered, Owners.Owner, Owners.MakesNone, Owners.mine_of}
use Rattle.vz_desk.specs.{Totals.DisplayTotals, Displays.with_entry, Displays.Displays, Displays.EndsFrame}
use Rattle.vz_desk.specs.{declared.drawing.Drawing.Drawing, Drawings.IsDrawing}
use Rattle.vz_desk.specs.declared.drawing.Drawing.TheVariants.{Drawn, Other, Stopped}
use Rattle.vz_player.specs.Played.{actor_in, is_step_of, entries_by}
use Rattle.vz_threads.specs.Told.{counted_in, HasToldAll, IsToldOf}
use Rattle.vz_threads.proofs.Going.{event_of}

-- The display's entries

-- the display counts an entry of this event
abbrev pub is_counted : Event → Bool
is_counted v = elim v [ event.Begin ↦ true | event.Draw ↦ true | event.Done ↦ true | _ ↦ false ]

-- what an entry of an event adds to the totals
abbrev counted_by : DisplayTotals → Event → ℕ
counted_by t v =
    cond (elim v [ event.Begin ↦ true | _ ↦ false ]) (t.begins + 1) t.begins + cond (elim v [ event.Draw ↦ true | _ ↦ false ]) (t.draws + 1) t.draws
    + cond (elim v [ event.Done ↦ true | _ ↦ false ]) (t.dones + 1) t.dones

counted_one : (t : DisplayTotals) (v : Event) → is_counted v ≡ true → counted_by t v ≡ counted_in t + 1
counted_one t event.Begin is = omega arith
counted_one t event.Draw is = omega arith
counted_one t event.Done is = omega arith
counted_one t event.Over is = absurd (cc)
counted_one t (event.Client c) is = absurd (cc)

counted_entry : (t : DisplayTotals) (v : Event) (e : Entry) → e.event ≡ v → is_counted v ≡ true → counted_in (with_entry t e) ≡ counted_in t + 1
counted_entry t v e is counts = ap (counted_by t) is ∙ counted_one t v counts

module _ (told : Call → Type 0) (d d' : Owner DisplayTotals) where
  -- none, where Over may be among them
  pub none_all : MakesNone d d' → HasToldAll told d → HasToldAll told d'
  none_all none all = told_of told 0 0 (length (mine_of d)) 0 (length (mine_of d')) refl (sym (ap length none.mine)) all

  -- none
  pub none_told : MakesNone d d' → IsToldOf told d → IsToldOf told d'
  none_told none own = record {
    counted = ap length none.mine ∙ own.counted ∙ ap counted_in (sym none.totals);
    all = none_all none own.all;
  }

  module _ (actor number : ℕ) (display : actor ≡ 0) (numbered_is : number ≡ number_of (counted_in d.totals + 1)) (t : IsTold told actor number) (own : IsToldOf told d) where
    one_longer : (v : Event) → Displays d d' v → length (mine_of d') ≡ length (mine_of d) + 1
    one_longer v x = ap length x.makes.mine ∙ length-append (mine_of d) ((length x.before + 1) ∷ [])

    -- one, of any event
    made_told : (v : Event) → Displays d d' v → HasToldAll told d'
    made_told v x =
        told_then told 0 0 (length (mine_of d)) (length (mine_of d')) own.all
        (told_one told 0 (length (mine_of d)) (length (mine_of d')) number (one_longer v x)
        (numbered_is ∙ ap (λ (n : ℕ). number_of (n + 1)) (sym own.counted) ∙ ap number_of (sym (one_longer v x))) (told_as told actor 0 number number display refl t))

    -- one that it counts
    counted_told : (v : Event) → is_counted v ≡ true → Displays d d' v → IsToldOf told d'
    counted_told v counts x = record {
      counted = one_longer v x ∙ ap (λ (n : ℕ). n + 1) own.counted
          ∙ sym (ap counted_in x.totals ∙ counted_entry d.totals v x.made (event_of x.plan (world x.plan x.before) v x.made x.makes.entry) counts);
      all = made_told v x;
    }

    -- one or none, as the answer says
    pub begin_told : {E : Type 0} (r : Result (Unit {0}) E) (v : Event) → is_counted v ≡ true → OnOk r (Displays d d' v) → OnErr r (MakesNone d d') → IsToldOf told d'
    begin_told (Ok x) v counts made none = counted_told v counts made
    begin_told (Err e) v counts made none = none_told none own

    pub over_told : {E : Type 0} (r : Result (Unit {0}) E) (v : Event) → OnOk r (Displays d d' v) → OnErr r (MakesNone d d') → HasToldAll told d'
    over_told (Ok x) v made none = made_told v made
    over_told (Err e) v made none = (none_told none own).all

    pub draw_told : {M S P T E : Type 0} (pictured : P → Pictured) (r : Result (Drawing M S P T) E) → IfOk r (λ x. IsDrawing pictured d d' x) → OnErr r (MakesNone d d') → IsToldOf told d'
    draw_told pictured (Ok (Drawn hold picture)) made none = counted_told event.Draw refl made.1.displays
    draw_told pictured (Ok (Other note)) made none = counted_told event.Draw refl made.0.displays
    draw_told pictured (Ok (Stopped why)) made none = none_told made own
    draw_told pictured (Err e) made none = none_told none own

    pub done_told : EndsFrame d d' → IsToldOf told d'
    done_told ends = counted_told event.Done refl ends.0

-- How many entries an actor has in a history

same_caller : (v : Event) → caller_in v ≡ actor_in v
same_caller event.Begin = refl
same_caller event.Draw = refl
same_caller event.Done = refl
same_caller event.Over = refl
same_caller (event.Client c) = refl

one_place : (b : Bool) (k n : ℕ) (ps : List ℕ) → length ps ≡ n → length (cond b (k ∷ ps) ps) ≡ cond b 1 0 + n
one_place true k n ps is = let m : suc (length ps) ≡ 1 + n = omega (arith, is) in m
one_place false k n ps is = let m : length ps ≡ 0 + n = omega (arith, is) in m

-- as many as it has places
pub places_counted : (k c : ℕ) (h : List Entry) → length (places_from k c (numbered h)) ≡ entries_by h c
places_counted k c [] = refl
places_counted k c (e ∷ h) =
    one_place (eqb (caller_in e.event) c) k (entries_by h c) (places_from (k + 1) c (numbered h)) (places_counted (k + 1) c h)
    ∙ ap (λ (n : ℕ). cond (eqb n c) 1 0 + entries_by h c) (same_caller e.event) ∙ sym (count_cons (is_step_of c) e h)

same_client : (v : Event) (c : ℕ) → 0 < c → (elim v [ event.Client d ↦ eqb d c | _ ↦ false ]) ≡ eqb (actor_in v) c
same_client v c some_client = grind (arith, nat_tests)

one_entry : (b : Bool) (e : Entry) (n : ℕ) (es : List Entry) → length es ≡ n → length (cond b (e ∷ es) es) ≡ cond b 1 0 + n
one_entry true e n es is = let m : suc (length es) ≡ 1 + n = omega (arith, is) in m
one_entry false e n es is = let m : length es ≡ 0 + n = omega (arith, is) in m

-- as many as are a client's
pub mine_counted : (c : ℕ) (h : List Entry) → 0 < c → length (mine h c) ≡ entries_by h c
unfolding mine
mine_counted c [] some_client = refl
mine_counted c (e ∷ h) some_client =
    one_entry (is_of c e) e (entries_by h c) (filter (is_of c) h) (mine_counted c h some_client)
    ∙ ap (λ (b : Bool). cond b 1 0 + entries_by h c) (same_client e.event c some_client) ∙ sym (count_cons (is_step_of c) e h)

other_step : (p : Plan) (v : Event) (c : ℕ) → 0 < c → length p.files < c → NamesClient p v → eqb (actor_in v) c ≡ false
other_step p v c some_client far named = grind (arith, nat_tests)

none_from : (p : Plan) (w : World) (h : List Entry) (c : ℕ) → 0 < c → length p.files < c → LegalFrom p w h → entries_by h c ≡ 0
unfolding LegalFrom
none_from p w [] c some_client far legal = refl
none_from p w (e ∷ h) c some_client far legal =
    count_cons (is_step_of c) e h ∙ ap (λ (b : Bool). cond b 1 0 + entries_by h c) (other_step p e.event c some_client far legal.0)
    ∙ (let none = none_from p (step_in p w e.event).world h c some_client far legal.2 in let m : 0 + entries_by h c ≡ 0 = omega (arith, none) in m)

-- none, if it is no client of the plan
pub none_beyond : (p : Plan) (h : List Entry) (c : ℕ) → 0 < c → length p.files < c → Legal p h → entries_by h c ≡ 0
unfolding Legal
none_beyond p h c some_client far legal = none_from p (opening p) h c some_client far legal
