-- Which feedback submissions get, as one is accepted, as one becomes active, and as a surface is destroyed.
use Rattle.std.proofs.Common.{◌≡◌, ℕ, ◌+◌, ◌≤◌, Bool, true, false, not, ◌&&◌, ◌||◌, Option, Some, None, is_some, [], ◌∷◌, map, find, slice_get, Contains, count_by, refl, ap, sym, subst, ◌∙◌, arith, cond}
use Rattle.std.specs.Option.{option_map}
use Rattle.std.proofs.{lemmas.Bool.Decides.nat_tests, lemmas.Bool.and_parts as both_true}
use Rattle.vz_ids.specs.{declared.SurfaceId.SurfaceId, declared.LocalSurfaceId.LocalSurfaceId, declared.Sub.Sub, Ids.same_sub}
use Rattle.vz_frame.specs.declared.frame.CompositorFrame.{CompositorFrame}
use Rattle.vz_rules.specs.{declared.entry.State.State, Returns.feedback_of, Reach.drop_on, Singly.as_one_rises, Singly.rising, Singly.going}
use Rattle.vz_rules.specs.declared.entry.State.TheVariants.{Waiting, Active, Past, Dropped}
use Rattle.vz_rules.specs.{Plan.Plan, Messages.accepted, Messages.new_submission, Messages.id_of, Messages.replace_on, Kept.KeepsAlways, Kept.is_by}
use Rattle.vz_rules.specs.World.{World, Client, Surface, Submission, opening, is_waiting, is_active, is_on, is_in_flight, sub_of}
use Rattle.vz_rules.proofs.Members.{at_contains, contains_at, contains_none, at_map, find_at, found, any_from, at_same, same_tests}
use Rattle.vz_rules.proofs.{Counts.one_place, Counts.count_at, Facts.false_at, Kept_facts.subs_apart}
use Rattle.vz_returns.specs.declared.ended.Ended.{Ended}
use Rattle.vz_returns.specs.Owed.{Owed, AreOwed, place_of, ended_of, waiting_on, active_on}
use Rattle.vz_returns.specs.Notes.{IsNoted, IsAdded, dropped_by, is_name, fed_as, noted}
use Rattle.vz_returns.proofs.Owes.{none_some, yes_no, same_self, owes_mapped, owes_added}
use Rattle.vz_returns.proofs.Noted.{owes_noted}
use Rattle.vz_returns.proofs.Single.{at_cond, ends_one, open_none, none_also, ended_twice}

-- the one that is dropped with the waiting one of a surface, and with its active one
abbrev drops_waiting : World → SurfaceId → Option Sub
drops_waiting w id = dropped_by (option_map (ended_of w) (waiting_on w id))

abbrev drops_active : World → SurfaceId → Option Sub
drops_active w id = dropped_by (option_map (ended_of w) (active_on w id))

-- Which one is told

module _ (w : World) (keeps : KeepsAlways w) where
  one_name : (s t : Submission) → Contains w.subs s → Contains w.subs t → same_sub (sub_of s) (sub_of t) ≡ true → s ≡ t
  one_name s t c d e = grind (arith, nat_tests, contains_at w.subs s c, contains_at w.subs t d, at_same w.subs, subs_apart w)

  -- at most one passes a test
  abbrev IsAlone : (Submission → Bool) → Type 0
  IsAlone test = (s t : Submission) → Contains w.subs s → Contains w.subs t → test s ≡ true → test t ≡ true → s ≡ t

  told_by : (t u : Submission) (f : Bool) → is_name (dropped_by (Some (record { sub = sub_of t; in_flight = f }))) (sub_of u) ≡ true
      → (f ≡ false) × (same_sub (sub_of t) (sub_of u) ≡ true)
  told_by t u true h = absurd (cc)
  told_by t u false h = (refl, h)

  tells : (t u : Submission) (f : Bool) → f ≡ false → same_sub (sub_of t) (sub_of u) ≡ true
      → is_name (dropped_by (Some (record { sub = sub_of t; in_flight = f }))) (sub_of u) ≡ true
  tells t u true h k = absurd (cc)
  tells t u false h k = k

  -- the one that is told is the one that passes, where it is not in flight
  pub is_told : (test : Submission → Bool) → IsAlone test → (u : Submission) → Contains w.subs u
      → is_name (dropped_by (option_map (ended_of w) (option_map (λ (s : Submission). sub_of s) (find test w.subs)))) (sub_of u)
      ≡ (test u && not (is_in_flight w.in_flight (sub_of u)))
  is_told test alone u c = by (find test w.subs) refl
    where
      by : (v : Option Submission) → find test w.subs ≡ v
          → is_name (dropped_by (option_map (ended_of w) (option_map (λ (s : Submission). sub_of s) v))) (sub_of u)
          ≡ (test u && not (is_in_flight w.in_flight (sub_of u)))
      by None e =
          no_one (test u) (not (is_in_flight w.in_flight (sub_of u)))
          (λ h. yes_no (is_some (find test w.subs)) (found test w.subs ∙ any_from test w.subs u c h) (ap is_some e))
        where
          no_one : (a b : Bool) → (a ≡ true → true ≡ false) → false ≡ (a && b)
          no_one true b h = let no_way = h refl in absurd (cc)
          no_one false b h = refl
      by (Some t) e =
          let m = find_at test w.subs t e in
          same_tests (is_name (dropped_by (Some (ended_of w (sub_of t)))) (sub_of u)) (test u && not (is_in_flight w.in_flight (sub_of u)))
          (λ h.
          let p = told_by t u (is_in_flight w.in_flight (sub_of t)) h in
          let same = one_name t u m.0 c p.1 in
          (λ i. (ap test (sym same) ∙ m.1) i && not ((ap (λ (x : Submission). is_in_flight w.in_flight (sub_of x)) (sym same) ∙ p.0) i)))
          (λ h.
          let p = both_true (test u) (not (is_in_flight w.in_flight (sub_of u))) h in
          let same = alone t u m.0 c m.1 p.0 in
          tells t u (is_in_flight w.in_flight (sub_of t))
          (ap (λ (x : Submission). is_in_flight w.in_flight (sub_of x)) same ∙ not_true (is_in_flight w.in_flight (sub_of u)) p.1)
          (ap (λ (x : Submission). same_sub (sub_of x) (sub_of u)) same ∙ same_self (sub_of u)))
        where
          not_true : (b : Bool) → not b ≡ true → b ≡ false
          not_true true h = absurd (cc)
          not_true false h = refl

  alone_on : (id : SurfaceId) (state : Submission → Bool) → count_by (λ s. is_on id s && state s) w.subs ≤ 1
      → IsAlone (λ s. state s && is_on id s)
  alone_on id state few s t c d e f =
      let a = contains_at w.subs s c in
      let b = contains_at w.subs t d in
      let p = both_true (state s) (is_on id s) e in
      let q = both_true (state t) (is_on id t) f in
      at_same w.subs a.0 b.0 s t a.1 b.1
      (one_place (λ s. is_on id s && state s) w.subs a.0 b.0 s t few a.1 b.1 (λ i. p.1 i && p.0 i) (λ i. q.1 i && q.0 i))

  pub told_waiting : (id : SurfaceId) (u : Submission) → Contains w.subs u
      → is_name (drops_waiting w id) (sub_of u) ≡ ((is_waiting u && is_on id u) && not (is_in_flight w.in_flight (sub_of u)))
  told_waiting id = is_told (λ s. is_waiting s && is_on id s) (alone_on id (λ s. is_waiting s) (keeps.states.one_waits id))

  pub told_active : (id : SurfaceId) (u : Submission) → Contains w.subs u
      → is_name (drops_active w id) (sub_of u) ≡ ((is_active u && is_on id u) && not (is_in_flight w.in_flight (sub_of u)))
  told_active id = is_told (λ s. is_active s && is_on id s) (alone_on id (λ s. is_active s) (keeps.states.one_is_active id))

  -- no submission has the name of the next one of a client
  pub new_name : (c : ℕ) (n : ℕ) (u : Submission) → slice_get w.subs n ≡ Some u
      → same_sub (record { client = c; ordinal = count_by (is_by c) w.subs + 1 }) (sub_of u) ≡ false
  new_name c n u at = grind (arith, nat_tests, false_at, both_true, count_at (is_by u.submitted.sub.client) w.subs n u at)

-- Events

kept_sub : (t : Bool) (state : State) (u : Submission) → sub_of (cond t (record u { state = state }) u) ≡ sub_of u
kept_sub true state u = refl
kept_sub false state u = refl

kept_fed : (t : Bool) (state : State) (u : Submission) → (cond t (record u { state = state }) u).fed ≡ u.fed
kept_fed true state u = refl
kept_fed false state u = refl

and_first : (a b : Bool) → (a && b) ≡ true → (c : Bool) → (a || c) ≡ true
and_first true b h c = refl
and_first false b h c = absurd (cc)

and_second : (a b : Bool) → (a && b) ≡ true → (c : Bool) → (c || a) ≡ true
and_second a b h c = grind (arith, nat_tests)

pub owed_accepted : (w : World) (c : Client) (local : LocalSurfaceId) (frame : CompositorFrame) (old mid new : Owed) (sub : Sub)
    (replaced : Option Ended)
    (dropped : Option Sub) → KeepsAlways w → AreOwed w old
    → sub ≡ sub_of (new_submission w c local frame) → replaced ≡ option_map (ended_of w) (waiting_on w (id_of c local))
    → dropped ≡ dropped_by replaced → IsNoted dropped false old mid → IsAdded sub mid new
    → AreOwed (accepted w c local frame).world new
unfolding accepted new_submission
owed_accepted w c local frame old mid new sub replaced dropped keeps o name told drops noted' added =
    let id = id_of c local in
    let s = new_submission w c local frame in
    let is = subst (λ r. IsNoted r false old mid) (drops ∙ ap dropped_by told) noted' in
    let one = owes_noted false (feedback_of w []) w.subs old o (drops_waiting w id) mid is in
    let changed = owes_mapped (replace_on id) (noted (is_name (drops_waiting w id)) false (feedback_of w [])) (feedback_of w []) w.subs mid
    (λ u. kept_sub (is_waiting u && is_on id u) Dropped u) (λ u. kept_fed (is_waiting u && is_on id u) Dropped u)
    (λ u m.
    ends_one w u Dropped (is_waiting u && is_on id u) _ refl (λ h. and_first (is_waiting u) (is_on id u) h (is_active u))
    (told_waiting w keeps id u m)) one in
    let other : (n : ℕ) (u : Submission) → slice_get (map (replace_on id) w.subs) n ≡ Some u → same_sub (sub_of s) (sub_of u) ≡ false = λ n u at.
    let m = at_map (replace_on id) w.subs n u at in
    ap (λ (x : Submission). same_sub (sub_of s) (sub_of x)) (sym m.2)
    ∙ ap (same_sub (sub_of s)) (kept_sub (is_waiting m.0 && is_on id m.0) Dropped m.0) ∙ new_name w keeps c.number n m.0 m.1 in
    owes_added (feedback_of w []) (map (replace_on id) w.subs) s mid new refl refl other (subst (λ x. IsAdded x mid new) name added) changed

pub owed_activated : (w : World) (s : Submission) (old new : Owed) (past : Option Ended) (dropped : Option Sub) → KeepsAlways w
    → AreOwed w old
    → Contains w.subs s → is_waiting s ≡ true
    → past ≡ option_map (ended_of w) (active_on w s.submitted.id) → dropped ≡ dropped_by past → IsNoted dropped false old new
    → AreOwed (rising s w) new
unfolding rising
owed_activated w s old new past dropped keeps o in' waits told drops noted' =
    let id = s.submitted.id in
    let is = subst (λ r. IsNoted r false old new) (drops ∙ ap dropped_by told) noted' in
    owes_mapped (as_one_rises s) (noted (is_name (drops_active w id)) false (feedback_of w [])) (feedback_of w []) w.subs new names feds same
    (owes_noted false (feedback_of w []) w.subs old o (drops_active w id) new is)
  where
    past_by : Submission → Submission
    past_by u = cond (is_active u && is_on s.submitted.id u) (record u { state = Past }) u

    names_by : (t : Bool) (u v : Submission) → sub_of v ≡ sub_of u
        → sub_of (cond t (record u { state = Active; was_active = true }) v) ≡ sub_of u
    names_by true u v h = refl
    names_by false u v h = h

    names : (u : Submission) → sub_of (as_one_rises s u) ≡ sub_of u
    names u = names_by (same_sub (sub_of u) (sub_of s)) u (past_by u) (kept_sub (is_active u && is_on s.submitted.id u) Past u)

    feds_by : (t : Bool) (u v : Submission) → v.fed ≡ u.fed → (cond t (record u { state = Active; was_active = true }) v).fed ≡ u.fed
    feds_by true u v h = refl
    feds_by false u v h = h

    feds : (u : Submission) → (as_one_rises s u).fed ≡ u.fed
    feds u = feds_by (same_sub (sub_of u) (sub_of s)) u (past_by u) (kept_fed (is_active u && is_on s.submitted.id u) Past u)

    idle : (u : Submission) → is_waiting u ≡ true → (is_active u && is_on s.submitted.id u) ≡ false
    idle u h = ap (λ b. b && is_on s.submitted.id u) (not_active u.state h)
      where
        not_active : (state : State) → elim state as (λ _. Bool) [ Waiting ↦ true | _ ↦ false ] ≡ true
            → elim state as (λ _. Bool) [ Active ↦ true | _ ↦ false ] ≡ false
        not_active Waiting h = refl
        not_active Active h = absurd (cc)
        not_active Past h = refl
        not_active Dropped h = refl

    same_by : (u : Submission) (t : Bool) → Contains w.subs u → same_sub (sub_of u) (sub_of s) ≡ t
        → feedback_of w [] (cond t (record u { state = Active; was_active = true }) (past_by u))
        ≡ noted (is_name (drops_active w s.submitted.id)) false (feedback_of w []) u
    same_by u true c e =
        let this : u ≡ s = one_name w keeps u s c in' e in
        let waiting : is_waiting u ≡ true = ap (λ (x : Submission). is_waiting x) this ∙ waits in
        let flies = is_in_flight w.in_flight (sub_of u) in
        let untold = told_active w keeps s.submitted.id u c ∙ ap (λ b. b && not flies) (idle u waiting) in
        none_also u.fed (is_name (drops_active w s.submitted.id) (sub_of u)) (feedback_of w [] u) (fed_as false (sub_of u))
        (open_none u.fed (is_waiting u) (is_active u) flies (fed_as false (sub_of u)) waiting) untold
    same_by u false c e =
        ends_one w u Past (is_active u && is_on s.submitted.id u) _ refl
        (λ h. and_second (is_active u) (is_on s.submitted.id u) h (is_waiting u)) (told_active w keeps s.submitted.id u c)

    same : (u : Submission) → Contains w.subs u
        → feedback_of w [] (as_one_rises s u) ≡ noted (is_name (drops_active w s.submitted.id)) false (feedback_of w []) u
    same u c = same_by u (same_sub (sub_of u) (sub_of s)) c refl

pub owed_destroyed : (w : World) (c : Surface) (old mid new : Owed) (waiting active : Option Ended) (dropped past : Option Sub)
    → KeepsAlways w → AreOwed w old
    → waiting ≡ option_map (ended_of w) (waiting_on w c.id) → active ≡ option_map (ended_of w) (active_on w c.id)
    → dropped ≡ dropped_by waiting → IsNoted dropped false old mid → past ≡ dropped_by active → IsNoted past false mid new
    → AreOwed (going c w) new
unfolding going
owed_destroyed w c old mid new waiting active dropped past keeps o first second drops noted_one ends noted_two =
    let one = subst (λ r. IsNoted r false old mid) (drops ∙ ap dropped_by first) noted_one in
    let two = subst (λ r. IsNoted r false mid new) (ends ∙ ap dropped_by second) noted_two in
    let gets = noted (is_name (drops_waiting w c.id)) false (feedback_of w []) in
    owes_mapped (drop_on (c ∷ [])) (noted (is_name (drops_active w c.id)) false gets) (feedback_of w []) w.subs new
    (λ u. kept_sub ((is_waiting u || is_active u) && (is_on c.id u || false)) Dropped u)
    (λ u. kept_fed ((is_waiting u || is_active u) && (is_on c.id u || false)) Dropped u)
    (λ u m.
    let x = fed_as false (sub_of u) in
    at_cond (feedback_of w []) ((is_waiting u || is_active u) && (is_on c.id u || false)) (record u { state = Dropped }) u
    ∙ ended_twice u.fed (is_waiting u) (is_active u) (is_on c.id u) (is_in_flight w.in_flight (sub_of u)) _ _ x
    (told_waiting w keeps c.id u m) (told_active w keeps c.id u m))
    (owes_noted false gets w.subs mid (owes_noted false (feedback_of w []) w.subs old o (drops_waiting w c.id) mid one)
    (drops_active w c.id) new two)

pub first_owed : (p : Plan) (f : Owed) → ((t : Sub) → place_of f t ≡ None) → f.due ≡ [] → f.accepted ≡ 0 → AreOwed (opening p) f
unfolding opening
first_owed p f places due accepted = grind (arith, nat_tests, contains_none, at_contains, none_some, found)
