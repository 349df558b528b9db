-- Each accepted submission has feedback once and becomes active once, in each legal history.
use Rattle.std.proofs.Common.{◌≡◌, ℕ, zero, suc, ◌+◌, ◌<◌, ◌≤◌, Bool, true, false, not, ◌&&◌, ◌||◌, ◌==◌, Option, Some, None, List, [], ◌∷◌, ◌++◌, map, filter, refl, subst, ap, sym, ◌∙◌, cond, arith, slice_get, count_by}
use Rattle.std.specs.Prelude.{is_none}
use Rattle.std.specs.List.{list_all, list_any, filter_map, cons_option}
use Rattle.std.proofs.lemmas.Bool.{and_parts, and_from, eqb-true, eqb-false, eq-eqb, ne_eqb}
use Rattle.std.proofs.lemmas.List.Folds.{list_all-append}
use Rattle.std.proofs.lemmas.List.Sums.{sum_by-append, sum_by_push}
use Rattle.vz_ids.specs.declared.LocalSurfaceId.{LocalSurfaceId}
use Rattle.vz_ids.specs.declared.Sub.{Sub}
use Rattle.vz_ids.specs.Ids.{same_sub}
use Rattle.vz_frame.specs.declared.frame.CompositorFrame.{CompositorFrame}
use Rattle.vz_rules.specs.Plan.{Plan}
use Rattle.vz_rules.specs.declared.entry.Event.{Event}
use Rattle.vz_rules.specs.declared.entry.Event.TheVariants as event
use Rattle.vz_rules.specs.declared.entry.Entry.{Entry}
use Rattle.vz_rules.specs.declared.entry.Fed.{Fed}
use Rattle.vz_rules.specs.declared.entry.State.TheVariants.{Active, Past, Dropped}
use Rattle.vz_rules.specs.World.{World, Client, Surface, Submission, is_waiting, is_active, is_ended, is_on, is_in_flight, sub_of, has_sub, opening, FrameData, client_at}
use Rattle.vz_rules.specs.Settle.{is_ready, ready, after_round, round, rounds, activated_over, settle, activated_in}
use Rattle.vz_rules.specs.Reach.{drop_on, lost_in, naming, clearing, collect}
use Rattle.vz_rules.specs.Returns.{give_back, feedback_of, mark_fed, feed, fed_in}
use Rattle.vz_rules.specs.Messages.{Answer, id_of, new_submission, replace_on, accepted, client_answer}
use Rattle.vz_rules.specs.Step.{answer_to, begin_answer, outcome_of, presented_by, step_in, entry_in, world, Legal, NamesClient}
use Rattle.vz_rules.specs.Accounts.{IsAcceptance, feedback_over, activations_over, TellsEachOnce}
use Rattle.vz_rules.specs.Log.{unfed_of, rest_in, rest_of}
use Rattle.vz_rules.proofs.Counts.{count_cons, count_push, count_same, count_none}
use Rattle.vz_rules.proofs.Rising.{counted, sum_same, sum_flat, sum_one, Rising}
use Rattle.vz_rules.proofs.Given.{number_of}
use Rattle.vz_rules.proofs.Numbered.{numbers_are, numbers_rise, client_there}
use Rattle.vz_rules.proofs.Acceptances.{acceptances_are}
use Rattle.vz_rules.proofs.Follow_ups.{frames_of, frames_kept, outcome_frames, count_kept}
use Rattle.vz_rules.proofs.Prefixes.{Steps, along, legal-at}
use Rattle.vz_rules.proofs.Cases.{DisplayCases, answer_cases, number_at, few_cases}
use Rattle.vz_rules.proofs.Facts.{same_either, none_plus, and_false}
use Rattle.vz_rules.proofs.Settled.{ready_waits}

-- Counts

-- as many pass a test after each was changed, where it says the same
pub count_map : {A : Type 0} (f : A → A) (t : A → Bool) (xs : List A) → ((x : A) → t (f x) ≡ t x) → count_by t (map f xs) ≡ count_by t xs
count_map f t xs same = count_same f t t xs same

all_map : {A : Type 0} (f : A → A) (t : A → Bool) (xs : List A) → ((x : A) → t x ≡ true → t (f x) ≡ true) → list_all t xs ≡ true → list_all t (map f xs) ≡ true
all_map f t [] keeps h = refl
all_map f t (x ∷ xs) keeps h =
    let both = and_parts (t x) (list_all t xs) h in and_from (t (f x)) (list_all t (map f xs)) (keeps x both.0) (all_map f t xs keeps both.1)

-- Submissions of one name

-- one of this name
abbrev pub is_named : Sub → Submission → Bool
is_named sub s = same_sub sub (sub_of s)

-- one of this name that had feedback, and one that was ever active
abbrev pub has_fed : Sub → Submission → Bool
has_fed sub s = is_named sub s && s.fed

abbrev pub has_acted : Sub → Submission → Bool
has_acted sub s = is_named sub s && s.was_active

-- one of this client
abbrev pub is_by : ℕ → Submission → Bool
is_by c s = s.submitted.sub.client == c

-- one that waits was never active
abbrev pub is_fresh : Submission → Bool
is_fresh s = not (is_waiting s && s.was_active)

-- what activation and collection do to a submission
abbrev after_by : Bool → Bool → Submission → Submission
after_by becomes past s = cond becomes (record s { state = Active; was_active = true }) (cond past (record s { state = Past }) s)

abbrev dropped_by : Bool → Submission → Submission
dropped_by t s = cond t (record s { state = Dropped }) s

after_rest : (becomes past : Bool) (s : Submission) → ((after_by becomes past s).submitted ≡ s.submitted) × ((after_by becomes past s).fed ≡ s.fed)
after_rest becomes past s = (same_either (λ (x : Submission). x.submitted) becomes past _ _ s refl refl, same_either (λ (x : Submission). x.fed) becomes past _ _ s refl refl)

dropped_rest : (t : Bool) (s : Submission) → ((dropped_by t s).submitted ≡ s.submitted) × ((dropped_by t s).fed ≡ s.fed) × ((dropped_by t s).was_active ≡ s.was_active)
dropped_rest true s = (refl, refl, refl)
dropped_rest false s = (refl, refl, refl)

-- a test that says the same after activation and collection
record IsSteady (t : Submission → Bool) : Type 0 where
  after : (becomes past : Bool) (s : Submission) → t (after_by becomes past s) ≡ t s
  dropped : (b : Bool) (s : Submission) → t (dropped_by b s) ≡ t s

module _ (t : Submission → Bool) (steady : IsSteady t) where
  rounds_count : (n : ℕ) (w : World) → count_by t (rounds n w).subs ≡ count_by t w.subs
  unfolding rounds round
  rounds_count zero w = refl
  rounds_count (suc n) w =
      rounds_count n (round w) ∙ count_map (after_round (is_ready w) (ready w)) t w.subs (λ s. steady.after (is_ready w s) (is_active s && list_any (is_on s.submitted.id) (ready w)) s)

  collect_count : (w : World) → count_by t (collect w).subs ≡ count_by t w.subs
  unfolding collect clearing naming
  collect_count w =
      let lost : List Surface = lost_in (naming w) in
      count_map (drop_on lost) t w.subs (λ s. steady.dropped ((is_waiting s || is_active s) && list_any (λ c. is_on c.id s) lost) s)

  follow_count : (w : World) → count_by t (collect (settle w)).subs ≡ count_by t w.subs
  unfolding settle
  follow_count w = collect_count (settle w) ∙ rounds_count _ w

steady_fed : (sub : Sub) → IsSteady (has_fed sub)
steady_fed sub =
    record {
      after = λ b p s. let r = after_rest b p s in ap (λ i. same_sub sub i.sub && (after_by b p s).fed) r.0 ∙ ap (λ f. is_named sub s && f) r.1;
      dropped = λ b s. let r = dropped_rest b s in ap (λ i. same_sub sub i.sub && (dropped_by b s).fed) r.0 ∙ ap (λ f. is_named sub s && f) r.1;
    }

-- Activation

fresh_after : (becomes past : Bool) (s : Submission) → is_fresh s ≡ true → is_fresh (after_by becomes past s) ≡ true
fresh_after true past s h = refl
fresh_after false true s h = refl
fresh_after false false s h = h

fresh_dropped : (t : Bool) (s : Submission) → is_fresh s ≡ true → is_fresh (dropped_by t s) ≡ true
fresh_dropped true s h = refl
fresh_dropped false s h = h

-- with a for the name, b for what becomes active and w for what was
acts_by : (a b w : Bool) → (b ≡ true → w ≡ false) → ◌≡◌ {A = ℕ} (cond (a && (b || w)) 1 0) (cond (a && w) 1 0 + cond b (cond a 1 0) 0)
acts_by true true true h = let e : true ≡ false = h refl in absurd (cc)
acts_by true true false h = omega arith
acts_by true false true h = omega arith
acts_by true false false h = omega arith
acts_by false true w h = omega arith
acts_by false false w h = omega arith

was_after : (becomes past : Bool) (s : Submission) → (after_by becomes past s).was_active ≡ (becomes || s.was_active)
was_after true past s = refl
was_after false true s = refl
was_after false false s = refl

fresh_not : (w a : Bool) → not (w && a) ≡ true → w ≡ true → a ≡ false
fresh_not true true h e = absurd (cc)
fresh_not true false h e = refl
fresh_not false a h e = absurd (cc)

one_activated : (sub : Sub) (t : Bool) (s : Submission) (ys : List Submission) → count_by (same_sub sub) (map sub_of (cond t (s ∷ ys) ys)) ≡ cond t (cond (is_named sub s) 1 0) 0 + count_by (same_sub sub) (map sub_of ys)
one_activated sub true s ys = count_cons (same_sub sub) (sub_of s) (map sub_of ys)
one_activated sub false s ys = omega arith

round_list : (w : World) (sub : Sub) (becomes : Submission → Bool) (risen ss : List Submission) → ((s : Submission) → becomes s ≡ true → is_waiting s ≡ true) → list_all is_fresh ss ≡ true
    → count_by (has_acted sub) (map (after_round becomes risen) ss) ≡ count_by (has_acted sub) ss + count_by (same_sub sub) (map sub_of (filter becomes ss))
round_list w sub becomes risen [] waits h = omega arith
round_list w sub becomes risen (s ∷ ss) waits h =
    let both = and_parts (is_fresh s) (list_all is_fresh ss) h in
    let past : Bool = is_active s && list_any (is_on s.submitted.id) risen in
    let name = ap (λ i. same_sub sub i.sub && (after_by (becomes s) past s).was_active) (after_rest (becomes s) past s).0 in
    let acts : has_acted sub (after_round becomes risen s) ≡ (is_named sub s && (becomes s || s.was_active)) = name ∙ ap (λ b. is_named sub s && b) (was_after (becomes s) past s) in
    let here : ◌≡◌ {A = ℕ} (cond (has_acted sub (after_round becomes risen s)) 1 0) (cond (has_acted sub s) 1 0 + cond (becomes s) (cond (is_named sub s) 1 0) 0)
    = ap (λ (b : Bool). cond b 1 0) acts ∙ acts_by (is_named sub s) (becomes s) s.was_active (λ e. fresh_not (is_waiting s) s.was_active both.0 (waits s e)) in
    omega (
      arith,
      count_cons (has_acted sub) (after_round becomes risen s) (map (after_round becomes risen) ss),
      count_cons (has_acted sub) s ss,
      here,
      one_activated sub (becomes s) s (filter becomes ss),
      round_list w sub becomes risen ss waits both.1,
    )

round_acts : (w : World) (sub : Sub) → list_all is_fresh w.subs ≡ true
    → count_by (has_acted sub) (round w).subs ≡ count_by (has_acted sub) w.subs + count_by (same_sub sub) (map sub_of (ready w))
unfolding round ready
round_acts w sub h = round_list w sub (is_ready w) (filter (is_ready w) w.subs) w.subs (ready_waits w) h

round_fresh : (w : World) → list_all is_fresh w.subs ≡ true → list_all is_fresh (round w).subs ≡ true
unfolding round
round_fresh w h = all_map (after_round (is_ready w) (ready w)) is_fresh w.subs (λ s. fresh_after (is_ready w s) (is_active s && list_any (is_on s.submitted.id) (ready w)) s) h

rounds_act : (n : ℕ) (w : World) (sub : Sub) → list_all is_fresh w.subs ≡ true
    → count_by (has_acted sub) (rounds n w).subs ≡ count_by (has_acted sub) w.subs + count_by (same_sub sub) (activated_over n w)
unfolding rounds activated_over
rounds_act zero w sub h = omega arith
rounds_act (suc n) w sub h =
    omega (arith, rounds_act n (round w) sub (round_fresh w h), round_acts w sub h, sum_by-append (λ y. cond ((same_sub sub) y) 1 0) (map sub_of (ready w)) (activated_over n (round w)))

rounds_fresh : (n : ℕ) (w : World) → list_all is_fresh w.subs ≡ true → list_all is_fresh (rounds n w).subs ≡ true
unfolding rounds
rounds_fresh zero w h = h
rounds_fresh (suc n) w h = rounds_fresh n (round w) (round_fresh w h)

settle_acts : (w : World) (sub : Sub) → list_all is_fresh w.subs ≡ true → count_by (has_acted sub) (settle w).subs ≡ count_by (has_acted sub) w.subs + count_by (same_sub sub) (activated_in w)
unfolding settle activated_in
settle_acts w sub h = rounds_act _ w sub h

collect_acts : (w : World) (sub : Sub) → count_by (has_acted sub) (collect w).subs ≡ count_by (has_acted sub) w.subs
unfolding collect clearing naming
collect_acts w sub =
    let lost : List Surface = lost_in (naming w) in
    count_map (drop_on lost) (has_acted sub) w.subs (λ s.
    let r = dropped_rest ((is_waiting s || is_active s) && list_any (λ c. is_on c.id s) lost) s in
    ap (λ i. same_sub sub i.sub && (drop_on lost s).was_active) r.0 ∙ ap (λ b. is_named sub s && b) r.2)

follow_fresh : (w : World) → list_all is_fresh w.subs ≡ true → list_all is_fresh (collect (settle w)).subs ≡ true
unfolding collect clearing naming settle
follow_fresh w h =
    let lost : List Surface = lost_in (naming (settle w)) in
    all_map (drop_on lost) is_fresh (settle w).subs (λ s. fresh_dropped ((is_waiting s || is_active s) && list_any (λ c. is_on c.id s) lost) s) (rounds_fresh _ w h)

-- Feedback

-- with a for the name, f for what had feedback and o for what it gets
fed_by : (sub : Sub) (s : Submission) (a : Bool) (o : Option Fed) → ((f : Fed) → o ≡ Some f → (s.fed ≡ false) × (same_sub sub f.sub ≡ a)) → (b : Bool) → s.fed ≡ b
    → cond (a && (b || not (is_none o))) 1 0 ≡ cond (a && b) 1 0 + counted (λ f. cond (same_sub sub f.sub) 1 0) o
fed_by sub s true None h true e = omega arith
fed_by sub s true None h false e = omega arith
fed_by sub s false None h b e = omega arith
fed_by sub s a (Some f) h true e = let k : true ≡ false = sym e ∙ (h f refl).0 in absurd (cc)
fed_by sub s true (Some f) h false e = let k : ◌≡◌ {A = ℕ} (cond (same_sub sub f.sub) 1 0) 1 = ap {B = ℕ} (λ (t : Bool). cond t 1 0) (h f refl).1 in omega arith
fed_by sub s false (Some f) h false e = let k : ◌≡◌ {A = ℕ} (cond (same_sub sub f.sub) 1 0) 0 = ap {B = ℕ} (λ (t : Bool). cond t 1 0) (h f refl).1 in omega arith

given_fed : (w : World) (presented : List Sub) (s : Submission) (f : Fed) → feedback_of w presented s ≡ Some f → (s.fed ≡ false) × (f.sub ≡ sub_of s)
given_fed w presented s f h = by s.fed (has_sub presented (sub_of s)) (is_ended s && not (is_in_flight w.in_flight (sub_of s))) h
  where
    by : (a b c : Bool) → ◌≡◌ {A = Option Fed} (cond a None (cond b (Some (record { sub = sub_of s; presented = true })) (cond c (Some (record { sub = sub_of s; presented = false })) None))) (Some f)
        → (a ≡ false) × (f.sub ≡ sub_of s)
    by true b c e = absurd (cc)
    by false true c e = (refl, cc)
    by false false true e = (refl, cc)
    by false false false e = absurd (cc)

first_fed : (sub : Sub) (o : Option Fed) (ys : List Fed) → count_by (λ f. same_sub sub f.sub) (cons_option o ys) ≡ counted (λ f. cond (same_sub sub f.sub) 1 0) o + count_by (λ f. same_sub sub f.sub) ys
first_fed sub None ys = omega arith
first_fed sub (Some f) ys = count_cons (λ x. same_sub sub x.sub) f ys

feed_list : (w : World) (presented : List Sub) (sub : Sub) (ss : List Submission)
    → count_by (has_fed sub) (map (mark_fed w presented) ss) ≡ count_by (has_fed sub) ss + count_by (λ f. same_sub sub f.sub) (filter_map (feedback_of w presented) ss)
feed_list w presented sub [] = omega arith
feed_list w presented sub (s ∷ ss) =
    let here = fed_by sub s (is_named sub s) (feedback_of w presented s) (λ f e. let g = given_fed w presented s f e in (g.0, ap (same_sub sub) g.1)) s.fed refl in
    omega (
      arith,
      count_cons (has_fed sub) (mark_fed w presented s) (map (mark_fed w presented) ss),
      count_cons (has_fed sub) s ss,
      here,
      first_fed sub (feedback_of w presented s) (filter_map (feedback_of w presented) ss),
      feed_list w presented sub ss,
    )

-- Names

-- no two submissions have one name, and no ordinal is greater than the number of its client's submissions
record HasNames (subs : List Submission) : Type 0 where
  one : (sub : Sub) → count_by (is_named sub) subs ≤ 1
  ordered : (sub : Sub) → count_by (is_by sub.client) subs < sub.ordinal → count_by (is_named sub) subs ≡ 0

names_kept : (xs ys : List Submission) → frames_of xs ≡ frames_of ys → HasNames ys → HasNames xs
names_kept xs ys e h =
    record {
      one = λ sub. omega (arith, h.one sub, count_kept (λ i. same_sub sub i.sub) xs ys e);
      ordered = λ sub less.
          let by = count_kept (λ i. i.sub.client == sub.client) xs ys e in
          omega (arith, h.ordered sub (omega (arith, less, by)), count_kept (λ i. same_sub sub i.sub) xs ys e);
    }

module _ (subs : List Submission) (new : Submission) (is : new.submitted.sub.ordinal ≡ count_by (is_by new.submitted.sub.client) subs + 1) (h : HasNames subs) where
  one_more : (sub : Sub) (t : Bool) → is_named sub new ≡ t → count_by (is_named sub) subs + cond t 1 0 ≤ 1
  one_more sub true e =
      let both = and_parts (sub.client == new.submitted.sub.client) (sub.ordinal == new.submitted.sub.ordinal) e in
      let client = ap (λ c. count_by (is_by c) subs) (eqb-true sub.client new.submitted.sub.client both.0) in
      let ordinal = eqb-true sub.ordinal new.submitted.sub.ordinal both.1 in
      omega (arith, h.ordered sub (omega (arith, client, ordinal, is)))
  one_more sub false e = omega (arith, h.one sub)

  ordered_more : (sub : Sub) (t : Bool) → is_named sub new ≡ t → count_by (is_by sub.client) subs + cond (is_by sub.client new) 1 0 < sub.ordinal → count_by (is_named sub) subs + cond t 1 0 ≡ 0
  ordered_more sub true e less =
      let both = and_parts (sub.client == new.submitted.sub.client) (sub.ordinal == new.submitted.sub.ordinal) e in
      let same = eqb-true sub.client new.submitted.sub.client both.0 in
      let client = ap (λ c. count_by (is_by c) subs) same in
      let ordinal = eqb-true sub.ordinal new.submitted.sub.ordinal both.1 in
      let own : ◌≡◌ {A = ℕ} (cond (is_by sub.client new) 1 0) 1 = ap {B = ℕ} (λ (b : Bool). cond b 1 0) (eq-eqb new.submitted.sub.client sub.client (sym same)) in
      absurd (omega (arith, less, own, client, ordinal, is))
  ordered_more sub false e less = let plain = h.ordered sub (omega (arith, less)) in omega (arith, plain)

  names_more : HasNames (subs ++ new ∷ [])
  names_more =
      record {
        one = λ sub. omega (arith, count_push (is_named sub) subs new, one_more sub (is_named sub new) refl);
        ordered = λ sub less.
            omega (arith, count_push (is_named sub) subs new, ordered_more sub (is_named sub new) refl (omega (arith, less, count_push (is_by sub.client) subs new)));
      }

-- One answer

-- what an answer keeps of the submissions
record KeepsTold (xs ys : List Submission) : Type 0 where
  fed : (sub : Sub) → count_by (has_fed sub) ys ≡ count_by (has_fed sub) xs
  acted : (sub : Sub) → count_by (has_acted sub) ys ≡ count_by (has_acted sub) xs
  fresh : list_all is_fresh xs ≡ true → list_all is_fresh ys ≡ true
  names : HasNames xs → HasNames ys

abbrev Keeps : World → Answer → Type 0
Keeps w a = KeepsTold w.subs a.world.subs

told_same : (xs : List Submission) → KeepsTold xs xs
told_same xs = record { fed = λ sub. refl; acted = λ sub. refl; fresh = λ h. h; names = λ h. h }

accepted_told : (w : World) (c : Client) (local : LocalSurfaceId) (frame : CompositorFrame) → Keeps w (accepted w c local frame)
unfolding accepted new_submission
accepted_told w c local frame =
    let replace : Submission → Submission = replace_on (id_of c local) in
    let new : Submission = new_submission w c local frame in
    let drops : Submission → Bool = λ s. is_waiting s && is_on (id_of c local) s in
    let replaced : List Submission = map replace w.subs in
    let active : frames_of replaced ≡ frames_of w.subs = frames_kept replace w.subs (λ s. (dropped_rest (drops s) s).0) in
    record {
      fed = λ sub. omega (arith, count_push (has_fed sub) replaced new, ap {B = ℕ} (λ (b : Bool). cond b 1 0) (and_false (is_named sub new)), count_map replace (has_fed sub) w.subs (λ s. (steady_fed sub).dropped (drops s) s));
      acted = λ sub. omega (
        arith,
        count_push (has_acted sub) replaced new,
        ap {B = ℕ} (λ (b : Bool). cond b 1 0) (and_false (is_named sub new)),
        count_map replace (has_acted sub) w.subs (λ s.
            let r = dropped_rest (drops s) s in ap (λ i. same_sub sub i.sub && (replace s).was_active) r.0 ∙ ap (λ b. is_named sub s && b) r.2),
      );
      fresh = λ h. list_all-append is_fresh replaced (new ∷ []) ∙ and_from (list_all is_fresh replaced) true (all_map replace is_fresh w.subs (λ s. fresh_dropped (drops s) s) h) refl;
      names = λ h. names_more replaced new (ap (λ n. n + 1) (sym (count_kept (λ i. i.sub.client == c.number) replaced w.subs active))) (names_kept replaced w.subs active h);
    }

client_told : (p : Plan) (w : World) (n : ℕ) → Keeps w (client_answer p w n)
client_told p w n =
    let same : KeepsTold w.subs w.subs = told_same w.subs in
    few_cases p w n (Keeps w) (record { others = λ r a b clients root relations. same; submitted = λ c e number local frame good at. accepted_told w c local frame; left = λ c clients. same })

display_told : (p : Plan) (w : World) → DisplayCases p w (λ e a. Keeps w a)
unfolding begin_answer
display_told p w =
    let same : KeepsTold w.subs w.subs = told_same w.subs in
    record { begins = same; draws = λ r quiet last in_flight. same; dones = λ r quiet in_flight. same; overs = same }

answer_told : (p : Plan) (w : World) (e : Event) → Keeps w (answer_to p w e)
answer_told p w e = answer_cases p w (λ d a. Keeps w a) (client_told p w) (display_told p w) e

-- What follows an answer

outcome_fed : (presented : List Sub) (a : Answer) (sub : Sub)
    → count_by (has_fed sub) (outcome_of presented a).world.subs ≡ count_by (has_fed sub) a.world.subs + count_by (λ f. same_sub sub f.sub) (outcome_of presented a).effects.fed
unfolding outcome_of feed fed_in give_back
outcome_fed presented a sub =
    let W : World = collect (settle a.world) in
    omega (arith, feed_list (give_back W) presented sub W.subs, follow_count (has_fed sub) (steady_fed sub) a.world)

outcome_acts : (presented : List Sub) (a : Answer) (sub : Sub) → list_all is_fresh a.world.subs ≡ true
    → count_by (has_acted sub) (outcome_of presented a).world.subs ≡ count_by (has_acted sub) a.world.subs + count_by (same_sub sub) (outcome_of presented a).effects.activated
unfolding outcome_of feed give_back
outcome_acts presented a sub h =
    let W : World = collect (settle a.world) in
    omega (arith, count_map (mark_fed (give_back W) presented) (has_acted sub) W.subs (λ s. refl), collect_acts (settle a.world) sub, settle_acts a.world sub h)

outcome_fresh : (presented : List Sub) (a : Answer) → list_all is_fresh a.world.subs ≡ true → list_all is_fresh (outcome_of presented a).world.subs ≡ true
unfolding outcome_of feed give_back
outcome_fresh presented a h =
    let W : World = collect (settle a.world) in
    all_map (mark_fed (give_back W) presented) is_fresh W.subs (λ s k. k) (follow_fresh a.world h)

-- Along a history

record Told (w : World) (h : List Entry) : Type 0 where
  fed : (sub : Sub) → feedback_over h sub ≡ count_by (has_fed sub) w.subs
  acted : (sub : Sub) → activations_over h sub ≡ count_by (has_acted sub) w.subs
  fresh : list_all is_fresh w.subs ≡ true
  names : HasNames w.subs

feedback_more : (h : List Entry) (e : Entry) (sub : Sub) → feedback_over (h ++ e ∷ []) sub ≡ feedback_over h sub + count_by (λ f. same_sub sub f.sub) e.effects.fed
unfolding feedback_over
feedback_more h e sub = sum_by_push (λ x. count_by (λ f. same_sub sub f.sub) x.effects.fed) h e

pub activations_more : (h : List Entry) (e : Entry) (sub : Sub) → activations_over (h ++ e ∷ []) sub ≡ activations_over h sub + count_by (same_sub sub) e.effects.activated
unfolding activations_over
activations_more h e sub = sum_by_push (λ x. count_by (same_sub sub) x.effects.activated) h e

steps_told : (p : Plan) → Steps p Told
unfolding step_in entry_in
steps_told p w h e i names is =
    let presented : List Sub = presented_by w e.event in
    let a : Answer = answer_to p w e.event in
    let k = answer_told p w e.event in
    record {
      fed = λ sub. omega (arith, feedback_more h e sub, ap (λ (x : Entry). count_by (λ f. same_sub sub f.sub) x.effects.fed) is, i.fed sub, outcome_fed presented a sub, k.fed sub);
      acted = λ sub. omega (arith, activations_more h e sub, ap (λ (x : Entry). count_by (same_sub sub) x.effects.activated) is, i.acted sub, outcome_acts presented a sub (k.fresh i.fresh), k.acted sub);
      fresh = outcome_fresh presented a (k.fresh i.fresh);
      names = names_kept (outcome_of presented a).world.subs a.world.subs (outcome_frames presented a) (k.names i.names);
    }

opening_told : (p : Plan) → Told (opening p) []
unfolding opening feedback_over activations_over
opening_told p =
    record { fed = λ sub. refl; acted = λ sub. refl; fresh = refl; names = record { one = λ sub. omega arith; ordered = λ sub less. refl } }

-- with a for the name of the first and b for the mark
none_first : (a b : Bool) (n m : ℕ) → cond a 1 0 + n ≡ 0 → (n ≡ 0 → m ≡ 0) → cond (a && b) 1 0 + m ≡ 0
none_first true b n m h k = absurd (omega arith)
none_first false b n m h k = let rest : m ≡ 0 = k (omega arith) in omega arith

count_both : {A : Type 0} (t u : A → Bool) (xs : List A) → count_by t xs ≡ 0 → count_by (λ x. t x && u x) xs ≡ 0
count_both t u [] h = refl
count_both t u (x ∷ xs) h =
    count_cons (λ y. t y && u y) x xs ∙ none_first (t x) (u x) (count_by t xs) (count_by (λ y. t y && u y) xs) (sym (count_cons t x xs) ∙ h) (count_both t u xs)

first_only : (a b : Bool) (n m : ℕ) → a ≡ true → cond a 1 0 + n ≤ 1 → (n ≡ 0 → m ≡ 0) → cond (a && b) 1 0 + m ≡ cond b 1 0
first_only true b n m e h k = let rest : m ≡ 0 = k (omega arith) in omega arith
first_only false b n m e h k = absurd (cc)

later_only : (a b c : Bool) (n m : ℕ) → 1 ≤ n → cond a 1 0 + n ≤ 1 → m ≡ cond c 1 0 → cond (a && b) 1 0 + m ≡ cond c 1 0
later_only true b c n m l h k = absurd (omega arith)
later_only false b c n m l h k = omega (arith, k)

count_some : {A : Type 0} (t : A → Bool) (xs : List A) (n : ℕ) (x : A) → slice_get xs n ≡ Some x → t x ≡ true → 1 ≤ count_by t xs
count_some t [] n x h e = absurd (cc)
count_some t (y ∷ ys) zero x h e =
    let s : y ≡ x = cc in
    let k : ◌≡◌ {A = ℕ} (cond (t y) 1 0) 1 = ap {B = ℕ} (λ (b : Bool). cond b 1 0) (ap t s ∙ e) in
    omega (arith, count_cons t y ys, k)
count_some t (y ∷ ys) (suc n) x h e = omega (arith, count_cons t y ys, count_some t ys n x h e)

-- where at most one passes a test, those that pass another one too are counted by that one
one_passes : {A : Type 0} (t u : A → Bool) (xs : List A) (n : ℕ) (x : A) → slice_get xs n ≡ Some x → t x ≡ true → count_by t xs ≤ 1 → count_by (λ y. t y && u y) xs ≡ cond (u x) 1 0
one_passes t u [] n x h e few = absurd (cc)
one_passes t u (y ∷ ys) zero x h e few =
    let s : y ≡ x = cc in
    count_cons (λ z. t z && u z) y ys
    ∙ (first_only (t y) (u y) (count_by t ys) (count_by (λ z. t z && u z) ys) (ap t s ∙ e) (omega (arith, few, count_cons t y ys)) (count_both t u ys)
    ∙ ap (λ z. cond (u z) 1 0) s)
one_passes t u (y ∷ ys) (suc n) x h e few =
    let less : cond (t y) 1 0 + count_by t ys ≤ 1 = omega (arith, few, count_cons t y ys) in
    count_cons (λ z. t z && u z) y ys
    ∙ later_only (t y) (u y) (u x) (count_by t ys) (count_by (λ z. t z && u z) ys) (count_some t ys n x h e) less
    (one_passes t u ys n x h e (omega (arith, less)))

own_name : (s : Submission) → is_named (sub_of s) s ≡ true
own_name s =
    let sub = sub_of s in
    and_from (sub.client == sub.client) (sub.ordinal == sub.ordinal) (eq-eqb sub.client sub.client refl) (eq-eqb sub.ordinal sub.ordinal refl)

none_named : (sub : Sub) (ss : List Submission) → has_sub (map sub_of ss) sub ≡ false → count_by (is_named sub) ss ≡ 0
none_named sub [] h = refl
none_named sub (s ∷ ss) h =
    count_cons (is_named sub) s ss
    ∙ elim (is_named sub s) as (λ (b : Bool). (b || has_sub (map sub_of ss) sub) ≡ false → cond b 1 0 + count_by (is_named sub) ss ≡ 0) [
      | true ↦ λ k. absurd (cc)
      | false ↦ λ k. omega (arith, none_named sub ss k)
    ] h

-- The rest

count_filtered : {A B : Type 0} (g : A → B) (t : B → Bool) (u : A → Bool) (xs : List A) → count_by t (map g (filter u xs)) ≡ count_by (λ x. u x && t (g x)) xs
count_filtered g t u [] = refl
count_filtered g t u (x ∷ xs) =
    elim (u x) as (λ (b : Bool). count_by t (map g (cond b (x ∷ filter u xs) (filter u xs))) ≡ cond (b && t (g x)) 1 0 + count_by (λ y. u y && t (g y)) xs) [
      | true ↦ count_cons t (g x) (map g (filter u xs)) ∙ ap (λ n. cond (t (g x)) 1 0 + n) (count_filtered g t u xs)
      | false ↦ count_filtered g t u xs ∙ none_plus (count_by (λ y. u y && t (g y)) xs)
    ]
    ∙ sym (count_cons (λ y. u y && t (g y)) x xs)

count_alike : {A : Type 0} (t u : A → Bool) (xs : List A) → ((x : A) → t x ≡ u x) → count_by t xs ≡ count_by u xs
count_alike t u xs same = sum_same (λ x. cond (t x) 1 0) (λ x. cond (u x) 1 0) xs (λ x. ap {B = ℕ} (λ (b : Bool). cond b 1 0) (same x))

-- with a for the client, b for what had feedback, and c and d for the name
regroup : (a b c d : Bool) → (c ≡ true → a ≡ true) → ((a && not b) && (c && d)) ≡ ((c && d) && not b)
regroup true true true true h = refl
regroup true true true false h = refl
regroup true true false d h = refl
regroup true false true true h = refl
regroup true false true false h = refl
regroup true false false d h = refl
regroup false b true d h = let e : false ≡ true = h refl in absurd (cc)
regroup false b false d h = refl

never_both : (a b c d : Bool) → (a ≡ true → c ≡ false) → ((a && not b) && (c && d)) ≡ false
never_both true true c d h = refl
never_both true false c d h = ap (λ x. x && d) (h refl)
never_both false b c d h = refl

-- without feedback and of this name, among those of one client
abbrev unfed_named : World → Sub → Client → ℕ
unfed_named w sub x = count_by (same_sub sub) (unfed_of w x)

unfed_own : (w : World) (sub : Sub) (x : Client) → x.number ≡ sub.client → unfed_named w sub x ≡ count_by (λ s. is_named sub s && not s.fed) w.subs
unfed_own w sub x e =
    count_filtered sub_of (same_sub sub) (λ s. (s.submitted.sub.client == x.number) && not s.fed) w.subs
    ∙ count_alike (λ s. ((s.submitted.sub.client == x.number) && not s.fed) && is_named sub s) (λ s. is_named sub s && not s.fed) w.subs (λ s.
    regroup (s.submitted.sub.client == x.number) s.fed (sub.client == s.submitted.sub.client) (sub.ordinal == s.submitted.sub.ordinal) (λ t.
    eq-eqb s.submitted.sub.client x.number (sym (eqb-true sub.client s.submitted.sub.client t) ∙ sym e)))

unfed_other : (w : World) (sub : Sub) (x : Client) → (x.number == sub.client) ≡ false → unfed_named w sub x ≡ 0
unfed_other w sub x e =
    count_filtered sub_of (same_sub sub) (λ s. (s.submitted.sub.client == x.number) && not s.fed) w.subs
    ∙ count_none (λ s. ((s.submitted.sub.client == x.number) && not s.fed) && is_named sub s) w.subs (λ s c.
    never_both (s.submitted.sub.client == x.number) s.fed (sub.client == s.submitted.sub.client) (sub.ordinal == s.submitted.sub.ordinal) (λ t.
    ne_eqb sub.client s.submitted.sub.client (λ k. eqb-false x.number sub.client e (sym (eqb-true s.submitted.sub.client x.number t) ∙ sym k))))

-- of each name as many stand in the rest as had no feedback
rest_named : (w : World) (sub : Sub) (x : Client) → Rising number_of w.clients → client_at w sub.client ≡ Some x
    → count_by (same_sub sub) (rest_in w).unfed ≡ count_by (λ s. is_named sub s && not s.fed) w.subs
unfolding rest_in
rest_named w sub x up found =
    sum_flat (λ s. cond (same_sub sub s) 1 0) (unfed_of w) w.clients
    ∙ (sum_one number_of sub.client (unfed_named w sub) w.clients (λ y e. unfed_other w sub y e) up
    ∙ (ap (counted (unfed_named w sub)) found ∙ unfed_own w sub x (number_at w sub.client x found)))

one_either : (b : Bool) → ◌≡◌ {A = ℕ} (cond b 1 0 + cond (not b) 1 0) 1
one_either true = refl
one_either false = refl

-- the client of a submission is one of the plan
client_named : (p : Plan) (h : List Entry) (n : ℕ) (i : FrameData) → Legal p h → IsAcceptance p h n i → NamesClient p (event.Client i.sub.client)
client_named p h n i l a = subst (NamesClient p) a.mine (legal-at p a.before a.behind a.entry (subst (Legal p) a.stands l)).0

module _ (p : Plan) (h : List Entry) (l : Legal p h) (n : ℕ) (s : Submission) (at : slice_get (world p h).subs n ≡ Some s) (told : Told (world p h) h) where
  abbrev w : World
  w = world p h

  fed_is : feedback_over h (sub_of s) ≡ cond s.fed 1 0
  fed_is = told.fed (sub_of s) ∙ one_passes (is_named (sub_of s)) (λ x. x.fed) w.subs n s at (own_name s) (told.names.one (sub_of s))

  rest_is : count_by (same_sub (sub_of s)) (rest_of p h).unfed ≡ cond (not s.fed) 1 0
  unfolding rest_of
  rest_is =
      let numbers = numbers_are p h l in
      let there = client_there p w s.submitted.sub.client numbers (client_named p h n s.submitted l (acceptances_are p h n s l at)) in
      rest_named w (sub_of s) there.0 (numbers_rise p w numbers) there.1
      ∙ one_passes (is_named (sub_of s)) (λ x. not x.fed) w.subs n s at (own_name s) (told.names.one (sub_of s))

  either_is : feedback_over h (sub_of s) + count_by (same_sub (sub_of s)) (rest_of p h).unfed ≡ 1
  either_is = let e = one_either s.fed in omega (arith, fed_is, rest_is, e)

-- what a legal history told of its submissions
pub told_once : (p : Plan) (h : List Entry) → Legal p h → TellsEachOnce p h
told_once p h l =
    let told : Told (world p h) h = along p Told (steps_told p) (opening_told p) h l in
    let subs : List Submission = (world p h).subs in
    record {
      fed = λ n s at. fed_is p h l n s at told;
      rest = λ n s at. either_is p h l n s at told;
      activated = λ n s at. told.acted (sub_of s) ∙ one_passes (is_named (sub_of s)) (λ x. x.was_active) subs n s at (own_name s) (told.names.one (sub_of s));
      none_fed = λ sub none. told.fed sub ∙ count_both (is_named sub) (λ x. x.fed) subs (none_named sub subs none);
      none_activated = λ sub none. told.acted sub ∙ count_both (is_named sub) (λ x. x.was_active) subs (none_named sub subs none);
    }
