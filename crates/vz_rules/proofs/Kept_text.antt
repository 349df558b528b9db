-- A legal history and its rest can be spelled: every number is one of the text.
use Rattle.std.proofs.Common.{◌≡◌, ℕ, zero, suc, ◌-◌, ◌≤◌, Bool, true, false, not, ◌&&◌, ◌==◌, Option, Some, None, List, [], ◌∷◌, ◌++◌, map, filter, filter_map, flat_map, length, refl, ap, sym, ◌∙◌, arith, cond}
use Rattle.std.specs.Prelude.{nat_lt, nat_le}
use Rattle.std.specs.List.{list_all}
use Rattle.std.proofs.lemmas.Bool.{and_parts, and_from, le-leb, lt-ltb, ltb-true}
use Rattle.vz_ids.specs.declared.Sub.{Sub}
use Rattle.vz_rules.specs.declared.entry.Event.{Event}
use Rattle.vz_rules.specs.declared.entry.Fed.{Fed}
use Rattle.vz_rules.specs.Plan.{Plan, IsPlan}
use Rattle.vz_rules.specs.World.{World, Client, Surface, Submission, is_in_flight, is_ended, has_sub, sub_of}
use Rattle.vz_rules.specs.Settle.{ready, is_ready, round, activated_over, activated_in, settle}
use Rattle.vz_rules.specs.Reach.{naming, reach, is_lost, lost_in, lost_of, destroyed_in, collect}
use Rattle.vz_rules.specs.Returns.{is_held, goes_back, return_of, returns_of, give_back, returned_in, feedback_of, fed_in}
use Rattle.vz_rules.specs.Step.{answer_to, presented_by, outcome_of}
use Rattle.vz_rules.specs.Log.{is_log_client, is_count, has_text_sub, has_text_lost, has_text_return, has_text_effects, held_resource, unfed_of, rest_in}
use Rattle.vz_rules.specs.Kept.{KeepsAlways, KeepsPlan, HasSmallClient, IsSmallSubmission}
use Rattle.vz_rules.proofs.Members.{contains_map, all_from, filter_at, filter_map_at, flat_map_at}
use Rattle.vz_rules.proofs.Kept_follows.{always_round, always_settle, always_naming}
use Rattle.vz_rules.proofs.Kept_clears.{always_collect, always_given}
use Rattle.vz_rules.proofs.Kept_plan.{plan_naming, plan_round, plan_settle, plan_collect, plan_given}
use Rattle.vz_rules.proofs.Kept_small.{small_client, small_surface, small_submission, small_resource}
use Rattle.std.proofs.lemmas.Option.{cond_some}

-- Numbers

client_text : (c : ℕ) → HasSmallClient c → is_log_client c ≡ true
client_text c h = and_from (nat_lt 0 c) (nat_le c 16) (lt-ltb 0 c (omega (arith, h.0))) (le-leb c 16 h.1)

pub count_text : (n : ℕ) → 1 ≤ n → n ≤ 4294967295 → is_count n ≡ true
count_text n l m = and_from (nat_lt 0 n) (nat_le n 4294967295) (lt-ltb 0 n (omega (arith, l))) (le-leb n 4294967295 m)

sub_text : (s : Submission) → IsSmallSubmission s → has_text_sub (sub_of s) ≡ true
sub_text s h =
    and_from (is_log_client s.submitted.sub.client) (is_count s.submitted.sub.ordinal) (client_text s.submitted.sub.client h.client)
    (count_text s.submitted.sub.ordinal h.ordinal.0 (omega (arith, h.ordinal.1)))

pub return_text : (c id n : ℕ) → HasSmallClient c → 1 ≤ id → id ≤ 4294967295 → 1 ≤ n → n ≤ 4096
    → has_text_return (record { client = c; id = id; count = n }) ≡ true
return_text c id n h p q r s =
    and_from (is_log_client c && is_count id) (is_count n) (and_from (is_log_client c) (is_count id) (client_text c h) (count_text id p q)) (count_text n r (omega (arith, s)))

all_append : {A : Type 0} (p : A → Bool) (xs ys : List A) → list_all p xs ≡ true → list_all p ys ≡ true → list_all p (xs ++ ys) ≡ true
all_append p [] ys h k = k
all_append p (x ∷ xs) ys h k =
    let both = and_parts (p x) (list_all p xs) h in
    and_from (p x) (list_all p (xs ++ ys)) both.0 (all_append p xs ys both.1 k)

-- Effects

activated_text : (p : Plan) (n : ℕ) (w : World) → IsPlan p → KeepsAlways w → KeepsPlan p w → list_all has_text_sub (activated_over n w) ≡ true
unfolding activated_over ready
activated_text p zero w is a h = refl
activated_text p (suc n) w is a h =
    all_append has_text_sub (map sub_of (filter (is_ready w) w.subs)) (activated_over n (round w))
    (all_from has_text_sub (map sub_of (filter (is_ready w) w.subs)) (λ sub c.
    let m = contains_map sub_of (filter (is_ready w) w.subs) sub c in
    let f = filter_at (is_ready w) w.subs m.0 m.1 in
    ap has_text_sub (sym m.2) ∙ sub_text m.0 (small_submission p w is a h m.0 f.0)))
    (activated_text p n (round w) is (always_round w a) (plan_round p w h))

destroyed_text : (p : Plan) (w : World) → IsPlan p → KeepsAlways w → KeepsPlan p w → list_all has_text_lost (destroyed_in w) ≡ true
unfolding destroyed_in lost_in
destroyed_text p w is a h =
    let v = naming w in
    let lost = filter (is_lost (reach v)) v.surfaces in
    all_from has_text_lost (flat_map (lost_of lost) w.clients) (λ l c.
    let x = flat_map_at (lost_of lost) w.clients l c in
    let m = filter_map_at (λ (s : Surface). cond (s.client == x.0.number) (Some (record { client = s.client; surface = s.number })) None) lost l x.2 in
    let f = filter_at (is_lost (reach v)) v.surfaces m.0 m.1 in
    let small = small_surface p v is (always_naming w a) (plan_naming p w h) m.0 f.0 in
    ap has_text_lost (sym ((cond_some (m.0.client == x.0.number) (record { client = m.0.client; surface = m.0.number }) l m.2).1))
    ∙ and_from (is_log_client m.0.client) (is_count m.0.number) (client_text m.0.client small.client) (count_text m.0.number small.number.0 (omega (arith, small.number.1))))

returned_text : (p : Plan) (w : World) → IsPlan p → KeepsAlways w → KeepsPlan p w → list_all has_text_return (returned_in w) ≡ true
unfolding returned_in
returned_text p w is a h =
    all_from has_text_return (flat_map (returns_of w) w.clients) (λ r c.
    let x = flat_map_at (returns_of w) w.clients r c in
    let m = filter_map_at (return_of w x.0.number) x.0.resources r x.2 in
    let b = cond_some (goes_back w x.0.number m.0) (record { client = x.0.number; id = m.0.id; count = m.0.lent - m.0.queued }) r m.2 in
    let less = ltb-true m.0.queued m.0.lent (and_parts (nat_lt m.0.queued m.0.lent) (not (is_held w x.0.number m.0.id)) b.0).0 in
    let small = small_resource p w is a h x.0 m.0 x.1 m.1 in
    ap has_text_return (sym b.1)
    ∙ return_text x.0.number m.0.id (m.0.lent - m.0.queued) (small_client p w is a h x.0 x.1).0 small.id.0 small.id.1 (omega (arith, less)) (omega (arith, small.lent)))

fed_by : (fed has ended : Bool) (x y z : Fed) → x.sub ≡ y.sub → ◌≡◌ {A = Option Fed} (cond fed None (cond has (Some x) (cond ended (Some y) None))) (Some z)
    → y.sub ≡ z.sub
fed_by true has ended x y z e h = absurd (cc)
fed_by false true ended x y z e h = let same : x ≡ z = cc in sym e ∙ ap (λ (f : Fed). f.sub) same
fed_by false false true x y z e h = let same : y ≡ z = cc in ap (λ (f : Fed). f.sub) same
fed_by false false false x y z e h = absurd (cc)

fed_text : (p : Plan) (presented : List Sub) (w : World) → IsPlan p → KeepsAlways w → KeepsPlan p w
    → list_all (λ (f : Fed). has_text_sub f.sub) (fed_in presented w) ≡ true
unfolding fed_in
fed_text p presented w is a h =
    all_from (λ (f : Fed). has_text_sub f.sub) (filter_map (feedback_of w presented) w.subs) (λ f c.
    let m = filter_map_at (feedback_of w presented) w.subs f c in
    let s = m.0 in
    let same = fed_by s.fed (has_sub presented (sub_of s)) (is_ended s && not (is_in_flight w.in_flight (sub_of s)))
    (record { sub = sub_of s; presented = true }) (record { sub = sub_of s; presented = false }) f refl m.2 in
    ap has_text_sub (sym same) ∙ sub_text s (small_submission p w is a h s m.1))

-- the effects of a step
pub effects_text : (p : Plan) (w : World) (e : Event) → IsPlan p → KeepsAlways (answer_to p w e).world → KeepsPlan p (answer_to p w e).world
    → has_text_effects (outcome_of (presented_by w e) (answer_to p w e)).effects ≡ true
unfolding outcome_of activated_in
effects_text p w e is a h =
    let v = (answer_to p w e).world in
    let s = settle v in
    let sa = always_settle v a in
    let sh = plan_settle p v h in
    let c = collect s in
    let ca = always_collect s sa in
    let ch = plan_collect p s sh in
    let one = activated_text p (length v.subs) v is a h in
    let two = destroyed_text p s is sa sh in
    let three = returned_text p c is ca ch in
    let four = fed_text p (presented_by w e) (give_back c) is (always_given c ca) (plan_given p c ch) in
    and_from (list_all has_text_sub (activated_over (length v.subs) v) && list_all has_text_lost (destroyed_in s) && list_all has_text_return (returned_in c)) _
    (and_from (list_all has_text_sub (activated_over (length v.subs) v) && list_all has_text_lost (destroyed_in s)) _
    (and_from (list_all has_text_sub (activated_over (length v.subs) v)) _ one two) three) four

-- The rest

-- what is still out
pub rest_text : (p : Plan) (w : World) → IsPlan p → KeepsAlways w → KeepsPlan p w
    → (list_all has_text_return (rest_in w).held ≡ true) × (list_all has_text_sub (rest_in w).unfed ≡ true)
unfolding rest_in
rest_text p w is a h = (
  all_from has_text_return (flat_map (λ (c : Client). filter_map (held_resource c.number) c.resources) w.clients) (λ r c.
      let x = flat_map_at (λ (c : Client). filter_map (held_resource c.number) c.resources) w.clients r c in
      let m = filter_map_at (held_resource x.0.number) x.0.resources r x.2 in
      let b = cond_some (nat_lt m.0.queued m.0.lent) (record { client = x.0.number; id = m.0.id; count = m.0.lent - m.0.queued }) r m.2 in
      let less = ltb-true m.0.queued m.0.lent b.0 in
      let small = small_resource p w is a h x.0 m.0 x.1 m.1 in
      ap has_text_return (sym b.1)
      ∙ return_text x.0.number m.0.id (m.0.lent - m.0.queued) (small_client p w is a h x.0 x.1).0 small.id.0 small.id.1 (omega (arith, less)) (omega (arith, small.lent))),
  all_from has_text_sub (flat_map (unfed_of w) w.clients) (λ sub c.
      let x = flat_map_at (unfed_of w) w.clients sub c in
      let m = contains_map sub_of (filter (λ s. (s.submitted.sub.client == x.0.number) && not s.fed) w.subs) sub x.2 in
      let f = filter_at (λ (s : Submission). (s.submitted.sub.client == x.0.number) && not s.fed) w.subs m.0 m.1 in
      ap has_text_sub (sym m.2) ∙ sub_text m.0 (small_submission p w is a h m.0 f.0)),
)
