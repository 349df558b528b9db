-- Rounds, one after another until nothing is ready.
use Rattle.std.proofs.Common.{◌≡◌, ℕ, zero, suc, ◌+◌, ◌≤◌, Bool, true, false, not, ◌&&◌, List, [], ◌∷◌, ◌++◌, length, map, filter, drop}
use Rattle.std.proofs.Common.{refl, ap, sym, ◌∙◌, arith, cond, count_by, append-nil}
use Rattle.std.specs.List.{list_any}
use Rattle.vz_rules.specs.World.{World, Surface, Submission, is_waiting, is_active, is_on, sub_of}
use Rattle.vz_rules.specs.Settle.{is_ready, ready, after_round, marked_by, round, rounds, activated_over, settle, activated_in}
use Rattle.vz_rules.specs.declared.entry.State.TheVariants.{Active, Past}
use Rattle.vz_rules.proofs.{Counts.count_same, Settled.round_stays, Settled.rounds_stay, Activated.none_ready_after, Kept_singly.active_waits_not}
use Rattle.vz_surfaces.specs.{Stored.Stored, Stored.stored_of, Reading.existing_count}
use Rattle.vz_surfaces.proofs.Telling.{tells_count}
use Rattle.vz_rules.proofs.Kept_follows.{ready_waits}
pub use Rattle.vz_deps.proofs.Keeping.{joined_length as both_long}
use Rattle.std.proofs.{lemmas.Bool.Decides.nat_tests, lemmas.Grind.common_steps}

-- One round more

pub round_after : (n : ℕ) (w : World) → rounds (suc n) w ≡ round (rounds n w)
unfolding rounds
round_after zero w = refl
round_after (suc n) w = round_after n (round w)

pub activated_after : (n : ℕ) (w : World) → activated_over (suc n) w ≡ activated_over n w ++ map sub_of (ready (rounds n w))
unfolding rounds activated_over
activated_after zero w = append-nil (map sub_of (ready w))
activated_after (suc n) w = grind (arith, nat_tests, common_steps, activated_after n (round w))

-- Rounds until nothing is ready lead to one state

none_over : (n : ℕ) (w : World) → ready w ≡ [] → activated_over n w ≡ []
unfolding activated_over
none_over zero w e = refl
none_over (suc n) w e = ap (λ l. map sub_of l ++ activated_over n (round w)) e ∙ (ap (activated_over n) (round_stays w e) ∙ none_over n w e)

one_end : (n m : ℕ) (w : World) → ready (rounds n w) ≡ [] → ready (rounds m w) ≡ [] → rounds n w ≡ rounds m w
unfolding rounds
one_end zero m w e f = sym (rounds_stay m w e)
one_end (suc n) zero w e f = rounds_stay (suc n) w f
one_end (suc n) (suc m) w e f = one_end n m (round w) e f

one_list : (n m : ℕ) (w : World) → ready (rounds n w) ≡ [] → ready (rounds m w) ≡ [] → activated_over n w ≡ activated_over m w
unfolding rounds activated_over
one_list zero m w e f = sym (none_over m w e)
one_list (suc n) zero w e f = none_over (suc n) w f
one_list (suc n) (suc m) w e f = ap (λ l. map sub_of (ready w) ++ l) (one_list n m (round w) e f)

pub settled : (n : ℕ) (w : World) → ready (rounds n w) ≡ [] → rounds n w ≡ settle w
unfolding settle
settled n w e = one_end n (length w.subs) w e (none_ready_after w)

pub all_activated : (n : ℕ) (w : World) → ready (rounds n w) ≡ [] → activated_over n w ≡ activated_in w
unfolding activated_in settle
all_activated n w e = one_list n (length w.subs) w e (none_ready_after w)

-- How many wait

abbrev pub waiting : World → ℕ
waiting w = length (filter is_waiting w.subs)

one_step : (f t w : Bool) (s : Submission) (xs ys zs : List Submission) → is_waiting s ≡ w → (f ≡ true → w ≡ true) → (t ≡ true → w ≡ false)
    → length xs + length ys ≡ length zs
    → length (cond (is_waiting (cond f (record s { state = Active; was_active = true }) (cond t (record s { state = Past }) s)))
    (cond f (record s { state = Active; was_active = true }) (cond t (record s { state = Past }) s) ∷ xs) xs) + length
    (cond f (s ∷ ys) ys) ≡ length (cond w (s ∷ zs) zs)
one_step f t w s xs ys zs e p q h = grind (arith, nat_tests)

first_of : (a b : Bool) → (a && b) ≡ true → a ≡ true
first_of a b h = grind (arith, nat_tests)

list_step : (f : Submission → Bool) (activated : List Submission) → ((s : Submission) → f s ≡ true → is_waiting s ≡ true)
    → (ss : List Submission)
    → length (filter is_waiting (map (after_round f activated) ss)) + length (filter f ss) ≡ length (filter is_waiting ss)
list_step f activated waits [] = omega arith
list_step f activated waits (s ∷ ss) = grind (arith, nat_tests, one_step (f s), active_waits_not s, first_of (is_active s) (list_any (is_on s.submitted.id) activated), list_step f activated waits ss)

-- each one that becomes active waits no longer
pub fewer_wait : (w : World) → waiting (round w) + length (ready w) ≡ waiting w
unfolding round ready
fewer_wait w = list_step (is_ready w) (filter (is_ready w) w.subs) (ready_waits w) w.subs

-- those that are ready, and the others
both_parts : (w : World) (ss : List Submission) → length (filter (is_ready w) ss) + length
    (filter (λ s. is_waiting s && not (is_ready w s)) ss) ≡ length (filter is_waiting ss)
both_parts w [] = refl
both_parts w (s ∷ ss) = grind (arith, nat_tests, ready_waits w s, both_parts w ss)

pub ready_or_not : (w : World) → length (ready w) + length (filter (λ s. is_waiting s && not (is_ready w s)) w.subs) ≡ waiting w
unfolding ready
ready_or_not w = both_parts w w.subs

-- As many surfaces exist

stands_on : (t : Bool) (c : Surface) → not (cond t (record c { marked = true }) c).destroyed ≡ not c.destroyed
stands_on t c = grind (arith, nat_tests)

abbrev existing : World → ℕ
existing w = count_by (λ (c : Surface). not c.destroyed) w.surfaces

round_keeps : (w : World) → existing (round w) ≡ existing w
unfolding round
round_keeps w = grind (arith, nat_tests, count_same (marked_by w.surfaces (ready w)), stands_on)

rounds_keep : (n : ℕ) (w : World) → existing (rounds n w) ≡ existing w
unfolding rounds
rounds_keep zero w = refl
rounds_keep (suc n) w = rounds_keep n (round w) ∙ round_keeps w

-- none comes and none goes by settling
pub settle_keeps : (w : World) (old new : Stored) → old ≡ stored_of w → new ≡ stored_of (settle w) → existing_count new ≡ existing_count old
unfolding settle
settle_keeps w old new e f = grind (arith, nat_tests, tells_count (settle w), rounds_keep (length w.subs) w, tells_count w)

-- Lists that grow

dropped : {A : Type 0} (xs ys : List A) → drop (length xs) (xs ++ ys) ≡ ys
dropped [] ys = refl
dropped (x ∷ xs) ys = dropped xs ys

-- what was put behind a place
pub behind : {A : Type 0} (list before more : List A) (from : ℕ) → list ≡ before ++ more → from ≡ length before → drop from list ≡ more
behind list before more from e f = ap (λ n. drop n list) f ∙ (ap (drop (length before)) e ∙ dropped before more)

pub none_long : {A : Type 0} (xs : List A) → length xs ≤ 0 → xs ≡ []
none_long [] h = refl
none_long (x ∷ xs) h = absurd (omega (arith, h))
