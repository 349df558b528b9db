-- What follows an answer leaves the clients but for what is given back, and leaves what submissions were accepted with.
use Rattle.std.proofs.Common.{◌≡◌, ℕ, zero, suc, ◌+◌, Bool, ◌&&◌, ◌||◌, List, [], ◌∷◌, map, refl, ap, sym, ◌∙◌, cond, count_by}
use Rattle.std.specs.List.{list_any}
use Rattle.std.proofs.lemmas.List.Sums.{sum_by-cons}
use Rattle.vz_ids.specs.declared.Sub.{Sub}
use Rattle.vz_rules.specs.World.{World, Surface, FrameData, Submission, is_waiting, is_active, is_on}
use Rattle.vz_rules.specs.Settle.{is_ready, ready, after_round, round, rounds, settle}
use Rattle.vz_rules.specs.Reach.{drop_on, lost_in, naming, clearing, collect}
use Rattle.vz_rules.specs.Returns.{give_back, feed, queue_returns, mark_fed}
use Rattle.vz_rules.specs.Messages.{Answer}
use Rattle.vz_rules.specs.Step.{outcome_of}
use Rattle.vz_rules.proofs.Facts.{same_when, same_either}

-- Clients

rounds_clients : (n : ℕ) (w : World) → (rounds n w).clients ≡ w.clients
unfolding rounds round
rounds_clients zero w = refl
rounds_clients (suc n) w = rounds_clients n (round w)

-- activation and collection leave the clients
pub collected_clients : (w : World) → (collect (settle w)).clients ≡ w.clients
unfolding collect clearing naming settle
collected_clients w = rounds_clients _ w

-- what follows an answer gives references back, and leaves all else of the clients
pub outcome_clients : (presented : List Sub) (a : Answer) → (outcome_of presented a).world.clients ≡ map (queue_returns (collect (settle a.world))) a.world.clients
unfolding outcome_of feed give_back
outcome_clients presented a = ap (map (queue_returns (collect (settle a.world)))) (collected_clients a.world)

-- Submissions

-- what the submissions were accepted with
abbrev pub frames_of : List Submission → List FrameData
frames_of subs = map (λ s. s.submitted) subs

pub frames_kept : (f : Submission → Submission) (subs : List Submission) → ((s : Submission) → (f s).submitted ≡ s.submitted) → frames_of (map f subs) ≡ frames_of subs
frames_kept f [] same = refl
frames_kept f (s ∷ ss) same = ap (λ i. i ∷ frames_of (map f ss)) (same s) ∙ ap (λ l. s.submitted ∷ l) (frames_kept f ss same)

round_frames : (w : World) → frames_of (round w).subs ≡ frames_of w.subs
unfolding round
round_frames w = frames_kept (after_round (is_ready w) (ready w)) w.subs (λ s. same_either (λ (x : Submission). x.submitted) (is_ready w s) (is_active s && list_any (is_on s.submitted.id) (ready w)) _ _ s refl refl)

rounds_frames : (n : ℕ) (w : World) → frames_of (rounds n w).subs ≡ frames_of w.subs
unfolding rounds
rounds_frames zero w = refl
rounds_frames (suc n) w = rounds_frames n (round w) ∙ round_frames w

collect_frames : (w : World) → frames_of (collect w).subs ≡ frames_of w.subs
unfolding collect clearing naming
collect_frames w =
    let lost : List Surface = lost_in (naming w) in
    frames_kept (drop_on lost) w.subs (λ s. same_when (λ (x : Submission). x.submitted) ((is_waiting s || is_active s) && list_any (λ c. is_on c.id s) lost) _ s refl)

-- activation and collection leave what submissions were accepted with
pub collected_frames : (w : World) → frames_of (collect (settle w)).subs ≡ frames_of w.subs
unfolding settle
collected_frames w = collect_frames (settle w) ∙ rounds_frames _ w

-- and so does all that follows an answer
pub outcome_frames : (presented : List Sub) (a : Answer) → frames_of (outcome_of presented a).world.subs ≡ frames_of a.world.subs
unfolding outcome_of feed give_back
outcome_frames presented a =
    frames_kept (mark_fed (give_back (collect (settle a.world))) presented) (collect (settle a.world)).subs (λ s. refl) ∙ collected_frames a.world

-- a count that reads what submissions were accepted with
pub count_frames : (t : FrameData → Bool) (subs : List Submission) → count_by (λ s. t s.submitted) subs ≡ count_by t (frames_of subs)
count_frames t [] = refl
count_frames t (s ∷ ss) =
    sum_by-cons (λ x. cond (t x.submitted) 1 0) s ss ∙ (ap (λ n. cond (t s.submitted) 1 0 + n) (count_frames t ss) ∙ sym (sum_by-cons (λ i. cond (t i) 1 0) s.submitted (frames_of ss)))

pub count_kept : (t : FrameData → Bool) (xs ys : List Submission) → frames_of xs ≡ frames_of ys → count_by (λ s. t s.submitted) xs ≡ count_by (λ s. t s.submitted) ys
count_kept t xs ys e = count_frames t xs ∙ (ap (count_by t) e ∙ sym (count_frames t ys))
