-- What a step leaves is kept between steps.
use Rattle.std.proofs.Common.{◌≡◌, Bool, true, false, not, ◌&&◌, ◌||◌, ◌==◌, List, [], ◌∷◌, map, filter, refl, ap, sym, ◌∙◌, cond}
use Rattle.std.specs.List.{list_any}
use Rattle.vz_ids.specs.declared.Sub.{Sub}
use Rattle.vz_rules.specs.declared.entry.State.TheVariants.{Dropped}
use Rattle.vz_rules.specs.declared.entry.Event.{Event}
use Rattle.vz_rules.specs.Plan.{Plan}
use Rattle.vz_rules.specs.World.{World, Client, FrameData, Submission, active_frames, is_waiting, is_active, is_on}
use Rattle.vz_rules.specs.Settle.{ready, settle}
use Rattle.vz_rules.specs.Reach.{naming, drop_on, lost_in, clearing, collect}
use Rattle.vz_rules.specs.Returns.{queue_returns, give_back, mark_fed, feed}
use Rattle.vz_rules.specs.Step.{answer_to, presented_by, outcome_of, step_in}
use Rattle.vz_rules.specs.Kept.{KeepsAlways, Keeps}
use Rattle.vz_rules.proofs.Activated.{none_ready_after}
use Rattle.vz_rules.proofs.Members.{any_map}
use Rattle.vz_rules.proofs.Kept_follows.{always_settle, always_naming}
use Rattle.vz_rules.proofs.Kept_clears.{always_collect}
use Rattle.vz_rules.proofs.Kept_steps.{always_answer, always_step}
use Rattle.vz_rules.proofs.Kept_ends.{ready_end, none_out_end, open_end}
use Rattle.vz_rules.proofs.Kept_once.{Cleared, unlost}
use Rattle.vz_rules.proofs.Kept_reach.{none_lost_after, named_after, all_named_after, naming_stays}

-- A step

abbrev frame_of : Submission → FrameData
frame_of s = s.submitted

-- one submission, dropped or not, and its frame, left out or not
dropped_by : (waits acts any : Bool) (s : Submission) (ys : List Submission) (is : List FrameData) → is_waiting s ≡ waits → is_active s ≡ acts
    → map frame_of ys ≡ is
    → map frame_of (cond (is_active (cond ((waits || acts) && any) (record s { state = Dropped }) s)) (cond ((waits || acts) && any) (record s { state = Dropped }) s ∷ ys) ys)
    ≡ cond acts (cond (not any) (s.submitted ∷ is) is) is
dropped_by waits true true s ys is e f h = by_waits waits
  where
    by_waits : (w : Bool)
        → map frame_of (cond (is_active (cond ((w || true) && true) (record s { state = Dropped }) s)) (cond ((w || true) && true) (record s { state = Dropped }) s ∷ ys) ys) ≡ is
    by_waits true = h
    by_waits false = h
dropped_by true true false s ys is e f h = ap (λ (t : Bool). map frame_of (cond t (s ∷ ys) ys)) f ∙ ap (λ l. s.submitted ∷ l) h
dropped_by false true false s ys is e f h = ap (λ (t : Bool). map frame_of (cond t (s ∷ ys) ys)) f ∙ ap (λ l. s.submitted ∷ l) h
dropped_by true false true s ys is e f h = h
dropped_by true false false s ys is e f h = ap (λ (t : Bool). map frame_of (cond t (s ∷ ys) ys)) f ∙ h
dropped_by false false any s ys is e f h = ap (λ (t : Bool). map frame_of (cond t (s ∷ ys) ys)) f ∙ h

filter_cond : (kept : FrameData → Bool) (t : Bool) (s : Submission) (ys : List Submission)
    → filter kept (map frame_of (cond t (s ∷ ys) ys)) ≡ cond t (cond (kept s.submitted) (s.submitted ∷ filter kept (map frame_of ys)) (filter kept (map frame_of ys))) (filter kept (map frame_of ys))
filter_cond kept true s ys = refl
filter_cond kept false s ys = refl

pub dropped_frames : (w : World) (subs : List Submission) → active_frames (map (drop_on (lost_in w)) subs) ≡ filter (unlost w) (active_frames subs)
dropped_frames w [] = refl
dropped_frames w (s ∷ subs) =
    dropped_by (is_waiting s) (is_active s) (list_any (λ c. is_on c.id s) (lost_in w)) s (filter is_active (map (drop_on (lost_in w)) subs)) (filter (unlost w) (active_frames subs)) refl refl (dropped_frames w subs)
    ∙ sym (filter_cond (unlost w) (is_active s) s (filter is_active subs))

fed_cond : (t : Bool) (s u : Submission) (xs ys : List Submission) → s.submitted ≡ u.submitted → map frame_of xs ≡ map frame_of ys
    → map frame_of (cond t (s ∷ xs) xs) ≡ map frame_of (cond t (u ∷ ys) ys)
fed_cond true s u xs ys e h = ap (λ i. i ∷ map frame_of xs) e ∙ ap (λ l. u.submitted ∷ l) h
fed_cond false s u xs ys e h = h

fed_frames : (w : World) (presented : List Sub) (subs : List Submission) → active_frames (map (mark_fed w presented) subs) ≡ active_frames subs
fed_frames w presented [] = refl
fed_frames w presented (s ∷ subs) = fed_cond (is_active s) (mark_fed w presented s) s (filter is_active (map (mark_fed w presented) subs)) (filter is_active subs) refl (fed_frames w presented subs)

-- what is left of a world after collection, returns and feedback
cleared_end : (presented : List Sub) (w : World) → Cleared w (feed presented (give_back (clearing w)))
unfolding feed give_back clearing
cleared_end presented w =
    record {
      active = fed_frames (give_back (clearing w)) presented (map (drop_on (lost_in w)) w.subs) ∙ dropped_frames w w.subs;
      surfaces = refl;
      root = refl;
      tick = refl;
      closed = λ c. any_map (queue_returns (clearing w)) (λ (x : Client). (x.number == c) && x.closed) (λ (x : Client). (x.number == c) && x.closed) w.clients (λ x. refl);
    }

-- what holds after a step, from what holds after its activation
keeps_end : (presented : List Sub) (w : World) → KeepsAlways w → ready w ≡ [] → KeepsAlways (feed presented (give_back (collect w)))
    → Keeps (feed presented (give_back (collect w)))
unfolding collect
keeps_end presented w h none always =
    let cleared = cleared_end presented (naming w) in
    record {
      always = always;
      none_ready = ready_end presented w none;
      all_named = naming_stays (feed presented (give_back (collect w))) (all_named_after (naming w) (feed presented (give_back (collect w))) cleared (named_after w));
      none_lost = none_lost_after (naming w) (feed presented (give_back (collect w))) (always_naming w h) cleared;
      none_out = none_out_end presented (collect w) (always_collect w h);
      open_ones = open_end presented (give_back (collect w));
    }

-- a step leads from what is kept to what is kept between steps
pub keeps_step : (p : Plan) (w : World) (e : Event) → KeepsAlways w → Keeps (step_in p w e).world
unfolding step_in outcome_of
keeps_step p w e h =
    let settled = settle (answer_to p w e).world in
    keeps_end (presented_by w e) settled (always_settle (answer_to p w e).world (always_answer p w e h)) (none_ready_after (answer_to p w e).world) (always_step p w e h)
