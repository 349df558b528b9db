-- Between steps nothing follows by itself: neither activation nor collection, returns or feedback changes anything.
use Rattle.std.proofs.Common.{◌≡◌, ℕ, zero, suc, Bool, true, false, not, ◌&&◌, ◌||◌, Option, Some, None, List, [], ◌∷◌, ◌++◌, map, filter_map, flat_map, length, append-nil, is_none, refl, ap, ◌∙◌, arith, cond, Contains}
use Rattle.std.specs.Prelude.{nat_lt}
use Rattle.std.specs.List.{cons_option}
use Rattle.std.proofs.lemmas.Bool.{ltb-true, false_from_ne_true, cond-false}
use Rattle.vz_ids.specs.declared.Sub.{Sub}
use Rattle.vz_rules.specs.declared.entry.Reply.{Reply}
use Rattle.vz_rules.specs.declared.entry.Fed.{Fed}
use Rattle.vz_rules.specs.declared.entry.Lost.{Lost}
use Rattle.vz_rules.specs.declared.entry.Returned.{Returned}
use Rattle.vz_rules.specs.World.{World, Client, Resource, Submission, is_waiting, is_active, is_in_flight, sub_of}
use Rattle.vz_rules.specs.Settle.{ready, round, settle, activated_over, activated_in}
use Rattle.vz_rules.specs.Reach.{naming, lost_in, lost_of, collect, destroyed_in}
use Rattle.vz_rules.specs.Returns.{is_held, goes_back, return_of, queue_resource, returns_of, queue_returns, give_back, returned_in, feedback_of, mark_fed, feed, fed_in}
use Rattle.vz_rules.specs.Messages.{says}
use Rattle.vz_rules.specs.Step.{Outcome, outcome_of}
use Rattle.vz_rules.specs.Kept.{Keeps, no_effects}
use Rattle.vz_rules.proofs.Settled.{round_stays, rounds_stay}
use Rattle.vz_rules.proofs.Members.{contains_here, contains_there, all_at, map_fixed}
use Rattle.vz_rules.proofs.Kept_collected.{collect_stays}
use Rattle.vz_rules.proofs.Facts.{or_false}

filter_map_none : {A B : Type 0} (h : A → Option B) (xs : List A) → ((x : A) → Contains xs x → h x ≡ None) → filter_map h xs ≡ []
filter_map_none h [] e = refl
filter_map_none h (x ∷ xs) e = ap (λ o. cons_option o (filter_map h xs)) (e x (contains_here x xs)) ∙ filter_map_none h xs (λ y c. e y (contains_there x y xs c))

flat_map_none : {A B : Type 0} (h : A → List B) (xs : List A) → ((x : A) → Contains xs x → h x ≡ []) → flat_map h xs ≡ []
flat_map_none h [] e = refl
flat_map_none h (x ∷ xs) e = ap (λ l. l ++ flat_map h xs) (e x (contains_here x xs)) ∙ flat_map_none h xs (λ y c. e y (contains_there x y xs c))

-- Activation

pub settle_stays : (w : World) → ready w ≡ [] → settle w ≡ w
unfolding settle
settle_stays w none = rounds_stay (length w.subs) w none

activated_none_over : (n : ℕ) (w : World) → ready w ≡ [] → activated_over n w ≡ []
unfolding activated_over
activated_none_over zero w none = refl
activated_none_over (suc n) w none =
    ap (λ l. map sub_of l ++ activated_over n (round w)) none ∙ (ap (activated_over n) (round_stays w none) ∙ activated_none_over n w none)

pub activated_none : (w : World) → ready w ≡ [] → activated_in w ≡ []
unfolding activated_in
activated_none w none = activated_none_over (length w.subs) w none

-- Collection

pub destroyed_none : (w : World) → naming w ≡ w → lost_in w ≡ [] → destroyed_in w ≡ []
unfolding destroyed_in
destroyed_none w named none =
    flat_map_none (lost_of (lost_in (naming w))) w.clients (λ c p. ap (λ l. lost_of l c) (ap lost_in named ∙ none))

-- Returns

goes_by : (less held : Bool) → (held ≡ false → less ≡ false) → (less && not held) ≡ false
goes_by true true h = refl
goes_by true false h = h refl
goes_by false held h = refl

nothing_goes : (w : World) → Keeps w → (c : Client) (s : Resource) → Contains w.clients c → Contains c.resources s → goes_back w c.number s ≡ false
nothing_goes w h c s p q =
    goes_by (nat_lt s.queued s.lent) (is_held w c.number s.id) (λ e.
    false_from_ne_true (nat_lt s.queued s.lent) (λ l. omega (arith, ltb-true s.queued s.lent l, h.none_out c s p q e)))

no_returns : (w : World) → Keeps w → (c : Client) → Contains w.clients c → returns_of w c ≡ []
no_returns w h c p = filter_map_none (return_of w c.number) c.resources (λ s q. cond-false (goes_back w c.number s) (Some _) None (nothing_goes w h c s p q))

client_stays : (w : World) → Keeps w → (c : Client) → Contains w.clients c → queue_returns w c ≡ c
client_stays w h c p =
    ap (λ l. record c { resources = l; queue = c.queue ++ returns_of w c })
    (map_fixed (queue_resource w c.number) c.resources (λ s q. cond-false (goes_back w c.number s) _ s (nothing_goes w h c s p q)))
    ∙ ap (λ l. record c { queue = l }) (ap (λ l. c.queue ++ l) (no_returns w h c p) ∙ append-nil c.queue)

pub give_back_stays : (w : World) → Keeps w → give_back w ≡ w
unfolding give_back
give_back_stays w h = ap (λ l. record w { clients = l }) (map_fixed (queue_returns w) w.clients (client_stays w h))

returned_none : (w : World) → Keeps w → returned_in w ≡ []
unfolding returned_in
returned_none w h = flat_map_none (returns_of w) w.clients (no_returns w h)

-- Feedback

fed_by : (fed waits acts flies : Bool) (x y : Fed) → (fed || waits || acts || flies) ≡ true
    → ◌≡◌ {A = Option Fed} (cond fed None (cond false (Some x) (cond (not (waits || acts) && not flies) (Some y) None))) None
fed_by true waits acts flies x y e = refl
fed_by false true acts flies x y e = refl
fed_by false false true flies x y e = refl
fed_by false false false true x y e = refl
fed_by false false false false x y e = absurd (cc)

no_feedback : (w : World) → Keeps w → (s : Submission) → Contains w.subs s → feedback_of w [] s ≡ None
no_feedback w h s c =
    fed_by s.fed (is_waiting s) (is_active s) (is_in_flight w.in_flight (sub_of s))
    (record { sub = sub_of s; presented = true }) (record { sub = sub_of s; presented = false })
    (all_at (λ (x : Submission). x.fed || is_waiting x || is_active x || is_in_flight w.in_flight (sub_of x)) w.subs s h.open_ones c)

sub_stays : (w : World) → Keeps w → (s : Submission) → Contains w.subs s → mark_fed w [] s ≡ s
sub_stays w h s c = ap (λ t. record s { fed = t }) (ap (λ (o : Option Fed). s.fed || not (is_none o)) (no_feedback w h s c) ∙ or_false s.fed)

pub feed_stays : (w : World) → Keeps w → feed [] w ≡ w
unfolding feed
feed_stays w h = ap (λ l. record w { subs = l }) (map_fixed (mark_fed w []) w.subs (sub_stays w h))

fed_none : (w : World) → Keeps w → fed_in [] w ≡ []
unfolding fed_in
fed_none w h = filter_map_none (feedback_of w []) w.subs (no_feedback w h)

-- Nothing follows

same_outcomes : (r : Reply) (w v : World) (as' : List Sub) (ds : List Lost) (rs : List Returned) (fs : List Fed) → as' ≡ [] → ds ≡ [] → rs ≡ [] → fs ≡ []
    → v ≡ w
    → ◌≡◌ {A = Outcome} (record { reply = r; effects = record { activated = as'; destroyed = ds; returned = rs; fed = fs }; world = v }) (record { reply = r; effects = no_effects; world = w })
same_outcomes r w v as' ds rs fs a b c d e = cc

-- an answer that leaves such a world has no effects and nothing else changes
pub nothing_follows : (r : Reply) (w : World) → Keeps w → outcome_of [] (says r w) ≡ record { reply = r; effects = no_effects; world = w }
unfolding outcome_of
nothing_follows r w h =
    let settled = settle_stays w h.none_ready in
    let collected = ap collect settled ∙ collect_stays w h.all_named h.none_lost in
    let given = ap give_back collected ∙ give_back_stays w h in
    same_outcomes r w (feed [] (give_back (collect (settle w)))) (activated_in w) (destroyed_in (settle w)) (returned_in (collect (settle w))) (fed_in [] (give_back (collect (settle w))))
    (activated_none w h.none_ready)
    (ap destroyed_in settled ∙ destroyed_none w h.all_named h.none_lost)
    (ap returned_in collected ∙ returned_none w h)
    (ap (fed_in []) given ∙ fed_none w h)
    (ap (feed []) given ∙ feed_stays w h)
