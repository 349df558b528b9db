-- The references that are alive, as surfaces and submissions change.
use Rattle.std.proofs.Common.{◌≡◌, ℕ, ◌+◌, ◌≤◌, Bool, true, false, not, ◌&&◌, ◌||◌, ◌==◌, Some, List, [], ◌∷◌, map, find, count_by, refl, ap, sym, subst, ◌∙◌, arith, cond, Contains}
use Rattle.std.proofs.{lemmas.Bool.Decides.nat_tests, lemmas.Bool.and_parts, lemmas.Bool.and_from}
use Rattle.std.specs.List.{list_any}
use Rattle.vz_ids.specs.{declared.SurfaceId.SurfaceId, Ids.same_surface, Ids.same_sub}
use Rattle.vz_frame.specs.{declared.frame.Listing.Listing, Frame.lists}
use Rattle.vz_rules.specs.{declared.entry.State.TheVariants.Active, declared.entry.State.TheVariants.Past, Settle.marked_by, Reach.drop_on}
use Rattle.vz_rules.specs.World.{World, Surface, Submission, exists, is_waiting, is_active, is_on, is_in_flight, sub_of}
use Rattle.vz_rules.specs.{Singly.as_one_rises, Singly.rising, Singly.as_one_goes, Singly.going, Kept.KeepsAlways, Kept.borrows, Kept.stands_in}
use Rattle.vz_rules.proofs.{Reached.from_same, Counts.count_none, Kept_facts.subs_apart, Kept_small.one_submitter, Kept_last.one_owner, Facts.or_true}
use Rattle.vz_rules.proofs.Members.{contains_at, at_same, find_at, found, any_map, when_same}
use Rattle.vz_rules.proofs.Rising.{find_map}
use Rattle.vz_returns.specs.Released.{holds_there, holds_in_flight, alive_in}
use Rattle.vz_returns.specs.Listed.{lists_twice, waiting_listings, active_listings}
use Rattle.vz_returns.proofs.Test_counts.{IsSplit, split_and, count_split, count_alike, count_both, one_found, share, found_shares}
pub use Rattle.vz_rules.proofs.Facts.{and_false as false_and}

-- Tests

pub split_by : (x y c : Bool) → x ≡ y → c ≡ false → IsSplit x y c
split_by x y c e f = grind (arith, nat_tests)

pub split_gone : (x y c : Bool) → x ≡ true → y ≡ false → c ≡ true → IsSplit x y c
split_gone x y c e f g = grind (arith, nat_tests)

pub not_both : (t : Submission) → is_waiting t ≡ true → is_active t ≡ false
not_both t h = grind (arith, nat_tests)

-- Surfaces that exist

-- a surface exists as before where each keeps its name and is destroyed where it was
pub exists_kept : (g : Surface → Surface) (ss : List Surface) (id : SurfaceId) → ((s : Surface) → (g s).id ≡ s.id)
    → ((s : Surface) → (g s).destroyed ≡ s.destroyed) → stands_in (map g ss) id ≡ stands_in ss id
exists_kept g ss id name gone = grind (arith, nat_tests, find_map)

pub exists_risen : (s : Submission) (w : World) (id : SurfaceId) → exists (rising s w) id ≡ exists w id
unfolding rising
exists_risen s w id = grind (arith, nat_tests, exists_kept (marked_by w.surfaces (s ∷ [])) w.surfaces id, when_same)

gone_test : (c d : Surface) (id : SurfaceId) (t : Bool) → same_surface id c.id ≡ t
    → (same_surface (as_one_goes c d).id id && not (as_one_goes c d).destroyed) ≡ cond t false (same_surface d.id id && not d.destroyed)
gone_test c d id true e = grind (arith, nat_tests, false_and (same_surface d.id id), from_same id c.id e)
gone_test c d id false e = grind (arith, nat_tests, false_and (same_surface d.id id), from_same d.id id)

pub exists_left : (c : Surface) (w : World) (id : SurfaceId) → same_surface id c.id ≡ false → exists (going c w) id ≡ exists w id
unfolding going
exists_left c w id e = grind (arith, nat_tests, found, any_map, gone_test)

-- Where each submission keeps what it was accepted with

pub alive_step : (w v : World) (f : Submission → Submission) (ended : Submission → Bool) → v.subs ≡ map f w.subs → v.in_flight ≡ w.in_flight
    → ((s : Submission) → (f s).submitted ≡ s.submitted)
    → ((s : Submission) → Contains w.subs s → IsSplit (holds_there w s) (holds_there v (f s)) (ended s))
    → (c id : ℕ) → alive_in w c id ≡ alive_in v c id + count_by (λ s. borrows c id s && ended s) w.subs
unfolding alive_in
alive_step w v f ended subs flight same split c id =
    let there =
    count_split f (λ s. borrows c id s && holds_there w s) (λ s. borrows c id s && holds_there v s) (λ s. borrows c id s && ended s) w.subs
    (λ s q.
    subst (λ (i : Bool). IsSplit (borrows c id s && holds_there w s) (i && holds_there v (f s)) (borrows c id s && ended s))
    (ap (λ i. (i.sub.client == c) && list_any (lists id) i.frame.resources) (sym (same s)))
    (split_and (borrows c id s) (holds_there w s) (holds_there v (f s)) (ended s) (split s q))) in
    let flies =
    count_alike f (λ s. borrows c id s && holds_in_flight w s) (λ s. borrows c id s && holds_in_flight v s) w.subs (λ s q.
    (λ i. ((same s i).sub.client == c) && list_any (lists id) (same s i).frame.resources && is_in_flight (flight i) (same s i).sub)) in
    let moved = ap (λ l. count_by (λ s. borrows c id s && holds_there v s) l) subs in
    let moved_too = ap (λ l. count_by (λ s. borrows c id s && holds_in_flight v s) l) subs in
    omega (arith, there, flies, moved, moved_too)

-- of the submissions on a surface that pass a test there is at most one
pub one_there : (p : Submission → Bool) (id : SurfaceId) (subs : List Submission) → count_by (λ s. is_on id s && p s) subs ≤ 1
    → count_by (λ s. p s && is_on id s) subs ≤ 1
one_there p id subs few = grind (arith, nat_tests, count_both, split_by, count_none)

-- Where one becomes active

module _ (w : World) (h : KeepsAlways w) where
  pub one_named : (s t : Submission) → Contains w.subs s → Contains w.subs t → same_sub (sub_of s) (sub_of t) ≡ true → s ≡ t
  one_named s t p q e = grind (arith, nat_tests, contains_at w.subs s p, contains_at w.subs t q, at_same w.subs, subs_apart w)

  -- what is found on a surface with some submission of a client is that client's
  pub own_on : (p : Submission → Bool) (s t : Submission) → Contains w.subs s → find (λ x. p x && is_on s.submitted.id x) w.subs ≡ Some t
      → t.submitted.sub.client ≡ s.submitted.sub.client
  own_on p s t q e = grind (arith, nat_tests, find_at, one_submitter, and_parts)

  -- and on a surface that a client created
  pub own_of : (p : Submission → Bool) (d : Surface) (t : Submission) → Contains w.surfaces d
      → find (λ x. p x && is_on d.id x) w.subs ≡ Some t → t.submitted.sub.client ≡ d.client
  own_of p d t q e =
      let at = find_at (λ x. p x && is_on d.id x) w.subs t e in
      let made = h.numbers.created t at.0 in
      let same = from_same t.submitted.id d.id (and_parts (p t) (is_on d.id t) at.1).1 in
      sym made.3 ∙ one_owner w.clients w.surfaces made.0 d h.clients h.surfaces made.1 q (ap (λ (i : SurfaceId). i.sink) (made.2 ∙ same))

  module _ (s : Submission) (known : Contains w.subs s) (waits : is_waiting s ≡ true) where
    risen_frame : (t : Submission) → (as_one_rises s t).submitted ≡ t.submitted
    risen_frame t = grind (arith, nat_tests)

    risen_split : (t : Submission) → Contains w.subs t
        → IsSplit (holds_there w t) (holds_there (rising s w) (as_one_rises s t)) (is_active t && is_on s.submitted.id t)
    risen_split t q =
        let e : exists (rising s w) (as_one_rises s t).submitted.id
        ≡ exists w t.submitted.id = exists_risen s w (as_one_rises s t).submitted.id ∙ ap (λ i. exists w i.id) (risen_frame t) in
        subst (λ b. IsSplit (holds_there w t) ((is_waiting (as_one_rises s t) || is_active (as_one_rises s t)) && b)
        (is_active t && is_on s.submitted.id t)) (sym e)
        (by (same_sub (sub_of t) (sub_of s)) (is_active t && is_on s.submitted.id t) refl refl)
      where
        by : (a b : Bool) → same_sub (sub_of t) (sub_of s) ≡ a → (is_active t && is_on s.submitted.id t) ≡ b
            → IsSplit (holds_there w t) ((is_waiting
            (cond a (record t { state = Active; was_active = true }) (cond b (record t { state = Past }) t))
            || is_active (cond a (record t { state = Active; was_active = true }) (cond b (record t { state = Past }) t))) && exists w
            t.submitted.id) b
        by true b e f =
            let one = one_named t s q known e in
            let wait : is_waiting t ≡ true = ap is_waiting one ∙ waits in
            let none : b ≡ false = sym f ∙ ap (λ x. x && is_on s.submitted.id t) (not_both t wait) in
            split_by _ _ b (ap (λ x. (x || is_active t) && exists w t.submitted.id) wait) none
        by false true e f =
            let acts = (and_parts (is_active t) (is_on s.submitted.id t) f).0 in
            let open_one : (is_waiting t || is_active t) ≡ true = ap (λ x. is_waiting t || x) acts ∙ or_true (is_waiting t) in
            split_gone _ _ true (and_from _ _ open_one (h.states.stand t q open_one)) refl refl
        by false false e f = split_by _ _ false refl refl

    pub alive_risen : (client : ℕ) (L : List Listing) → s.submitted.sub.client ≡ client → L ≡ active_listings w s.submitted.id
        → lists_twice L ≡ false
        → (c id : ℕ) → alive_in w c id ≡ alive_in (rising s w) c id + share client L c id
    unfolding rising
    alive_risen client L own listed once c id =
        let there : Submission → Bool = λ x. is_active x && is_on s.submitted.id x in
        alive_step w (rising s w) (as_one_rises s) there refl refl risen_frame risen_split c id
        ∙ ap (λ n. alive_in (rising s w) c id + n)
        (one_found (borrows c id) there w.subs (find there w.subs)
        (one_there is_active s.submitted.id w.subs (h.states.one_is_active s.submitted.id)) refl
        ∙ found_shares client L c id (find there w.subs) (λ t e. own_on is_active s t known e ∙ own) listed once)

  -- Where a surface is destroyed

  module _ (d : Surface) (known : Contains w.surfaces d) where
    left_frame : (t : Submission) → (drop_on (d ∷ []) t).submitted ≡ t.submitted
    left_frame t = grind (arith, nat_tests, when_same)

    -- it waits or is active there
    gone_there : Submission → Bool
    gone_there t = (is_waiting t && is_on d.id t) || (is_active t && is_on d.id t)

    gone_split : (t : Submission) → Contains w.subs t
        → IsSplit (holds_there w t) (holds_there (going d w) (drop_on (d ∷ []) t)) (gone_there t)
    unfolding gone_there
    gone_split t q = grind (arith, nat_tests, IsSplit (holds_there w t), left_frame t, IsSplit, split_gone, and_from, split_by, exists_left d w t.submitted.id)

    either_one : (t : Submission) → IsSplit (gone_there t) (is_waiting t && is_on d.id t) (is_active t && is_on d.id t)
    unfolding gone_there
    either_one t = grind (arith, nat_tests, not_both t, IsSplit)

    pub alive_gone : (client : ℕ) (L M : List Listing) → d.client ≡ client → L ≡ waiting_listings w d.id → M ≡ active_listings w d.id
        → lists_twice L ≡ false → lists_twice M ≡ false
        → (c id : ℕ) → alive_in w c id ≡ alive_in (going d w) c id + (share client L c id + share client M c id)
    unfolding going
    alive_gone client L M own first second once once_too c id =
        let waits : Submission → Bool = λ x. is_waiting x && is_on d.id x in
        let acts : Submission → Bool = λ x. is_active x && is_on d.id x in
        let all = alive_step w (going d w) (drop_on (d ∷ [])) gone_there refl refl left_frame gone_split c id in
        let both = count_both (λ s. borrows c id s && gone_there s) (λ s. borrows c id s && waits s) (λ s. borrows c id s && acts s) w.subs
        (λ t q. split_and (borrows c id t) _ _ _ (either_one t)) in
        let one =
        one_found (borrows c id) waits w.subs (find waits w.subs) (one_there is_waiting d.id w.subs (h.states.one_waits d.id)) refl
        ∙ found_shares client L c id (find waits w.subs) (λ t e. own_of is_waiting d t known e ∙ own) first once in
        let two =
        one_found (borrows c id) acts w.subs (find acts w.subs) (one_there is_active d.id w.subs (h.states.one_is_active d.id)) refl
        ∙ found_shares client M c id (find acts w.subs) (λ t e. own_of is_active d t known e ∙ own) second once_too in
        omega (arith, all, both, one, two)
