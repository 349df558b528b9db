-- The references that are alive, as a submission is accepted and as a drawn frame holds more or less.
use Rattle.std.proofs.Common.{◌≡◌, ℕ, suc, ◌+◌, ◌≤◌, Bool, true, false, not, ◌&&◌, ◌||◌, ◌==◌, Option, Some, None, is_some, List, [], ◌∷◌, ◌++◌, map, find, count_by, slice_get, refl, ap, sym, ◌∙◌, arith, cond, Contains}
use Rattle.std.proofs.{lemmas.Bool.Decides.nat_tests, lemmas.List.Folds.list_any-append}
use Rattle.std.specs.List.{list_any}
use Rattle.std.proofs.lemmas.Bool.{and_parts, and_from, eqb-true, eq-eqb, or_left as or_first}
use Rattle.vz_ids.specs.{declared.SurfaceId.SurfaceId, declared.LocalSurfaceId.LocalSurfaceId, declared.Sub.Sub, Ids.same_surface, Ids.same_sub}
use Rattle.vz_frame.specs.{declared.frame.CompositorFrame.CompositorFrame, Frame.breaks, Frame.rules_in_order, Frame.first_broken}
use Rattle.vz_frame.specs.{declared.frame.Listing.Listing, declared.rules.Rule.TheVariants.ListedTwice}
use Rattle.vz_rules.specs.{declared.entry.State.TheVariants.Dropped, Kept.KeepsAlways, Kept.borrows, Kept.is_by, Kept.stands_in}
use Rattle.vz_rules.specs.World.{World, Client, Surface, Submission, exists, is_waiting, is_active, is_on, has_sub, is_in_flight, last_created, sub_of}
use Rattle.vz_rules.specs.Messages.{accepted, id_of, submit_refusal, new_submission, with_surface, replace_on, is_unknown, is_last, violates}
use Rattle.vz_rules.proofs.{Reached.from_same, Counts.count_cons, Counts.count_push, Counts.count_none, Counts.count_at, Kept_submits.always_accepted}
use Rattle.vz_rules.proofs.Members.{contains_at, at_contains, find_at, found, any_at, any_from, push_contains_last, when_same}
use Rattle.vz_rules.proofs.{Kept_facts.subs_apart, Kept_last.one_client, Kept_rounds.self_sub}
use Rattle.vz_returns.specs.{Released.holds_there, Released.holds_in_flight, Released.alive_in, Listed.lists_twice, Listed.waiting_listings}
use Rattle.vz_returns.proofs.Test_counts.{IsSplit, split_and, count_both, one_found, share, one_shares, found_shares}
use Rattle.vz_returns.proofs.Alive.{split_by, split_gone, alive_step, one_there, one_named}

-- What is not refused

pub allowed_parts : (last : Option Surface) (c : Client) (local : LocalSurfaceId) (frame : CompositorFrame)
    → submit_refusal last c.resources local frame ≡ None
    → (first_broken frame ≡ None) × (list_any (is_unknown c.resources) frame.resources ≡ false) × (violates last local ≡ false)
unfolding submit_refusal
allowed_parts last c local frame h = grind (arith, nat_tests)

none_passes : {A : Type 0} (p : A → Bool) (xs : List A) (x : A) → find p xs ≡ None → Contains xs x → p x ≡ false
none_passes p xs x e there = grind (arith, nat_tests, any_from p xs x there, found p xs)

twice_is_tested : Contains rules_in_order ListedTwice
twice_is_tested = (6, omega arith, refl)

pub allowed_once : (frame : CompositorFrame) → first_broken frame ≡ None → lists_twice frame.resources ≡ false
unfolding first_broken breaks
allowed_once frame e = none_passes (breaks frame) rules_in_order ListedTwice e twice_is_tested

-- A submission is accepted

module _ (w : World) (h : KeepsAlways w) (c : Client) (known : Contains w.clients c) (local : LocalSurfaceId) (frame : CompositorFrame)
  where
    more_exist : (id : SurfaceId) → exists w id ≡ true → stands_in (with_surface w c local frame) id ≡ true
    unfolding with_surface
    more_exist id e = by (is_last (last_created w c.number) local) _
      where
        by : (t : Bool) (n : Surface) → stands_in (cond t w.surfaces (w.surfaces ++ n ∷ [])) id ≡ true
        by true n = e
        by false n =
            found (λ (s : Surface). same_surface s.id id && not s.destroyed) (w.surfaces ++ n ∷ [])
            ∙ (list_any-append (λ (s : Surface). same_surface s.id id && not s.destroyed) w.surfaces (n ∷ [])
            ∙ or_first _ _ (sym (found (λ (s : Surface). same_surface s.id id && not s.destroyed) w.surfaces) ∙ e))

    -- the world after it, without the new submission
    abbrev pub before_it : World
    before_it = record (accepted w c local frame).world { subs = map (replace_on (id_of c local)) w.subs }

    replaced_frame : (t : Submission) → (replace_on (id_of c local) t).submitted ≡ t.submitted
    replaced_frame t = when_same (λ (x : Submission). x.submitted) (λ x. record x { state = Dropped })
        (is_waiting t && is_on (id_of c local) t) t refl

    replaced_split : (t : Submission) → Contains w.subs t
        → IsSplit (holds_there w t) (holds_there before_it (replace_on (id_of c local) t)) (is_waiting t && is_on (id_of c local) t)
    unfolding accepted
    replaced_split t q = by (is_waiting t && is_on (id_of c local) t) (is_waiting t || is_active t) refl refl
      where
        by : (b o : Bool) → (is_waiting t && is_on (id_of c local) t) ≡ b → (is_waiting t || is_active t) ≡ o
            → IsSplit ((is_waiting t || is_active t) && exists w t.submitted.id) ((is_waiting (cond b (record t { state = Dropped }) t)
            || is_active (cond b (record t { state = Dropped }) t)) && stands_in (with_surface w c local frame)
            (cond b (record t { state = Dropped }) t).submitted.id) b
        by true o e f =
            let waits : (is_waiting t || is_active t)
            ≡ true = or_first (is_waiting t) (is_active t) (and_parts (is_waiting t) (is_on (id_of c local) t) e).0 in
            split_gone _ _ true (and_from _ _ waits (h.states.stand t q waits)) refl refl
        by false true e f =
            split_by _ _ false (and_from _ _ f (h.states.stand t q f)
            ∙ sym (and_from _ _ f (more_exist t.submitted.id (h.states.stand t q f)))) refl
        by false false e f = split_by _ _ false
            (ap (λ o. o && exists w t.submitted.id) f ∙ sym (ap (λ o. o && stands_in (with_surface w c local frame) t.submitted.id) f)) refl

    -- the one that is replaced is the client's
    own_here : (p : Submission → Bool) (t : Submission) → find (λ x. p x && is_on (id_of c local) x) w.subs ≡ Some t
        → t.submitted.sub.client ≡ c.number
    own_here p t e =
        let at = find_at (λ x. p x && is_on (id_of c local) x) w.subs t e in
        let made = h.numbers.created t at.0 in
        let of = h.surfaces.of_clients made.0 made.1 in
        let same = from_same t.submitted.id (id_of c local) (and_parts (p t) (is_on (id_of c local) t) at.1).1 in
        let one : of.0 ≡ c = one_client w.clients of.0 c h.clients of.1 known (of.3 ∙ ap (λ (i : SurfaceId). i.sink) (made.2 ∙ same)) in
        sym made.3 ∙ (sym of.2 ∙ ap (λ (x : Client). x.number) one)

    abbrev new_one : Submission
    new_one = new_submission w c local frame

    none_flying : (drawn : List Sub) → w.in_flight ≡ Some drawn → has_sub drawn (sub_of new_one) ≡ true → true ≡ false
    unfolding new_submission
    none_flying drawn e f =
        let m = any_at (same_sub (sub_of new_one)) drawn f in
        let s = h.in_flight drawn m.0 e m.1 in
        let at = contains_at w.subs s.0 s.1 in
        let both = and_parts (c.number == s.0.submitted.sub.client)
        (count_by (λ x. x.submitted.sub.client == c.number) w.subs + 1 == s.0.submitted.sub.ordinal)
        (ap (same_sub (sub_of new_one)) s.2 ∙ m.2) in
        let client = eqb-true c.number s.0.submitted.sub.client both.0 in
        let ordinal = eqb-true (count_by (λ x. x.submitted.sub.client == c.number) w.subs + 1) s.0.submitted.sub.ordinal both.1 in
        let own = h.numbers.ordered at.0 s.0 at.1 in
        let few = count_at (is_by s.0.submitted.sub.client) w.subs at.0 s.0 at.1
        (eq-eqb s.0.submitted.sub.client s.0.submitted.sub.client refl) in
        let all = ap (λ n. count_by (λ (x : Submission). x.submitted.sub.client == n) w.subs) client in
        absurd (omega (arith, ordinal, own, few, all))

    not_flying : (o : Option (List Sub)) → w.in_flight ≡ o → is_in_flight o (sub_of new_one) ≡ false
    not_flying None e = refl
    not_flying (Some drawn) e = by (has_sub drawn (sub_of new_one)) refl
      where
        by : (b : Bool) → has_sub drawn (sub_of new_one) ≡ b → b ≡ false
        by true f = none_flying drawn e f
        by false f = refl

    -- with it
    alive_with : KeepsAlways (accepted w c local frame).world → (q id : ℕ)
        → alive_in (accepted w c local frame).world q id ≡ alive_in before_it q id + cond (borrows q id new_one) 1 0
    unfolding accepted alive_in new_submission
    alive_with kept q id =
        let v = (accepted w c local frame).world in
        let more = map (replace_on (id_of c local)) w.subs in
        let stands : holds_there v new_one ≡ true = kept.states.stand new_one (push_contains_last more new_one) refl in
        let rests : holds_in_flight v new_one ≡ false = not_flying w.in_flight refl in
        let there : ◌≡◌ {A = ℕ} (cond (borrows q id new_one && holds_there v new_one) 1 0) (cond (borrows q id new_one) 1 0) = ap {B = ℕ}
        (λ b. cond (borrows q id new_one && b) 1 0) stands ∙ all_of (borrows q id new_one) in
        let flying : ◌≡◌ {A = ℕ} (cond (borrows q id new_one && holds_in_flight v new_one) 1 0) 0 = ap {B = ℕ}
        (λ b. cond (borrows q id new_one && b) 1 0) rests ∙ none_of (borrows q id new_one) in
        omega (
          arith,
          count_push (λ t. borrows q id t && holds_there v t) more new_one,
          count_push (λ t. borrows q id t && holds_in_flight v t) more new_one,
          there,
          flying,
        )
      where
        all_of : (b : Bool) → ◌≡◌ {A = ℕ} (cond (b && true) 1 0) (cond b 1 0)
        all_of true = refl
        all_of false = refl

        none_of : (b : Bool) → ◌≡◌ {A = ℕ} (cond (b && false) 1 0) 0
        none_of true = refl
        none_of false = refl

    new_listed : new_one.submitted.frame ≡ frame
    unfolding new_submission
    new_listed = refl

    new_client : new_one.submitted.sub.client ≡ c.number
    unfolding new_submission
    new_client = refl

    pub alive_before : (client : ℕ) (M : List Listing) → c.number ≡ client → M ≡ waiting_listings w (id_of c local) → lists_twice M ≡ false
        → (q id : ℕ) → alive_in w q id ≡ alive_in before_it q id + share client M q id
    unfolding accepted
    alive_before client M number replaced once q id =
        let waits : Submission → Bool = λ x. is_waiting x && is_on (id_of c local) x in
        alive_step w before_it (replace_on (id_of c local)) waits refl refl replaced_frame replaced_split q id
        ∙ ap (λ n. alive_in before_it q id + n)
        (one_found (borrows q id) waits w.subs (find waits w.subs)
        (one_there is_waiting (id_of c local) w.subs (h.states.one_waits (id_of c local))) refl
        ∙ found_shares client M q id (find waits w.subs) (λ t e. own_here is_waiting t e ∙ number) replaced once)

    pub alive_accepted : (client : ℕ) (L M : List Listing) → c.closed ≡ false
        → submit_refusal (last_created w c.number) c.resources local frame ≡ None → c.number ≡ client → L ≡ frame.resources
        → M ≡ waiting_listings w (id_of c local) → lists_twice M ≡ false
        → (q id : ℕ) → alive_in w q id + share client L q id ≡ alive_in (accepted w c local frame).world q id + share client M q id
    alive_accepted client L M goes allowed number listed replaced once q id =
        let parts = allowed_parts (last_created w c.number) c local frame allowed in
        let kept : KeepsAlways (accepted w c local frame).world = always_accepted w c local frame h known goes parts.2 parts.1 in
        let new = one_shares client L q id new_one (new_client ∙ number) (listed ∙ ap (λ f. f.resources) (sym new_listed))
        (ap lists_twice listed ∙ allowed_once frame parts.0) in
        omega (arith, alive_with kept q id, alive_before client M number replaced once q id, new)

-- A drawn frame holds one more

few_named : {A : Type 0} (t : A → Bool) (xs : List A)
    → ((n m : ℕ) (x y : A) → slice_get xs n ≡ Some x → slice_get xs m ≡ Some y → t x ≡ true → t y ≡ true → n ≡ m) → count_by t xs ≤ 1
few_named t [] one = omega arith
few_named t (x ∷ xs) one = by (t x) refl (few_named t xs (λ n m a b p q e f. omega (arith, one (suc n) (suc m) a b p q e f)))
  where
    by : (b : Bool) → t x ≡ b → count_by t xs ≤ 1 → count_by t (x ∷ xs) ≤ 1
    by true e rest =
        let none : count_by t xs ≡ 0 = count_none t xs (λ y c. no_other y (contains_at xs y c).0 (contains_at xs y c).1 (t y) refl) in
        let here : ◌≡◌ {A = ℕ} (cond (t x) 1 0) 1 = ap {B = ℕ} (λ (r : Bool). cond r 1 0) e in
        omega (arith, count_cons t x xs, none, here)
      where
        no_other : (y : _) (n : ℕ) → slice_get xs n ≡ Some y → (b : Bool) → t y ≡ b → b ≡ false
        no_other y n at true f = absurd (omega (arith, one 0 (suc n) x y refl at e f))
        no_other y n at false f = refl
    by false e rest =
        let here : ◌≡◌ {A = ℕ} (cond (t x) 1 0) 0 = ap {B = ℕ} (λ (r : Bool). cond r 1 0) e in
        omega (arith, count_cons t x xs, rest, here)

found_one : {A : Type 0} (t : A → Bool) (xs : List A) (s : A) → Contains xs s → t s ≡ true → ((x : A) → Contains xs x → t x ≡ true → x ≡ s)
    → find t xs ≡ Some s
found_one t xs s there e one = by (find t xs) refl
  where
    by : (o : Option _) → find t xs ≡ o → find t xs ≡ Some s
    by None f = let bad : true ≡ false = sym (any_from t xs s there e) ∙ (sym (found t xs) ∙ ap is_some f) in absurd (cc)
    by (Some x) f = let at = find_at t xs x f in f ∙ ap (λ z. Some z) (one x at.0 at.1)

module _ (w : World) (h : KeepsAlways w) (s : Submission) (known : Contains w.subs s) where
  abbrev is_it : Submission → Bool
  is_it t = same_sub (sub_of t) (sub_of s)

  flying_split : (less more : List Sub) → has_sub less (sub_of s) ≡ false
      → ((x : Sub) → has_sub more x ≡ (has_sub less x || same_sub x (sub_of s)))
      → (t : Submission) → Contains w.subs t → IsSplit (has_sub more (sub_of t)) (has_sub less (sub_of t)) (is_it t)
  flying_split less more none all t q = grind (arith, nat_tests, IsSplit (has_sub more (sub_of t)) (has_sub less (sub_of t)), one_named w h t s q known, split_gone, split_by)

  pub alive_flying : (less more : List Sub) (client : ℕ) (L : List Listing) → has_sub less (sub_of s) ≡ false
      → ((x : Sub) → has_sub more x ≡ (has_sub less x || same_sub x (sub_of s)))
      → s.submitted.sub.client ≡ client → L ≡ s.submitted.frame.resources → lists_twice L ≡ false
      → (c id : ℕ) → alive_in (record w { in_flight = Some more }) c id
      ≡ alive_in (record w { in_flight = Some less }) c id + share client L c id
  unfolding alive_in
  alive_flying less more client L none all own listed once c id =
      let both =
      count_both (λ t. borrows c id t && has_sub more (sub_of t)) (λ t. borrows c id t && has_sub less (sub_of t))
      (λ t. borrows c id t && is_it t) w.subs
      (λ t q. split_and (borrows c id t) _ _ _ (flying_split less more none all t q)) in
      let few = few_named is_it w.subs (λ n m x y p q e f. subs_apart w n m x y h p q (one_sub n m x y p q e f)) in
      let it = found_one is_it w.subs s known (self_sub (sub_of s)) (λ x q e. one_named w h x s q known e) in
      let one = one_found (borrows c id) is_it w.subs (Some s) few it ∙ one_shares client L c id s own listed once in
      omega (arith, both, one)
    where
      one_sub : (n m : ℕ) (x y : Submission) → slice_get w.subs n ≡ Some x → slice_get w.subs m ≡ Some y → is_it x ≡ true → is_it y ≡ true
          → same_sub (sub_of x) (sub_of y) ≡ true
      one_sub n m x y p q e f =
          let a = one_named w h x s (at_contains w.subs n x p) known e in
          let b = one_named w h y s (at_contains w.subs m y q) known f in
          ap (λ (z : Submission). same_sub (sub_of z) (sub_of y)) a
          ∙ (ap (λ (z : Submission). same_sub (sub_of s) (sub_of z)) b ∙ self_sub (sub_of s))
