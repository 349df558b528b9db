-- What clients lent, as the state changes by one change.
use Rattle.std.proofs.Common.{◌≡◌, ℕ, ◌+◌, ◌-◌, ◌≤◌, ◌<◌, Bool, true, false, ◌||◌, ◌==◌, Some, List, [], ◌∷◌, ◌++◌, length, map, slice_get, set, get_or, refl, ap, sym, subst, ◌∙◌, arith, cond, Contains}
use Rattle.std.specs.List.{list_any}
use Rattle.std.proofs.{lemmas.Bool.Decides.nat_tests, lemmas.Bool.and_from, lemmas.List.length-map, lemmas.List.Folds.list_any-append}
use Rattle.vz_ids.specs.{declared.LocalSurfaceId.LocalSurfaceId, declared.Sub.Sub, Ids.same_sub}
use Rattle.vz_frame.specs.{declared.frame.CompositorFrame.CompositorFrame, declared.frame.Listing.Listing}
use Rattle.vz_rules.specs.{Plan.Plan, Singly.rising, Singly.going}
use Rattle.vz_rules.specs.World.{World, Client, Surface, Resource, Submission, has_sub, is_waiting, is_active, last_created, sub_of}
use Rattle.vz_rules.specs.Messages.{accepted, took, submitting, lend, is_unknown}
use Rattle.vz_rules.proofs.{Members.at_map, Members.at_contains, Kept_small.at_there, Kept_submits.one_of_number}
use Rattle.vz_returns.specs.Held.{is_rising}
use Rattle.vz_returns.specs.{Released.AreCounts, Released.alive_in, Released.out_in, Released.times, Listed.ids_of, Listed.lists_twice}
use Rattle.vz_returns.proofs.Releases.{from_eqb, to_eqb}
use Rattle.vz_returns.specs.Lent.{Lent, AreLent, IsLender, Suffice, IsCountable, lent_all, shared_all}
use Rattle.vz_returns.specs.Changes.{IsAccepted, IsRising, IsGoing, IsDrawn, IsDone}
use Rattle.vz_returns.proofs.Test_counts.{share, one_shares, share_of_own, share_of_other}
use Rattle.vz_returns.proofs.{Alive.alive_risen, Alive.alive_gone, Clients.out_lent, Clients.submits, Clients.countable, Clients.alive_some}
use Rattle.vz_returns.proofs.Accepted.{before_it, alive_before, alive_accepted, alive_flying, allowed_parts, allowed_once}
use Rattle.vz_returns.proofs.Steps.{lent_set, frees, frees_enough, holds_more, AreMoved, GoesOn, times_more, own_at, lent_stays, received_lent_all, alive_lent_all}

client_is : (client : ℕ) (items : List Lent) → IsLender client items → client ≡ (client - 1) + 1
client_is client items known = omega (arith, known.0)

place_in : (client : ℕ) (items : List Lent) → IsLender client items → client - 1 < length items
place_in client items known = omega (arith, known.0, known.1)

shares_move : (client : ℕ) (L : List Listing) → AreMoved client (ids_of L) (share client L)
shares_move client L = record { own = λ c id e. share_of_own client L c id e; other = λ c id e. share_of_other client L c id e }

both_move : (client : ℕ) (L M : List Listing) → AreMoved client (ids_of L ++ ids_of M) (λ c id. share client L c id + share client M c id)
both_move client L M =
    record {
      own = λ c id e. omega (arith, share_of_own client L c id e, share_of_own client M c id e, times_more id (ids_of L) (ids_of M));
      other = λ c id e. omega (arith, share_of_other client L c id e, share_of_other client M c id e);
    }

-- one item of the list of lenders, and another in its place
module _ (items : List Lent) (client : ℕ) (known : IsLender client items) (o d : Lent) (is : o ≡ get_or items (client - 1) d) where
  pub here : slice_get items (client - 1) ≡ Some o
  here = own_at items (client - 1) o d (place_in client items known) is

  -- the active one of a surface is past
  pub past_enough : (w : World) (s : Submission) (L : List Listing) → IsRising w s client L items
      → Suffice (o.released ++ ids_of L) o.holding
  past_enough w s L x =
      frees_enough w (rising s w) items client (client - 1) o (ids_of L) (share client L) (client_is client items known) here
      x.always.clients
      (alive_risen w x.always s x.known x.waits client L x.own x.listed x.once) (shares_move client L) x.lent

  pub past_lent : (new : Lent) (w : World) (s : Submission) (L : List Listing) → new.holding ≡ o.holding
      → new.released ≡ o.released ++ ids_of L → IsRising w s client L items
      → AreLent (rising s w) (set items (client - 1) new)
  unfolding rising
  past_lent new w s L held more x =
      frees w (rising s w) items client (client - 1) o new (ids_of L) (share client L) (client_is client items known) here x.always.clients
      refl
      (alive_risen w x.always s x.known x.waits client L x.own x.listed x.once) (shares_move client L) held more x.lent

  -- a surface is destroyed
  pub gone_enough : (w : World) (c : Surface) (L M : List Listing) → IsGoing w c client L M items
      → Suffice (o.released ++ (ids_of L ++ ids_of M)) o.holding
  gone_enough w c L M x =
      frees_enough w (going c w) items client (client - 1) o (ids_of L ++ ids_of M) (λ q id. share client L q id + share client M q id)
      (client_is client items known) here x.always.clients
      (alive_gone w x.always c x.known client L M x.own x.ends x.ends_active x.once x.once_active) (both_move client L M) x.lent

  pub gone_lent : (new : Lent) (w : World) (c : Surface) (L M : List Listing) → new.holding ≡ o.holding
      → new.released ≡ o.released ++ (ids_of L ++ ids_of M) → IsGoing w c client L M items
      → AreLent (going c w) (set items (client - 1) new)
  unfolding going
  gone_lent new w c L M held more x =
      frees w (going c w) items client (client - 1) o new (ids_of L ++ ids_of M) (λ q id. share client L q id + share client M q id)
      (client_is client items known) here x.always.clients refl
      (alive_gone w x.always c x.known client L M x.own x.ends x.ends_active x.once x.once_active) (both_move client L M) held more x.lent

  -- a submission of a drawn frame is done
  first_more : (s : Sub) (others : List Sub) (x : Sub) → has_sub (s ∷ others) x ≡ (has_sub others x || same_sub x s)
  first_more s others x = grind (arith, nat_tests)

  pub done_enough : (w : World) (s : Submission) (others : List Sub) (L : List Listing) → IsDone w s others client L items
      → Suffice (o.released ++ ids_of L) o.holding
  done_enough w s others L x =
      frees_enough (record w { in_flight = Some (sub_of s ∷ others) }) (record w { in_flight = Some others }) items client (client - 1) o
      (ids_of L) (share client L)
      (client_is client items known) here x.always.clients
      (alive_flying w x.always s x.known others (sub_of s ∷ others) client L x.first (first_more (sub_of s) others) x.own x.listed x.once)
      (shares_move client L) x.lent

  pub done_lent : (new : Lent) (w : World) (s : Submission) (others : List Sub) (L : List Listing) → new.holding ≡ o.holding
      → new.released ≡ o.released ++ ids_of L → IsDone w s others client L items
      → AreLent (record w { in_flight = Some others }) (set items (client - 1) new)
  done_lent new w s others L held more x =
      frees (record w { in_flight = Some (sub_of s ∷ others) }) (record w { in_flight = Some others }) items client (client - 1) o new
      (ids_of L) (share client L)
      (client_is client items known) here x.always.clients refl
      (alive_flying w x.always s x.known others (sub_of s ∷ others) client L x.first (first_more (sub_of s) others) x.own x.listed x.once)
      (shares_move client L) held more x.lent

  -- a submission is in a drawn frame
  last_more : (drawn : List Sub) (s x : Sub) → has_sub (drawn ++ s ∷ []) x ≡ (has_sub drawn x || same_sub x s)
  last_more drawn s x = grind (arith, nat_tests, list_any-append (same_sub x) drawn (s ∷ []))

  -- the client of this number, and what stands for it
  its_client : (v : World) → AreLent v items → (c : Client) × (slice_get v.clients (client - 1) ≡ Some c)
  its_client v lent = at_there v.clients (client - 1) (subst (λ n. client - 1 < n) lent.many (place_in client items known))

  pub drawn_countable : (p : Plan) (w : World) (drawn : List Sub) (s : Submission) (L : List Listing) → IsDrawn p w drawn s client L items
      → (id : ℕ) → IsCountable id o.holding
  drawn_countable p w drawn s L x =
      let c = its_client (record w { in_flight = Some drawn }) x.lent in
      countable p w x.plan x.always x.of_plan (Some drawn) c.0 o.holding o.released (at_contains w.clients (client - 1) c.0 c.1)
      (x.none_released o (at_contains items (client - 1) o here)) (x.lent.each (client - 1) c.0 o c.1 here)

  pub drawn_rising : (p : Plan) (w : World) (drawn : List Sub) (s : Submission) (L : List Listing) → IsDrawn p w drawn s client L items
      → is_rising o.holding.counted ≡ true
  drawn_rising p w drawn s L x =
      let c = its_client (record w { in_flight = Some drawn }) x.lent in
      let counts = x.lent.each (client - 1) c.0 o c.1 here in
      counts.rising

  pub drawn_alive : (p : Plan) (w : World) (drawn : List Sub) (s : Submission) (L : List Listing) → IsDrawn p w drawn s client L items
      → Suffice (ids_of L) o.holding
  drawn_alive p w drawn s L x id =
      let v : World = record w { in_flight = Some drawn } in
      let c = its_client v x.lent in
      let counts = x.lent.each (client - 1) c.0 o c.1 here in
      let number : c.0.number ≡ client = x.always.clients.numbered (client - 1) c.0 c.1 ∙ sym (client_is client items known) in
      let opens : (is_waiting s || is_active s) ≡ true = ap (λ b. is_waiting s || b) x.shown ∙ or_yes (is_waiting s) in
      let some = alive_some v s c.0.number id x.known (and_from _ _ opens (x.always.states.stand s x.known opens)) in
      let one = one_shares client L c.0.number id s x.own x.listed x.once in
      let all = share_of_own client L c.0.number id (to_eqb client c.0.number (sym number)) in
      omega (arith, counts.alive id, some, one, all)
    where
      or_yes : (a : Bool) → (a || true) ≡ true
      or_yes true = refl
      or_yes false = refl

  pub drawn_lent : (new : Lent) (p : Plan) (w : World) (drawn : List Sub) (s : Submission) (L : List Listing)
      → new.holding ≡ shared_all (ids_of L) o.holding → new.released ≡ o.released
      → IsDrawn p w drawn s client L items → AreLent (record w { in_flight = Some (drawn ++ sub_of s ∷ []) }) (set items (client - 1) new)
  drawn_lent new p w drawn s L held more x =
      holds_more (record w { in_flight = Some drawn }) (record w { in_flight = Some (drawn ++ sub_of s ∷ []) }) items client (client - 1) o
      new (ids_of L) (share client L)
      (client_is client items known) here x.always.clients refl
      (alive_flying w x.always s x.known drawn (drawn ++ sub_of s ∷ []) client L x.next (last_more drawn (sub_of s)) x.own x.listed x.once)
      (shares_move client L)
      (drawn_alive p w drawn s L x) held more x.lent

  -- a submission is accepted
  module _ (p : Plan) (w : World) (c : Client) (local : LocalSurfaceId) (frame : CompositorFrame) (L M : List Listing)
      (x : IsAccepted p w c local frame client L M items) where
    pub accepted_once : lists_twice L ≡ false
    accepted_once = ap lists_twice x.listed ∙ allowed_once frame (allowed_parts (last_created w c.number) c local frame x.allowed).0

    pub accepted_countable : (id : ℕ) → IsCountable id o.holding
    accepted_countable =
        let q = its_client w x.lent in
        countable p w x.plan x.always x.of_plan w.in_flight q.0 o.holding o.released (at_contains w.clients (client - 1) q.0 q.1)
        (x.none_released o (at_contains items (client - 1) o here)) (x.lent.each (client - 1) q.0 o q.1 here)

    pub accepted_enough : Suffice (o.released ++ ids_of M) o.holding
    accepted_enough =
        frees_enough w (before_it w x.always c x.known local frame) items client (client - 1) o (ids_of M) (share client M)
        (client_is client items known) here x.always.clients
        (alive_before w x.always c x.known local frame client M x.number x.replaces x.once) (shares_move client M) x.lent

    alive_after : (q id : ℕ) → alive_in w q id + share client L q id ≡ alive_in (accepted w c local frame).world q id + share client M q id
    alive_after = alive_accepted w x.always c x.known local frame client L M x.goes_on x.allowed x.number x.listed x.replaces x.once

    -- the client after it
    submitted : Client → Client
    submitted z = cond (z.number == c.number) (took (submitting w frame z)) z

    own_counts : (new : Lent) → new.holding ≡ lent_all (ids_of L) o.holding → new.released ≡ o.released ++ ids_of M → (d : Client)
        → took (submitting w frame c) ≡ d
        → AreCounts w c o.holding o.released → AreCounts (accepted w c local frame).world d new.holding new.released
    own_counts new held more d after counts =
        let stays = lent_stays (ids_of L) o.holding in
        let sent = submits w frame c in
        let mine : (client == c.number) ≡ true = to_eqb client c.number (sym x.number) in
        let number : d.number ≡ c.number = ap (λ (z : Client). z.number) (sym after) ∙ sent.number in
        let out : (id : ℕ) → out_in d.resources id ≡ out_in c.resources id + times id (ids_of L) =
        λ id. ap (λ (z : Client). out_in z.resources id) (sym after)
        ∙ (ap (λ rs. out_in rs id) sent.resources
        ∙ (ap (λ l. out_in (map (lend l) c.resources) id) (sym x.listed)
        ∙ out_lent L c.resources id (λ r q. (less r q))
        (ap (list_any (is_unknown c.resources)) x.listed ∙ (allowed_parts (last_created w c.number) c local frame x.allowed).1)
        accepted_once)) in
        subst (λ h. AreCounts (accepted w c local frame).world d h new.released) (sym held)
        (subst (AreCounts (accepted w c local frame).world d (lent_all (ids_of L) o.holding)) (sym more) (record {
          client = stays.client ∙ (counts.client ∙ sym number);
          rising = stays.rising counts.rising;
          some = stays.some counts.some;
          received = λ id. omega (arith, received_lent_all id (ids_of L) o.holding, counts.received id, out id);
          alive = λ id. omega (
            arith,
            alive_lent_all id (ids_of L) o.holding,
            counts.alive id,
            alive_after c.number id,
            share_of_own client L c.number id mine,
            share_of_own client M c.number id mine,
            times_more id o.released (ids_of M),
            ap (λ n. alive_in (accepted w c local frame).world n id) number,
          );
          queue = stays.queue ∙ (counts.queue ∙ (sym sent.queue ∙ ap (λ (z : Client). z.queue) after));
        }))
      where
        less : (r : Resource) → Contains c.resources r → r.queued ≤ r.lent
        less r q = let shelf = x.always.shelves c x.known in let kept = shelf.totals r q in kept.queued

    other_counts : (n : ℕ) (z d : Client) (l : Lent) → (n == client - 1) ≡ false → slice_get w.clients n ≡ Some z → submitted z ≡ d
        → AreCounts w z l.holding l.released
        → AreCounts (accepted w c local frame).world d l.holding l.released
    unfolding submitted
    other_counts n z d l e at after counts = grind (arith, nat_tests, client_is, alive_after, share_of_other)

    pub accepted_lent : (new : Lent) → new.holding ≡ lent_all (ids_of L) o.holding → new.released ≡ o.released ++ ids_of M
        → AreLent (accepted w c local frame).world (set items (client - 1) new)
    unfolding accepted submitted
    accepted_lent new held more =
        lent_set w (accepted w c local frame).world items (client - 1) o new here x.lent (length-map w.clients submitted)
        (λ n d at. goes n d (at_map submitted w.clients n d at))
      where
        goes : (n : ℕ) (d : Client) → (z : Client) × (slice_get w.clients n ≡ Some z) × (submitted z ≡ d)
            → GoesOn w (accepted w c local frame).world (client - 1) o new n d
        goes n d m =
            record {
              before = m.0;
              at = m.1;
              own = λ e counts.
                  let place = from_eqb n (client - 1) e in
                  let number : m.0.number ≡ c.number = x.always.clients.numbered n m.0 m.1
                  ∙ (ap (λ k. k + 1) place ∙ (sym (client_is client items known) ∙ sym x.number)) in
                  let one : m.0 ≡ c = one_of_number w.clients m.0 c x.always.clients (at_contains w.clients n m.0 m.1) x.known number in
                  let sent : took (submitting w frame m.0)
                  ≡ d = sym (ap (λ (t : Bool). cond t (took (submitting w frame m.0)) m.0) (to_eqb m.0.number c.number number)) ∙ m.2 in
                  own_counts new held more d (ap (λ z. took (submitting w frame z)) (sym one) ∙ sent)
                  (subst (λ z. AreCounts w z o.holding o.released) one counts);
              other = λ e l counts. other_counts n m.0 d l e m.1 m.2 counts;
            }
