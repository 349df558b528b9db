-- A submission is accepted: what surfaces and what hangs on them stand for then.
use Rattle.std.proofs.Common.{◌≡◌, ℕ, suc, ◌+◌, ◌-◌, ◌<◌, ◌≤◌, Bool, true, false, ◌&&◌, ◌==◌, not, inl, inr, Option, Some, None, List, [], ◌∷◌, length, map, find, refl, ap, sym, ◌∙◌, subst, arith, cond, Contains, sum_by, count_by}
use Rattle.std.specs.{Option.option_map, List.list_any}
use Rattle.std.proofs.{lemmas.Bool.and_from, lemmas.Bool.and_parts, lemmas.Bool.eqb-true, lemmas.List.Sums.sum_by_push, lemmas.Bool.Decides.nat_tests}
use Rattle.vz_geom.specs.Rectangle.{Rectangle}
use Rattle.vz_ids.specs.{declared.FrameSinkId.FrameSinkId, declared.LocalSurfaceId.LocalSurfaceId, Ids.same_sink, Ids.same_local, Ids.same_surface}
use Rattle.vz_ids.specs.{declared.SurfaceId.SurfaceId, declared.Sub.Sub}
use Rattle.vz_pixels.specs.Block.{Block}
use Rattle.vz_frame.specs.{declared.frame.CompositorFrame.CompositorFrame, declared.frame.Listing.Listing, Frame.root_damage}
use Rattle.vz_rules.specs.{declared.entry.State.TheVariants.Dropped, Plan.Plan}
use Rattle.vz_rules.specs.World.{World, Client, Surface, Submission, exists, last_created, is_waiting, is_on, sub_of}
use Rattle.vz_rules.specs.Messages.{accepted, new_submission, is_unknown, violates, is_last, id_of, replace_on}
use Rattle.vz_rules.specs.Kept.{KeepsAlways, HasSmallClient, IsWhole, last_in, is_by}
use Rattle.vz_rules.proofs.Members.{contains_map, contains_push, push_contains_last, any_from, found, at_contains}
use Rattle.vz_rules.proofs.{Counts.count_same, Counts.count_cons, Reached.self_same, Rising.find_map, Kept_small.small_client}
use Rattle.vz_rules.proofs.{Kept_last.last_at, Kept_last.one_client, Kept_few.lists_short, Kept_submits.one_of_number, Kept_submits.always_accepted}
use Rattle.vz_surface_manager.specs.{Kept_surfaces.AreKept, Allowed.IsAllowed, Live.Live, Live.AreLive, Live.AreWhole, Live.wants}
use Rattle.vz_surface_manager.proofs.{New_surfaces.kept_accepted, New_surfaces.kept_created, Told_accepted.told_accepted, Told_accepted.next_stored}
use Rattle.vz_surfaces.specs.{declared.held.Held.Held, Keeping.KeepsStored}
use Rattle.vz_surfaces.specs.Stored.{Stored, stored_of, storing, surface_of, bare_surface, bare_sub}
use Rattle.vz_surfaces.specs.{Reading.stands, Reading.held_of, Reading.waiting_at, Memory.HasNumber, Memory.IsSinkOf, Memory.held_in}
use Rattle.vz_surfaces.proofs.{Following.last_bare, Following.follows_accepted, Telling.tells_exists, Kept_of_world.keeps_of_world}
use Rattle.vz_damage.specs.Told.{Damaged, told_on, next_index, with_damage}
use Rattle.vz_returns.specs.{Lent.Lent, Lent.AreLent, Lent.IsLender, Lent.HasRoom, Changes.IsAccepted, declared.ended.Ended.Ended}
use Rattle.vz_returns.proofs.{Accepted.allowed_parts, Alive.one_there, Lent_kept.lends, Owed_kept.new_unplaced, Owed_kept.few_accepted}
use Rattle.vz_returns.specs.Owed.{OwedAndRoom, AreOwed, ended_of, place_of, waiting_on}
use Rattle.vz_surface_manager.proofs.{Flights_kept.flown_accepted, Live_kept.whole_mapped, Live_kept.ended_is}
use Rattle.vz_surface_manager.specs.{Ended_subs.listings_of, Ended_subs.ended_in, Ended_subs.wanted_by, Acceptance.IsAccepting, Acceptance.new_one}
use Rattle.vz_surface_manager.proofs.{Wanted_places.sum_less, Wanted_places.sum_one, Wanted_places.wanted_of, Gone.wanted_frame, Gone.wanted_fits}
use Rattle.vz_surface_manager.proofs.Found.{frame_of, waits_in, listings_read, found_once, waits_alone}

-- Small facts

violates_bare : (o : Option Surface) (local : LocalSurfaceId) → violates (option_map bare_surface o) local ≡ violates o local
violates_bare o local = grind (arith, nat_tests)

last_is_bare : (o : Option Surface) (local : LocalSurfaceId) → is_last (option_map bare_surface o) local ≡ is_last o local
last_is_bare o local = grind (arith, nat_tests)

count_within : {A : Type 0} (p : A → Bool) (xs : List A) → count_by p xs ≤ length xs
count_within p [] = omega arith
count_within p (x ∷ xs) = grind (arith, nat_tests, count_within p xs, count_cons p x xs)

length_bare : (xs : List Submission) → length (map bare_sub xs) ≡ length xs
length_bare [] = refl
length_bare (x ∷ xs) = ap (λ n. suc n) (length_bare xs)

held_twice : (o : Option Submission) → option_map (λ (s : Submission). held_of s.submitted) (option_map bare_sub o) ≡ frame_of o
held_twice o = grind (arith, nat_tests)

names_of : (o : Option Submission) → option_map (λ (x : Held). x.sub) (frame_of o) ≡ option_map (λ (s : Submission). sub_of s) o
names_of o = grind (arith, nat_tests)

drops : (a on : Bool) (t : Submission) → is_waiting t ≡ a → (a && on) ≡ true → wants (cond (a && on) (record t { state = Dropped }) t) ≡ 0
drops a on t e f = grind (arith, nat_tests)

keeps_on : (a on : Bool) (t : Submission) → (a && on) ≡ false → wants (cond (a && on) (record t { state = Dropped }) t) ≡ wants t
keeps_on a on t f = grind (arith, nat_tests)

frame_replaced : (b : Bool) (t : Submission) → (cond b (record t { state = Dropped }) t).submitted ≡ t.submitted
frame_replaced b t = grind (arith, nat_tests)

module _ (p : Plan) (w : World) (c : Client) (client : ℕ) (sink : FrameSinkId) (local : LocalSurfaceId) (frame : CompositorFrame) (blocks : List Block) (v : Live)
    (h : IsAccepting p w c client sink local frame blocks v) where
  abbrev id : SurfaceId
  id = id_of c local

  abbrev after : World
  after = (accepted w c local frame).world

  abbrev new : Submission
  new = new_submission w c local frame

  abbrev there : Submission → Bool
  there t = is_waiting t && is_on id t

  abbrev pub waiting : Option Submission
  waiting = find (λ t. is_waiting t && is_on (id_of c local) t) w.subs

  always : KeepsAlways w
  always = h.keeps.always

  back : client ≡ c.number
  back = sym h.number

  id_is : surface_of sink local ≡ id
  id_is = λ i. record { sink = sym h.own i; local = local }

  unknown_none : list_any (is_unknown c.resources) frame.resources ≡ false
  unknown_none = (allowed_parts (last_created w c.number) c local frame h.allowed).1

  fine : violates (last_created w c.number) local ≡ false
  fine = (allowed_parts (last_created w c.number) c local frame h.allowed).2

  allows : IsAllowed w c local frame
  allows = record { known = h.known; stays = h.goes_on; allowed = h.allowed }

  always_after : KeepsAlways after
  always_after = always_accepted w c local frame always h.known h.goes_on fine unknown_none

  -- What the store asks

  pub number_is : HasNumber client
  number_is = subst HasSmallClient h.number (small_client p w h.plan always h.of_plan c h.known).0

  pub keeps_store : KeepsStored v.store
  keeps_store = subst KeepsStored (sym h.live.store) (keeps_of_world w always)

  last_there : last_in v.store.surfaces client ≡ option_map bare_surface (last_created w c.number)
  unfolding stored_of
  last_there = (λ i. last_in (h.live.store i).surfaces (back i)) ∙ last_bare w.surfaces c.number

  pub good : violates (last_in v.store.surfaces client) local ≡ false
  good = ap (λ o. violates o local) last_there ∙ (violates_bare (last_created w c.number) local ∙ fine)

  stands_last : (o : Option Surface) → last_created w c.number ≡ o → is_last o local ≡ true → exists w id ≡ true
  stands_last None e f = absurd (cc)
  stands_last (Some s) e f =
      let at = last_at (λ (y : Surface). y.client == c.number) w.surfaces s e in
      let in_list : Contains w.surfaces s = at_contains w.surfaces at.0 s at.1.0 in
      let of = always.surfaces.of_clients s in_list in
      let owner : of.0 ≡ c = one_of_number w.clients of.0 c always.clients of.1 h.known (of.2 ∙ eqb-true s.client c.number at.1.1) in
      let on : s.id.sink ≡ c.sink = sym of.3 ∙ ap (λ (x : Client). x.sink) owner in
      let stays = always.last_stays c s h.known h.goes_on e in
      found (λ (t : Surface). same_surface t.id id && not t.destroyed) w.surfaces
      ∙ any_from (λ (t : Surface). same_surface t.id id && not t.destroyed) w.surfaces s in_list
      (and_from (same_surface s.id id) (not s.destroyed)
      (and_from (same_sink s.id.sink c.sink) (same_local s.id.local local)
      (ap (λ k. same_sink k c.sink) on ∙ (and_parts (same_sink c.sink c.sink) (same_local local local) (self_same id)).0) f) (ap not stays.0))

  pub stands_there : is_last (last_in v.store.surfaces client) local ≡ true → stands v.store (surface_of sink local) ≡ true
  stands_there e = grind (arith, nat_tests, id_is, tells_exists w, stands_last (last_created w c.number) refl, last_there, last_is_bare (last_created w c.number) local)

  few_there : count_by (is_by client) v.store.subs ≤ length w.subs
  unfolding stored_of
  few_there = grind (arith, nat_tests, length_bare w.subs, count_within (is_by client) (map bare_sub w.subs))

  pub few : count_by (is_by client) v.store.subs < 4294967295
  few = grind (arith, nat_tests, lists_short, always, few_there)

  own_surface : (s : Surface) → Contains (stored_of w).surfaces s → s.client ≡ client → s.id.sink ≡ sink
  unfolding stored_of
  own_surface s k e =
      let m = contains_map bare_surface w.surfaces s k in
      let of = always.surfaces.of_clients m.0 m.1 in
      let owner : of.0 ≡ c = one_of_number w.clients of.0 c always.clients of.1 h.known (of.2 ∙ (ap (λ (x : Surface). x.client) m.2 ∙ (e ∙ back))) in
      ap (λ (x : Surface). x.id.sink) (sym m.2) ∙ (sym of.3 ∙ (ap (λ (x : Client). x.sink) owner ∙ h.own))

  no_other : (s : Surface) → Contains (stored_of w).surfaces s → s.id.sink ≡ sink → s.client ≡ client
  unfolding stored_of
  no_other s k e =
      let m = contains_map bare_surface w.surfaces s k in
      let of = always.surfaces.of_clients m.0 m.1 in
      let owner : of.0 ≡ c = one_client w.clients of.0 c always.clients of.1 h.known (of.3 ∙ (ap (λ (x : Surface). x.id.sink) m.2 ∙ (e ∙ sym h.own))) in
      ap (λ (x : Surface). x.client) (sym m.2) ∙ (sym of.2 ∙ (ap (λ (x : Client). x.number) owner ∙ h.number))

  pub sink_is : IsSinkOf client sink v.store
  sink_is = subst (IsSinkOf client sink) (sym h.live.store) (record { own = own_surface; alone = no_other })

  -- What is lent

  pub is_lender : IsLender client v.lent
  is_lender = subst (λ n. IsLender n v.lent) h.number (lends w c v.lent always h.known h.live.lent)

  pub stored_after : (store : Stored) → store ≡ storing client sink local frame blocks v.store → store ≡ stored_of after
  stored_after store e = grind (arith, nat_tests, back, follows_accepted w c local frame)

  new_there : Contains after.subs new
  unfolding accepted
  new_there = push_contains_last (map (replace_on id) w.subs) new

  new_waits : is_waiting new ≡ true
  unfolding new_submission
  new_waits = refl

  new_id : new.submitted.id ≡ id
  unfolding new_submission
  new_id = refl

  new_lists : new.submitted.frame ≡ frame
  unfolding new_submission
  new_lists = refl

  pub listed_is : (store : Stored) (o : Option Held) (L : List Listing) → store ≡ storing client sink local frame blocks v.store
      → o ≡ option_map held_of (waiting_at store (record { sink = sink; local = local })) → L ≡ listings_of o → L ≡ frame.resources
  listed_is store o L e f g =
      g ∙ (ap listings_of
      (waits_in after store id o always_after (stored_after store e) (f ∙ ap (λ i. option_map held_of (waiting_at store i)) id_is)
      ∙ ap frame_of (ap (λ i. find (λ t. is_waiting t && is_on i t) after.subs) (sym new_id) ∙ waits_alone after new always_after new_there new_waits))
      ∙ ap (λ (f : CompositorFrame). f.resources) new_lists)

  pub replaced_is : (o r : Option Held) → o ≡ r → r ≡ held_in is_waiting (surface_of sink local) v.store.subs → o ≡ frame_of waiting
  unfolding stored_of
  replaced_is o r e f = grind (arith, nat_tests, id_is, find_map, held_twice)

  pub is_accepted : (L R : List Listing) (o : Option Held) → L ≡ frame.resources → o ≡ frame_of waiting → R ≡ listings_of o → IsAccepted p w c local frame client L R v.lent
  is_accepted L R o e f g = grind (arith, nat_tests, listings_read, always, found_once)

  pub room_for : (L : List Listing) → L ≡ frame.resources → HasRoom (length frame.resources) client v.lent → HasRoom (length L) client v.lent
  room_for L e room = subst (λ n. HasRoom n client v.lent) (ap length (sym e)) room

  -- What is owed and told

  count_there : count_by (is_by client) v.store.subs ≡ count_by (λ (s : Submission). s.submitted.sub.client == c.number) w.subs
  unfolding stored_of
  count_there = grind (arith, nat_tests, back, count_same bare_sub (is_by c.number))

  new_name : sub_of new ≡ record { client = c.number; ordinal = count_by (λ (s : Submission). s.submitted.sub.client == c.number) w.subs + 1 }
  unfolding new_submission
  new_name = refl

  pub name_is : (s : Sub) → s ≡ record { client = client; ordinal = count_by (is_by client) v.store.subs + 1 } → s ≡ sub_of new
  name_is s e = e ∙ ((λ i. record { client = back i; ordinal = count_there i + 1 }) ∙ sym new_name)

  new_index : new.submitted.index ≡ count_by (is_on id) w.subs + 1
  unfolding new_submission
  new_index = refl

  index_there : count_by (is_on (surface_of sink local)) v.store.subs ≡ count_by (is_on id) w.subs
  unfolding stored_of
  index_there = (λ i. count_by (is_on (id_is i)) (h.live.store i).subs) ∙ count_same bare_sub (is_on id) (is_on id) w.subs (λ x. refl)

  pub index_is : (n : ℕ) → n ≡ count_by (is_on (surface_of sink local)) v.store.subs + 1 → n ≡ new.submitted.index
  index_is n e = e ∙ (ap (λ m. m + 1) index_there ∙ sym new_index)

  pub next_is : (n : ℕ) → n ≡ count_by (is_on (surface_of sink local)) v.store.subs + 1 → n ≡ next_index (told_on v.damaged.surfaces (record { sink = sink; local = local }))
  next_is n e =
      e ∙ ((λ i. count_by (is_on (id_is i)) (h.live.store i).subs + 1)
      ∙ (next_stored w c local frame always allows v.damaged h.live.told ∙ ap (λ i. next_index (told_on v.damaged.surfaces i)) (sym id_is)))

  pub unplaced : (s : Sub) → s ≡ sub_of new → place_of v.owed.owed s ≡ None
  unplaced s e = ap (place_of v.owed.owed) e ∙ new_unplaced w c local frame v.owed.owed always h.live.owed

  pub few_owed : v.owed.owed.accepted < 18446744073709551615
  few_owed = few_accepted p w v.owed.owed h.plan always h.of_plan h.messages h.live.owed

  pub ended : (o : Option Held) (e : Option Ended) → o ≡ frame_of waiting → e ≡ ended_in v.flight o → e ≡ option_map (ended_of w) (waiting_on w (id_of c local))
  ended o e f g = g ∙ (ap (ended_in v.flight) f ∙ ended_is w v.flight waiting h.live.flown)

  pub replaced_name : (r : Option Sub) (o : Option Held) → r ≡ option_map (λ (x : Held). x.sub) o → o ≡ frame_of waiting → r ≡ waiting_on w (id_of c local)
  replaced_name r o e f = e ∙ (ap (option_map (λ (x : Held). x.sub)) f ∙ names_of waiting)

  -- What is wanted

  wants_is : (o : Option Held) → o ≡ frame_of waiting → wanted_by o ≡ wanted_of waiting
  wants_is o e = ap wanted_by e ∙ wanted_frame there w.subs (λ s f. (and_parts (is_waiting s) (is_on id s) f).0)

  pub wants_less : (n m : ℕ) (o : Option Held) → o ≡ frame_of waiting → n ≡ wanted_by o → n ≤ v.wanted + m
  wants_less n m o e f = omega (arith, f, wants_is o e, wanted_fits there w.subs, h.live.wanted)

  less : sum_by wants (map (replace_on id) w.subs) + wanted_of waiting ≡ sum_by wants w.subs
  less =
      subst (λ n. sum_by wants (map (replace_on id) w.subs) + n ≡ sum_by wants w.subs)
      (sum_one there w.subs (one_there is_waiting id w.subs (always.states.one_waits id)))
      (sum_less wants (replace_on id) there w.subs
      (λ t k e. drops (is_waiting t) (is_on id t) t refl e)
      (λ t k e. keeps_on (is_waiting t) (is_on id t) t e))

  new_wants : wants new ≡ length frame.metadata.references + 1
  unfolding new_submission
  new_wants = refl

  sum_after : sum_by wants after.subs ≡ sum_by wants (map (replace_on id) w.subs) + wants new
  unfolding accepted
  sum_after = sum_by_push wants (map (replace_on id) w.subs) new

  whole_after : AreWhole after.subs
  unfolding accepted
  whole_after s k =
      elim (contains_push (map (replace_on id) w.subs) new s k) [
        | inl m ↦ whole_mapped (replace_on id) w.subs (λ t. frame_replaced (is_waiting t && is_on id t) t) h.live.whole s m
        | inr e ↦ subst (λ (x : Submission). IsWhole x.submitted) e h.whole
      ]

  kept_by : (t : Bool) → is_last (last_created w c.number) local ≡ t → AreKept after (cond t None (Some id)) v.kept
  kept_by true e = kept_accepted w c local frame v.kept h.keeps h.known h.live.kept e
  kept_by false e = kept_created w c local frame v.kept h.keeps h.known h.live.kept fine e

  pub live_accepted : (store : Stored) (lent : List Lent) (owed : OwedAndRoom) (damaged : Damaged) (damage : Rectangle) (refs n : ℕ) (o : Option Held)
      → store ≡ storing client sink local frame blocks v.store → AreLent after lent → AreOwed after owed.owed
      → told_on damaged.surfaces (surface_of sink local) ≡ Some (with_damage (told_on v.damaged.surfaces (surface_of sink local)) damage) → damage ≡ root_damage frame
      → ((other : SurfaceId) → same_surface (surface_of sink local) other ≡ false → told_on damaged.surfaces other ≡ told_on v.damaged.surfaces other)
      → damaged.last ≡ v.damaged.last → o ≡ frame_of waiting → n ≡ wanted_by o → refs ≡ length frame.metadata.references → v.wanted + (length frame.metadata.references + 1) ≤ v.kept.spare
      → AreLive after (new_one w c local)
      (record { store = store; lent = lent; owed = owed; kept = v.kept; damaged = damaged; flight = v.flight; wanted = v.wanted + (refs + 1) - n })
  live_accepted store lent owed damaged damage refs n o e is_lent is_owed told same others last replaced wanted many room =
      record {
        store = stored_after store e;
        whole = whole_after;
        lent = is_lent;
        owed = is_owed;
        kept = kept_by (is_last (last_created w c.number) local) refl;
        told = told_accepted w c local frame always allows v.damaged damaged h.live.told
            (subst (λ i. told_on damaged.surfaces i ≡ Some (with_damage (told_on v.damaged.surfaces i) (root_damage frame))) id_is
            (told ∙ ap (λ r. Some (with_damage (told_on v.damaged.surfaces (surface_of sink local)) r)) same))
            (λ other f. others other (ap (λ i. same_surface i other) id_is ∙ f)) last;
        flown = flown_accepted w c local frame v.flight h.live.flown;
        wanted = omega (arith, less, sum_after, new_wants, h.live.wanted, wanted, wants_is o replaced, many);
        room = omega (arith, room, many);
      }
