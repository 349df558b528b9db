-- A submission becomes active: what hangs on its surface stands for the state then.
use Rattle.std.proofs.Common.{◌≡◌, ℕ, ◌+◌, ◌-◌, ◌≤◌, Bool, true, false, ◌&&◌, Option, Some, None, List, length, map, find, refl, ap, sym, ◌∙◌, subst, arith, cond, Contains, sum_by}
use Rattle.std.specs.Option.{option_map}
use Rattle.std.proofs.{lemmas.Bool.and_from, lemmas.Bool.and_parts, lemmas.Bool.both_ways, lemmas.Bool.Decides.nat_tests}
use Rattle.vz_ids.specs.{declared.SurfaceId.SurfaceId, declared.SurfaceRange.SurfaceRange, declared.Sub.Sub, Ids.same_surface, Ids.same_sub}
use Rattle.vz_frame.specs.declared.frame.Listing.{Listing}
use Rattle.vz_rules.specs.{declared.entry.State.TheVariants.Active, declared.entry.State.TheVariants.Past, Singly.as_one_rises, Singly.rising}
use Rattle.vz_rules.specs.World.{World, Submission, is_waiting, is_active, is_on, sub_of}
use Rattle.vz_rules.proofs.{Reached.self_same, Kept_singly.apart, Kept_singly.own_sub, Kept_singly.active_waits_not}
use Rattle.vz_refs.specs.Referring.{Referring, setting, unnamed}
use Rattle.vz_surface_manager.proofs.Risen_kept.{kept_rising}
use Rattle.vz_surfaces.specs.{declared.held.Held.Held, Stored.Stored, Stored.stored_of, Stored.bare_sub, Stored.activating, Memory.is_waiting_in}
use Rattle.vz_surfaces.specs.{Reading.held_of, Reading.active_on, Reading.waiting_at, Keeping.KeepsStored}
use Rattle.vz_surfaces.proofs.{Following.follows_activated, Kept_of_world.keeps_of_world}
use Rattle.vz_damage.specs.Told.{Damaged, told_on, with_active}
use Rattle.vz_surface_manager.proofs.{Raised.told_raised, Flights_kept.flown_risen, Live_kept.whole_mapped, Live_kept.kept_same, Live_kept.ended_is}
use Rattle.vz_returns.specs.{Lent.Lent, Lent.AreLent, Lent.IsLender, Owed.OwedAndRoom, Owed.AreOwed, Owed.ended_of, Owed.active_on as sub_active_on}
use Rattle.vz_returns.specs.{Changes.IsRising as Releases, declared.ended.Ended.Ended}
use Rattle.vz_returns.proofs.{Alive.one_there, Lent_kept.lends}
use Rattle.vz_surface_manager.specs.{Live.Live, Live.AreLive, Live.wants, Ended_subs.listings_of, Ended_subs.ended_in, Changes.IsRising}
use Rattle.vz_surface_manager.proofs.Wanted_places.{sum_less, sum_one, one_wants, wants_not}
use Rattle.vz_surface_manager.proofs.Found.{frame_of, acts_in, waits_in, listings_read, found_once, client_of, one_waits, waits_alone, waits_stored, is_waiting_there}

some_same : {A : Type 0} {a b : A} → Some a ≡ Some b → a ≡ b
some_same f = cc

frame_rises : (a b : Bool) (t : Submission) → (cond a (record t { state = Active; was_active = true }) (cond b (record t { state = Past }) t)).submitted ≡ t.submitted
frame_rises a b t = grind (arith, nat_tests)

past_wants : (a b : Bool) (t : Submission) → is_active t ≡ a → wants (cond (a && b) (record t { state = Past }) t) ≡ wants t
past_wants true true t e = sym (wants_not t (active_waits_not t e))
past_wants true false t e = refl
past_wants false b t e = refl

module _ (w : World) (but : Option SurfaceId) (s : Submission) (sub : Sub) (v : Live) (h : IsRising w but s sub v) where
  -- the active submission of its surface, if it has one
  abbrev acting : Option Submission
  acting = find (λ t. is_active t && is_on s.submitted.id t) w.subs

  pub id_is : (id : SurfaceId) → ((x : Submission) → Contains v.store.subs x → is_waiting x ≡ true → sub_of x ≡ sub → id ≡ x.submitted.id) → id ≡ s.submitted.id
  id_is id f = f (bare_sub s) (subst (λ (st : Stored). Contains st.subs (bare_sub s)) (sym h.live.store) (waits_stored w s h.known)) h.waits h.name

  pub acts_is : (o : Option Held) (id : SurfaceId) → id ≡ s.submitted.id → o ≡ option_map held_of (active_on v.store id) → o ≡ frame_of acting
  acts_is o id e f = acts_in w v.store s.submitted.id o h.always h.live.store (f ∙ ap (λ i. option_map held_of (active_on v.store i)) e)

  pub releases : (o : Option Held) (L : List Listing) → o ≡ frame_of acting → L ≡ listings_of o → Releases w s sub.client L v.lent
  releases o L e f = grind (arith, nat_tests, listings_read, found_once)

  pub is_lender : IsLender sub.client v.lent
  is_lender =
      let c = client_of w s h.always h.known in
      subst (λ n. IsLender n v.lent) (c.2 ∙ ap (λ (x : Sub). x.client) h.name) (lends w c.0 v.lent h.always c.1 h.live.lent)

  waits_is : (o : Option Held) (id : SurfaceId) → id ≡ s.submitted.id → o ≡ option_map held_of (waiting_at v.store id) → o ≡ Some (held_of s.submitted)
  waits_is o id e f =
      waits_in w v.store s.submitted.id o h.always h.live.store (f ∙ ap (λ i. option_map held_of (waiting_at v.store i)) e)
      ∙ ap frame_of (waits_alone w s h.always h.known h.waits)

  pub ranges_are : (x : Held) (id : SurfaceId) → id ≡ s.submitted.id → Some x ≡ option_map held_of (waiting_at v.store id) → x.frame.metadata.references ≡ s.submitted.frame.metadata.references
  ranges_are x id e f = ap (λ (y : Held). y.frame.metadata.references) (some_same (waits_is (Some x) id e f))

  wants_is : wants s ≡ length s.submitted.frame.metadata.references + 1
  wants_is = ap {B = ℕ} (λ (b : Bool). cond b (length s.submitted.frame.metadata.references + 1) 0) h.waits

  pub wants_less : (L : List SurfaceRange) → L ≡ s.submitted.frame.metadata.references → length L + 1 ≤ v.wanted
  wants_less L e = omega (arith, ap length e, wants_is, one_wants w.subs s h.known, h.live.wanted)

  pub fits : (L : List SurfaceRange) → L ≡ s.submitted.frame.metadata.references → length L + 1 ≤ v.kept.spare
  fits L e = omega (arith, wants_less L e, h.live.room)

  pub keeps : KeepsStored v.store
  keeps = subst KeepsStored (sym h.live.store) (keeps_of_world w h.always)

  pub waits_there : is_waiting_in v.store sub ≡ true
  waits_there = subst (λ n. is_waiting_in v.store n ≡ true) h.name (is_waiting_there w v.store s h.live.store h.known h.waits)

  pub past_is : (o : Option Held) (e : Option Ended) → o ≡ frame_of acting → e ≡ ended_in v.flight o → e ≡ option_map (ended_of w) (sub_active_on w s.submitted.id)
  past_is o e f g = g ∙ (ap (ended_in v.flight) f ∙ ended_is w v.flight acting h.live.flown)

  -- it waits no longer, and the others want what they wanted
  goes : (t : Submission) → Contains w.subs t → (is_waiting t && is_on s.submitted.id t) ≡ true → wants (as_one_rises s t) ≡ 0
  goes t c e = grind (arith, nat_tests, and_parts (is_waiting t) (is_on s.submitted.id t) e, one_waits w s t h.always h.known h.waits c, own_sub (sub_of s))

  stays : (t : Submission) → Contains w.subs t → (is_waiting t && is_on s.submitted.id t) ≡ false → wants (as_one_rises s t) ≡ wants t
  stays t c e = grind (arith, nat_tests, apart, both_ways, and_from, self_same, past_wants)

  less : sum_by wants (map (as_one_rises s) w.subs) + wants s ≡ sum_by wants w.subs
  less =
      let there : Submission → Bool = λ t. is_waiting t && is_on s.submitted.id t in
      subst (λ n. sum_by wants (map (as_one_rises s) w.subs) + n ≡ sum_by wants w.subs)
      (sum_one there w.subs (one_there is_waiting s.submitted.id w.subs (h.always.states.one_waits s.submitted.id))
      ∙ ap (λ (o : Option Submission). elim o as (λ o. ℕ) [ Some x ↦ wants x | None ↦ 0 ]) (waits_alone w s h.always h.known h.waits))
      (sum_less wants (as_one_rises s) there w.subs goes stays)

  pub live_risen : (store : Stored) (lent : List Lent) (owed : OwedAndRoom) (kept : Referring) (damaged : Damaged) (L : List SurfaceRange) (id : SurfaceId)
      → id ≡ s.submitted.id → L ≡ s.submitted.frame.metadata.references
      → store ≡ activating sub v.store → AreLent (rising s w) lent → AreOwed (rising s w) owed.owed
      → kept.sets ≡ setting id L v.kept.sets → kept.temporary ≡ unnamed L v.kept.temporary → v.kept.spare ≤ kept.spare + (length L + 1)
      → told_on damaged.surfaces id ≡ option_map with_active (told_on v.damaged.surfaces id)
      → ((other : SurfaceId) → same_surface id other ≡ false → told_on damaged.surfaces other ≡ told_on v.damaged.surfaces other)
      → damaged.last ≡ v.damaged.last
      → AreLive (rising s w) but (record { store = store; lent = lent; owed = owed; kept = kept; damaged = damaged; flight = v.flight; wanted = v.wanted - (length L + 1) })
  unfolding rising
  live_risen store lent owed kept damaged L id e ranges stored is_lent is_owed sets temporary spare told others last =
      record {
        store = stored ∙ (ap (activating sub) h.live.store ∙ (ap (λ n. activating n (stored_of w)) (sym h.name) ∙ sym (follows_activated w s h.always h.known)));
        whole = whole_mapped (as_one_rises s) w.subs same h.live.whole;
        lent = is_lent;
        owed = is_owed;
        kept = kept_same (rising s w) but _ kept (sets ∙ (λ i. setting (e i) (ranges i) v.kept.sets)) (temporary ∙ ap (λ l. unnamed l v.kept.temporary) ranges)
            (kept_rising w but s v.kept h.always h.known h.waits h.live.kept);
        told = told_raised w s h.always h.known h.waits v.damaged damaged h.live.told
            (subst (λ i. told_on damaged.surfaces i ≡ option_map with_active (told_on v.damaged.surfaces i)) e told)
            (λ other f. others other (ap (λ i. same_surface i other) e ∙ f)) last;
        flown = flown_risen s w v.flight h.live.flown;
        wanted = omega (arith, less, h.live.wanted, wants_is, ap length ranges);
        room = omega (arith, spare, h.live.room);
      }
    where
      same : (t : Submission) → (as_one_rises s t).submitted ≡ t.submitted
      same t = frame_rises (same_sub (sub_of t) (sub_of s)) (is_active t && is_on s.submitted.id t) t
