-- A surface is destroyed: what hung on it stands for the state then.
use Rattle.std.proofs.Common.{◌≡◌, ℕ, ◌+◌, ◌-◌, ◌≤◌, Bool, true, false, not, ◌&&◌, ◌||◌, Option, Some, None, List, [], ◌∷◌, map, find, refl, ap, sym, ◌∙◌, subst, arith, cond, Contains, sum_by, is_some}
use Rattle.std.specs.{Option.option_map, List.list_any}
use Rattle.std.proofs.{lemmas.Bool.and_from, lemmas.Bool.and_parts, lemmas.Bool.both_ways, lemmas.Bool.Decides.nat_tests}
use Rattle.vz_ids.specs.{declared.SurfaceId.SurfaceId, declared.Sub.Sub, Ids.same_surface}
use Rattle.vz_frame.specs.declared.frame.Listing.{Listing}
use Rattle.vz_rules.specs.{declared.entry.Lost.Lost, declared.entry.State.TheVariants.Dropped, Reach.naming, Reach.drop_on, Singly.going}
use Rattle.vz_rules.specs.World.{World, Surface, Submission, existing, is_waiting, is_active, is_on, sub_of}
use Rattle.vz_rules.proofs.Members.{contains_at, at_same, find_at, any_from, found}
use Rattle.vz_rules.proofs.{Reached.self_same, Rising.find_map, Kept_facts.surfaces_apart}
use Rattle.vz_refs.specs.Referring.{Referring, removing}
use Rattle.vz_surface_manager.specs.{Kept_surfaces.has_kept, Changes.IsGoing}
use Rattle.vz_surface_manager.proofs.{Gone_kept.going_both, Flights_kept.flown_gone, Live_kept.whole_mapped, Live_kept.kept_same, Live_kept.ended_is}
use Rattle.vz_surfaces.specs.{declared.held.Held.Held, Keeping.KeepsStored, Memory.acting_on as stored_acting, Memory.waiting_on as stored_waiting}
use Rattle.vz_surfaces.specs.Stored.{Stored, stored_of, bare_surface, bare_sub, destroying}
use Rattle.vz_surfaces.specs.Reading.{standing, stands, held_of, active_on, waiting_at}
use Rattle.vz_surfaces.proofs.{Following.follows_destroyed, Telling.standing_bare, Telling.tells_exists, Kept_of_world.keeps_of_world}
use Rattle.vz_damage.specs.Told.{Damaged, told_on}
use Rattle.vz_surface_manager.proofs.Told_gone.{told_gone}
use Rattle.vz_returns.specs.{Lent.Lent, Lent.AreLent, Lent.IsLender, Changes.IsGoing as Releases, declared.ended.Ended.Ended}
use Rattle.vz_returns.proofs.{Alive.one_there, Lent_kept.lends}
use Rattle.vz_returns.specs.Owed.{OwedAndRoom, AreOwed, ended_of, active_on as sub_active_on, waiting_on as sub_waiting_on}
use Rattle.vz_surface_manager.specs.{Live.Live, Live.AreLive, Live.wants, Ended_subs.listings_of, Ended_subs.ended_in, Ended_subs.wanted_by}
use Rattle.vz_surface_manager.proofs.Wanted_places.{sum_less, sum_one, one_wants, wanted_of, wants_not}
use Rattle.vz_surface_manager.proofs.Found.{frame_of, acts_in, waits_in, listings_read, found_once, client_of_surface}

some_same : {A : Type 0} {a b : A} → Some a ≡ Some b → a ≡ b
some_same f = cc

frame_drops : (a : Bool) (t : Submission) → (cond a (record t { state = Dropped }) t).submitted ≡ t.submitted
frame_drops a t = grind (arith, nat_tests)

drop_wants : (a b on : Bool) (t : Submission) → is_waiting t ≡ a → ((a && on) ≡ true) → wants (cond ((a || b) && (on || false)) (record t { state = Dropped }) t) ≡ 0
drop_wants a b on t e f = grind (arith, nat_tests)

drop_keeps : (a b on : Bool) (t : Submission) → is_waiting t ≡ a → ((a && on) ≡ false) → wants (cond ((a || b) && (on || false)) (record t { state = Dropped }) t) ≡ wants t
drop_keeps true b true t e f = absurd (cc)
drop_keeps true b false t e f = refl
drop_keeps false true true t e f = sym (wants_not t e)
drop_keeps false true false t e f = refl
drop_keeps false false on t e f = refl

pub wanted_frame : (p : Submission → Bool) (subs : List Submission) → ((s : Submission) → p s ≡ true → is_waiting s ≡ true) → wanted_by (frame_of (find p subs)) ≡ wanted_of (find p subs)
wanted_frame p subs waits = grind (arith, nat_tests, frame_of, wanted_of, find_at p subs)

pub wanted_fits : (p : Submission → Bool) (subs : List Submission) → wanted_of (find p subs) ≤ sum_by wants subs
wanted_fits p subs = grind (arith, nat_tests, wanted_of, one_wants, find_at)

names_bare : (o : Option Submission) → option_map (λ (s : Submission). sub_of s) (option_map bare_sub o) ≡ option_map (λ (s : Submission). sub_of s) o
names_bare o = grind (arith, nat_tests)

-- the name of what waits on a surface of a store
pub stored_waits : (w : World) (id : SurfaceId) → stored_waiting (stored_of w) id ≡ sub_waiting_on w id
unfolding stored_waiting stored_of
stored_waits w id = grind (arith, nat_tests, find_map, names_bare)

-- and of what is active there
pub stored_acts : (w : World) (id : SurfaceId) → stored_acting (stored_of w) id ≡ sub_active_on w id
unfolding stored_acting stored_of
stored_acts w id = grind (arith, nat_tests, find_map, names_bare)

module _ (w : World) (d : Surface) (id : SurfaceId) (v : Live) (h : IsGoing w d id v) where
  abbrev there : Submission → Bool
  there t = is_waiting t && is_on d.id t

  abbrev pub waiting : Option Submission
  waiting = find (λ t. is_waiting t && is_on d.id t) w.subs

  abbrev pub acting : Option Submission
  acting = find (λ t. is_active t && is_on d.id t) w.subs

  back : id ≡ d.id
  back = sym h.name

  alone : (c : Surface) → Contains w.surfaces c → same_surface c.id d.id ≡ true → c ≡ d
  alone c k e = grind (arith, nat_tests, contains_at w.surfaces c k, contains_at w.surfaces d h.known, at_same w.surfaces, surfaces_apart w)

  existing_is : existing w d.id ≡ Some d
  existing_is = by (existing w d.id) refl
    where
      by : (o : Option Surface) → existing w d.id ≡ o → o ≡ Some d
      by (Some c) e =
          let at = find_at (λ s. same_surface s.id d.id && not s.destroyed) w.surfaces c e in
          ap (λ z. Some z) (alone c at.0 (and_parts (same_surface c.id d.id) (not c.destroyed) at.1).0)
      by None e =
          absurd (both_ways (list_any (λ (s : Surface). same_surface s.id d.id && not s.destroyed) w.surfaces)
          (sym (found (λ (s : Surface). same_surface s.id d.id && not s.destroyed) w.surfaces) ∙ ap is_some e)
          (any_from (λ (s : Surface). same_surface s.id d.id && not s.destroyed) w.surfaces d h.known
          (and_from (same_surface d.id d.id) (not d.destroyed) (self_same d.id) (ap not h.exists))))

  pub standing_is : standing id v.store.surfaces ≡ Some (bare_surface d)
  unfolding stored_of
  standing_is = grind (arith, nat_tests, back, standing_bare w.surfaces d.id, existing_is)

  pub client_is : (client : ℕ) → Some client ≡ option_map (λ (c : Surface). c.client) (standing id v.store.surfaces) → client ≡ d.client
  client_is client e = some_same (e ∙ ap (option_map (λ (c : Surface). c.client)) standing_is)

  pub none_missing : ◌≡◌ {A = Option ℕ} None (option_map (λ (c : Surface). c.client) (standing id v.store.surfaces)) → ⊥
  none_missing e = no (e ∙ ap (option_map (λ (c : Surface). c.client)) standing_is)
    where
      no : ◌≡◌ {A = Option ℕ} None (Some d.client) → ⊥
      no f = cc

  pub is_lender : (client : ℕ) → client ≡ d.client → IsLender client v.lent
  is_lender client e =
      let c = client_of_surface w d h.always h.known in
      subst (λ n. IsLender n v.lent) (c.2 ∙ sym e) (lends w c.0 v.lent h.always c.1 h.live.lent)

  pub waits_is : (o : Option Held) → o ≡ option_map held_of (waiting_at v.store id) → o ≡ frame_of waiting
  waits_is o f = waits_in w v.store d.id o h.always h.live.store (f ∙ ap (λ i. option_map held_of (waiting_at v.store i)) (sym h.name))

  pub acts_is : (o : Option Held) → o ≡ option_map held_of (active_on v.store id) → o ≡ frame_of acting
  acts_is o f = acts_in w v.store d.id o h.always h.live.store (f ∙ ap (λ i. option_map held_of (active_on v.store i)) (sym h.name))

  pub releases : (client : ℕ) (o a : Option Held) (L M : List Listing) → client ≡ d.client → o ≡ frame_of waiting → a ≡ frame_of acting → L ≡ listings_of o → M ≡ listings_of a
      → Releases w d client L M v.lent
  releases client o a L M own e f g k = grind (arith, nat_tests, listings_read, found_once)

  wants_is : (o : Option Held) → o ≡ frame_of waiting → wanted_by o ≡ wanted_of waiting
  wants_is o e = ap wanted_by e ∙ wanted_frame there w.subs (λ s f. (and_parts (is_waiting s) (is_on d.id s) f).0)

  pub wants_less : (n : ℕ) (o : Option Held) → o ≡ frame_of waiting → n ≡ wanted_by o → n ≤ v.wanted
  wants_less n o e f = omega (arith, f, wants_is o e, wanted_fits there w.subs, h.live.wanted)

  pub keeps : KeepsStored v.store
  keeps = subst KeepsStored (sym h.live.store) (keeps_of_world w h.always)

  pub stands_there : stands v.store id ≡ true
  stands_there = (λ i. stands (h.live.store i) (back i)) ∙ (tells_exists w d.id ∙ ap is_some existing_is)

  pub waiting_is : (o : Option Held) (e : Option Ended) → o ≡ frame_of waiting → e ≡ ended_in v.flight o → e ≡ option_map (ended_of w) (sub_waiting_on w d.id)
  waiting_is o e f g = g ∙ (ap (ended_in v.flight) f ∙ ended_is w v.flight waiting h.live.flown)

  pub acting_is : (o : Option Held) (e : Option Ended) → o ≡ frame_of acting → e ≡ ended_in v.flight o → e ≡ option_map (ended_of w) (sub_active_on w d.id)
  acting_is o e f g = g ∙ (ap (ended_in v.flight) f ∙ ended_is w v.flight acting h.live.flown)

  pub ends_name : (r : Option Sub) → r ≡ stored_waiting v.store id → r ≡ sub_waiting_on w id
  ends_name r e = e ∙ (ap (λ st. stored_waiting st id) h.live.store ∙ stored_waits w id)

  pub acts_name : (r : Option Sub) → r ≡ stored_acting v.store id → r ≡ sub_active_on w id
  acts_name r e = e ∙ (ap (λ st. stored_acting st id) h.live.store ∙ stored_acts w id)

  pub lost_is : (r : Lost) → ((c : Surface) → standing id v.store.surfaces ≡ Some c → r ≡ record { client = c.client; surface = c.number }) → r ≡ record { client = d.client; surface = d.number }
  lost_is r f = f (bare_surface d) standing_is

  less : sum_by wants (map (drop_on (d ∷ [])) w.subs) + wanted_of waiting ≡ sum_by wants w.subs
  less =
      subst (λ n. sum_by wants (map (drop_on (d ∷ [])) w.subs) + n ≡ sum_by wants w.subs)
      (sum_one there w.subs (one_there is_waiting d.id w.subs (h.always.states.one_waits d.id)))
      (sum_less wants (drop_on (d ∷ [])) there w.subs
      (λ t c e. drop_wants (is_waiting t) (is_active t) (is_on d.id t) t refl e)
      (λ t c e. drop_keeps (is_waiting t) (is_active t) (is_on d.id t) t refl e))

  pub live_gone : (store : Stored) (lent : List Lent) (owed : OwedAndRoom) (kept : Referring) (damaged : Damaged) (n : ℕ) (o : Option Held)
      → o ≡ frame_of waiting → n ≡ wanted_by o
      → store ≡ destroying id v.store → AreLent (going d w) lent → AreOwed (going d w) owed.owed
      → kept.sets ≡ removing id v.kept.sets → kept.temporary ≡ v.kept.temporary → v.kept.spare ≤ kept.spare
      → told_on damaged.surfaces id ≡ None
      → ((other : SurfaceId) → same_surface id other ≡ false → told_on damaged.surfaces other ≡ told_on v.damaged.surfaces other)
      → damaged.last ≡ v.damaged.last
      → AreLive (going d w) None (record { store = store; lent = lent; owed = owed; kept = kept; damaged = damaged; flight = v.flight; wanted = v.wanted - n })
  unfolding going
  live_gone store lent owed kept damaged n o is_held wanted stored is_lent is_owed sets temporary spare told others last =
      record {
        store = stored ∙ ((λ i. destroying (back i) (h.live.store i)) ∙ sym (follows_destroyed w d));
        whole = whole_mapped (drop_on (d ∷ [])) w.subs same h.live.whole;
        lent = is_lent;
        owed = is_owed;
        kept = kept_same (going d w) None _ kept (sets ∙ ap (λ i. removing i v.kept.sets) (sym h.name)) temporary
            (going_both w d v.kept h.named (ap (has_kept v.kept.temporary) h.name ∙ h.lasts_not) h.live.kept).0;
        told = told_gone w d v.damaged damaged h.live.told (ap (told_on damaged.surfaces) h.name ∙ told)
            (λ other f. others other (ap (λ i. same_surface i other) (sym h.name) ∙ f)) last;
        flown = flown_gone d w v.flight h.live.flown;
        wanted = omega (arith, less, h.live.wanted, wanted, wants_is o is_held);
        room = omega (arith, spare, h.live.room);
      }
    where
      same : (t : Submission) → (drop_on (d ∷ []) t).submitted ≡ t.submitted
      same t = frame_drops ((is_waiting t || is_active t) && (is_on d.id t || false)) t

  pub named_gone : naming (going d w) ≡ going d w
  named_gone = (going_both w d v.kept h.named (ap (has_kept v.kept.temporary) h.name ∙ h.lasts_not) h.live.kept).1
