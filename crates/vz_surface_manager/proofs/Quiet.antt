-- What stands for the surfaces, where no submission comes to wait or waits no longer.
use Rattle.std.proofs.Common.{◌≡◌, ◌≤◌, Option, List, [], ◌∷◌, map, refl, ap, sym, ◌∙◌, subst, arith, sum_by}
use Rattle.std.proofs.{lemmas.List.Sums.sum_by-cons, lemmas.Bool.Decides.nat_tests}
use Rattle.vz_ids.specs.{declared.SurfaceId.SurfaceId, declared.Sub.Sub}
use Rattle.vz_rules.specs.{World.World, World.Submission, World.is_waiting, Reach.naming, Returns.feedback_of, Returns.mark_fed}
use Rattle.vz_rules.proofs.Members.{map_fixed}
use Rattle.vz_surfaces.specs.Stored.{bare_surface, bare_sub, stored_of}
use Rattle.vz_surfaces.proofs.{Stores_kept.stays_named, Telling.tells_exists}
use Rattle.vz_returns.specs.{Lent.Lent, Lent.AreLent, Owed.Owed, Owed.Owes, Owed.AreOwed}
use Rattle.vz_returns.proofs.Lent_kept.{lent_naming}
use Rattle.vz_returns.proofs.Owed_kept as owed
use Rattle.vz_surface_manager.specs.{Kept_surfaces.AreKept, Told_damage.AreTold, Flown.AreFlown, Live.Live, Live.AreLive, Live.AreWhole, Live.wants}
use Rattle.vz_surface_manager.proofs.{Live_kept.whole_mapped, Quiet_changes.IsQuiet, Sets_kept.kept_like, Named_kept.kept_naming}
use Rattle.vz_surface_manager.proofs.{Stored.told_stays, Flights_kept.flown_same}

-- the submissions may only be fed
pub record OnlyFeeds (f : Submission → Submission) : Type 0 where
  pub submitted : (s : Submission) → (f s).submitted ≡ s.submitted
  pub waits : (s : Submission) → is_waiting (f s) ≡ is_waiting s

wants_same : (f : Submission → Submission) (s : Submission) → OnlyFeeds f → wants (f s) ≡ wants s
wants_same f s h = grind (arith, nat_tests)

sum_same : (f : Submission → Submission) (xs : List Submission) → OnlyFeeds f → sum_by wants (map f xs) ≡ sum_by wants xs
sum_same f [] h = refl
sum_same f (x ∷ xs) h = omega (arith, sum_by-cons wants (f x) (map f xs), sum_by-cons wants x xs, wants_same f x h, sum_same f xs h)

pub live_from : (w v : World) (b c : Option SurfaceId) (x y : Live) (f : Submission → Submission) → v.subs ≡ map f w.subs → OnlyFeeds f
    → y.store ≡ stored_of v → AreLent v y.lent → AreOwed v y.owed.owed → AreKept v c y.kept → AreTold v y.damaged → AreFlown v y.flight
    → y.wanted ≡ x.wanted → x.kept.spare ≤ y.kept.spare → AreLive w b x → AreLive v c y
live_from w v b c x y f subs feeds store lent owed kept told flown wanted spare h =
    record {
      store = store;
      whole = subst AreWhole (sym subs) (whole_mapped f w.subs feeds.submitted h.whole);
      lent = lent;
      owed = owed;
      kept = kept;
      told = told;
      flown = flown;
      wanted = wanted ∙ (h.wanted ∙ (sym (sum_same f w.subs feeds) ∙ ap (sum_by wants) (sym subs)));
      room = omega (arith, wanted, h.room, spare);
    }

feeds_none : OnlyFeeds (λ s. s)
feeds_none = record { submitted = λ s. refl; waits = λ s. refl }

-- the submissions stay
pub live_by : (w v : World) (b c : Option SurfaceId) (x y : Live) → v.subs ≡ w.subs
    → y.store ≡ stored_of v → AreLent v y.lent → AreOwed v y.owed.owed → AreKept v c y.kept → AreTold v y.damaged → AreFlown v y.flight
    → y.wanted ≡ x.wanted → x.kept.spare ≤ y.kept.spare → AreLive w b x → AreLive v c y
live_by w v b c x y subs = live_from w v b c x y (λ s. s) (subs ∙ sym (map_fixed (λ s. s) w.subs (λ s k. refl))) feeds_none

stored_like : (w v : World) → IsQuiet w v → stored_of v ≡ stored_of w
unfolding stored_of
stored_like w v q = λ i. record { surfaces = map bare_surface (q.surfaces i); subs = map bare_sub (q.subs i) }

owed_like : (w v : World) (f : Owed) → IsQuiet w v → AreOwed w f → AreOwed v f
owed_like w v f q h =
    subst (λ (subs : List Submission). Owes (feedback_of v []) subs f) (sym q.subs)
    (subst (λ (flying : Option (List Sub)). Owes (feedback_of (record v { in_flight = flying }) []) w.subs f) (sym q.in_flight) h)

-- a quiet change, by which at most what clients lent changes
pub live_like : (w v : World) (b : Option SurfaceId) (x : Live) (lent : List Lent) → IsQuiet w v → AreLent v lent → AreLive w b x
    → AreLive v b (record x { lent = lent })
live_like w v b x lent q is h =
    let same : stored_of v ≡ stored_of w = stored_like w v q in
    live_by w v b b x _ q.subs (h.store ∙ sym same) is (owed_like w v x.owed.owed q h.owed) (kept_like w v b x.kept q h.kept)
    (told_stays w v x.damaged tells_exists same q.last h.told) (flown_same w v x.flight q.in_flight q.subs h.flown) refl (omega arith) h

pub live_named : (w : World) (b : Option SurfaceId) (x : Live) → AreLive w b x → AreLive (naming w) b x
unfolding naming
live_named w b x h =
    live_by w (naming w) b b x x refl (h.store ∙ sym (stays_named w)) (lent_naming w x.lent h.lent) (owed.stays_named w x.owed.owed h.owed)
    (kept_naming w b x.kept h.kept) (told_stays w (naming w) x.damaged tells_exists (stays_named w) refl h.told)
    (flown_same w (naming w) x.flight refl refl h.flown) refl (omega arith) h

-- feedback
pub feeds_only : (w : World) (presented : List Sub) → OnlyFeeds (mark_fed w presented)
feeds_only w presented = record { submitted = λ s. refl; waits = λ s. refl }
