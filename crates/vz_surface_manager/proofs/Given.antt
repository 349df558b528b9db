-- What goes back to clients, and what is temporary: what stands for a state stands for the next one.
use Rattle.std.proofs.Common.{◌≡◌, ℕ, ◌+◌, ◌≤◌, Option, Some, None, List, [], refl, ap, sym, ◌∙◌, subst, arith, Contains, length}
use Rattle.vz_base.specs.declared.limits.TheConstants.{TEMPORARY_TICKS}
use Rattle.vz_ids.specs.{declared.FrameSinkId.FrameSinkId, declared.SurfaceId.SurfaceId}
use Rattle.vz_frame.specs.declared.message.Message.TheVariants.{Close}
use Rattle.vz_rules.specs.{Plan.Plan, Returns.feed, Returns.mark_fed, Messages.message_answer}
use Rattle.vz_rules.specs.{World.World, World.Client, World.Surface, Step.begin_answer, Step.next_tick, Kept.KeepsAlways}
use Rattle.std.proofs.{lemmas.List.length-append, lemmas.Bool.Decides.nat_tests}
use Rattle.vz_refs.specs.Referring.{Referring, Ranged, Temporary, lasting, of_others, keeping}
use Rattle.vz_surface_manager.specs.{Kept_surfaces.AreKept, Live.Live, Live.AreLive, Changes.IsNew}
use Rattle.vz_surface_manager.proofs.{Quiet.live_from, Quiet.live_by, Quiet.feeds_only}
use Rattle.vz_surface_manager.proofs.{Fed_kept.stays_fed, Ticked_kept.kept_ticking, Closed_kept.kept_closing, Kept_new.kept_new, Live_kept.kept_same}
use Rattle.vz_surfaces.specs.Stored.{Stored, marking}
use Rattle.vz_surfaces.proofs.Stores_kept as stored
use Rattle.vz_surfaces.proofs.{Following.follows_closed, Telling.tells_exists}
use Rattle.vz_surface_manager.proofs.{Stored.told_stays, Told_messages.told_closed}
use Rattle.vz_returns.specs.{Owed.OwedAndRoom, Owed.AreOwed}
use Rattle.vz_returns.proofs.Lent_kept.{lent_fed, lent_begun, lent_closed}
use Rattle.vz_returns.proofs.Owed_kept as owed
use Rattle.vz_surface_manager.proofs.Flights_kept.{flown_fed, flown_same}

pub live_fed : (w : World) (but : Option SurfaceId) (v : Live) (f : OwedAndRoom) → AreOwed (feed [] w) f.owed → AreLive w but v → AreLive (feed [] w) but (record v { owed = f })
unfolding feed
live_fed w but v f is h =
    live_from w (feed [] w) but but v _ (mark_fed w []) refl (feeds_only w []) (h.store ∙ sym (stored.stays_fed [] w)) (lent_fed [] w v.lent h.lent) is
    (stays_fed [] w but v.kept h.kept) (told_stays w (feed [] w) v.damaged tells_exists (stored.stays_fed [] w) refl h.told)
    (flown_fed [] w v.flight h.flown) refl (omega arith) h

pub live_ticked : (p : Plan) (w : World) (but : Option SurfaceId) (v : Live) (r : Referring) (tick : ℕ) → KeepsAlways w → tick ≡ next_tick w.tick
    → r.sets ≡ v.kept.sets → r.temporary ≡ lasting tick v.kept.temporary → r.spare ≡ v.kept.spare → AreLive w but v → AreLive (begin_answer p w).world but (record v { kept = r })
unfolding begin_answer
live_ticked p w but v r tick always next sets temporary spare h =
    live_by w (begin_answer p w).world but but v _ refl (h.store ∙ sym (stored.stays_ticked p w)) (lent_begun p w v.lent h.lent) (owed.stays_ticked p w v.owed.owed h.owed)
    (kept_same (begin_answer p w).world but _ r sets (temporary ∙ ap (λ n. lasting n v.kept.temporary) next) (kept_ticking p w but v.kept always h.kept))
    (told_stays w (begin_answer p w).world v.damaged tells_exists (stored.stays_ticked p w) refl h.told) (flown_same w _ v.flight refl refl h.flown) refl
    (omega (arith, spare)) h

pub live_closed : (w : World) (c : Client) (v : Live) (store : Stored) (r : Referring) (client : ℕ) (sink : FrameSinkId) → KeepsAlways w → Contains w.clients c → c.number ≡ client → c.sink ≡ sink
    → store ≡ marking client v.store → r.sets ≡ v.kept.sets → r.temporary ≡ of_others sink v.kept.temporary → r.spare ≡ v.kept.spare → AreLive w None v
    → AreLive (message_answer w c Close).world None (record v { store = store; kept = r })
unfolding message_answer
live_closed w c v store r client sink always known number own marked sets temporary spare h =
    live_by w (message_answer w c Close).world None None v _ refl
    (marked ∙ ((λ i. marking (back i) (h.store i)) ∙ sym (follows_closed w c))) (lent_closed w c v.lent h.lent) (owed.stays_closed w c v.owed.owed h.owed)
    (kept_same (message_answer w c Close).world None _ r sets (temporary ∙ ap (λ s. of_others s v.kept.temporary) (sym own)) (kept_closing w c v.kept always known h.kept))
    (told_closed w c v.damaged h.told) (flown_same w _ v.flight refl refl h.flown) refl (omega (arith, spare)) h
  where
    back : client ≡ c.number
    back = sym number

pub live_kept : (w : World) (c : Surface) (v : Live) (r : Referring) (id : SurfaceId) (until : ℕ) → KeepsAlways w → IsNew w c id → until ≡ w.tick + TEMPORARY_TICKS
    → r.sets ≡ v.kept.sets → r.temporary ≡ keeping v.kept.sets id until v.kept.temporary → r.spare ≡ v.kept.spare → AreLive w (Some id) v → AreLive w None (record v { kept = r })
live_kept w c v r id until always new late sets temporary spare h =
    live_by w w (Some id) None v _ refl h.store h.lent h.owed
    (kept_same w None _ r sets (temporary ∙ (λ i. keeping v.kept.sets (back i) (late i) v.kept.temporary))
    (kept_new w c v.kept always new.named new.known new.born new.exists new.stays new.now (subst (λ d. AreKept w (Some d) v.kept) (sym new.name) h.kept)))
    h.told h.flown refl (omega (arith, spare)) h
  where
    back : id ≡ c.id
    back = sym new.name

-- at most one surface more is kept
pub keeps_one : (sets : List Ranged) (id : SurfaceId) (until : ℕ) (kept : List Temporary) → length (keeping sets id until kept) ≤ length kept + 1
unfolding keeping
keeps_one sets id until kept = grind (arith, nat_tests, length-append kept)
