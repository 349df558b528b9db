-- What is set and what is temporary stays, where what it depends on stays.
use Rattle.std.proofs.Common.{◌≡◌, ℕ, Option, None, [], ap, sym, ◌∙◌, subst, Contains, arith}
use Rattle.vz_ids.specs.declared.SurfaceId.{SurfaceId}
use Rattle.vz_rules.specs.{Plan.Plan, Reach.is_named_now, Reach.has_closed}
use Rattle.vz_rules.specs.World.{World, Surface, opening, active_frames, frame_on}
use Rattle.vz_rules.proofs.{Members.contains_none, Kept_reach.named_by, Kept_reach.named_is}
use Rattle.vz_refs.specs.{Referring.Referring, Referring.ranges_of, Meaning.references_of}
use Rattle.vz_surface_manager.specs.Kept_surfaces.{lasts, IsKeptFor, AreKept}
use Rattle.vz_surface_manager.proofs.Quiet_changes.{IsQuiet, same_closed}
use Rattle.std.proofs.lemmas.Bool.Decides.{nat_tests}

-- the same is named where the active frames and the surfaces are the same
pub named_alike : (w v : World) (id : SurfaceId) → active_frames v.subs ≡ active_frames w.subs → v.surfaces ≡ w.surfaces → is_named_now v id ≡ is_named_now w id
named_alike w v id f s = named_is v id ∙ (ap (λ ss. named_by ss id (active_frames v.subs)) s ∙ (ap (named_by w.surfaces id) f ∙ sym (named_is w id)))

pub lasts_by : (w v : World) (c : Surface) → is_named_now v c.id ≡ is_named_now w c.id → has_closed v c.client ≡ has_closed w c.client → v.tick ≡ w.tick → lasts v c ≡ lasts w c
unfolding lasts
lasts_by w v c n k t = grind (arith, nat_tests)

-- where submissions, surfaces, the tick and what is closed stay
pub stays_same : (w v : World) (but : Option SurfaceId) (r : Referring) → v.subs ≡ w.subs → v.surfaces ≡ w.surfaces → v.tick ≡ w.tick → ((c : ℕ) → has_closed v c ≡ has_closed w c)
    → AreKept w but r → AreKept v but r
stays_same w v but r subs surfaces tick closed h =
    record {
      sets = λ id. h.sets id ∙ ap (λ s. references_of (frame_on id (active_frames s))) (sym subs);
      own = h.own;
      all_set = λ i c. h.all_set i (subst (λ s. Contains (active_frames s) i) subs c);
      lasting = λ c m e. h.lasting c (subst (λ ss. Contains ss c) surfaces m) e ∙ sym (lasts_by w v c (named_alike w v c.id (ap active_frames subs) surfaces) (closed c.client) tick);
      fresh = λ c m e. h.fresh c (subst (λ ss. Contains ss c) surfaces m) e;
      known = λ t m. subst (λ ss. IsKeptFor ss t) (sym surfaces) (h.known t m);
      noted = λ s t c p q m a b on n. h.noted s t c (subst (λ l. Contains l s) subs p) (subst (λ l. Contains l t) subs q) (subst (λ ss. Contains ss c) surfaces m) a b on n;
    }

pub kept_like : (w v : World) (but : Option SurfaceId) (r : Referring) → IsQuiet w v → AreKept w but r → AreKept v but r
kept_like w v but r q = stays_same w v but r q.subs q.surfaces q.tick (same_closed q.change w v q.clients q.closes)

-- The opening

pub kept_opening : (p : Plan) (r : Referring) → r.sets ≡ [] → r.temporary ≡ [] → AreKept (opening p) None r
unfolding opening ranges_of
kept_opening p r sets temporary = grind (arith, nat_tests, contains_none)
