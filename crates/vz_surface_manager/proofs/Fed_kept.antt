-- What is kept stays, as submissions get feedback.
use Rattle.std.proofs.Common.{◌≡◌, Option, List, [], ◌∷◌, map, refl, arith}
use Rattle.vz_ids.specs.{declared.SurfaceId.SurfaceId, declared.Sub.Sub}
use Rattle.vz_rules.specs.{World.World, World.Submission, World.active_frames, Returns.mark_fed, Returns.feed}
use Rattle.vz_rules.proofs.Members.{contains_map}
use Rattle.vz_refs.specs.Referring.{Referring}
use Rattle.vz_surface_manager.specs.Kept_surfaces.{AreNoted, AreKept}
use Rattle.vz_surface_manager.proofs.Sets_kept.{named_alike, lasts_by}
use Rattle.std.proofs.lemmas.Bool.Decides.{nat_tests}

-- the active frames are the same
pub frames_fed : (w : World) (presented : List Sub) (xs : List Submission) → active_frames (map (mark_fed w presented) xs) ≡ active_frames xs
frames_fed w presented [] = refl
frames_fed w presented (s ∷ xs) = grind (arith, nat_tests, frames_fed w presented xs)

module _ (presented : List Sub) (w : World) (but : Option SurfaceId) (r : Referring) (h : AreKept w but r) where
  noted_fed : AreNoted (feed presented w) but
  unfolding feed
  noted_fed s t c p q m a b on n = grind (arith, nat_tests, contains_map (mark_fed w presented) w.subs s p, contains_map (mark_fed w presented) w.subs t q)

  pub stays_fed : AreKept (feed presented w) but r
  unfolding feed
  stays_fed = grind (arith, nat_tests, frames_fed w presented w.subs, lasts_by w (feed presented w), named_alike w (feed presented w), noted_fed)
