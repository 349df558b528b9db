-- What stays where submissions keep what they were accepted with.
use Rattle.std.proofs.Common.{◌≡◌, Option, List, map, ap, sym, ◌∙◌, subst, arith}
use Rattle.std.specs.{Prelude.Result, Prelude.Ok, Prelude.OnOk, Option.option_map}
use Rattle.vz_rules.specs.{World.World, World.Submission, World.sub_of, Kept.IsWhole}
use Rattle.vz_rules.proofs.Members.{contains_map}
use Rattle.vz_surface_manager.specs.{Flown.Flown, Flown.AreFlown, Kept_surfaces.AreKept, Live.AreWhole, Ended_subs.ended_in}
use Rattle.vz_ids.specs.declared.SurfaceId.{SurfaceId}
use Rattle.vz_refs.specs.Referring.{Referring}
use Rattle.vz_returns.specs.Owed.{ended_of}
use Rattle.vz_surface_manager.proofs.{Flights_kept.flown_flies, Found.frame_of}
use Rattle.std.proofs.lemmas.Bool.Decides.{nat_tests}

pub whole_mapped : (f : Submission → Submission) (subs : List Submission) → ((s : Submission) → (f s).submitted ≡ s.submitted) → AreWhole subs → AreWhole (map f subs)
whole_mapped f subs same h s c =
    let m = contains_map f subs s c in
    subst IsWhole (sym (same m.0) ∙ ap (λ (x : Submission). x.submitted) m.2) (h m.0 m.1)

-- what is set and what is temporary is all that counts
pub kept_same : (w : World) (but : Option SurfaceId) (r q : Referring) → q.sets ≡ r.sets → q.temporary ≡ r.temporary → AreKept w but r → AreKept w but q
kept_same w but r q sets temporary h = grind (arith, nat_tests)

-- what is said of a submission that ends
pub ended_is : (w : World) (flight : Option (List Flown)) (o : Option Submission) → AreFlown w flight → ended_in flight (frame_of o) ≡ option_map (ended_of w) (option_map (λ (s : Submission). sub_of s) o)
ended_is w flight o h = grind (arith, nat_tests, flown_flies)

-- the fact of an answer that is Ok
pub got : {A E : Type 0} (r : Result A E) (x : A) (P : Type 0) → r ≡ Ok x → OnOk r P → P
got r x P e h = subst (λ (q : Result _ _). OnOk q P) e h
