-- The listings of submissions.
use Rattle.std.specs.Prelude.{ℕ, Bool, ◌&&◌, Option, Some, None, List, [], map, find}
use Rattle.vz_ids.specs.declared.SurfaceId.{SurfaceId}
use Rattle.vz_frame.specs.declared.frame.Listing.{Listing}
use Rattle.vz_frame.specs.Frame.{lists, has_repeat}
use Rattle.vz_rules.specs.World.{World, Submission, is_waiting, is_active, is_on}

-- the ids of the listed resources
abbrev pub ids_of : List Listing → List ℕ
ids_of listings = map (λ (l : Listing). l.id) listings

-- a resource is listed twice
abbrev pub lists_twice : List Listing → Bool
lists_twice listings = has_repeat (λ (a b : Listing). lists a.id b) listings

-- the listings of a submission, or none if there is no submission
abbrev pub listed_by : Option Submission → List Listing
listed_by o = elim o [ Some s ↦ s.submitted.frame.resources | None ↦ [] ]

-- the listings of the waiting submission on a surface
abbrev pub waiting_listings : World → SurfaceId → List Listing
waiting_listings w id = listed_by (find (λ s. is_waiting s && is_on id s) w.subs)

-- the listings of the active submission on a surface
abbrev pub active_listings : World → SurfaceId → List Listing
active_listings w id = listed_by (find (λ s. is_active s && is_on id s) w.subs)
