-- The submissions of the drawn frame, and what they list.
use Rattle.std.specs.Prelude.{◌≡◌, Bool, false, Option, Some, None, List, map}
use Rattle.std.specs.Option.{option_map}
use Rattle.std.specs.List.{Contains}
use Rattle.vz_ids.specs.declared.Sub.{Sub}
use Rattle.vz_frame.specs.declared.frame.Listing.{Listing}
use Rattle.vz_rules.specs.World.{World, Submission, has_sub, sub_of}

-- a submission of the drawn frame, with the resources that it lists
abbrev pub Flown : Type 0
Flown = Sub × List Listing

-- the submissions of a drawn frame
abbrev pub subs_of : List Flown → List Sub
subs_of flown = map (λ (f : Flown). f.0) flown

-- the submission is in the drawn frame, if there is one
abbrev pub flies : Option (List Flown) → Sub → Bool
flies None sub = false
flies (Some flown) sub = has_sub (subs_of flown) sub

-- the drawn frame has the submissions that are in flight in the state, and each with the resources
-- that it lists
pub record AreFlown (w : World) (flight : Option (List Flown)) : Type 0 where
  pub drawn : w.in_flight ≡ option_map subs_of flight
  pub listed : (flown : List Flown) (f : Flown) → flight ≡ Some flown → Contains flown f
      → (s : Submission) × Contains w.subs s × (sub_of s ≡ f.0) × (s.submitted.frame.resources ≡ f.1)
