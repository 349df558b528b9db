-- A surface on which nothing was accepted: nothing is to be told of it.
use Rattle.std.proofs.Common.{arith, ◌≡◌, ℕ, ◌+◌, Bool, false, None, List, [], ◌∷◌, count_by, length, refl, sym, ◌∙◌, cond}
use Rattle.vz_geom.specs.Rectangle.{Rectangle}
use Rattle.vz_ids.specs.{declared.SurfaceId.SurfaceId, Ids.same_surface}
use Rattle.vz_rules.specs.World.{Submission, is_on, is_active, active_frames, frame_on}
use Rattle.vz_rules.proofs.Counts.{count_cons}
use Rattle.vz_surface_manager.proofs.{Risen_one.active_cons, Risen_one.seen_off, Raised.damages, Raised.as_many}
use Rattle.std.proofs.lemmas.Bool.Decides.{nat_tests}

empty_of : (l : List Rectangle) → length l ≡ 0 → l ≡ []
empty_of [] e = refl
empty_of (r ∷ l) e = absurd (omega (arith, e))

pub no_damages : (id : SurfaceId) (xs : List Submission) → count_by (is_on id) xs ≡ 0 → damages id xs ≡ []
no_damages id xs none = empty_of (damages id xs) (as_many id xs ∙ none)

none_by : (t : Bool) (n : ℕ) → cond {A = ℕ} t 1 0 + n ≡ 0 → (t ≡ false) × (n ≡ 0)
none_by t n e = grind (arith, nat_tests)

none_here : (id : SurfaceId) (s : Submission) (xs : List Submission) → count_by (is_on id) (s ∷ xs) ≡ 0
    → (same_surface s.submitted.id id ≡ false) × (count_by (is_on id) xs ≡ 0)
none_here id s xs none = none_by (is_on id s) (count_by (is_on id) xs) (sym (count_cons (is_on id) s xs) ∙ none)

pub no_frame : (id : SurfaceId) (xs : List Submission) → count_by (is_on id) xs ≡ 0 → frame_on id (active_frames xs) ≡ None
no_frame id [] none = refl
no_frame id (s ∷ xs) none = grind (arith, nat_tests, none_here id s xs none, active_cons id s xs, seen_off id (is_active s) s.submitted (frame_on id (active_frames xs)), no_frame id xs)
