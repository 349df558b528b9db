-- What is kept, as a submission is accepted, and as a new surface is kept.
use Rattle.std.proofs.Common.{◌≡◌, Bool, true, false, ◌||◌, List, [], ◌∷◌, ◌++◌, map, refl, ap, ◌∙◌, cond, Contains, arith}
use Rattle.std.specs.List.{list_any}
use Rattle.std.proofs.{lemmas.Bool.or_right, lemmas.Bool.Decides.nat_tests}
use Rattle.vz_ids.specs.declared.SurfaceId.{SurfaceId}
use Rattle.vz_rules.specs.World.{World, Submission, FrameData, is_active, active_frames}
use Rattle.vz_rules.specs.{Reach.is_named_now, Messages.replace_on, Kept.KeepsAlways, Kept.stands_in}
use Rattle.vz_rules.proofs.{Members.contains_here, Members.contains_there, Kept_reach.named_by, Kept_reach.named_is}
use Rattle.vz_surface_manager.proofs.{Risen_one.waits_inactive, Risen_kept.frame_of}

-- What is named

any_same : {A : Type 0} (p q : A → Bool) (xs : List A) → ((x : A) → Contains xs x → p x ≡ q x) → list_any p xs ≡ list_any q xs
any_same p q [] e = refl
any_same p q (x ∷ xs) e =
    ap (λ t. t || list_any p xs) (e x (contains_here x xs)) ∙ ap (λ t. q x || t) (any_same p q xs (λ y c. e y (contains_there x y xs c)))

-- where the active frames are the same, and their surfaces stand, the same is named
pub same_named : (w v : World) (id : SurfaceId) → active_frames v.subs ≡ active_frames w.subs
    → ((i : FrameData) → Contains (active_frames w.subs) i → stands_in v.surfaces i.id ≡ stands_in w.surfaces i.id) → is_named_now v id ≡ is_named_now w id
same_named w v id frames stand = grind (arith, nat_tests, named_is v id, named_by v.surfaces id, any_same, named_is w id)

-- the surfaces of active frames stand
pub stands_active : (w : World) (i : FrameData) → KeepsAlways w → Contains (active_frames w.subs) i → stands_in w.surfaces i.id ≡ true
stands_active w i h c = grind (arith, nat_tests, frame_of w.subs i c, or_right)

-- Submissions

pub replaced_state : (id : SurfaceId) (s : Submission) → is_active (replace_on id s) ≡ is_active s
replaced_state id s = grind (arith, nat_tests, waits_inactive s)

pub replaced_same : (id : SurfaceId) (s : Submission) → (replace_on id s).submitted ≡ s.submitted
replaced_same id s = grind (arith, nat_tests)

frames_cons : (s : Submission) (xs : List Submission) → active_frames (s ∷ xs) ≡ cond (is_active s) (s.submitted ∷ active_frames xs) (active_frames xs)
frames_cons s xs = grind (arith, nat_tests)

-- the active frames stay
pub frames_accepted : (id : SurfaceId) (n : Submission) (xs : List Submission) → is_active n ≡ false → active_frames (map (replace_on id) xs ++ n ∷ []) ≡ active_frames xs
frames_accepted id n [] e = frames_cons n [] ∙ ap (λ t. cond t (n.submitted ∷ []) []) e
frames_accepted id n (s ∷ xs) e = grind (arith, nat_tests, frames_cons (replace_on id s), frames_accepted id n xs e, replaced_state id s, replaced_same id s, frames_cons s xs)
