-- A surface is destroyed: nothing is told of it from then on.
use Rattle.std.proofs.Common.{◌≡◌, Bool, true, false, not, ◌&&◌, Option, Some, None, List, [], ◌∷◌, map, count_by, refl, ap, sym, ◌∙◌, cond, arith}
use Rattle.std.proofs.{lemmas.Bool.both_ways, lemmas.Bool.Decides.nat_tests}
use Rattle.std.specs.List.{list_any}
use Rattle.vz_ids.specs.{declared.SurfaceId.SurfaceId, Ids.same_surface}
use Rattle.vz_rules.specs.World.{World, Surface, Submission, FrameData, is_on, is_waiting, is_active, active_frames, frame_on, exists}
use Rattle.vz_rules.specs.{Reach.drop_on, Singly.as_one_goes, Singly.going}
use Rattle.vz_rules.proofs.{Reached.from_same, Counts.count_same, Members.contains_map, Members.any_map, Members.found, Facts.and_false as and_off}
use Rattle.vz_surface_manager.proofs.{Risen_one.active_cons, Risen_one.seen_as, Risen_one.seen_off, Risen_one.seen_inactive, Raised.damages_same}
use Rattle.vz_damage.specs.Told.{Told, Damaged, told_on}
use Rattle.vz_surface_manager.specs.Told_damage.{AreTold, AreLatest, AreUnseen, told_in}

abbrev stands_at : SurfaceId → Surface → Bool
stands_at id s = same_surface s.id id && not s.destroyed

any_off : {A : Type 0} (xs : List A) → list_any (λ x. false) xs ≡ false
any_off [] = refl
any_off (x ∷ xs) = any_off xs

goes_here : (c s : Surface) → stands_at c.id (as_one_goes c s) ≡ false
goes_here c s = grind (arith, nat_tests, and_off (same_surface s.id c.id))

goes_there : (c : Surface) (id : SurfaceId) (s : Surface) → same_surface c.id id ≡ false → stands_at id (as_one_goes c s) ≡ stands_at id s
goes_there c id s off = grind (arith, nat_tests, from_same s.id c.id)

exists_here : (w : World) (c : Surface) → exists (going c w) c.id ≡ false
unfolding going
exists_here w c = grind (arith, nat_tests, found, any_map (as_one_goes c), goes_here c, any_off w.surfaces)

exists_there : (w : World) (c : Surface) (id : SurfaceId) → same_surface c.id id ≡ false → exists (going c w) id ≡ exists w id
unfolding going
exists_there w c id off = grind (arith, nat_tests, found, any_map (as_one_goes c), goes_there c id)

-- a submission is dropped or stays
data Drops (c : Surface) (s r : Submission) : Type 0 where
  Ends : is_on c.id s ≡ true → is_active r ≡ false → is_waiting r ≡ false → r.submitted ≡ s.submitted → Drops c s r
  Stays : r ≡ s → Drops c s r

drops_by : (c : Surface) (s : Submission) → Drops c s (drop_on (c ∷ []) s)
drops_by c s = grind (arith, nat_tests)

dropped_same : (c : Surface) (s r : Submission) → Drops c s r → r.submitted ≡ s.submitted
dropped_same c s r (Ends on a b e) = e
dropped_same c s r (Stays e) = ap (λ (x : Submission). x.submitted) e

frame_step : (c : Surface) (id : SurfaceId) (s r : Submission) (a b : Option FrameData) → same_surface c.id id ≡ false → Drops c s r → a ≡ b
    → seen_as id (is_active r) r.submitted a ≡ seen_as id (is_active s) s.submitted b
frame_step c id s r a b off (Ends on gone rests e) f = grind (arith, nat_tests, seen_inactive, seen_off, from_same)
frame_step c id s r a b off (Stays e) f = grind (arith, nat_tests, seen_as)

frames_there : (c : Surface) (id : SurfaceId) (xs : List Submission) → same_surface c.id id ≡ false
    → frame_on id (active_frames (map (drop_on (c ∷ [])) xs)) ≡ frame_on id (active_frames xs)
frames_there c id [] off = refl
frames_there c id (s ∷ xs) off =
    active_cons id (drop_on (c ∷ []) s) (map (drop_on (c ∷ [])) xs)
    ∙ (frame_step c id s (drop_on (c ∷ []) s) _ _ off (drops_by c s) (frames_there c id xs off) ∙ sym (active_cons id s xs))

submitted_drop : (c : Surface) (s : Submission) → (drop_on (c ∷ []) s).submitted ≡ s.submitted
submitted_drop c s = dropped_same c s (drop_on (c ∷ []) s) (drops_by c s)

told_there : (w : World) (c : Surface) (id : SurfaceId) → same_surface c.id id ≡ false
    → told_in (going c w).subs w.last id ≡ told_in w.subs w.last id
unfolding going
told_there w c id off = grind (arith, nat_tests, damages_same id (drop_on (c ∷ [])) w.subs (submitted_drop c), submitted_drop c, frames_there c id w.subs off)

waited : (c : Surface) (s r : Submission) → Drops c s r → is_waiting r ≡ true → r ≡ s
waited c s r (Ends on a rests e) k = absurd (both_ways (is_waiting r) rests k)
waited c s r (Stays e) k = e

latest_gone : (w : World) (c : Surface) → AreLatest w.subs → AreLatest (going c w).subs
unfolding going
latest_gone w c k r m e =
    let t = contains_map (drop_on (c ∷ [])) w.subs r m in
    let same : r ≡ t.0 = sym t.2 ∙ waited c t.0 (drop_on (c ∷ []) t.0) (drops_by c t.0) (ap is_waiting t.2 ∙ e) in
    ap (λ (s : Submission). s.submitted.index) same
    ∙ (k t.0 t.1 (ap is_waiting (sym same) ∙ e)
    ∙ (ap (λ (s : Submission). count_by (is_on s.submitted.id) w.subs) (sym same)
    ∙ sym (count_same (drop_on (c ∷ [])) (is_on r.submitted.id) (is_on r.submitted.id) w.subs
    (λ s. ap (λ (i : FrameData). same_surface i.id r.submitted.id) (submitted_drop c s)))))

unseen_gone : (w : World) (c : Surface) → AreUnseen w.subs w.last → AreUnseen (going c w).subs w.last
unfolding going
unseen_gone w c k id none = grind (arith, nat_tests, count_same (drop_on (c ∷ [])) (is_on id) (is_on id) w.subs, submitted_drop c)

abbrev Where : Bool → Told → Option Told
Where t y = cond t (Some y) None

last_gone : (w : World) (c : Surface) → (going c w).last ≡ w.last
unfolding going
last_gone w c = refl

told_by : (w : World) (c : Surface) (d d' : Damaged) → AreTold w d → told_on d'.surfaces c.id ≡ None
    → ((id : SurfaceId) → same_surface c.id id ≡ false → told_on d'.surfaces id ≡ told_on d.surfaces id)
    → (id : SurfaceId) (t : Bool) → same_surface c.id id ≡ t
    → told_on d'.surfaces id ≡ Where (exists (going c w) id) (told_in (going c w).subs w.last id)
told_by w c d d' k none others id true e = grind (arith, nat_tests, from_same c.id id e, exists_here w c)
told_by w c d d' k none others id false e = grind (arith, nat_tests, told_there w c id e, exists_there w c id e)

pub told_gone : (w : World) (c : Surface) (d d' : Damaged) → AreTold w d → told_on d'.surfaces c.id ≡ None
    → ((id : SurfaceId) → same_surface c.id id ≡ false → told_on d'.surfaces id ≡ told_on d.surfaces id) → d'.last ≡ d.last
    → AreTold (going c w) d'
told_gone w c d d' k none others last = grind (arith, nat_tests, told_by w c d d' k none others, last_gone w c, latest_gone w c k.latest, unseen_gone w c k.unseen)
