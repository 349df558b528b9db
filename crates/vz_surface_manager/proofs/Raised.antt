-- A submission becomes active: what is told of its surface.
use Rattle.std.proofs.Common.{arith, ◌≡◌, ℕ, ◌+◌, Bool, true, false, Option, Some, None, List, [], ◌∷◌, map, filter, count_by, length, refl, ap, sym, ◌∙◌, subst, cond, Contains}
use Rattle.std.proofs.{lemmas.Bool.both_ways, lemmas.Bool.Decides.nat_tests}
use Rattle.std.specs.Option.{option_map}
use Rattle.vz_geom.specs.Rectangle.{Rectangle}
use Rattle.vz_ids.specs.{declared.SurfaceId.SurfaceId, Ids.same_surface}
use Rattle.vz_frame.specs.Frame.{root_damage}
use Rattle.vz_rules.specs.World.{World, Submission, FrameData, is_on, is_waiting, active_frames, frame_on, exists}
use Rattle.vz_rules.specs.{Singly.as_one_rises, Singly.rising, Kept.KeepsAlways}
use Rattle.vz_rules.proofs.{Reached.from_same, Reached.self_same, Counts.count_cons, Counts.count_same}
use Rattle.vz_surface_manager.proofs.Risen_one.{Rises, IsIt, IsPast, Stays, rises_by, frame_risen, exists_risen, risen_at}
use Rattle.vz_damage.specs.Told.{Told, Damaged, told_on, with_active}
use Rattle.vz_surface_manager.specs.Told_damage.{AreTold, AreLatest, AreUnseen, told_in, index_of, index_on}

abbrev pub damages : SurfaceId → List Submission → List Rectangle
damages id xs = map (λ (s : Submission). root_damage s.submitted.frame) (filter (is_on id) xs)

submitted_same : (x t : Submission) → (as_one_rises x t).submitted ≡ t.submitted
submitted_same x t = grind (arith, nat_tests)

pub damages_cons : (id : SurfaceId) (s : Submission) (xs : List Submission)
    → damages id (s ∷ xs) ≡ cond (same_surface s.submitted.id id) (root_damage s.submitted.frame ∷ damages id xs) (damages id xs)
damages_cons id s xs = grind (arith, nat_tests)

pub damages_same : (id : SurfaceId) (f : Submission → Submission) (xs : List Submission)
    → ((t : Submission) → (f t).submitted ≡ t.submitted)
    → damages id (map f xs) ≡ damages id xs
damages_same id f [] h = refl
damages_same id f (s ∷ xs) h = grind (arith, nat_tests, damages_cons id (f s) (map f xs), damages_same id f xs h, damages_cons id s xs)

length_by : (t : Bool) (r : Rectangle) (l : List Rectangle) → length (cond t (r ∷ l) l) ≡ cond {A = ℕ} t 1 0 + length l
length_by t r l = grind (arith, nat_tests)

pub as_many : (id : SurfaceId) (xs : List Submission) → length (damages id xs) ≡ count_by (is_on id) xs
as_many id [] = refl
as_many id (s ∷ xs) = grind (arith, nat_tests, damages_cons id s xs, length_by (is_on id s) (root_damage s.submitted.frame), as_many id xs, count_cons (is_on id) s xs)

module _ (w : World) (x : Submission) (h : KeepsAlways w) (there : Contains w.subs x) (waits : is_waiting x ≡ true) where
  waited : (t r : Submission) → Rises x t r → is_waiting r ≡ true → r ≡ t
  waited t r (IsIt same acts rests is) e = absurd (both_ways (is_waiting r) rests e)
  waited t r (IsPast acts on gone rests is) e = absurd (both_ways (is_waiting r) rests e)
  waited t r (Stays apart off is) e = is

  latest_risen : AreLatest w.subs → AreLatest (rising x w).subs
  unfolding rising
  latest_risen k r m e =
      let t = risen_at w x h there waits r m in
      let same : r ≡ t.0 = waited t.0 r (subst (Rises x t.0) t.2 (rises_by w x t.0 h there t.1)) e in
      ap (λ (s : Submission). s.submitted.index) same
      ∙ (k t.0 t.1 (ap is_waiting (sym same) ∙ e)
      ∙ (ap (λ (s : Submission). count_by (is_on s.submitted.id) w.subs) (sym same)
      ∙ sym (count_same (as_one_rises x) (is_on r.submitted.id) (is_on r.submitted.id) w.subs
      (λ s. ap (λ (i : FrameData). same_surface i.id r.submitted.id) (submitted_same x s)))))

  unseen_risen : AreUnseen w.subs w.last → AreUnseen (rising x w).subs w.last
  unfolding rising
  unseen_risen k id none = grind (arith, nat_tests, count_same, submitted_same)

  told_risen : (id : SurfaceId) → told_in (rising x w).subs w.last id
      ≡ record {
        damages = damages id w.subs;
        active = index_of (cond (same_surface x.submitted.id id) (Some x.submitted) (frame_on id (active_frames w.subs)));
        seen = index_on w.last id;
      }
  unfolding rising
  told_risen id = grind (arith, nat_tests, damages_same id (as_one_rises x) w.subs (submitted_same x), submitted_same x, frame_risen w x h there waits id)

  latest_index : AreLatest w.subs → x.submitted.index ≡ length (damages x.submitted.id w.subs)
  latest_index k = k x there waits ∙ sym (as_many x.submitted.id w.subs)

  last_risen : (rising x w).last ≡ w.last
  unfolding rising
  last_risen = refl

  abbrev Where : Bool → Told → Option Told
  Where t y = cond t (Some y) None

  with_where : (t : Bool) (y : Told) → option_map with_active (Where t y) ≡ Where t (with_active y)
  with_where t y = grind (arith, nat_tests)

  told_here : AreLatest w.subs → (id : SurfaceId) → x.submitted.id ≡ id
      → with_active (told_in w.subs w.last id) ≡ told_in (rising x w).subs w.last id
  told_here k id e = grind (arith, nat_tests, latest_index k, self_same x.submitted.id, told_risen id)

  told_there : (id : SurfaceId) → same_surface x.submitted.id id ≡ false → told_in w.subs w.last id ≡ told_in (rising x w).subs w.last id
  told_there id e = grind (arith, nat_tests, told_risen id)

  told_by : (d d' : Damaged) → AreTold w d → told_on d'.surfaces x.submitted.id ≡ option_map with_active (told_on d.surfaces x.submitted.id)
      → ((id : SurfaceId) → same_surface x.submitted.id id ≡ false → told_on d'.surfaces id ≡ told_on d.surfaces id)
      → (id : SurfaceId) (t : Bool) → same_surface x.submitted.id id ≡ t
      → told_on d'.surfaces id ≡ Where (exists w id) (told_in (rising x w).subs w.last id)
  told_by d d' k here others id true e = grind (arith, nat_tests, from_same x.submitted.id id e, with_where (exists w id) (told_in w.subs w.last id), told_here k.latest id)
  told_by d d' k here others id false e = others id e ∙ (k.told id ∙ ap (Where (exists w id)) (told_there id e))

  pub told_raised : (d d' : Damaged) → AreTold w d
      → told_on d'.surfaces x.submitted.id ≡ option_map with_active (told_on d.surfaces x.submitted.id)
      → ((id : SurfaceId) → same_surface x.submitted.id id ≡ false → told_on d'.surfaces id ≡ told_on d.surfaces id) → d'.last ≡ d.last
      → AreTold (rising x w) d'
  told_raised d d' k here others last = grind (arith, nat_tests, told_by d d' k here others, exists_risen w x h there waits, last_risen, latest_risen k.latest, unseen_risen k.unseen)
