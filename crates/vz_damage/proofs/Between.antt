-- The damages between two indices, among those of all submissions on a surface.
use Rattle.std.proofs.Common.{◌≡◌, ℕ, zero, suc, ◌+◌, ◌-◌, Bool, true, false, ◌&&◌, nat_lt, nat_le, List, [], ◌∷◌, map, filter, take, drop, slice_get, Some, refl, ap, sym, ◌∙◌, cond, arith}
use Rattle.std.specs.Prelude.{count_by}
use Rattle.std.proofs.lemmas.Bool.Decides.{nat_tests}
use Rattle.vz_geom.specs.Rectangle.{Rectangle}
use Rattle.vz_ids.specs.declared.SurfaceId.{SurfaceId}
use Rattle.vz_ids.specs.Ids.{same_surface}
use Rattle.vz_frame.specs.Frame.{root_damage}
use Rattle.vz_rules.specs.World.{World, Submission, FrameData, Aggregation, is_on}
use Rattle.vz_rules.specs.Kept.{KeepsAlways, AreNumbered}
use Rattle.vz_rules.specs.Damage.{damage_since, index_in}
use Rattle.vz_rules.specs.Step.{accepted_frames}
use Rattle.vz_rules.proofs.Counts.{count_cons}
use Rattle.vz_rules.proofs.Reached.{from_same}
use Rattle.vz_damage.specs.Told.{damage_on, damage_between}
use Rattle.vz_damage.specs.Accepted.{told_of}

abbrev damage_of : Submission → Rectangle
damage_of s = root_damage s.submitted.frame

module _ (id : SurfaceId) where
  -- the submissions on the surface are numbered on from so many
  abbrev NumberedFrom : ℕ → List Submission → Type 0
  NumberedFrom b subs = (n : ℕ) (s : Submission) → slice_get subs n ≡ Some s → is_on id s ≡ true → s.submitted.index ≡ (b + count_by (is_on id) (take n subs)) + 1

  first_index : (b : ℕ) (s : Submission) (subs : List Submission) → NumberedFrom b (s ∷ subs) → is_on id s ≡ true → s.submitted.index ≡ b + 1
  first_index b s subs numbered on = let is = numbered 0 s refl on in omega (arith, is)

  rest_on : (b : ℕ) (s : Submission) (subs : List Submission) → NumberedFrom b (s ∷ subs) → is_on id s ≡ true → NumberedFrom (b + 1) subs
  rest_on b s subs numbered on n t at is =
      let here = numbered (suc n) t at is in
      let more = count_cons (is_on id) s (take n subs) ∙ ap (λ q. cond q 1 0 + count_by (is_on id) (take n subs)) on in
      omega (arith, here, more)

  rest_off : (b : ℕ) (s : Submission) (subs : List Submission) → NumberedFrom b (s ∷ subs) → is_on id s ≡ false → NumberedFrom b subs
  rest_off b s subs numbered off n t at is =
      let here = numbered (suc n) t at is in
      let same = count_cons (is_on id) s (take n subs) ∙ ap (λ q. cond q 1 0 + count_by (is_on id) (take n subs)) off in
      omega (arith, here, same)

drop_none : {A : Type 0} (n : ℕ) → ◌≡◌ {A = List A} (drop n []) []
drop_none n = grind (arith, nat_tests)

-- one more in front
module _ (from upto b : ℕ) (d : Rectangle) (rest all : List Rectangle) (is : rest ≡ drop (from - (b + 1)) (take (upto - (b + 1)) all)) where
  by_tests : (s t : Bool) → nat_lt from (b + 1) ≡ s → nat_le (b + 1) upto ≡ t → cond (s && t) (d ∷ rest) rest ≡ drop (from - b) (take (upto - b) (d ∷ all))
  by_tests s t p q = grind (arith, nat_tests, drop_none)

module _ (i : FrameData) (from upto : ℕ) where
  -- is_between, with the last index beside it
  abbrev is_in : FrameData → Bool
  is_in j = same_surface j.id i.id && nat_lt from j.index && nat_le j.index upto

  abbrev drawn : List Submission → List Rectangle
  drawn subs = map (λ j. root_damage j.frame) (filter is_in (map (λ s. s.submitted) subs))

  abbrev told : List Submission → List Rectangle
  told subs = map damage_of (filter (is_on i.id) subs)

  one : (s : Submission) (subs : List Submission) (b : ℕ) (t : Bool) → is_on i.id s ≡ t → (t ≡ true → s.submitted.index ≡ b + 1)
      → (t ≡ true → drawn subs ≡ drop (from - (b + 1)) (take (upto - (b + 1)) (told subs))) → (t ≡ false → drawn subs ≡ drop (from - b) (take (upto - b) (told subs)))
      → map (λ (j : FrameData). root_damage j.frame) (cond (t && nat_lt from s.submitted.index && nat_le s.submitted.index upto) (s.submitted ∷ filter is_in (map (λ s. s.submitted) subs)) (filter is_in (map (λ s. s.submitted) subs)))
      ≡ drop (from - b) (take (upto - b) (map damage_of (cond t (s ∷ filter (is_on i.id) subs) (filter (is_on i.id) subs))))
  one s subs b true on index rest other =
      apart (nat_lt from s.submitted.index) (nat_le s.submitted.index upto)
      ∙ ap (λ n. cond (nat_lt from n && nat_le n upto) (damage_of s ∷ drawn subs) (drawn subs)) (index refl)
      ∙ by_tests from upto b (damage_of s) (drawn subs) (told subs) (rest refl) (nat_lt from (b + 1)) (nat_le (b + 1) upto) refl refl
    where
      apart : (p q : Bool) → map (λ (j : FrameData). root_damage j.frame) (cond ((true && p) && q) (s.submitted ∷ filter is_in (map (λ s. s.submitted) subs)) (filter is_in (map (λ s. s.submitted) subs)))
          ≡ cond (p && q) (damage_of s ∷ drawn subs) (drawn subs)
      apart true true = refl
      apart true false = refl
      apart false q = refl
  one s subs b false off index rest other = other refl

  pub cut : (subs : List Submission) (b : ℕ) → NumberedFrom i.id b subs → drawn subs ≡ drop (from - b) (take (upto - b) (told subs))
  cut [] b numbered = sym (ap (drop (from - b)) (take_none (upto - b)) ∙ drop_none (from - b))
    where
      take_none : (n : ℕ) → ◌≡◌ {A = List Rectangle} (take n []) []
      take_none zero = refl
      take_none (suc n) = refl
  cut (s ∷ subs) b numbered =
      one s subs b (is_on i.id s) refl (first_index i.id b s subs numbered) (λ on. cut subs (b + 1) (rest_on i.id b s subs numbered on)) (λ off. cut subs b (rest_off i.id b s subs numbered off))

-- the numbers on one surface
numbered_on : (id : SurfaceId) (subs : List Submission) → AreNumbered subs → NumberedFrom id 0 subs
numbered_on id subs numbered n s at on = grind (arith, nat_tests, from_same s.submitted.id id on)

pub drawn_is_told : (w : World) (a : Aggregation) (i : FrameData) → KeepsAlways w → damage_since a (accepted_frames w) i ≡ damage_on (told_of w a i)
unfolding damage_since damage_between
drawn_is_told w a i keeps = grind (arith, nat_tests, cut i (index_in a i) i.index w.subs 0 (numbered_on i.id w.subs keeps.numbers.numbered), from_same)
