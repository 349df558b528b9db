-- What is told depends on what a store stands for, and on the last aggregation.
use Rattle.std.proofs.Common.{◌≡◌, Bool, Option, Some, None, List, [], ◌∷◌, map, filter, count_by, refl, ap, sym, ◌∙◌, cond, arith}
use Rattle.vz_geom.specs.Rectangle.{Rectangle}
use Rattle.vz_ids.specs.{declared.SurfaceId.SurfaceId}
use Rattle.vz_rules.specs.World.{World, Submission, Aggregation, is_on, active_frames, exists, opening}
use Rattle.vz_rules.specs.{Plan.Plan}
use Rattle.vz_rules.proofs.{Members.contains_map, Members.map_contains, Members.contains_none, Counts.count_cons}
use Rattle.vz_surfaces.specs.{Stored.Stored, Stored.stored_of, Stored.bare_sub, Reading.stands}
use Rattle.std.specs.Option.{option_map}
use Rattle.vz_frame.specs.Frame.{root_damage}
use Rattle.vz_damage.specs.{Measured.without_indices, Told.Told, Told.Damaged, Told.told_on}
use Rattle.vz_surface_manager.specs.Told_damage.{AreTold, AreLatest, told_in, index_on}
use Rattle.std.proofs.lemmas.Bool.Decides.{nat_tests}

frames_bare : (xs : List Submission) → active_frames (map bare_sub xs) ≡ active_frames xs
frames_bare [] = refl
frames_bare (s ∷ xs) = grind (arith, nat_tests, frames_bare xs)

abbrev damages : List Submission → List Rectangle
damages xs = map (λ (s : Submission). root_damage s.submitted.frame) xs

damages_bare : (id : SurfaceId) (xs : List Submission) → damages (filter (is_on id) (map bare_sub xs)) ≡ damages (filter (is_on id) xs)
damages_bare id [] = refl
damages_bare id (s ∷ xs) = grind (arith, nat_tests, damages_bare id xs)

pub count_bare : (id : SurfaceId) (xs : List Submission) → count_by (is_on id) (map bare_sub xs) ≡ count_by (is_on id) xs
count_bare id [] = refl
count_bare id (s ∷ xs) = grind (arith, nat_tests, count_cons (is_on id) (bare_sub s) (map bare_sub xs), count_bare id xs, count_cons (is_on id) s xs)

-- what is to be told is so by the bare submissions
told_bare : (xs : List Submission) (last : Option Aggregation) (id : SurfaceId) → told_in (map bare_sub xs) last id ≡ told_in xs last id
told_bare xs last id = grind (arith, nat_tests, damages_bare id xs, frames_bare xs)

told_same : (xs ys : List Submission) (last : Option Aggregation) (id : SurfaceId) → map bare_sub ys ≡ map bare_sub xs
    → told_in ys last id ≡ told_in xs last id
told_same xs ys last id e = sym (told_bare ys last id) ∙ (ap (λ (l : List Submission). told_in l last id) e ∙ told_bare xs last id)

latest_same : (xs ys : List Submission) → map bare_sub ys ≡ map bare_sub xs → AreLatest xs → AreLatest ys
latest_same xs ys e h s m waits = grind (arith, nat_tests, contains_map bare_sub xs (bare_sub s), map_contains bare_sub ys s m, count_bare s.submitted.id xs, count_bare s.submitted.id ys)

count_like : (xs ys : List Submission) (id : SurfaceId) → map bare_sub ys ≡ map bare_sub xs
    → count_by (is_on id) ys ≡ count_by (is_on id) xs
count_like xs ys id e = sym (count_bare id ys) ∙ (ap (count_by (is_on id)) e ∙ count_bare id xs)

abbrev told_where : Bool → Told → Option Told
told_where t x = cond t (Some x) None

-- where a store stands for the same, and the last aggregation is the same, the same is told
pub told_stays : (w v : World) (d : Damaged) → ((u : World) (id : SurfaceId) → stands (stored_of u) id ≡ exists u id)
    → stored_of v ≡ stored_of w → v.last ≡ w.last
    → AreTold w d → AreTold v d
unfolding stored_of
told_stays w v d reads e last h =
    let subs : map bare_sub v.subs ≡ map bare_sub w.subs = ap (λ (st : Stored). st.subs) e in
    record {
      told = λ id. h.told id
          ∙ (ap (λ (t : Bool). told_where t (told_in w.subs w.last id))
          (sym (reads w id) ∙ (ap (λ (st : Stored). stands st id) (sym e) ∙ reads v id))
          ∙ (ap (told_where (exists v id)) (sym (told_same w.subs v.subs w.last id subs))
          ∙ ap (λ (o : Option Aggregation). told_where (exists v id) (told_in v.subs o id)) (sym last)));
      last = h.last ∙ ap (λ (o : Option Aggregation). option_map without_indices o) (sym last);
      latest = latest_same w.subs v.subs subs h.latest;
      unseen = λ id none. ap (λ (o : Option Aggregation). index_on o id) last ∙ h.unseen id (sym (count_like w.subs v.subs id subs) ∙ none);
    }

-- Before the first step

pub told_first : (p : Plan) (d : Damaged) → d.surfaces ≡ [] → d.last ≡ None → AreTold (opening p) d
unfolding opening told_on
told_first p d none first = grind (arith, nat_tests, contains_none)

-- The last aggregation
