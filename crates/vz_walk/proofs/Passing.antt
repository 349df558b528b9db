-- The passes of a frame, by their ids and their places.
use Rattle.std.proofs.Common.{◌≡◌, ℕ, zero, suc, ◌+◌, ◌-◌, ◌<◌, ◌≤◌, Bool, true, false, Some, List, [], ◌∷◌, take, length, get_or}
use Rattle.std.proofs.Common.{reverse, slice_get, refl, sym, ap, ◌∙◌, arith}
use Rattle.std.proofs.lemmas.List.{reverse-append, take_all}
use Rattle.std.proofs.lemmas.Grind.{take_at_read}
use Rattle.std.proofs.lemmas.Option.{slice_get-get_or}
use Rattle.vz_frame.specs.declared.frame.RenderPass.{RenderPass}
use Rattle.vz_frame.specs.Frame.{names_pass}
use Rattle.vz_ids.specs.declared.SurfaceId.{SurfaceId}
use Rattle.vz_rules.specs.World.{FrameData}
use Rattle.vz_rules.specs.Walk.{Placement, Visit, WalkRange, groups_walked, root_walked, range_walked, walk}
use Rattle.vz_surfaces.specs.Names.{pass_place}
use Rattle.vz_surfaces.proofs.Leading.{place_here, place_over, place_none}
use Rattle.vz_walk.specs.Walking.{pass_in, group_in, group_at}

turned : (passes : List RenderPass) (k : ℕ) (d : RenderPass) → k < length passes
    → reverse (take (k + 1) passes) ≡ get_or passes k d ∷ reverse (take k passes)
turned passes k d h = ap reverse (take_at_read passes k d h).1 ∙ reverse-append (take k passes) (get_or passes k d ∷ [])

-- what a pass gives by whether it has the id
abbrev group_by : WalkRange → List RenderPass → ℕ → ℕ → Placement → RenderPass → Bool → List Visit
group_by ranges passes k id place pass t =
    elim t [
      | true ↦ group_in ranges passes k place (Some pass)
      | false ↦ groups_walked ranges (reverse (take k passes)) id place
    ]

-- a pass of another id is passed over
pub group_over : (ranges : WalkRange) (passes : List RenderPass) (j k id : ℕ) (d : RenderPass) (place : Placement) → k + 1 ≡ j
    → k < length passes → names_pass id (get_or passes k d) ≡ false
    → groups_walked ranges (reverse (take j passes)) id place ≡ groups_walked ranges (reverse (take k passes)) id place
unfolding groups_walked
group_over ranges passes j k id d place e h named =
    ap (λ n. groups_walked ranges (reverse (take n passes)) id place) (sym e)
    ∙ (ap (λ l. groups_walked ranges l id place) (turned passes k d h)
    ∙ ap (group_by ranges passes k id place (get_or passes k d)) named)

-- the pass of the id is met
pub group_found : (ranges : WalkRange) (passes : List RenderPass) (j k id : ℕ) (d : RenderPass) (place : Placement) → k + 1 ≡ j
    → k < length passes → names_pass id (get_or passes k d) ≡ true
    → groups_walked ranges (reverse (take j passes)) id place ≡ group_at ranges passes place (Some k)
unfolding groups_walked
group_found ranges passes j k id d place e h named =
    ap (λ n. groups_walked ranges (reverse (take n passes)) id place) (sym e)
    ∙ (ap (λ l. groups_walked ranges l id place) (turned passes k d h)
    ∙ (ap (group_by ranges passes k id place (get_or passes k d)) named
    ∙ ap (group_in ranges passes k place) (sym (slice_get-get_or passes k d h))))

-- there is no further pass
pub group_none : (ranges : WalkRange) (passes : List RenderPass) (k id : ℕ) (place : Placement) → k ≤ 0
    → groups_walked ranges (reverse (take k passes)) id place ≡ []
unfolding groups_walked
group_none ranges passes zero id place h = refl
group_none ranges passes (suc k) id place h = absurd (omega arith)

-- one place further on, whether or not the pass there has the id
groups_further : (ranges : WalkRange) (passes : List RenderPass) (d : RenderPass) (k id : ℕ) (place : Placement) (t : Bool) → k < length passes
    → groups_walked ranges (reverse (take k passes)) id place ≡ group_at ranges passes place (pass_place id passes k)
    → names_pass id (get_or passes k d) ≡ t
    → groups_walked ranges (reverse (take (suc k) passes)) id place ≡ group_at ranges passes place (pass_place id passes (suc k))
groups_further ranges passes d k id place true h before e =
    group_found ranges passes (suc k) k id d place (omega arith) h e
    ∙ ap (group_at ranges passes place) (sym (place_here id passes (suc k) k d (omega arith) h e))
groups_further ranges passes d k id place false h before e =
    group_over ranges passes (suc k) k id d place (omega arith) h e
    ∙ (before
    ∙ ap (group_at ranges passes place) (sym (place_over id passes (suc k) k d (omega arith) h e)))

-- what is met by a name, where it leads to
groups_with : (ranges : WalkRange) (passes : List RenderPass) (d : RenderPass) (k id : ℕ) (place : Placement) → k ≤ length passes
    → groups_walked ranges (reverse (take k passes)) id place ≡ group_at ranges passes place (pass_place id passes k)
groups_with ranges passes d zero id place h =
    group_none ranges passes 0 id place (omega arith) ∙ ap (group_at ranges passes place) (place_none id passes 0 (omega arith))
groups_with ranges passes d (suc k) id place h =
    groups_further ranges passes d k id place (names_pass id (get_or passes k d)) (omega arith)
    (groups_with ranges passes d k id place (omega arith)) refl

pub groups_at : (ranges : WalkRange) (passes : List RenderPass) (k id : ℕ) (place : Placement) → k ≤ length passes
    → groups_walked ranges (reverse (take k passes)) id place ≡ group_at ranges passes place (pass_place id passes k)
groups_at ranges [] zero id place h =
    group_none ranges [] 0 id place (omega arith) ∙ ap (group_at ranges [] place) (place_none id [] 0 (omega arith))
groups_at ranges [] (suc k) id place h = absurd (omega arith)
groups_at ranges (p ∷ ps) k id place h = groups_with ranges (p ∷ ps) p k id place h

-- with no surface left nothing is walked
pub no_levels : (n : ℕ) (active : List FrameData) (path : List SurfaceId) (i : FrameData) (place : Placement) → n ≡ 0
    → [] ≡ walk n active path i place
unfolding walk
no_levels n active path i place e = sym (ap (λ k. walk k active path i place) e)

root_none : (ranges : WalkRange) (passes : List RenderPass) (place : Placement) → length passes ≡ 0
    → root_walked ranges (reverse passes) place ≡ []
unfolding root_walked
root_none ranges [] place e = refl
root_none ranges (p ∷ ps) place e = absurd (omega arith)

-- nor in a frame without passes
pub no_passes : (n : ℕ) (active : List FrameData) (path : List SurfaceId) (i : FrameData) (place : Placement)
    → length i.frame.passes ≡ 0 → [] ≡ walk n active path i place
unfolding walk
no_passes zero active path i place e = refl
no_passes (suc m) active path i place e = sym (root_none (range_walked (walk m active) active (i.id ∷ path)) i.frame.passes place e)

root_last : (ranges : WalkRange) (passes : List RenderPass) (place : Placement) (n : ℕ) (d : RenderPass) → n + 1 ≡ length passes
    → pass_in ranges passes n place (slice_get passes n) ≡ root_walked ranges (reverse passes) place
unfolding root_walked
root_last ranges passes place n d e =
    let within : n < length passes = omega arith in
    let last = get_or passes n d in
    let all : reverse passes ≡ last ∷ reverse (take n passes) = ap reverse (sym (take_all (n + 1) passes (omega arith)))
    ∙ turned passes n d within in
    ap (pass_in ranges passes n place) (slice_get-get_or passes n d within) ∙ sym (ap (λ l. root_walked ranges l place) all)

root_end : (ranges : WalkRange) (passes : List RenderPass) (place : Placement) (n : ℕ) → n + 1 ≡ length passes
    → pass_in ranges passes n place (slice_get passes n) ≡ root_walked ranges (reverse passes) place
root_end ranges [] place n e = absurd (omega arith)
root_end ranges (p ∷ ps) place n e = root_last ranges (p ∷ ps) place n p e

-- the root pass is walked
pub root_pass_is : (n : ℕ) (active : List FrameData) (path : List SurfaceId) (i : FrameData) (place : Placement)
    (passes : List RenderPass) (k : ℕ) → passes ≡ i.frame.passes → 0 < n → k + 1 ≡ length passes
    → pass_in (range_walked (walk (n - 1) active) active (i.id ∷ path)) passes k place (slice_get passes k) ≡ walk n active path i place
unfolding walk
root_pass_is zero active path i place passes k same some e = absurd (omega arith)
root_pass_is (suc m) active path i place passes k same some e =
    let one : suc m - 1 ≡ m = omega arith in
    ap (λ j. pass_in (range_walked (walk j active) active (i.id ∷ path)) passes k place (slice_get passes k)) one
    ∙ (root_end (range_walked (walk m active) active (i.id ∷ path)) passes place k e
    ∙ ap (λ l. root_walked (range_walked (walk m active) active (i.id ∷ path)) (reverse l) place) same)
