-- A submission is accepted: what is found on surfaces after it.
use Rattle.std.proofs.Common.{◌&&◌, ◌||◌, ◌≡◌, ◌+◌, Bool, true, false, not, Option, None, List, [], ◌∷◌, ◌++◌, map, count_by, refl, ap, sym, ◌∙◌, cond, Contains, arith}
use Rattle.std.specs.List.{list_any}
use Rattle.std.proofs.{lemmas.Bool.both_ways, lemmas.Bool.false_from_ne_true, lemmas.Bool.Decides.nat_tests}
use Rattle.vz_geom.specs.Rectangle.{Rectangle}
use Rattle.vz_ids.specs.{declared.LocalSurfaceId.LocalSurfaceId, declared.SurfaceId.SurfaceId, Ids.same_surface, Ids.is_raised}
use Rattle.vz_frame.specs.{declared.frame.CompositorFrame.CompositorFrame, Frame.root_damage}
use Rattle.vz_rules.specs.{declared.entry.Refusal.Refusal, Kept.KeepsAlways, Kept.stands_in}
use Rattle.vz_rules.specs.World.{World, Client, Surface, Resource, Submission, is_on, is_waiting, last_created}
use Rattle.vz_rules.specs.Messages.{id_of, is_last, is_unknown, violates, replace_on, submit_refusal, first_some, when}
use Rattle.vz_rules.proofs.Reached.{from_same, self_same}
use Rattle.vz_rules.proofs.{Members.contains_at, Counts.count_same, Counts.count_push, Kept_last.raised_from_all, Kept_last.one_client}
use Rattle.vz_surface_manager.proofs.{Accepted_kept.replaced_same, New_surfaces.raises_none, Raised.damages, Raised.damages_cons}

-- Ids

pub off_back : (a b : SurfaceId) → same_surface a b ≡ false → same_surface b a ≡ false
off_back a b off = grind (arith, nat_tests, false_from_ne_true (same_surface b a), both_ways (same_surface a b) off, from_same b a, self_same b)

-- no surface that was created has an id that goes on from its client's last one
pub unknown : (w : World) (c : Client) (local : LocalSurfaceId) (x : Surface) → KeepsAlways w → Contains w.clients c
    → violates (last_created w c.number) local ≡ false → is_last (last_created w c.number) local ≡ false → Contains w.surfaces x
    → same_surface x.id (id_of c local) ≡ false
unknown w c local x keeps there good last m =
    let id = id_of c local in
    false_from_ne_true (same_surface x.id id) (λ e.
    let same : x.id ≡ id = from_same x.id id e in
    let of = keeps.surfaces.of_clients x m in
    let owner : x.client ≡ c.number =
    sym of.2 ∙ ap (λ (y : Client). y.number)
    (one_client w.clients of.0 c keeps.clients of.1 there (of.3 ∙ ap (λ (i : SurfaceId). i.sink) same))
    in
    let n = contains_at w.surfaces x m in
    raises_none local
    (ap (λ (i : SurfaceId). is_raised i.local local) (sym same)
    ∙ raised_from_all w.clients w.surfaces c.number local (last_created w c.number) keeps.surfaces refl good last n.0 x n.1 owner))

-- What is not refused

unrefused : (x y z : Refusal) (o : Option Refusal) (a b t : Bool) → first_some (o ∷ when a x ∷ when b y ∷ when t z ∷ []) ≡ None
    → (a ≡ false) × (b ≡ false)
unrefused x y z o a b t h = grind (arith, nat_tests)

-- what is not refused lists nothing unknown, and its id does not violate the last one
pub allowed_parts : (last : Option Surface) (resources : List Resource) (local : LocalSurfaceId) (frame : CompositorFrame)
    → submit_refusal last resources local frame ≡ None
    → (list_any (is_unknown resources) frame.resources ≡ false) × (violates last local ≡ false)
unfolding submit_refusal
allowed_parts last resources local frame h = grind (arith, nat_tests, unrefused)

-- Submissions

-- what waits then waited, and is on another surface
pub waits_on : (id : SurfaceId) (s r : Submission) → replace_on id s ≡ r → is_waiting r ≡ true → (r ≡ s) × (is_on id s ≡ false)
waits_on id s r e waits = grind (arith, nat_tests, both_ways (is_waiting r), both_ways (is_waiting s))

one_more : (t : Bool) (r : Rectangle) (l more : List Rectangle) → cond t (r ∷ (l ++ more)) (l ++ more) ≡ cond t (r ∷ l) l ++ more
one_more t r l more = grind (arith, nat_tests)

abbrev told_more : SurfaceId → Submission → List Rectangle
told_more id n = cond (same_surface n.submitted.id id) (root_damage n.submitted.frame ∷ []) []

-- one damage more is told on its surface
pub damages_more : (id at : SurfaceId) (n : Submission) (xs : List Submission)
    → damages id (map (replace_on at) xs ++ n ∷ []) ≡ damages id xs ++ told_more id n
damages_more id at n [] = damages_cons id n []
damages_more id at n (s ∷ xs) = grind (arith, nat_tests, damages_cons, damages, replaced_same, damages_more id at n xs, one_more)

pub count_more : (id at : SurfaceId) (n : Submission) (xs : List Submission)
    → count_by (is_on id) (map (replace_on at) xs ++ n ∷ []) ≡ count_by (is_on id) xs + cond (is_on id n) 1 0
count_more id at n xs = grind (arith, nat_tests, count_push (is_on id) (map (replace_on at) xs) n, count_same (replace_on at) (is_on id) (is_on id) xs, replaced_same at)

-- Surfaces

stands_cons : (s : Surface) (xs : List Surface) (id : SurfaceId)
    → stands_in (s ∷ xs) id ≡ ((same_surface s.id id && not s.destroyed) || stands_in xs id)
stands_cons s xs id = grind (arith, nat_tests)

-- another surface stands where it stood
pub stands_more : (xs : List Surface) (new : Surface) (id : SurfaceId) → same_surface new.id id ≡ false
    → stands_in (xs ++ new ∷ []) id ≡ stands_in xs id
stands_more [] new id off = stands_cons new [] id ∙ ap (λ (t : Bool). (t && not new.destroyed) || false) off
stands_more (s ∷ xs) new id off = grind (arith, nat_tests, stands_cons s, stands_more xs new id off, stands_cons s xs id)
