-- Claims, as one visit more is met.
use Rattle.std.proofs.Common.{◌≡◌, pos, Bool, true, false, Option, List, [], ◌∷◌, ◌++◌, refl, ap, sym, ◌∙◌, arith}
use Rattle.std.proofs.Common.{if◌then◌else◌, OnOk, Result}
use Rattle.std.specs.List.{flat_map, filter_map, list_any}
use Rattle.std.specs.Result.{is_ok}
use Rattle.std.proofs.lemmas.Int.{ints}
use Rattle.std.proofs.lemmas.List.{append-nil}
use Rattle.std.proofs.lemmas.List.Elements.{filter_map-append}
use Rattle.std.proofs.lemmas.Grind.{flat_map-append}
use Rattle.vz_geom.specs.declared.Point.{Point}
use Rattle.vz_geom.specs.declared.Size.{Size}
use Rattle.vz_geom.specs.Display.{IsDisplaySize}
use Rattle.vz_geom.specs.Rectangle.{Rectangle, IsRectangle, meet, moved, join, bound, sized, no_rectangle}
use Rattle.vz_geom.proofs.Algebra.{meet_assoc, moved_meet}
use Rattle.vz_geom.proofs.Sets.{full_sides}
use Rattle.vz_ids.specs.declared.SurfaceId.{SurfaceId}
use Rattle.vz_ids.specs.declared.SurfaceRange.{SurfaceRange}
use Rattle.vz_rules.specs.Closure.{adding}
use Rattle.vz_rules.specs.Scene.{id_of_frame}
use Rattle.vz_rules.specs.World.{FrameData, Scene, Aggregation}
use Rattle.vz_rules.specs.Walk.{Placement, Visit, Quad, Shows, Enters}
use Rattle.vz_rules.specs.Damage.{shown_range, of_same_range, is_switched, aggregation_of}
use Rattle.vz_surfaces.specs.Stored.{Stored}
use Rattle.vz_walk.specs.Meeting.{Meets}
use Rattle.vz_walk.specs.Scenes.{scene_in, walked_in}
use Rattle.vz_damage.specs.Told.{Told, Damaged, told_on, damage_in}
use Rattle.vz_damage.specs.Measured.{Measurement}
use Rattle.vz_damage.specs.Measured.{Shown, IsMeasured, IsMeasureOf, told_claims_of, told_claims, told_damage, what_changed, seen_damage}
use Rattle.vz_damage.specs.Measured.{has_root}
use Rattle.vz_damage.proofs.Looking.{last_in}
use Rattle.vz_damage.proofs.Joining.{bound_append, bound_one}
use Rattle.std.proofs.lemmas.Bool.Decides.{nat_tests}

-- a damage is cut by the size of its surface before it is moved
pub seen_is : (window size damage : Rectangle) (by : Point) → meet window (moved (meet size damage) by) ≡ meet (meet window
    (moved size by)) (moved damage by)
seen_is window size damage by = ap (meet window) (moved_meet size damage by) ∙ sym (meet_assoc window (moved size by) (moved damage by))

-- nothing more is claimed
more_none : (rs extra : List Rectangle) (d : Rectangle) → extra ≡ [] → d ≡ bound rs → d ≡ bound (rs ++ extra)
more_none rs extra d e h = h ∙ ap bound (sym (append-nil rs) ∙ ap (λ l. rs ++ l) (sym e))

-- one claim more
more_one : (rs extra : List Rectangle) (d r : Rectangle) → IsRectangle r → extra ≡ r ∷ [] → d ≡ bound rs → join d r ≡ bound (rs ++ extra)
more_one rs extra d r proper e h = grind (arith, nat_tests, bound_one r proper, bound_append rs (r ∷ []))

adding_more : {A : Type 0} (same : A → A → Bool) (once xs ys : List A) → adding same once (xs ++ ys) ≡ adding same (adding same once xs) ys
adding_more same once [] ys = refl
adding_more same once (x ∷ xs) ys = adding_more same (if list_any (same x) once then once else once ++ x ∷ []) xs ys

module _ (told : List (SurfaceId × Told)) (last : Shown) where
  abbrev Claims : Aggregation → List Visit → List Rectangle
  Claims a visits = flat_map (told_claims_of told a) visits

  one_more : (a : Aggregation) (before : List Visit) (x : Visit) → Claims a before ++ told_claims_of told a x ≡ Claims a (before ++ x ∷ [])
  one_more a before x = grind (arith, nat_tests, append-nil (told_claims_of told a x), flat_map-append (told_claims_of told a) before (x ∷ []))

  -- a visit more, with what it claims and the range that it notes
  pub met_more : (old new : Rectangle) (was now : Shown) (before : List Visit) (x : Visit)
      → ((a : Aggregation) → a.ranges ≡ last → old ≡ bound (Claims a before) → new ≡ bound (Claims a before ++ told_claims_of told a x))
      → now ≡ adding of_same_range was (filter_map shown_range (x ∷ [])) → IsMeasured told last old was before
      → IsMeasured told last new now (before ++ x ∷ [])
  met_more old new was now before x claim note h = grind (arith, nat_tests, one_more, adding_more, filter_map-append)

  -- a quad
  pub met_quad : (d : Rectangle) (rs : Shown) (before : List Visit) → IsMeasured told last d rs before
      → IsMeasured told last d rs (before ++ Quad ∷ [])
  unfolding told_claims_of
  met_quad d rs before h = met_more d d rs rs before Quad (λ a e k. more_none (Claims a before) [] d refl k) refl h

  noted : (range : SurfaceRange) (now : Option FrameData) (seen : Rectangle)
      → filter_map shown_range (Shows range now seen ∷ []) ≡ (range, id_of_frame now) ∷ []
  noted range now seen = grind (arith, nat_tests)

  range_claim : (t : Bool) (rs : List Rectangle) (d seen : Rectangle) → IsRectangle seen → d ≡ bound rs
      → (if t then join d seen else d) ≡ bound (rs ++ (if t then seen ∷ [] else []))
  range_claim t rs d seen proper e = grind (arith, nat_tests, more_one, more_none rs [] d refl e)

  -- a range
  pub met_range : (old new : Rectangle) (was now : Shown) (before : List Visit) (range : SurfaceRange) (shown : Option FrameData)
      (seen : Rectangle) → IsRectangle seen
      → ((a : Aggregation) → a.ranges ≡ last → new ≡ (if is_switched a range shown then join old seen else old))
      → now ≡ adding of_same_range was ((range, id_of_frame shown) ∷ [])
      → IsMeasured told last old was before → IsMeasured told last new now (before ++ Shows range shown seen ∷ [])
  unfolding told_claims_of
  met_range old new was now before range shown seen proper claim note h = grind (arith, nat_tests, met_more old new was now before (Shows range shown seen), range_claim, noted range shown seen)

  -- a surface
  pub met_surface : (old new r : Rectangle) (rs : Shown) (before : List Visit) (depth : _) (i : FrameData) (place : Placement)
      → IsRectangle r → r ≡ seen_damage (damage_in (told_on told i.id)) i place
      → new ≡ join old r → IsMeasured told last old rs before → IsMeasured told last new rs (before ++ Enters depth i place ∷ [])
  unfolding told_claims_of
  met_surface old new r rs before depth i place proper is claim h = grind (arith, nat_tests, met_more old new rs rs before (Enters depth i place), more_one)

  -- nothing
  pub met_nothing : IsMeasured told last no_rectangle [] []
  unfolding bound
  met_nothing = record { claims = λ a e. refl; ranges_met = refl }

-- What follows of a whole walk

-- the claims of all visits, where the root is that of the last aggregation
pub damage_same : (size : Size) (last : Option SurfaceId) (shown : Shown) (told : List (SurfaceId × Told)) (root : SurfaceId)
    (walked : List Visit) (d : Rectangle) (rs : Shown)
    → has_root (last_in last shown) root ≡ true → IsMeasured told shown d rs walked
    → d ≡ told_damage size (last_in last shown) told root walked
unfolding told_damage told_claims
damage_same size last shown told root walked d rs e h = grind (arith, nat_tests, last_in last shown)

display_is : (size : Size) → IsDisplaySize size → IsRectangle (sized size)
display_is size h = grind (arith, nat_tests, ints, full_sides (pos 0) (pos 0) size.w size.h h.wide h.high)

whole_by : (size : Size) (told : List (SurfaceId × Told)) (root : SurfaceId) (walked : List Visit) (o : Option Aggregation)
    → has_root o root ≡ false → bound (sized size ∷ []) ≡ told_damage size o told root walked
unfolding told_damage told_claims
whole_by size told root walked o e = grind (arith, nat_tests)

-- and the whole display where it is not
pub damage_other : (size : Size) (told : List (SurfaceId × Told)) (root : SurfaceId) (walked : List Visit) (o : Option Aggregation)
    → IsDisplaySize size → has_root o root ≡ false → sized size ≡ told_damage size o told root walked
damage_other size told root walked o display e = sym (bound_one (sized size) (display_is size display)) ∙ whole_by size told root walked o e

-- the ranges are those that are remembered
pub ranges_are : (told : List (SurfaceId × Told)) (last : Shown) (d : Rectangle) (rs : Shown) (scene : Scene) (walked : List Visit)
    → IsMeasured told last d rs walked → rs ≡ (aggregation_of scene walked).ranges
unfolding aggregation_of
ranges_are told last d rs scene walked h = h.ranges_met

-- what changed, with them, is what is measured
pub measure_is : (d : Damaged) (st : Stored) (root : SurfaceId) (size : Size) (m : Measurement) (damage : Rectangle) (rs : Shown)
    → m.changed ≡ what_changed d.last damage → m.kept ≡ record { root = root; indices = []; ranges = rs }
    → damage ≡ told_damage size d.last d.surfaces root (walked_in size root st)
    → rs ≡ (aggregation_of (scene_in root st) (walked_in size root st)).ranges
    → IsMeasureOf d st root size m
unfolding aggregation_of
measure_is d st root size m damage rs changed kept walked ranges = grind (arith, nat_tests)

-- The visitor

-- what holds where the call answered Ok
pub where_ok : {T E : Type 0} (r : Result T E) (P : Type 0) → OnOk r P → is_ok r ≡ true → P
where_ok r _ h e = grind (arith, nat_tests)

module _ {V A B : Type 0} (told : V → A) (last : V → B) (told_in : A → List (SurfaceId × Told)) (last_of : B → Shown) (damage : V
    → Rectangle) (ranges : V → Shown) where
  abbrev Has : V → V → List Visit → Type 0
  Has first v visits = IsMeasured (told_in (told first)) (last_of (last first)) (damage v) (ranges v) visits × (told v ≡ told first) ×
      (last v ≡ last first)

  abbrev Stops : V → List Visit → Type 0
  Stops v visits = Unit {0}

  -- one visit is met where the walk goes on
  pub meets_one : (r : Bool) (old new : V) (x : Visit) → told new ≡ told old → last new ≡ last old
      → (r ≡ true → (before : List Visit) → IsMeasured (told_in (told old)) (last_of (last old)) (damage old) (ranges old) before
      → IsMeasured (told_in (told old)) (last_of (last old)) (damage new) (ranges new) (before ++ x ∷ []))
      → Meets Has Stops r old new (x ∷ [])
  meets_one r old new x a b step = grind (arith, nat_tests, append-nil)
