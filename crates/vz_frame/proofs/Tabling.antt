-- What is found in the passes of a frame, and the table of its rules.
use Rattle.std.proofs.Common.{◌≡◌, ℕ, ◌+◌, ◌-◌, ◌<◌, ◌≤◌, List, [], ◌∷◌, ◌++◌, reverse, length, get_or, take, drop, Bool, true, false, not, cond, ◌||◌, ◌&&◌, ◌==◌, Option, Some, None, is_some, is_none, find, slice_get, refl, sym, ap, ap₂, ◌∙◌, subst, arith}
use mathlib.Core.List.{reverse-cons}
use Rattle.std.specs.List.{list_any, flat_map}
use Rattle.std.proofs.lemmas.List.{drop_more, drop_all, take_more, append-nil, reverse-append, reverse-reverse, length_push, get_or_push}
use Rattle.std.proofs.lemmas.Option.{slice_get_read}
use Rattle.std.proofs.lemmas.Bool.Decides.{nat_tests}
use Rattle.vz_frame.specs.Checking.{joined, in_quad, in_quads, in_passes, first_said, is_some_with, reaches_outside, shows_outside, damages_outside}
use Rattle.vz_frame.specs.Frame.{lists, exceeds, names_none, names_pass, misorders, tile_unlisted, tile_outside, bad_quad_range, has_repeat, breaks, first_broken, quads_of, root_pass, first_of, bad_root}
use Rattle.vz_geom.specs.Rectangle.{covers_rect}
use Rattle.vz_ids.specs.Ids.{is_good, same_surface}
use Rattle.vz_frame.specs.declared.rules.Found.{Found}
use Rattle.vz_frame.specs.declared.frame.CompositorFrame.{CompositorFrame}
use Rattle.vz_frame.specs.declared.frame.DrawQuad.{DrawQuad}
use Rattle.vz_frame.specs.declared.frame.Listing.{Listing}
use Rattle.vz_frame.specs.declared.frame.RenderPass.{RenderPass}
use Rattle.vz_frame.specs.declared.frame.Material.{Material}
use Rattle.vz_frame.specs.declared.frame.Material.TheVariants.{Solid, Tile, Surface, Pass}
use Rattle.vz_frame.specs.declared.rules.Rule.{Rule}
use Rattle.vz_frame.specs.declared.rules.Rule.TheVariants.{NoPass, BadRoot, PassIds, PassOrder, VisibleOutside, UnlistedResource, ListedTwice, TileOutside, BadRange, BadDependency, DamageOutside}

-- the first line of a table
pub said : (table : List (Bool × Rule)) (i : ℕ) (d : Bool × Rule) → i < length table → (get_or table i d).0 ≡ true → first_said table ≡ first_said (drop i table) → Some (get_or table i d).1 ≡ first_said table
unfolding first_said
said table i d inside broken left = sym (left ∙ ap first_said (drop_more table i d inside) ∙ ap (λ b. cond b (Some (get_or table i d).1) (first_said (drop (i + 1) table))) broken)

pub unsaid : (table : List (Bool × Rule)) (i : ℕ) (d : Bool × Rule) → i < length table → (get_or table i d).0 ≡ false → first_said table ≡ first_said (drop i table) → first_said table ≡ first_said (drop (i + 1) table)
unfolding first_said
unsaid table i d inside kept left = left ∙ ap first_said (drop_more table i d inside) ∙ ap (λ b. cond b (Some (get_or table i d).1) (first_said (drop (i + 1) table))) kept

pub none_said : (table : List (Bool × Rule)) (i : ℕ) → length table ≤ i → first_said table ≡ first_said (drop i table) → first_said table ≡ None
unfolding first_said
none_said table i over left = left ∙ ap first_said (drop_all i table over)

module _ {A : Type 0} (p : A → Bool) where
  pub any_append : (xs ys : List A) → list_any p (xs ++ ys) ≡ (list_any p xs || list_any p ys)
  any_append [] ys = refl
  any_append (x ∷ xs) ys = grind (arith, any_append xs ys)

  pub any_one : (xs : List A) (x : A) → list_any p (xs ++ x ∷ []) ≡ (list_any p xs || p x)
  any_one xs x = grind (arith, any_append xs (x ∷ []))

  pub any_reverse : (xs : List A) → list_any p (reverse xs) ≡ list_any p xs
  any_reverse [] = refl
  any_reverse (x ∷ xs) = grind (arith, ap (list_any p) (reverse-cons x xs), any_one (reverse xs) x, any_reverse xs)

  pub any_find : (xs : List A) → list_any p xs ≡ is_some (find p xs)
  any_find [] = refl
  any_find (x ∷ xs) = grind (arith, any_find xs)

-- one quad more
pub quads_push : (earlier : List RenderPass) (listings : List Listing) (quads : List DrawQuad) (quad : DrawQuad) → in_quads earlier listings (quads ++ quad ∷ []) ≡ joined (in_quads earlier listings quads) (in_quad earlier listings quad)
unfolding in_quads
quads_push earlier listings quads quad = λ i. record {
  order = any_one (names_none earlier) quads quad i;
  visible = any_one shows_outside quads quad i;
  unlisted = any_one (tile_unlisted listings) quads quad i;
  outside = any_one (reaches_outside listings) quads quad i;
  range = any_one bad_quad_range quads quad i;
  damage = false;
}

-- the order of the earlier passes does not matter
names_any : (earlier : List RenderPass) (quad : DrawQuad) → names_none (reverse earlier) quad ≡ names_none earlier quad
names_any earlier quad = by_material quad.material
  where
    by_material : (m : Material) → ◌≡◌ {A = Bool} (elim m [ Pass id ↦ not (list_any (names_pass id) (reverse earlier)) | _ ↦ false ]) (elim m [ Pass id ↦ not (list_any (names_pass id) earlier) | _ ↦ false ])
    by_material (Solid colour) = refl
    by_material (Tile id tx ty) = refl
    by_material (Surface range background) = refl
    by_material (Pass id) = ap not (any_reverse (names_pass id) earlier)

-- the quads of one pass more
quads_more : (passes : List RenderPass) (pass : RenderPass) (p : DrawQuad → Bool)
    → list_any p (flat_map (λ q. q.quads) (passes ++ pass ∷ [])) ≡ (list_any p (flat_map (λ q. q.quads) passes) || list_any p pass.quads)
quads_more [] pass p = ap (list_any p) (append-nil pass.quads)
quads_more (first ∷ passes) pass p =
    let rest = flat_map (λ q. q.quads) passes in
    let more = flat_map (λ q. q.quads) (passes ++ pass ∷ []) in
    grind (arith, any_append p first.quads more, any_append p first.quads rest, quads_more passes pass p)

-- the order of one pass more
order_more : (passes : List RenderPass) (pass : RenderPass) → misorders (reverse (passes ++ pass ∷ [])) ≡ (misorders (reverse passes) || list_any (names_none passes) pass.quads)
order_more passes pass =
    let turned : reverse (passes ++ pass ∷ []) ≡ pass ∷ reverse passes = reverse-append passes (pass ∷ []) in
    let same : names_none (reverse passes) ≡ names_none passes = λ i quad. names_any passes quad i in
    let here = ap (λ test. list_any test pass.quads) same in
    grind (arith, ap misorders turned, here)

-- one pass more
pub passes_push : (listings : List Listing) (passes : List RenderPass) (pass : RenderPass) (quads found : Found) → quads ≡ in_quads passes listings pass.quads → found ≡ joined (in_passes listings passes) quads
    → record { order = found.order; visible = found.visible; unlisted = found.unlisted; outside = found.outside; range = found.range; damage = found.damage || damages_outside pass } ≡ in_passes listings (passes ++ pass ∷ [])
unfolding in_quads in_passes
passes_push listings passes pass quads found is together = λ i. record {
  order = (ap (λ f. f.order) together ∙ ap (λ f. misorders (reverse passes) || f.order) is ∙ sym (order_more passes pass)) i;
  visible = (ap (λ f. f.visible) together ∙ ap (λ f. (in_passes listings passes).visible || f.visible) is ∙ sym (quads_more passes pass shows_outside)) i;
  unlisted = (ap (λ f. f.unlisted) together ∙ ap (λ f. (in_passes listings passes).unlisted || f.unlisted) is ∙ sym (quads_more passes pass (tile_unlisted listings))) i;
  outside = (ap (λ f. f.outside) together ∙ ap (λ f. (in_passes listings passes).outside || f.outside) is ∙ sym (quads_more passes pass (reaches_outside listings))) i;
  range = (ap (λ f. f.range) together ∙ ap (λ f. (in_passes listings passes).range || f.range) is ∙ sym (quads_more passes pass bad_quad_range)) i;
  damage = damage_more i;
}
  where
    damage_more : (found.damage || damages_outside pass) ≡ list_any damages_outside (passes ++ pass ∷ [])
    damage_more =
        let now : found.damage ≡ (list_any damages_outside passes || false) = ap (λ f. f.damage) together ∙ ap (λ f. (in_passes listings passes).damage || f.damage) is in
        grind (arith, now, any_one damages_outside passes pass)

-- a tile of a resource that is not listed
pub tile_none : (earlier : List RenderPass) (listings : List Listing) (quad : DrawQuad) (id tx ty : ℕ) → quad.material ≡ Tile id tx ty → find (lists id) listings ≡ None
    → in_quad earlier listings quad ≡ record { order = false; visible = shows_outside quad; unlisted = true; outside = false; range = false; damage = false }
tile_none earlier listings quad id tx ty is none = λ i. record {
  order = ap (λ m. elim m [ Pass id ↦ not (list_any (names_pass id) earlier) | _ ↦ false ]) is i;
  visible = shows_outside quad;
  unlisted = (ap (λ m. elim m [ Tile id tx ty ↦ not (list_any (lists id) listings) | _ ↦ false ]) is ∙ ap not (any_find (lists id) listings ∙ ap is_some none)) i;
  outside = (ap (λ m. elim m [ Tile id tx ty ↦ is_some_with (exceeds quad.area tx ty) (find (lists id) listings) | _ ↦ false ]) is ∙ ap (is_some_with (exceeds quad.area tx ty)) none) i;
  range = ap (λ m. elim m [ Surface range background ↦ not (is_good range) | _ ↦ false ]) is i;
  damage = false;
}

-- a tile of a listed resource
pub tile_listed : (earlier : List RenderPass) (listings : List Listing) (quad : DrawQuad) (id tx ty : ℕ) (listing : Listing) → quad.material ≡ Tile id tx ty → find (lists id) listings ≡ Some listing
    → in_quad earlier listings quad ≡ record { order = false; visible = shows_outside quad; unlisted = false; outside = exceeds quad.area tx ty listing; range = false; damage = false }
tile_listed earlier listings quad id tx ty listing is found = λ i. record {
  order = ap (λ m. elim m [ Pass id ↦ not (list_any (names_pass id) earlier) | _ ↦ false ]) is i;
  visible = shows_outside quad;
  unlisted = (ap (λ m. elim m [ Tile id tx ty ↦ not (list_any (lists id) listings) | _ ↦ false ]) is ∙ ap not (any_find (lists id) listings ∙ ap is_some found)) i;
  outside = (ap (λ m. elim m [ Tile id tx ty ↦ is_some_with (exceeds quad.area tx ty) (find (lists id) listings) | _ ↦ false ]) is ∙ ap (is_some_with (exceeds quad.area tx ty)) found) i;
  range = ap (λ m. elim m [ Surface range background ↦ not (is_good range) | _ ↦ false ]) is i;
  damage = false;
}

-- a turn of the loop over quads
pub quads_step : (earlier : List RenderPass) (listings : List Listing) (quads : List DrawQuad) (k : ℕ) (quad : DrawQuad) (before here now : Found) → k < length quads → quad ≡ get_or quads k quad
    → before ≡ in_quads earlier listings (take k quads) → here ≡ in_quad earlier listings quad → now ≡ joined before here → now ≡ in_quads earlier listings (take (k + 1) quads)
quads_step earlier listings quads k quad before here now inside is was is_here together =
    let more : take (k + 1) quads ≡ take k quads ++ quad ∷ [] = take_more quads k quad inside ∙ ap (λ q. take k quads ++ q ∷ []) (sym is) in
    together ∙ ap₂ joined was is_here ∙ sym (quads_push earlier listings (take k quads) quad) ∙ ap (in_quads earlier listings) (sym more)

-- a turn of the loop over passes
pub passes_step : (listings : List Listing) (passes by_id : List RenderPass) (k : ℕ) (pass : RenderPass) (quads : List DrawQuad) (before in_pass found : Found) (covers : Bool)
    → by_id ≡ passes → k < length passes → pass ≡ get_or passes k pass → quads ≡ pass.quads → before ≡ in_passes listings (take k passes)
    → in_pass ≡ in_quads (take k by_id) listings quads → found ≡ joined before in_pass → covers ≡ covers_rect pass.output pass.damage
    → record { order = found.order; visible = found.visible; unlisted = found.unlisted; outside = found.outside; range = found.range; damage = found.damage || not covers } ≡ in_passes listings (take (k + 1) passes)
passes_step listings passes by_id k pass quads before in_pass found covers same inside is its was is_in together cover =
    let more : take (k + 1) passes ≡ take k passes ++ pass ∷ [] = take_more passes k pass inside ∙ ap (λ p. take k passes ++ p ∷ []) (sym is) in
    let in_this : in_pass ≡ in_quads (take k passes) listings pass.quads = is_in ∙ ap₂ (λ ps qs. in_quads (take k ps) listings qs) same its in
    let all : found ≡ joined (in_passes listings (take k passes)) in_pass = together ∙ ap (λ f. joined f in_pass) was in
    ap (λ c. record { order = found.order; visible = found.visible; unlisted = found.unlisted; outside = found.outside; range = found.range; damage = found.damage || not c }) cover
    ∙ passes_push listings (take k passes) pass in_pass found in_this all ∙ ap (in_passes listings) (sym more)

none_passes : (id : ℕ) (listings : List Listing) (test : Listing → Bool) → list_any (lists id) listings ≡ false → list_any (λ listing. lists id listing && test listing) listings ≡ false
none_passes id [] test none = refl
none_passes id (l ∷ ls) test none = grind (arith, none, none_passes id ls test)

only_step : (b rest : Bool) (l : Listing) (o : Option Listing) (test : Listing → Bool) → (b ≡ true → rest ≡ false) → rest ≡ is_some_with test o → ((b && test l) || rest) ≡ is_some_with test (cond b (Some l) o)
only_step true rest l o test alone is = grind (arith, alone refl)
only_step false rest l o test alone is = is

-- where no id is listed twice, the first listing of a resource is the only one
only_listing : (id : ℕ) (listings : List Listing) (test : Listing → Bool) → has_repeat (λ a b. lists a.id b) listings ≡ false
    → list_any (λ listing. lists id listing && test listing) listings ≡ is_some_with test (find (lists id) listings)
only_listing id [] test once = refl
only_listing id (l ∷ ls) test once =
    let rest = list_any (λ listing. lists id listing && test listing) ls in
    let first : list_any (lists l.id) ls ≡ false = grind (arith, once) in
    let later : has_repeat (λ a b. lists a.id b) ls ≡ false = grind (arith, once) in
    let alone : lists id l ≡ true → rest ≡ false = λ is.
    let same : l.id ≡ id = grind (arith, nat_tests, is) in
    none_passes id ls test (subst (λ n. list_any (lists n) ls ≡ false) same first) in
    only_step (lists id l) rest l (find (lists id) ls) test alone (only_listing id ls test later)

-- so a tile reaches outside a listing exactly where it reaches outside the first
outside_first : (listings : List Listing) → has_repeat (λ a b. lists a.id b) listings ≡ false → (quad : DrawQuad) → reaches_outside listings quad ≡ tile_outside listings quad
outside_first listings once quad = by_material quad.material
  where
    by_material : (m : Material) → ◌≡◌ {A = Bool} (elim m [ Tile id tx ty ↦ is_some_with (exceeds quad.area tx ty) (find (lists id) listings) | _ ↦ false ])
        (elim m [ Tile id tx ty ↦ list_any (λ listing. lists id listing && exceeds quad.area tx ty listing) listings | _ ↦ false ])
    by_material (Solid colour) = refl
    by_material (Tile id tx ty) = sym (only_listing id listings (exceeds quad.area tx ty) once)
    by_material (Surface range background) = refl
    by_material (Pass id) = refl

-- where an earlier rule is broken, a later one does not matter
seventh : (b c d : Bool) (x y z : Option Rule) → (b ≡ false → c ≡ d) → cond b x (cond c y z) ≡ cond b x (cond d y z)
seventh true c d x y z same = refl
seventh false c d x y z same = ap (λ t. cond t y z) (same refl)

last_of : (down : List RenderPass) → slice_get (reverse down) (length (reverse down) - 1) ≡ first_of down
last_of [] = refl
last_of (pass ∷ down) =
    let up = reverse down in
    let turned : reverse (pass ∷ down) ≡ up ++ pass ∷ [] = reverse-cons pass down in
    let long = length_push up pass in
    let last : slice_get (up ++ pass ∷ []) (length up) ≡ Some pass = slice_get_read (up ++ pass ∷ []) (length (up ++ pass ∷ [])) (length up) pass refl (omega (arith, long)) (sym (get_or_push up pass pass (length up) refl)) in
    let place : length (up ++ pass ∷ []) - 1 ≡ length up = omega (arith, long) in
    ap (λ l. slice_get l (length l - 1)) turned ∙ ap (slice_get (up ++ pass ∷ [])) place ∙ last

-- the last pass
pub last_is_root : (passes : List RenderPass) → slice_get passes (length passes - 1) ≡ first_of (reverse passes)
last_is_root passes = ap (λ l. slice_get l (length l - 1)) (sym (reverse-reverse passes)) ∙ last_of (reverse passes)

first_of_push : (down : List RenderPass) (pass : RenderPass) → is_none (first_of (down ++ pass ∷ [])) ≡ false
first_of_push [] pass = refl
first_of_push (first ∷ down) pass = refl

-- there is no last pass exactly where there is none
pub empty_is : (passes : List RenderPass) → (length passes == 0) ≡ is_none (first_of (reverse passes))
empty_is [] = refl
empty_is (pass ∷ passes) =
    let some : (length (pass ∷ passes) == 0) ≡ false = grind (arith, nat_tests) in
    some ∙ sym (ap (λ l. is_none (first_of l)) (reverse-cons pass passes) ∙ first_of_push (reverse passes) pass)

-- a table of what the frame breaks names the first rule that it breaks
pub table_is : (frame : CompositorFrame) (found : Found) (empty root ids twice range depends : Bool)
    → found ≡ in_passes frame.resources frame.passes → empty ≡ is_none (root_pass frame) → root ≡ bad_root (root_pass frame)
    → ids ≡ has_repeat (λ a b. names_pass a.id b) frame.passes → twice ≡ has_repeat (λ a b. lists a.id b) frame.resources
    → range ≡ list_any (λ r. not (is_good r)) frame.metadata.references → depends ≡ has_repeat same_surface frame.metadata.dependencies
    → first_said ((empty, NoPass) ∷ (root, BadRoot) ∷ (ids, PassIds) ∷ (found.order, PassOrder) ∷ (found.visible, VisibleOutside) ∷ (found.unlisted, UnlistedResource)
    ∷ (twice, ListedTwice) ∷ (found.outside, TileOutside) ∷ (found.range || range, BadRange) ∷ (depends, BadDependency) ∷ (found.damage, DamageOutside) ∷ []) ≡ first_broken frame
unfolding first_said in_passes breaks first_broken
table_is frame found empty root ids twice range depends is e1 e2 e3 e7 e9 e10 =
    let listings = frame.resources in
    let all = quads_of frame in
    let T = has_repeat (λ a b. lists a.id b) listings in
    let first : Bool = list_any (reaches_outside listings) all in
    let any : Bool = list_any (tile_outside listings) all in
    let R : Bool = list_any bad_quad_range all || list_any (λ r. not (is_good r)) frame.metadata.references in
    let D : Bool = has_repeat same_surface frame.metadata.dependencies in
    let O : Bool = list_any damages_outside frame.passes in
    let rest : Option Rule = cond R (Some BadRange) (cond D (Some BadDependency) (cond O (Some DamageOutside) None)) in
    let same : T ≡ false → first ≡ any = λ once. ap (λ test. list_any test all) (λ i quad. outside_first listings once quad i) in
    let tail : cond twice (Some ListedTwice) (cond found.outside (Some TileOutside) (cond (found.range || range) (Some BadRange) (cond depends (Some BadDependency) (cond found.damage (Some DamageOutside) None))))
    ≡ cond T (Some ListedTwice) (cond any (Some TileOutside) rest) =
    (λ i. cond (e7 i) (Some ListedTwice) (cond ((is i).outside) (Some TileOutside) (cond ((is i).range || e9 i) (Some BadRange) (cond (e10 i) (Some BadDependency) (cond ((is i).damage) (Some DamageOutside) None)))))
    ∙ seventh T first any (Some ListedTwice) (Some TileOutside) rest same in
    λ i. cond (e1 i) (Some NoPass) (cond (e2 i) (Some BadRoot) (cond (e3 i) (Some PassIds) (cond ((is i).order) (Some PassOrder) (cond ((is i).visible) (Some VisibleOutside) (cond ((is i).unlisted) (Some UnlistedResource) (tail i))))))
