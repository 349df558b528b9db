-- Where the names inside a frame lead.
use Rattle.std.proofs.Common.{◌≡◌, ◌==◌, ℕ, zero, suc, ◌+◌, ◌<◌, ◌≤◌, nat_lt, not, Bool, true, false, Option, Some, None, List, [], ◌∷◌, ◌++◌, length, take, get_or, slice_get, refl, ap, ◌∙◌, arith, filter, if◌then◌else◌}
use Rattle.std.proofs.lemmas.Bool.Decides.{nat_tests}
use Rattle.std.specs.List.{position_or_len, last_or, range_with_len}
use Rattle.std.specs.Option.{option_map}
use Rattle.std.proofs.lemmas.Bool.{lt-ltb, le-ltb, eq-eqb}
use Rattle.std.proofs.lemmas.Option.{none-some, same_Some, slice_get-map, slice_get-get_or, slice_get_within}
use Rattle.std.proofs.lemmas.Grind.{take_at_read}
use Rattle.std.proofs.lemmas.List.{map-append, append-nil}
use Rattle.std.proofs.lemmas.List.Elements.{filter-append}
use Rattle.vz_pixels.specs.Block.{Block}
use Rattle.vz_frame.specs.declared.frame.CompositorFrame.{CompositorFrame}
use Rattle.vz_frame.specs.declared.frame.Listing.{Listing}
use Rattle.vz_frame.specs.declared.frame.RenderPass.{RenderPass}
use Rattle.vz_frame.specs.declared.frame.DrawQuad.{DrawQuad}
use Rattle.vz_frame.specs.declared.frame.Material.TheVariants.{Tile, Pass}
use Rattle.vz_frame.specs.Frame.{lists, names_pass}
use Rattle.vz_rules.specs.Paint.{block_of}
use Rattle.vz_surfaces.specs.Names.{has_id_at, places_before, pass_place, listing_place, place_named, places_in, AreNamed, AreNamedIfAny, block_at}

-- Listings

-- the place in a list, from whether its first element is meant and from the place in its tail
abbrev step : Bool → Option ℕ → Option ℕ
step first later = if first then Some 0 else option_map suc later

position_step : (first : Bool) (k n : ℕ)
    → (if nat_lt (if not first then 1 + k else 0) (suc n) then Some (if not first then 1 + k else 0) else None)
    ≡ step first (if nat_lt k n then Some k else None)
position_step true k n = grind (arith, nat_tests, lt-ltb 0 (suc n))
position_step false k n = grind (arith, nat_tests, lt-ltb, lt-ltb k n, le-ltb, le-ltb k n)

listing_step : (id : ℕ) (listing : Listing) (listings : List Listing)
    → listing_place id (listing ∷ listings) ≡ step (lists id listing) (listing_place id listings)
unfolding listing_place
listing_step id listing listings = position_step (lists id listing) (position_or_len (lists id) listings) (length listings)

-- the block behind the first, by the place behind the first
block_later : (later : Option ℕ) (block : Block) (blocks : List Block)
    → block_at (option_map suc later) (block ∷ blocks) ≡ block_at later blocks
block_later None block blocks = refl
block_later (Some k) block blocks = refl

block_step : (first : Bool) (later : Option ℕ) (block : Block) (blocks : List Block) (o : Option Block) → block_at later blocks ≡ o
    → block_at (step first later) (block ∷ blocks) ≡ (if first then Some block else o)
block_step true later block blocks o e = refl
block_step false later block blocks o e = block_later later block blocks ∙ e

no_block : (place : Option ℕ) → block_at place [] ≡ None
no_block None = refl
no_block (Some k) = refl

-- the block of a resource is that at the place of its first listing
pub block_is : (id : ℕ) (listings : List Listing) (blocks : List Block)
    → block_at (listing_place id listings) blocks ≡ block_of id listings blocks
unfolding listing_place
block_is id [] blocks = refl
block_is id (listing ∷ listings) [] = no_block (listing_place id (listing ∷ listings))
block_is id (listing ∷ listings) (block ∷ blocks) = grind (arith, nat_tests, listing_step, block_step, block_is id listings blocks)

-- Passes

last_more : (o : Option ℕ) (ks : List ℕ) (k : ℕ) → last_or o (ks ++ k ∷ []) ≡ Some k
last_more o [] k = refl
last_more o (j ∷ ks) k = last_more (Some j) ks k

last_by : (t : Bool) (ks : List ℕ) (k : ℕ) → last_or None (ks ++ (if t then k ∷ [] else [])) ≡ (if t then Some k else last_or None ks)
last_by true ks k = last_more None ks k
last_by false ks k = ap (last_or None) (append-nil ks)

-- one place more
places_more : (a k : ℕ) → range_with_len a (suc k) ≡ range_with_len a k ++ (a + k) ∷ []
places_more a zero = let same : a ≡ a + zero = omega arith in ap (λ (n : ℕ). n ∷ []) same
places_more a (suc k) =
    let same : (a + 1) + k ≡ a + suc k = omega arith in
    ap (λ (l : List ℕ). a ∷ l) (places_more (a + 1) k ∙ ap (λ (n : ℕ). range_with_len (a + 1) k ++ n ∷ []) same)

-- one place further on, it is the new one where the pass there has the id, and else that of before
place_next : (id : ℕ) (passes : List RenderPass) (k : ℕ)
    → pass_place id passes (suc k) ≡ (if has_id_at id passes k then Some k else pass_place id passes k)
unfolding pass_place
place_next id passes k =
    grind (arith, nat_tests, places_more 0 k, filter-append (has_id_at id passes) (places_before k) (k ∷ []), last_by (has_id_at id passes k) (filter (has_id_at id passes) (places_before k)) k)

next_by : (id : ℕ) (passes : List RenderPass) (j k : ℕ) (d : RenderPass) (t : Bool) → k + 1 ≡ j → k < length passes
    → names_pass id (get_or passes k d) ≡ t → pass_place id passes j ≡ (if t then Some k else pass_place id passes k)
next_by id passes j k d t e h named = grind (arith, nat_tests, place_next id passes k, slice_get-get_or)

-- the pass there has the id
pub place_here : (id : ℕ) (passes : List RenderPass) (j k : ℕ) (d : RenderPass) → k + 1 ≡ j → k < length passes
    → names_pass id (get_or passes k d) ≡ true → pass_place id passes j ≡ Some k
place_here id passes j k d e h named = next_by id passes j k d true e h named

-- or it has another id
pub place_over : (id : ℕ) (passes : List RenderPass) (j k : ℕ) (d : RenderPass) → k + 1 ≡ j → k < length passes
    → names_pass id (get_or passes k d) ≡ false → pass_place id passes j ≡ pass_place id passes k
place_over id passes j k d e h named = next_by id passes j k d false e h named

-- there is none before the first place
pub place_none : (id : ℕ) (passes : List RenderPass) (k : ℕ) → k ≤ 0 → None ≡ pass_place id passes k
unfolding pass_place
place_none id passes zero h = refl
place_none id passes (suc k) h = absurd (omega arith)

-- the pass of a name is an earlier one
pub place_before : (id : ℕ) (passes : List RenderPass) (n k : ℕ) → pass_place id passes n ≡ Some k → k < n
place_before id passes zero k e = absurd (none-some k (place_none id passes 0 (omega arith) ∙ e))
place_before id passes (suc n) k e = grind (arith, nat_tests, same_Some, place_before id passes n k, place_next id passes n)

-- Places of a pass

-- one quad more
pub one_placed : (frame : CompositorFrame) (k : ℕ) (quads : List DrawQuad) (n : ℕ) (quad : DrawQuad) (old new : List (Option ℕ)) (place : Option ℕ)
    → n < length quads → quad ≡ get_or quads n quad → old ≡ places_in frame k (take n quads) → new ≡ old ++ place ∷ []
    → place ≡ place_named frame k quad → new ≡ places_in frame k (take (n + 1) quads)
one_placed frame k quads n quad old new place h here so_far e is = grind (arith, nat_tests, map-append (place_named frame k) (take n quads) (get_or quads n quad ∷ []), take_at_read quads n quad h)

-- Places of a frame

-- they are those of so many passes
pub record AreNamedTo (frame : CompositorFrame) (n : ℕ) (places : List (List (Option ℕ))) : Type 0 where
  pub long : length places ≡ n
  pub there : (k : ℕ) (pass : RenderPass) → k < n → slice_get frame.passes k ≡ Some pass → slice_get places k ≡ Some (places_in frame k pass.quads)

-- What is read

some_there : (n : ℕ) (t : Bool) → t ≡ (n == 0) → t ≡ false → n ≡ 0 → ⊥
some_there n t is off none = grind (arith, nat_tests, eq-eqb n 0)

-- where there are places, they are the right ones
pub named_there : (frame : CompositorFrame) (places all : List (List (Option ℕ))) (t : Bool) → AreNamedIfAny frame places → all ≡ places
    → t ≡ (length all == 0) → t ≡ false → AreNamed frame places
named_there frame places all t named same is some = named (some_there (length places) t (is ∙ ap (λ l. length l == 0) same) some)

-- what is read of a list by a place is what stands there
pub item_is : {A : Type 0} (items all : List A) (k : ℕ) (x got : A) → all ≡ items → k < length all → got ≡ get_or all k got
    → slice_get items k ≡ Some x → got ≡ x
item_is items all k x got same low is at = grind (arith, nat_tests, same_Some got x, slice_get-get_or all k got low)

module _ (frame : CompositorFrame) (places : List (List (Option ℕ))) (k n : ℕ) (pass : RenderPass) (quad : DrawQuad)
    (named : AreNamed frame places) (at : slice_get frame.passes k ≡ Some pass) (here : slice_get pass.quads n ≡ Some quad) where
  -- the pass has places
  pub pass_low : k < length places
  pass_low = slice_get_within places k (places_in frame k pass.quads) (named.there k pass at)

  -- they are those of its quads
  pub pass_read : (all : List (List (Option ℕ))) (of_pass : List (Option ℕ)) → all ≡ places → k < length all → of_pass ≡ get_or all k of_pass
      → of_pass ≡ places_in frame k pass.quads
  pass_read all of_pass same low is = grind (arith, nat_tests, same_Some of_pass (places_in frame k pass.quads), slice_get-get_or all k of_pass low)

  -- the quad's is among them
  quad_at : slice_get (places_in frame k pass.quads) n ≡ Some (place_named frame k quad)
  quad_at = slice_get-map (place_named frame k) pass.quads n ∙ ap (option_map (place_named frame k)) here

  pub quad_low : (of_pass : List (Option ℕ)) → of_pass ≡ places_in frame k pass.quads → n < length of_pass
  quad_low of_pass same = slice_get_within of_pass n (place_named frame k quad) (ap (λ l. slice_get l n) same ∙ quad_at)

  pub quad_read : (of_pass : List (Option ℕ)) (place : Option ℕ) → of_pass ≡ places_in frame k pass.quads → n < length of_pass
      → place ≡ get_or of_pass n place → place ≡ place_named frame k quad
  quad_read of_pass place same low is = grind (arith, nat_tests, same_Some place (place_named frame k quad), slice_get-get_or of_pass n place low, quad_at)

-- Quads by their materials

-- a pass quad is named by its id
pub pass_named : (frame : CompositorFrame) (k : ℕ) (quad : DrawQuad) (id : ℕ) → quad.material ≡ Pass id
    → place_named frame k quad ≡ pass_place id frame.passes k
unfolding place_named
pass_named frame k quad id e = rw e refl

-- a tile by its resource
pub tile_named : (frame : CompositorFrame) (k : ℕ) (quad : DrawQuad) (id tx ty : ℕ) → quad.material ≡ Tile id tx ty
    → place_named frame k quad ≡ listing_place id frame.resources
unfolding place_named
tile_named frame k quad id tx ty e = rw e refl
