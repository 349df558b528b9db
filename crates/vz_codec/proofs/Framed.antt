-- The laws of quads, passes and frames.
use Rattle.std.proofs.Common.{◌≡◌, ℕ, ◌+◌, ◌-◌, ◌^◌, ◌<◌, ◌≤◌, Bool, true, false, not, ◌&&◌, ◌||◌, cond, leb, ltb, eqb}
use Rattle.std.proofs.Common.{List, [], ◌∷◌, ◌++◌, length, sum_by, Option, Some, None, Ok, refl, sym, ap, ◌∙◌}
use Rattle.std.proofs.Common.{append_assoc, arith, inl, inr}
use Rattle.std.specs.List.{list_all}
use Rattle.std.specs.Int.{w8, w16, w32}
use Rattle.std.proofs.lemmas.Bool.{and_parts, and_from, leb-true, le-leb, lt-ltb, or_cases, or_left, ne_eqb, eqb-true}
use Rattle.std.proofs.lemmas.List.Sums.{sum_by-cons}
use Rattle.std.proofs.Math.Bool.{and_assoc}
use Rattle.vz_frame.specs.declared.frame.CompositorFrame.{CompositorFrame}
use Rattle.vz_frame.specs.declared.frame.RenderPass.{RenderPass}
use Rattle.vz_frame.specs.declared.blend.Blend.{Blend}
use Rattle.vz_frame.specs.declared.blend.Blend.TheVariants.{Over, Src, DstIn}
use Rattle.vz_frame.specs.declared.frame.Material.{Material}
use Rattle.vz_frame.specs.declared.frame.Material.TheVariants as material
use Rattle.vz_frame.specs.Fits.{within, fits_rect, is_number, is_id, fits_surface, fits_range, fits_optional}
use Rattle.vz_frame.specs.Fits.{fits_material, fits_mode, fits_quad, fits_pass, fits_listing, fits_frame}
use Rattle.vz_codec.specs.declared.fault.FileRule.TheVariants as fault
use Rattle.vz_codec.specs.Spelling.{u8_bytes, u16_bytes, u32_bytes, rect_bytes, range_bytes, material_bytes}
use Rattle.vz_codec.specs.Spelling.{mode_number, mode_bytes, quad_bytes, pass_bytes, listing_bytes, deadline_bytes}
use Rattle.vz_codec.specs.Spelling.{counted_bytes, metadata_bytes, frame_bytes}
use Rattle.vz_codec.specs.Reading.{made, bare, tagged, number_at, ranged_at, limited_at, counted_at}
use Rattle.vz_codec.specs.Fields.{Kind, field, optional, counted, fits_counted, fits_metadata}
use Rattle.vz_codec.specs.Reading.{optional_at, range_at, materials_at, material_at, mode_at, quad_of}
use Rattle.vz_codec.specs.Reading.{quad_at, left_of, pass_at, listing_at, deadline_of, deadline_at}
use Rattle.vz_codec.specs.Reading.{metadata_of, metadata_at, all_passes_at, frame_at}
use Rattle.vz_codec.proofs.Lawful.{IsField, refit, implied, fewer, ◌⊠◌, checks, makes, remade, records, alone}
use Rattle.vz_codec.proofs.Many.{all_in, rows, manys, counts}
use Rattle.vz_codec.proofs.Tagged.{◌⨾◌, IsTold, turned, lone, tagged_field}
use Rattle.vz_codec.proofs.Simple.{in_range, from_zero, numbers8, numbers16, numbers32, limited8, limited16, limited32}
use Rattle.vz_codec.proofs.Simple.{coordinates, surfaces, rects, colours}

-- ---- flags and counts

optional_told : {A : Type 0} {k : Kind A} {l : ℕ} → IsField k l → (o : Option A)
    → IsTold (optional k).spelling (optional k).fitting 0 (bare None ∷ []) (made Some k.reading) o
optional_told t None = (refl, refl, λ rest h. refl)
optional_told t (Some a) = (refl, refl, remade t Some a)

pub optionals : {A : Type 0} {k : Kind A} {l : ℕ} → IsField k l → IsField (optional k) 1
unfolding optional_at
optionals {A} {k} t =
    let spell = (optional k).spelling in
    let fit = (optional k).fitting in
    let parts = lone spell fit 0 None refl refl ⨾ turned t spell fit 1 Some (λ _ h. (refl, h)) in
    tagged_field spell fit 0 (bare None ∷ []) (made Some k.reading) (omega arith) parts (optional_told t)

-- a count of one byte, and so many values
pub several : {A : Type 0} {k : Kind A} {l : ℕ} → IsField k l → (limit : ℕ) → limit < 256 → IsField (counted limit k) 1
several t limit small =
    let few : ℕ → Bool = λ n. leb n limit in
    counts w8 limit few _ _ (refit (limited8 0 limit small) few (from_zero limit)) (manys t)

pub ranges : IsField (field range_at range_bytes fits_range) 33
unfolding range_at
ranges =
    records (optionals surfaces ⊠ surfaces) (λ p. record { start = p.0; end = p.1 }) (λ r. (r.start, r.end))
    range_bytes fits_range (λ _. refl) (λ _. refl) (λ _. refl) (λ _. refl)

-- ---- materials

pub ids : IsField (field (limited_at w32 1 (2 ^ 32 - 1)) u32_bytes is_id) 4
ids = limited32 1 (2 ^ 32 - 1) (omega arith)

places : IsField (field (limited_at w16 0 255) u16_bytes (λ n. leb n 255)) 2
places = refit (limited16 0 255 (omega arith)) (λ n. leb n 255) (from_zero 255)

material_told : (m : Material)
    → IsTold material_bytes fits_material 1 materials_at (made material.Pass (number_at w32)) m
unfolding material_bytes fits_material
material_told (material.Solid c) = (refl, refl, remade colours material.Solid c)
material_told (material.Tile id tx ty) =
    (refl, refl, remade (ids ⊠ places ⊠ places) (λ p. material.Tile p.0.0 p.0.1 p.1) ((id, tx), ty))
material_told (material.Surface range back) =
    (refl, refl, remade (ranges ⊠ colours) (λ p. material.Surface p.0 p.1) (range, back))
material_told (material.Pass id) = (refl, refl, remade numbers32 material.Pass id)

pub materials : IsField (field material_at material_bytes fits_material) 1
unfolding material_at material_bytes fits_material
materials =
    let spell = material_bytes in
    let fit = fits_material in
    let parts =
    turned colours spell fit 1 material.Solid (λ _ h. (refl, h))
    ⨾ turned (ids ⊠ places ⊠ places) spell fit 2 (λ p. material.Tile p.0.0 p.0.1 p.1) (λ _ h. (refl, h))
    ⨾ turned (ranges ⊠ colours) spell fit 3 (λ p. material.Surface p.0 p.1) (λ _ h. (refl, h))
    ⨾ turned numbers32 spell fit 4 material.Pass (λ _ h. (refl, h)) in
    tagged_field spell fit 1 materials_at (made material.Pass (number_at w32)) (omega arith) parts material_told

-- ---- quads

-- the modes of a file, where it is of the first format or not
abbrev is_mode : Bool → Blend → Bool
is_mode first Over = true
is_mode first _ = not first

abbrev number_bytes : Blend → List ℕ
number_bytes m = mode_number m ∷ []

mode_told : (m : Blend) → IsTold number_bytes (is_mode false) 0 (bare Over ∷ bare Src ∷ []) (bare DstIn) m
mode_told Over = (refl, refl, λ rest h. refl)
mode_told Src = (refl, refl, λ rest h. refl)
mode_told DstIn = (refl, refl, λ rest h. refl)

mode_only : (m : Blend) → is_mode true m ≡ true → Over ≡ m
mode_only Over h = refl
mode_only _ h = absurd cc

mode_by : (first : Bool) → IsField (
    field (λ bytes. cond first (Ok (Over, bytes)) (tagged 0 (bare Over ∷ bare Src ∷ []) (bare DstIn) bytes))
    (λ m. cond first [] (number_bytes m)) (is_mode first)
    ) 0
mode_by true = alone Over (λ _. []) (is_mode true) refl refl mode_only
mode_by false =
    let fit = is_mode false in
    let mode = lone number_bytes fit in
    let parts = mode 0 Over refl refl ⨾ mode 1 Src refl refl ⨾ mode 2 DstIn refl refl in
    fewer (tagged_field number_bytes fit 0 (bare Over ∷ bare Src ∷ []) (bare DstIn) (omega arith) parts mode_told)

mode_same : (format : ℕ) (m : Blend) → is_mode (eqb format 1) m ≡ fits_mode format m
mode_same format Over = refl
mode_same format Src = refl
mode_same format DstIn = refl

modes : (format : ℕ) → IsField (field (mode_at format) (mode_bytes format) (fits_mode format)) 0
unfolding mode_at
modes format = refit (mode_by (eqb format 1)) (fits_mode format) (mode_same format)

pub quads : (format : ℕ) → IsField (field (quad_at format) (quad_bytes format) (fits_quad format)) 43
unfolding quad_at quad_bytes fits_quad
quads format =
    let place = coordinates ⊠ coordinates ⊠ rects ⊠ rects ⊠ optionals rects in
    records (place ⊠ numbers8 ⊠ modes format ⊠ materials) quad_of
    (λ q. (((((((q.offset.x, q.offset.y), q.area), q.visible), q.clip), q.opacity), q.blend), q.material))
    (quad_bytes format) (fits_quad format) (λ _. refl) (λ _. refl) (λ _. refl) (λ _. refl)

-- ---- passes

-- a count of two bytes that the room has
abbrev few_in : ℕ → ℕ → Bool
few_in room n = ltb n (2 ^ 16) && within 0 room n

-- a pass that fits where there is room for so many quads
abbrev fits_room : ℕ → ℕ → RenderPass → Bool
fits_room format room p =
    is_number p.id && fits_rect p.output && fits_rect p.damage
    && (few_in room (length p.quads) && list_all (fits_quad format) p.quads)

pass_law : (format room : ℕ) → IsField (field (pass_at format room) (pass_bytes format) (fits_room format room)) 38
unfolding pass_at pass_bytes ranged_at u16_bytes
pass_law format room =
    let count = checks numbers16 (omega arith) fault.Limit (λ e. cc) (within 0 room) in
    records (numbers32 ⊠ rects ⊠ rects ⊠ counts w16 room (few_in room) _ _ count (manys (quads format)))
    (λ p. record { id = p.0.0.0; output = p.0.0.1; damage = p.0.1; quads = p.1 })
    (λ p. (((p.id, p.output), p.damage), p.quads)) (pass_bytes format) (fits_room format room) (λ _. refl) (λ _. refl)
    (λ p. append_assoc (u32_bytes p.id ++ rect_bytes p.output ++ rect_bytes p.damage) (u16_bytes (length p.quads)) _)
    (λ _. refl)

-- all quads of a frame
abbrev pub quad_count : List RenderPass → ℕ
quad_count ps = sum_by (λ p. length p.quads) ps

swapped : (a b c d : Bool) → ((a && b) && (c && d)) ≡ ((a && c) && (b && d))
swapped true true c d = refl
swapped true false true d = refl
swapped true false false d = refl
swapped false b c d = refl

few_is : (room n : ℕ) → room ≤ 1024 → few_in room n ≡ leb n room
few_is room n small =
    implied (ltb n (2 ^ 16)) (within 0 room n) (λ h. lt-ltb n (2 ^ 16) (omega (arith, (in_range 0 room n h).1)))
    ∙ from_zero room n

room_is : (format room : ℕ) (p : RenderPass) → room ≤ 1024
    → fits_room format room p ≡ (leb (length p.quads) room && fits_pass format p)
unfolding fits_pass
room_is format room p small =
    let front = is_number p.id && fits_rect p.output && fits_rect p.damage in
    let all = list_all (fits_quad format) p.quads in
    ap (λ b. front && (b && all)) (few_is room (length p.quads) small)
    ∙ swapped true front (leb (length p.quads) room) all

sums : (n m room : ℕ) → (leb n room && leb m (room - n)) ≡ leb (n + m) room
sums n m room = grind arith

rooms_are : (format room : ℕ) (ps : List RenderPass) → room ≤ 1024
    → all_in (fits_room format) left_of room ps ≡ (leb (quad_count ps) room && list_all (fits_pass format) ps)
rooms_are format room [] small = sym (ap (λ b. b && true) (le-leb 0 room (omega arith)))
rooms_are format room (p ∷ ps) small =
    let n = length p.quads in
    let rest = leb (quad_count ps) (room - n) in
    let one = room_is format room p small in
    let more = rooms_are format (room - n) ps (omega arith) in
    (λ i. one i && more i) ∙ swapped (leb n room) (fits_pass format p) rest (list_all (fits_pass format) ps)
    ∙ ap (λ b. b && list_all (fits_pass format) (p ∷ ps)) (
    sums n (quad_count ps) room ∙ ap (λ k. leb k room) (sym (sum_by-cons (λ (q : RenderPass). length q.quads) p ps))
    )

abbrev fit_passes : ℕ → List RenderPass → Bool
fit_passes format ps = leb (length ps) 16 && (leb (quad_count ps) 1024 && list_all (fits_pass format) ps)

all_passes : (format : ℕ)
    → IsField (field (all_passes_at format) (counted_bytes (pass_bytes format)) (fit_passes format)) 1
unfolding all_passes_at counted_at
all_passes format =
    counts w8 16 (λ n. leb n 16) _ _ (refit (limited8 0 16 (omega arith)) (λ n. leb n 16) (from_zero 16))
    (λ n. refit (rows (pass_law format) left_of n 1024) _
    (λ ps. ap (λ b. eqb (length ps) n && b) (rooms_are format 1024 ps (omega arith))))

-- ---- frames

listings : IsField (field listing_at listing_bytes fits_listing) 8
unfolding listing_at
listings =
    let side = limited16 1 256 (omega arith) in
    records (ids ⊠ side ⊠ side) (λ p. record { id = p.0.0; w = p.0.1; h = p.1 }) (λ l. ((l.id, l.w), l.h))
    listing_bytes fits_listing (λ _. refl) (λ _. refl) (λ _. refl) (λ _. refl)

abbrev fits_deadline : Option ℕ → Bool
fits_deadline d = fits_optional (λ n. leb n 64) d

deadline_there : (n : ℕ) (b : Bool) → eqb n 255 ≡ b → (leb n 64 || b) ≡ true → let d = cond b None (Some n) in
    (deadline_bytes d ≡ u8_bytes n) × (fits_deadline d ≡ true)
deadline_there n true h few = (ap u8_bytes (sym (eqb-true n 255 h)), refl)
deadline_there n false h few = (refl, elim (or_cases (leb n 64) false few) [ inl e ↦ e | inr e ↦ absurd (cc e) ])

deadline_back : (d : Option ℕ) → fits_deadline d ≡ true
    → (n : ℕ) × (deadline_of n ≡ d) × (deadline_bytes d ≡ u8_bytes n) × ((ltb n 256 && (leb n 64 || eqb n 255)) ≡ true)
deadline_back None h = (255, refl, refl, refl)
deadline_back (Some d) h =
    let few = leb-true d 64 h in
    let other : eqb d 255 ≡ false = ne_eqb d 255 (λ e. omega arith) in
    (d, rw other refl, refl, and_from _ _ (lt-ltb d 256 (omega arith)) (or_left (leb d 64) (eqb d 255) h))

deadlines : IsField (field deadline_at deadline_bytes fits_deadline) 1
unfolding deadline_at
deadlines =
    makes (checks numbers8 (omega arith) fault.Limit (λ e. cc) (λ n. leb n 64 || eqb n 255)) deadline_of
    deadline_bytes fits_deadline
    (λ n _ h. deadline_there n (eqb n 255) refl (and_parts (ltb n 256) (leb n 64 || eqb n 255) h).1) deadline_back

metadatas : IsField (field metadata_at metadata_bytes fits_metadata) 11
unfolding metadata_at
metadatas =
    let numbers = numbers32 ⊠ numbers32 ⊠ deadlines in
    records (numbers ⊠ several surfaces 16 (omega arith) ⊠ several ranges 64 (omega arith))
    metadata_of (λ m. ((((m.token, m.ack), m.deadline), m.dependencies), m.references)) metadata_bytes fits_metadata
    (λ _. refl) (λ _. refl) (λ _. refl) (λ _. refl)

-- the tests of a frame in groups
grouped : (a b c d e f g h i j k l : Bool) → (a && b && c && d && e && f && g && h && i && j && k && l)
    ≡ (a && b && c && (d && e) && (f && g) && (h && i) && (j && (k && l)))
grouped a b c d e f g h i j k l = simp and_assoc

frame_groups : (format : ℕ) (f : CompositorFrame) → fits_frame format f
    ≡ (fits_metadata f.metadata && fits_counted fits_listing 64 f.resources && fit_passes format f.passes)
unfolding fits_frame
frame_groups format f =
    let m = f.metadata in
    grouped (is_number m.token) (is_number m.ack) (fits_deadline m.deadline)
    (leb (length m.dependencies) 16) (list_all fits_surface m.dependencies)
    (leb (length m.references) 64) (list_all fits_range m.references)
    (leb (length f.resources) 64) (list_all fits_listing f.resources)
    (leb (length f.passes) 16) (leb (quad_count f.passes) 1024) (list_all (fits_pass format) f.passes)

pub frames : (format : ℕ) → IsField (field (frame_at format) (frame_bytes format) (fits_frame format)) 13
unfolding frame_at frame_bytes
frames format =
    records (metadatas ⊠ several listings 64 (omega arith) ⊠ all_passes format)
    (λ p. record { metadata = p.0.0; resources = p.0.1; passes = p.1 }) (λ f. ((f.metadata, f.resources), f.passes))
    (frame_bytes format) (fits_frame format) (λ _. refl) (λ _. refl) (λ _. refl) (frame_groups format)
