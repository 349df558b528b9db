-- What is read of a store is read of the machine's state.
use Rattle.std.proofs.Common.{arith, ◌≡◌, ℕ, Bool, true, false, ◌&&◌, ◌||◌, ◌==◌, not, Option, Some, None, List, [], ◌∷◌, map, filter, find, refl, ap, sym, ◌∙◌, cond, Contains, count_by, is_some, subst}
use Rattle.std.proofs.lemmas.Bool.Decides.{nat_tests}
use Rattle.std.specs.Option.{option_map}
use Rattle.std.specs.List.{list_any}
use Rattle.std.proofs.lemmas.Bool.{or_left, or_right, and_parts, both_ways, false_from_ne_true}
use Rattle.vz_geom.specs.declared.Size.{Size}
use Rattle.vz_ids.specs.declared.LocalSurfaceId.{LocalSurfaceId}
use Rattle.vz_ids.specs.declared.SurfaceId.{SurfaceId}
use Rattle.vz_ids.specs.declared.SurfaceRange.{SurfaceRange}
use Rattle.vz_ids.specs.Ids.{same_sink, same_surface}
use Rattle.vz_rules.specs.World.{World, Client, Surface, FrameData, Submission, is_waiting, is_active, is_on, active_frames, frame_on, existing, exists, last_created}
use Rattle.vz_rules.specs.Scene.{shown, shown_frame, id_of_frame}
use Rattle.vz_rules.specs.Settle.{is_met}
use Rattle.vz_rules.specs.Kept.{KeepsAlways, last_in, stands_in}
use Rattle.vz_rules.proofs.Members.{contains_here, contains_there, contains_map, filter_at, any_map}
use Rattle.vz_rules.proofs.Counts.{count_same}
use Rattle.vz_rules.proofs.Rising.{find_map}
use Rattle.vz_rules.proofs.Reached.{from_same}
use Rattle.vz_surfaces.proofs.Finding.{find_none}
use Rattle.vz_surfaces.specs.Stored.{bare_surface, bare_sub, stored_of}
use Rattle.vz_surfaces.specs.Reading.{stands, standing, existing_count, has_mark, marked_of, last_of, seen_frames, active_on, waiting_at, shown_in, was_reached}
use Rattle.vz_surfaces.proofs.Following.{last_bare}

pub standing_bare : (ss : List Surface) (id : SurfaceId) → standing id (map bare_surface ss) ≡ option_map bare_surface (standing id ss)
standing_bare ss id = find_map (λ (s : Surface). same_surface s.id id && not s.destroyed) bare_surface ss (λ x. refl)

some_mapped : {A B : Type 0} (f : A → B) (o : Option A) → is_some (option_map f o) ≡ is_some o
some_mapped f None = refl
some_mapped f (Some a) = refl

pub stands_bare : (ss : List Surface) (id : SurfaceId) → stands_in (map bare_surface ss) id ≡ stands_in ss id
stands_bare ss id = ap is_some (standing_bare ss id) ∙ some_mapped bare_surface (standing id ss)

pub tells_exists : (w : World) (id : SurfaceId) → stands (stored_of w) id ≡ exists w id
unfolding stands stored_of
tells_exists w id = stands_bare w.surfaces id

mark_bare : (o : Option Surface) → (elim (option_map bare_surface o) as (λ o. Bool) [ Some c ↦ c.marked | None ↦ false ]) ≡ (elim o as (λ o. Bool) [ Some c ↦ c.marked | None ↦ false ])
mark_bare None = refl
mark_bare (Some c) = refl

pub tells_marks : (w : World) (id : SurfaceId) → has_mark (stored_of w) id ≡ (elim (existing w id) as (λ o. Bool) [ Some c ↦ c.marked | None ↦ false ])
unfolding has_mark stored_of
tells_marks w id = ap (λ (o : Option Surface). elim o as (λ o. Bool) [ Some c ↦ c.marked | None ↦ false ]) (standing_bare w.surfaces id) ∙ mark_bare (standing id w.surfaces)

pub tells_count : (w : World) → existing_count (stored_of w) ≡ count_by (λ (s : Surface). not s.destroyed) w.surfaces
unfolding existing_count stored_of
tells_count w = count_same bare_surface (λ (s : Surface). not s.destroyed) (λ (s : Surface). not s.destroyed) w.surfaces (λ x. refl)

-- what is read of those that pass, where it is not changed
pub read_same : {A B : Type 0} (f : A → A) (r : A → B) (p : A → Bool) (xs : List A) → ((x : A) → r (f x) ≡ r x) → ((x : A) → p (f x) ≡ p x) → map r (filter p (map f xs)) ≡ map r (filter p xs)
read_same f r p [] e g = refl
read_same f r p (x ∷ xs) e g = grind (arith, nat_tests, read_same f r p xs e g)

pub tells_marked : (w : World) (c : ℕ) → marked_of c (stored_of w) ≡ map (λ s. s.id) (filter (λ (s : Surface). (s.client == c) && s.marked && not s.destroyed) w.surfaces)
unfolding marked_of stored_of
tells_marked w c = read_same bare_surface (λ s. s.id) (λ (s : Surface). (s.client == c) && s.marked && not s.destroyed) w.surfaces (λ x. refl) (λ x. refl)

abbrev Named : Type 0
Named = LocalSurfaceId × Size

last_read : (o : Option Surface) → option_map {U = Named} (λ (s : Surface). (s.id.local, s.size)) (option_map bare_surface o) ≡ option_map {U = Named} (λ (s : Surface). (s.id.local, s.size)) o
last_read None = refl
last_read (Some s) = refl

pub tells_last : (w : World) (c : ℕ) → last_of c (stored_of w) ≡ option_map {U = Named} (λ (s : Surface). (s.id.local, s.size)) (last_created w c)
unfolding last_of stored_of
tells_last w c = ap (option_map {U = Named} (λ (s : Surface). (s.id.local, s.size))) (last_bare w.surfaces c) ∙ last_read (last_in w.surfaces c)

pub tells_met : (w : World) (d : SurfaceId) → is_met w d ≡ (was_reached (stored_of w) d || list_any (λ (c : Client). c.closed && same_sink c.sink d.sink) w.clients)
unfolding is_met was_reached stored_of
tells_met w d = grind (arith, nat_tests, any_map bare_sub)

-- Active frames

active_bare : (subs : List Submission) → active_frames (map bare_sub subs) ≡ active_frames subs
active_bare subs = read_same bare_sub (λ s. s.submitted) is_active subs (λ x. refl) (λ x. refl)

pub filter_all : {A : Type 0} (p : A → Bool) (xs : List A) → ((x : A) → Contains xs x → p x ≡ true) → filter p xs ≡ xs
filter_all p [] h = refl
filter_all p (x ∷ xs) h =
    ap (λ (t : Bool). cond t (x ∷ filter p xs) (filter p xs)) (h x (contains_here x xs)) ∙ ap (λ l. x ∷ l) (filter_all p xs (λ y c. h y (contains_there x y xs c)))

pub seen_all : (w : World) → KeepsAlways w → seen_frames (stored_of w) ≡ active_frames w.subs
unfolding stored_of
seen_all w h =
    ap (filter (λ i. stands_in (map bare_surface w.surfaces) i.id)) (active_bare w.subs)
    ∙ filter_all (λ i. stands_in (map bare_surface w.surfaces) i.id) (active_frames w.subs) (λ i c.
    let s = contains_map (λ (s : Submission). s.submitted) (filter is_active w.subs) i c in
    let a = filter_at is_active w.subs s.0 s.1 in
    subst (λ (j : FrameData). stands_in (map bare_surface w.surfaces) j.id ≡ true) s.2
    (stands_bare w.surfaces s.0.submitted.id ∙ h.states.stand s.0 a.0 (or_right (is_waiting s.0) (is_active s.0) a.1)))

pub tells_active : (w : World) (id : SurfaceId) → KeepsAlways w → active_on (stored_of w) id ≡ frame_on id (active_frames w.subs)
unfolding active_on
tells_active w id h = ap (frame_on id) (seen_all w h)

-- What waits and what is active on a surface

found_frame : (id : SurfaceId) (subs : List Submission) → frame_on id (active_frames subs) ≡ option_map (λ (s : Submission). s.submitted) (find (λ s. is_active s && is_on id s) subs)
found_frame id [] = refl
found_frame id (s ∷ subs) = grind (arith, nat_tests, found_frame id subs)

pub tells_acting : (w : World) (id : SurfaceId) → KeepsAlways w → active_on (stored_of w) id ≡ option_map (λ (s : Submission). s.submitted) (find (λ s. is_active s && is_on id s) w.subs)
tells_acting w id h = tells_active w id h ∙ found_frame id w.subs

waits_on_none : (w : World) (id : SurfaceId) → KeepsAlways w → stands_in w.surfaces id ≡ false → find (λ s. is_waiting s && is_on id s) w.subs ≡ None
waits_on_none w id h none =
    find_none (λ s. is_waiting s && is_on id s) w.subs (λ s c. false_from_ne_true (is_waiting s && is_on id s) (λ e.
    let parts = and_parts (is_waiting s) (is_on id s) e in
    let there : stands_in w.surfaces s.submitted.id ≡ true = h.states.stand s c (or_left (is_waiting s) (is_active s) parts.0) in
    both_ways (stands_in w.surfaces id) none (ap (stands_in w.surfaces) (sym (from_same s.submitted.id id parts.1)) ∙ there)))

waiting_by : (w : World) (id : SurfaceId) (o : Option Surface) → KeepsAlways w → standing id (stored_of w).surfaces ≡ o
    → (elim o as (λ o. Option FrameData) [ Some c ↦ option_map (λ (s : Submission). s.submitted) (find (λ s. is_waiting s && is_on id s) (stored_of w).subs) | None ↦ None ])
    ≡ option_map (λ (s : Submission). s.submitted) (find (λ s. is_waiting s && is_on id s) w.subs)
unfolding stored_of
waiting_by w id (Some c) h e = grind (arith, nat_tests, find_map)
waiting_by w id None h e = grind (arith, nat_tests, waits_on_none w id h, stands_bare w.surfaces id)

pub tells_waiting : (w : World) (id : SurfaceId) → KeepsAlways w → waiting_at (stored_of w) id ≡ option_map (λ (s : Submission). s.submitted) (find (λ s. is_waiting s && is_on id s) w.subs)
unfolding waiting_at
tells_waiting w id h = waiting_by w id (standing id (stored_of w).surfaces) h refl

id_read : (o : Option FrameData) → id_of_frame o ≡ (elim o as (λ o. Option SurfaceId) [ Some i ↦ Some i.id | None ↦ None ])
id_read None = refl
id_read (Some i) = refl

pub tells_shown : (w : World) (range : SurfaceRange) → KeepsAlways w → shown_in (stored_of w) range ≡ shown w range
unfolding shown_in shown
tells_shown w range h = ap (λ l. id_of_frame (shown_frame l range)) (seen_all w h) ∙ id_read (shown_frame (active_frames w.subs) range)
