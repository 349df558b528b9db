-- Active submissions are found by their surfaces, and by the ranges that show them.
use Rattle.std.proofs.Common.{arith, ◌≡◌, Bool, true, ◌&&◌, Option, Some, None, List, [], ◌∷◌, filter, refl, ap, sym, ◌∙◌, subst, Contains}
use Rattle.std.proofs.lemmas.Bool.Decides.{nat_tests}
use Rattle.std.specs.Option.{option_map}
use Rattle.std.proofs.lemmas.Bool.{and_from}
use Rattle.vz_ids.specs.declared.SurfaceId.{SurfaceId}
use Rattle.vz_ids.specs.declared.SurfaceRange.{SurfaceRange}
use Rattle.vz_ids.specs.Ids.{same_surface}
use Rattle.vz_rules.specs.World.{World, FrameData, Submission, is_active, is_on, active_frames, frame_on}
use Rattle.vz_rules.specs.Scene.{or_else, newest, newer_frame, in_range, after_start, shown_frame, id_of_frame}
use Rattle.vz_rules.specs.Kept.{KeepsMessages, IsWhole, stands_in}
use Rattle.vz_rules.proofs.Reached.{from_same, self_same}
use Rattle.vz_rules.proofs.Members.{contains_here, contains_there, contains_map, contains_at, at_same, filter_at, find_at}
use Rattle.vz_rules.proofs.Counts.{one_place}
use Rattle.vz_surfaces.specs.declared.held.Held.{Held}
use Rattle.vz_surfaces.specs.Stored.{Stored, bare_sub, stored_of}
use Rattle.vz_surfaces.specs.Reading.{held_of, frame_at, seen_frames, active_on, shown_in}
use Rattle.vz_surfaces.specs.Keeping.{KeepsStored, KeepsFrames}
use Rattle.vz_surfaces.proofs.Finding.{find_alike}

-- By surface

some_same : {A : Type 0} (a b : A) → ◌≡◌ {A = Option A} (Some a) (Some b) → a ≡ b
some_same a b f = cc

none_some : {A : Type 0} (a : A) → ◌≡◌ {A = Option A} None (Some a) → ⊥
none_some a f = absurd (cc)

by_frame : (st : Stored) (id : SurfaceId) (h : Held) (o : Option FrameData) → frame_on id (seen_frames st) ≡ o → Some h ≡ option_map held_of o → Some (frame_at id h) ≡ o
by_frame st id h None e f = absurd (none_some h (sym f))
by_frame st id h (Some i) e f = grind (arith, nat_tests, find_at, from_same i.id id, some_same h (held_of i) f)

-- what is kept of the active submission of a surface is that, with the surface
pub frame_seen : (st : Stored) (id : SurfaceId) (h : Held) → Some h ≡ option_map held_of (active_on st id) → Some (frame_at id h) ≡ active_on st id
unfolding active_on
frame_seen st id h f = by_frame st id h (frame_on id (seen_frames st)) refl f

none_mapped : (o : Option FrameData) → ◌≡◌ {A = Option Held} None (option_map held_of o) → None ≡ o
none_mapped None f = refl
none_mapped (Some i) f = absurd (none_some (held_of i) f)

pub none_seen : (st : Stored) (id : SurfaceId) → ◌≡◌ {A = Option Held} None (option_map held_of (active_on st id)) → None ≡ active_on st id
none_seen st id f = none_mapped (active_on st id) f

-- By range

newest_step : (i x : FrameData) (xs : List FrameData) (o : Option FrameData) → newest xs ≡ o → newer_frame x o ≡ Some i → (newest xs ≡ Some i → Contains xs i) → Contains (x ∷ xs) i
newest_step i x xs None e f rest = grind (arith, nat_tests, some_same, contains_here)
newest_step i x xs (Some j) e f rest = grind (arith, nat_tests, contains_there, some_same, contains_here)

newest_is_in : (xs : List FrameData) (i : FrameData) → newest xs ≡ Some i → Contains xs i
newest_is_in [] i e = absurd (none_some i e)
newest_is_in (x ∷ xs) i e = newest_step i x xs (newest xs) refl e (newest_is_in xs i)

either_in : (xs : List FrameData) (p q : FrameData → Bool) (i : FrameData) (o : Option FrameData) → newest (filter p xs) ≡ o → or_else o (newest (filter q xs)) ≡ Some i → Contains xs i
either_in xs p q i None e f = (filter_at q xs i (newest_is_in (filter q xs) i f)).0
either_in xs p q i (Some j) e f = (filter_at p xs i (newest_is_in (filter p xs) i (e ∙ f))).0

-- what a range shows is one of the frames
pub shown_is_in : (xs : List FrameData) (range : SurfaceRange) (i : FrameData) → shown_frame xs range ≡ Some i → Contains xs i
unfolding shown_frame
shown_is_in xs range i e = either_in xs (in_range range) (after_start range.start range.end) i (newest (filter (in_range range) xs)) refl e

-- a frame that is seen is that of an active submission
pub seen_sub : (st : Stored) (i : FrameData) → Contains (seen_frames st) i → (s : Submission) × Contains st.subs s × (is_active s ≡ true) × (s.submitted ≡ i)
seen_sub st i c =
    let a = filter_at (λ (j : FrameData). stands_in st.surfaces j.id) (active_frames st.subs) i c in
    let m = contains_map (λ (s : Submission). s.submitted) (filter is_active st.subs) i a.0 in
    let f = filter_at is_active st.subs m.0 m.1 in
    (m.0, f.0, f.1, m.2)

-- of a surface there is one
alone : (st : Stored) (i j : FrameData) → KeepsStored st → Contains (seen_frames st) i → Contains (seen_frames st) j → same_surface j.id i.id ≡ true → j ≡ i
alone st i j keeps c d same =
    let s = seen_sub st i c in
    let t = seen_sub st j d in
    let on : Submission → Bool = λ x. is_on i.id x && is_active x in
    let n = contains_at st.subs s.0 s.1 in
    let m = contains_at st.subs t.0 t.1 in
    let on_s : is_on i.id s.0 ≡ true = ap (λ (x : FrameData). same_surface x.id i.id) s.3 ∙ self_same i.id in
    let on_t : is_on i.id t.0 ≡ true = ap (λ (x : FrameData). same_surface x.id i.id) t.3 ∙ same in
    let place = one_place on st.subs m.0 n.0 t.0 s.0 (keeps.states.one_is_active i.id) m.1 n.1 (and_from (is_on i.id t.0) (is_active t.0) on_t t.2) (and_from (is_on i.id s.0) (is_active s.0) on_s s.2) in
    let one : t.0 ≡ s.0 = at_same st.subs m.0 n.0 t.0 s.0 m.1 n.1 place in
    sym t.3 ∙ (ap (λ (x : Submission). x.submitted) one ∙ s.3)

itself : (o : Option FrameData) → option_map (λ j. j) o ≡ o
itself None = refl
itself (Some i) = refl

pub found_alone : (st : Stored) (i : FrameData) → KeepsStored st → Contains (seen_frames st) i → active_on st i.id ≡ Some i
unfolding active_on
found_alone st i keeps c =
    sym (itself (frame_on i.id (seen_frames st)))
    ∙ find_alike (λ (j : FrameData). same_surface j.id i.id) (λ j. j) i (seen_frames st) i c (self_same i.id) (λ j d same. alone st i j keeps c d same)

by_range : (st : Stored) (range : SurfaceRange) (id : SurfaceId) → KeepsStored st → (o : Option FrameData) → shown_frame (seen_frames st) range ≡ o → Some id ≡ id_of_frame o → active_on st id ≡ o
by_range st range id keeps None e f = absurd (none_some id (sym f))
by_range st range id keeps (Some i) e f = grind (arith, nat_tests, some_same id i.id f, found_alone st i keeps (shown_is_in (seen_frames st) range i e), shown_is_in (seen_frames st) range i e)

-- the active submission of the surface that a range shows is what it shows
pub range_seen : (st : Stored) (range : SurfaceRange) (id : SurfaceId) → KeepsStored st → Some id ≡ shown_in st range → active_on st id ≡ shown_frame (seen_frames st) range
unfolding shown_in
range_seen st range id keeps f = by_range st range id keeps (shown_frame (seen_frames st) range) refl f

none_id : (o : Option FrameData) → ◌≡◌ {A = Option SurfaceId} None (id_of_frame o) → None ≡ o
none_id None f = refl
none_id (Some i) f = absurd (none_some i.id f)

pub range_none : (st : Stored) (range : SurfaceRange) → None ≡ shown_in st range → None ≡ shown_frame (seen_frames st) range
unfolding shown_in
range_none st range f = none_id (shown_frame (seen_frames st) range) f

-- Of the machine's state

pub frames_of_world : (w : World) → KeepsMessages w → KeepsFrames (stored_of w)
unfolding stored_of
frames_of_world w h s c =
    let m = contains_map bare_sub w.subs s c in
    subst (λ (x : Submission). IsWhole x.submitted) m.2 (h.active m.0 m.1)
