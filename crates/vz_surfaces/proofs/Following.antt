-- A store changes as the machine's state does.
use Rattle.std.proofs.Common.{arith, ◌≡◌, ℕ, ◌+◌, Bool, true, false, ◌&&◌, ◌||◌, ◌==◌, Option, Some, None, List, [], ◌∷◌, ◌++◌, map, find, refl, ap, sym, ◌∙◌, cond, Contains, is_some}
use Rattle.std.proofs.lemmas.Bool.Decides.{nat_tests}
use Rattle.std.specs.Option.{option_map}
use Rattle.std.proofs.lemmas.List.{map-append}
use Rattle.std.proofs.lemmas.Bool.{both_ways, and_from, eq-eqb}
use Rattle.vz_ids.specs.declared.LocalSurfaceId.{LocalSurfaceId}
use Rattle.vz_ids.specs.declared.Sub.{Sub}
use Rattle.vz_ids.specs.Ids.{same_sub}
use Rattle.vz_frame.specs.declared.frame.CompositorFrame.{CompositorFrame}
use Rattle.vz_frame.specs.declared.message.Message.TheVariants.{Close}
use Rattle.vz_rules.specs.declared.entry.State.TheVariants.{Dropped, Past, Active}
use Rattle.vz_rules.specs.Plan.{Plan}
use Rattle.vz_rules.specs.World.{World, Client, Surface, Submission, is_waiting, is_active, is_on, sub_of, opening}
use Rattle.vz_rules.specs.Settle.{is_before, marked_by}
use Rattle.vz_rules.specs.Reach.{drop_on}
use Rattle.vz_rules.specs.Messages.{accepted, new_submission, with_surface, blocks_of, replace_on, mark_of, message_answer}
use Rattle.vz_rules.specs.Singly.{rising, going, as_one_rises, as_one_goes}
use Rattle.vz_rules.specs.Kept.{KeepsAlways, last_in, is_surface_of, is_by}
use Rattle.vz_rules.proofs.Members.{contains_at, at_same, any_from, find_at, found}
use Rattle.vz_rules.proofs.Counts.{count_same}
use Rattle.vz_rules.proofs.Rising.{find_map}
use Rattle.vz_rules.proofs.Kept_facts.{subs_apart}
use Rattle.vz_rules.proofs.Kept_last.{last_map}
use Rattle.vz_surfaces.specs.Stored.{Stored, bare_surface, bare_sub, stored_of, nothing_stored, surface_of, creating, accepted_as, waiting_with, storing, named_in, raising, activating, marking, ended_at, dropped_at, destroying}

-- both lists agree
pub agree : {a b : List Surface} {x y : List Submission} → a ≡ b → x ≡ y → ◌≡◌ {A = Stored} (record { surfaces = a; subs = x }) (record { surfaces = b; subs = y })
agree p q = λ i. record { surfaces = p i; subs = q i }

-- two changes in the other order
pub map_turned : {A : Type 0} (g f h : A → A) (xs : List A) → ((x : A) → g (f x) ≡ h (g x)) → map g (map f xs) ≡ map h (map g xs)
map_turned g f h [] e = refl
map_turned g f h (x ∷ xs) e = ap (λ y. y ∷ map g (map f xs)) (e x) ∙ ap (λ l. h (g x) ∷ l) (map_turned g f h xs e)

pub started : (p : Plan) → stored_of (opening p) ≡ nothing_stored
unfolding stored_of opening nothing_stored
started p = refl

-- Accepting

pub last_bare : (ss : List Surface) (c : ℕ) → last_in (map bare_surface ss) c ≡ option_map bare_surface (last_in ss c)
last_bare ss c = last_map bare_surface (λ s. s.client == c) ss (λ x. refl)

created_same : (w : World) (c : Client) (local : LocalSurfaceId) (frame : CompositorFrame)
    → map bare_surface (with_surface w c local frame) ≡ creating c.number c.sink local frame (map bare_surface w.surfaces)
unfolding with_surface
created_same w c local frame = grind (arith, nat_tests, map-append, count_same bare_surface (is_surface_of c.number) (is_surface_of c.number), last_bare)

dropped_by : (t : Bool) (s : Submission) → bare_sub (cond t (record s { state = Dropped }) s) ≡ cond t (record (bare_sub s) { state = Dropped }) (bare_sub s)
dropped_by true s = refl
dropped_by false s = refl

pub follows_accepted : (w : World) (c : Client) (local : LocalSurfaceId) (frame : CompositorFrame)
    → stored_of (accepted w c local frame).world ≡ storing c.number c.sink local frame (blocks_of c.resources frame) (stored_of w)
unfolding stored_of accepted new_submission storing
follows_accepted w c local frame =
    let id = surface_of c.sink local in
    let blocks = blocks_of c.resources frame in
    agree (created_same w c local frame)
    (map-append bare_sub (map (replace_on id) w.subs) (new_submission w c local frame ∷ [])
    ∙ (ap (λ l. l ++ bare_sub (new_submission w c local frame) ∷ []) (map_turned bare_sub (replace_on id) (replace_on id) w.subs (λ s. dropped_by (is_waiting s && is_on id s) s))
    ∙ (ap (λ n. map (replace_on id) (map bare_sub w.subs) ++ waiting_with (record (accepted_as c.number id frame blocks w.subs) { sub = record { client = c.number; ordinal = n + 1 } }) ∷ [])
    (sym (count_same bare_sub (is_by c.number) (is_by c.number) w.subs (λ x. refl)))
    ∙ ap (λ n. map (replace_on id) (map bare_sub w.subs) ++ waiting_with (record (accepted_as c.number id frame blocks (map bare_sub w.subs)) { index = n + 1 }) ∷ [])
    (sym (count_same bare_sub (is_on id) (is_on id) w.subs (λ x. refl))))))

-- Becoming active

pub self_sub : (s : Sub) → same_sub s s ≡ true
self_sub s = and_from (s.client == s.client) (s.ordinal == s.ordinal) (eq-eqb s.client s.client refl) (eq-eqb s.ordinal s.ordinal refl)

number_by : (o : Option Surface) → (elim (option_map bare_surface o) as (λ o. ℕ) [ Some c ↦ c.number | None ↦ 0 ]) ≡ (elim o as (λ o. ℕ) [ Some c ↦ c.number | None ↦ 0 ])
number_by None = refl
number_by (Some c) = refl

marked_when : (t : Bool) (c : Surface) → bare_surface (cond t (record c { marked = true }) c) ≡ cond t (record (bare_surface c) { marked = true }) (bare_surface c)
marked_when true c = refl
marked_when false c = refl

marked_bare : (ss : List Surface) (s : Submission) (c : Surface) → bare_surface (marked_by ss (s ∷ []) c) ≡ marked_by (map bare_surface ss) (bare_sub s ∷ []) (bare_surface c)
marked_bare ss s c = grind (arith, nat_tests, marked_when (is_before ss c s || false) c, find_map, number_by)

rises_by : (one past : Bool) (t : Submission)
    → bare_sub (cond one (record t { state = Active; was_active = true }) (cond past (record t { state = Past }) t))
    ≡ cond one (record (bare_sub t) { state = Active; was_active = true }) (cond past (record (bare_sub t) { state = Past }) (bare_sub t))
rises_by true past t = refl
rises_by false true t = refl
rises_by false false t = refl

rises_bare : (s t : Submission) → bare_sub (as_one_rises s t) ≡ as_one_rises (bare_sub s) (bare_sub t)
rises_bare s t = rises_by (same_sub (sub_of t) (sub_of s)) (is_active t && is_on s.submitted.id t) t

-- the submission of a name is the one that has it
found_by : (w : World) (s : Submission) → KeepsAlways w → Contains w.subs s → (o : Option Submission) → find (λ t. same_sub (sub_of t) (sub_of s)) w.subs ≡ o → o ≡ Some s
found_by w s h c None e =
    absurd (both_ways (is_some (find (λ t. same_sub (sub_of t) (sub_of s)) w.subs)) (ap is_some e)
    (found (λ t. same_sub (sub_of t) (sub_of s)) w.subs ∙ any_from (λ t. same_sub (sub_of t) (sub_of s)) w.subs s c (self_sub (sub_of s))))
found_by w s h c (Some t) e =
    let there = find_at (λ t. same_sub (sub_of t) (sub_of s)) w.subs t e in
    let n = contains_at w.subs t there.0 in
    let m = contains_at w.subs s c in
    ap (λ z. Some z) (at_same w.subs n.0 m.0 t s n.1 m.1 (subs_apart w n.0 m.0 t s h n.1 m.1 there.1))

pub named_bare : (w : World) (s : Submission) → KeepsAlways w → Contains w.subs s → named_in (sub_of s) (map bare_sub w.subs) ≡ Some (bare_sub s)
named_bare w s h c = grind (arith, nat_tests, find_map, found_by w s h c)

pub follows_activated : (w : World) (s : Submission) → KeepsAlways w → Contains w.subs s → stored_of (rising s w) ≡ activating (sub_of s) (stored_of w)
unfolding stored_of rising activating raising
follows_activated w s h c = grind (arith, nat_tests, agree, map_turned, marked_bare, rises_bare, named_bare)

-- Closing and destroying

pub follows_closed : (w : World) (c : Client) → stored_of (message_answer w c Close).world ≡ marking c.number (stored_of w)
unfolding stored_of message_answer marking
follows_closed w c = agree (map_turned bare_surface (mark_of c.number) (mark_of c.number) w.surfaces (λ s. marked_when (s.client == c.number) s)) refl

pub follows_destroyed : (w : World) (c : Surface) → stored_of (going c w) ≡ destroying c.id (stored_of w)
unfolding stored_of going destroying
follows_destroyed w c = grind (arith, nat_tests, agree, map_turned bare_surface (as_one_goes c) (ended_at c.id) w.surfaces, map_turned bare_sub (drop_on (c ∷ [])) (dropped_at c.id) w.subs, dropped_by)
