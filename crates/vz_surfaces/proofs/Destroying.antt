-- What is kept where a surface is destroyed, and where surfaces are marked.
use Rattle.std.proofs.Common.{arith, ◌≡◌, ℕ, ◌+◌, Bool, true, false, not, ◌&&◌, ◌||◌, Option, Some, None, List, [], ◌∷◌, map, find, refl, ap, sym, ◌∙◌, cond, subst, Contains}
use Rattle.std.proofs.lemmas.Bool.Decides.{nat_tests}
use Rattle.std.specs.Option.{option_map}
use Rattle.std.proofs.lemmas.Bool.{and_parts, both_ways}
use Rattle.vz_ids.specs.declared.SurfaceId.{SurfaceId}
use Rattle.vz_ids.specs.declared.Sub.{Sub}
use Rattle.vz_ids.specs.Ids.{same_surface}
use Rattle.vz_rules.specs.declared.entry.State.TheVariants.{Dropped}
use Rattle.vz_rules.specs.World.{Surface, Submission, is_waiting, is_active, is_on, sub_of}
use Rattle.vz_rules.specs.Messages.{mark_of}
use Rattle.vz_rules.proofs.Reached.{from_same, self_same}
use Rattle.vz_rules.proofs.Members.{when_same, contains_map, find_at}
use Rattle.vz_rules.proofs.Kept_last.{surfaces_differ}
use Rattle.vz_surfaces.specs.Stored.{Stored, marking, ended_at, dropped_at, destroying}
use Rattle.vz_surfaces.specs.Reading.{standing, existing_count, held_of}
use Rattle.vz_surfaces.specs.Keeping.{KeepsStored}
use Rattle.vz_surfaces.specs.declared.waits.Waits.{Waits}
use Rattle.vz_surfaces.specs.declared.owners.Owners.{Owners}
use Rattle.vz_surfaces.specs.Memory.{is_name, waits_on, kept_of, surface_at, FindsWaiting, KeepsOwners, waiting_on, is_waiting_in}
use Rattle.vz_surfaces.proofs.Finding.{find_fixed, find_none}
use Rattle.vz_surfaces.proofs.Others.{never, no_and, ChangesOn, count_on, other_found, kept_alike, mapped_alike, KeepsKept, surfaces_kept, count_standing}
use Rattle.vz_surfaces.proofs.Changing.{KeepsCounted, owners_stay, one_goes}
use Rattle.vz_surfaces.proofs.Indexed.{still_named, waits_behind, names_one}
use Rattle.vz_surfaces.proofs.Naming.{name_of, one_named}

-- Marks

marks_kept : (c : ℕ) → KeepsKept (mark_of c)
marks_kept c = grind (arith, nat_tests, when_same)

marks_counted : (c : ℕ) → KeepsCounted (mark_of c)
marks_counted c = grind (arith, nat_tests, when_same)

pub marked_at : (c : ℕ) (st : Stored) (q : SurfaceId) → surface_at (marking c st) q ≡ surface_at st q
unfolding surface_at marking
marked_at c st q = surfaces_kept (mark_of c) q st.surfaces st.subs (marks_kept c)

pub marked_count : (c : ℕ) (st : Stored) → existing_count (marking c st) ≡ existing_count st
unfolding existing_count marking
marked_count c st = count_standing (mark_of c) st.surfaces (marks_kept c)

same_map : {A : Type 0} (xs : List A) → map (λ x. x) xs ≡ xs
same_map [] = refl
same_map (x ∷ xs) = ap (λ l. x ∷ l) (same_map xs)

pub marked_owners : (c : ℕ) (st : Stored) (o : Owners) → KeepsOwners o st → KeepsOwners o (marking c st)
unfolding marking
marked_owners c st o h =
    subst (λ l. KeepsOwners o (record { surfaces = map (mark_of c) st.surfaces; subs = l })) (same_map st.subs)
    (owners_stay o (λ s. s) (mark_of c) st (λ s p. refl) (marks_counted c) h)

pub marked_waits : (c : ℕ) (st : Stored) (w : Waits) → FindsWaiting w st → FindsWaiting w (marking c st)
unfolding marking is_waiting_in
marked_waits c st w h = record { found = h.found; only = h.only }

-- One surface goes

dropped_by : (o on : Bool) (s : Submission) → on ≡ false → cond (o && on) (record s { state = Dropped }) s ≡ s
dropped_by o on s e = ap (λ (t : Bool). cond t (record s { state = Dropped }) s) (no_and o on e)

pub drops_on : (id : SurfaceId) (subs : List Submission) → ChangesOn id (dropped_at id) subs
drops_on id subs = grind (arith, nat_tests, when_same, dropped_by)

ends_counted : (id : SurfaceId) → KeepsCounted (ended_at id)
ends_counted id = grind (arith, nat_tests, when_same)

ends_not : (t : Bool) (s : Surface) → (t && not (cond t (record s { destroyed = true }) s).destroyed) ≡ false
ends_not true s = refl
ends_not false s = refl

ended_id : (id : SurfaceId) (s : Surface) → (ended_at id s).id ≡ s.id
ended_id id s = (ends_counted id).id s

pub ended_none : (id : SurfaceId) (ss : List Surface) → standing id (map (ended_at id) ss) ≡ None
ended_none id ss =
    find_none (λ s. same_surface s.id id && not s.destroyed) (map (ended_at id) ss) (λ s p.
    let t = contains_map (ended_at id) ss s p in
    subst (λ (x : Surface). (same_surface x.id id && not x.destroyed) ≡ false) t.2
    (ap (λ i. same_surface i id && not (ended_at id t.0).destroyed) (ended_id id t.0) ∙ ends_not (same_surface t.0.id id) t.0))

-- an id is not another
other_id : (id q : SurfaceId) (s : Surface) → same_surface id q ≡ false → same_surface s.id q ≡ true → same_surface s.id id ≡ false
other_id id q s apart on = never (same_surface s.id id) (λ e. sym apart ∙ (ap (λ x. same_surface x q) (sym (from_same s.id id e)) ∙ on))

ended_same : (id : SurfaceId) (s : Surface) → same_surface s.id id ≡ false → ended_at id s ≡ s
ended_same id s e = ap (λ (t : Bool). cond t (record s { destroyed = true }) s) e

pub ended_apart : (id q : SurfaceId) (ss : List Surface) → same_surface id q ≡ false → standing q (map (ended_at id) ss) ≡ standing q ss
ended_apart id q ss apart =
    find_fixed (λ s. same_surface s.id q && not s.destroyed) (ended_at id) ss
    (λ s p. elim (same_surface s.id q) as (λ (t : Bool). same_surface s.id q ≡ t → (same_surface (ended_at id s).id q && not (ended_at id s).destroyed) ≡ (same_surface s.id q && not s.destroyed)) [
      | true ↦ λ e. ap (λ (x : Surface). same_surface x.id q && not x.destroyed) (ended_same id s (other_id id q s apart e))
      | false ↦ λ e. ap (λ b. b && not (ended_at id s).destroyed) (ap (λ i. same_surface i q) (ended_id id s) ∙ e) ∙ sym (ap (λ b. b && not s.destroyed) e)
    ] refl)
    (λ s p e. ended_same id s (other_id id q s apart (and_parts (same_surface s.id q) (not s.destroyed) e).0))

pub gone_here : (id : SurfaceId) (st : Stored) → surface_at (destroying id st) id ≡ None
unfolding surface_at destroying
gone_here id st = ap (option_map (kept_of id (map (dropped_at id) st.subs))) (ended_none id st.surfaces)

pub gone_apart : (id q : SurfaceId) (st : Stored) → same_surface id q ≡ false → surface_at (destroying id st) q ≡ surface_at st q
unfolding surface_at destroying
gone_apart id q st apart =
    let changes = drops_on id st.subs in
    ap (option_map (kept_of q (map (dropped_at id) st.subs))) (ended_apart id q st.surfaces apart)
    ∙ mapped_alike (kept_of q (map (dropped_at id) st.subs)) (kept_of q st.subs) (standing q st.surfaces) (kept_alike q st.subs (map (dropped_at id) st.subs)
    (count_on id (dropped_at id) st.subs changes q)
    (ap (option_map (λ (s : Submission). held_of s.submitted)) (other_found id (dropped_at id) st.subs changes is_waiting q apart))
    (ap (option_map (λ (s : Submission). held_of s.submitted)) (other_found id (dropped_at id) st.subs changes is_active q apart)))

pub gone_owners : (id : SurfaceId) (st : Stored) (o : Owners) → KeepsOwners o st → KeepsOwners o (destroying id st)
unfolding destroying
gone_owners id st o h = owners_stay o (dropped_at id) (ended_at id) st (drops_on id st.subs).submitted (ends_counted id) h

-- one fewer exists
pub gone_count : (id : SurfaceId) (st : Stored) (c : Surface) → KeepsStored st → standing id st.surfaces ≡ Some c → existing_count (destroying id st) + 1 ≡ existing_count st
unfolding existing_count destroying
gone_count id st c keeps e =
    one_goes (λ s. same_surface s.id id) (λ s. not s.destroyed) (λ s. record s { destroyed = true }) (λ s. refl) st.surfaces c
    (λ n m s t p q u v. surfaces_differ keeps.clients st.surfaces keeps.sinks keeps.surfaces n m s t p q
    (ap (λ x. same_surface x t.id) (from_same s.id id u) ∙ (ap (λ x. same_surface id x) (from_same t.id id v) ∙ self_same id))) e

waits_by : (w a o : Bool) (t : Submission) → is_waiting t ≡ w → is_waiting (cond ((w || a) && o) (record t { state = Dropped }) t) ≡ true → (w ≡ true) × (o ≡ false)
waits_by true a true t e h = absurd (cc)
waits_by true a false t e h = (refl, refl)
waits_by false true true t e h = absurd (cc)
waits_by false true false t e h = absurd (both_ways (is_waiting t) e h)
waits_by false false o t e h = absurd (both_ways (is_waiting t) e h)

pub gone_waits : (id : SurfaceId) (st : Stored) (old new : Waits) (sub : Option Sub) → KeepsStored st → FindsWaiting old st → sub ≡ waiting_on st id → (sub ≡ None → new ≡ old)
    → ((s : Sub) → sub ≡ Some s → (q : Sub) → waits_on new q ≡ cond (is_name s q) None (waits_on old q)) → FindsWaiting new (destroying id st)
unfolding destroying waiting_on is_waiting_in
gone_waits id st old new sub keeps finds is none some =
    record {
      found = λ s p w.
          let t = contains_map (dropped_at id) st.subs s p in
          let parts = waits_by (is_waiting t.0) (is_active t.0) (is_on id t.0) t.0 refl (ap is_waiting t.2 ∙ w) in
          let same : t.0 ≡ s = sym ((drops_on id st.subs).others t.0 t.1 parts.1) ∙ t.2 in
          subst (λ (z : Submission). waits_on new (sub_of z) ≡ Some z.submitted.id) same
          (passes t.0 t.1 parts.1 (find (λ s. is_waiting s && is_on id s) st.subs) refl ∙ finds.found t.0 t.1 parts.0);
      only = λ q e.
          let left = still_named st id old new sub q keeps finds is none some e in
          names_one q (map (dropped_at id) st.subs) left.one (waits_behind st id q (dropped_at id) (drops_on id st.subs) left) left.waits left.named;
    }
  where
    passes : (t : Submission) → Contains st.subs t → is_on id t ≡ false → (o : Option Submission) → find (λ s. is_waiting s && is_on id s) st.subs ≡ o → waits_on new (sub_of t) ≡ waits_on old (sub_of t)
    passes t p away None e = ap (λ w. waits_on w (sub_of t)) (none (is ∙ ap (option_map (λ (s : Submission). sub_of s)) e))
    passes t p away (Some u) e =
        let there = find_at (λ s. is_waiting s && is_on id s) st.subs u e in
        some (sub_of u) (is ∙ ap (option_map (λ (s : Submission). sub_of s)) e) (sub_of t)
        ∙ ap (λ (b : Bool). cond b None (waits_on old (sub_of t))) (never (is_name (sub_of u) (sub_of t)) (λ f.
        sym away ∙ (ap (is_on id) (sym (one_named st u t keeps there.0 p (sym (name_of (sub_of u) (sub_of t)) ∙ f))) ∙ (and_parts (is_waiting u) (is_on id u) there.1).1)))
