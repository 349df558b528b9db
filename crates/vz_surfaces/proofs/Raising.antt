-- What is kept where a submission becomes active.
use Rattle.std.proofs.Common.{arith, ◌≡◌, Bool, true, false, ◌&&◌, Option, Some, None, List, [], ◌∷◌, map, find, refl, ap, sym, ◌∙◌, cond, subst, Contains, is_some}
use Rattle.std.proofs.lemmas.Bool.Decides.{nat_tests}
use Rattle.std.specs.Option.{option_map}
use Rattle.std.proofs.lemmas.Bool.{and_parts, and_from, both_ways, eqb-true}
use Rattle.vz_ids.specs.declared.SurfaceId.{SurfaceId}
use Rattle.vz_ids.specs.declared.Sub.{Sub}
use Rattle.vz_ids.specs.Ids.{same_surface, same_sub}
use Rattle.vz_rules.specs.declared.entry.State.TheVariants.{Active, Past}
use Rattle.vz_rules.specs.World.{Surface, FrameData, Submission, is_waiting, is_active, is_on, sub_of}
use Rattle.vz_rules.specs.Settle.{marked_by}
use Rattle.vz_rules.specs.Singly.{as_one_rises}
use Rattle.vz_rules.proofs.Reached.{self_same}
use Rattle.vz_rules.proofs.Members.{when_same, any_at, any_from, contains_map, map_contains, contains_at, at_same, find_at, found}
use Rattle.vz_rules.proofs.Counts.{one_place}
use Rattle.vz_surfaces.specs.Stored.{Stored, named_in, raising, activating}
use Rattle.vz_surfaces.specs.Reading.{standing, existing_count, held_of}
use Rattle.vz_surfaces.specs.Keeping.{KeepsStored}
use Rattle.vz_surfaces.specs.declared.waits.Waits.{Waits}
use Rattle.vz_surfaces.specs.declared.owners.Owners.{Owners}
use Rattle.vz_surfaces.specs.Memory.{is_name, waits_on, held_in, kept_of, surface_at, raised, FindsWaiting, KeepsOwners, is_waiting_in, past_by, acting_on}
use Rattle.vz_surfaces.proofs.Finding.{find_none, find_alike}
use Rattle.vz_surfaces.proofs.Others.{never, no_and, and_swap, waits_inactive, ChangesOn, count_on, other_found, kept_alike, mapped_alike, KeepsKept, surfaces_kept, count_standing}
use Rattle.vz_surfaces.proofs.Changing.{KeepsCounted, owners_stay}
use Rattle.vz_surfaces.proofs.Following.{self_sub}
use Rattle.vz_surfaces.proofs.Indexed.{apart, named_at, names_one}
use Rattle.vz_surfaces.proofs.Naming.{name_of, one_named}

-- a submission that waits
pub record Waits_in (st : Stored) (x : Submission) : Type 0 where
  pub there : Contains st.subs x
  pub waits : is_waiting x ≡ true

pub same_names : (a b : Sub) → same_sub a b ≡ true → a ≡ b
same_names a b e = grind (arith, nat_tests, and_parts, eqb-true a.client b.client, eqb-true a.ordinal b.ordinal)

-- the submission of a name that waits
pub waiting_one : (st : Stored) (sub : Sub) → is_waiting_in st sub ≡ true → (x : Submission) × Waits_in st x × (sub_of x ≡ sub)
unfolding is_waiting_in
waiting_one st sub h =
    let m = any_at (λ s. is_waiting s && same_sub (sub_of s) sub) st.subs h in
    let both = and_parts (is_waiting m.0) (same_sub (sub_of m.0) sub) m.2 in
    (m.0, record { there = m.1; waits = both.0 }, same_names (sub_of m.0) sub both.1)

-- what a name finds
found_by : (st : Stored) (x : Submission) → KeepsStored st → Contains st.subs x → (o : Option Submission) → find (λ t. same_sub (sub_of t) (sub_of x)) st.subs ≡ o → o ≡ Some x
found_by st x keeps p None e =
    absurd (both_ways (is_some (find (λ t. same_sub (sub_of t) (sub_of x)) st.subs)) (ap is_some e)
    (found (λ t. same_sub (sub_of t) (sub_of x)) st.subs ∙ any_from (λ t. same_sub (sub_of t) (sub_of x)) st.subs x p (self_sub (sub_of x))))
found_by st x keeps p (Some t) e =
    let there = find_at (λ t. same_sub (sub_of t) (sub_of x)) st.subs t e in
    ap (λ z. Some z) (one_named st t x keeps there.0 p there.1)

pub named_one : (st : Stored) (x : Submission) → KeepsStored st → Contains st.subs x → named_in (sub_of x) st.subs ≡ Some x
named_one st x keeps p = found_by st x keeps p (find (λ t. same_sub (sub_of t) (sub_of x)) st.subs) refl

pub activates : (st : Stored) (x : Submission) → KeepsStored st → Contains st.subs x → activating (sub_of x) st ≡ raising x st
unfolding activating
activates st x keeps p = ap (λ (o : Option Submission). elim o as (λ o. Stored) [ Some s ↦ raising s st | None ↦ st ]) (named_one st x keeps p)

pub past_is : (st : Stored) (x : Submission) → KeepsStored st → Contains st.subs x → past_by st (sub_of x) ≡ acting_on st x.submitted.id
unfolding past_by
past_is st x keeps p = ap (λ (o : Option Submission). elim o as (λ o. Option Sub) [ Some s ↦ acting_on st s.submitted.id | None ↦ None ]) (named_one st x keeps p)

-- the change of one submission

submitted_by : (one past : Bool) (t : Submission) → (cond one (record t { state = Active; was_active = true }) (cond past (record t { state = Past }) t)).submitted ≡ t.submitted
submitted_by true past t = refl
submitted_by false true t = refl
submitted_by false false t = refl

stays_by : (one past : Bool) (t : Submission) → one ≡ false → past ≡ false → cond one (record t { state = Active; was_active = true }) (cond past (record t { state = Past }) t) ≡ t
stays_by true past t e f = absurd (cc)
stays_by false true t e f = absurd (cc)
stays_by false false t e f = refl

-- what waits behind it is another that did not change
waits_by : (one past : Bool) (t : Submission) → is_waiting (cond one (record t { state = Active; was_active = true }) (cond past (record t { state = Past }) t)) ≡ true → (one ≡ false) × (past ≡ false)
waits_by true past t h = absurd (cc)
waits_by false true t h = absurd (cc)
waits_by false false t h = (refl, refl)

-- what is active behind it is the one, or another that did not change
acts_by : (one past : Bool) (t : Submission) → is_active (cond one (record t { state = Active; was_active = true }) (cond past (record t { state = Past }) t)) ≡ true → one ≡ false → past ≡ false
acts_by true past t h e = absurd (cc)
acts_by false true t h e = absurd (cc)
acts_by false false t h e = refl

mark_kept : (x : Submission) (ss : List Surface) → KeepsKept (marked_by ss (x ∷ []))
mark_kept x ss = grind (arith, nat_tests, when_same)

mark_counted : (x : Submission) (ss : List Surface) → KeepsCounted (marked_by ss (x ∷ []))
mark_counted x ss = grind (arith, nat_tests, when_same)

module _ (st : Stored) (x : Submission) (keeps : KeepsStored st) (in_it : Waits_in st x) where
  abbrev id_up : SurfaceId
  id_up = x.submitted.id

  abbrev up : Submission → Submission
  up = as_one_rises x

  pub one_is : (t : Submission) → Contains st.subs t → same_sub (sub_of t) (sub_of x) ≡ true → t ≡ x
  one_is t p e = one_named st t x keeps p in_it.there e

  pub rises_on : ChangesOn id_up up st.subs
  rises_on =
      record {
        submitted = λ t p. submitted_by (same_sub (sub_of t) (sub_of x)) (is_active t && is_on id_up t) t;
        others = λ t p e. stays_by (same_sub (sub_of t) (sub_of x)) (is_active t && is_on id_up t) t
            (never (same_sub (sub_of t) (sub_of x)) (λ f. sym e ∙ (ap (is_on id_up) (one_is t p f) ∙ self_same id_up)))
            (no_and (is_active t) (is_on id_up t) e);
      }

  waits_one : (t : Submission) → Contains st.subs t → (is_waiting t && is_on id_up t) ≡ true → t ≡ x
  waits_one t p e =
      let n = contains_at st.subs t p in
      let m = contains_at st.subs x in_it.there in
      let test = λ (s : Submission). is_on id_up s && is_waiting s in
      at_same st.subs n.0 m.0 t x n.1 m.1
      (one_place test st.subs n.0 m.0 t x (keeps.states.one_waits id_up) n.1 m.1 (and_swap (is_on id_up t) (is_waiting t) ∙ e) (and_from (is_on id_up x) (is_waiting x) (self_same id_up) in_it.waits))

  waited : held_in is_waiting id_up st.subs ≡ Some (held_of x.submitted)
  waited =
      find_alike (λ s. is_waiting s && is_on id_up s) (λ s. held_of s.submitted) (held_of x.submitted) st.subs x in_it.there (and_from (is_waiting x) (is_on id_up x) in_it.waits (self_same id_up))
      (λ t p e. ap (λ (s : Submission). held_of s.submitted) (waits_one t p e))

  waits_none : held_in is_waiting id_up (map up st.subs) ≡ None
  waits_none =
      ap (option_map (λ (s : Submission). held_of s.submitted))
      (find_none (λ s. is_waiting s && is_on id_up s) (map up st.subs) (λ s p.
      let t = contains_map up st.subs s p in
      never (is_waiting s && is_on id_up s) (λ e.
      let both = and_parts (is_waiting s) (is_on id_up s) e in
      let parts = waits_by (same_sub (sub_of t.0) (sub_of x)) (is_active t.0 && is_on id_up t.0) t.0 (ap is_waiting t.2 ∙ both.0) in
      let same : t.0 ≡ s = sym (stays_by (same_sub (sub_of t.0) (sub_of x)) (is_active t.0 && is_on id_up t.0) t.0 parts.0 parts.1) ∙ t.2 in
      let one : t.0 ≡ x = waits_one t.0 t.1 (ap (λ (s : Submission). is_waiting s && is_on id_up s) same ∙ e) in
      sym parts.0 ∙ (ap (λ (s : Submission). same_sub (sub_of s) (sub_of x)) one ∙ self_sub (sub_of x)))))

  acts_alike : (s : Submission) → Contains (map up st.subs) s → (is_active s && is_on id_up s) ≡ true → held_of s.submitted ≡ held_of x.submitted
  acts_alike s p e =
      let t = contains_map up st.subs s p in
      let both = and_parts (is_active s) (is_on id_up s) e in
      let named : s.submitted ≡ t.0.submitted = ap (λ (z : Submission). z.submitted) (sym t.2) ∙ rises_on.submitted t.0 t.1 in
      elim (same_sub (sub_of t.0) (sub_of x)) as (λ (b : Bool). same_sub (sub_of t.0) (sub_of x) ≡ b → held_of s.submitted ≡ held_of x.submitted) [
        | true ↦ λ f. ap (λ (i : FrameData). held_of i) (named ∙ ap (λ (z : Submission). z.submitted) (one_is t.0 t.1 f))
        | false ↦ λ f.
            let past = acts_by (same_sub (sub_of t.0) (sub_of x)) (is_active t.0 && is_on id_up t.0) t.0 (ap is_active t.2 ∙ both.0) f in
            let same : t.0 ≡ s = sym (stays_by (same_sub (sub_of t.0) (sub_of x)) (is_active t.0 && is_on id_up t.0) t.0 f past) ∙ t.2 in
            absurd (both_ways (is_active t.0 && is_on id_up t.0) past (ap (λ (s : Submission). is_active s && is_on id_up s) same ∙ e))
      ] refl

  rises_here : (one : Bool) → one ≡ true → is_active (cond one (record x { state = Active; was_active = true }) (cond (is_active x && is_on id_up x) (record x { state = Past }) x)) ≡ true
  rises_here true e = refl
  rises_here false e = absurd (cc)

  acts_now : held_in is_active id_up (map up st.subs) ≡ Some (held_of x.submitted)
  acts_now =
      find_alike (λ s. is_active s && is_on id_up s) (λ s. held_of s.submitted) (held_of x.submitted) (map up st.subs) (up x) (map_contains up st.subs x in_it.there)
      (and_from (is_active (up x)) (is_on id_up (up x)) (rises_here (same_sub (sub_of x) (sub_of x)) (self_sub (sub_of x))) (ap (λ (i : FrameData). same_surface i.id id_up) (rises_on.submitted x in_it.there) ∙ self_same id_up))
      acts_alike

  -- what is kept of the surface
  pub raised_here : surface_at (raising x st) id_up ≡ option_map raised (surface_at st id_up)
  unfolding surface_at raising
  raised_here = surfaces_kept (marked_by st.surfaces (x ∷ [])) id_up st.surfaces (map up st.subs) (mark_kept x st.surfaces) ∙ by (standing id_up st.surfaces)
    where
      held : (c : Surface) → kept_of id_up (map up st.subs) c ≡ raised (kept_of id_up st.subs c)
      held c =
          λ i. record {
            client = c.client;
            number = c.number;
            accepted = count_on id_up up st.subs rises_on id_up i;
            waiting = waits_none i;
            active = (acts_now ∙ sym waited) i;
          }

      by : (o : Option Surface) → option_map (kept_of id_up (map up st.subs)) o ≡ option_map raised (option_map (kept_of id_up st.subs) o)
      by None = refl
      by (Some c) = ap (λ z. Some z) (held c)

  -- and of the others
  pub raised_apart : (q : SurfaceId) → same_surface id_up q ≡ false → surface_at (raising x st) q ≡ surface_at st q
  unfolding surface_at raising
  raised_apart q apart =
      surfaces_kept (marked_by st.surfaces (x ∷ [])) q st.surfaces (map up st.subs) (mark_kept x st.surfaces)
      ∙ mapped_alike (kept_of q (map up st.subs)) (kept_of q st.subs) (standing q st.surfaces) (kept_alike q st.subs (map up st.subs)
      (count_on id_up up st.subs rises_on q)
      (ap (option_map (λ (s : Submission). held_of s.submitted)) (other_found id_up up st.subs rises_on is_waiting q apart))
      (ap (option_map (λ (s : Submission). held_of s.submitted)) (other_found id_up up st.subs rises_on is_active q apart)))

  pub raised_count : existing_count (raising x st) ≡ existing_count st
  unfolding existing_count raising
  raised_count = count_standing (marked_by st.surfaces (x ∷ [])) st.surfaces (mark_kept x st.surfaces)

  pub raised_owners : (o : Owners) → KeepsOwners o st → KeepsOwners o (raising x st)
  unfolding raising
  raised_owners o h = owners_stay o up (marked_by st.surfaces (x ∷ [])) st rises_on.submitted (mark_counted x st.surfaces) h

  pub raised_waits : (old new : Waits) → FindsWaiting old st → ((q : Sub) → waits_on new q ≡ cond (is_name (sub_of x) q) None (waits_on old q)) → FindsWaiting new (raising x st)
  unfolding raising is_waiting_in
  raised_waits old new finds put =
      record {
        found = λ s p w.
            let t = contains_map up st.subs s p in
            let parts = waits_by (same_sub (sub_of t.0) (sub_of x)) (is_active t.0 && is_on id_up t.0) t.0 (ap is_waiting t.2 ∙ w) in
            let same : t.0 ≡ s = sym (stays_by (same_sub (sub_of t.0) (sub_of x)) (is_active t.0 && is_on id_up t.0) t.0 parts.0 parts.1) ∙ t.2 in
            subst (λ (z : Submission). waits_on new (sub_of z) ≡ Some z.submitted.id) same
            (put (sub_of t.0)
            ∙ (ap (λ (b : Bool). cond b None (waits_on old (sub_of t.0))) (name_of (sub_of x) (sub_of t.0) ∙ never (same_sub (sub_of x) (sub_of t.0)) (λ e. sym parts.0 ∙ (ap (λ (z : Sub). same_sub (sub_of t.0) z) (same_names (sub_of x) (sub_of t.0) e) ∙ self_sub (sub_of t.0))))
            ∙ finds.found t.0 t.1 (ap is_waiting same ∙ w)));
        only = λ q e.
            let parts = apart (is_name (sub_of x) q) (waits_on old q) (ap is_some (sym (put q)) ∙ e) in
            let t = named_at st q (finds.only q parts.1) in
            let same : up t.0 ≡ t.0 = stays_by (same_sub (sub_of t.0) (sub_of x)) (is_active t.0 && is_on id_up t.0) t.0
            (never (same_sub (sub_of t.0) (sub_of x)) (λ f. sym parts.0 ∙ (name_of (sub_of x) q ∙ (ap (λ (z : Sub). same_sub z q) (sym (same_names (sub_of t.0) (sub_of x) f)) ∙ t.3))))
            (ap (λ (b : Bool). b && is_on id_up t.0) (waits_inactive t.0 t.2)) in
            names_one q (map up st.subs) t.0 (subst (λ (z : Submission). Contains (map up st.subs) z) same (map_contains up st.subs t.0 t.1)) t.2 t.3;
      }
