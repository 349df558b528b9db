-- What the index still names waits.
use Rattle.std.proofs.Common.{◌≡◌, Bool, true, false, ◌&&◌, Option, Some, None, List, map, find, refl, ap, sym, ◌∙◌, cond, subst, Contains, is_some}
use Rattle.std.specs.Option.{option_map}
use Rattle.std.specs.List.{list_any}
use Rattle.std.proofs.lemmas.Bool.{and_parts, and_from}
use Rattle.vz_ids.specs.declared.SurfaceId.{SurfaceId}
use Rattle.vz_ids.specs.declared.Sub.{Sub}
use Rattle.vz_ids.specs.Ids.{same_sub}
use Rattle.vz_rules.specs.World.{Submission, is_waiting, is_on, sub_of}
use Rattle.vz_rules.proofs.Members.{any_at, any_from, contains_at, at_same, find_at, found, map_contains}
use Rattle.vz_rules.proofs.Counts.{one_place}
use Rattle.vz_surfaces.specs.Stored.{Stored}
use Rattle.vz_surfaces.specs.Keeping.{KeepsStored}
use Rattle.vz_surfaces.specs.declared.waits.Waits.{Waits}
use Rattle.vz_surfaces.specs.Memory.{is_name, waits_on, waiting_on, is_waiting_in, FindsWaiting}
use Rattle.vz_surfaces.proofs.Keyed.{names}
use Rattle.vz_surfaces.proofs.Others.{never, and_swap, ChangesOn}

-- one of a name waits, on another surface
pub record WaitsAway (st : Stored) (id : SurfaceId) (sub : Sub) : Type 0 where
  pub one : Submission
  pub there : Contains st.subs one
  pub waits : is_waiting one ≡ true
  pub named : same_sub (sub_of one) sub ≡ true
  pub away : is_on id one ≡ false

-- what a name finds where another one is taken out
pub apart : (t : Bool) (o : Option SurfaceId) → is_some (cond t None o) ≡ true → (t ≡ false) × (is_some o ≡ true)
apart true o e = absurd (cc)
apart false o e = (refl, e)

-- one that waits under a name
pub named_at : (st : Stored) (sub : Sub) → is_waiting_in st sub ≡ true → (x : Submission) × Contains st.subs x × (is_waiting x ≡ true) × (same_sub (sub_of x) sub ≡ true)
unfolding is_waiting_in
named_at st sub h =
    let x = any_at (λ s. is_waiting s && same_sub (sub_of s) sub) st.subs h in
    let both = and_parts (is_waiting x.0) (same_sub (sub_of x.0) sub) x.2 in
    (x.0, x.1, both.0, both.1)

-- two that wait on a surface are one
one_waits : (st : Stored) (id : SurfaceId) (s t : Submission) → KeepsStored st → Contains st.subs s → Contains st.subs t → (is_waiting s && is_on id s) ≡ true → (is_waiting t && is_on id t) ≡ true → s ≡ t
one_waits st id s t keeps p q e f =
    let n = contains_at st.subs s p in
    let m = contains_at st.subs t q in
    at_same st.subs n.0 m.0 s t n.1 m.1
    (one_place (λ (x : Submission). is_on id x && is_waiting x) st.subs n.0 m.0 s t (keeps.states.one_waits id) n.1 m.1 (and_swap (is_on id s) (is_waiting s) ∙ e) (and_swap (is_on id t) (is_waiting t) ∙ f))

abbrev waits_here : SurfaceId → Submission → Bool
waits_here id s = is_waiting s && is_on id s

-- what a name finds still once the one that waits on a surface is taken out waits on another surface
pub still_named : (st : Stored) (id : SurfaceId) (old new : Waits) (gone : Option Sub) (sub : Sub) → KeepsStored st → FindsWaiting old st → gone ≡ waiting_on st id → (gone ≡ None → new ≡ old)
    → ((s : Sub) → gone ≡ Some s → (q : Sub) → waits_on new q ≡ cond (is_name s q) None (waits_on old q)) → is_some (waits_on new sub) ≡ true → WaitsAway st id sub
unfolding waiting_on
still_named st id old new gone sub keeps finds is none some e = by (find (waits_here id) st.subs) refl
  where
    by : (o : Option Submission) → find (waits_here id) st.subs ≡ o → WaitsAway st id sub
    by None f =
        let old_is = none (is ∙ ap (option_map (λ (s : Submission). sub_of s)) f) in
        let x = named_at st sub (finds.only sub (ap (λ (w : Waits). is_some (waits_on w sub)) (sym old_is) ∙ e)) in
        record {
          one = x.0;
          there = x.1;
          waits = x.2;
          named = x.3;
          away = never (is_on id x.0) (λ on. sym (ap is_some f) ∙ (found (waits_here id) st.subs ∙ any_from (waits_here id) st.subs x.0 x.1 (and_from (is_waiting x.0) (is_on id x.0) x.2 on)));
        }
    by (Some u) f =
        let there = find_at (waits_here id) st.subs u f in
        let parts = apart (is_name (sub_of u) sub) (waits_on old sub) (ap is_some (sym (some (sub_of u) (is ∙ ap (option_map (λ (s : Submission). sub_of s)) f) sub)) ∙ e) in
        let x = named_at st sub (finds.only sub parts.1) in
        record {
          one = x.0;
          there = x.1;
          waits = x.2;
          named = x.3;
          away = never (is_on id x.0) (λ on.
              sym parts.0 ∙ (ap (λ eq. eq (sub_of u) sub) names ∙ (ap (λ (s : Submission). same_sub (sub_of s) sub) (one_waits st id u x.0 keeps there.0 x.1 there.1 (and_from (is_waiting x.0) (is_on id x.0) x.2 on)) ∙ x.3)));
        }

-- and so it does where those on that surface change
pub waits_behind : (st : Stored) (id : SurfaceId) (sub : Sub) (f : Submission → Submission) → ChangesOn id f st.subs → (h : WaitsAway st id sub) → Contains (map f st.subs) h.one
waits_behind st id sub f changes h =
    subst (λ (x : Submission). Contains (map f st.subs) x) (changes.others h.one h.there h.away) (map_contains f st.subs h.one h.there)

-- a name is that of one that waits
pub names_one : (sub : Sub) (subs : List Submission) (x : Submission) → Contains subs x → is_waiting x ≡ true → same_sub (sub_of x) sub ≡ true → list_any (λ s. is_waiting s && same_sub (sub_of s) sub) subs ≡ true
names_one sub subs x c waits named = any_from (λ s. is_waiting s && same_sub (sub_of s) sub) subs x c (and_from (is_waiting x) (same_sub (sub_of x) sub) waits named)
