-- What waits is found by its surface and by its name.
use Rattle.std.proofs.Common.{arith, ◌≡◌, true, Option, Some, None, is_some, find, refl, ap, sym, ◌∙◌, ◌&&◌, Contains}
use Rattle.std.proofs.lemmas.Bool.Decides.{nat_tests}
use Rattle.std.proofs.lemmas.Bool.{both_ways, and_from}
use Rattle.std.specs.Option.{option_map}
use Rattle.vz_ids.specs.declared.SurfaceId.{SurfaceId}
use Rattle.vz_ids.specs.declared.Sub.{Sub}
use Rattle.vz_ids.specs.Ids.{same_surface}
use Rattle.vz_rules.specs.World.{FrameData, Submission, Surface as Created, is_waiting, is_on, sub_of}
use Rattle.vz_rules.proofs.Reached.{self_same}
use Rattle.vz_rules.proofs.Members.{found, any_from}
use Rattle.vz_surfaces.specs.declared.held.Held.{Held}
use Rattle.vz_surfaces.specs.declared.table.Surface.{Surface}
use Rattle.vz_surfaces.specs.declared.table.Table.{Table}
use Rattle.vz_surfaces.specs.declared.waits.Waits.{Waits}
use Rattle.vz_surfaces.specs.declared.owners.Owners.{Owners}
use Rattle.vz_surfaces.specs.Stored.{Stored}
use Rattle.vz_surfaces.specs.Reading.{standing, held_of, waiting_at}
use Rattle.vz_surfaces.specs.Memory.{look, kept_of, surface_at, waits_on, is_waiting_in, Keeps}
use Rattle.vz_surfaces.proofs.Indexed.{named_at}
use Rattle.vz_surfaces.proofs.Raising.{same_names, waiting_one}

twice : (o : Option Submission) → option_map (λ (s : Submission). held_of s.submitted) o ≡ option_map held_of (option_map (λ (s : Submission). s.submitted) o)
twice None = refl
twice (Some s) = refl

abbrev read : Stored → SurfaceId → Option Created → Option FrameData
read st id o =
    elim o as (λ o. Option FrameData) [ Some c ↦ option_map (λ (s : Submission). s.submitted) (find (λ s. is_waiting s && is_on id s) st.subs) | None ↦ None ]

none_by : (st : Stored) (id : SurfaceId) (o : Option Created) → None ≡ option_map (kept_of id st.subs) o → ◌≡◌ {A = Option Held} None (option_map held_of (read st id o))
none_by st id None e = refl
none_by st id (Some c) e = absurd (cc)

pub waiting_none : (t : Table) (w : Waits) (o : Owners) (st : Stored) (id : SurfaceId) → Keeps t w o st → None ≡ look t id → ◌≡◌ {A = Option Held} None (option_map held_of (waiting_at st id))
unfolding waiting_at surface_at
waiting_none t w o st id h e = none_by st id (standing id st.surfaces) (e ∙ h.table.surfaces id)

some_same : {A : Type 0} {a b : A} → Some a ≡ Some b → a ≡ b
some_same f = cc

some_by : (st : Stored) (id : SurfaceId) (s : Surface) (o : Option Created) → Some s ≡ option_map (kept_of id st.subs) o → s.waiting ≡ option_map held_of (read st id o)
some_by st id s None e = absurd (cc)
some_by st id s (Some c) e = ap (λ (z : Surface). z.waiting) (some_same e) ∙ twice (find (λ s. is_waiting s && is_on id s) st.subs)

pub waiting_some : (t : Table) (w : Waits) (o : Owners) (st : Stored) (id : SurfaceId) (s : Surface) → Keeps t w o st → Some s ≡ look t id → s.waiting ≡ option_map held_of (waiting_at st id)
unfolding waiting_at surface_at
waiting_some t w o st id s h e = some_by st id s (standing id st.surfaces) (e ∙ h.table.surfaces id)

no_held : (o : Option Submission) → is_some o ≡ true → None ≡ option_map (λ (s : Submission). held_of s.submitted) o → ⊥
no_held None e f = absurd (cc)
no_held (Some s) e f = absurd (cc)

-- the surface that the index has for a submission has one that waits
pub waits_here : (t : Table) (w : Waits) (o : Owners) (st : Stored) (sub : Sub) (id : SurfaceId) (s : Surface) → Keeps t w o st → is_waiting_in st sub ≡ true → Some id ≡ waits_on w sub → Some s ≡ look t id → None ≡ s.waiting → ⊥
unfolding surface_at
waits_here t w o st sub id s h waits at e none =
    let x = waiting_one st sub waits in
    let on : x.0.submitted.id ≡ id = some_same (sym (h.waits.found x.0 x.1.there x.1.waits) ∙ (ap (waits_on w) x.2 ∙ sym at)) in
    by (standing id st.surfaces) (e ∙ h.table.surfaces id)
    (found (λ s. is_waiting s && is_on id s) st.subs
    ∙ any_from (λ s. is_waiting s && is_on id s) st.subs x.0 x.1.there (and_from (is_waiting x.0) (is_on id x.0) x.1.waits (ap (λ i. same_surface i id) on ∙ self_same id)))
  where
    by : (c : Option Created) → Some s ≡ option_map (kept_of id st.subs) c → is_some (find (λ s. is_waiting s && is_on id s) st.subs) ≡ true → ⊥
    by None f g = absurd (cc)
    by (Some c) f g = no_held (find (λ s. is_waiting s && is_on id s) st.subs) g (none ∙ ap (λ (z : Surface). z.waiting) (some_same f))

-- the index has the surface of each submission that waits
pub waits_there : (t : Table) (w : Waits) (o : Owners) (st : Stored) (sub : Sub) (r : Option SurfaceId) → Keeps t w o st → r ≡ waits_on w sub
    → (x : Submission) → Contains st.subs x → is_waiting x ≡ true → sub_of x ≡ sub → r ≡ Some x.submitted.id
waits_there t w o st sub r h e x c waits name = e ∙ (ap (waits_on w) (sym name) ∙ h.waits.found x c waits)

-- and it has no other
pub waits_alone : (t : Table) (w : Waits) (o : Owners) (st : Stored) (sub : Sub) (r : Option SurfaceId) → Keeps t w o st → r ≡ waits_on w sub → is_some r ≡ is_waiting_in st sub
waits_alone t w o st sub r h e = grind (arith, nat_tests, both_ways (is_waiting_in st sub), named_at st sub, both_ways (is_some r), same_names)
