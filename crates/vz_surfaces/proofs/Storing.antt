-- What memory keeps is that of the store, at first and over its other changes, and what is read of it.
use Rattle.std.proofs.Common.{◌≡◌, ℕ, ◌+◌, Bool, true, false, ◌&&◌, Option, Some, None, List, [], ◌∷◌, ◌++◌, filter, find, length, refl, ap, sym, ◌∙◌, arith, cond, subst, is_some, Bor}
use Rattle.std.proofs.lemmas.Bool.Decides.{nat_tests}
use Rattle.std.specs.Option.{option_map, option_copied}
use Rattle.std.proofs.lemmas.Bool.{both_ways, or_left}
use Rattle.vz_ids.specs.declared.SurfaceId.{SurfaceId}
use Rattle.vz_ids.specs.declared.Sub.{Sub}
use Rattle.vz_ids.specs.Ids.{same_surface}
use Rattle.vz_rules.specs.declared.entry.Lost.{Lost}
use Rattle.vz_rules.specs.World.{Surface as Created, FrameData, Submission, is_waiting, is_active, is_on, active_frames}
use Rattle.vz_rules.specs.Kept.{stands_in}
use Rattle.vz_rules.proofs.Reached.{from_same}
use Rattle.vz_rules.proofs.Members.{contains_none}
use Rattle.vz_surfaces.specs.declared.told.Told.{Told}
use Rattle.vz_surfaces.specs.declared.told.Told.TheVariants as told
use Rattle.vz_surfaces.specs.declared.held.Held.{Held}
use Rattle.vz_surfaces.specs.declared.table.Surface.{Surface}
use Rattle.vz_surfaces.specs.declared.table.Table.{Table}
use Rattle.vz_surfaces.specs.declared.waits.Waits.{Waits}
use Rattle.vz_surfaces.specs.declared.owners.Owners.{Owners}
use Rattle.vz_surfaces.specs.Stored.{Stored, nothing_stored, raising, activating, destroying}
use Rattle.vz_surfaces.specs.Told.{changed, changed_by, stored}
use Rattle.vz_surfaces.specs.Reading.{stands, standing, held_of, existing_count, last_of, active_on}
use Rattle.vz_surfaces.specs.Keeping.{KeepsStored}
use Rattle.vz_surfaces.specs.Memory.{is_key, key_at, look, IsKeyed, is_name, waits_on, owner_at, no_owner, Keeps, kept_of, surface_at, raised, waiting_on, acting_on, is_waiting_in, past_by}
use Rattle.vz_surfaces.specs.Chains.{acting_under}
use Rattle.vz_surfaces.proofs.Raising.{waiting_one, Waits_in, activates, past_is, raised_here, raised_apart, raised_count, raised_owners, raised_waits}
use Rattle.vz_surfaces.proofs.Destroying.{marked_at, marked_count, marked_owners, marked_waits, gone_here, gone_apart, gone_owners, gone_count, gone_waits}
use Rattle.vz_surfaces.proofs.Holding.{key_of, standing_of, kept_waiting}

-- Changes

changed_more : (st : Stored) (ts : List Told) (t : Told) → changed_by st (ts ++ t ∷ []) ≡ changed (changed_by st ts) t
unfolding changed_by
changed_more st [] t = refl
changed_more st (x ∷ ts) t = changed_more (changed st x) ts t

pub stored_more : (ts now : List Told) (t : Told) (st : Stored) → now ≡ ts ++ t ∷ [] → stored ts ≡ st → stored now ≡ changed st t
unfolding stored
stored_more ts now t st e v = ap (changed_by nothing_stored) e ∙ (changed_more nothing_stored ts t ∙ ap (λ s. changed s t) v)

pub stored_none : (ts : List Told) → ts ≡ [] → stored ts ≡ nothing_stored
unfolding stored changed_by
stored_none ts e = ap (changed_by nothing_stored) e

pub keeps_none : (t : Table) (w : Waits) (o : Owners) (ts : List Told) → ((q : SurfaceId) → look t q ≡ None) → length t.keys.entries ≡ 0 → IsKeyed t → ((q : Sub) → waits_on w q ≡ None) → ((q : ℕ) → owner_at o q ≡ no_owner) → ts ≡ []
    → Keeps t w o (stored ts)
unfolding surface_at existing_count last_of nothing_stored
keeps_none t w o ts none len keyed unnamed owners e = grind (arith, nat_tests, stored_none, contains_none, both_ways)

-- What is read

pub exists_is : (t : Table) (w : Waits) (o : Owners) (st : Stored) (id : SurfaceId) → Keeps t w o st → is_some (look t id) ≡ stands st id
unfolding surface_at stands
exists_is t w o st id h = grind (arith, nat_tests)

seen_step : (i : FrameData) (id : SurfaceId) (in_it on : Bool) (rest : List FrameData) → same_surface i.id id ≡ on
    → find (λ (j : FrameData). same_surface j.id id) (cond in_it (i ∷ rest) rest) ≡ cond (in_it && on) (Some i) (find (λ (j : FrameData). same_surface j.id id) rest)
seen_step i id true on rest e = ap (λ (b : Bool). cond b (Some i) (find (λ (j : FrameData). same_surface j.id id) rest)) e
seen_step i id false on rest e = refl

seen_by : (b on stand : Bool) (s : Submission) (others : Option FrameData) (too : Option Submission) → (on ≡ true → stand ≡ b) → others ≡ cond b (option_map (λ (s : Submission). s.submitted) too) None
    → cond (stand && on) (Some s.submitted) others ≡ cond b (option_map (λ (s : Submission). s.submitted) (cond on (Some s) too)) None
seen_by b false true s others too f e = e
seen_by b false false s others too f e = e
seen_by true true true s others too f e = refl
seen_by false true true s others too f e = absurd (both_ways false refl (sym (f refl)))
seen_by true true false s others too f e = absurd (both_ways false refl (f refl))
seen_by false true false s others too f e = e

-- the active frame of a surface, if it exists
seen_on : (ss : List Created) (subs : List Submission) (id : SurfaceId) (b : Bool) → stands_in ss id ≡ b
    → find (λ (i : FrameData). same_surface i.id id) (filter (λ i. stands_in ss i.id) (active_frames subs)) ≡ cond b (option_map (λ (s : Submission). s.submitted) (find (λ s. is_active s && is_on id s) subs)) None
seen_on ss [] id true e = refl
seen_on ss [] id false e = refl
seen_on ss (s ∷ subs) id b e = grind (arith, nat_tests, seen_on ss subs id b e, seen_step, seen_by, from_same)

pub active_none : (t : Table) (w : Waits) (o : Owners) (st : Stored) (id : SurfaceId) → Keeps t w o st → None ≡ look t id → ◌≡◌ {A = Option Held} None (option_map held_of (active_on st id))
unfolding active_on stands
active_none t w o st id h e = grind (arith, nat_tests, exists_is t w o st id h, seen_on st.surfaces st.subs id false)

pub active_some : (t : Table) (w : Waits) (o : Owners) (st : Stored) (id : SurfaceId) (s : Surface) → Keeps t w o st → Some s ≡ look t id → s.active ≡ option_map held_of (active_on st id)
unfolding active_on surface_at
active_some t w o st id s h e = grind (arith, nat_tests, seen_on st.surfaces st.subs id true)

-- what is active under the key of a surface
pub acting_reads : (t : Table) (w : Waits) (o : Owners) (st : Stored) (id : SurfaceId) (key : ℕ) → Keeps t w o st → key_at t id ≡ Some key → acting_under t key ≡ option_map held_of (active_on st id)
acting_reads t w o st id key h e = grind (arith, nat_tests, active_none t w o st id h, active_some t w o st id)

-- whether there is a borrowed surface
pub some_read : (o : Option (Bor Surface)) → is_some o ≡ is_some (option_copied o)
some_read None = refl
some_read (Some b) = refl

pub marked_keeps : (t : Table) (w : Waits) (o : Owners) (ts now : List Told) (st : Stored) (c : ℕ) → Keeps t w o (stored ts) → stored ts ≡ st → now ≡ ts ++ told.MarkedAll c ∷ [] → Keeps t w o (stored now)
marked_keeps t w o ts now st c inv view e =
    let h = subst (Keeps t w o) view inv in
    subst (Keeps t w o) (sym (stored_more ts now (told.MarkedAll c) st e view))
    (record {
      table = record { surfaces = λ q. h.table.surfaces q ∙ sym (marked_at c st q); count = h.table.count ∙ sym (marked_count c st); keyed = h.table.keyed };
      waits = marked_waits c st w h.waits;
      owners = marked_owners c st o h.owners;
    })

-- A submission becomes active

pub found_waiting : (t : Table) (w : Waits) (o : Owners) (ts : List Told) (st : Stored) (sub : Sub) → Keeps t w o (stored ts) → stored ts ≡ st → is_waiting_in st sub ≡ true → None ≡ waits_on w sub → ⊥
found_waiting t w o ts st sub inv view waits none = grind (arith, nat_tests, waiting_one)

pub activated_keeps : (t0 t1 : Table) (w0 w1 : Waits) (o : Owners) (ts now : List Told) (st : Stored) (sub : Sub) (id : SurfaceId) → KeepsStored st → Keeps t0 w0 o (stored ts) → stored ts ≡ st
    → is_waiting_in st sub ≡ true → now ≡ ts ++ told.Activated sub ∷ [] → Some id ≡ waits_on w0 sub
    → ((q : Sub) → waits_on w1 q ≡ cond (is_name sub q) None (waits_on w0 q))
    → ((q : SurfaceId) → look t1 q ≡ cond (is_key id q) (option_map raised (look t0 q)) (look t0 q)) → length t1.keys.entries ≡ length t0.keys.entries → IsKeyed t1 → Keeps t1 w1 o (stored now)
activated_keeps t0 t1 w0 w1 o ts now st sub id keeps inv view waits e found gone rose same keyed =
    let h = subst (Keeps t0 w0 o) view inv in
    let x = waiting_one st sub waits in
    let in_it = x.1 in
    let at : id ≡ x.0.submitted.id = some_id (found ∙ (ap (waits_on w0) (sym x.2) ∙ h.waits.found x.0 in_it.there in_it.waits)) in
    subst (Keeps t1 w1 o) (sym (stored_more ts now (told.Activated sub) st e view ∙ (ap (λ s. activating s st) (sym x.2) ∙ activates st x.0 keeps in_it.there)))
    (record {
      table = record {
        surfaces = λ q. rose q ∙ (ap (λ i. cond (is_key i q) (option_map raised (look t0 q)) (look t0 q)) at ∙ by x.0 in_it h.table.surfaces q (same_surface x.0.submitted.id q) refl);
        count = same ∙ (h.table.count ∙ sym (raised_count st x.0 keeps in_it));
        keyed = keyed;
      };
      waits = raised_waits st x.0 keeps in_it w0 w1 h.waits (λ q. gone q ∙ ap (λ s. cond (is_name s q) None (waits_on w0 q)) (sym x.2));
      owners = raised_owners st x.0 keeps in_it o h.owners;
    })
  where
    some_id : {a b : SurfaceId} → Some a ≡ Some b → a ≡ b
    some_id f = cc

    by : (y : Submission) (in_it : Waits_in st y) → ((q : SurfaceId) → look t0 q ≡ surface_at st q) → (q : SurfaceId) (b : Bool) → same_surface y.submitted.id q ≡ b
        → cond (is_key y.submitted.id q) (option_map raised (look t0 q)) (look t0 q) ≡ surface_at (raising y st) q
    by y in_it looks q true f =
        ap (λ (b : Bool). cond b (option_map raised (look t0 q)) (look t0 q)) (key_of y.submitted.id q ∙ f)
        ∙ (ap (λ i. option_map raised (look t0 i)) (sym (from_same y.submitted.id q f))
        ∙ (ap (option_map raised) (looks y.submitted.id) ∙ (sym (raised_here st y keeps in_it) ∙ ap (surface_at (raising y st)) (from_same y.submitted.id q f))))
    by y in_it looks q false f =
        ap (λ (b : Bool). cond b (option_map raised (look t0 q)) (look t0 q)) (key_of y.submitted.id q ∙ f) ∙ (looks q ∙ sym (raised_apart st y keeps in_it q f))

kept_active : (id : SurfaceId) (st : Stored) (c : Created) → option_map (λ (h : Held). h.sub) (kept_of id st.subs c).active ≡ acting_on st id
unfolding acting_on
kept_active id st c = grind (arith, nat_tests)

-- the one that is past then
pub past_reads : (t : Table) (w : Waits) (o : Owners) (ts : List Told) (st : Stored) (sub : Sub) (id : SurfaceId) (r : Option Sub) → KeepsStored st → Keeps t w o (stored ts) → stored ts ≡ st
    → is_waiting_in st sub ≡ true → Some id ≡ waits_on w sub → ((s : Surface) → look t id ≡ Some s → r ≡ option_map (λ (h : Held). h.sub) s.active) → r ≡ past_by st sub
unfolding surface_at
past_reads t w o ts st sub id r keeps inv view waits found past =
    let h = subst (Keeps t w o) view inv in
    let x = waiting_one st sub waits in
    let in_it = x.1 in
    let at : id ≡ x.0.submitted.id = some_id (found ∙ (ap (waits_on w) (sym x.2) ∙ h.waits.found x.0 in_it.there in_it.waits)) in
    let here = standing_of st x.0.submitted.id (keeps.states.stand x.0 in_it.there (or_left (is_waiting x.0) (is_active x.0) in_it.waits)) in
    past (kept_of x.0.submitted.id st.subs here.0) (ap (look t) at ∙ (h.table.surfaces x.0.submitted.id ∙ ap (option_map (kept_of x.0.submitted.id st.subs)) here.1))
    ∙ (kept_active x.0.submitted.id st here.0 ∙ (sym (past_is st x.0 keeps in_it.there) ∙ ap (past_by st) x.2))
  where
    some_id : {a b : SurfaceId} → Some a ≡ Some b → a ≡ b
    some_id f = cc

-- A surface is destroyed

pub found_standing : (t : Table) (w : Waits) (o : Owners) (ts : List Told) (st : Stored) (id : SurfaceId) → Keeps t w o (stored ts) → stored ts ≡ st → stands st id ≡ true → None ≡ look t id → ⊥
found_standing t w o ts st id inv view here none =
    let h = subst (Keeps t w o) view inv in
    let no_way : false ≡ true = ap is_some none ∙ (exists_is t w o st id h ∙ here) in
    absurd (cc)

-- what is kept of the surface
pub record IsKeptAt (st : Stored) (id : SurfaceId) (s : Surface) : Type 0 where
  pub surface : Created
  pub is : standing id st.surfaces ≡ Some surface
  pub kept : s ≡ kept_of id st.subs surface

kept_by : (st : Stored) (id : SurfaceId) (s : Surface) (o : Option Created) → standing id st.surfaces ≡ o → Some s ≡ option_map (kept_of id st.subs) o → IsKeptAt st id s
kept_by st id s None e f = absurd (cc)
kept_by st id s (Some c) e f = grind (arith, nat_tests)

pub kept_at : (t : Table) (w : Waits) (o : Owners) (ts : List Told) (st : Stored) (id : SurfaceId) (s : Surface) → Keeps t w o (stored ts) → stored ts ≡ st → Some s ≡ look t id → IsKeptAt st id s
unfolding surface_at
kept_at t w o ts st id s inv view e =
    let h = subst (Keeps t w o) view inv in kept_by st id s (standing id st.surfaces) refl (e ∙ h.table.surfaces id)

pub lost_reads : (st : Stored) (id : SurfaceId) (s : Surface) → IsKeptAt st id s → (c : Created) → standing id st.surfaces ≡ Some c
    → ◌≡◌ {A = Lost} (record { client = s.client; surface = s.number }) (record { client = c.client; surface = c.number })
lost_reads st id s k c e = grind (arith, nat_tests)

-- the client of what is kept
pub client_reads : (t : Table) (w : Waits) (o : Owners) (st : Stored) (id : SurfaceId) → Keeps t w o st
    → option_map (λ (s : Surface). s.client) (look t id) ≡ option_map (λ (c : Created). c.client) (standing id st.surfaces)
unfolding surface_at
client_reads t w o st id h = grind (arith, nat_tests)

pub waiting_reads : (st : Stored) (id : SurfaceId) (s : Surface) (r : Option Sub) → IsKeptAt st id s → r ≡ option_map (λ (h : Held). h.sub) s.waiting → r ≡ waiting_on st id
waiting_reads st id s r k e = e ∙ (ap (λ (x : Surface). option_map (λ (h : Held). h.sub) x.waiting) k.kept ∙ kept_waiting id st k.surface)

pub active_reads : (st : Stored) (id : SurfaceId) (s : Surface) (r : Option Sub) → IsKeptAt st id s → r ≡ option_map (λ (h : Held). h.sub) s.active → r ≡ acting_on st id
active_reads st id s r k e = e ∙ (ap (λ (x : Surface). option_map (λ (h : Held). h.sub) x.active) k.kept ∙ kept_active id st k.surface)

pub destroyed_keeps : (t0 t1 : Table) (w0 w1 : Waits) (o : Owners) (ts now : List Told) (st : Stored) (id : SurfaceId) (s : Surface) (r : Option Sub) → KeepsStored st → Keeps t0 w0 o (stored ts) → stored ts ≡ st
    → now ≡ ts ++ told.Destroyed id ∷ [] → Some s ≡ look t0 id → r ≡ option_map (λ (h : Held). h.sub) s.waiting → (r ≡ None → w1 ≡ w0)
    → ((x : Sub) → r ≡ Some x → (q : Sub) → waits_on w1 q ≡ cond (is_name x q) None (waits_on w0 q))
    → ((q : SurfaceId) → look t1 q ≡ cond (is_key id q) None (look t0 q)) → ((x : Surface) → look t0 id ≡ Some x → length t1.keys.entries + 1 ≡ length t0.keys.entries) → IsKeyed t1 → Keeps t1 w1 o (stored now)
destroyed_keeps t0 t1 w0 w1 o ts now st id s r keeps inv view e found is none some goes fewer keyed =
    let h = subst (Keeps t0 w0 o) view inv in
    let k = kept_at t0 w0 o ts st id s inv view found in
    subst (Keeps t1 w1 o) (sym (stored_more ts now (told.Destroyed id) st e view))
    (record {
      table = record {
        surfaces = λ q. goes q ∙ by h.table.surfaces q (same_surface id q) refl;
        count = omega (arith, fewer s (sym found), h.table.count, gone_count id st k.surface keeps k.is);
        keyed = keyed;
      };
      waits = gone_waits id st w0 w1 r keeps h.waits (waiting_reads st id s r k is) none some;
      owners = gone_owners id st o h.owners;
    })
  where
    by : ((q : SurfaceId) → look t0 q ≡ surface_at st q) → (q : SurfaceId) (b : Bool) → same_surface id q ≡ b → cond (is_key id q) None (look t0 q) ≡ surface_at (destroying id st) q
    by looks q true f =
        ap (λ (b : Bool). cond b None (look t0 q)) (key_of id q ∙ f) ∙ (sym (gone_here id st) ∙ ap (surface_at (destroying id st)) (from_same id q f))
    by looks q false f = ap (λ (b : Bool). cond b None (look t0 q)) (key_of id q ∙ f) ∙ (looks q ∙ sym (gone_apart id q st f))
