-- The surface on which a submission waits has the key of its link, over the changes of a store.
use Rattle.std.proofs.Common.{◌≡◌, ℕ, Bool, true, false, not, ◌&&◌, Option, Some, None, refl, ap, sym, ◌∙◌, cond, is_some}
use Rattle.std.specs.Option.{option_map}
use Rattle.std.specs.Map.{lookup}
use Rattle.vz_ids.specs.declared.SurfaceId.{SurfaceId}
use Rattle.vz_ids.specs.declared.Sub.{Sub}
use Rattle.vz_ids.specs.Ids.{same_surface}
use Rattle.vz_rules.specs.World.{sub_of}
use Rattle.vz_rules.proofs.Reached.{self_same}
use Rattle.vz_surfaces.specs.declared.groups.Link.{Link}
use Rattle.vz_surfaces.specs.declared.table.Table.{Table}
use Rattle.vz_surfaces.specs.declared.waits.Waits.{Waits}
use Rattle.vz_surfaces.specs.Stored.{Stored}
use Rattle.vz_surfaces.specs.Keeping.{KeepsStored}
use Rattle.vz_surfaces.specs.Memory.{is_key, key_at, is_name, link_on, waits_on, waiting_on, FindsWaiting}
use Rattle.vz_surfaces.specs.Chains.{KeepsAwaited}
use Rattle.vz_surfaces.proofs.Others.{never}
use Rattle.vz_surfaces.proofs.Lodging.{same_id}
use Rattle.vz_surfaces.proofs.Indexed.{still_named}
use Rattle.vz_surfaces.proofs.Raising.{same_names}

none_some : {A B : Type 0} {a : A} → ◌≡◌ {A = Option A} None (Some a) → B
none_some e = absurd (cc)

some_same : {A : Type 0} {a b : A} → Some a ≡ Some b → a ≡ b
some_same e = cc

-- What is told of links is told of their surfaces

pub id_found : (w : Waits) (sub : Sub) (l : Link) → Some l ≡ link_on w sub → Some l.id ≡ waits_on w sub
id_found w sub l e = ap (option_map (λ (x : Link). x.id)) e

pub none_found : (w : Waits) (sub : Sub) → None ≡ link_on w sub → None ≡ waits_on w sub
none_found w sub e = ap (option_map (λ (x : Link). x.id)) e

pub ids_found : (old new : Waits) (s : Sub) (o : Option Link) → ((q : Sub) → link_on new q ≡ cond (is_name s q) o (link_on old q))
    → (q : Sub) → waits_on new q ≡ cond (is_name s q) (option_map (λ (l : Link). l.id) o) (waits_on old q)
ids_found old new s o put q = ap (option_map (λ (l : Link). l.id)) (put q) ∙ by (is_name s q)
  where
    by : (b : Bool) → option_map (λ (l : Link). l.id) (cond b o (link_on old q)) ≡ cond b (option_map (λ (l : Link). l.id) o) (waits_on old q)
    by true = refl
    by false = refl

-- Changes

pub awaited_same : (t0 t1 : Table) (w0 w1 : Waits) → ((q : SurfaceId) → key_at t1 q ≡ key_at t0 q) → ((q : Sub) → link_on w1 q ≡ link_on w0 q) → KeepsAwaited t0 w0 → KeepsAwaited t1 w1
awaited_same t0 t1 w0 w1 keys links h = record { keys = λ q l e. keys l.id ∙ h.keys q l (sym (links q) ∙ e) }

-- where one is taken out
pub awaited_less : (t : Table) (w0 w1 : Waits) (s : Sub) → ((q : Sub) → link_on w1 q ≡ cond (is_name s q) None (link_on w0 q)) → KeepsAwaited t w0 → KeepsAwaited t w1
awaited_less t w0 w1 s gone h = record { keys = λ q l e. by q l (is_name s q) (sym (gone q) ∙ e) }
  where
    by : (q : Sub) (l : Link) (b : Bool) → cond b None (link_on w0 q) ≡ Some l → key_at t l.id ≡ Some l.key
    by q l true e = none_some e
    by q l false e = h.keys q l e

-- where one is taken out, if there is one
pub awaited_without : (t : Table) (w0 w1 : Waits) (gone : Option Sub) → (gone ≡ None → w1 ≡ w0) → ((s : Sub) → gone ≡ Some s → (q : Sub) → link_on w1 q ≡ cond (is_name s q) None (link_on w0 q))
    → KeepsAwaited t w0 → KeepsAwaited t w1
awaited_without t w0 w1 None none some h = awaited_same t t w0 w1 (λ q. refl) (λ q. ap (λ w. link_on w q) (none refl)) h
awaited_without t w0 w1 (Some s) none some h = awaited_less t w0 w1 s (some s refl) h

-- where one is put in
pub awaited_more : (t : Table) (w0 w1 : Waits) (s : Sub) (l : Link) → key_at t l.id ≡ Some l.key → ((q : Sub) → link_on w1 q ≡ cond (is_name s q) (Some l) (link_on w0 q)) → KeepsAwaited t w0 → KeepsAwaited t w1
awaited_more t w0 w1 s l at put h = record { keys = λ q m e. by q m (is_name s q) (sym (put q) ∙ e) }
  where
    by : (q : Sub) (m : Link) (b : Bool) → cond b (Some l) (link_on w0 q) ≡ Some m → key_at t m.id ≡ Some m.key
    by q m true e = at_that (some_same e)
      where
        at_that : l ≡ m → key_at t m.id ≡ Some m.key
        at_that f = ap (λ (x : Link). key_at t x.id) (sym f) ∙ (at ∙ ap (λ (x : Link). Some x.key) f)
    by q m false e = h.keys q m e

-- where a surface is made
pub awaited_opened : (t0 t1 : Table) (w : Waits) (last : Bool) (id : SurfaceId) (key : ℕ) → (last ≡ false → key_at t0 id ≡ None)
    → ((q : SurfaceId) → key_at t1 q ≡ cond (not last && is_key id q) (Some key) (key_at t0 q)) → KeepsAwaited t0 w → KeepsAwaited t1 w
awaited_opened t0 t1 w last id key fresh keys h = record { keys = λ q l e. keys l.id ∙ by l (h.keys q l e) last refl (is_key id l.id) refl }
  where
    by : (l : Link) → key_at t0 l.id ≡ Some l.key → (t : Bool) → last ≡ t → (b : Bool) → is_key id l.id ≡ b → cond (not t && b) (Some key) (key_at t0 l.id) ≡ Some l.key
    by l e true f b g = e
    by l e false f true g = none_some (sym (ap (key_at t0) (sym (same_id id l.id g)) ∙ fresh f) ∙ e)
    by l e false f false g = e

-- where a surface goes, with what waits on it
pub awaited_gone : (t0 t1 : Table) (w0 w1 : Waits) (st : Stored) (id : SurfaceId) (gone : Option Sub) → KeepsStored st → FindsWaiting w0 st → gone ≡ waiting_on st id
    → ((q : SurfaceId) → key_at t1 q ≡ cond (is_key id q) None (key_at t0 q))
    → (gone ≡ None → w1 ≡ w0) → ((s : Sub) → gone ≡ Some s → (q : Sub) → link_on w1 q ≡ cond (is_name s q) None (link_on w0 q)) → KeepsAwaited t0 w0 → KeepsAwaited t1 w1
awaited_gone t0 t1 w0 w1 st id gone keeps finds is keys none some h =
    record {
      keys = λ q l e. keys l.id ∙ (ap (λ (b : Bool). cond b None (key_at t0 l.id)) (away q l e) ∙ (awaited_without t0 w0 w1 gone none some h).keys q l e);
    }
  where
    -- what a link leads to
    was : (q : Sub) (l : Link) → link_on w1 q ≡ Some l → (g : Option Sub) → gone ≡ g → link_on w0 q ≡ Some l
    was q l e None f = ap (λ w. link_on w q) (sym (none f)) ∙ e
    was q l e (Some s) f = by (is_name s q) (sym (some s f q) ∙ e)
      where
        by : (b : Bool) → cond b None (link_on w0 q) ≡ Some l → link_on w0 q ≡ Some l
        by true k = none_some k
        by false k = k

    -- is not the surface that goes
    away : (q : Sub) (l : Link) → link_on w1 q ≡ Some l → is_key id l.id ≡ false
    away q l e =
        let left = still_named st id w0 w1 gone q keeps finds is none (λ s f. ids_found w0 w1 s None (some s f)) (ap (λ (o : Option Link). is_some (option_map (λ (x : Link). x.id) o)) e) in
        let there : waits_on w0 (sub_of left.one) ≡ Some left.one.submitted.id = finds.found left.one left.there left.waits in
        let named : waits_on w0 (sub_of left.one) ≡ Some l.id = ap (waits_on w0) (same_names (sub_of left.one) q left.named) ∙ ap (option_map (λ (x : Link). x.id)) (was q l e gone refl) in
        let at : left.one.submitted.id ≡ l.id = some_same (sym there ∙ named) in
        never (is_key id l.id) (λ same. sym left.away ∙ (ap (λ i. same_surface i id) at ∙ (ap (λ i. same_surface i id) (sym (same_id id l.id same)) ∙ self_same id)))

-- where a submission is accepted
pub awaited_accepted : (t0 t1 t2 : Table) (w0 w1 w2 w3 : Waits) (last : Bool) (id : SurfaceId) (key vacant : ℕ) (sub : Sub) (gone : Option Sub)
    → ((q : SurfaceId) → key_at t1 q ≡ key_at t0 q) → w1.surfaces.entries ≡ w0.surfaces.entries → (last ≡ false → key_at t1 id ≡ None)
    → ((q : SurfaceId) → key_at t2 q ≡ cond (not last && is_key id q) (Some vacant) (key_at t1 q)) → key_at t2 id ≡ Some key
    → (gone ≡ None → w2 ≡ w1) → ((s : Sub) → gone ≡ Some s → (q : Sub) → link_on w2 q ≡ cond (is_name s q) None (link_on w1 q))
    → ((q : Sub) → link_on w3 q ≡ cond (is_name sub q) (Some (record { id = id; key = key })) (link_on w2 q)) → KeepsAwaited t0 w0 → KeepsAwaited t2 w3
awaited_accepted t0 t1 t2 w0 w1 w2 w3 last id key vacant sub gone keys names fresh opened at none some put h =
    awaited_more t2 w2 w3 sub (record { id = id; key = key }) at put
    (awaited_without t2 w1 w2 gone none some
    (awaited_opened t1 t2 w1 last id vacant fresh opened (awaited_same t0 t1 w0 w1 keys (λ q. ap (lookup (is_name q)) names) h)))
