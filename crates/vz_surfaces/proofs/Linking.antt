-- The links of groups have the keys of their surfaces, over the changes of a store.
use Rattle.std.proofs.Common.{arith, ◌≡◌, ℕ, Bool, true, false, not, ◌&&◌, inl, inr, Option, Some, None, List, [], ◌∷◌, ◌++◌, filter, refl, ap, sym, ◌∙◌, cond, subst, Contains}
use Rattle.std.proofs.lemmas.Bool.Decides.{nat_tests}
use Rattle.std.proofs.lemmas.List.{map-append}
use Rattle.std.proofs.lemmas.Bool.{and_parts}
use Rattle.vz_ids.specs.declared.SurfaceId.{SurfaceId}
use Rattle.vz_ids.specs.Ids.{same_surface, same_group}
use Rattle.vz_rules.specs.World.{Surface}
use Rattle.vz_rules.proofs.Reached.{self_same}
use Rattle.vz_rules.proofs.Members.{contains_push, contains_map, map_contains, filter_at}
use Rattle.vz_surfaces.specs.Stored.{Stored}
use Rattle.vz_surfaces.specs.declared.table.Table.{Table}
use Rattle.vz_surfaces.specs.declared.groups.Link.{Link}
use Rattle.vz_surfaces.specs.declared.groups.Groups.{Groups}
use Rattle.vz_surfaces.specs.Memory.{is_key, key_at}
use Rattle.vz_surfaces.specs.Chains.{is_group, links_at, ids_of, chain_at, KeepsGroups, KeepsLinks}
use Rattle.vz_surfaces.proofs.Others.{never}
use Rattle.vz_surfaces.proofs.Grouping.{group_is}
use Rattle.vz_surfaces.proofs.Lodging.{same_id, key_from}

-- What is told of links is told of their surfaces

module _ (old new : Groups) where
  pub chain_stays : ((q : SurfaceId) → links_at new q ≡ links_at old q) → (q : SurfaceId) → chain_at new q ≡ chain_at old q
  chain_stays same q = ap ids_of (same q)

  pub chain_more : (last : Bool) (l : Link) → ((q : SurfaceId) → links_at new q ≡ cond (not last && is_group l.id q) (links_at old q ++ l ∷ []) (links_at old q))
      → (q : SurfaceId) → chain_at new q ≡ cond (not last && is_group l.id q) (chain_at old q ++ l.id ∷ []) (chain_at old q)
  chain_more last l more q = grind (arith, nat_tests, map-append)

pub ids_filter : (p : SurfaceId → Bool) (links : List Link) → ids_of (filter (λ (l : Link). p l.id) links) ≡ filter p (ids_of links)
ids_filter p [] = refl
ids_filter p (l ∷ links) = grind (arith, nat_tests, ids_filter p links)

pub chain_less : (old new : Groups) (id : SurfaceId)
    → ((q : SurfaceId) → links_at new q ≡ cond (is_group id q) (filter (λ (l : Link). not (same_surface l.id id)) (links_at old q)) (links_at old q))
    → (q : SurfaceId) → chain_at new q ≡ cond (is_group id q) (filter (λ (x : SurfaceId). not (same_surface x id)) (chain_at old q)) (chain_at old q)
chain_less old new id less q = ap ids_of (less q) ∙ by (is_group id q)
  where
    by : (b : Bool) → ids_of (cond b (filter (λ (l : Link). not (same_surface l.id id)) (links_at old q)) (links_at old q)) ≡ cond b (filter (λ (x : SurfaceId). not (same_surface x id)) (chain_at old q)) (chain_at old q)
    by true = ids_filter (λ (x : SurfaceId). not (same_surface x id)) (links_at old q)
    by false = refl

-- Keys

none_some : {a : ℕ} → ◌≡◌ {A = Option ℕ} None (Some a) → ⊥
none_some e = absurd (cc)

pub links_same : (t0 t1 : Table) (g0 g1 : Groups) → ((q : SurfaceId) → key_at t1 q ≡ key_at t0 q) → ((q : SurfaceId) → links_at g1 q ≡ links_at g0 q) → KeepsLinks t0 g0 → KeepsLinks t1 g1
links_same t0 t1 g0 g1 keys links h = record { keys = λ q l c. keys l.id ∙ h.keys q l (subst (λ ls. Contains ls l) (links q) c) }

pub links_more : (t0 t1 : Table) (g0 g1 : Groups) (last : Bool) (id : SurfaceId) (key : ℕ) → (last ≡ false → key_at t0 id ≡ None)
    → ((q : SurfaceId) → key_at t1 q ≡ cond (not last && is_key id q) (Some key) (key_at t0 q))
    → ((q : SurfaceId) → links_at g1 q ≡ cond (not last && is_group id q) (links_at g0 q ++ record { id = id; key = key } ∷ []) (links_at g0 q)) → KeepsLinks t0 g0 → KeepsLinks t1 g1
links_more t0 t1 g0 g1 last id key fresh keys links h = record { keys = λ q l c. by q l last refl (is_group id q) (subst (λ ls. Contains ls l) (links q) c) }
  where
    old_by : (q : SurfaceId) (k : ℕ) (b : Bool) → is_key id q ≡ b → (last ≡ false → b ≡ true → key_at t0 q ≡ None) → key_at t0 q ≡ Some k → (t : Bool) → last ≡ t → cond (not t && b) (Some key) (key_at t0 q) ≡ Some k
    old_by q k b e none f true g = f
    old_by q k true e none f false g = absurd (none_some (sym (none g refl) ∙ f))
    old_by q k false e none f false g = f

    old : (l : Link) → key_at t0 l.id ≡ Some l.key → key_at t1 l.id ≡ Some l.key
    old l e = keys l.id ∙ old_by l.id l.key (is_key id l.id) refl (λ f same. ap (key_at t0) (sym (same_id id l.id same)) ∙ fresh f) e last refl

    one : (t : Bool) → t ≡ false → cond (not t && is_key id id) (Some key) (key_at t0 id) ≡ Some key
    one true e = absurd (cc)
    one false e = ap (λ (b : Bool). cond b (Some key) (key_at t0 id)) (key_from id id refl)

    by : (q : SurfaceId) (l : Link) (t : Bool) → last ≡ t → (b : Bool) → Contains (cond (not t && b) (links_at g0 q ++ record { id = id; key = key } ∷ []) (links_at g0 q)) l → key_at t1 l.id ≡ Some l.key
    by q l true e b c = old l (h.keys q l c)
    by q l false e false c = old l (h.keys q l c)
    by q l false e true c = elim (contains_push (links_at g0 q) (record { id = id; key = key }) l c) [
      | inl m ↦ old l (h.keys q l m)
      | inr same ↦ subst (λ (x : Link). key_at t1 x.id ≡ Some x.key) same (keys id ∙ one last e)
    ]

-- what is in a chain is of its group
pub chain_group : (g : Groups) (st : Stored) → KeepsGroups g st → (q x : SurfaceId) → Contains (chain_at g q) x → same_group x q ≡ true
chain_group g st h q x p =
    let test = λ (c : Surface). same_group c.id q && not c.destroyed in
    let m = contains_map (λ (c : Surface). c.id) (filter test st.surfaces) x (subst (λ l. Contains l x) (h.chain q) p) in
    let f = filter_at test st.surfaces m.0 m.1 in
    ap (λ i. same_group i q) (sym m.2) ∙ (and_parts (same_group m.0.id q) (not m.0.destroyed) f.1).0

pub links_less : (t0 t1 : Table) (g0 g1 : Groups) (st : Stored) (id : SurfaceId) → KeepsGroups g0 st → ((q : SurfaceId) → key_at t1 q ≡ cond (is_key id q) None (key_at t0 q))
    → ((q : SurfaceId) → links_at g1 q ≡ cond (is_group id q) (filter (λ (l : Link). not (same_surface l.id id)) (links_at g0 q)) (links_at g0 q)) → KeepsLinks t0 g0 → KeepsLinks t1 g1
links_less t0 t1 g0 g1 st id hg keys links h = record { keys = λ q l c. by q l (is_group id q) refl (subst (λ ls. Contains ls l) (links q) c) }
  where
    stays : (l : Link) → is_key id l.id ≡ false → key_at t0 l.id ≡ Some l.key → key_at t1 l.id ≡ Some l.key
    stays l away e = keys l.id ∙ (ap (λ (b : Bool). cond b None (key_at t0 l.id)) away ∙ e)

    by : (q : SurfaceId) (l : Link) (b : Bool) → is_group id q ≡ b → Contains (cond b (filter (λ (l : Link). not (same_surface l.id id)) (links_at g0 q)) (links_at g0 q)) l → key_at t1 l.id ≡ Some l.key
    by q l true e c =
        let f = filter_at (λ (l : Link). not (same_surface l.id id)) (links_at g0 q) l c in
        stays l (never (is_key id l.id) (λ same. sym (ap not (ap (λ x. same_surface x id) (sym (same_id id l.id same)) ∙ self_same id)) ∙ f.1)) (h.keys q l f.0)
    by q l false e c =
        stays l (never (is_key id l.id) (λ same.
        sym e ∙ (group_is id q ∙ (ap (λ x. same_group x q) (same_id id l.id same) ∙ chain_group g0 st hg q l.id (map_contains (λ (x : Link). x.id) (links_at g0 q) l c)))))
        (h.keys q l c)
