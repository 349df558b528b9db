-- Groups have the surfaces that exist, and what was ever active, over the changes of a store.
use Rattle.std.proofs.Common.{arith, ◌≡◌, ℕ, Bool, true, false, not, ◌&&◌, ◌||◌, ◌==◌, ◌⊎◌, inl, inr, rules, Option, Some, None, List, [], ◌∷◌, ◌++◌, map, filter, refl, ap, sym, ◌∙◌, cond, subst, Contains, append-nil}
use Rattle.std.proofs.lemmas.Bool.Decides.{nat_tests}
use Rattle.std.specs.List.{list_any}
use Rattle.std.proofs.lemmas.List.{map-append}
use Rattle.std.proofs.lemmas.List.Elements.{filter-append}
use Rattle.std.proofs.lemmas.List.Folds.{list_any-append}
use Rattle.std.proofs.lemmas.Bool.{and_parts, and_from, or_cases, or_left, or_right, both_ways, eq-eqb, eqb-true}
use Rattle.vz_ids.specs.declared.FrameSinkId.{FrameSinkId}
use Rattle.vz_ids.specs.declared.LocalSurfaceId.{LocalSurfaceId}
use Rattle.vz_ids.specs.declared.SurfaceId.{SurfaceId}
use Rattle.vz_ids.specs.Ids.{same_sink, same_surface, same_group, same_sub, is_raised, newer, at_least}
use Rattle.vz_pixels.specs.Block.{Block}
use Rattle.vz_frame.specs.declared.frame.CompositorFrame.{CompositorFrame}
use Rattle.vz_rules.specs.declared.entry.State.TheVariants.{Active, Past, Dropped}
use Rattle.vz_rules.specs.World.{Surface, FrameData, Submission, is_waiting, is_active, is_on, sub_of}
use Rattle.vz_rules.specs.Settle.{is_before, marked_by}
use Rattle.vz_rules.specs.Messages.{is_last, violates, replace_on}
use Rattle.vz_rules.specs.Singly.{as_one_rises}
use Rattle.vz_rules.specs.Kept.{last_in}
use Rattle.vz_rules.proofs.Reached.{from_same, from_same_sink, self_same, self_same_sink}
use Rattle.vz_rules.proofs.Members.{when_same, same_tests, contains_here, contains_there, contains_none, contains_push, push_contains, contains_map, map_contains, contains_at, filter_at, any_at, any_from, any_map}
use Rattle.vz_rules.proofs.Kept_last.{one_owner, raised_from_all}
use Rattle.vz_rules.proofs.Kept_newest.{in_line}
use Rattle.vz_surfaces.specs.Stored.{Stored, surface_of, new_surface, waiting_with, accepted_as, storing, raising, marking, ended_at, dropped_at, destroying}
use Rattle.vz_surfaces.specs.Reading.{was_reached}
use Rattle.vz_surfaces.specs.Keeping.{KeepsStored}
use Rattle.vz_surfaces.specs.Memory.{IsSinkOf}
use Rattle.vz_surfaces.specs.declared.groups.Groups.{Groups}
use Rattle.vz_surfaces.specs.Chains.{is_group, chain_at, newest_at, reaches, newer_local, is_newer_id, IsRising, KeepsGroups}
use Rattle.vz_ids.proofs.Ages.{at_least_is, at_least_trans}
use Rattle.vz_surfaces.proofs.Telling.{read_same, filter_all}
use Rattle.vz_surfaces.proofs.Others.{never}
use Rattle.vz_surfaces.proofs.Accepting.{replaces_on}
use Rattle.vz_surfaces.proofs.Raising.{Waits_in, rises_on, one_is}
use Rattle.vz_surfaces.proofs.Destroying.{drops_on}
use Rattle.vz_surfaces.proofs.Following.{self_sub}

pub group_is : (a b : SurfaceId) → is_group a b ≡ same_group a b
group_is a b = search rules

-- Rising lists

pub rising_more : (xs : List SurfaceId) (y : SurfaceId) → IsRising xs → ((x : SurfaceId) → Contains xs x → is_newer_id y x ≡ true) → IsRising (xs ++ y ∷ [])
unfolding IsRising
rising_more [] y h new = ((λ z c. absurd (contains_none z c)), tt)
rising_more (x ∷ xs) y h new = (
  (λ z c. elim (contains_push xs y z c) [
    | inl m ↦ h.0 z m
    | inr e ↦ subst (λ w. is_newer_id w x ≡ true) e (new x (contains_here x xs))
  ]),
  rising_more xs y h.1 (λ w c. new w (contains_there x w xs c)),
)

pub rising_less : (p : SurfaceId → Bool) (xs : List SurfaceId) → IsRising xs → IsRising (filter p xs)
unfolding IsRising
rising_less p [] h = tt
rising_less p (x ∷ xs) h =
    elim (p x) as (λ (t : Bool). IsRising (cond t (x ∷ filter p xs) (filter p xs))) [
      | true ↦ ((λ z c. h.0 z (filter_at p xs z c).0), rising_less p xs h.1)
      | false ↦ rising_less p xs h.1
    ]

-- Groups of ids

pub same_groups : (a b : SurfaceId) → same_group a b ≡ true → (a.sink ≡ b.sink) × (a.local.token.0 ≡ b.local.token.0)
same_groups a b e = grind (arith, nat_tests, and_parts (same_sink a.sink b.sink), from_same_sink a.sink b.sink, eqb-true a.local.token.0 b.local.token.0)

pub group_from : (a b : SurfaceId) → a.sink ≡ b.sink → a.local.token.0 ≡ b.local.token.0 → same_group a b ≡ true
group_from a b e f = and_from (same_sink a.sink b.sink) (a.local.token.0 == b.local.token.0) (ap (λ x. same_sink x b.sink) e ∙ self_same_sink b.sink) (eq-eqb a.local.token.0 b.local.token.0 f)

pub reach_group : (a b : SurfaceId) → at_least a b ≡ true → same_group a b ≡ true
reach_group a b e = grind (arith, nat_tests, at_least_is a b e, group_from a b)

-- the surfaces of a group that exist
abbrev pub chain_of : SurfaceId → List Surface → List SurfaceId
chain_of q ss = map (λ (c : Surface). c.id) (filter (λ (c : Surface). same_group c.id q && not c.destroyed) ss)

-- groups that read alike
pub groups_alike : (old new : Groups) (st : Stored) → ((q : SurfaceId) → chain_at new q ≡ chain_at old q) → ((q : SurfaceId) → newest_at new q ≡ newest_at old q) → KeepsGroups old st → KeepsGroups new st
groups_alike old new st chain newest h = grind (arith, nat_tests)

-- Accepting

module _ (st : Stored) (c : ℕ) (sink : FrameSinkId) (local : LocalSurfaceId) (frame : CompositorFrame) (blocks : List Block) where
  abbrev id_new : SurfaceId
  id_new = surface_of sink local

  abbrev new_one : Surface
  new_one = new_surface c id_new frame st.surfaces

  chain_by : (t : Bool) (q : SurfaceId) → chain_of q (cond t st.surfaces (st.surfaces ++ new_one ∷ [])) ≡ cond (not t && same_group id_new q) (chain_of q st.surfaces ++ id_new ∷ []) (chain_of q st.surfaces)
  chain_by true q = refl
  chain_by false q =
      ap (map (λ (c : Surface). c.id)) (filter-append (λ (c : Surface). same_group c.id q && not c.destroyed) st.surfaces (new_one ∷ [])) ∙ by (same_group id_new q)
    where
      by : (b : Bool) → map (λ (c : Surface). c.id) (filter (λ (c : Surface). same_group c.id q && not c.destroyed) st.surfaces ++ cond (b && true) (new_one ∷ []) [])
          ≡ cond b (chain_of q st.surfaces ++ id_new ∷ []) (chain_of q st.surfaces)
      by true = map-append (λ (c : Surface). c.id) (filter (λ (c : Surface). same_group c.id q && not c.destroyed) st.surfaces) (new_one ∷ [])
      by false = ap (map (λ (c : Surface). c.id)) (append-nil (filter (λ (c : Surface). same_group c.id q && not c.destroyed) st.surfaces))

  or_none : (a : Bool) → (a || false) ≡ a
  or_none true = refl
  or_none false = refl

  reached_by : (d : SurfaceId) → was_reached (storing c sink local frame blocks st) d ≡ was_reached st d
  unfolding was_reached storing
  reached_by d =
      let p = λ (s : Submission). s.was_active && at_least s.submitted.id d in
      list_any-append p (map (replace_on id_new) st.subs) (waiting_with (accepted_as c id_new frame blocks st.subs) ∷ [])
      ∙ (or_none (list_any p (map (replace_on id_new) st.subs))
      ∙ any_map (replace_on id_new) p p st.subs (λ s. when_same p (λ s. record s { state = Dropped }) (is_waiting s && is_on id_new s) s refl))

  newer_all : KeepsStored st → IsSinkOf c sink st → violates (last_in st.surfaces c) local ≡ false → is_last (last_in st.surfaces c) local ≡ false
      → (q x : SurfaceId) → same_group id_new q ≡ true → Contains (chain_of q st.surfaces) x → is_newer_id id_new x ≡ true
  newer_all keeps of v l q x g p =
      let m = contains_map (λ (c : Surface). c.id) (filter (λ (c : Surface). same_group c.id q && not c.destroyed) st.surfaces) x p in
      let f = filter_at (λ (c : Surface). same_group c.id q && not c.destroyed) st.surfaces m.0 m.1 in
      let in_q = same_groups m.0.id q (and_parts (same_group m.0.id q) (not m.0.destroyed) f.1).0 in
      let here = same_groups id_new q g in
      let n = contains_at st.surfaces m.0 f.0 in
      let on = raised_from_all keeps.clients st.surfaces c local (last_in st.surfaces c) keeps.surfaces refl v l n.0 m.0 n.1 (of.alone m.0 f.0 (in_q.0 ∙ sym here.0)) in
      subst (λ y. is_newer_id id_new y ≡ true) m.2
      (and_from (same_sink sink m.0.id.sink) (newer local m.0.id.local) (ap (same_sink sink) (in_q.0 ∙ sym here.0) ∙ self_same_sink sink)
      (and_from (local.token.0 == m.0.id.local.token.0) (is_raised m.0.id.local local) (eq-eqb local.token.0 m.0.id.local.token.0 (here.1 ∙ sym in_q.1)) on))

  pub stored_groups : (old new : Groups) (last : Bool) → KeepsStored st → IsSinkOf c sink st → violates (last_in st.surfaces c) local ≡ false → last ≡ is_last (last_in st.surfaces c) local
      → KeepsGroups old st → ((q : SurfaceId) → chain_at new q ≡ cond (not last && is_group id_new q) (chain_at old q ++ id_new ∷ []) (chain_at old q)) → ((q : SurfaceId) → newest_at new q ≡ newest_at old q)
      → KeepsGroups new (storing c sink local frame blocks st)
  unfolding storing
  stored_groups old new last keeps of v at h chain newest =
      record {
        chain = λ q. chain q
            ∙ (ap (λ b. cond (not last && b) (chain_at old q ++ id_new ∷ []) (chain_at old q)) (group_is id_new q)
            ∙ (ap (λ b. cond (not b && same_group id_new q) (chain_at old q ++ id_new ∷ []) (chain_at old q)) at
            ∙ (ap (λ l. cond (not (is_last (last_in st.surfaces c) local) && same_group id_new q) (l ++ id_new ∷ []) l) (h.chain q) ∙ sym (chain_by (is_last (last_in st.surfaces c) local) q))));
        rising = λ q. subst IsRising (sym (chain q)) (rises q last at (same_group id_new q) refl);
        reached = λ d. ap (λ o. reaches o d) (newest d) ∙ (h.reached d ∙ sym (reached_by d));
        made = λ d l e.
            let m = h.made d l (sym (newest d) ∙ e) in (
              replace_on id_new m.0,
              push_contains (map (replace_on id_new) st.subs) (waiting_with (accepted_as c id_new frame blocks st.subs)) (replace_on id_new m.0) (map_contains (replace_on id_new) st.subs m.0 m.1),
              ap (λ (i : FrameData). i.id) ((replaces_on id_new st.subs).submitted m.0 m.1) ∙ m.2,
              m.3,
            );
      }
    where
      rises : (q : SurfaceId) (t : Bool) → t ≡ is_last (last_in st.surfaces c) local → (b : Bool) → same_group id_new q ≡ b
          → IsRising (cond (not t && is_group id_new q) (chain_at old q ++ id_new ∷ []) (chain_at old q))
      rises q true e b f = h.rising q
      rises q false e true f =
          subst (λ (x : Bool). IsRising (cond x (chain_at old q ++ id_new ∷ []) (chain_at old q))) (sym (group_is id_new q ∙ f))
          (rising_more (chain_at old q) id_new (h.rising q) (λ x p. newer_all keeps of v (sym e) q x f (subst (λ l. Contains l x) (h.chain q) p)))
      rises q false e false f = subst (λ (x : Bool). IsRising (cond x (chain_at old q ++ id_new ∷ []) (chain_at old q))) (sym (group_is id_new q ∙ f)) (h.rising q)

-- Becoming active

-- the newer of two reaches what one of them reaches
newer_reaches : (d : SurfaceId) (local m : LocalSurfaceId) (t : Bool) → newer local m ≡ t
    → (t ≡ false → at_least (record { sink = d.sink; local = m }) (record { sink = d.sink; local = local }) ≡ true)
    → reaches (cond t (Some local) (Some m)) d ≡ (at_least (record { sink = d.sink; local = m }) d || at_least (record { sink = d.sink; local = local }) d)
newer_reaches d local m true e older =
    let x : SurfaceId = record { sink = d.sink; local = local } in
    let y : SurfaceId = record { sink = d.sink; local = m } in
    same_tests (at_least x d) (at_least y d || at_least x d) (λ f. or_right (at_least y d) (at_least x d) f) (λ f.
    elim (or_cases (at_least y d) (at_least x d) f) [
      | inl g ↦ at_least_trans x y d (or_right (same_surface x y) (same_sink x.sink y.sink && newer local m) (and_from (same_sink d.sink d.sink) (newer local m) (self_same_sink d.sink) e)) g
      | inr g ↦ g
    ])
newer_reaches d local m false e older =
    let x : SurfaceId = record { sink = d.sink; local = local } in
    let y : SurfaceId = record { sink = d.sink; local = m } in
    same_tests (at_least y d) (at_least y d || at_least x d) (λ f. or_left (at_least y d) (at_least x d) f) (λ f.
    elim (or_cases (at_least y d) (at_least x d) f) [ inl g ↦ g | inr g ↦ at_least_trans y x d (older refl) g ])

-- the newer of two is one of them
newer_is_one : (local l : LocalSurfaceId) (o : Option LocalSurfaceId) → newer_local local o ≡ Some l → (local ≡ l) ⊎ (o ≡ Some l)
unfolding newer_local
newer_is_one local l None e = inl (cc)
newer_is_one local l (Some m) e = grind (arith, nat_tests)

module _ (st : Stored) (x : Submission) (keeps : KeepsStored st) (in_it : Waits_in st x) where
  abbrev id_at : SurfaceId
  id_at = x.submitted.id

  abbrev rise : Submission → Submission
  rise = as_one_rises x

  rise_was : (one past : Bool) (t : Submission) → (cond one (record t { state = Active; was_active = true }) (cond past (record t { state = Past }) t)).was_active ≡ (one || t.was_active)
  rise_was true past t = refl
  rise_was false true t = refl
  rise_was false false t = refl

  was_of : (t : Submission) → (rise t).was_active ≡ (same_sub (sub_of t) (sub_of x) || t.was_active)
  was_of t = rise_was (same_sub (sub_of t) (sub_of x)) (is_active t && is_on id_at t) t

  reached_then : (d : SurfaceId) → was_reached (raising x st) d ≡ (was_reached st d || at_least id_at d)
  unfolding was_reached raising
  reached_then d =
      let p = λ (s : Submission). s.was_active && at_least s.submitted.id d in
      same_tests (list_any p (map rise st.subs)) (list_any p st.subs || at_least id_at d)
      (λ e.
      let m = any_at p (map rise st.subs) e in
      let t = contains_map rise st.subs m.0 m.1 in
      let both = and_parts m.0.was_active (at_least m.0.submitted.id d) m.2 in
      let at : at_least t.0.submitted.id d ≡ true = ap (λ (i : FrameData). at_least i.id d) (sym ((rises_on st x keeps in_it).submitted t.0 t.1) ∙ ap (λ (s : Submission). s.submitted) t.2) ∙ both.1 in
      elim (or_cases (same_sub (sub_of t.0) (sub_of x)) t.0.was_active (sym (was_of t.0) ∙ (ap (λ (s : Submission). s.was_active) t.2 ∙ both.0))) [
        | inl f ↦ or_right (list_any p st.subs) (at_least id_at d) (ap (λ (s : Submission). at_least s.submitted.id d) (sym (one_is st x keeps in_it t.0 t.1 f)) ∙ at)
        | inr f ↦ or_left (list_any p st.subs) (at_least id_at d) (any_from p st.subs t.0 t.1 (and_from t.0.was_active (at_least t.0.submitted.id d) f at))
      ])
      (λ e. elim (or_cases (list_any p st.subs) (at_least id_at d) e) [
        | inl f ↦
            let m = any_at p st.subs f in
            let both = and_parts m.0.was_active (at_least m.0.submitted.id d) m.2 in
            any_from p (map rise st.subs) (rise m.0) (map_contains rise st.subs m.0 m.1)
            (and_from (rise m.0).was_active (at_least (rise m.0).submitted.id d) (was_of m.0 ∙ or_right (same_sub (sub_of m.0) (sub_of x)) m.0.was_active both.0)
            (ap (λ (i : FrameData). at_least i.id d) ((rises_on st x keeps in_it).submitted m.0 m.1) ∙ both.1))
        | inr f ↦ any_from p (map rise st.subs) (rise x) (map_contains rise st.subs x in_it.there)
            (and_from (rise x).was_active (at_least (rise x).submitted.id d) (was_of x ∙ or_left (same_sub (sub_of x) (sub_of x)) x.was_active (self_sub (sub_of x)))
            (ap (λ (i : FrameData). at_least i.id d) ((rises_on st x keeps in_it).submitted x in_it.there) ∙ f))
      ])

  -- of two of a group the one that is not newer is older or the same
  older_by : (d : SurfaceId) (s : Submission) (m : LocalSurfaceId) → Contains st.subs s → s.submitted.id ≡ record { sink = d.sink; local = m } → m.token.0 ≡ d.local.token.0
      → same_group id_at d ≡ true → newer id_at.local m ≡ false → at_least (record { sink = d.sink; local = m }) (record { sink = d.sink; local = id_at.local }) ≡ true
  older_by d s m p named token g e =
      let a = keeps.numbers.created s p in
      let b = keeps.numbers.created x in_it.there in
      let here = same_groups id_at d g in
      let left : a.0.id ≡ record { sink = d.sink; local = m } = a.2 ∙ named in
      let u : SurfaceId = record { sink = d.sink; local = m } in
      let v : SurfaceId = record { sink = d.sink; local = id_at.local } in
      let owner = one_owner keeps.clients st.surfaces a.0 b.0 keeps.sinks keeps.surfaces a.1 b.1 (ap (λ (i : SurfaceId). i.sink) left ∙ (sym here.0 ∙ ap (λ (i : SurfaceId). i.sink) (sym b.2))) in
      elim (in_line keeps.clients st.surfaces a.0 b.0 keeps.surfaces a.1 b.1 owner) [
        | inl on ↦
            let up : newer id_at.local m ≡ true =
            and_from (id_at.local.token.0 == m.token.0) (is_raised m id_at.local) (eq-eqb id_at.local.token.0 m.token.0 (here.1 ∙ sym token))
            (ap (λ (i : SurfaceId). is_raised i.local id_at.local) (sym left) ∙ (ap (λ (i : SurfaceId). is_raised a.0.id.local i.local) (sym b.2) ∙ on)) in
            absurd (both_ways (newer id_at.local m) e up)
        | inr r ↦ elim r [
          | inl on ↦ or_right (same_surface u v) (same_sink u.sink v.sink && newer m id_at.local)
              (and_from (same_sink d.sink d.sink) (newer m id_at.local) (self_same_sink d.sink)
              (and_from (m.token.0 == id_at.local.token.0) (is_raised id_at.local m) (eq-eqb m.token.0 id_at.local.token.0 (token ∙ sym here.1))
              (ap (λ (i : SurfaceId). is_raised i.local m) (sym b.2) ∙ (ap (λ (i : SurfaceId). is_raised b.0.id.local i.local) (sym left) ∙ on))))
          | inr same ↦
              let one : m ≡ id_at.local = ap (λ (i : SurfaceId). i.local) (sym left ∙ (ap (λ (c : Surface). c.id) same ∙ b.2)) in
              or_left (same_surface u v) (same_sink u.sink v.sink && newer m id_at.local) (ap (λ (l : LocalSurfaceId). same_surface (record { sink = d.sink; local = l }) v) one ∙ self_same v)
        ]
      ]

  at_this : (d : SurfaceId) → same_group id_at d ≡ true → at_least (record { sink = d.sink; local = id_at.local }) d ≡ at_least id_at d
  at_this d g = ap (λ (s : FrameSinkId). at_least (record { sink = s; local = id_at.local }) d) (sym (same_groups id_at d g).0)

  newest_then : (old : Groups) (d : SurfaceId) → KeepsGroups old st → same_group id_at d ≡ true → reaches (newer_local id_at.local (newest_at old d)) d ≡ (reaches (newest_at old d) d || at_least id_at d)
  unfolding newer_local
  newest_then old d h g = by (newest_at old d) refl
    where
      by : (o : Option LocalSurfaceId) → newest_at old d ≡ o → reaches (newer_local id_at.local o) d ≡ (reaches o d || at_least id_at d)
      by None e = at_this d g
      by (Some m) e =
          let made = h.made d m e in
          newer_reaches d id_at.local m (newer id_at.local m) refl (λ f. older_by d made.0 m made.1 made.2 made.3 g f)
          ∙ ap (λ b. at_least (record { sink = d.sink; local = m }) d || b) (at_this d g)

  marks_same : (q : SurfaceId) → chain_of q (map (marked_by st.surfaces (x ∷ [])) st.surfaces) ≡ chain_of q st.surfaces
  marks_same q =
      let marks = λ (c : Surface). record c { marked = true } in
      read_same (marked_by st.surfaces (x ∷ [])) (λ (c : Surface). c.id) (λ (c : Surface). same_group c.id q && not c.destroyed) st.surfaces
      (λ c. when_same (λ (y : Surface). y.id) marks (list_any (is_before st.surfaces c) (x ∷ [])) c refl)
      (λ c. when_same (λ (y : Surface). same_group y.id q && not y.destroyed) marks (list_any (is_before st.surfaces c) (x ∷ [])) c refl)

  or_false : (a b : Bool) → b ≡ false → (a || b) ≡ a
  or_false true b e = refl
  or_false false b e = e

  pub raised_groups : (old new : Groups) → KeepsGroups old st → ((q : SurfaceId) → chain_at new q ≡ chain_at old q)
      → ((q : SurfaceId) → newest_at new q ≡ cond (is_group id_at q) (newer_local id_at.local (newest_at old q)) (newest_at old q)) → KeepsGroups new (raising x st)
  unfolding raising
  raised_groups old new h chain newest =
      record {
        chain = λ q. chain q ∙ (h.chain q ∙ sym (marks_same q));
        rising = λ q. subst IsRising (sym (chain q)) (h.rising q);
        reached = λ d. ap (λ o. reaches o d) (newest d ∙ ap (λ (b : Bool). cond b (newer_local id_at.local (newest_at old d)) (newest_at old d)) (group_is id_at d)) ∙ (by d (same_group id_at d) refl ∙ sym (reached_then d));
        made = λ d l e. has d l (same_group id_at d) refl (sym (newest d ∙ ap (λ (b : Bool). cond b (newer_local id_at.local (newest_at old d)) (newest_at old d)) (group_is id_at d)) ∙ e);
      }
    where
      by : (d : SurfaceId) (b : Bool) → same_group id_at d ≡ b → reaches (cond b (newer_local id_at.local (newest_at old d)) (newest_at old d)) d ≡ (was_reached st d || at_least id_at d)
      by d true g = newest_then old d h g ∙ ap (λ b. b || at_least id_at d) (h.reached d)
      by d false g = h.reached d ∙ sym (or_false (was_reached st d) (at_least id_at d) (never (at_least id_at d) (λ e. sym g ∙ reach_group id_at d e)))

      kept : (d : SurfaceId) (l : LocalSurfaceId) → newest_at old d ≡ Some l → (s : Submission) × Contains (map rise st.subs) s × (s.submitted.id ≡ record { sink = d.sink; local = l }) × (l.token.0 ≡ d.local.token.0)
      kept d l e =
          let m = h.made d l e in
          (rise m.0, map_contains rise st.subs m.0 m.1, ap (λ (i : FrameData). i.id) ((rises_on st x keeps in_it).submitted m.0 m.1) ∙ m.2, m.3)

      this : (d : SurfaceId) (l : LocalSurfaceId) → same_group id_at d ≡ true → id_at.local ≡ l → (s : Submission) × Contains (map rise st.subs) s × (s.submitted.id ≡ record { sink = d.sink; local = l }) × (l.token.0 ≡ d.local.token.0)
      this d l g e =
          let here = same_groups id_at d g in (
            rise x,
            map_contains rise st.subs x in_it.there,
            ap (λ (i : FrameData). i.id) ((rises_on st x keeps in_it).submitted x in_it.there) ∙ (λ i. record { sink = here.0 i; local = e i }),
            ap (λ (l : LocalSurfaceId). l.token.0) (sym e) ∙ here.1,
          )

      has : (d : SurfaceId) (l : LocalSurfaceId) (b : Bool) → same_group id_at d ≡ b → cond b (newer_local id_at.local (newest_at old d)) (newest_at old d) ≡ Some l
          → (s : Submission) × Contains (map rise st.subs) s × (s.submitted.id ≡ record { sink = d.sink; local = l }) × (l.token.0 ≡ d.local.token.0)
      has d l true g e = elim (newer_is_one id_at.local l (newest_at old d) e) [ inl f ↦ this d l g f | inr f ↦ kept d l f ]
      has d l false g e = kept d l e

-- Marking and destroying

pub marked_groups : (c : ℕ) (st : Stored) (g : Groups) → KeepsGroups g st → KeepsGroups g (marking c st)
unfolding marking was_reached
marked_groups c st g h = grind (arith, nat_tests, read_same, when_same)

one_ends : (id q : SurfaceId) (c : Surface) (rest : List Surface) (same in_q : Bool) → same_surface c.id id ≡ same → same_group c.id q ≡ in_q
    → map (λ (c : Surface). c.id) (cond (same_group (cond same (record c { destroyed = true }) c).id q && not (cond same (record c { destroyed = true }) c).destroyed) (cond same (record c { destroyed = true }) c ∷ rest) rest)
    ≡ cond (in_q && not c.destroyed) (cond (not same) (c.id ∷ map (λ (c : Surface). c.id) rest) (map (λ (c : Surface). c.id) rest)) (map (λ (c : Surface). c.id) rest)
one_ends id q c rest true in_q e f = grind (arith, nat_tests)
one_ends id q c rest false in_q e f = grind (arith, nat_tests)

one_filtered : (x : SurfaceId) (rest : List SurfaceId) (p : SurfaceId → Bool) (b : Bool) → filter p (cond b (x ∷ rest) rest) ≡ cond b (cond (p x) (x ∷ filter p rest) (filter p rest)) (filter p rest)
one_filtered x rest p true = refl
one_filtered x rest p false = refl

ids_cond : (b : Bool) (c : Surface) (rest : List Surface) → map (λ (c : Surface). c.id) (cond b (c ∷ rest) rest) ≡ cond b (c.id ∷ map (λ (c : Surface). c.id) rest) (map (λ (c : Surface). c.id) rest)
ids_cond true c rest = refl
ids_cond false c rest = refl

-- one surface goes from its group
ends_chain : (id q : SurfaceId) (ss : List Surface) → chain_of q (map (ended_at id) ss) ≡ filter (λ (x : SurfaceId). not (same_surface x id)) (chain_of q ss)
ends_chain id q [] = refl
ends_chain id q (c ∷ ss) =
    let p = λ (x : SurfaceId). not (same_surface x id) in
    one_ends id q c (filter (λ (c : Surface). same_group c.id q && not c.destroyed) (map (ended_at id) ss)) (same_surface c.id id) (same_group c.id q) refl refl
    ∙ (ap (λ l. cond (same_group c.id q && not c.destroyed) (cond (not (same_surface c.id id)) (c.id ∷ l) l) l) (ends_chain id q ss)
    ∙ sym (ap (filter p) (ids_cond (same_group c.id q && not c.destroyed) c (filter (λ (c : Surface). same_group c.id q && not c.destroyed) ss))
    ∙ one_filtered c.id (chain_of q ss) p (same_group c.id q && not c.destroyed)))

pub gone_groups : (id : SurfaceId) (st : Stored) (old new : Groups) → KeepsGroups old st
    → ((q : SurfaceId) → chain_at new q ≡ cond (is_group id q) (filter (λ (x : SurfaceId). not (same_surface x id)) (chain_at old q)) (chain_at old q)) → ((q : SurfaceId) → newest_at new q ≡ newest_at old q)
    → KeepsGroups new (destroying id st)
unfolding destroying was_reached
gone_groups id st old new h chain newest =
    record {
      chain = λ q. gone q ∙ (ap (filter (λ (x : SurfaceId). not (same_surface x id))) (h.chain q) ∙ sym (ends_chain id q st.surfaces));
      rising = λ q. subst IsRising (sym (gone q)) (rising_less (λ (x : SurfaceId). not (same_surface x id)) (chain_at old q) (h.rising q));
      reached = λ d.
          let p = λ (s : Submission). s.was_active && at_least s.submitted.id d in
          ap (λ o. reaches o d) (newest d)
          ∙ (h.reached d ∙ sym (any_map (dropped_at id) p p st.subs (λ s. when_same p (λ s. record s { state = Dropped }) ((is_waiting s || is_active s) && is_on id s) s refl)));
      made = λ d l e.
          let m = h.made d l (sym (newest d) ∙ e) in
          (dropped_at id m.0, map_contains (dropped_at id) st.subs m.0 m.1, ap (λ (i : FrameData). i.id) ((drops_on id st.subs).submitted m.0 m.1) ∙ m.2, m.3);
    }
  where
    -- in another group none is the one
    gone_by : (q : SurfaceId) (b : Bool) → same_group id q ≡ b → cond b (filter (λ (x : SurfaceId). not (same_surface x id)) (chain_at old q)) (chain_at old q) ≡ filter (λ (x : SurfaceId). not (same_surface x id)) (chain_at old q)
    gone_by q true g = refl
    gone_by q false g =
        sym (filter_all (λ (x : SurfaceId). not (same_surface x id)) (chain_at old q) (λ x p.
        let m = contains_map (λ (c : Surface). c.id) (filter (λ (c : Surface). same_group c.id q && not c.destroyed) st.surfaces) x (subst (λ l. Contains l x) (h.chain q) p) in
        let f = filter_at (λ (c : Surface). same_group c.id q && not c.destroyed) st.surfaces m.0 m.1 in
        let on : same_group x q ≡ true = ap (λ i. same_group i q) (sym m.2) ∙ (and_parts (same_group m.0.id q) (not m.0.destroyed) f.1).0 in
        ap not (never (same_surface x id) (λ e. sym g ∙ (ap (λ i. same_group i q) (sym (from_same x id e)) ∙ on)))))

    gone : (q : SurfaceId) → chain_at new q ≡ filter (λ (x : SurfaceId). not (same_surface x id)) (chain_at old q)
    gone q = chain q ∙ (ap (λ (b : Bool). cond b (filter (λ (x : SurfaceId). not (same_surface x id)) (chain_at old q)) (chain_at old q)) (group_is id q) ∙ gone_by q (same_group id q) refl)
