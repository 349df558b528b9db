-- The surfaces of a group are a chain, and what a range shows is the one that all others in it are older than.
use Rattle.std.proofs.Common.{◌≡◌, Bool, true, false, not, ◌&&◌, ◌==◌, ◌⊎◌, inl, inr, Option, Some, None, List, filter, refl, ap, sym, ◌∙◌, arith, subst, Contains}
use Rattle.std.proofs.lemmas.Bool.{and_parts, and_from, or_left, or_right, eqb-true, eq-eqb, ltb-true}
use Rattle.vz_ids.specs.declared.SurfaceId.{SurfaceId}
use Rattle.vz_ids.specs.declared.SurfaceRange.{SurfaceRange}
use Rattle.vz_ids.specs.Ids.{same_sink, same_surface, same_group, is_raised, newer, at_least}
use Rattle.vz_rules.specs.World.{World, Client, Surface, FrameData, Submission, active_frames}
use Rattle.vz_rules.specs.Scene.{newest, in_range, after_start, or_else, shown_frame, shown}
use Rattle.vz_rules.specs.Kept.{KeepsAlways, KeepsClients, KeepsSurfaces}
use Rattle.vz_rules.proofs.Reached.{from_same_sink, self_same, self_same_sink}
use Rattle.vz_rules.proofs.Members.{contains_none, filter_at, filter_has, filter_none}
use Rattle.vz_rules.proofs.Kept_last.{one_owner}
use Rattle.vz_rules.proofs.Kept_newest.{rank, ByRank, none_at_all, newest_is, in_line, grouped, in_group, group_ranks}
use Rattle.vz_rules.proofs.Kept_once.{on_created}

-- Chains

at_least_from : (a b : SurfaceId) → a.sink ≡ b.sink → a.local.token.0 ≡ b.local.token.0 → is_raised b.local a.local ≡ true → at_least a b ≡ true
at_least_from a b sink token on =
    or_right (same_surface a b) (same_sink a.sink b.sink && newer a.local b.local)
    (and_from (same_sink a.sink b.sink) (newer a.local b.local) (ap (λ x. same_sink x b.sink) sink ∙ self_same_sink b.sink)
    (and_from (a.local.token.0 == b.local.token.0) (is_raised b.local a.local) (eq-eqb a.local.token.0 b.local.token.0 token) on))

chain_by : (cs : List Client) (ss : List Surface) (s t : Surface) → KeepsClients cs → KeepsSurfaces cs ss → Contains ss s → Contains ss t
    → same_group s.id t.id ≡ true
    → (at_least s.id t.id ≡ true) ⊎ (at_least t.id s.id ≡ true)
chain_by cs ss s t hc hs p q e =
    let both = and_parts (same_sink s.id.sink t.id.sink) (s.id.local.token.0 == t.id.local.token.0) e in
    let sink = from_same_sink s.id.sink t.id.sink both.0 in
    let token = eqb-true s.id.local.token.0 t.id.local.token.0 both.1 in
    elim (in_line cs ss s t hs p q (one_owner cs ss s t hc hs p q sink)) [
      | inl l ↦ inr (at_least_from t.id s.id (sym sink) (sym token) l)
      | inr r ↦ elim r [
        | inl l ↦ inl (at_least_from s.id t.id sink token l)
        | inr l ↦ inl (or_left (same_surface s.id t.id) _ (ap (λ (x : Surface). same_surface s.id x.id) (sym l) ∙ self_same s.id))
      ]
    ]

-- of two surfaces of one group one is the other or newer
pub groups_are_chains : (w : World) (s t : Surface) → KeepsAlways w → Contains w.surfaces s → Contains w.surfaces t → same_group s.id t.id ≡ true
    → (at_least s.id t.id ≡ true) ⊎ (at_least t.id s.id ≡ true)
groups_are_chains w s t h p q e = chain_by w.clients w.surfaces s t h.clients h.surfaces p q e

-- and so of the surfaces of two submissions
pub subs_are_chains : (w : World) (s t : Submission) → KeepsAlways w → Contains w.subs s → Contains w.subs t → same_group s.submitted.id t.submitted.id ≡ true
    → (at_least s.submitted.id t.submitted.id ≡ true) ⊎ (at_least t.submitted.id s.submitted.id ≡ true)
subs_are_chains w s t h p q e =
    let a = h.numbers.created s p in
    let b = h.numbers.created t q in
    let group : same_group a.0.id b.0.id ≡ true = ap (λ i. same_group i b.0.id) a.2 ∙ (ap (λ i. same_group s.submitted.id i) b.2 ∙ e) in
    elim (groups_are_chains w a.0 b.0 h a.1 b.1 group) [
      | inl l ↦ inl (ap (λ i. at_least i t.submitted.id) (sym a.2) ∙ (ap (λ i. at_least a.0.id i) (sym b.2) ∙ l))
      | inr l ↦ inr (ap (λ i. at_least i s.submitted.id) (sym b.2) ∙ (ap (λ i. at_least b.0.id i) (sym a.2) ∙ l))
    ]

-- The newest

-- the one that is newer than all others is the newest
newest_by : (xs : List FrameData) (o : Option FrameData) (i : FrameData) → newest xs ≡ o → ByRank xs → Contains xs i
    → ((j : FrameData) → Contains xs j → (j ≡ i) ⊎ (newer i.id.local j.id.local ≡ true)) → o ≡ Some i
newest_by xs None i e ranks c h = absurd (contains_none i (subst (λ l. Contains l i) (none_at_all xs e) c))
newest_by xs (Some j) i e ranks c h =
    let is = newest_is xs j ranks e in
    elim (h j is.0) [
      | inl s ↦ ap (λ z. Some z) s
      | inr l ↦ absurd (omega (arith, ltb-true (rank j) (rank i) (sym (ranks i j c is.0) ∙ l), is.1 i c))
    ]

-- it is the only one like that in a test that stays in one group
newest_in : (w : World) (id : SurfaceId) (p : FrameData → Bool) (i : FrameData) → KeepsAlways w
    → ((k : FrameData) → p k ≡ true → (k.id.sink ≡ id.sink) × (k.id.local.token.0 ≡ id.local.token.0)) → Contains (active_frames w.subs) i → p i ≡ true
    → ((j : FrameData) → Contains (active_frames w.subs) j → p j ≡ true → (j ≡ i) ⊎ (newer i.id.local j.id.local ≡ true))
    → newest (filter p (active_frames w.subs)) ≡ Some i
newest_in w id p i h group c e others =
    let active = active_frames w.subs in
    newest_by (filter p active) (newest (filter p active)) i refl (group_ranks w.clients w.surfaces id p active h.clients h.surfaces (on_created w h) group)
    (filter_has p active i c e) (λ j m. let f = filter_at p active j m in others j f.0 f.1)

shows_frame : (o : Option FrameData) (i : FrameData) → o ≡ Some i → ◌≡◌ {A = Option SurfaceId} (elim o [ Some k ↦ Some k.id | None ↦ None ]) (Some i.id)
shows_frame o i e = ap (λ (p : Option FrameData). elim p as (λ p. Option SurfaceId) [ Some k ↦ Some k.id | None ↦ None ]) e

-- a range shows the newest at its end or older
pub shows_first : (w : World) (range : SurfaceRange) (i : FrameData) → KeepsAlways w → Contains (active_frames w.subs) i → in_range range i ≡ true
    → ((j : FrameData) → Contains (active_frames w.subs) j → in_range range j ≡ true → (j ≡ i) ⊎ (newer i.id.local j.id.local ≡ true)) → shown w range ≡ Some i.id
unfolding shown shown_frame
shows_first w range i h c e others =
    shows_frame _ i (ap (λ o. or_else o (newest (filter (after_start range.start range.end) (active_frames w.subs)))) (newest_in w range.end (in_range range) i h (in_group range) c e others))

started : (start : Option SurfaceId) (end : SurfaceId) (i k : FrameData) → after_start start end i ≡ true → after_start start end k ≡ true
    → (k.id.sink ≡ i.id.sink) × (k.id.local.token.0 ≡ i.id.local.token.0)
started None end i k e f = absurd (cc)
started (Some start) end i k e f =
    let a = grouped i.id start (and_parts (not (same_group start end)) (at_least i.id start) e).1 in
    let b = grouped k.id start (and_parts (not (same_group start end)) (at_least k.id start) f).1 in
    (b.0 ∙ sym a.0, b.1 ∙ sym a.1)

-- where there is none, the newest at its start or newer
pub shows_second : (w : World) (range : SurfaceRange) (i : FrameData) → KeepsAlways w → ((j : FrameData) → Contains (active_frames w.subs) j → in_range range j ≡ false)
    → Contains (active_frames w.subs) i → after_start range.start range.end i ≡ true
    → ((j : FrameData) → Contains (active_frames w.subs) j → after_start range.start range.end j ≡ true → (j ≡ i) ⊎ (newer i.id.local j.id.local ≡ true))
    → shown w range ≡ Some i.id
unfolding shown shown_frame
shows_second w range i h none c e others =
    let p = after_start range.start range.end in
    shows_frame _ i
    (ap (λ l. or_else (newest l) (newest (filter p (active_frames w.subs)))) (filter_none (in_range range) (active_frames w.subs) none)
    ∙ newest_in w i.id p i h (λ k f. started range.start range.end i k e f) c e others)

-- and else none
pub shows_none : (w : World) (range : SurfaceRange) → ((j : FrameData) → Contains (active_frames w.subs) j → in_range range j ≡ false)
    → ((j : FrameData) → Contains (active_frames w.subs) j → after_start range.start range.end j ≡ false) → shown w range ≡ None
unfolding shown shown_frame
shows_none w range none neither =
    ap (λ (o : Option FrameData). elim o as (λ o. Option SurfaceId) [ Some k ↦ Some k.id | None ↦ None ])
    (ap (λ l. or_else (newest l) (newest (filter (after_start range.start range.end) (active_frames w.subs)))) (filter_none (in_range range) (active_frames w.subs) none)
    ∙ ap newest (filter_none (after_start range.start range.end) (active_frames w.subs) neither))
