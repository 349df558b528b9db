-- What is set and what is temporary, as one submission becomes active.
use Rattle.std.proofs.Common.{◌≡◌, ◌+◌, Bool, true, false, not, ◌&&◌, ◌||◌, ◌⊎◌, Option, Some, List, [], ◌∷◌, filter, refl, ap, sym, ◌∙◌, subst, cond, Contains, nat_lt, arith}
use Rattle.std.specs.List.{list_any}
use Rattle.std.proofs.lemmas.Bool.{or_left, or_right, both_ways, false_from_ne_true as never}
use Rattle.vz_base.specs.declared.limits.TheConstants.{TEMPORARY_TICKS}
use Rattle.vz_ids.specs.{declared.SurfaceId.SurfaceId, declared.SurfaceRange.SurfaceRange, Ids.same_surface}
use Rattle.vz_rules.specs.World.{World, Surface, Submission, FrameData, is_waiting, is_active, is_on, active_frames, frame_on}
use Rattle.vz_rules.specs.{Reach.names, Reach.is_named_now, Reach.has_closed, Settle.marked_by, Settle.is_before, Singly.as_one_rises, Singly.rising}
use Rattle.vz_rules.specs.Kept.{KeepsAlways}
use Rattle.vz_rules.proofs.{Reached.from_same, Reached.self_same, Members.contains_map, Members.map_contains, Members.filter_at, Members.filter_has}
use Rattle.vz_refs.specs.Referring.{Temporary}
use Rattle.vz_refs.specs.Referring.{Referring, is_set, ranges_of, setting, unnamed, is_named_by}
use Rattle.vz_refs.specs.Meaning.{references_of}
use Rattle.vz_refs.proofs.Keeping.{set_ranges, set_has}
use Rattle.vz_surface_manager.specs.Kept_surfaces.{lasts, is_one, has_kept, names_it, AreNoted, IsKeptFor, AreKept}
use Rattle.vz_surface_manager.proofs.Set_owners.{own_setting}
use Rattle.vz_surface_manager.proofs.Risen_one.{Rises, IsIt, IsPast, Stays, rises_by, one_waits, frame_risen, named_risen}
use Rattle.std.proofs.lemmas.Bool.Decides.{nat_tests}

-- Lists

-- the frame of an active submission
pub frame_of : (subs : List Submission) (i : FrameData) → Contains (active_frames subs) i → (s : Submission) × Contains subs s × (is_active s ≡ true) × (s.submitted ≡ i)
frame_of subs i c =
    let m = contains_map (λ (s : Submission). s.submitted) (filter is_active subs) i c in
    let f = filter_at is_active subs m.0 m.1 in
    (m.0, f.0, f.1, m.2)

-- what is named is temporary no longer
pub kept_unnamed : (refs : List SurfaceRange) (kept : List Temporary) (id : SurfaceId) → has_kept (unnamed refs kept) id ≡ (has_kept kept id && not (is_named_by refs id))
unfolding unnamed
kept_unnamed refs [] id = refl
kept_unnamed refs (t ∷ kept) id = grind (arith, nat_tests, kept_unnamed refs kept id, from_same t.id id)

-- Surfaces

pub lasts_marked : (v : World) (c : Surface) (t : Bool) → lasts v (cond t (record c { marked = true }) c) ≡ lasts v c
unfolding lasts
lasts_marked v c t = grind (arith, nat_tests)

pub id_marked : (c : Surface) (t : Bool) → (cond t (record c { marked = true }) c).id ≡ c.id
id_marked c t = grind (arith, nat_tests)

born_marked : (c : Surface) (t : Bool) → (cond t (record c { marked = true }) c).born ≡ c.born
born_marked c t = grind (arith, nat_tests)

named_more : (d n m k cl y : Bool) → (((not d && not (n || (m || k))) && not cl) && y) ≡ ((((not d && not (n || m)) && not cl) && y) && not k)
named_more d n m k cl y = grind (arith, nat_tests)

module _ (w : World) (but : Option SurfaceId) (x : Submission) (r : Referring) (h : KeepsAlways w) (there : Contains w.subs x) (waits : is_waiting x ≡ true) (kept : AreKept w but r) where
  abbrev refs : List SurfaceRange
  refs = x.submitted.frame.metadata.references

  -- what the active one of its surface names is noted
  clear : (c : Surface) → Contains w.surfaces c → c.named ≡ false → c.destroyed ≡ false → is_one but c.id ≡ false
      → (t : Submission) → Contains w.subs t → is_active t ≡ true → is_on x.submitted.id t ≡ true → names_it c.id t ≡ false
  clear c m named stands apart t n acts on = grind (arith, nat_tests, never (names_it c.id t), both_ways c.named named, both_ways c.destroyed stands, both_ways (is_one but c.id) apart)

  lasts_step : (c : Surface) → Contains w.surfaces c → is_one but c.id ≡ false → (d : Bool) → c.destroyed ≡ d → (n : Bool) → c.named ≡ n
      → (((not d && not (n || is_named_now (rising x w) c.id)) && not (has_closed w c.client)) && nat_lt w.tick (c.born + TEMPORARY_TICKS))
      ≡ ((((not d && not (n || is_named_now w c.id)) && not (has_closed w c.client)) && nat_lt w.tick (c.born + TEMPORARY_TICKS)) && not (names_it c.id x))
  lasts_step c m apart true e n f = refl
  lasts_step c m apart false e true f = refl
  lasts_step c m apart false e false f = grind (arith, nat_tests, named_risen, clear, named_more)

  lasts_risen : (c : Surface) → Contains w.surfaces c → is_one but c.id ≡ false → lasts (rising x w) c ≡ (lasts w c && not (names_it c.id x))
  unfolding lasts rising
  lasts_risen c m apart = lasts_step c m apart c.destroyed refl c.named refl

  made_from : (c : Surface) → Contains (rising x w).surfaces c → (d : Surface) × Contains w.surfaces d × (marked_by w.surfaces (x ∷ []) d ≡ c)
  unfolding rising
  made_from c m = contains_map (marked_by w.surfaces (x ∷ [])) w.surfaces c m

  goes_in : (c : Surface) → Contains w.surfaces c → Contains (rising x w).surfaces (marked_by w.surfaces (x ∷ []) c)
  unfolding rising
  goes_in c m = map_contains (marked_by w.surfaces (x ∷ [])) w.surfaces c m

  abbrev is_marked : Surface → Bool
  is_marked c = list_any (is_before w.surfaces c) (x ∷ [])

  kept_risen : (c : Surface) → Contains (rising x w).surfaces c → is_one but c.id ≡ false → has_kept (unnamed refs r.temporary) c.id ≡ lasts (rising x w) c
  unfolding is_named_by
  kept_risen c m apart = grind (arith, nat_tests, made_from c m, id_marked, kept_unnamed, lasts_risen, lasts_marked (rising x w))

  fresh_risen : (c : Surface) → Contains (rising x w).surfaces c → is_one but c.id ≡ true → has_kept (unnamed refs r.temporary) c.id ≡ false
  fresh_risen c m one = grind (arith, nat_tests, made_from c m, id_marked, kept_unnamed)

  known_risen : (t : Temporary) → Contains (unnamed refs r.temporary) t → IsKeptFor (rising x w).surfaces t
  unfolding unnamed
  known_risen t m =
      let f = filter_at (λ (t : Temporary). not (is_named_by refs t.id)) r.temporary t m in
      let k = kept.known t f.0 in (
        marked_by w.surfaces (x ∷ []) k.0,
        goes_in k.0 k.1,
        id_marked k.0 (is_marked k.0) ∙ k.2,
        k.3 ∙ ap (λ n. n + TEMPORARY_TICKS) (sym (born_marked k.0 (is_marked k.0))),
      )

  subs_from : (t : Submission) → Contains (rising x w).subs t → (s : Submission) × Contains w.subs s × (as_one_rises x s ≡ t)
  unfolding rising
  subs_from t m = contains_map (as_one_rises x) w.subs t m

  rose : (s t : Submission) → Contains w.subs s → as_one_rises x s ≡ t → Rises x s t
  rose s t c e = subst (Rises x s) e (rises_by w x s h there c)

  -- what still waits did so before
  waited : (s t : Submission) → Rises x s t → is_waiting t ≡ true → t ≡ s
  waited s t (IsIt same acts rests is) e = absurd (both_ways (is_waiting t) rests e)
  waited s t (IsPast acts on gone rests is) e = absurd (both_ways (is_waiting t) rests e)
  waited s t (Stays apart off is) e = is

  abbrev Noted : Surface → Type 0
  Noted c = (c.named ≡ true) ⊎ (c.destroyed ≡ true) ⊎ (is_one but c.id ≡ true)

  noted_by : (s t u v : Submission) (c : Surface) → Contains w.surfaces c → Contains w.subs s → Contains w.subs u → Rises x s t → v ≡ u → is_active t ≡ true → is_waiting v ≡ true
      → same_surface t.submitted.id v.submitted.id ≡ true → names_it c.id t ≡ true → (u ≡ x → ⊥) → Noted c
  noted_by s t u v c m d n (IsIt same acts rests is) e a b on names other = grind (arith, nat_tests, one_waits w x u h there n waits)
  noted_by s t u v c m d n (IsPast acts on' gone rests is) e a b on names other = absurd (both_ways (is_active t) gone a)
  noted_by s t u v c m d n (Stays apart off is) e a b on names other = grind (arith, nat_tests)

  marked_noted : (c : Surface) (q : Bool) → Noted c → Noted (cond q (record c { marked = true }) c)
  marked_noted c q n = grind (arith, nat_tests)

  risen_waits : (u v : Submission) → Rises x u v → is_waiting v ≡ true → u ≡ x → ⊥
  risen_waits u v (IsIt same acts rests is) e s = both_ways (is_waiting v) rests e
  risen_waits u v (IsPast acts on gone rests is) e s = both_ways (is_waiting v) rests e
  risen_waits u v (Stays apart off is) e s = apart s

  noted_risen : AreNoted (rising x w) but
  noted_risen t v c p q m a b on names =
      let s = subs_from t p in
      let u = subs_from v q in
      let d = made_from c m in
      let id : c.id ≡ d.0.id = ap (λ (s : Surface). s.id) (sym d.2) ∙ id_marked d.0 (is_marked d.0) in
      let up = rose u.0 v u.1 u.2 in
      subst Noted d.2
      (marked_noted d.0 (is_marked d.0)
      (noted_by s.0 t u.0 v d.0 d.1 s.1 u.1 (rose s.0 t s.1 s.2) (waited u.0 v up b) a b on (ap (λ (i : SurfaceId). names_it i t) (sym id) ∙ names) (risen_waits u.0 v up b)))

  references_by : (t : Bool) (o : Option FrameData) → cond t refs (references_of o) ≡ references_of (cond t (Some x.submitted) o)
  references_by t o = grind (arith, nat_tests)

  sets_risen : (id : SurfaceId) → ranges_of (setting x.submitted.id refs r.sets) id ≡ references_of (frame_on id (active_frames (rising x w).subs))
  sets_risen id = grind (arith, nat_tests, set_ranges r.sets x.submitted.id id, references_by (same_surface x.submitted.id id) (frame_on id (active_frames w.subs)), frame_risen w x h there waits id)

  set_by : (s t : Submission) → Contains w.subs s → Rises x s t → is_active t ≡ true → is_set (setting x.submitted.id refs r.sets) t.submitted.id ≡ true
  set_by s t c (IsIt same acts rests is) a =
      ap (λ (i : FrameData). is_set (setting x.submitted.id refs r.sets) i.id) is
      ∙ (set_has r.sets x.submitted.id x.submitted.id refs ∙ or_left (same_surface x.submitted.id x.submitted.id) (is_set r.sets x.submitted.id) (self_same x.submitted.id))
  set_by s t c (IsPast acts on gone rests is) a = absurd (both_ways (is_active t) gone a)
  set_by s t c (Stays apart off is) a =
      let here : Contains (active_frames w.subs) t.submitted =
      map_contains (λ (z : Submission). z.submitted) (filter is_active w.subs) t (filter_has is_active w.subs t (subst (Contains w.subs) (sym is) c) a)
      in
      set_has r.sets x.submitted.id t.submitted.id refs
      ∙ or_right (same_surface x.submitted.id t.submitted.id) (is_set r.sets t.submitted.id) (kept.all_set t.submitted here)

  all_set_risen : (i : FrameData) → Contains (active_frames (rising x w).subs) i → is_set (setting x.submitted.id refs r.sets) i.id ≡ true
  all_set_risen i c =
      let t = frame_of (rising x w).subs i c in
      let s = subs_from t.0 t.1 in
      ap (λ (j : FrameData). is_set (setting x.submitted.id refs r.sets) j.id) (sym t.3) ∙ set_by s.0 t.0 s.1 (rose s.0 t.0 s.1 s.2) t.2

  pub kept_rising : AreKept (rising x w) but (record r { sets = setting x.submitted.id refs r.sets; temporary = unnamed refs r.temporary })
  kept_rising = grind (arith, nat_tests, sets_risen, own_setting x.submitted.id, all_set_risen, kept_risen, fresh_risen, known_risen, noted_risen)
