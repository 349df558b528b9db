-- One submission becomes active: what is found on surfaces, and what is named, after it.
use Rattle.std.proofs.Common.{◌≡◌, Bool, true, false, ◌&&◌, ◌||◌, ◌⊎◌, inl, inr, Option, Some, List, [], ◌∷◌, map, refl, ap, sym, ◌∙◌, subst, cond, Contains, is_some, arith}
use Rattle.std.specs.{Option.option_map, List.list_any}
use Rattle.std.proofs.lemmas.Bool.{and_parts, and_from, or_left, or_right, both_ways, or_cases as either}
use Rattle.vz_ids.specs.{declared.SurfaceId.SurfaceId, Ids.same_surface, Ids.same_sub}
use Rattle.vz_rules.specs.World.{World, Surface, Submission, FrameData, is_waiting, is_active, is_on, sub_of, active_frames, frame_on, exists, existing}
use Rattle.vz_rules.specs.{Settle.marked_by, Singly.as_one_rises, Singly.rising, Kept.KeepsAlways, Reach.names, Reach.is_named_now}
use Rattle.vz_rules.proofs.{Reached.from_same, Reached.self_same, Counts.one_place, Kept_facts.subs_apart, Rising.find_map, Kept_rounds.self_sub}
use Rattle.vz_rules.proofs.Members.{contains_here, contains_there, contains_none, contains_cases, contains_map, map_contains, contains_at, at_same, any_at, any_from, same_tests}
use Rattle.vz_surface_manager.specs.Kept_surfaces.{names_it}
pub use Rattle.vz_returns.proofs.Alive.{not_both as waits_inactive}
use Rattle.std.proofs.lemmas.Bool.Decides.{nat_tests}

-- Submissions

-- a submission of the same name is the same
pub one_sub : (w : World) (s t : Submission) → KeepsAlways w → Contains w.subs s → Contains w.subs t → same_sub (sub_of s) (sub_of t) ≡ true → s ≡ t
one_sub w s t h c d e = grind (arith, nat_tests, contains_at w.subs s c, contains_at w.subs t d, at_same w.subs, subs_apart w)

-- of a surface one at most waits
pub one_waits : (w : World) (s t : Submission) → KeepsAlways w → Contains w.subs s → Contains w.subs t → is_waiting s ≡ true → is_waiting t ≡ true
    → same_surface s.submitted.id t.submitted.id ≡ true → s ≡ t
one_waits w s t h c d e f same =
    let n = contains_at w.subs s c in
    let m = contains_at w.subs t d in
    let on : Submission → Bool = λ x. is_on t.submitted.id x && is_waiting x in
    at_same w.subs n.0 m.0 s t n.1 m.1
    (one_place on w.subs n.0 m.0 s t (h.states.one_waits t.submitted.id) n.1 m.1
    (and_from (is_on t.submitted.id s) (is_waiting s) same e) (and_from (is_on t.submitted.id t) (is_waiting t) (self_same t.submitted.id) f))

-- what a submission is as another one becomes active
pub data Rises (x t : Submission) (r : Submission) : Type 0 where
  IsIt : t ≡ x → is_active r ≡ true → is_waiting r ≡ false → r.submitted ≡ x.submitted → Rises x t r
  IsPast : is_active t ≡ true → is_on x.submitted.id t ≡ true → is_active r ≡ false → is_waiting r ≡ false → r.submitted ≡ t.submitted → Rises x t r
  Stays : (t ≡ x → ⊥) → (is_active t ≡ true → is_on x.submitted.id t ≡ false) → r ≡ t → Rises x t r

other : {x t : Submission} → t ≡ x → same_sub (sub_of t) (sub_of x) ≡ false → ⊥
other {x} {t} s e = absurd (both_ways (same_sub (sub_of t) (sub_of x)) e (ap (λ (y : Submission). same_sub (sub_of y) (sub_of x)) s ∙ self_sub (sub_of x)))

pub rises_by : (w : World) (x t : Submission) → KeepsAlways w → Contains w.subs x → Contains w.subs t → Rises x t (as_one_rises x t)
rises_by w x t h c d = grind (arith, nat_tests, one_sub w t x h d c, other, both_ways (is_active t))

-- Active frames

pub active_cons : (id : SurfaceId) (r : Submission) (ys : List Submission) → frame_on id (active_frames (r ∷ ys)) ≡ cond (is_active r && same_surface r.submitted.id id) (Some r.submitted) (frame_on id (active_frames ys))
active_cons id r ys = grind (arith, nat_tests)

abbrev pub seen_as : SurfaceId → Bool → FrameData → Option FrameData → Option FrameData
seen_as id b i rest = cond (b && same_surface i.id id) (Some i) rest

seen_active : (id : SurfaceId) (b : Bool) (i j : FrameData) (rest : Option FrameData) → b ≡ true → i ≡ j → seen_as id b i rest ≡ cond (same_surface j.id id) (Some j) rest
seen_active id b i j rest e f = ap (λ (t : Bool). seen_as id t i rest) e ∙ ap (λ (k : FrameData). cond (same_surface k.id id) (Some k) rest) f

pub seen_inactive : (id : SurfaceId) (b : Bool) (i : FrameData) (rest : Option FrameData) → b ≡ false → seen_as id b i rest ≡ rest
seen_inactive id b i rest e = ap (λ (t : Bool). seen_as id t i rest) e

pub seen_off : (id : SurfaceId) (b : Bool) (i : FrameData) (rest : Option FrameData) → (b ≡ true → same_surface i.id id ≡ false) → seen_as id b i rest ≡ rest
seen_off id b i rest f = grind (arith, nat_tests)

module _ (w : World) (x : Submission) (h : KeepsAlways w) (there : Contains w.subs x) (waits : is_waiting x ≡ true) where
  rises : (t : Submission) → Contains w.subs t → Rises x t (as_one_rises x t)
  rises t d = rises_by w x t h there d

  -- what the submission was as it rose
  pub risen_at : (r : Submission) → Contains (rising x w).subs r → (t : Submission) × Contains w.subs t × (as_one_rises x t ≡ r)
  unfolding rising
  risen_at r c = contains_map (as_one_rises x) w.subs r c

  -- another surface shows what it showed
  off_step : (id : SurfaceId) (t r : Submission) (a b : Option FrameData) → same_surface x.submitted.id id ≡ false → Rises x t r → a ≡ b
      → seen_as id (is_active r) r.submitted a ≡ seen_as id (is_active t) t.submitted b
  off_step id t r a b off (IsIt same acts rests is) e =
      let old : is_active t ≡ false = ap is_active same ∙ waits_inactive x waits in
      seen_active id (is_active r) r.submitted x.submitted a acts is
      ∙ (ap (λ (q : Bool). cond q (Some x.submitted) a) off ∙ (e ∙ sym (seen_inactive id (is_active t) t.submitted b old)))
  off_step id t r a b off (IsPast acts on gone rests is) e =
      let there : t.submitted.id ≡ x.submitted.id = from_same t.submitted.id x.submitted.id on in
      seen_inactive id (is_active r) r.submitted a gone
      ∙ (e ∙ sym (seen_off id (is_active t) t.submitted b (λ k. ap (λ (i : SurfaceId). same_surface i id) there ∙ off)))
  off_step id t r a b off (Stays apart clear is) e =
      ap (λ (s : Submission). seen_as id (is_active s) s.submitted a) is ∙ ap (seen_as id (is_active t) t.submitted) e

  frames_off : (id : SurfaceId) (ts : List Submission) → ((t : Submission) → Contains ts t → Contains w.subs t) → same_surface x.submitted.id id ≡ false
      → frame_on id (active_frames (map (as_one_rises x) ts)) ≡ frame_on id (active_frames ts)
  frames_off id [] in_subs off = refl
  frames_off id (t ∷ ts) in_subs off =
      active_cons id (as_one_rises x t) (map (as_one_rises x) ts)
      ∙ (off_step id t (as_one_rises x t) _ _ off (rises t (in_subs t (contains_here t ts))) (frames_off id ts (λ s c. in_subs s (contains_there t s ts c)) off)
      ∙ sym (active_cons id t ts))

  -- the surface on which it rises shows it
  on_step : (t r : Submission) (ts : List Submission) (a : Option FrameData) → Rises x t r → (t ≡ x) ⊎ Contains ts x → (Contains ts x → a ≡ Some x.submitted)
      → seen_as x.submitted.id (is_active r) r.submitted a ≡ Some x.submitted
  on_step t r ts a (IsIt same acts rests is) c rest = grind (arith, nat_tests, seen_active x.submitted.id (is_active r) r.submitted x.submitted a acts is, self_same x.submitted.id)
  on_step t r ts a (IsPast acts on gone rests is) (inl e) rest = absurd (both_ways (is_active t) (ap is_active e ∙ waits_inactive x waits) acts)
  on_step t r ts a (IsPast acts on gone rests is) (inr c) rest = seen_inactive x.submitted.id (is_active r) r.submitted a gone ∙ rest c
  on_step t r ts a (Stays apart clear is) (inl e) rest = absurd (apart e)
  on_step t r ts a (Stays apart clear is) (inr c) rest = grind (arith, nat_tests, seen_off x.submitted.id (is_active t) t.submitted a clear)

  frames_on : (ts : List Submission) → ((t : Submission) → Contains ts t → Contains w.subs t) → Contains ts x
      → frame_on x.submitted.id (active_frames (map (as_one_rises x) ts)) ≡ Some x.submitted
  frames_on [] in_subs c = absurd (contains_none x c)
  frames_on (t ∷ ts) in_subs c =
      active_cons x.submitted.id (as_one_rises x t) (map (as_one_rises x) ts)
      ∙ on_step t (as_one_rises x t) ts _ (rises t (in_subs t (contains_here t ts))) (contains_cases t x ts c) (λ d. frames_on ts (λ s e. in_subs s (contains_there t s ts e)) d)

  pub frame_risen : (id : SurfaceId) → frame_on id (active_frames (rising x w).subs) ≡ cond (same_surface x.submitted.id id) (Some x.submitted) (frame_on id (active_frames w.subs))
  unfolding rising
  frame_risen id = grind (arith, nat_tests, from_same x.submitted.id id, frames_on w.subs, frames_off id w.subs)

  -- Names

  stands_map : (id : SurfaceId) (o : Option Surface) (f : Surface → Surface) → is_some (option_map f o) ≡ is_some o
  stands_map id o f = grind (arith, nat_tests)

  -- the same surfaces exist
  pub exists_risen : (id : SurfaceId) → exists (rising x w) id ≡ exists w id
  unfolding rising
  exists_risen id = grind (arith, nat_tests, find_map, stands_map id (existing w id) (marked_by w.surfaces (x ∷ [])))

  abbrev names_now : World → SurfaceId → Submission → Bool
  names_now v id s = is_active s && exists v s.submitted.id && names_it id s

  names_parts : (v : World) (id : SurfaceId) (s : Submission) → names_now v id s ≡ true → (is_active s ≡ true) × (exists v s.submitted.id ≡ true) × (names_it id s ≡ true)
  names_parts v id s e = grind (arith, nat_tests, and_parts, and_parts (is_active s) (exists v s.submitted.id))

  names_from : (v : World) (id : SurfaceId) (s : Submission) → is_active s ≡ true → exists v s.submitted.id ≡ true → names_it id s ≡ true → names_now v id s ≡ true
  names_from v id s a e n = and_from (is_active s && exists v s.submitted.id) (names_it id s) (and_from (is_active s) (exists v s.submitted.id) a e) n

  stands : exists w x.submitted.id ≡ true
  stands = h.states.stand x there (or_left (is_waiting x) (is_active x) waits)

  module _ (id : SurfaceId) (noted : (t : Submission) → Contains w.subs t → is_active t ≡ true → is_on x.submitted.id t ≡ true → names_it id t ≡ false) where
    -- what names it afterwards did before, or is the one that rose
    from_new : (t r : Submission) → Contains w.subs t → Rises x t r → names_now (rising x w) id r ≡ true → (is_named_now w id || names_it id x) ≡ true
    unfolding is_named_now
    from_new t r c (IsIt same acts rests is) e =
        or_right (is_named_now w id) (names_it id x) (ap (λ (i : FrameData). list_any (names id) i.frame.metadata.references) (sym is) ∙ (names_parts (rising x w) id r e).2)
    from_new t r c (IsPast acts on gone rests is) e = absurd (both_ways (is_active r) gone (names_parts (rising x w) id r e).0)
    from_new t r c (Stays apart clear is) e =
        let parts = names_parts (rising x w) id r e in
        let acts : is_active t ≡ true = ap is_active (sym is) ∙ parts.0 in
        let old : exists w t.submitted.id ≡ true = ap (λ (s : Submission). exists w s.submitted.id) (sym is) ∙ (sym (exists_risen r.submitted.id) ∙ parts.1) in
        let names : names_it id t ≡ true = ap (names_it id) (sym is) ∙ parts.2 in
        or_left (is_named_now w id) (names_it id x) (any_from (names_now w id) w.subs t c (names_from w id t acts old names))

    -- what named it before still does
    from_old : (t r : Submission) → Contains w.subs t → Rises x t r → as_one_rises x t ≡ r → names_now w id t ≡ true → is_named_now (rising x w) id ≡ true
    unfolding is_named_now rising
    from_old t r c (IsIt same acts rests is) f e = absurd (both_ways (is_active t) (ap is_active same ∙ waits_inactive x waits) (names_parts w id t e).0)
    from_old t r c (IsPast acts on gone rests is) f e = absurd (both_ways (names_it id t) (noted t c acts on) (names_parts w id t e).2)
    from_old t r c (Stays apart clear is) f e =
        let parts = names_parts w id t e in
        any_from (names_now (rising x w) id) (map (as_one_rises x) w.subs) (as_one_rises x t) (map_contains (as_one_rises x) w.subs t c)
        (subst (λ (s : Submission). names_now (rising x w) id s ≡ true) (sym (f ∙ is)) (names_from (rising x w) id t parts.0 (exists_risen t.submitted.id ∙ parts.1) parts.2))

    from_it : (r : Submission) → Rises x x r → as_one_rises x x ≡ r → names_it id x ≡ true → is_named_now (rising x w) id ≡ true
    unfolding is_named_now rising
    from_it r (IsIt same acts rests is) f e =
        let there_now : exists (rising x w) r.submitted.id ≡ true = ap (λ (i : FrameData). exists (rising x w) i.id) is ∙ (exists_risen x.submitted.id ∙ stands) in
        let names : names_it id r ≡ true = ap (λ (i : FrameData). list_any (names id) i.frame.metadata.references) is ∙ e in
        any_from (names_now (rising x w) id) (map (as_one_rises x) w.subs) (as_one_rises x x) (map_contains (as_one_rises x) w.subs x there)
        (subst (λ (s : Submission). names_now (rising x w) id s ≡ true) (sym f) (names_from (rising x w) id r acts there_now names))
    from_it r (IsPast acts on gone rests is) f e = absurd (both_ways (is_active x) (waits_inactive x waits) acts)
    from_it r (Stays apart clear is) f e = absurd (apart refl)

    forth : is_named_now (rising x w) id ≡ true → (is_named_now w id || names_it id x) ≡ true
    unfolding is_named_now rising
    forth e =
        let m = any_at (names_now (rising x w) id) (map (as_one_rises x) w.subs) e in
        let t = contains_map (as_one_rises x) w.subs m.0 m.1 in
        from_new t.0 m.0 t.1 (subst (Rises x t.0) t.2 (rises t.0 t.1)) m.2

    named_before : is_named_now w id ≡ true → is_named_now (rising x w) id ≡ true
    unfolding is_named_now
    named_before e = let m = any_at (names_now w id) w.subs e in from_old m.0 (as_one_rises x m.0) m.1 (rises m.0 m.1) refl m.2

    pub named_risen : is_named_now (rising x w) id ≡ (is_named_now w id || names_it id x)
    named_risen = grind (arith, nat_tests, same_tests, forth, either, named_before, from_it)
