-- What a step adds to the accepted submissions, and which it may open.
use Rattle.std.proofs.Common.{◌≡◌, ℕ, ◌≤◌, ℤ, ◌≤ℤ◌, int_lt, Bool, true, false, not, ◌&&◌, ◌==◌, ◌⊎◌, inl, inr, Option, Some, None, List, [], ◌∷◌, ◌++◌, map, append-nil, refl, ap, sym, ◌∙◌, arith, cond, subst, Contains, count_by}
use Rattle.std.proofs.lemmas.Bool.{and_parts, not-true, cond_both}
use Rattle.std.proofs.lemmas.Int.{ints}
use Rattle.std.proofs.lemmas.List.{map-append}
use Rattle.vz_geom.specs.declared.Size.{Size}
use Rattle.vz_ids.specs.declared.LocalSurfaceId.{LocalSurfaceId}
use Rattle.vz_ids.specs.declared.SurfaceId.{SurfaceId}
use Rattle.vz_ids.specs.Ids.{same_local, same_surface}
use Rattle.vz_frame.specs.declared.frame.CompositorFrame.{CompositorFrame}
use Rattle.vz_frame.specs.Frame.{frame_size, same_size}
use Rattle.vz_rules.specs.Plan.{Plan}
use Rattle.vz_rules.specs.declared.entry.Event.{Event}
use Rattle.vz_rules.specs.World.{World, Client, FrameData, Surface, Submission, is_on, last_created}
use Rattle.vz_rules.specs.Messages.{Answer, is_last, has_other_size, id_of, new_submission, with_surface, replace_on, mark_of, accepted, client_answer}
use Rattle.vz_rules.specs.Step.{begin_answer, answer_to, step_in, presented_by, accepted_frames}
use Rattle.vz_rules.specs.Kept.{HasSize, KeepsAlways, is_open}
use Rattle.vz_rules.proofs.Members.{contains_push, contains_at, contains_cases, contains_none, push_contains, push_contains_last, find_at}
use Rattle.vz_rules.proofs.Counts.{count_at}
use Rattle.vz_rules.proofs.Reached.{from_same, self_same}
use Rattle.vz_rules.proofs.Kept_accepted.{replaces}
use Rattle.vz_rules.proofs.Kept_states.{open_before}
use Rattle.vz_rules.proofs.Kept_submits.{last_is_on}
use Rattle.vz_rules.proofs.Stays.{Stays, WasOpen, KeepsSize, frame_of, opens_same, opens_mapped, sizes_mapped, stays_after}
use Rattle.vz_rules.proofs.Facts.{same_when}
use Rattle.vz_rules.proofs.Cases.{DisplayCases, few_cases, answer_cases, not_refused}
use Rattle.vz_rules.proofs.Follow_ups.{frames_kept}

-- no submission on its surface has a greater number
abbrev pub IsLatest : List Submission → Submission → Type 0
IsLatest xs t = (s : Submission) → Contains xs s → same_surface s.submitted.id t.submitted.id ≡ true → s.submitted.index ≤ t.submitted.index

-- the second world has the accepted frames of the first and some more, whose surfaces have their sizes. What is open was open, or is the latest of its surface
pub record Goes (w v : World) : Type 0 where
  pub more : List FrameData
  pub active : accepted_frames v ≡ accepted_frames w ++ more
  pub opens : (t : Submission) → Contains v.subs t → is_open t ≡ true → WasOpen w.subs t ⊎ IsLatest w.subs t
  pub surfaces : (id : SurfaceId) (size : Size) → HasSize w.surfaces id size → HasSize v.surfaces id size
  pub sizes : (i : FrameData) → Contains more i → HasSize v.surfaces i.id (frame_size i.frame)

goes_then : (w v u : World) → Goes w v → Stays v u → Goes w u
goes_then w v u first second =
    let earlier = first.opens in
    record {
      more = first.more;
      active = second.active ∙ first.active;
      opens = λ t c o.
          let s = second.opens t c o in
          elim (earlier s.0 s.1 s.2) [
            | inl r ↦ inl (r.0, r.1, r.2, r.3 ∙ s.3)
            | inr latest ↦ inr (subst (λ (i : FrameData). (x : Submission) → Contains w.subs x → same_surface x.submitted.id i.id ≡ true → x.submitted.index ≤ i.index) s.3 latest)
          ];
      surfaces = λ id size h. second.surfaces id size (first.surfaces id size h);
      sizes = λ i c. second.surfaces i.id (frame_size i.frame) (first.sizes i c);
    }

-- where submissions stay, and surfaces keep their sizes
goes_sized : (w v : World) → v.subs ≡ w.subs → ((id : SurfaceId) (size : Size) → HasSize w.surfaces id size → HasSize v.surfaces id size) → Goes w v
goes_sized w v e sizes =
    record {
      more = [];
      active = ap (map frame_of) e ∙ sym (append-nil (accepted_frames w));
      opens = λ t c o. inl (opens_same w.subs t (subst (λ (l : List Submission). Contains l t) e c) o);
      surfaces = sizes;
      sizes = λ i c. absurd (contains_none i c);
    }

goes_same : (w v : World) → v.subs ≡ w.subs → v.surfaces ≡ w.surfaces → Goes w v
goes_same w v e f = goes_sized w v e (λ id size h. subst (λ (l : List Surface). HasSize l id size) (sym f) h)

-- A submission

not_below : (a b : ℤ) → not (int_lt a b) ≡ true → b ≤ℤ a
not_below a b h = let e : int_lt a b ≡ false = not-true (int_lt a b) h in grind (arith, ints)

sizes_equal : (a b : Size) → same_size a b ≡ true → a ≡ b
sizes_equal a b h =
    let three = and_parts (not (int_lt a.w b.w) && not (int_lt b.w a.w) && not (int_lt a.h b.h)) (not (int_lt b.h a.h)) h in
    let two = and_parts (not (int_lt a.w b.w) && not (int_lt b.w a.w)) (not (int_lt a.h b.h)) three.0 in
    let one = and_parts (not (int_lt a.w b.w)) (not (int_lt b.w a.w)) two.0 in
    let w : a.w ≡ b.w = omega (arith, ints, not_below a.w b.w one.0, not_below b.w a.w one.1) in
    let v : a.h ≡ b.h = omega (arith, ints, not_below a.h b.h two.1, not_below b.h a.h three.1) in
    ap (λ (x : ℤ). record { w = x; h = a.h }) w ∙ ap (λ (y : ℤ). record { w = b.w; h = y }) v

same_size_by : (a b : Bool) → (a && not b) ≡ false → a ≡ true → b ≡ true
same_size_by true true h e = refl
same_size_by _ _ h e = absurd (cc)

last_size : (w : World) (c : Client) (local : LocalSurfaceId) (frame : CompositorFrame) (o : Option Surface) → KeepsAlways w → Contains w.clients c
    → last_created w c.number ≡ o
    → has_other_size o local frame ≡ false → is_last o local ≡ true → HasSize w.surfaces (id_of c local) (frame_size frame)
last_size w c local frame None h p was size is = absurd (cc)
last_size w c local frame (Some last) h p was size is =
    let on = last_is_on w c local last h p was is in
    (last, on.0, from_same last.id (id_of c local) on.2, sizes_equal last.size (frame_size frame) (same_size_by (same_local last.id.local local) (same_size last.size (frame_size frame)) size is))

grown : (ss : List Surface) (new : Surface) (id : SurfaceId) (size : Size) → HasSize ss id size → HasSize (ss ++ new ∷ []) id size
grown ss new id size h = (h.0, push_contains ss new h.0 h.1, h.2, h.3)

-- the surfaces where a submission goes to the last one or makes one
sized_by : (t : Bool) (ss : List Surface) (new : Surface) (id : SurfaceId) (size : Size) → (t ≡ true → HasSize ss id size) → new.id ≡ id → new.size ≡ size
    → HasSize (cond t ss (ss ++ new ∷ [])) id size
sized_by true ss new id size last e f = last refl
sized_by false ss new id size last e f = (new, push_contains_last ss new, e, f)

new_index : (w : World) (c : Client) (local : LocalSurfaceId) (frame : CompositorFrame) → KeepsAlways w → IsLatest w.subs (new_submission w c local frame)
unfolding new_submission
new_index w c local frame h s p same =
    let n = contains_at w.subs s p in
    let id = from_same s.submitted.id (id_of c local) same in
    omega (
      arith,
      h.numbers.numbered n.0 s n.1,
      count_at (is_on s.submitted.id) w.subs n.0 s n.1 (self_same s.submitted.id),
      ap (λ x. count_by (is_on x) w.subs) id,
    )

new_sized : (w : World) (c : Client) (local : LocalSurfaceId) (frame : CompositorFrame) → KeepsAlways w → Contains w.clients c
    → has_other_size (last_created w c.number) local frame ≡ false
    → HasSize (with_surface w c local frame) (new_submission w c local frame).submitted.id (frame_size (new_submission w c local frame).submitted.frame)
unfolding with_surface new_submission
new_sized w c local frame h p size =
    sized_by (is_last (last_created w c.number) local) w.surfaces _ (id_of c local) (frame_size frame)
    (last_size w c local frame (last_created w c.number) h p refl size) refl refl

new_size : (w : World) (c : Client) (local : LocalSurfaceId) (frame : CompositorFrame) → KeepsAlways w → Contains w.clients c
    → has_other_size (last_created w c.number) local frame ≡ false
    → (i : FrameData) → Contains ((new_submission w c local frame).submitted ∷ []) i → HasSize (with_surface w c local frame) i.id (frame_size i.frame)
new_size w c local frame h p size i q =
    elim (contains_cases (new_submission w c local frame).submitted i [] q) [
      | inl e ↦ subst (λ (j : FrameData). HasSize (with_surface w c local frame) j.id (frame_size j.frame)) e (new_sized w c local frame h p size)
      | inr m ↦ absurd (contains_none i m)
    ]

goes_accepted : (w : World) (c : Client) (local : LocalSurfaceId) (frame : CompositorFrame) → KeepsAlways w → Contains w.clients c
    → has_other_size (last_created w c.number) local frame ≡ false
    → Goes w (accepted w c local frame).world
unfolding accepted with_surface
goes_accepted w c local frame h p size =
    let id = id_of c local in
    let new = new_submission w c local frame in
    let f = replace_on id in
    let is = is_last (last_created w c.number) local in
    record {
      more = new.submitted ∷ [];
      active = map-append frame_of (map f w.subs) (new ∷ []) ∙ ap (λ (l : List FrameData). l ++ new.submitted ∷ []) (frames_kept f w.subs (replaces id).submitted);
      opens = λ t q o. elim (contains_push (map f w.subs) new t q) [
        | inl m ↦ inl (opens_mapped f (replaces id).submitted (open_before f (replaces id)) w.subs t m o)
        | inr e ↦ inr (subst (IsLatest w.subs) e (new_index w c local frame h))
      ];
      surfaces = λ i s k. cond_both is w.surfaces _ (λ l. HasSize l i s) (λ e. k) (λ e. grown w.surfaces _ i s k);
      sizes = λ i q. new_size w c local frame h p size i q;
    }

-- A client's message

abbrev Gone : World → Answer → Type 0
Gone w a = Goes w a.world

mark_size : (c : ℕ) → KeepsSize (mark_of c)
mark_size c = record { id = λ s. same_when (λ (x : Surface). x.id) (s.client == c) _ s refl; size = λ s. same_when (λ (x : Surface). x.size) (s.client == c) _ s refl }

goes_client : (p : Plan) (w : World) (n : ℕ) → KeepsAlways w → Gone w (client_answer p w n)
goes_client p w n h =
    few_cases p w n (Gone w) (record {
      others = λ r a b clients root relations. goes_same w _ refl refl;
      submitted = λ c e number local frame good at.
          goes_accepted w c local frame h (find_at (λ (x : Client). x.number == n) w.clients c e).0 (not_refused (last_created w c.number) c.resources local frame good).3;
      left = λ c clients. goes_sized w _ refl (sizes_mapped (mark_of c.number) (mark_size c.number) w.surfaces);
    })

-- A step

goes_display : (p : Plan) (w : World) → DisplayCases p w (λ e a. Gone w a)
unfolding begin_answer
goes_display p w = record { begins = goes_same w _ refl refl; draws = λ r a last flight. goes_same w _ refl refl; dones = λ r a flight. goes_same w _ refl refl; overs = goes_same w _ refl refl }

pub goes_step : (p : Plan) (w : World) (e : Event) → KeepsAlways w → Goes w (step_in p w e).world
unfolding step_in
goes_step p w e h = goes_then w (answer_to p w e).world (step_in p w e).world (answer_cases p w (λ d a. Gone w a) (λ n. goes_client p w n h) (goes_display p w) e) (stays_after (presented_by w e) (answer_to p w e))
