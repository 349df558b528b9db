-- What is kept, as a submission is accepted that may create a surface.
use Rattle.std.proofs.Common.{◌≡◌, ℕ, ◌+◌, Bool, true, false, ◌&&◌, ◌||◌, ◌==◌, ◌⊎◌, inl, inr, Some, None, [], ◌∷◌, ◌++◌, map, count_by, refl, ap, sym, ◌∙◌, subst, cond, Contains, nat_lt, nat_le, arith}
use Rattle.std.specs.List.{list_any}
use Rattle.std.proofs.lemmas.Bool.{and_parts, and_from, or_right, or_cases, both_ways, ltb-true}
use Rattle.vz_ids.specs.{declared.LocalSurfaceId.LocalSurfaceId, declared.SurfaceId.SurfaceId, Ids.same_surface, Ids.is_raised}
use Rattle.vz_frame.specs.{declared.frame.CompositorFrame.CompositorFrame, Frame.frame_size}
use Rattle.vz_rules.specs.World.{World, Client, Surface, Submission, FrameData, is_waiting, is_active, active_frames, frame_on, last_created}
use Rattle.vz_rules.specs.{Reach.names, Reach.is_named_now, Reach.has_closed, Kept.Keeps, Kept.KeepsAlways, Kept.stands_in}
use Rattle.vz_rules.specs.Messages.{accepted, id_of, is_last, violates, replace_on, new_submission, with_surface}
use Rattle.vz_rules.proofs.{Reached.from_same, Reached.self_same, Kept_reach.AllNamed, Kept_reach.named_after}
use Rattle.vz_rules.proofs.Members.{contains_map, contains_push, push_contains, contains_at, any_at, any_from}
use Rattle.vz_rules.proofs.{Kept_worlds.stands_at, Kept_worlds.stands_from, Kept_last.raised_from_all, Kept_last.one_client}
use Rattle.vz_refs.specs.Referring.{Temporary}
use Rattle.vz_refs.specs.Referring.{Referring}
use Rattle.vz_refs.specs.Meaning.{references_of}
use Rattle.vz_surface_manager.specs.Kept_surfaces.{lasts, is_one, has_kept, names_it, AreNoted, IsKeptFor, AreKept}
use Rattle.vz_surface_manager.proofs.Accepted_kept.{same_named, stands_active, replaced_state, replaced_same, frames_accepted}
use Rattle.vz_surface_manager.proofs.{Sets_kept.lasts_by, Quiet_changes.same_closed, Quiet_changes.closes_submitting, Set_owners.never}
use Rattle.std.proofs.lemmas.Bool.Decides.{nat_tests}

pub raises_none : (a : LocalSurfaceId) → is_raised a a ≡ true → ⊥
raises_none a h =
    let on = and_parts (nat_le a.parent a.parent && nat_le a.child a.child) (nat_lt a.parent a.parent || nat_lt a.child a.child) h in
    elim (or_cases (nat_lt a.parent a.parent) (nat_lt a.child a.child) on.1) [
      | inl l ↦ omega (arith, ltb-true a.parent a.parent l)
      | inr l ↦ omega (arith, ltb-true a.child a.child l)
    ]

-- what is named now by an active submission was named
pub noted_all : (w : World) (s : Submission) (c : Surface) → KeepsAlways w → AllNamed w → Contains w.subs s → is_active s ≡ true → Contains w.surfaces c → names_it c.id s ≡ true
    → (c.named ≡ true) ⊎ (c.destroyed ≡ true)
unfolding is_named_now
noted_all w s c h all p a m n = by c.destroyed refl
  where
    by : (d : Bool) → c.destroyed ≡ d → (c.named ≡ true) ⊎ (c.destroyed ≡ true)
    by true e = inr e
    by false e =
        let stands : stands_in w.surfaces s.submitted.id ≡ true = h.states.stand s p (or_right (is_waiting s) (is_active s) a) in
        inl (all c m e (any_from (λ (x : Submission). is_active x && stands_in w.surfaces x.submitted.id && list_any (names c.id) x.submitted.frame.metadata.references) w.subs s p
        (and_from (is_active s && stands_in w.surfaces s.submitted.id) (names_it c.id s) (and_from (is_active s) (stands_in w.surfaces s.submitted.id) a stands) n)))

module _ (w : World) (c : Client) (local : LocalSurfaceId) (frame : CompositorFrame) (r : Referring) (keeps : Keeps w) (there : Contains w.clients c) (h : AreKept w None r) where
  abbrev after : World
  after = (accepted w c local frame).world

  abbrev id : SurfaceId
  id = id_of c local

  new_waits : is_active (new_submission w c local frame) ≡ false
  unfolding new_submission
  new_waits = refl

  frames_after : active_frames after.subs ≡ active_frames w.subs
  unfolding accepted
  frames_after = frames_accepted id (new_submission w c local frame) w.subs new_waits

  closed_after : (q : ℕ) → has_closed after q ≡ has_closed w q
  unfolding accepted
  closed_after = same_closed _ w after refl (closes_submitting w frame c.number)

  tick_after : after.tick ≡ w.tick
  unfolding accepted
  tick_after = refl

  -- what is active was so before
  was_active : (s : Submission) → Contains after.subs s → is_active s ≡ true → (t : Submission) × Contains w.subs t × (is_active t ≡ true) × (t.submitted ≡ s.submitted)
  unfolding accepted
  was_active s p a =
      elim (contains_push (map (replace_on id) w.subs) (new_submission w c local frame) s p) [
        | inl m ↦ let t = contains_map (replace_on id) w.subs s m in
            (t.0, t.1, sym (replaced_state id t.0) ∙ (ap is_active t.2 ∙ a), sym (replaced_same id t.0) ∙ ap (λ (x : Submission). x.submitted) t.2)
        | inr e ↦ absurd (both_ways (is_active s) (ap is_active (sym e) ∙ new_waits) a)
      ]

  all_named : AllNamed w
  all_named = subst AllNamed keeps.all_named (named_after w)

  noted_old : (s : Submission) (x : Surface) → Contains after.subs s → is_active s ≡ true → Contains w.surfaces x → names_it x.id s ≡ true → (x.named ≡ true) ⊎ (x.destroyed ≡ true)
  noted_old s x p a m n =
      let t = was_active s p a in
      noted_all w t.0 x keeps.always all_named t.1 t.2 m (ap (λ (i : FrameData). list_any (names x.id) i.frame.metadata.references) t.3 ∙ n)

  sets_after : (q : SurfaceId) → references_of (frame_on q (active_frames w.subs)) ≡ references_of (frame_on q (active_frames after.subs))
  sets_after q = ap (λ l. references_of (frame_on q l)) (sym frames_after)

  -- the surface that is created
  abbrev made : Surface
  made =
      record {
        client = c.number;
        number = count_by (λ (s : Surface). s.client == c.number) w.surfaces + 1;
        id = id;
        size = frame_size frame;
        born = w.tick;
        named = false;
        marked = false;
        destroyed = false;
      }

  module _ (last : is_last (last_created w c.number) local ≡ true) where
    same_surfaces : after.surfaces ≡ w.surfaces
    unfolding accepted with_surface
    same_surfaces = ap (λ t. cond t w.surfaces (w.surfaces ++ made ∷ [])) last

    named_same : (q : SurfaceId) → is_named_now after q ≡ is_named_now w q
    named_same q = same_named w after q frames_after (λ i m. ap (λ ss. stands_in ss i.id) same_surfaces)

    pub kept_accepted : AreKept after None r
    kept_accepted =
        record {
          sets = λ q. h.sets q ∙ sets_after q;
          own = h.own;
          all_set = λ i m. h.all_set i (subst (λ l. Contains l i) frames_after m);
          lasting = λ x m e. h.lasting x (subst (λ ss. Contains ss x) same_surfaces m) e ∙ sym (lasts_by w after x (named_same x.id) (closed_after x.client) tick_after);
          fresh = λ x m e. absurd (cc);
          known = λ t m. subst (λ ss. IsKeptFor ss t) (sym same_surfaces) (h.known t m);
          noted = λ s t x p q m a b on n. elim (noted_old s x p a (subst (λ ss. Contains ss x) same_surfaces m) n) [ inl e ↦ inl e | inr e ↦ inr (inl e) ];
        }

  module _ (good : violates (last_created w c.number) local ≡ false) (last : is_last (last_created w c.number) local ≡ false) where
    more_surfaces : after.surfaces ≡ w.surfaces ++ made ∷ []
    unfolding accepted with_surface
    more_surfaces = ap (λ t. cond t w.surfaces (w.surfaces ++ made ∷ [])) last

    cases_of : (x : Surface) → Contains after.surfaces x → Contains w.surfaces x ⊎ (made ≡ x)
    cases_of x m = contains_push w.surfaces made x (subst (λ ss. Contains ss x) more_surfaces m)

    -- no surface has the new id
    unknown : (x : Surface) → Contains w.surfaces x → same_surface x.id id ≡ false
    unknown x m =
        never (same_surface x.id id) (λ e.
        let same : x.id ≡ id = from_same x.id id e in
        let of = keeps.always.surfaces.of_clients x m in
        let owner : x.client ≡ c.number =
        sym of.2 ∙ ap (λ (y : Client). y.number) (one_client w.clients of.0 c keeps.always.clients of.1 there (of.3 ∙ ap (λ (i : SurfaceId). i.sink) same))
        in
        let n = contains_at w.surfaces x m in
        raises_none local
        (ap (λ (i : SurfaceId). is_raised i.local local) (sym same)
        ∙ raised_from_all w.clients w.surfaces c.number local (last_created w c.number) keeps.always.surfaces refl good last n.0 x n.1 owner))

    stands_after : (i : FrameData) → Contains (active_frames w.subs) i → stands_in after.surfaces i.id ≡ stands_in w.surfaces i.id
    stands_after i m =
        let here = stands_active w i keeps.always m in
        let at = stands_at w.surfaces i.id here in
        ap (λ ss. stands_in ss i.id) more_surfaces ∙ (stands_from (w.surfaces ++ made ∷ []) i.id at.0 (push_contains w.surfaces made at.0 at.1) at.2 at.3 ∙ sym here)

    named_more : (q : SurfaceId) → is_named_now after q ≡ is_named_now w q
    named_more q = same_named w after q frames_after stands_after

    lasting_created : (x : Surface) → Contains after.surfaces x → is_one (Some id) x.id ≡ false → has_kept r.temporary x.id ≡ lasts after x
    lasting_created x m apart = grind (arith, nat_tests, cases_of x m, lasts_by w, named_more x.id, closed_after x.client, tick_after, both_ways, self_same)

    fresh_created : (x : Surface) → Contains after.surfaces x → is_one (Some id) x.id ≡ true → has_kept r.temporary x.id ≡ false
    fresh_created x m one =
        never (has_kept r.temporary x.id) (λ e.
        let t = any_at (λ (t : Temporary). same_surface t.id x.id) r.temporary e in
        let k = h.known t.0 t.1 in
        let same : k.0.id ≡ id = k.2 ∙ (from_same t.0.id x.id t.2 ∙ sym (from_same id x.id one)) in
        both_ways (same_surface k.0.id id) (unknown k.0 k.1) (ap (λ i. same_surface i id) same ∙ self_same id))

    known_created : (t : Temporary) → Contains r.temporary t → IsKeptFor after.surfaces t
    known_created t m =
        let k = h.known t m in
        subst (λ ss. IsKeptFor ss t) (sym more_surfaces) (k.0, push_contains w.surfaces made k.0 k.1, k.2, k.3)

    noted_created : AreNoted after (Some id)
    noted_created s t x p q m a b on n =
        elim (cases_of x m) [
          | inl o ↦ elim (noted_old s x p a o n) [ inl e ↦ inl e | inr e ↦ inr (inl e) ]
          | inr e ↦ inr (inr (ap (λ (y : Surface). same_surface id y.id) (sym e) ∙ self_same id))
        ]

    pub kept_created : AreKept after (Some id) r
    kept_created = grind (arith, nat_tests, sets_after, frames_after, lasting_created, fresh_created, known_created, noted_created)
