-- What is temporary, as a client is closed.
use Rattle.std.proofs.Common.{◌≡◌, ℕ, ◌+◌, Bool, true, false, not, ◌&&◌, ◌||◌, ◌==◌, ◌⊎◌, inl, inr, None, List, [], ◌∷◌, map, refl, ap, sym, ◌∙◌, subst, cond, Contains, arith}
use Rattle.std.specs.List.{list_any}
use Rattle.std.proofs.{lemmas.Bool.and_parts, lemmas.Bool.and_from, lemmas.Bool.eqb-true, lemmas.Bool.eq-eqb, lemmas.Bool.Decides.nat_tests}
use Rattle.vz_base.specs.declared.limits.TheConstants.{TEMPORARY_TICKS}
use Rattle.vz_ids.specs.{declared.FrameSinkId.FrameSinkId, declared.SurfaceId.SurfaceId, Ids.same_surface, Ids.same_sink}
use Rattle.vz_frame.specs.declared.message.Message.TheVariants.{Close}
use Rattle.vz_rules.specs.{World.World, World.Client, World.Surface, Messages.took, Messages.mark_of, Messages.message_answer}
use Rattle.vz_rules.specs.{Reach.is_named_now, Reach.has_closed, Kept.KeepsAlways, Kept.stands_in}
use Rattle.vz_rules.proofs.{Reached.from_same, Kept_last.one_client, Kept_submits.one_of_number}
use Rattle.vz_rules.proofs.Members.{contains_map, map_contains, filter_at, any_at, any_from, any_map, found, same_tests}
use Rattle.vz_refs.specs.Referring.{Temporary}
use Rattle.vz_refs.specs.Referring.{Referring, of_others}
use Rattle.vz_surface_manager.specs.Kept_surfaces.{lasts, is_one, has_kept, names_it, AreNoted, IsKeptFor, AreKept}
use Rattle.vz_surface_manager.proofs.{Accepted_kept.same_named, Risen_kept.id_marked as mark_id, Risen_kept.lasts_marked}
use Rattle.std.proofs.lemmas.Grind.{common_steps}

-- Lists

-- those of other sinks
kept_others : (sink : FrameSinkId) (id : SurfaceId) (xs : List Temporary) → has_kept (of_others sink xs) id ≡ (has_kept xs id && not (same_sink id.sink sink))
unfolding of_others
kept_others sink id [] = refl
kept_others sink id (t ∷ xs) = grind (arith, nat_tests, kept_others sink id xs, from_same t.id id)

abbrev closes : ℕ → Client → Client
closes n x = cond (x.number == n) (took (record x { closed = true })) x

one_more : (t q k a b d : Bool) → a ≡ (b || d) → ((q && (t || k)) || a) ≡ (((q && k) || b) || ((q && t) || d))
one_more t q k a b d h = grind (arith, nat_tests)

closes_one : (q : ℕ) (x : Client) (t : Bool) → (((cond t (took (record x { closed = true })) x).number == q) && (cond t (took (record x { closed = true })) x).closed) ≡ ((x.number == q) && (t || x.closed))
closes_one q x t = grind (arith, nat_tests)

-- one more client is closed
closed_more : (n q : ℕ) (xs : List Client) → list_any (λ (x : Client). (x.number == q) && x.closed) (map (closes n) xs)
    ≡ (list_any (λ (x : Client). (x.number == q) && x.closed) xs || list_any (λ (x : Client). (x.number == q) && (x.number == n)) xs)
closed_more n q [] = refl
closed_more n q (x ∷ xs) = grind (arith, nat_tests, closes_one q x, one_more, closed_more n q xs)

closed_as : (d n k cl y e : Bool) → (((not d && not (n || k)) && not (cl || e)) && y) ≡ ((((not d && not (n || k)) && not cl) && y) && not e)
closed_as d n k true y e = grind (arith, nat_tests)
closed_as d n k false y e = grind (arith, nat_tests)

-- Surfaces

mark_gone : (s : Surface) (t : Bool) → (cond t (record s { marked = true }) s).destroyed ≡ s.destroyed
mark_gone s t = grind (arith, nat_tests)

mark_born : (s : Surface) (t : Bool) → (cond t (record s { marked = true }) s).born ≡ s.born
mark_born s t = grind (arith, nat_tests)

mark_named : (s : Surface) (t : Bool) → (cond t (record s { marked = true }) s).named ≡ s.named
mark_named s t = grind (arith, nat_tests)

module _ (w : World) (c : Client) (r : Referring) (always : KeepsAlways w) (there : Contains w.clients c) (h : AreKept w None r) where
  abbrev after : World
  after = (message_answer w c Close).world

  surfaces_after : (s : Surface) → Contains after.surfaces s → (d : Surface) × Contains w.surfaces d × (mark_of c.number d ≡ s)
  unfolding message_answer
  surfaces_after s m = contains_map (mark_of c.number) w.surfaces s m

  goes_in : (s : Surface) → Contains w.surfaces s → Contains after.surfaces (mark_of c.number s)
  unfolding message_answer
  goes_in s m = map_contains (mark_of c.number) w.surfaces s m

  abbrev is_his : Surface → Bool
  is_his s = s.client == c.number

  stands_test : (id : SurfaceId) (s : Surface) → (same_surface (mark_of c.number s).id id && not (mark_of c.number s).destroyed) ≡ (same_surface s.id id && not s.destroyed)
  stands_test id s = ap (λ i. same_surface i id && not (mark_of c.number s).destroyed) (mark_id s (is_his s)) ∙ ap (λ d. same_surface s.id id && not d) (mark_gone s (is_his s))

  stands_after : (id : SurfaceId) → stands_in after.surfaces id ≡ stands_in w.surfaces id
  unfolding message_answer
  stands_after id = grind (arith, nat_tests, found, any_map (mark_of c.number), stands_test id)

  named_after : (id : SurfaceId) → is_named_now after id ≡ is_named_now w id
  unfolding message_answer
  named_after id = same_named w after id refl (λ i m. stands_after i.id)

  closed_after : (q : ℕ) → has_closed after q ≡ (has_closed w q || list_any (λ (x : Client). (x.number == q) && (x.number == c.number)) w.clients)
  unfolding message_answer
  closed_after q = closed_more c.number q w.clients

  -- a surface is of the client's sink exactly where it is the client's
  own_sink : (s : Surface) → Contains w.surfaces s → list_any (λ (x : Client). (x.number == s.client) && (x.number == c.number)) w.clients ≡ same_sink s.id.sink c.sink
  own_sink s m =
      let of = always.surfaces.of_clients s m in
      same_tests (list_any (λ (x : Client). (x.number == s.client) && (x.number == c.number)) w.clients) (same_sink s.id.sink c.sink)
      (λ e.
      let y = any_at (λ (x : Client). (x.number == s.client) && (x.number == c.number)) w.clients e in
      let both = and_parts (y.0.number == s.client) (y.0.number == c.number) y.2 in
      let same : of.0 ≡ c = one_of_number w.clients of.0 c always.clients of.1 there (of.2 ∙ (sym (eqb-true y.0.number s.client both.0) ∙ eqb-true y.0.number c.number both.1)) in
      ap (λ k. same_sink k c.sink) (sym of.3 ∙ ap (λ (x : Client). x.sink) same) ∙ self_sink c.sink)
      (λ e.
      let same : of.0 ≡ c = one_client w.clients of.0 c always.clients of.1 there (of.3 ∙ sinks_same s.id.sink c.sink e) in
      any_from (λ (x : Client). (x.number == s.client) && (x.number == c.number)) w.clients of.0 of.1
      (and_from (of.0.number == s.client) (of.0.number == c.number) (eq-eqb of.0.number s.client of.2) (eq-eqb of.0.number c.number (ap (λ (x : Client). x.number) same))))
    where
      self_sink : (k : FrameSinkId) → same_sink k k ≡ true
      self_sink k = and_from (k.client_id == k.client_id) (k.sink_id == k.sink_id) (eq-eqb k.client_id k.client_id refl) (eq-eqb k.sink_id k.sink_id refl)

      sinks_same : (a b : FrameSinkId) → same_sink a b ≡ true → a ≡ b
      sinks_same a b e =
          let both = and_parts (a.client_id == b.client_id) (a.sink_id == b.sink_id) e in
          λ i. record { client_id = eqb-true a.client_id b.client_id both.0 i; sink_id = eqb-true a.sink_id b.sink_id both.1 i }

  lasts_rest : (s : Surface) → Contains w.surfaces s → lasts after s ≡ (lasts w s && not (same_sink s.id.sink c.sink))
  unfolding lasts message_answer
  lasts_rest s m = grind (arith, nat_tests, named_after s.id, closed_after s.client, closed_as s.destroyed s.named (is_named_now w s.id) (has_closed w s.client), own_sink s m)

  lasting_after : (s : Surface) → Contains after.surfaces s → is_one None s.id ≡ false → has_kept (of_others c.sink r.temporary) s.id ≡ lasts after s
  lasting_after s m e = grind (arith, nat_tests, surfaces_after s m, mark_id, kept_others c.sink, lasts_rest, lasts_marked)

  known_after : (t : Temporary) → Contains (of_others c.sink r.temporary) t → IsKeptFor after.surfaces t
  unfolding of_others
  known_after t m =
      let f = filter_at (λ (t : Temporary). not (same_sink t.id.sink c.sink)) r.temporary t m in
      let k = h.known t f.0 in
      (mark_of c.number k.0, goes_in k.0 k.1, mark_id k.0 (is_his k.0) ∙ k.2, k.3 ∙ ap (λ n. n + TEMPORARY_TICKS) (sym (mark_born k.0 (is_his k.0))))

  abbrev Noted : Surface → Type 0
  Noted s = (s.named ≡ true) ⊎ (s.destroyed ≡ true) ⊎ (is_one None s.id ≡ true)

  noted_one : (s : Surface) → Noted s → Noted (mark_of c.number s)
  noted_one s (inl a) = inl (mark_named s (is_his s) ∙ a)
  noted_one s (inr (inl b)) = inr (inl (mark_gone s (is_his s) ∙ b))
  noted_one s (inr (inr o)) = absurd (cc)

  noted_after : AreNoted after None
  unfolding message_answer
  noted_after s t x p q m a b on n =
      let d = surfaces_after x m in
      subst Noted d.2 (noted_one d.0 (h.noted s t d.0 p q d.1 a b on (ap (λ (i : SurfaceId). names_it i s) (sym (ap (λ (y : Surface). y.id) (sym d.2) ∙ mark_id d.0 (is_his d.0))) ∙ n)))

  pub kept_closing : AreKept after None (record r { temporary = of_others c.sink r.temporary })
  unfolding message_answer
  kept_closing = grind (arith, nat_tests, common_steps, lasting_after, known_after, noted_after)
