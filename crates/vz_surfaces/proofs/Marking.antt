-- Which surfaces are marked, over the changes of a store.
use Rattle.std.proofs.Common.{◌≡◌, ℕ, ◌+◌, ◌-◌, ◌≤◌, Bool, true, false, ◌&&◌, ◌||◌, ◌==◌, nat_le, nat_lt, inl, inr, Option, Some, None, List, [], ◌∷◌, ◌++◌, find, is_some, refl, ap, sym, ◌∙◌, arith, cond, subst, Contains, count_by}
use Rattle.std.proofs.lemmas.Bool.{both_ways, eqb-true, eq-eqb}
use Rattle.std.proofs.lemmas.Bool.Decides.{nat_tests}
use Rattle.vz_ids.specs.declared.FrameSinkId.{FrameSinkId}
use Rattle.vz_ids.specs.declared.LocalSurfaceId.{LocalSurfaceId}
use Rattle.vz_ids.specs.declared.SurfaceId.{SurfaceId}
use Rattle.vz_ids.specs.Ids.{same_surface}
use Rattle.vz_geom.specs.declared.Size.{Size}
use Rattle.vz_pixels.specs.Block.{Block}
use Rattle.vz_frame.specs.declared.frame.CompositorFrame.{CompositorFrame}
use Rattle.vz_rules.specs.World.{Surface, Submission}
use Rattle.vz_rules.specs.Settle.{is_before, marked_by}
use Rattle.vz_rules.specs.Messages.{is_last, mark_of}
use Rattle.vz_rules.specs.Kept.{last_in, is_surface_of}
use Rattle.vz_rules.proofs.Reached.{from_same, self_same}
use Rattle.vz_rules.proofs.Members.{when_same, contains_map, contains_push, contains_at, at_same, find_at, found, any_from}
use Rattle.vz_rules.proofs.Kept_last.{surfaces_differ}
use Rattle.vz_surfaces.specs.Stored.{Stored, surface_of, new_surface, storing, raising, marking, ended_at, destroying}
use Rattle.vz_surfaces.specs.Keeping.{KeepsStored}
use Rattle.vz_surfaces.specs.declared.owners.Owner.{Owner}
use Rattle.vz_surfaces.specs.declared.owners.Owners.{Owners}
use Rattle.vz_surfaces.specs.Memory.{owner_at, HasNumber, KeepsOwners, KeepsMarks, counting, marked_up}
use Rattle.vz_surfaces.proofs.Raising.{Waits_in}

numbered_in : (o : Owners) (s t : Surface) → t.client ≡ s.client → t.number ≡ s.number → (1 ≤ s.number) × (s.number ≤ (owner_at o s.client).created) → (1 ≤ t.number) × (t.number ≤ (owner_at o t.client).created)
numbered_in o s t c n h = (omega (arith, n, h.0), omega (arith, n, h.1, ap (λ k. (owner_at o k).created) c))

pub gone_marks : (id : SurfaceId) (st : Stored) (o : Owners) → KeepsMarks o st → KeepsMarks o (destroying id st)
unfolding destroying
gone_marks id st o h =
    let ends = λ (s : Surface). record s { destroyed = true } in
    record {
      clients = λ t p. let m = contains_map (ended_at id) st.surfaces t p in subst (λ (s : Surface). HasNumber s.client) m.2
          (subst HasNumber (sym (when_same (λ (y : Surface). y.client) ends (same_surface m.0.id id) m.0 refl)) (h.clients m.0 m.1));
      numbers = λ t p. let m = contains_map (ended_at id) st.surfaces t p in subst (λ (s : Surface). (1 ≤ s.number) × (s.number ≤ (owner_at o s.client).created)) m.2
          (numbered_in o m.0 (ended_at id m.0) (when_same (λ (y : Surface). y.client) ends (same_surface m.0.id id) m.0 refl) (when_same (λ (y : Surface). y.number) ends (same_surface m.0.id id) m.0 refl) (h.numbers m.0 m.1));
      marks = λ t p. let m = contains_map (ended_at id) st.surfaces t p in subst (λ (s : Surface). s.marked ≡ nat_le s.number (owner_at o s.client).marked_to) m.2
          (when_same (λ (y : Surface). y.marked) ends (same_surface m.0.id id) m.0 refl
          ∙ (h.marks m.0 m.1 ∙ sym (when_same (λ (y : Surface). nat_le y.number (owner_at o y.client).marked_to) ends (same_surface m.0.id id) m.0 refl)));
      created = h.created;
    }

-- Marking all

mark_up : (k n m : ℕ) → k ≤ n → m ≤ n → nat_le k (cond (nat_le n m) m n) ≡ true
mark_up k n m h l = grind (arith, nat_tests)

up_created : (t : Bool) (n : ℕ) (o : Owner) → (cond t o (record o { marked_to = n })).created ≡ o.created
up_created true n o = refl
up_created false n o = refl

pub up_accepted : (n : ℕ) (o : Owner) → (marked_up n o).accepted ≡ o.accepted
up_accepted n o = grind (arith, nat_tests)

pub up_last : (n : ℕ) (o : Owner) → (marked_up n o).last ≡ o.last
up_last n o = grind (arith, nat_tests)

module _ (old new : Owners) (c n : ℕ) (set : (q : ℕ) → 1 ≤ q → owner_at new q ≡ cond (q == c) (marked_up n (owner_at old c)) (owner_at old q)) where
  -- one client is marked up to a number
  same_of : {B : Type 0} (r : Owner → B) → r (marked_up n (owner_at old c)) ≡ r (owner_at old c) → (q : ℕ) → 1 ≤ q → r (owner_at new q) ≡ r (owner_at old q)
  same_of r e q h = grind (arith, nat_tests, eqb-true q c)

  pub same_created : (q : ℕ) → 1 ≤ q → (owner_at new q).created ≡ (owner_at old q).created
  same_created = same_of (λ o. o.created) (up_created (nat_le n (owner_at old c).marked_to) n (owner_at old c))

  pub owners_marked : (st : Stored) → KeepsOwners old st → KeepsOwners new st
  owners_marked st h = grind (arith, nat_tests, same_of, up_accepted, same_created, up_last)

  at_same_client : (q : ℕ) → 1 ≤ q → q ≡ c → (owner_at new q).marked_to ≡ cond (nat_le n (owner_at old q).marked_to) (owner_at old q).marked_to n
  at_same_client q h e = grind (arith, nat_tests, eq-eqb q c e)

  at_other_client : (q : ℕ) → 1 ≤ q → (q == c) ≡ false → (owner_at new q).marked_to ≡ (owner_at old q).marked_to
  at_other_client q h e = ap (λ o. o.marked_to) (set q h ∙ ap (λ (t : Bool). cond t (marked_up n (owner_at old c)) (owner_at old q)) e)

  capped : (st : Stored) → KeepsMarks old st → ((q : ℕ) → q ≡ c → HasNumber q → n ≤ (owner_at old q).created) → (q : ℕ) → HasNumber q → (owner_at new q).marked_to ≤ (owner_at new q).created
  capped st h few q k = grind (arith, nat_tests, at_same_client q k.0, eqb-true q c, same_created q k.0, at_other_client q k.0)

marked_when : (t : Bool) (s : Surface) → (cond t (record s { marked = true }) s).marked ≡ cond t true s.marked
marked_when true s = refl
marked_when false s = refl

-- all surfaces of a client are marked
pub marking_marks : (old new : Owners) (c : ℕ) (st : Stored) → HasNumber c → KeepsMarks old st → ((q : ℕ) → 1 ≤ q → owner_at new q ≡ cond (q == c) (marked_up (owner_at old c).created (owner_at old c)) (owner_at old q))
    → KeepsMarks new (marking c st)
unfolding marking
marking_marks old new c st number h set =
    let n = (owner_at old c).created in
    let marks = λ (s : Surface). record s { marked = true } in
    record {
      clients = λ t p. let m = contains_map (mark_of c) st.surfaces t p in subst (λ (s : Surface). HasNumber s.client) m.2
          (subst HasNumber (sym (when_same (λ (y : Surface). y.client) marks (m.0.client == c) m.0 refl)) (h.clients m.0 m.1));
      numbers = λ t p.
          let m = contains_map (mark_of c) st.surfaces t p in
          let was = h.numbers m.0 m.1 in
          subst (λ (s : Surface). (1 ≤ s.number) × (s.number ≤ (owner_at new s.client).created)) m.2
          (numbered_in new m.0 (mark_of c m.0) (when_same (λ (y : Surface). y.client) marks (m.0.client == c) m.0 refl) (when_same (λ (y : Surface). y.number) marks (m.0.client == c) m.0 refl)
          (was.0, omega (arith, was.1, same_created old new c n set m.0.client (h.clients m.0 m.1).0)));
      marks = λ t p.
          let m = contains_map (mark_of c) st.surfaces t p in
          let k = h.clients m.0 m.1 in
          subst (λ (s : Surface). s.marked ≡ nat_le s.number (owner_at new s.client).marked_to) m.2
          (marked_when (m.0.client == c) m.0 ∙ (by m.0 m.1 (m.0.client == c) refl ∙ sym (when_same (λ (y : Surface). nat_le y.number (owner_at new y.client).marked_to) marks (m.0.client == c) m.0 refl)));
      created = capped old new c n set st h (λ q e k. omega (arith, ap (λ k. (owner_at old k).created) e));
    }
  where
    by : (s : Surface) → Contains st.surfaces s → (t : Bool) → (s.client == c) ≡ t → cond t true s.marked ≡ nat_le s.number (owner_at new s.client).marked_to
    by s p true e =
        let k = h.clients s p in
        let same = eqb-true s.client c e in
        sym (ap (nat_le s.number) (at_same_client old new c (owner_at old c).created set s.client k.0 same)
        ∙ mark_up s.number (owner_at old c).created (owner_at old s.client).marked_to (omega (arith, (h.numbers s p).1, ap (λ k. (owner_at old k).created) same)) (omega (arith, h.created s.client k, ap (λ k. (owner_at old k).created) same)))
    by s p false e = h.marks s p ∙ sym (ap (nat_le s.number) (at_other_client old new c (owner_at old c).created set s.client (h.clients s p).0 e))

-- Becoming active

mark_max : (k n m : ℕ) → 1 ≤ n → cond (nat_lt k n || false) true (nat_le k m) ≡ nat_le k (cond (nat_le (n - 1) m) m (n - 1))
mark_max k n m h = grind (arith, nat_tests)

-- the surface of an id is one
pub one_surface : (st : Stored) (s t : Surface) → KeepsStored st → Contains st.surfaces s → Contains st.surfaces t → s.id ≡ t.id → s ≡ t
one_surface st s t keeps p q e =
    let n = contains_at st.surfaces s p in
    let m = contains_at st.surfaces t q in
    at_same st.surfaces n.0 m.0 s t n.1 m.1
    (surfaces_differ keeps.clients st.surfaces keeps.sinks keeps.surfaces n.0 m.0 s t n.1 m.1 (ap (λ i. same_surface i t.id) e ∙ self_same t.id))

number_by : (st : Stored) (x : Submission) (s : Surface) → KeepsStored st → Contains st.surfaces s → s.id ≡ x.submitted.id → (o : Option Surface) → find (λ c. same_surface c.id x.submitted.id) st.surfaces ≡ o
    → (elim o as (λ o. ℕ) [ Some c ↦ c.number | None ↦ 0 ]) ≡ s.number
number_by st x s keeps p e None f =
    absurd (both_ways (is_some (find (λ c. same_surface c.id x.submitted.id) st.surfaces)) (ap is_some f)
    (found (λ c. same_surface c.id x.submitted.id) st.surfaces ∙ any_from (λ c. same_surface c.id x.submitted.id) st.surfaces s p (ap (λ i. same_surface i x.submitted.id) e ∙ self_same x.submitted.id)))
number_by st x s keeps p e (Some t) f =
    let there = find_at (λ c. same_surface c.id x.submitted.id) st.surfaces t f in
    ap (λ (c : Surface). c.number) (one_surface st t s keeps there.0 p (from_same t.id x.submitted.id there.1 ∙ sym e))

module _ (st : Stored) (x : Submission) (keeps : KeepsStored st) (in_it : Waits_in st x) where
  -- the surface on which it waits is one of its client's
  pub own_client : (s : Surface) → Contains st.surfaces s → s.id ≡ x.submitted.id → s.client ≡ x.submitted.sub.client
  own_client s p e =
      let made = keeps.numbers.created x in_it.there in
      ap (λ (c : Surface). c.client) (one_surface st s made.0 keeps p made.1 (e ∙ sym made.2)) ∙ made.3

  pub raised_marks : (old new : Owners) (c0 : Surface) → Contains st.surfaces c0 → c0.id ≡ x.submitted.id → KeepsMarks old st
      → ((q : ℕ) → 1 ≤ q → owner_at new q ≡ cond (q == x.submitted.sub.client) (marked_up (c0.number - 1) (owner_at old x.submitted.sub.client)) (owner_at old q)) → KeepsMarks new (raising x st)
  unfolding raising
  raised_marks old new c0 there named h set =
      let c = x.submitted.sub.client in
      let n = c0.number - 1 in
      let marks = λ (s : Surface). record s { marked = true } in
      let own = own_client c0 there named in
      record {
        clients = λ t p. let m = contains_map (marked_by st.surfaces (x ∷ [])) st.surfaces t p in subst (λ (s : Surface). HasNumber s.client) m.2
            (subst HasNumber (sym (when_same (λ (y : Surface). y.client) marks (is_before st.surfaces m.0 x || false) m.0 refl)) (h.clients m.0 m.1));
        numbers = λ t p.
            let m = contains_map (marked_by st.surfaces (x ∷ [])) st.surfaces t p in
            let was = h.numbers m.0 m.1 in
            subst (λ (s : Surface). (1 ≤ s.number) × (s.number ≤ (owner_at new s.client).created)) m.2
            (numbered_in new m.0 (marked_by st.surfaces (x ∷ []) m.0) (when_same (λ (y : Surface). y.client) marks (is_before st.surfaces m.0 x || false) m.0 refl)
            (when_same (λ (y : Surface). y.number) marks (is_before st.surfaces m.0 x || false) m.0 refl)
            (was.0, omega (arith, was.1, same_created old new c n set m.0.client (h.clients m.0 m.1).0)));
        marks = λ t p.
            let m = contains_map (marked_by st.surfaces (x ∷ [])) st.surfaces t p in
            subst (λ (s : Surface). s.marked ≡ nat_le s.number (owner_at new s.client).marked_to) m.2
            (marked_when (is_before st.surfaces m.0 x || false) m.0
            ∙ (ap (λ k. cond (((m.0.client == c) && nat_lt m.0.number k) || false) true m.0.marked) (number_by st x c0 keeps there named (find (λ c. same_surface c.id x.submitted.id) st.surfaces) refl)
            ∙ (by m.0 m.1 (m.0.client == c) refl ∙ sym (when_same (λ (y : Surface). nat_le y.number (owner_at new y.client).marked_to) marks (is_before st.surfaces m.0 x || false) m.0 refl))));
        created = capped old new c n set st h (λ q e k. omega (arith, (h.numbers c0 there).1, ap (λ k. (owner_at old k).created) (own ∙ sym e)));
      }
    where
      by : (s : Surface) → Contains st.surfaces s → (t : Bool) → (s.client == x.submitted.sub.client) ≡ t → cond ((t && nat_lt s.number c0.number) || false) true s.marked ≡ nat_le s.number (owner_at new s.client).marked_to
      by s p true e =
          ap (cond (nat_lt s.number c0.number || false) true) (h.marks s p)
          ∙ (mark_max s.number c0.number (owner_at old s.client).marked_to (h.numbers c0 there).0
          ∙ sym (ap (nat_le s.number) (at_same_client old new x.submitted.sub.client (c0.number - 1) set s.client (h.clients s p).0 (eqb-true s.client x.submitted.sub.client e))))
      by s p false e = h.marks s p ∙ sym (ap (nat_le s.number) (at_other_client old new x.submitted.sub.client (c0.number - 1) set s.client (h.clients s p).0 e))

-- Accepting

module _ (st : Stored) (c : ℕ) (sink : FrameSinkId) (local : LocalSurfaceId) (frame : CompositorFrame) (blocks : List Block) where
  abbrev the_fresh : Surface
  the_fresh = new_surface c (surface_of sink local) frame st.surfaces

  grown_by : (t : Bool) (o : Owner) (local : LocalSurfaceId) (size : Size) → o.created ≤ (counting t local size o).created
  grown_by true o local size = omega arith
  grown_by false o local size = omega arith

  pub stored_marks : (old new : Owners) (last : Bool) (size : Size) (owner : Owner) → HasNumber c → KeepsOwners old st → KeepsMarks old st → last ≡ is_last (last_in st.surfaces c) local
      → owner ≡ counting last local size (owner_at old c) → ((q : ℕ) → 1 ≤ q → owner_at new q ≡ cond (q == c) owner (owner_at old q)) → KeepsMarks new (storing c sink local frame blocks st)
  unfolding storing
  stored_marks old new last size owner number ho h at is set =
      record {
        clients = λ s p. in_all (λ s. HasNumber s.client) s (is_last (last_in st.surfaces c) local) (λ q. h.clients s q) (λ f e. subst (λ (s : Surface). HasNumber s.client) e number) p;
        numbers = λ s p. in_all (λ s. (1 ≤ s.number) × (s.number ≤ (owner_at new s.client).created)) s (is_last (last_in st.surfaces c) local)
            (λ q. let was = h.numbers s q in (was.0, omega (arith, was.1, grows s.client (h.clients s q))))
            (λ f e. subst (λ (s : Surface). (1 ≤ s.number) × (s.number ≤ (owner_at new s.client).created)) e (omega arith, fresh_number f)) p;
        marks = λ s p. in_all (λ s. s.marked ≡ nat_le s.number (owner_at new s.client).marked_to) s (is_last (last_in st.surfaces c) local)
            (λ q. h.marks s q ∙ ap (nat_le s.number) (sym (marked_same s.client (h.clients s q))))
            (λ f e. subst (λ (s : Surface). s.marked ≡ nat_le s.number (owner_at new s.client).marked_to) e
            (sym (ap (nat_le (count_by (is_surface_of c) st.surfaces + 1)) (marked_same c number) ∙ above (count_by (is_surface_of c) st.surfaces) (owner_at old c).marked_to (omega (arith, h.created c number, ho.created c number))))) p;
        created = λ q k. omega (arith, marked_same q k, h.created q k, grows q k);
      }
    where
      in_all : (P : Surface → Type 0) (s : Surface) (t : Bool) → (Contains st.surfaces s → P s) → (t ≡ false → the_fresh ≡ s → P s) → Contains (cond t st.surfaces (st.surfaces ++ the_fresh ∷ [])) s → P s
      in_all P s true f g p = f p
      in_all P s false f g p = elim (contains_push st.surfaces the_fresh s p) [ inl m ↦ f m | inr e ↦ g refl e ]

      above : (n m : ℕ) → m ≤ n → nat_le (n + 1) m ≡ false
      above n m h = grind (arith, nat_tests)

      grows : (q : ℕ) → HasNumber q → (owner_at old q).created ≤ (owner_at new q).created
      grows q k = by (q == c) refl
        where
          by : (t : Bool) → (q == c) ≡ t → (owner_at old q).created ≤ (owner_at new q).created
          by true e =
              omega (arith, ap (λ o. o.created) (set q k.0 ∙ (ap (λ (t : Bool). cond t owner (owner_at old q)) e ∙ is)), grown_by last (owner_at old c) local size, ap (λ k. (owner_at old k).created) (eqb-true q c e))
          by false e = omega (arith, ap (λ o. o.created) (set q k.0 ∙ ap (λ (t : Bool). cond t owner (owner_at old q)) e))

      marked_same : (q : ℕ) → HasNumber q → (owner_at new q).marked_to ≡ (owner_at old q).marked_to
      marked_same q k =
          ap (λ o. o.marked_to) (set q k.0) ∙ (elim (q == c) as (λ (t : Bool). (q == c) ≡ t → (cond t owner (owner_at old q)).marked_to ≡ (owner_at old q).marked_to) [
            | true ↦ λ e. ap (λ o. o.marked_to) is ∙ ap (λ k. (owner_at old k).marked_to) (sym (eqb-true q c e))
            | false ↦ λ e. refl
          ] refl)

      fresh_number : is_last (last_in st.surfaces c) local ≡ false → count_by (is_surface_of c) st.surfaces + 1 ≤ (owner_at new c).created
      fresh_number f =
          omega (
            arith,
            ho.created c number,
            ap (λ o. o.created) (set c number.0 ∙ (ap (λ (t : Bool). cond t owner (owner_at old c)) (eq-eqb c c refl)
                ∙ (is ∙ ap (λ (t : Bool). counting t local size (owner_at old c)) (at ∙ f)))),
          )
