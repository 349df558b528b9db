-- A collection, while surfaces are destroyed one after another.
use Rattle.std.proofs.Common.{◌≡◌, ◌==◌, ℕ, ◌+◌, ◌<◌, ◌≤◌, Bool, true, false, not, Option, None, List, [], ◌∷◌, ◌++◌, length, map, filter}
use Rattle.std.proofs.Common.{refl, ap, sym, ◌∙◌, subst, arith, cond, Contains, append_assoc, append-nil, slice_index_or}
use Rattle.std.proofs.{lemmas.List.map-append, lemmas.List.length-map, lemmas.Bool.eqb-true, lemmas.Bool.Decides.nat_tests, lemmas.Grind.common_steps}
use Rattle.vz_ids.specs.{declared.SurfaceId.SurfaceId, Ids.same_surface}
use Rattle.vz_frame.specs.Roomy.{Roomy}
use Rattle.vz_rules.specs.{declared.entry.Lost.Lost, World.World, World.Surface, Singly.as_one_goes, Singly.going, Singly.all_going, Singly.IsMarked}
use Rattle.vz_rules.specs.Reach.{has_id, naming, lost_in, clearing, destroyed_in}
use Rattle.vz_rules.specs.Kept.{KeepsAlways}
use Rattle.vz_rules.proofs.Members.{contains_here, contains_there, contains_at, at_same, map_contains}
use Rattle.vz_rules.proofs.{Kept_facts.surfaces_apart, Kept_goes.clearing_singly, Kept_singly.marked_on}
use Rattle.vz_surfaces.specs.{Stored.stored_of, Reading.marked_to}
use Rattle.vz_surface_manager.specs.{Kept_surfaces.has_kept, Changes.IsGoing, Settles.AreSettling}
use Rattle.vz_surface_manager.proofs.{Rooted.lost_not_kept, Rounded.none_long, Names_differ.AreApart}
use Rattle.vz_returns.specs.{Lent.resources_out, Notes.owed_count}
use Rattle.vz_surface_manager.specs.{declared.surface_manager.SurfaceManager.SurfaceManager, Collects.IsToCollect, Collects.IsDestroying}
use Rattle.vz_surface_manager.proofs.By_client.{to, made, unreached, losing, told_of, marked_are, to_made, to_apart, lost_there, there_lost}
use Rattle.vz_surface_manager.proofs.By_client.{losing_lost, told_whole}

-- those of the first so many that are not reached are destroyed, and told
pub record IsGoingOn (w : World) (k : ℕ) (v : SurfaceManager) (old new : List Lost) : Type 0 where
  pub done : List Surface
  pub rest : List Surface
  pub now : World
  pub all : to (made w) 16 ≡ done ++ rest
  pub many : length done ≡ k
  pub stands : AreSettling now None v
  pub named : naming now ≡ now
  pub there : (c : Surface) → Contains rest c → Contains now.surfaces c × IsMarked now c.id
  pub apart : AreApart rest
  pub leads : all_going (filter (unreached w) rest) now ≡ all_going (losing w) w
  pub told : new ≡ old ++ map told_of (filter (unreached w) done)

first_marked : (w : World) (c : Surface) → KeepsAlways w → Contains w.surfaces c → c.marked ≡ true → IsMarked w c.id
first_marked w c h p marked s q e = grind (arith, nat_tests, contains_at w.surfaces s q, contains_at w.surfaces c p, at_same w.surfaces, surfaces_apart w)

pub begins : (w : World) (marked reached : List SurfaceId) (v : SurfaceManager) (old : List Lost) → IsDestroying w marked reached v
    → IsGoingOn w 0 v old old
begins w marked reached v old h =
    record {
      done = [];
      rest = to (made w) 16;
      now = w;
      all = refl;
      many = refl;
      stands = h.stands;
      named = h.named;
      there = λ c m. let made_one = to_made w 16 c m in (made_one.0, first_marked w c h.stands.always made_one.0 made_one.1);
      apart = to_apart w h.stands.always 16;
      leads = refl;
      told = sym (append-nil old);
    }

-- the one at the place behind those before
at_place : (done rest : List Surface) (c : Surface) (d : SurfaceId)
    → slice_index_or (map (λ (x : Surface). x.id) (done ++ c ∷ rest)) (length done) d ≡ c.id
at_place [] rest c d = refl
at_place (x ∷ done) rest c d = at_place done rest c d

none_left : (done : List Surface) (k : ℕ) (ids : List SurfaceId) → ids ≡ map (λ (x : Surface). x.id) (done ++ []) → length done ≡ k
    → k < length ids → ⊥
none_left done k ids e many inside =
    omega (arith, inside, many, ap length e, length-map (done ++ []) (λ (x : Surface). x.id), ap length (append-nil done))

one_more : (done : List Surface) (c : Surface) → length (done ++ c ∷ []) ≡ length done + 1
one_more [] c = refl
one_more (x ∷ done) c = omega (arith, one_more done c)

in_middle : (done rest : List Surface) (c : Surface) → Contains (done ++ c ∷ rest) c
in_middle [] rest c = contains_here c rest
in_middle (x ∷ done) rest c = contains_there x c (done ++ c ∷ rest) (in_middle done rest c)

filter_last : (p : Surface → Bool) (xs : List Surface) (c : Surface) → filter p (xs ++ c ∷ []) ≡ filter p xs ++ cond (p c) (c ∷ []) []
filter_last p [] c = refl
filter_last p (x ∷ xs) c = grind (arith, nat_tests, filter_last p xs c)

other_stays : (c d : Surface) → same_surface d.id c.id ≡ false → as_one_goes c d ≡ d
other_stays c d e = ap (λ (t : Bool). cond t (record d { destroyed = true }) d) e

stays_there : (w : World) (c d : Surface) → Contains w.surfaces d → same_surface d.id c.id ≡ false → Contains (going c w).surfaces d
unfolding going
stays_there w c d p e = grind (arith, nat_tests, other_stays c d e, map_contains (as_one_goes c) w.surfaces d p)

module _ (w : World) (marked reached : List SurfaceId) (start v : SurfaceManager) (k : ℕ) (e : SurfaceId) (old new : List Lost)
    (h : IsDestroying w marked reached start)
    (inside : k < length marked) (on : IsGoingOn w k v old new) where
  -- the next one
  pub record Next : Type 0 where
    pub one : Surface
    pub more : List Surface
    pub is : on.rest ≡ one ∷ more

  ids_are : marked ≡ map (λ (c : Surface). c.id) (to (made w) 16)
  ids_are = h.are_marked ∙ marked_are 16 w

  pub next : Next
  next = by on.rest refl
    where
      by : (l : List Surface) → on.rest ≡ l → Next
      by [] f = absurd (none_left on.done k marked (ids_are ∙ ap (map (λ (c : Surface). c.id)) (on.all ∙ ap (λ l. on.done ++ l) f)) on.many
          inside)
      by (c ∷ cs) f = record { one = c; more = cs; is = f }

  pub its_id : next.one.id ≡ slice_index_or marked k e
  its_id = grind (arith, nat_tests, at_place on.done, ids_are)

  was_made : Contains w.surfaces next.one × (next.one.marked ≡ true) × (next.one.destroyed ≡ false)
  was_made =
      to_made w 16 next.one
      (subst (λ l. Contains l next.one) (sym (on.all ∙ ap (λ l. on.done ++ l) next.is)) (in_middle on.done next.more next.one))

  its_place : Contains on.now.surfaces next.one × IsMarked on.now next.one.id
  its_place = on.there next.one (subst (λ l. Contains l next.one) (sym next.is) (contains_here next.one next.more))

  pub is_marked : IsMarked on.now next.one.id
  is_marked = its_place.1

  reached_is : (t : Bool) → t ≡ has_id reached (slice_index_or marked k e) → unreached w next.one ≡ not t
  reached_is t f = ap not (sym (h.are_reached next.one.id) ∙ (ap (has_id reached) its_id ∙ sym f))

  pub goes : has_id reached (slice_index_or marked k e) ≡ false → v.live.kept.temporary ≡ start.live.kept.temporary
      → IsGoing on.now next.one (slice_index_or marked k e) v.live
  goes out same =
      let not_reached = reached_is false (sym out) in
      let lost : Contains (lost_in w) next.one = there_lost w next.one was_made.0 was_made.1 was_made.2 not_reached in
      record {
        always = on.stands.always;
        live = on.stands.live;
        named = on.named;
        known = its_place.0;
        name = its_id;
        exists = was_made.2;
        lasts_not = ap (λ l. has_kept l (slice_index_or marked k e)) same
            ∙ (ap (has_kept start.live.kept.temporary) (sym its_id)
            ∙ lost_not_kept w start.live.kept h.named h.stands.live.kept next.one lost);
      }

  all_is : to (made w) 16 ≡ (on.done ++ next.one ∷ []) ++ next.more
  all_is = on.all ∙ (ap (λ l. on.done ++ l) next.is ∙ sym (append_assoc on.done (next.one ∷ []) next.more))

  both_apart : AreApart (next.one ∷ next.more)
  both_apart = subst AreApart next.is on.apart

  more_there : (c : Surface) → Contains next.more c → Contains on.now.surfaces c × IsMarked on.now c.id
  more_there c m = on.there c (subst (λ l. Contains l c) (sym next.is) (contains_there next.one c next.more m))

  leads_by : (t : Bool) → unreached w next.one ≡ t → all_going
      (cond t (next.one ∷ filter (unreached w) next.more) (filter (unreached w) next.more)) on.now ≡ all_going (losing w) w
  leads_by t f = grind (arith, nat_tests, unreached w)

  told_with : (t : Bool) → unreached w next.one ≡ t → map told_of (filter (unreached w) (on.done ++ next.one ∷ [])) ≡ map told_of
      (filter (unreached w) on.done) ++ cond t (told_of next.one ∷ []) []
  told_with t f = grind (arith, nat_tests, told_of, filter_last, unreached, map-append)

  -- it is reached, and stays
  pub stays : has_id reached (slice_index_or marked k e) ≡ true → IsGoingOn w (k + 1) v old new
  stays there =
      let kept = reached_is true (sym there) in
      record {
        done = on.done ++ next.one ∷ [];
        rest = next.more;
        now = on.now;
        all = all_is;
        many = omega (arith, one_more on.done next.one, on.many);
        stands = on.stands;
        named = on.named;
        there = more_there;
        apart = both_apart.1;
        leads = leads_by false kept;
        told = on.told ∙ ap (λ l. old ++ l) (sym (told_with false kept ∙ append-nil (map told_of (filter (unreached w) on.done))));
      }

  -- it is not, and goes
  pub goes_on : has_id reached (slice_index_or marked k e) ≡ false → (u : SurfaceManager) (more_told : List Lost)
      → AreSettling (going next.one on.now) None u
      → naming (going next.one on.now) ≡ going next.one on.now → more_told ≡ new ++ told_of next.one ∷ []
      → IsGoingOn w (k + 1) u old more_told
  unfolding all_going
  goes_on out u more_told stands named put =
      let lost = reached_is false (sym out) in
      record {
        done = on.done ++ next.one ∷ [];
        rest = next.more;
        now = going next.one on.now;
        all = all_is;
        many = omega (arith, one_more on.done next.one, on.many);
        stands = stands;
        named = named;
        there = λ c m.
            let before = more_there c m in
            (stays_there on.now next.one c before.0 (both_apart.0 c m), marked_on on.now c.id next.one before.1);
        apart = both_apart.1;
        leads = leads_by true lost;
        told = put ∙ (ap (λ l. l ++ told_of next.one ∷ []) on.told
            ∙ (append_assoc old (map told_of (filter (unreached w) on.done)) (told_of next.one ∷ [])
            ∙ ap (λ l. old ++ l) (sym (told_with true lost))));
      }

-- a collection destroys those that are not reached
pub cleared : (w : World) → KeepsAlways w → length w.clients ≤ 16 → all_going (losing w) w ≡ clearing w
cleared w h few = sym (clearing_singly w (losing w) h (losing_lost w) (lost_there w h few))

module _ (w : World) (marked reached : List SurfaceId) (start v : SurfaceManager) (k : ℕ) (old new : List Lost)
    (h : IsDestroying w marked reached start)
    (over : length marked ≤ k) (on : IsGoingOn w k v old new) where
  no_rest : on.rest ≡ []
  no_rest = grind (arith, nat_tests, common_steps, marked_are 16 w, length-map)

  ends_there : on.now ≡ clearing w
  unfolding all_going
  ends_there = ap (λ l. all_going (filter (unreached w) l) on.now) (sym no_rest) ∙ (on.leads ∙ cleared w h.stands.always h.few)

  pub ends : AreSettling (clearing w) None v
  ends = subst (λ x. AreSettling x None v) ends_there on.stands

  pub ends_named : naming (clearing w) ≡ clearing w
  ends_named = subst (λ x. naming x ≡ x) ends_there on.named

  pub ends_told : new ≡ old ++ destroyed_in w
  ends_told = grind (arith, nat_tests, common_steps, to (made w) 16, made w, no_rest, told_of, unreached w, told_whole w h.stands.always h.named h.few)

-- those of the first so many that are not reached are destroyed and told, and nothing more is out or owed
abbrev pub AreGoing : List SurfaceId → List SurfaceId → SurfaceManager → Roomy Lost → ℕ → SurfaceManager → Roomy Lost → Type 0
AreGoing marked reached start first k v told =
    ((w : World) → IsDestroying w marked reached start → IsGoingOn w k v first.list told.list)
    × (first.spare ≤ told.spare + k)
    × (v.live.kept.temporary ≡ start.live.kept.temporary)
    × (resources_out v.live.lent ≡ resources_out start.live.lent)
    × (owed_count v.live.owed.owed ≡ owed_count start.live.owed.owed)

-- where none is marked, a collection changes nothing
module _ (w : World) (root : Option SurfaceId) (v : SurfaceManager) (h : IsToCollect w root v) (none : marked_to 16 (stored_of w) ≡ []) where
  no_ids : (l : List Surface) → map (λ (c : Surface). c.id) l ≡ [] → l ≡ []
  no_ids [] e = refl
  no_ids (c ∷ cs) e = absurd (cc)

  none_lose : losing w ≡ []
  none_lose = ap (filter (unreached w)) (no_ids (to (made w) 16) (sym (marked_are 16 w) ∙ none))

  all_stay : clearing w ≡ w
  unfolding all_going
  all_stay = sym (cleared w h.stands.always h.few) ∙ ap (λ l. all_going l w) none_lose

  pub stays_whole : AreSettling (clearing w) None v
  stays_whole = subst (λ x. AreSettling x None v) (sym all_stay) h.stands

  pub stays_named : naming (clearing w) ≡ clearing w
  stays_named = subst (λ x. naming x ≡ x) (sym all_stay) h.named

  pub none_told : (old : List Lost) → old ≡ old ++ destroyed_in w
  none_told old = grind (arith, nat_tests, common_steps, told_whole w h.stands.always h.named h.few, told_of, none_lose)

-- the marked ones, put into an empty list
pub listed : (first out slice more : List SurfaceId) → out ≡ first ++ more → first ≡ [] → slice ≡ out → slice ≡ more
listed first out slice more e f g = g ∙ (e ∙ ap (λ l. l ++ more) f)

pub none_listed : (w : World) (v : SurfaceManager) (first out slice : List SurfaceId) → AreSettling w None v
    → out ≡ first ++ marked_to 16 v.live.store → first ≡ [] → slice ≡ out
    → (length slice == 0) ≡ true → marked_to 16 (stored_of w) ≡ []
none_listed w v first out slice h e f g none = grind (arith, nat_tests, listed first out slice (marked_to 16 v.live.store) e f g, none_long slice, eqb-true (length slice) 0 none)
