-- What is temporary, as a begin-frame comes.
use Rattle.std.proofs.Common.{◌≡◌, ℕ, ◌+◌, ◌≤◌, Bool, true, false, ◌&&◌, ◌||◌, Option, List, [], ◌∷◌, filter, refl, ap, sym, ◌∙◌, cond, Contains, nat_lt, arith}
use Rattle.std.proofs.{lemmas.Bool.ltb-true, lemmas.Bool.lt-ltb, lemmas.Bool.Decides.nat_tests}
use Rattle.vz_base.specs.declared.limits.TheConstants.{TEMPORARY_TICKS}
use Rattle.vz_ids.specs.{declared.SurfaceId.SurfaceId, Ids.same_surface}
use Rattle.vz_rules.specs.{Plan.Plan, World.World, World.Surface, Kept.KeepsAlways, Step.next_tick, Step.deliver, Step.begin_answer}
use Rattle.vz_rules.specs.Reach.{has_closed}
use Rattle.vz_rules.proofs.{Reached.from_same, Reached.self_same, Kept_facts.surfaces_apart}
use Rattle.vz_rules.proofs.Members.{contains_here, contains_there, contains_at, at_same, filter_at}
use Rattle.vz_refs.specs.Referring.{Temporary}
use Rattle.vz_refs.specs.Referring.{Referring, lasting}
use Rattle.vz_surface_manager.specs.Kept_surfaces.{lasts, has_kept, AreKept}
use Rattle.vz_surface_manager.proofs.Sets_kept.{named_alike}
use Rattle.vz_surface_manager.proofs.Quiet_changes.{same_closed, closes_delivering}

-- of one id there is one surface
pub one_surface : (w : World) (s t : Surface) → KeepsAlways w → Contains w.surfaces s → Contains w.surfaces t → s.id ≡ t.id → s ≡ t
one_surface w s t h c d e = grind (arith, nat_tests, contains_at w.surfaces s c, contains_at w.surfaces t d, at_same w.surfaces, surfaces_apart w, self_same t.id)

-- those that last beyond a tick
kept_lasting : (n b : ℕ) (id : SurfaceId) (xs : List Temporary) → ((t : Temporary) → Contains xs t → same_surface t.id id ≡ true → t.until ≡ b)
    → has_kept (lasting n xs) id ≡ (has_kept xs id && nat_lt n b)
unfolding lasting
kept_lasting n b id [] f = refl
kept_lasting n b id (t ∷ xs) f =
    by (nat_lt n t.until) refl (same_surface t.id id) refl (kept_lasting n b id xs (λ s c. f s (contains_there t s xs c)))
  where
    by : (a : Bool) → nat_lt n t.until ≡ a → (e : Bool) → same_surface t.id id ≡ e → has_kept (filter (λ (t : Temporary). nat_lt n t.until) xs) id ≡ (has_kept xs id && nat_lt n b)
        → has_kept (cond a (t ∷ filter (λ (t : Temporary). nat_lt n t.until) xs) (filter (λ (t : Temporary). nat_lt n t.until) xs)) id ≡ ((e || has_kept xs id) && nat_lt n b)
    by true g true e rest =
        ap (λ q. q || has_kept (filter (λ (t : Temporary). nat_lt n t.until) xs) id) e ∙ sym (ap (nat_lt n) (sym (f t (contains_here t xs) e)) ∙ g)
    by true g false e rest = ap (λ q. q || has_kept (filter (λ (t : Temporary). nat_lt n t.until) xs) id) e ∙ rest
    by false g true e rest =
        let out : nat_lt n b ≡ false = ap (nat_lt n) (sym (f t (contains_here t xs) e)) ∙ g in
        rest ∙ (ap (λ q. has_kept xs id && q) out ∙ (none (has_kept xs id) ∙ sym out))
      where
        none : (q : Bool) → (q && false) ≡ false
        none true = refl
        none false = refl
    by false g false e rest = rest

later : (tick b : ℕ) (q : Bool) → (nat_lt (next_tick tick) b ≡ true → nat_lt tick b ≡ true) → (q && nat_lt (next_tick tick) b) ≡ ((q && nat_lt tick b) && nat_lt (next_tick tick) b)
later tick b q f = grind (arith, nat_tests)

goes_on : (tick : ℕ) → tick ≤ next_tick tick
goes_on tick = grind (arith, nat_tests)

still : (tick b : ℕ) → nat_lt (next_tick tick) b ≡ true → nat_lt tick b ≡ true
still tick b e = let l = ltb-true (next_tick tick) b e in let g = goes_on tick in lt-ltb tick b (omega (arith, l, g))

module _ (p : Plan) (w : World) (but : Option SurfaceId) (r : Referring) (always : KeepsAlways w) (h : AreKept w but r) where
  until_is : (c : Surface) → Contains w.surfaces c → (t : Temporary) → Contains r.temporary t → same_surface t.id c.id ≡ true → t.until ≡ c.born + TEMPORARY_TICKS
  until_is c m t d e =
      let k = h.known t d in
      let one : k.0 ≡ c = one_surface w k.0 c always k.1 m (k.2 ∙ from_same t.id c.id e) in
      k.3 ∙ ap (λ (s : Surface). s.born + TEMPORARY_TICKS) one

  closed_ticked : (q : ℕ) → has_closed (begin_answer p w).world q ≡ has_closed w q
  unfolding begin_answer
  closed_ticked = same_closed (deliver p w (next_tick w.tick)) w (begin_answer p w).world refl (closes_delivering p w (next_tick w.tick))

  lasts_ticked : (c : Surface) → lasts (begin_answer p w).world c ≡ (lasts w c && nat_lt (next_tick w.tick) (c.born + TEMPORARY_TICKS))
  unfolding lasts begin_answer
  lasts_ticked c = grind (arith, nat_tests, named_alike w (begin_answer p w).world c.id refl refl, closed_ticked c.client, later w.tick, still w.tick)

  kept_one : (c : Surface) → Contains w.surfaces c → has_kept (lasting (next_tick w.tick) r.temporary) c.id ≡ (has_kept r.temporary c.id && nat_lt (next_tick w.tick) (c.born + TEMPORARY_TICKS))
  kept_one c m = kept_lasting (next_tick w.tick) (c.born + TEMPORARY_TICKS) c.id r.temporary (until_is c m)

  pub kept_ticking : AreKept (begin_answer p w).world but (record r { temporary = lasting (next_tick w.tick) r.temporary })
  unfolding begin_answer lasting
  kept_ticking =
      record {
        sets = h.sets;
        own = h.own;
        all_set = h.all_set;
        lasting = λ c m e. kept_one c m ∙ (ap (λ q. q && nat_lt (next_tick w.tick) (c.born + TEMPORARY_TICKS)) (h.lasting c m e) ∙ sym (lasts_ticked c));
        fresh = λ c m e. kept_one c m ∙ ap (λ q. q && nat_lt (next_tick w.tick) (c.born + TEMPORARY_TICKS)) (h.fresh c m e);
        known = λ t m. h.known t (filter_at (λ (t : Temporary). nat_lt (next_tick w.tick) t.until) r.temporary t m).0;
        noted = h.noted;
      }
