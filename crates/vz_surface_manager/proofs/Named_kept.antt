-- What is temporary stays so where what is named now is named.
use Rattle.std.proofs.Common.{◌≡◌, ◌+◌, Bool, true, false, not, ◌&&◌, ◌||◌, Option, map, refl, ap, sym, ◌∙◌, cond, Contains, nat_lt, arith}
use Rattle.vz_base.specs.declared.limits.TheConstants.{TEMPORARY_TICKS}
use Rattle.vz_ids.specs.{declared.SurfaceId.SurfaceId, Ids.same_surface}
use Rattle.vz_rules.specs.{World.World, World.Surface, Reach.is_named_now, Reach.has_closed, Reach.name_one, Reach.naming, Kept.stands_in}
use Rattle.vz_rules.proofs.Members.{contains_map, map_contains, any_map, found}
use Rattle.vz_rules.proofs.Kept_reach.{named_after, naming_stays}
use Rattle.vz_refs.specs.Referring.{Temporary}
use Rattle.vz_refs.specs.Referring.{Referring}
use Rattle.vz_surface_manager.specs.Kept_surfaces.{lasts, is_one, has_kept, AreNoted, IsKeptFor, AreKept}
use Rattle.vz_surface_manager.proofs.Accepted_kept.{same_named}
use Rattle.std.proofs.lemmas.Bool.Decides.{nat_tests}

abbrev lasts_as : Bool → Bool → Bool → Bool → Bool → Bool
lasts_as d n k cl y = ((not d && not (n || k)) && not cl) && y

named_more : (d n k cl y : Bool) → lasts_as d ((not d && k) || n) k cl y ≡ lasts_as d n k cl y
named_more d n k cl y = grind (arith, nat_tests)

one_id : (t : Bool) (c : Surface) → (cond t (record c { named = true }) c).id ≡ c.id
one_id t c = grind (arith, nat_tests)

one_gone : (t : Bool) (c : Surface) → (cond t (record c { named = true }) c).destroyed ≡ c.destroyed
one_gone t c = grind (arith, nat_tests)

one_born : (t : Bool) (c : Surface) → (cond t (record c { named = true }) c).born ≡ c.born
one_born t c = grind (arith, nat_tests)

lasts_one : (v : World) (c : Surface) (t : Bool) → lasts v (cond t (record c { named = true }) c) ≡ lasts_as c.destroyed (t || c.named) (is_named_now v c.id) (has_closed v c.client) (nat_lt v.tick (c.born + TEMPORARY_TICKS))
unfolding lasts
lasts_one v c t = grind (arith, nat_tests)

module _ (w : World) (but : Option SurfaceId) (r : Referring) (h : AreKept w but r) where
  abbrev is_new : Surface → Bool
  is_new c = not c.destroyed && is_named_now w c.id

  stands_test : (id : SurfaceId) (c : Surface) → (same_surface (name_one w c).id id && not (name_one w c).destroyed) ≡ (same_surface c.id id && not c.destroyed)
  stands_test id c = ap (λ i. same_surface i id && not (name_one w c).destroyed) (one_id (is_new c) c) ∙ ap (λ d. same_surface c.id id && not d) (one_gone (is_new c) c)

  stands_named : (id : SurfaceId) → stands_in (map (name_one w) w.surfaces) id ≡ stands_in w.surfaces id
  stands_named id = grind (arith, nat_tests, found, any_map (name_one w), stands_test id)

  named_named : (id : SurfaceId) → is_named_now (naming w) id ≡ is_named_now w id
  unfolding naming
  named_named id = same_named w (naming w) id refl (λ i c. stands_named i.id)

  same_rest : (c : Surface) → lasts_as c.destroyed (is_new c || c.named) (is_named_now (naming w) c.id) (has_closed (naming w) c.client) (nat_lt (naming w).tick (c.born + TEMPORARY_TICKS))
      ≡ lasts_as c.destroyed (is_new c || c.named) (is_named_now w c.id) (has_closed w c.client) (nat_lt w.tick (c.born + TEMPORARY_TICKS))
  unfolding naming
  same_rest c = ap (λ k. lasts_as c.destroyed (is_new c || c.named) k (has_closed w c.client) (nat_lt w.tick (c.born + TEMPORARY_TICKS))) (named_named c.id)

  lasts_named : (c : Surface) → lasts (naming w) (name_one w c) ≡ lasts w c
  lasts_named c = grind (arith, nat_tests, lasts_one (naming w) c, same_rest c, named_more c.destroyed c.named (is_named_now w c.id) (has_closed w c.client), lasts_one w c false)

  made_from : (c : Surface) → Contains (naming w).surfaces c → (d : Surface) × Contains w.surfaces d × (name_one w d ≡ c)
  unfolding naming
  made_from c m = contains_map (name_one w) w.surfaces c m

  goes_in : (c : Surface) → Contains w.surfaces c → Contains (naming w).surfaces (name_one w c)
  unfolding naming
  goes_in c m = map_contains (name_one w) w.surfaces c m

  same_id : (c d : Surface) → name_one w d ≡ c → c.id ≡ d.id
  same_id c d e = ap (λ (s : Surface). s.id) (sym e) ∙ one_id (is_new d) d

  lasting_named : (c : Surface) → Contains (naming w).surfaces c → is_one but c.id ≡ false → has_kept r.temporary c.id ≡ lasts (naming w) c
  lasting_named c m apart = grind (arith, nat_tests, made_from c m, same_id c, lasts_named)

  fresh_named : (c : Surface) → Contains (naming w).surfaces c → is_one but c.id ≡ true → has_kept r.temporary c.id ≡ false
  fresh_named c m one = grind (arith, nat_tests, made_from c m, same_id c)

  known_named : (t : Temporary) → Contains r.temporary t → IsKeptFor (naming w).surfaces t
  known_named t m =
      let k = h.known t m in
      (name_one w k.0, goes_in k.0 k.1, one_id (is_new k.0) k.0 ∙ k.2, k.3 ∙ ap (λ n. n + TEMPORARY_TICKS) (sym (one_born (is_new k.0) k.0)))

  noted_named : AreNoted (naming w) but
  unfolding naming
  noted_named s t c p q m a b on n = grind (arith, nat_tests, made_from c m, same_id c)

  pub kept_naming : AreKept (naming w) but r
  unfolding naming
  kept_naming = grind (arith, nat_tests, lasting_named, fresh_named, known_named, noted_named)

-- then nothing more is named
pub named_again : (w : World) → naming (naming w) ≡ naming w
named_again w = naming_stays (naming w) (named_after w)
