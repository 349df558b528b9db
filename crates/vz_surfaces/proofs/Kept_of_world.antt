-- What always holds of the machine's state always holds of a store.
use Rattle.std.proofs.Common.{◌≡◌, ◌+◌, ◌≤◌, true, List, map, take, refl, ap, sym, ◌∙◌, subst, count_by}
use Rattle.vz_ids.specs.Ids.{is_raised}
use Rattle.vz_rules.specs.World.{World, Client, Surface, Submission}
use Rattle.vz_rules.specs.Kept.{KeepsAlways, KeepsSurfaces, KeepsNumbers, IsOfClient, is_surface_of, is_by}
use Rattle.vz_rules.proofs.Members.{contains_map, map_contains, at_map}
use Rattle.vz_rules.proofs.Counts.{count_same, take_map}
use Rattle.vz_rules.proofs.Kept_names.{numbers_keep}
use Rattle.vz_rules.proofs.Kept_states.{OpensNone, states_keep}
use Rattle.vz_surfaces.specs.Stored.{bare_surface, bare_sub, stored_of}
use Rattle.vz_surfaces.specs.Keeping.{KeepsStored}
use Rattle.vz_surfaces.proofs.Telling.{stands_bare}

surfaces_bare : (cs : List Client) (ss : List Surface) → KeepsSurfaces cs ss → KeepsSurfaces cs (map bare_surface ss)
surfaces_bare cs ss h =
    record {
      numbered = λ n s at.
          let m = at_map bare_surface ss n s at in
          subst (λ (x : Surface). x.number ≡ count_by (is_surface_of x.client) (take n (map bare_surface ss)) + 1) m.2
          (h.numbered n m.0 m.1
          ∙ ap (λ k. k + 1) (sym (ap (count_by (is_surface_of m.0.client)) (take_map bare_surface n ss) ∙ count_same bare_surface (is_surface_of m.0.client) (is_surface_of m.0.client) (take n ss) (λ x. refl))));
      of_clients = λ s c. let m = contains_map bare_surface ss s c in subst (λ (x : Surface). IsOfClient cs x.client x.id) m.2 (h.of_clients m.0 m.1);
      go_on = λ n m s t p q l same.
          let a = at_map bare_surface ss n s p in
          let b = at_map bare_surface ss m t q in
          subst (λ (x : Surface). is_raised x.id.local t.id.local ≡ true) a.2
          (subst (λ (x : Surface). is_raised a.0.id.local x.id.local ≡ true) b.2
          (h.go_on n m a.0 b.0 a.1 b.1 l (ap (λ (x : Surface). x.client) a.2 ∙ (same ∙ ap (λ (x : Surface). x.client) (sym b.2)))));
      destroyed = λ s c d.
          let m = contains_map bare_surface ss s c in
          ap (λ (x : Surface). x.marked) (sym m.2) ∙ h.destroyed m.0 m.1 (ap (λ (x : Surface). x.destroyed) m.2 ∙ d);
    }

numbers_bare : (ss : List Surface) (subs : List Submission) → KeepsNumbers ss subs → KeepsNumbers (map bare_surface ss) subs
numbers_bare ss subs h =
    record {
      numbered = h.numbered;
      ordered = h.ordered;
      created = λ s c. let d = h.created s c in (bare_surface d.0, map_contains bare_surface ss d.0 d.1, d.2, d.3);
    }

opens_none : OpensNone bare_sub
opens_none = record { submitted = λ s. refl; waits = λ s e. e; acts = λ s e. e; was = λ s. refl }

pub keeps_of_world : (w : World) → KeepsAlways w → KeepsStored (stored_of w)
unfolding stored_of
keeps_of_world w h =
    record {
      clients = w.clients;
      sinks = h.clients;
      surfaces = surfaces_bare w.clients w.surfaces h.surfaces;
      numbers = numbers_keep bare_sub (map bare_surface w.surfaces) w.subs (λ s. refl) (numbers_bare w.surfaces w.subs h.numbers);
      few_created = λ c. subst (λ n. n ≤ count_by (is_by c) (map bare_sub w.subs)) (sym (count_same bare_surface (is_surface_of c) (is_surface_of c) w.surfaces (λ x. refl)))
          (subst (λ n. count_by (is_surface_of c) w.surfaces ≤ n) (sym (count_same bare_sub (is_by c) (is_by c) w.subs (λ x. refl))) (h.few_created c));
      states = states_keep bare_sub w.surfaces (map bare_surface w.surfaces) w.subs opens_none (λ s c o stands. stands_bare w.surfaces s.submitted.id ∙ stands) h.states;
    }
