-- What is kept of names and numbers, where clients, surfaces and submissions change but keep these.
use Rattle.std.proofs.Common.{◌≡◌, ℕ, ◌+◌, Bool, true, ◌==◌, List, map, take, ap, sym, ◌∙◌, cond, subst, Contains, count_by}
use Rattle.vz_ids.specs.declared.SurfaceId.{SurfaceId}
use Rattle.vz_ids.specs.Ids.{same_sink, same_surface, is_raised}
use Rattle.vz_rules.specs.World.{Client, Surface, Submission, is_on}
use Rattle.vz_rules.specs.Kept.{KeepsClients, KeepsSurfaces, KeepsNumbers, IsOfClient, IsCreated, is_surface_of, is_by}
use Rattle.vz_rules.proofs.Members.{when_same, contains_map, map_contains, at_map}
use Rattle.vz_rules.proofs.Counts.{count_same, take_map}

-- a client changes and keeps its name
pub record KeepsName (k : Client → Client) : Type 0 where
  pub number : (c : Client) → (k c).number ≡ c.number
  pub sink : (c : Client) → (k c).sink ≡ c.sink

-- a surface changes and keeps its name
pub record KeepsSurface (g : Surface → Surface) : Type 0 where
  pub client : (s : Surface) → (g s).client ≡ s.client
  pub number : (s : Surface) → (g s).number ≡ s.number
  pub id : (s : Surface) → (g s).id ≡ s.id
  pub born : (s : Surface) → (g s).born ≡ s.born

-- where it changes under a test
pub surface_when : (h : Surface → Surface) (test : Surface → Bool) → KeepsSurface h → KeepsSurface (λ s. cond (test s) (h s) s)
surface_when h test name =
    record {
      client = λ s. when_same (λ (x : Surface). x.client) h (test s) s (name.client s);
      number = λ s. when_same (λ (x : Surface). x.number) h (test s) s (name.number s);
      id = λ s. when_same (λ (x : Surface). x.id) h (test s) s (name.id s);
      born = λ s. when_same (λ (x : Surface). x.born) h (test s) s (name.born s);
    }

pub clients_keep : (k : Client → Client) (cs : List Client) → KeepsName k → KeepsClients cs → KeepsClients (map k cs)
clients_keep k cs name h =
    record {
      numbered = λ n c at. let m = at_map k cs n c at in ap (λ (x : Client). x.number) (sym m.2) ∙ (name.number m.0 ∙ h.numbered n m.0 m.1);
      distinct = λ n m c d p q same.
          let a = at_map k cs n c p in
          let b = at_map k cs m d q in
          h.distinct n m a.0 b.0 a.1 b.1
          (ap (λ x. same_sink x b.0.sink) (sym (name.sink a.0) ∙ ap (λ (x : Client). x.sink) a.2)
          ∙ (ap (same_sink c.sink) (sym (name.sink b.0) ∙ ap (λ (x : Client). x.sink) b.2) ∙ same));
    }

of_client_keep : (k : Client → Client) (cs : List Client) (c : ℕ) (id : SurfaceId) → KeepsName k → IsOfClient cs c id → IsOfClient (map k cs) c id
of_client_keep k cs c id name h = (k h.0, map_contains k cs h.0 h.1, name.number h.0 ∙ h.2, name.sink h.0 ∙ h.3)

-- surfaces stay, and clients keep their names
pub surfaces_of_clients : (k : Client → Client) (cs : List Client) (ss : List Surface) → KeepsName k → KeepsSurfaces cs ss → KeepsSurfaces (map k cs) ss
surfaces_of_clients k cs ss name h =
    record {
      numbered = h.numbered;
      of_clients = λ s c. of_client_keep k cs s.client s.id name (h.of_clients s c);
      go_on = h.go_on;
      destroyed = h.destroyed;
    }

-- surfaces keep their names, and one that is destroyed is marked
pub surfaces_keep : (g : Surface → Surface) (cs : List Client) (ss : List Surface) → KeepsSurface g
    → ((s : Surface) → Contains ss s → (s.destroyed ≡ true → s.marked ≡ true) → (g s).destroyed ≡ true → (g s).marked ≡ true)
    → KeepsSurfaces cs ss → KeepsSurfaces cs (map g ss)
surfaces_keep g cs ss name marks h =
    record {
      numbered = λ n s at.
          let m = at_map g ss n s at in
          let same : s.client ≡ m.0.client = ap (λ (x : Surface). x.client) (sym m.2) ∙ name.client m.0 in
          ap (λ (x : Surface). x.number) (sym m.2)
          ∙ (name.number m.0
          ∙ (h.numbered n m.0 m.1
          ∙ ap (λ k. k + 1) (sym (
          ap (count_by (is_surface_of s.client)) (take_map g n ss)
          ∙ count_same g (is_surface_of s.client) (is_surface_of m.0.client) (take n ss) (λ x. ap (λ c. c == s.client) (name.client x) ∙ ap (λ c. x.client == c) same)
          ))));
      of_clients = λ s c.
          let m = contains_map g ss s c in
          subst (λ (x : Surface). IsOfClient cs x.client x.id) m.2
          (subst (λ c. IsOfClient cs c (g m.0).id) (sym (name.client m.0)) (subst (λ id. IsOfClient cs m.0.client id) (sym (name.id m.0)) (h.of_clients m.0 m.1)));
      go_on = λ n m s t p q l same.
          let a = at_map g ss n s p in
          let b = at_map g ss m t q in
          let one : a.0.client ≡ b.0.client =
          sym (name.client a.0) ∙ (ap (λ (x : Surface). x.client) a.2 ∙ (same ∙ (ap (λ (x : Surface). x.client) (sym b.2) ∙ name.client b.0))) in
          ap (λ (x : Surface). is_raised x.id.local t.id.local) (sym a.2)
          ∙ (ap (λ (x : Surface). is_raised (g a.0).id.local x.id.local) (sym b.2)
          ∙ (ap (λ (x : SurfaceId). is_raised x.local (g b.0).id.local) (name.id a.0)
          ∙ (ap (λ (x : SurfaceId). is_raised a.0.id.local x.local) (name.id b.0) ∙ h.go_on n m a.0 b.0 a.1 b.1 l one)));
      destroyed = λ s c d.
          let m = contains_map g ss s c in
          ap (λ (x : Surface). x.marked) (sym m.2) ∙ marks m.0 m.1 (h.destroyed m.0 m.1) (ap (λ (x : Surface). x.destroyed) m.2 ∙ d);
    }

created_keep : (g : Surface → Surface) (ss : List Surface) (s : Submission) → KeepsSurface g → IsCreated ss s → IsCreated (map g ss) s
created_keep g ss s name h = (g h.0, map_contains g ss h.0 h.1, name.id h.0 ∙ h.2, name.client h.0 ∙ h.3)

-- submissions stay, and surfaces keep their names
pub numbers_of_surfaces : (g : Surface → Surface) (ss : List Surface) (subs : List Submission) → KeepsSurface g → KeepsNumbers ss subs
    → KeepsNumbers (map g ss) subs
numbers_of_surfaces g ss subs name h =
    record { numbered = h.numbered; ordered = h.ordered; created = λ s c. created_keep g ss s name (h.created s c) }

-- submissions keep what they were accepted with
pub numbers_keep : (f : Submission → Submission) (ss : List Surface) (subs : List Submission) → ((s : Submission) → (f s).submitted ≡ s.submitted)
    → KeepsNumbers ss subs → KeepsNumbers ss (map f subs)
numbers_keep f ss subs name h =
    record {
      numbered = λ n s at.
          let m = at_map f subs n s at in
          let same : s.submitted ≡ m.0.submitted = ap (λ (x : Submission). x.submitted) (sym m.2) ∙ name m.0 in
          ap (λ i. i.index) same
          ∙ (h.numbered n m.0 m.1
          ∙ ap (λ k. k + 1) (sym (
          ap (count_by (is_on s.submitted.id)) (take_map f n subs)
          ∙ count_same f (is_on s.submitted.id) (is_on m.0.submitted.id) (take n subs) (λ x. ap (λ i. same_surface i.id s.submitted.id) (name x) ∙ ap (λ i. same_surface x.submitted.id i.id) same)
          )));
      ordered = λ n s at.
          let m = at_map f subs n s at in
          let same : s.submitted ≡ m.0.submitted = ap (λ (x : Submission). x.submitted) (sym m.2) ∙ name m.0 in
          ap (λ i. i.sub.ordinal) same
          ∙ (h.ordered n m.0 m.1
          ∙ ap (λ k. k + 1) (sym (
          ap (count_by (is_by s.submitted.sub.client)) (take_map f n subs)
          ∙ count_same f (is_by s.submitted.sub.client) (is_by m.0.submitted.sub.client) (take n subs) (λ x. ap (λ i. i.sub.client == s.submitted.sub.client) (name x) ∙ ap (λ i. x.submitted.sub.client == i.sub.client) same)
          )));
      created = λ s c.
          let m = contains_map f subs s c in
          let same : m.0.submitted ≡ s.submitted = sym (name m.0) ∙ ap (λ (x : Submission). x.submitted) m.2 in
          let was = h.created m.0 m.1 in
          (was.0, was.1, was.2 ∙ ap (λ i. i.id) same, was.3 ∙ ap (λ i. i.sub.client) same);
    }
