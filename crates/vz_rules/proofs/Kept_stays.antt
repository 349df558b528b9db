-- The last created surface of a client that is not closed stays: over changes, over one surface more, and over a round.
use Rattle.std.proofs.Common.{◌≡◌, ℕ, ◌≤◌, Bool, true, false, not, ◌&&◌, ◌==◌, Option, Some, None, List, [], ◌∷◌, ◌++◌, map, refl, ap, sym, ◌∙◌, arith, subst, Contains, option_map, find}
use Rattle.std.specs.Prelude.{nat_lt}
use Rattle.std.specs.List.{list_any}
use Rattle.std.proofs.lemmas.Bool.{and_parts, eqb-true, eq-eqb, ltb-true, false_from_ne_true, cond-false}
use Rattle.vz_ids.specs.declared.SurfaceId.{SurfaceId}
use Rattle.vz_ids.specs.Ids.{same_surface}
use Rattle.vz_rules.specs.World.{Client, Surface, Submission}
use Rattle.vz_rules.specs.Settle.{number_of, is_before, marked_by}
use Rattle.vz_rules.specs.Reach.{is_lost, destroy}
use Rattle.vz_rules.specs.Kept.{KeepsClients, KeepsSurfaces, IsCreated, LastStays, last_in}
use Rattle.vz_rules.proofs.Reached.{from_same}
use Rattle.vz_rules.proofs.Members.{contains_map, contains_at, any_none, find_at}
use Rattle.vz_rules.proofs.Kept_names.{KeepsName, KeepsSurface}
use Rattle.vz_rules.proofs.Kept_last.{last_map, last_push, last_at, one_owner, earlier_is_less}

mapped_some : {A : Type 0} (g : A → A) (o : Option A) (y : A) → option_map g o ≡ Some y → (x : A) × (o ≡ Some x) × (g x ≡ y)
mapped_some g None y h = absurd (cc)
mapped_some g (Some x) y h = (x, refl, cc)

-- neither destroyed nor marked
abbrev pub IsSafe : Surface → Type 0
IsSafe s = (s.destroyed ≡ false) × (s.marked ≡ false)

pub last_keeps : (k : Client → Client) (g : Surface → Surface) (cs : List Client) (ss : List Surface) → KeepsName k
    → ((c : Client) → (k c).closed ≡ false → c.closed ≡ false)
    → KeepsSurface g → ((c : Client) (s : Surface) → Contains cs c → (k c).closed ≡ false → last_in ss c.number ≡ Some s → IsSafe s → IsSafe (g s))
    → LastStays cs ss → LastStays (map k cs) (map g ss)
last_keeps k g cs ss name opens surface safe h c s p o e =
    let m = contains_map k cs c p in
    let number : c.number ≡ m.0.number = ap (λ (x : Client). x.number) (sym m.2) ∙ name.number m.0 in
    let z = mapped_some g (last_in ss c.number) s (sym (last_map g (λ (x : Surface). x.client == c.number) ss (λ x. ap (λ n. n == c.number) (surface.client x))) ∙ e) in
    let was : last_in ss m.0.number ≡ Some z.0 = ap (last_in ss) (sym number) ∙ z.1 in
    let now : (k m.0).closed ≡ false = ap (λ (x : Client). x.closed) m.2 ∙ o in
    subst IsSafe z.2 (safe m.0 z.0 m.1 now was (h m.0 z.0 m.1 (opens m.0 now) was))

pub last_more : (cs : List Client) (ss : List Surface) (new : Surface) → IsSafe new → LastStays cs ss → LastStays cs (ss ++ new ∷ [])
last_more cs ss new safe h c s p o e = by_test (new.client == c.number) refl
  where
    by_test : (t : Bool) → (new.client == c.number) ≡ t → IsSafe s
    by_test true f =
        let one : ◌≡◌ {A = Option Surface} (Some new) (Some s) = sym (last_push (λ (x : Surface). x.client == c.number) ss new true f) ∙ e in
        let same : new ≡ s = cc in
        subst IsSafe same safe
    by_test false f = h c s p o (sym (last_push (λ (x : Surface). x.client == c.number) ss new false f) ∙ e)

-- no submission is on a surface that is later than the last one of its client
never_later : (cs : List Client) (ss : List Surface) (a : Submission) (s : Surface) (c : ℕ) (o : Option Surface) → KeepsClients cs → KeepsSurfaces cs ss
    → IsCreated ss a
    → last_in ss c ≡ Some s → s.client ≡ a.submitted.sub.client → find (λ (x : Surface). same_surface x.id a.submitted.id) ss ≡ o
    → (elim o [ Some x ↦ x.number | None ↦ 0 ]) ≤ s.number
never_later cs ss a s c None hc hs d e owner f = omega arith
never_later cs ss a s c (Some x) hc hs d e owner f =
    let at = last_at (λ (y : Surface). y.client == c) ss s e in
    let found = find_at (λ (y : Surface). same_surface y.id a.submitted.id) ss x f in
    let same : x.id ≡ d.0.id = from_same x.id a.submitted.id found.1 ∙ sym d.2 in
    let own : x.client ≡ s.client = one_owner cs ss x d.0 hc hs found.0 d.1 (ap (λ (i : SurfaceId). i.sink) same) ∙ (d.3 ∙ sym owner) in
    let n = contains_at ss x found.0 in
    earlier_is_less cs ss n.0 at.0 x s hs n.1 at.1.0 own (at.1.2 n.0 x n.1 (eq-eqb x.client c (own ∙ eqb-true s.client c at.1.1)))

not_before : (cs : List Client) (ss : List Surface) (a : Submission) (s : Surface) (c : ℕ) → KeepsClients cs → KeepsSurfaces cs ss → IsCreated ss a
    → last_in ss c ≡ Some s → is_before ss s a ≡ false
not_before cs ss a s c hc hs d e =
    false_from_ne_true (is_before ss s a) (λ t.
    let both = and_parts (s.client == a.submitted.sub.client) (nat_lt s.number (number_of ss a)) t in
    omega (arith, ltb-true s.number (number_of ss a) both.1, never_later cs ss a s c (find (λ (x : Surface). same_surface x.id a.submitted.id) ss) hc hs d e (eqb-true s.client a.submitted.sub.client both.0) refl))

-- a round does not mark the last surface of a client
pub last_unmarked : (cs : List Client) (ss : List Surface) (activated : List Submission) (s : Surface) (c : ℕ) → KeepsClients cs → KeepsSurfaces cs ss
    → ((a : Submission) → Contains activated a → IsCreated ss a) → last_in ss c ≡ Some s → IsSafe s → IsSafe (marked_by ss activated s)
last_unmarked cs ss activated s c hc hs made e safe =
    subst IsSafe (sym (cond-false (list_any (is_before ss s) activated) _ s (any_none (is_before ss s) activated (λ a p. not_before cs ss a s c hc hs (made a p) e)))) safe

-- nothing that is not marked is destroyed
pub unmarked_stays : (kept : List SurfaceId) (s : Surface) → IsSafe s → IsSafe (destroy kept s)
unmarked_stays kept s safe = subst IsSafe (sym (cond-false (is_lost kept s) _ s (lost_by s.marked s.destroyed _ safe.1))) safe
  where
    lost_by : (m d h : Bool) → m ≡ false → (m && not d && h) ≡ false
    lost_by true d h e = absurd (cc)
    lost_by false d h e = refl
