-- The last created surface of a client, and what is kept of it.
use Rattle.std.proofs.Common.{◌≡◌, ℕ, zero, suc, ◌+◌, ◌≤◌, Bool, true, false, not, ◌&&◌, ◌||◌, ◌==◌, inl, inr, Option, Some, None, List, [], ◌∷◌, ◌++◌, map, filter, reverse, take, refl, ap, sym, ◌∙◌, arith, cond, subst, slice_get, Contains, count_by, option_map, length, append-nil}
use Rattle.std.specs.Prelude.{nat_le, nat_lt}
use Rattle.std.proofs.lemmas.List.{reverse-append}
use Rattle.std.proofs.lemmas.List.Elements.{filter-append}
use Rattle.std.proofs.lemmas.Bool.{and_parts, and_from, or_cases, or_left, or_right, both_ways, cases_order, eq-eqb, eqb-true, leb-true, ltb-true, le-leb, lt-ltb}
use Rattle.vz_ids.specs.declared.LocalSurfaceId.{LocalSurfaceId}
use Rattle.vz_ids.specs.declared.SurfaceId.{SurfaceId}
use Rattle.vz_ids.specs.Ids.{same_sink, same_local, same_surface, is_raised}
use Rattle.vz_frame.specs.Frame.{first_of}
use Rattle.vz_rules.specs.World.{Client, Surface}
use Rattle.vz_rules.specs.Scene.{or_else}
use Rattle.vz_rules.specs.Messages.{violates, is_last}
use Rattle.vz_rules.specs.Kept.{KeepsClients, KeepsSurfaces, IsOfClient, last_in, is_surface_of}
use Rattle.vz_rules.proofs.Reached.{from_same, self_same, self_same_sink}
use Rattle.vz_rules.proofs.Members.{contains_cases, contains_none, contains_at, at_contains, at_same, at_within, at_push, contains_push}
use Rattle.vz_rules.proofs.Counts.{count_before}

-- The last that passes

module _ {A : Type 0} where
  abbrev last_of : (A → Bool) → List A → Option A
  last_of p xs = first_of (reverse (filter p xs))

  first_end : (zs : List A) (x : A) → first_of (zs ++ x ∷ []) ≡ or_else (first_of zs) (Some x)
  first_end [] x = refl
  first_end (z ∷ zs) x = refl

  last_cons : (x : A) (ys : List A) → first_of (reverse (x ∷ ys)) ≡ or_else (first_of (reverse ys)) (Some x)
  last_cons x ys = ap first_of (reverse-append (x ∷ []) ys) ∙ first_end (reverse ys) x

  last_step : (p : A → Bool) (x : A) (xs : List A) → last_of p (x ∷ xs) ≡ cond (p x) (or_else (last_of p xs) (Some x)) (last_of p xs)
  last_step p x xs =
      elim (p x) as (λ (t : Bool). first_of (reverse (cond t (x ∷ filter p xs) (filter p xs))) ≡ cond t (or_else (last_of p xs) (Some x)) (last_of p xs)) [
        | true ↦ last_cons x (filter p xs)
        | false ↦ refl
      ]

  is_there : (o : Option A) (x : A) → or_else o (Some x) ≡ None → ⊥
  is_there None x h = absurd (cc)
  is_there (Some y) x h = absurd (cc)

  pub last_none : (p : A → Bool) (xs : List A) (y : A) → last_of p xs ≡ None → Contains xs y → p y ≡ true → ⊥
  last_none p [] y h c e = contains_none y c
  last_none p (x ∷ xs) y h c e =
      elim (p x) as (λ (t : Bool). p x ≡ t → cond t (or_else (last_of p xs) (Some x)) (last_of p xs) ≡ None → ⊥) [
        | true ↦ λ f k. is_there (last_of p xs) x k
        | false ↦ λ f k. elim (contains_cases x y xs c) [
          | inl s ↦ both_ways (p x) f (ap p s ∙ e)
          | inr r ↦ last_none p xs y k r e
        ]
      ] refl (sym (last_step p x xs) ∙ h)

  -- it passes, and none after it does
  abbrev IsLastAt : (A → Bool) → List A → A → ℕ → Type 0
  IsLastAt p xs y m = (slice_get xs m ≡ Some y) × (p y ≡ true) × ((n : ℕ) (z : A) → slice_get xs n ≡ Some z → p z ≡ true → n ≤ m)

  later : (p : A → Bool) (x : A) (xs : List A) (y : A) (m : ℕ) → IsLastAt p xs y m → IsLastAt p (x ∷ xs) y (suc m)
  later p x xs y m h = (h.0, h.1, later_by)
    where
      later_by : (n : ℕ) (z : A) → slice_get (x ∷ xs) n ≡ Some z → p z ≡ true → n ≤ suc m
      later_by zero z k e = omega arith
      later_by (suc n) z k e = omega (arith, h.2 n z k e)

  alone_by : (p : A → Bool) (x : A) (xs : List A) → last_of p xs ≡ None → (n : ℕ) (z : A) → slice_get (x ∷ xs) n ≡ Some z → p z ≡ true → n ≤ 0
  alone_by p x xs e zero z k f = omega arith
  alone_by p x xs e (suc n) z k f = absurd (last_none p xs z e (at_contains xs n z k) f)

  pub last_at : (p : A → Bool) (xs : List A) (y : A) → last_of p xs ≡ Some y → (m : ℕ) × IsLastAt p xs y m
  last_at p [] y h = absurd (cc)
  last_at p (x ∷ xs) y h =
      elim (p x) as (λ (t : Bool). p x ≡ t → cond t (or_else (last_of p xs) (Some x)) (last_of p xs) ≡ Some y → (m : ℕ) × IsLastAt p (x ∷ xs) y m) [
        | true ↦ λ f k.
            elim (last_of p xs) as (λ (o : Option A). last_of p xs ≡ o → or_else o (Some x) ≡ Some y → (m : ℕ) × IsLastAt p (x ∷ xs) y m) [
              | None ↦ λ e l. let s : x ≡ y = cc in (0, (ap (λ z. Some z) s, ap p (sym s) ∙ f, alone_by p x xs e))
              | Some z ↦ λ e l. let r = last_at p xs y (e ∙ l) in (suc r.0, later p x xs y r.0 r.1)
            ] refl k
        | false ↦ λ f k. let r = last_at p xs y k in (suc r.0, later p x xs y r.0 r.1)
      ] refl (sym (last_step p x xs) ∙ h)

  pub last_push : (p : A → Bool) (xs : List A) (y : A) (t : Bool) → p y ≡ t → last_of p (xs ++ y ∷ []) ≡ cond t (Some y) (last_of p xs)
  last_push p xs y true e =
      ap (λ l. first_of (reverse l)) (filter-append p xs (y ∷ []) ∙ ap (λ (u : Bool). filter p xs ++ cond u (y ∷ []) []) e)
      ∙ ap first_of (reverse-append (filter p xs) (y ∷ []))
  last_push p xs y false e =
      ap (λ l. first_of (reverse l)) ((filter-append p xs (y ∷ []) ∙ ap (λ (u : Bool). filter p xs ++ cond u (y ∷ []) []) e) ∙ append-nil (filter p xs))

or_mapped : {A : Type 0} (g : A → A) (o : Option A) (x : A) → or_else (option_map g o) (Some (g x)) ≡ option_map g (or_else o (Some x))
or_mapped g None x = refl
or_mapped g (Some y) x = refl

pub last_map : {A : Type 0} (g : A → A) (p : A → Bool) (xs : List A) → ((x : A) → p (g x) ≡ p x) → last_of p (map g xs) ≡ option_map g (last_of p xs)
last_map g p [] same = refl
last_map g p (x ∷ xs) same =
    last_step p (g x) (map g xs)
    ∙ (ap (λ (t : Bool). cond t (or_else (last_of p (map g xs)) (Some (g x))) (last_of p (map g xs))) (same x)
    ∙ (ap (λ o. cond (p x) (or_else o (Some (g x))) o) (last_map g p xs same)
    ∙ (by_test (p x) ∙ ap (option_map g) (sym (last_step p x xs)))))
  where
    by_test : (t : Bool)
        → cond t (or_else (option_map g (last_of p xs)) (Some (g x))) (option_map g (last_of p xs)) ≡ option_map g (cond t (or_else (last_of p xs) (Some x)) (last_of p xs))
    by_test true = or_mapped g (last_of p xs) x
    by_test false = refl

-- Which surface is the last

-- of two surfaces of a client the earlier one has the smaller number
pub earlier_is_less : (cs : List Client) (ss : List Surface) (n m : ℕ) (s t : Surface) → KeepsSurfaces cs ss → slice_get ss n ≡ Some s → slice_get ss m ≡ Some t
    → s.client ≡ t.client → n ≤ m → s.number ≤ t.number
earlier_is_less cs ss n m s t h p q same l =
    elim (cases_order n m) [
      | inl e ↦ omega (arith, ap (λ (x : Surface). x.number) (at_same ss n m s t p q e))
      | inr r ↦ elim r [
        | inl k ↦ omega (
          arith,
          h.numbered n s p,
          h.numbered m t q,
          ap (λ c. count_by (is_surface_of c) (take n ss)) same,
          count_before (is_surface_of t.client) ss n m s p (eq-eqb s.client t.client same) k,
        )
        | inr k ↦ absurd (omega (arith, l, k))
      ]
    ]

not_on : (a b : LocalSurfaceId) → is_raised a b ≡ true → same_local a b ≡ true → ⊥
not_on a b h k =
    let on = and_parts (nat_le a.parent b.parent && nat_le a.child b.child) (nat_lt a.parent b.parent || nat_lt a.child b.child) h in
    let parts = and_parts ((a.parent == b.parent) && (a.child == b.child)) (a.token.0 == b.token.0) k in
    let numbers = and_parts (a.parent == b.parent) (a.child == b.child) parts.0 in
    elim (or_cases (nat_lt a.parent b.parent) (nat_lt a.child b.child) on.1) [
      | inl l ↦ omega (arith, ltb-true a.parent b.parent l, eqb-true a.parent b.parent numbers.0)
      | inr l ↦ omega (arith, ltb-true a.child b.child l, eqb-true a.child b.child numbers.1)
    ]

-- of one sink there is one client
pub one_client : (cs : List Client) (c d : Client) → KeepsClients cs → Contains cs c → Contains cs d → c.sink ≡ d.sink → c ≡ d
one_client cs c d h p q e =
    let n = contains_at cs c p in
    let m = contains_at cs d q in
    at_same cs n.0 m.0 c d n.1 m.1 (h.distinct n.0 m.0 c d n.1 m.1 (ap (λ x. same_sink x d.sink) e ∙ self_same_sink d.sink))

-- surfaces of one sink are of one client
pub one_owner : (cs : List Client) (ss : List Surface) (s t : Surface) → KeepsClients cs → KeepsSurfaces cs ss → Contains ss s → Contains ss t
    → s.id.sink ≡ t.id.sink → s.client ≡ t.client
one_owner cs ss s t hc hs p q e =
    let a = hs.of_clients s p in
    let b = hs.of_clients t q in
    sym a.2 ∙ (ap (λ (x : Client). x.number) (one_client cs a.0 b.0 hc a.1 b.1 (a.3 ∙ (e ∙ sym b.3))) ∙ b.2)

locals_same : (s t : Surface) → same_surface s.id t.id ≡ true → same_local s.id.local t.id.local ≡ true
locals_same s t h = (and_parts (same_sink s.id.sink t.id.sink) (same_local s.id.local t.id.local) h).1

same_back : (a b : SurfaceId) → same_surface a b ≡ true → same_surface b a ≡ true
same_back a b h = ap (λ x. same_surface x a) (sym (from_same a b h)) ∙ self_same a

-- no two surfaces have one id
pub surfaces_differ : (cs : List Client) (ss : List Surface) → KeepsClients cs → KeepsSurfaces cs ss
    → (n m : ℕ) (s t : Surface) → slice_get ss n ≡ Some s → slice_get ss m ≡ Some t → same_surface s.id t.id ≡ true → n ≡ m
surfaces_differ cs ss hc hs n m s t p q h =
    let owner = one_owner cs ss s t hc hs (at_contains ss n s p) (at_contains ss m t q) (ap (λ (x : SurfaceId). x.sink) (from_same s.id t.id h)) in
    elim (cases_order n m) [
      | inl e ↦ e
      | inr r ↦ elim r [
        | inl l ↦ absurd (not_on s.id.local t.id.local (hs.go_on n m s t p q l owner) (locals_same s t h))
        | inr l ↦ absurd (not_on t.id.local s.id.local (hs.go_on m n t s q p l (sym owner)) (locals_same t s (same_back s.id t.id h)))
      ]
    ]

-- Surfaces with one more

end_of : (ss : List Surface) (new : Surface) (m : ℕ) (t : Surface) → slice_get (ss ++ new ∷ []) m ≡ Some t → m ≤ length ss
end_of ss new m t q = elim (at_push ss new m t q) [ inl r ↦ omega (arith, at_within ss m t r.0) | inr r ↦ omega (arith, r.0) ]

goes_far : (a b c : LocalSurfaceId) → is_raised a b ≡ true → is_raised b c ≡ true → is_raised a c ≡ true
goes_far a b c h k =
    let one = and_parts (nat_le a.parent b.parent && nat_le a.child b.child) (nat_lt a.parent b.parent || nat_lt a.child b.child) h in
    let two = and_parts (nat_le b.parent c.parent && nat_le b.child c.child) (nat_lt b.parent c.parent || nat_lt b.child c.child) k in
    let p = and_parts (nat_le a.parent b.parent) (nat_le a.child b.child) one.0 in
    let q = and_parts (nat_le b.parent c.parent) (nat_le b.child c.child) two.0 in
    let pp = leb-true a.parent b.parent p.0 in
    let pc = leb-true a.child b.child p.1 in
    let qp = leb-true b.parent c.parent q.0 in
    let qc = leb-true b.child c.child q.1 in
    and_from (nat_le a.parent c.parent && nat_le a.child c.child) (nat_lt a.parent c.parent || nat_lt a.child c.child)
    (and_from (nat_le a.parent c.parent) (nat_le a.child c.child) (le-leb a.parent c.parent (omega (arith, pp, qp))) (le-leb a.child c.child (omega (arith, pc, qc))))
    (elim (or_cases (nat_lt a.parent b.parent) (nat_lt a.child b.child) one.1) [
      | inl l ↦ or_left (nat_lt a.parent c.parent) (nat_lt a.child c.child) (lt-ltb a.parent c.parent (omega (arith, qp, ltb-true a.parent b.parent l)))
      | inr l ↦ or_right (nat_lt a.parent c.parent) (nat_lt a.child c.child) (lt-ltb a.child c.child (omega (arith, qc, ltb-true a.child b.child l)))
    ])

goes_by : (a b : Bool) → (not a && not b) ≡ false → a ≡ false → b ≡ true
goes_by true b h e = absurd (cc)
goes_by false true h e = refl
goes_by false false h e = absurd (cc)

-- an id that does not violate the last one, and is not it, goes on from all of the client
pub raised_from_all : (cs : List Client) (ss : List Surface) (c : ℕ) (local : LocalSurfaceId) (o : Option Surface) → KeepsSurfaces cs ss → last_in ss c ≡ o
    → violates o local ≡ false → is_last o local ≡ false
    → (n : ℕ) (s : Surface) → slice_get ss n ≡ Some s → s.client ≡ c → is_raised s.id.local local ≡ true
raised_from_all cs ss c local None h e v l n s p same = absurd (last_none (λ (x : Surface). x.client == c) ss s e (at_contains ss n s p) (eq-eqb s.client c same))
raised_from_all cs ss c local (Some last) h e v l n s p same =
    let at = last_at (λ (x : Surface). x.client == c) ss last e in
    let m = at.0 in
    let on : is_raised last.id.local local ≡ true = goes_by (same_local last.id.local local) (is_raised last.id.local local) v l in
    let owner : s.client ≡ last.client = same ∙ sym (eqb-true last.client c at.1.1) in
    elim (cases_order n m) [
      | inl f ↦ ap (λ (x : Surface). is_raised x.id.local local) (at_same ss n m s last p at.1.0 f) ∙ on
      | inr r ↦ elim r [
        | inl k ↦ goes_far s.id.local last.id.local local (h.go_on n m s last p at.1.0 k owner) on
        | inr k ↦ absurd (omega (arith, k, at.1.2 n s p (eq-eqb s.client c same)))
      ]
    ]

pub surfaces_more : (cs : List Client) (ss : List Surface) (new : Surface) → new.number ≡ count_by (is_surface_of new.client) ss + 1
    → IsOfClient cs new.client new.id
    → ((n : ℕ) (s : Surface) → slice_get ss n ≡ Some s → s.client ≡ new.client → is_raised s.id.local new.id.local ≡ true) → new.destroyed ≡ false
    → KeepsSurfaces cs ss → KeepsSurfaces cs (ss ++ new ∷ [])
surfaces_more cs ss new number owner goes stands h =
    record {
      numbered = λ n s p. elim (at_push ss new n s p) [
        | inl r ↦ h.numbered n s r.0 ∙ ap (λ l. count_by (is_surface_of s.client) l + 1) (sym r.1)
        | inr r ↦ subst (λ (x : Surface). x.number ≡ count_by (is_surface_of x.client) (take n (ss ++ new ∷ [])) + 1) r.1
            (number ∙ ap (λ l. count_by (is_surface_of new.client) l + 1) (sym r.2))
      ];
      of_clients = λ s c. elim (contains_push ss new s c) [
        | inl m ↦ h.of_clients s m
        | inr e ↦ subst (λ (x : Surface). IsOfClient cs x.client x.id) e owner
      ];
      go_on = λ n m s t p q l same. elim (at_push ss new n s p) [
        | inl a ↦ elim (at_push ss new m t q) [
          | inl b ↦ h.go_on n m s t a.0 b.0 l same
          | inr b ↦ subst (λ (x : Surface). is_raised s.id.local x.id.local ≡ true) b.1 (goes n s a.0 (same ∙ ap (λ (x : Surface). x.client) (sym b.1)))
        ]
        | inr a ↦ absurd (omega (arith, a.0, l, end_of ss new m t q))
      ];
      destroyed = λ s c d. elim (contains_push ss new s c) [
        | inl m ↦ h.destroyed s m d
        | inr e ↦ absurd (both_ways new.destroyed stands (ap (λ (x : Surface). x.destroyed) e ∙ d))
      ];
    }
