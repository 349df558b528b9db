-- Marked surfaces by client, and which of them are lost.
use Rattle.std.proofs.Common.{◌≡◌, ℕ, zero, suc, ◌+◌, ◌-◌, ◌≤◌, ◌<◌, ◌==◌, Bool, true, false, not, ◌&&◌, inl, inr, Option, Some, None, List}
use Rattle.std.proofs.Common.{[], ◌∷◌, ◌++◌, length, map, filter, refl, ap, sym, ◌∙◌, subst, arith, cond, slice_get, Contains, append_assoc}
use Rattle.std.proofs.Common.{append-nil}
use Rattle.std.specs.{Prelude.nat_le, List.flat_map, List.filter_map, List.cons_option}
use Rattle.std.proofs.lemmas.Bool.{and_from, and_parts, eqb-true, eq-eqb, leb-true, leb-false, false_from_ne_true}
use Rattle.std.proofs.{lemmas.List.map-append, lemmas.Bool.Decides.nat_tests}
use Rattle.vz_ids.specs.Ids.{same_surface}
use Rattle.vz_rules.specs.{declared.entry.Lost.Lost, World.World, World.Client, World.Surface, Kept.KeepsAlways}
use Rattle.vz_rules.specs.Reach.{has_id, naming, reach, is_lost, lost_in, lost_of, destroyed_in}
use Rattle.vz_rules.proofs.Members.{contains_here, contains_there, contains_cases, contains_none, contains_at, at_same, at_within}
use Rattle.vz_rules.proofs.Members.{append_contains, filter_at, filter_has, filter_none}
use Rattle.vz_rules.proofs.Kept_facts.{surfaces_apart}
use Rattle.vz_surfaces.specs.{Stored.stored_of, Reading.marked_to}
use Rattle.vz_surfaces.proofs.Telling.{tells_marked}
use Rattle.vz_surface_manager.proofs.Names_differ.{AreApart, differ_joined, created_apart}

-- what so many numbers give, one after another
abbrev pub to : {B : Type 0} → (ℕ → List B) → ℕ → List B
to g zero = []
to g (suc n) = to g n ++ g (n + 1)

-- the marked surfaces of a client that exist
abbrev pub made : World → ℕ → List Surface
made w c = filter (λ (s : Surface). (s.client == c) && s.marked && not s.destroyed) w.surfaces

-- a surface is not reached
abbrev pub unreached : World → Surface → Bool
unreached w c = not (has_id (reach w) c.id)

-- those of all clients that are not reached
abbrev pub losing : World → List Surface
losing w = filter (unreached w) (to (made w) 16)

-- the surface by its client and its number
abbrev pub told_of : Surface → Lost
told_of c = record { client = c.client; surface = c.number }

pub marked_are : (n : ℕ) (w : World) → marked_to n (stored_of w) ≡ map (λ (c : Surface). c.id) (to (made w) n)
unfolding marked_to
marked_are zero w = refl
marked_are (suc n) w = grind (arith, nat_tests, marked_are n w, tells_marked w, map-append)

-- Members

left_contains : {A : Type 0} (xs ys : List A) (x : A) → Contains xs x → Contains (xs ++ ys) x
left_contains [] ys x c = absurd (contains_none x c)
left_contains (y ∷ xs) ys x c = grind (arith, nat_tests, contains_cases y x xs c, contains_here y, contains_there y x, left_contains xs ys x)

right_contains : {A : Type 0} (xs ys : List A) (x : A) → Contains ys x → Contains (xs ++ ys) x
right_contains [] ys x c = c
right_contains (y ∷ xs) ys x c = contains_there y x (xs ++ ys) (right_contains xs ys x c)

pub to_at : {B : Type 0} (g : ℕ → List B) (n : ℕ) (x : B) → Contains (to g n) x → (i : ℕ) × (i ≤ n) × Contains (g i) x
to_at g zero x c = absurd (contains_none x c)
to_at g (suc n) x c =
    elim (append_contains (to g n) (g (n + 1)) x c) [
      | inl m ↦ (let rest = to_at g n x m in (rest.0, omega (arith, rest.1), rest.2))
      | inr m ↦ (n + 1, omega arith, m)
    ]

to_has : {B : Type 0} (g : ℕ → List B) (n i : ℕ) (x : B) → 1 ≤ i → i ≤ n → Contains (g i) x → Contains (to g n) x
to_has g zero i x some few c = absurd (omega (arith, some, few))
to_has g (suc n) i x some few c = by (nat_le i n) refl (λ h. to_has g n i x some h c)
  where
    by : (t : Bool) → nat_le i n ≡ t → (i ≤ n → Contains (to g n) x) → Contains (to g n ++ g (n + 1)) x
    by true e rest = left_contains (to g n) (g (n + 1)) x (rest (leb-true i n e))
    by false e rest =
        let last : i ≡ n + 1 = omega (arith, few, leb-false i n e) in
        right_contains (to g n) (g (n + 1)) x (subst (λ k. Contains (g k) x) last c)

-- No two are of one id

made_client : (w : World) (c : ℕ) (s : Surface) → Contains (made w c) s
    → Contains w.surfaces s × (s.client ≡ c) × (s.marked ≡ true) × (s.destroyed ≡ false)
made_client w c s m =
    let f = filter_at (λ (s : Surface). (s.client == c) && s.marked && not s.destroyed) w.surfaces s m in
    let outer = and_parts ((s.client == c) && s.marked) (not s.destroyed) f.1 in
    let inner = and_parts (s.client == c) s.marked outer.0 in
    (f.0, eqb-true s.client c inner.0, inner.1, stands s.destroyed outer.1)
  where
    stands : (d : Bool) → not d ≡ true → d ≡ false
    stands true e = absurd (cc)
    stands false e = refl

-- of one that is marked: it was created, is marked, and exists
pub to_made : (w : World) (n : ℕ) (s : Surface) → Contains (to (made w) n) s
    → Contains w.surfaces s × (s.marked ≡ true) × (s.destroyed ≡ false)
to_made w n s c =
    let at = to_at (made w) n s c in
    let m = made_client w at.0 s at.2 in
    (m.0, m.2, m.3)

module _ (w : World) (h : KeepsAlways w) where
  one_of_id : (c d : Surface) → Contains w.surfaces c → Contains w.surfaces d → same_surface c.id d.id ≡ true → c ≡ d
  one_of_id c d p q e = grind (arith, nat_tests, contains_at w.surfaces c p, contains_at w.surfaces d q, at_same w.surfaces, surfaces_apart w)

  pub to_apart : (n : ℕ) → AreApart (to (made w) n)
  to_apart zero = tt
  to_apart (suc n) =
      differ_joined (λ c d. same_surface c.id d.id) (to (made w) n) (made w (n + 1)) (to_apart n) (created_apart w _ h)
      (λ x y c d. false_from_ne_true (same_surface y.id x.id) (λ e.
      let at = to_at (made w) n x c in
      let before = made_client w at.0 x at.2 in
      let after = made_client w (n + 1) y d in
      let one = ap (λ (s : Surface). s.client) (one_of_id y x after.0 before.0 e) in
      omega (arith, one, before.1, after.1, at.1)))

  -- where one was created by this client, there is such a client
  client_at : (s : Surface) → Contains w.surfaces s → (1 ≤ s.client) × (s.client ≤ length w.clients)
  client_at s c =
      let x = h.surfaces.of_clients s c in
      let n = contains_at w.clients x.0 x.1 in
      let number = h.clients.numbered n.0 x.0 n.1 in
      let within = at_within w.clients n.0 x.0 n.1 in
      (omega (arith, number, x.2), omega (arith, number, x.2, within))

  pub lost_there : length w.clients ≤ 16 → (s : Surface) → Contains (lost_in w) s → Contains (losing w) s
  unfolding lost_in
  lost_there few s c =
      let f = filter_at (is_lost (reach w)) w.surfaces s c in
      let outer = and_parts (s.marked && not s.destroyed) (unreached w s) f.1 in
      let inner = and_parts s.marked (not s.destroyed) outer.0 in
      let client = client_at s f.0 in
      filter_has (unreached w) (to (made w) 16) s
      (to_has (made w) 16 s.client s client.0 (omega (arith, client.1, few))
      (filter_has (λ (x : Surface). (x.client == s.client) && x.marked && not x.destroyed) w.surfaces s f.0
      (and_from ((s.client == s.client) && s.marked) (not s.destroyed)
      (and_from (s.client == s.client) s.marked (eq-eqb s.client s.client refl) inner.0) inner.1))) outer.1

pub there_lost : (w : World) (s : Surface) → Contains w.surfaces s → s.marked ≡ true → s.destroyed ≡ false → unreached w s ≡ true
    → Contains (lost_in w) s
unfolding lost_in
there_lost w s c marked stands out = grind (arith, nat_tests, filter_has (is_lost (reach w)) w.surfaces s c, and_from, and_from s.marked (not s.destroyed) marked (ap not stands))

pub losing_lost : (w : World) (s : Surface) → Contains (losing w) s → Contains (lost_in w) s
losing_lost w s c =
    let f = filter_at (unreached w) (to (made w) 16) s c in
    let m = to_made w 16 s f.0 in
    there_lost w s m.0 m.1 m.2 f.1

-- They are told by client

filter_joined : {A : Type 0} (p : A → Bool) (xs ys : List A) → filter p (xs ++ ys) ≡ filter p xs ++ filter p ys
filter_joined p [] ys = refl
filter_joined p (x ∷ xs) ys = grind (arith, nat_tests, filter_joined p xs ys)

-- those of a client that are lost
abbrev told_by : World → ℕ → List Lost
told_by w c = map told_of (filter (unreached w) (made w c))

told_to : (w : World) (n : ℕ) → map told_of (filter (unreached w) (to (made w) n)) ≡ to (told_by w) n
told_to w zero = refl
told_to w (suc n) = grind (arith, nat_tests, filter_joined, map-append, told_to w n)

-- one surface of a list, as it is told for a client: with a for being of the client, m for marked, d for destroyed and k for reached
told_first : (w : World) (a m d k : Bool) (s : Surface) (xs zs : List Surface) (ys : List Lost) (f : Surface → Option Lost)
    → f s ≡ cond a (Some (told_of s)) None → unreached w s ≡ not k → filter_map f xs ≡ map told_of (filter (unreached w) zs)
    → filter_map f (cond ((m && not d) && not k) (s ∷ xs) xs) ≡ map told_of (filter (unreached w) (cond ((a && m) && not d) (s ∷ zs) zs))
told_first w true true false false s xs zs ys f e g h = grind (arith, nat_tests)
told_first w true true false true s xs zs ys f e g h = grind (arith, nat_tests)
told_first w true true true k s xs zs ys f e g h = h
told_first w true false d k s xs zs ys f e g h = h
told_first w false true false false s xs zs ys f e g h = ap (λ (o : Option Lost). cons_option o (filter_map f xs)) e ∙ h
told_first w false true false true s xs zs ys f e g h = h
told_first w false true true k s xs zs ys f e g h = h
told_first w false false d k s xs zs ys f e g h = h

told_of_client : (w : World) (c : ℕ) (ss : List Surface)
    → filter_map (λ (s : Surface). cond (s.client == c) (Some (told_of s)) None) (filter (is_lost (reach w)) ss)
    ≡ map told_of (filter (unreached w) (filter (λ (s : Surface). (s.client == c) && s.marked && not s.destroyed) ss))
told_of_client w c [] = refl
told_of_client w c (s ∷ ss) = grind (arith, nat_tests, told_first w, told_of_client w c ss)

lost_told : (w : World) (c : Client) → lost_of (lost_in w) c ≡ told_by w c.number
unfolding lost_in
lost_told w c = told_of_client w c.number w.surfaces

-- numbered from n on
abbrev NumberedFrom : ℕ → List Client → Type 0
NumberedFrom n cs = (k : ℕ) (c : Client) → slice_get cs k ≡ Some c → c.number ≡ n + k + 1

same_to : {B : Type 0} (g : ℕ → List B) (n m : ℕ) → n ≡ m → to g n ≡ to g m
same_to g n m e = ap (to g) e

flat_to : (w : World) (n : ℕ) (cs : List Client) → NumberedFrom n cs
    → to (told_by w) n ++ flat_map (lost_of (lost_in w)) cs ≡ to (told_by w) (length cs + n)
flat_to w n [] h = append-nil (to (told_by w) n) ∙ same_to (told_by w) n (0 + n) (omega arith)
flat_to w n (c ∷ cs) h =
    let number : c.number ≡ n + 1 = omega (arith, h 0 c refl) in
    let first : lost_of (lost_in w) c ≡ told_by w (n + 1) = lost_told w c ∙ ap (told_by w) number in
    let rest : NumberedFrom (suc n) cs = λ k x e. omega (arith, h (suc k) x e) in
    ap (λ l. to (told_by w) n ++ (l ++ flat_map (lost_of (lost_in w)) cs)) first
    ∙ (sym (append_assoc (to (told_by w) n) (told_by w (n + 1)) (flat_map (lost_of (lost_in w)) cs))
    ∙ (flat_to w (suc n) cs rest ∙ same_to (told_by w) (length cs + suc n) (length (c ∷ cs) + n) (omega arith)))

none_beyond : {B : Type 0} (g : ℕ → List B) (n k : ℕ) → ((i : ℕ) → n < i → g i ≡ []) → to g (k + n) ≡ to g n
none_beyond g n zero h = same_to g (0 + n) n (omega arith)
none_beyond g n (suc k) h =
    same_to g (suc k + n) (suc (k + n)) (omega arith)
    ∙ (ap (λ l. to g (k + n) ++ l) (h (k + n + 1) (omega arith)) ∙ (append-nil (to g (k + n)) ∙ none_beyond g n k h))

none_told : (w : World) → KeepsAlways w → (i : ℕ) → length w.clients < i → told_by w i ≡ []
none_told w h i beyond =
    ap (λ l. map told_of (filter (unreached w) l)) (filter_none
    (λ (s : Surface). (s.client == i) && s.marked && not s.destroyed) w.surfaces (λ s c.
    not_of s.marked (not s.destroyed) (false_from_ne_true (s.client == i)
    (λ e. omega (arith, beyond, eqb-true s.client i e, (client_at w h s c).1)))))
  where
    not_of : {a : Bool} (b d : Bool) → a ≡ false → ((a && b) && d) ≡ false
    not_of b d e = ap (λ t. (t && b) && d) e

pub told_whole : (w : World) → KeepsAlways w → naming w ≡ w → length w.clients ≤ 16 → map told_of (losing w) ≡ destroyed_in w
unfolding destroyed_in
told_whole w h named few =
    told_to w 16
    ∙ (same_to (told_by w) 16 ((16 - length w.clients) + length w.clients) (omega (arith, few))
    ∙ (none_beyond (told_by w) (length w.clients) (16 - length w.clients) (none_told w h)
    ∙ (same_to (told_by w) (length w.clients) (length w.clients + 0) (omega arith)
    ∙ (sym (flat_to w 0 w.clients (λ k c e. omega (arith, h.clients.numbered k c e)))
    ∙ ap (λ x. flat_map (lost_of (lost_in x)) w.clients) (sym named)))))
