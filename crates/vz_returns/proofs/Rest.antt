-- What is still out: each resource of which some reference is alive, with all that were received.
use Rattle.std.proofs.Common.{◌≡◌, ℕ, suc, ◌-◌, Bool, true, false, ◌&&◌, ◌==◌, Option, Some, None, List, [], ◌∷◌, ◌++◌, length, map, nat_lt, slice_get, refl, ap, sym, ◌∙◌, arith, cond}
use Rattle.std.specs.{List.list_all, List.flat_map, List.filter_map, Option.option_map}
use Rattle.std.proofs.lemmas.Bool.Decides.{nat_tests}
use Rattle.vz_rules.specs.{World.World, World.Client, World.Resource, World.resource_in, Returns.is_held, Returns.return_of}
use Rattle.vz_rules.specs.{Log.held_resource, Log.rest_in, Kept.KeepsAlways, Kept.AreRising}
use Rattle.vz_rules.proofs.{Members.all_at, Members.find_at, Members.at_contains, Rising.find_map}
use Rattle.vz_returns.specs.Held.{Counted, Holding, counted_at, received_of, is_rising, as_returns, held}
use Rattle.vz_returns.specs.{Released.AreCounts, Released.are_some, Released.out_in, Lent.Lent, Lent.AreLent}
use Rattle.vz_returns.proofs.{Orders.one_list, Given_back.given, Given_back.given_of, Given_back.given_rising, Given_back.given_found}
use Rattle.vz_returns.proofs.{Releases.both, Releases.two_true, Releases.from_eqb, All_released.as_counted, All_released.same_returns}

-- counts of a client, as its returns have them
mark : ℕ → Counted → Counted
mark n c = record c { alive = n }

returns_marked : (n : ℕ) (list : List Counted) → map as_counted (as_returns n list) ≡ map (mark n) list
unfolding as_returns mark
returns_marked n [] = refl
returns_marked n (c ∷ list) = ap (λ l. mark n c ∷ l) (returns_marked n list)

all_marked : (n m : ℕ) (list : List Counted) → list_all (λ x. nat_lt m x.id) (map (mark n) list) ≡ list_all (λ x. nat_lt m x.id) list
unfolding mark
all_marked n m [] = refl
all_marked n m (c ∷ list) = ap (λ t. nat_lt m c.id && t) (all_marked n m list)

rising_marked : (n : ℕ) (list : List Counted) → is_rising list ≡ true → is_rising (map (mark n) list) ≡ true
unfolding is_rising mark
rising_marked n [] up = refl
rising_marked n (c ∷ list) up = grind (arith, nat_tests, both, two_true, all_marked n c.id list, rising_marked n list)

found_marked : (n j : ℕ) (list : List Counted) → counted_at j (map (mark n) list) ≡ option_map (mark n) (counted_at j list)
unfolding mark
found_marked n j list = find_map (λ (c : Counted). c.id == j) (mark n) list (λ c. refl)

-- the state without submissions, in which nothing is held
abbrev none_held : World → World
none_held w = record w { subs = [] }

returns_all : (w : World) (n : ℕ) (r : Resource) → return_of (none_held w) n r ≡ held_resource n r
unfolding is_held
returns_all w n r = grind (arith, nat_tests)

received_is : (j : ℕ) (list : List Counted) (o : Option Counted) → counted_at j list ≡ o
    → received_of j list ≡ elim o [ Some c ↦ c.received | None ↦ 0 ]
unfolding received_of
received_is j list o e = ap (λ (x : Option Counted). elim x [ Some c ↦ c.received | None ↦ 0 ]) e

out_is : (j : ℕ) (rs : List Resource) (q : Option Resource) → resource_in j rs ≡ q
    → out_in rs j ≡ elim q [ Some r ↦ r.lent - r.queued | None ↦ 0 ]
unfolding out_in
out_is j rs q e = ap (λ (x : Option Resource). elim x [ Some r ↦ r.lent - r.queued | None ↦ 0 ]) e

some_received : (j : ℕ) (list : List Counted) (c : Counted) → are_some list ≡ true → counted_at j list ≡ Some c → nat_lt 0 c.received ≡ true
unfolding are_some
some_received j list c some e =
    let at = find_at (λ (x : Counted). x.id == j) list c e in
    (both (nat_lt 0 c.received) (nat_lt 0 c.alive) (all_at (λ (x : Counted). nat_lt 0 x.received && nat_lt 0 x.alive) list c some at.0)).0

module _ (w : World) (c : Client) (h : Holding) (ids : List ℕ) (counts : AreCounts w c h ids) (up : AreRising c.resources) where
  picked : (j : ℕ) (o : Option Counted) (q : Option Resource) → counted_at j h.counted ≡ o → resource_in j c.resources ≡ q
      → option_map (mark c.number) o ≡ given_of (none_held w) c.number q
  unfolding given_of mark
  picked j None None e f = refl
  picked j None (Some r) e f =
      let none : nat_lt r.queued r.lent
      ≡ false = no_more r.queued r.lent
      (sym (received_is j h.counted None e) ∙ (counts.received j ∙ out_is j c.resources (Some r) f)) in
      sym (ap (option_map as_counted) (returns_all w c.number r)
      ∙ ap (λ (t : Bool). option_map as_counted
      (cond t (Some (record { client = c.number; id = r.id; count = r.lent - r.queued })) None)) none)
    where
      no_more : (a b : ℕ) → 0 ≡ b - a → nat_lt a b ≡ false
      no_more a b e = grind (arith, nat_tests, e)
  picked j (Some x) None e f =
      let none : x.received ≡ 0 = sym (received_is j h.counted (Some x) e) ∙ (counts.received j ∙ out_is j c.resources None f) in
      let bad : true ≡ false = sym (some_received j h.counted x counts.some e) ∙ ap (nat_lt 0) none in
      absurd (cc)
  picked j (Some x) (Some r) e f =
      let same : x.received ≡ r.lent - r.queued = sym (received_is j h.counted (Some x) e)
      ∙ (counts.received j ∙ out_is j c.resources (Some r) f) in
      let some : nat_lt r.queued r.lent ≡ true = more r.queued r.lent x.received same (some_received j h.counted x counts.some e) in
      let id : x.id ≡ r.id = from_eqb x.id j (find_at (λ (y : Counted). y.id == j) h.counted x e).1
      ∙ sym (from_eqb r.id j (find_at (λ (y : Resource). y.id == j) c.resources r f).1) in
      (λ i. Some (record { id = id i; received = same i; alive = c.number }))
      ∙ sym (ap (option_map as_counted) (returns_all w c.number r)
      ∙ ap (λ (t : Bool). option_map as_counted
      (cond t (Some (record { client = c.number; id = r.id; count = r.lent - r.queued })) None)) some)
    where
      more : (a b n : ℕ) → n ≡ b - a → nat_lt 0 n ≡ true → nat_lt a b ≡ true
      more a b n e l = grind (arith, nat_tests, e, l)

  pub held_are : held h ≡ filter_map (held_resource c.number) c.resources
  unfolding given
  held_are =
      let n = c.number in
      let marked : map as_counted (held h) ≡ map (mark n) h.counted = returns_marked h.client h.counted
      ∙ ap (λ m. map (mark m) h.counted) counts.client in
      same_returns (held h) (filter_map (held_resource n) c.resources)
      (marked
      ∙ (one_list (map (mark n) h.counted) (given (none_held w) n c.resources) (rising_marked n h.counted counts.rising)
      (given_rising (none_held w) n c.resources up)
      (λ j. found_marked n j h.counted
      ∙ (picked j (counted_at j h.counted) (resource_in j c.resources) refl refl ∙ sym (given_found (none_held w) n j c.resources up)))
      ∙ (λ i. map as_counted (filter_map (λ r. returns_all w n r i) c.resources))))

-- For all clients

flat_same : {A B C : Type 0} (f : A → List C) (g : B → List C) (xs : List A) (ys : List B) → length xs ≡ length ys
    → ((n : ℕ) (x : A) (y : B) → slice_get xs n ≡ Some x → slice_get ys n ≡ Some y → f x ≡ g y) → flat_map f xs ≡ flat_map g ys
flat_same f g [] [] long same = refl
flat_same f g [] (y ∷ ys) long same = absurd (omega (arith, long))
flat_same f g (x ∷ xs) [] long same = absurd (omega (arith, long))
flat_same f g (x ∷ xs) (y ∷ ys) long
    same = (λ i. same 0 x y refl refl i ++ flat_same f g xs ys (omega (arith, long)) (λ n a b p q. same (suc n) a b p q) i)

pub rest_is : (w : World) (items : List Lent) → KeepsAlways w → AreLent w items
    → flat_map (λ (l : Lent). held l.holding) items ≡ (rest_in w).held
unfolding rest_in
rest_is w items always lent =
    flat_same (λ (l : Lent). held l.holding) (λ (c : Client). filter_map (held_resource c.number) c.resources) items w.clients lent.many
    (λ n l c p q. let shelf = always.shelves c (at_contains w.clients n c q) in held_are w c l.holding l.released (lent.each n c l q p)
    shelf.rising)
