-- The releases of a step give what the machine's state gives back.
use Rattle.std.proofs.Common.{◌≡◌, ℕ, ◌+◌, ◌-◌, Bool, true, false, not, ◌==◌, ◌&&◌, ◌||◌, Option, Some, None, List, [], ◌∷◌, map, count_by, nat_lt, refl, ap, sym, ◌∙◌, arith, cond}
use Rattle.std.specs.{List.list_all, List.list_any, List.filter_map, List.cons_option, Option.option_map}
use Rattle.std.proofs.lemmas.Bool.Decides.{nat_tests}
use Rattle.vz_frame.specs.Frame.{lists}
use Rattle.vz_rules.specs.World.{World, Submission, Client, Resource, resource_in}
use Rattle.vz_rules.specs.Returns.{holds, is_held, goes_back, return_of, queue_resource, returns_of, queue_returns, give_back}
use Rattle.vz_rules.specs.{Kept.borrows, Kept.AreRising, declared.entry.Returned.Returned}
use Rattle.vz_rules.proofs.{Counts.count_cons, Rising.find_map, Rising.find_test}
use Rattle.vz_returns.specs.Held.{Counted, Holding, counted_at, received_of, alive_of, is_rising}
use Rattle.vz_returns.specs.Released.{holds_there, holds_in_flight, alive_in, out_in, times, is_sorted, AreCounts, release_all, returns_in}
use Rattle.vz_returns.proofs.Orders.{one_list}
use Rattle.vz_returns.proofs.Releases.{both, two_true, from_eqb, to_eqb, some_of_both}
use Rattle.vz_returns.proofs.All_released.{Suffice, all_back, alive_all, received_all, as_counted, same_returns, found_back, rising_back, client_all, queue_all, rising_all, some_all}

-- What is held is alive

some_counted : {A : Type 0} (p : A → Bool) (xs : List A) → nat_lt 0 (count_by p xs) ≡ list_any p xs
some_counted p [] = refl
some_counted p (x ∷ xs) = grind (arith, nat_tests, count_cons p x xs, some_counted p xs)

either_some : (n m : ℕ) → nat_lt 0 (n + m) ≡ (nat_lt 0 n || nat_lt 0 m)
either_some n m = grind (arith, nat_tests)

any_or : {A : Type 0} (p q : A → Bool) (xs : List A) → (list_any p xs || list_any q xs) ≡ list_any (λ x. p x || q x) xs
any_or p q [] = refl
any_or p q (x ∷ xs) = grind (arith, nat_tests, any_or p q xs)

any_same : {A : Type 0} (p q : A → Bool) (xs : List A) → ((x : A) → p x ≡ q x) → list_any p xs ≡ list_any q xs
any_same p q [] same = refl
any_same p q (x ∷ xs) same = (λ i. same x i || any_same p q xs same i)

holds_either : (c id : ℕ) (w : World) (s : Submission)
    → ((borrows c id s && holds_there w s) || (borrows c id s && holds_in_flight w s)) ≡ ((s.submitted.sub.client == c) && holds w s && list_any (lists id) s.submitted.frame.resources)
holds_either c id w s = grind (arith, nat_tests)

pub held_are_alive : (w : World) (c id : ℕ) → nat_lt 0 (alive_in w c id) ≡ is_held w c id
unfolding alive_in is_held
held_are_alive w c id = grind (arith, nat_tests, either_some, some_counted, any_or, any_same, holds_either c id w)

-- What is queued of a client

unfoldable pub given : (w : World) (n : ℕ) → List Resource → List Counted
given w n rs = map as_counted (filter_map (return_of w n) rs)

given_first : (f : Resource → Option Returned) (o : Option Returned) (rs : List Resource) → map as_counted (cons_option o (filter_map f rs)) ≡ cons_option (option_map as_counted o) (map as_counted (filter_map f rs))
given_first f None rs = refl
given_first f (Some r) rs = refl

returned_id : (t : Bool) (r : Returned) (p : Counted → Bool) (rest : List Counted) → p (as_counted r) ≡ true → list_all p rest ≡ true → list_all p (cons_option (option_map as_counted (cond t (Some r) None)) rest) ≡ true
returned_id true r p rest h k = two_true _ _ h k
returned_id false r p rest h k = k

given_above : (w : World) (n m : ℕ) (rs : List Resource) → list_all (λ (t : Resource). nat_lt m t.id) rs ≡ true → list_all (λ x. nat_lt m x.id) (given w n rs) ≡ true
unfolding given
given_above w n m [] h = refl
given_above w n m (r ∷ rs) h = grind (arith, nat_tests, both, given_first, returned_id, as_counted, given_above w n m rs)

rising_first : (t : Bool) (r : Returned) (rest : List Counted) → list_all (λ x. nat_lt r.id x.id) rest ≡ true → is_rising rest ≡ true → is_rising (cons_option (option_map as_counted (cond t (Some r) None)) rest) ≡ true
unfolding is_rising
rising_first true r rest h k = two_true _ _ h k
rising_first false r rest h k = k

pub given_rising : (w : World) (n : ℕ) (rs : List Resource) → AreRising rs → is_rising (given w n rs) ≡ true
unfolding given is_rising
given_rising w n [] h = refl
given_rising w n (r ∷ rs) h =
    ap is_rising (given_first (return_of w n) (return_of w n r) rs)
    ∙ rising_first (goes_back w n r) (record { client = n; id = r.id; count = r.lent - r.queued }) (map as_counted (filter_map (return_of w n) rs)) (given_above w n r.id rs h.0) (given_rising w n rs h.1)

-- what is found of one resource
unfoldable pub given_of : (w : World) (n : ℕ) → Option Resource → Option Counted
given_of w n o = elim o [ Some r ↦ option_map as_counted (return_of w n r) | None ↦ None ]

none_above : (n : ℕ) (list : List Counted) → list_all (λ x. nat_lt n x.id) list ≡ true → counted_at n list ≡ None
none_above n [] h = refl
none_above n (x ∷ list) h = grind (arith, nat_tests, both (nat_lt n x.id) (list_all (λ x. nat_lt n x.id) list) h, none_above n list)

found_first : (j : ℕ) (t : Bool) (r : Returned) (rest : List Counted) → counted_at j (cons_option (option_map as_counted (cond t (Some r) None)) rest) ≡ cond (t && (r.id == j)) (Some (as_counted r)) (counted_at j rest)
found_first j true r rest = refl
found_first j false r rest = refl

pub given_found : (w : World) (n j : ℕ) (rs : List Resource) → AreRising rs → counted_at j (given w n rs) ≡ given_of w n (resource_in j rs)
unfolding given given_of
given_found w n j [] h = refl
given_found w n j (r ∷ rs) h =
    ap (counted_at j) (given_first (return_of w n) (return_of w n r) rs)
    ∙ found_first j (goes_back w n r) (record { client = n; id = r.id; count = r.lent - r.queued }) (map as_counted (filter_map (return_of w n) rs))
    ∙ by (r.id == j) refl (given_found w n j rs h.1)
  where
    one : Counted
    one = as_counted (record { client = n; id = r.id; count = r.lent - r.queued })

    either : (g : Bool) (rest : Option Counted) → rest ≡ None → cond (g && true) (Some one) rest ≡ option_map as_counted (cond g (Some (record { client = n; id = r.id; count = r.lent - r.queued })) None)
    either true rest e = refl
    either false rest e = e

    neither : (g : Bool) (rest : Option Counted) → cond (g && false) (Some one) rest ≡ rest
    neither true rest = refl
    neither false rest = refl

    by : (t : Bool) → (r.id == j) ≡ t → counted_at j (map as_counted (filter_map (return_of w n) rs)) ≡ given_of w n (resource_in j rs)
        → cond (goes_back w n r && t) (Some one) (counted_at j (map as_counted (filter_map (return_of w n) rs))) ≡ given_of w n (cond t (Some r) (resource_in j rs))
    by true e rest = either (goes_back w n r) _ (ap (λ m. counted_at m (map as_counted (filter_map (return_of w n) rs))) (sym (from_eqb r.id j e)) ∙ none_above r.id _ (given_above w n r.id rs h.0))
    by false e rest = neither (goes_back w n r) _ ∙ rest

-- The two are one

module _ (w : World) (c : Client) (h : Holding) (ids : List ℕ) (counts : AreCounts w c h ids) (up : AreRising c.resources) where
  suffice : Suffice ids h
  suffice j = omega (arith, counts.alive j)

  -- where nothing holds a resource, its references are those released
  all_or : (a i t r : ℕ) (held : Bool) → a ≡ i + t → nat_lt 0 i ≡ held → nat_lt 0 r ≡ nat_lt 0 a → (nat_lt 0 t && (a == t)) ≡ (nat_lt 0 r && not held)
  all_or a i t r true e f g = grind (arith, nat_tests)
  all_or a i t r false e f g = grind (arith, nat_tests, to_eqb a t)

  back_is : (j : ℕ) → all_back j ids h ≡ (nat_lt 0 (out_in c.resources j) && not (is_held w c.number j))
  back_is j =
      all_or (alive_of j h.counted) (alive_in w c.number j) (times j ids) (out_in c.resources j) (is_held w c.number j) (counts.alive j) (held_are_alive w c.number j)
      (ap (nat_lt 0) (sym (counts.received j)) ∙ some_of_both j h.counted counts.some)

  out_some : (j : ℕ) (r : Resource) → resource_in j c.resources ≡ Some r → out_in c.resources j ≡ r.lent - r.queued
  unfolding out_in
  out_some j r e = ap (λ (o : Option Resource). elim o [ Some r ↦ r.lent - r.queued | None ↦ 0 ]) e

  out_none : (j : ℕ) → resource_in j c.resources ≡ None → out_in c.resources j ≡ 0
  unfolding out_in
  out_none j e = ap (λ (o : Option Resource). elim o [ Some r ↦ r.lent - r.queued | None ↦ 0 ]) e

  goes_as : (j : ℕ) (r : Resource) → resource_in j c.resources ≡ Some r → all_back j ids h ≡ goes_back w c.number r
  goes_as j r e = grind (arith, nat_tests, back_is j, out_some j r e, from_eqb r.id j, find_test)

  none_goes : (j : ℕ) → resource_in j c.resources ≡ None → all_back j ids h ≡ false
  none_goes j e = back_is j ∙ ap (λ n. nat_lt 0 n && not (is_held w c.number j)) (out_none j e)

  either : (g : Bool) (r : Resource) → cond g (Some (record { id = r.id; received = r.lent - r.queued; alive = c.number })) None ≡ option_map as_counted (cond g (Some (record { client = c.number; id = r.id; count = r.lent - r.queued })) None)
  either true r = refl
  either false r = refl

  found_by : (j : ℕ) (o : Option Resource) → resource_in j c.resources ≡ o
      → cond (all_back j ids h) (Some (record { id = j; received = received_of j h.counted; alive = h.client })) None ≡ given_of w c.number o
  unfolding given_of
  found_by j None e = grind (arith, nat_tests, none_goes j e)
  found_by j (Some r) e = grind (arith, nat_tests, from_eqb r.id j, find_test, out_some j r e, goes_as j r e, either (goes_back w c.number r) r)

  found_as : (j : ℕ) → counted_at j (map as_counted (returns_in ids h)) ≡ counted_at j (given w c.number c.resources)
  found_as j = found_back j ids h suffice ∙ (found_by j (resource_in j c.resources) refl ∙ sym (given_found w c.number j c.resources up))

  pub returns_are : is_sorted ids ≡ true → returns_in ids h ≡ returns_of w c
  unfolding given
  returns_are o =
      same_returns (returns_in ids h) (returns_of w c)
      (one_list (map as_counted (returns_in ids h)) (map as_counted (returns_of w c)) (rising_back ids h suffice o) (given_rising w c.number c.resources up) found_as)

  received_after : (j : ℕ) → received_of j (release_all ids h).counted ≡ out_in (map (queue_resource w c.number) c.resources) j
  unfolding out_in
  received_after j = grind (arith, nat_tests, received_all j ids h, none_goes, out_none, out_some, goes_as, find_map)

  alive_after : (j : ℕ) → alive_of j (release_all ids h).counted ≡ alive_in (give_back w) c.number j + times j []
  unfolding alive_in give_back
  alive_after j = alive_all j ids h suffice ∙ omega (arith, counts.alive j)

  pub counts_after : is_sorted ids ≡ true → AreCounts (give_back w) (queue_returns w c) (release_all ids h) []
  counts_after o = grind (arith, nat_tests, client_all, rising_all, some_all, received_after, alive_after, queue_all, returns_are)
