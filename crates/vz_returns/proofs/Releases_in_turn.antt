-- References that are released one after the other, and the room of what goes back.
use Rattle.std.proofs.Common.{◌≡◌, ℕ, suc, ◌+◌, ◌<◌, ◌≤◌, true, ◌==◌, Some, None, List, [], ◌∷◌, ◌++◌, length, drop, slice_index_or, option_to_list, nat_le, refl, ap, sym, subst, ◌∙◌, arith, cond}
use Rattle.std.specs.{List.list_all, List.Sorted.IsPermutation, List.Sorted.IsNonDecreasing}
use Rattle.std.proofs.Common.{append-nil}
use Rattle.std.proofs.lemmas.List.{append_assoc}
use Rattle.std.proofs.{lemmas.Bool.Decides.nat_tests, lemmas.List.Sorted.sum_by-IsPermutation, lemmas.List.Sorted.IsPermutation-refl}
use Rattle.vz_rules.specs.{World.World, World.Client, Returns.returns_of, Returns.queue_returns, Returns.give_back, declared.entry.Returned.Returned}
use Rattle.vz_rules.specs.Kept.{AreRising}
use Rattle.vz_returns.specs.Held.{Holding, alive_of, is_rising, return_at, released}
use Rattle.vz_returns.specs.Released.{AreCounts, alive_in, is_sorted, times, release_all, returns_in}
use Rattle.vz_returns.proofs.{Orders.without_length, Orders.put_same, Orders.counts_there, Given_back.returns_are, Given_back.counts_after}
use Rattle.vz_returns.proofs.{Releases.two_true, Releases.rising_released, All_released.rest_suffices, Listings.left_next, Listings.first_some}
use Rattle.vz_returns.specs.Lent.{Suffice, all_alive}
use Rattle.vz_returns.proofs.Totals.{all_released}

pub fewer_left : (id : ℕ) (h : Holding) (r : Returned) → return_at id h ≡ Some r → is_rising h.counted ≡ true → 0 < alive_of id h.counted
    → length (released id h).counted + 1 ≡ length h.counted
fewer_left id h r e up some = grind (arith, nat_tests, without_length id h.counted up (counts_there id h.counted some), counts_there id h.counted some)

pub all_left : (id : ℕ) (h : Holding) → return_at id h ≡ None → is_rising h.counted ≡ true → 0 < alive_of id h.counted
    → length (released id h).counted ≡ length h.counted
all_left id h e up some = grind (arith, nat_tests, put_same, counts_there id h.counted some)

pub none_less : (id : ℕ) (h : Holding) → is_rising h.counted ≡ true → 0 < alive_of id h.counted
    → length (released id h).counted ≤ length h.counted
none_less id h up some = grind (arith, nat_tests, all_left id h, fewer_left id h)

-- One after the other

pub released_next : (ids : List ℕ) (k d : ℕ) (now new all : Holding) → k < length ids → release_all (drop k ids) now ≡ all
    → new ≡ released (slice_index_or ids k d) now → release_all (drop (k + 1) ids) new ≡ all
released_next ids k d now new all inside was is = grind (arith, nat_tests, left_next ids k d inside)

pub out_next : (ids : List ℕ) (k d : ℕ) (now new : Holding) (out more all : List Returned) → k < length ids
    → out ++ returns_in (drop k ids) now ≡ all → new ≡ released (slice_index_or ids k d) now
    → more ≡ out ++ option_to_list (return_at (slice_index_or ids k d) now) → more ++ returns_in (drop (k + 1) ids) new ≡ all
out_next ids k d now new out more all inside was is grown = grind (arith, nat_tests, append_assoc out (option_to_list (return_at (slice_index_or ids k d) now)), left_next ids k d inside)

pub rest_of_left : (ids : List ℕ) (k d : ℕ) (h new : Holding) → k < length ids → Suffice (drop k ids) h
    → new ≡ released (slice_index_or ids k d) h → Suffice (drop (k + 1) ids) new
rest_of_left ids k d h new inside s is =
    subst (Suffice (drop (k + 1) ids)) (sym is)
    (rest_suffices (slice_index_or ids k d) (drop (k + 1) ids) h (subst (λ l. Suffice l h) (left_next ids k d inside) s))

-- All of them

pub fewer_alive : (ids : List ℕ) (h : Holding) → is_rising h.counted ≡ true → Suffice ids h
    → all_alive (release_all ids h).counted + length ids ≡ all_alive h.counted
fewer_alive [] h up s = omega arith
fewer_alive (id ∷ ids) h up s =
    let some = first_some id ids h s in
    omega (arith, fewer_alive ids (released id h) (rising_released id h up) (rest_suffices id ids h s), all_released id h up some)

-- Where they are put into their order

pub sorted_times : (xs ys : List ℕ) → IsPermutation xs ys → (id : ℕ) → times id ys ≡ times id xs
sorted_times xs ys moved id = sum_by-IsPermutation (λ n. cond (n == id) 1 0) xs ys moved

pub sorted_suffice : (xs ys : List ℕ) (h : Holding) → IsPermutation xs ys → Suffice xs h → Suffice ys h
sorted_suffice xs ys h moved s id = omega (arith, sorted_times xs ys moved id, s id)

pub sorted_counts : (w : World) (c : Client) (h : Holding) (xs ys : List ℕ) → IsPermutation xs ys → AreCounts w c h xs → AreCounts w c h ys
sorted_counts w c h xs ys moved are =
    record {
      client = are.client;
      rising = are.rising;
      some = are.some;
      received = are.received;
      alive = λ id. are.alive id ∙ ap (λ n. alive_in w c.number id + n) (sym (sorted_times xs ys moved id));
      queue = are.queue;
    }

no_less : (n : ℕ) (xs : List ℕ) → ((j d : ℕ) → j < length xs → n ≤ slice_index_or xs j d) → list_all (nat_le n) xs ≡ true
no_less n [] h = refl
no_less n (x ∷ xs) h =
    let first : n ≤ x = h 0 0 (omega arith) in
    two_true _ _ (grind (arith, nat_tests, first)) (no_less n xs (λ j d low. h (suc j) d (omega (arith, low))))

pub never_fall : (xs : List ℕ) → IsNonDecreasing xs → is_sorted xs ≡ true
unfolding is_sorted
never_fall [] h = refl
never_fall (x ∷ xs) h =
    two_true _ _ (no_less x xs (λ j d low. h 0 (suc j) d (omega arith) (omega (arith, low))))
    (never_fall xs (λ i j d first low. h (suc i) (suc j) d (omega (arith, first)) (omega (arith, low))))

-- what goes back where they are released in order
pub given_in_order : (w : World) (c : Client) (h : Holding) (xs ys : List ℕ) → AreRising c.resources → AreCounts w c h xs
    → IsPermutation xs ys → is_sorted ys ≡ true
    → (out new : List Returned) (after : Holding) → new ≡ out ++ returns_in ys h → after ≡ release_all ys h
    → (new ≡ out ++ returns_of w c) × AreCounts (give_back w) (queue_returns w c) after []
given_in_order w c h xs ys up are moved order out new after grown is = grind (arith, nat_tests, sorted_counts w c h xs ys moved are, returns_are w c h ys, counts_after w c h ys)

-- where nothing was released, nothing goes back
pub none_given : (w : World) (c : Client) (h : Holding) → AreRising c.resources → AreCounts w c h [] → (out : List Returned)
    → (out ≡ out ++ returns_of w c) × AreCounts (give_back w) (queue_returns w c) h []
unfolding is_sorted
none_given w c h up are out = given_in_order w c h [] [] up are (IsPermutation-refl []) refl out out h (sym (append-nil out)) refl

pub none_less_all : (ids : List ℕ) (h : Holding) → is_rising h.counted ≡ true → Suffice ids h
    → length (release_all ids h).counted ≤ length h.counted
none_less_all [] h up s = omega arith
none_less_all (id ∷ ids) h up s =
    let some = first_some id ids h s in
    omega (arith, none_less_all ids (released id h) (rising_released id h up) (rest_suffices id ids h s), none_less id h up some)
