-- The room of lenders, and the resources that are out, as one lender changes.
use Rattle.std.proofs.Common.{◌≡◌, ℕ, zero, suc, ◌+◌, ◌-◌, ◌≤◌, ◌<◌, true, false, ◌==◌, Option, Some, List, [], ◌∷◌, length, drop, slice_get, slice_index_or, set, sum_by, refl, ap, sym, subst, ◌∙◌, arith}
use Rattle.std.proofs.{lemmas.Bool.Decides.nat_tests, lemmas.List.Sums.sum_by-cons}
use Rattle.vz_rules.specs.World.{World, Client}
use Rattle.vz_rules.proofs.{Members.at_within, Members.at_contains, Members.contains_at, Kept_small.at_there}
use Rattle.vz_returns.specs.{Held.Holding, Held.is_rising, Held.lent, Held.shared, Released.AreCounts}
use Rattle.vz_returns.proofs.{Orders.put_more, Orders.put_same, Orders.counts_there, Orders.rising_put, Steps.at_set, Steps.at_others}
use Rattle.vz_returns.proofs.{Releases.from_eqb, Listings.first_some, Listings.suffice_shared, Listings.left_next}
use Rattle.vz_returns.specs.Lent.{Lent, AreLent, NoneReleased, HasPlaces, IsRoomier, AreRoomier, Suffice, lent_all, shared_all, resources_out}

-- What is out

sum_set : {A : Type 0} (f : A → ℕ) (xs : List A) (k : ℕ) (o new : A) → slice_get xs k ≡ Some o
    → sum_by f (set xs k new) + f o ≡ sum_by f xs + f new
sum_set f [] k o new e = absurd (cc)
sum_set f (x ∷ xs) zero o new e = let same : x ≡ o = cc in omega (arith, sum_by-cons f new xs, sum_by-cons f x xs, ap f same)
sum_set f (x ∷ xs) (suc k) o new e = omega (arith, sum_by-cons f x (set xs k new), sum_by-cons f x xs, sum_set f xs k o new e)

pub out_same : (items : List Lent) (k : ℕ) (o new : Lent) → slice_get items k ≡ Some o
    → length new.holding.counted ≡ length o.holding.counted → resources_out (set items k new) ≡ resources_out items
unfolding resources_out
out_same items k o new at e = omega (arith, sum_set (λ (l : Lent). length l.holding.counted) items k o new at, e)

pub out_more : (items : List Lent) (k n : ℕ) (o new : Lent) → slice_get items k ≡ Some o
    → length new.holding.counted ≤ length o.holding.counted + n → resources_out (set items k new) ≤ resources_out items + n
unfolding resources_out
out_more items k n o new at e = omega (arith, sum_set (λ (l : Lent). length l.holding.counted) items k o new at, e)

pub lent_length : (ids : List ℕ) (h : Holding) → length (lent_all ids h).counted ≤ length h.counted + length ids
lent_length [] h = omega arith
lent_length (id ∷ ids) h = grind (arith, nat_tests, lent_length ids (lent id h), put_more)

pub shared_length : (ids : List ℕ) (h : Holding) → is_rising h.counted ≡ true → Suffice ids h
    → length (shared_all ids h).counted ≡ length h.counted
shared_length [] h up s = refl
shared_length (id ∷ ids) h up s =
    grind (arith, nat_tests, shared_length ids (shared id h), rising_put, suffice_shared id ids h s, put_same, counts_there id h.counted (first_some id ids h s), first_some id ids h s)

-- one by one

pub out_left : (L : List Lent) (k : ℕ) (d : Lent) → k < length L
    → resources_out (drop k L) ≡ length (slice_index_or L k d).holding.counted + resources_out (drop (k + 1) L)
unfolding resources_out
out_left L k d inside = ap (sum_by (λ (l : Lent). length l.holding.counted)) (left_next L k d inside)
    ∙ sum_by-cons (λ (l : Lent). length l.holding.counted) (slice_index_or L k d) (drop (k + 1) L)

-- Where only room changes

pub roomier_counts : (w : World) (c : Client) (o l : Lent) → IsRoomier o l → AreCounts w c o.holding o.released
    → AreCounts w c l.holding l.released
roomier_counts w c o l is counts = subst (λ r. AreCounts w c l.holding r) (sym is.released)
    (subst (λ h. AreCounts w c h o.released) (sym is.holding) counts)

pub roomier_lent : (w : World) (old new : List Lent) → AreRoomier old new → AreLent w old → AreLent w new
roomier_lent w old new are lent =
    record {
      many = are.many ∙ lent.many;
      each = λ n c l at is.
          let o = at_there old n (subst (λ m. n < m) are.many (at_within new n l is)) in
          roomier_counts w c o.0 l (are.each n o.0 l o.1 is) (lent.each n c o.0 at o.1);
    }

pub same_roomier : (l : Lent) → IsRoomier l l
same_roomier l = record { holding = refl; released = refl; spare = omega arith; places = omega arith }

some_same : {A : Type 0} (x y : A) → ◌≡◌ {A = Option A} (Some x) (Some y) → x ≡ y
some_same x y e = cc

pub length_set : {A : Type 0} (xs : List A) (k : ℕ) (x : A) → length (set xs k x) ≡ length xs
length_set [] k x = refl
length_set (y ∷ xs) zero x = refl
length_set (y ∷ xs) (suc k) x = ap suc (length_set xs k x)

-- what holds of the one that is new and of the others
pub by_place : (P : ℕ → Lent → Type 0) (items : List Lent) (k : ℕ) (o new : Lent) → slice_get items k ≡ Some o → P k new
    → ((n : ℕ) (l : Lent) → (n == k) ≡ false → slice_get items n ≡ Some l → P n l)
    → (n : ℕ) (l : Lent) → slice_get (set items k new) n ≡ Some l → P n l
by_place P items k o new at is others n l q = grind (arith, nat_tests, from_eqb, some_same, at_set, at_within, at_others)

pub roomier_set : (items : List Lent) (k : ℕ) (o new : Lent) → slice_get items k ≡ Some o → IsRoomier o new
    → AreRoomier items (set items k new)
roomier_set items k o new at is =
    record {
      many = length_set items k new;
      each = λ n x l p q.
          by_place (λ m y. (z : Lent) → slice_get items m ≡ Some z → IsRoomier z y) items k o new at
          (λ z r. subst (λ y. IsRoomier y new) (some_same o z (sym at ∙ r)) is)
          (λ m y e r z s. subst (λ v. IsRoomier z v) (some_same z y (sym s ∙ r)) (same_roomier z)) n l q x p;
    }

pub none_released_set : (items : List Lent) (k : ℕ) (o new : Lent) → slice_get items k ≡ Some o → new.released ≡ o.released
    → NoneReleased items → NoneReleased (set items k new)
none_released_set items k o new at e none l there =
    let n = contains_at (set items k new) l there in
    by_place (λ m y. y.released ≡ []) items k o new at (e ∙ none o (at_contains items k o at)) (λ m y f q. none y (at_contains items m y q))
    n.0 l n.1

pub places_set : (items : List Lent) (k m : ℕ) (o new : Lent) → slice_get items k ≡ Some o → o.places ≤ new.places + m → (n q : ℕ)
    → HasPlaces (n + m) q items → HasPlaces n q (set items k new)
places_set items k m o new at fewer n q has l is =
    by_place (λ j y. j ≡ q - 1 → n ≤ y.places) items k o new at
    (λ e. let h = has o (sym (ap (slice_get items) e) ∙ at) in omega (arith, h, fewer))
    (λ j y f p e. let h = has y (sym (ap (slice_get items) e) ∙ p) in omega (arith, h)) (q - 1) l is refl

pub out_none : resources_out [] ≡ 0
unfolding resources_out
out_none = refl

sum_alike : {A : Type 0} (f : A → ℕ) (xs ys : List A) → length ys ≡ length xs
    → ((n : ℕ) (x y : A) → slice_get xs n ≡ Some x → slice_get ys n ≡ Some y → f y ≡ f x) → sum_by f ys ≡ sum_by f xs
sum_alike f [] [] long same = refl
sum_alike f [] (y ∷ ys) long same = absurd (omega (arith, long))
sum_alike f (x ∷ xs) [] long same = absurd (omega (arith, long))
sum_alike f (x ∷ xs) (y ∷ ys) long same =
    omega (
      arith,
      sum_by-cons f x xs,
      sum_by-cons f y ys,
      same 0 x y refl refl,
      sum_alike f xs ys (omega (arith, long))
          (λ n a b p q. same (suc n) a b p q),
    )

pub roomier_out : (old new : List Lent) → AreRoomier old new → resources_out new ≡ resources_out old
unfolding resources_out
roomier_out old new are = grind (arith, nat_tests, sum_alike)

pub roomier_none : (old new : List Lent) → AreRoomier old new → NoneReleased old → NoneReleased new
roomier_none old new are none l there =
    let n = contains_at new l there in
    let o = at_there old n.0 (subst (λ m. n.0 < m) are.many (at_within new n.0 l n.1)) in
    let is = are.each n.0 o.0 l o.1 n.1 in
    is.released ∙ none o.0 (at_contains old n.0 o.0 o.1)
