-- Listings one after the other: what is left of them, and what is counted on the way.
use Rattle.std.proofs.Common.{◌≡◌, ℕ, suc, ◌+◌, ◌<◌, ◌≤◌, Bool, true, false, ◌==◌, List, [], ◌∷◌, length, drop, slice_index_or, ap, sym, subst, ◌∙◌, arith, cond, Contains}
use Rattle.std.specs.List.{list_any}
use Rattle.std.proofs.{Math.Seq.drop-cons, Math.ListN.drop_of_length-le, lemmas.Bool.Decides.nat_tests}
use Rattle.vz_frame.specs.{declared.frame.Listing.Listing, Frame.lists}
use Rattle.vz_rules.proofs.{Members.contains_here, Members.contains_there, Members.contains_map, Members.none_at, Counts.count_cons}
use Rattle.vz_returns.specs.Held.{Holding, received_of, alive_of, lent, shared}
use Rattle.vz_returns.specs.{Released.times, Lent.Suffice, Lent.IsCountable, Lent.AreCountable, Listed.ids_of, Listed.lists_twice}
use Rattle.vz_returns.proofs.Releases.{received_lent, alive_lent, received_shared, alive_shared}
pub use Rattle.std.proofs.lemmas.Bool.{or_parts as or_no}
pub use Rattle.vz_returns.proofs.All_released.{first_alive as first_some}

one_more : (k : ℕ) → suc k ≡ k + 1
one_more k = omega arith

pub left_next : {A : Type 0} (L : List A) (k : ℕ) (d : A) → k < length L → drop k L ≡ slice_index_or L k d ∷ drop (k + 1) L
left_next L k d inside = drop-cons L k d inside ∙ ap (λ n. slice_index_or L k d ∷ drop n L) (one_more k)

pub left_none : {A : Type 0} (L : List A) (k : ℕ) → length L ≤ k → drop k L ≡ []
left_none L k over = drop_of_length-le L over

-- what is done one after the other
pub done_next : {S : Type 0} (f : List ℕ → S → S) (g : ℕ → S → S) → ((id : ℕ) (ids : List ℕ) (s : S) → f (id ∷ ids) s ≡ f ids (g id s))
    → (L : List Listing) (k : ℕ) (d : Listing) (now new : S) (all : S) → k < length L → f (ids_of (drop k L)) now ≡ all
    → new ≡ g (slice_index_or L k d).id now → f (ids_of (drop (k + 1) L)) new ≡ all
done_next f g step L k d now new all inside was is = grind (arith, nat_tests, left_next L k d inside)

pub other_way : (a b : ℕ) → (a == b) ≡ false → (b == a) ≡ false
other_way a b e = grind (arith, nat_tests, e)

once_parts : (L : List Listing) (k : ℕ) (d : Listing) → k < length L → lists_twice (drop k L) ≡ false
    → (list_any (λ (b : Listing). lists (slice_index_or L k d).id b) (drop (k + 1) L) ≡ false) × (lists_twice (drop (k + 1) L) ≡ false)
once_parts L k d inside once = or_no _ _ (sym (ap lists_twice (left_next L k d inside)) ∙ once)

pub once_next : (L : List Listing) (k : ℕ) → k < length L → lists_twice (drop k L) ≡ false → lists_twice (drop (k + 1) L) ≡ false
once_next L k inside once = (once_parts L k (record { id = 0; w = 0; h = 0 }) inside once).1

-- one that is listed later is another one
pub is_other : (id j : ℕ) (rest : List Listing) → list_any (λ (b : Listing). lists id b) rest ≡ false → Contains (ids_of rest) j
    → (id == j) ≡ false
is_other id j rest none there =
    let m = contains_map (λ (l : Listing). l.id) rest j there in
    other_way j id (ap (λ n. n == id) (sym m.2) ∙ none_at (λ (b : Listing). lists id b) rest m.0 none m.1)

pub countable_same : (h h' : Holding) (j : ℕ) → received_of j h'.counted ≡ received_of j h.counted
    → alive_of j h'.counted ≡ alive_of j h.counted → IsCountable j h → IsCountable j h'
countable_same h h' j r a is = record { received = omega (arith, r, is.received); alive = omega (arith, a, is.alive) }

pub countable_lent : (id : ℕ) (rest : List Listing) (h : Holding) → list_any (λ (b : Listing). lists id b) rest ≡ false
    → AreCountable (id ∷ ids_of rest) h → AreCountable (ids_of rest) (lent id h)
countable_lent id rest h none are j there = grind (arith, nat_tests, is_other, countable_same, received_lent, alive_lent, contains_there)

pub countable_shared : (id : ℕ) (rest : List Listing) (h : Holding) → list_any (λ (b : Listing). lists id b) rest ≡ false
    → AreCountable (id ∷ ids_of rest) h → AreCountable (ids_of rest) (shared id h)
countable_shared id rest h none are j there = grind (arith, nat_tests, is_other, countable_same, received_shared, alive_shared, contains_there)

pub times_at : (j id : ℕ) (ids : List ℕ) (t : Bool) → (id == j) ≡ t → times j (id ∷ ids) ≡ cond t 1 0 + times j ids
times_at j id ids t e = count_cons (λ n. n == j) id ids ∙ ap {B = ℕ} (λ (b : Bool). cond b 1 0 + times j ids) e

pub suffice_shared : (id : ℕ) (ids : List ℕ) (h : Holding) → Suffice (id ∷ ids) h → Suffice ids (shared id h)
suffice_shared id ids h s j = grind (arith, nat_tests, times_at j id ids true, alive_shared j id h, times_at j id ids false)

-- the next of what is left can be counted, and the ones behind it once it is
left_countable : (L : List Listing) (k : ℕ) (d : Listing) (h : Holding) → k < length L → AreCountable (ids_of (drop k L)) h
    → AreCountable ((slice_index_or L k d).id ∷ ids_of (drop (k + 1) L)) h
left_countable L k d h inside are = subst (λ l. AreCountable (ids_of l) h) (left_next L k d inside) are

pub next_countable : (L : List Listing) (k : ℕ) (d : Listing) (h : Holding) → k < length L → AreCountable (ids_of (drop k L)) h
    → IsCountable (slice_index_or L k d).id h
next_countable L k d h inside are =
    left_countable L k d h inside are (slice_index_or L k d).id (contains_here (slice_index_or L k d).id (ids_of (drop (k + 1) L)))

pub rest_countable : (g : ℕ → Holding → Holding)
    → ((id : ℕ) (rest : List Listing) (h : Holding) → list_any (λ (b : Listing). lists id b) rest ≡ false
    → AreCountable (id ∷ ids_of rest) h → AreCountable (ids_of rest) (g id h))
    → (L : List Listing) (k : ℕ) (d : Listing) (h new : Holding) → k < length L → lists_twice (drop k L) ≡ false
    → AreCountable (ids_of (drop k L)) h → new ≡ g (slice_index_or L k d).id h → AreCountable (ids_of (drop (k + 1) L)) new
rest_countable g counted L k d h new inside once are is =
    subst (AreCountable (ids_of (drop (k + 1) L))) (sym is)
    (counted (slice_index_or L k d).id (drop (k + 1) L) h (once_parts L k d inside once).0 (left_countable L k d h inside are))

-- the references suffice for the ones behind the next once it is held
left_suffice : (L : List Listing) (k : ℕ) (d : Listing) (h : Holding) → k < length L → Suffice (ids_of (drop k L)) h
    → Suffice ((slice_index_or L k d).id ∷ ids_of (drop (k + 1) L)) h
left_suffice L k d h inside s = subst (λ l. Suffice (ids_of l) h) (left_next L k d inside) s

pub rest_suffice : (L : List Listing) (k : ℕ) (d : Listing) (h new : Holding) → k < length L → Suffice (ids_of (drop k L)) h
    → new ≡ shared (slice_index_or L k d).id h → Suffice (ids_of (drop (k + 1) L)) new
rest_suffice L k d h new inside s is =
    subst (Suffice (ids_of (drop (k + 1) L))) (sym is)
    (suffice_shared (slice_index_or L k d).id (ids_of (drop (k + 1) L)) h (left_suffice L k d h inside s))
