-- The ticks at which some end, one after the other.
use Rattle.std.proofs.Common.{◌≡◌, ℕ, ◌+◌, ◌≤◌, ◌<◌, Bool, true, false, not, ◌||◌, nat_le, nat_eq, Some, None, is_some, List, ◌∷◌, filter, length, drop, slice_get, refl, ap, sym, ◌∙◌, arith}
use Rattle.std.specs.List.{list_any}
use Rattle.std.specs.Map.{lookup, keys_of}
use Rattle.std.proofs.lemmas.Bool.Decides.{nat_tests}
use Rattle.std.proofs.lemmas.List.{drop_more, drop_all}
use Rattle.std.proofs.lemmas.Map.Made.{is_some-lookup}
use Rattle.vz_ids.specs.declared.SurfaceId.{SurfaceId}
use Rattle.vz_refs.specs.declared.seats.Name.{Name}
use Rattle.vz_refs.specs.declared.seats.Seats.{Seats}
use Rattle.vz_refs.specs.declared.temporaries.Numbers.{Numbers}
use Rattle.vz_refs.specs.Referring.{Temporary, lasting}
use Rattle.vz_refs.specs.Lasting.{surface_in, over_at, AreWithin, Ends, IsRid}
use Rattle.std.proofs.lemmas.Option.{get_or_from_slice_get}
use Rattle.vz_refs.proofs.Changing.{some_within}
use Rattle.vz_refs.proofs.Named.{was_there}

pub from_tick : (a b : ℕ) → nat_eq a b ≡ true → a ≡ b
from_tick a b h = grind (arith, nat_tests)

-- those that do not last to a tick at most are those that last beyond it
pub until_later : (n : ℕ) (list : List Temporary) → filter (λ t. not (nat_le t.until n)) list ≡ lasting n list
unfolding lasting
until_later n list = grind (arith, nat_tests)

-- each that is to end lasts until one of these ticks
abbrev pub AreAhead : ℕ → Seats → List ℕ → Type 0
AreAhead tick s ticks = (n : Name) (d : SurfaceId) → surface_in s n ≡ Some d → nat_le n.until tick ≡ true → list_any (nat_eq n.until) ticks ≡ true

pub all_ahead : (tick : ℕ) (s : Seats) (entries : List (ℕ × Numbers)) → AreWithin (surface_in s) (λ u. lookup (nat_eq u) entries) → AreAhead tick s (keys_of entries)
all_ahead tick s entries within n d h over = grind (arith, nat_tests, is_some-lookup (nat_eq n.until) entries)

pub next_ahead : (tick : ℕ) (a b : Seats) (entries : List (ℕ × Numbers)) (k : ℕ) → k < length (keys_of entries) → AreWithin (surface_in a) (λ u. lookup (nat_eq u) entries) → AreAhead tick a (drop k (keys_of entries)) → Ends (over_at tick) a b
    → ((n : Name) (all : Numbers) → slice_get (keys_of entries) k ≡ Some n.until → n.until ≤ tick → lookup (nat_eq n.until) entries ≡ Some all → all.first ≤ n.number → n.number < all.next → surface_in b n ≡ None)
    → AreAhead tick b (drop (k + 1) (keys_of entries))
next_ahead tick a b entries k low within ahead ends gone n d h over =
    let was = was_there (over_at tick) a b ends n d h in
    elim (nat_eq n.until u.0) as (λ (t : Bool). nat_eq n.until u.0 ≡ t → list_any (nat_eq n.until) (drop (k + 1) (keys_of entries)) ≡ true) [
      | true ↦ λ e.
          let all = within n (ap is_some was) in
          let none = gone n all.0 (u.1 ∙ ap (λ x. Some x) (sym (from_tick n.until u.0 e))) (from_le n.until tick over) all.1 all.2 all.3 in
          let no_way : None ≡ Some d = sym none ∙ h in
          absurd (cc)
      | false ↦ λ e. sym (ap (λ t. t || list_any (nat_eq n.until) (drop (k + 1) (keys_of entries))) e) ∙ sym (ap (list_any (nat_eq n.until)) (split u.0 u.1)) ∙ ahead n d was over
    ] refl
  where
    from_le : (m n : ℕ) → nat_le m n ≡ true → m ≤ n
    from_le m n h = grind (arith, nat_tests)

    u : (u : ℕ) × (slice_get (keys_of entries) k ≡ Some u)
    u = some_within (keys_of entries) k low

    split : (u : ℕ) → slice_get (keys_of entries) k ≡ Some u → drop k (keys_of entries) ≡ u ∷ drop (k + 1) (keys_of entries)
    split u e = drop_more (keys_of entries) k u low ∙ ap (λ x. x ∷ drop (k + 1) (keys_of entries)) (get_or_from_slice_get (keys_of entries) k u u e)

pub none_ahead : (tick : ℕ) (s : Seats) (ticks : List ℕ) (k : ℕ) → length ticks ≤ k → AreAhead tick s (drop k ticks) → IsRid (over_at tick) s
none_ahead tick s ticks k over ahead n d h = grind (arith, nat_tests, drop_all k ticks over)
