-- What a range names is looked for in one group alone, from its end on, and what a tick ends by its numbers.
use Rattle.std.proofs.Common.{◌≡◌, ℕ, ◌+◌, ◌-◌, ◌≤◌, ◌<◌, Bool, true, false, ◌==◌, ◌&&◌, nat_le, nat_lt, Some, None, refl, ap, sym, ◌∙◌, arith, cond}
use Rattle.std.proofs.lemmas.Bool.Decides.{nat_tests}
use Rattle.vz_ids.specs.declared.SurfaceId.{SurfaceId}
use Rattle.vz_ids.specs.declared.SurfaceRange.{SurfaceRange}
use Rattle.vz_ids.specs.declared.GroupKey.{GroupKey}
use Rattle.vz_ids.specs.Ids.{group_of}
use Rattle.vz_rules.specs.Reach.{names}
use Rattle.vz_refs.specs.declared.seats.Name.{Name}
use Rattle.vz_refs.specs.declared.seats.Seats.{Seats}
use Rattle.vz_refs.specs.Lasting.{same_name, kept_in, surface_in, name_in, size_in, Stands, Ends, IsRid, named_by}
use Rattle.vz_refs.proofs.Same.{from_eqb, named_group}
use Rattle.vz_refs.proofs.Named.{self_name, kept_of, was_there}

-- Places from the end on

-- none that stands from there on is named
abbrev pub IsDone : SurfaceRange → Seats → GroupKey → ℕ → Type 0
IsDone range s group from = (i : ℕ) (n : Name) (d : SurfaceId) → from ≤ i → name_in s (record { group = group; at = i }) ≡ Some n → surface_in s n ≡ Some d → named_by range n d ≡ false

pub none_beyond : (range : SurfaceRange) (s : Seats) (group : GroupKey) (n : ℕ) → Stands s → n ≡ size_in s group → IsDone range s group (n - 0)
none_beyond range s group n stands size i x d far sits h = grind (arith, nat_tests)

pub one_more_done : (range : SurfaceRange) (a b : Seats) (group : GroupKey) (n k : ℕ) → k < n → IsDone range a group (n - k) → Ends (named_by range) a b
    → ((x : Name) (d : SurfaceId) → name_in a (record { group = group; at = n - 1 - k }) ≡ Some x → surface_in b x ≡ Some d → named_by range x d ≡ false)
    → IsDone range b group (n - (k + 1))
one_more_done range a b group n k low done ends looked i x d far sits h =
    let stood = ends.names (record { group = group; at = i }) x sits in
    elim (stood.0 == n - 1 - k) as (λ (t : Bool). (stood.0 == n - 1 - k) ≡ t → named_by range x d ≡ false) [
      | true ↦ λ e. looked x d (ap (λ j. name_in a (record { group = group; at = j })) (sym (from_eqb stood.0 (n - 1 - k) e)) ∙ stood.2) h
      | false ↦ λ e. done stood.0 x d (let later = stood.1 in grind (arith, nat_tests, e, later, far, low)) stood.2 (was_there (named_by range) a b ends x d h)
    ] refl

pub all_done : (range : SurfaceRange) (s : Seats) (group : GroupKey) (from : ℕ) → Stands s → group ≡ group_of range.end → from ≤ 0 → IsDone range s group from → IsRid (named_by range) s
all_done range s group from stands is low done x d h =
    elim (names d range) as (λ (t : Bool). names d range ≡ t → t ≡ false) [
      | true ↦ λ e.
          let kept = kept_of (kept_in s x) d h in
          let placed = (stands.placed x kept.0 kept.1).0 in
          let same : group ≡ group_of kept.0.id = is ∙ named_group d range e ∙ ap group_of (sym kept.2) in
          sym e ∙ done kept.0.at x d (omega (arith, low)) (ap (λ (g : GroupKey). name_in s (record { group = g; at = kept.0.at })) same ∙ placed) h
      | false ↦ λ e. refl
    ] refl

-- Numbers until a tick

-- a number within the bounds is among them
pub is_within : (until first next k : ℕ) → first ≤ k → k < next → ((until == until) && (nat_le first k && nat_lt k next)) ≡ true
is_within until first next k low high = grind (arith, nat_tests)

-- those with numbers below this one are gone
abbrev pub AreGone : ℕ → ℕ → ℕ → Seats → Type 0
AreGone until first next s = (n : Name) → n.until ≡ until → first ≤ n.number → n.number < next → surface_in s n ≡ None

pub one_more_gone : (until first k : ℕ) (a b : Seats) → AreGone until first k a → ((n : Name) → surface_in b n ≡ cond (same_name (record { until = until; number = k }) n) None (surface_in a n)) → AreGone until first (k + 1) b
one_more_gone until first k a b gone is n same low high = grind (arith, nat_tests, from_eqb n.number k, self_name)
