-- What contracts see in a lock and in a token.
use Rattle.std.specs.Prelude.{◌≡◌, ℕ, zero, suc, ◌+◌, Bool, false, ◌==◌, List, [], ◌∷◌, ◌++◌, length, Option, Some, IfSome, ◌⊎◌}
use mathlib.Core.List.{IsPrefix}
use Rattle.atomic_table.specs.Seated.{TableId}
use Rattle.vz_loans.specs.declared.view.View.{View}
use Rattle.vz_loans.specs.declared.view.Stage.TheVariants.{Idle}
use Rattle.vz_loans.specs.Rule.{Log, places, weight, claims_of, Seated, AllOld, AllTell}

-- which lock it is, and how many tokens it has
pub record Turnstile : Type 0 where
  pub id : TableId
  pub callers : ℕ

-- a caller: its lock, the plan, its number, the entries that it has seen, and whether it has the
-- state
pub record Caller (P E : Type 0) : Type 0 where
  pub lock : TableId
  pub plan : Option P
  pub number : ℕ
  pub seen : Log E
  pub inside : Bool

-- the places of the caller's own entries, counted from 1
abbrev pub mine : {P E : Type 0} → Caller P E → List ℕ
mine t = places t.number t.seen

-- a caller before any entry
abbrev pub unused : {P E : Type 0} → TableId → Option P → ℕ → Caller P E
unused id plan number = record { lock = id; plan = plan; number = number; seen = []; inside = false }

-- count callers before any entry, with the numbers from k up
abbrev pub unused_from : {P E : Type 0} → TableId → Option P → ℕ → ℕ → List (Caller P E)
unused_from id plan k zero = []
unused_from id plan k (suc count) = unused id plan k ∷ unused_from id plan (k + 1) count

-- the token is of this lock, and does not have the state
abbrev pub IsAtRest : {P E : Type 0} → TableId → Caller P E → Type 0
IsAtRest id t = (t.lock ≡ id) × (t.inside ≡ false)

-- the entries are those that the caller has seen, possibly followed by one of its own
abbrev pub MayLeave : {P E : Type 0} → Caller P E → Log E → Type 0
MayLeave {P} {E} t entries = (entries ≡ t.seen) ⊎ ((e : E) × (entries ≡ t.seen ++ (t.number, e) ∷ []))

-- both are the same caller of the same lock, with the same plan
abbrev pub IsSameCaller : {P E : Type 0} → Caller P E → Caller P E → Type 0
IsSameCaller t u = (u.lock ≡ t.lock) × (u.number ≡ t.number) × (u.plan ≡ t.plan)

-- how many of the callers have the number
abbrev pub numbered : {P E : Type 0} → ℕ → List (Caller P E) → ℕ
numbered n [] = 0
numbered n (t ∷ ts) = weight (t.number == n) + numbered n ts

-- the final state has the plan and the entries that the token knows
pub record IsClosedBy {P E : Type 0} (plan : P) (entries : Log E) (t : Caller P E) : Type 0 where
  pub same_plan : t.plan ≡ Some plan
  pub begun : IsPrefix t.seen entries
  pub counted : places t.number entries ≡ mine t

-- a seat outside its turn that has the numbers of these callers
pub record IsWhole {K P E : Type 0} (ts : List (Caller P E)) (me : Seated K P E) : Type 0 where
  pub idle : me.0.stage ≡ Idle
  pub claims : length me.0.claims ≡ length ts
  pub numbers : (n : ℕ) → claims_of n me.0.claims ≡ numbered n ts

-- the token knew the plan and the list that the view has
abbrev pub Covers : {P E : Type 0} → View P E → Caller P E → Type 0
Covers {P} {E} v t =
    (plan : P) (entries : Log E) → IfSome v.plan (λ p. Some plan ≡ Some p) → IsPrefix v.seen entries → AllOld (Some plan) v.olds entries
    → AllTell v.claims entries → IsClosedBy plan entries t
