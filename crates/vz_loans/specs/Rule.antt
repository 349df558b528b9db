-- The rule of the lock of turns, and what each of its steps means. Word 0 counts the tickets that
-- were taken, and word 1 the turns that ended, both modulo 2 ^ 64. Slot 0 has the state.
use Rattle.std.specs.Prelude.{◌≡◌, ◌≢◌, ℕ, ◌+◌, ◌-◌, ◌%◌, ◌^◌, ◌<◌, ◌≤◌, Bool, true, false, ◌==◌, nat_lt, if◌then◌else◌, zero, suc}
use Rattle.std.specs.Prelude.{List, [], ◌∷◌, ◌++◌, map, length, slice_index, Option, Some, None, IfSome}
use mathlib.Core.Option.{some}
use mathlib.Core.Option as maybe
use mathlib.Core.List.{IsPrefix}
use lib.ListN.{get_elem?}
use Rattle.atomic_table.specs.Table.{State, Me, Step, rest}
use Rattle.vz_loans.specs.declared.kept.TheConstants.{MOST_CALLERS}
use Rattle.vz_loans.specs.declared.view.View.{View}
use Rattle.vz_loans.specs.declared.view.Stage.{Stage}
use Rattle.vz_loans.specs.declared.view.Stage.TheVariants.{Idle, Waiting, Inside}

-- the entries that were made, each with the number of its caller
abbrev pub Log : Type 0 → Type 0
Log E = List (ℕ × E)

-- a caller's number, with the places of its entries
abbrev pub Claim : Type 0
Claim = ℕ × List ℕ

-- the places of the entries of caller n, if the first entry has place k
abbrev pub places_from : {E : Type 0} → ℕ → ℕ → Log E → List ℕ
places_from k n [] = []
places_from k n (x ∷ xs) =
    if x.0 == n then k ∷ places_from (k + 1) n xs else places_from (k + 1) n xs

-- the places of the entries of caller n, counted from 1
abbrev pub places : {E : Type 0} → ℕ → Log E → List ℕ
places n log = places_from 1 n log

-- the plan and the list of a seat that was joined into another one
abbrev pub Old : Type 0 → Type 0 → Type 0
Old P E = Option P × Log E

-- each of these has this plan, and its list is a front part of the list
abbrev pub AllOld : {P E : Type 0} → Option P → List (Old P E) → Log E → Type 0
AllOld a [] log = Unit {0}
AllOld a (o ∷ os) log = IfSome o.0 (λ p. a ≡ Some p) × (IsPrefix o.1 log × AllOld a os log)

-- the claims have the places of their numbers' entries in the list
abbrev pub AllTell : {E : Type 0} → List Claim → Log E → Type 0
AllTell [] log = Unit {0}
AllTell (c ∷ cs) log = (c.1 ≡ places c.0 log) × AllTell cs log

abbrev pub weight : Bool → ℕ
weight true = 1
weight false = 0

-- how many claims have this number
abbrev pub claims_of : ℕ → List Claim → ℕ
claims_of n [] = 0
claims_of n (c ∷ cs) = weight (c.0 == n) + claims_of n cs

-- count numbers, from k up
abbrev pub numbers_from : ℕ → ℕ → List ℕ
numbers_from k zero = []
numbers_from k (suc count) = k ∷ numbers_from (k + 1) count

-- claims of numbers that have no entry
abbrev pub blank : List ℕ → List Claim
blank ns = map (λ n. (n, [])) ns

-- all numbers that a view has: those of callers, and the spare ones, which have no entry
abbrev pub kept : {P E : Type 0} → View P E → List Claim
kept v = v.claims ++ blank v.spares

-- the same numbers, with the places of their entries in this list
abbrev pub retold : {E : Type 0} → Log E → List Claim → List Claim
retold log cs = map (λ c. (c.0, places c.0 log)) cs

-- how many tickets a seat has
abbrev pub tickets_at : Stage → ℕ
tickets_at Idle = 0
tickets_at (Waiting t) = 1
tickets_at (Inside t) = 1

abbrev pub total : {A : Type 0} → (A → ℕ) → List A → ℕ
total f [] = 0
total f (x ∷ xs) = f x + total f xs

-- where the state is: in the slot at home, or away with the seat that is in its turn
pub data Place (K : Type 0) : Type 0 where
  home : K → Place K
  away : Place K

abbrev pub IsInTurn : Stage → Type 0
IsInTurn Idle = ⊥
IsInTurn (Waiting t) = ⊥
IsInTurn (Inside t) = Unit {0}

module _ {K P E : Type 0} where
  module _ (tickets turns : ℕ) (agreed : Option P) (log : Log E) (owner : ℕ → ℕ) (place : Place K) (j : ℕ) (v : View P E) where
    -- a seat's ticket is open and belongs to this seat, and the seat has a number; in its turn,
    -- the seat has seen the whole list
    abbrev pub Knows : Stage → Type 0
    Knows Idle = Unit {0}
    Knows (Waiting t) = (turns ≤ t) × (t < tickets) × (owner t ≡ j) × (0 < length v.claims)
    Knows (Inside t) =
        (t ≡ turns) × (t < tickets) × (owner t ≡ j) × (0 < length v.claims) × (place ≡ away) × (v.seen ≡ log) × (v.plan ≡ agreed)

  -- what always holds of a seat's view: its plan, its list and its old lists fit, and so do the
  -- places of its numbers
  pub record Fits (tickets turns : ℕ) (agreed : Option P) (log : Log E) (owner : ℕ → ℕ) (place : Place K) (j : ℕ) (v : View P E) : Type 0 where
    pub planned : IfSome v.plan (λ p. agreed ≡ Some p)
    pub begun : IsPrefix v.seen log
    pub olds : AllOld agreed v.olds log
    pub told : AllTell (kept v) log
    pub knows : Knows tickets turns agreed log owner place j v v.stage

abbrev pub ticketed : {P E : Type 0} → View P E → ℕ
ticketed v = tickets_at v.stage

abbrev pub claimed : {P E : Type 0} → View P E → ℕ
claimed v = length v.claims

abbrev pub spared : {P E : Type 0} → View P E → ℕ
spared v = length v.spares

abbrev pub kept_on : {P E : Type 0} → ℕ → View P E → ℕ
kept_on n v = claims_of n (kept v)

module _ {K P E : Type 0} (plan_of : K → P) (entries_of : K → Log E) where
  -- the state is in slot 0, with the plan and the list; or the seat in front is in its turn
  abbrev pub Lies : List (maybe.Option (Option K)) → List (View P E) → Option P → Log E → ℕ → Place K → Type 0
  Lies homes views agreed log front (home k) =
      (get_elem? homes 0 ≡ some (some (Some k))) × (agreed ≡ Some (plan_of k)) × (entries_of k ≡ log)
  Lies homes views agreed log front away = (v : View P E) × (get_elem? views front ≡ some v) × IsInTurn v.stage

  -- the rule of the lock, for a plan and at most so many callers
  pub record Turns (plan : P) (callers : ℕ) (s : State (Option K) (View P E)) : Type 0 where
    pub tickets : ℕ
    pub turns : ℕ
    -- the one list of entries
    pub log : Log E
    -- the seat that a ticket belongs to
    pub owner : ℕ → ℕ
    pub place : Place K
    pub few : callers ≤ MOST_CALLERS
    pub wide : length s.words ≡ 2
    pub tickets_is : slice_index s.words 0 ≡ tickets % 2 ^ 64
    pub turns_is : slice_index s.words 1 ≡ turns % 2 ^ 64
    -- there are as many open tickets as views with a ticket
    pub counted : total ticketed s.views + turns ≡ tickets
    pub numbered : total claimed s.views + total spared s.views ≡ MOST_CALLERS
    pub spare : MOST_CALLERS ≤ total spared s.views + callers
    -- each number below the greatest number of callers is in one view; no other number is in a
    -- view or has an entry
    pub once : (n : ℕ) → total (kept_on n) s.views ≡ weight (nat_lt n MOST_CALLERS)
    pub strange : (n : ℕ) → MOST_CALLERS ≤ n → places n log ≡ []
    pub each_seat : (j : ℕ) (v : View P E) → get_elem? s.views j ≡ some v → Fits tickets turns (Some plan) log owner place j v
    pub lies : Lies s.homes s.views (Some plan) log (owner turns) place

abbrev pub first_of : {A : Type 0} → List A → List A
first_of [] = []
first_of (x ∷ xs) = x ∷ []

abbrev pub others_of : {A : Type 0} → List A → List A
others_of [] = []
others_of (x ∷ xs) = xs

abbrev pub longer : {A : Type 0} → List A → List A → List A
longer xs ys = if nat_lt (length xs) (length ys) then ys else xs

module _ {P E : Type 0} where
  abbrev pub view : Stage → Option P → Log E → List (Old P E) → List Claim → List ℕ → View P E
  view st p xs os cs ns = record { stage = st; plan = p; seen = xs; olds = os; claims = cs; spares = ns }

  abbrev pub staged : Stage → View P E → View P E
  staged st v = view st v.plan v.seen v.olds v.claims v.spares

  abbrev pub spent : View P E
  spent = view Idle None [] [] [] []

  -- a seat before any entry, with the number 0, and with the numbers from k up as spare ones
  abbrev pub dealing : Option P → ℕ → View P E
  dealing plan k = view Idle plan [] [] ((0, []) ∷ []) (numbers_from k (MOST_CALLERS - k))

  -- the view of the first seat
  abbrev pub newcomer : P → View P E
  newcomer plan = dealing (Some plan) 1

  -- a new seat gets the least spare number, if there is one; the old seat keeps the others
  abbrev pub given : View P E → View P E
  given v = view Idle v.plan v.seen [] (blank (first_of v.spares)) []

  abbrev pub left : View P E → View P E
  left v = view v.stage v.plan v.seen v.olds v.claims (others_of v.spares)

  -- a new seat with only the plan and the list
  abbrev pub note : View P E → View P E
  note v = view Idle v.plan v.seen [] [] []

  -- the longer of two lists, with both lists and all old ones as old lists, and the numbers of
  -- both seats
  abbrev pub joined : View P E → View P E → View P E
  joined v w = view v.stage v.plan (longer v.seen w.seen) ((v.plan, v.seen) ∷ (w.plan, w.seen) ∷ v.olds ++ w.olds) (v.claims ++ w.claims)
      (v.spares ++ w.spares)

  -- a view after a turn that left this list
  abbrev pub ended_view : P → Log E → View P E → View P E
  ended_view p xs v = view Idle (Some p) xs [] (retold xs v.claims) v.spares

-- a seat's view, and the slots that are away with it
abbrev pub Seated : Type 0 → Type 0 → Type 0 → Type 0
Seated K P E = Me (Option K) (View P E)

module _ {K P E : Type 0} where
  -- a ticket was taken
  abbrev pub took : Step (Option K) → Seated K P E → ℕ → Seated K P E → Type 0
  took st m r m' = (t : ℕ) × (r ≡ t % 2 ^ 64) × (m' ≡ (staged (Waiting t) m.0, m.1))

  -- the lists of the joined seats are front parts of the seat's own list, and are dropped
  abbrev pub compared : Step (Option K) → Seated K P E → ℕ → Seated K P E → Type 0
  compared st m r m' =
      (m' ≡ (view m.0.stage m.0.plan m.0.seen [] m.0.claims m.0.spares, m.1)) × AllOld m.0.plan m.0.olds m.0.seen × AllTell m.0.claims m.0.seen

module _ {K P E : Type 0} (plan_of : K → P) (entries_of : K → Log E) where
  -- the slot with the state k goes to the seat
  abbrev pub Enters : Seated K P E → ℕ → Seated K P E → Type 0
  Enters m t m' =
      (k : K) × (m' ≡ (view (Inside t) m.0.plan (entries_of k) [] m.0.claims m.0.spares, (0, Some k) ∷ m.1))
      × (m.0.plan ≡ Some (plan_of k)) × IsPrefix m.0.seen (entries_of k) × AllOld (Some (plan_of k)) m.0.olds (entries_of k)
      × AllTell m.0.claims (entries_of k)

  -- if the turn of the seat's ticket has come, the seat gets the slot; otherwise nothing changes
  abbrev pub looked : Step (Option K) → Seated K P E → ℕ → Seated K P E → Type 0
  looked st m r m' =
      (t : ℕ) → m.0.stage ≡ Waiting t → (r ≡ t % 2 ^ 64 → Enters m t m') × (r ≢ t % 2 ^ 64 → m' ≡ m)

  -- the state that was put back is the one that the next caller finds
  abbrev pub ended : Step (Option K) → Seated K P E → ℕ → Seated K P E → Type 0
  ended st m r m' =
      (k : K) → m.1 ≡ (0, Some k) ∷ rest m.1 → m' ≡ (ended_view (plan_of k) (entries_of k) m.0, rest m.1)

abbrev pub is_inside : Stage → Bool
is_inside Idle = false
is_inside (Waiting t) = false
is_inside (Inside t) = true

-- what always holds of a token: it has one caller's number; outside its turn it has no slot, and
-- in its turn the empty one
pub record IsHeld {K P E : Type 0} (number ticket : ℕ) (me : Seated K P E) : Type 0 where
  pub planned : (p : P) × (me.0.plan ≡ Some p)
  pub claim : me.0.claims ≡ (number, places number me.0.seen) ∷ []
  pub settled : me.0.olds ≡ []
  pub outside : is_inside me.0.stage ≡ false → (me.0.stage ≡ Idle) × (me.1 ≡ [])
  pub inside : is_inside me.0.stage ≡ true → (t : ℕ) × (me.0.stage ≡ Inside t) × (ticket ≡ t % 2 ^ 64) × (me.1 ≡ (0, None) ∷ [])

module _ {K P E : Type 0} (plan_of : K → P) (entries_of : K → Log E) where
  -- a ticket was taken and its turn has come
  abbrev pub HasTurn : Seated K P E → ℕ → Seated K P E → Type 0
  HasTurn m ticket m' = (t : ℕ) × (ticket ≡ t % 2 ^ 64) × Enters plan_of entries_of m t m'

-- a seat that may take a ticket
pub record MayEnter {K P E : Type 0} (m : Seated K P E) : Type 0 where
  pub idle : m.0.stage ≡ Idle
  pub claims : 0 < length m.0.claims
  pub planned : (p : P) × (m.0.plan ≡ Some p)

-- a seat that hands out the numbers from k up
abbrev pub ready : {K P E : Type 0} → Option P → ℕ → Seated K P E
ready plan k = (dealing plan k, [])
