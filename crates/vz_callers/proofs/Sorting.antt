-- A log in which each entry is of its caller's event.
use Rattle.std.proofs.Common.{◌≡◌, ℕ, ◌≤◌, Bool, true, false, not, cond, ◌==◌, List, [], ◌∷◌, map, filter, refl, arith, eq-eqb}
use Rattle.vz_loans.specs.Rule.{Log}
use Rattle.vz_loans.proofs.Closing.{Each}
use Rattle.vz_rules.specs.{Course.is_of_client, Course.displayed, Whole.mine, declared.entry.Entry.Entry, declared.entry.Event.Event}
use Rattle.vz_rules.specs.declared.entry.Event.TheVariants as event
use Rattle.vz_turn.specs.{Own.own_entries, Registers.entries_of}
use Rattle.vz_callers.specs.Callers.{events_in, IsEventOf}
use Rattle.std.proofs.lemmas.Bool.Decides.{nat_tests}

abbrev pub IsEntryOf : ℕ → Entry → Type 0
IsEntryOf n e = IsEventOf n e.event

-- each entry is one that its caller called for
abbrev pub IsSorted : Log Entry → Type 0
IsSorted [] = Unit {0}
IsSorted (x ∷ xs) = IsEntryOf x.0 x.1 × IsSorted xs

-- From the callers' own entries

module _ {A : Type 0} (P : A → Type 0) (x : A) (xs : List A) where
  first_kept : (b : Bool) → b ≡ true → Each P (cond b (x ∷ xs) xs) → P x
  first_kept b is h = grind (arith, nat_tests)

  rest_kept : (b : Bool) → Each P (cond b (x ∷ xs) xs) → Each P xs
  rest_kept b h = grind (arith, nat_tests)

pub sorted_by : (log : Log Entry) → ((n : ℕ) → Each (IsEntryOf n) (own_entries n log)) → IsSorted log
sorted_by [] h = tt
sorted_by (x ∷ xs) h = (
  first_kept (IsEntryOf x.0) x.1 (own_entries x.0 xs) (x.0 == x.0) (eq-eqb x.0 x.0 refl) (h x.0),
  sorted_by xs (λ n. rest_kept (IsEntryOf n) x.1 (own_entries n xs) (x.0 == n) (h n)),
)

-- the events tell of the entries
pub each_event : (P : Event → Type 0) (es : List Entry) → Each P (events_in es) → Each (λ (e : Entry). P e.event) es
each_event P [] h = tt
each_event P (e ∷ es) h = (h.0, each_event P es h.1)

-- To the events of a kind

kept_same : (b c : Bool) (x : Entry) (xs ys : List Entry) → b ≡ c → xs ≡ ys → cond b (x ∷ xs) xs ≡ cond c (x ∷ ys) ys
kept_same b c x xs ys e f = λ i. cond (e i) (x ∷ f i) (f i)

filter_own : (t : Entry → Bool) (n : ℕ) (log : Log Entry) → IsSorted log → ((m : ℕ) (e : Entry) → IsEntryOf m e → t e ≡ (m == n)) → filter t (map (λ x. x.1) log) ≡ own_entries n log
filter_own t n [] s h = refl
filter_own t n (x ∷ xs) s h = kept_same (t x.1) (x.0 == n) x.1 (filter t (map (λ y. y.1) xs)) (own_entries n xs) (h x.0 x.1 s.0) (filter_own t n xs s.1 h)

display_test : (m : ℕ) (e : Entry) → IsEntryOf m e → not (is_of_client e.event) ≡ (m == 0)
display_test m e is = grind (arith, nat_tests)

is_of_event : ℕ → Event → Bool
is_of_event c v = elim v [ event.Client d ↦ d == c | _ ↦ false ]

-- the display's entries are those of caller 0
pub displayed_own : (log : Log Entry) → IsSorted log → displayed (entries_of log) ≡ own_entries 0 log
unfolding displayed entries_of
displayed_own log s = filter_own (λ e. not (is_of_client e.event)) 0 log s display_test

-- a client's entries are those of the caller with its number
pub mine_own : (c : ℕ) (log : Log Entry) → 1 ≤ c → IsSorted log → mine (entries_of log) c ≡ own_entries c log
unfolding mine entries_of is_of_event
mine_own c log from s = grind (arith, nat_tests, filter_own)
