-- Laws on counts of faults.
use Rattle.std.proofs.Common.{◌≡◌, ℕ, ◌≤◌, Result, Ok, Err, IsErrOf, refl, arith}
use Rattle.std.proofs.{lemmas.Bool.cond_both, lemmas.Bool.ltb-false, lemmas.Bool.Decides.nat_tests}
use Rattle.vz_outside.specs.{Faults.CountRose, Faults.HasCause, Faults.one_more, declared.shelf.ShelfError.ShelfError}
use Rattle.vz_outside.specs.declared.shelf.ShelfError.TheVariants.{Failed, Memory}

-- one more is not less
pub one_more_least : (n : ℕ) → n ≤ one_more n
one_more_least n = grind (arith, nat_tests, cond_both)

-- a count of one more rose
pub one_more_rose : (n : ℕ) → CountRose n (one_more n)
one_more_rose n = grind (arith, nat_tests, cond_both, ltb-false)

-- an error of memory is no fault
pub memory_not_failed : {T P : Type 0} → ◌≡◌ {A = Result T ShelfError} (Err Memory) (Err Failed) → P
memory_not_failed same = cc

-- an answer is no fault
pub ok_not_failed : {T P : Type 0} (x : T) → ◌≡◌ {A = Result T ShelfError} (Ok x) (Err Failed) → P
ok_not_failed x same = cc

-- an answer leaves the count
pub cause_of_ok : {T : Type 0} (a b : ℕ) (x : T) → b ≡ a → HasCause a b (Ok x)
cause_of_ok a b x same = record { failed = λ is. ok_not_failed x is; quiet = λ other. same }

-- want of memory leaves it
pub cause_of_memory : {T : Type 0} (a b : ℕ) → b ≡ a → HasCause {T = T} a b (Err Memory)
cause_of_memory a b same = record { failed = λ is. memory_not_failed is; quiet = λ other. same }

-- a fault makes it one more
pub cause_of_failed : {T : Type 0} (a b : ℕ) → b ≡ one_more a → HasCause {T = T} a b (Err Failed)
cause_of_failed a b more = record { failed = λ is. more; quiet = λ other. absurd (other refl) }

-- whatever the answer, the count does not fall
pub cause_least : {T : Type 0} (a b : ℕ) (result : Result T ShelfError) → HasCause a b result → a ≤ b
cause_least a b result cause = grind (arith, nat_tests, ok_not_failed, memory_not_failed, one_more_least a)

-- an error is `Failed` whatever it is the error of
pub failed_as : {T U : Type 0} (e : ShelfError) → IsErrOf {T = T} (Err e) Failed → IsErrOf {T = U} (Err e) Failed
failed_as Failed is = refl
failed_as Memory is = memory_not_failed is
