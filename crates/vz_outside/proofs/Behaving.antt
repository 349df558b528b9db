-- That several calls of a shelf behave.
use Rattle.std.proofs.Common.{◌≡◌, Result, Ok, Err, OnErr, IsErrAnd, sym, ap, subst, ◌∙◌, arith}
use Rattle.vz_outside.specs.{Faults.one_more, declared.shelf.ShelfError.ShelfError, declared.shelf.ShelfError.TheVariants.Memory}
use Rattle.vz_outside.specs.Shelved.{Shelved, Name, IsMissing, SameFiles, BehavesUnless}
use Rattle.vz_outside.proofs.{Calls.Ran, Calls.call_then_call, Calls.faultless_then_faultless, Rises.failed_as, Rises.memory_not_failed}
use Rattle.std.proofs.lemmas.Bool.Decides.{nat_tests}

-- what holds at an error
pub on_err : {T E : Type 0} (r : Result T E) (P : Type 0) → P → OnErr r P
on_err r _ is = grind (arith, nat_tests)

-- a call behind calls that went through, which fails for one reason at most
pub then_behaves :
    {T P Q : Type 0} (r : Result T ShelfError) (a b c : Shelved) → Ran a b → BehavesUnless P b c r → (P → Q) → BehavesUnless Q a c r
then_behaves r a b c ran then reason = record {
  call = call_then_call a b c ran.call then.call;
  cause = record {
    failed = λ is. then.cause.failed is ∙ ap one_more ran.quiet;
    quiet = λ other. then.cause.quiet other ∙ ran.quiet;
  };
  works = λ faultless is. reason (then.works (ran.stays faultless).faultless is);
  stays = λ faultless other.
      faultless_then_faultless a b c (ran.stays faultless) (then.stays (ran.stays faultless).faultless other);
}

-- an error is one whatever it is the error of, and for whatever more reasons
pub behaves_as :
    {T U P Q : Type 0} (e : ShelfError) (a b : Shelved) → BehavesUnless {T = T} P a b (Err e) → (P → Q) → BehavesUnless {T = U} Q a b (Err e)
behaves_as {T = T} {U = U} e a b behaves reason = record {
  call = behaves.call;
  cause = record {
    failed = λ is. behaves.cause.failed (failed_as {T = U} {U = T} e is);
    quiet = λ other. behaves.cause.quiet (λ is. other (failed_as {T = T} {U = U} e is));
  };
  works = λ faultless is. reason (behaves.works faultless (failed_as {T = U} {U = T} e is));
  stays = λ faultless other. behaves.stays faultless (λ is. other (failed_as {T = T} {U = U} e is));
}

-- want of memory behind calls that went through
pub memory_behaves : {T P : Type 0} (a b : Shelved) → Ran a b → BehavesUnless {T = T} P a b (Err Memory)
memory_behaves a b ran = grind (arith, nat_tests, memory_not_failed)

-- what is missing after calls that kept the bytes was missing before
pub missing_before : (name : Name) (a b : Shelved) → Ran a b → SameFiles a b → IsMissing name b → IsMissing name a
missing_before name a b ran same missing = grind (arith, nat_tests)

-- what an error says of the calls is said of a result that is that error
pub behaves_at :
    {T P : Type 0} (e : ShelfError) (r : Result T ShelfError) (a b : Shelved) →
    IsErrAnd r (λ f. f ≡ e) → BehavesUnless {T = T} P a b (Err e) → BehavesUnless P a b r
behaves_at e (Ok x) a b is behaves = absurd is
behaves_at {T = T} {P = P} e (Err f) a b is behaves = subst (λ q. BehavesUnless {T = T} P a b (Err q)) (sym is) behaves
