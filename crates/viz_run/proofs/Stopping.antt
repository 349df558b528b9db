-- That calls of a shelf behind which a call stops behave.
use Rattle.std.proofs.Common.{rules, ◌≡◌, Result, Ok, Err, IsErrOf, IsErrAnd, refl, sym, ap, ◌∙◌}
use Rattle.vz_outside.specs.{Faults.one_more, Shelved.Shelved, Shelved.BehavesUnless, declared.shelf.ShelfError.ShelfError}
use Rattle.vz_outside.specs.declared.shelf.ShelfError.TheVariants as shelf_error
use Rattle.vz_outside.proofs.Calls.{Ran, call_then_call, faultless_then_faultless}
use Rattle.viz_run.specs.{Stops.Behaves, Stops.stop_of, declared.stop.Stop.Stop}
use Rattle.viz_run.specs.declared.stop.Stop.TheVariants as stop

-- a stop for a fault is one for an error `Failed`
fault_of : (e : ShelfError) → stop_of e ≡ stop.Fault → e ≡ shelf_error.Failed
fault_of shelf_error.Failed is = refl
fault_of shelf_error.Memory is = absurd (search rules)

err_fault : {T : Type 0} (s : Stop) → IsErrOf {T = T} (Err s) stop.Fault → s ≡ stop.Fault
err_fault s is = search rules

err_failed : {T : Type 0} (e : ShelfError) → e ≡ shelf_error.Failed → IsErrOf {T = T} (Err e) shelf_error.Failed
err_failed e is = search rules

-- calls went through, and the last one is the error that the call stops for
pub stops_at :
    {T U P Q : Type 0} (e : ShelfError) (r : Result T Stop) (a b c : Shelved) → IsErrAnd r (λ s. s ≡ stop_of e)
    → Ran a b → BehavesUnless {T = U} P b c (Err e) → (P → Q) → Behaves Q a c r
stops_at e (Ok x) a b c is ran then reason = absurd is
stops_at {T = T} {U = U} e (Err s) a b c is ran then reason = record {
  call = call_then_call a b c ran.call then.call;
  fault = λ at. then.cause.failed (failed at) ∙ ap one_more ran.quiet;
  quiet = λ other. then.cause.quiet (λ f. other (fault f)) ∙ ran.quiet;
  works = λ faultless at. reason (then.works (ran.stays faultless).faultless (failed at));
  stays = λ faultless other.
      faultless_then_faultless a b c (ran.stays faultless) (then.stays (ran.stays faultless).faultless (λ f. other (fault f)));
}
  where
    failed : IsErrOf {T = T} (Err s) stop.Fault → IsErrOf {T = U} (Err e) shelf_error.Failed
    failed at = err_failed e (fault_of e (sym is ∙ err_fault s at))

    fault : IsErrOf {T = U} (Err e) shelf_error.Failed → IsErrOf {T = T} (Err s) stop.Fault
    fault f = search rules

-- calls went through, and behind them no fault comes
pub stops_after : {T Q : Type 0} (r : Result T Stop) (a b : Shelved) → Ran a b → (IsErrOf r stop.Fault → ⊥) → Behaves Q a b r
stops_after r a b ran none = record {
  call = ran.call;
  fault = λ at. absurd (none at);
  quiet = λ other. ran.quiet;
  works = λ faultless at. absurd (none at);
  stays = λ faultless other. ran.stays faultless;
}
