-- Answers that are known in part.
use Rattle.std.proofs.Common.{◌≡◌, Result, Ok, Err, OnOk, OnErr, IsErrAnd, sym, subst, arith}
use Rattle.std.proofs.lemmas.Bool.Decides.{nat_tests}

-- what holds where it went well
pub on_ok : {E : Type 0} (r : Result (Unit {0}) E) (A P : Type 0) → OnOk r A → (A → r ≡ Ok tt → P) → OnOk r P
on_ok r _ _ a f = grind (arith, nat_tests)

-- what holds where it did not
pub on_err : {E : Type 0} (r : Result (Unit {0}) E) (A P : Type 0) → OnErr r A → (A → P) → OnErr r P
on_err r _ _ a f = grind (arith, nat_tests)

-- an error that is handed on
pub err_as : {T E : Type 0} (e : E) (r : Result T E) (P : Result T E → Type 0) → IsErrAnd r (λ f. f ≡ e) → P (Err e) → OnErr r (P r)
err_as e r _ is p = grind (arith, nat_tests)

-- the same of what holds of the whole result
pub as_err : {T E : Type 0} (e : E) (r : Result T E) (P : Result T E → Type 0) → IsErrAnd r (λ f. f ≡ e) → P (Err e) → P r
as_err e (Ok x) P is p = absurd is
as_err e (Err f) P is p = subst (λ x. P (Err x)) (sym is) p

-- what holds of two values holds of those that they are
pub at_both : {A : Type 0} (P : A → A → Type 0) (a b x y : A) → a ≡ x → b ≡ y → P a b → P x y
at_both {A} P a b x y e f p = subst (λ (z : A × A). P z.0 z.1) (λ i. (e i, f i)) p
