-- The tests for the same lack, bunch and seat, and what is picked by a test.
use Rattle.std.proofs.Common.{◌≡◌, ℕ, Bool, true, false, ◌==◌, ◌&&◌, cond, Option, Some, None, Result, Ok, OnOk, refl, ap, sym, subst, inl, inr, ◌⊎◌, ◌∙◌, arith}
use Rattle.std.proofs.lemmas.Bool.Decides.{nat_tests}
use Rattle.vz_ids.specs.declared.FrameSinkId.{FrameSinkId}
use Rattle.vz_ids.specs.Ids.{same_sink}
use Rattle.vz_deps.specs.declared.bunches.Bunch.{Bunch}
use Rattle.vz_deps.specs.declared.bunches.Lack.{Lack}
use Rattle.vz_deps.specs.declared.bunches.Seat.{Seat}
use Rattle.vz_deps.specs.Bunching.{same_lack, same_bunch, same_seat}

pub both : (a b : Bool) → (a && b) ≡ true → (a ≡ true) × (b ≡ true)
both true b h = (refl, h)
both false b h = absurd (cc)

pub two : (a b : Bool) → a ≡ true → b ≡ true → (a && b) ≡ true
two a b p q = rw (p, q)

pub either : (t : Bool) → (t ≡ true) ⊎ (t ≡ false)
either true = inl refl
either false = inr refl

pub from_number : (a b : ℕ) → (a == b) ≡ true → a ≡ b
from_number a b h = grind (arith, nat_tests)

pub own_number : (a : ℕ) → (a == a) ≡ true
own_number a = grind (arith, nat_tests)

pub from_lack : (a b : Lack) → same_lack a b ≡ true → a ≡ b
from_lack a b h = grind (arith, nat_tests, both, from_number a.order b.order, from_number a.nth b.nth)

pub own_lack : (a : Lack) → same_lack a a ≡ true
own_lack a = two _ _ (own_number a.order) (own_number a.nth)

pub from_sink : (a b : FrameSinkId) → same_sink a b ≡ true → a ≡ b
from_sink a b h = grind (arith, nat_tests, both, from_number a.client_id b.client_id, from_number a.sink_id b.sink_id)

pub from_bunch : (a b : Bunch) → same_bunch a b ≡ true → a ≡ b
from_bunch a b h = grind (arith, nat_tests, both, from_sink a.sink b.sink, from_number a.token.0 b.token.0)

pub own_bunch : (a : Bunch) → same_bunch a a ≡ true
own_bunch a = two _ _ (two _ _ (own_number a.sink.client_id) (own_number a.sink.sink_id)) (own_number a.token.0)

pub from_seat : (a b : Seat) → same_seat a b ≡ true → a ≡ b
from_seat a b h = grind (arith, nat_tests, both, from_bunch a.bunch b.bunch, from_number a.at b.at)

pub own_seat : (a : Seat) → same_seat a a ≡ true
own_seat a = two _ _ (own_bunch a.bunch) (own_number a.at)

-- what holds where a call answered Ok
pub on_ok : {T E : Type 0} (P : Type 0) (r : Result T E) (v : T) → r ≡ Ok v → OnOk r P → P
on_ok P r v e h = subst (λ r. OnOk r P) e h

-- what is picked

pub pick_yes : {A : Type 0} (t : Bool) (a b : A) → t ≡ true → cond t a b ≡ a
pick_yes t a b h = ap (λ t. cond t a b) h

pub pick_no : {A : Type 0} (t : Bool) (a b : A) → t ≡ false → cond t a b ≡ b
pick_no t a b h = ap (λ t. cond t a b) h

pub some_same : {A : Type 0} (a b : A) → Some a ≡ Some b → a ≡ b
some_same a b h = cc

pub none_some : {A : Type 0} (a : A) (o : Option A) → o ≡ None → o ≡ Some a → true ≡ false
none_some a o h k = let e : Some a ≡ None = sym k ∙ h in absurd (cc)

pub yes_no : (t : Bool) → t ≡ true → t ≡ false → true ≡ false
yes_no t h k = sym h ∙ k
