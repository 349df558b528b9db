-- What follows where a reading in steps found a value.
use Rattle.std.proofs.Common.{◌≡◌, ℕ, Bool, true, false, ◌==◌, List, ◌++◌, Option, Some, None, refl, ap, ◌∙◌, sym, append_assoc, if◌then◌else◌, eqb-true}
use Rattle.vz_journal.specs.Reading.{◌>>=◌, tested}

-- both ways of a test
pub either : {R : Type 0} (b : Bool) → (b ≡ true → R) → (b ≡ false → R) → R
either true yes_way no_way = yes_way refl
either false yes_way no_way = no_way refl

-- the value of a step, and what follows
pub then_some : {A B : Type 0} {R : Type 0} (r : Option A) (f : A → Option B) (y : B) → (r >>= f) ≡ Some y → ((x : A) → r ≡ Some x → f x ≡ Some y → R) → R
then_some (Some x) f y e next = next x refl e
then_some None f y e next = absurd cc

-- a value that passes a test
pub tested_some : {A : Type 0} (good : Bool) (x y : A) → tested good x ≡ Some y → (good ≡ true) × (x ≡ y)
tested_some true x y e = (refl, cc)
tested_some false x y e = absurd cc

pub some_is : {A : Type 0} (x y : A) → Some x ≡ Some y → x ≡ y
some_is x y e = cc

pub none_is_not : {A : Type 0} {R : Type 0} (y : A) → None ≡ Some y → R
none_is_not y e = absurd cc

-- which way a test went
pub chosen : {A : Type 0} {R : Type 0} (b : Bool) (x y z : A) → (if b then x else y) ≡ z → (b ≡ true → x ≡ z → R) → (b ≡ false → y ≡ z → R) → R
chosen true x y z e one other = one refl e
chosen false x y z e one other = other refl e

pub pick : {A : Type 0} (b : Bool) (x y : A) → b ≡ true → (if b then x else y) ≡ x
pick b x y h = rw h

pub skip : {A : Type 0} (b : Bool) (x y : A) → b ≡ false → (if b then x else y) ≡ y
skip b x y h = rw h

-- the number that chooses a value, among others
pub by_number : {A : Type 0} {R : Type 0} (n k : ℕ) (x a : A) (others : Option A) → (if n == k then Some x else others) ≡ Some a → (n ≡ k → x ≡ a → R) → (others ≡ Some a → R) → R
by_number n k x a others e one other = chosen (n == k) (Some x) others (Some a) e (λ same is. one (eqb-true n k same) (some_is x a is)) (λ _ is. other is)

-- parts that stand one behind the other
pub joined : (bytes a b r s : List ℕ) → bytes ≡ a ++ r → r ≡ b ++ s → bytes ≡ (a ++ b) ++ s
joined bytes a b r s p q = p ∙ ap (λ t. a ++ t) q ∙ sym (append_assoc a b s)
