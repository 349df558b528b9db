-- What is read off the elements of a list, one after the other.
use Rattle.std.proofs.Common.{◌≡◌, ◌+◌, ◌<◌, ◌++◌, ℕ, Option, Some, None, List, [], ◌∷◌, take, length, get_or, refl, arith}
use Rattle.std.specs.{List.filter_map, List.cons_option, Option.option_to_list}
use Rattle.std.proofs.{lemmas.Grind.take_at_read, lemmas.List.Elements.filter_map-append, lemmas.Bool.Decides.nat_tests}

one_given : {B : Type 0} (o : Option B) → cons_option o [] ≡ option_to_list o
one_given None = refl
one_given (Some b) = refl

-- what one element more gives
pub given_more : {A B : Type 0} (f : A → Option B) (xs : List A) (k : ℕ) (d : A) → k < length xs
    → filter_map f (take (k + 1) xs) ≡ filter_map f (take k xs) ++ option_to_list (f (get_or xs k d))
given_more f xs k d h = grind (arith, nat_tests, take_at_read xs k d h, filter_map-append f (take k xs) (get_or xs k d ∷ []), one_given (f (get_or xs k d)))
