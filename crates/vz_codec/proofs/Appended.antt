-- Fields that are written one after the other.
use Rattle.std.proofs.Common.{◌≡◌, ℕ, List, ◌++◌, ap, ◌∙◌, append_assoc}

-- what is written behind what was written before
pub appended : (old a b one now : List ℕ) → now ≡ one ++ b → one ≡ old ++ a → now ≡ old ++ (a ++ b)
appended old a b one now is_now is_one = is_now ∙ ap (λ l. l ++ b) is_one ∙ append_assoc old a b
