-- Rounds one after the other.
use Rattle.std.proofs.Common.{◌≡◌, ℕ, suc, ◌+◌, ◌-◌, ◌<◌, List, ◌++◌, append_assoc, ap, sym, ◌∙◌, arith}
use Rattle.vz_frame.specs.declared.message.Message.{Message}
use Rattle.vz_gen.specs.Make.{round_of, rounds_from}

-- the rounds so far with one more
pub rounds_step : (k n r : ℕ) (old more whole : List Message) → r < n → more ≡ old ++ round_of k (r + 1) → old ++ rounds_from k (n - r) (r + 1) ≡ whole
    → more ++ rounds_from k (n - (r + 1)) ((r + 1) + 1) ≡ whole
rounds_step k n r old more whole low grown so_far =
    let rest : List Message = rounds_from k (n - (r + 1)) ((r + 1) + 1) in
    let one : n - r ≡ suc (n - (r + 1)) = omega arith in
    ap (λ l. l ++ rest) grown ∙ (append_assoc old (round_of k (r + 1)) rest ∙ (ap (λ m. old ++ rounds_from k m (r + 1)) (sym one) ∙ so_far))
