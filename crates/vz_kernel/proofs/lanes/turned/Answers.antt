use Rattle.std.proofs.Common.{ℕ, zero, suc, List, [], ◌∷◌, ◌++◌, map, get_or}
use Rattle.vz_kernel.proofs.lanes.turned.Goals as goal

-- n places from one on
abbrev places : ℕ → ℕ → List ℕ
places i zero = []
places i (suc n) = i ∷ places (suc i) n

pub returns : goal.returns
returns c b e = λ i. map (λ k. get_or (e i ++ e i) k 0) (places 16 16 ++ places 0 16)
