-- What an answer says.
use Rattle.std.proofs.Common.{Bool, true, false}
use Rattle.vz_check.specs.Judged.{IsAnswer}

-- an answer to one thing is one to another that holds where it does
pub answer_as : {P Q : Type 0} (b : Bool) → (P → Q) → (Q → P) → IsAnswer b P → IsAnswer b Q
answer_as true there back so = there so
answer_as false there back other = λ q. other (back q)
