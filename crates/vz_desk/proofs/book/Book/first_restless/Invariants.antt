use Rattle.std.proofs.Common.{◌≡◌, ℕ, ◌+◌, ◌<◌, false}
use Rattle.vz_desk.specs.{Books.machine_of, Calm.restless_at}
use Rattle.vz_desk.proofs.book.Book.first_restless.Given as goal

abbrev pub invariant-loop-before : goal.invariant-loop-before
invariant-loop-before g l = (k : ℕ) → k < l.before → restless_at (machine_of l.self) (k + 1) ≡ false
