-- How much is left to be painted: each step of the painter leaves less.
use Rattle.std.specs.Prelude.{ℕ, zero, suc, ◌+◌, ◌*◌, List, length, sum_by}
use Rattle.vz_plain.specs.Levels.{Level, wide, height}

-- more than all quads of all passes that are lower by one
unfoldable pub tower : ℕ → ℕ
tower zero = 1
tower (suc h) = wide * tower h

-- what is left of a level: its quads, each with all that it may draw, and its end
abbrev pub work : Level → ℕ
work l = (length l.quads + 1) * tower (height l.levels l.earlier)

-- what is left of all levels
abbrev pub stack_work : List Level → ℕ
stack_work stack = sum_by work stack
