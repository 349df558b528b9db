use Rattle.std.proofs.Common.{arith}
use Rattle.vz_words.proofs.Spelled.{out_of_range}
use Rattle.vz_words.proofs.numbers.number.Goals as goal

pub returns-then-number-least-clause-none : goal.returns-then-number-least-clause-none
returns-then-number-least-clause-none c = λ n fits is.
    out_of_range c.args.word.now c.in_ok-number.number n c.args.least c.args.most (omega arith) (omega arith) c.in_ok-number.ensures.found (λ low high. omega arith) fits is
