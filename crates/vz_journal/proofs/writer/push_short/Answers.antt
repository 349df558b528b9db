use Rattle.std.proofs.Common.{◌≡◌, string_bytes, OnOk, subst}
use Rattle.vz_journal.proofs.Numerals.{two_digits}
use Rattle.vz_journal.proofs.writer.push_short.Goals as goal

pub returns-then-number-lt100 : goal.returns-then-number-lt100
returns-then-number-lt100 c =
    let last = c.push_digit-then-number-lt100-2 in
    let both = two_digits c.args.number (string_bytes c.args.out.now) (string_bytes c.push_digit-then-number-lt100.new.out) c.if-number-lt10.false c.if-number-lt100.true c.in_ok-push_digit.ensures in
    subst (λ t. OnOk last.result (string_bytes last.new.out ≡ t)) both last.ensures
