use Rattle.std.proofs.Common.{ℕ, ◌<◌, ◌≤◌, List, length, get_or, Some, ap, sym, ◌∙◌, arith}
use Rattle.std.proofs.lemmas.List.{take_rest, drop_all}
use Rattle.vz_journal.specs.Reading.{with_digit, digits_at}
use Rattle.vz_journal.proofs.Numerals.{no_digit, too_great, one_digit, no_more_digits}
use Rattle.vz_journal.proofs.reader.Reader.digits.Goals as goal

pub returns-then-not-is_digit : goal.returns-then-not-is_digit
returns-then-not-is_digit c =
    let bytes = c.self.inside.rest.now in
    let end = no_digit c.digits.number c.digits.place c.self.inside.rest.now (digits_at c.args.first c.self.inside.rest.now) c.digits-test.true (sym c.if-not-is_digit.ensures) c.digits.invariant.same in
    ap (digits_at c.args.first) (sym c.self.view_is) ∙ end ∙ ap (λ (t : List ℕ). Some (c.digits.number, t)) (sym (take_rest c.self.inside.rest.now c.digits.place))

pub returns-then-number-gt-GREATEST : goal.returns-then-number-gt-GREATEST
returns-then-number-gt-GREATEST c =
    let great : 4294967295 < with_digit c.digits.number (get_or c.self.inside.rest.now c.digits.place 0) = omega arith in
    let end = too_great c.digits.number c.digits.place c.self.inside.rest.now (digits_at c.args.first c.self.inside.rest.now) c.digits-test.true (sym c.if-not-is_digit.ensures) great c.digits.invariant.same in
    ap (digits_at c.args.first) (sym c.self.view_is) ∙ end

pub digits-preserved : goal.digits-preserved
digits-preserved c =
    let small : with_digit c.digits.number (get_or c.self.inside.rest.now c.digits.place 0) ≤ 4294967295 = omega arith in
    let next = one_digit c.digits.number c.digits.place c.self.inside.rest.now (digits_at c.args.first c.self.inside.rest.now) c.digits-test.true (sym c.if-not-is_digit.ensures) small c.digits.invariant.same in
    record {
      small = omega arith;
      same = rw c.from.ensures next;
    }

pub returns : goal.returns
returns c =
    let bytes = c.self.inside.rest.now in
    let end = no_more_digits c.digits.number c.digits.place c.self.inside.rest.now (digits_at c.args.first c.self.inside.rest.now) c.digits-test.false c.digits.invariant.same in
    let le : length c.self.inside.rest.now ≤ length c.self.inside.rest.now = omega arith in
    let none = take_rest c.self.inside.rest.now (length c.self.inside.rest.now) ∙ drop_all (length c.self.inside.rest.now) c.self.inside.rest.now le in
    ap (digits_at c.args.first) (sym c.self.view_is) ∙ end ∙ ap (λ (t : List ℕ). Some (c.digits.number, t)) (sym none)
