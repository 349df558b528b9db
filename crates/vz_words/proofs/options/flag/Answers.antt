use Rattle.std.proofs.Common.{sym, ap, ◌∙◌}
use Rattle.vz_words.specs.Words.{begins}
use Rattle.vz_words.proofs.Pieces.{front_1, same_text_is}
use Rattle.vz_words.proofs.options.flag.Goals as goal

pub returns-then-is_same : goal.returns-then-is_same
returns-then-is_same c =
    let front = front_1 c.args.words.now c.first-item.result c.in-len1-up.len_at_least c.first-item.is in
    let test = sym c.is_same.ensures ∙ c.if-is_same.true in
    let first = sym c.as_str.ensures.value ∙ same_text_is c.as_str.result.now c.args.name.now test in
    let given = ap (begins c.args.name.now) front in
    (cc, cc)
