use Rattle.std.proofs.Common.{◌≡◌, true, false, cond, [], ◌∷◌, ◌++◌, sym, ap, ◌∙◌, arith}
use Rattle.std.specs.List.{list_any}
use Rattle.vz_ids.specs.Ids.{same_sink}
use Rattle.vz_sinks.proofs.reaching.add.Goals as goal

-- it is not there, and there is room
pub put-requires : goal.put-requires
put-requires c =
    let no : c.has_sink.result ≡ false = grind (arith, c.if-not-has_sink.true) in
    c.requires (sym (ap (list_any (same_sink c.args.sink)) c.as_slice.ensures) ∙ sym c.has_sink.ensures ∙ no)

pub returns-then-not-has_sink-clause-list : goal.returns-then-not-has_sink-clause-list
returns-then-not-has_sink-clause-list c =
    let out = c.args.out.now.list in
    let no : c.has_sink.result ≡ false = grind (arith, c.if-not-has_sink.true) in
    c.put.ensures.list ∙ sym (ap (λ t. cond t out (out ++ c.args.sink ∷ [])) (sym (ap (list_any (same_sink c.args.sink)) c.as_slice.ensures) ∙ sym c.has_sink.ensures ∙ no))

-- it is there
pub returns-else-not-has_sink-clause-list : goal.returns-else-not-has_sink-clause-list
returns-else-not-has_sink-clause-list c =
    let out = c.args.out.now.list in
    let yet : c.has_sink.result ≡ true = grind (arith, c.if-not-has_sink.false) in
    sym (ap (λ t. cond t out (out ++ c.args.sink ∷ [])) (sym (ap (list_any (same_sink c.args.sink)) c.as_slice.ensures) ∙ sym c.has_sink.ensures ∙ yet))
