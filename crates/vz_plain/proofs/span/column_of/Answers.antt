use Rattle.std.proofs.Common.{FitsSigned, rules}
use Rattle.std.specs.Int.{w32}
use Rattle.vz_plain.proofs.Spans.{column_is}
use Rattle.vz_plain.proofs.span.column_of.Goals as goal

pub returns : goal.returns
returns c =
    let x : FitsSigned w32 c.args.x.now = search rules in
    let by : FitsSigned w32 c.args.by.x = search rules in
    let start : FitsSigned w32 c.args.start.x = search rules in
    column_is c.args.x.now c.args.by.x c.args.start.x c.from.result c.from-2.result c.from-3.result x by start c.from.ensures c.from-2.ensures c.from-3.ensures
