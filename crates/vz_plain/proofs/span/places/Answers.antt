use Rattle.vz_plain.proofs.Spans.{no_row, reached, none_reached}
use Rattle.vz_plain.proofs.span.places.Goals as goal

pub returns-then-not-reach-clause-exact : goal.returns-then-not-reach-clause-exact
returns-then-not-reach-clause-exact c = λ i low. no_row c.args.reach i c.if-not-reach.true

pub returns-then-to-from-clause-exact : goal.returns-then-to-from-clause-exact
returns-then-to-from-clause-exact c =
    let f = c.before-from.ensures in
    let t = c.upto-to.ensures in
    none_reached c.args.reach c.args.count c.before-from.result c.upto-to.result c.if-not-reach.false
    (record { most = f.most; left = f.left; right = f.right }) (record { most = t.most; left = t.left; right = t.right }) c.if-to-from.true

pub returns-clause-exact : goal.returns-clause-exact
returns-clause-exact c =
    let f = c.before-from.ensures in
    let t = c.upto-to.ensures in
    reached c.args.reach c.args.count c.before-from.result c.upto-to.result c.if-not-reach.false
    (record { most = f.most; left = f.left; right = f.right }) (record { most = t.most; left = t.left; right = t.right })
