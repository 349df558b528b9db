use Rattle.std.proofs.Common.{◌≡◌, true, false, ap, sym, ◌∙◌, arith}
use Rattle.vz_returns.specs.Held.{is_rising}
use Rattle.vz_returns.proofs.Orders.{rising_order}
use Rattle.vz_returns.proofs.{Least.none_yet, Least.next_entry, counts.Table.next_from.Goals.in-Some, counts.Table.next_from.Goals.in_default}
use Rattle.vz_returns.proofs.counts.Table.next_from.Goals as goal

pub loop-k-init : goal.loop-k-init
loop-k-init c = (none_yet c.args.from c.len-len.result c.self.inside.counts.entries c.len-len.ensures.len, c.len-len.ensures.len)

pub loop-k-preserved : goal.loop-k-preserved
loop-k-preserved c =
    elim c.match-get_index.branch [
      | in-Some w ↦
          (w.least-is ∙ (w.nearer-least.ensures ∙ next_entry c.args.from c.len-len.result c.loop-k.k c.self.inside.counts.entries (w.in-Some.id.now, w.in-Some.counts.now) c.loop-k.least c.loop-k-test.true w.in-Some.ensures.entry c.loop-k.invariant.0), c.loop-k.invariant.1)
      | in_default w ↦
          let no_way : false ≡ true = w.in_default.ensures.found.1 (omega (arith, c.loop-k-test.true, c.len-len.ensures.len)) in
          absurd (cc)
    ]

pub returns-clause-rising : goal.returns-clause-rising
returns-clause-rising c = ap (λ v. is_rising v.list) (sym c.self.view_is) ∙ rising_order c.self.inside.counts.entries
