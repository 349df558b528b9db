use Rattle.std.proofs.Common.{◌≡◌, true, false, ap, sym, ◌∙◌, is_some, None, length}
use Rattle.vz_returns.specs.{Held.put_in, Held.counted_at, Ordered.counted_of, Ordered.in_order}
use Rattle.vz_returns.proofs.Orders.{order_put, read_none, counts_there, rising_order, put_same}
use Rattle.vz_returns.proofs.counts.Table.set.Goals as goal
use Rattle.vz_returns.proofs.counts.Table.set.Goals.{in-Some, in_default}

pub returns-clause-list : goal.returns-clause-list
returns-clause-list c =
    let entries = c.self.inside.counts.entries in
    elim c.match-get_mut.branch [
      | in-Some w ↦
          let written = c.get_mut.follows.holds c.args.counts in
          let some = sym (ap is_some w.in-Some.ensures.value) in
          ap (λ s. in_order s.counts.entries) w.self-inside-is
          ∙ order_put entries (c.get_mut.follows.lender c.args.counts).entries c.args.id c.args.counts (written.3 some).0
          ∙ ap (λ v. put_in (counted_of c.args.id c.args.counts) v.list) c.self.view_is
      | in_default w ↦
          let none : counted_at c.args.id (in_order entries) ≡ None = read_none c.args.id entries w.in_default.ensures.value in
          let no_way : false ≡ true = sym (ap is_some none) ∙ ap (λ v. is_some (counted_at c.args.id v.list)) c.self.view_is ∙ counts_there c.args.id c.args.self.now.list c.requires in
          absurd (cc)
    ]

pub returns-clause-len : goal.returns-clause-len
returns-clause-len c =
    let entries = c.self.inside.counts.entries in
    let there = counts_there c.args.id c.args.self.now.list c.requires in
    let some = ap (λ v. is_some (counted_at c.args.id v.list)) c.self.view_is ∙ there in
    elim c.match-get_mut.branch [
      | in-Some w ↦
          let written = c.get_mut.follows.holds c.args.counts in
          let found = sym (ap is_some w.in-Some.ensures.value) in
          ap (λ s. length (in_order s.counts.entries)) w.self-inside-is
          ∙ ap length (order_put entries (c.get_mut.follows.lender c.args.counts).entries c.args.id c.args.counts (written.3 found).0)
          ∙ put_same (counted_of c.args.id c.args.counts) (in_order entries) (rising_order entries) some
          ∙ ap (λ v. length v.list) c.self.view_is
      | in_default w ↦
          let none : counted_at c.args.id (in_order entries) ≡ None = read_none c.args.id entries w.in_default.ensures.value in
          let no_way : false ≡ true = sym (ap is_some none) ∙ some in
          absurd (cc)
    ]
