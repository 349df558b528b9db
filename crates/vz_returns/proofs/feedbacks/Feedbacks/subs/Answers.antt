use Rattle.std.proofs.Common.{◌++◌, length, ap, ◌∙◌, arith}
use Rattle.vz_returns.proofs.Sorted_subs.{sorted_length, put_sorted, by_client}
use Rattle.vz_returns.proofs.feedbacks.Feedbacks.subs.Goals as goal

pub put_all-requires : goal.put_all-requires
put_all-requires c =
    let long = sorted_length c.self.inside.places.entries c.keys-keys.ensures.unique in
    let list = ap (λ v. length v.list) c.self.view_is in
    let keys = ap length c.as_slice.ensures in
    omega (arith, long, list, keys, c.keys-keys.ensures.len, c.requires)

pub returns-clause-list : goal.returns-clause-list
returns-clause-list c =
    let mid = c.put_all.ensures.list ∙ ap (λ l. c.args.out.now.list ++ l) (c.as_slice.ensures ∙ c.keys-keys.ensures.rest) in
    put_sorted c.self.inside.places.entries c.args.out.now.list c.put_all.new.out.list c.sort_from.new.self.list _ (ap length c.as_slice-before.ensures) mid
    c.keys-keys.ensures.unique c.sort_from.ensures.front c.sort_from.ensures.same (by_client _ c.sort_from.ensures.sorted)
    ∙ ap (λ v. c.args.out.now.list ++ v.list) c.self.view_is

pub returns-clause-room : goal.returns-clause-room
returns-clause-room c =
    let long = sorted_length c.self.inside.places.entries c.keys-keys.ensures.unique in
    let list = ap (λ v. length v.list) c.self.view_is in
    let keys = ap length c.as_slice.ensures in
    omega (arith, long, list, keys, c.keys-keys.ensures.len, c.put_all.ensures.room, c.sort_from.ensures.spare)
