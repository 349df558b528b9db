use Rattle.std.proofs.Common.{◌+◌, ◌++◌, nat_eq, option_to_list, slice_index_or, drop, map, filter, ap, sym, ◌∙◌, arith}
use Rattle.std.specs.Map.{lookup}
use Rattle.std.proofs.lemmas.List.{append_assoc}
use Rattle.vz_deps.specs.Lacking.{is_in}
use Rattle.vz_deps.specs.Ordered.{in_order}
use Rattle.vz_deps.proofs.Released.{up_next, left_next, out_next, first_length, left_end, out_end, room_left}
use Rattle.vz_deps.proofs.releasing.release_all.Goals as goal

pub release_one-requires-clause-room : goal.release_one-requires-clause-room
release_one-requires-clause-room c =
    room_left (λ e. is_in e.0 c.args.freed.now) (in_order c.args.subs.now.entries) c.loop-order.out.list c.args.out.now.list _ c.args.out.now.spare c.loop-order.out.spare _ c.loop-order.invariant.4 c.loop-order.invariant.5 c.requires.room
    (first_length c.args.freed.now c.loop-order.order-index 0 c.loop-order-test.true c.loop-order.invariant.9 c.loop-order.subs.entries)

pub loop-order-preserved : goal.loop-order-preserved
loop-order-preserved c =
    let F = c.args.freed.now in
    let k = c.loop-order.order-index in
    let inside = c.loop-order-test.true in
    let i = c.loop-order.invariant in (
      c.release_one.ensures.numbered,
      λ o. left_next F k 0 inside i.9 o _ _ _ (i.1 o) (c.release_one.ensures.subs o),
      λ o. left_next F k 0 inside i.9 o _ _ _ (i.2 o) (c.swap_remove.ensures.updates.0 o),
      omega (arith, i.3, c.swap_remove.ensures.len),
      ap (λ l. l ++ map (λ e. e.1) (filter (λ e. is_in e.0 (drop (k + 1) F)) (in_order c.release_one.new.subs.entries))) c.release_one.ensures.out
          ∙ append_assoc c.loop-order.out.list (option_to_list (lookup (nat_eq (slice_index_or F k 0)) c.loop-order.subs.entries)) _
          ∙ ap (λ m. c.loop-order.out.list ++ m) (sym (out_next F k 0 inside i.9 c.loop-order.subs.entries c.release_one.new.subs.entries c.release_one.ensures.subs))
          ∙ i.4,
      omega (arith, i.5, c.release_one.ensures.spare),
      omega (arith, i.6, c.release_one.ensures.rooms),
      omega (arith, i.7, c.release_one.ensures.places),
      omega (arith, i.8, c.swap_remove.ensures.room.0),
      up_next F k 0 inside i.9,
    )

pub returns-clause-subs : goal.returns-clause-subs
returns-clause-subs c o = left_end c.args.freed.now c.loop-order.order-index o _ _ (omega (arith, c.loop-order-test.false)) (c.loop-order.invariant.1 o)

pub returns-clause-counts : goal.returns-clause-counts
returns-clause-counts c o = left_end c.args.freed.now c.loop-order.order-index o _ _ (omega (arith, c.loop-order-test.false)) (c.loop-order.invariant.2 o)

pub returns-clause-out : goal.returns-clause-out
returns-clause-out c = out_end c.args.freed.now c.loop-order.order-index _ _ _ (omega (arith, c.loop-order-test.false)) c.loop-order.invariant.4
