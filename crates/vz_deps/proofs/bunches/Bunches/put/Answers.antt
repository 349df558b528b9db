use Rattle.std.proofs.Common.{◌+◌, nat_lt, Some, cond, arith, ap, sym, ◌∙◌}
use Rattle.vz_deps.specs.Bunching.{seat_in, seat_of, size_in, same_seat, same_lack, same_bunch}
use Rattle.vz_deps.proofs.Same.{on_ok}
use Rattle.vz_deps.proofs.Seating.{put_stands, few_seats, sized_put}
use Rattle.vz_deps.proofs.bunches.Bunches.put.Goals as goal

pub overflow_add-at : goal.overflow_add-at
overflow_add-at c =
    let few = few_seats c.args.bunch c.size-at.result c.args.self.now.seats.entries (λ i low. c.requires.stands.full (record { bunch = c.args.bunch; at = i }) ∙ ap (nat_lt i) (sym c.size-at.ensures) ∙ low) in
    omega (arith, few, c.len.ensures.len, c.len.ensures.small)

pub returns-clause-stands : goal.returns-clause-stands
returns-clause-stands c =
    let size = c.size-at.ensures in
    let b = c.args.self.now in
    put_stands (seat_in b) (seat_of b) (size_in b) c.requires.stands c.args.bunch c.args.lack c.requires.new _ _ _
    (λ s. (on_ok _ _ _ c.unwrap.ensures c.insert.ensures.updates).0 s ∙ ap (λ n. cond (same_seat (record { bunch = c.args.bunch; at = n }) s) (Some c.args.lack) (seat_in b s)) size)
    (λ y. (on_ok _ _ _ c.unwrap-2.ensures c.insert-2.ensures.updates).0 y ∙ ap (λ n. cond (same_lack c.args.lack y) (Some (record { bunch = c.args.bunch; at = n })) (seat_of b y)) size)
    (λ h. sized_put b.sizes.entries c.insert-3.new.self.entries c.args.bunch (c.size-at.result + 1) h ((on_ok _ _ _ c.unwrap-3.ensures c.insert-3.ensures.updates).0 h) ∙ ap (λ n. cond (same_bunch c.args.bunch h) (n + 1) (size_in b h)) size)
