use Rattle.std.proofs.Common.{◌≡◌, cond, true, false, Some, is_some, ap, sym, ◌∙◌}
use Rattle.vz_deps.specs.Bunching.{seat_in, seat_of, size_in, same_seat, same_lack}
use Rattle.vz_deps.proofs.Seating.{not_empty, at_end, in_sit, in_note, end_stands, end_seats, in_stands, in_seats, in_bunch}
use Rattle.vz_deps.proofs.bunches.Bunches.remove.Goals as goal

pub shrink-at-requires : goal.shrink-at-requires
shrink-at-requires c =
    let b = c.args.self.now in
    not_empty (seat_in b) (seat_of b) (size_in b) c.requires.stands c.args.lack.now c.in-Some.seat (sym c.swap_remove.ensures.value ∙ c.in-Some.is)

pub sit-requires : goal.sit-requires
sit-requires c =
    let b = c.args.self.now in
    (c.args.lack.now, in_sit (seat_in b) (seat_of b) (size_in b) c.requires.stands c.args.lack.now c.in-Some.seat (sym c.swap_remove.ensures.value ∙ c.in-Some.is) c.shrink-at.result c.shrink-at.ensures.size (λ e. absurd (c.if-at-seat.true (sym e))) _ c.swap_remove-moved.ensures.updates.0)

pub note-requires : goal.note-requires
note-requires c =
    let b = c.args.self.now in
    (record c.in-Some.seat { at = c.shrink-at.result }, in_note (seat_in b) (seat_of b) (size_in b) c.requires.stands c.args.lack.now c.in-Some.seat (sym c.swap_remove.ensures.value ∙ c.in-Some.is) c.shrink-at.result c.shrink-at.ensures.size (λ e. absurd (c.if-at-seat.true (sym e))) c.in-Some-moved.moved (sym c.swap_remove-moved.ensures.value ∙ c.in-Some-moved.is) _ c.swap_remove.ensures.updates.0)

pub returns-in-Some-moved-clause-stands : goal.returns-in-Some-moved-clause-stands
returns-in-Some-moved-clause-stands c =
    let b = c.args.self.now in
    in_stands (seat_in b) (seat_of b) (size_in b) c.requires.stands c.args.lack.now c.in-Some.seat (sym c.swap_remove.ensures.value ∙ c.in-Some.is) c.shrink-at.result c.shrink-at.ensures.size c.in-Some-moved.moved (sym c.swap_remove-moved.ensures.value ∙ c.in-Some-moved.is) (λ e. absurd (c.if-at-seat.true (sym e))) _ _ _
    (λ s. c.sit.ensures.seats s ∙ ap (λ o. cond (same_seat c.in-Some.seat s) (Some c.in-Some-moved.moved) o) (c.swap_remove-moved.ensures.updates.0 s))
    (λ y. c.note.ensures.seated y ∙ ap (λ o. cond (same_lack c.in-Some-moved.moved y) (Some c.in-Some.seat) o) (c.swap_remove.ensures.updates.0 y))
    c.shrink-at.ensures.sizes

pub returns-in-Some-moved-clause-bunch : goal.returns-in-Some-moved-clause-bunch
returns-in-Some-moved-clause-bunch c =
    let b = c.args.self.now in
    in_bunch (seat_in b) (seat_of b) (size_in b) c.requires.stands c.args.lack.now c.in-Some.seat (sym c.swap_remove.ensures.value ∙ c.in-Some.is) c.shrink-at.result c.shrink-at.ensures.size c.in-Some-moved.moved (sym c.swap_remove-moved.ensures.value ∙ c.in-Some-moved.is) (λ e. absurd (c.if-at-seat.true (sym e))) _ _ _
    (λ s. c.sit.ensures.seats s ∙ ap (λ o. cond (same_seat c.in-Some.seat s) (Some c.in-Some-moved.moved) o) (c.swap_remove-moved.ensures.updates.0 s))
    (λ y. c.note.ensures.seated y ∙ ap (λ o. cond (same_lack c.in-Some-moved.moved y) (Some c.in-Some.seat) o) (c.swap_remove.ensures.updates.0 y))
    c.shrink-at.ensures.sizes

pub returns-in-Some-moved-clause-seats : goal.returns-in-Some-moved-clause-seats
returns-in-Some-moved-clause-seats c =
    let b = c.args.self.now in
    in_seats (seat_in b) (seat_of b) (size_in b) c.requires.stands c.args.lack.now c.in-Some.seat (sym c.swap_remove.ensures.value ∙ c.in-Some.is) c.shrink-at.result c.shrink-at.ensures.size c.in-Some-moved.moved (sym c.swap_remove-moved.ensures.value ∙ c.in-Some-moved.is) (λ e. absurd (c.if-at-seat.true (sym e))) _ _ _
    (λ s. c.sit.ensures.seats s ∙ ap (λ o. cond (same_seat c.in-Some.seat s) (Some c.in-Some-moved.moved) o) (c.swap_remove-moved.ensures.updates.0 s))
    (λ y. c.note.ensures.seated y ∙ ap (λ o. cond (same_lack c.in-Some-moved.moved y) (Some c.in-Some.seat) o) (c.swap_remove.ensures.updates.0 y))
    c.shrink-at.ensures.sizes

pub returns-in_default-moved-clause-stands : goal.returns-in_default-moved-clause-stands
returns-in_default-moved-clause-stands c =
    let b = c.args.self.now in
    let some = at_end (seat_in b) (seat_of b) (size_in b) c.requires.stands c.args.lack.now c.in-Some.seat (sym c.swap_remove.ensures.value ∙ c.in-Some.is) c.shrink-at.result c.shrink-at.ensures.size in
    let none : false ≡ true = ap is_some c.in_default-moved.ensures.value ∙ some in
    absurd (cc)

pub returns-in_default-moved-clause-seats : goal.returns-in_default-moved-clause-seats
returns-in_default-moved-clause-seats c =
    let b = c.args.self.now in
    let some = at_end (seat_in b) (seat_of b) (size_in b) c.requires.stands c.args.lack.now c.in-Some.seat (sym c.swap_remove.ensures.value ∙ c.in-Some.is) c.shrink-at.result c.shrink-at.ensures.size in
    let none : false ≡ true = ap is_some c.in_default-moved.ensures.value ∙ some in
    absurd (cc)

pub returns-else-at-seat-clause-stands : goal.returns-else-at-seat-clause-stands
returns-else-at-seat-clause-stands c =
    let b = c.args.self.now in
    end_stands (seat_in b) (seat_of b) (size_in b) c.requires.stands c.args.lack.now c.in-Some.seat (sym c.swap_remove.ensures.value ∙ c.in-Some.is) c.shrink-at.result c.shrink-at.ensures.size (sym c.if-at-seat.false) _ _ _
    c.swap_remove-moved.ensures.updates.0 c.swap_remove.ensures.updates.0 c.shrink-at.ensures.sizes

pub returns-else-at-seat-clause-seats : goal.returns-else-at-seat-clause-seats
returns-else-at-seat-clause-seats c s y e =
    let b = c.args.self.now in
    end_seats (seat_in b) (seat_of b) (size_in b) c.requires.stands c.args.lack.now c.in-Some.seat (sym c.swap_remove.ensures.value ∙ c.in-Some.is) c.shrink-at.result c.shrink-at.ensures.size (sym c.if-at-seat.false) _ _ _
    c.swap_remove-moved.ensures.updates.0 c.swap_remove.ensures.updates.0 c.shrink-at.ensures.sizes s y e
