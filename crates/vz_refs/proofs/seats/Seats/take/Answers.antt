use Rattle.std.proofs.Common.{is_some, refl, sym, ap, ◌∙◌, arith}
use Rattle.vz_refs.specs.Lasting.{same_name, seat_of, kept_in, name_in, size_in}
use Rattle.vz_refs.proofs.Named.{from_name, self_name}
use Rattle.vz_refs.proofs.Seating.{seated_same, gone_already, not_empty, end_in, one_fewer_in, stood_in}
use Rattle.vz_refs.proofs.seats.Seats.take.Goals as goal

pub shrink-last-requires : goal.shrink-last-requires
shrink-last-requires c =
    let s = c.args.self.now in
    let some = not_empty same_name from_name self_name seat_of (kept_in s) (name_in s) (size_in s) c.requires.stands c.args.name.now c.in-Some.gone (sym c.swap_remove.ensures.value ∙ c.in-Some.is) in
    omega (arith, some, ap (size_in s) c.group-group.ensures)

pub unwrap-moved-requires : goal.unwrap-moved-requires
unwrap-moved-requires c =
    let s = c.args.self.now in
    ap is_some c.swap_remove-in-Some.ensures.value
    ∙ end_in same_name from_name self_name seat_of (kept_in s) (name_in s) (size_in s) c.requires.stands c.args.name.now c.in-Some.gone (sym c.swap_remove.ensures.value ∙ c.in-Some.is)
    c.shrink-last.result c.group-group.result c.group-group.ensures c.shrink-last.ensures.size

pub returns-in-Some-clause-stands : goal.returns-in-Some-clause-stands
returns-in-Some-clause-stands c =
    let s = c.args.self.now in
    one_fewer_in same_name from_name self_name seat_of (kept_in s) (name_in s) (size_in s) c.requires.stands c.args.name.now c.in-Some.gone (sym c.swap_remove.ensures.value ∙ c.in-Some.is)
    c.shrink-last.result c.group-group.result c.group-group.ensures c.shrink-last.ensures.size
    c.unwrap-moved.result (sym c.swap_remove-in-Some.ensures.value ∙ c.unwrap-moved.ensures) (λ k. record k { at = c.in-Some.gone.at }) (λ k. refl)
    _ _ c.swap_remove.ensures.updates.0 c.seat.ensures.kept _ _ c.swap_remove-in-Some.ensures.updates.0 c.write.ensures.values _ c.shrink-last.ensures.sizes

pub returns-in-Some-clause-names : goal.returns-in-Some-clause-names
returns-in-Some-clause-names c =
    let s = c.args.self.now in
    stood_in same_name from_name self_name seat_of (kept_in s) (name_in s) (size_in s) c.requires.stands c.args.name.now c.in-Some.gone (sym c.swap_remove.ensures.value ∙ c.in-Some.is)
    c.shrink-last.result c.group-group.result c.group-group.ensures c.shrink-last.ensures.size
    c.unwrap-moved.result (sym c.swap_remove-in-Some.ensures.value ∙ c.unwrap-moved.ensures) (λ k. record k { at = c.in-Some.gone.at }) (λ k. refl)
    _ _ c.swap_remove.ensures.updates.0 c.seat.ensures.kept _ _ c.swap_remove-in-Some.ensures.updates.0 c.write.ensures.values _ c.shrink-last.ensures.sizes

pub returns-in_default-clause-stands : goal.returns-in_default-clause-stands
returns-in_default-clause-stands c =
    let s = c.args.self.now in
    seated_same seat_of (kept_in s) _ (name_in s) (size_in s) c.requires.stands (gone_already same_name from_name (kept_in s) _ c.args.name.now (sym c.swap_remove.ensures.value ∙ c.in_default.is) c.swap_remove.ensures.updates.0)
