use Rattle.std.proofs.Common.{ap, ◌∙◌, arith}
use Rattle.vz_refs.specs.Indexing.{same_place, same_key, or_zero}
use Rattle.vz_refs.specs.Lasting.{same_name, seat_of, kept_in, name_in, size_in}
use Rattle.vz_refs.proofs.Same.{from_place, self_place}
use Rattle.vz_refs.proofs.Keyed.{of_ok}
use Rattle.vz_refs.proofs.Indexed.{no_more}
use Rattle.vz_refs.proofs.Named.{from_name, self_name}
use Rattle.vz_refs.proofs.Seating.{sized, one_more_in}
use Rattle.vz_refs.proofs.seats.Seats.put.Goals as goal

pub overflow_add-at : goal.overflow_add-at
overflow_add-at c =
    let few = no_more same_place from_place self_place (λ k. record { group = c.group-group.result; at = k }) (λ j k e. ap (λ p. p.at) e) c.args.self.now.names.entries c.size_of-at.result
    (λ k low. c.requires.stands.filled (record { group = c.group-group.result; at = k }) (omega (arith, low, c.size_of-at.ensures))) in
    omega (arith, few, c.len.ensures.small, c.len.ensures.len)

pub returns-clause-stands : goal.returns-clause-stands
returns-clause-stands c =
    let s = c.args.self.now in
    one_more_in same_name from_name self_name seat_of (kept_in s) (name_in s) (size_in s) c.requires.stands c.args.name (record { id = c.args.id; at = c.size_of-at.result })
    c.group-group.result c.group-group.ensures c.requires.new c.size_of-at.ensures
    _ (of_ok _ _ c.unwrap.result c.unwrap.ensures c.insert.ensures.updates).0
    _ (of_ok _ _ c.unwrap-2.result c.unwrap-2.ensures c.insert-2.ensures.updates).0
    _ (λ h. ap or_zero ((of_ok _ _ c.unwrap-3.result c.unwrap-3.ensures c.insert-3.ensures.updates).0 h) ∙ sized (same_key c.group-group.result h) _ _)
