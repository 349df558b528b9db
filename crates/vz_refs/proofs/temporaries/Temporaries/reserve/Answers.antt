use Rattle.std.proofs.Common.{nat_eq, refl, ap}
use Rattle.std.specs.Map.{lookup}
use Rattle.vz_refs.specs.Lasting.{surface_in, numbers_in}
use Rattle.vz_refs.proofs.Named.{stands_same, surface_same}
use Rattle.vz_refs.proofs.Lasts.{kept_same}
use Rattle.vz_refs.proofs.temporaries.Temporaries.reserve.Goals as goal

pub invariant_of-self : goal.invariant_of-self
invariant_of-self c = (
  stands_same c.self.inside.seats c.reserve.new.self c.reserve.ensures.kept c.reserve.ensures.names c.reserve.ensures.sizes c.self.invariant.0,
  kept_same (surface_in c.self.inside.seats) (surface_in c.reserve.new.self) (numbers_in c.self.inside.numbers) (numbers_in c.self.inside.numbers) c.self.inside.given c.self.inside.ever c.self.invariant.1
      (surface_same c.self.inside.seats c.reserve.new.self c.reserve.ensures.kept) (λ u. refl),
)

pub invariant_of-self-in_err-reserve-2 : goal.invariant_of-self-in_err-reserve-2
invariant_of-self-in_err-reserve-2 c = (
  stands_same c.self.inside.seats c.reserve.new.self c.reserve.ensures.kept c.reserve.ensures.names c.reserve.ensures.sizes c.self.invariant.0,
  kept_same (surface_in c.self.inside.seats) (surface_in c.reserve.new.self) (numbers_in c.self.inside.numbers) (numbers_in c.reserve-2.new.self) c.self.inside.given c.self.inside.ever c.self.invariant.1
      (surface_same c.self.inside.seats c.reserve.new.self c.reserve.ensures.kept) (λ u. ap (lookup (nat_eq u)) c.reserve-2.ensures.entries),
)

pub invariant_of-self-2 : goal.invariant_of-self-2
invariant_of-self-2 c = (
  stands_same c.self.inside.seats c.reserve.new.self c.reserve.ensures.kept c.reserve.ensures.names c.reserve.ensures.sizes c.self.invariant.0,
  kept_same (surface_in c.self.inside.seats) (surface_in c.reserve.new.self) (numbers_in c.self.inside.numbers) (numbers_in c.reserve-2.new.self) c.self.inside.given c.self.inside.ever c.self.invariant.1
      (surface_same c.self.inside.seats c.reserve.new.self c.reserve.ensures.kept) (λ u. ap (lookup (nat_eq u)) c.reserve-2.ensures.entries),
)
