use Rattle.std.proofs.{Common.ap, Common.◌++◌, Common.length, Common.arith, lemmas.List.length-map}
use Rattle.vz_returns.specs.{Held.alive_of, Released.times, Listed.ids_of}
use Rattle.vz_returns.proofs.{Steps.alive_lent_all, Lent_rooms.lent_length}
use Rattle.vz_returns.proofs.lender.Lender.accept.Goals as goal

pub release_all-requires : goal.release_all-requires
release_all-requires c = λ id.
    omega (
      arith,
      c.requires.suffice id,
      ap (λ l. times id (l ++ ids_of c.args.replaced.now)) c.lend_all.ensures.released,
      ap (λ h. alive_of id h.counted) c.lend_all.ensures.holding,
      alive_lent_all id (ids_of c.args.listings.now) c.args.self.now.holding,
    )

pub returns-clause-out : goal.returns-clause-out
returns-clause-out c =
    omega (
      arith,
      ap (λ h. length h.counted) c.release_all.ensures.holding,
      ap (λ h. length h.counted) c.lend_all.ensures.holding,
      lent_length (ids_of c.args.listings.now) c.args.self.now.holding,
      length-map c.args.listings.now (λ l. l.id),
    )
