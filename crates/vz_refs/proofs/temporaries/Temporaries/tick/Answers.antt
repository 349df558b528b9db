use Rattle.std.proofs.Common.{nat_le, refl, ap, ◌∙◌}
use Rattle.vz_refs.specs.Referring.{lasting}
use Rattle.vz_refs.specs.Lasting.{over_at, numbers_in}
use Rattle.vz_refs.proofs.Ticking.{until_later}
use Rattle.vz_refs.proofs.Lasts.{kept_after, left_after, kept_later}
use Rattle.vz_refs.proofs.temporaries.Temporaries.tick.Goals as goal

pub end_all-requires : goal.end_all-requires
end_all-requires c = record { stands = c.self.invariant.0; within = c.self.invariant.1.within }

pub invariant_of-self : goal.invariant_of-self
invariant_of-self c = (
  c.end_all.ensures.ends.stands,
  kept_later c.args.n c.end_all.new.seats (numbers_in c.self.inside.numbers) (numbers_in c.keep_later.new.numbers) c.self.inside.given c.self.inside.ever
      (kept_after (over_at c.args.n) c.self.inside.seats c.end_all.new.seats c.end_all.ensures.ends (numbers_in c.self.inside.numbers) c.self.inside.given c.self.inside.ever c.self.invariant.1)
      c.end_all.ensures.rid (λ u. c.keep_later.ensures.numbers u),
)

pub returns-clause-list : goal.returns-clause-list
returns-clause-list c =
    left_after (over_at c.args.n) c.self.inside.seats c.end_all.new.seats c.end_all.ensures.ends (λ t. nat_le t.until c.args.n) (λ e. refl) c.end_all.ensures.rid
    (numbers_in c.self.inside.numbers) c.self.inside.given c.self.inside.ever c.self.invariant.1 ∙ until_later c.args.n _ ∙ ap (λ v. lasting c.args.n v.list) c.self.view_is
