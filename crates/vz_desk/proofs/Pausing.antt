-- What a pause keeps.
use Rattle.std.proofs.{Common.◌≡◌, Common.true, Common.arith, lemmas.Bool.Decides.nat_tests}
use Rattle.vz_loans.specs.Tokens.{Caller}
use Rattle.vz_rules.specs.{Plan.Plan, declared.entry.Entry.Entry, Step.world, Course.is_calm}
use Rattle.vz_desk.specs.{Books.Booked, Owners.owner_of, Answers.IsPaused}
use Rattle.vz_desk.proofs.Displaying.{Entered, Left}

module _ {T : Type 0} where
  -- a turn without an entry, in whose world nobody has to be waited for
  pub paused : {S : Type 0} (t0 t1 t2 : Caller Plan Entry) (b : Booked S) (totals : T) → Entered t0 t1 b → Left t1 t2 b.history → is_calm b.plan (world b.plan b.history) ≡ true → IsPaused (owner_of t2 totals)
  paused t0 t1 t2 b totals e l calm = grind (arith, nat_tests)
