use Rattle.vz_refs.specs.Lasting.{is_among, Stands, Ends}
use Rattle.vz_refs.proofs.Ending.{AreGone}
use Rattle.vz_refs.proofs.seats.Seats.end_until.Given as goal

-- those with numbers below this one are gone
abbrev pub invariant-loop-number : goal.invariant-loop-number
invariant-loop-number l = Stands l.self × Ends (is_among l.fn.until l.fn.first l.fn.next) l.fn.self l.self × AreGone l.fn.until l.fn.first l.number l.self
