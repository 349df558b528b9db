-- What the calls of one caller add up to.
use Rattle.std.proofs.Common.{◌≡◌, [], ◌∷◌, ◌++◌, ap, ◌∙◌, arith}
use Rattle.atomic_table.specs.Seated.{TableId}
use Rattle.vz_loans.specs.Tokens.{Caller, IsAtRest, IsSameCaller}
use Rattle.vz_rules.specs.{Plan.Plan, declared.entry.Entry.Entry, declared.entry.Event.Event}
use Rattle.vz_turn.specs.{declared.brief.Told.Told, Calls.Makes, Calls.MakesNone}
use Rattle.vz_turn.proofs.Owned.{own_made, own_event, own_same}
use Rattle.vz_callers.specs.Callers.{events_in, events_of, Stays}
use Rattle.std.proofs.{lemmas.Bool.Decides.nat_tests, lemmas.Grind.common_steps}

-- a call that made an entry
pub one_more : (old new : Caller Plan Entry) (e : Event) (told : Told) → IsSameCaller old new → Makes old new e told → events_of new ≡ events_of old ++ e ∷ []
one_more old new e told same m = grind (arith, nat_tests, common_steps, own_made old new e told same m, own_event old new e told m)

-- a call that made none
pub none_more : (old new : Caller Plan Entry) → IsSameCaller old new → MakesNone old new → events_of new ≡ events_of old
none_more old new same m = ap events_in (own_same old new same m.later m.mine)

-- The same caller

pub stays_then : (a b c : Caller Plan Entry) → Stays a b → Stays b c → Stays a c
stays_then a b c x y = ((y.0.0 ∙ x.0.0, y.0.1 ∙ x.0.1, y.0.2 ∙ x.0.2), y.1)

pub rests_then : (id : TableId) (a b : Caller Plan Entry) → IsAtRest id a → Stays a b → IsAtRest id b
rests_then id a b r s = (s.0.0 ∙ r.0, s.1)

-- Calls of one client
