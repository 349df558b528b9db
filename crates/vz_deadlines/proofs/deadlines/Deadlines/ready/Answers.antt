use Rattle.std.proofs.Common.{ap, ◌∙◌, arith}
use Rattle.std.specs.Map.{lookup}
use Rattle.indexmap.specs.IndexMap.{get, spare as spare_of}
use Rattle.vz_ids.specs.Ids.{same_sub}
use Rattle.vz_deadlines.proofs.Keeps.{closed_told, closed_distinct, closed_list, kept_closed, kept_grown, grown_list}
use Rattle.vz_deadlines.proofs.deadlines.Deadlines.ready.Goals as goal

-- the slots close up

pub number_all-requires-clause-told : goal.number_all-requires-clause-told
number_all-requires-clause-told c place d at =
    closed_told c.self.inside.slots c.close_up.new.self _ c.self.inside.used c.self.inside.waiting (spare_of c.self.inside.places) (get same_sub c.self.inside.places) (get same_sub c.reserve.new.self) c.self.invariant
    (λ t. ap (lookup (same_sub t)) c.reserve.ensures.entries) c.close_up.ensures place d at

pub number_all-requires-clause-distinct : goal.number_all-requires-clause-distinct
number_all-requires-clause-distinct c = closed_distinct c.self.inside.slots c.close_up.new.self _ c.close_up.ensures c.self.invariant.distinct

pub invariant_of-self-then-n-len-2 : goal.invariant_of-self-then-n-len-2
invariant_of-self-then-n-len-2 c =
    kept_closed c.self.inside.slots c.close_up.new.self c.self.inside.used c.self.inside.waiting (spare_of c.self.inside.places) (spare_of c.number_all.new.places) (get same_sub c.self.inside.places) (get same_sub c.number_all.new.places) c.self.invariant
    c.close_up.ensures c.number_all.ensures.found (omega (arith, c.number_all.ensures.spare, c.in_ok-reserve.ensures.ok, c.len-len.ensures))

pub returns-then-n-len-2-clause-list : goal.returns-then-n-len-2-clause-list
returns-then-n-len-2-clause-list c = closed_list c.self.inside.slots c.close_up.new.self _ c.close_up.ensures ∙ ap (λ v. v.list) c.self.view_is

-- more slots are there

pub invariant_of-self-2 : goal.invariant_of-self-2
invariant_of-self-2 c =
    kept_grown c.self.inside.slots c.grow.new.self c.self.inside.used c.self.inside.waiting (spare_of c.self.inside.places) (spare_of c.reserve-2.new.self) c.max-more.result (get same_sub c.self.inside.places) (get same_sub c.reserve-2.new.self) c.self.invariant
    (λ t. ap (lookup (same_sub t)) c.reserve-2.ensures.entries) c.in_ok-grow.ensures.ok (omega (arith, c.in_ok-reserve-2.ensures.ok, c.in-Some.ensures, c.len-len.ensures))

pub returns-clause-list : goal.returns-clause-list
returns-clause-list c = grown_list c.self.inside.slots c.grow.new.self c.max-more.result c.in_ok-grow.ensures.ok ∙ ap (λ v. v.list) c.self.view_is
