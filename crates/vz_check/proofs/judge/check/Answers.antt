use Rattle.std.proofs.Common.{rules, ◌<◌, ◌≤◌, Some, None, length, take, sym, subst}
use Rattle.vz_outside.proofs.Calls.{ran_one, ran_then_ran, ran_behaves, reads_then_reads}
use Rattle.vz_journal.specs.Answers.{IsFirstEntry}
use Rattle.vz_check.specs.Judged.{IsJudged, IsFound}
use Rattle.vz_outside.proofs.Behaving.{behaves_as, behaves_at, then_behaves}
use Rattle.vz_check.proofs.Giving.{still_open}
use Rattle.vz_check.specs.Verdict.{frames_of}
use Rattle.vz_check.proofs.Log_so_far.{stands_first, more_stand, entry_judged, end_judged, none_judged, was_read, line_some, fewer, left_of}
use Rattle.vz_check.proofs.judge.check.Goals as goal

pub loop-at-init : goal.loop-at-init
loop-at-init g c = stands_first c.args.plan.now c.args.log.now c.args.slot (g.F.Shelf.shelved c.args.shelf.now) c.new-machine.result c.new-machine.ensures c.requires

pub returns-in-None-clause-verdict : goal.returns-in-None-clause-verdict
returns-in-None-clause-verdict g c =
    let none : IsFirstEntry (left_of c.args.log.now c.loop-at.at) None = subst (IsFirstEntry (left_of c.args.log.now c.loop-at.at)) c.in-None.is c.in_ok-read_entry.ensures in
    subst (IsJudged c.args.plan.now c.args.log.now c.args.slot (g.F.Shelf.shelved c.args.shelf.now)) (sym c.verdict_at.ensures)
    (end_judged c.args.plan.now c.args.log.now c.args.slot (g.F.Shelf.shelved c.args.shelf.now) (g.F.Shelf.shelved c.loop-at.shelf) c.loop-at.machine c.loop-at.at c.loop-at.count c.in_ok-what-in-None.what
    c.loop-at.invariant c.files.ensures.kept none c.in_ok-what-in-None.ensures.found)

pub returns-in_err-what-in-Some-clause-behaves : goal.returns-in_err-what-in-Some-clause-behaves
returns-in_err-what-in-Some-clause-behaves g c =
    let before = was_read c.args.plan.now c.args.log.now c.args.slot (g.F.Shelf.shelved c.args.shelf.now) (g.F.Shelf.shelved c.loop-at.shelf) c.loop-at.machine c.loop-at.at c.loop-at.count c.loop-at.invariant in
    behaves_at _ _ (g.F.Shelf.shelved c.args.shelf.now) (g.F.Shelf.shelved c.fault_of.new.shelf) c.from_residual-in_err-what-in-Some.ensures.1
    (behaves_as _ (g.F.Shelf.shelved c.args.shelf.now) (g.F.Shelf.shelved c.fault_of.new.shelf)
    (then_behaves _ (g.F.Shelf.shelved c.args.shelf.now) (g.F.Shelf.shelved c.loop-at.shelf) (g.F.Shelf.shelved c.fault_of.new.shelf) before.ran c.in_err-what-in-Some.ensures.behaves (λ never. never))
    (λ never. never))

pub returns-in-Some-2-clause-verdict : goal.returns-in-Some-2-clause-verdict
returns-in-Some-2-clause-verdict g c =
    let first : IsFirstEntry (left_of c.args.log.now c.loop-at.at) (Some (c.in-Some.entry, c.in-Some.length)) = subst (IsFirstEntry (left_of c.args.log.now c.loop-at.at)) c.in-Some.is c.in_ok-read_entry.ensures in
    let found = subst (IsFound c.loop-at.machine c.in-Some.entry.event (take c.in-Some.length (left_of c.args.log.now c.loop-at.at)) c.args.slot (g.F.Shelf.shelved c.loop-at.shelf) (g.F.Shelf.shelved c.fault_of.new.shelf) c.fault_of.new.machine) c.in-Some-2.is c.in_ok-what-in-Some.ensures.found in
    subst (IsJudged c.args.plan.now c.args.log.now c.args.slot (g.F.Shelf.shelved c.args.shelf.now)) (sym c.verdict_at-in-Some-2.ensures)
    (entry_judged c.args.plan.now c.args.log.now c.args.slot (g.F.Shelf.shelved c.args.shelf.now) (g.F.Shelf.shelved c.loop-at.shelf) (g.F.Shelf.shelved c.fault_of.new.shelf) c.loop-at.machine c.fault_of.new.machine c.loop-at.at c.loop-at.count
    c.in-Some.entry c.in-Some.length c.in-Some-2.what c.loop-at.invariant c.files.ensures.kept first found)

pub loop-at-smaller : goal.loop-at-smaller
loop-at-smaller g c =
    let here : c.loop-at.at < length c.args.log.now = search rules in
    let first : IsFirstEntry (left_of c.args.log.now c.loop-at.at) (Some (c.in-Some.entry, c.in-Some.length)) = subst (IsFirstEntry (left_of c.args.log.now c.loop-at.at)) c.in-Some.is c.in_ok-read_entry.ensures in
    fewer (length c.args.log.now) c.loop-at.at c.in-Some.length here (line_some (left_of c.args.log.now c.loop-at.at) c.in-Some.entry c.in-Some.length first)

pub loop-at-preserved : goal.loop-at-preserved
loop-at-preserved g c =
    let first : IsFirstEntry (left_of c.args.log.now c.loop-at.at) (Some (c.in-Some.entry, c.in-Some.length)) = subst (IsFirstEntry (left_of c.args.log.now c.loop-at.at)) c.in-Some.is c.in_ok-read_entry.ensures in
    let found = subst (IsFound c.loop-at.machine c.in-Some.entry.event (take c.in-Some.length (left_of c.args.log.now c.loop-at.at)) c.args.slot (g.F.Shelf.shelved c.loop-at.shelf) (g.F.Shelf.shelved c.fault_of.new.shelf) c.fault_of.new.machine) c.in-None-2.is c.in_ok-what-in-Some.ensures.found in
    more_stand c.args.plan.now c.args.log.now c.args.slot (g.F.Shelf.shelved c.args.shelf.now) (g.F.Shelf.shelved c.loop-at.shelf) (g.F.Shelf.shelved c.fault_of.new.shelf) c.loop-at.machine c.fault_of.new.machine c.loop-at.at c.loop-at.count
    c.in-Some.entry c.in-Some.length c.loop-at.invariant c.files.ensures.kept first found c.in_ok-what-in-Some.ensures.plan c.in_ok-what-in-Some.ensures.kept
    (ran_one c.in_ok-what-in-Some.field-0 (g.F.Shelf.shelved c.loop-at.shelf) (g.F.Shelf.shelved c.fault_of.new.shelf) c.in_ok-what-in-Some.ensures.behaves)

pub loop-at-smaller-in-None-2 : goal.loop-at-smaller-in-None-2
loop-at-smaller-in-None-2 g c =
    let here : c.loop-at.at < length c.args.log.now = search rules in
    let first : IsFirstEntry (left_of c.args.log.now c.loop-at.at) (Some (c.in-Some.entry, c.in-Some.length)) = subst (IsFirstEntry (left_of c.args.log.now c.loop-at.at)) c.in-Some.is c.in_ok-read_entry.ensures in
    fewer (length c.args.log.now) c.loop-at.at c.in-Some.length here (line_some (left_of c.args.log.now c.loop-at.at) c.in-Some.entry c.in-Some.length first)

pub loop-at-preserved-in-None-2 : goal.loop-at-preserved-in-None-2
loop-at-preserved-in-None-2 g c =
    let first : IsFirstEntry (left_of c.args.log.now c.loop-at.at) (Some (c.in-Some.entry, c.in-Some.length)) = subst (IsFirstEntry (left_of c.args.log.now c.loop-at.at)) c.in-Some.is c.in_ok-read_entry.ensures in
    let found = subst (IsFound c.loop-at.machine c.in-Some.entry.event (take c.in-Some.length (left_of c.args.log.now c.loop-at.at)) c.args.slot (g.F.Shelf.shelved c.loop-at.shelf) (g.F.Shelf.shelved c.fault_of.new.shelf) c.fault_of.new.machine) c.in-None-2.is c.in_ok-what-in-Some.ensures.found in
    more_stand c.args.plan.now c.args.log.now c.args.slot (g.F.Shelf.shelved c.args.shelf.now) (g.F.Shelf.shelved c.loop-at.shelf) (g.F.Shelf.shelved c.fault_of.new.shelf) c.loop-at.machine c.fault_of.new.machine c.loop-at.at c.loop-at.count
    c.in-Some.entry c.in-Some.length c.loop-at.invariant c.files.ensures.kept first found c.in_ok-what-in-Some.ensures.plan c.in_ok-what-in-Some.ensures.kept
    (ran_one c.in_ok-what-in-Some.field-0 (g.F.Shelf.shelved c.loop-at.shelf) (g.F.Shelf.shelved c.fault_of.new.shelf) c.in_ok-what-in-Some.ensures.behaves)

pub returns-clause-verdict : goal.returns-clause-verdict
returns-clause-verdict g c =
    let all : length c.args.log.now ≤ c.loop-at.at = search rules in
    subst (IsJudged c.args.plan.now c.args.log.now c.args.slot (g.F.Shelf.shelved c.args.shelf.now)) (sym c.verdict_at-2.ensures)
    (none_judged c.args.plan.now c.args.log.now c.args.slot (g.F.Shelf.shelved c.args.shelf.now) (g.F.Shelf.shelved c.loop-at.shelf) c.loop-at.machine c.loop-at.at c.loop-at.count c.loop-at.invariant all)

pub returns-in_err-what-in-None-clause-behaves : goal.returns-in_err-what-in-None-clause-behaves
returns-in_err-what-in-None-clause-behaves g c =
    let before = was_read c.args.plan.now c.args.log.now c.args.slot (g.F.Shelf.shelved c.args.shelf.now) (g.F.Shelf.shelved c.loop-at.shelf) c.loop-at.machine c.loop-at.at c.loop-at.count c.loop-at.invariant in
    behaves_at _ _ (g.F.Shelf.shelved c.args.shelf.now) (g.F.Shelf.shelved c.fault_at_end.new.shelf) c.from_residual-in_err-what-in-None.ensures.1
    (behaves_as _ (g.F.Shelf.shelved c.args.shelf.now) (g.F.Shelf.shelved c.fault_at_end.new.shelf)
    (then_behaves _ (g.F.Shelf.shelved c.args.shelf.now) (g.F.Shelf.shelved c.loop-at.shelf) (g.F.Shelf.shelved c.fault_at_end.new.shelf) before.ran c.in_err-what-in-None.ensures.behaves (λ never. never))
    (λ never. never))

pub returns-in-None-clause-behaves : goal.returns-in-None-clause-behaves
returns-in-None-clause-behaves g c =
    let before = was_read c.args.plan.now c.args.log.now c.args.slot (g.F.Shelf.shelved c.args.shelf.now) (g.F.Shelf.shelved c.loop-at.shelf) c.loop-at.machine c.loop-at.at c.loop-at.count c.loop-at.invariant in
    ran_behaves c.verdict_at.result (g.F.Shelf.shelved c.args.shelf.now) (g.F.Shelf.shelved c.fault_at_end.new.shelf)
    (ran_then_ran (g.F.Shelf.shelved c.args.shelf.now) (g.F.Shelf.shelved c.loop-at.shelf) (g.F.Shelf.shelved c.fault_at_end.new.shelf) before.ran
    (ran_one c.in_ok-what-in-None.what (g.F.Shelf.shelved c.loop-at.shelf) (g.F.Shelf.shelved c.fault_at_end.new.shelf) c.in_ok-what-in-None.ensures.behaves))

pub fault_of-requires-clause-open : goal.fault_of-requires-clause-open
fault_of-requires-clause-open g c =
    let before = was_read c.args.plan.now c.args.log.now c.args.slot (g.F.Shelf.shelved c.args.shelf.now) (g.F.Shelf.shelved c.loop-at.shelf) c.loop-at.machine c.loop-at.at c.loop-at.count c.loop-at.invariant in
    still_open c.args.slot (frames_of c.args.plan.now c.loop-at.invariant.0) (g.F.Shelf.shelved c.args.shelf.now) (g.F.Shelf.shelved c.loop-at.shelf) before

pub returns-in-Some-2-clause-behaves : goal.returns-in-Some-2-clause-behaves
returns-in-Some-2-clause-behaves g c =
    let before = was_read c.args.plan.now c.args.log.now c.args.slot (g.F.Shelf.shelved c.args.shelf.now) (g.F.Shelf.shelved c.loop-at.shelf) c.loop-at.machine c.loop-at.at c.loop-at.count c.loop-at.invariant in
    ran_behaves c.verdict_at-in-Some-2.result (g.F.Shelf.shelved c.args.shelf.now) (g.F.Shelf.shelved c.fault_of.new.shelf)
    (ran_then_ran (g.F.Shelf.shelved c.args.shelf.now) (g.F.Shelf.shelved c.loop-at.shelf) (g.F.Shelf.shelved c.fault_of.new.shelf) before.ran
    (ran_one c.in_ok-what-in-Some.field-0 (g.F.Shelf.shelved c.loop-at.shelf) (g.F.Shelf.shelved c.fault_of.new.shelf) c.in_ok-what-in-Some.ensures.behaves))

pub returns-in-Some-2-clause-kept : goal.returns-in-Some-2-clause-kept
returns-in-Some-2-clause-kept g c =
    let before = was_read c.args.plan.now c.args.log.now c.args.slot (g.F.Shelf.shelved c.args.shelf.now) (g.F.Shelf.shelved c.loop-at.shelf) c.loop-at.machine c.loop-at.at c.loop-at.count c.loop-at.invariant in
    reads_then_reads c.args.slot (g.F.Shelf.shelved c.args.shelf.now) (g.F.Shelf.shelved c.loop-at.shelf) (g.F.Shelf.shelved c.fault_of.new.shelf) before.ran.call before.kept c.in_ok-what-in-Some.ensures.kept
