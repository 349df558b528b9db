use Rattle.std.proofs.Common.{◌≡◌, ◌++◌, length, ap, ◌∙◌, arith}
use Rattle.std.proofs.lemmas.Bool.Decides.{nat_tests}
use Rattle.vz_deps.specs.Tracking.{freed, still, listed, meets_any}
use Rattle.vz_deps.specs.Lacking.{unmet_in}
use Rattle.vz_deps.specs.Ordered.{in_order}
use Rattle.vz_deps.proofs.Keeping.{joined_length}
use Rattle.vz_deps.proofs.Orders.{order_length}
use Rattle.vz_deps.proofs.Views.{listed_length, told_unmet, freed_is, still_is, none_freed, none_still}
use Rattle.vz_deps.proofs.tracker.Tracker.all_activated.Goals as goal

-- nothing is blocked
pub returns-then-len-eq0-clause-out : goal.returns-then-len-eq0-clause-out
returns-then-len-eq0-clause-out c =
    let entries = c.self.inside.subs.entries in
    let long = listed_length (unmet_in c.self.inside.lacks) (in_order entries) in
    let all = order_length entries c.len.ensures.unique in
    let same = ap (λ v. length v.list) c.self.view_is in
    let none : c.len.result ≡ 0 = grind (arith, nat_tests, c.if-len-eq0.true) in
    none_freed (meets_any c.args.ids.now) c.args.self.now.list c.args.out.now.list (omega (arith, c.len.ensures.len, long, all, same, none))

pub returns-then-len-eq0-clause-list : goal.returns-then-len-eq0-clause-list
returns-then-len-eq0-clause-list c =
    let entries = c.self.inside.subs.entries in
    let long = listed_length (unmet_in c.self.inside.lacks) (in_order entries) in
    let all = order_length entries c.len.ensures.unique in
    let same = ap (λ v. length v.list) c.self.view_is in
    let none : c.len.result ≡ 0 = grind (arith, nat_tests, c.if-len-eq0.true) in
    none_still (meets_any c.args.ids.now) c.args.self.now.list (omega (arith, c.len.ensures.len, long, all, same, none))

pub release-requires-clause-room : goal.release-requires-clause-room
release-requires-clause-room c =
    let long = listed_length (unmet_in c.self.inside.lacks) (in_order c.self.inside.subs.entries) in
    let same = ap (λ v. length v.list) c.self.view_is in
    omega (arith, c.requires, long, same)

pub returns-clause-out : goal.returns-clause-out
returns-clause-out c =
    let met = meets_any c.args.ids.now in
    let was = unmet_in c.self.inside.lacks in
    let out = freed_is met was (unmet_in c.tell_all.new.lacks) (told_unmet met _ _ c.tell_all.ensures.meets c.tell_all.ensures.rid) (in_order c.self.inside.subs.entries) ∙ ap (λ v. freed met v.list) c.self.view_is in
    c.release.ensures.out ∙ ap (λ l. c.args.out.now.list ++ l) out

pub returns-clause-list : goal.returns-clause-list
returns-clause-list c =
    let met = meets_any c.args.ids.now in
    let was = unmet_in c.self.inside.lacks in
    (λ i. listed (λ o. c.release.ensures.unmet o i) (c.release.ensures.subs i))
    ∙ still_is met was (unmet_in c.tell_all.new.lacks) (told_unmet met _ _ c.tell_all.ensures.meets c.tell_all.ensures.rid) (in_order c.self.inside.subs.entries) ∙ ap (λ v. still met v.list) c.self.view_is

pub returns-clause-room : goal.returns-clause-room
returns-clause-room c =
    let met = meets_any c.args.ids.now in
    let was = unmet_in c.self.inside.lacks in
    let out = freed_is met was (unmet_in c.tell_all.new.lacks) (told_unmet met _ _ c.tell_all.ensures.meets c.tell_all.ensures.rid) (in_order c.self.inside.subs.entries) ∙ ap (λ v. freed met v.list) c.self.view_is in
    let long = ap length c.release.ensures.out ∙ joined_length c.args.out.now.list _ in
    let same = ap length out in
    omega (arith, long, same, c.release.ensures.spare)
