use Rattle.std.proofs.Common.{◌≡◌, nat_eq, Some, slice_get, length, false, [], ◌∷◌, ◌++◌, ap, sym, ◌∙◌, arith}
use Rattle.vz_deps.specs.Tracking.{listed, is_blocked}
use Rattle.vz_deps.specs.Lacking.{unmet_in, whole}
use Rattle.vz_deps.specs.Ordered.{in_order}
use Rattle.vz_deps.proofs.Same.{on_ok}
use Rattle.vz_deps.proofs.Orders.{at_order, rising_order, order_more}
use Rattle.vz_deps.proofs.Views.{listed_more, listed_same}
use Rattle.vz_deps.proofs.Tracked.{fresh_sub, fresh_number, numbered_more, later_more, counts_more, other_unmet, new_unmet, not_next, room_used}
use Rattle.vz_deps.proofs.tracker.Tracker.block.Goals as goal

pub invariant_of-self : goal.invariant_of-self
invariant_of-self c =
    let subs = c.self.inside.subs.entries in
    let numbers = c.self.inside.numbers.entries in
    let n = c.self.inside.next in
    let i = c.self.invariant.0 in
    let before : listed (unmet_in c.self.inside.lacks) (in_order subs) ≡ c.args.self.now.list = ap (λ v. v.list) c.self.view_is ∙ c.in_ok-ready.ensures.list in
    let none : is_blocked (listed (unmet_in c.self.inside.lacks) (in_order subs)) c.args.s ≡ false = ap (λ l. is_blocked l c.args.s) before ∙ c.requires.new in
    let put = (on_ok _ _ _ c.unwrap.ensures c.insert.ensures.updates).0 in
    let noted = (on_ok _ _ _ c.unwrap-2.ensures c.insert-2.ensures.updates).0 in (
      record {
        kept = c.block.ensures.kept;
        none = c.block.ensures.freed ∙ i.none;
        counts = λ o. counts_more (nat_eq n o) _ _ _ _ _ _ (c.block.ensures.counts o) (put o) (i.counts o);
        numbered = numbered_more subs _ numbers _ n c.args.s i.numbered (fresh_number subs n i.later) (fresh_sub (unmet_in c.self.inside.lacks) subs numbers c.args.s i.numbered none) put noted;
        later = later_more subs _ n c.args.s i.later put;
      },
      room_used _ _ _ _ _ _ _ _ _ _ c.self.invariant.1 (omega (arith, c.insert.ensures.spare)) (omega (arith, c.insert-2.ensures.spare)) c.block.ensures.room (omega arith),
    )

pub returns-clause-list : goal.returns-clause-list
returns-clause-list c =
    let subs = c.self.inside.subs.entries in
    let more = c.insert.new.self.entries in
    let n = c.self.inside.next in
    let i = c.self.invariant.0 in
    let lacks = c.self.inside.lacks in
    let now = c.block.new.self in
    let before : listed (unmet_in lacks) (in_order subs) ≡ c.args.self.now.list = ap (λ v. v.list) c.self.view_is ∙ c.in_ok-ready.ensures.list in
    let put = (on_ok _ _ _ c.unwrap.ensures c.insert.ensures.updates).0 in
    let same = listed_same (unmet_in now) (unmet_in lacks) (in_order subs) (rising_order subs) (λ o t h. other_unmet lacks now n (λ x. slice_get c.args.unmet.now x.nth) (Some (whole (length c.args.unmet.now))) c.block.ensures.on c.block.ensures.counts o (not_next n o (i.later o t (sym (at_order o subs) ∙ h)))) in
    ap (listed (unmet_in now)) (order_more subs more n c.args.s i.later put) ∙ listed_more (unmet_in now) (in_order subs) n c.args.s
    ∙ (λ j. (same ∙ before) j ++ record { sub = c.args.s; unmet = new_unmet lacks now n c.args.unmet.now c.block.ensures.on c.block.ensures.counts j } ∷ [])
