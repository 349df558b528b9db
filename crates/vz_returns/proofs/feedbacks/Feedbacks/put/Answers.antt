use Rattle.std.proofs.Common.{◌+◌, Some, length, ap, ◌∙◌, cond}
use Rattle.std.specs.Map.{lookup}
use Rattle.vz_ids.specs.Ids.{same_sub}
use Rattle.vz_returns.specs.Unfed.{is_open, opened}
use Rattle.vz_returns.proofs.Open_places.{one_longer}
use Rattle.vz_returns.proofs.Sorted_subs.{none_there, opened_is}
use Rattle.vz_returns.proofs.feedbacks.Feedbacks.put.Goals as goal

pub returns-clause-list : goal.returns-clause-list
returns-clause-list c =
    let places = c.self.inside.places.entries in
    let new = none_there c.args.s places (ap (λ v. is_open v.list c.args.s) c.self.view_is ∙ c.requires) in
    opened_is c.args.s c.args.place places c.insert.new.self.entries new c.in_ok-insert.ensures.updates.0 ∙ ap (λ v. opened c.args.s v.list) c.self.view_is

pub returns-clause-places : goal.returns-clause-places
returns-clause-places c = λ t.
    c.in_ok-insert.ensures.updates.0 t ∙ ap (λ v. cond (same_sub c.args.s t) (Some c.args.place) (lookup (same_sub t) v.places)) c.self.view_is

pub returns-clause-len : goal.returns-clause-len
returns-clause-len c =
    let places = c.self.inside.places.entries in
    let new = none_there c.args.s places (ap (λ v. is_open v.list c.args.s) c.self.view_is ∙ c.requires) in
    one_longer _ (length places) _ _ c.in_ok-insert.ensures.old new c.in_ok-insert.ensures.len ∙ ap (λ v. length v.places + 1) c.self.view_is
