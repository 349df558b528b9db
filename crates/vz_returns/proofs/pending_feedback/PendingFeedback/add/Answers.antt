use Rattle.std.proofs.Common.{◌≡◌, ◌-◌, ◌<◌, None, is_some, length, min, vec_len, vec_capacity, ap, sym, subst, ◌∙◌}
use Rattle.std.specs.Map.{lookup}
use Rattle.vz_ids.specs.Ids.{same_sub}
use Rattle.vz_returns.specs.Owed.{OwedAndRoom, place_of}
use Rattle.vz_returns.proofs.Open_places.{kept_added, on_ok, has_free}
use Rattle.vz_returns.proofs.pending_feedback.PendingFeedback.add.Goals as goal

pub put-requires : goal.put-requires
put-requires c = c.self.invariant.same c.args.sub ∙ ap (λ v. is_some (place_of v.owed c.args.sub)) c.self.view_is ∙ ap is_some c.requires.new

pub invariant_of-self : goal.invariant_of-self
invariant_of-self c =
    let inside = c.self.inside in
    let free = vec_capacity inside.due - vec_len inside.due in
    let new : lookup (same_sub c.args.sub) inside.unfed.places ≡ None = ap (λ v. place_of v.owed c.args.sub) c.self.view_is ∙ c.requires.new in
    let room : 0 < min inside.unfed.spare (free - length inside.unfed.places) =
    subst (λ (v : OwedAndRoom). 0 < v.spare) (sym c.self.view_is) c.requires.room in
    kept_added inside.unfed.list c.put.new.self.list inside.unfed.places c.put.new.self.places c.args.sub inside.accepted free c.self.invariant
    (on_ok _ _ _ c.unwrap.ensures c.put.ensures.list) new (on_ok _ _ _ c.unwrap.ensures c.put.ensures.places)
    (on_ok _ _ _ c.unwrap.ensures c.put.ensures.len)
    (has_free inside.unfed.spare free (length inside.unfed.places) room)
