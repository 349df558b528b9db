use Rattle.std.proofs.Common.{◌++◌, ◌∷◌, [], map, refl, sym, ap, ◌∙◌, subst}
use Rattle.vz_ids.specs.declared.Sub.{Sub}
use Rattle.vz_rules.specs.World.{World, new_client}
use Rattle.vz_rules.specs.Messages.{replace_on}
use Rattle.vz_state.specs.Small.{AreSmallClients}
use Rattle.vz_slow.proofs.Answering.{number_is}
use Rattle.vz_slow.proofs.Accepting.{accepted_is, still_found}
use Rattle.vz_slow.proofs.world.World.accept.Goals as goal

pub change-requires : goal.change-requires
change-requires c =
    let e1 = c.in_ok-add_surface.ensures (new_client c.args.c c.args.id.sink) c.args.id.local refl refl in
    subst AreSmallClients (sym (ap (λ (u : World). u.clients) c.in_ok-add_submission.ensures ∙ ap (λ (u : World). u.clients) e1)) c.requires.small.small.clients

pub returns : goal.returns
returns c = λ x local h own same.
    let w = c.args.self.now in
    let submission = c.in_ok-submission.submission in
    let n = number_is w c.args.c x h in
    let e1 = c.in_ok-add_surface.ensures x local n own in
    let e2 = c.in_ok-add_submission.ensures in
    accepted_is w c.add_surface.new.self c.add_submission.new.self c.change.new.self x local c.args.frame.now c.args.id submission c.self.inside.tick c.sub-ordinal.result.ordinal c.index-index.result
    (ap (λ (s : Sub). s.ordinal) c.sub-ordinal.ensures) c.index-index.ensures own (c.in_ok-submission.ensures x local n own same) (ap (λ (u : World). u.tick) c.self.view_is) e1 e2
    (c.in_ok-change.ensures x (still_found w c.add_surface.new.self c.add_submission.new.self c.args.c x _ (λ l. map (replace_on c.args.id) l ++ submission ∷ []) h e1 e2))
