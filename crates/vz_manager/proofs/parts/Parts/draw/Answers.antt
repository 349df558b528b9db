use Rattle.std.proofs.Common.{sym, ◌∙◌, subst}
use Rattle.vz_rules.specs.declared.entry.Reply.TheVariants as reply
use Rattle.vz_manager.specs.Serving.{Serves}
use Rattle.vz_manager.specs.Showing.{IsToMeasure}
use Rattle.vz_manager.proofs.Showing.{draws_root, to_measure, answered_busy, answered_rootless, step_untouched, serves_untouched}
use Rattle.vz_manager.proofs.parts.Parts.draw.Goals.{in-Busy, in-NoRoot}
use Rattle.vz_manager.proofs.parts.Parts.draw.Goals as goal

pub look-requires : goal.look-requires
look-requires c =
    let x = c.requires.stands in
    let h = subst (Serves x.0 x.1) (sym c.self.view_is) x.2 in
    record { draws = (x.0, x.1, c.self.inside.size, draws_root x.0 x.1 _ c.root.result h (c.root.ensures x.0 x.1 h.support)) }

pub draw_from-requires : goal.draw_from-requires
draw_from-requires c =
    let x = c.requires.stands in
    let h = subst (Serves x.0 x.1) (sym c.self.view_is) x.2 in
    record {
      seen = (
        x.0,
        x.1,
        subst (IsToMeasure x.0 x.1 c.in-Seen.root) c.self.view_is
            (to_measure x.0 x.1 _ c.root.result c.in-Seen.root c.look.result h (c.root.ensures x.0 x.1 h.support) c.look.ensures.tells c.in-Seen.is),
      );
    }

pub returns-in-Seen-clause-step : goal.returns-in-Seen-clause-step
returns-in-Seen-clause-step c p w old =
    let h = subst (Serves p w) (sym c.self.view_is) old in
    c.draw_from.ensures.step p w
    (subst (IsToMeasure p w c.in-Seen.root) c.self.view_is
    (to_measure p w _ c.root.result c.in-Seen.root c.look.result h (c.root.ensures p w h.support) c.look.ensures.tells c.in-Seen.is))

pub returns-in-Seen-clause-picture : goal.returns-in-Seen-clause-picture
returns-in-Seen-clause-picture c p w old =
    let h = subst (Serves p w) (sym c.self.view_is) old in
    c.draw_from.ensures.picture p w
    (subst (IsToMeasure p w c.in-Seen.root) c.self.view_is
    (to_measure p w _ c.root.result c.in-Seen.root c.look.result h (c.root.ensures p w h.support) c.look.ensures.tells c.in-Seen.is))

pub returns-in-Seen-clause-serves : goal.returns-in-Seen-clause-serves
returns-in-Seen-clause-serves c p w old =
    let h = subst (Serves p w) (sym c.self.view_is) old in
    c.draw_from.ensures.serves p w
    (subst (IsToMeasure p w c.in-Seen.root) c.self.view_is
    (to_measure p w _ c.root.result c.in-Seen.root c.look.result h (c.root.ensures p w h.support) c.look.ensures.tells c.in-Seen.is))

pub returns-clause-step : goal.returns-clause-step
returns-clause-step c p w old =
    let h = subst (Serves p w) (sym c.self.view_is) old in
    let root = c.root.ensures p w h.support in
    elim c.match-look.branch [
      | in-Busy b ↦ step_untouched p w reply.Busy _ h.keeps
          (answered_busy p w _ c.root.result c.look.result h root c.look.ensures.tells b.in-Busy.is)
          (c.nothing_follows.ensures.reply ∙ b.reply-is) c.nothing_follows.ensures.effects
      | in-NoRoot b ↦ step_untouched p w reply.NoRoot _ h.keeps
          (answered_rootless p w _ c.root.result c.look.result h root c.look.ensures.tells b.in-NoRoot.is)
          (c.nothing_follows.ensures.reply ∙ b.reply-is) c.nothing_follows.ensures.effects
    ]

pub returns-clause-serves : goal.returns-clause-serves
returns-clause-serves c p w old =
    let h = subst (Serves p w) (sym c.self.view_is) old in
    let root = c.root.ensures p w h.support in
    elim c.match-look.branch [
      | in-Busy b ↦ serves_untouched p w reply.Busy _ old
          (answered_busy p w _ c.root.result c.look.result h root c.look.ensures.tells b.in-Busy.is)
      | in-NoRoot b ↦ serves_untouched p w reply.NoRoot _ old
          (answered_rootless p w _ c.root.result c.look.result h root c.look.ensures.tells b.in-NoRoot.is)
    ]
