use Rattle.std.proofs.Common.{None, refl, sym, ap, ◌∙◌, subst}
use Rattle.vz_rules.specs.declared.entry.Event.TheVariants as event
use Rattle.vz_rules.specs.Messages.{in_use, upload_answer}
use Rattle.vz_rules.proofs.Cases.{number_at}
use Rattle.vz_rules.proofs.Kept_answers.{keeps_upload}
use Rattle.vz_returns.specs.Lent.{IsLender}
use Rattle.vz_surface_manager.proofs.Quiet_changes.{quiet_uploaded}
use Rattle.vz_returns.proofs.Lent_kept.{lent_uploaded}
use Rattle.vz_manager.specs.Serving.{Serves}
use Rattle.vz_manager.proofs.Following.{upload_sent, upload_refused, upload_stored, step_of}
use Rattle.vz_manager.proofs.Following.{serves_on, sends_next, client_here, lender_here}
use Rattle.vz_manager.proofs.parts.Parts.upload.Goals as goal

pub in_use-requires : goal.in_use-requires
in_use-requires c =
    let s = c.requires.stands in
    record {
      known = subst (λ v. IsLender c.args.c v.settling.live.lent) (sym c.self.view_is)
          (lender_here s.0 s.1 c.args.self.now c.args.c s.2 c.requires.some c.requires.known);
    }

pub returns-then-in_use-clause-step : goal.returns-then-in_use-clause-step
returns-then-in_use-clause-step c p w x id block old is =
    let h = subst (Serves p w) (sym c.self.view_is) old in
    let same = c.uploaded-id.ensures p w x id block h.support is.here is.next in
    let used = c.in_use.ensures w None x h.keeps.always h.settling.live (client_here w c.args.c x is.here)
    (number_at w c.args.c x is.here) h.released in
    let true_is = ap (in_use x.resources) (sym same) ∙ (sym used ∙ c.if-in_use.true) in
    c.refuse.ensures.step p w x _ old (record {
      here = is.here;
      next = is.next;
      answer = upload_sent p w c.args.c x id block is
          ∙ upload_refused w x id block true_is;
    })

pub returns-then-in_use-clause-serves : goal.returns-then-in_use-clause-serves
returns-then-in_use-clause-serves c p w x id block old is =
    let h = subst (Serves p w) (sym c.self.view_is) old in
    let same = c.uploaded-id.ensures p w x id block h.support is.here is.next in
    let used = c.in_use.ensures w None x h.keeps.always h.settling.live (client_here w c.args.c x is.here)
    (number_at w c.args.c x is.here) h.released in
    let true_is = ap (in_use x.resources) (sym same) ∙ (sym used ∙ c.if-in_use.true) in
    c.refuse.ensures.serves p w x _ old (record {
      here = is.here;
      next = is.next;
      answer = upload_sent p w c.args.c x id block is
          ∙ upload_refused w x id block true_is;
    })

pub returns-clause-step : goal.returns-clause-step
returns-clause-step c p w x id block old is =
    let h = subst (Serves p w) (sym c.self.view_is) old in
    let same = c.uploaded-id.ensures p w x id block h.support is.here is.next in
    let used = c.in_use.ensures w None x h.keeps.always h.settling.live (client_here w c.args.c x is.here)
    (number_at w c.args.c x is.here) h.released in
    let false_is = ap (in_use x.resources) (sym same) ∙ (sym used ∙ c.if-in_use.false) in
    step_of p w (event.Client c.args.c) (upload_answer w x id block) c.nothing_follows.result (upload_sent p w c.args.c x id block is) refl
    (keeps_upload w x id block h.keeps) (c.nothing_follows.ensures.reply ∙ sym (upload_stored w x id block false_is))
    c.nothing_follows.ensures.effects

pub returns-clause-serves : goal.returns-clause-serves
returns-clause-serves c p w x id block old is =
    let h = subst (Serves p w) (sym c.self.view_is) old in
    let same = c.uploaded-id.ensures p w x id block h.support is.here is.next in
    let used = c.in_use.ensures w None x h.keeps.always h.settling.live (client_here w c.args.c x is.here)
    (number_at w c.args.c x is.here) h.released in
    let false_is = ap (in_use x.resources) (sym same) ∙ (sym used ∙ c.if-in_use.false) in
    serves_on p w (event.Client c.args.c) (upload_answer w x id block) _ _ h (upload_sent p w c.args.c x id block is) refl
    (keeps_upload w x id block h.keeps) (c.in_ok-upload.ensures.ok p w x id block (sends_next p w _ c.args.c x _ h is) false_is h.support)
    (quiet_uploaded w x id block) (lent_uploaded w x id block _ h.keeps.always h.settling.live.lent)
