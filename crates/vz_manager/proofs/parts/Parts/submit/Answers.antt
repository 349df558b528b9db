use Rattle.std.proofs.Common.{sym, ◌∙◌}
use Rattle.vz_frame.specs.declared.message.Message.TheVariants.{Submit}
use Rattle.vz_manager.proofs.Judged.{submission_refused}
use Rattle.vz_manager.proofs.parts.Parts.submit.Goals as goal

pub judge-requires-clause-stands : goal.judge-requires-clause-stands
judge-requires-clause-stands c = let s = c.requires.stands in (s.0, s.1, s.5)

pub accept-requires-clause-stands : goal.accept-requires-clause-stands
accept-requires-clause-stands c =
    let s = c.requires.stands in (
      s.0,
      s.1,
      s.2,
      s.3,
      s.4,
      s.5,
      record { sends = s.6; allowed = sym (c.judge.ensures s.0 s.1 s.2 s.3 s.4 s.5 s.6) ∙ c.in-None.is },
    )

pub refuse-requires-clause-next : goal.refuse-requires-clause-next
refuse-requires-clause-next c = (Submit c.requires.next.1 c.requires.next.0, c.requires.next.2)

pub returns-in-Some-clause-step : goal.returns-in-Some-clause-step
returns-in-Some-clause-step c p w x local frame h is =
    let broken = sym (c.judge.ensures p w x local frame h is) ∙ c.in-Some.is in
    c.refuse.ensures.step p w x (Submit frame local) h (record {
      here = is.here;
      next = is.next;
      answer = submission_refused p w c.args.c x local frame c.in-Some.refusal is broken;
    })

pub returns-in-Some-clause-serves : goal.returns-in-Some-clause-serves
returns-in-Some-clause-serves c p w x local frame h is =
    let broken = sym (c.judge.ensures p w x local frame h is) ∙ c.in-Some.is in
    c.refuse.ensures.serves p w x (Submit frame local) h (record {
      here = is.here;
      next = is.next;
      answer = submission_refused p w c.args.c x local frame c.in-Some.refusal is broken;
    })

pub returns-in-None-clause-step : goal.returns-in-None-clause-step
returns-in-None-clause-step c p w x local frame h is =
    c.accept.ensures.step p w x local frame h (record { sends = is; allowed = sym (c.judge.ensures p w x local frame h is) ∙ c.in-None.is })

pub returns-in-None-clause-serves : goal.returns-in-None-clause-serves
returns-in-None-clause-serves c p w x local frame h is =
    c.accept.ensures.serves p w x local frame h
    (record { sends = is; allowed = sym (c.judge.ensures p w x local frame h is) ∙ c.in-None.is })
