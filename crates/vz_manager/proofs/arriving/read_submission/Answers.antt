use Rattle.std.proofs.Common.{sym}
use Rattle.vz_manager.specs.Submitted.{IsSubmitting, IsComing}
use Rattle.vz_manager.proofs.Taken_in.{same_message}
use Rattle.vz_manager.proofs.arriving.read_submission.Goals as goal

pub read-requires-clause-submits : goal.read-requires-clause-submits
read-requires-clause-submits c =
    let s = c.requires.submits in
    let e = c.submission.ensures.sent s.0 s.1 s.2 s.3 s.4 s.5.kept s.5.allowed.sends.here s.5.allowed.sends.next in (
      s.0,
      s.1,
      s.2,
      same_message (λ l f. IsSubmitting s.0 s.1 c.args.c s.2 l f c.args.support.now c.args.settling.now) s.3 _ s.4 _ (sym e.0, sym e.1) s.5,
    )

pub returns : goal.returns
returns c p w x local frame h =
    let e = c.submission.ensures.sent p w x local frame h.kept h.allowed.sends.here h.allowed.sends.next in
    same_message (λ l f. IsComing w x l f c.in_ok-coming.coming) _ local _ frame e
    (c.in_ok-coming.ensures p w x
    (same_message (λ l f. IsSubmitting p w c.args.c x l f c.args.support.now c.args.settling.now) local _ frame _ (sym e.0, sym e.1) h))
