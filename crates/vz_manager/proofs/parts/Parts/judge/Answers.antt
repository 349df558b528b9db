use Rattle.std.proofs.Common.{◌≡◌, sym, subst}
use Rattle.vz_manager.specs.Serving.{Serves}
use Rattle.vz_manager.specs.Judging.{refusal_in}
use Rattle.vz_manager.proofs.Judged.{asked, few_clients}
use Rattle.vz_manager.proofs.Taken_in.{same_message}
use Rattle.vz_manager.proofs.parts.Parts.judge.Goals as goal

pub refusal-requires-clause-few : goal.refusal-requires-clause-few
refusal-requires-clause-few c =
    let s = c.requires.stands in
    few_clients s.0 s.1 c.args.self.now c.args.c s.2 c.requires.known

pub returns : goal.returns
returns c p w x local frame old is =
    let h = subst (Serves p w) (sym c.self.view_is) old in
    let e = c.submission.ensures.sent p w x local frame h.support is.here is.next in
    same_message (λ l f. c.refusal.result ≡ refusal_in w x l f) _ local _ frame e (c.refusal.ensures p w x (asked p w _ h) is.here)
