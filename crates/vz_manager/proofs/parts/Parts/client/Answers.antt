use Rattle.std.proofs.Common.{refl, sym, subst}
use Rattle.vz_rules.specs.declared.entry.Event.TheVariants as event
use Rattle.vz_rules.specs.declared.entry.Reply.TheVariants as reply
use Rattle.vz_rules.specs.declared.entry.Refusal.TheVariants as refusal
use Rattle.vz_rules.specs.Messages.{says}
use Rattle.vz_manager.specs.declared.kind.Kind.TheVariants as kind
use Rattle.vz_manager.specs.Serving.{Serves}
use Rattle.vz_surface_manager.proofs.Quiet_changes.{quiet_none}
use Rattle.vz_manager.proofs.Following.{none_answer, closed_refused, step_of, serves_on}
use Rattle.vz_manager.proofs.Comings.{found, stays_at_want}
use Rattle.vz_manager.proofs.parts.Parts.client.Goals as goal

pub returns-in-Nothing-clause-step : goal.returns-in-Nothing-clause-step
returns-in-Nothing-clause-step c p w x old here =
    let h = subst (Serves p w) (sym c.self.view_is) old in
    let f = found p w c.args.c x kind.Nothing here (c.in-Nothing.ensures.kind p w x h.support here) in
    step_of p w (event.Client c.args.c) (says (reply.Refused refusal.NoMessage) w) c.nothing_follows.result (none_answer p w c.args.c x f) refl old.keeps
    c.nothing_follows.ensures.reply c.nothing_follows.ensures.effects

pub returns-in-Nothing-clause-serves : goal.returns-in-Nothing-clause-serves
returns-in-Nothing-clause-serves c p w x old here =
    let h = subst (Serves p w) (sym c.self.view_is) old in
    let f = found p w c.args.c x kind.Nothing here (c.in-Nothing.ensures.kind p w x h.support here) in
    serves_on p w (event.Client c.args.c) (says (reply.Refused refusal.NoMessage) w) c.args.self.now c.args.self.now.support old
    (none_answer p w c.args.c x f) refl old.keeps old.support (quiet_none w) old.settling.live.lent

pub returns-in-Closed-clause-step : goal.returns-in-Closed-clause-step
returns-in-Closed-clause-step c p w x old here =
    let h = subst (Serves p w) (sym c.self.view_is) old in
    let f = found p w c.args.c x kind.Closed here (c.in-Closed.ensures.kind p w x h.support here) in
    c.refuse.ensures.step p w x f.0 old (closed_refused p w c.args.c x f.0 f.1)

pub returns-in-Closed-clause-serves : goal.returns-in-Closed-clause-serves
returns-in-Closed-clause-serves c p w x old here =
    let h = subst (Serves p w) (sym c.self.view_is) old in
    let f = found p w c.args.c x kind.Closed here (c.in-Closed.ensures.kind p w x h.support here) in
    c.refuse.ensures.serves p w x f.0 old (closed_refused p w c.args.c x f.0 f.1)

pub returns-in-Upload-clause-step : goal.returns-in-Upload-clause-step
returns-in-Upload-clause-step c p w x old here =
    let h = subst (Serves p w) (sym c.self.view_is) old in
    let f = found p w c.args.c x kind.Upload here (c.in-Upload.ensures.kind p w x h.support here) in
    c.upload.ensures.step p w x f.0 f.1 old f.2

pub returns-in-Upload-clause-serves : goal.returns-in-Upload-clause-serves
returns-in-Upload-clause-serves c p w x old here =
    let h = subst (Serves p w) (sym c.self.view_is) old in
    let f = found p w c.args.c x kind.Upload here (c.in-Upload.ensures.kind p w x h.support here) in
    c.upload.ensures.serves p w x f.0 f.1 old f.2

pub returns-in-Upload-clause-err : goal.returns-in-Upload-clause-err
returns-in-Upload-clause-err c p w old = stays_at_want p w c.args.self.now _ c.upload.result old c.upload.ensures.err

pub submit-requires-clause-stands : goal.submit-requires-clause-stands
submit-requires-clause-stands c =
    let s = c.requires.stands in
    let h = subst (Serves s.0 s.1) (sym c.self.view_is) s.3 in
    let f = found s.0 s.1 c.args.c s.2 kind.Submit s.4 (c.in-Submit.ensures.kind s.0 s.1 s.2 h.support s.4) in
    (s.0, s.1, s.2, f.0, f.1, s.3, f.2)

pub returns-in-Submit-clause-step : goal.returns-in-Submit-clause-step
returns-in-Submit-clause-step c p w x old here =
    let h = subst (Serves p w) (sym c.self.view_is) old in
    let f = found p w c.args.c x kind.Submit here (c.in-Submit.ensures.kind p w x h.support here) in
    c.submit.ensures.step p w x f.0 f.1 old f.2

pub returns-in-Submit-clause-serves : goal.returns-in-Submit-clause-serves
returns-in-Submit-clause-serves c p w x old here =
    let h = subst (Serves p w) (sym c.self.view_is) old in
    let f = found p w c.args.c x kind.Submit here (c.in-Submit.ensures.kind p w x h.support here) in
    c.submit.ensures.serves p w x f.0 f.1 old f.2

pub returns-in-Submit-clause-err : goal.returns-in-Submit-clause-err
returns-in-Submit-clause-err c p w old = c.submit.ensures.err p w old

pub returns-in-DidNotProduce-clause-step : goal.returns-in-DidNotProduce-clause-step
returns-in-DidNotProduce-clause-step c p w x old here =
    let h = subst (Serves p w) (sym c.self.view_is) old in
    let f = found p w c.args.c x kind.DidNotProduce here (c.in-DidNotProduce.ensures.kind p w x h.support here) in
    c.did_not_produce.ensures.step p w x f.0 old f.1

pub returns-in-DidNotProduce-clause-serves : goal.returns-in-DidNotProduce-clause-serves
returns-in-DidNotProduce-clause-serves c p w x old here =
    let h = subst (Serves p w) (sym c.self.view_is) old in
    let f = found p w c.args.c x kind.DidNotProduce here (c.in-DidNotProduce.ensures.kind p w x h.support here) in
    c.did_not_produce.ensures.serves p w x f.0 old f.1

pub returns-in-Reclaim-clause-step : goal.returns-in-Reclaim-clause-step
returns-in-Reclaim-clause-step c p w x old here =
    let h = subst (Serves p w) (sym c.self.view_is) old in
    let f = found p w c.args.c x kind.Reclaim here (c.in-Reclaim.ensures.kind p w x h.support here) in
    c.reclaim.ensures.step p w x old f

pub returns-in-Reclaim-clause-serves : goal.returns-in-Reclaim-clause-serves
returns-in-Reclaim-clause-serves c p w x old here =
    let h = subst (Serves p w) (sym c.self.view_is) old in
    let f = found p w c.args.c x kind.Reclaim here (c.in-Reclaim.ensures.kind p w x h.support here) in
    c.reclaim.ensures.serves p w x old f

pub returns-in-Reclaim-clause-err : goal.returns-in-Reclaim-clause-err
returns-in-Reclaim-clause-err c p w old = stays_at_want p w c.args.self.now _ c.reclaim.result old c.reclaim.ensures.err

pub returns-in-SetRoot-clause-step : goal.returns-in-SetRoot-clause-step
returns-in-SetRoot-clause-step c p w x old here =
    let h = subst (Serves p w) (sym c.self.view_is) old in
    let f = found p w c.args.c x kind.SetRoot here (c.in-SetRoot.ensures.kind p w x h.support here) in
    c.set_root.ensures.step p w x f.0 old f.1

pub returns-in-SetRoot-clause-serves : goal.returns-in-SetRoot-clause-serves
returns-in-SetRoot-clause-serves c p w x old here =
    let h = subst (Serves p w) (sym c.self.view_is) old in
    let f = found p w c.args.c x kind.SetRoot here (c.in-SetRoot.ensures.kind p w x h.support here) in
    c.set_root.ensures.serves p w x f.0 old f.1

pub returns-in-SetRoot-clause-err : goal.returns-in-SetRoot-clause-err
returns-in-SetRoot-clause-err c p w old = stays_at_want p w c.args.self.now _ c.set_root.result old c.set_root.ensures.err

pub returns-in-Hierarchy-clause-step : goal.returns-in-Hierarchy-clause-step
returns-in-Hierarchy-clause-step c p w x old here =
    let h = subst (Serves p w) (sym c.self.view_is) old in
    let f = found p w c.args.c x kind.Hierarchy here (c.in-Hierarchy.ensures.kind p w x h.support here) in
    c.hierarchy.ensures.step p w x f.0 f.1 old f.2

pub returns-in-Hierarchy-clause-serves : goal.returns-in-Hierarchy-clause-serves
returns-in-Hierarchy-clause-serves c p w x old here =
    let h = subst (Serves p w) (sym c.self.view_is) old in
    let f = found p w c.args.c x kind.Hierarchy here (c.in-Hierarchy.ensures.kind p w x h.support here) in
    c.hierarchy.ensures.serves p w x f.0 f.1 old f.2

pub returns-in-Hierarchy-clause-err : goal.returns-in-Hierarchy-clause-err
returns-in-Hierarchy-clause-err c p w old = stays_at_want p w c.args.self.now _ c.hierarchy.result old c.hierarchy.ensures.err

pub returns-in-Await-clause-step : goal.returns-in-Await-clause-step
returns-in-Await-clause-step c p w x old here =
    let h = subst (Serves p w) (sym c.self.view_is) old in
    let f = found p w c.args.c x kind.Await here (c.in-Await.ensures.kind p w x h.support here) in
    c.await_begin.ensures.step p w x old f

pub returns-in-Await-clause-serves : goal.returns-in-Await-clause-serves
returns-in-Await-clause-serves c p w x old here =
    let h = subst (Serves p w) (sym c.self.view_is) old in
    let f = found p w c.args.c x kind.Await here (c.in-Await.ensures.kind p w x h.support here) in
    c.await_begin.ensures.serves p w x old f

pub returns-in-Close-clause-step : goal.returns-in-Close-clause-step
returns-in-Close-clause-step c p w x old here =
    let h = subst (Serves p w) (sym c.self.view_is) old in
    let f = found p w c.args.c x kind.Close here (c.in-Close.ensures.kind p w x h.support here) in
    c.close.ensures.step p w x old f

pub returns-in-Close-clause-serves : goal.returns-in-Close-clause-serves
returns-in-Close-clause-serves c p w x old here =
    let h = subst (Serves p w) (sym c.self.view_is) old in
    let f = found p w c.args.c x kind.Close here (c.in-Close.ensures.kind p w x h.support here) in
    c.close.ensures.serves p w x old f

pub returns-in-Close-clause-err : goal.returns-in-Close-clause-err
returns-in-Close-clause-err c p w old = stays_at_want p w c.args.self.now _ c.close.result old c.close.ensures.err
