use Rattle.std.proofs.Common.{List, sym, ap, ◌∙◌}
use Rattle.std.specs.Option.{option_copied}
use Rattle.vz_rules.specs.World.{World, Client, Resource}
use Rattle.vz_rules.specs.Messages.{message_answer, in_use}
use Rattle.vz_slow.proofs.Answering.{found_is}
use Rattle.vz_slow.proofs.Quieting.{alone_upload, alone_noted, alone_reclaimed, alone_await}
use Rattle.vz_slow.proofs.world.World.quiet_message.Goals as goal

pub returns-in_ok-upload-in-Upload-clause-ok : goal.returns-in_ok-upload-in-Upload-clause-ok
unfolding message_answer
returns-in_ok-upload-in-Upload-clause-ok c = λ x h.
    let own = found_is c.args.self.now c.args.c x c.in-Some.client.now c.deref.result.now _ h c.client_of.ensures (c.deref.ensures.value ∙ ap (λ (u : World). u.clients) c.self.view_is)
    (ap option_copied c.in-Some.is) in
    alone_upload c.args.self.now c.upload.new.self x c.in_ok-upload-in-Upload.field-0 c.args.message.now c.in-Upload.id c.in-Upload.block c.in-Upload.is
    (c.in_ok-upload-in-Upload.ensures.value x h (c.in_use-used.ensures ∙ ap (λ (l : List Resource). in_use l c.in-Upload.id) (c.resources.ensures ∙ ap (λ (y : Client). y.resources) own)) ∙ ap (message_answer c.args.self.now x) (sym c.in-Upload.is))

pub returns-in_ok-note-in-DidNotProduce-clause-ok : goal.returns-in_ok-note-in-DidNotProduce-clause-ok
unfolding message_answer
returns-in_ok-note-in-DidNotProduce-clause-ok c = λ x h.
    let own = found_is c.args.self.now c.args.c x c.in-Some.client.now c.deref.result.now _ h c.client_of.ensures (c.deref.ensures.value ∙ ap (λ (u : World). u.clients) c.self.view_is)
    (ap option_copied c.in-Some.is) in
    alone_noted c.args.self.now c.note.new.self x c.in_ok-note-in-DidNotProduce.field-0 c.args.message.now c.in-DidNotProduce.n c.in-DidNotProduce.is
    (c.in_ok-note-in-DidNotProduce.ensures.value x h ∙ ap (message_answer c.args.self.now x) (sym c.in-DidNotProduce.is))

pub returns-in_ok-hand_over-in-Reclaim-clause-ok : goal.returns-in_ok-hand_over-in-Reclaim-clause-ok
unfolding message_answer
returns-in_ok-hand_over-in-Reclaim-clause-ok c = λ x h.
    let own = found_is c.args.self.now c.args.c x c.in-Some.client.now c.deref.result.now _ h c.client_of.ensures (c.deref.ensures.value ∙ ap (λ (u : World). u.clients) c.self.view_is)
    (ap option_copied c.in-Some.is) in
    alone_reclaimed c.args.self.now c.hand_over.new.self x c.in_ok-hand_over-in-Reclaim.field-0 c.args.message.now c.in-Reclaim.is
    (c.in_ok-hand_over-in-Reclaim.ensures.value x h (c.in_ok-queue-in-Reclaim.ensures ∙ (c.queue.ensures ∙ ap (λ (y : Client). y.queue) own)) ∙ ap (message_answer c.args.self.now x) (sym c.in-Reclaim.is))

pub returns-in_ok-wait-in-Await-clause-ok : goal.returns-in_ok-wait-in-Await-clause-ok
unfolding message_answer
returns-in_ok-wait-in-Await-clause-ok c = λ x h.
    let own = found_is c.args.self.now c.args.c x c.in-Some.client.now c.deref.result.now _ h c.client_of.ensures (c.deref.ensures.value ∙ ap (λ (u : World). u.clients) c.self.view_is)
    (ap option_copied c.in-Some.is) in
    alone_await c.args.self.now c.wait.new.self x c.in_ok-wait-in-Await.field-0 c.args.message.now c.in-Await.is
    (c.in_ok-wait-in-Await.ensures.value x h (c.delivered-delivered.ensures ∙ ap (λ (y : Client). y.delivered) own) ∙ ap (message_answer c.args.self.now x) (sym c.in-Await.is))
