use Rattle.std.proofs.Common.{◌==◌, Option, List, reverse, filter, sym, ap, ◌∙◌}
use Rattle.std.specs.Option.{option_copied}
use Rattle.vz_rules.specs.World.{World, Client, Surface, Resource, last_created}
use Rattle.vz_rules.specs.Messages.{message_answer, in_use, submit_refusal, blocks_of}
use Rattle.vz_frame.specs.Frame.{first_of}
use Rattle.vz_frame.specs.declared.message.Message.TheVariants.{Submit}
use Rattle.vz_ids.specs.declared.FrameSinkId.{FrameSinkId}
use Rattle.vz_ids.specs.declared.LocalSurfaceId.{LocalSurfaceId}
use Rattle.vz_ids.specs.declared.SurfaceId.{SurfaceId}
use Rattle.vz_slow.proofs.Answering.{found_is, found_none, number_is}
use Rattle.vz_slow.proofs.Accepting.{frame_fits}
use Rattle.vz_slow.proofs.world.World.message.Goals as goal

-- the surface of a local id of a sink
abbrev on_sink : FrameSinkId → LocalSurfaceId → SurfaceId
on_sink k local = record { sink = k; local = local }

pub submit-requires-clause-fits : goal.submit-requires-clause-fits
submit-requires-clause-fits c =
    frame_fits c.args.message.now c.in-Submit.local c.as_frame-frame.result.now c.requires.fits
    (c.in-Submit.is ∙ ap (λ f. Submit f c.in-Submit.local) (sym c.as_frame-frame.ensures))

pub returns-in-None : goal.returns-in-None
returns-in-None c = λ x h.
    absurd (found_none c.args.self.now c.args.c x c.deref.result.now _ h c.client_of.ensures (c.deref.ensures.value ∙ ap (λ (u : World). u.clients) c.self.view_is)
    (ap option_copied c.in-None.is))

pub returns-in_ok-upload-in-Upload : goal.returns-in_ok-upload-in-Upload
unfolding message_answer
returns-in_ok-upload-in-Upload c = λ x h.
    let own = found_is c.args.self.now c.args.c x c.in-Some.client.now c.deref.result.now _ h c.client_of.ensures (c.deref.ensures.value ∙ ap (λ (u : World). u.clients) c.self.view_is)
    (ap option_copied c.in-Some.is) in
    c.in_ok-upload-in-Upload.ensures.value x h (c.in_use-used.ensures ∙ ap (λ (l : List Resource). in_use l c.in-Upload.id) (c.resources.ensures ∙ ap (λ (y : Client). y.resources) own)) ∙ ap (message_answer c.args.self.now x) (sym c.in-Upload.is)

pub returns-in_ok-note-in-DidNotProduce : goal.returns-in_ok-note-in-DidNotProduce
unfolding message_answer
returns-in_ok-note-in-DidNotProduce c = λ x h.
    let own = found_is c.args.self.now c.args.c x c.in-Some.client.now c.deref.result.now _ h c.client_of.ensures (c.deref.ensures.value ∙ ap (λ (u : World). u.clients) c.self.view_is)
    (ap option_copied c.in-Some.is) in
    c.in_ok-note-in-DidNotProduce.ensures.value x h ∙ ap (message_answer c.args.self.now x) (sym c.in-DidNotProduce.is)

pub returns-in_ok-name_root-in-SetRoot : goal.returns-in_ok-name_root-in-SetRoot
unfolding message_answer
returns-in_ok-name_root-in-SetRoot c = λ x h.
    let own = found_is c.args.self.now c.args.c x c.in-Some.client.now c.deref.result.now _ h c.client_of.ensures (c.deref.ensures.value ∙ ap (λ (u : World). u.clients) c.self.view_is)
    (ap option_copied c.in-Some.is) in
    c.in_ok-name_root-in-SetRoot.ensures x h (c.sink-sink.ensures ∙ ap (λ (y : Client). y.sink) own) ∙ ap (message_answer c.args.self.now x) (sym c.in-SetRoot.is)

pub returns-in_ok-hierarchy-in-Hierarchy : goal.returns-in_ok-hierarchy-in-Hierarchy
unfolding message_answer
returns-in_ok-hierarchy-in-Hierarchy c = λ x h.
    let own = found_is c.args.self.now c.args.c x c.in-Some.client.now c.deref.result.now _ h c.client_of.ensures (c.deref.ensures.value ∙ ap (λ (u : World). u.clients) c.self.view_is)
    (ap option_copied c.in-Some.is) in
    c.in_ok-hierarchy-in-Hierarchy.ensures x h (c.sink-sink.ensures ∙ ap (λ (y : Client). y.sink) own) ∙ ap (message_answer c.args.self.now x) (sym c.in-Hierarchy.is)

pub returns-in_ok-wait-in-Await : goal.returns-in_ok-wait-in-Await
unfolding message_answer
returns-in_ok-wait-in-Await c = λ x h.
    let own = found_is c.args.self.now c.args.c x c.in-Some.client.now c.deref.result.now _ h c.client_of.ensures (c.deref.ensures.value ∙ ap (λ (u : World). u.clients) c.self.view_is)
    (ap option_copied c.in-Some.is) in
    c.in_ok-wait-in-Await.ensures.value x h (c.delivered-delivered.ensures ∙ ap (λ (y : Client). y.delivered) own) ∙ ap (message_answer c.args.self.now x) (sym c.in-Await.is)

pub returns-in_ok-leave-in-Close : goal.returns-in_ok-leave-in-Close
unfolding message_answer
returns-in_ok-leave-in-Close c = λ x h.
    let own = found_is c.args.self.now c.args.c x c.in-Some.client.now c.deref.result.now _ h c.client_of.ensures (c.deref.ensures.value ∙ ap (λ (u : World). u.clients) c.self.view_is)
    (ap option_copied c.in-Some.is) in
    c.in_ok-leave-in-Close.ensures x h ∙ ap (message_answer c.args.self.now x) (sym c.in-Close.is)

pub returns-in_ok-hand_over-in-Reclaim : goal.returns-in_ok-hand_over-in-Reclaim
unfolding message_answer
returns-in_ok-hand_over-in-Reclaim c = λ x h.
    let own = found_is c.args.self.now c.args.c x c.in-Some.client.now c.deref.result.now _ h c.client_of.ensures (c.deref.ensures.value ∙ ap (λ (u : World). u.clients) c.self.view_is)
    (ap option_copied c.in-Some.is) in
    c.in_ok-hand_over-in-Reclaim.ensures.value x h (c.in_ok-queue-in-Reclaim.ensures ∙ (c.queue.ensures ∙ ap (λ (y : Client). y.queue) own)) ∙ ap (message_answer c.args.self.now x) (sym c.in-Reclaim.is)

pub returns-in_ok-submit-in-Submit : goal.returns-in_ok-submit-in-Submit
unfolding message_answer
returns-in_ok-submit-in-Submit c = λ x h.
    let own = found_is c.args.self.now c.args.c x c.in-Some.client.now c.deref.result.now _ h c.client_of.ensures (c.deref.ensures.value ∙ ap (λ (u : World). u.clients) c.self.view_is)
    (ap option_copied c.in-Some.is) in
    let w = c.args.self.now in
    let local = c.in-Submit.local in
    let frame = c.as_frame-frame.result.now in
    let resources = c.resources-in-Submit.ensures ∙ ap (λ (y : Client). y.resources) own in
    let resource = c.resources-in-Submit-2.ensures ∙ ap (λ (y : Client). y.resources) own in
    let last = c.last_created-last.ensures
    ∙ (ap (λ (l : List Surface). first_of (reverse (filter (λ (s : Surface). s.client == c.args.c) l))) (c.deref-in-Submit.ensures.value ∙ ap (λ (u : World). u.surfaces) c.self.view_is)
    ∙ ap (last_created w) (sym (number_is w c.args.c x h))) in
    c.in_ok-submit-in-Submit.ensures x local h
    (c.submit_refusal-refusal.ensures ∙ (ap (λ (o : Option Surface). submit_refusal o c.resources-in-Submit.result.now local frame) last
    ∙ ap (λ (l : List Resource). submit_refusal (last_created w x.number) l local frame) resources))
    (ap (λ (k : FrameSinkId). on_sink k local) (sym (c.sink-sink.ensures ∙ ap (λ (y : Client). y.sink) own)))
    (c.in_ok-blocks-in-Submit.ensures ∙ ap (λ (l : List Resource). blocks_of l frame) resource)
    ∙ (ap (λ f. message_answer w x (Submit f local)) c.as_frame-frame.ensures ∙ ap (message_answer w x) (sym c.in-Submit.is))
