-- Submissions: what accepting one changes of the world, and what refusing one answers.
use Rattle.std.proofs.Common.{◌≡◌, ℕ, true, ◌&&◌, Option, Some, None, List, [], ◌∷◌, ◌++◌, map, sym, ap, ◌∙◌}
use Rattle.std.proofs.lemmas.Bool.{and_parts}
use Rattle.vz_ids.specs.declared.LocalSurfaceId.{LocalSurfaceId}
use Rattle.vz_ids.specs.declared.SurfaceId.{SurfaceId}
use Rattle.vz_frame.specs.declared.frame.CompositorFrame.{CompositorFrame}
use Rattle.vz_frame.specs.declared.message.Message.{Message}
use Rattle.vz_frame.specs.declared.message.Message.TheVariants.{Submit}
use Rattle.vz_frame.specs.Fits.{fits_local, fits_frame, fits_message}
use Rattle.vz_placement.specs.Limits.{FitsFile}
use Rattle.vz_rules.specs.World.{World, Client, Surface, Submission, client_at, last_created}
use Rattle.vz_rules.specs.Messages.{Answer, taking, says, refused, submit_refusal, id_of, new_submission, with_surface, replace_on, lend, answer_tick, accepted, submit_answer, unless_refused}
use Rattle.vz_rules.specs.declared.entry.Reply.TheVariants as reply
use Rattle.vz_rules.specs.declared.entry.Refusal.{Refusal}
use Rattle.vz_state.specs.Fitting.{FitsSome}

-- the frame of a message that fits fits
pub frame_fits : (m : Message) (local : LocalSurfaceId) (frame : CompositorFrame) → FitsSome m → m ≡ Submit frame local → FitsFile frame
unfolding fits_message
frame_fits m local frame fits is =
    let format = fits.0 in
    let all : (fits_local local && fits_frame format frame) ≡ true = sym (ap (fits_message format) is) ∙ fits.1 in
    (format, (and_parts (fits_local local) (fits_frame format frame) all).1)

-- a client whose listings are lent and whose answered begin-frame is noted
abbrev pub after_submit : ℕ → CompositorFrame → Client → Client
after_submit tick frame c = answer_tick tick frame.metadata.ack (record c { resources = map (lend frame.resources) c.resources })

-- what was done is what accepting a submission does
pub accepted_is : (w v1 v2 v3 : World) (x : Client) (local : LocalSurfaceId) (frame : CompositorFrame) (id : SurfaceId) (submission : Submission) (tick ordinal index : ℕ)
    → ordinal ≡ submission.submitted.sub.ordinal → index ≡ submission.submitted.index → id_of x local ≡ id → submission ≡ new_submission w x local frame → tick ≡ w.tick
    → v1 ≡ record w { surfaces = with_surface w x local frame } → v2 ≡ record v1 { subs = map (replace_on id) v1.subs ++ submission ∷ [] }
    → v3 ≡ taking (after_submit tick frame) x v2
    → says (reply.Accepted ordinal index) v3 ≡ accepted w x local frame
unfolding accepted
accepted_is w v1 v2 v3 x local frame id submission tick ordinal index o n own submissions ticks e1 e2 e3 =
    let adding_submission : World → World = λ u. record u { subs = map (replace_on id) u.subs ++ submission ∷ [] } in
    let wide : World = record w { surfaces = with_surface w x local frame } in
    let answer : SurfaceId → Submission → Answer = λ i s. record {
      reply = reply.Accepted s.submitted.sub.ordinal s.submitted.index;
      world = record (taking (after_submit w.tick frame) x w) { surfaces = with_surface w x local frame; subs = map (replace_on i) w.subs ++ s ∷ [] };
    } in
    ap (λ k. says (reply.Accepted k index) v3) o ∙ (ap (λ k. says (reply.Accepted submission.submitted.sub.ordinal k) v3) n ∙ (ap (says (reply.Accepted submission.submitted.sub.ordinal submission.submitted.index))
    (e3 ∙ (ap (λ (t : ℕ). taking (after_submit t frame) x v2) ticks ∙ ap (taking (after_submit w.tick frame) x) (e2 ∙ ap adding_submission e1)))
    ∙ (ap (λ i. answer i submission) (sym own) ∙ ap (λ s. answer (id_of x local) s) submissions)))

-- the client is found as before where only surfaces and submissions were added
pub still_found : (w v1 v2 : World) (c : ℕ) (x : Client) (surfaces : List Surface) (f : List Submission → List Submission) → client_at w c ≡ Some x
    → v1 ≡ record w { surfaces = surfaces } → v2 ≡ record v1 { subs = f v1.subs } → client_at v2 c ≡ Some x
still_found w v1 v2 c x surfaces f h e1 e2 = ap (λ (u : World). client_at u c) e2 ∙ (ap (λ (u : World). client_at u c) e1 ∙ h)

-- a submission that is refused
pub submit_refused : (w : World) (x : Client) (local : LocalSurfaceId) (frame : CompositorFrame) (o : Option Refusal) (r : Refusal)
    → o ≡ submit_refusal (last_created w x.number) x.resources local frame → o ≡ Some r → refused w x r ≡ submit_answer w x local frame
unfolding submit_answer
submit_refused w x local frame o r e is = ap (λ t. unless_refused w x t (accepted w x local frame)) (sym is ∙ e)

-- one that is not
pub submit_accepted : (w : World) (x : Client) (local : LocalSurfaceId) (frame : CompositorFrame) (o : Option Refusal)
    → o ≡ submit_refusal (last_created w x.number) x.resources local frame → o ≡ None → accepted w x local frame ≡ submit_answer w x local frame
unfolding submit_answer
submit_accepted w x local frame o e is = ap (λ t. unless_refused w x t (accepted w x local frame)) (sym is ∙ e)
