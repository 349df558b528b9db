use Rattle.std.proofs.Common.{◌≡◌, ◌&&◌, ap, ◌∙◌}
use Rattle.vz_rules.specs.Plan.{has_sink}
use Rattle.vz_rules.specs.Messages.{reaches}
use Rattle.vz_sinks.specs.Relating.{is_known_in, is_own, refusal_for, refusal_in}
use Rattle.vz_sinks.proofs.sinks.Sinks.refusal.Goals as goal

pub returns : goal.returns
unfolding refusal_in
returns c =
    let inside = c.self.inside in
    let parent = c.args.parent in
    let closes : c.has_sink-is_loop.result ≡ reaches inside.relations.items c.args.child parent =
    c.has_sink-is_loop.ensures ∙ ap (λ l. has_sink l parent) c.as_slice.ensures ∙ c.put_reached.ensures parent ∙ ap (λ r. reaches r c.args.child parent) c.deref.ensures.value in
    let one : c.is_known.result ≡ is_known_in inside.seats.items parent = c.is_known.ensures ∙ ap (λ s. is_known_in s parent) c.deref-2.ensures.value in
    let two : c.is_known-2.result ≡ is_known_in inside.seats.items c.args.child = c.is_known-2.ensures ∙ ap (λ s. is_known_in s c.args.child) c.deref-3.ensures.value in
    let own : c.is_own-is_own.result ≡ is_own inside.seats.items c.args.by parent = c.is_own-is_own.ensures ∙ ap (λ s. is_own s c.args.by parent) c.deref-4.ensures.value in
    c.refusal_for.ensures ∙ (λ i. refusal_for (closes i) (one i && two i) (own i)) ∙ ap (λ v. refusal_in v c.args.by parent c.args.child) c.self.view_is
