use Rattle.std.proofs.Common.{reverse, ap, ◌∙◌}
use Rattle.vz_plain.specs.Finding.{SearchedPass}
use Rattle.vz_plain.proofs.Searching.{nothing_left, nothing_hit, surface_hit, inside_hit}
use Rattle.vz_plain.proofs.Lessening.{done_less, quad_less, inner_less}
use Rattle.vz_plain.proofs.hits.turn.Goals as goal

pub returns-in-None-clause-value : goal.returns-in-None-clause-value
returns-in-None-clause-value c = nothing_left c.args.active.now c.args.pass (reverse c.args.stack.now.items) c.in-None.ensures.0

pub returns-in-None-clause-less : goal.returns-in-None-clause-less
returns-in-None-clause-less c = done_less c.args.stack.now.items c.args.pass

pub returns-in-Surface-clause-value : goal.returns-in-Surface-clause-value
returns-in-Surface-clause-value c =
    surface_hit c.args.active.now c.args.stack.now.items c.args.pass c.next_quad.new.self c.in-Some.quad.now c.in-Some.ensures.0 c.in-Some.ensures.1 c.as_slice.result.now c.as_slice.ensures.value c.id.result c.pass.inside.entry c.in-Surface.ensures.value
    (c.id.ensures ∙ ap (λ (s : SearchedPass). s.submitted.id) c.pass.view_is) (ap (λ (s : SearchedPass). s.entry) c.pass.view_is)

pub returns-in-Surface-clause-less : goal.returns-in-Surface-clause-less
returns-in-Surface-clause-less c = done_less c.args.stack.now.items c.args.pass

pub returns-in_ok-push-in-Nothing-clause-value : goal.returns-in_ok-push-in-Nothing-clause-value
returns-in_ok-push-in-Nothing-clause-value c =
    nothing_hit c.args.active.now c.args.stack.now.items c.args.pass c.next_quad.new.self c.in-Some.quad.now c.in-Some.ensures.0 c.in-Some.ensures.1 c.as_slice.result.now c.as_slice.ensures.value
    c.push.new.self.items c.in-Nothing.ensures.value c.in_ok-push-in-Nothing.ensures.items

pub returns-in_ok-push-in-Nothing-clause-less : goal.returns-in_ok-push-in-Nothing-clause-less
returns-in_ok-push-in-Nothing-clause-less c =
    quad_less c.args.stack.now.items c.args.pass c.next_quad.new.self c.in-Some.quad.now c.in-Some.ensures.0 c.in-Some.ensures.1 c.push.new.self.items c.in_ok-push-in-Nothing.ensures.items

pub returns-in_ok-push-in-Inside-2-clause-value : goal.returns-in_ok-push-in-Inside-2-clause-value
returns-in_ok-push-in-Inside-2-clause-value c =
    inside_hit c.args.active.now c.args.stack.now.items c.args.pass c.next_quad.new.self c.in-Some.quad.now c.in-Some.ensures.0 c.in-Some.ensures.1 c.as_slice.result.now c.as_slice.ensures.value
    c.in-Inside.inner c.push-in-Inside.new.self.items c.push-in-Inside-2.new.self.items c.in-Inside.ensures.value c.in_ok-push-in-Inside.ensures.items c.in_ok-push-in-Inside-2.ensures.items

pub returns-in_ok-push-in-Inside-2-clause-less : goal.returns-in_ok-push-in-Inside-2-clause-less
returns-in_ok-push-in-Inside-2-clause-less c =
    inner_less c.args.stack.now.items c.args.pass c.next_quad.new.self c.in-Some.quad.now c.in-Some.ensures.0 c.in-Some.ensures.1 c.in-Inside.inner c.push-in-Inside.new.self.items c.push-in-Inside-2.new.self.items
    c.in-Inside.ensures.lower c.in_ok-push-in-Inside.ensures.items c.in_ok-push-in-Inside-2.ensures.items
