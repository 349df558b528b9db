use Rattle.std.proofs.Common.{ℕ, ◌==◌, if◌then◌else◌, Option, Some, None, sym, ap, ◌∙◌}
use Rattle.vz_rules.specs.World.{Client, Surface}
use Rattle.vz_rules.specs.declared.entry.Lost.{Lost}
use Rattle.vz_state.proofs.Rooming.{none_more, some_more}
use Rattle.vz_state.proofs.lost.add_lost.Goals as goal

-- a surface's name, if it is this client's
abbrev name_for : ℕ → Surface → Option Lost
name_for n s = if s.client == n then Some (record { client = s.client; surface = s.number }) else None

pub loop-surface-preserved-in_default : goal.loop-surface-preserved-in_default
loop-surface-preserved-in_default c =
    let x = c.surface-item.result in
    let f = name_for c.args.client.now.number in
    let name = c.name_of.ensures ∙ ap (λ (a : Client). name_for a.number x) c.client.view_is in
    none_more f c.args.all.now.items c.loop-surface.all.items _ c.loop-surface.surface-index x c.loop-surface-test.true c.surface-item.is (sym name ∙ c.in_default.is) c.loop-surface.invariant

pub loop-surface-preserved : goal.loop-surface-preserved
loop-surface-preserved c =
    let x = c.surface-item.result in
    let f = name_for c.args.client.now.number in
    let name = c.name_of.ensures ∙ ap (λ (a : Client). name_for a.number x) c.client.view_is in
    some_more f c.args.all.now.items c.loop-surface.all.items c.push.new.self.items _ c.loop-surface.surface-index x c.in-Some.name c.loop-surface-test.true c.surface-item.is (sym name ∙ c.in-Some.is)
    c.loop-surface.invariant c.in_ok-push.ensures.items
