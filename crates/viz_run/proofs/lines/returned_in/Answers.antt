use Rattle.std.proofs.Common.{length, sym, ap, ◌∙◌}
use Rattle.vz_rules.specs.declared.entry.Effects.{Effects}
use Rattle.viz_run.proofs.lines.returned_in.Goals as goal

pub returns-in-None : goal.returns-in-None
returns-in-None c = sym (ap (λ (e : Effects). length e.returned) (c.get.ensures.none c.in-None.is))

pub returns-in-Some : goal.returns-in-Some
returns-in-Some c = c.len.ensures ∙ ap (λ (e : Effects). length e.returned) c.in-Some.ensures.some
