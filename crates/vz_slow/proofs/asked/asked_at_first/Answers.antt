use Rattle.std.proofs.Common.{sym, ap, refl, ◌∙◌}
use Rattle.std.specs.Option.{option_copied}
use Rattle.vz_rules.specs.World.{opening}
use Rattle.vz_slow.proofs.Asking.{first_none, first_some, first_tick}
use Rattle.vz_slow.proofs.asked.asked_at_first.Goals as goal

-- the plan has no such file
pub returns-in-None : goal.returns-in-None
returns-in-None c = first_none c.args.plan.now c.args.over c.args.c c.requires (sym c.file_of.ensures.value ∙ ap option_copied c.in-None.is)

-- it has one
pub returns-in-Some : goal.returns-in-Some
returns-in-Some c =
    first_some c.args.plan.now c.args.over c.args.c c.in-Some.file.now _ _ c.requires (sym c.file_of.ensures.value ∙ ap option_copied c.in-Some.is) c.new_client.ensures
    (c.asked_of-in-Some.ensures (record (opening c.args.plan.now) { over = c.args.over }) (first_tick c.args.plan.now c.args.over) refl)
