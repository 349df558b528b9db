use Rattle.std.proofs.Common.{subst}
use Rattle.std.specs.Option.{option_map}
use Rattle.vz_rules.specs.World.{Machine}
use Rattle.vz_machine.specs.Pictured.{picture_with}
use Rattle.vz_machine.specs.Stepping.{ShowsDrawn}
use Rattle.vz_slow.proofs.Stepped.{all_pixels, on_display, shows}
use Rattle.vz_slow.proofs.plain_machine.PlainMachineMachine.draw.Goals as goal

pub picture_of-picture-requires-clause-all : goal.picture_of-picture-requires-clause-all
picture_of-picture-requires-clause-all c =
    all_pixels c.self.inside.slow c.size-size.result c.in_ok-reply.reply (λ v. v.items) c.in_ok-reply.pixels c.size-size.ensures.value c.in_ok-reply.ensures.picture

pub picture_of-picture-requires-clause-inside : goal.picture_of-picture-requires-clause-inside
picture_of-picture-requires-clause-inside c = on_display c.self.inside.slow _ c.size-size.result c.size-size.ensures.value c.in_ok-reply.ensures.step

pub returns-clause-picture : goal.returns-clause-picture
returns-clause-picture c =
    subst (λ (m : Machine). ShowsDrawn m c.in_ok-reply.reply (option_map picture_with c.picture_of-picture.result)) c.self.view_is
    (shows c.self.inside.slow _ c.size-size.result (option_map (λ v. v.items) c.in_ok-reply.pixels) c.picture_of-picture.result c.size-size.ensures.value c.size-size.ensures.sides
    c.in_ok-reply.ensures.step c.in_ok-reply.ensures.picture c.picture_of-picture.ensures)
