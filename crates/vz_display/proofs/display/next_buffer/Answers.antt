use Rattle.std.proofs.Common.{◌≡◌, ◌-◌, length, Some, slice_get, ap, ◌∙◌}
use Rattle.vz_buffers.specs.Canvas.{Canvas}
use Rattle.vz_display.proofs.Keeps.{last_sized}
use Rattle.vz_display.proofs.display.next_buffer.Goals as goal

pub returns-in_ok-buffer-in-Some-Some-clause-size : goal.returns-in_ok-buffer-in-Some-Some-clause-size
returns-in_ok-buffer-in-Some-Some-clause-size g c =
    let all = c.args.kept.now.items in
    let value = c.in-Some-Some.ensures.value in
    let is = c.in-Some-Some.shown-is in
    let field = c.in-Some-Some.field-0-is in
    let last : slice_get all (length all - 1) ≡ Some (Some c.in-Some-Some.shown) = cc in
    ap (λ (b : Canvas). b.size) c.in_ok-buffer-in-Some-Some.ensures ∙ last_sized c.args.size (length all - 1) all c.in-Some-Some.shown c.requires.sizes last
