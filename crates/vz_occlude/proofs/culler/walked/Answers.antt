use Rattle.std.proofs.Common.{◌≡◌, ◌+◌, ◌-◌, ◌<◌, ◌^◌, ◌∙◌, length, arith}
use Rattle.vz_occlude.proofs.Taken.{walk_starts, may_take, walk_goes}
use Rattle.vz_occlude.proofs.culler.walked.Goals as goal

pub loop-left-init : goal.loop-left-init
loop-left-init c =
    walk_starts c.args.ops.items c.len-left.result c.new-culler.result c.new-culler.ensures.nothing c.new-culler.ensures.ops c.new-culler.ensures.kept
    (c.len-left.ensures ∙ c.args.ops.ok.0)

pub take-requires : goal.take-requires
take-requires c =
    let w = c.loop-left.invariant in
    let a = c.args.ops.ok in
    let b = c.args.ops.small in
    let some = c.loop-left-test.true in
    let low : length c.args.ops.items < 2 ^ 64 = omega (arith, a.0, a.1, b) in
    let m = may_take c.args.ops.items c.loop-left.left (c.loop-left.left - 1) c.loop-left.culler c.requires low (omega (arith, some)) w in
    record { place = (m.0, m.1, w.later, m.2) }

pub loop-left-preserved : goal.loop-left-preserved
loop-left-preserved c =
    let w = c.loop-left.invariant in
    let a = c.args.ops.ok in
    let b = c.args.ops.small in
    let some = c.loop-left-test.true in
    let low : length c.args.ops.items < 2 ^ 64 = omega (arith, a.0, a.1, b) in
    let less : c.loop-left.left ≡ (c.loop-left.left - 1) + 1 = omega (arith, some) in
    let m = may_take c.args.ops.items c.loop-left.left (c.loop-left.left - 1) c.loop-left.culler c.requires low less w in
    walk_goes c.args.ops.items c.loop-left.left (c.loop-left.left - 1) m.1 c.loop-left.culler c.take.new.self less w m.3
    (c.in_ok-take.ensures m.0 m.1 w.later m.2)
