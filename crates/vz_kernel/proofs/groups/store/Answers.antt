use Rattle.std.proofs.Common.{◌≡◌, ◌+◌, length, arith}
use Rattle.vz_kernel.specs.Lanes.{colours}
use Rattle.vz_kernel.proofs.Sixteen.{length_colours, none_put, one_put, all_put}
use Rattle.vz_kernel.proofs.groups.store.Goals as goal

pub returns : goal.returns
returns c =
    let xs = c.args.row.now in
    let at = c.args.at in
    let ys = colours c.args.lanes in
    let long : length ys ≡ 16 = length_colours c.args.lanes 16 c.fits-lanes.0 in
    let inside = c.requires.inside in
    all_put xs at ys 16 _ long (
    one_put xs at ys (at + 15) 15 _ _ (omega arith) (omega arith) (omega arith) c.pixel_of-16.ensures (
    one_put xs at ys (at + 14) 14 _ _ (omega arith) (omega arith) (omega arith) c.pixel_of-15.ensures (
    one_put xs at ys (at + 13) 13 _ _ (omega arith) (omega arith) (omega arith) c.pixel_of-14.ensures (
    one_put xs at ys (at + 12) 12 _ _ (omega arith) (omega arith) (omega arith) c.pixel_of-13.ensures (
    one_put xs at ys (at + 11) 11 _ _ (omega arith) (omega arith) (omega arith) c.pixel_of-12.ensures (
    one_put xs at ys (at + 10) 10 _ _ (omega arith) (omega arith) (omega arith) c.pixel_of-11.ensures (
    one_put xs at ys (at + 9) 9 _ _ (omega arith) (omega arith) (omega arith) c.pixel_of-10.ensures (
    one_put xs at ys (at + 8) 8 _ _ (omega arith) (omega arith) (omega arith) c.pixel_of-9.ensures (
    one_put xs at ys (at + 7) 7 _ _ (omega arith) (omega arith) (omega arith) c.pixel_of-8.ensures (
    one_put xs at ys (at + 6) 6 _ _ (omega arith) (omega arith) (omega arith) c.pixel_of-7.ensures (
    one_put xs at ys (at + 5) 5 _ _ (omega arith) (omega arith) (omega arith) c.pixel_of-6.ensures (
    one_put xs at ys (at + 4) 4 _ _ (omega arith) (omega arith) (omega arith) c.pixel_of-5.ensures (
    one_put xs at ys (at + 3) 3 _ _ (omega arith) (omega arith) (omega arith) c.pixel_of-4.ensures (
    one_put xs at ys (at + 2) 2 _ _ (omega arith) (omega arith) (omega arith) c.pixel_of-3.ensures (
    one_put xs at ys (at + 1) 1 _ _ (omega arith) (omega arith) (omega arith) c.pixel_of-2.ensures (
    one_put xs at ys at 0 _ _ (omega arith) (omega arith) (omega arith) c.pixel_of.ensures (
    none_put xs at ys)))))))))))))))))
