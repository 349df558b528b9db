use Rattle.std.proofs.Common.{Some}
use Rattle.vz_manager.proofs.Depicting.{display_is, store_keeps, frames_fit, bounded_is, look_like}
use Rattle.vz_manager.proofs.picture.operations.Goals as goal

pub flatten-requires-clause-size : goal.flatten-requires-clause-size
flatten-requires-clause-size c =
    let x = c.requires.shows in
    display_is x.0 x.1 (Some c.args.root.now) c.args.size c.args.live.now x.2.drawing

pub flatten-requires-clause-keeps : goal.flatten-requires-clause-keeps
flatten-requires-clause-keeps c =
    let x = c.requires.shows in
    store_keeps x.0 x.1 (Some c.args.root.now) c.args.size c.args.live.now x.2.drawing _ c.store.ensures

pub flatten-requires-clause-frames : goal.flatten-requires-clause-frames
flatten-requires-clause-frames c =
    let x = c.requires.shows in
    frames_fit x.0 x.1 (Some c.args.root.now) c.args.size c.args.live.now x.2.drawing _ c.store.ensures

pub flatten-requires-clause-bounded : goal.flatten-requires-clause-bounded
flatten-requires-clause-bounded c =
    let x = c.requires.shows in
    bounded_is x.0 x.1 c.args.root.now c.args.size c.args.live.now x.2 _ c.store.ensures

pub returns : goal.returns
returns c =
    record {
      look = λ p w h.
          look_like p w c.args.root.now c.args.size c.args.live.now h c.store.result.now c.in_ok-ops.ops c.store.ensures
          c.in_ok-ops.ensures.painted;
    }
