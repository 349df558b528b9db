use Rattle.vz_flat.proofs.Rounded.{gutter_covers}
use Rattle.vz_flat.proofs.gutter.put_gutter.Goals as goal

pub fill_round-requires : goal.fill_round-requires
fill_round-requires c = gutter_covers c.args.seen.now c.args.place.now c.args.inner.now _ _ c.requires c.window.ensures c.window-2.ensures
