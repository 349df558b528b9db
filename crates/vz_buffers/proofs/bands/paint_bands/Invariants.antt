use Rattle.vz_buffers.specs.Taken.{strip_of}
use Rattle.vz_buffers.proofs.bands.paint_bands.Given as goal

abbrev pub ghosts-paint_job : goal.ghosts-paint_job
ghosts-paint_job g a = record {
  work = record {
    width = a.place.width;
    left = a.place.left;
    wide = a.place.wide;
    strip = strip_of g.P.RowPainter.strip a.painters.now;
  };
}
