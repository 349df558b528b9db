use Rattle.vz_buffers.proofs.holding.paint_job.Given as goal

abbrev pub ghosts-first : goal.ghosts-first
ghosts-first g a = record {
  aim = record {
    name = a.chunk.ghost_name;
    before = a.chunk.now;
    from = a.parts.now.from;
    count = a.parts.now.count;
  };
}
