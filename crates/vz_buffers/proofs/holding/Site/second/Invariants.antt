use Rattle.vz_buffers.proofs.holding.Site.second.Given as goal

abbrev pub ghosts-third : goal.ghosts-third
ghosts-third g a = record {
  aim = record {
    name = a.chunk.ghost_name;
    before = a.chunk.now;
    from = a.parts.now.from;
    count = a.parts.now.count;
  };
}
