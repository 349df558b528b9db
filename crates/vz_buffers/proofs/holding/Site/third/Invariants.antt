use Rattle.vz_buffers.proofs.holding.Site.third.Given as goal

abbrev pub ghosts-fourth : goal.ghosts-fourth
ghosts-fourth g a = record {
  aim = record {
    name = a.chunk.ghost_name;
    before = a.chunk.now;
    from = a.parts.now.from;
    count = a.parts.now.count;
  };
}
