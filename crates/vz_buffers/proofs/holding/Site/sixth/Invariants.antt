use Rattle.vz_buffers.proofs.holding.Site.sixth.Given as goal

abbrev pub ghosts-seventh : goal.ghosts-seventh
ghosts-seventh g a = record {
  aim = record {
    name = a.chunk.ghost_name;
    before = a.chunk.now;
    from = a.parts.now.from;
    count = a.parts.now.count;
  };
}
