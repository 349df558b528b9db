use Rattle.vz_buffers.proofs.holding.Site.eleventh.Given as goal

abbrev pub ghosts-twelfth : goal.ghosts-twelfth
ghosts-twelfth g a = record {
  aim = record {
    name = a.chunk.ghost_name;
    before = a.chunk.now;
    from = a.parts.now.from;
    count = a.parts.now.count;
  };
}
