use Rattle.vz_buffers.proofs.holding.Site.first.Given as goal

abbrev pub ghosts-second : goal.ghosts-second
ghosts-second g a = record {
  aim = record {
    name = a.chunk.ghost_name;
    before = a.chunk.now;
    from = a.parts.now.from;
    count = a.parts.now.count;
  };
}
