use Rattle.vz_buffers.proofs.holding.Site.eighth.Given as goal

abbrev pub ghosts-ninth : goal.ghosts-ninth
ghosts-ninth g a = record {
  aim = record {
    name = a.chunk.ghost_name;
    before = a.chunk.now;
    from = a.parts.now.from;
    count = a.parts.now.count;
  };
}
