use Rattle.vz_buffers.proofs.holding.Site.fifth.Given as goal

abbrev pub ghosts-sixth : goal.ghosts-sixth
ghosts-sixth g a = record {
  aim = record {
    name = a.chunk.ghost_name;
    before = a.chunk.now;
    from = a.parts.now.from;
    count = a.parts.now.count;
  };
}
