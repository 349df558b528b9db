use Rattle.vz_buffers.proofs.holding.Site.fourth.Given as goal

abbrev pub ghosts-fifth : goal.ghosts-fifth
ghosts-fifth g a = record {
  aim = record {
    name = a.chunk.ghost_name;
    before = a.chunk.now;
    from = a.parts.now.from;
    count = a.parts.now.count;
  };
}
