use Rattle.vz_buffers.proofs.holding.Site.ninth.Given as goal

abbrev pub ghosts-tenth : goal.ghosts-tenth
ghosts-tenth g a = record {
  aim = record {
    name = a.chunk.ghost_name;
    before = a.chunk.now;
    from = a.parts.now.from;
    count = a.parts.now.count;
  };
}
