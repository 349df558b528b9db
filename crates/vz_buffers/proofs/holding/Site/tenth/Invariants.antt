use Rattle.vz_buffers.proofs.holding.Site.tenth.Given as goal

abbrev pub ghosts-eleventh : goal.ghosts-eleventh
ghosts-eleventh g a = record {
  aim = record {
    name = a.chunk.ghost_name;
    before = a.chunk.now;
    from = a.parts.now.from;
    count = a.parts.now.count;
  };
}
