use Rattle.vz_buffers.proofs.holding.Site.seventh.Given as goal

abbrev pub ghosts-eighth : goal.ghosts-eighth
ghosts-eighth g a = record {
  aim = record {
    name = a.chunk.ghost_name;
    before = a.chunk.now;
    from = a.parts.now.from;
    count = a.parts.now.count;
  };
}
