-- Pixels that begin a page of memory.
use Rattle.std.specs.Prelude.{List, drop}
use Rattle.vz_pixels.specs.Colour.{Colour}
use Rattle.vz_buffers.specs.declared.pages.TheConstants.{HEAD}

-- the pixels behind those that stand unused
abbrev pub behind_head : List Colour → List Colour
behind_head memory = drop HEAD memory
