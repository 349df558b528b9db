-- What a handle owns: nothing, or a stage on the heap.
use base.Fml.{Fml, ftrue}
use denote.RawPtr.{Ptr}
use Rattle.std.specs.Prelude.{Option, None, Some}
use Rattle.std.specs.Coded.{Coded, coded_option}
use Rattle.std.specs.Box.Ownership.{box_owns}
use Rattle.std.specs.Global.{Global}
use Rattle.std.specs.contracts.impls.GlobalAllocator.TheImpl.{ghosts}
use Rattle.viz_c.specs.contracts.stage.Stage.{the_row}

abbrev pub stage_owns : Global → Ptr → Option the_row.Denot → Fml
stage_owns a p None = ftrue
stage_owns a p (Some s) = box_owns (ghosts.dealloc_token a) the_row p s

abbrev pub stage_coded : Coded (Option the_row.Denot)
stage_coded = coded_option the_row.coded
