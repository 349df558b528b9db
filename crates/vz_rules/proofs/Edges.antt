-- Worked edges: the default deadline, the last tick, what comes first where two could, and the limits of a command.
use Rattle.std.specs.Prelude.{codes}
use Rattle.std.proofs.Common.{◌≡◌, true, false, List, [], ◌∷◌, map, refl, None}
use Rattle.vz_frame.specs.declared.message.Message.TheVariants.{Submit, Await}
use Rattle.vz_rules.specs.declared.entry.Event.TheVariants as event
use Rattle.vz_rules.specs.Plan.{Plan}
use Rattle.vz_rules.specs.Step.{next_tick}
use Rattle.vz_rules.specs.Command.{Word, Run, Turns, fits_command}
use Rattle.vz_frame.specs.declared.frame.Material.TheVariants.{Solid}
use Rattle.vz_rules.proofs.Rows.{opened, rect, red_quad, first_local, sized_frame, plan_of, text_of, id_at, begins, white, unit_plan, unit_quad, shown_unit, c1}

-- a submission that waits for a sink that never comes, and names no deadline
abbrev waiting_plan : Plan
waiting_plan = plan_of (Submit (sized_frame 4 2 (rect 0 0 4 2) (id_at 9 1 1 ∷ []) [] None (red_quad ∷ [])) first_local ∷ [])

-- it becomes active at the fourth begin-frame
default_deadline : text_of waiting_plan (c1 ∷ begins 4)
    ≡ codes "c1 accepted 1 1\nbegin ticked 1\nbegin ticked 2\nbegin ticked 3\nbegin ticked 4 +1.1\nopen 1.1\nend\n"
unfolding opened
default_deadline = refl

-- at its end the tick stays
last_tick : map next_tick (4294967230 ∷ 4294967231 ∷ []) ≡ 4294967231 ∷ 4294967231 ∷ []
last_tick = refl

-- a begin-frame that stands untaken is answered before Over
began_before_over : text_of (plan_of (Await ∷ Await ∷ [])) (event.Begin ∷ event.Over ∷ c1 ∷ c1 ∷ [])
    ≡ codes "begin ticked 1\nover ended\nc1 began 1\nc1 over\nend\n"
unfolding opened
began_before_over = refl

-- of several begin-frames the last one is answered, once
last_begin_frame_is_answered : text_of (plan_of (Await ∷ Await ∷ [])) (event.Begin ∷ event.Begin ∷ c1 ∷ c1 ∷ [])
    ≡ codes "begin ticked 1\nbegin ticked 2\nc1 began 2\nc1 refused 11\nend\n"
unfolding opened
last_begin_frame_is_answered = refl

-- a quad of half the opacity on the black display
blends_and_group_opacity : shown_unit (unit_plan ((1, unit_quad 128 (Solid white) ∷ []) ∷ [])) ≡ record { r = 128; g = 128; b = 128; a = 255 } ∷ []
unfolding opened
blends_and_group_opacity = refl

abbrev names : List Word
names = codes "f" ∷ codes "l" ∷ codes "a" ∷ []

-- the frames of all rounds and of the last drawing have at most 1,073,741,824 bytes, whether they are written or not
frames_are_limited : fits_command (Run false None false 2048 2048 63 (codes "f") (codes "l") (codes "a" ∷ []))
    ∷ fits_command (Run false None false 2048 2048 64 (codes "f") (codes "l") (codes "a" ∷ []))
    ∷ fits_command (Turns 2048 2048 63 names) ∷ fits_command (Turns 2048 2048 64 names) ∷ []
    ≡ true ∷ false ∷ true ∷ false ∷ []
unfolding fits_command
frames_are_limited = refl
