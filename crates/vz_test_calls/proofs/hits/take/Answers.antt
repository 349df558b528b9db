use Rattle.std.proofs.Common.{ap}
use Rattle.vz_test_calls.proofs.hits.take.Goals as goal

-- a step goes to the machine of the definitions, which has the same plan
pub returns-in_ok-client-in-Client : goal.returns-in_ok-client-in-Client
returns-in_ok-client-in-Client c = λ after. ap (λ m. m.plan) after.in_ok-client-in-Client.ensures.world

pub returns-in_ok-begin-in-Begin : goal.returns-in_ok-begin-in-Begin
returns-in_ok-begin-in-Begin c = λ after. ap (λ m. m.plan) after.in_ok-begin-in-Begin.ensures.world

pub returns-in_ok-draw-in-Draw : goal.returns-in_ok-draw-in-Draw
returns-in_ok-draw-in-Draw c = λ after. ap (λ m. m.plan) after.in_ok-draw-in-Draw.ensures.world

pub returns-in-Done : goal.returns-in-Done
returns-in-Done c = λ after. ap (λ m. m.plan) after.done.ensures.world

pub returns-in-Over : goal.returns-in-Over
returns-in-Over c = λ after. ap (λ m. m.plan) after.over.ensures.world
