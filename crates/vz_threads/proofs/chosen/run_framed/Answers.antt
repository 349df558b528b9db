use Rattle.vz_threads.proofs.chosen.run_framed.Goals as goal

pub run_opened-requires-clause-opened : goal.run_opened-requires-clause-opened
run_opened-requires-clause-opened g c κs within = c.requires.opened

pub returns-clause-run : goal.returns-clause-run
returns-clause-run g c = λ k ready opened. c.run_opened.ensures.run k ready opened
