use Rattle.std.proofs.Common.{IsTrue, length, ap, sym, subst, ◌∙◌}
use Rattle.std.specs.List.{list_all}
use Rattle.vz_frame.specs.Fits.{fits_file}
use Rattle.vz_gen.proofs.Fitting.{made_three, made_fit}
use Rattle.viz_run.proofs.Asked_names.{few_rounds}
use Rattle.viz_run.proofs.make.make_files.Goals as goal

pub make-requires : goal.make-requires
make-requires g c = few_rounds c.args.words.now.rounds _ _ _ c.requires

pub write_three-requires-clause-three : goal.write_three-requires-clause-three
write_three-requires-clause-three g c = ap length (c.as_slice.ensures ∙ c.in_ok-files.ensures) ∙ made_three c.args.words.now.rounds

pub write_three-requires-clause-fit : goal.write_three-requires-clause-fit
write_three-requires-clause-fit g c =
    let rounds = c.args.words.now.rounds in
    subst (λ files. IsTrue (list_all fits_file files)) (sym (c.as_slice.ensures ∙ c.in_ok-files.ensures))
    (made_fit rounds (few_rounds rounds _ _ _ c.requires))
