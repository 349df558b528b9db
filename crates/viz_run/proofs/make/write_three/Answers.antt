use Rattle.vz_outside.proofs.Behaving.{on_err}
use Rattle.viz_run.proofs.Making.{first_begun, second_begun, third_begun, all_whole}
use Rattle.viz_run.proofs.Asked_names.{names_apart}
use Rattle.viz_run.proofs.make.write_three.Goals as goal

pub returns-in_err-write_file-clause-begun : goal.returns-in_err-write_file-clause-begun
returns-in_err-write_file-clause-begun g c =
    let w = c.args.words.now in
    let one = c.in_err-write_file.ensures in
    on_err c.from_residual.result _
    (first_begun w.first.now w.second.now w.third.now c.args.files.now (names_apart w.rounds _ _ _ c.requires.command) c.requires.three _ _ _
    c.index-files-0.is one.begun one.others)

pub returns-in_err-write_file-2-clause-begun : goal.returns-in_err-write_file-2-clause-begun
returns-in_err-write_file-2-clause-begun g c =
    let w = c.args.words.now in
    let one = c.in_ok-write_file.ensures in
    let two = c.in_err-write_file-2.ensures in
    on_err c.from_residual-in_err-write_file-2.result _
    (second_begun w.first.now w.second.now w.third.now c.args.files.now (names_apart w.rounds _ _ _ c.requires.command) c.requires.three _ _ _ _ _
    c.index-files-0.is c.index-files-1.is one.behaves.call one.whole one.others two.behaves.call two.begun two.others)

pub returns-in_err-write_file-3-clause-begun : goal.returns-in_err-write_file-3-clause-begun
returns-in_err-write_file-3-clause-begun g c =
    let w = c.args.words.now in
    let one = c.in_ok-write_file.ensures in
    let two = c.in_ok-write_file-2.ensures in
    let three = c.in_err-write_file-3.ensures in
    on_err c.from_residual-in_err-write_file-3.result _
    (third_begun w.first.now w.second.now w.third.now c.args.files.now (names_apart w.rounds _ _ _ c.requires.command) c.requires.three _ _ _ _ _ _ _
    c.index-files-0.is c.index-files-1.is c.index-files-2.is one.behaves.call one.whole one.others
    two.behaves.call two.whole two.others three.behaves.call three.begun three.others)

pub returns-clause-whole : goal.returns-clause-whole
returns-clause-whole g c =
    let w = c.args.words.now in
    let one = c.in_ok-write_file.ensures in
    let two = c.in_ok-write_file-2.ensures in
    let three = c.in_ok-write_file-3.ensures in
    all_whole w.first.now w.second.now w.third.now c.args.files.now (names_apart w.rounds _ _ _ c.requires.command) c.requires.three _ _ _ _ _ _
    c.index-files-0.is c.index-files-1.is c.index-files-2.is one.whole two.behaves.call two.whole two.others three.behaves.call three.whole three.others
