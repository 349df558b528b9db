use Rattle.std.proofs.Common.{◌∙◌, List, IsTrue, ap, sym, subst}
use Rattle.std.specs.List.{flat_map, list_all}
use Rattle.vz_codec.specs.Spelling.{file_bytes}
use Rattle.vz_frame.specs.Fits.{fits_file}
use Rattle.vz_frame.specs.declared.message.ClientFile.{ClientFile}
use Rattle.vz_gen.proofs.Fitting.{made_fit}
use Rattle.viz_c.specs.Making.{lengths_of}
use Rattle.viz_c.proofs.rounds.make_files.Goals as goal

pub encode_all-requires : goal.encode_all-requires
encode_all-requires c =
    subst (λ (files : List ClientFile). IsTrue (list_all fits_file files)) (sym (c.as_slice.ensures ∙ c.in_ok-files.ensures))
    (made_fit c.args.rounds c.requires)

pub returns-clause-bytes : goal.returns-clause-bytes
returns-clause-bytes c =
    c.in_ok-made.ensures.bytes ∙ ap (λ (files : List ClientFile). flat_map file_bytes files) (c.as_slice.ensures ∙ c.in_ok-files.ensures)

pub returns-clause-lengths : goal.returns-clause-lengths
returns-clause-lengths c = c.in_ok-made.ensures.lengths ∙ ap lengths_of (c.as_slice.ensures ∙ c.in_ok-files.ensures)
