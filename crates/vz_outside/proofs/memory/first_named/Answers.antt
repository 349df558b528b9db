use Rattle.std.proofs.{Common.rules, Common.◌∙◌, Common.string_bytes, lemmas.Iterator.Search.position_from_yields_List}
use Rattle.std.proofs.lemmas.Iterator.{YieldsList-from_slice}
use Rattle.std.specs.Str.{bytes_eq}
use Rattle.vz_outside.proofs.Places.{place_found}
use Rattle.vz_outside.proofs.memory.first_named.Goals as goal

pub returns-clause-place : goal.returns-clause-place
returns-clause-place c =
    position_from_yields_List (λ file. bytes_eq (string_bytes file.0) c.args.name.now) _ _ _ c.position.ensures.ran
    (YieldsList-from_slice c.args.files.now cc) (λ x b q k. search rules) ∙
    place_found c.args.files.now c.args.name.now
