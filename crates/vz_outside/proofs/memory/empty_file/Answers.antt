use Rattle.std.proofs.Common.{◌≡◌, ◌∙◌, arith, length, ap, sym, ℕ, List, String, Vec, Some, None}
use Rattle.std.specs.Global.{Global}
use Rattle.vz_outside.proofs.Places.{emptied_there, found_there, place_emptied, stored_emptied, stored_new}
use Rattle.vz_outside.specs.InMemory.{File, files_of, first_named}
use Rattle.vz_outside.proofs.memory.empty_file.Goals as goal

pub returns-in-Some-clause-files : goal.returns-in-Some-clause-files
returns-in-Some-clause-files c =
    let there =
    found_there _ c.args.files.now.items c.args.name.now (Some c.in-Some.place) _ c.deref.ensures.value c.first_named.ensures.place c.in-Some.is in
    stored_emptied c.args.files.now.items c.args.name.now c.in-Some.place c.index_mut.result.now c.clear.new.self there
    c.index_mut.ensures.value c.clear.ensures.items ∙
    sym (emptied_there (files_of c.args.files.now.items) c.args.name.now c.in-Some.place there)

pub returns-in-Some-clause-place : goal.returns-in-Some-clause-place
returns-in-Some-clause-place c =
    let there =
    found_there _ c.args.files.now.items c.args.name.now (Some c.in-Some.place) _ c.deref.ensures.value c.first_named.ensures.place c.in-Some.is in
    ap (λ (files : List File). first_named files c.args.name.now)
    (stored_emptied c.args.files.now.items c.args.name.now c.in-Some.place c.index_mut.result.now c.clear.new.self there
    c.index_mut.ensures.value c.clear.ensures.items) ∙
    place_emptied (files_of c.args.files.now.items) c.args.name.now c.in-Some.place there

pub returns-clause-place : goal.returns-clause-place
returns-clause-place c =
    let missing =
    found_there _ c.args.files.now.items c.args.name.now None _ c.deref.ensures.value c.first_named.ensures.place c.in_default.is in
    ap (λ (files : List (String Global × Vec ℕ Global)). first_named (files_of files) c.args.name.now) c.in_ok-push.ensures.items ∙
    stored_new c.args.files.now.items c.args.name.now (c.in_ok-name.name, c.new.result) missing c.in_ok-name.ensures.ok
    c.new.ensures.items ∙
    (let long : length c.args.files.now.items ≡ c.len-place.result =
    omega (arith, c.args.files.now.ok, c.len-place.ensures) in ap Some long)
