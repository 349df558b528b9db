use Rattle.std.proofs.Common.{◌≡◌, ◌∙◌, sym, ap, Some, List, String, Vec, ℕ}
use Rattle.std.specs.{Global.Global, Option.option_copied}
use Rattle.vz_outside.proofs.Places.{bytes_stored, bytes_missing}
use Rattle.vz_outside.specs.InMemory.{InMemory, File, files_of, first_named}
use Rattle.vz_outside.proofs.memory.MemoryShelf.bytes_of.Goals as goal

pub returns : goal.returns
returns c =
    let seen : files_of c.as_slice-files.result.now ≡ c.args.self.now.files =
    ap (λ (files : List (String Global × Vec ℕ Global)). files_of files) c.as_slice-files.ensures.value ∙
    ap (λ (shelf : InMemory). shelf.files) c.self.view_is in
    ap Some c.as_slice.ensures.value ∙
    sym (bytes_stored c.as_slice-files.result.now c.args.self.now.files c.args.name.now c.in_ok-place.place _ seen
    (sym c.first_named.ensures.place ∙ c.in_ok-place.was))

pub returns-in_err-place : goal.returns-in_err-place
returns-in_err-place c =
    let seen : files_of c.as_slice-files.result.now ≡ c.args.self.now.files =
    ap (λ (files : List (String Global × Vec ℕ Global)). files_of files) c.as_slice-files.ensures.value ∙
    ap (λ (shelf : InMemory). shelf.files) c.self.view_is in
    ap option_copied c.from_residual.ensures ∙
    sym (bytes_missing c.args.self.now.files c.args.name.now
    (ap (λ (files : List File). first_named files c.args.name.now) (sym seen) ∙ sym c.first_named.ensures.place ∙ c.in_err-place.was))
