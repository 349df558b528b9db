use Rattle.std.proofs.Common.{rules, ◌≡◌, ◌∙◌, List, IsTrue, length, ap, sym, subst}
use Rattle.std.proofs.lemmas.List.{take_all}
use Rattle.std.specs.List.{flat_map}
use Rattle.vz_codec.specs.Spelling.{file_bytes}
use Rattle.vz_frame.specs.Fits.{fits_file}
use Rattle.vz_frame.specs.declared.message.ClientFile.{ClientFile}
use Rattle.viz_c.specs.Making.{lengths_of}
use Rattle.viz_c.proofs.Cutting.{bytes_more, lengths_more, fits_at}
use Rattle.viz_c.proofs.rounds.encode_all.Goals as goal

pub encode-requires : goal.encode-requires
encode-requires c =
    let next = c.index-files-place.result in
    subst (λ (file : ClientFile). IsTrue (fits_file file)) (sym c.index-files-place.is)
    (fits_at c.args.files.now c.loop-place.place next c.loop-place-test.true c.requires)

pub loop-place-preserved : goal.loop-place-preserved
loop-place-preserved c =
    let at = c.loop-place in
    let files = c.args.files.now in
    let next = c.index-files-place.result in
    let low = c.loop-place-test.true in
    let own = c.in_ok-file.ensures ∙ ap file_bytes c.index-files-place.is in
    let many : c.len-count.result ≡ length c.in_ok-file.file.items = search rules in (
      bytes_more files at.place next at.bytes.items _ c.deref.result.now low at.invariant.0 (c.deref.ensures.value ∙ own)
          c.in_ok-extend_from_slice.ensures.items,
      lengths_more files at.place next at.lengths.items _ c.len-count.result low at.invariant.1 (many ∙ ap length own)
          c.in_ok-push.ensures.items,
    )

pub returns-clause-bytes : goal.returns-clause-bytes
returns-clause-bytes c =
    let at = c.loop-place in
    at.invariant.0 ∙ ap (λ (files : List ClientFile). flat_map file_bytes files) (take_all at.place c.args.files.now c.loop-place-test.false)

pub returns-clause-lengths : goal.returns-clause-lengths
returns-clause-lengths c =
    let at = c.loop-place in at.invariant.1 ∙ ap lengths_of (take_all at.place c.args.files.now c.loop-place-test.false)
