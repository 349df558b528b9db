use Rattle.std.proofs.Common.{IsTrue, Err, List, ℕ, subst, arith}
use Rattle.vz_codec.specs.Grammar.{Spells, Decodes}
use Rattle.vz_codec.specs.declared.fault.DecodeError.{DecodeError}
use Rattle.vz_frame.specs.declared.message.ClientFile.{ClientFile}
use Rattle.vz_frame.specs.Fits.{fits_file}
use Rattle.viz_run.proofs.Flaws.{long_flaw, field_flaw, decoded_wrong}
use Rattle.viz_run.proofs.client_files.decode_one.Goals as goal

-- what is spelled fits
fitting : (bytes : List ℕ) (file : ClientFile) → Spells bytes file → IsTrue (fits_file file)
unfolding Spells
fitting bytes file spells = spells.0

pub returns-then-bytes-gt-MOST_FILE_BYTES : goal.returns-then-bytes-gt-MOST_FILE_BYTES
returns-then-bytes-gt-MOST_FILE_BYTES c =
    decoded_wrong c.args.others c.args.bytes.now _ c.refused.result
    (λ earlier. long_flaw earlier c.args.bytes.now c.if-bytes-gt-MOST_FILE_BYTES.true) c.refused.ensures

pub returns-in-Ok : goal.returns-in-Ok
returns-in-Ok c =
    (omega (arith, c.if-bytes-gt-MOST_FILE_BYTES.false), c.in-Ok.ensures.exact, fitting c.args.bytes.now c.in-Ok.file c.in-Ok.ensures.found)

pub returns-in-Err-Refused : goal.returns-in-Err-Refused
returns-in-Err-Refused c =
    decoded_wrong c.args.others c.args.bytes.now _ c.refused-in-Err-Refused.result
    (λ earlier. field_flaw earlier c.args.bytes.now c.in-Err-Refused.at c.in-Err-Refused.rule (omega (arith, c.if-bytes-gt-MOST_FILE_BYTES.false))
    (subst (λ (e : DecodeError). Decodes c.args.bytes.now (Err e)) c.in-Err-Refused.field-0-is c.in-Err-Refused.ensures.exact))
    c.refused-in-Err-Refused.ensures
