-- What is wrong with a client's file.
use Rattle.std.proofs.Common.{rules, ◌≡◌, ℕ, ◌+◌, ◌-◌, ◌<◌, ◌≤◌, Bool, cond, Option, Some, None, Result, Ok, Err, IsErrOf, List, length, refl, sym, ap, ◌∙◌, subst}
use Rattle.std.proofs.lemmas.Bool.{lt-ltb, le-ltb}
use Rattle.std.specs.Option.{option_map}
use Rattle.vz_base.specs.declared.limits.TheConstants.{MOST_FILE_BYTES}
use Rattle.vz_frame.specs.declared.message.ClientFile.{ClientFile}
use Rattle.vz_codec.specs.{declared.fault.FileRule.FileRule, Reading.Fault, Reading.file_in, Grammar.Wrong, Grammar.placed, Grammar.wrong}
use Rattle.viz_run.specs.declared.refused.Reason.TheVariants.{Rule, SinkTaken, Long}
use Rattle.viz_run.specs.{declared.refused.Refused.Refused, declared.refused.InputError.InputError, Decoded.IsDecoded}
use Rattle.viz_run.specs.declared.refused.InputError.TheVariants as input_error
use Rattle.viz_run.specs.Refusals.{Flaw, sink_place, takes_sink, file_flaw, refused_at}

-- bytes above the limit are too long
pub long_flaw : (earlier : List ClientFile) (bytes : List ℕ) → MOST_FILE_BYTES < length bytes → file_flaw earlier bytes ≡ Some (record { at = MOST_FILE_BYTES; reason = Long })
unfolding file_flaw
long_flaw earlier bytes long = rw (lt-ltb MOST_FILE_BYTES (length bytes) long) refl

-- of a file that is read its sink may be taken, and nothing else is wrong
pub sink_flaw : (earlier : List ClientFile) (bytes : List ℕ) (file : ClientFile) (t : Bool) → length bytes ≤ MOST_FILE_BYTES
    → file_in bytes ≡ Ok file → takes_sink earlier file ≡ t → file_flaw earlier bytes ≡ cond t (Some (record { at = sink_place; reason = SinkTaken })) None
unfolding file_flaw
sink_flaw earlier bytes file t short read taken = rw (le-ltb MOST_FILE_BYTES (length bytes) short, read, taken) refl

-- bytes that are wrong are wrong there
pub field_flaw : (earlier : List ClientFile) (bytes : List ℕ) (at : ℕ) (rule : FileRule) → length bytes ≤ MOST_FILE_BYTES
    → wrong bytes ≡ Some (record { at = at; rule = rule }) → file_flaw earlier bytes ≡ Some (record { at = at; reason = Rule rule })
unfolding file_flaw wrong
field_flaw earlier bytes at rule short is =
    ap (λ (t : Bool). cond t (Some (record { at = MOST_FILE_BYTES; reason = Long })) (flaw_of (file_in bytes))) (le-ltb MOST_FILE_BYTES (length bytes) short)
    ∙ read (file_in bytes) is
  where
    flaw_of : Result ClientFile Fault → Option Flaw
    flaw_of r = elim r [ Ok file ↦ (cond (takes_sink earlier file) (Some (record { at = sink_place; reason = SinkTaken })) None) | Err fault ↦ Some (record { at = length bytes - fault.left; reason = Rule fault.rule }) ]

    read : (r : Result ClientFile Fault) → placed bytes r ≡ Some (record { at = at; rule = rule }) → ◌≡◌ {A = Option Flaw} (flaw_of r) (Some (record { at = at; reason = Rule rule }))
    read (Ok file) same = absurd (search rules)
    read (Err fault) same = ap (option_map (λ (w : Wrong). record { at = w.at; reason = Rule w.rule })) same

-- an error that is this one
pub error_is : {T : Type 0} (e x : InputError) → IsErrOf {T = T} (Err e) x → e ≡ x
error_is e x is = search rules

-- bytes that are wrong whatever the other files are
pub decoded_wrong : (others : ℕ) (bytes : List ℕ) (flaw : Flaw) (e : InputError) → ((earlier : List ClientFile) → file_flaw earlier bytes ≡ Some flaw)
    → e ≡ input_error.Refused (refused_at (others + 1) flaw) → IsDecoded others bytes (Err e)
decoded_wrong others bytes flaw e flawed is =
    subst (λ (x : InputError). IsDecoded others bytes (Err x)) (sym is)
    (λ earlier. ap (option_map (refused_at (others + 1))) (flawed earlier))

-- a refused input is told by one error alone
pub refused_is : {a b : Refused} → input_error.Refused a ≡ input_error.Refused b → a ≡ b
refused_is h = search rules
