-- The results of decoding the clients' files, each by itself.
use Rattle.std.specs.Prelude.{◌≡◌, ℕ, ◌+◌, ◌≤◌, Some, Ok, Err, Result, List, [], ◌∷◌, length, IsTrue}
use Rattle.std.specs.Option.{option_map}
use Rattle.vz_base.specs.declared.limits.TheConstants.{MOST_FILE_BYTES}
use Rattle.vz_frame.specs.declared.message.ClientFile.{ClientFile}
use Rattle.vz_frame.specs.Fits.{fits_file}
use Rattle.vz_codec.specs.Reading.{file_in}
use Rattle.viz_run.specs.Refusals.{file_flaw, refused_at}
use Rattle.viz_run.specs.declared.refused.InputError.{InputError}
use Rattle.viz_run.specs.declared.refused.InputError.TheVariants.{Refused, Memory}

-- the result for the bytes of one file, with so many inputs before it: the file, or what is wrong
-- with the bytes, whatever the other files are
abbrev pub IsDecoded : ℕ → List ℕ → Result ClientFile InputError → Type 0
IsDecoded others bytes (Ok file) = (length bytes ≤ MOST_FILE_BYTES) × (file_in bytes ≡ Ok file) × IsTrue (fits_file file)
IsDecoded others bytes (Err (Refused r)) =
    (earlier : List ClientFile) → option_map (refused_at (others + 1)) (file_flaw earlier bytes) ≡ Some r
IsDecoded others bytes (Err Memory) = Unit {0}

-- the results for several inputs, in order, with so many inputs before them
abbrev pub AreDecoded : ℕ → List (List ℕ) → List (Result ClientFile InputError) → Type 0
AreDecoded others [] [] = Unit {0}
AreDecoded others (bytes ∷ more) (answer ∷ answers) = IsDecoded others bytes answer × AreDecoded (others + 1) more answers
AreDecoded others _ _ = ⊥
