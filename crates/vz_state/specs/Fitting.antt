-- Messages that fit a file.
use Rattle.std.specs.Prelude.{ℕ, IsTrue}
use Rattle.vz_frame.specs.declared.message.Message.{Message}
use Rattle.vz_frame.specs.Fits.{fits_message}

-- a message fits a file of some format
abbrev pub FitsSome : Message → Type 0
FitsSome m = (n : ℕ) × IsTrue (fits_message n m)
