-- The texts of errors.
use Rattle.std.specs.Prelude.{ℕ, List, codes}
use Rattle.vz_outside.specs.declared.shelf.ShelfError.{ShelfError}
use Rattle.vz_outside.specs.declared.shelf.ShelfError.TheVariants.{Failed, Memory}

-- the text of an error, in UTF-8
abbrev pub error_text : ShelfError → List ℕ
error_text Failed = codes "the device failed"
error_text Memory = codes "out of memory"
