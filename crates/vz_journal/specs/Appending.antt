-- What a writer appends to a text.
use Rattle.std.specs.Prelude.{◌≡◌, ℕ, List, ◌++◌, String, string_bytes}

-- the new text is the old one followed by these bytes
abbrev pub IsAppended : {Z : Type 0} → String Z → String Z → List ℕ → Type 0
IsAppended old new bytes = string_bytes new ≡ string_bytes old ++ bytes
