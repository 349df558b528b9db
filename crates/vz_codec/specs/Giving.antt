-- What a reader returns: a value and the bytes after it, a fault with the number of bytes left, or
-- that there is no memory.
use Rattle.std.specs.Prelude.{◌≡◌, ℕ, Result, Ok, Err, List, [], ◌∷◌, ◌++◌}
use Rattle.vz_codec.specs.declared.error.ReadError.{ReadError}
use Rattle.vz_codec.specs.declared.error.ReadError.TheVariants as errors
use Rattle.vz_codec.specs.Reading.{Fault, Reading}

-- reading fails with the reported fault; want of memory says nothing about the bytes
abbrev pub Fails : {Y : Type 0} → ReadError → Result Y Fault → Type 0
Fails errors.Memory read = Unit {0}
Fails (errors.Wrong left rule) read = read ≡ Err (record { left = left; rule = rule })

-- the function returns, in the given view, what the reading defines, unless memory runs out
abbrev pub Gives : {X Y : Type 0} → (X → Y) → Result X ReadError → Result Y Fault → Type 0
Gives view (Ok x) read = read ≡ Ok (view x)
Gives view (Err e) read = Fails e read

-- a value is read at the front of the bytes, after which the rest is left, and put behind the old ones
abbrev pub PutsNext : {A : Type 0} → Reading A → List ℕ → List ℕ → List A → List A → Type 0
PutsNext {A} read bytes rest old new = (a : A) × (read bytes ≡ Ok (a, rest)) × (new ≡ old ++ a ∷ [])
