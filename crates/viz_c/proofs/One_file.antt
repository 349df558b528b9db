-- A shelf in memory with one file, and the verdict on what it holds.
use Rattle.std.proofs.Common.{◌≡◌, ◌∙◌, ℕ, Some, List, [], ◌∷◌, ◌++◌, refl, ap, subst, sym}
use Rattle.std.specs.{Prelude.Vec, Prelude.String, Global.Global, String.string_bytes}
use Rattle.vz_check.specs.{Verdict.IsVerdict, declared.verdict.Verdict.Verdict}
use Rattle.vz_outside.specs.InMemory.{bytes_in, files_of, first_named}
use Rattle.vz_rules.specs.Plan.{Plan}

-- a file with an empty name is found by that name
one_file : (name bytes : List ℕ) → name ≡ [] → bytes_in ((name, bytes) ∷ []) [] ≡ Some bytes
unfolding first_named
one_file [] bytes e = refl
one_file (c ∷ cs) bytes e = cc

-- so it is in a list to which it was added
pub one_held :
    (old new : List (String Global × Vec ℕ Global)) (name : String Global) (copy : Vec ℕ Global) (bytes : List ℕ)
    → old ≡ [] → new ≡ old ++ (name, copy) ∷ [] → string_bytes name ≡ [] → copy.items ≡ bytes → bytes_in (files_of new) [] ≡ Some bytes
one_held old new name copy bytes none put empty copied =
    let file : String Global × Vec ℕ Global = (name, copy) in
    ap (λ (files : List (String Global × Vec ℕ Global)). bytes_in (files_of files) []) (put ∙ ap (λ (files : List (String Global × Vec ℕ Global)). files ++ file ∷ []) none)
    ∙ (one_file (string_bytes name) copy.items empty ∙ ap Some copied)

some_same : (a b : List ℕ) → Some a ≡ Some b → a ≡ b
some_same a b e = cc

-- the verdict on what is left of the file that has these bytes is the verdict on them
pub judged_whole :
    (p : Plan) (log frames rest bytes : List ℕ) (verdict : Verdict) → Some frames ≡ Some rest → rest ≡ bytes
    → IsVerdict p log bytes verdict → IsVerdict p log frames verdict
judged_whole p log frames rest bytes verdict held gives judged =
    subst (λ (b : List ℕ). IsVerdict p log b verdict) (sym (some_same frames rest held ∙ gives)) judged
