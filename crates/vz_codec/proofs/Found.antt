-- What decoding finds and refuses, and which bytes spell a file.
use Rattle.std.proofs.Common.{true, ◌≡◌, ◌≢◌, ℕ, ◌-◌, ◌<◌, ◌≤◌, ◌↔◌, Some, None, Result, Ok, Err, List, [], ◌∷◌, ◌++◌}
use Rattle.std.proofs.Common.{length, All, refl, sym, ap, subst, ◌∙◌, arith, inl, inr}
use Rattle.std.proofs.lemmas.Bool.{cases_lt}
use Rattle.std.proofs.lemmas.List.{append-nil, get_or_past}
use Rattle.std.proofs.lemmas.List.Elements.{All-get_or}
use Rattle.vz_frame.specs.declared.message.ClientFile.{ClientFile}
use Rattle.vz_frame.specs.Fits.{fits_file}
use Rattle.vz_codec.specs.declared.fault.FileRule.{FileRule}
use Rattle.vz_codec.specs.declared.fault.FileRule.TheVariants as rules
use Rattle.vz_codec.specs.declared.fault.DecodeError.{DecodeError}
use Rattle.vz_codec.specs.declared.fault.DecodeError.TheVariants.{Refused, Memory}
use Rattle.vz_codec.specs.Spelling.{file_bytes}
use Rattle.vz_codec.specs.Reading.{Fault, Read, ◌>>=◌, file_at, ended, file_in}
use Rattle.vz_codec.specs.Grammar.{Spells, Wrong, placed, wrong, Decodes, Finds}
use Rattle.vz_codec.proofs.Numbers.{IsBytes}
use Rattle.vz_codec.proofs.Lawful.{Judged, Placed}
use Rattle.vz_codec.proofs.Whole.{files}

-- ---- spellings

pub spells : (bytes : List ℕ) (f : ClientFile) → fits_file f ≡ true → bytes ≡ file_bytes f → Spells bytes f
unfolding Spells
spells bytes f fits same = (fits, same)

pub told : (bytes : List ℕ) (f : ClientFile) → Spells bytes f → (fits_file f ≡ true) × (bytes ≡ file_bytes f)
unfolding Spells
told bytes f s = s

-- what is said of reading a file, before it is known to end
abbrev JudgedFile : List ℕ → Read ClientFile → Type 0
JudgedFile bytes read = Judged file_bytes fits_file 18 bytes read

found_by : (bytes : List ℕ) (f : ClientFile) → IsBytes bytes → (r : Read ClientFile) → JudgedFile bytes r
    → (r >>= ended) ≡ Ok f → Spells bytes f
unfolding ended
found_by bytes f fits (Ok (a, [])) j e =
    let took = j.1 fits in
    let same : a ≡ f = cc in
    subst (λ (g : ClientFile). Spells bytes g) same (spells bytes a took.fits (took.parts ∙ append-nil (file_bytes a)))
found_by bytes f fits (Ok (a, b ∷ bs)) j e = absurd cc
found_by bytes f fits (Err d) j e = absurd cc

-- what is read is spelled
pub is_found : (bytes : List ℕ) (f : ClientFile) → IsBytes bytes → file_in bytes ≡ Ok f → Spells bytes f
unfolding file_in
is_found bytes f fits e = found_by bytes f fits (file_at bytes) (files.law bytes) e

pub decoded : (bytes : List ℕ) (f : ClientFile) → All (λ b. b < 256) bytes → file_in bytes ≡ Ok f → Spells bytes f
decoded bytes f all e = is_found bytes f small e
  where
    small : IsBytes bytes
    small i =
        elim (cases_lt i (length bytes)) [
          | inl lt ↦ All-get_or (λ b. b < 256) bytes i 0 lt all
          | inr le ↦ rw (get_or_past bytes i 0 le) (omega arith)
        ]

-- what is spelled is read, and then nothing may be left
read_before : (bytes rest : List ℕ) (f : ClientFile) → Spells bytes f → file_in (bytes ++ rest) ≡ ended (f, rest)
unfolding file_in
read_before bytes rest f s =
    let t = told bytes f s in
    ap (λ (front : List ℕ). file_at (front ++ rest) >>= ended) t.1 ∙ rw (files.again f rest t.0) refl

pub spelled_read : (bytes : List ℕ) (f : ClientFile) → Spells bytes f → file_in bytes ≡ Ok f
unfolding ended
spelled_read bytes f s = ap file_in (sym (append-nil bytes)) ∙ read_before bytes [] f s

pub same_file : (bytes : List ℕ) (f g : ClientFile) → Spells bytes f → Spells bytes g → f ≡ g
same_file bytes f g s t =
    let one = spelled_read bytes f s in
    let two = spelled_read bytes g t in
    cc

trailing : (more : List ℕ) (f g : ClientFile) → ended (f, more) ≡ Ok g → more ≡ []
unfolding ended
trailing [] f g e = refl
trailing (b ∷ bs) f g e = absurd cc

pub no_beginning : (a more : List ℕ) (f g : ClientFile) → Spells a f → Spells (a ++ more) g → more ≡ []
no_beginning a more f g s t = trailing more f g (sym (read_before a more f s) ∙ spelled_read (a ++ more) g t)

-- ---- what decoding answers

spelled_right : (bytes : List ℕ) (f : ClientFile) → Spells bytes f → wrong bytes ≡ None
unfolding wrong
spelled_right bytes f s = ap (placed bytes) (spelled_read bytes f s)

pub finds : (bytes : List ℕ) (result : Result ClientFile DecodeError) → Decodes bytes result → (f : ClientFile)
    → Spells bytes f → Finds result f
finds bytes (Ok g) given f s = let read = spelled_read bytes f s in cc
finds bytes (Err (Refused place rule)) given f s = let right = spelled_right bytes f s in absurd cc
finds bytes (Err Memory) given f s = tt

right_by : (bytes : List ℕ) (r : Result ClientFile Fault) → placed bytes r ≡ None → (f : ClientFile) × (r ≡ Ok f)
right_by bytes (Ok f) e = (f, refl)
right_by bytes (Err d) e = absurd cc

pub right_spelled : (bytes : List ℕ) → All (λ b. b < 256) bytes
    → (wrong bytes ≡ None) ↔ ((f : ClientFile) × Spells bytes f)
unfolding wrong
right_spelled bytes all = (
  λ e. let r = right_by bytes (file_in bytes) e in (r.0, decoded bytes r.0 all r.1),
  λ s. spelled_right bytes s.0 s.1,
)

-- ---- the places of faults

abbrev IsPlaced : {A : Type 0} → ℕ → Result A Fault → Type 0
IsPlaced n (Ok x) = Unit {0}
IsPlaced n (Err e) = Placed n e

end_placed : (n : ℕ) (f : ClientFile) (rest : List ℕ) → length rest ≤ n → IsPlaced n (ended (f, rest))
unfolding ended
end_placed n f [] few = tt
end_placed n f (b ∷ bs) few = record { within = few; at_end = λ h. absurd cc; before_end = λ other. omega arith }

placed_by : (bytes : List ℕ) (r : Read ClientFile) → JudgedFile bytes r → IsPlaced (length bytes) (r >>= ended)
placed_by bytes (Ok x) j = end_placed (length bytes) x.0 x.1 (omega (arith, j.0))
placed_by bytes (Err e) j = j

pub fault_placed : (bytes : List ℕ) (e : Fault) → file_in bytes ≡ Err e → Placed (length bytes) e
unfolding file_in
fault_placed bytes e given =
    subst (λ (r : Result ClientFile Fault). IsPlaced (length bytes) r) given
    (placed_by bytes (file_at bytes) (files.law bytes))

pub wrong_is : (bytes : List ℕ) (place left : ℕ) (rule : FileRule)
    → file_in bytes ≡ Err (record { left = left; rule = rule }) → place ≡ length bytes - left
    → wrong bytes ≡ Some (record { at = place; rule = rule })
unfolding wrong
wrong_is bytes place left rule e p = rw (e, p)

place_by : (bytes : List ℕ) (r : Result ClientFile Fault) (w : Wrong) → IsPlaced (length bytes) r
    → placed bytes r ≡ Some w
    → (w.rule ≡ rules.Short → w.at ≡ length bytes) × (w.rule ≢ rules.Short → w.at < length bytes)
place_by bytes (Ok f) w place given = absurd cc
place_by bytes (Err e) w place given =
    let at : w.at ≡ length bytes - e.left = cc in
    let rule : e.rule ≡ w.rule = cc in (
      λ short. let nothing = place.at_end (rule ∙ short) in omega (arith, at, nothing),
      λ other. let some = place.before_end (λ h. other (sym rule ∙ h)) in omega (arith, at, some, place.within),
    )

-- a short fault is at the end, any other at a byte that is there
pub place_of : (bytes : List ℕ) (w : Wrong) → wrong bytes ≡ Some w
    → (w.rule ≡ rules.Short → w.at ≡ length bytes) × (w.rule ≢ rules.Short → w.at < length bytes)
unfolding wrong file_in
place_of bytes w given = place_by bytes (file_in bytes) w (placed_by bytes (file_at bytes) (files.law bytes)) given
