-- The bytes of a line.
use Rattle.std.proofs.Common.{◌≡◌, ℕ, List, [], ◌++◌, ap, sym, ◌∙◌, append_assoc, codes}
use Rattle.std.specs.Fmt.{decimal}
use Rattle.vz_check.specs.{declared.verdict.What.What, declared.verdict.Verdict.TheVariants.No}
use Rattle.viz_run.specs.{declared.refused.Refused.Refused, Lines.refused_line, Lines.reason_text, Lines.verdict_line, Lines.what_text}
use Rattle.vz_rules.specs.Log.{then_number}

-- the bytes up to the place of a refused input
place_spelled :
    (file at : ℕ) (none numbered placed : List ℕ) →
    none ≡ [] → numbered ≡ none ++ (codes "file " ++ decimal file) → placed ≡ numbered ++ (codes " refused at " ++ decimal at) →
    placed ≡ codes "file" ++ then_number file ++ codes " refused at" ++ then_number at
place_spelled file at none numbered placed empty is_numbered is_placed =
    is_placed ∙ ap (λ (xs : List ℕ). xs ++ (codes " refused at " ++ decimal at)) (is_numbered ∙ ap (λ (xs : List ℕ). xs ++ (codes "file " ++ decimal file)) empty)
    ∙ sym (append_assoc (codes "file" ++ then_number file) (codes " refused at") (then_number at))

-- the line of a refused input: its place, a colon, the word for what is wrong, and the end
pub refused_spelled :
    (r : Refused) (none numbered placed marked word worded whole : List ℕ) →
    none ≡ [] → numbered ≡ none ++ (codes "file " ++ decimal r.file) → placed ≡ numbered ++ (codes " refused at " ++ decimal r.at) →
    marked ≡ placed ++ codes ": " → word ≡ reason_text r.reason → worded ≡ marked ++ word → whole ≡ worded ++ codes "\n" → whole ≡ refused_line r
unfolding refused_line
refused_spelled r none numbered placed marked word worded whole empty is_numbered is_placed is_marked is_word is_worded is =
    let place : List ℕ = codes "file" ++ then_number r.file ++ codes " refused at" ++ then_number r.at in
    let colon : marked ≡ place ++ codes ": " =
    is_marked ∙ ap (λ (xs : List ℕ). xs ++ codes ": ") (place_spelled r.file r.at none numbered placed empty is_numbered is_placed) in
    is ∙ ap (λ (xs : List ℕ). xs ++ codes "\n")
    (is_worded ∙ ap (λ (xs : List ℕ). xs ++ word) colon ∙ ap (λ (xs : List ℕ). (place ++ codes ": ") ++ xs) is_word)

-- the line of a fault: its place, the word for what is wrong, and the end
pub fault_spelled :
    (entry : ℕ) (w : What) (none numbered spaced word worded whole : List ℕ) →
    none ≡ [] → numbered ≡ none ++ (codes "no " ++ decimal entry) → spaced ≡ numbered ++ codes " " →
    word ≡ what_text w → worded ≡ spaced ++ word → whole ≡ worded ++ codes "\n" → whole ≡ verdict_line (No entry w)
unfolding verdict_line
fault_spelled entry w none numbered spaced word worded whole empty is_numbered is_spaced is_word is_worded is =
    let place : List ℕ = codes "no" ++ then_number entry in
    let blank : spaced ≡ place ++ codes " " =
    is_spaced ∙ ap (λ (xs : List ℕ). xs ++ codes " ") (is_numbered ∙ ap (λ (xs : List ℕ). xs ++ (codes "no " ++ decimal entry)) empty) in
    is ∙ ap (λ (xs : List ℕ). xs ++ codes "\n")
    (is_worded ∙ ap (λ (xs : List ℕ). xs ++ word) blank ∙ ap (λ (xs : List ℕ). (place ++ codes " ") ++ xs) is_word)
