-- From what a run came to to what `run` answers.
use Rattle.std.proofs.Common.{◌≡◌, ℕ, ◌+◌, ◌<◌, List, [], ◌∷◌, ◌++◌, length, take, get_or, sym, ap, subst, ◌∙◌}
use Rattle.std.proofs.{lemmas.Grind.take_at_read, lemmas.List.map-append}
use Rattle.vz_frame.specs.declared.message.ClientFile.{ClientFile}
use Rattle.vz_rules.specs.{Plan.Plan, Step.Legal, Step.LegalFrom, declared.entry.Entry.Entry}
use Rattle.viz_run.specs.Ran.{counts_of}

-- the counts of the files up to behind a place
pub counts_more :
    (files : List ClientFile) (n : ℕ) (item : ClientFile) (counts more : List ℕ) (count : ℕ) → n < length files → item ≡ get_or files n item
    → counts ≡ counts_of (take n files) → count ≡ length item.messages → more ≡ counts ++ count ∷ [] → more ≡ counts_of (take (n + 1) files)
counts_more files n item counts more count low at before is pushed =
    pushed ∙ (ap (λ (xs : List ℕ). xs ++ count ∷ []) before
    ∙ (ap (λ (k : ℕ). counts_of (take n files) ++ k ∷ []) (is ∙ ap (λ (file : ClientFile). length file.messages) at)
    ∙ sym (ap counts_of (take_at_read files n item low).1
    ∙ map-append (λ (file : ClientFile). length file.messages) (take n files) (get_or files n item ∷ []))))

-- a history without an entry is legal
pub none_legal : (p : Plan) (h : List Entry) → h ≡ [] → Legal p h
unfolding Legal LegalFrom
none_legal p h empty = subst (Legal p) (sym empty) tt
