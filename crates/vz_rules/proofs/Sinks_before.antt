-- The first file whose sink an earlier one has, looked for place by place.
use Rattle.std.proofs.Common.{◌≡◌, ℕ, ◌+◌, ◌<◌, Bool, true, false, ◌||◌, cond, Some, List, [], ◌∷◌, ◌++◌, map, take, drop, length, get_or, reverse, refl, sym, ap, ◌∙◌, drop-cons, add-one}
use Rattle.std.proofs.lemmas.List.{map-append, reverse-append}
use Rattle.std.proofs.lemmas.List.Folds.{list_any-append}
use Rattle.std.proofs.lemmas.Grind.{take_at_read}
use Rattle.std.specs.List.{list_any}
use Rattle.vz_ids.specs.declared.FrameSinkId.{FrameSinkId}
use Rattle.vz_ids.specs.Ids.{same_sink}
use Rattle.vz_frame.specs.declared.message.ClientFile.{ClientFile}
use Rattle.vz_rules.specs.Plan.{taken_from}
use Rattle.vz_rules.proofs.Facts.{or_true, or_false}

-- the sinks of files, the last file's first
abbrev pub sinks_before : List ClientFile → List FrameSinkId
sinks_before files = reverse (map (λ (f : ClientFile). f.sink) files)

or_comm : (a b : Bool) → (a || b) ≡ (b || a)
or_comm a true = or_true a
or_comm a false = or_false a

-- a test of some element of a list, the order being turned
pub any_before : {A B : Type 0} (p : B → Bool) (f : A → B) (xs : List A) → list_any p (reverse (map f xs)) ≡ list_any (λ x. p (f x)) xs
any_before p f [] = refl
any_before p f (x ∷ xs) =
    ap (list_any p) (reverse-append (f x ∷ []) (map f xs)) ∙ (list_any-append p (reverse (map f xs)) (f x ∷ [])
    ∙ (or_comm (list_any p (reverse (map f xs))) (p (f x) || false) ∙ (ap (λ t. (p (f x) || false) || t) (any_before p f xs) ∙ ap (λ t. t || list_any (λ y. p (f y)) xs) (or_false (p (f x))))))

-- one place further
pub taken_step : (files : List ClientFile) (n : ℕ) (f : ClientFile) → n < length files → f ≡ get_or files n f
    → taken_from (sinks_before (take n files)) n (drop n files)
    ≡ cond (list_any (λ (g : ClientFile). same_sink f.sink g.sink) (take n files)) (Some n) (taken_from (sinks_before (take (n + 1) files)) (n + 1) (drop (n + 1) files))
taken_step files n f h at =
    let s = sinks_before (take n files) in
    let rest = drop (n + 1) files in
    let front : drop n files ≡ f ∷ rest = rw (drop-cons files n f h, ← at, add-one) refl in
    let more : take (n + 1) files ≡ take n files ++ f ∷ [] = (take_at_read files n f h).1 ∙ ap (λ (x : ClientFile). take n files ++ x ∷ []) (sym at) in
    ap (taken_from s n) front
    ∙ (ap (λ (t : Bool). cond t (Some n) (taken_from (f.sink ∷ s) (n + 1) rest)) (any_before (same_sink f.sink) (λ (g : ClientFile). g.sink) (take n files))
    ∙ ap (λ (xs : List FrameSinkId). cond (list_any (λ (g : ClientFile). same_sink f.sink g.sink) (take n files)) (Some n) (taken_from xs (n + 1) rest)) (sym (ap sinks_before more ∙ sinks_after (take n files) f)))
  where
    sinks_after : (xs : List ClientFile) (g : ClientFile) → sinks_before (xs ++ g ∷ []) ≡ g.sink ∷ sinks_before xs
    sinks_after xs g = ap reverse (map-append (λ (f : ClientFile). f.sink) xs (g ∷ [])) ∙ reverse-append (map (λ (f : ClientFile). f.sink) xs) (g.sink ∷ [])
