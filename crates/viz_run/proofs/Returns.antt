-- The number of returns of a history.
use Rattle.std.proofs.Common.{◌≡◌, ℕ, zero, suc, ◌+◌, ◌<◌, List, [], ◌∷◌, length, take, get_or, ap, ◌∙◌, arith}
use Rattle.std.proofs.lemmas.List.Sums.{sum_by-cons}
use Rattle.vz_display.specs.Displayed.{upto_most}
use Rattle.vz_rules.specs.declared.entry.Entry.{Entry}
use Rattle.viz_run.specs.Lines.{return_count}

-- of one entry more
count_next : (h : List Entry) (n : ℕ) (d : Entry) → n < length h → return_count (take (suc n) h) ≡ return_count (take n h) + length (get_or h n d).effects.returned
count_next [] n d in_range = absurd (omega arith)
count_next (e ∷ h) zero d in_range = omega (arith, sum_by-cons (λ (x : Entry). length x.effects.returned) e [])
count_next (e ∷ h) (suc n) d in_range =
    let f : Entry → ℕ = λ x. length x.effects.returned in
    let rest = count_next h n d (omega arith) in
    sum_by-cons f e (take (suc n) h) ∙ ap (λ (m : ℕ). f e + m) rest ∙ back (f e) _ _ _ (sum_by-cons f e (take n h))
  where
    back : (a b c d : ℕ) → d ≡ a + b → a + (b + c) ≡ d + c
    back a b c d is = omega (arith, is)

count_more : (h : List Entry) (n : ℕ) (d : Entry) → n < length h → return_count (take (n + 1) h) ≡ return_count (take n h) + length (get_or h n d).effects.returned
count_more h n d in_range = ap (λ (m : ℕ). return_count (take m h)) (the_next n) ∙ count_next h n d in_range
  where
    the_next : (n : ℕ) → n + 1 ≡ suc n
    the_next n = omega arith

-- a number that stands still at the greatest takes one more
pub upto_more : (h : List Entry) (n : ℕ) (d : Entry) (count next : ℕ) (e : Entry) → n < length h → e ≡ get_or h n d
    → count ≡ upto_most (return_count (take n h)) → next ≡ upto_most (count + length e.effects.returned) → next ≡ upto_most (return_count (take (n + 1) h))
upto_more h n d count next e in_range at before is =
    let more = count_more h n d in_range in
    omega (arith, more, before, is, ap (λ (x : Entry). length x.effects.returned) at)
