-- Lists that are changed in place, element by element, by flags that were found before.
use Rattle.std.proofs.Common.{◌≡◌, ℕ, zero, suc, length-append, length-drop, ◌+◌, ◌-◌, ◌<◌, Bool, List, [], ◌∷◌, ◌++◌, map, take, drop, length, get_or, set, refl, sym, ap, ◌∙◌, arith, subst}
use Rattle.std.specs.List.{Contains}
use Rattle.std.proofs.lemmas.List.Elements.{Contains-get_or}
use Rattle.std.proofs.lemmas.List.Edits.{map_over_more}
use Rattle.std.proofs.lemmas.List.{get_or-map, get_or-append_right, get_or-drop, length-take-le}
use Rattle.std.proofs.lemmas.List.{length-map}

-- what was not reached yet is as it was
pub at_rest : {A : Type 0} (g : A → A) (old : List A) (k : ℕ) (d : A) → k < length old → get_or (map g (take k old) ++ drop k old) k d ≡ get_or old k d
at_rest g old k d h =
    let count : length (map g (take k old)) ≡ k = length-map (take k old) g ∙ length-take-le k old (omega arith) in
    let first : k + (k - k) ≡ k = omega arith in
    get_or-append_right (map g (take k old)) (drop k old) k k d count (omega arith) ∙ (get_or-drop k old (k - k) d ∙ ap (λ n. get_or old n d) first)

-- and so it is one of those that were there
pub member_at_rest : {A : Type 0} (g : A → A) (old ys : List A) (k : ℕ) (d : A) → k < length old → ys ≡ map g (take k old) ++ drop k old → Contains old (get_or ys k d)
member_at_rest g old ys k d h now =
    subst (Contains old) (sym (ap (λ l. get_or l k d) now ∙ at_rest g old k d h)) (Contains-get_or old k d h)

-- one element more is changed
pub changed : {A : Type 0} (g : A → A) (old ys : List A) (k : ℕ) (d y : A) → k < length old → ys ≡ map g (take k old) ++ drop k old
    → (get_or ys k d ≡ get_or old k d → y ≡ g (get_or ys k d)) → set ys k y ≡ map g (take (k + 1) old) ++ drop (k + 1) old
changed g old ys k d y h now becomes =
    let was : get_or ys k d ≡ get_or old k d = ap (λ l. get_or l k d) now ∙ at_rest g old k d h in
    let own : get_or ys k d ≡ get_or ys k (get_or ys k d) = get_or_any ys k d (rw (now, length-append (map g (take k old)) (drop k old), length-map (take k old) g, length-take-le k old (omega arith), length-drop k old) (omega arith)) in
    ap (set ys k) (becomes was) ∙ map_over_more g old ys k (get_or ys k d) h now own
  where
    get_or_any : {B : Type 0} (xs : List B) (n : ℕ) (e : B) → n < length xs → get_or xs n e ≡ get_or xs n (get_or xs n e)
    get_or_any [] n e h = absurd (omega arith)
    get_or_any (x ∷ xs) zero e h = refl
    get_or_any (x ∷ xs) (suc n) e h = get_or_any xs n e (omega arith)

-- the flag at a place is that of the element there
pub flag_at : {A : Type 0} (p : A → Bool) (old : List A) (flags : List Bool) (k : ℕ) (x d : A) (b : Bool) → k < length old → flags ≡ map p old → x ≡ get_or old k d
    → get_or flags k b ≡ p x
flag_at p old flags k x d b h are at = ap (λ l. get_or l k b) are ∙ (get_or-map p old k d b h ∙ ap p (sym at))
