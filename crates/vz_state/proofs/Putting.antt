-- The place at which a resource of an id is put.
use Rattle.std.proofs.Common.{◌≡◌, ℕ, ◌+◌, ◌<◌, Bool, true, ◌==◌, nat_lt, List, ◌∷◌, ◌++◌, take, drop, length, get_or, set, sym, ap, ◌∙◌, if◌then◌else◌}
use Rattle.std.proofs.lemmas.List.{drop_more, take-append-drop, take-set, drop-set}
use Rattle.vz_pixels.specs.Block.{Block}
use Rattle.vz_rules.specs.World.{Resource}
use Rattle.vz_rules.specs.Messages.{put_resource, new_resource}

-- the resource of the id has another block
pub put_at : (id : ℕ) (block : Block) (all : List Resource) (k : ℕ) (d s : Resource) → k < length all → ((get_or all k d).id == id) ≡ true
    → put_resource id block all ≡ take k all ++ put_resource id block (drop k all) → s ≡ record (get_or all k d) { block = block }
    → set all k s ≡ put_resource id block all
put_at id block all k d s h own same is =
    let old = get_or all k d in
    let rest = drop (k + 1) all in
    let front : drop k all ≡ old ∷ rest = drop_more all k d h in
    let here : put_resource id block (old ∷ rest) ≡ record old { block = block } ∷ rest =
    ap (λ (t : Bool). if t then record old { block = block } ∷ rest else (if nat_lt id old.id then new_resource id block ∷ old ∷ rest else old ∷ put_resource id block rest)) own in
    let written : set all k s ≡ take k all ++ s ∷ rest =
    sym (take-append-drop k (set all k s)) ∙ (ap (λ l. l ++ drop k (set all k s)) (take-set all k s) ∙ ap (λ l. take k all ++ l) (drop-set all k s h)) in
    written ∙ (ap (λ x. take k all ++ x ∷ rest) is ∙ (ap (λ l. take k all ++ l) (sym here) ∙ (ap (λ l. take k all ++ put_resource id block l) (sym front) ∙ sym same)))
