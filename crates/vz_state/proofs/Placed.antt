-- A vector whose elements were changed in place.
use Rattle.std.proofs.Common.{◌≡◌, List, length, map, ◌∙◌, ap}
use Rattle.std.proofs.Common.{Vec}
use Rattle.std.proofs.lemmas.List.{with_items_is}
use Rattle.std.specs.Vec.{with_items}

-- where each was changed, these are its elements now
pub placed_map : {X Z : Type 0} (v : Vec X Z) (g : X → X) (old ws : List X) → length ws ≡ length old → length old ≡ v.len → old ≡ v.items → ws ≡ map g old → (with_items v ws).items ≡ map g v.items
placed_map v g old ws h e was is = with_items_is v ws (h ∙ e) ∙ (is ∙ ap (map g) was)

-- where there are as many as before, these are its elements now
pub placed : {X Z : Type 0} (v : Vec X Z) (old ws : List X) → length ws ≡ length old → length old ≡ v.len → (with_items v ws).items ≡ ws
placed v old ws h e = with_items_is v ws (h ∙ e)
