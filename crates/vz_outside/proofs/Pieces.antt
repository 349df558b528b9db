-- Laws on pieces that are copied.
use Rattle.std.proofs.Common.{◌≡◌, ℕ, ◌+◌, ◌-◌, ◌≤◌, List, length, take, drop, ◌++◌, sym, ap, ◌∙◌, arith, length-drop}
use Rattle.std.proofs.lemmas.List.{take_at, take_rest, drop-drop, take-append-drop, length-take-le}

-- what was copied from the front of what is left, and the rest behind it
pub copied :
    (next count : ℕ) (bytes piece behind : List ℕ) →
    piece ≡ take count (take (length bytes - next) (drop next bytes)) → count ≤ length bytes - next →
    drop next bytes ≡ take count (piece ++ behind) ++ drop (next + count) bytes
copied next count bytes piece behind same few =
    sym
    (ap (λ (front : List ℕ). front ++ drop (next + count) bytes) (take_at piece behind count long ∙ is) ∙
    ap (λ (back : List ℕ). take count (drop next bytes) ++ back) (sym (drop-drop count next bytes)) ∙
    take-append-drop count (drop next bytes))
  where
    is : piece ≡ take count (drop next bytes)
    is = same ∙ ap (λ (left : List ℕ). take count left) (take_rest bytes next)

    long : length piece ≡ count
    long = ap length is ∙ length-take-le count (drop next bytes) (omega (arith, length-drop next bytes))
