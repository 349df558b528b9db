-- The active frames, one more submission.
use Rattle.std.proofs.Common.{◌≡◌, ℕ, ◌+◌, ◌<◌, Bool, true, false, List, [], ◌∷◌, ◌++◌, map, filter, take, length, get_or, refl, sym, ap, ◌∙◌, cond}
use Rattle.std.proofs.lemmas.List.{map-append}
use Rattle.std.proofs.lemmas.List.Elements.{filter-append}
use Rattle.std.proofs.lemmas.Grind.{take_at_read}
use Rattle.vz_rules.specs.World.{FrameData, Submission, is_active, active_frames}

one_active : (s : Submission) (t : Bool) → map (λ (x : Submission). x.submitted) (cond t (s ∷ []) []) ≡ cond t (s.submitted ∷ []) []
one_active s true = refl
one_active s false = refl

-- one submission more
pub active_more : (submissions : List Submission) (k : ℕ) (d : Submission) (old new : List FrameData) → k < length submissions → old ≡ active_frames (take k submissions)
    → new ≡ old ++ cond (is_active (get_or submissions k d)) ((get_or submissions k d).submitted ∷ []) [] → new ≡ active_frames (take (k + 1) submissions)
active_more submissions k d old new h was is =
    let s = get_or submissions k d in
    let apart : active_frames (take k submissions ++ s ∷ []) ≡ active_frames (take k submissions) ++ cond (is_active s) (s.submitted ∷ []) [] =
    ap (map (λ (x : Submission). x.submitted)) (filter-append is_active (take k submissions) (s ∷ []))
    ∙ (map-append (λ (x : Submission). x.submitted) (filter is_active (take k submissions)) (filter is_active (s ∷ [])) ∙ ap (λ l. active_frames (take k submissions) ++ l) (one_active s (is_active s))) in
    is ∙ (ap (λ l. l ++ cond (is_active s) (s.submitted ∷ []) []) was ∙ sym (ap active_frames (take_at_read submissions k d h).1 ∙ apart))
