-- Lines of entries without effects.
use Rattle.std.proofs.Common.{◌≡◌, ℕ, List, [], ◌∷◌, ◌++◌, ap, sym, ◌∙◌, append_assoc}
use Rattle.vz_rules.specs.declared.entry.Effects.{Effects}
use Rattle.vz_rules.specs.Kept.{no_effects}
use Rattle.vz_rules.specs.Log.{effects_text}

-- without effects nothing stands between the reply and the end of the line
pub plain_line : (text event reply : List ℕ) (effects : Effects) → effects ≡ no_effects
    → (text ++ event) ++ (32 ∷ reply ++ 10 ∷ []) ≡ text ++ (event ++ 32 ∷ reply ++ effects_text effects ++ 10 ∷ [])
unfolding effects_text
plain_line text event reply effects none =
    let line : Effects → List ℕ = λ e. text ++ (event ++ 32 ∷ reply ++ effects_text e ++ 10 ∷ []) in
    let plain : (text ++ event) ++ (32 ∷ reply ++ 10 ∷ []) ≡ line no_effects = simp append_assoc in
    plain ∙ sym (ap line none)
