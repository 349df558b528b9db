-- What is still out.
use Rattle.std.proofs.Common.{◌≡◌, List, [], ◌++◌, ap, ◌∙◌}
use Rattle.vz_ids.specs.declared.Sub.{Sub}
use Rattle.vz_rules.specs.{declared.entry.Returned.Returned, declared.entry.Rest.Rest, World.World, Log.rest_in}

-- what is appended to nothing
pub appended : {A : Type 0} (all out old more : List A) → all ≡ out → out ≡ old ++ more → old ≡ [] → all ≡ more
appended all out old more is put empty = is ∙ (put ∙ ap (λ l. l ++ more) empty)

pub rest_is : (w : World) (held : List Returned) (unfed : List Sub) → held ≡ (rest_in w).held → unfed ≡ (rest_in w).unfed
    → ◌≡◌ {A = Rest} (record { held = held; unfed = unfed }) (rest_in w)
rest_is w held unfed e f = λ i. record { held = e i; unfed = f i }
