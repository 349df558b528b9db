use Rattle.std.specs.Prelude.{List, []}
use Rattle.vz_frame.specs.declared.short_list.Kept.{Kept}
use Rattle.vz_frame.specs.declared.short_list.Kept.TheVariants as kept

-- The values that a short list keeps, in order.
abbrev pub kept_values : {A : Type 0} → Kept A → List A
kept_values kept.None = []
kept_values (kept.One values) = values
kept_values (kept.Many place) = place.value.items
