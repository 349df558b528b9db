-- The values that a ghost list has.
use Rattle.std.specs.Prelude.{List, [], ◌∷◌, ◌++◌}
use Rattle.vz_ghost.specs.declared.list.Link.{Link}
use Rattle.vz_ghost.specs.declared.list.Link.TheVariants.{Start, After'}

-- the values of a link and of the links after it, in the order in which they were shown
unfoldable pub shown : {E : Type 0} → Link E → List E
shown Start = []
shown (After' value mark before) = shown before ++ value.value ∷ []
