-- The changes that were made to a store.
use Rattle.std.specs.Prelude.{List, [], ◌∷◌}
use Rattle.vz_surfaces.specs.declared.told.Told.{Told}
use Rattle.vz_surfaces.specs.declared.told.Told.TheVariants as told
use Rattle.vz_surfaces.specs.Stored.{Stored, nothing_stored, storing, activating, marking, destroying}

-- a store after a change
abbrev pub changed : Stored → Told → Stored
changed st (told.Accepted a) = storing a.client a.sink a.local a.frame a.blocks st
changed st (told.Activated sub) = activating sub st
changed st (told.MarkedAll c) = marking c st
changed st (told.Destroyed id) = destroying id st

-- a store after these changes
unfoldable pub changed_by : Stored → List Told → Stored
changed_by st [] = st
changed_by st (t ∷ ts) = changed_by (changed st t) ts

-- the store after these changes to the empty store, in their order
unfoldable pub stored : List Told → Stored
stored ts = changed_by nothing_stored ts
