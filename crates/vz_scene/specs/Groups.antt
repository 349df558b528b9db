-- Frames by the groups of their surfaces, and the newest frame that passes a test.
use Rattle.std.specs.Prelude.{◌≡◌, ◌<◌, ◌⊎◌, ℕ, Bool, true, false, ◌&&◌, Option, Some, None, List, [], filter, length, get_or, if◌then◌else◌}
use Rattle.std.specs.List.{Contains}
use Rattle.std.specs.BTreeMap.{BTreeMap, get}
use Rattle.std.specs.declared.cmp.Ordering.{Ordering}
use Rattle.vz_ids.specs.declared.SurfaceId.{SurfaceId}
use Rattle.vz_ids.specs.declared.GroupKey.{GroupKey}
use Rattle.vz_ids.specs.contracts.GroupKeyOrd.TheImpl as group_ord
use Rattle.vz_ids.specs.Ids.{same_sink, same_group, newer, group_of}
use Rattle.vz_rules.specs.World.{FrameData}

-- the frame is on a newer surface than the other, in the same group
abbrev pub is_newer : FrameData → FrameData → Bool
is_newer i j = same_sink i.id.sink j.id.sink && newer i.id.local j.id.local

-- each frame is on a newer surface than those before it
abbrev pub IsChain : List FrameData → Type 0
IsChain xs = (m n : ℕ) (d : FrameData) → m < n → n < length xs → is_newer (get_or xs n d) (get_or xs m d) ≡ true

-- the frame passes the test, and every other frame that does is on an older surface
pub record IsNewest (test : FrameData → Bool) (xs : List FrameData) (x : FrameData) : Type 0 where
  pub there : Contains xs x
  pub passes : test x ≡ true
  pub others : (y : FrameData) → Contains xs y → test y ≡ true → (y ≡ x) ⊎ (is_newer x y ≡ true)

-- the newest frame that passes the test is found, if there is one
abbrev pub FindsNewest : (FrameData → Bool) → List FrameData → Option FrameData → Type 0
FindsNewest test xs None = (y : FrameData) → Contains xs y → test y ≡ false
FindsNewest test xs (Some x) = IsNewest test xs x

-- the order of groups, by sink and token
abbrev pub by_group : GroupKey → GroupKey → Ordering
by_group = (group_ord.ghosts).cmp

-- the frames that a map has for a key
abbrev pub frames_at : BTreeMap GroupKey (List FrameData) → GroupKey → List FrameData
frames_at m key = elim (get by_group m key) [ Some active ↦ active | None ↦ [] ]

-- the frames that a map has for the group of a surface
abbrev pub frames_in : BTreeMap GroupKey (List FrameData) → SurfaceId → List FrameData
frames_in m id = frames_at m (group_of id)

-- the map has exactly the frames of each group
abbrev pub HasGroups : BTreeMap GroupKey (List FrameData) → List FrameData → Type 0
HasGroups m active = (id : SurfaceId) → frames_in m id ≡ filter (λ (i : FrameData). same_group i.id id) active

-- the frame that was found, if it passes the test
abbrev pub that_passes : (FrameData → Bool) → Option FrameData → Option FrameData
that_passes test None = None
that_passes test (Some i) = if test i then Some i else None
