-- Which items lie wholly behind a later one, and the list without them.
use Rattle.std.specs.Prelude.{ℕ, ◌+◌, Bool, List, take, if◌then◌else◌}
use Rattle.std.specs.List.{list_any}
use Rattle.vz_geom.specs.Rectangle.{Rectangle, covers_rect}
use Rattle.vz_flat.specs.declared.op.Op.{Op}
use Rattle.vz_occlude.specs.declared.bound.TheConstants.{MOST_OCCLUDERS}
use Rattle.vz_occlude.specs.Items.{Items, Done, Filled, Blitted, Grouped, ops_of, items_of}
use Rattle.vz_occlude.specs.Occluders.{occluders_of}

-- an item with this area stands before these ones, and one of their last occluders, up to the limit, covers all points
-- of it; an area without points is covered
abbrev pub is_occluded : Rectangle → Items → Bool
is_occluded area later = list_any (λ cover. covers_rect cover area) (take MOST_OCCLUDERS (occluders_of later))

-- the items that are not occluded by a later one of their list, with the same in each group that is kept
unfoldable pub kept_items : Items → Items
kept_items Done = Done
kept_items (Filled area c o m later) =
    if is_occluded area later then kept_items later else Filled area c o m (kept_items later)
kept_items (Blitted area block tx ty o m later) =
    if is_occluded area later then kept_items later else Blitted area block tx ty o m (kept_items later)
kept_items (Grouped area o m inner later) =
    if is_occluded area later then kept_items later else Grouped area o m (kept_items inner) (kept_items later)

-- how many items are removed, where a removed group counts once
unfoldable pub gone_items : Items → ℕ
gone_items Done = 0
gone_items (Filled area c o m later) = (if is_occluded area later then 1 else 0) + gone_items later
gone_items (Blitted area block tx ty o m later) = (if is_occluded area later then 1 else 0) + gone_items later
gone_items (Grouped area o m inner later) = (if is_occluded area later then 1 else gone_items inner) + gone_items later

-- whole operations without the removed items
unfoldable pub kept : List Op → List Op
kept ops = ops_of (kept_items (items_of ops))

-- how many items are removed of whole operations
unfoldable pub gone : List Op → ℕ
gone ops = gone_items (items_of ops)
