-- What a submission asks of the surfaces: the last one of its client, and whether something of a group was ever active.
use Rattle.std.proofs.Common.{◌≡◌, ℕ, Bool, ◌&&◌, ◌||◌, Option, refl, ap, sym, ◌∙◌, arith}
use Rattle.std.specs.{Option.option_map, List.list_any}
use Rattle.vz_ids.specs.{declared.LocalSurfaceId.LocalSurfaceId, declared.SurfaceId.SurfaceId, Ids.same_sink, Ids.at_least}
use Rattle.vz_frame.specs.{declared.frame.CompositorFrame.CompositorFrame, Frame.frame_size}
use Rattle.vz_rules.specs.World.{World, Client, Surface, Submission, last_created}
use Rattle.vz_rules.specs.{Messages.violates, Messages.is_last, Messages.has_other_size, Settle.is_met}
use Rattle.vz_rules.proofs.Members.{any_map}
use Rattle.vz_surfaces.specs.{Stored.stored_of, Stored.bare_sub, Reading.last_of, Reading.was_reached}
use Rattle.vz_surfaces.proofs.Telling.{tells_last}
use Rattle.vz_surface_manager.specs.Live.{Live, AreLive}
use Rattle.vz_surface_manager.specs.Last_surface.{NameAndSize, name_and_size, violates_named, is_last_named, has_other_size_named}
use Rattle.std.proofs.lemmas.Bool.Decides.{nat_tests}

-- a surface that may be there, by its local id and its size
abbrev pub read_of : Option Surface → Option NameAndSize
read_of o = option_map {U = NameAndSize} name_and_size o

-- the last surface of a client is that of the state
pub last_asked : (w : World) (but : Option SurfaceId) (v : Live) (client : ℕ) (r : Option NameAndSize) → AreLive w but v
    → r ≡ last_of client v.store → r ≡ read_of (last_created w client)
last_asked w but v client r h e = e ∙ (ap (last_of client) h.store ∙ tells_last w client)

-- a submission was active on a surface of this one's group, at it or newer
abbrev pub has_reached : SurfaceId → Submission → Bool
has_reached d s = s.was_active && at_least s.submitted.id d

reached_then : (w : World) (d : SurfaceId) → was_reached (stored_of w) d ≡ list_any (has_reached d) w.subs
unfolding was_reached stored_of
reached_then w d = any_map bare_sub (has_reached d) (has_reached d) w.subs (λ x. refl)

-- what was ever active is that of the state
pub active_asked : (w : World) (but : Option SurfaceId) (v : Live) (d : SurfaceId) (r : Bool) → AreLive w but v
    → r ≡ was_reached v.store d → r ≡ list_any (has_reached d) w.subs
active_asked w but v d r h e = e ∙ (ap (λ st. was_reached st d) h.store ∙ reached_then w d)

-- a dependency is met where something of its group was active, or its client is closed
pub met_asked : (w : World) (d : SurfaceId) (active gone : Bool) → active ≡ list_any (has_reached d) w.subs
    → gone ≡ list_any (λ (x : Client). x.closed && same_sink x.sink d.sink) w.clients → (active || gone) ≡ is_met w d
unfolding is_met
met_asked w d active gone e f = λ i. e i || f i

-- What the refusal of a submission asks of the last surface is told by its local id and its size

violates_read : (o : Option Surface) (local : LocalSurfaceId) → violates o local ≡ violates_named (read_of o) local
violates_read o local = grind (arith, nat_tests)

pub violates_asked : (o : Option Surface) (r : Option NameAndSize) (local : LocalSurfaceId) → r ≡ read_of o
    → violates o local ≡ violates_named r local
violates_asked o r local e = violates_read o local ∙ ap (λ q. violates_named q local) (sym e)

is_last_read : (o : Option Surface) (local : LocalSurfaceId) → is_last o local ≡ is_last_named (read_of o) local
is_last_read o local = grind (arith, nat_tests)

pub is_last_asked : (o : Option Surface) (r : Option NameAndSize) (local : LocalSurfaceId) → r ≡ read_of o
    → is_last o local ≡ is_last_named r local
is_last_asked o r local e = is_last_read o local ∙ ap (λ q. is_last_named q local) (sym e)

size_read : (o : Option Surface) (local : LocalSurfaceId) (frame : CompositorFrame)
    → has_other_size o local frame ≡ has_other_size_named (read_of o) local (frame_size frame)
size_read o local frame = grind (arith, nat_tests)

pub size_asked : (o : Option Surface) (r : Option NameAndSize) (local : LocalSurfaceId) (frame : CompositorFrame)
    → r ≡ read_of o → has_other_size o local frame ≡ has_other_size_named r local (frame_size frame)
size_asked o r local frame e = size_read o local frame ∙ ap (λ q. has_other_size_named q local (frame_size frame)) (sym e)
