-- The machine may go to another thread, since each of its parts may. The parts are told one after the other, as a search
-- through all of them at once does not end.
use denote.Param.Send.{IsSend, sendable}
use Rattle.std.proofs.Crossing.{crosses}
use Rattle.vz_pixels.specs.contracts.block.PixelBlock as PixelBlock
use Rattle.vz_frame.specs.contracts.frame.Material as Material
use Rattle.vz_frame.specs.contracts.frame.DrawQuad as DrawQuad
use Rattle.vz_frame.specs.contracts.frame.RenderPass as RenderPass
use Rattle.vz_frame.specs.contracts.frame.Metadata as Metadata
use Rattle.vz_frame.specs.contracts.frame.CompositorFrame as CompositorFrame
use Rattle.vz_frame.specs.contracts.message.Message as Message
use Rattle.vz_support.specs.contracts.client.Client as Client
use Rattle.vz_support.specs.contracts.clients.Clients as Clients
use Rattle.vz_sinks.specs.contracts.sinks.Sinks as Sinks
use Rattle.vz_support.specs.contracts.support.Support as Support
use Rattle.vz_surfaces.specs.contracts.held.Held as Held
use Rattle.vz_surfaces.specs.contracts.table.Table as Table
use Rattle.vz_surfaces.specs.contracts.waits.Waits as Waits
use Rattle.vz_surfaces.specs.contracts.owners.Owners as Owners
use Rattle.vz_surfaces.specs.contracts.groups.Groups as Groups
use Rattle.vz_surfaces.specs.contracts.standing.Standing as Standing
use Rattle.vz_surfaces.specs.contracts.store.Store as Store
use Rattle.vz_returns.specs.contracts.lenders.Lenders as Lenders
use Rattle.vz_returns.specs.contracts.pending_feedback.PendingFeedback as PendingFeedback
use Rattle.vz_refs.specs.contracts.references.References as References
use Rattle.vz_damage.specs.contracts.damage.Damage as Damage
use Rattle.vz_surface_manager.specs.contracts.roster.Roster as Roster
use Rattle.vz_surface_manager.specs.contracts.flight.Flight as Flight
use Rattle.vz_surface_manager.specs.contracts.live.LiveSurfaces as LiveSurfaces
use Rattle.vz_surface_manager.specs.contracts.waiting.Waiting as Waiting
use Rattle.vz_surface_manager.specs.contracts.surface_manager.SurfaceManager as SurfaceManager
use Rattle.vz_manager.specs.contracts.outcome.Following as Following
use Rattle.vz_manager.specs.contracts.parts.Parts as Parts
use Rattle.vz_manager.specs.contracts.manager.Manager as Manager

-- Of frames

block_send : IsSend PixelBlock.the_field.row
block_send = search (sendable, crosses) depth 100 fits 10000

material_send : IsSend Material.the_field.row
material_send = search (sendable, crosses) depth 100 fits 10000

quad_send : IsSend DrawQuad.the_field.row
quad_send = let a = material_send in search (sendable, crosses) depth 100 fits 10000

pass_send : IsSend RenderPass.the_field.row
pass_send = let a = quad_send in search (sendable, crosses) depth 100 fits 10000

metadata_send : IsSend Metadata.the_field.row
metadata_send = search (sendable, crosses) depth 100 fits 10000

frame_send : IsSend CompositorFrame.the_field.row
frame_send = let a = metadata_send in let b = pass_send in search (sendable, crosses) depth 100 fits 10000

-- Of what is kept for the clients

message_send : IsSend Message.the_field.row
message_send = let a = frame_send in let b = block_send in search (sendable, crosses) depth 100 fits 10000

client_send : IsSend Client.the_field.row
client_send = let a = message_send in let b = block_send in search (sendable, crosses) depth 100 fits 10000

clients_send : IsSend Clients.the_field.row
clients_send = let a = client_send in search (sendable, crosses) depth 30

sinks_send : IsSend Sinks.the_field.row
sinks_send = search (sendable, crosses) depth 100 fits 10000

support_send : IsSend Support.the_field.row
support_send = let a = clients_send in let b = sinks_send in search (sendable, crosses) depth 30

-- Of the store

held_send : IsSend Held.the_field.row
held_send = let a = frame_send in let b = block_send in search (sendable, crosses) depth 30

table_send : IsSend Table.the_field.row
table_send = let a = held_send in search (sendable, crosses) depth 100 fits 10000

waits_send : IsSend Waits.the_field.row
waits_send = search (sendable, crosses) depth 100 fits 10000

owners_send : IsSend Owners.the_field.row
owners_send = search (sendable, crosses) depth 100 fits 10000

groups_send : IsSend Groups.the_field.row
groups_send = search (sendable, crosses) depth 100 fits 10000

standing_send : IsSend Standing.the_field.row
standing_send = search (sendable, crosses) depth 100 fits 10000

store_send : IsSend Store.the_field.row
store_send =
    let a = table_send in
    let b = waits_send in
    let d = owners_send in
    let e = groups_send in
    let f = standing_send in
    search (sendable, crosses) depth 30

-- Of all that hangs on surfaces

lending_send : IsSend Lenders.the_field.row
lending_send = search (sendable, crosses) depth 100 fits 10000

feeding_send : IsSend PendingFeedback.the_field.row
feeding_send = search (sendable, crosses) depth 100 fits 10000

references_send : IsSend References.the_field.row
references_send = search (sendable, crosses) depth 100 fits 10000

damage_send : IsSend Damage.the_field.row
damage_send = search (sendable, crosses) depth 100 fits 10000

roster_send : IsSend Roster.the_field.row
roster_send = search (sendable, crosses) depth 100 fits 10000

flight_send : IsSend Flight.the_field.row
flight_send = search (sendable, crosses) depth 100 fits 10000

live_send : IsSend LiveSurfaces.the_field.row
live_send =
    let a = store_send in
    let b = lending_send in
    let d = feeding_send in
    let e = references_send in
    let f = damage_send in
    let h = flight_send in
    let i = roster_send in
    search (sendable, crosses) depth 30

waiting_send : IsSend Waiting.the_field.row
waiting_send = search (sendable, crosses) depth 100 fits 10000

settling_send : IsSend SurfaceManager.the_field.row
settling_send = let a = live_send in let b = waiting_send in search (sendable, crosses) depth 30

-- Of the machine

following_send : IsSend Following.the_field.row
following_send = search (sendable, crosses) depth 100 fits 10000

parts_send : IsSend Parts.the_field.row
parts_send =
    let a = support_send in
    let b = settling_send in
    let d = following_send in
    search (sendable, crosses) depth 100 fits 10000

pub manager_send : IsSend Manager.the_field.row
manager_send = let a = parts_send in search (sendable, crosses) depth 30
