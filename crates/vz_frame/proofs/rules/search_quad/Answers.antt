use Rattle.std.proofs.Common.{sym, ap, ◌∙◌, take, not, true, false}
use Rattle.std.specs.Option.{option_copied}
use Rattle.vz_frame.specs.Checking.{shows_outside}
use Rattle.vz_frame.proofs.Tabling.{tile_none, tile_listed}
use Rattle.vz_frame.proofs.rules.search_quad.Goals as goal

-- the resource is not listed
pub returns-in-None : goal.returns-in-None
returns-in-None c =
    let none = sym c.find.ensures ∙ ap option_copied c.in-None.is in
    let earlier = take c.args.place c.args.by_id.now in
    ap (λ v. record { order = false; visible = not v; unlisted = true; outside = false; range = false; damage = false }) c.covers.ensures.value
    ∙ sym (tile_none earlier c.args.listed.now c.args.quad.now c.in-Tile.resource c.in-Tile.tx c.in-Tile.ty c.in-Tile.is none)

-- the resource is listed
pub returns-in-Some : goal.returns-in-Some
returns-in-Some c =
    let found = sym c.find.ensures ∙ ap option_copied c.in-Some.is in
    let earlier = take c.args.place c.args.by_id.now in
    ap (λ v. record { order = false; visible = not v; unlisted = false; outside = c.exceeds.result; range = false; damage = false }) c.covers.ensures.value
    ∙ ap (λ o. record { order = false; visible = shows_outside c.args.quad.now; unlisted = false; outside = o; range = false; damage = false }) c.exceeds.ensures
    ∙ sym (tile_listed earlier c.args.listed.now c.args.quad.now c.in-Tile.resource c.in-Tile.tx c.in-Tile.ty c.in-Some.listing.now c.in-Tile.is found)
