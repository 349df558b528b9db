use Rattle.std.proofs.Common.{◌∙◌, refl, ap, sym}
use Rattle.vz_buffers.specs.Canvas.{Canvas}
use Rattle.vz_geom.specs.Rectangle.{area_of}
use Rattle.vz_display.specs.Displayed.{Displayed, DisplayState, last_in, making_in, steps_for}
use Rattle.vz_display.proofs.Keeps.{damage_on, while_added, area_on, when_added, shown_is, steps_are, total_is, count_is, put_first}
use Rattle.vz_display.proofs.display.Display.show_alone.Goals as goal

pub invariant_of-self : goal.invariant_of-self
invariant_of-self g c =
    let own : Displayed = record { turns = c.self.inside.queue; kept = c.self.inside.kept.items; painted = c.self.inside.painted } in
    while_added own c.args.self.now.shown (g.P.ThinPicture.pictured c.args.p.now) c.self.inside.size c.add_damage.new.self c.next_buffer.new.kept.items c.damage.result (ap (λ (d : DisplayState). d.shown) c.self.view_is) c.size-proper.ensures.proper c.requires c.damage.ensures
    c.self.invariant c.add_damage.ensures c.next_buffer.ensures.rest

pub paint_alone-requires-clause-inside : goal.paint_alone-requires-clause-inside
paint_alone-requires-clause-inside g c =
    let own : Displayed = record { turns = c.self.inside.queue; kept = c.self.inside.kept.items; painted = c.self.inside.painted } in
    let p = g.P.ThinPicture.pictured c.args.p.now in
    let r = c.damage.result in
    let on = damage_on own c.args.self.now.shown p r (ap (λ (d : DisplayState). d.shown) c.self.view_is) c.size-proper.ensures.proper c.requires c.damage.ensures in
    area_on own p c.add_damage.new.self c.stale-area.result r c.self.invariant.0 (c.requires ∙ ap (λ (d : Displayed). d.turns.size) (sym (ap (λ (d : DisplayState). d.shown) c.self.view_is))) on c.add_damage.ensures c.stale-area.ensures

pub invariant_of-self-in_err-paint_alone : goal.invariant_of-self-in_err-paint_alone
invariant_of-self-in_err-paint_alone g c =
    let own : Displayed = record { turns = c.self.inside.queue; kept = c.self.inside.kept.items; painted = c.self.inside.painted } in
    while_added own c.args.self.now.shown (g.P.ThinPicture.pictured c.args.p.now) c.self.inside.size c.add_damage.new.self c.next_buffer.new.kept.items c.damage.result (ap (λ (d : DisplayState). d.shown) c.self.view_is) c.size-proper.ensures.proper c.requires c.damage.ensures
    c.self.invariant c.add_damage.ensures c.next_buffer.ensures.rest

pub invariant_of-self-in_err-shown : goal.invariant_of-self-in_err-shown
invariant_of-self-in_err-shown g c =
    let own : Displayed = record { turns = c.self.inside.queue; kept = c.self.inside.kept.items; painted = c.self.inside.painted } in
    while_added own c.args.self.now.shown (g.P.ThinPicture.pictured c.args.p.now) c.self.inside.size c.add_damage.new.self c.next_buffer.new.kept.items c.damage.result (ap (λ (d : DisplayState). d.shown) c.self.view_is) c.size-proper.ensures.proper c.requires c.damage.ensures
    c.self.invariant c.add_damage.ensures c.next_buffer.ensures.rest

pub invariant_of-self-2 : goal.invariant_of-self-2
invariant_of-self-2 g c =
    let own : Displayed = record { turns = c.self.inside.queue; kept = c.self.inside.kept.items; painted = c.self.inside.painted } in
    let fits = ap (λ (b : Canvas). b.size) c.in_ok-shown.ensures ∙ (c.in_ok-paint_alone.ensures.size ∙ c.in_ok-buffer.ensures.size) in
    when_added own c.args.self.now.shown (g.P.ThinPicture.pictured c.args.p.now) c.self.inside.size c.add_damage.new.self c.painted.new.self c.insert.new.self.items c.in_ok-shown.shown c.damage.result c.saturating_add-self-inside.result (ap (λ (d : DisplayState). d.shown) c.self.view_is)
    c.size-proper.ensures.proper c.requires c.damage.ensures c.self.invariant c.add_damage.ensures c.painted.ensures
    fits (put_first own c.next_buffer.new.kept.items c.insert.new.self.items c.in_ok-shown.shown c.insert.ensures.items c.next_buffer.ensures.rest)

pub returns-clause-shown : goal.returns-clause-shown
returns-clause-shown g c =
    let own : Displayed = record { turns = c.self.inside.queue; kept = c.self.inside.kept.items; painted = c.self.inside.painted } in
    let p = g.P.ThinPicture.pictured c.args.p.now in
    let steps = steps_are own own p c.self.inside.size c.damage.result c.stale-area.result c.add_damage.new.self refl c.self.invariant.1 c.damage.ensures c.add_damage.ensures c.stale-area.ensures in
    shown_is own c.args.self.now.shown p c.self.inside.size c.damage.result c.stale-area.result c.add_damage.new.self c.painted.new.self c.in_ok-buffer.buffer c.in_ok-shown.shown c.insert.new.self.items c.saturating_add-self-inside.result
    (ap (λ (d : DisplayState). d.shown) c.self.view_is) c.requires c.self.invariant.1 c.damage.ensures c.add_damage.ensures c.stale-area.ensures c.in_ok-buffer.ensures.size c.in_ok-buffer.ensures.pixels (ap (λ (b : Canvas). b.size) c.in_ok-shown.ensures ∙ c.in_ok-paint_alone.ensures.size)
    (ap (λ (b : Canvas). b.pixels) c.in_ok-shown.ensures ∙ c.in_ok-paint_alone.ensures.painted) c.painted.ensures (put_first own c.next_buffer.new.kept.items c.insert.new.self.items c.in_ok-shown.shown c.insert.ensures.items c.next_buffer.ensures.rest)
    (total_is own p c.in_ok-buffer.made c.area.result (making_in c.self.inside.size (last_in own.kept)) (area_of c.stale-area.result) c.saturating_add.result c.saturating_add-self-inside.result
    c.in_ok-buffer.ensures.made c.area.ensures steps c.saturating_add.ensures c.saturating_add-self-inside.ensures)

pub returns-clause-counted : goal.returns-clause-counted
returns-clause-counted g c =
    let own : Displayed = record { turns = c.self.inside.queue; kept = c.self.inside.kept.items; painted = c.self.inside.painted } in
    let p = g.P.ThinPicture.pictured c.args.p.now in
    let steps = steps_are own c.args.self.now.shown p c.self.inside.size c.damage.result c.stale-area.result c.add_damage.new.self (ap (λ (d : DisplayState). d.shown) c.self.view_is) c.self.invariant.1 c.damage.ensures c.add_damage.ensures c.stale-area.ensures in
    count_is c.args.steps.now c.next_buffer.new.steps c.paint_alone.new.steps (steps_for c.args.self.now.shown p.changed) (making_in c.self.inside.size (last_in own.kept)) (area_of c.stale-area.result) c.in_ok-buffer.ensures.counted c.in_ok-paint_alone.ensures.counted steps
