use Rattle.std.proofs.Common.{Some, List, ◌++◌, sym, subst, ◌∙◌, ap}
use Rattle.vz_ids.specs.declared.Sub.{Sub}
use Rattle.vz_rules.specs.{World.World, Ends.landed, Ends.presenting, Returns.fed_in}
use Rattle.vz_returns.proofs.Lent_kept.{lent_all_done}
use Rattle.vz_returns.specs.Owed.{AreOwed}
use Rattle.vz_surface_manager.specs.{Flown.subs_of, Frame_end.IsFlying}
use Rattle.vz_surface_manager.proofs.Landed.{always_landed, is_landing, owed_rostered, fed_drawn, owed_drawn, live_presented}
use Rattle.vz_surface_manager.proofs.live.LiveSurfaces.land.Goals as goal

pub release_each-requires : goal.release_each-requires
release_each-requires c =
    let x = c.requires.lands in
    let h = subst (IsFlying x.0 x.1) (sym c.self.view_is) x.2 in
    record {
      lands = (
        x.0,
        is_landing x.0 x.1 _ h c.in-Some.flight c.roster-roster.result.now
            (sym c.take.ensures.value ∙ c.in-Some.is) c.roster-roster.ensures,
      );
    }

pub give_back-requires-clause-stands : goal.give_back-requires-clause-stands
give_back-requires-clause-stands c =
    let x = c.requires.lands in
    let h = subst (IsFlying x.0 x.1) (sym c.self.view_is) x.2 in
    let landing = is_landing x.0 x.1 _ h c.in-Some.flight c.roster-roster.result.now
    (sym c.take.ensures.value ∙ c.in-Some.is) c.roster-roster.ensures in (
      landed x.0,
      always_landed x.0 x.1 h.flies h.keeps.always,
      lent_all_done x.0 c.release_each.new.lending (c.release_each.ensures.lent x.0 landing),
    )

pub returns-clause-live : goal.returns-clause-live
returns-clause-live c w drawn x =
    let h = subst (IsFlying w drawn) (sym c.self.view_is) x in
    let flown = c.in-Some.flight in
    let roster = c.roster-roster.result.now in
    let e = sym c.take.ensures.value ∙ c.in-Some.is in
    let landing = is_landing w drawn _ h flown roster e c.roster-roster.ensures in
    let rostered : World = record w { in_flight = Some (subs_of roster) } in
    let owed = subst (λ (l : List Sub). AreOwed (presenting l (landed w)).world c.present.new.self.owed) c.subs.ensures
    (c.present.ensures.owed rostered (owed_rostered w drawn _ h flown roster e c.roster-roster.ensures)
    (ap (λ (l : List Sub). Some l) (sym c.subs.ensures))) in
    live_presented w drawn _ c.give_back.new.self c.present.new.self c.take.new.self c.take.ensures.after h.live
    (c.give_back.ensures.lent (landed w) (always_landed w drawn h.flies h.keeps.always)
    (lent_all_done w c.release_each.new.lending (c.release_each.ensures.lent w landing)))
    (owed_drawn w drawn _ h flown roster e c.roster-roster.ensures c.present.new.self.owed owed)

pub returns-clause-returned : goal.returns-clause-returned
returns-clause-returned c w drawn x =
    let h = subst (IsFlying w drawn) (sym c.self.view_is) x in
    let landing = is_landing w drawn _ h c.in-Some.flight c.roster-roster.result.now
    (sym c.take.ensures.value ∙ c.in-Some.is) c.roster-roster.ensures in
    c.give_back.ensures.returned (landed w) (always_landed w drawn h.flies h.keeps.always)
    (lent_all_done w c.release_each.new.lending (c.release_each.ensures.lent w landing))

pub returns-clause-fed : goal.returns-clause-fed
returns-clause-fed c w drawn x =
    let h = subst (IsFlying w drawn) (sym c.self.view_is) x in
    let flown = c.in-Some.flight in
    let roster = c.roster-roster.result.now in
    let e = sym c.take.ensures.value ∙ c.in-Some.is in
    let rostered : World = record w { in_flight = Some (subs_of roster) } in
    fed_drawn w drawn _ h flown roster e c.roster-roster.ensures c.args.fed.now.list c.present.new.out.list
    (c.present.ensures.fed rostered (owed_rostered w drawn _ h flown roster e c.roster-roster.ensures)
    (ap (λ (l : List Sub). Some l) (sym c.subs.ensures))
    ∙ ap (λ (l : List Sub). c.args.fed.now.list ++ fed_in l (landed w)) c.subs.ensures)
