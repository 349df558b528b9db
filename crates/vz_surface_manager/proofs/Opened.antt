-- Before the first step.
use Rattle.std.proofs.Common.{◌≡◌, None, List, [], refl, sym, ◌∙◌, arith, sum_by}
use Rattle.vz_rules.specs.{Plan.Plan, World.opening}
use Rattle.vz_rules.proofs.Members.{contains_none}
use Rattle.vz_refs.specs.Referring.{Referring}
use Rattle.vz_surface_manager.proofs.{Sets_kept.kept_opening, Stored.told_first, Flights_kept.flown_opening}
use Rattle.vz_surfaces.specs.Stored.{Stored, nothing_stored}
use Rattle.vz_surfaces.proofs.Following.{started}
use Rattle.vz_damage.specs.Told.{Damaged}
use Rattle.vz_returns.specs.{Lent.Lent, Lent.AreLent, Owed.OwedAndRoom, Owed.AreOwed}
use Rattle.vz_surface_manager.specs.Live.{AreLive, AreWhole, wants}

none_whole : (p : Plan) → AreWhole (opening p).subs
unfolding opening
none_whole p s c = absurd (contains_none s c)

none_wanted : (p : Plan) → 0 ≡ sum_by wants (opening p).subs
unfolding opening
none_wanted p = refl

pub live_opened : (p : Plan) (store : Stored) (lent : List Lent) (owed : OwedAndRoom) (kept : Referring) (damaged : Damaged)
    → store ≡ nothing_stored → AreLent (opening p) lent → AreOwed (opening p) owed.owed → kept.sets ≡ [] → kept.temporary ≡ [] → damaged.surfaces ≡ [] → damaged.last ≡ None
    → AreLive (opening p) None (record { store = store; lent = lent; owed = owed; kept = kept; damaged = damaged; flight = None; wanted = 0 })
live_opened p store lent owed kept damaged stored is_lent is_owed sets temporary told last =
    record {
      store = stored ∙ sym (started p);
      whole = none_whole p;
      lent = is_lent;
      owed = is_owed;
      kept = kept_opening p kept sets temporary;
      told = told_first p damaged told last;
      flown = flown_opening p;
      wanted = none_wanted p;
      room = omega arith;
    }
