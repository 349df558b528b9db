-- The drawn frame is done: what hangs on surfaces stands for the state then.
use Rattle.std.proofs.Common.{◌≡◌, ◌++◌, Some, None, is_some, Option, List, [], refl, sym, ◌∙◌, subst, arith, cond, pos}
use Rattle.vz_ids.specs.declared.Sub.{Sub}
use Rattle.vz_rules.specs.declared.entry.Event.TheVariants as event
use Rattle.vz_rules.specs.declared.entry.Reply.TheVariants as reply
use Rattle.vz_rules.specs.{declared.entry.Fed.Fed, World.World, Messages.says, Ends.landed, Ends.presenting}
use Rattle.vz_rules.specs.{Step.answer_to, Step.done_answer, Returns.give_back, Returns.feed, Returns.fed_in, Returns.mark_fed, Kept.KeepsAlways}
use Rattle.vz_rules.proofs.Kept_steps.{always_answer}
use Rattle.vz_surface_manager.proofs.{Sets_kept.stays_same, Sets_kept.kept_like, Quiet_changes.quiet_given, Stored.told_stays}
use Rattle.vz_surface_manager.proofs.{Fed_kept.stays_fed, Roster_in_flight.roster_feeds, Roster_in_flight.roster_fed, Roster_in_flight.roster_feed}
use Rattle.vz_surfaces.specs.Stored.{stored_of}
use Rattle.vz_surfaces.proofs.Stores_kept as stored
use Rattle.vz_surfaces.proofs.Telling.{tells_exists}
use Rattle.vz_returns.specs.{Lent.Lent, Lent.AreLent, Owed.Owed, Owed.OwedAndRoom, Owed.AreOwed}
use Rattle.vz_returns.proofs.{Lent_kept.lent_ordered, Lent_kept.lent_fed, Owes.owes_same}
use Rattle.vz_surface_manager.specs.{Flown.Flown, Flown.AreFlown, Flown.subs_of, Live.Live, Live.AreLive, Frame_end.IsFlying, Frame_end.IsLanding}
use Rattle.vz_surface_manager.specs.Rosters.{IsRosterOf}
use Rattle.vz_surface_manager.proofs.{Flights_kept.flown_none, Quiet.live_from, Quiet.feeds_only}
use Rattle.std.proofs.lemmas.Bool.Decides.{nat_tests}

some_same : {A : Type 0} {a b : A} → Some a ≡ Some b → a ≡ b
some_same f = cc

done_by : (w : World) (o : Option (List Sub)) (drawn : List Sub) → o ≡ Some drawn
    → KeepsAlways (cond (is_some o) (says reply.Shown (record w { in_flight = None })) (says reply.Nothing w)).world
    → KeepsAlways (landed w)
done_by w o drawn e h = grind (arith, nat_tests)

-- what always holds, holds once it is done
pub always_landed : (w : World) (drawn : List Sub) → w.in_flight ≡ Some drawn → KeepsAlways w → KeepsAlways (landed w)
unfolding answer_to done_answer
always_landed w drawn e h =
    done_by w w.in_flight drawn e (always_answer (record { files = []; size = record { w = pos 1; h = pos 1 } }) w event.Done h)

stored_landed : (w : World) → stored_of (landed w) ≡ stored_of w
unfolding stored_of
stored_landed w = refl

stored_presented : (drawn : List Sub) (w : World) → stored_of (presenting drawn (landed w)).world ≡ stored_of w
stored_presented drawn w = stored.stays_fed drawn (give_back (landed w)) ∙ (stored.stays_given (landed w) ∙ stored_landed w)

pub live_presented : (w : World) (drawn : List Sub) (v : Live) (lent : List Lent) (owed : OwedAndRoom) (flight : Option (List Flown))
    → flight ≡ None → AreLive w None v
    → AreLent (give_back (landed w)) lent → AreOwed (presenting drawn (landed w)).world owed.owed
    → AreLive (presenting drawn (landed w)).world None (record v { lent = lent; owed = owed; flight = flight })
unfolding feed give_back
live_presented w drawn v lent owed flight none h is_lent is_owed =
    let given : World = give_back (landed w) in
    let done : World = (presenting drawn (landed w)).world in
    live_from w done None None v _ (mark_fed given drawn) refl (feeds_only given drawn)
    (h.store ∙ sym (stored_presented drawn w)) (lent_fed drawn given lent is_lent) is_owed
    (stays_fed drawn given None v.kept (kept_like (landed w) _ None v.kept (quiet_given (landed w))
    (stays_same w (landed w) None v.kept refl refl refl (λ n. refl) h.kept)))
    (told_stays w done v.damaged tells_exists (stored_presented drawn w) refl h.told)
    (subst (AreFlown done) (sym none) (flown_none done refl)) refl (omega arith) h

module _ (w : World) (drawn : List Sub) (v : Live) (h : IsFlying w drawn v) (flown roster : List Flown) (e : v.flight ≡ Some flown)
    (is : IsRosterOf flown roster) where
  flown_is : AreFlown w (Some flown)
  flown_is = subst (AreFlown w) e h.live.flown

  drawn_is : drawn ≡ subs_of flown
  drawn_is = some_same (sym h.flies ∙ flown_is.drawn)

  pub is_landing : IsLanding w roster v.lent
  is_landing =
      record {
        always = h.keeps.always;
        whole = h.live.whole;
        listed = λ f c. flown_is.listed flown f refl (is.only f c);
        behind = is.behind;
        lent = lent_ordered w (subs_of flown) (subs_of roster) v.lent (λ sub. sym (is.names sub))
            (subst (λ (o : Option (List Sub)). AreLent (record w { in_flight = o }) v.lent) flown_is.drawn h.live.lent);
      }

  -- the state with the roster in flight
  abbrev rostered : World
  rostered = record w { in_flight = Some (subs_of roster) }

  pub owed_rostered : AreOwed rostered v.owed.owed
  owed_rostered = grind (arith, nat_tests, owes_same, roster_feeds, flown_is)

  pub fed_drawn : (before list : List Fed) → list ≡ before ++ fed_in (subs_of roster) (landed w) → list ≡ before ++ fed_in drawn (landed w)
  fed_drawn before list f = grind (arith, nat_tests, roster_fed (landed w) flown roster is, drawn_is)

  pub owed_drawn : (f : Owed) → AreOwed (presenting (subs_of roster) (landed w)).world f → AreOwed (presenting drawn (landed w)).world f
  owed_drawn f o = grind (arith, nat_tests, roster_feed (give_back (landed w)) flown roster is, drawn_is)
