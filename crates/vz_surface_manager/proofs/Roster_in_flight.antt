-- A roster stands for what is in flight: what is held and what is fed is asked by name alone.
use Rattle.std.proofs.Common.{◌≡◌, Bool, true, not, ◌&&◌, Option, Some, None, List, ap, if◌then◌else◌, arith}
use Rattle.std.specs.List.{filter_map}
use Rattle.vz_ids.specs.declared.Sub.{Sub}
use Rattle.vz_rules.specs.{declared.entry.Fed.Fed, Returns.holds, Returns.feedback_of, Returns.feed, Returns.fed_in}
use Rattle.vz_rules.specs.World.{World, Submission, is_ended, is_in_flight, has_sub, sub_of}
use Rattle.vz_surface_manager.specs.{Flown.Flown, Flown.AreFlown, Flown.subs_of, Rosters.IsRosterOf}
use Rattle.vz_surface_manager.proofs.Flights_kept.{flown_names}
use Rattle.std.proofs.lemmas.Bool.Decides.{nat_tests}

module _ (w : World) (flown roster : List Flown) (h : AreFlown w (Some flown)) (is : IsRosterOf flown roster) where
  -- the state with the roster in flight
  abbrev rostered : World
  rostered = record w { in_flight = Some (subs_of roster) }

  pub roster_holds : (s : Submission) → holds rostered s ≡ holds w s
  roster_holds s = grind (arith, nat_tests, flown_names w flown roster (sub_of s) h is)

  pub roster_feeds : (presented : List Sub) (s : Submission) → feedback_of rostered presented s ≡ feedback_of w presented s
  roster_feeds presented s = grind (arith, nat_tests, flown_names w flown roster (sub_of s) h is)

-- what a submission gets, where those of these names are presented
abbrev gets_by : World → (Sub → Bool) → Submission → Option Fed
gets_by w named s =
    if s.fed then None
    else (if named (sub_of s) then Some (record { sub = sub_of s; presented = true })
    else (if is_ended s && not (is_in_flight w.in_flight (sub_of s)) then Some (record { sub = sub_of s; presented = Bool.false })
    else None))

same_names : (flown roster : List Flown) → IsRosterOf flown roster → has_sub (subs_of roster) ≡ has_sub (subs_of flown)
same_names flown roster is = λ i sub. is.names sub i

pub roster_fed : (w : World) (flown roster : List Flown) → IsRosterOf flown roster → fed_in (subs_of roster) w ≡ fed_in (subs_of flown) w
unfolding fed_in
roster_fed w flown roster is = ap (λ (g : Sub → Bool). filter_map (gets_by w g) w.subs) (same_names flown roster is)

pub roster_feed : (w : World) (flown roster : List Flown) → IsRosterOf flown roster → feed (subs_of roster) w ≡ feed (subs_of flown) w
unfolding feed
roster_feed w flown roster is = grind (arith, nat_tests, same_names flown roster is)
