use Rattle.vz_surface_manager.proofs.Roster_in_flight.{roster_holds, roster_feeds, roster_fed, roster_feed}
use Rattle.vz_surface_manager.proofs.flight_laws.rosters_stand.Goals as goal

pub returns-clause-holds : goal.returns-clause-holds
returns-clause-holds c w flown roster s h is = roster_holds w flown roster h is s

pub returns-clause-gets : goal.returns-clause-gets
returns-clause-gets c w flown roster presented s h is = roster_feeds w flown roster h is presented s

pub returns-clause-fed : goal.returns-clause-fed
returns-clause-fed c = roster_fed

pub returns-clause-feed : goal.returns-clause-feed
returns-clause-feed c = roster_feed
