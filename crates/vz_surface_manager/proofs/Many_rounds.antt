-- Settling, while rounds follow one another.
use Rattle.std.proofs.Common.{◌≡◌, ℕ, suc, ◌+◌, ◌≤◌, Option, List, [], ◌++◌, length, map, drop, ap, sym}
use Rattle.std.proofs.Common.{◌∙◌, subst, arith}
use Rattle.std.proofs.{lemmas.List.length-map, lemmas.Bool.Decides.nat_tests, lemmas.Grind.common_steps}
use Rattle.vz_ids.specs.{declared.SurfaceId.SurfaceId, declared.Sub.Sub}
use Rattle.vz_rules.specs.World.{World, Submission, is_waiting, sub_of}
use Rattle.vz_rules.specs.Settle.{ready, round, rounds, activated_over, settle, activated_in}
use Rattle.vz_rules.proofs.Kept_follows.{always_round}
use Rattle.vz_surface_manager.specs.{Waits.Waits, Waits.AreWaiting, Live.Live, Live.AreLive}
use Rattle.vz_surface_manager.proofs.{Waits_on.as_many, One_round.surface_of}
use Rattle.vz_surface_manager.specs.{declared.surface_manager.SurfaceManager.SurfaceManager, Settles.AreSettling, Settles.IsRound, Settles.IsToSettle}
use Rattle.vz_surface_manager.proofs.Rounded.{round_after, activated_after, settled, all_activated, waiting, fewer_wait, ready_or_not, behind}
use Rattle.vz_surface_manager.proofs.Rounded.{both_long, none_long}

-- so many rounds are over, and those that are ready now stand at the end
pub record IsSettlingOn (w : World) (but : Option SurfaceId) (v : SurfaceManager) (from : ℕ) (activated : List Sub)
    (ids : List SurfaceId) : Type 0 where
  pub over : ℕ
  pub stands : AreSettling (rounds over w) but v
  pub told : activated ≡ activated_over over w ++ map sub_of (ready (rounds over w))
  pub begun : from ≡ length (activated_over over w)
  pub beside : from ≡ length ids
  pub fewer : waiting (rounds over w) + from ≡ waiting w

pub begins : (w : World) (but : Option SurfaceId) (v : SurfaceManager) (activated : List Sub) (ids : List SurfaceId) → ids ≡ []
    → IsToSettle w but v activated
    → IsSettlingOn w but v 0 activated ids
unfolding rounds activated_over
begins w but v activated ids none h = grind (arith, nat_tests)

-- as many are blocked as wait and are not ready
blocked_are : (w : World) (a : Waits) → AreWaiting w a → length (ready w) + length a.blocked ≡ waiting w
blocked_are w a h = grind (arith, nat_tests, as_many w a h, length-map, ready_or_not w)

named : (w : World) (subs : List Sub) → subs ≡ map sub_of (ready w) → length subs ≡ length (ready w)
named w subs e = ap length e ∙ length-map (ready w) (λ (s : Submission). sub_of s)

pub all_wait : (w : World) (but : Option SurfaceId) (v : SurfaceManager) (activated : List Sub) → IsToSettle w but v activated
    → length activated + length v.waiting.blocked ≡ waiting w
all_wait w but v activated h = omega (arith, named w activated h.ready, blocked_are w v.waiting h.stands.waiting)

module _ (w : World) (but : Option SurfaceId) (v : SurfaceManager) (from : ℕ) (activated : List Sub) (ids : List SurfaceId)
    (h : IsSettlingOn w but v from activated ids) where
  abbrev now : World
  now = rounds h.over w

  abbrev pub round_subs : List Sub
  round_subs = drop from activated

  are_ready : round_subs ≡ map sub_of (ready now)
  are_ready = behind activated (activated_over h.over w) (map sub_of (ready now)) from h.told h.begun

  -- a round begins
  pub begins_round : (subs : List Sub) → subs ≡ round_subs → IsRound now but subs v.live
  begins_round subs e = record { always = h.stands.always; live = h.stands.live; ready = e ∙ are_ready }

  pub so_long : length activated ≡ from + length round_subs
  so_long = grind (arith, nat_tests, both_long (activated_over h.over w), are_ready)

  pub within : (more : List SurfaceId) → more ≡ ids ++ map surface_of (ready now) → from ≤ length more
  within more e = omega (arith, ap length e, both_long ids (map surface_of (ready now)), h.beside)

  -- there is room for its surfaces
  pub fits : (all spare : ℕ) → waiting w ≤ all → all ≡ spare + from → length round_subs ≤ spare
  fits all spare few e = omega (arith, named now round_subs are_ready, fewer_wait now, h.fewer, few, e)

  -- what follows in the next round is told of the surfaces of this one
  pub beside_now : (more : List SurfaceId) → more ≡ ids ++ map surface_of (ready now) → drop from more ≡ map surface_of (ready now)
  beside_now more e = behind more ids (map surface_of (ready now)) from e h.beside

  pub goes_on : (live : Live) (waits : Waits) (more : List SurfaceId) (told : List Sub) → AreLive (round now) but live
      → AreWaiting (round now) waits
      → more ≡ ids ++ map surface_of (ready now) → told ≡ activated ++ map sub_of (ready (round now))
      → IsSettlingOn w but (record { live = live; waiting = waits }) (length activated) told more
  goes_on live waits more told is_live is_waiting put more_told =
      let after : rounds (suc h.over) w ≡ round now = round_after h.over w in
      let listed : activated ≡ activated_over (suc h.over) w = h.told ∙ sym (activated_after h.over w) in
      record {
        over = suc h.over;
        stands = subst (λ x. AreSettling x but (record { live = live; waiting = waits })) (sym after)
            (record { always = always_round now h.stands.always; live = is_live; waiting = is_waiting });
        told = more_told ∙ (ap (λ l. l ++ map sub_of (ready (round now))) listed
            ∙ ap (λ x. activated_over (suc h.over) w ++ map sub_of (ready x)) (sym after));
        begun = ap length listed;
        beside = omega (
          arith,
          so_long,
          named now round_subs are_ready,
          h.beside,
          ap length put,
          both_long ids
              (map surface_of (ready now)),
          length-map (ready now) surface_of,
        );
        fewer = omega (arith, so_long, named now round_subs are_ready, ap waiting after, fewer_wait now, h.fewer);
      }

  -- nothing is ready any more
  none_ready : length activated ≤ from → ready now ≡ []
  none_ready over = none_long (ready now) (omega (arith, over, so_long, named now round_subs are_ready))

  pub ends : length activated ≤ from → AreSettling (settle w) but v
  ends over = subst (λ x. AreSettling x but v) (settled h.over w (none_ready over)) h.stands

  pub ends_told : length activated ≤ from → activated ≡ activated_in w
  ends_told over = grind (arith, nat_tests, common_steps, none_ready over, all_activated h.over w (none_ready over))
