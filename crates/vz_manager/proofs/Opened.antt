-- The parts stand for the state before the first step.
use Rattle.std.proofs.Common.{◌≡◌, true, false, Option, Some, None, List, [], refl, sym, subst, ◌∙◌}
use Rattle.std.specs.Prelude.{is_some}
use Rattle.vz_geom.specs.declared.Size.{Size}
use Rattle.vz_ids.specs.declared.Sub.{Sub}
use Rattle.vz_frame.specs.declared.message.ClientFile.{ClientFile}
use Rattle.vz_rules.specs.{Plan.Plan, Plan.IsPlan, World.opening}
use Rattle.vz_rules.proofs.{Kept_first.keeps_first, Kept_planned.plan_first, Kept_sending.messages_first}
use Rattle.vz_returns.specs.Lent.{NoneReleased}
use Rattle.vz_surface_manager.specs.{Flown.Flown, Flown.AreFlown, Flown.subs_of, Live.AreLive, declared.surface_manager.SurfaceManager.SurfaceManager}
use Rattle.vz_surface_manager.specs.{Waits.AreWaiting, Settles.AreSettling}
use Rattle.vz_support.specs.Supporting.{Supported, IsSupport}
use Rattle.vz_manager.specs.Serving.{Served, Serves, CanLand}

-- before the first step no frame is drawn
none_drawn : (p : Plan) (flight : Option (List Flown)) → AreFlown (opening p) flight → is_some flight ≡ false
unfolding opening
none_drawn p None h = refl
none_drawn p (Some flown) h = let e : ◌≡◌ {A = Option (List Sub)} None (Some (subs_of flown)) = h.drawn in absurd (cc)

-- so nothing is to be ready for its end
can_land : (v : Served) → is_some v.settling.live.flight ≡ false → v.returned.list ≡ [] → v.fed.list ≡ [] → CanLand v
can_land v none no_returns no_feedback =
    record {
      none_returned = no_returns;
      none_fed = no_feedback;
      returned = λ flies. let e : false ≡ true = sym none ∙ flies in absurd (cc);
      fed = λ flies. let e : false ≡ true = sym none ∙ flies in absurd (cc);
      effects = λ flies. let e : false ≡ true = sym none ∙ flies in absurd (cc);
    }

-- the surfaces and what waits
pub settled : (p : Plan) (v : SurfaceManager) → IsPlan p → AreLive (opening p) None v.live → AreWaiting (opening p) v.waiting
    → AreSettling (opening p) None v
settled p v is lives waits = record { always = (keeps_first p is).always; live = lives; waiting = waits }

-- all parts
pub opened : (p : Plan) (v : Served) → IsPlan p → v.size ≡ p.size → IsSupport p (opening p) v.support
    → AreSettling (opening p) None v.settling → NoneReleased v.settling.live.lent → v.returned.list ≡ [] → v.fed.list ≡ []
    → Serves p (opening p) v
opened p v is sized supports settles none no_returns no_feedback =
    record {
      plan = is;
      keeps = keeps_first p is;
      of_plan = plan_first p;
      messages = messages_first p;
      size = sized;
      support = supports;
      settling = settles;
      released = none;
      lands = can_land v (none_drawn p v.settling.live.flight settles.live.flown) no_returns no_feedback;
    }

-- what is kept for the plan's clients is put in last
pub filled : (p : Plan) (u v : Served) (support : Supported) → v ≡ record u { support = support } → IsPlan p → u.size ≡ p.size
    → IsSupport p (opening p) support → AreSettling (opening p) None u.settling → NoneReleased u.settling.live.lent → u.returned.list ≡ []
    → u.fed.list ≡ [] → Serves p (opening p) v
filled p u v support put is sized supports settles none no_returns no_feedback =
    subst (λ (x : Served). Serves p (opening p) x) (sym put) (opened p (record u { support = support }) is sized supports settles none no_returns no_feedback)

-- a plan is its files and its size
pub plan_again : (p : Plan) (files : List ClientFile) (size : Size) → files ≡ p.files → size ≡ p.size → ◌≡◌ {A = Plan} (record { files = files; size = size }) p
plan_again p files size f s = λ i. record { files = f i; size = s i }
