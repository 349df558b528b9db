-- What follows a step's own change is that of the definitions.
use Rattle.std.proofs.Common.{◌≡◌, ◌==◌, ℕ, zero, suc, ◌+◌, ◌≤◌, Bool, true, false, not, ◌||◌, Option, None, List, [], ◌∷◌, ◌++◌}
use Rattle.std.proofs.Common.{map, length, append-nil, refl, ap, sym, ◌∙◌, subst, arith}
use Rattle.std.proofs.lemmas.Bool.{eqb-true}
use Rattle.std.specs.List.{flat_map}
use Rattle.vz_base.specs.declared.limits.TheConstants.{MOST_FILES, TEMPORARY_TICKS}
use Rattle.vz_ids.specs.{declared.SurfaceId.SurfaceId, declared.Sub.Sub}
use Rattle.vz_rules.specs.{declared.entry.Effects.Effects, declared.entry.Lost.Lost, declared.entry.Reply.Reply, Messages.says, Step.outcome_of}
use Rattle.vz_rules.specs.{World.World, World.Submission, World.sub_of, Returns.give_back, Returns.returned_in, Returns.feed, Returns.fed_in}
use Rattle.vz_rules.specs.Settle.{ready, round, rounds, settle, activated_in}
use Rattle.vz_rules.specs.Reach.{naming, lost_in, lost_of, clearing, collect, destroyed_in}
use Rattle.vz_rules.proofs.{Kept_quiet.settle_stays, Kept_quiet.destroyed_none, Kept_collected.clearing_stays, Kept_follows.always_naming}
use Rattle.vz_surface_manager.specs.{declared.surface_manager.SurfaceManager.SurfaceManager, Settles.AreSettling, Collects.IsToCollect}
use Rattle.vz_surface_manager.proofs.{Rounded.none_long, Named_kept.named_again, Quiet.live_named, Waits_kept.stay_named}
use Rattle.vz_manager.specs.{declared.outcome.Following.Following, declared.outcome.New.New}
use Rattle.vz_manager.specs.Followed.{IsFollowed, IsKeeping, IsAsked, Tells, new_id}

rounds_clients : (n : ℕ) (w : World) → (rounds n w).clients ≡ w.clients
unfolding rounds round
rounds_clients zero w = refl
rounds_clients (suc n) w = rounds_clients n (round w)

-- no client comes or goes as the state settles and names are noted
pub named_clients : (w : World) → (naming (settle w)).clients ≡ w.clients
unfolding naming settle
named_clients w = rounds_clients (length w.subs) w

rounds_root : (n : ℕ) (w : World) → (rounds n w).root ≡ w.root
unfolding rounds round
rounds_root zero w = refl
rounds_root (suc n) w = rounds_root n (round w)

pub named_root : (w : World) → (naming (settle w)).root ≡ w.root
unfolding naming settle
named_root w = rounds_root (length w.subs) w

rounds_tick : (n : ℕ) (w : World) → (rounds n w).tick ≡ w.tick
unfolding rounds round
rounds_tick zero w = refl
rounds_tick (suc n) w = rounds_tick n (round w)

pub named_tick : (w : World) → (naming (settle w)).tick ≡ w.tick
unfolding naming settle
named_tick w = rounds_tick (length w.subs) w

pub destroyed_named : (w : World) → destroyed_in (naming w) ≡ destroyed_in w
unfolding destroyed_in naming
destroyed_named w = ap (λ (x : World). flat_map (lost_of (lost_in x)) w.clients) (named_again w)

pub collect_is : (w : World) → collect w ≡ clearing (naming w)
unfolding collect
collect_is w = refl

-- what follows, by its parts
pub outcome_world : (w : World) (r : Reply) → (outcome_of [] (says r w)).world ≡ feed [] (give_back (collect (settle w)))
unfolding outcome_of
outcome_world w r = refl

pub effects_are : (w : World) (r : Reply) → (outcome_of [] (says r w)).effects
    ≡ record {
      activated = activated_in w;
      destroyed = destroyed_in (settle w);
      returned = returned_in (collect (settle w));
      fed = fed_in [] (give_back (collect (settle w)));
    }
unfolding outcome_of
effects_are w r = refl

none_here : (l : List Sub) (t : Bool) → (length l == 0) ≡ t → not t ≡ false → l ≡ []
none_here l true e f = none_long l (omega (arith, eqb-true (length l) 0 e))
none_here l false e f = absurd (cc)

-- nothing was marked, named or shown anew, and nothing is ready
none_anew : (anew : Bool) (l : List Sub) → (anew || not (length l == 0)) ≡ false → (anew ≡ false) × (l ≡ [])
none_anew true l e = absurd (cc)
none_anew false l e = (refl, none_here l (length l == 0) refl e)

none_named : (l : List Submission) → [] ≡ map sub_of l → l ≡ []
none_named [] e = refl
none_named (s ∷ l) e = absurd (cc)

-- the state has settled, and the new surface, if there is one, is kept
pub record HasKept (w : World) (root : Option SurfaceId) (new : Option New) (anew : Bool) (v v1 v2 : SurfaceManager) (f : Following) : Type 0 where
  pub follows : IsFollowed w root new anew v f
  pub settled : AreSettling (settle w) (new_id new) v1
  pub keeps : (u : World) → IsKeeping u new v1 → AreSettling u None v2

module _ (w : World) (root : Option SurfaceId) (new : Option New) (anew : Bool) (v v1 v2 : SurfaceManager) (f : Following)
    (h : HasKept w root new anew v v1 v2 f) where
  kept_in : AreSettling (naming (settle w)) None v2
  kept_in =
      h.keeps (naming (settle w))
      (record {
        stands = record {
          always = always_naming (settle w) h.settled.always;
          live = live_named (settle w) (new_id new) v1.live h.settled.live;
          waiting = stay_named (settle w) v1.waiting h.settled.waiting;
        };
        is = λ n e. let x = h.follows.is n e in (x.0, x.1, x.2 ∙ ap (λ t. t + TEMPORARY_TICKS) (sym (named_tick w)));
      })

  collects_in : IsToCollect (naming (settle w)) root v2
  collects_in =
      record {
        stands = kept_in;
        named = named_again (settle w);
        is_root = h.follows.of_root ∙ sym (named_root w);
        few = subst (λ cs. length cs ≤ MOST_FILES) (sym (named_clients w)) h.follows.few;
      }

  -- it is asked wherever something is lost
  pub asks_in : (asked : Bool) (ready_now : List Sub) → asked ≡ (anew || not (length ready_now == 0)) → ready_now ≡ f.activated.list
      → IsAsked (naming (settle w)) root asked v2
  asks_in asked ready_now is now =
      record {
        collects = collects_in;
        unlost = λ e.
            let quiet = none_anew anew ready_now (sym is ∙ e) in
            let rises_not = none_named (ready w) (sym quiet.1 ∙ (now ∙ h.follows.settles.ready)) in
            ap (λ u. lost_in (naming u)) (settle_stays w rises_not) ∙ h.follows.unlost quiet.0;
      }

-- Where no collection is asked

module _ (w : World) (root : Option SurfaceId) (asked : Bool) (v : SurfaceManager) (h : IsAsked w root asked v) (e : asked ≡ false) where
  pub stays_uncollected : AreSettling (clearing w) None v
  stays_uncollected = subst (λ u. AreSettling u None v) (sym (clearing_stays w (h.unlost e))) h.collects.stands

  pub none_told : (old : List Lost) → old ≡ old ++ destroyed_in w
  none_told old = sym (append-nil old) ∙ ap (λ l. old ++ l) (sym (destroyed_none w h.collects.named (h.unlost e)))

-- one list of effects is told
pub tells_one : (e g : Effects) (f : Following) → Tells e f → Tells g f → e ≡ g
tells_one e g f told is =
    λ i. record {
      activated = (told.activated ∙ sym is.activated) i;
      destroyed = (told.destroyed ∙ sym is.destroyed) i;
      returned = (told.returned ∙ sym is.returned) i;
      fed = (told.fed ∙ sym is.fed) i;
    }
