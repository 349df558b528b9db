-- What is known of damages, with one more.
use Rattle.std.proofs.Common.{◌≡◌, refl, Bool, true, false, ◌&&◌, ◌==◌, cond, Option, Some, List, sym, ap, ◌∙◌, subst, IfSome, arith}
use Rattle.std.specs.{BTreeMap.BTreeMap, BTreeMap.get, Ordering.is_eq}
use Rattle.vz_geom.specs.Rectangle.{Rectangle}
use Rattle.vz_ids.specs.Ids.{same_surface}
use Rattle.vz_rules.specs.{World.FrameData, World.Aggregation, Damage.damage_since}
use Rattle.vz_placement.specs.Limits.{IsInReach}
use Rattle.vz_scene.specs.{declared.key.FrameKey.FrameKey, Order.by_frame, Order.frame_key, Order.AreDamages}
use Rattle.vz_ids.proofs.Ages.{both, eq_is}
use Rattle.vz_scene.proofs.Ties.{frame_ties}
use Rattle.vz_rules.proofs.Reached.{from_same as one_surface}
use Rattle.std.proofs.lemmas.Bool.Decides.{nat_tests}

-- the damage depends on the surface and the number alone
same_damage : (a : Aggregation) (accepted : List FrameData) (i j : FrameData) → i.id ≡ j.id → i.index ≡ j.index → damage_since a accepted i ≡ damage_since a accepted j
unfolding damage_since
same_damage a accepted i j e f = grind (arith, nat_tests)

-- one damage more is known
pub damage_more : (a : Aggregation) (accepted : List FrameData) (old new : BTreeMap FrameKey Rectangle) (submitted : FrameData) (key : FrameKey) (damage : Rectangle) → key ≡ frame_key submitted
    → ((q : FrameKey) → get by_frame new q ≡ cond (is_eq (by_frame key q)) (Some damage) (get by_frame old q)) → damage ≡ damage_since a accepted submitted → IsInReach damage → AreDamages a accepted old → AreDamages a accepted new
damage_more a accepted old new submitted key damage is put found reach known i = subst OfImage (sym (put (frame_key i))) (by (is_eq (by_frame key (frame_key i))) refl)
  where
    OfImage : Option Rectangle → Type 0
    OfImage o = IfSome o (λ (r : Rectangle). (r ≡ damage_since a accepted i) × IsInReach r)

    by : (t : Bool) → is_eq (by_frame key (frame_key i)) ≡ t → OfImage (cond t (Some damage) (get by_frame old (frame_key i)))
    by true e =
        let tied : (same_surface submitted.id i.id && (submitted.index == i.index)) ≡ true = sym (frame_ties submitted i) ∙ (ap (λ (k : FrameKey). is_eq (by_frame k (frame_key i))) (sym is) ∙ e) in
        let x = both (same_surface submitted.id i.id) (submitted.index == i.index) tied in
        (found ∙ same_damage a accepted submitted i (one_surface submitted.id i.id x.0) (eq_is _ _ x.1), reach)
    by false e = known i
