-- What passes answer by their ids, by the places to which their names lead.
use Rattle.std.proofs.Common.{◌≡◌, ℕ, zero, suc, ◌+◌, ◌<◌, ◌≤◌, Bool, true, false, Option, Some, None, List, [], ◌∷◌, take, length, get_or, reverse, refl, sym, ap, ◌∙◌, cond, arith}
use Rattle.std.proofs.lemmas.List.{reverse-append}
use Rattle.std.proofs.lemmas.Grind.{take_at_read}
use Rattle.std.proofs.lemmas.Option.{slice_get-get_or}
use Rattle.vz_geom.specs.declared.Point.{Point}
use Rattle.vz_geom.specs.Rectangle.{Rectangle, has, minus}
use Rattle.vz_frame.specs.declared.frame.RenderPass.{RenderPass}
use Rattle.vz_frame.specs.declared.frame.DrawQuad.{DrawQuad}
use Rattle.vz_frame.specs.declared.frame.Material.{Material}
use Rattle.vz_frame.specs.declared.frame.Material.TheVariants.{Pass}
use Rattle.vz_frame.specs.Frame.{names_pass}
use Rattle.vz_rules.specs.Hit.{Target, groups_hit}
use Rattle.vz_surfaces.specs.Names.{pass_place, place_named}
use Rattle.vz_surfaces.proofs.Leading.{place_here, place_over, place_none, place_before, pass_named}
use Rattle.vz_hit.specs.Hitting.{Stand, in_window, own, ranges_of, named_of, material_of, group_in, group_at}
use Rattle.vz_hit.proofs.Adding.{window_none}

pub turned : (passes : List RenderPass) (k : ℕ) (d : RenderPass) → k < length passes
    → reverse (take (k + 1) passes) ≡ get_or passes k d ∷ reverse (take k passes)
turned passes k d h = ap reverse (take_at_read passes k d h).1 ∙ reverse-append (take k passes) (get_or passes k d ∷ [])

pub by_no : (t : Bool) (x y : Target) → t ≡ false → ◌≡◌ {A = Target} (elim t [ true ↦ x | false ↦ y ]) y
by_no t x y e = rw e refl

pub by_yes : (t : Bool) (x y : Target) → t ≡ true → ◌≡◌ {A = Target} (elim t [ true ↦ x | false ↦ y ]) x
by_yes t x y e = rw e refl

module _ (s : Stand) (id : ℕ) (by p : Point) where
  -- what is answered by the id, of the passes before a place
  abbrev answered_to : ℕ → Target
  answered_to k = named_of s k p id (minus p by)

  here : (j k : ℕ) (d : RenderPass) → k + 1 ≡ j → k < length s.seen.frame.passes
      → names_pass id (get_or s.seen.frame.passes k d) ≡ true → answered_to j ≡ group_at s by (Some k) p
  unfolding groups_hit
  here j k d e h named =
      ap (λ n. answered_to n) (sym e)
      ∙ (ap (λ l. groups_hit (own s p) (ranges_of s p) l id (minus p by)) (turned s.seen.frame.passes k d h)
      ∙ (by_yes (names_pass id (get_or s.seen.frame.passes k d)) _ _ named
      ∙ ap (λ (o : Option RenderPass). group_in s k by o p) (sym (slice_get-get_or s.seen.frame.passes k d h))))

  over : (j k : ℕ) (d : RenderPass) → k + 1 ≡ j → k < length s.seen.frame.passes
      → names_pass id (get_or s.seen.frame.passes k d) ≡ false → answered_to j ≡ answered_to k
  unfolding groups_hit
  over j k d e h named =
      ap (λ n. answered_to n) (sym e)
      ∙ (ap (λ l. groups_hit (own s p) (ranges_of s p) l id (minus p by)) (turned s.seen.frame.passes k d h)
      ∙ by_no (names_pass id (get_or s.seen.frame.passes k d)) _ _ named)

  none : (k : ℕ) → k ≤ 0 → answered_to k ≡ None
  unfolding groups_hit
  none zero h = refl
  none (suc k) h = absurd (omega arith)

  -- one place further on, whether or not the pass there has the id
  further : (d : RenderPass) (k : ℕ) (t : Bool) → k < length s.seen.frame.passes
      → answered_to k ≡ group_at s by (pass_place id s.seen.frame.passes k) p
      → names_pass id (get_or s.seen.frame.passes k d) ≡ t
      → answered_to (suc k) ≡ group_at s by (pass_place id s.seen.frame.passes (suc k)) p
  further d k true h before e =
      here (suc k) k d (omega arith) h e
      ∙ ap (λ o. group_at s by o p) (sym (place_here id s.seen.frame.passes (suc k) k d (omega arith) h e))
  further d k false h before e =
      over (suc k) k d (omega arith) h e
      ∙ (before
      ∙ ap (λ o. group_at s by o p) (sym (place_over id s.seen.frame.passes (suc k) k d (omega arith) h e)))

  answered_with : (d : RenderPass) (k : ℕ) → k ≤ length s.seen.frame.passes
      → answered_to k ≡ group_at s by (pass_place id s.seen.frame.passes k) p
  answered_with d zero h = none 0 (omega arith) ∙ ap (λ o. group_at s by o p) (place_none id s.seen.frame.passes 0 (omega arith))
  answered_with d (suc k) h =
      further d k (names_pass id (get_or s.seen.frame.passes k d)) (omega arith) (answered_with d k (omega arith)) refl

  -- what the id leads to answers
  pub answered_at : (k : ℕ) → k < length s.seen.frame.passes
      → answered_to k ≡ group_at s by (pass_place id s.seen.frame.passes k) p
  answered_at k h = some s.seen.frame.passes refl
    where
      some : (passes : List RenderPass) → s.seen.frame.passes ≡ passes
          → answered_to k ≡ group_at s by (pass_place id s.seen.frame.passes k) p
      some [] e = absurd (let none = ap length e in omega (arith, h, none))
      some (q ∷ qs) e = answered_with q k (omega (arith, h))

-- a pass quad answers what its pass does
name_is : (s : Stand) (k id : ℕ) (quad : DrawQuad) (leads_to : Option ℕ) (by p : Point) → k < length s.seen.frame.passes
    → quad.material ≡ Pass id → leads_to ≡ place_named s.seen.frame k quad
    → group_at s by leads_to p ≡ material_of s k quad.material by p
name_is s k id quad leads_to by p h m is =
    ap (λ o. group_at s by o p) (is ∙ pass_named s.seen.frame k quad id m)
    ∙ (sym (answered_at s id by p k h) ∙ ap (λ (x : Material). material_of s k x by p) (sym m))

pub name_none : (s : Stand) (k id : ℕ) (quad : DrawQuad) (leads_to : Option ℕ) (window : Rectangle) (by : Point) → k < length s.seen.frame.passes
    → quad.material ≡ Pass id → leads_to ≡ place_named s.seen.frame k quad → leads_to ≡ None → (p : Point)
    → in_window window (material_of s k quad.material by) p ≡ None
name_none s k id quad leads_to window by h m is e p =
    ap {B = Target} (λ t. cond (has window p) t None)
    (sym (name_is s k id quad leads_to by p h m is) ∙ ap (λ o. group_at s by o p) e)
    ∙ window_none (has window p)

pub name_some : (s : Stand) (k at id : ℕ) (quad : DrawQuad) (leads_to : Option ℕ) (window : Rectangle) (by : Point) → k < length s.seen.frame.passes
    → quad.material ≡ Pass id → leads_to ≡ place_named s.seen.frame k quad → leads_to ≡ Some at → (p : Point)
    → in_window window (group_at s by (Some at)) p ≡ in_window window (material_of s k quad.material by) p
name_some s k at id quad leads_to window by h m is e p =
    ap {B = Target} (λ t. cond (has window p) t None)
    (ap (λ o. group_at s by o p) (sym e) ∙ name_is s k id quad leads_to by p h m is)

-- it leads to an earlier pass
pub name_before : (s : Stand) (k at id : ℕ) (quad : DrawQuad) (leads_to : Option ℕ) → quad.material ≡ Pass id
    → leads_to ≡ place_named s.seen.frame k quad → leads_to ≡ Some at → at < k
name_before s k at id quad leads_to m is e =
    place_before id s.seen.frame.passes k at (sym (is ∙ pass_named s.seen.frame k quad id m) ∙ e)
