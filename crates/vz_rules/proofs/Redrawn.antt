-- Outside the damage of a drawing its scene looks as the scene of the last aggregation does.
use Rattle.std.proofs.Common.{◌≡◌, ℤ, pos, ◌+ℤ◌, ◌≤◌, Bool, true, false, Option, Some, None, List, [], ◌∷◌, refl, ap, sym, ◌∙◌, arith, cond, subst, Contains}
use Rattle.std.specs.List.{flat_map}
use Rattle.std.proofs.lemmas.Bool.{both_ways}
use Rattle.std.proofs.lemmas.Int.{ints}
use Rattle.vz_geom.specs.declared.Point.{Point}
use Rattle.vz_geom.specs.declared.Size.{Size}
use Rattle.vz_geom.specs.Rectangle.{Rectangle, has, plus, sized, bound}
use Rattle.vz_ids.specs.declared.SurfaceRange.{SurfaceRange}
use Rattle.vz_ids.specs.Ids.{same_surface}
use Rattle.vz_pixels.specs.Colour.{Colour, black}
use Rattle.vz_frame.specs.Frame.{frame_size}
use Rattle.vz_rules.specs.World.{FrameData, Scene, Aggregation, frame_on}
use Rattle.vz_rules.specs.Scene.{shown_frame}
use Rattle.vz_rules.specs.Paint.{pix, levels, full}
use Rattle.vz_rules.specs.Trace.{trace, AreHonest}
use Rattle.vz_rules.specs.Walk.{Placement, Enters, walk, whole, walk_of}
use Rattle.vz_rules.specs.Damage.{aggregation_of, is_between, damage_at, is_switched, claims_of, claims, drawn_damage}
use Rattle.vz_rules.proofs.Members.{contains_here, find_at}
use Rattle.vz_rules.proofs.Reached.{from_same}
use Rattle.vz_rules.proofs.Same.{IsSeen}
use Rattle.vz_rules.proofs.Agree.{Misses, Clear, agree_at}
use Rattle.vz_rules.proofs.Misses.{not_in, bound_misses, since_misses, since_clear}
use Rattle.vz_rules.proofs.Between.{IsAccepted, same_between}
use Rattle.vz_rules.proofs.Remembered.{AreAlone, index_is, shown_in, alone_on, not_switched_shows}

-- the frames of two scenes are accepted, each alone on its surface, and those of the second are no earlier ones
pub record AreLater (accepted first second : List FrameData) : Type 0 where
  pub before : (i : FrameData) → Contains first i → Contains accepted i
  pub after : (i : FrameData) → Contains second i → Contains accepted i
  pub alone_before : AreAlone first
  pub alone_after : AreAlone second
  pub later : (i j : FrameData) → Contains first i → Contains second j → same_surface i.id j.id ≡ true → i.index ≤ j.index

-- the claims where the roots are one, and the whole display where they are not
by_root : (t : Bool) (size : Size) (cs : List Rectangle) (P : Point) → has (sized size) P ≡ true → has (bound (cond t cs (sized size ∷ []))) P ≡ false
    → (t ≡ true) × Misses P cs
by_root true size cs P inside h = (refl, bound_misses cs P h)
by_root false size cs P inside h = absurd (both_ways (has (sized size) P) (not_in (sized size ∷ []) (sized size) P (contains_here (sized size) []) h) inside)

full_is : (scene : Scene) (i : FrameData) (P : Point) → frame_on scene.root scene.active ≡ Some i
    → full scene P ≡ (elim (has (sized (frame_size i.frame)) P) [ true ↦ pix levels scene.active [] i P black | false ↦ black ])
unfolding full
full_is scene i P on =
    ap (λ (o : Option FrameData). let c : Colour = elim o [
      | None ↦ black
      | Some k ↦ elim (has (sized (frame_size k.frame)) P) [ true ↦ pix levels scene.active [] k P black | false ↦ black ]
    ] in c) on

same_shown : (t u : Bool) (x y : Colour) → t ≡ u → (u ≡ true → x ≡ y) → ◌≡◌ {A = Colour} (elim t [ true ↦ x | false ↦ black ]) (elim u [ true ↦ y | false ↦ black ])
same_shown true true x y e h = h refl
same_shown false false x y e h = refl
same_shown _ _ x y e h = absurd (cc)

from_origin : (p : Point) → plus p (record { x = pos 0; y = pos 0 }) ≡ p
from_origin p =
    let right : p.x +ℤ pos 0 ≡ p.x = omega (arith, ints) in
    let down : p.y +ℤ pos 0 ≡ p.y = omega (arith, ints) in
    ap (λ (x : ℤ). record { x = x; y = p.y +ℤ pos 0 }) right ∙ ap (λ (y : ℤ). record { x = p.x; y = y }) down

seen_whole : (size : Size) (P : Point) → has (sized size) P ≡ true → IsSeen P P (whole size)
seen_whole size P inside = record { stays = from_origin P; inside = inside }

module _ (size : Size) (A B : Scene) (accepted : List FrameData) (h : IsAccepted accepted) (honest : AreHonest accepted)
    (both : AreLater accepted A.active B.active) (P : Point) where
  abbrev memory : Aggregation
  memory = aggregation_of A (walk_of size A)

  draws : (i j : FrameData) (l : Point) (place : Placement) → frame_on j.id A.active ≡ Some i → frame_on j.id B.active ≡ Some j → has (sized (frame_size j.frame)) l ≡ true
      → IsSeen P l place
      → has (damage_at memory accepted j place) P ≡ false → trace i l ≡ trace j l
  draws i j l place on_a on_b inside seen clear =
      let a = find_at (λ (k : FrameData). same_surface k.id j.id) A.active i on_a in
      let b = find_at (λ (k : FrameData). same_surface k.id j.id) B.active j on_b in
      same_between accepted h honest l i j (both.before i a.0) (both.after j b.0) a.1 (both.later i j a.0 b.0 a.1) inside
      (λ u c e. since_misses memory accepted j l (since_clear memory accepted j l P place seen inside clear) u c
      (ap (λ n. is_between n j u) (index_is A (walk_of size A) i j on_a) ∙ e))

  sizes : (i j : FrameData) → frame_on j.id A.active ≡ Some i → frame_on j.id B.active ≡ Some j → frame_size i.frame ≡ frame_size j.frame
  sizes i j on_a on_b =
      let a = find_at (λ (k : FrameData). same_surface k.id j.id) A.active i on_a in
      let b = find_at (λ (k : FrameData). same_surface k.id j.id) B.active j on_b in
      h.sizes i j (both.before i a.0) (both.after j b.0) a.1

  ids : (i j : FrameData) → frame_on j.id A.active ≡ Some i → i.id ≡ j.id
  ids i j on_a = from_same i.id j.id (find_at (λ (k : FrameData). same_surface k.id j.id) A.active i on_a).1

  remembered : (range : SurfaceRange) (now : Option FrameData) → shown_frame B.active range ≡ now → is_switched memory range now ≡ false
      → (i : FrameData) × (j : FrameData) × (now ≡ Some j) × (shown_frame A.active range ≡ Some i) × (frame_on j.id A.active ≡ Some i) × (frame_on j.id B.active ≡ Some j)
  remembered range now e kept =
      let r = not_switched_shows size A range now kept in (
        r.0,
        r.1,
        r.2,
        r.3,
        ap (λ id. frame_on id A.active) (sym r.4) ∙ alone_on A.active r.0 both.alone_before (shown_in A.active range r.0 r.3),
        alone_on B.active r.1 both.alone_after (shown_in B.active range r.1 (e ∙ r.2)),
      )

  same_root : (i j : FrameData) → frame_on A.root A.active ≡ Some i → frame_on B.root B.active ≡ Some j → same_surface A.root B.root ≡ true → has (sized size) P ≡ true
      → Clear memory accepted P (Enters 1 j (whole size) ∷ walk levels B.active [] j (whole size)) → full A P ≡ full B P
  unfolding claims_of
  same_root i j on_a on_b same inside clear =
      let b = find_at (λ (k : FrameData). same_surface k.id B.root) B.active j on_b in
      let id : j.id ≡ B.root = from_same j.id B.root b.1 in
      let was : frame_on j.id A.active ≡ Some i = ap (λ s. frame_on s A.active) (id ∙ sym (from_same A.root B.root same)) ∙ on_a in
      let now : frame_on j.id B.active ≡ Some j = ap (λ s. frame_on s B.active) id ∙ on_b in
      full_is A i P on_a
      ∙ (same_shown _ _ (pix levels A.active [] i P black) (pix levels B.active [] j P black) (ap (λ s. has (sized s) P) (sizes i j was now))
      (λ shown. agree_at A.active B.active memory accepted P draws sizes ids remembered levels [] i j P (whole size)
      was now shown (seen_whole size P inside) clear.0 clear.1 black)
      ∙ sym (full_is B j P on_b))

  -- outside the damage of a drawing the new scene looks as the remembered one does
  pub draws_agree : (i j : FrameData) → frame_on A.root A.active ≡ Some i → frame_on B.root B.active ≡ Some j → has (sized size) P ≡ true
      → has (drawn_damage size (Some memory) accepted B.root (walk_of size B)) P ≡ false → full A P ≡ full B P
  unfolding drawn_damage claims aggregation_of walk_of
  draws_agree i j on_a on_b inside misses =
      let r = by_root (same_surface A.root B.root) size (flat_map (claims_of memory accepted) (walk_of size B)) P inside misses in
      same_root i j on_a on_b r.0 inside
      (subst (λ (o : Option FrameData). Clear memory accepted P (elim o [ None ↦ [] | Some k ↦ Enters 1 k (whole size) ∷ walk levels B.active [] k (whole size) ])) on_b r.1)
