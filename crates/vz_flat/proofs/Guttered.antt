-- That a gutter's operations lay the background round a surface.
use Rattle.std.proofs.Common.{◌≡◌, ◌+ℤ◌, ◌-ℤ◌, Bool, true, false, not, ◌&&◌, List, [], ◌∷◌, refl, ap, ◌∙◌, cond, subst, arith}
use Rattle.std.specs.List.{flat_map}
use Rattle.std.proofs.{lemmas.Int.ints, lemmas.Int.by_lt_z as by_less, lemmas.Bool.Decides.nat_tests}
use Rattle.vz_geom.specs.declared.Point.{Point}
use Rattle.vz_geom.specs.Rectangle.{Rectangle, has, is_empty_rect, plus, moved, sized}
use Rattle.vz_geom.proofs.Sets.{IsIn, to_in, of_in, in_sides, of_sides, has_moved_is, has_meet_is}
use Rattle.vz_geom.proofs.Bounds.{IsInside, IsFull, of_full, in_is_full, inside_of, meet_is_covered}
use Rattle.vz_ids.specs.{declared.SurfaceRange.SurfaceRange, Ids.same_surface}
use Rattle.vz_pixels.specs.Colour.{Colour, over}
use Rattle.vz_pixels.proofs.Over.{scale_full}
use Rattle.vz_frame.specs.{declared.blend.Blend.TheVariants.Over, Blending.blend, Blending.laid, Frame.frame_size}
use Rattle.vz_rules.specs.{World.FrameData, Walk.Placement}
use Rattle.vz_flat.specs.{declared.op.Op.Op, declared.op.Op.TheVariants.Fill, Parts.surface_place}
use Rattle.vz_flat.specs.Gutters.{above, beneath, left_of, right_of, parts_round, part_flat, gutter_flat}
use Rattle.vz_flat.proofs.Acting.{ActsAs, acts_none, acts_both, acts_fill, acts_same, acts_seen}

part_acts : (P : Point) (b : Colour) (part : Rectangle) → ActsAs P (part_flat b part) (λ d. cond (has part P) (over b d) d)
unfolding laid blend
part_acts P b part = grind (arith, nat_tests, acts_seen P part (Fill part b 255 Over ∷ []) (over b) (has part P) refl, acts_same P, scale_full, acts_fill P part b 255 Over)

-- Of four parts in a row at most one has the point, and one has it where the test is true

abbrev Laid : Bool → (Colour → Colour) → Colour → Colour
Laid t f d = cond t (f d) d

one_case : (a b c e s : Bool) (f : Colour → Colour) (d : Colour)
    → (a ≡ true → (s ≡ true) × (b ≡ false) × (c ≡ false) × (e ≡ false))
    → (b ≡ true → (s ≡ true) × (c ≡ false) × (e ≡ false))
    → (c ≡ true → (s ≡ true) × (e ≡ false))
    → (e ≡ true → s ≡ true)
    → (a ≡ false → b ≡ false → c ≡ false → e ≡ false → s ≡ false)
    → Laid e f (Laid c f (Laid b f (Laid a f d))) ≡ Laid s f d
one_case a b c e s f d first second third fourth none = grind (arith, nat_tests)

whole_part : (o i : Bool) → i ≡ false → o ≡ (o && not i)
whole_part o i e = grind (arith, nat_tests)

without : (w s : Bool) → (w && not (w && s)) ≡ (w && not s)
without w s = grind (arith, nat_tests)

by_end : (P : Point) (b : Colour) (w s e : Bool) (ops : List Op) → ActsAs P ops (λ d. Laid (w && not s) (over b) d)
    → ActsAs P (cond e [] ops) (λ d. cond (w && (not s && not e)) (over b d) d)
by_end _ b w s e ops a = grind (arith, nat_tests, acts_none)

-- Where the point is

is_empty_not : (r : Rectangle) (p : Point) → is_empty_rect r ≡ true → has r p ≡ true → ⊥
is_empty_not r p e h =
    let full = in_is_full r p h in absurd (cc)

not_has : (r : Rectangle) (p : Point) → (has r p ≡ true → ⊥) → has r p ≡ false
not_has r p h = grind (arith, nat_tests)

both_tests : (a b : Bool) → a ≡ true → b ≡ false → (a && not b) ≡ true
both_tests a b e f = rw (e, f) refl

-- outside the inner one, and in the outer one
abbrev between : Rectangle → Rectangle → Point → Bool
between outer inner p = has outer p && not (has inner p)

module _ (outer inner : Rectangle) (p : Point) (is : IsInside outer inner) (full : IsFull inner) where
  in_above : has (above outer inner) p ≡ true → IsIn (record { x = outer.x; y = outer.y; w = outer.w; h = inner.y -ℤ outer.y }) p
  in_above h = of_sides outer.x outer.y outer.w (inner.y -ℤ outer.y) p h

  in_beneath : has (beneath outer inner) p ≡ true
      → IsIn (record { x = outer.x; y = inner.y +ℤ inner.h; w = outer.w; h = (outer.y +ℤ outer.h) -ℤ (inner.y +ℤ inner.h) }) p
  in_beneath h = of_sides outer.x (inner.y +ℤ inner.h) outer.w ((outer.y +ℤ outer.h) -ℤ (inner.y +ℤ inner.h)) p h

  in_left : has (left_of outer inner) p ≡ true → IsIn (record { x = outer.x; y = inner.y; w = inner.x -ℤ outer.x; h = inner.h }) p
  in_left h = of_sides outer.x inner.y (inner.x -ℤ outer.x) inner.h p h

  in_right : has (right_of outer inner) p ≡ true
      → IsIn (record { x = inner.x +ℤ inner.w; y = inner.y; w = (outer.x +ℤ outer.w) -ℤ (inner.x +ℤ inner.w); h = inner.h }) p
  in_right h = of_sides (inner.x +ℤ inner.w) inner.y ((outer.x +ℤ outer.w) -ℤ (inner.x +ℤ inner.w)) inner.h p h

  first_part : has (above outer inner) p ≡ true
      → (between outer inner p ≡ true) × (has (beneath outer inner) p ≡ false) × (has (left_of outer inner) p ≡ false) × (has (right_of outer inner) p ≡ false)
  first_part h =
      let i = in_above h in (
        both_tests (has outer p) (has inner p)
            (of_in outer p (record { left = omega (arith, ints); right = omega (arith, ints); top = omega (arith, ints); bottom = omega (arith, ints) }))
            (not_has inner p (λ k. let j = to_in inner p k in absurd (omega (arith, ints)))),
        not_has (beneath outer inner) p (λ k. let j = in_beneath k in absurd (omega (arith, ints))),
        not_has (left_of outer inner) p (λ k. let j = in_left k in absurd (omega (arith, ints))),
        not_has (right_of outer inner) p (λ k. let j = in_right k in absurd (omega (arith, ints))),
      )

  second_part : has (beneath outer inner) p ≡ true
      → (between outer inner p ≡ true) × (has (left_of outer inner) p ≡ false) × (has (right_of outer inner) p ≡ false)
  second_part h =
      let i = in_beneath h in (
        both_tests (has outer p) (has inner p)
            (of_in outer p (record { left = omega (arith, ints); right = omega (arith, ints); top = omega (arith, ints); bottom = omega (arith, ints) }))
            (not_has inner p (λ k. let j = to_in inner p k in absurd (omega (arith, ints)))),
        not_has (left_of outer inner) p (λ k. let j = in_left k in absurd (omega (arith, ints))),
        not_has (right_of outer inner) p (λ k. let j = in_right k in absurd (omega (arith, ints))),
      )

  third_part : has (left_of outer inner) p ≡ true → (between outer inner p ≡ true) × (has (right_of outer inner) p ≡ false)
  third_part h =
      let i = in_left h in (
        both_tests (has outer p) (has inner p)
            (of_in outer p (record { left = omega (arith, ints); right = omega (arith, ints); top = omega (arith, ints); bottom = omega (arith, ints) }))
            (not_has inner p (λ k. let j = to_in inner p k in absurd (omega (arith, ints)))),
        not_has (right_of outer inner) p (λ k. let j = in_right k in absurd (omega (arith, ints))),
      )

  fourth_part : has (right_of outer inner) p ≡ true → between outer inner p ≡ true
  fourth_part h = grind (arith, nat_tests, in_right h, both_tests (has outer p) (has inner p), of_in outer p, ints, not_has inner p, to_in inner p)

  is_not : (t : Bool) → t ≡ false → t ≡ true → ⊥
  is_not t e f = absurd (cc)

  some_part : has (above outer inner) p ≡ false → has (beneath outer inner) p ≡ false → has (left_of outer inner) p ≡ false
      → has (right_of outer inner) p ≡ false
      → IsIn outer p → has inner p ≡ true
  some_part a b c e i =
      by_less p.y inner.y
      (λ up. absurd (is_not _ a (in_sides outer.x outer.y outer.w (inner.y -ℤ outer.y) p (record { left = i.left; right = i.right; top = i.top; bottom = omega (arith, ints) }))))
      (λ down. by_less p.y (inner.y +ℤ inner.h)
      (λ above_end. by_less p.x inner.x
      (λ before. absurd (is_not _ c (in_sides outer.x inner.y (inner.x -ℤ outer.x) inner.h p (record { left = i.left; right = omega (arith, ints); top = down; bottom = above_end }))))
      (λ behind. by_less p.x (inner.x +ℤ inner.w)
      (λ before_end. of_in inner p (record { left = behind; right = before_end; top = down; bottom = above_end }))
      (λ behind_end. absurd (is_not _ e (in_sides (inner.x +ℤ inner.w) inner.y ((outer.x +ℤ outer.w) -ℤ (inner.x +ℤ inner.w)) inner.h p
      (record { left = behind_end; right = omega (arith, ints); top = down; bottom = above_end }))))))
      (λ below_end. absurd (is_not _ b (in_sides outer.x (inner.y +ℤ inner.h) outer.w ((outer.y +ℤ outer.h) -ℤ (inner.y +ℤ inner.h)) p
      (record { left = i.left; right = i.right; top = below_end; bottom = omega (arith, ints) })))))

  no_part : has (above outer inner) p ≡ false → has (beneath outer inner) p ≡ false → has (left_of outer inner) p ≡ false
      → has (right_of outer inner) p ≡ false
      → between outer inner p ≡ false
  no_part a b c e = by_test (has outer p) refl
    where
      by_test : (t : Bool) → has outer p ≡ t → (has outer p && not (has inner p)) ≡ false
      by_test true h = rw (h, some_part a b c e (to_in outer p h)) refl
      by_test false h = rw h refl

  parts_case : (f : Colour → Colour) (d : Colour)
      → Laid (has (right_of outer inner) p) f (Laid (has (left_of outer inner) p) f (Laid (has (beneath outer inner) p) f (Laid (has (above outer inner) p) f d)))
      ≡ Laid (between outer inner p) f d
  parts_case f d =
      one_case (has (above outer inner) p) (has (beneath outer inner) p) (has (left_of outer inner) p) (has (right_of outer inner) p)
      (between outer inner p) f d
      first_part second_part third_part fourth_part no_part

four_act : (P : Point) (b : Colour) (a c e g : Rectangle)
    → ActsAs P (flat_map (part_flat b) (a ∷ c ∷ e ∷ g ∷ [])) (λ d. Laid (has g P) (over b) (Laid (has e P) (over b) (Laid (has c P) (over b) (Laid (has a P) (over b) d))))
four_act P b a c e g =
    acts_both P (part_flat b a) _ (λ d. Laid (has a P) (over b) d) _ (part_acts P b a)
    (acts_both P (part_flat b c) _ (λ d. Laid (has c P) (over b) d) _ (part_acts P b c)
    (acts_both P (part_flat b e) _ (λ d. Laid (has e P) (over b) d) _ (part_acts P b e)
    (acts_both P (part_flat b g) [] (λ d. Laid (has g P) (over b) d) (λ d. d) (part_acts P b g) (acts_none P))))

one_acts : (P : Point) (b : Colour) (a : Rectangle) → ActsAs P (flat_map (part_flat b) (a ∷ [])) (λ d. Laid (has a P) (over b) d)
one_acts P b a = acts_both P (part_flat b a) [] (λ d. Laid (has a P) (over b) d) (λ d. d) (part_acts P b a) (acts_none P)

-- the parts round one that lies in another
round_acts : (P : Point) (b : Colour) (outer inner : Rectangle) → ((p : Point) → has inner p ≡ true → has outer p ≡ true)
    → ActsAs P (flat_map (part_flat b) (parts_round outer inner)) (λ d. Laid (between outer inner P) (over b) d)
unfolding parts_round
round_acts P b outer inner covers = by_test (is_empty_rect inner) refl
  where
    by_test : (t : Bool) → is_empty_rect inner ≡ t
        → ActsAs P (flat_map (part_flat b) (cond t (outer ∷ []) (above outer inner ∷ beneath outer inner ∷ left_of outer inner ∷ right_of outer inner ∷ []))) (λ d. Laid (between outer inner P) (over b) d)
    by_test true e =
        acts_same P _ _ _
        (λ d. ap (λ t. Laid t (over b) d) (whole_part (has outer P) (has inner P) (not_has inner P (λ k. is_empty_not inner P e k))))
        (one_acts P b outer)
    by_test false e =
        let full = of_full inner e in
        acts_same P _ _ _ (parts_case outer inner P (inside_of outer inner full covers) full (over b))
        (four_act P b (above outer inner) (beneath outer inner) (left_of outer inner) (right_of outer inner))

-- the gutter of a surface
pub gutter_acts : (P : Point) (range : SurfaceRange) (b : Colour) (i : FrameData) (l : Point) (place : Placement) → plus l place.shift ≡ P
    → ActsAs P (gutter_flat range b i place) (λ d. cond (has place.window P && (not (has (sized (frame_size i.frame)) l) && not (same_surface i.id range.end))) (over b d) d)
unfolding gutter_flat
gutter_acts P range b i l place stays =
    let size : Rectangle = sized (frame_size i.frame) in
    let in_size : has (moved size place.shift) P ≡ has size l = subst (λ (p : Point). has (moved size place.shift) p ≡ has size l) stays
    (has_moved_is size place.shift l) in
    let in_part : has (surface_place i place).window P ≡ (has place.window P && has size l) =
    has_meet_is place.window (moved size place.shift) P ∙ ap (λ t. has place.window P && t) in_size in
    by_end P b (has place.window P) (has size l) (same_surface i.id range.end) _
    (acts_same P _ _ _ (λ d. ap (λ t. Laid t (over b) d) (ap (λ t. has place.window P && not t) in_part ∙ without (has place.window P) (has size l)))
    (round_acts P b place.window (surface_place i place).window (meet_is_covered place.window (moved size place.shift)).0))
