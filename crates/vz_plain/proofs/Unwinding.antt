-- A stack of levels: what one turn leaves of it.
use Rattle.std.proofs.Common.{◌≡◌, ◌+◌, ◌≤◌, true, false, List, [], ◌∷◌, ◌++◌, reverse, length, refl, sym, ap, ◌∙◌, arith, subst}
use Rattle.std.proofs.lemmas.List.{reverse-append}
use Rattle.vz_geom.specs.declared.Point.{Point}
use Rattle.vz_pixels.specs.Colour.{Colour}
use Rattle.vz_frame.specs.declared.frame.DrawQuad.{DrawQuad}
use Rattle.vz_frame.specs.declared.frame.RenderPass.{RenderPass}
use Rattle.vz_rules.specs.World.{FrameData}
use Rattle.vz_rules.specs.Paint.{Named, Embedding, covers, material_painted, quads_painted}
use Rattle.vz_plain.specs.Rows.{right_of, IsPainted}
use Rattle.vz_plain.specs.Painting.{passes_in, ranges, quad_covered}
use Rattle.vz_plain.specs.Levels.{Level, painter_at, rest, quads_left, row_now, IsJoined, IsWaiting, row_under, AllFit, EndsAs, StackFits, StackEnds}
use Rattle.vz_plain.proofs.Parted.{unpainted, then_painted}

-- the quad behind others is painted before them
quads_behind : (i : FrameData) (named : Named) (embedded : Embedding) (pass : RenderPass) (front : List DrawQuad) (quad : DrawQuad) (q : Point) (d : Colour)
    → quads_painted i named embedded pass front q (elim (covers pass quad q) [ true ↦ material_painted i named embedded quad q d | false ↦ d ])
    ≡ quads_painted i named embedded pass (front ++ quad ∷ []) q d
unfolding quads_painted
quads_behind i named embedded pass [] quad q d = refl
quads_behind i named embedded pass (x ∷ front) quad q d =
    ap (λ (b : Colour). elim (covers pass x q) [ true ↦ material_painted i named embedded x q b | false ↦ b ]) (quads_behind i named embedded pass front quad q d)

-- one quad of the top level is painted
module _ (active : List FrameData) (base : List Colour) (l : Level) (below : List Level) (front : List DrawQuad) (quad : DrawQuad) (row : List Colour) (last : List Colour) (is : l.quads ≡ front ++ quad ∷ []) where
  abbrev next : Level
  next = row_now (quads_left l front) row

  one_more : (now final : List Colour) → IsPainted (quad_covered (painter_at active l) l.earlier l.pass quad) l.start l.row now → IsPainted (rest active next) l.start now final → IsPainted (rest active l) l.start l.row final
  one_more now final one more =
      then_painted (quad_covered (painter_at active l) l.earlier l.pass quad) (rest active next) (rest active l) l.start l.row now final
      (λ i d.
      quads_behind l.submitted (passes_in (painter_at active l) l.earlier) (ranges (painter_at active l)) l.pass front quad (right_of l.start i) d
      ∙ ap (λ (qs : List DrawQuad). quads_painted l.submitted (passes_in (painter_at active l) l.earlier) (ranges (painter_at active l)) l.pass qs (right_of l.start i) d) (sym is)) one more

  pub stepped : (now : List Colour) → IsPainted (quad_covered (painter_at active l) l.earlier l.pass quad) l.start l.row now → EndsAs active base (next ∷ below) now last → EndsAs active base (l ∷ below) l.row last
  stepped now one (final, under, painted, joined, then) = (final, under, one_more now final one painted, record { long = joined.long; each = joined.each }, then)

  -- with a level that is painted first
  pub entered : (c : Level) → IsWaiting active (quad_covered (painter_at active l) l.earlier l.pass quad) l.start l.row row c
      → EndsAs active base (c ∷ next ∷ below) c.row last → EndsAs active base (l ∷ below) l.row last
  entered c waits (own, under, painted, joined, then) = stepped under (waits.ends own under painted joined) then

-- a level without quads ends: its row is laid on the base or on the level below
pub left_for_base : (active : List FrameData) (old new : List Colour) (l : Level) (last : List Colour) → l.quads ≡ [] → IsJoined l l.row old new → EndsAs active new [] new last → EndsAs active old (l ∷ []) l.row last
unfolding quads_painted
left_for_base active old new l last none joined then = (
  l.row,
  new,
  unpainted (rest active l) l.start l.row (λ q d.
      ap (λ (qs : List DrawQuad). quads_painted l.submitted (passes_in (painter_at active l) l.earlier) (ranges (painter_at active l)) l.pass qs q d) none),
  joined,
  then,
)

pub left_for_level : (active : List FrameData) (base : List Colour) (l g : Level) (below : List Level) (new last : List Colour) → l.quads ≡ [] → IsJoined l l.row g.row new
    → EndsAs active base (row_now g new ∷ below) new last → EndsAs active base (l ∷ g ∷ below) l.row last
unfolding quads_painted
left_for_level active base l g below new last none joined (final, under, painted, then_joined, then) = (
  l.row,
  new,
  unpainted (rest active l) l.start l.row (λ q d.
      ap (λ (qs : List DrawQuad). quads_painted l.submitted (passes_in (painter_at active l) l.earlier) (ranges (painter_at active l)) l.pass qs q d) none),
  joined,
  (final, under, painted, record { long = then_joined.long; each = then_joined.each }, then),
)

-- the last level of a stack is first in the list
pub top_first : (P : List Level → Type 0) (stack : List Level) (l : Level) → P (l ∷ reverse stack) → P (reverse (stack ++ l ∷ []))
top_first P stack l = subst P (sym (reverse-append stack (l ∷ [])))

pub first_top : (P : List Level → Type 0) (stack : List Level) (l : Level) → P (reverse (stack ++ l ∷ [])) → P (l ∷ reverse stack)
first_top P stack l = subst P (reverse-append stack (l ∷ []))

-- One turn that ends a level

pub finished_base : (active : List FrameData) (old new : List Colour) (l : Level) (last : List Colour) → l.quads ≡ [] → IsJoined l l.row old new → StackEnds active new [] last → StackEnds active old ([] ++ l ∷ []) last
finished_base active old new l last none joined then = left_for_base active old new l last none joined then

module _ (active : List FrameData) (base : List Colour) (stack : List Level) (l g : Level) (new : List Colour) where
  pub finished_level : (last : List Colour) → l.quads ≡ [] → IsJoined l l.row g.row new → StackEnds active base (stack ++ row_now g new ∷ []) last → StackEnds active base ((stack ++ g ∷ []) ++ l ∷ []) last
  finished_level last none joined ends =
      let now = first_top (λ ls. EndsAs active base ls (row_under base ls) last) stack (row_now g new) ends in
      let both = left_for_level active base l g (reverse stack) new last none joined now in
      top_first (λ ls. EndsAs active base ls (row_under base ls) last) (stack ++ g ∷ []) l (top_first (λ ls. EndsAs active base (l ∷ ls) l.row last) stack g both)

  pub fits_below : StackFits base ((stack ++ g ∷ []) ++ l ∷ []) → l.from + length l.row ≤ length g.row
  fits_below fits =
      let old = first_top (λ ls. AllFit base ls (length (row_under base ls))) (stack ++ g ∷ []) l fits in
      let two = first_top (λ ls. AllFit base (l ∷ ls) (length l.row)) stack g old in
      two.0

  pub finished_fits : length new ≡ length g.row → StackFits base ((stack ++ g ∷ []) ++ l ∷ []) → StackFits base (stack ++ row_now g new ∷ [])
  finished_fits long fits =
      let old = first_top (λ ls. AllFit base ls (length (row_under base ls))) (stack ++ g ∷ []) l fits in
      let two = first_top (λ ls. AllFit base (l ∷ ls) (length l.row)) stack g old in
      let head = two.1.0 in
      top_first (λ ls. AllFit base ls (length (row_under base ls))) stack (row_now g new) (omega (arith, long, head), two.1.1)
