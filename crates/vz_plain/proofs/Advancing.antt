-- A level that goes on: what it and the stack were before, and are after.
use Rattle.std.proofs.Common.{◌≡◌, ◌+◌, ◌≤◌, ◌<◌, Option, Some, None, List, [], ◌∷◌, ◌++◌, reverse, length, refl, sym, ap, ◌∙◌, arith, subst}
use Rattle.std.proofs.lemmas.List.{length-append}
use Rattle.std.proofs.lemmas.List.Sums.{sum_by-append}
use Rattle.std.specs.Prelude.{IfSome}
use Rattle.vz_pixels.specs.Colour.{Colour}
use Rattle.vz_frame.specs.declared.frame.DrawQuad.{DrawQuad}
use Rattle.vz_rules.specs.World.{FrameData}
use Rattle.vz_plain.specs.Painting.{quad_covered}
use Rattle.vz_plain.specs.Levels.{Level, painter_at, quads_left, row_now, height, IsLower, IsPaintedWith, row_under, AllFit, EndsAs, StackFits, StackEnds}
use Rattle.vz_plain.specs.Work.{work, stack_work}
use Rattle.vz_plain.specs.Going.{GoesOn, IsStopped}
use Rattle.vz_plain.proofs.Unwinding.{stepped, entered, top_first, first_top}
use Rattle.vz_plain.proofs.Working.{one_less, lower_is_less}

pub at_first : (active : List FrameData) (l : Level) → GoesOn active l l None
at_first active l = record { same = refl; long = refl; ends = λ base below last then. then; less = omega arith }

-- one more quad is painted: first it is taken from the level, and then the row changes
module _ (active : List FrameData) (old mid taken new : Level) (quad : DrawQuad) (is : mid.quads ≡ taken.quads ++ quad ∷ []) (same : taken ≡ quads_left mid taken.quads) (same_now : new ≡ row_now taken new.row)
    (before : GoesOn active old mid None) where
  new_is : new ≡ row_now (quads_left mid taken.quads) new.row
  new_is = same_now ∙ ap (λ (x : Level). row_now x new.row) same

  old_is : new ≡ row_now (quads_left old new.quads) new.row
  old_is =
      new_is
      ∙ (ap (λ (x : Level). row_now (quads_left x taken.quads) new.row) before.same
      ∙ ap (λ (qs : List DrawQuad). row_now (quads_left old qs) new.row) (sym (ap (λ (x : Level). x.quads) same_now)))

  of_mid : (o : Option Level) → IsPaintedWith active (quad_covered (painter_at active taken) taken.earlier taken.pass quad) taken.start taken.row new.row o
      → IsPaintedWith active (quad_covered (painter_at active mid) mid.earlier mid.pass quad) mid.start mid.row new.row o
  of_mid o = subst (λ (x : Level). IsPaintedWith active (quad_covered (painter_at active x) x.earlier x.pass quad) x.start x.row new.row o) same

  pub goes_on : (o : Option Level) → IsPaintedWith active (quad_covered (painter_at active taken) taken.earlier taken.pass quad) taken.start taken.row new.row o → IfSome o (IsLower taken.levels taken.earlier)
      → GoesOn active old new o
  goes_on None painted lower =
      let one = of_mid None painted in
      let now = one.long in
      let then = before.long in
      let less = before.less in
      let work_now = ap work new_is in
      let work_less = one_less mid taken.quads quad new.row is in
      record {
        same = old_is;
        long = omega (arith, now, then);
        ends = λ base below last ends.
            before.ends base below last
            (stepped active base mid below taken.quads quad new.row last is new.row one (subst (λ (x : Level). EndsAs active base (x ∷ below) new.row last) new_is ends));
        less = omega (arith, less, work_now, work_less);
      }
  goes_on (Some c) painted lower =
      let one = of_mid (Some c) painted in
      let now = one.long in
      let then = before.long in
      let less = before.less in
      let work_now = ap work new_is in
      let work_less = one_less mid taken.quads quad new.row is in
      let low = subst (λ (x : Level). IsLower x.levels x.earlier c) same lower in
      let inner = lower_is_less (height c.levels c.earlier) (height mid.levels mid.earlier) (length c.quads + 1) low.lower low.few in
      record {
        same = old_is;
        long = omega (arith, now, then);
        ends = λ base below last ends.
            before.ends base below last
            (entered active base mid below taken.quads quad new.row last is c one (subst (λ (x : Level). EndsAs active base (c ∷ x ∷ below) c.row last) new_is ends));
        less = omega (arith, less, work_now, work_less, inner);
      }

  pub stops : (c : Level) → IsPaintedWith active (quad_covered (painter_at active taken) taken.earlier taken.pass quad) taken.start taken.row new.row (Some c) → IsStopped new (Some c)
  stops c painted = painted.fits

  pub fewer : length new.quads < length mid.quads
  fewer =
      let now = ap (λ (x : Level). length x.quads) same_now in
      let was = ap length is ∙ length-append taken.quads (quad ∷ []) in
      omega (arith, now, was)

-- the level is pushed onto the stack again, and the other one after it
module _ (active : List FrameData) (base : List Colour) (stack pushed after : List Level) (old new c : Level) (goes : GoesOn active old new (Some c)) (is_pushed : pushed ≡ stack ++ new ∷ []) (is_after : after ≡ pushed ++ c ∷ []) where
  after_is : after ≡ (stack ++ new ∷ []) ++ c ∷ []
  after_is = is_after ∙ ap (λ (s : List Level). s ++ c ∷ []) is_pushed

  pub pushed_ends : (last : List Colour) → StackEnds active base after last → StackEnds active base (stack ++ old ∷ []) last
  pushed_ends last ends =
      let now = first_top (λ ls. EndsAs active base ls (row_under base ls) last) (stack ++ new ∷ []) c (subst (λ (s : List Level). StackEnds active base s last) after_is ends) in
      let top = first_top (λ ls. EndsAs active base (c ∷ ls) c.row last) stack new now in
      top_first (λ ls. EndsAs active base ls (row_under base ls) last) stack old (goes.ends base (reverse stack) last top)

  pub pushed_fits : IsStopped new (Some c) → StackFits base (stack ++ old ∷ []) → StackFits base after
  pushed_fits stopped fits =
      let was = first_top (λ ls. AllFit base ls (length (row_under base ls))) stack old fits in
      let long = goes.long in
      let head = was.0 in
      let place = ap (λ (x : Level). x.from) goes.same in
      subst (λ (s : List Level). StackFits base s) (sym after_is)
      (top_first (λ ls. AllFit base ls (length (row_under base ls))) (stack ++ new ∷ []) c
      (top_first (λ ls. AllFit base (c ∷ ls) (length c.row)) stack new (stopped, (omega (arith, long, head, place), was.1))))

  pub pushed_less : stack_work after < stack_work (stack ++ old ∷ [])
  pushed_less =
      let less = goes.less in
      let now = ap stack_work after_is ∙ sum_by-append work (stack ++ new ∷ []) (c ∷ []) in
      let before = sum_by-append work stack (new ∷ []) in
      let all = sum_by-append work stack (old ∷ []) in
      omega (arith, less, now, before, all)

-- no quads are left
module _ (active : List FrameData) (base : List Colour) (stack : List Level) (old new : Level) (goes : GoesOn active old new None) where
  pub still_ends : (last : List Colour) → StackEnds active base (stack ++ new ∷ []) last → StackEnds active base (stack ++ old ∷ []) last
  still_ends last ends =
      let top = first_top (λ ls. EndsAs active base ls (row_under base ls) last) stack new ends in
      top_first (λ ls. EndsAs active base ls (row_under base ls) last) stack old (goes.ends base (reverse stack) last top)

  pub still_fits : StackFits base (stack ++ old ∷ []) → StackFits base (stack ++ new ∷ [])
  still_fits fits =
      let was = first_top (λ ls. AllFit base ls (length (row_under base ls))) stack old fits in
      let long = goes.long in
      let head = was.0 in
      let place = ap (λ (x : Level). x.from) goes.same in
      top_first (λ ls. AllFit base ls (length (row_under base ls))) stack new (omega (arith, long, head, place), was.1)

  pub still_less : stack_work (stack ++ new ∷ []) ≤ stack_work (stack ++ old ∷ [])
  still_less =
      let less = goes.less in
      let now = sum_by-append work stack (new ∷ []) in
      let all = sum_by-append work stack (old ∷ []) in
      omega (arith, less, now, all)
