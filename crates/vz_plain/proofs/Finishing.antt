-- A level that ends: what the stack was before, and is after.
use Rattle.std.proofs.Common.{◌≡◌, ◌<◌, List, [], ◌∷◌, ◌++◌, length, sym, ap, ◌∙◌, arith, subst}
use Rattle.vz_pixels.specs.Colour.{Colour}
use Rattle.vz_rules.specs.World.{FrameData}
use Rattle.vz_plain.specs.Levels.{Level, row_now, IsJoined, StackEnds}
use Rattle.vz_plain.specs.Work.{stack_work}
use Rattle.vz_plain.proofs.Unwinding.{finished_base, finished_level}
use Rattle.vz_plain.proofs.Working.{finished_less, same_work}

-- the last level is laid on the base
pub base_ends : (active : List FrameData) (old new : List Colour) (l : Level) (before after : List Level) (last : List Colour) → length before ≡ 0 → length after ≡ 0 → l.quads ≡ [] → IsJoined l l.row old new
    → StackEnds active new after last → StackEnds active old (before ++ l ∷ []) last
base_ends active old new l [] [] last none gone done joined then = finished_base active old new l last done joined then
base_ends active old new l (x ∷ before) after last none gone done joined then = absurd (omega (arith, none))
base_ends active old new l [] (x ∷ after) last none gone done joined then = absurd (omega (arith, gone))

pub base_less : (l : Level) (before after : List Level) → length before ≡ 0 → length after ≡ 0 → l.quads ≡ [] → stack_work after < stack_work (before ++ l ∷ [])
base_less l [] [] none gone done = finished_less [] l done
base_less l (x ∷ before) after none gone done = absurd (omega (arith, none))
base_less l [] (x ∷ after) none gone done = absurd (omega (arith, gone))

-- it is laid on the level below
module _ (base : List Colour) (popped before after : List Level) (l g now : Level) (was : before ≡ popped ++ g ∷ []) (is : after ≡ popped ++ now ∷ []) (same : now ≡ row_now g now.row) where
  after_is : after ≡ popped ++ row_now g now.row ∷ []
  after_is = is ∙ ap (λ (x : Level). popped ++ x ∷ []) same

  pub level_ends : (active : List FrameData) (last : List Colour) → l.quads ≡ [] → IsJoined l l.row g.row now.row → StackEnds active base after last → StackEnds active base (before ++ l ∷ []) last
  level_ends active last done joined then =
      subst (λ (s : List Level). StackEnds active base (s ++ l ∷ []) last) (sym was)
      (finished_level active base popped l g now.row last done joined (subst (λ (s : List Level). StackEnds active base s last) after_is then))

  pub level_less : l.quads ≡ [] → stack_work after < stack_work (before ++ l ∷ [])
  level_less done =
      let less = finished_less before l done in
      let now_is : stack_work after ≡ stack_work before = ap stack_work after_is ∙ (same_work popped g now.row ∙ ap stack_work (sym was)) in
      omega (arith, less, now_is)
