-- What regions answer together, and what is added to them.
use Rattle.std.proofs.Common.{◌≡◌, Bool, true, false, Some, None, List, [], ◌∷◌, ◌++◌, refl, ap, sym, ◌∙◌, cond}
use Rattle.vz_geom.specs.declared.Point.{Point}
use Rattle.vz_geom.specs.Rectangle.{has, plus}
use Rattle.vz_ids.specs.declared.SurfaceId.{SurfaceId}
use Rattle.vz_rules.specs.Scene.{or_else}
use Rattle.vz_rules.specs.Hit.{Target}
use Rattle.vz_hit.specs.declared.region.Region.{Region}
use Rattle.vz_hit.specs.Regions.{found}
use Rattle.vz_hit.specs.Hitting.{Answer, in_window, Adds}

pub or_none : (a : Target) → or_else a None ≡ a
or_none None = refl
or_none (Some a) = refl

or_assoc : (a b c : Target) → or_else (or_else a b) c ≡ or_else a (or_else b c)
or_assoc None b c = refl
or_assoc (Some a) b c = refl

-- a window without the point answers nothing
pub window_none : (w : Bool) → ◌≡◌ {A = Target} (cond w None None) None
window_none true = refl
window_none false = refl

first_case : (t : Bool) (a : SurfaceId × Point) (x y z : Target) → x ≡ or_else y z
    → ◌≡◌ {A = Target} (cond t (Some a) x) (or_else (cond t (Some a) y) z)
first_case true a x y z e = refl
first_case false a x y z e = e

-- regions in front of others answer first
found_append : (xs ys : List Region) (p : Point) → found (xs ++ ys) p ≡ or_else (found xs p) (found ys p)
unfolding found
found_append [] ys p = refl
found_append (r ∷ xs) ys p = first_case (has r.area p) (r.id, plus p r.shift) _ _ _ (found_append xs ys p)

-- What is added

-- nothing
pub adds_none : (old : List Region) (f : Answer) → ((p : Point) → f p ≡ None) → Adds old old f
adds_none old f none = record { answers = λ p. sym (ap (λ t. or_else (found old p) t) (none p) ∙ or_none (found old p)) }

-- a region
pub adds_put : (old new : List Region) (r : Region) → new ≡ old ++ r ∷ [] → Adds old new (in_window r.area (λ p. Some (r.id, plus p r.shift)))
unfolding found
adds_put old new r e = record { answers = λ p. ap (λ l. found l p) e ∙ found_append old (r ∷ []) p }

-- one thing, and another after it
pub adds_then : (a b c : List Region) (f g : Answer) → Adds a b f → Adds b c g → Adds a c (λ p. or_else (f p) (g p))
adds_then a b c f g x y =
    record { answers = λ p. y.answers p ∙ (ap (λ t. or_else t (g p)) (x.answers p) ∙ or_assoc (found a p) (f p) (g p)) }

-- the same in other words
pub adds_as : (a b : List Region) (f g : Answer) → ((p : Point) → f p ≡ g p) → Adds a b f → Adds a b g
adds_as a b f g same x = record { answers = λ p. x.answers p ∙ ap (λ t. or_else (found a p) t) (same p) }

-- after no region it is all that is found
pub adds_alone : (old new : List Region) (f : Answer) → old ≡ [] → Adds old new f → (p : Point) → found new p ≡ f p
unfolding found
adds_alone old new f e x p = x.answers p ∙ ap (λ (l : List Region). or_else (found l p) (f p)) e

-- What is left to add

-- with what is left, the regions now answer what the first ones do with all
pub record Leaves (first now : List Region) (all rest : Answer) : Type 0 where
  pub left : (p : Point) → or_else (found first p) (all p) ≡ or_else (found now p) (rest p)

pub leaves_all : (first : List Region) (all rest : Answer) → ((p : Point) → all p ≡ rest p) → Leaves first first all rest
leaves_all first all rest same = record { left = λ p. ap (λ t. or_else (found first p) t) (same p) }

pub leaves_less : (first now new : List Region) (all rest f less : Answer) → ((p : Point) → rest p ≡ or_else (f p) (less p))
    → Leaves first now all rest → Adds now new f → Leaves first new all less
leaves_less first now new all rest f less split x y =
    record {
      left = λ p.
          x.left p
          ∙ (ap (λ t. or_else (found now p) t) (split p)
          ∙ (sym (or_assoc (found now p) (f p) (less p)) ∙ ap (λ t. or_else t (less p)) (sym (y.answers p))));
    }

pub leaves_none : (first now : List Region) (all rest : Answer) → ((p : Point) → rest p ≡ None) → Leaves first now all rest
    → Adds first now all
leaves_none first now all rest none x =
    record { answers = λ p. sym (x.left p ∙ (ap (λ t. or_else (found now p) t) (none p) ∙ or_none (found now p))) }
