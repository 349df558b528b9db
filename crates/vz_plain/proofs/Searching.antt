-- What is hit in passes that are searched one inside another.
use Rattle.std.proofs.Common.{◌≡◌, ℕ, zero, suc, ◌-◌, Bool, true, false, ◌&&◌, ◌||◌, Some, None, List, [], ◌∷◌, ◌++◌, reverse, refl, sym, ap, ◌∙◌, arith, subst}
use Rattle.std.specs.List.{list_any}
use Rattle.std.proofs.lemmas.List.{reverse-append}
use Rattle.vz_geom.specs.declared.Point.{Point}
use Rattle.vz_geom.specs.Rectangle.{plus, corner}
use Rattle.vz_ids.specs.declared.SurfaceId.{SurfaceId}
use Rattle.vz_ids.specs.Ids.{same_surface}
use Rattle.vz_frame.specs.declared.frame.DrawQuad.{DrawQuad}
use Rattle.vz_frame.specs.declared.frame.RenderPass.{RenderPass}
use Rattle.vz_frame.specs.Frame.{names_pass}
use Rattle.vz_rules.specs.World.{FrameData}
use Rattle.vz_rules.specs.Scene.{or_else}
use Rattle.vz_rules.specs.Paint.{covers}
use Rattle.vz_rules.specs.Hit.{Target, quads_hit, groups_hit, root_hit, range_hit, hit}
use Rattle.vz_plain.specs.declared.finder.QuadAnswer.{QuadAnswer}
use Rattle.vz_plain.specs.declared.finder.QuadAnswer.TheVariants.{Nothing, Surface, Inside}
use Rattle.vz_plain.specs.Finding.{Finder, SearchedPass, own, ranges, with_quads, quads_here, quad_here, group_here, passes_in, path_into, onward, finder_in, quad_left, hit_first}
use Rattle.vz_plain.specs.Answered.{answer}

-- A surface that is entered

-- the last pass is searched over the earlier ones
pub root_searched : (levels : ℕ) (active : List FrameData) (path : List SurfaceId) (i : FrameData) (e : Point) (passes earlier : List RenderPass) (root : RenderPass)
    → (levels ≡ 0 → ⊥) → passes ≡ i.frame.passes → passes ≡ earlier ++ root ∷ []
    → quads_here (record { active = active; levels = levels - 1; path = i.id ∷ path; submitted = i; entry = e }) earlier root root.quads e ≡ hit levels active path i e
unfolding hit root_hit
root_searched zero active path i e passes earlier root some own last = absurd (some refl)
root_searched (suc n) active path i e passes earlier root some own last =
    let one : suc n - 1 ≡ n = omega arith in
    let turned : root ∷ reverse earlier ≡ reverse i.frame.passes = sym (reverse-append earlier (root ∷ [])) ∙ (ap reverse (sym last) ∙ ap reverse own) in
    ap (λ (m : ℕ). quads_here (record { active = active; levels = m; path = i.id ∷ path; submitted = i; entry = e }) earlier root root.quads e) one
    ∙ ap (λ (l : List RenderPass). root_hit (Some (i.id, e)) (range_hit (Some (i.id, e)) (hit n active) active (i.id ∷ path)) l e) turned

pub no_levels : (levels : ℕ) (active : List FrameData) (path : List SurfaceId) (i : FrameData) (e : Point) → levels ≡ 0 → hit levels active path i e ≡ None
unfolding hit
no_levels zero active path i e none = refl
no_levels (suc n) active path i e none = absurd (omega (arith, none))

pub no_passes : (levels : ℕ) (active : List FrameData) (path : List SurfaceId) (i : FrameData) (e : Point) → i.frame.passes ≡ [] → hit levels active path i e ≡ None
unfolding hit root_hit
no_passes zero active path i e none = refl
no_passes (suc n) active path i e none = ap (λ (l : List RenderPass). root_hit (Some (i.id, e)) (range_hit (Some (i.id, e)) (hit n active) active (i.id ∷ path)) (reverse l) e) none

-- Passes by their ids

taken : (t : Bool) (a b : Target) → t ≡ true → elim t [ true ↦ a | false ↦ b ] ≡ a
taken true a b e = refl
taken false a b e = absurd (cc)

left_out : (t : Bool) (a b : Target) → t ≡ false → elim t [ true ↦ a | false ↦ b ] ≡ b
left_out true a b e = absurd (cc)
left_out false a b e = refl

-- the last pass has the id, or an earlier one may have it
module _ (f : Finder) (passes earlier : List RenderPass) (pass : RenderPass) (id : ℕ) (p : Point) (is : passes ≡ earlier ++ pass ∷ []) where
  last_first : reverse passes ≡ pass ∷ reverse earlier
  last_first = ap reverse is ∙ reverse-append earlier (pass ∷ [])

  abbrev here : Target
  here = group_here f earlier pass (plus p (corner pass.output))

  pub named_last : names_pass id pass ≡ true → here ≡ passes_in f passes id p
  unfolding groups_hit
  named_last named =
      sym (ap (λ (l : List RenderPass). groups_hit (own f) (ranges f) l id p) last_first ∙ taken (names_pass id pass) here (passes_in f earlier id p) named)

  pub named_earlier : names_pass id pass ≡ false → passes_in f earlier id p ≡ passes_in f passes id p
  unfolding groups_hit
  named_earlier named =
      sym (ap (λ (l : List RenderPass). groups_hit (own f) (ranges f) l id p) last_first ∙ left_out (names_pass id pass) here (passes_in f earlier id p) named)

-- among no passes none has it
pub named_nowhere : (f : Finder) (passes : List RenderPass) (id : ℕ) (p : Point) → passes ≡ [] → ◌≡◌ {A = Target} None (passes_in f passes id p)
unfolding groups_hit
named_nowhere f passes id p none = sym (ap (λ (l : List RenderPass). groups_hit (own f) (ranges f) (reverse l) id p) none)

-- The path

any_append : {A : Type 0} (p : A → Bool) (xs ys : List A) → list_any p (xs ++ ys) ≡ (list_any p xs || list_any p ys)
any_append p [] ys = refl
any_append p (x ∷ xs) ys = (ap (λ t. p x || t) (any_append p xs ys)) ∙ joined (p x) (list_any p xs) (list_any p ys)
  where
    joined : (a b c : Bool) → (a || (b || c)) ≡ ((a || b) || c)
    joined true b c = refl
    joined false b c = refl

either_way : (a b : Bool) → (a || b) ≡ (b || a)
either_way true true = refl
either_way true false = refl
either_way false true = refl
either_way false false = refl

any_reverse : {A : Type 0} (p : A → Bool) (xs : List A) → list_any p (reverse xs) ≡ list_any p xs
any_reverse p [] = refl
any_reverse p (x ∷ xs) =
    ap (list_any p) (reverse-append (x ∷ []) xs)
    ∙ (any_append p (reverse xs) (x ∷ []) ∙ (ap (λ t. t || (p x || false)) (any_reverse p xs) ∙ (either_way (list_any p xs) (p x || false) ∙ last (p x) (list_any p xs))))
  where
    last : (a b : Bool) → ((a || false) || b) ≡ (a || b)
    last true b = refl
    last false b = refl

any_entered : (id : SurfaceId) (passes : List SearchedPass) → list_any (λ (s : SearchedPass). s.is_root && same_surface id s.submitted.id) passes ≡ list_any (same_surface id) (path_into passes)
any_entered id [] = refl
any_entered id (s ∷ outer) = one s.is_root (same_surface id s.submitted.id) s.submitted.id refl (any_entered id outer)
  where
    one : (t u : Bool) (a : SurfaceId) {x : Bool} → same_surface id a ≡ u → x ≡ list_any (same_surface id) (path_into outer) → ((t && u) || x) ≡ list_any (same_surface id) (onward t a (path_into outer))
    one true u a e h = ap (λ b. u || b) h ∙ ap (λ b. b || list_any (same_surface id) (path_into outer)) (sym e)
    one false u a e h = h

-- a surface was entered on the way to here, or here
pub on_the_path : (t : Bool) (own id : SurfaceId) (stack : List SearchedPass)
    → (list_any (λ (s : SearchedPass). s.is_root && same_surface id s.submitted.id) stack || (t && same_surface id own)) ≡ list_any (same_surface id) (onward t own (path_into (reverse stack)))
on_the_path t own id stack = ap (λ b. b || (t && same_surface id own)) before ∙ here t (list_any (same_surface id) (path_into (reverse stack))) refl
  where
    before : list_any (λ (s : SearchedPass). s.is_root && same_surface id s.submitted.id) stack ≡ list_any (same_surface id) (path_into (reverse stack))
    before = sym (any_reverse (λ (s : SearchedPass). s.is_root && same_surface id s.submitted.id) stack) ∙ any_entered id (reverse stack)

    here : (u : Bool) (b : Bool) → b ≡ list_any (same_surface id) (path_into (reverse stack)) → (b || (u && same_surface id own)) ≡ list_any (same_surface id) (onward u own (path_into (reverse stack)))
    here true b e = either_way b (same_surface id own) ∙ ap (λ x. same_surface id own || x) e
    here false b e = nothing_more b ∙ e
      where
        nothing_more : (x : Bool) → (x || false) ≡ x
        nothing_more true = refl
        nothing_more false = refl

-- Turns

or_assoc : (a b c : Target) → or_else (or_else a b) c ≡ or_else a (or_else b c)
or_assoc None b c = refl
or_assoc (Some x) b c = refl

if_covered : (t : Bool) (m later rest : Target)
    → or_else (elim t [ true ↦ or_else m later | false ↦ later ]) rest ≡ or_else (elim t [ true ↦ m | false ↦ None ]) (or_else later rest)
if_covered true m later rest = or_assoc m later rest
if_covered false m later rest = refl

-- a pass without quads that are left hits nothing
pub nothing_left : (active : List FrameData) (s : SearchedPass) (outer : List SearchedPass) → s.quads ≡ [] → hit_first active outer ≡ hit_first active (s ∷ outer)
unfolding quads_hit
nothing_left active s outer none =
    ap (λ (qs : List DrawQuad). or_else (quads_here (finder_in active (path_into outer) s) s.earlier s.pass qs s.point) (hit_first active outer)) (sym none)

-- One turn: the first quad that is left answers, and `next` is the pass without it
module _ (active : List FrameData) (stack : List SearchedPass) (s next : SearchedPass) (quad : DrawQuad) (is : s.quads ≡ quad ∷ next.quads) (same : next ≡ with_quads s next.quads) (seen : List SearchedPass) (all : seen ≡ stack) where
  abbrev outer : List SearchedPass
  outer = reverse stack

  abbrev before : List SurfaceId
  before = path_into outer

  -- what is known of an answer, as the path was read
  abbrev Answers : QuadAnswer → Type 0
  Answers a = answer (finder_in active (path_into (reverse seen)) next) a ≡ quad_left active (path_into (reverse seen)) next quad

  quad_first : or_else (quad_left active before s quad) (hit_first active (with_quads s next.quads ∷ outer)) ≡ hit_first active (s ∷ outer)
  unfolding quads_hit
  quad_first =
      sym (if_covered (covers s.pass quad s.point) (quad_here (finder_in active before s) s.earlier quad s.point)
      (quads_here (finder_in active before s) s.earlier s.pass next.quads s.point) (hit_first active outer))
      ∙ ap (λ (qs : List DrawQuad). or_else (quads_here (finder_in active before s) s.earlier s.pass qs s.point) (hit_first active outer)) (sym is)

  answered : (a : QuadAnswer) → Answers a → or_else (answer (finder_in active before next) a) (hit_first active (next ∷ outer)) ≡ hit_first active (s ∷ outer)
  answered a e =
      let now = subst (λ (xs : List SearchedPass). answer (finder_in active (path_into (reverse xs)) next) a ≡ quad_left active (path_into (reverse xs)) next quad) all e in
      ap (λ (t : Target). or_else t (hit_first active (next ∷ outer))) now
      ∙ (ap (λ (n : SearchedPass). or_else (quad_left active before n quad) (hit_first active (n ∷ outer))) same ∙ quad_first)

  on_top : (mid : List SearchedPass) → mid ≡ stack ++ next ∷ [] → reverse mid ≡ next ∷ outer
  on_top mid pushed = ap reverse pushed ∙ reverse-append stack (next ∷ [])

  pub nothing_hit : (new : List SearchedPass) → Answers Nothing → new ≡ stack ++ next ∷ []
      → hit_first active (reverse new) ≡ hit_first active (s ∷ outer)
  nothing_hit new e pushed = ap (hit_first active) (on_top new pushed) ∙ answered Nothing e

  pub surface_hit : (id : SurfaceId) (entry : Point) → Answers Surface → id ≡ next.submitted.id → entry ≡ next.entry
      → ◌≡◌ {A = Target} (Some (id, entry)) (hit_first active (s ∷ outer))
  surface_hit id entry e own at = (λ j. Some (own j, at j)) ∙ answered Surface e

  pub inside_hit : (inner : SearchedPass) (mid new : List SearchedPass) → Answers (Inside inner) → mid ≡ stack ++ next ∷ [] → new ≡ mid ++ inner ∷ []
      → hit_first active (reverse new) ≡ hit_first active (s ∷ outer)
  inside_hit inner mid new e pushed more =
      ap (hit_first active) (ap reverse more ∙ (reverse-append mid (inner ∷ []) ∙ ap (λ (ls : List SearchedPass). inner ∷ ls) (on_top mid pushed))) ∙ answered (Inside inner) e
