-- Submissions that are gathered one after the other, each once.
use Rattle.std.proofs.Common.{◌≡◌, ℕ, zero, suc, ◌+◌, Bool, true, false, Some, List, [], ◌∷◌, ◌++◌, refl, ap, sym, ◌∙◌}
use Rattle.std.proofs.Common.{◌⊎◌, inl, inr, IsFalse, Contains, slice_get, take, drop, arith, cond, subst, if◌then◌else◌}
use Rattle.std.proofs.{lemmas.Bool.Decides.nat_tests, lemmas.Bool.or_parts as or_no, lemmas.Bool.or_from as no_or}
use Rattle.std.specs.List.{list_any}
use Rattle.vz_ids.specs.{declared.Sub.Sub, Ids.same_sub}
use Rattle.vz_rules.specs.{Closure.adding, World.has_sub}
use Rattle.vz_rules.proofs.Members.{contains_none, contains_cases, contains_here, contains_there, contains_push, push_contains}
use Rattle.vz_rules.proofs.Members.{push_contains_last, any_at, none_at, at_contains, map_contains}
use Rattle.vz_surface_manager.specs.{Flown.Flown, Flown.subs_of, Rosters.same_flown}
use Rattle.vz_surface_manager.proofs.Entries.{named}
use Rattle.vz_rules.proofs.Facts.{flip as eq_sym}

pub sub_sym : (a b : Sub) → same_sub a b ≡ same_sub b a
sub_sym a b = grind (arith, nat_tests, eq_sym a.client b.client, eq_sym a.ordinal b.ordinal)

abbrev one_added : List Flown → Flown → List Flown
one_added xs f = if list_any (same_flown f) xs then xs else xs ++ f ∷ []

-- What is there

kept_by : (t : Bool) (xs : List Flown) (g f : Flown) → Contains xs f → Contains (cond t xs (xs ++ g ∷ [])) f
kept_by true xs g f c = c
kept_by false xs g f c = push_contains xs g f c

-- what was there stays
pub adding_keeps : (xs ys : List Flown) (f : Flown) → Contains xs f → Contains (adding same_flown xs ys) f
adding_keeps xs [] f c = c
adding_keeps xs (g ∷ ys) f c = adding_keeps (one_added xs g) ys f (kept_by (list_any (same_flown g) xs) xs g f c)

from_by : (t : Bool) (xs : List Flown) (g f : Flown) → Contains (cond t xs (xs ++ g ∷ [])) f → Contains xs f ⊎ (g ≡ f)
from_by true xs g f c = inl c
from_by false xs g f c = contains_push xs g f c

-- what is there was there or was added
pub adding_from : (xs ys : List Flown) (f : Flown) → Contains (adding same_flown xs ys) f → Contains xs f ⊎ Contains ys f
adding_from xs [] f c = inl c
adding_from xs (g ∷ ys) f c =
    elim (adding_from (one_added xs g) ys f c) [
      | inl m ↦ elim (from_by (list_any (same_flown g) xs) xs g f m) [
        | inl n ↦ inl n
        | inr e ↦ inr (subst (λ x. Contains (g ∷ ys) x) e (contains_here g ys))
      ]
      | inr m ↦ inr (contains_there g f ys m)
    ]

module _ (P : Flown → Type 0) (alone : (f g : Flown) → P f → P g → same_flown f g ≡ true → f ≡ g) where
  there_by : (t : Bool) (xs : List Flown) (f : Flown) → list_any (same_flown f) xs ≡ t → ((g : Flown) → Contains xs g → P g) → P f
      → Contains (cond t xs (xs ++ f ∷ [])) f
  there_by true xs f e all p = grind (arith, nat_tests, any_at (same_flown f) xs e)
  there_by false xs f e all p = push_contains_last xs f

  all_by : (t : Bool) (xs : List Flown) (f g : Flown) → ((g : Flown) → Contains xs g → P g) → P f
      → Contains (cond t xs (xs ++ f ∷ [])) g → P g
  all_by t xs f g all p c = elim (from_by t xs f g c) [ inl m ↦ all g m | inr e ↦ subst P e p ]

  -- where those of one name are one, all that are added are there
  pub adding_has : (xs ys : List Flown) (f : Flown) → ((g : Flown) → Contains xs g → P g) → ((g : Flown) → Contains ys g → P g)
      → Contains ys f → Contains (adding same_flown xs ys) f
  adding_has xs [] f all more c = absurd (contains_none f c)
  adding_has xs (g ∷ ys) f all more c =
      elim (contains_cases g f ys c) [
        | inl e ↦ adding_keeps (one_added xs g) ys f
            (subst (λ x. Contains (one_added xs g) x) e (there_by (list_any (same_flown g) xs) xs g refl all (more g (contains_here g ys))))
        | inr m ↦ adding_has (one_added xs g) ys f (λ h k. all_by (list_any (same_flown g) xs) xs g h all (more g (contains_here g ys)) k)
            (λ h k. more h (contains_there g h ys k)) m
      ]

-- Each once

-- no submission stands twice
abbrev pub Once : List Flown → Type 0
Once [] = Unit {0}
Once (f ∷ fs) = IsFalse (has_sub (subs_of fs) f.0) × Once fs

has_push : (xs : List Flown) (g : Flown) (sub : Sub) → has_sub (subs_of xs) sub ≡ false → same_sub sub g.0 ≡ false
    → has_sub (subs_of (xs ++ g ∷ [])) sub ≡ false
has_push [] g sub e f = no_or (same_sub sub g.0) false f refl
has_push (x ∷ xs) g sub e f = grind (arith, nat_tests, or_no (same_sub sub x.0) (has_sub (subs_of xs) sub) e, no_or (same_sub sub x.0), has_push xs g sub)

once_push : (xs : List Flown) (g : Flown) → Once xs → has_sub (subs_of xs) g.0 ≡ false → Once (xs ++ g ∷ [])
once_push [] g h e = (refl, tt)
once_push (x ∷ xs) g h e = grind (arith, nat_tests, or_no (same_sub g.0 x.0) (has_sub (subs_of xs) g.0) e, has_push xs g x.0 h.0, sub_sym x.0 g.0, once_push xs g h.1)

once_by : (t : Bool) (xs : List Flown) (g : Flown) → list_any (same_flown g) xs ≡ t → Once xs → Once (cond t xs (xs ++ g ∷ []))
once_by t xs g e h = grind (arith, nat_tests, once_push xs g h, named xs g)

pub adding_once : (xs ys : List Flown) → Once xs → Once (adding same_flown xs ys)
adding_once xs [] h = h
adding_once xs (g ∷ ys) h = adding_once (one_added xs g) ys (once_by (list_any (same_flown g) xs) xs g refl h)

-- one is not among those before it
pub once_before : (xs : List Flown) → Once xs → (k : ℕ) (f : Flown) → slice_get xs k ≡ Some f → has_sub (subs_of (take k xs)) f.0 ≡ false
once_before [] h k f e = absurd (cc)
once_before (x ∷ xs) h zero f e = refl
once_before (x ∷ xs) h (suc k) f e =
    no_or (same_sub f.0 x.0) (has_sub (subs_of (take k xs)) f.0)
    (sub_sym f.0 x.0 ∙ none_at (same_sub x.0) (subs_of xs) f.0 h.0 (map_contains (λ (g : Flown). g.0) xs f (at_contains xs k f e)))
    (once_before xs h.1 k f e)

behind_by : (xs : List Flown) → Once xs → (k : ℕ) (f : Flown) → slice_get xs k ≡ Some f → has_sub (subs_of (drop (suc k) xs)) f.0 ≡ false
behind_by [] h k f e = absurd (cc)
behind_by (x ∷ xs) h zero f e = let one : x ≡ f = cc in subst (λ (g : Flown). has_sub (subs_of xs) g.0 ≡ false) one h.0
behind_by (x ∷ xs) h (suc k) f e = behind_by xs h.1 k f e

next_is : (k : ℕ) → suc k ≡ k + 1
next_is k = omega arith

-- nor among those behind it
pub once_behind : (xs : List Flown) → Once xs → (k : ℕ) (f : Flown) → slice_get xs k ≡ Some f
    → has_sub (subs_of (drop (k + 1) xs)) f.0 ≡ false
once_behind xs h k f e = ap (λ n. has_sub (subs_of (drop n xs)) f.0) (sym (next_is k)) ∙ behind_by xs h k f e
