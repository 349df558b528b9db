-- How the display's rounds follow one another.
use Rattle.std.proofs.Common.{◌≡◌, ◌⊎◌, inl, inr, ℕ, Bool, List, [], ◌∷◌, ◌++◌, refl, ap, sym, ◌∙◌, subst, append-nil, append_assoc, Result, Err, arith}
use mathlib.Core.List.{IsPrefix}
use Rattle.vz_outside.specs.{declared.shelf.ShelfError.ShelfError, declared.shelf.ShelfError.TheVariants.Memory}
use Rattle.vz_rules.specs.declared.entry.Event.TheVariants as event
use Rattle.vz_rules.specs.{declared.entry.Entry.Entry, Course.displayed, Course.IsPaced}
use Rattle.vz_desk.specs.{Owners.Owner, Owners.IsSameOwner, Owners.MakesNone, Totals.DisplayTotals, Displays.Displays}
use Rattle.vz_threads.specs.Outlets.{Outlook}
use Rattle.vz_threads.specs.Rounds.{Setup, IsAt, IsCut, HasPlayed, HasBegun, HasEnded}
use Rattle.vz_threads.proofs.{Ending.paced_on, Rounding.begun_goes, Rounding.over_goes, Rounding.event_is, Rounding.cut_here}
use Rattle.std.proofs.{lemmas.Bool.Decides.nat_tests, lemmas.Grind.common_steps}

pub same_self : (d : Owner DisplayTotals) → IsSameOwner d d
same_self d = record { desk = refl; plan = refl; number = refl; later = ([], append-nil d.seen) }

-- cut short just there
pub cut_at : (k : Setup) (start now : Outlook) (d : Owner DisplayTotals) (h : List Entry) → IsAt k start now d h → IsCut k start now d h (Err Memory)
cut_at k start now d h at = cut_here k start now d d h at (same_self d) (record { mine = refl; totals = refl })

pub prefix_then : {A : Type 0} (xs ys zs : List A) → IsPrefix xs ys → IsPrefix ys zs → IsPrefix xs zs
prefix_then xs ys zs a b = (a.0 ++ b.0, sym (append_assoc xs a.0 b.0) ∙ ap (λ l. l ++ b.0) a.1 ∙ b.1)

pub same_then : (a b c : Owner DisplayTotals) → IsSameOwner a b → IsSameOwner b c → IsSameOwner a c
same_then a b c x y = grind (arith, nat_tests, prefix_then a.seen b.seen c.seen x.later y.later)

-- cut short still, where the display makes no entry more
pub cut_later : (k : Setup) (start now : Outlook) (d d' : Owner DisplayTotals) (h : List Entry) (r : Result (Unit {0}) ShelfError) → IsCut k start now d h r → IsSameOwner d d' → MakesNone d d' → IsCut k start now d' h r
cut_later k start now d d' h r cut same none = grind (arith, nat_tests, common_steps, prefix_then)

-- also where its outlet is closed then
pub cut_stopped : (k : Setup) (start was now : Outlook) (d d' : Owner DisplayTotals) (h : List Entry) (r : Result (Unit {0}) ShelfError) → IsCut k start was d h r → IsSameOwner d d' → MakesNone d d' → now ≡ was → IsCut k start now d' h r
cut_stopped k start was now d d' h r cut same none is = subst (λ (s : Outlook). IsCut k start s d' h r) (sym is) (cut_later k start was d d' h r cut same none)

-- the history that a begin-frame leaves
pub begun_at : (k : Setup) (start now : Outlook) (d d' : Owner DisplayTotals) (h : List Entry) → IsAt k start now d h → IsSameOwner d d' → (x : Displays d d' event.Begin) → IsAt k start now d' (x.before ++ x.made ∷ [])
begun_at k start now d d' h at same x = (begun_goes k start now d d' h at same x).at

-- cut short where a round was to be begun
pub cut_opening : (k : Setup) (start now : Outlook) (d d' : Owner DisplayTotals) (h : List Entry) → IsAt k start now d h → IsSameOwner d d' → Displays d d' event.Begin ⊎ MakesNone d d' → (history : List Entry) × IsCut k start now d' history (Err Memory)
cut_opening k start now d d' h at same (inl x) = (x.before ++ x.made ∷ [], cut_at k start now d' (x.before ++ x.made ∷ []) (begun_at k start now d d' h at same x))
cut_opening k start now d d' h at same (inr none) = (h, cut_here k start now d d' h at same none)

-- a round is begun
pub round_begun : (k : Setup) (paced : Bool) (start now : Outlook) (d d' : Owner DisplayTotals) (n : ℕ) → HasPlayed k paced start now d n → IsSameOwner d d' → Displays d d' event.Begin → HasBegun k paced start now d' n
round_begun k paced start now d d' n p same x =
    let on = begun_goes k start now d d' p.history p.at same x in
    record {
      history = x.before ++ x.made ∷ [];
      at = on.at;
      first = displayed p.history;
      begin = x.made;
      all = on.made;
      made = p.made;
      is_begin = event_is k start now d d' p.history p.at same event.Begin refl x;
      pace = λ t. subst (λ (l : List Entry). IsPaced k.plan l n) on.later.1 (paced_on k.plan p.history on.later.0 n (p.pace t));
    }

-- the rounds are over
pub rounds_over : (k : Setup) (paced : Bool) (start now : Outlook) (d d' : Owner DisplayTotals) (n : ℕ) → HasPlayed k paced start now d n → IsSameOwner d d' → Displays d d' event.Over → HasEnded k paced start now d' n
rounds_over k paced start now d d' n p same x =
    let on = over_goes k start now d d' p.history p.at same x in
    record {
      history = x.before ++ x.made ∷ [];
      at = on.at;
      first = displayed p.history;
      over = x.made;
      all = on.made;
      made = p.made;
      is_over = event_is k start now d d' p.history p.at same event.Over refl x;
      pace = λ t. subst (λ (l : List Entry). IsPaced k.plan l n) on.later.1 (paced_on k.plan p.history on.later.0 n (p.pace t));
    }
