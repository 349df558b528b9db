-- Feedback that is given, and the submissions of a frame that is done.
use Rattle.std.proofs.Common.{◌≡◌, ℕ, ◌+◌, Bool, true, not, ◌&&◌, ◌||◌, Option, Some, None, is_none, List, [], ◌∷◌, ◌++◌, length, ◌<◌, ◌≤◌, take, get_or, filter_map, take_all, sym, subst, arith, cond}
use Rattle.std.proofs.{lemmas.List.take_more, lemmas.Bool.Decides.nat_tests}
use Rattle.vz_ids.specs.{declared.Sub.Sub, Ids.same_sub}
use Rattle.vz_rules.specs.{declared.entry.Fed.Fed, World.World, World.Submission, World.has_sub, Ends.landed, Ends.presenting}
use Rattle.vz_rules.specs.Returns.{feedback_of, mark_fed, feed, fed_in, give_back}
use Rattle.vz_returns.specs.{Owed.Owed, Owed.Owes, Owed.AreOwed, Notes.IsNoted, Notes.is_name, Notes.noted, Notes.without_due}
use Rattle.vz_returns.proofs.{Owes.owes_same, Owes.owes_given, Noted.owes_noted, Single.given, Single.also, Single.landed_flat, Single.twice_flat}

-- what is given is the feedback of the state
pub fed_is : (presented : List Sub) (w : World) (before list : List Fed) → list ≡ before ++ filter_map (feedback_of w presented) w.subs
    → list ≡ before ++ fed_in presented w
unfolding fed_in
fed_is presented w before list e = e

-- one that gets feedback gets none behind it
none_behind : (fed has ends : Bool) (x y : Fed)
    → cond (fed || not (is_none (cond fed None (cond has (Some x) (cond ends (Some y) None))))) None (cond ends (Some y) None) ≡ None
none_behind fed has ends x y = grind (arith, nat_tests)

still_awaits : (fed : Bool) (g v : Option Fed) → v ≡ None → (not (fed || not (is_none g)) && is_none v) ≡ (not fed && is_none g)
still_awaits fed g v e = grind (arith, nat_tests)

pub owed_fed : (presented : List Sub) (w : World) (old new : Owed) → Owes (feedback_of w presented) w.subs old → new ≡ without_due old
    → AreOwed (feed presented w) new
unfolding feed
owed_fed presented w old new o is = grind (arith, nat_tests, owes_given (mark_fed w presented) (feedback_of w presented) (feedback_of w []) w.subs old new, still_awaits, none_behind)

-- The frame that is done

pub owed_landed : (drawn : List Sub) (w : World) (f : Owed) → w.in_flight ≡ Some drawn
    → Owes (noted (has_sub drawn) true (feedback_of w [])) w.subs f → Owes (feedback_of (landed w) drawn) w.subs f
owed_landed drawn w f flies o = grind (arith, nat_tests, owes_same, landed_flat, given, also)

pub owed_presented : (drawn : List Sub) (w : World) (old new : Owed) → w.in_flight ≡ Some drawn
    → Owes (noted (has_sub drawn) true (feedback_of w [])) w.subs old → new ≡ without_due old
    → AreOwed (presenting drawn (landed w)).world new
unfolding give_back feed
owed_presented drawn w old new flies o is = owed_fed drawn (landed w) old new (owed_landed drawn w old flies o) is

-- One more of those that were drawn

has_push : (xs : List Sub) (x t : Sub) → has_sub (xs ++ x ∷ []) t ≡ (has_sub xs t || same_sub x t)
has_push [] x t = grind (arith, nat_tests)
has_push (y ∷ xs) x t = grind (arith, nat_tests, has_push xs x t)

pub noted_more : (xs : List Sub) (x : Sub) (gets : Submission → Option Fed) (subs : List Submission) (f : Owed)
    → Owes (noted (is_name (Some x)) true (noted (has_sub xs) true gets)) subs f
    → Owes (noted (has_sub (xs ++ x ∷ [])) true gets) subs f
noted_more xs x gets subs f o = grind (arith, nat_tests, owes_same, has_push, twice_flat)

pub noted_next : (drawn : List Sub) (i : ℕ) (d : Sub) (gets : Submission → Option Fed) (subs : List Submission) (mid new : Owed)
    → i < length drawn
    → Owes (noted (has_sub (take i drawn)) true gets) subs mid → IsNoted (Some (get_or drawn i d)) true mid new
    → Owes (noted (has_sub (take (i + 1) drawn)) true gets) subs new
noted_next drawn i d gets subs mid new h o is =
    subst (λ l. Owes (noted (has_sub l) true gets) subs new) (sym (take_more drawn i d h))
    (noted_more (take i drawn) (get_or drawn i d) gets subs new
    (owes_noted true (noted (has_sub (take i drawn)) true gets) subs mid o (Some (get_or drawn i d)) new is))

pub noted_all : (drawn : List Sub) (i : ℕ) (gets : Submission → Option Fed) (subs : List Submission) (f : Owed) → length drawn ≤ i
    → Owes (noted (has_sub (take i drawn)) true gets) subs f → Owes (noted (has_sub drawn) true gets) subs f
noted_all drawn i gets subs f h o = subst (λ l. Owes (noted (has_sub l) true gets) subs f) (take_all i drawn h) o
