-- Lists without some submissions, as these are gone through.
use Rattle.std.proofs.Common.{◌≡◌, ℕ, ◌+◌, ◌-◌, ◌≤◌, ◌<◌, Bool, false, not, ◌&&◌, ◌||◌, Option, Some, List, [], ◌∷◌, ◌++◌, length, take, drop, get_or, filter, refl, ap, sym, ◌∙◌, arith}
use Rattle.std.specs.{Prelude.option_to_list, List.list_any}
use Rattle.std.proofs.{lemmas.List.take_rest, lemmas.List.Folds.list_any_more, lemmas.Bool.Decides.nat_tests, lemmas.Grind.common_steps}
use Rattle.vz_ids.specs.{declared.Sub.Sub, Ids.same_sub}
use Rattle.vz_rules.specs.World.{has_sub}
use Rattle.vz_deps.specs.Tracking.{Blocked, is_blocked, without}
use Rattle.vz_deadlines.specs.{declared.due.Due.Due, Timing.waits, Timing.without as without_due}
use Rattle.vz_surface_manager.specs.Left_out.{blocked_without, due_without}
use Rattle.vz_surface_manager.proofs.Filtered.{filter_all, filter_twice, both_lengths}
pub use Rattle.std.proofs.lemmas.Bool.{or_parts as none_among}
pub use Rattle.vz_surface_manager.proofs.Live_kept.{got}

both_not : (a b c : Bool) → c ≡ (a || b) → (not a && not b) ≡ not c
both_not a b c e = grind (arith, nat_tests)

or_none : (a : Bool) → a ≡ (a || false)
or_none a = grind (arith, nat_tests)

pub blocked_none : (list : List Blocked) → list ≡ blocked_without [] list
unfolding blocked_without
blocked_none list = sym (filter_all list)

pub blocked_one : (o : Option Sub) (s : Sub) (list : List Blocked) → o ≡ Some s → without s list ≡ blocked_without (option_to_list o) list
unfolding blocked_without without
blocked_one o s list e = (λ i. filter (λ (b : Blocked). not (or_none (same_sub b.sub s) i)) list) ∙ ap (λ p. blocked_without (option_to_list p) list) (sym e)

pub blocked_next : (subs : List Sub) (k : ℕ) (d : Sub) (old new more : List Blocked) → k < length subs → new ≡ blocked_without (take k subs) old → more ≡ without (get_or subs k d) new
    → more ≡ blocked_without (take (k + 1) subs) old
unfolding blocked_without without
blocked_next subs k d old new more inside e f = grind (arith, nat_tests, common_steps, filter_twice, both_not, list_any_more)

pub due_none : (list : List Due) → list ≡ due_without [] list
unfolding due_without
due_none list = sym (filter_all list)

pub due_one : (o : Option Sub) (s : Sub) (list : List Due) → o ≡ Some s → without_due s list ≡ due_without (option_to_list o) list
unfolding due_without without_due
due_one o s list e = (λ i. filter (λ (d : Due). not (or_none (same_sub d.sub s) i)) list) ∙ ap (λ p. due_without (option_to_list p) list) (sym e)

pub due_next : (subs : List Sub) (k : ℕ) (d : Sub) (old new more : List Due) → k < length subs → new ≡ due_without (take k subs) old → more ≡ without_due (get_or subs k d) new
    → more ≡ due_without (take (k + 1) subs) old
unfolding due_without without_due
due_next subs k d old new more inside e f = grind (arith, nat_tests, common_steps, filter_twice, both_not, list_any_more)

-- none that was not there before is there

none_filtered : {A : Type 0} (p q : A → Bool) (xs : List A) → list_any q xs ≡ false → list_any q (filter p xs) ≡ false
none_filtered p q [] h = refl
none_filtered p q (x ∷ xs) h = grind (arith, nat_tests, none_filtered p q xs)

pub not_blocked : (gone : List Sub) (s : Sub) (old new : List Blocked) → new ≡ blocked_without gone old → is_blocked old s ≡ false → is_blocked new s ≡ false
unfolding is_blocked blocked_without
not_blocked gone s old new e h = ap (λ l. list_any (λ (b : Blocked). same_sub b.sub s) l) e ∙ none_filtered (λ (b : Blocked). not (has_sub gone b.sub)) (λ (b : Blocked). same_sub b.sub s) old h

pub not_due : (gone : List Sub) (s : Sub) (old new : List Due) → new ≡ due_without gone old → waits old s ≡ false → waits new s ≡ false
unfolding waits due_without
not_due gone s old new e h = ap (λ l. list_any (λ (d : Due). same_sub d.sub s) l) e ∙ none_filtered (λ (d : Due). not (has_sub gone d.sub)) (λ (d : Due). same_sub d.sub s) old h

-- they are no more than before
pub blocked_fewer : (gone : List Sub) (old new : List Blocked) → new ≡ blocked_without gone old → length new ≤ length old
unfolding blocked_without
blocked_fewer gone old new e =
    let parts = both_lengths (λ (b : Blocked). has_sub gone b.sub) old in
    let long = ap length e in
    omega (arith, parts, long)

pub blocked_one_more : (gone : List Sub) (b : Blocked) (old new more : List Blocked) → new ≡ blocked_without gone old → more ≡ new ++ b ∷ [] → length more ≤ length old + 1
blocked_one_more gone b old new more e f = grind (arith, nat_tests, common_steps, blocked_fewer gone old new e)

-- what was appended
pub appended : (old new before slice more : List Sub) → before ≡ old → slice ≡ new → new ≡ old ++ more → take (length slice - length before) (drop (length before) slice) ≡ more
appended old new before slice more e f g = grind (arith, nat_tests, common_steps, take_rest slice (length before))
