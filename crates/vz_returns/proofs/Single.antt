-- The feedback of one submission, by whether it has some, ended and is in flight.
use Rattle.std.proofs.Common.{arith, ◌≡◌, Bool, true, false, not, ◌&&◌, ◌||◌, Option, Some, None, is_none, [], refl, ap, sym, ◌∙◌, cond}
use Rattle.std.proofs.{lemmas.Bool.Decides.nat_tests, lemmas.Bool.and_right}
use Rattle.vz_rules.specs.{declared.entry.Fed.Fed, declared.entry.State.State, Returns.feedback_of}
use Rattle.vz_rules.specs.World.{World, Submission, is_waiting, is_active, is_ended, is_in_flight, sub_of}
use Rattle.vz_returns.specs.Notes.{fed_as}

-- what it gets, where it has some, ended and is in flight
abbrev pub given : Bool → Bool → Bool → Fed → Option Fed
given fed ended flies x = cond fed None (cond (ended && not flies) (Some x) None)

-- what it gets where it gets this besides, if a test holds and it awaits some
abbrev pub also : Bool → Option Fed → Bool → Fed → Option Fed
also fed g m x = cond ((not fed && is_none g) && m) (Some x) g

cond_same : {A : Type 0} (t : Bool) (x : A) → cond t x x ≡ x
cond_same true x = refl
cond_same false x = refl

pub at_cond : {A B : Type 0} (g : A → B) (t : Bool) (x y : A) → g (cond t x y) ≡ cond t (g x) (g y)
at_cond g true x y = refl
at_cond g false x y = refl

not_also : (fed : Bool) (g : Option Fed) (m : Bool) (x : Fed) → m ≡ false → also fed g m x ≡ g
not_also fed g m x e = ap (λ b. cond b (Some x) g) (and_right (not fed && is_none g) m e)

-- One that ends

ended_flat : (fed stands flies t m : Bool) (x : Fed) → (t ≡ true → stands ≡ true) → m ≡ (t && not flies)
    → cond t (given fed true flies x) (given fed (not stands) flies x) ≡ also fed (given fed (not stands) flies x) m x
ended_flat true stands flies t m x h e = cond_same t None
ended_flat false stands flies false m x h e = sym (not_also false (given false (not stands) flies x) m x e)
ended_flat false false flies true m x h e = let no_way = h refl in absurd (cc)
ended_flat false true true true m x h e = ap (λ b. cond b (Some x) None) (sym e)
ended_flat false true false true m x h e = ap (λ b. cond b (Some x) None) (sym e)

pub ends_one : (w : World) (u : Submission) (state : State) (t m : Bool) → is_ended (record u { state = state }) ≡ true
    → (t ≡ true → (is_waiting u || is_active u) ≡ true) → m ≡ (t && not (is_in_flight w.in_flight (sub_of u)))
    → feedback_of w [] (cond t (record u { state = state }) u) ≡ also u.fed (feedback_of w [] u) m (fed_as false (sub_of u))
ends_one w u state t m ends stands e = grind (arith, nat_tests, at_cond (feedback_of w []) t, ended_flat u.fed (is_waiting u || is_active u))

-- One that waits and becomes active

pub open_none : (fed a b flies : Bool) (x : Fed) → a ≡ true → given fed (not (a || b)) flies x ≡ None
open_none fed true b flies x e = cond_same fed None
open_none fed false b flies x e = absurd (cc)

pub none_also : (fed m : Bool) (g : Option Fed) (x : Fed) → g ≡ None → m ≡ false → cond fed None None ≡ also fed g m x
none_also fed m g x e f = cond_same fed None ∙ sym (not_also fed g m x f ∙ e)

-- One of two that end

pub ended_twice : (fed wa ac on flies m n : Bool) (x : Fed) → m ≡ ((wa && on) && not flies) → n ≡ ((ac && on) && not flies)
    → cond ((wa || ac) && (on || false)) (given fed true flies x) (given fed (not (wa || ac)) flies x)
    ≡ also fed (also fed (given fed (not (wa || ac)) flies x) m x) n x
ended_twice fed wa ac on flies m n x e f = grind (arith, nat_tests, cond_same)

-- One that is in flight, as the drawn frame is done

pub landed_flat : (fed ends has : Bool) (x y : Fed)
    → cond fed None (cond has (Some x) (cond (ends && true) (Some y) None)) ≡ also fed (given fed ends has y) has x
landed_flat fed ends has x y = grind (arith, nat_tests)

-- One of two lists

pub twice_flat : (fed a b : Bool) (g : Option Fed) (x : Fed) → also fed g (a || b) x ≡ also fed (also fed g a x) b x
twice_flat fed a b g x = grind (arith, nat_tests)
