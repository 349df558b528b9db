-- The ends of a desk that begins.
use Rattle.std.specs.Prelude.{All}
use Rattle.std.proofs.Common.{◌≡◌, ℕ, zero, suc, ◌+◌, ◌<◌, ◌≤◌, List, [], ◌∷◌, ◌++◌, map, take, drop, length, refl, ap, sym, ◌∙◌, subst, arith, length-append, append_assoc, Option, Some}
use Rattle.atomic_table.specs.Seated.{TableId}
use Rattle.vz_loans.specs.Tokens.{Caller, unused, unused_from}
use Rattle.vz_loans.proofs.Closing.{Each, all_of, each_of, each_rest}
use Rattle.vz_rules.specs.{Plan.Plan, declared.entry.Entry.Entry, Step.Legal, Step.LegalFrom, Whole.mine, Accounts.takes, Course.displayed}
use Rattle.vz_desk.specs.{declared.totals.Totals.Totals, Totals.no_totals, Totals.no_display_totals, Totals.AreTotals, Totals.AreDisplayTotals}
use Rattle.vz_desk.specs.Owners.{Owner, owner_of, fresh, fresh_from, IsEnd, IsDisplayEnd, IsPlanned, IsUnused}
use Rattle.std.proofs.lemmas.Bool.Decides.{nat_tests}

none_legal : (p : Plan) → Legal p []
unfolding Legal LegalFrom
none_legal p = tt

none_counted : (p : Plan) (c : ℕ) → AreTotals p [] c no_totals
unfolding mine takes
none_counted p c = record { calls = refl; taken = refl; accepted = refl; refused = refl; lent = refl; back = refl }

pub new_end : (t : Caller Plan Entry) → IsUnused t → IsEnd t no_totals
new_end t u = record {
  rests = u.begins.rests;
  plan = u.begins.plan;
  history = [];
  sees = record { planned = u.begins.planned; seen = u.begins.seen; legal = none_legal u.begins.plan };
  client = u.client;
  counted = none_counted u.begins.plan t.number;
}

none_displayed : AreDisplayTotals [] no_display_totals
unfolding displayed
none_displayed = record { begins = refl; draws = refl; drawn = refl; dones = refl; in_flight = refl }

pub new_display : (t : Caller Plan Entry) → t.number ≡ 0 → IsPlanned t → IsDisplayEnd t no_display_totals
new_display t display u = record {
  rests = u.rests;
  display = display;
  plan = u.plan;
  history = [];
  sees = record { planned = u.planned; seen = u.seen; legal = none_legal u.plan };
  counted = none_displayed;
}

abbrev pub begun : Caller Plan Entry → Owner Totals
begun t = owner_of t no_totals

-- the last tokens were taken, and an end was made of each
pub record Dealt (all tokens : List (Caller Plan Entry)) (ends : List (Owner Totals)) : Type 0 where
  pub taken : List (Caller Plan Entry)
  pub split : all ≡ tokens ++ taken
  pub made : ends ≡ map begun taken

rest_of : (left rest : List (Caller Plan Entry)) → 0 < length left → Each IsUnused (drop 1 (left ++ rest)) → Each IsUnused rest
rest_of [] rest some h = absurd (omega (arith, some))
rest_of (x ∷ left) rest some h = each_rest IsUnused left rest h

-- each token that is taken is one of a client
pub one_unused : (all tokens left : List (Caller Plan Entry)) (t : Caller Plan Entry) (ends : List (Owner Totals)) → All IsUnused (drop 1 all) → Dealt all tokens ends → tokens ≡ left ++ t ∷ [] → 1 < length tokens → IsUnused t
one_unused all tokens left t ends h d is many =
    let long = ap length is ∙ length-append left (t ∷ []) in
    let each = subst (λ l. Each IsUnused (drop 1 l)) (d.split ∙ ap (λ l. l ++ d.taken) is ∙ append_assoc left (t ∷ []) d.taken) (each_of IsUnused (drop 1 all) h) in
    (rest_of left (t ∷ d.taken) (omega (arith, long, many)) each).0

one_left : (tokens taken : List (Caller Plan Entry)) → 0 < length tokens → length tokens ≤ 1 → (tokens ≡ take 1 (tokens ++ taken)) × (taken ≡ drop 1 (tokens ++ taken))
one_left [] taken some few = absurd (omega (arith, some))
one_left (x ∷ []) taken some few = (refl, refl)
one_left (x ∷ (y ∷ tokens)) taken some few = absurd (omega (arith, few))

pub dealt_tokens : (all tokens : List (Caller Plan Entry)) (ends : List (Owner Totals)) → Dealt all tokens ends → 0 < length tokens → length tokens ≤ 1 → tokens ≡ take 1 all
dealt_tokens all tokens ends d some few = (one_left tokens d.taken some few).0 ∙ ap (take 1) (sym d.split)

pub dealt_ends : (all tokens : List (Caller Plan Entry)) (ends : List (Owner Totals)) → Dealt all tokens ends → 0 < length tokens → length tokens ≤ 1 → ends ≡ map begun (drop 1 all)
dealt_ends all tokens ends d some few = d.made ∙ ap (map begun) ((one_left tokens d.taken some few).1 ∙ ap (drop 1) (sym d.split))

-- the ends of clients before their first calls
pub fresh_are : (id : TableId) (plan : Plan) (k count : ℕ) → map begun (unused_from id (Some plan) k count) ≡ fresh_from id plan k count
fresh_are id plan k zero = refl
fresh_are id plan k (suc count) = ap (λ l. fresh id plan no_totals k ∷ l) (fresh_are id plan (k + 1) count)

unused_each : (id : TableId) (plan : Plan) (k count : ℕ) → 0 < k → k + count ≤ length plan.files + 1 → Each IsUnused (unused_from id (Some plan) k count)
unused_each id plan k zero some few = tt
unused_each id plan k (suc count) some few = (
  record { begins = record { plan = plan; planned = refl; seen = refl; rests = refl }; client = (some, omega (arith, few)) },
  unused_each id plan (k + 1) count (omega arith) (omega (arith, few)),
)

pub all_unused : (id : TableId) (plan : Plan) (clients : ℕ) (tokens : List (Caller Plan Entry)) → tokens ≡ unused_from id (Some plan) 0 (clients + 1) → clients ≡ length plan.files → All IsUnused (drop 1 tokens)
all_unused id plan clients tokens is all =
    let more : clients + 1 ≡ suc clients = omega arith in
    subst (λ l. All IsUnused (drop 1 l)) (sym (is ∙ ap (unused_from id (Some plan) 0) more)) (all_of IsUnused (unused_from id (Some plan) 1 clients) (unused_each id plan 1 clients (omega arith) (omega (arith, all))))

pub ends_are : (id : TableId) (plan : Plan) (clients : ℕ) (tokens : List (Caller Plan Entry)) (ends : List (Owner Totals)) → tokens ≡ unused_from id (Some plan) 0 (clients + 1) → ends ≡ map begun (drop 1 tokens) → ends ≡ fresh_from id plan 1 clients
ends_are id plan clients tokens ends is made = grind (arith, nat_tests, fresh_are id plan 1 clients)

-- the first token is the display's
pub first_is : (id : TableId) (plan : Plan) (clients : ℕ) (tokens one : List (Caller Plan Entry)) → tokens ≡ unused_from id (Some plan) 0 (clients + 1) → one ≡ take 1 tokens → one ≡ unused id (Some plan) 0 ∷ []
first_is id plan clients tokens one is first = let more : clients + 1 ≡ suc clients = omega arith in first ∙ ap (take 1) (is ∙ ap (unused_from id (Some plan) 0) more)

pub planned_is : (id : TableId) (plan : Plan) (n : ℕ) (t : Caller Plan Entry) → t ≡ unused id (Some plan) n → IsPlanned t
planned_is id plan n t is = subst IsPlanned (sym is) record { plan = plan; planned = refl; seen = refl; rests = refl }

pub length_unused : (id : TableId) (plan : Option Plan) (k count : ℕ) → length (unused_from {E = Entry} id plan k count) ≡ count
length_unused id plan k zero = refl
length_unused id plan k (suc count) = ap suc (length_unused id plan (k + 1) count)

one_of : (left : List (Caller Plan Entry)) (t u : Caller Plan Entry) → left ++ t ∷ [] ≡ u ∷ [] → t ≡ u
one_of [] t u is = cc
one_of (x ∷ left) t u is = let l = ap length is in let m = length-append left (t ∷ []) in absurd (omega (arith, l, m))

-- the token that is left is the display's
pub last_is : (id : TableId) (plan : Plan) (clients : ℕ) (tokens one left : List (Caller Plan Entry)) (t : Caller Plan Entry) → tokens ≡ unused_from id (Some plan) 0 (clients + 1) → one ≡ take 1 tokens → one ≡ left ++ t ∷ []
    → t ≡ unused id (Some plan) 0
last_is id plan clients tokens one left t is first last = one_of left t (unused id (Some plan) 0) (sym last ∙ first_is id plan clients tokens one is first)
