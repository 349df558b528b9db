-- What becomes of the entries that one caller made.
use Rattle.std.proofs.Common.{◌≡◌, ℕ, ◌+◌, Bool, true, cond, List, [], ◌∷◌, ◌++◌, length, refl, sym, ap, ◌∙◌, arith, ◌==◌, eq-eqb}
use mathlib.Core.List.{IsPrefix}
use Rattle.vz_loans.specs.{Rule.Log, Rule.places, Rule.places_from, Tokens.Caller, Tokens.mine, Tokens.IsSameCaller, Tokens.IsClosedBy}
use Rattle.vz_rules.specs.{Plan.Plan, World.World, declared.entry.Event.Event, declared.entry.Entry.Entry, Step.entry_in}
use Rattle.vz_turn.specs.{declared.brief.Told.Told, Calls.Makes, Own.own_entries, Own.made_with}
use Rattle.std.proofs.lemmas.Bool.Decides.{nat_tests}

-- There are as many as places

count_step : (b : Bool) (k : ℕ) (ps : List ℕ) (e : Entry) (es : List Entry) → length es ≡ length ps → length (cond b (e ∷ es) es) ≡ length (cond b (k ∷ ps) ps)
count_step b k ps e es same = grind (arith, nat_tests)

count_from : (k n : ℕ) (log : Log Entry) → length (own_entries n log) ≡ length (places_from k n log)
count_from k n [] = refl
count_from k n (x ∷ log) = count_step (x.0 == n) k (places_from (k + 1) n log) x.1 (own_entries n log) (count_from (k + 1) n log)

pub own_count : (t : Caller Plan Entry) → length (made_with t) ≡ length (mine t)
own_count t = count_from 1 t.number t.seen

-- Entries of others change nothing

none_step : (b : Bool) (k : ℕ) (ps : List ℕ) (e : Entry) (es : List Entry) → cond b (k ∷ ps) ps ≡ [] → (ps ≡ [] → es ≡ []) → cond b (e ∷ es) es ≡ []
none_step b k ps e es is rest = grind (arith, nat_tests)

none_of : (k n : ℕ) (more : Log Entry) → places_from k n more ≡ [] → own_entries n more ≡ []
none_of k n [] is = refl
none_of k n (x ∷ more) is = none_step (x.0 == n) k (places_from (k + 1) n more) x.1 (own_entries n more) is (none_of (k + 1) n more)

one_less : (b : Bool) (k : ℕ) (ps qs : List ℕ) → cond b (k ∷ ps) ps ≡ cond b (k ∷ qs) qs → ps ≡ qs
one_less b k ps qs is = grind (arith, nat_tests)

stay_from : (k n : ℕ) (log more : Log Entry) → places_from k n (log ++ more) ≡ places_from k n log → own_entries n (log ++ more) ≡ own_entries n log
stay_from k n [] more is = none_of k n more is
stay_from k n (x ∷ log) more is = ap (λ (l : List Entry). cond (x.0 == n) (x.1 ∷ l) l) (stay_from (k + 1) n log more (one_less (x.0 == n) k (places_from (k + 1) n (log ++ more)) (places_from (k + 1) n log) is))

-- if the places of a caller stay, so do its entries
own_stay : (n : ℕ) (log longer : Log Entry) → IsPrefix log longer → places n longer ≡ places n log → own_entries n longer ≡ own_entries n log
own_stay n log longer p same = ap (own_entries n) (sym p.1) ∙ stay_from 1 n log p.0 (ap (places n) p.1 ∙ same)

pub own_same : (old new : Caller Plan Entry) → IsSameCaller old new → IsPrefix old.seen new.seen → mine new ≡ mine old → made_with new ≡ made_with old
own_same old new same later none = ap (λ (n : ℕ). own_entries n new.seen) same.1 ∙ own_stay old.number old.seen new.seen later (ap (λ (n : ℕ). places n new.seen) (sym same.1) ∙ none)

pub own_closed : (plan : Plan) (log : Log Entry) (t : Caller Plan Entry) → IsClosedBy plan log t → own_entries t.number log ≡ made_with t
own_closed plan log t closed = own_stay t.number t.seen log closed.begun closed.counted

-- A caller's own entry is added

self_same : (n : ℕ) → (n == n) ≡ true
self_same n = eq-eqb n n refl

added_step : (b : Bool) (x e : Entry) (l m : List Entry) → l ≡ m ++ e ∷ [] → cond b (x ∷ l) l ≡ cond b (x ∷ m) m ++ e ∷ []
added_step b x e l m is = grind (arith, nat_tests)

own_added : (n : ℕ) (log : Log Entry) (e : Entry) → own_entries n (log ++ (n, e) ∷ []) ≡ own_entries n log ++ e ∷ []
own_added n [] e = ap (λ (b : Bool). cond b (e ∷ []) []) (self_same n)
own_added n (x ∷ log) e = added_step (x.0 == n) x.1 e (own_entries n (log ++ (n, e) ∷ [])) (own_entries n log) (own_added n log e)

place_step : (b : Bool) (k a c : ℕ) (l m : List ℕ) → a ≡ c → l ≡ m ++ a ∷ [] → cond b (k ∷ l) l ≡ cond b (k ∷ m) m ++ c ∷ []
place_step b k a c l m same is = grind (arith, nat_tests)

place_added : (k n : ℕ) (log : Log Entry) (e : Entry) → places_from k n (log ++ (n, e) ∷ []) ≡ places_from k n log ++ (k + length log) ∷ []
place_added k n [] e = ap (λ (b : Bool). cond b (k ∷ []) []) (self_same n) ∙ ap (λ (x : ℕ). x ∷ []) (omega arith)
place_added k n (x ∷ log) e = place_step (x.0 == n) k (k + 1 + length log) (k + length (x ∷ log)) (places_from (k + 1) n (log ++ (n, e) ∷ [])) (places_from (k + 1) n log) (omega arith) (place_added (k + 1) n log e)

some_left : (xs : List ℕ) (x a b : ℕ) → x ∷ (xs ++ a ∷ []) ≡ b ∷ [] → x ∷ xs ≡ []
some_left [] x a b is = absurd (cc)
some_left (y ∷ xs) x a b is = absurd (cc)

none_left : (ys : List ℕ) (y a b : ℕ) → a ∷ [] ≡ y ∷ (ys ++ b ∷ []) → [] ≡ y ∷ ys
none_left [] y a b is = absurd (cc)
none_left (z ∷ ys) y a b is = absurd (cc)

rest_same : (xs ys : List ℕ) (x y : ℕ) → x ∷ xs ≡ y ∷ ys → xs ≡ ys
rest_same xs ys x y is = cc

first_same : (xs ys : List ℕ) (x y : ℕ) → x ∷ xs ≡ y ∷ ys → x ≡ y
first_same xs ys x y is = cc

fronts_same : (xs ys : List ℕ) (a b : ℕ) → xs ++ a ∷ [] ≡ ys ++ b ∷ [] → xs ≡ ys
fronts_same [] [] a b is = refl
fronts_same [] (y ∷ ys) a b is = none_left ys y a b is
fronts_same (x ∷ xs) [] a b is = some_left xs x a b is
fronts_same (x ∷ xs) (y ∷ ys) a b is = λ i. first_same (xs ++ a ∷ []) (ys ++ b ∷ []) x y is i ∷ fronts_same xs ys a b (rest_same (xs ++ a ∷ []) (ys ++ b ∷ []) x y is) i

-- a call adds its entry to those of its caller
pub own_made : (old new : Caller Plan Entry) (e : Event) (told : Told) → IsSameCaller old new → (m : Makes old new e told) → made_with new ≡ made_with old ++ m.made ∷ []
own_made old new e told same m = grind (arith, nat_tests, fronts_same, place_added, own_added, own_stay)

event_is : (p : Plan) (w : World) (v : Event) (e : Entry) → e ≡ entry_in p w v → e.event ≡ v
unfolding entry_in
event_is p w v e is = ap (λ (x : Entry). x.event) is

-- the entry is of the call's event
pub own_event : (old new : Caller Plan Entry) (e : Event) (told : Told) (m : Makes old new e told) → m.made.event ≡ e
own_event old new e told m = event_is m.plan _ e m.made m.entry
