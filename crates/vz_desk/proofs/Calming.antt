-- A pause has to wait for no client exactly where each attached client is idle or has answered the tick.
use Rattle.std.proofs.Common.{◌≡◌, ℕ, ◌+◌, ◌-◌, ◌<◌, ◌≤◌, Bool, true, false, cond, ◌==◌, not, ◌&&◌, ◌||◌, List, [], ◌∷◌, map, length, refl, ap, sym, ◌∙◌, subst, arith, Option, Some, find}
use mathlib.Core.Logic.{dite}
use native.Mathlib.Decide.{ℕ_discrete}
use Rattle.std.specs.List.{list_all}
use Rattle.std.proofs.{lemmas.Bool.and_from, lemmas.Bool.and_left as first_false, lemmas.Bool.and_right as last_false, lemmas.Bool.Decides.nat_tests}
use Rattle.std.proofs.Common.{eq-eqb, ne_eqb}
use Rattle.vz_frame.specs.declared.message.ClientFile.{ClientFile}
use Rattle.vz_rules.specs.Plan.{Plan}
use Rattle.vz_rules.specs.World.{World, Machine, Client, client_at, new_clients}
use Rattle.vz_rules.specs.{declared.entry.Entry.Entry, Step.world, Step.Legal, Step.is_attached, Course.is_idle, Course.has_answered, Course.is_calm}
use Rattle.vz_rules.proofs.{Given.number_of, Numbered.numbers_are}
use Rattle.vz_machine.specs.Stepping.{asked}
use Rattle.vz_desk.specs.{Books.Booked, Books.machine_of, Books.IsBooked, Calm.restless_at}

calm_three : (a i d : Bool) → (a && (not i && not d)) ≡ false → (not a || i || d) ≡ true
calm_three a i d is = grind (arith, nat_tests)

restless_three : (a i d : Bool) → (a && (not i && not d)) ≡ true → (not a || i || d) ≡ false
restless_three a i d is = grind (arith, nat_tests)

head_number : (x : Client) (xs : List Client) (k : ℕ) (ks : List ℕ) → number_of x ∷ map number_of xs ≡ k ∷ ks → x.number ≡ k
head_number x xs k ks e = cc

rest_numbers : (x : Client) (xs : List Client) (k : ℕ) (ks : List ℕ) → number_of x ∷ map number_of xs ≡ k ∷ ks → map number_of xs ≡ ks
rest_numbers x xs k ks e = cc

no_test : (t : Bool) (x : Client) (o : Option Client) → t ≡ false → cond t (Some x) o ≡ o
no_test t x o e = ap (λ (b : Bool). cond b (Some x) o) e

module _ (p : Plan) (w : World) where
  abbrev calm_one : Client → Bool
  calm_one c = not (is_attached p w c) || is_idle p w c || has_answered w c

  abbrev restless_of : Option Client → Bool
  restless_of o = asked o (is_attached p w) && (not (asked o (is_idle p w)) && not (asked o (has_answered w)))

  calm_some : (o : Option Client) (x : Client) → o ≡ Some x → restless_of o ≡ false → calm_one x ≡ true
  calm_some o x at is = calm_three (is_attached p w x) (is_idle p w x) (has_answered w x) (ap restless_of (sym at) ∙ is)

  calm_from : (whole : List Client) (k : ℕ) (files : List ClientFile) (xs : List Client) → map number_of xs ≡ map number_of (new_clients k files)
      → ((c : ℕ) → k ≤ c → find (λ (y : Client). y.number == c) whole ≡ find (λ (y : Client). y.number == c) xs)
      → ((c : ℕ) → k ≤ c → c < k + length files → restless_of (find (λ (y : Client). y.number == c) whole) ≡ false) → list_all calm_one xs ≡ true
  calm_from whole k files [] e finds all = refl
  calm_from whole k [] (x ∷ xs) e finds all = absurd (cc)
  calm_from whole k (f ∷ fs) (x ∷ xs) e finds all =
      let number : x.number ≡ k = head_number x xs k (map number_of (new_clients (k + 1) fs)) e in
      let here : find (λ (y : Client). y.number == k) whole ≡ Some x = finds k (omega arith) ∙ ap (λ (b : Bool). cond b (Some x) (find (λ (y : Client). y.number == k) xs)) (eq-eqb x.number k number) in
      and_from (calm_one x) (list_all calm_one xs) (calm_some (find (λ (y : Client). y.number == k) whole) x here (all k (omega arith) (omega arith)))
      (calm_from whole (k + 1) fs xs (rest_numbers x xs k (map number_of (new_clients (k + 1) fs)) e)
      (λ c l. finds c (omega (arith, l)) ∙ no_test (x.number == c) x (find (λ (y : Client). y.number == c) xs) (ne_eqb x.number c (λ same. omega (arith, same, number, l))))
      (λ c l m. all c (omega (arith, l)) (omega (arith, m))))

  all_false : (t : Bool) (x : Client) (o : Option Client) (y : Client) (rest : Bool) → cond t (Some x) o ≡ Some y → calm_one y ≡ false → (o ≡ Some y → rest ≡ false) → (calm_one x && rest) ≡ false
  all_false t x o y rest e is more = grind (arith, nat_tests, first_false, last_false)

module _ (p : Plan) (w : World) where
  restless_in : (test : Client → Bool) (xs : List Client) (x : Client) → find test xs ≡ Some x → calm_one p w x ≡ false → list_all (calm_one p w) xs ≡ false
  restless_in test [] x e is = absurd (cc)
  restless_in test (y ∷ xs) x e is = all_false p w (test y) y (find test xs) x (list_all (calm_one p w) xs) e is (λ m. restless_in test xs x m is)

  restless_some : (test : Client → Bool) (o : Option Client) → find test w.clients ≡ o → restless_of p w o ≡ true → list_all (calm_one p w) w.clients ≡ false
  restless_some test o e is = grind (arith, nat_tests, restless_in, restless_three)

  -- one client for which it has to wait
  pub not_calm : (c : ℕ) → restless_at (record { plan = p; world = w }) c ≡ true → is_calm p w ≡ false
  unfolding is_calm
  not_calm c is = restless_some (λ x. x.number == c) (client_at w c) refl is

-- no client for which it has to wait
pub all_calm : (p : Plan) (h : List Entry) (n : ℕ) → Legal p h → n ≡ length p.files → ((k : ℕ) → k < n → restless_at (record { plan = p; world = world p h }) (k + 1) ≡ false) → is_calm p (world p h) ≡ true
unfolding is_calm
all_calm p h n legal count none =
    calm_from p (world p h) (world p h).clients 1 p.files (world p h).clients (numbers_are p h legal) (λ c l. refl)
    (λ c l m. subst (λ (x : ℕ). restless_at (record { plan = p; world = world p h }) x ≡ false) (let e : (c - 1) + 1 ≡ c = omega (arith, l) in e) (none (c - 1) (omega (arith, l, m, count))))

-- one client more
pub rests_more : (m : Machine) (n : ℕ) → ((k : ℕ) → k < n → restless_at m (k + 1) ≡ false) → restless_at m (n + 1) ≡ false → (k : ℕ) → k < n + 1 → restless_at m (k + 1) ≡ false
rests_more m n before here k l = dite (ℕ_discrete k n) (λ same. subst (λ (x : ℕ). restless_at m (x + 1) ≡ false) (sym same) here) (λ other. before k (omega (arith, l, other)))

-- all clients of a book
pub book_calm : {S : Type 0} (m : Machine) (n spare : ℕ) (a b : Booked S) → IsBooked m n spare a → a ≡ b → ((k : ℕ) → k < n → restless_at (machine_of b) (k + 1) ≡ false) → is_calm b.plan (world b.plan b.history) ≡ true
book_calm m n spare a b kept view_is none = let is = subst (IsBooked m n spare) view_is kept in all_calm b.plan b.history n is.legal is.counted none
