-- What clients lent stands for a state, as one of them changes.
use Rattle.std.proofs.Common.{◌≡◌, ℕ, zero, suc, ◌+◌, ◌<◌, Bool, true, false, ◌==◌, Option, Some, List, [], ◌∷◌, ◌++◌, length, slice_get, set, get_or, refl, ap, sym, subst, ◌∙◌, arith, cond}
use Rattle.std.proofs.{lemmas.Option.slice_get-get_or, lemmas.Bool.Decides.nat_tests, lemmas.List.Sums.sum_by-append}
use Rattle.vz_rules.specs.{World.World, World.Client, Kept.KeepsClients}
use Rattle.vz_rules.proofs.{Members.at_within, Kept_small.at_there}
use Rattle.vz_returns.specs.Held.{Holding, received_of, alive_of, is_rising, lent, shared}
use Rattle.vz_returns.specs.Released.{are_some, times, alive_in, AreCounts}
use Rattle.vz_returns.proofs.{Orders.rising_put, Listings.times_at, Listings.first_some, Listings.suffice_shared}
use Rattle.vz_returns.proofs.Releases.{from_eqb, to_eqb, received_lent, alive_lent, some_lent, received_shared, alive_shared, some_shared}
use Rattle.vz_returns.specs.Lent.{Lent, AreLent, Suffice, lent_all, shared_all}

-- One of a list is another

length_set : {A : Type 0} (xs : List A) (k : ℕ) (x : A) → length (set xs k x) ≡ length xs
length_set [] k x = refl
length_set (y ∷ xs) zero x = refl
length_set (y ∷ xs) (suc k) x = ap suc (length_set xs k x)

pub at_set : {A : Type 0} (xs : List A) (k : ℕ) (x : A) → k < length xs → slice_get (set xs k x) k ≡ Some x
at_set [] k x l = absurd (omega (arith, l))
at_set (y ∷ xs) zero x l = refl
at_set (y ∷ xs) (suc k) x l = at_set xs k x (omega (arith, l))

pub at_others : {A : Type 0} (xs : List A) (k n : ℕ) (x : A) → (n == k) ≡ false → slice_get (set xs k x) n ≡ slice_get xs n
at_others [] k n x e = refl
at_others (y ∷ xs) zero zero x e = absurd (cc)
at_others (y ∷ xs) zero (suc n) x e = refl
at_others (y ∷ xs) (suc k) zero x e = refl
at_others (y ∷ xs) (suc k) (suc n) x e = grind (arith, nat_tests, at_others xs k n x)

some_same : {A : Type 0} (x y : A) → ◌≡◌ {A = Option A} (Some x) (Some y) → x ≡ y
some_same x y e = cc

pub own_at : (items : List Lent) (k : ℕ) (o d : Lent) → k < length items → o ≡ get_or items k d → slice_get items k ≡ Some o
own_at items k o d l e = slice_get-get_or items k d l ∙ ap (λ x. Some x) (sym e)

-- how a client of the state goes on, and what stands for it
pub record GoesOn (w v : World) (k : ℕ) (o new : Lent) (n : ℕ) (d : Client) : Type 0 where
  pub before : Client
  pub at : slice_get w.clients n ≡ Some before
  pub own : (n == k) ≡ true → AreCounts w before o.holding o.released → AreCounts v d new.holding new.released
  pub other : (n == k) ≡ false → (l : Lent) → AreCounts w before l.holding l.released → AreCounts v d l.holding l.released

pub lent_set : (w v : World) (items : List Lent) (k : ℕ) (o new : Lent) → slice_get items k ≡ Some o → AreLent w items
    → length v.clients ≡ length w.clients
    → ((n : ℕ) (d : Client) → slice_get v.clients n ≡ Some d → GoesOn w v k o new n d) → AreLent v (set items k new)
lent_set w v items k o new own are many goes =
    record {
      many = length_set items k new ∙ (are.many ∙ sym many);
      each = λ n d l p q. by n d l p q (n == k) refl;
    }
  where
    by : (n : ℕ) (d : Client) (l : Lent) → slice_get v.clients n ≡ Some d → slice_get (set items k new) n ≡ Some l → (t : Bool)
        → (n == k) ≡ t → AreCounts v d l.holding l.released
    by n d l p q true e =
        let on = goes n d p in
        let here = from_eqb n k e in
        let is : l ≡ new = some_same l new
        (sym q ∙ (ap (slice_get (set items k new)) here ∙ at_set items k new (at_within items k o own))) in
        subst (λ x. AreCounts v d x.holding x.released) (sym is) (on.own e (are.each n on.before o on.at (ap (slice_get items) here ∙ own)))
    by n d l p q false e =
        let on = goes n d p in
        on.other e l (are.each n on.before l on.at (sym (at_others items k n new e) ∙ q))

-- Counts

pub times_more : (id : ℕ) (a b : List ℕ) → times id (a ++ b) ≡ times id a + times id b
times_more id a b = sum_by-append (λ n. cond (n == id) 1 0) a b

-- the references released of a client's, and of none of the others
pub record AreMoved (client : ℕ) (ids : List ℕ) (amount : ℕ → ℕ → ℕ) : Type 0 where
  pub own : (c id : ℕ) → (client == c) ≡ true → amount c id ≡ times id ids
  pub other : (c id : ℕ) → (client == c) ≡ false → amount c id ≡ 0

number_test : (client k n m : ℕ) (t : Bool) → client ≡ k + 1 → m ≡ n + 1 → (n == k) ≡ t → (client == m) ≡ t
number_test client k n m true e f g = to_eqb client m (omega (arith, e, f, from_eqb n k g))
number_test client k n m false e f g = grind (arith, nat_tests, e, f, g)

-- of a client whose references are as before
counts_stay : (w v : World) (d : Client) (h : Holding) (ids : List ℕ) → ((id : ℕ) → alive_in v d.number id ≡ alive_in w d.number id)
    → AreCounts w d h ids → AreCounts v d h ids
counts_stay w v d h ids same counts =
    record {
      client = counts.client;
      rising = counts.rising;
      some = counts.some;
      received = counts.received;
      alive = λ id. omega (arith, counts.alive id, same id);
      queue = counts.queue;
    }

-- fewer are alive, and these are released
pub frees : (w v : World) (items : List Lent) (client k : ℕ) (o new : Lent) (ids : List ℕ) (amount : ℕ → ℕ → ℕ) → client ≡ k + 1
    → slice_get items k ≡ Some o → KeepsClients w.clients
    → v.clients ≡ w.clients → ((c id : ℕ) → alive_in w c id ≡ alive_in v c id + amount c id) → AreMoved client ids amount
    → new.holding ≡ o.holding → new.released ≡ o.released ++ ids
    → AreLent w items → AreLent v (set items k new)
frees w v items client k o new ids amount number own kept same moved are held more lent =
    lent_set w v items k o new own lent (ap length same) (λ n d p.
    let at : slice_get w.clients n ≡ Some d = sym (ap (λ l. slice_get l n) same) ∙ p in
    record {
      before = d;
      at = at;
      own = λ e counts.
          subst (λ h. AreCounts v d h new.released) (sym held) (record {
            client = counts.client;
            rising = counts.rising;
            some = counts.some;
            received = counts.received;
            alive = λ id. omega (
              arith,
              counts.alive id,
              moved d.number id,
              are.own d.number id (number_test client k n d.number true number (kept.numbered n d at) e),
              ap (times id) more,
              times_more id o.released ids,
            );
            queue = counts.queue;
          });
      other = λ e l counts.
          counts_stay w v d l.holding l.released
          (λ id. omega (arith, moved d.number id, are.other d.number id (number_test client k n d.number false number (kept.numbered n d at) e)))
          counts;
    })

-- so many were alive
pub frees_enough : (w v : World) (items : List Lent) (client k : ℕ) (o : Lent) (ids : List ℕ) (amount : ℕ → ℕ → ℕ) → client ≡ k + 1
    → slice_get items k ≡ Some o → KeepsClients w.clients
    → ((c id : ℕ) → alive_in w c id ≡ alive_in v c id + amount c id) → AreMoved client ids amount → AreLent w items
    → Suffice (o.released ++ ids) o.holding
frees_enough w v items client k o ids amount number own kept moved are lent id =
    let c = at_there w.clients k (subst (λ n. k < n) lent.many (at_within items k o own)) in
    let counts = lent.each k c.0 o c.1 own in
    omega (
      arith,
      counts.alive id,
      moved c.0.number id,
      are.own c.0.number id (to_eqb client c.0.number (number ∙ sym (kept.numbered k c.0 c.1))),
      times_more id o.released ids,
    )

-- Lent and held once more

pub alive_lent_all : (j : ℕ) (ids : List ℕ) (h : Holding) → alive_of j (lent_all ids h).counted ≡ alive_of j h.counted + times j ids
alive_lent_all j [] h = omega arith
alive_lent_all j (id ∷ ids) h = grind (arith, nat_tests, alive_lent_all j ids (lent id h), times_at j id ids true, alive_lent j id h, times_at j id ids false)

pub received_lent_all : (j : ℕ) (ids : List ℕ) (h : Holding)
    → received_of j (lent_all ids h).counted ≡ received_of j h.counted + times j ids
received_lent_all j [] h = omega arith
received_lent_all j (id ∷ ids) h = grind (arith, nat_tests, received_lent_all j ids (lent id h), times_at j id ids true, received_lent j id h, times_at j id ids false)

-- what stays of a client's counts
pub record Stays (h g : Holding) : Type 0 where
  pub client : g.client ≡ h.client
  pub queue : g.queue ≡ h.queue
  pub rising : is_rising h.counted ≡ true → is_rising g.counted ≡ true
  pub some : are_some h.counted ≡ true → are_some g.counted ≡ true

pub lent_stays : (ids : List ℕ) (h : Holding) → Stays h (lent_all ids h)
lent_stays [] h = grind (arith, nat_tests)
lent_stays (id ∷ ids) h = grind (arith, nat_tests, lent_stays ids (lent id h), rising_put, some_lent)

pub shared_stays : (ids : List ℕ) (h : Holding) → Suffice ids h → Stays h (shared_all ids h)
shared_stays [] h s = record { client = refl; queue = refl; rising = λ e. e; some = λ e. e }
shared_stays (id ∷ ids) h s =
    let rest = shared_stays ids (shared id h) (suffice_shared id ids h s) in
    record {
      client = rest.client;
      queue = rest.queue;
      rising = λ e. rest.rising (rising_put _ h.counted e);
      some = λ e. rest.some (some_shared id h (first_some id ids h s) e);
    }

pub received_shared_all : (j : ℕ) (ids : List ℕ) (h : Holding) → received_of j (shared_all ids h).counted ≡ received_of j h.counted
received_shared_all j [] h = refl
received_shared_all j (id ∷ ids) h = received_shared_all j ids (shared id h) ∙ received_shared j id h

pub alive_shared_all : (j : ℕ) (ids : List ℕ) (h : Holding) → alive_of j (shared_all ids h).counted ≡ alive_of j h.counted + times j ids
alive_shared_all j [] h = omega arith
alive_shared_all j (id ∷ ids) h = grind (arith, nat_tests, alive_shared_all j ids (shared id h), times_at j id ids true, alive_shared j id h, times_at j id ids false)

-- more are alive, and these are held once more
pub holds_more : (w v : World) (items : List Lent) (client k : ℕ) (o new : Lent) (ids : List ℕ) (amount : ℕ → ℕ → ℕ) → client ≡ k + 1
    → slice_get items k ≡ Some o → KeepsClients w.clients
    → v.clients ≡ w.clients → ((c id : ℕ) → alive_in v c id ≡ alive_in w c id + amount c id) → AreMoved client ids amount
    → Suffice ids o.holding
    → new.holding ≡ shared_all ids o.holding → new.released ≡ o.released → AreLent w items → AreLent v (set items k new)
holds_more w v items client k o new ids amount number own kept same moved are enough held more lent =
    lent_set w v items k o new own lent (ap length same) (λ n d p.
    let at : slice_get w.clients n ≡ Some d = sym (ap (λ l. slice_get l n) same) ∙ p in
    let stays = shared_stays ids o.holding enough in
    record {
      before = d;
      at = at;
      own = λ e counts.
          subst (λ h. AreCounts v d h new.released) (sym held) (subst (AreCounts v d (shared_all ids o.holding)) (sym more) (record {
            client = stays.client ∙ counts.client;
            rising = stays.rising counts.rising;
            some = stays.some counts.some;
            received = λ id. received_shared_all id ids o.holding ∙ counts.received id;
            alive = λ id. omega (
              arith,
              counts.alive id,
              moved d.number id,
              are.own d.number id (number_test client k n d.number true number (kept.numbered n d at) e),
              alive_shared_all id ids o.holding,
            );
            queue = stays.queue ∙ counts.queue;
          }));
      other = λ e l counts.
          counts_stay w v d l.holding l.released
          (λ id. omega (arith, moved d.number id, are.other d.number id (number_test client k n d.number false number (kept.numbered n d at) e)))
          counts;
    })
