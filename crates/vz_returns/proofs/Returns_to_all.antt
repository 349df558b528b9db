-- What goes back to all clients, one after the other, and their queues.
use Rattle.std.proofs.Common.{◌≡◌, ℕ, zero, suc, ◌+◌, ◌-◌, ◌≤◌, ◌<◌, Bool, false, ◌==◌, Option, Some, List, [], ◌∷◌, ◌++◌, length, take, drop, slice_get, set, get_or, refl, ap, sym, subst, ◌∙◌, arith, cond, Contains}
use Rattle.std.specs.List.{flat_map}
use Rattle.std.proofs.lemmas.Bool.Decides.{nat_tests}
use Rattle.std.proofs.{lemmas.List.append-nil, lemmas.List.append_assoc, lemmas.List.length-map, lemmas.Option.slice_get-get_or}
use Rattle.vz_rules.specs.{declared.entry.Returned.Returned, World.World, World.Client}
use Rattle.vz_rules.specs.{Messages.took, Messages.taking, Messages.reclaim, Messages.in_use as refused_in_use, Kept.KeepsAlways, Kept.AreRising}
use Rattle.vz_rules.specs.Returns.{holds, returns_of, queue_returns, give_back, returned_in}
use Rattle.vz_rules.proofs.{Members.at_map, Members.at_contains, Members.at_within, Members.contains_at, Kept_submits.one_of_number}
use Rattle.vz_rules.proofs.Kept_small.{at_there}
use Rattle.vz_returns.specs.{Held.taken, Held.in_use, Released.AreCounts, Released.alive_in}
use Rattle.vz_returns.proofs.{Releases.from_eqb, Releases.to_eqb, Uses.uses_are, Steps.lent_set, Steps.GoesOn, Steps.own_at, Clients.out_reclaimed}
use Rattle.vz_returns.specs.Lent.{Lent, AreLent, IsLender, NoneReleased, Suffice, resources_out}
use Rattle.vz_returns.proofs.Lent_rooms.{by_place}

-- Given back to the first of them

pub record GivenTo (w : World) (k : ℕ) (now : List Lent) (start out : List Returned) : Type 0 where
  pub done : (n : ℕ) (c : Client) (l : Lent) → n < k → slice_get w.clients n ≡ Some c → slice_get now n ≡ Some l
      → AreCounts (give_back w) (queue_returns w c) l.holding l.released
  pub grown : out ≡ start ++ flat_map (returns_of w) (take k w.clients)

one_more : (k : ℕ) → suc k ≡ k + 1
one_more k = omega arith

flat_after : {A B : Type 0} (f : A → List B) (xs : List A) (k : ℕ) (x : A) → slice_get xs k ≡ Some x
    → flat_map f (take (suc k) xs) ≡ flat_map f (take k xs) ++ f x
flat_after f [] k x e = absurd (cc)
flat_after f (y ∷ xs) zero x e = let same : y ≡ x = cc in append-nil (f y) ∙ ap f same
flat_after f (y ∷ xs) (suc k) x e = ap (λ l. f y ++ l) (flat_after f xs k x e) ∙ sym (append_assoc (f y) (flat_map f (take k xs)) (f x))

flat_next : {A B : Type 0} (f : A → List B) (xs : List A) (k : ℕ) (x : A) → slice_get xs k ≡ Some x
    → flat_map f (take (k + 1) xs) ≡ flat_map f (take k xs) ++ f x
flat_next f xs k x e = ap (λ n. flat_map f (take n xs)) (sym (one_more k)) ∙ flat_after f xs k x e

-- the one at this place, before it is given back to
pub item_there : (now : List Lent) (k : ℕ) (d : Lent) → k < length now → slice_get now k ≡ Some (get_or now k d)
item_there now k d inside = slice_get-get_or now k d inside

pub item_enough : (w : World) (old now : List Lent) (k : ℕ) (o : Lent) → AreLent w old → slice_get now k ≡ slice_get old k
    → slice_get now k ≡ Some o → Suffice o.released o.holding
item_enough w old now k o lent left at id =
    let c = at_there w.clients k (subst (λ n. k < n) lent.many (at_within old k o (sym left ∙ at))) in
    let counts = lent.each k c.0 o c.1 (sym left ∙ at) in
    omega (arith, counts.alive id)

pub given_next : (w : World) (old now : List Lent) (k : ℕ) (o new : Lent) (start out more : List Returned) → KeepsAlways w → AreLent w old
    → slice_get now k ≡ slice_get old k → slice_get now k ≡ Some o
    → ((w : World) (c : Client) → AreRising c.resources → AreCounts w c o.holding o.released
    → (more ≡ out ++ returns_of w c) × AreCounts (give_back w) (queue_returns w c) new.holding [])
    → new.released ≡ [] → GivenTo w k now start out → GivenTo w (k + 1) (set now k new) start more
given_next w old now k o new start out more always lent left at given none so_far =
    let c = at_there w.clients k (subst (λ n. k < n) lent.many (at_within old k o (sym left ∙ at))) in
    let shelf = always.shelves c.0 (at_contains w.clients k c.0 c.1) in
    let gives = given w c.0 shelf.rising (lent.each k c.0 o c.1 (sym left ∙ at)) in
    record {
      done = λ n d l low p q.
          by_place (λ m y. (z : Client) → m < k + 1 → slice_get w.clients m ≡ Some z
          → AreCounts (give_back w) (queue_returns w z) y.holding y.released) now k o new at
          (λ z here r.
          let same : c.0 ≡ z = some_same c.0 z (sym c.1 ∙ r) in
          subst (λ x. AreCounts (give_back w) (queue_returns w x) new.holding new.released) same
          (subst (AreCounts (give_back w) (queue_returns w c.0) new.holding) (sym none) gives.1))
          (λ m y e s z here r. so_far.done m z y (less m k e here) r s) n l q d low p;
      grown = gives.0 ∙ (ap (λ l. l ++ returns_of w c.0) so_far.grown
          ∙ (append_assoc start (flat_map (returns_of w) (take k w.clients)) (returns_of w c.0)
          ∙ ap (λ l. start ++ l) (sym (flat_next (returns_of w) w.clients k c.0 c.1))));
    }
  where
    some_same : {A : Type 0} (x y : A) → ◌≡◌ {A = Option A} (Some x) (Some y) → x ≡ y
    some_same x y e = cc

    less : (m k : ℕ) → (m == k) ≡ false → m < k + 1 → m < k
    less m k e l = grind (arith, nat_tests, e, l)

take_all : {A : Type 0} (xs : List A) → take (length xs) xs ≡ xs
take_all [] = refl
take_all (x ∷ xs) = ap (λ l. x ∷ l) (take_all xs)

pub given_all : (w : World) (old now : List Lent) (k : ℕ) (start out : List Returned) → AreLent w old → length now ≡ length old
    → length old ≤ k → k ≤ length old → GivenTo w k now start out
    → (out ≡ start ++ returned_in w) × AreLent (give_back w) now
unfolding returned_in give_back
given_all w old now k start out lent many over within so_far =
    let end : k ≡ length w.clients = omega (arith, over, within, lent.many) in (
      so_far.grown ∙ ap (λ l. start ++ flat_map (returns_of w) l) (ap (λ n. take n w.clients) end ∙ take_all w.clients),
      record {
        many = many ∙ (lent.many ∙ sym (length-map w.clients (queue_returns w)));
        each = λ n d l p q.
            let m = at_map (queue_returns w) w.clients n d p in
            subst (λ x. AreCounts (give_back w) x l.holding l.released) m.2
            (so_far.done n m.0 l (subst (λ j. n < j) (sym end) (at_within w.clients n m.0 m.1)) m.1 q);
      },
    )

drop_after : {A : Type 0} (xs : List A) (k : ℕ) (x : A) → drop (suc k) (set xs k x) ≡ drop (suc k) xs
drop_after [] k x = refl
drop_after (y ∷ xs) zero x = refl
drop_after (y ∷ xs) (suc k) x = drop_after xs k x

drop_set : {A : Type 0} (xs : List A) (k : ℕ) (x : A) → drop (k + 1) (set xs k x) ≡ drop (k + 1) xs
drop_set xs k x = ap (λ n. drop n (set xs k x)) (sym (one_more k)) ∙ (drop_after xs k x ∙ ap (λ n. drop n xs) (one_more k))

pub out_behind : (now : List Lent) (k : ℕ) (new : Lent) → resources_out (drop (k + 1) (set now k new)) ≡ resources_out (drop (k + 1) now)
out_behind now k new = ap resources_out (drop_set now k new)

-- One client's queue

-- the place of a client among the clients is that of its number
pub client_place : (w : World) (c : Client) (client : ℕ) → KeepsAlways w → Contains w.clients c → c.number ≡ client
    → slice_get w.clients (client - 1) ≡ Some c
client_place w c client always there number = grind (arith, nat_tests, contains_at w.clients c there)

module _ (items : List Lent) (client : ℕ) (known : IsLender client items) (o d : Lent) (is : o ≡ get_or items (client - 1) d) (w : World)
    (c : Client) (always : KeepsAlways w) (there : Contains w.clients c)
    (number : c.number ≡ client) (lent : AreLent w items) where
  own : slice_get items (client - 1) ≡ Some o
  own = own_at items (client - 1) o d (omega (arith, known.0, known.1)) is

  its_counts : AreCounts w c o.holding o.released
  its_counts = lent.each (client - 1) c o (client_place w c client always there number) own

  pub its_queue : o.holding.queue ≡ c.queue
  its_queue = let counts = its_counts in counts.queue

  pub refused_use : (id : ℕ) → NoneReleased items → in_use id o.holding ≡ refused_in_use c.resources id
  refused_use id none =
      uses_are (holds w) w.subs w c o.holding (subst (AreCounts w c o.holding) (none o (at_contains items (client - 1) o own)) its_counts)
      (always.shelves c there) id

  taken_counts : (new : Lent) (x : Client) → new.holding ≡ taken o.holding → new.released ≡ o.released → took (reclaim c) ≡ x
      → AreCounts (taking reclaim c w) x new.holding new.released
  unfolding alive_in
  taken_counts new x held same after =
      let counts = its_counts in
      subst (λ z. AreCounts (taking reclaim c w) z new.holding new.released) after
      (subst (λ h. AreCounts (taking reclaim c w) (took (reclaim c)) h new.released) (sym held)
      (subst (AreCounts (taking reclaim c w) (took (reclaim c)) (taken o.holding)) (sym same) (record {
        client = counts.client;
        rising = counts.rising;
        some = counts.some;
        received = λ id. counts.received id ∙ sym (out_reclaimed c.resources id);
        alive = counts.alive;
        queue = refl;
      })))

  other_taken : (n : ℕ) (z x : Client) (l : Lent) → (n == client - 1) ≡ false → slice_get w.clients n ≡ Some z
      → cond (z.number == c.number) (took (reclaim z)) z ≡ x → AreCounts w z l.holding l.released
      → AreCounts (taking reclaim c w) x l.holding l.released
  unfolding alive_in
  other_taken n z x l e at after counts =
      let other : (z.number == c.number)
      ≡ false = away z.number c.number n (client - 1) (always.clients.numbered n z at) (omega (arith, number, known.0)) e in
      let same : z ≡ x = sym (ap (λ (t : Bool). cond t (took (reclaim z)) z) other) ∙ after in
      subst (λ y. AreCounts (taking reclaim c w) y l.holding l.released) same (record {
        client = counts.client;
        rising = counts.rising;
        some = counts.some;
        received = counts.received;
        alive = counts.alive;
        queue = counts.queue;
      })
    where
      away : (a b n k : ℕ) → a ≡ n + 1 → b ≡ k + 1 → (n == k) ≡ false → (a == b) ≡ false
      away a b n k p q r = grind (arith, nat_tests, p, q, r)

  pub reclaimed_lent : (new : Lent) → new.holding ≡ taken o.holding → new.released ≡ o.released
      → AreLent (taking reclaim c w) (set items (client - 1) new)
  reclaimed_lent new held same =
      lent_set w (taking reclaim c w) items (client - 1) o new own lent
      (length-map w.clients (λ x. cond (x.number == c.number) (took (reclaim x)) x))
      (λ n x at. goes n x (at_map (λ x. cond (x.number == c.number) (took (reclaim x)) x) w.clients n x at))
    where
      goes : (n : ℕ) (x : Client) → (z : Client) × (slice_get w.clients n ≡ Some z) × (cond (z.number == c.number) (took (reclaim z)) z ≡ x)
          → GoesOn w (taking reclaim c w) (client - 1) o new n x
      goes n x m =
          record {
            before = m.0;
            at = m.1;
            own = λ e counts.
                let place = from_eqb n (client - 1) e in
                let same_number : m.0.number ≡ c.number = omega (arith, always.clients.numbered n m.0 m.1, place, number, known.0) in
                let one : m.0 ≡ c = one_of_number w.clients m.0 c always.clients (at_contains w.clients n m.0 m.1) there same_number in
                let sent : took (reclaim m.0) ≡ x = sym
                (ap (λ (t : Bool). cond t (took (reclaim m.0)) m.0) (to_eqb m.0.number c.number same_number)) ∙ m.2 in
                taken_counts new x held same (ap (λ z. took (reclaim z)) (sym one) ∙ sent);
            other = λ e l counts. other_taken n m.0 x l e m.1 m.2 counts;
          }

pub later_other : (n k : ℕ) → k + 1 ≤ n → (n == k) ≡ false
later_other n k l = grind (arith, nat_tests, l)

pub earlier_other : (m k : ℕ) → (m == k) ≡ false → m < k + 1 → m < k
earlier_other m k e l = grind (arith, nat_tests, e, l)

pub all_none : (items : List Lent) (k : ℕ) → length items ≤ k → ((n : ℕ) (x : Lent) → n < k → slice_get items n ≡ Some x → x.released ≡ [])
    → NoneReleased items
all_none items k over none l there = let n = contains_at items l there in none n.0 l (omega (arith, at_within items n.0 l n.1, over)) n.1
