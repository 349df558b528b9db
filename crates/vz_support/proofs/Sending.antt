-- What is kept of clients changes as the machine's state does.
use Rattle.std.proofs.Common.{◌≡◌, ℕ, zero, suc, ◌+◌, ◌≤◌, Bool, true, false, ◌==◌, Option, Some, None, List, [], ◌∷◌, map, find, drop, length, refl, ap, sym, ◌∙◌, subst, cond, arith}
use Rattle.std.specs.Option.{option_map}
use Rattle.std.proofs.{lemmas.Bool.eqb-true, lemmas.Bool.eq-eqb, lemmas.Bool.Decides.nat_tests}
use Rattle.vz_pixels.specs.Block.{Block}
use Rattle.vz_frame.specs.declared.message.ClientFile.{ClientFile}
use Rattle.vz_rules.specs.{Plan.Plan, Messages.took, Kept.KeepsClients}
use Rattle.vz_rules.specs.World.{World, Client, Resource, client_at, change_client, file_of, resource_in}
use Rattle.vz_rules.proofs.{Members.find_at, Members.contains_at, Rising.find_map, Rising.find_test, Facts.length_map as count_mapped}
use Rattle.vz_support.specs.{Sent.Sender, Sent.sender_at, Sent.taking_one, Changed.ChangesOne, Sending.left_in, Sending.IsSender, Sending.AreSenders}

-- One client

drop_next : {A : Type 0} (n : ℕ) (xs : List A) → drop 1 (drop n xs) ≡ drop (suc n) xs
drop_next zero xs = refl
drop_next (suc n) [] = refl
drop_next (suc n) (x ∷ xs) = drop_next n xs

drop_one : {A : Type 0} (n : ℕ) (xs : List A) → drop 1 (drop n xs) ≡ drop (n + 1) xs
drop_one n xs = let e : suc n ≡ n + 1 = omega arith in drop_next n xs ∙ ap (λ k. drop k xs) e

one_less : (file : Option ClientFile) (n : ℕ) → drop 1 (left_in file n) ≡ left_in file (n + 1)
one_less None n = refl
one_less (Some f) n = drop_one n f.messages

-- a client's number, sink, count of messages, end, answer and blocks are those of another
pub record IsAlike (x y : Client) : Type 0 where
  pub number : y.number ≡ x.number
  pub sink : y.sink ≡ x.sink
  pub taken : y.taken ≡ x.taken
  pub closed : y.closed ≡ x.closed
  pub answered : y.answered ≡ x.answered
  pub blocks : (id : ℕ) → option_map (λ (r : Resource). r.block) (resource_in id y.resources) ≡ option_map (λ (r : Resource). r.block) (resource_in id x.resources)

pub alike_sends : (p : Plan) (x y : Client) (s : Sender) → IsAlike x y → IsSender p x s → IsSender p y s
alike_sends p x y s a h = grind (arith, nat_tests)

-- one more of its messages is taken
pub took_sends : (p : Plan) (x : Client) (s : Sender) → IsSender p x s → IsSender p (took x) (taking_one s)
took_sends p x s h = grind (arith, nat_tests, one_less (file_of p x.number) x.taken)

read_kept : {A : Type 0} (f : A → A) (r : A → Block) (o : Option A) → ((x : A) → r (f x) ≡ r x) → option_map r (option_map f o) ≡ option_map r o
read_kept f r None e = refl
read_kept f r (Some x) e = ap (λ z. Some z) (e x)

-- resources that are changed keep their blocks
pub blocks_kept : (f : Resource → Resource) (id : ℕ) (rs : List Resource) → ((r : Resource) → (f r).id ≡ r.id) → ((r : Resource) → (f r).block ≡ r.block)
    → option_map (λ (r : Resource). r.block) (resource_in id (map f rs)) ≡ option_map (λ (r : Resource). r.block) (resource_in id rs)
blocks_kept f id rs same kept = grind (arith, nat_tests, find_map, read_kept f)

-- All clients

mapped_at : (c : ℕ) (f : Client → Client) (xs : List Client) (y : Client) → ((x : Client) → (f x).number ≡ x.number) → find (λ (z : Client). z.number == c) (map f xs) ≡ Some y
    → (x : Client) × (find (λ (z : Client). z.number == c) xs ≡ Some x) × (f x ≡ y)
mapped_at c f xs y same e = by (find (λ (z : Client). z.number == c) xs) refl (sym (find_map (λ (z : Client). z.number == c) f xs (λ x. ap (λ n. n == c) (same x))) ∙ e)
  where
    by : (o : Option Client) → find (λ (z : Client). z.number == c) xs ≡ o → option_map f o ≡ Some y → (x : Client) × (find (λ (z : Client). z.number == c) xs ≡ Some x) × (f x ≡ y)
    by None g h = absurd (cc)
    by (Some x) g h = (x, g, cc)

-- all clients are changed to ones alike
pub all_alike : (p : Plan) (w v : World) (f : Client → Client) (list : List Sender) → v.clients ≡ map f w.clients → ((x : Client) → IsAlike x (f x)) → AreSenders p w list → AreSenders p v list
all_alike p w v f list e alike h =
    record {
      count = h.count ∙ (sym (count_mapped f w.clients) ∙ ap length (sym e));
      each = λ c y at.
          let m = mapped_at c f w.clients y (λ x. (alike x).number) (ap (find (λ (z : Client). z.number == c)) (sym e) ∙ at) in
          subst (λ (z : Client). IsSender p z (sender_at list c)) m.2 (alike_sends p m.0 (f m.0) (sender_at list c) (alike m.0) (h.each c m.0 m.1));
    }

abbrev changed_one : ℕ → (Client → Client) → Client → Client
changed_one n f y = cond (y.number == n) (took (f y)) y

kept_number : (n : ℕ) (f : Client → Client) (y : Client) → ((z : Client) → (f z).number ≡ z.number) → (t : Bool) → (cond t (took (f y)) y).number ≡ y.number
kept_number n f y same true = same y
kept_number n f y same false = refl

some_is : (a b : Client) → ◌≡◌ {A = Option Client} (Some a) (Some b) → a ≡ b
some_is a b q = cc

-- clients are numbered from 1
pub some_number : (clients : List Client) (c : ℕ) (z : Client) → KeepsClients clients → find (λ (y : Client). y.number == c) clients ≡ Some z → 1 ≤ c
some_number clients c z keeps e = grind (arith, nat_tests, find_at, contains_at clients z, eqb-true z.number c)

module _ (p : Plan) (w v : World) (x : Client) (f : Client → Client) (g : Sender → Sender) (old new : List Sender)
    (keeps : KeepsClients w.clients) (here : client_at w x.number ≡ Some x) (changes : ChangesOne x.number g old new)
    (step : IsSender p x (sender_at old x.number) → IsSender p (took (f x)) (g (sender_at old x.number))) (h : AreSenders p w old) where
  here_new : sender_at new x.number ≡ g (sender_at old x.number)
  here_new = grind (arith, nat_tests, some_number w.clients x.number x keeps here, eq-eqb x.number x.number refl)

  each_by : (c : ℕ) (y z : Client) → client_at w c ≡ Some z → z.number ≡ c → (t : Bool) → (z.number == x.number) ≡ t → cond t (took (f z)) z ≡ y → IsSender p y (sender_at new c)
  each_by c y z at number true t k =
      let is : z.number ≡ x.number = eqb-true z.number x.number t in
      let one : c ≡ x.number = sym number ∙ is in
      let same : z ≡ x = some_is z x (sym at ∙ (ap (client_at w) one ∙ here)) in
      subst (λ (q : Client). IsSender p q (sender_at new c)) (ap (λ (q : Client). took (f q)) (sym same) ∙ k)
      (subst (IsSender p (took (f x))) (sym (ap (sender_at new) one ∙ here_new)) (step (h.each x.number x here)))
  each_by c y z at number false t k =
      let other : (c == x.number) ≡ false = ap (λ n. n == x.number) (sym number) ∙ t in
      subst (λ (q : Client). IsSender p q (sender_at new c)) k
      (subst (IsSender p z) (sym (changes.each c (some_number w.clients c z keeps at) ∙ ap (λ (b : Bool). cond b (g (sender_at old x.number)) (sender_at old c)) other))
      (h.each c z at))

  -- one client is changed, as what is kept of it is
  pub one_changes : v.clients ≡ change_client (λ y. took (f y)) x.number w.clients → ((y : Client) → (f y).number ≡ y.number) → AreSenders p v new
  one_changes e same =
      record {
        count = changes.count ∙ (h.count ∙ (sym (count_mapped (changed_one x.number f) w.clients) ∙ ap length (sym e)));
        each = λ c y at.
            let m = mapped_at c (changed_one x.number f) w.clients y (λ z. kept_number x.number f z same (z.number == x.number)) (ap (find (λ (z : Client). z.number == c)) (sym e) ∙ at) in
            let number : m.0.number ≡ c = eqb-true m.0.number c (find_test (λ (z : Client). z.number == c) w.clients m.0 m.1) in
            each_by c y m.0 m.1 number (m.0.number == x.number) refl m.2;
      }
