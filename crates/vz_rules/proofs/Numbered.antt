-- The clients keep their numbers, which are those of the files.
use Rattle.std.proofs.Common.{◌≡◌, ℕ, ◌+◌, ◌<◌, ◌≤◌, Bool, true, false, ◌&&◌, ◌==◌, Some, None, List, [], ◌∷◌, map, length, refl, ap, ◌∙◌, cond, arith, find, is_some}
use Rattle.std.specs.Prelude.{nat_lt}
use Rattle.std.specs.List.{list_all}
use Rattle.std.proofs.lemmas.Bool.{and_from, lt-ltb, eqb-false}
use Rattle.vz_ids.specs.declared.Sub.{Sub}
use Rattle.vz_frame.specs.declared.message.ClientFile.{ClientFile}
use Rattle.vz_rules.specs.Plan.{Plan}
use Rattle.vz_rules.specs.declared.entry.Event.{Event}
use Rattle.vz_rules.specs.declared.entry.Event.TheVariants as event
use Rattle.vz_rules.specs.declared.entry.Entry.{Entry}
use Rattle.vz_rules.specs.World.{World, Client, client_at, new_client, new_clients, opening}
use Rattle.vz_rules.specs.Messages.{Answer, took, taking, answer_tick, submitting, accepted, client_answer, put_resource, lend, reclaim}
use Rattle.vz_rules.specs.Reach.{collect}
use Rattle.vz_rules.specs.Returns.{queue_returns}
use Rattle.vz_rules.specs.Settle.{settle}
use Rattle.vz_rules.specs.Step.{answer_to, begin_answer, deliver, next_tick, outcome_of, presented_by, step_in, world, NamesClient, Legal}
use Rattle.vz_rules.proofs.Rising.{Rising}
use Rattle.vz_rules.proofs.Given.{number_of}
use Rattle.vz_rules.proofs.Prefixes.{Steps, along}
use Rattle.vz_rules.proofs.Follow_ups.{outcome_clients}
use Rattle.vz_rules.proofs.Cases.{DisplayCases, client_cases, answer_cases}
use Rattle.vz_rules.proofs.Facts.{same_when, some_of}

-- Keys

pub keys_kept : {A B : Type 0} (key : A → B) (f : A → A) (xs : List A) → ((x : A) → key (f x) ≡ key x) → map key (map f xs) ≡ map key xs
keys_kept key f [] same = refl
keys_kept key f (x ∷ xs) same = ap (λ k. k ∷ map key (map f xs)) (same x) ∙ ap (λ l. key x ∷ l) (keys_kept key f xs same)

-- the first of two lists that are the same
head_same : {A : Type 0} (a b : A) (as' bs : List A) → a ∷ as' ≡ b ∷ bs → a ≡ b
head_same a b as' bs e = cc

pub rest_same : {A : Type 0} (a b : A) (as' bs : List A) → a ∷ as' ≡ b ∷ bs → as' ≡ bs
rest_same a b as' bs e = cc

above_keys : {A : Type 0} (key : A → ℕ) (n : ℕ) (xs ys : List A) → map key xs ≡ map key ys → list_all (λ y. nat_lt n (key y)) ys ≡ true → list_all (λ y. nat_lt n (key y)) xs ≡ true
above_keys key n [] [] e h = refl
above_keys key n [] (y ∷ ys) e h = absurd (cc)
above_keys key n (x ∷ xs) [] e h = absurd (cc)
above_keys key n (x ∷ xs) (y ∷ ys) e h =
    let head = head_same (key x) (key y) (map key xs) (map key ys) e in
    elim (nat_lt n (key y)) as (λ (t : Bool). nat_lt n (key y) ≡ t → (t && list_all (λ z. nat_lt n (key z)) ys) ≡ true → list_all (λ z. nat_lt n (key z)) (x ∷ xs) ≡ true) [
      | true ↦ λ k l. and_from (nat_lt n (key x)) (list_all (λ z. nat_lt n (key z)) xs) (ap (nat_lt n) head ∙ k) (above_keys key n xs ys (rest_same (key x) (key y) (map key xs) (map key ys) e) l)
      | false ↦ λ k l. absurd (cc)
    ] refl h

-- the keys of one list rise where those of the other do
pub rising_keys : {A : Type 0} (key : A → ℕ) (xs ys : List A) → map key xs ≡ map key ys → Rising key ys → Rising key xs
rising_keys key [] ys e h = tt
rising_keys key (x ∷ xs) [] e h = absurd (cc)
rising_keys key (x ∷ xs) (y ∷ ys) e h =
    let head = head_same (key x) (key y) (map key xs) (map key ys) e in
    let rest = rest_same (key x) (key y) (map key xs) (map key ys) e in
    (above_keys key (key x) xs ys rest (ap (λ n. list_all (λ z. nat_lt n (key z)) ys) head ∙ h.0), rising_keys key xs ys rest h.1)

found_keys : {A : Type 0} (key : A → ℕ) (n : ℕ) (xs ys : List A) → map key xs ≡ map key ys → is_some (find (λ x. key x == n) xs) ≡ is_some (find (λ x. key x == n) ys)
found_keys key n [] [] e = refl
found_keys key n [] (y ∷ ys) e = absurd (cc)
found_keys key n (x ∷ xs) [] e = absurd (cc)
found_keys key n (x ∷ xs) (y ∷ ys) e =
    ap (λ k. is_some (cond (k == n) (Some x) (find (λ z. key z == n) xs))) (head_same (key x) (key y) (map key xs) (map key ys) e)
    ∙ elim (key y == n) as (λ (t : Bool). is_some (cond t (Some x) (find (λ z. key z == n) xs)) ≡ is_some (cond t (Some y) (find (λ z. key z == n) ys))) [
      | true ↦ refl
      | false ↦ found_keys key n xs ys (rest_same (key x) (key y) (map key xs) (map key ys) e)
    ]

-- The numbers of clients

-- an answer leaves the numbers of the clients
abbrev KeepsNumbers : World → Answer → Type 0
KeepsNumbers w a = map number_of a.world.clients ≡ map number_of w.clients

taking_numbers : (w : World) (c : Client) (f : Client → Client) → ((x : Client) → (f x).number ≡ x.number) → map number_of (taking f c w).clients ≡ map number_of w.clients
taking_numbers w c f same = keys_kept number_of (λ x. cond (x.number == c.number) (took (f x)) x) w.clients (λ x. same_when number_of (x.number == c.number) _ x (same x))

client_numbers : (p : Plan) (w : World) (n : ℕ) → KeepsNumbers w (client_answer p w n)
unfolding accepted
client_numbers p w n =
    client_cases p w n (KeepsNumbers w) refl (λ c e number.
    let plain : Client → Client = λ x. x in
    let keeps = taking_numbers w c in
    record {
      turned = λ m r timely at. keeps plain (λ x. refl);
      not_yet = λ at. refl;
      stored = λ id block free at. keeps (λ x. record x { resources = put_resource id block x.resources }) (λ x. refl);
      submitted = λ local frame good at.
          keeps (submitting w frame) (λ x. same_when number_of (frame.metadata.ack == w.tick) (record x { resources = map (lend frame.resources) x.resources; answered = w.tick }) (record x { resources = map (lend frame.resources) x.resources }) refl);
      noted = λ m at. keeps (answer_tick w.tick m) (λ x. same_when number_of (m == w.tick) (record x { answered = w.tick }) x refl);
      reclaimed = λ at. keeps reclaim (λ x. refl);
      rooted = λ local root at. keeps plain (λ x. refl);
      joined = λ parent child good at. keeps plain (λ x. refl);
      began = λ m d at. keeps (λ x. record x { delivered = None }) (λ x. refl);
      over = λ at. keeps plain (λ x. refl);
      left = λ at. keeps (λ x. record x { closed = true }) (λ x. refl);
    })

display_numbers : (p : Plan) (w : World) → DisplayCases p w (λ e a. KeepsNumbers w a)
unfolding begin_answer
display_numbers p w =
    let tick = next_tick w.tick in
    record {
      begins = keys_kept number_of (deliver p w tick) w.clients (λ x. same_when number_of _ (record x { delivered = Some tick }) x refl);
      draws = λ r quiet last in_flight. refl;
      dones = λ r quiet in_flight. refl;
      overs = refl;
    }

outcome_numbers : (presented : List Sub) (a : Answer) → map number_of (outcome_of presented a).world.clients ≡ map number_of a.world.clients
outcome_numbers presented a =
    ap (map number_of) (outcome_clients presented a) ∙ keys_kept number_of (queue_returns (collect (settle a.world))) a.world.clients (λ x. refl)

-- an answer to any event leaves the numbers of the clients
pub answer_numbers : (p : Plan) (w : World) (e : Event) → map number_of (answer_to p w e).world.clients ≡ map number_of w.clients
answer_numbers p w e = answer_cases p w (λ d a. KeepsNumbers w a) (client_numbers p w) (display_numbers p w) e

abbrev pub HasNumbers : Plan → World → Type 0
HasNumbers p w = map number_of w.clients ≡ map number_of (new_clients 1 p.files)

-- the clients of a world keep the numbers of the files
pub steps_numbers : (p : Plan) → Steps p (λ w h. HasNumbers p w)
unfolding step_in
steps_numbers p w h e i names is = outcome_numbers (presented_by w e.event) (answer_to p w e.event) ∙ (answer_numbers p w e.event ∙ i)

pub numbers_are : (p : Plan) (h : List Entry) → Legal p h → HasNumbers p (world p h)
unfolding opening
numbers_are p h l = along p (λ w g. HasNumbers p w) (steps_numbers p) refl h l

above_new : (m n : ℕ) (files : List ClientFile) → m < n → list_all (λ (x : Client). nat_lt m x.number) (new_clients n files) ≡ true
above_new m n [] l = refl
above_new m n (f ∷ fs) l = and_from (nat_lt m n) (list_all (λ (x : Client). nat_lt m x.number) (new_clients (n + 1) fs)) (lt-ltb m n l) (above_new m (n + 1) fs (omega (arith, l)))

rising_new : (n : ℕ) (files : List ClientFile) → Rising number_of (new_clients n files)
rising_new n [] = tt
rising_new n (f ∷ fs) = (above_new n (n + 1) fs (omega arith), rising_new (n + 1) fs)

pub numbers_rise : (p : Plan) (w : World) → HasNumbers p w → Rising number_of w.clients
numbers_rise p w e = rising_keys number_of w.clients (new_clients 1 p.files) e (rising_new 1 p.files)

new_found : (n c : ℕ) (files : List ClientFile) → n ≤ c → c < n + length files → is_some (find (λ (x : Client). x.number == c) (new_clients n files)) ≡ true
new_found n c [] l m = absurd (omega arith)
new_found n c (f ∷ fs) l m =
    elim (n == c) as (λ (t : Bool). (n == c) ≡ t → is_some (cond t (Some (new_client n f.sink)) (find (λ (x : Client). x.number == c) (new_clients (n + 1) fs))) ≡ true) [
      | true ↦ λ e. refl
      | false ↦ λ e. let other : n ≡ c → ⊥ = eqb-false n c e in new_found (n + 1) c fs (omega arith) (omega arith)
    ] refl

-- each client of the plan is there
pub client_there : (p : Plan) (w : World) (c : ℕ) → HasNumbers p w → NamesClient p (event.Client c) → (x : Client) × (client_at w c ≡ Some x)
client_there p w c e names =
    some_of (client_at w c) (found_keys number_of c w.clients (new_clients 1 p.files) e ∙ new_found 1 c p.files (omega (arith, names.0)) (omega (arith, names.1)))
