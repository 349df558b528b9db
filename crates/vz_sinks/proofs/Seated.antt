-- The clients with their sinks, looked through one by one.
use Rattle.std.proofs.Common.{◌≡◌, ℕ, zero, suc, set, take, arith, ◌+◌, ◌≤◌, ◌<◌, Bool, true, false, ◌==◌, Option, Some, None, List, [], ◌∷◌, ◌++◌, length, get_or, drop, map, refl, ap, sym, ◌∙◌, cond}
use Rattle.std.proofs.lemmas.List.{drop_more, drop_all, take_all, length-map}
use Rattle.std.proofs.lemmas.List.Edits.{map_over_more}
use Rattle.vz_ids.specs.declared.FrameSinkId.{FrameSinkId}
use Rattle.vz_rules.specs.Plan.{has_sink}
use Rattle.vz_rules.specs.Messages.{reaches}
use Rattle.vz_sinks.specs.declared.seats.Seat.{Seat}
use Rattle.vz_sinks.specs.declared.refusals.SinkError.{SinkError}
use Rattle.vz_sinks.specs.declared.refusals.SinkError.TheVariants as error
use Rattle.vz_sinks.specs.Relating.{new_seat, seats_from, holds_of, standing, attached_in, deliver_to, delivered_to, refusal_for}

-- the next client is looked at
module _ (seats : List Seat) (c i : ℕ) (d : Seat) (inside : i < length seats) where
  module _ (test : Seat → Bool) (left : holds_of test seats c ≡ holds_of test (drop i seats) c) where
    split : holds_of test seats c ≡ cond ((get_or seats i d).number == c) (test (get_or seats i d)) (holds_of test (drop (i + 1) seats) c)
    unfolding holds_of
    split = left ∙ ap (λ l. holds_of test l c) (drop_more seats i d inside)

    pub test_found : ((get_or seats i d).number == c) ≡ true → test (get_or seats i d) ≡ holds_of test seats c
    test_found is = sym (split ∙ ap (λ t. cond t (test (get_or seats i d)) (holds_of test (drop (i + 1) seats) c)) is)

    pub test_next : ((get_or seats i d).number == c) ≡ false → holds_of test seats c ≡ holds_of test (drop (i + 1) seats) c
    test_next is = split ∙ ap (λ t. cond t (test (get_or seats i d)) (holds_of test (drop (i + 1) seats) c)) is

  module _ (left : standing seats c ≡ standing (drop i seats) c) where
    apart : standing seats c ≡ cond ((get_or seats i d).number == c) (get_or seats i d).delivered (standing (drop (i + 1) seats) c)
    unfolding standing
    apart = left ∙ ap (λ l. standing l c) (drop_more seats i d inside)

    pub stands_here : ((get_or seats i d).number == c) ≡ true → (get_or seats i d).delivered ≡ standing seats c
    stands_here is = sym (apart ∙ ap (λ t. cond t (get_or seats i d).delivered (standing (drop (i + 1) seats) c)) is)

    pub stands_later : ((get_or seats i d).number == c) ≡ false → standing seats c ≡ standing (drop (i + 1) seats) c
    stands_later is = apart ∙ ap (λ t. cond t (get_or seats i d).delivered (standing (drop (i + 1) seats) c)) is

pub test_end : (seats : List Seat) (c i : ℕ) (test : Seat → Bool) → holds_of test seats c ≡ holds_of test (drop i seats) c → length seats ≤ i → false ≡ holds_of test seats c
unfolding holds_of
test_end seats c i test left over = sym (left ∙ ap (λ l. holds_of test l c) (drop_all i seats over))

pub stands_nowhere : (seats : List Seat) (c i : ℕ) → standing seats c ≡ standing (drop i seats) c → length seats ≤ i → ◌≡◌ {A = Option ℕ} None (standing seats c)
unfolding standing
stands_nowhere seats c i left over = sym (left ∙ ap (λ l. standing l c) (drop_all i seats over))

-- what is reached tells who is attached
module _ (seats : List Seat) (reached : List FrameSinkId) (first : FrameSinkId) (relations : List (FrameSinkId × FrameSinkId))
    (is : (sink : FrameSinkId) → has_sink reached sink ≡ reaches relations first sink) where
  pub attached_is : (c : ℕ) → holds_of (λ s. has_sink reached s.sink) seats c ≡ attached_in (record { first = first; seats = seats; relations = relations }) c
  unfolding attached_in
  attached_is c = λ i. holds_of (λ s. is s.sink i) seats c

  pub delivered_is : (n : ℕ) → map (λ s. deliver_to (has_sink reached s.sink) n s) seats ≡ delivered_to (record { first = first; seats = seats; relations = relations }) n
  unfolding delivered_to
  delivered_is n = λ i. map (λ s. deliver_to (is s.sink i) n s) seats

-- one more client is put in
append_two : (xs : List Seat) (y : Seat) (zs : List Seat) → (xs ++ y ∷ []) ++ zs ≡ xs ++ y ∷ zs
append_two [] y zs = refl
append_two (x ∷ xs) y zs = ap (λ l. x ∷ l) (append_two xs y zs)

append_none : (xs : List Seat) → xs ++ [] ≡ xs
append_none [] = refl
append_none (x ∷ xs) = ap (λ l. x ∷ l) (append_none xs)

pub seated_next : (seats new whole : List Seat) (sinks : List FrameSinkId) (n i : ℕ) (d : FrameSinkId) → i < length sinks → seats ++ seats_from n (drop i sinks) ≡ whole
    → new ≡ seats ++ new_seat n (get_or sinks i d) ∷ [] → new ++ seats_from (n + 1) (drop (i + 1) sinks) ≡ whole
unfolding seats_from
seated_next seats new whole sinks n i d inside left is =
    ap (λ l. l ++ seats_from (n + 1) (drop (i + 1) sinks)) is ∙ append_two seats (new_seat n (get_or sinks i d)) (seats_from (n + 1) (drop (i + 1) sinks))
    ∙ ap (λ l. seats ++ seats_from n l) (sym (drop_more sinks i d inside)) ∙ left

pub seated_all : (seats whole : List Seat) (sinks : List FrameSinkId) (n i : ℕ) → length sinks ≤ i → seats ++ seats_from n (drop i sinks) ≡ whole → seats ≡ whole
unfolding seats_from
seated_all seats whole sinks n i over left = sym (append_none seats) ∙ ap (λ l. seats ++ seats_from n l) (sym (drop_all i sinks over)) ∙ left

-- The first reason that holds
pub says_loop : (a b o : Bool) → a ≡ true → ◌≡◌ {A = Option SinkError} (Some error.Loop) (refusal_for a b o)
unfolding refusal_for
says_loop true b o p = refl
says_loop false b o p = absurd (cc)

pub says_unknown : (a b o : Bool) → a ≡ false → b ≡ false → ◌≡◌ {A = Option SinkError} (Some error.UnknownSink) (refusal_for a b o)
unfolding refusal_for
says_unknown false false o p q = refl
says_unknown true b o p q = absurd (cc)
says_unknown false true o p q = absurd (cc)

pub says_other : (a b o : Bool) → a ≡ false → b ≡ true → o ≡ false → ◌≡◌ {A = Option SinkError} (Some error.ParentOfOther) (refusal_for a b o)
unfolding refusal_for
says_other false true false p q r = refl
says_other true b o p q r = absurd (cc)
says_other false false o p q r = absurd (cc)
says_other false true true p q r = absurd (cc)

pub says_nothing : (a b o : Bool) → a ≡ false → b ≡ true → o ≡ true → ◌≡◌ {A = Option SinkError} None (refusal_for a b o)
unfolding refusal_for
says_nothing false true true p q r = refl
says_nothing true b o p q r = absurd (cc)
says_nothing false false o p q r = absurd (cc)
says_nothing false true false p q r = absurd (cc)

-- Changes of all clients

own_default : (ys : List Seat) (i : ℕ) (d : Seat) → get_or ys i d ≡ get_or ys i (get_or ys i d)
own_default [] i d = refl
own_default (y ∷ ys) zero d = refl
own_default (y ∷ ys) (suc i) d = own_default ys i d

-- one client is changed
pub changed_next : (f : Seat → Seat) (xs ys : List Seat) (i : ℕ) (d new : Seat) → i < length xs → ys ≡ map f (take i xs) ++ drop i xs → new ≡ f (get_or ys i d)
    → set ys i new ≡ map f (take (i + 1) xs) ++ drop (i + 1) xs
changed_next f xs ys i d new inside so_far is = ap (set ys i) is ∙ map_over_more f xs ys i (get_or ys i d) inside so_far (own_default ys i d)

-- all of a vector was written
pub whole_written : (f : Seat → Seat) (items new : List Seat) (n : ℕ) → n ≡ length items → new ≡ map f items → take n (new ++ drop (length new) items) ≡ map f items
whole_written f items new n long is =
    let same : length new ≡ length items = ap length is ∙ length-map items f in
    ap (λ l. take n (new ++ l)) (drop_all (length new) items (omega (arith, same))) ∙ ap (take n) (append_none new) ∙ take_all n new (omega (arith, same, long)) ∙ is
