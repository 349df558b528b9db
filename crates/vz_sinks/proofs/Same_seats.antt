-- The hierarchy is that of the machine's state.
use Rattle.std.proofs.Common.{◌≡◌, ℕ, ◌+◌, slice_get, Bool, true, false, not, ◌&&◌, ◌||◌, ◌==◌, Some, None, List, [], ◌∷◌, map, find, refl, ap, sym, ◌∙◌, cond}
use Rattle.std.specs.List.{list_any}
use Rattle.std.specs.Option.{option_and_then}
use Rattle.vz_ids.specs.declared.FrameSinkId.{FrameSinkId}
use Rattle.vz_ids.specs.Ids.{same_sink}
use Rattle.vz_frame.specs.declared.message.ClientFile.{ClientFile}
use Rattle.vz_frame.specs.Frame.{first_of}
use Rattle.vz_rules.specs.Plan.{Plan}
use Rattle.vz_rules.specs.World.{World, Client, client_at, change_client, first_sink, opening, new_clients}
use Rattle.vz_rules.specs.Messages.{reaches, is_known, hierarchy_refusal, first_some, when}
use Rattle.vz_rules.specs.declared.entry.Refusal.TheVariants as refusal
use Rattle.vz_rules.specs.Step.{is_attached, deliver}
use Rattle.vz_sinks.specs.declared.seats.Seat.{Seat}
use Rattle.vz_sinks.specs.Relating.{is_known_in, holds_of, is_own, refusal_for, refusal_in, refusal_of, attached_in, deliver_to, delivered_to, standing, take_one, close_one, seat_of, new_seat, seats_from, related_in}

some_is : {A : Type 0} {a b : A} → Some a ≡ Some b → a ≡ b
some_is e = cc

known_is : (cs : List Client) (sink : FrameSinkId) → list_any (λ c. same_sink c.sink sink) cs ≡ is_known_in (map seat_of cs) sink
known_is [] sink = refl
known_is (c ∷ cs) sink = ap (λ t. same_sink c.sink sink || t) (known_is cs sink)

holds_is : (test : Seat → Bool) (cs : List Client) (c : Client) (n : ℕ) → find (λ x. x.number == n) cs ≡ Some c → holds_of test (map seat_of cs) n ≡ test (seat_of c)
unfolding holds_of
holds_is test [] c n h = absurd (cc)
holds_is test (x ∷ cs) c n h =
    elim (x.number == n) as (λ (t : Bool). cond t (Some x) (find (λ x. x.number == n) cs) ≡ Some c → cond t (test (seat_of x)) (holds_of test (map seat_of cs) n) ≡ test (seat_of c)) [
      | true ↦ λ e. ap (λ (z : Client). test (seat_of z)) (some_is e)
      | false ↦ λ e. holds_is test cs c n e
    ] h

pub standing_is : (cs : List Client) (c : Client) (n : ℕ) → find (λ x. x.number == n) cs ≡ Some c → standing (map seat_of cs) n ≡ c.delivered
unfolding standing
standing_is [] c n h = absurd (cc)
standing_is (x ∷ cs) c n h =
    elim (x.number == n) as (λ (t : Bool). cond t (Some x) (find (λ x. x.number == n) cs) ≡ Some c → cond t x.delivered (standing (map seat_of cs) n) ≡ c.delivered) [
      | true ↦ λ e. ap (λ (z : Client). z.delivered) (some_is e)
      | false ↦ λ e. standing_is cs c n e
    ] h

reasons_are : (a b o : Bool) → first_some (when a refusal.Loop ∷ when (not b) refusal.UnknownSink ∷ when (not o) refusal.ParentOfOther ∷ []) ≡ option_and_then refusal_of (refusal_for a b o)
unfolding refusal_for
reasons_are true b o = refl
reasons_are false false o = refl
reasons_are false true false = refl
reasons_are false true true = refl

pub refused_as : (w : World) (c : Client) (n : ℕ) (first parent child : FrameSinkId) → client_at w n ≡ Some c
    → hierarchy_refusal w c parent child ≡ option_and_then refusal_of (refusal_in (related_in first w) n parent child)
unfolding hierarchy_refusal refusal_in is_own
refused_as w c n first parent child at =
    reasons_are (reaches w.relations child parent) (is_known w parent && is_known w child) (same_sink parent c.sink)
    ∙ (λ i. option_and_then refusal_of (refusal_for (reaches w.relations child parent) (known_is w.clients parent i && known_is w.clients child i) (sym (holds_is (λ s. same_sink parent s.sink) w.clients c n at) i)))

attached_by : (p : Plan) (w : World) (c : Client) (first : FrameSinkId) → first_sink p ≡ Some first → is_attached p w c ≡ reaches w.relations first c.sink
unfolding is_attached
attached_by p w c first is = ap (λ o. elim o [ Some sink ↦ reaches w.relations sink c.sink | None ↦ false ]) is

pub attached_as : (p : Plan) (w : World) (c : Client) (n : ℕ) (first : FrameSinkId) → first_sink p ≡ Some first → client_at w n ≡ Some c → attached_in (related_in first w) n ≡ is_attached p w c
unfolding attached_in
attached_as p w c n first is at = holds_is (λ s. reaches w.relations first s.sink) w.clients c n at ∙ sym (attached_by p w c first is)

one_delivered : (t : Bool) (n : ℕ) (c : Client) → seat_of (cond (t && not c.closed) (record c { delivered = Some n }) c) ≡ deliver_to t n (seat_of c)
one_delivered t n c = elim (t && not c.closed) as (λ (s : Bool). seat_of (cond s (record c { delivered = Some n }) c) ≡ cond s (record (seat_of c) { delivered = Some n }) (seat_of c)) [ true ↦ refl | false ↦ refl ]

pub delivered_as : (p : Plan) (w : World) (n : ℕ) (first : FrameSinkId) → first_sink p ≡ Some first → map seat_of (map (deliver p w n) w.clients) ≡ delivered_to (related_in first w) n
unfolding delivered_to
delivered_as p w n first is = each w.clients
  where
    each : (cs : List Client) → map seat_of (map (deliver p w n) cs) ≡ map (λ s. deliver_to (reaches w.relations first s.sink) n s) (map seat_of cs)
    each [] = refl
    each (c ∷ cs) =
        let one = ap (λ t. seat_of (cond (t && not c.closed) (record c { delivered = Some n }) c)) (attached_by p w c first is) ∙ one_delivered (reaches w.relations first c.sink) n c in
        (λ i. one i ∷ each cs i)

pub taken_as : (cs : List Client) (n : ℕ) → map seat_of (change_client (λ x. record x { delivered = None }) n cs) ≡ map (take_one n) (map seat_of cs)
taken_as [] n = refl
taken_as (c ∷ cs) n =
    let one = elim (c.number == n) as (λ (s : Bool). seat_of (cond s (record c { delivered = None }) c) ≡ cond s (record (seat_of c) { delivered = None }) (seat_of c)) [ true ↦ refl | false ↦ refl ] in
    (λ i. one i ∷ taken_as cs n i)

pub closed_as : (cs : List Client) (n : ℕ) → map seat_of (change_client (λ x. record x { closed = true }) n cs) ≡ map (close_one n) (map seat_of cs)
closed_as [] n = refl
closed_as (c ∷ cs) n =
    let one = elim (c.number == n) as (λ (s : Bool). seat_of (cond s (record c { closed = true }) c) ≡ cond s (record (seat_of c) { closed = true }) (seat_of c)) [ true ↦ refl | false ↦ refl ] in
    (λ i. one i ∷ closed_as cs n i)

-- Before the first step

seats_of_files : (n : ℕ) (files : List ClientFile) → map seat_of (new_clients n files) ≡ seats_from n (map (λ (f : ClientFile). f.sink) files)
unfolding seats_from
seats_of_files n [] = refl
seats_of_files n (f ∷ files) = ap (λ l. new_seat n f.sink ∷ l) (seats_of_files (n + 1) files)

pub opened_as : (p : Plan) → map seat_of (opening p).clients ≡ seats_from 1 (map (λ f. f.sink) p.files)
unfolding opening
opened_as p = seats_of_files 1 p.files

first_of_files : (files : List ClientFile) → elim (first_of files) [ Some file ↦ Some file.sink | None ↦ None ] ≡ slice_get (map (λ (f : ClientFile). f.sink) files) 0
first_of_files [] = refl
first_of_files (f ∷ files) = refl

pub first_as : (p : Plan) → first_sink p ≡ slice_get (map (λ f. f.sink) p.files) 0
first_as p = first_of_files p.files
