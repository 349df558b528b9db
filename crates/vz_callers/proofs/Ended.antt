-- What a closed hub's history has.
use Rattle.std.specs.Prelude.{slice_index, slice_get}
use Rattle.std.proofs.Common.{◌≡◌, ℕ, zero, suc, ◌+◌, ◌-◌, ◌<◌, ◌≤◌, false, ◌==◌, ◌⊎◌, inl, inr, Option, Some, List, [], ◌∷◌, ◌++◌, map, length, refl, ap, sym, ◌∙◌, subst, arith, ne_eqb}
use Rattle.std.proofs.{lemmas.List.length-map, lemmas.List.length-replicate}
use Rattle.atomic_table.specs.Seated.{TableId}
use Rattle.vz_loans.specs.{Rule.Log, Rule.places, Rule.weight, Tokens.Caller, Tokens.numbered, Tokens.unused_from, Tokens.IsClosedBy}
use Rattle.vz_loans.proofs.Closing.{Each, each_of, each_init, each_rest, each_on}
use Rattle.vz_frame.specs.declared.message.ClientFile.{ClientFile}
use Rattle.vz_rules.specs.{Plan.Plan, Plan.message_counts, World.file_of, Course.displayed, Whole.mine as mine_in, declared.entry.Entry.Entry}
use Rattle.vz_rules.specs.Step.{Legal}
use Rattle.vz_rules.specs.declared.entry.Event.TheVariants as event
use Rattle.vz_turn.specs.{Calls.IsClosed, Own.own_entries, Own.made_with}
use Rattle.vz_turn.proofs.Owned.{own_count, own_closed}
use Rattle.vz_outside.specs.Told.{Call, AreTold}
use Rattle.vz_outside.proofs.Passing.{told_none}
use Rattle.vz_callers.specs.{Callers.events_in, Callers.events_of, Callers.calls_of, Callers.IsClient, Callers.IsEventOf, Callers.HasTold, Turns.rounds, Turns.IsTurns, Turns.AreEntriesTold}
use Rattle.vz_callers.specs.Crews.{messages_of, numbers_of, HasCalledAll}
use Rattle.vz_callers.proofs.Sorting.{IsEntryOf, IsSorted, sorted_by, each_event, displayed_own, mine_own}
use Rattle.vz_callers.proofs.Tells.{told_by}
use Rattle.vz_rules.proofs.Members.{at_within as inside}

-- Lists

-- a caller whose entries in a log are those that it made, and of which this holds
pub record IsOwner (log : Log Entry) (P : Caller Plan Entry → Type 0) (t : Caller Plan Entry) : Type 0 where
  pub own : own_entries t.number log ≡ made_with t
  pub holds : P t

owners : (q : Plan) (log : Log Entry) (P : Caller Plan Entry → Type 0) (ts : List (Caller Plan Entry)) → Each (IsClosedBy q log) ts → Each P ts → Each (IsOwner log P) ts
owners q log P [] h k = tt
owners q log P (t ∷ ts) h k = (record { own = own_closed q log t h.0; holds = k.0 }, owners q log P ts h.1 k.1)

empty_is : {A : Type 0} (xs : List A) → length xs ≡ 0 → xs ≡ []
empty_is [] none = refl
empty_is (x ∷ xs) none = absurd (omega (arith, none))

some_same : {A : Type 0} (a b : A) → ◌≡◌ {A = Option A} (Some a) (Some b) → a ≡ b
some_same a b e = cc

counted_at : (files : List ClientFile) (k : ℕ) (file : ClientFile) → slice_get files k ≡ Some file → slice_index (map (λ (f : ClientFile). length f.messages) files) k ≡ length file.messages
counted_at [] k file at = absurd (cc)
counted_at (f ∷ files) zero file at = ap (λ (x : ClientFile). length x.messages) (some_same f file at)
counted_at (f ∷ files) (suc k) file at = counted_at files k file at

-- Numbers

order : (a b : ℕ) → (a ≤ b) ⊎ (b < a)
order zero b = inl (omega arith)
order (suc a) zero = inr (omega arith)
order (suc a) (suc b) = elim (order a b) [ inl l ↦ inl (omega (arith, l)) | inr l ↦ inr (omega (arith, l)) ]

first_or_later : (k c : ℕ) → k ≤ c → (k ≡ c) ⊎ (k + 1 ≤ c)
first_or_later k c from = elim (order c k) [ inl l ↦ inl (omega (arith, from, l)) | inr l ↦ inr (omega (arith, l)) ]

none_numbered : (n : ℕ) (ts : List (Caller Plan Entry)) → Each (λ t. (t.number == n) ≡ false) ts → numbered n ts ≡ 0
none_numbered n [] h = refl
none_numbered n (t ∷ ts) h = let one = ap weight h.0 in let rest = none_numbered n ts h.1 in omega (arith, one, rest)

head_same : (a b : ℕ) (as' bs : List ℕ) → a ∷ as' ≡ b ∷ bs → a ≡ b
head_same a b as' bs e = cc

rest_same : (a b : ℕ) (as' bs : List ℕ) → a ∷ as' ≡ b ∷ bs → as' ≡ bs
rest_same a b as' bs e = cc

-- the caller with a number
found : (P : Caller Plan Entry → Type 0) (ts : List (Caller Plan Entry)) (id : TableId) (o : Option Plan) (k count c : ℕ) → numbers_of ts ≡ numbers_of (unused_from {P = Plan} {E = Entry} id o k count) → k ≤ c → c < k + count
    → Each P ts → (t : Caller Plan Entry) × (t.number ≡ c) × P t
found P ts id o k zero c is from upto each = absurd (omega (arith, from, upto))
found P [] id o k (suc count) c is from upto each = absurd (cc)
found P (t ∷ ts) id o k (suc count) c is from upto each =
    elim (first_or_later k c from) [
      | inl e ↦ (t, head_same t.number k (numbers_of ts) (numbers_of (unused_from {P = Plan} {E = Entry} id o (k + 1) count)) is ∙ e, each.0)
      | inr l ↦ found P ts id o (k + 1) count c (rest_same t.number k (numbers_of ts) (numbers_of (unused_from {P = Plan} {E = Entry} id o (k + 1) count)) is) l (omega (arith, upto)) each.1
    ]

-- The history

each_put : (P : Caller Plan Entry → Type 0) (ts : List (Caller Plan Entry)) (t : Caller Plan Entry) → Each P ts → P t → Each P (ts ++ t ∷ [])
each_put P [] t h k = (k, tt)
each_put P (u ∷ ts) t h k = (h.0, each_put P ts t h.1 k)

abbrev IsOther : ℕ → Caller Plan Entry → Type 0
IsOther c t = (t.number == c) ≡ false

module _ (told : Call → Type 0) (id : TableId) (p q : Plan) (h : List Entry) (clients : List (Caller Plan Entry)) (display : Caller Plan Entry)
    (closed : IsClosed q h (clients ++ display ∷ [])) (zeroth : display.number ≡ 0) (ours : Each (IsClient id p) clients) (gated : Each (HasTold told) clients) (shown : HasTold told display)
    (numbers : numbers_of clients ≡ numbers_of (unused_from {P = Plan} {E = Entry} id (Some p) 1 (length p.files))) where
  each_closed : Each (IsClosedBy q closed.log) (clients ++ display ∷ [])
  each_closed = each_of (IsClosedBy q closed.log) (clients ++ display ∷ []) closed.closed

  -- the display's entries
  display_own : own_entries 0 closed.log ≡ made_with display
  display_own = ap (λ (n : ℕ). own_entries n closed.log) (sym zeroth) ∙ own_closed q closed.log display (each_rest (IsClosedBy q closed.log) clients (display ∷ []) each_closed).0

  -- a client's caller, of which this holds
  client_own : (P : Caller Plan Entry → Type 0) (c : ℕ) → 1 ≤ c → c ≤ length p.files → Each P clients → (t : Caller Plan Entry) × (t.number ≡ c) × IsOwner closed.log P t
  client_own P c from upto each =
      found (IsOwner closed.log P) clients id (Some p) 1 (length p.files) c numbers from (omega (arith, upto))
      (owners q closed.log P clients (each_init (IsClosedBy q closed.log) clients (display ∷ []) each_closed) each)

  -- nobody else's
  others_all : (c : ℕ) → length p.files < c → Each (IsOther c) (clients ++ display ∷ [])
  others_all c beyond =
      each_put (IsOther c) clients display
      (each_on (IsClient id p) (IsOther c) (λ t k. ne_eqb t.number c (λ e. let u = k.upto in absurd (omega (arith, beyond, u, e)))) clients ours)
      (ne_eqb display.number c (λ e. absurd (omega (arith, beyond, e, zeroth))))

  no_stranger : (c : ℕ) → length p.files < c → own_entries c closed.log ≡ []
  no_stranger c beyond =
      let none : places c closed.log ≡ [] = closed.others c (none_numbered c (clients ++ display ∷ []) (others_all c beyond)) in
      empty_is (own_entries c closed.log) (own_count (record display { number = c; seen = closed.log }) ∙ ap length none)

  -- each entry is of its caller's event
  owned : (t : Caller Plan Entry) (n : ℕ) → own_entries n closed.log ≡ made_with t → t.number ≡ n → HasTold told t → Each (IsEntryOf n) (own_entries n closed.log)
  owned t n is same k =
      subst (Each (IsEntryOf n)) (sym is)
      (each_event (IsEventOf n) (made_with t) (subst (λ (m : ℕ). Each (IsEventOf m) (events_of t)) same (each_of (IsEventOf t.number) (events_of t) k.own)))

  client_owned : (c : ℕ) → 1 ≤ c → c ≤ length p.files → Each (IsEntryOf c) (own_entries c closed.log)
  client_owned c from upto =
      let one = client_own (HasTold told) c from upto gated in
      owned one.0 c (ap (λ (n : ℕ). own_entries n closed.log) (sym one.1) ∙ one.2.own) one.1 one.2.holds

  each_entry : (n : ℕ) → Each (IsEntryOf n) (own_entries n closed.log)
  each_entry zero = owned display 0 display_own zeroth shown
  each_entry (suc n) = elim (order (suc n) (length p.files)) [
    | inl upto ↦ client_owned (suc n) (omega arith) upto
    | inr beyond ↦ subst (Each (IsEntryOf (suc n))) (sym (no_stranger (suc n) beyond)) tt
  ]

  sorted : IsSorted closed.log
  sorted = sorted_by closed.log each_entry

  displayed_is : displayed h ≡ made_with display
  displayed_is = ap displayed (sym closed.entries) ∙ (displayed_own closed.log sorted ∙ display_own)

  mine_is : (c : ℕ) → 1 ≤ c → mine_in h c ≡ own_entries c closed.log
  mine_is c from = ap (λ (es : List Entry). mine_in es c) (sym closed.entries) ∙ mine_own c closed.log from sorted

  -- the gate was told of each entry
  entries_told : (t : Caller Plan Entry) (n : ℕ) (es : List Entry) → es ≡ made_with t → t.number ≡ n → HasTold told t → AreTold told n 0 (length es)
  entries_told t n es is same k =
      told_by told t.number n (length (events_of t)) (length es) same (length-map (made_with t) (λ (e : Entry). e.event) ∙ ap length (sym is)) k.each

  client_told : (c : ℕ) → 1 ≤ c → c ≤ length p.files → AreTold told c 0 (length (mine_in h c))
  client_told c from upto =
      let one = client_own (HasTold told) c from upto gated in
      entries_told one.0 c (mine_in h c) (mine_is c from ∙ (ap (λ (n : ℕ). own_entries n closed.log) (sym one.1) ∙ one.2.own)) one.1 one.2.holds

  stranger_told : (c : ℕ) → 1 ≤ c → length p.files < c → AreTold told c 0 (length (mine_in h c))
  stranger_told c from beyond = told_none told c 0 (length (mine_in h c)) (let none = ap length (mine_is c from ∙ no_stranger c beyond) in omega (arith, none))

  pub all_told : AreEntriesTold told h
  all_told = record {
    display = entries_told display 0 (displayed h) displayed_is zeroth shown;
    clients = λ c from. elim (order c (length p.files)) [ inl upto ↦ client_told c from upto | inr beyond ↦ stranger_told c from beyond ];
  }

  module _ (messages : List ℕ) (ticks : ℕ) (counts : messages ≡ message_counts p) (played : events_of display ≡ rounds ticks) (called : Each (HasCalledAll messages) clients) where
    client_events : (c : ℕ) → 1 ≤ c → c ≤ length p.files → events_in (own_entries c closed.log) ≡ calls_of c (messages_of messages c)
    client_events c from upto =
        let one = client_own (HasCalledAll messages) c from upto called in
        subst (λ (n : ℕ). events_in (own_entries n closed.log) ≡ calls_of n (messages_of messages n)) one.1 (ap events_in one.2.own ∙ one.2.holds)

    client_is : (c : ℕ) (file : ClientFile) → 1 ≤ c → file_of p c ≡ Some file → length (mine_in h c) ≡ length file.messages
    client_is c file from at =
        let upto : c ≤ length p.files = let i = inside p.files (c - 1) file at in omega (arith, from, i) in
        ap length (mine_is c from)
        ∙ sym (length-map (own_entries c closed.log) (λ (e : Entry). e.event))
        ∙ ap length (client_events c from upto)
        ∙ length-replicate (messages_of messages c) (event.Client c)
        ∙ ap (λ (l : List ℕ). slice_index l (c - 1)) counts
        ∙ counted_at p.files (c - 1) file at

    pub turns : q ≡ p → Legal q h → IsTurns p ticks h
    turns same legal = record { legal = subst (λ (r : Plan). Legal r h) same legal; display = ap events_in displayed_is ∙ played; clients = client_is }

-- the plan is the one that the display's pass knows
pub plan_is : (p q : Plan) (h : List Entry) (clients : List (Caller Plan Entry)) (display : Caller Plan Entry) → IsClosed q h (clients ++ display ∷ []) → display.plan ≡ Some p → q ≡ p
plan_is p q h clients display closed planned =
    let each = each_of (IsClosedBy q closed.log) (clients ++ display ∷ []) closed.closed in
    let last = (each_rest (IsClosedBy q closed.log) clients (display ∷ []) each).0 in
    some_same q p (sym last.same_plan ∙ planned)
