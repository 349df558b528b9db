-- The passes of all clients, one by one.
use Rattle.std.specs.Prelude.{All}
use Rattle.std.proofs.Common.{◌≡◌, ℕ, zero, suc, ◌+◌, ◌≤◌, Bool, true, ◌&&◌, ◌==◌, Some, List, [], ◌∷◌, ◌++◌, length, refl, ap, sym, ◌∙◌, subst, arith, append-nil, eqb-true}
use Rattle.std.proofs.{lemmas.List.reverse-append, lemmas.Grind.common_steps}
use Rattle.std.proofs.{lemmas.List.Elements.All-nil, lemmas.List.Elements.All-pop, lemmas.List.Elements.All-push, lemmas.Bool.Decides.nat_tests}
use Rattle.atomic_table.specs.Seated.{TableId}
use Rattle.vz_loans.specs.Tokens.{Caller, unused, unused_from}
use Rattle.vz_loans.proofs.Closing.{Each, all_of}
use Rattle.vz_rules.specs.{Plan.Plan, declared.entry.Entry.Entry}
use Rattle.vz_outside.specs.Told.{Call}
use Rattle.vz_callers.specs.{declared.crew.Started.Started, Callers.IsClient, Callers.calls_of, Callers.HasTold, Callers.HasCalled}
use Rattle.vz_callers.proofs.Tells.{unused_told}
use Rattle.vz_callers.specs.Crews.{messages_of, HasFile, HasCalledAll, numbers_of, number_of, numbers_at_work, IsCrew, IsBack}

-- The numbers

module _ {M G D T : Type 0} where
  -- a pass goes from the end of one list to the end of the other
  pub numbers_move : (passes left : List (Caller Plan Entry)) (x : Caller Plan Entry) (started more : List (Started M G D T)) (s : Started M G D T) → passes ≡ left ++ x ∷ [] → more ≡ started ++ s ∷ []
      → number_of s ≡ x.number → numbers_of left ++ numbers_at_work more ≡ numbers_of passes ++ numbers_at_work started
  numbers_move passes left x started more s taken put same = grind (arith, nat_tests, common_steps, reverse-append)

  pub none_at_work : (passes : List (Caller Plan Entry)) (started : List (Started M G D T)) → started ≡ [] → numbers_of passes ++ numbers_at_work started ≡ numbers_of passes
  none_at_work passes started none = ap (λ (l : List (Started M G D T)). numbers_of passes ++ numbers_at_work l) none ∙ append-nil (numbers_of passes)

-- Lists from whose end one is taken, or at whose end one is put

module _ {A : Type 0} (P : A → Type 0) where
  pub all_popped : (xs ys : List A) (x : A) → xs ≡ ys ++ x ∷ [] → All P xs → All P ys × P x
  all_popped xs ys x is h = All-pop P xs ys (Some x) is h

  pub all_pushed : (xs ys : List A) (x : A) → ys ≡ xs ++ x ∷ [] → All P xs → P x → All P ys
  all_pushed xs ys x is h one = subst (All P) (sym is) (All-push P xs x h one)

  pub all_none : (xs : List A) → xs ≡ [] → All P xs
  all_none xs none = subst (All P) (sym none) (All-nil P)

-- The numbers of clients

pub has_file : (id : TableId) (p : Plan) (messages : List ℕ) (t : Caller Plan Entry) → length messages ≡ length p.files → IsClient id p t → HasFile messages t
has_file id p messages t counts c = (c.from, let u = c.upto in omega (arith, counts))

-- The passes come back

both_first : (a b : Bool) → (a && b) ≡ true → a ≡ true
both_first a b is = grind (arith, nat_tests)

both_second : (a b : Bool) → (a && b) ≡ true → b ≡ true
both_second a b is = grind (arith, nat_tests)

pub back_more : (told : Call → Type 0) (id : TableId) (p : Plan) (messages : List ℕ) (ts more : List (Caller Plan Entry)) (t : Caller Plan Entry) (made count : ℕ) (complete : Bool) → IsBack told id p messages ts complete
    → HasCalled told id p t made → more ≡ ts ++ t ∷ [] → count ≡ messages_of messages t.number → IsBack told id p messages more (complete && (made == count))
back_more told id p messages ts more t made count complete b h is of = record {
  clients = all_pushed (IsClient id p) ts more t is b.clients h.client;
  gated = all_pushed (HasTold told) ts more t is b.gated h.gated;
  all = λ both. all_pushed (HasCalledAll messages) ts more t is (b.all (both_first complete (made == count) both))
      (h.events ∙ ap (calls_of t.number) (eqb-true made count (both_second complete (made == count) both) ∙ of));
}

-- The passes that a hub was opened with

each_new : (told : Call → Type 0) (id : TableId) (p : Plan) (k count : ℕ) → 1 ≤ k → k + count ≤ length p.files + 1 → Each (λ t. HasCalled told id p t 0) (unused_from id (Some p) k count)
each_new told id p k zero from upto = tt
each_new told id p k (suc count) from upto = (
  record {
    client = record { rests = (refl, refl); plan = refl; from = from; upto = omega (arith, upto) };
    events = refl;
    gated = unused_told told (unused id (Some p) k) refl;
  },
  each_new told id p (k + 1) count (omega (arith, from)) (omega (arith, upto)),
)

pub crew_new : (told : Call → Type 0) (id : TableId) (p : Plan) (messages : List ℕ) (count : ℕ) (ts : List (Caller Plan Entry)) → length messages ≡ length p.files → count ≡ length p.files → ts ≡ unused_from id (Some p) 1 count
    → IsCrew told id p messages ts
crew_new told id p messages count ts counts many is = record {
  counts = counts;
  new = subst (All (λ t. HasCalled told id p t 0)) (sym is)
      (all_of (λ t. HasCalled told id p t 0) (unused_from id (Some p) 1 count) (each_new told id p 1 count (omega arith) (omega (arith, many))));
}
