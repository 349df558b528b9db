-- How the tokens of all ends are brought together.
use Rattle.std.proofs.Common.{◌≡◌, ℕ, ◌+◌, List, [], ◌∷◌, ◌++◌, length, ap, sym, ◌∙◌, subst, arith, append_assoc, append-nil, length-append}
use mathlib.Core.List.{IsPrefix}
use Rattle.std.specs.Prelude.{All}
use Rattle.atomic_table.specs.Seated.{TableId}
use Rattle.vz_loans.specs.{Rule.places, Tokens.Caller, Tokens.IsAtRest, Tokens.IsClosedBy}
use Rattle.vz_loans.proofs.Closing.{Each, each_of, all_of, each_init, each_rest}
use Rattle.vz_rules.specs.{Plan.Plan, declared.entry.Entry.Entry}
use Rattle.vz_desk.specs.{Books.numbered, Totals.AreTotals, Totals.DisplayTotals, declared.totals.Totals.Totals}
use Rattle.vz_desk.specs.{Owners.Owner, Owners.owner_of, Owners.IsEnd, Owners.IsDisplayEnd, Gathering.IsGatheredClient, Gathering.IsGatheredDisplay}
use Rattle.vz_desk.proofs.Owning.{none_more, longer_history, same_plan, totals_stay}
use Rattle.vz_desk.proofs.Displaying.{shown_same, counted_same}
use Rattle.std.proofs.lemmas.Bool.Decides.{nat_tests}

-- what was a client's, behind the whole history
gathered_client : (t : Caller Plan Entry) (totals : Totals) (p : Plan) (h : List Entry) → IsEnd t totals → IsClosedBy p (numbered h) t → IsGatheredClient p h (owner_of t totals)
gathered_client t totals p h old closed =
    let same : old.plan ≡ p = same_plan old.plan p (sym old.sees.planned ∙ closed.same_plan) in
    let longer = longer_history old.history h (subst (λ (s : List (ℕ × Entry)). IsPrefix s (numbered h)) old.sees.seen closed.begun) in
    let stay : places t.number (numbered (old.history ++ longer.0)) ≡ places t.number (numbered old.history) =
    ap (λ (g : List Entry). places t.number (numbered g)) (sym longer.1) ∙ closed.counted ∙ ap (places t.number) old.sees.seen in
    let none = none_more 1 t.number old.history longer.0 old.client.0 stay in
    record {
      gathered = record { planned = closed.same_plan; begun = closed.begun; mine = closed.counted };
      counted = subst (λ (x : Plan × List Entry). AreTotals x.0 x.1 t.number totals) (λ i. (same i, sym longer.1 i)) (totals_stay old.plan t.number totals old.history longer.0 none old.counted);
    }

-- what was the display's
gathered_display : (t : Caller Plan Entry) (totals : DisplayTotals) (p : Plan) (h : List Entry) → IsDisplayEnd t totals → IsClosedBy p (numbered h) t → IsGatheredDisplay p h (owner_of t totals)
gathered_display t totals p h old closed = grind (arith, nat_tests, counted_same old.history h totals, shown_same old.history h t.seen old.sees.seen closed.begun)

module _ {A : Type 0} (P : A → Type 0) where
  each_append : (xs ys : List A) → Each P xs → Each P ys → Each P (xs ++ ys)
  each_append [] ys h k = k
  each_append (x ∷ xs) ys h k = (h.0, each_append xs ys h.1 k)

-- the tokens of all ends but those left are in the room, behind the display's
pub record Collected (all left : List (Owner Totals)) (d : Owner DisplayTotals) (room : List (Caller Plan Entry)) : Type 0 where
  pub rest : List (Owner Totals)
  pub split : left ++ rest ≡ all
  pub count : length room ≡ length rest + 1
  pub ours : (id : TableId) → d.desk ≡ id → Each (λ (o : Owner Totals). o.desk ≡ id) rest → Each (IsAtRest id) room
  pub ends : (p : Plan) (h : List Entry) → Each (IsClosedBy p (numbered h)) room → Each (IsGatheredClient p h) rest
  pub display : (p : Plan) (h : List Entry) → Each (IsClosedBy p (numbered h)) room → IsGatheredDisplay p h d

starts_one : (all : List (Owner Totals)) (t : Caller Plan Entry) (totals : DisplayTotals) → IsDisplayEnd t totals → Collected all all (owner_of t totals) (t ∷ [])
starts_one all t totals end = record {
  rest = [];
  split = append-nil all;
  count = omega arith;
  ours = λ id mine _. ((mine, end.rests), tt);
  ends = λ p h _. tt;
  display = λ p h closed. gathered_display t totals p h end closed.0;
}

pub starts_collecting : (all : List (Owner Totals)) (t : Caller Plan Entry) (totals : DisplayTotals) (d : Owner DisplayTotals) (none room : List (Caller Plan Entry)) → IsDisplayEnd t totals → owner_of t totals ≡ d → none ≡ [] → room ≡ none ++ t ∷ []
    → Collected all all d room
starts_collecting all t totals d none room end view_is empty is = grind (arith, nat_tests, starts_one all t totals end)

pub goes_collecting : (all old left : List (Owner Totals)) (x : Owner Totals) (d : Owner DisplayTotals) (t : Caller Plan Entry) (totals : Totals) (room more : List (Caller Plan Entry)) → Collected all old d room → old ≡ left ++ x ∷ [] → IsEnd t totals → owner_of t totals ≡ x
    → more ≡ room ++ t ∷ [] → Collected all left d more
goes_collecting all old left x d t totals room more c is end view_is more_is = subst (λ (o : Owner Totals × List (Caller Plan Entry)). Collected all left d o.1) (λ i. (view_is i, sym more_is i)) record {
  rest = owner_of t totals ∷ c.rest;
  split = sym (append_assoc left (owner_of t totals ∷ []) c.rest) ∙ ap (λ (o : Owner Totals). (left ++ o ∷ []) ++ c.rest) view_is ∙ ap (λ (l : List (Owner Totals)). l ++ c.rest) (sym is) ∙ c.split;
  count = let a = c.count in let b = length-append room (t ∷ []) in omega arith;
  ours = λ id mine others. each_append (IsAtRest id) room (t ∷ []) (c.ours id mine others.1) ((others.0, end.rests), tt);
  ends = λ p h closed. (gathered_client t totals p h end (each_rest (IsClosedBy p (numbered h)) room (t ∷ []) closed).0, c.ends p h (each_init (IsClosedBy p (numbered h)) room (t ∷ []) closed));
  display = λ p h closed. c.display p h (each_init (IsClosedBy p (numbered h)) room (t ∷ []) closed);
}

-- all are brought together
module _ (all left : List (Owner Totals)) (d : Owner DisplayTotals) (room : List (Caller Plan Entry)) (c : Collected all left d room) (none : length left ≡ 0) where
  all_rest : (xs : List (Owner Totals)) → length xs ≡ 0 → xs ++ c.rest ≡ all → c.rest ≡ all
  all_rest [] e is = is
  all_rest (x ∷ xs) e is = absurd (omega arith)

  rest_is : c.rest ≡ all
  rest_is = all_rest left none c.split

  pub collected_ours : (id : TableId) → d.desk ≡ id → All (λ (o : Owner Totals). o.desk ≡ id) all → All (IsAtRest id) room
  collected_ours id mine others = all_of (IsAtRest id) room (c.ours id mine (subst (Each (λ (o : Owner Totals). o.desk ≡ id)) (sym rest_is) (each_of _ all others)))

  pub collected_ends : (p : Plan) (h : List Entry) → All (IsClosedBy p (numbered h)) room → All (IsGatheredClient p h) all
  collected_ends p h closed = all_of (IsGatheredClient p h) all (subst (Each (IsGatheredClient p h)) rest_is (c.ends p h (each_of _ room closed)))

  pub collected_display : (p : Plan) (h : List Entry) → All (IsClosedBy p (numbered h)) room → IsGatheredDisplay p h d
  collected_display p h closed = c.display p h (each_of _ room closed)

-- the same of the same plan and history
pub closed_by : (tokens : List (Caller Plan Entry)) (p q : Plan) (h g : List Entry) → q ≡ p → g ≡ h → All (IsClosedBy p (numbered h)) tokens → All (IsClosedBy q (numbered g)) tokens
closed_by tokens p q h g plan history closed = subst (λ (x : Plan × List Entry). All (IsClosedBy x.0 (numbered x.1)) tokens) (λ i. (sym plan i, sym history i)) closed
