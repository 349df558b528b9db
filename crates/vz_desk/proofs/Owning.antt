-- What an owner of an end keeps, while other callers make their entries.
use Rattle.std.proofs.Common.{◌≡◌, ℕ, ◌+◌, ◌<◌, ◌≤◌, Bool, false, cond, eqb, List, [], ◌∷◌, ◌++◌, map, filter, length, refl, ap, sym, ◌∙◌, subst, arith, append-nil, Option, Some}
use Rattle.std.proofs.{lemmas.List.Elements.filter-append, lemmas.Bool.Decides.nat_tests}
use mathlib.Core.List.{IsPrefix, map-append}
use Rattle.vz_loans.specs.{Rule.places, Rule.places_from, Tokens.Caller, Tokens.mine as places_of, Tokens.IsSameCaller}
use Rattle.vz_rules.specs.{Plan.Plan, Step.Legal, Whole.mine, Whole.is_of, Accounts.takes}
use Rattle.vz_rules.specs.{declared.entry.Event.Event, declared.entry.Reply.Reply, declared.entry.Effects.Effects, declared.entry.Entry.Entry}
use Rattle.vz_desk.specs.{Books.caller_in, Books.numbered, declared.totals.Totals.Totals, Totals.AreTotals, Totals.lent_by, Totals.lent_from}
use Rattle.vz_desk.specs.Owners.{IsEnd}

same_test : (v : Event) (r : Reply) (f : Effects) (c : ℕ) → 0 < c → eqb (caller_in v) c ≡ is_of c (record { event = v; reply = r; effects = f })
same_test v r f c some_client = grind (arith, nat_tests)

none_step : (b : Bool) (k : ℕ) (ps : List ℕ) (e : Entry) (es : List Entry) → cond b (k ∷ ps) ps ≡ [] → (ps ≡ [] → es ≡ []) → cond b (e ∷ es) es ≡ []
none_step b k ps e es is rest = grind (arith, nat_tests)

-- where a caller has no place, it has no entry
none_of : (k c : ℕ) (more : List Entry) → 0 < c → places_from k c (numbered more) ≡ [] → filter (is_of c) more ≡ []
none_of k c [] some_client is = refl
none_of k c (e ∷ more) some_client is = subst (λ (b : Bool). cond b (e ∷ filter (is_of c) more) (filter (is_of c) more) ≡ []) (same_test e.event e.reply e.effects c some_client)
    (none_step (eqb (caller_in e.event) c) k (places_from (k + 1) c (numbered more)) e (filter (is_of c) more) is (none_of (k + 1) c more some_client))

pub one_less : (b : Bool) (k : ℕ) (ps qs : List ℕ) → cond b (k ∷ ps) ps ≡ cond b (k ∷ qs) qs → ps ≡ qs
one_less b k ps qs is = grind (arith, nat_tests)

-- where a caller has no place more, it has no entry more
pub none_more : (k c : ℕ) (h more : List Entry) → 0 < c → places_from k c (numbered (h ++ more)) ≡ places_from k c (numbered h) → filter (is_of c) more ≡ []
none_more k c [] more some_client is = none_of k c more some_client is
none_more k c (e ∷ h) more some_client is = none_more (k + 1) c h more some_client (one_less (eqb (caller_in e.event) c) k (places_from (k + 1) c (numbered (h ++ more))) (places_from (k + 1) c (numbered h)) is)

mine_more : (c : ℕ) (h more : List Entry) → filter (is_of c) more ≡ [] → mine (h ++ more) c ≡ mine h c
unfolding mine
mine_more c h more is = filter-append (is_of c) h more ∙ ap (λ (l : List Entry). filter (is_of c) h ++ l) is ∙ append-nil (filter (is_of c) h)

lent_step : (b : Bool) (n m : ℕ) (e : Entry) (es : List Entry) → cond b (e ∷ es) es ≡ [] → (es ≡ [] → m ≡ 0) → cond b n 0 + m ≡ 0
lent_step b n m e es is rest = grind (arith, nat_tests)

lent_none : (p : Plan) (g : List Entry) (c : ℕ) (more : List Entry) → filter (is_of c) more ≡ [] → lent_from p g c more ≡ 0
lent_none p g c [] is = refl
lent_none p g c (e ∷ more) is = lent_step (is_of c e) (lent_by p g c e) (lent_from p (g ++ e ∷ []) c more) e (filter (is_of c) more) is (lent_none p (g ++ e ∷ []) c more)

lent_more : (p : Plan) (g : List Entry) (c : ℕ) (h more : List Entry) → filter (is_of c) more ≡ [] → lent_from p g c (h ++ more) ≡ lent_from p g c h
lent_more p g c [] more is = lent_none p g c more is
lent_more p g c (e ∷ h) more is = ap (λ (n : ℕ). cond (is_of c e) (lent_by p g c e) 0 + n) (lent_more p (g ++ e ∷ []) c h more is)

-- the totals of a client stay, where others make entries
pub totals_stay : (p : Plan) (c : ℕ) (t : Totals) (h more : List Entry) → filter (is_of c) more ≡ [] → AreTotals p h c t → AreTotals p (h ++ more) c t
unfolding takes
totals_stay p c t h more is are = grind (arith, nat_tests, mine_more c h more is, lent_more p [] c h more is)

pub entries_of_numbered : (h : List Entry) → map (λ (x : ℕ × Entry). x.1) (numbered h) ≡ h
entries_of_numbered [] = refl
entries_of_numbered (e ∷ h) = ap (λ (l : List Entry). e ∷ l) (entries_of_numbered h)

-- a longer list of numbered entries is of a longer history
pub longer_history : (h g : List Entry) → IsPrefix (numbered h) (numbered g) → (more : List Entry) × (g ≡ h ++ more)
longer_history h g p = (
  map (λ (x : ℕ × Entry). x.1) p.0,
  sym (entries_of_numbered g) ∙ ap (map (λ (x : ℕ × Entry). x.1)) (sym p.1) ∙ map-append (λ (x : ℕ × Entry). x.1) (numbered h) p.0 ∙ ap (λ (l : List Entry). l ++ map (λ (x : ℕ × Entry). x.1) p.0) (entries_of_numbered h),
)

-- the token before a turn, in it and after it, where the turn made no entry, and the book in it
pub record Turned (t0 t1 t2 : Caller Plan Entry) (plan : Plan) (h : List Entry) : Type 0 where
  pub first : IsSameCaller t0 t1
  pub second : IsSameCaller t1 t2
  pub planned : t1.plan ≡ Some plan
  pub seen : t2.seen ≡ numbered h
  pub later : IsPrefix t0.seen (numbered h)
  pub mine : places t1.number (numbered h) ≡ places_of t0
  pub rests : t2.inside ≡ false
  pub legal : Legal plan h

pub same_plan : (a b : Plan) → ◌≡◌ {A = Option Plan} (Some a) (Some b) → a ≡ b
same_plan a b e = cc

pub turned_end : (t0 t1 t2 : Caller Plan Entry) (plan : Plan) (h : List Entry) (totals : Totals) → IsEnd t0 totals → Turned t0 t1 t2 plan h → IsEnd t2 totals
turned_end t0 t1 t2 plan h totals old t =
    let number : t2.number ≡ t0.number = t.second.1 ∙ t.first.1 in
    let same : old.plan ≡ plan = same_plan old.plan plan (sym old.sees.planned ∙ sym t.first.2 ∙ t.planned) in
    let longer = longer_history old.history h (subst (λ (s : List (ℕ × Entry)). IsPrefix s (numbered h)) old.sees.seen t.later) in
    let places_stay : places t0.number (numbered (old.history ++ longer.0)) ≡ places t0.number (numbered old.history) =
    ap (λ (g : List Entry). places t0.number (numbered g)) (sym longer.1) ∙ ap (λ (n : ℕ). places n (numbered h)) (sym t.first.1) ∙ t.mine ∙ ap (places t0.number) old.sees.seen in
    let none = none_more 1 t0.number old.history longer.0 old.client.0 places_stay in
    let counted : AreTotals plan h t0.number totals = subst (λ (x : Plan × List Entry). AreTotals x.0 x.1 t0.number totals) (λ i. (same i, sym longer.1 i)) (totals_stay old.plan t0.number totals old.history longer.0 none old.counted) in record {
      rests = t.rests;
      plan = plan;
      history = h;
      sees = record { planned = t.second.2 ∙ t.planned; seen = t.seen; legal = t.legal };
      client = subst (λ (x : ℕ × Plan). (0 < x.0) × (x.0 ≤ length x.1.files)) (λ i. (sym number i, same i)) old.client;
      counted = subst (λ (n : ℕ). AreTotals plan h n totals) (sym number) counted;
    }
