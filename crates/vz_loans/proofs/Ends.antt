-- The steps that begin the lock, end a turn, and cut or join seats keep the rule.
use Rattle.std.proofs.Common.{◌≡◌, ◌≢◌, ℕ, zero, suc, ◌+◌, ◌-◌, ◌%◌, ◌^◌, ◌<◌, ◌≤◌, ◌⊎◌, Bool, true, false, ltb, ltb-false, List, [], ◌∷◌, ◌++◌, length, set, sym, refl, ap, ◌∙◌, subst, inl, inr, ⊎_elim, arith, append-nil, length-append, length-set, get_or-set_same, get_or-set_other}
use mathlib.Core.List.{IsPrefix}
use mathlib.Core.Option.{none, some, some-injective, some-ne-none}
use lib.ListN.{get_elem?}
use Rattle.vz_loans.specs.{declared.kept.TheConstants.MOST_CALLERS, declared.view.Stage.TheVariants.Idle, declared.view.Stage.TheVariants.Inside}
use Rattle.std.specs.Prelude.{Option, Some, None, IfSome}
use Rattle.atomic_table.specs.Table.{State, Me, step, keeps, takes, gives, rest, stepped, Allows, Splits, Joins, opening, Final, Seen}
use Rattle.atomic_table.proofs.Lists.{at_set, set_here, set_else, at_snoc, at_longer}
use Rattle.vz_loans.specs.declared.view.View.{View}
use Rattle.vz_loans.specs.Rule.{Log, AllOld, AllTell, places, claims_of, weight, blank, kept, tickets_at, home, IsInTurn, Knows, Fits, ticketed, claimed, spared, kept_on, Lies, Turns, numbers_from, given, left, joined, spent, newcomer, ended_view, ended, retold, first_of, others_of, total}
use Rattle.vz_loans.proofs.Keeps.{planned_is, knows_out, few_tickets, has_ticket, InTurn, front_stays, lies_on, seats_stay, alone, at_home}
use Rattle.vz_loans.proofs.Logs.{cut_length, cut_others_length, cut_claims, cut_first, cut_others, blank_claims, blank_append, blank_none, blank_tells, claims_few, weight_few, some_of, one_view, longer_prefix, total_set, total_snoc, one_of, two_of, total_gap, prefix_all, prefix_more, olds_more, olds_append, places_else, tells_else, tells_left, tells_right, retold_tells, retold_length, retold_claims, tells_append, claims_append, numbers_once}
use Rattle.std.proofs.lemmas.Bool.Decides.{nat_tests}

abbrev pub or_else : {K : Type 0} → K → Option K → K
or_else d None = d
or_else d (Some k) = k

abbrev pub slot_state : {K : Type 0} → K → List (ℕ × Option K) → K
slot_state d [] = d
slot_state d (x ∷ xs) = or_else d x.1

far_test : (b : Bool) (n m : ℕ) → ltb n m ≡ b → m ≤ n → weight b ≡ 0
far_test b n m e far = grind (arith, nat_tests)

weight_far : (n : ℕ) → MOST_CALLERS ≤ n → weight (ltb n MOST_CALLERS) ≡ 0
weight_far n far = far_test (ltb n MOST_CALLERS) n MOST_CALLERS refl far

alone_at : {A : Type 0} (j : ℕ) (v w : A) → j ≢ 0 → get_elem? (v ∷ []) j ≡ some w → ⊥
alone_at zero v w ne e = ne refl
alone_at (suc j) v w ne e = some-ne-none w (sym e)

module _ {K P E : Type 0} (plan_of : K → P) (entries_of : K → Log E) where
  -- the state has the seen entries, or one more of a number of the view
  abbrev pub Follows : K → View P E → Type 0
  Follows k v = (entries_of k ≡ v.seen) ⊎ ((n : ℕ) × (e : E) × (0 < claims_of n v.claims) × (entries_of k ≡ v.seen ++ (n, e) ∷ []))

  -- what a seat with the numbers of all callers knows of a state
  pub record Settled (v : View P E) (k : K) : Type 0 where
    pub planned : IfSome v.plan (λ p. Some (plan_of k) ≡ Some p)
    pub begun : IsPrefix v.seen (entries_of k)
    pub olds : AllOld (Some (plan_of k)) v.olds (entries_of k)
    pub told : AllTell v.claims (entries_of k)
    pub others : (n : ℕ) → claims_of n v.claims ≡ 0 → places n (entries_of k) ≡ []

module _ {K P E : Type 0} (plan_of : K → P) (entries_of : K → Log E) (plan : P) (callers : ℕ) where
  abbrev V : Type 0
  V = View P E

  abbrev St : Type 0
  St = State (Option K) V

  abbrev M : Type 0
  M = Me (Option K) V

  abbrev Rule : St → Type 0
  Rule = Turns plan_of entries_of plan callers

  -- what was added, and that it is at no place of the other numbers
  pub record Added (s : St) (r : Rule s) (id : ℕ) (me : V) (k : K) : Type 0 where
    pub more : Log E
    pub entries : entries_of k ≡ r.log ++ more
    pub others : (j : ℕ) (v : V) → j ≢ id → get_elem? s.views j ≡ some v → AllTell (kept v) r.log → AllTell (kept v) (r.log ++ more)
    pub own : AllTell (blank me.spares) r.log → AllTell (blank me.spares) (r.log ++ more)
    pub strange : (n : ℕ) → MOST_CALLERS ≤ n → places n (r.log ++ more) ≡ []

  added : (s : St) (r : Rule s) (id : ℕ) (k : K) (v : V) → get_elem? s.views id ≡ some v → v.seen ≡ r.log → Follows plan_of entries_of k v → Added s r id v k
  added s r id k v at is (inl e) = let same = sym (append-nil r.log) in record {
    more = [];
    entries = e ∙ is ∙ same;
    others = λ j w ne h told. subst (AllTell (kept w)) same told;
    own = λ told. subst (AllTell (blank v.spares)) same told;
    strange = λ n far. ap (places n) (append-nil r.log) ∙ r.strange n far;
  }
  added s r id k v at is (inr x) = let n : ℕ = x.0 in let e : E = x.1 in let own : 0 < claims_of n v.claims = x.2 in let both = claims_append n v.claims (blank v.spares) in let once = r.once n in let few = weight_few (ltb n MOST_CALLERS) in
      let here = one_of (kept_on n) s.views id v at in record {
        more = (n, e) ∷ [];
        entries = x.3 ∙ ap (λ (l : Log E). l ++ (n, e) ∷ []) is;
        others = λ j w ne h told. let two = two_of (kept_on n) s.views id j v w ne at h in tells_else (kept w) r.log n e (omega (arith, two, once, own, both, few)) told;
        own = λ told. tells_else (blank v.spares) r.log n e (omega (arith, here, once, own, both, few)) told;
        strange = λ m far. places_else 1 m r.log n e (λ (z : n ≡ m). let none : weight (ltb n MOST_CALLERS) ≡ 0 = weight_far n (omega (arith, z, far)) in omega (arith, here, once, own, both, none)) ∙ r.strange m far;
      }

  pub ends : (slots id : ℕ) (me : M) (new t : ℕ) (k : K) (more : List (ℕ × Option K)) → 0 < slots → me.0.stage ≡ Inside t → new ≡ (t + 1) % 2 ^ 64 → me.1 ≡ (0, Some k) ∷ more → me.0.plan ≡ Some (plan_of k)
      → Follows plan_of entries_of k me.0 → Allows Rule slots id me 1 (λ _. new) (λ _. ended plan_of entries_of (step slots 1 new 0 none) me new)
  ends slots id me new t k more some_slot is next has planned follows s r slots_is at _ = let u : ℕ = r.turns in let wide = r.wide in let f = r.each_seat id me.0 at in let known = subst (Knows r.tickets u (Some plan) r.log r.owner r.place id me.0) is f.knows in
      let now : t ≡ u = known.0 in let mine : r.owner u ≡ id = ap r.owner (sym now) ∙ known.2 in let add = added s r id k me.0 at known.5 follows in let es : Log E = entries_of k in let w : V = ended_view (plan_of k) es me.0 in
      let one : tickets_at me.0.stage ≡ 1 = ap tickets_at is in let sum = total_set ticketed s.views id me.0 w at in let counted = r.counted in let pos : 0 < length s.homes = omega arith in
      let agrees : ◌≡◌ {A = Option P} (Some plan) (Some (plan_of k)) = planned_is (Some plan) me.0.plan (plan_of k) planned f.planned in (
        w,
        gives,
        tt,
        record {
          tickets = r.tickets;
          turns = u + 1;
          log = es;
          owner = r.owner;
          place = home k;
          few = r.few;
          wide = length-set s.words 1 new ∙ wide;
          tickets_is = get_or-set_other s.words 1 0 new 0 (λ e. omega arith) ∙ r.tickets_is;
          turns_is = get_or-set_same s.words 1 new 0 (omega arith) ∙ next ∙ ap (λ (z : ℕ). (z + 1) % 2 ^ 64) now;
          counted = omega arith;
          numbered = let c = total_set claimed s.views id me.0 w at in let d = total_set spared s.views id me.0 w at in let n = r.numbered in let l = retold_length me.0.claims es in omega arith;
          spare = let d = total_set spared s.views id me.0 w at in let n = r.spare in omega arith;
          once = λ m. let c = total_set (kept_on m) s.views id me.0 w at in let n = r.once m in let l = retold_claims me.0.claims es m in
              let a = claims_append m me.0.claims (blank me.0.spares) in let b = claims_append m (retold es me.0.claims) (blank me.0.spares) in omega arith;
          strange = λ m far. ap (places m) add.entries ∙ add.strange m far;
          each_seat = seats_stay plan_of entries_of plan callers (Fits r.tickets (u + 1) (Some plan) es r.owner (home k)) s.views id w
              record { planned = agrees; begun = prefix_all es es refl; olds = tt; told = tells_append (retold es me.0.claims) (blank me.0.spares) es (retold_tells me.0.claims es) (subst (AllTell (blank me.0.spares)) (sym add.entries) (add.own (tells_right me.0.claims (blank me.0.spares) r.log f.told))); knows = tt }
              (λ j v ne e. let g = r.each_seat j v e in record {
                planned = g.planned;
                begun = subst (IsPrefix v.seen) (sym add.entries) (prefix_more v.seen r.log add.more g.begun);
                olds = subst (AllOld (Some plan) v.olds) (sym add.entries) (olds_more (Some plan) (Some plan) (λ p e. e) v.olds r.log add.more g.olds);
                told = subst (AllTell (kept v)) (sym add.entries) (add.others j v ne e g.told);
                knows = knows_out r.tickets u (u + 1) (Some plan) (Some plan) r.log es r.owner r.place (home k) j v
                    (λ x le own. let other : x ≢ u = λ (z : x ≡ u). ne (sym own ∙ (ap r.owner z ∙ mine)) in omega arith) v.stage (alone plan_of entries_of plan callers s r id mine j v ne e) g.knows;
              });
          lies = subst (λ (cs : List (ℕ × Option K)). Lies plan_of entries_of (Rattle.atomic_table.specs.Table.put_back s.homes cs) (set s.views id w) (Some plan) es (r.owner (u + 1)) (home k)) (sym has)
              (set_here s.homes 0 (some (Some k)) pos, agrees, refl);
        },
        λ k' e. let same : k ≡ k' = ap (slot_state k) (sym has ∙ e) in subst (λ (x : K). ◌≡◌ {A = M} (w, rest me.1) (ended_view (plan_of x) (entries_of x) me.0, rest me.1)) same refl,
      )

  pub cuts : (id : ℕ) (v : V) → v.stage ≡ Idle → MOST_CALLERS < length v.spares + callers → Splits Rule id v (left v) (given v)
  cuts id v is enough s r at = let f = r.each_seat id v at in let one : V = left v in let two : V = given v in let vs : List V = set s.views id one in let out : IsInTurn v.stage → ⊥ = λ i. subst IsInTurn is i in record {
    tickets = r.tickets;
    turns = r.turns;
    log = r.log;
    owner = r.owner;
    place = r.place;
    few = r.few;
    wide = r.wide;
    tickets_is = r.tickets_is;
    turns_is = r.turns_is;
    counted = let a = total_set ticketed s.views id v one at in let b = total_snoc ticketed vs two in let c = r.counted in omega arith;
    numbered = let a = total_set claimed s.views id v one at in let b = total_snoc claimed vs two in let a' = total_set spared s.views id v one at in let b' = total_snoc spared vs two in let c = r.numbered in let d = cut_length v.spares in omega arith;
    spare = let a = total_set spared s.views id v one at in let b = total_snoc spared vs two in let le = one_of spared s.views id v at in let d = cut_others_length v.spares in omega (arith, a, b, le, d, enough);
    once = λ m. let a = total_set (kept_on m) s.views id v one at in let b = total_snoc (kept_on m) vs two in let c = r.once m in let d = cut_claims m v.spares in
        let x = claims_append m v.claims (blank v.spares) in let y = claims_append m v.claims (blank (others_of v.spares)) in let z = claims_append m (blank (first_of v.spares)) [] in omega arith;
    strange = r.strange;
    each_seat = λ j w e. ⊎_elim
        (λ (h : get_elem? vs j ≡ some w). seats_stay plan_of entries_of plan callers (Fits r.tickets r.turns (Some plan) r.log r.owner r.place) s.views id one
        record { planned = f.planned; begun = f.begun; olds = f.olds; told = tells_append v.claims (blank (others_of v.spares)) r.log (tells_left v.claims (blank v.spares) r.log f.told) (cut_others v.spares r.log (tells_right v.claims (blank v.spares) r.log f.told)); knows = subst (Knows r.tickets r.turns (Some plan) r.log r.owner r.place id one) (sym is) tt }
        (λ j w ne e. r.each_seat j w e) j w h)
        (λ (h : two ≡ w). subst (Fits r.tickets r.turns (Some plan) r.log r.owner r.place j) h record { planned = f.planned; begun = f.begun; olds = tt; told = tells_append (blank (first_of v.spares)) [] r.log (cut_first v.spares r.log (tells_right v.claims (blank v.spares) r.log f.told)) tt; knows = tt })
        (at_snoc vs two w j e);
    lies = lies_on plan_of entries_of plan callers s.homes s.views (vs ++ two ∷ []) (Some plan) r.log (r.owner r.turns) (r.owner r.turns) r.place
        (λ (h : InTurn plan_of entries_of plan callers s.views (r.owner r.turns)). let g = front_stays plan_of entries_of plan callers s.views (r.owner r.turns) id v one at out h in (g.0, at_longer vs (two ∷ []) (r.owner r.turns) g.0 g.1, g.2)) r.lies;
  }

  pub joins : (id : ℕ) (v : V) (other : ℕ) (w : V) → v.stage ≡ Idle → w.stage ≡ Idle → Joins Rule id v other w (joined v w) spent
  joins id v other w is is' s r at ne at' = let both : V = joined v w in let vs : List V = set s.views id both in let f = r.each_seat id v at in
      let here : get_elem? s.views other ≡ some w = sym (set_else s.views id other both ne) ∙ at' in let g = r.each_seat other w here in
      let out : IsInTurn v.stage → ⊥ = λ i. subst IsInTurn is i in let out' : IsInTurn w.stage → ⊥ = λ i. subst IsInTurn is' i in
      let F : ℕ → V → Type 0 = Fits r.tickets r.turns (Some plan) r.log r.owner r.place in record {
        tickets = r.tickets;
        turns = r.turns;
        log = r.log;
        owner = r.owner;
        place = r.place;
        few = r.few;
        wide = r.wide;
        tickets_is = r.tickets_is;
        turns_is = r.turns_is;
        counted = let a = total_set ticketed s.views id v both at in let b = total_set ticketed vs other w spent at' in let c = r.counted in let d : tickets_at w.stage ≡ 0 = ap tickets_at is' in omega arith;
        numbered = let a = total_set claimed s.views id v both at in let b = total_set claimed vs other w spent at' in let a' = total_set spared s.views id v both at in let b' = total_set spared vs other w spent at' in let c = r.numbered in
            let d = length-append v.claims w.claims in let e = length-append v.spares w.spares in omega arith;
        spare = let a = total_set spared s.views id v both at in let b = total_set spared vs other w spent at' in let c = r.spare in let e = length-append v.spares w.spares in omega arith;
        once = λ m. let a = total_set (kept_on m) s.views id v both at in let b = total_set (kept_on m) vs other w spent at' in let c = r.once m in let d = claims_append m v.claims w.claims in let e = blank_claims m v.spares w.spares in
            let x = claims_append m v.claims (blank v.spares) in let y = claims_append m w.claims (blank w.spares) in let z = claims_append m (v.claims ++ w.claims) (blank (v.spares ++ w.spares)) in omega arith;
        strange = r.strange;
        each_seat = seats_stay plan_of entries_of plan callers F vs other spent record { planned = tt; begun = (r.log, refl); olds = tt; told = tt; knows = tt }
            (λ j u _. seats_stay plan_of entries_of plan callers F s.views id both
            record {
              planned = f.planned;
              begun = longer_prefix v.seen w.seen r.log f.begun g.begun;
              olds = (f.planned, (f.begun, (g.planned, (g.begun, olds_append (Some plan) v.olds w.olds r.log f.olds g.olds))));
              told = tells_append (v.claims ++ w.claims) (blank (v.spares ++ w.spares)) r.log
                  (tells_append v.claims w.claims r.log (tells_left v.claims (blank v.spares) r.log f.told) (tells_left w.claims (blank w.spares) r.log g.told))
                  (blank_append v.spares w.spares r.log (tells_right v.claims (blank v.spares) r.log f.told) (tells_right w.claims (blank w.spares) r.log g.told));
              knows = subst (Knows r.tickets r.turns (Some plan) r.log r.owner r.place id both) (sym is) tt;
            }
            (λ j u ne e. r.each_seat j u e) j u);
        lies = lies_on plan_of entries_of plan callers s.homes s.views (set vs other spent) (Some plan) r.log (r.owner r.turns) (r.owner r.turns) r.place
            (λ (h : InTurn plan_of entries_of plan callers s.views (r.owner r.turns)). front_stays plan_of entries_of plan callers vs (r.owner r.turns) other w spent at' out' (front_stays plan_of entries_of plan callers s.views (r.owner r.turns) id v both at out h)) r.lies;
      }

  pub opens : (k : K) → plan ≡ plan_of k → entries_of k ≡ [] → 0 < callers → callers ≤ MOST_CALLERS → Rule (opening (0 ∷ 0 ∷ []) (Some k ∷ []) (newcomer plan))
  opens k is empty some_caller few = let v : V = newcomer plan in record {
    tickets = 0;
    turns = 0;
    log = [];
    owner = λ _. 0;
    place = home k;
    few = few;
    wide = refl;
    tickets_is = refl;
    turns_is = refl;
    counted = omega arith;
    numbered = refl;
    spare = omega arith;
    once = λ m. let o = numbers_once m MOST_CALLERS in omega arith;
    strange = λ m far. refl;
    each_seat = λ j w e. ⊎_elim (λ (t : (j ≡ 0) × (v ≡ w)). subst (λ (x : ℕ × V). Fits {K = K} 0 0 (Some plan) [] (λ _. 0) (home k) x.0 x.1) (λ i. (sym t.0 i, t.1 i))
        record { planned = refl; begun = ([], refl); olds = tt; told = (refl, blank_tells E (numbers_from 1 (MOST_CALLERS - 1))); knows = tt })
        (λ (t : (j ≢ 0) × (get_elem? (v ∷ []) j ≡ some w)). absurd (alone_at j v w t.0 t.1)) (at_set (v ∷ []) 0 j v w e);
    lies = (refl, ap Some is, empty);
  }

  -- no other seat has the number of a caller
  claims_elsewhere : (s : St) (r : Rule s) (id : ℕ) (v : V) → get_elem? s.views id ≡ some v → length v.claims ≡ callers → (n : ℕ) → claims_of n v.claims ≡ 0 → (j : ℕ) (u : V) → get_elem? s.views j ≡ some u → claims_of n u.claims ≡ 0
  claims_elsewhere s r id v at all n absent j u here = grind (arith, nat_tests, one_view s.views id v u at, two_of claimed s.views id j v u, claims_few n u.claims)

  -- a view keeps each number that is not strange, and a seat with the numbers of all callers has each of those
  nobody_test : (b : Bool) (s : St) (r : Rule s) (id : ℕ) (v : V) → get_elem? s.views id ≡ some v → length v.claims ≡ callers → (n : ℕ) → claims_of n v.claims ≡ 0 → ltb n MOST_CALLERS ≡ b → places n r.log ≡ []
  nobody_test false s r id v at all n absent e = r.strange n (ltb-false n MOST_CALLERS e)
  nobody_test true s r id v at all n absent e = let one : total (kept_on n) s.views ≡ 1 = r.once n ∙ ap weight e in let found = some_of (kept_on n) s.views (omega (arith, one)) in let j : ℕ = found.0 in let u : V = found.1 in
      let told = (r.each_seat j u found.2).told in let both = claims_append n u.claims (blank u.spares) in let some_claim = found.3 in
      blank_none n u.spares r.log (tells_right u.claims (blank u.spares) r.log told) (omega (arith, both, some_claim, claims_elsewhere s r id v at all n absent j u found.2))

  nobody : (s : St) (r : Rule s) (id : ℕ) (v : V) → get_elem? s.views id ≡ some v → length v.claims ≡ callers → (n : ℕ) → claims_of n v.claims ≡ 0 → places n r.log ≡ []
  nobody s r id v at all n absent = nobody_test (ltb n MOST_CALLERS) s r id v at all n absent refl

  -- a seat with the numbers of all callers and no ticket: the state is at home
  pub settles : (s : St) (id : ℕ) (v : V) → Rule s → get_elem? s.views id ≡ some v → v.stage ≡ Idle → length v.claims ≡ callers → (k : K) × (get_elem? s.homes 0 ≡ some (some (Some k))) × Settled plan_of entries_of v k
  settles s id v r at is all = let f = r.each_seat id v at in let zero_is : tickets_at v.stage ≡ 0 = ap tickets_at is in let n = r.numbered in let sp = r.spare in
      let gap = total_gap ticketed claimed s.views id v at (λ j u e. few_tickets r.tickets r.turns (Some plan) r.log r.owner r.place j u u.stage (r.each_seat j u e).knows) in
      let h = at_home plan_of entries_of plan callers s.homes s.views (Some plan) r.log (r.owner r.turns) r.place
      (λ (i : InTurn plan_of entries_of plan callers s.views (r.owner r.turns)). let one : tickets_at i.0.stage ≡ 1 = has_ticket i.0.stage i.2 in let le = one_of ticketed s.views (r.owner r.turns) i.0 i.1 in omega arith) r.lies in (
        h.0,
        h.2,
        record {
          planned = subst (λ (a : Option P). IfSome v.plan (λ p. a ≡ Some p)) h.3 f.planned;
          begun = subst (IsPrefix v.seen) (sym h.4) f.begun;
          olds = subst (λ (x : Option P × Log E). AllOld x.0 v.olds x.1) (λ i. (h.3 i, sym h.4 i)) f.olds;
          told = subst (AllTell v.claims) (sym h.4) (tells_left v.claims (blank v.spares) r.log f.told);
          others = λ m absent. ap (places m) h.4 ∙ nobody s r id v at all m absent;
        },
      )

  -- what the slot has after the end
  pub finds : (id : ℕ) (v : V) (ws : List ℕ) (xs : List (Option K)) (found : Option K) → Final (Seen Rule id v) ws xs → v.stage ≡ Idle → length v.claims ≡ callers → get_elem? xs 0 ≡ some found
      → (k : K) × (found ≡ Some k) × Settled plan_of entries_of v k
  finds id v ws xs found final is all at = let h = settles final.0 id v final.1.0 final.1.1 is all in
      (h.0, some-injective found (Some h.0) (sym at ∙ final.4 0 (Some h.0) h.1), h.2)
