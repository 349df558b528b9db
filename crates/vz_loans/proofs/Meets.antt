-- The steps by which callers meet keep the rule.
use Rattle.std.proofs.Common.{◌≡◌, ℕ, ◌⊎◌, false, List, [], ◌∷◌, ◌++◌, get_or, set, sym, refl, ap, ◌∙◌, subst, ⊎_elim, arith, append-nil, length-set, get_or-set_same, get_or-set_other}
use mathlib.Core.List.{IsPrefix}
use mathlib.Core.Option.{none}
use Rattle.std.specs.Prelude.{Option, Some}
use Rattle.atomic_table.specs.Table.{State, step, keeps, Allows, Splits}
use Rattle.atomic_table.proofs.Lists.{set_again, at_snoc, at_longer}
use Rattle.vz_loans.specs.{declared.view.View.View, declared.view.Stage.TheVariants.Idle}
use Rattle.vz_loans.specs.Rule.{Log, Claim, places, Old, AllOld, AllTell, IsInTurn, Knows, Fits, blank, ticketed, claimed, spared, kept_on, Turns, view, joined, note, compared, Seated, IsHeld, is_inside}
use Rattle.vz_loans.proofs.Keeps.{planned_is, InTurn, front_stays, lies_on, seats_stay}
use Rattle.vz_loans.proofs.Logs.{AllShort, olds_begin, tells_left, tells_between, shorter_begins, longer_length, longer_one, total_set, total_snoc}
use Rattle.std.proofs.lemmas.Bool.Decides.{nat_tests}

module _ {K P E : Type 0} (plan_of : K → P) (entries_of : K → Log E) (plan : P) (callers : ℕ) where
  abbrev V : Type 0
  V = View P E

  abbrev St : Type 0
  St = State (Option K) V

  abbrev Rule : St → Type 0
  Rule = Turns plan_of entries_of plan callers

  pub notes : (id : ℕ) (v : V) → Splits Rule id v v (note v)
  notes id v s r at = let f = r.each_seat id v at in let two : V = note v in
      subst (λ (vs : List V). Rule record { words = s.words; homes = s.homes; views = vs ++ two ∷ [] }) (sym (set_again s.views id v at)) record {
        tickets = r.tickets;
        turns = r.turns;
        log = r.log;
        owner = r.owner;
        place = r.place;
        few = r.few;
        wide = r.wide;
        tickets_is = r.tickets_is;
        turns_is = r.turns_is;
        counted = let b = total_snoc ticketed s.views two in let c = r.counted in omega arith;
        numbered = let b = total_snoc claimed s.views two in let d = total_snoc spared s.views two in let c = r.numbered in omega arith;
        spare = let d = total_snoc spared s.views two in let c = r.spare in omega arith;
        once = λ m. let b = total_snoc (kept_on m) s.views two in let c = r.once m in omega arith;
        strange = r.strange;
        each_seat = λ j w e. ⊎_elim (r.each_seat j w) (λ (h : two ≡ w). subst (Fits r.tickets r.turns (Some plan) r.log r.owner r.place j) h record { planned = f.planned; begun = f.begun; olds = tt; told = tt; knows = tt }) (at_snoc s.views two w j e);
        lies = lies_on plan_of entries_of plan callers s.homes s.views (s.views ++ two ∷ []) (Some plan) r.log (r.owner r.turns) (r.owner r.turns) r.place
            (λ (g : InTurn plan_of entries_of plan callers s.views (r.owner r.turns)). (g.0, at_longer s.views (two ∷ []) (r.owner r.turns) g.0 g.1, g.2)) r.lies;
      }

  pub compares : (slots id : ℕ) (me : Seated K P E) (p : P) (q : Option P) (base : Log E) (os : List (Old P E)) → me.0.stage ≡ Idle → me.0.plan ≡ Some p → me.0.olds ≡ (q, base) ∷ os → AllShort me.0.olds me.0.seen → AllTell me.0.claims base
      → Allows Rule slots id me 0 (λ n. n) (compared (step slots 0 0 0 none) me)
  compares slots id me p q base os is planned has short told s r _ at _ = let n : ℕ = get_or s.words 0 0 in let f = r.each_seat id me.0 at in let wide = r.wide in let w : V = view me.0.stage me.0.plan me.0.seen [] me.0.claims me.0.spares in
      let agrees : (Some plan) ≡ Some p = planned_is (Some plan) me.0.plan p planned f.planned in let out : IsInTurn me.0.stage → ⊥ = λ i. subst IsInTurn is i in
      let first = subst (λ (x : List (Old P E)). AllOld (Some plan) x r.log) has f.olds in let short' = subst (λ (x : List (Old P E)). AllShort x me.0.seen) has short in (
        w,
        keeps,
        tt,
        record {
          tickets = r.tickets;
          turns = r.turns;
          log = r.log;
          owner = r.owner;
          place = r.place;
          few = r.few;
          wide = length-set s.words 0 n ∙ wide;
          tickets_is = get_or-set_same s.words 0 n 0 (omega arith) ∙ r.tickets_is;
          turns_is = get_or-set_other s.words 0 1 n 0 (λ e. omega arith) ∙ r.turns_is;
          counted = let c = total_set ticketed s.views id me.0 w at in let k = r.counted in omega arith;
          numbered = let c = total_set claimed s.views id me.0 w at in let d = total_set spared s.views id me.0 w at in let k = r.numbered in omega arith;
          spare = let d = total_set spared s.views id me.0 w at in let k = r.spare in omega arith;
          once = λ m. let c = total_set (kept_on m) s.views id me.0 w at in let k = r.once m in omega arith;
          strange = r.strange;
          each_seat = seats_stay plan_of entries_of plan callers (Fits r.tickets r.turns (Some plan) r.log r.owner r.place) s.views id w
              record { planned = f.planned; begun = f.begun; olds = tt; told = f.told; knows = subst (Knows r.tickets r.turns (Some plan) r.log r.owner r.place id w) (sym is) tt } (λ j v ne e. r.each_seat j v e);
          lies = lies_on plan_of entries_of plan callers s.homes s.views (set s.views id w) (Some plan) r.log (r.owner r.turns) (r.owner r.turns) r.place
              (λ (h : InTurn plan_of entries_of plan callers s.views (r.owner r.turns)). front_stays plan_of entries_of plan callers s.views (r.owner r.turns) id me.0 w at out h) r.lies;
        },
        (refl, olds_begin (Some plan) me.0.plan (λ p' e. planned ∙ sym agrees ∙ e) me.0.olds me.0.seen r.log f.begun short f.olds, tells_between me.0.claims base me.0.seen r.log (shorter_begins base me.0.seen r.log first.1.0 f.begun short'.0) f.begun told (tells_left me.0.claims (blank me.0.spares) r.log f.told)),
      )

module _ {K P E : Type 0} where
  pub record Met (number ticket : ℕ) (me w m : Seated K P E) : Type 0 where
    pub held : IsHeld number ticket m
    pub plan : m.0.plan ≡ me.0.plan
    pub outside : is_inside m.0.stage ≡ false
    pub one : (m.0.seen ≡ me.0.seen) ⊎ (m.0.seen ≡ w.0.seen)
    pub first : IsPrefix me.0.seen m.0.seen
    pub second : IsPrefix w.0.seen m.0.seen
    pub mine : places number m.0.seen ≡ places number me.0.seen

  -- two views that are joined, of which the second is a note
  abbrev pub both_of : Seated K P E → Seated K P E → Seated K P E
  both_of me w = (joined me.0 (note w.0), me.1)

  pub short_olds : (number ticket : ℕ) (me w m : Seated K P E) → IsHeld number ticket me → m ≡ both_of me w → AllShort m.0.olds m.0.seen
  short_olds number ticket me w m h is = grind (arith, nat_tests, longer_length me.0.seen w.0.seen)

  pub meets : (number ticket : ℕ) (me w m m' : Seated K P E) → IsHeld number ticket me → is_inside me.0.stage ≡ false → m ≡ both_of me w → compared (step 0 0 0 0 none) m 0 m' → Met number ticket me w m'
  meets number ticket me w m m' h out is told = grind (arith, nat_tests, longer_one me.0.seen w.0.seen)

  pub tells_base : (number ticket : ℕ) (me w m : Seated K P E) → IsHeld number ticket me → m ≡ both_of me w → AllTell m.0.claims me.0.seen
  tells_base number ticket me w m h is = subst (λ (cs : List Claim). AllTell cs me.0.seen) (sym (ap (λ (x : Seated K P E). x.0.claims) is ∙ append-nil me.0.claims ∙ h.claim)) (refl, tt)

  pub joins_both : (me w n m : Seated K P E) → n ≡ (note w.0, []) → m ≡ (joined me.0 n.0, me.1) → m ≡ both_of me w
  joins_both me w n m note_is is = is ∙ (λ i. (joined me.0 (note_is i).0, me.1))
