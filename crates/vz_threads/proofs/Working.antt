-- What an end at work keeps.
use Rattle.std.proofs.Common.{◌≡◌, ℕ, ◌+◌, ◌<◌, ◌≤◌, Bool, true, cond, List, [], ◌∷◌, ◌++◌, map, length, refl, ap, sym, ◌∙◌, subst, arith}
use Rattle.atomic_table.specs.Seated.{TableId}
use Rattle.std.specs.Prelude.{◌^◌}
use Rattle.vz_outside.specs.Told.{Call, IsTold, number_of, AreTold}
use Rattle.vz_outside.proofs.Passing.{told_as, told_then}
use Rattle.vz_rules.specs.{Plan.Plan, Plan.message_counts, declared.entry.Entry.Entry, Whole.is_in_time, Accounts.takes}
use Rattle.std.specs.Prelude.{Result, Ok, IfOk, IsFalse}
use Rattle.vz_desk.specs.{declared.answer.Note.Note, declared.answer.Answer.Answer, Answers.Told, Answers.is_early, Answers.Answered, Answers.Waited}
use Rattle.vz_desk.specs.{declared.answer.Answer.TheVariants.Did, Books.numbered, Owners.Owner, Owners.IsSameOwner, Owners.MakesNone, Owners.Stands}
use Rattle.vz_desk.specs.declared.totals.Totals.{Totals}
use Rattle.vz_threads.specs.{Crews.messages_of, Crews.IsAtWork, Crews.MayTake, Crews.WorksOn, Told.anything}
use Rattle.vz_threads.proofs.Taking.{IsEarly, took_one}
use Rattle.vz_desk.proofs.Owning.{same_plan as plans_same, entries_of_numbered as entries_of}
use Rattle.std.proofs.lemmas.Bool.Decides.{nat_tests}

same_history : (g h : List Entry) → numbered g ≡ numbered h → g ≡ h
same_history g h e = sym (entries_of g) ∙ ap (map (λ (x : ℕ × Entry). x.1)) e ∙ entries_of h

pub works_same : (told : Call → Type 0) (o : Owner Totals) → WorksOn told o o
works_same told o = record { number = refl; work = λ id p w. w }

pub works_then : (told : Call → Type 0) (a b c : Owner Totals) → WorksOn told a b → WorksOn told b c → WorksOn told a c
works_then told a b c x y = record { number = y.number ∙ x.number; work = λ id p w. y.work id p (x.work id p w) }

pub may_then : (told : Call → Type 0) (id : TableId) (count : ℕ) (a b : Owner Totals) → MayTake told id count a → WorksOn told a b → MayTake told id count b
may_then told id count a b m w = record { plan = m.plan; work = w.work id m.plan m.work; all = m.all ∙ ap (messages_of (message_counts m.plan)) (sym w.number) }

-- a call that makes no entry
pub works_none : (told : Call → Type 0) (a b : Owner Totals) → IsSameOwner a b → MakesNone a b → WorksOn told a b
works_none told a b s n = record {
  number = s.number;
  work = λ id p w. record {
    desk = s.desk ∙ w.desk;
    plan = s.plan ∙ w.plan;
    client = subst (λ (c : ℕ). (1 ≤ c) × (c ≤ length p.files)) (sym s.number) w.client;
    timely = subst (λ (t : Totals). t.calls ≡ t.taken) (sym n.totals) w.timely;
    gated = subst (λ (c : ℕ). AreTold told c 0 b.totals.calls) (sym s.number) (subst (λ (t : Totals). AreTold told a.number 0 t.calls) (sym n.totals) w.gated);
    few = subst (λ (c : ℕ). b.totals.taken ≤ messages_of (message_counts p) c) (sym s.number) (subst (λ (t : Totals). t.taken ≤ messages_of (message_counts p) a.number) (sym n.totals) w.few);
  };
}

-- where it is at work in one plan, it is so in each that it was at work in
works_by : (told : Call → Type 0) (id : TableId) (p : Plan) (a b : Owner Totals) → IsAtWork told id p a → IsAtWork told id p b → b.number ≡ a.number → WorksOn told a b
works_by told id p a b old new number = record {
  number = number;
  work = λ id' p' w. subst (λ (x : TableId × Plan). IsAtWork told x.0 x.1 b) (λ i. ((sym old.desk ∙ w.desk) i, plans_same p p' (sym old.plan ∙ w.plan) i)) new;
}

-- whatever a gate was told, an end is at work where nothing is asked of it
told_any : (actor a b : ℕ) → AreTold anything actor a b
told_any actor a b n first upto = record { before = tt; after = tt }

any_work : (told : Call → Type 0) (id : TableId) (p : Plan) (o : Owner Totals) → IsAtWork told id p o → IsAtWork anything id p o
any_work told id p o w = record { desk = w.desk; plan = w.plan; client = w.client; timely = w.timely; gated = told_any o.number 0 o.totals.calls; few = w.few }

pub any_may : (told : Call → Type 0) (id : TableId) (count : ℕ) (o : Owner Totals) → MayTake told id count o → MayTake anything id count o
any_may told id count o m = record { plan = m.plan; work = any_work told id m.plan o m.work; all = m.all }

-- the entry in time, the totals say so
more_by : (b : Bool) (n m : ℕ) → b ≡ true → n ≡ cond b (m + 1) m → n ≡ m + 1
more_by b n m e is = grind (arith, nat_tests)

-- a call that made an entry, which did not come too early
pub works_told : (id : TableId) (count : ℕ) (a b : Owner Totals) (note : Note) → MayTake anything id count a → a.totals.taken < count → IsSameOwner a b → (t : Told a b note) → (IsEarly t.made → ⊥) → Stands b
    → WorksOn anything a b × (b.totals.taken ≡ a.totals.taken + 1)
works_told id count a b note m left s t early stands =
    let p : Plan = m.plan in
    let same : t.plan ≡ p = plans_same t.plan p (sym t.makes.planned ∙ s.plan ∙ m.work.plan) in
    let history : stands.history ≡ t.before ++ t.made ∷ [] = same_history stands.history (t.before ++ t.made ∷ []) (sym stands.sees.seen ∙ t.makes.seen) in
    let now : b.totals.taken ≡ length (takes (t.before ++ t.made ∷ []) a.number) = stands.counted.taken ∙ (λ i. length (takes (history i) (s.number i))) in
    let more : b.totals.taken ≡ cond (is_in_time t.made.reply) (a.totals.taken + 1) a.totals.taken = ap (λ (x : Totals). x.taken) t.totals in
    let calls : b.totals.calls ≡ a.totals.calls + 1 = ap (λ (x : Totals). x.calls) t.totals in
    let few : a.totals.taken < messages_of (message_counts p) a.number = omega (arith, left, m.all) in
    let known : a.number ≤ length t.plan.files = subst (λ (q : Plan). a.number ≤ length q.files) (sym same) m.work.client.1 in
    let timely = took_one t.plan t.before a.number t.made b.totals.taken a.totals.taken t.makes.legal m.work.client.0 known t.makes.entry early now more
    (subst (λ (q : Plan). a.totals.taken < messages_of (message_counts q) a.number) (sym same) few) in
    let one : b.totals.taken ≡ a.totals.taken + 1 = more_by (is_in_time t.made.reply) b.totals.taken a.totals.taken timely more in (
      works_by anything id p a b m.work (record {
        desk = s.desk ∙ m.work.desk;
        plan = s.plan ∙ m.work.plan;
        client = subst (λ (c : ℕ). (1 ≤ c) × (c ≤ length p.files)) (sym s.number) m.work.client;
        timely = calls ∙ ap (λ (n : ℕ). n + 1) m.work.timely ∙ sym one;
        gated = told_any b.number 0 b.totals.calls;
        few = subst (λ (c : ℕ). b.totals.taken ≤ messages_of (message_counts p) c) (sym s.number) (omega (arith, few, one));
      }) s.number,
      one,
    )

not_early : (e : Entry) → IsFalse (is_early e.reply) → IsEarly e → ⊥
not_early e later is = let t : is_early e.reply ≡ true = ap is_early is in absurd (cc)

-- so it is where the desk answers that it did, once the message's time had come
pub works_did : {S E : Type 0} (id : TableId) (count : ℕ) (a b : Owner Totals) (r : Result (Answer S) E) (x : Answer S) (note : Note) → MayTake anything id count a → a.totals.taken < count → IsSameOwner a b
    → IfOk r (λ y. Answered {S = S} a b y) → IfOk r (λ y. Waited {S = S} b y) → r ≡ Ok x → x ≡ Did note → Stands b → WorksOn anything a b × (b.totals.taken ≡ a.totals.taken + 1)
works_did {S} {E} id count a b r x note m left s did waited is made stands =
    let told : Answered {S = S} a b x = subst (λ (q : Result (Answer S) E). IfOk q (λ y. Answered {S = S} a b y)) is did in
    let later : Waited {S = S} b x = subst (λ (q : Result (Answer S) E). IfOk q (λ y. Waited {S = S} b y)) is waited in
    let t : Told a b note = subst (λ (y : Answer S). Answered {S = S} a b y) made told in
    let timely : Waited {S = S} b (Did note) = subst (λ (y : Answer S). Waited {S = S} b y) made later in
    works_told id count a b note m left s t (not_early t.made (timely t.before t.made t.makes.seen)) stands

pub no_more : (told : Call → Type 0) (id : TableId) (count : ℕ) (o : Owner Totals) → MayTake told id count o → o.totals.taken ≤ count
no_more told id count o m = omega (arith, m.work.few, m.all)

-- the totals of an end that made no entry are few still
pub taken_none : (a b : Owner Totals) → MakesNone a b → b.totals.taken ≤ a.totals.taken + 1
taken_none a b n = let same : b.totals.taken ≡ a.totals.taken = ap (λ (t : Totals). t.taken) n.totals in omega (arith, same)

-- a call of an end, of which a gate was told with the number of the next one
pub works_gated : (told : Call → Type 0) (id : TableId) (count : ℕ) (a b : Owner Totals) (actor number : ℕ) → MayTake told id count a → a.totals.taken < count → count < 2 ^ 64 → WorksOn anything a b
    → b.totals.taken ≤ a.totals.taken + 1 → actor ≡ a.number → number ≡ a.totals.calls + 1 → IsTold told actor number → WorksOn told a b
works_gated told id count a b actor number m left few on most same next t =
    works_by told id m.plan a b m.work (record {
      desk = new.desk;
      plan = new.plan;
      client = new.client;
      timely = new.timely;
      gated = told_then told b.number 0 a.totals.calls b.totals.calls (subst (λ (c : ℕ). AreTold told c 0 a.totals.calls) (sym on.number) m.work.gated) last;
      few = new.few;
    }) on.number
  where
    new : IsAtWork anything id m.plan b
    new = on.work id m.plan (any_work told id m.plan a m.work)

    last : AreTold told b.number a.totals.calls b.totals.calls
    last n from upto =
        let one : n ≡ number = let x = m.work.timely in let y = new.timely in omega (arith, from, upto, most, x, y, next) in
        let exact : number ≡ number_of n = let x = m.work.timely in omega (arith, one, next, x, left, few) in
        told_as told actor b.number number (number_of n) (same ∙ sym on.number) exact t
