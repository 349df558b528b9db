-- A crew whose ends change one by one.
use Rattle.std.proofs.Common.{◌≡◌, ℕ, zero, suc, ◌+◌, ◌<◌, ◌≤◌, List, [], ◌∷◌, ◌++◌, map, take, drop, set, get_or, length, refl, ap, sym, ◌∙◌, subst, arith, append_assoc}
use Rattle.std.proofs.lemmas.List.{reverse-append, set_split, take_all, take-append-le, length-map}
use Rattle.atomic_table.specs.Seated.{TableId}
use Rattle.std.specs.List.{All}
use Rattle.vz_loans.proofs.Closing.{Each, each_of, all_of, each_init, each_rest}
use Rattle.vz_outside.specs.Told.{Call}
use Rattle.vz_desk.specs.{declared.totals.Totals.Totals, Owners.Owner}
use Rattle.vz_threads.specs.declared.crew.Started.{Started}
use Rattle.vz_threads.specs.Crews.{messages_of, IsAtWork, MayTake, WorksOn, IsCrew, CrewWorksOn, IsInCrew, HasTakenAll, end_of, crew_of}
use Rattle.std.proofs.{lemmas.Bool.Decides.nat_tests, lemmas.Grind.common_steps}

module _ (P : Owner Totals → Type 0) (x y : Owner Totals) (behind : List (Owner Totals)) where
  each_changes : (before : List (Owner Totals)) → (P x → P y) → Each P (before ++ x ∷ behind) → Each P (before ++ y ∷ behind)
  each_changes [] f h = (f h.0, h.1)
  each_changes (z ∷ zs) f h = (h.0, each_changes zs f h.1)

  each_one : (before : List (Owner Totals)) → Each P (before ++ x ∷ behind) → P x
  each_one [] h = h.0
  each_one (z ∷ zs) h = each_one zs h.1

numbers_change : (before behind : List (Owner Totals)) (x y : Owner Totals) → y.number ≡ x.number
    → map (λ (o : Owner Totals). o.number) (before ++ y ∷ behind) ≡ map (λ (o : Owner Totals). o.number) (before ++ x ∷ behind)
numbers_change [] behind x y e = ap (λ (n : ℕ). n ∷ map (λ (o : Owner Totals). o.number) behind) e
numbers_change (z ∷ zs) behind x y e = ap (λ (l : List ℕ). z.number ∷ l) (numbers_change zs behind x y e)

pub crew_same : (told : Call → Type 0) (os : List (Owner Totals)) → CrewWorksOn told os os
crew_same told os = record { numbers = refl; work = λ id p w. w }

pub crew_then : (told : Call → Type 0) (a b c : List (Owner Totals)) → CrewWorksOn told a b → CrewWorksOn told b c → CrewWorksOn told a c
crew_then told a b c x y = record { numbers = y.numbers ∙ x.numbers; work = λ id p w. y.work id p (x.work id p w) }

crew_changes : (told : Call → Type 0) (before behind : List (Owner Totals)) (x y : Owner Totals) → WorksOn told x y → CrewWorksOn told (before ++ x ∷ behind) (before ++ y ∷ behind)
crew_changes told before behind x y w = record {
  numbers = numbers_change before behind x y w.number;
  work = λ id p h. all_of (IsAtWork told id p) (before ++ y ∷ behind) (each_changes (IsAtWork told id p) x y behind before (w.work id p) (each_of (IsAtWork told id p) (before ++ x ∷ behind) h));
}

pub crew_on : (told : Call → Type 0) (id : TableId) (messages : List ℕ) (a b : List (Owner Totals)) → IsCrew told id messages a → CrewWorksOn told a b → IsCrew told id messages b
crew_on told id messages a b c w = record { plan = c.plan; work = w.work id c.plan c.work; counts = c.counts }

crew_one : (told : Call → Type 0) (id : TableId) (messages : List ℕ) (before behind : List (Owner Totals)) (x : Owner Totals) → IsCrew told id messages (before ++ x ∷ behind) → IsInCrew told id messages x
crew_one told id messages before behind x c = record {
  plan = c.plan;
  work = each_one (IsAtWork told id c.plan) x x behind before (each_of (IsAtWork told id c.plan) (before ++ x ∷ behind) c.work);
  counts = c.counts;
}

pub in_crew_may : (told : Call → Type 0) (id : TableId) (messages : List ℕ) (o : Owner Totals) (count : ℕ) → IsInCrew told id messages o → count ≡ messages_of messages o.number → MayTake told id count o
in_crew_may told id messages o count c e = record { plan = c.plan; work = c.work; all = e ∙ ap (λ (l : List ℕ). messages_of l o.number) c.counts }

module _ {M G P T : Type 0} where
  crew_split : (us vs : List (Started M G P T)) (s : Started M G P T) → crew_of (us ++ s ∷ vs) ≡ crew_of vs ++ end_of s ∷ crew_of us
  crew_split us vs s = grind (arith, nat_tests, common_steps, reverse-append us (s ∷ vs), reverse-append (s ∷ []) vs)

  -- One is started

  start_split : (ends left : List (Owner Totals)) (x : Owner Totals) (started : List (Started M G P T)) → ends ≡ left ++ x ∷ [] → ends ++ crew_of started ≡ left ++ x ∷ crew_of started
  start_split ends left x started is = ap (λ (l : List (Owner Totals)). l ++ crew_of started) is ∙ append_assoc left (x ∷ []) (crew_of started)

  pub start_one : (told : Call → Type 0) (id : TableId) (messages : List ℕ) (all ends left : List (Owner Totals)) (x : Owner Totals) (started : List (Started M G P T)) → IsCrew told id messages all
      → CrewWorksOn told all (ends ++ crew_of started) → ends ≡ left ++ x ∷ [] → IsInCrew told id messages x
  start_one told id messages all ends left x started c w is = grind (arith, nat_tests, crew_one told id messages left (crew_of started) x, start_split ends left x started is, crew_on told id messages all)

  pub start_goes : (told : Call → Type 0) (all ends left : List (Owner Totals)) (x : Owner Totals) (started more : List (Started M G P T)) (s : Started M G P T) → CrewWorksOn told all (ends ++ crew_of started) → ends ≡ left ++ x ∷ []
      → WorksOn told x (end_of s) → more ≡ started ++ s ∷ [] → CrewWorksOn told all (left ++ crew_of more)
  start_goes told all ends left x started more s c is w more_is =
      crew_then told all (left ++ x ∷ crew_of started) (left ++ crew_of more) (subst (CrewWorksOn told all) (start_split ends left x started is) c)
      (subst (λ (l : List (Owner Totals)). CrewWorksOn told (left ++ x ∷ crew_of started) (left ++ l)) (sym (ap crew_of more_is ∙ crew_split started [] s))
      (crew_changes told left (crew_of started) x (end_of s) w))

  -- One is waited for

  pub finish_goes : (told : Call → Type 0) (all ends more : List (Owner Totals)) (e : Owner Totals) (started left : List (Started M G P T)) (s : Started M G P T) → CrewWorksOn told all (ends ++ crew_of started) → started ≡ left ++ s ∷ []
      → WorksOn told (end_of s) e → more ≡ ends ++ e ∷ [] → CrewWorksOn told all (more ++ crew_of left)
  finish_goes told all ends more e started left s c is w more_is =
      crew_then told all (ends ++ end_of s ∷ crew_of left) (more ++ crew_of left)
      (subst (λ (l : List (Owner Totals)). CrewWorksOn told all (ends ++ l)) (ap crew_of is ∙ crew_split left [] s) c)
      (subst (CrewWorksOn told (ends ++ end_of s ∷ crew_of left)) (sym (start_split more ends e left more_is)) (crew_changes told ends (crew_of left) (end_of s) e w))

-- An end is changed where it stands

split_there : {A : Type 0} (xs : List A) (i : ℕ) (d : A) → i < length xs → xs ≡ take i xs ++ get_or xs i d ∷ drop (suc i) xs
split_there [] i d l = absurd (omega arith)
split_there (x ∷ xs) zero d l = refl
split_there (x ∷ xs) (suc i) d l = ap (λ ys. x ∷ ys) (split_there xs i d (omega arith))

pub crew_set : (told : Call → Type 0) (ends : List (Owner Totals)) (i : ℕ) (d y : Owner Totals) → i < length ends → WorksOn told (get_or ends i d) y → CrewWorksOn told ends (set ends i y)
crew_set told ends i d y l w =
    subst (λ (x : List (Owner Totals) × List (Owner Totals)). CrewWorksOn told x.0 x.1) (λ j. (sym (split_there ends i d l) j, sym (set_split ends i y l) j))
    (crew_changes told (take i ends) (drop (suc i) ends) (get_or ends i d) y w)

pub crew_at : (told : Call → Type 0) (id : TableId) (messages : List ℕ) (ends : List (Owner Totals)) (i : ℕ) (d : Owner Totals) → i < length ends → IsCrew told id messages ends → IsInCrew told id messages (get_or ends i d)
crew_at told id messages ends i d l c = crew_one told id messages (take i ends) (drop (suc i) ends) (get_or ends i d) (subst (IsCrew told id messages) (split_there ends i d l) c)

module _ {M G P T : Type 0} where
  split_crew : (started : List (Started M G P T)) (i : ℕ) (d : Started M G P T) → i < length started
      → crew_of started ≡ crew_of (drop (suc i) started) ++ end_of (get_or started i d) ∷ crew_of (take i started)
  split_crew started i d l = ap crew_of (split_there started i d l) ∙ crew_split (take i started) (drop (suc i) started) (get_or started i d)

  pub started_set : (told : Call → Type 0) (started : List (Started M G P T)) (i : ℕ) (d s : Started M G P T) → i < length started → WorksOn told (end_of (get_or started i d)) (end_of s) → CrewWorksOn told (crew_of started) (crew_of (set started i s))
  started_set told started i d s l w =
      subst (λ (x : List (Owner Totals) × List (Owner Totals)). CrewWorksOn told x.0 x.1)
      (λ j. (sym (split_crew started i d l) j, sym (ap crew_of (set_split started i s l) ∙ crew_split (take i started) (drop (suc i) started) s) j))
      (crew_changes told (crew_of (drop (suc i) started)) (crew_of (take i started)) (end_of (get_or started i d)) (end_of s) w)

  pub started_at : (told : Call → Type 0) (id : TableId) (messages : List ℕ) (started : List (Started M G P T)) (i : ℕ) (d : Started M G P T) → i < length started → IsCrew told id messages (crew_of started)
      → IsInCrew told id messages (end_of (get_or started i d))
  started_at told id messages started i d l c =
      crew_one told id messages (crew_of (drop (suc i) started)) (crew_of (take i started)) (end_of (get_or started i d)) (subst (IsCrew told id messages) (split_crew started i d l) c)

-- What the loops need

pub written_back : {A : Type 0} (n : ℕ) (xs ys : List A) → length xs ≡ n → take n (xs ++ drop (length xs) ys) ≡ xs
written_back n xs ys e = take-append-le n xs (drop (length xs) ys) (omega (arith, e)) ∙ take_all n xs (omega (arith, e))

pub crew_goes : (told : Call → Type 0) (given now : List (Owner Totals)) (i : ℕ) (d y : Owner Totals) → CrewWorksOn told given now → i < length now → WorksOn told (get_or now i d) y → CrewWorksOn told given (set now i y)
crew_goes told given now i d y c l w = crew_then told given now (set now i y) c (crew_set told now i d y l w)

pub in_files : (told : Call → Type 0) (id : TableId) (messages : List ℕ) (o : Owner Totals) → IsInCrew told id messages o → (1 ≤ o.number) × (o.number ≤ length messages)
in_files told id messages o c = grind (arith, nat_tests, length-map)

pub took_all : (told : Call → Type 0) (messages : List ℕ) (count : ℕ) (old new : Owner Totals) → WorksOn told old new → count ≡ messages_of messages old.number → new.totals.taken ≡ count → HasTakenAll messages new
took_all told messages count old new w of all = all ∙ of ∙ ap (messages_of messages) (sym w.number)

module _ {A : Type 0} (P : A → Type 0) where
  -- what holds of those before a place, and of what is written there
  pub holds_more : (now : List A) (i : ℕ) (y : A) → i < length now → ((k : ℕ) (d : A) → k < i → P (get_or now k d)) → P y → (k : ℕ) (d : A) → k < i + 1 → P (get_or (set now i y) k d)
  holds_more [] i y l before one k d h = absurd (omega arith)
  holds_more (x ∷ xs) zero y l before one zero d h = one
  holds_more (x ∷ xs) zero y l before one (suc k) d h = absurd (omega arith)
  holds_more (x ∷ xs) (suc i) y l before one zero d h = before 0 d (omega arith)
  holds_more (x ∷ xs) (suc i) y l before one (suc k) d h = holds_more xs i y (omega arith) (λ k d h. before (suc k) d (omega arith)) one k d (omega arith)

module _ {M G P T : Type 0} where
  pub started_goes : (told : Call → Type 0) (given : List (Owner Totals)) (now : List (Started M G P T)) (i : ℕ) (d s : Started M G P T) → CrewWorksOn told given (crew_of now) → i < length now → WorksOn told (end_of (get_or now i d)) (end_of s)
      → CrewWorksOn told given (crew_of (set now i s))
  started_goes told given now i d s c l w = crew_then told given (crew_of now) (crew_of (set now i s)) c (started_set told now i d s l w)

-- The gate of the threads

module _ {A : Type 0} (P : A → Type 0) where
  each_end : (x : A) (zs : List A) → Each P zs → P x → Each P (zs ++ x ∷ [])
  each_end x [] h one = (one, tt)
  each_end x (z ∷ zs) h one = (h.0, each_end x zs h.1 one)

  each_set : (xs : List A) (i : ℕ) (d y : A) → i < length xs → Each P xs → (P (get_or xs i d) → P y) → Each P (set xs i y)
  each_set [] i d y low h f = absurd (omega (arith, low))
  each_set (x ∷ xs) zero d y low h f = (f h.0, h.1)
  each_set (x ∷ xs) (suc i) d y low h f = (h.0, each_set xs i d y (omega (arith, low)) h.1 f)

  -- what holds of all, and of one more
  pub all_more : (xs ys : List A) (x : A) → ys ≡ xs ++ x ∷ [] → All P xs → P x → All P ys
  all_more xs ys x is each one = subst (All P) (sym is) (all_of P (xs ++ x ∷ []) (each_end x xs (each_of P xs each) one))

  -- what holds of all holds of those before the last, and of the last
  pub all_less : (xs ys : List A) (x : A) → ys ≡ xs ++ x ∷ [] → All P ys → All P xs × P x
  all_less xs ys x is each =
      let h = each_of P (xs ++ x ∷ []) (subst (All P) is each) in
      (all_of P xs (each_init P xs (x ∷ []) h), (each_rest P xs (x ∷ []) h).0)

  -- where one is changed
  pub all_set : (xs : List A) (i : ℕ) (d y : A) → i < length xs → All P xs → (P (get_or xs i d) → P y) → All P (set xs i y)
  all_set xs i d y low each one = all_of P (set xs i y) (each_set xs i d y low (each_of P xs each) one)
