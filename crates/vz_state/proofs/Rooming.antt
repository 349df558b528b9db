-- Lists that are filled into room made before: never more is put there than was counted.
use Rattle.std.proofs.Common.{◌≡◌, ℕ, zero, suc, ◌+◌, ◌-◌, ◌<◌, ◌≤◌, Bool, true, false, not, cond, ◌&&◌, nat_lt, Option, Some, None, List, [], ◌∷◌, ◌++◌, map, take, drop, length, length-append, get_or, refl, sym, ap, ◌∙◌, arith, count_by, subst, if◌then◌else◌}
use Rattle.std.specs.List.{filter_map, flat_map, sum_by, cons_option}
use Rattle.std.specs.Option.{option_to_list}
use Rattle.std.proofs.lemmas.Grind.{take_at_read}
use Rattle.std.proofs.lemmas.List.Sums.{sum_by-cons}
use Rattle.std.proofs.lemmas.List.{append_assoc, append-nil, take_all, drop_all}
use Rattle.std.proofs.lemmas.List.Elements.{filter_map-append}
use Rattle.std.proofs.lemmas.Grind.{flat_map-append}
use Rattle.std.proofs.lemmas.Bool.Decides.{nat_tests}
use Rattle.vz_ids.specs.declared.Sub.{Sub}
use Rattle.vz_frame.specs.Roomy.{Roomy}
use Rattle.vz_rules.proofs.Counts.{count_cons}
use Rattle.vz_rules.specs.declared.entry.Fed.{Fed}
use Rattle.vz_rules.specs.declared.entry.Returned.{Returned}
use Rattle.vz_rules.specs.World.{World, Client, Resource, has_sub, is_in_flight, is_ended, sub_of}
use Rattle.vz_rules.specs.Returns.{is_held, return_of, queue_resource, returns_of}
use Rattle.vz_state.specs.Holding.{feedback_by}
use Rattle.vz_state.specs.Outs.{is_out, outs, all_outs, IsPutInto}

-- Lists

-- how many values there are
abbrev size : {B : Type 0} → Option B → ℕ
size o = length (option_to_list o)

take_next : {A : Type 0} (xs : List A) (k : ℕ) (d : A) → k < length xs → take (k + 1) xs ≡ take k xs ++ get_or xs k d ∷ []
take_next xs k d h = (take_at_read xs k d h).1

one_given : {B : Type 0} (o : Option B) → cons_option o [] ≡ option_to_list o
one_given None = refl
one_given (Some b) = refl

-- what one element more gives
pub given_more : {A B : Type 0} (f : A → Option B) (xs : List A) (k : ℕ) (d : A) → k < length xs
    → filter_map f (take (k + 1) xs) ≡ filter_map f (take k xs) ++ option_to_list (f (get_or xs k d))
given_more f xs k d h =
    ap (filter_map f) (take_next xs k d h) ∙ (filter_map-append f (take k xs) (get_or xs k d ∷ []) ∙ ap (λ l. filter_map f (take k xs) ++ l) (one_given (f (get_or xs k d))))

-- one element more gives nothing: all that was appended is what the elements so far give
pub none_more : {A B : Type 0} (f : A → Option B) (initial now : List B) (xs : List A) (k : ℕ) (x : A) → k < length xs → x ≡ get_or xs k x → f x ≡ None
    → now ≡ initial ++ filter_map f (take k xs) → now ≡ initial ++ filter_map f (take (k + 1) xs)
none_more f initial now xs k x h at none so =
    so ∙ ap (λ l. initial ++ l) (sym (given_more f xs k x h ∙ (ap (λ o. filter_map f (take k xs) ++ option_to_list o) (ap f (sym at) ∙ none) ∙ append-nil (filter_map f (take k xs)))))

-- one element more gives a value, which is appended
pub some_more : {A B : Type 0} (f : A → Option B) (initial now next : List B) (xs : List A) (k : ℕ) (x : A) (y : B) → k < length xs → x ≡ get_or xs k x → f x ≡ Some y
    → now ≡ initial ++ filter_map f (take k xs) → next ≡ now ++ y ∷ [] → next ≡ initial ++ filter_map f (take (k + 1) xs)
some_more f initial now next xs k x y h at some so put =
    put
    ∙ (ap (λ l. l ++ y ∷ []) so
    ∙ (append_assoc initial (filter_map f (take k xs)) (y ∷ [])
    ∙ ap (λ l. initial ++ l) (sym (given_more f xs k x h ∙ ap (λ o. filter_map f (take k xs) ++ option_to_list o) (ap f (sym at) ∙ some)))))

pub listed_more : {A B : Type 0} (f : A → List B) (xs : List A) (k : ℕ) (d : A) → k < length xs
    → flat_map f (take (k + 1) xs) ≡ flat_map f (take k xs) ++ f (get_or xs k d)
listed_more f xs k d h = ap (flat_map f) (take_next xs k d h) ∙ (flat_map-append f (take k xs) (get_or xs k d ∷ []) ∙ ap (λ l. flat_map f (take k xs) ++ l) (one f (get_or xs k d)))
  where
    one : {X Y : Type 0} (g : X → List Y) (x : X) → flat_map g (x ∷ []) ≡ g x
    one g x = append-nil (g x)

-- where more is put after more, both are
pub put_more : {A : Type 0} (a b c : Roomy A) (xs ys zs : List A) → IsPutInto a b xs → IsPutInto b c ys → zs ≡ xs ++ ys → IsPutInto a c zs
put_more a b c xs ys zs p q e =
    record {
      list = q.list ∙ (ap (λ l. l ++ ys) p.list ∙ (append_assoc a.list xs ys ∙ ap (λ l. a.list ++ l) (sym e)));
      spare = let n = ap length e in let m = length-append xs ys in omega (arith, p.spare, q.spare);
    }

abbrev one_if : Bool → ℕ
one_if t = cond t 1 0

-- a value is given by an element that passes a test
abbrev Gives : {A B : Type 0} → (A → Option B) → (A → Bool) → Type 0
Gives {A} f p = (x : A) → size (f x) ≤ cond (p x) 1 0

length_given : {B : Type 0} (o : Option B) (ys : List B) → length (cons_option o ys) ≡ size o + length ys
length_given None ys = omega arith
length_given (Some b) ys = omega arith

size_given : {A B : Type 0} (f : A → Option B) (x : A) (xs : List A) → length (filter_map f (x ∷ xs)) ≡ size (f x) + length (filter_map f xs)
size_given f x xs = length_given (f x) (filter_map f xs)

-- no more are given than pass
pub few_given : {A B : Type 0} (f : A → Option B) (p : A → Bool) (xs : List A) → Gives f p → length (filter_map f xs) ≤ count_by p xs
few_given f p [] g = omega arith
few_given f p (x ∷ xs) g = let a = size_given f x xs in let b = count_cons p x xs in let c = g x in let d = few_given f p xs g in omega arith

-- fewer were given before an element that passes
pub few_before : {A B : Type 0} (f : A → Option B) (p : A → Bool) (xs : List A) (k : ℕ) (d : A) → Gives f p → k < length xs → p (get_or xs k d) ≡ true
    → length (filter_map f (take k xs)) < count_by p xs
few_before f p [] k d g h t = absurd (omega arith)
few_before f p (x ∷ xs) zero d g h t = let b = count_cons p x xs in let c : cond (p x) 1 0 ≡ 1 = ap one_if t in omega (arith, b, c)
few_before f p (x ∷ xs) (suc k) d g h t =
    let a = size_given f x (take k xs) in
    let b = count_cons p x xs in
    let c = g x in
    let e = few_before f p xs k d g (omega arith) t in
    omega arith

-- a list into which nothing is put yet
pub put_none : {A : Type 0} (a : Roomy A) → IsPutInto a a []
put_none a = record { list = sym (append-nil a.list); spare = omega arith }

-- what was put into a list without a value is all that it has
pub put_into_none : {A : Type 0} (a b : Roomy A) (xs : List A) → IsPutInto a b xs → a.list ≡ [] → (l : List A) → l ≡ b.list → l ≡ xs
put_into_none a b xs p none l is = is ∙ (p.list ∙ ap (λ ys. ys ++ xs) none)

-- one element more is looked at, and what it gives is put there
pub put_next : {A B : Type 0} (f : A → Option B) (xs : List A) (k : ℕ) (d : A) (a b c : Roomy B) → k < length xs → IsPutInto a b (filter_map f (take k xs))
    → IsPutInto b c (option_to_list (f (get_or xs k d))) → IsPutInto a c (filter_map f (take (k + 1) xs))
put_next f xs k d a b c h p q = put_more a b c (filter_map f (take k xs)) (option_to_list (f (get_or xs k d))) _ p q (given_more f xs k d h)

-- all elements were looked at
pub put_all : {A B : Type 0} (f : A → Option B) (xs : List A) (k : ℕ) (a b : Roomy B) → length xs ≤ k → IsPutInto a b (filter_map f (take k xs)) → IsPutInto a b (filter_map f xs)
put_all f xs k a b h p = subst (λ (l : List _). IsPutInto a b (filter_map f l)) (take_all k xs h) p

-- there is a place for what an element that passes gives
pub room_for : {A B : Type 0} (f : A → Option B) (p : A → Bool) (xs : List A) (k : ℕ) (d : A) (a b : Roomy B) → Gives f p → k < length xs → count_by p xs ≤ a.spare
    → IsPutInto a b (filter_map f (take k xs)) → p (get_or xs k d) ≡ true → 0 < b.spare
room_for f p xs k d a b g h s q t = let n = few_before f p xs k d g h t in omega (arith, n, q.spare)

-- all elements are changed
pub all_changed : {A : Type 0} (g : A → A) (xs : List A) (k : ℕ) → length xs ≤ k → map g (take k xs) ++ drop k xs ≡ map g xs
all_changed g xs k h = ap (λ l. map g l ++ drop k xs) (take_all k xs h) ∙ (ap (λ l. map g xs ++ l) (drop_all k xs h) ∙ append-nil (map g xs))

-- What is given back

pub returns_give : (w : World) (c : ℕ) → Gives (return_of w c) is_out
returns_give w c r = by (nat_lt r.queued r.lent) (not (is_held w c r.id)) (record { client = c; id = r.id; count = r.lent - r.queued })
  where
    by : (a b : Bool) (x : Returned) → size (if a && b then Some x else None) ≤ cond a 1 0
    by true true x = omega arith
    by true false x = omega arith
    by false b x = omega arith

abbrev queued_if : Bool → Resource → Resource
queued_if t r = if t then record r { queued = r.lent } else r

abbrev returned_if : {A : Type 0} → Bool → A → Option A
returned_if t x = if t then Some x else None

-- what is queued is not out any more
out_after : (w : World) (c : ℕ) (r : Resource) → one_if (is_out (queue_resource w c r)) + size (return_of w c r) ≡ one_if (is_out r)
out_after w c r = by (nat_lt r.queued r.lent) (not (is_held w c r.id)) refl
  where
    same : (n : ℕ) → one_if (nat_lt n n) ≡ 0
    same n = let e : nat_lt n n ≡ false = grind (arith, nat_tests) in ap one_if e

    back : Returned
    back = record { client = c; id = r.id; count = r.lent - r.queued }

    by : (a b : Bool) → nat_lt r.queued r.lent ≡ a → one_if (is_out (queued_if (a && b) r)) + size (returned_if (a && b) back) ≡ one_if a
    by true true e = let n = same r.lent in omega (arith, n)
    by true false e = let n : one_if (nat_lt r.queued r.lent) ≡ 1 = ap one_if e in omega (arith, n)
    by false b e = let n : one_if (nat_lt r.queued r.lent) ≡ 0 = ap one_if e in omega (arith, n)

pub outs_after : (w : World) (c : ℕ) (rs : List Resource) → outs (map (queue_resource w c) rs) + length (filter_map (return_of w c) rs) ≡ outs rs
unfolding outs
outs_after w c [] = refl
outs_after w c (r ∷ rs) =
    let a = count_cons is_out r rs in
    let b = count_cons is_out (queue_resource w c r) (map (queue_resource w c) rs) in
    let d = size_given (return_of w c) r rs in
    let e = out_after w c r in
    let f = outs_after w c rs in
    omega arith

-- there is room for a client's returns behind those of the clients before it
pub room_behind : (w : World) (clients : List Client) (k : ℕ) (d : Client) → k < length clients
    → length (flat_map (returns_of w) (take k clients)) + outs (get_or clients k d).resources ≤ all_outs clients
unfolding all_outs outs
room_behind w [] k d h = absurd (omega arith)
room_behind w (c ∷ cs) zero d h = let a = sum_by-cons (λ (x : Client). outs x.resources) c cs in omega arith
room_behind w (c ∷ cs) (suc k) d h =
    let a = sum_by-cons (λ (x : Client). outs x.resources) c cs in
    let b = length-append (returns_of w c) (flat_map (returns_of w) (take k cs)) in
    let e = few_given (return_of w c.number) is_out c.resources (returns_give w c.number) in
    let f = room_behind w cs k d (omega arith) in
    omega arith

-- the resources of one client more
pub outs_more : (clients : List Client) (k : ℕ) (d : Client) → k < length clients → all_outs (take (k + 1) clients) ≡ all_outs (take k clients) + outs (get_or clients k d).resources
unfolding all_outs
outs_more clients k d h = ap (sum_by (λ (x : Client). outs x.resources)) (take_next clients k d h) ∙ sum_by_push (λ (x : Client). outs x.resources) (take k clients) (get_or clients k d)
  where
    sum_by_push : {A : Type 0} (f : A → ℕ) (xs : List A) (x : A) → sum_by f (xs ++ x ∷ []) ≡ sum_by f xs + f x
    sum_by_push f [] x = let a = sum_by-cons f x [] in omega arith
    sum_by_push f (y ∷ ys) x = let a = sum_by-cons f y (ys ++ x ∷ []) in let b = sum_by-cons f y ys in let e = sum_by_push f ys x in omega arith

-- Feedback

pub feedback_gives : (in_flight : Option (List Sub)) (presented : List Sub) → Gives (feedback_by in_flight presented) (λ s. not s.fed)
feedback_gives in_flight presented s =
    by s.fed (has_sub presented (sub_of s)) (is_ended s && not (is_in_flight in_flight (sub_of s))) (record { sub = sub_of s; presented = true }) (record { sub = sub_of s; presented = false })
  where
    by : (a b d : Bool) (x y : Fed) → size (if a then None else (if b then Some x else (if d then Some y else None))) ≤ cond (not a) 1 0
    by true b d x y = omega arith
    by false true d x y = omega arith
    by false false true x y = omega arith
    by false false false x y = omega arith
