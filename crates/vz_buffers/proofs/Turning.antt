-- What is stale of each buffer after a list of drawings.
use Rattle.std.proofs.Common.{◌≡◌, ℕ, zero, suc, ◌+◌, ◌-◌, ◌%◌, ◌≤◌, Bool, true, false, cond, if◌then◌else◌, Option, Some, None, List, [], ◌∷◌, map, take, length, replicate, refl, ap, sym, ◌∙◌, slice_get, unwrap_or, arith}
use Rattle.std.specs.Prelude.{nat_lt, nat_le}
use Rattle.std.specs.Option.{option_map}
use Rattle.std.proofs.Math.Nat.{mod-add-mod, zero-mod}
use Rattle.std.proofs.lemmas.List.{length-map}
use Rattle.std.proofs.lemmas.Option.{slice_get-map}
use Rattle.vz_geom.specs.declared.Size.{Size}
use Rattle.vz_geom.specs.Rectangle.{Rectangle, no_rectangle, sized, join, bound}
use Rattle.vz_buffers.specs.Turns.{Turns, stale_in, stale_of, damaged, turned, turns_after, stale_with}

-- the buffers turned, by their parts
pub turned_is : (size : Size) (next : ℕ) (stales after : List (Option Rectangle)) (count : ℕ) (t : Turns) → record { size = size; next = next; stales = stales } ≡ t
    → count ≡ length stales → after ≡ Some no_rectangle ∷ take (length stales - 1) stales
    → record { size = size; next = (next + 1) % count; stales = after } ≡ turned t
unfolding turned
turned_is size next stales after count t is counted put = ap (λ (n : ℕ). record { size = size; next = (next + 1) % n; stales = after }) counted ∙ (ap (λ (l : List (Option Rectangle)). record { size = size; next = (next + 1) % length stales; stales = l }) put ∙ ap turned is)

-- what is stale of a buffer that was painted last when so many of these drawings were still to come
abbrev age : List Rectangle → ℕ → Option Rectangle
age damages n = if nat_lt n (length damages) then Some (bound (take n damages)) else None

-- what is stale of so many buffers, from the one on that was painted so many drawings before the last
abbrev ages : List Rectangle → ℕ → ℕ → List (Option Rectangle)
ages damages n zero = []
ages damages n (suc count) = age damages n ∷ ages damages (suc n) count

later : (r : Rectangle) (damages : List Rectangle) (n : ℕ) → option_map (join r) (age damages n) ≡ age (r ∷ damages) (suc n)
unfolding bound
later r damages n =
    let same : nat_lt (suc n) (length (r ∷ damages)) ≡ nat_lt n (length damages) = grind arith in
    chosen (nat_lt n (length damages)) (bound (take n damages)) (join r) ∙ ap (λ t. if t then Some (join r (bound (take n damages))) else None) (sym same)
  where
    chosen : (t : Bool) (x : Rectangle) (f : Rectangle → Rectangle) → option_map f (if t then Some x else None) ≡ (if t then Some (f x) else None)
    chosen true x f = refl
    chosen false x f = refl

all_later : (r : Rectangle) (damages : List Rectangle) (n count : ℕ) → take count (map (option_map (join r)) (ages damages n (suc count))) ≡ ages (r ∷ damages) (suc n) count
all_later r damages n zero = refl
all_later r damages n (suc count) =
    ap (λ a. a ∷ take count (map (option_map (join r)) (ages damages (suc n) (suc count)))) (later r damages n)
    ∙ ap (λ l. age (r ∷ damages) (suc n) ∷ l) (all_later r damages (suc n) count)

never : (n count : ℕ) → replicate count None ≡ ages [] n count
never n zero = refl
never n (suc count) = ap (λ l. None ∷ l) (never (suc n) count) ∙ ap (λ a. a ∷ ages [] (suc n) count) (none n)
  where
    none : (n : ℕ) → None ≡ age [] n
    none n = let out : nat_lt n 0 ≡ false = grind arith in sym (ap (λ t. if t then Some (bound (take n [])) else None) out)

newest : (r : Rectangle) (damages : List Rectangle) → Some no_rectangle ≡ age (r ∷ damages) 0
unfolding bound
newest r damages =
    let in_it : nat_lt 0 (length (r ∷ damages)) ≡ true = grind arith in
    sym (ap (λ t. if t then Some no_rectangle else None) in_it)

length_ages : (damages : List Rectangle) (n count : ℕ) → length (ages damages n count) ≡ count
length_ages damages n zero = refl
length_ages damages n (suc count) = ap suc (length_ages damages (suc n) count)

-- the buffers after these drawings
stales_are : (size : Size) (k : ℕ) (damages : List Rectangle) → (turns_after size (suc k) damages).stales ≡ ages damages 0 (suc k)
unfolding turns_after turned damaged
stales_are size k [] = never 0 (suc k)
stales_are size k (r ∷ before) =
    let t = turns_after size (suc k) before in
    let so_far : t.stales ≡ ages before 0 (suc k) = stales_are size k before in
    let moved : List (Option Rectangle) = map (option_map (join r)) t.stales in
    let count : length moved - 1 ≡ k =
    ap (λ n. n - 1) (length-map t.stales (option_map (join r)) ∙ (ap length so_far ∙ length_ages before 0 (suc k))) ∙ one_less k in
    ap (λ n. Some no_rectangle ∷ take n moved) count
    ∙ (ap (λ l. Some no_rectangle ∷ take k (map (option_map (join r)) l)) so_far
    ∙ (ap (λ l. Some no_rectangle ∷ l) (all_later r before 0 k) ∙ ap (λ a. a ∷ ages (r ∷ before) 1 k) (newest r before)))
  where
    one_less : (k : ℕ) → suc k - 1 ≡ k
    one_less k = omega arith

last_age : (damages : List Rectangle) (n k : ℕ) → slice_get (ages damages n (suc k)) k ≡ Some (age damages (n + k))
last_age damages n zero =
    let same : n ≡ n + 0 = omega arith in ap (λ m. Some (age damages m)) same
last_age damages n (suc k) =
    let same : suc n + k ≡ n + suc k = omega arith in last_age damages (suc n) k ∙ ap (λ m. Some (age damages m)) same

oldest : (damages : List Rectangle) (k : ℕ) → slice_get (ages damages 0 (suc k)) k ≡ Some (age damages k)
oldest damages k =
    let same : 0 + k ≡ k = omega arith in last_age damages 0 k ∙ ap (λ m. Some (age damages m)) same

size_stays : (size : Size) (count : ℕ) (damages : List Rectangle) → (turns_after size count damages).size ≡ size
unfolding turns_after turned damaged
size_stays size count [] = refl
size_stays size count (r ∷ before) = size_stays size count before

-- what is stale of the next buffer is what the display's rule says
stale_by : (size : Size) (k : ℕ) (r : Rectangle) (before : List Rectangle) → stale_of (damaged (turns_after size (suc k) before) r) ≡ stale_with size (suc k) (r ∷ before)
unfolding stale_of damaged stale_with
stale_by size k r before =
    let t = turns_after size (suc k) before in
    let moved : List (Option Rectangle) = map (option_map (join r)) t.stales in
    let so_far : t.stales ≡ ages before 0 (suc k) = stales_are size k before in
    let count : length moved - 1 ≡ k =
    ap (λ n. n - 1) (length-map t.stales (option_map (join r)) ∙ (ap length so_far ∙ length_ages before 0 (suc k))) ∙ one_less k in
    let last : slice_get moved k ≡ Some (age (r ∷ before) (suc k)) =
    slice_get-map (option_map (join r)) t.stales k ∙ (ap (λ l. option_map (option_map (join r)) (slice_get l k)) so_far
    ∙ (ap (option_map (option_map (join r))) (oldest before k) ∙ ap Some (later r before k))) in
    ap (λ s. stale_in s (unwrap_or (slice_get moved (length moved - 1)) None)) (size_stays size (suc k) before)
    ∙ (ap (λ n. stale_in size (unwrap_or (slice_get moved n) None)) count
    ∙ (ap (λ o. stale_in size (unwrap_or o None)) last ∙ by_rule size (suc k) (r ∷ before)))
  where
    one_less : (k : ℕ) → suc k - 1 ≡ k
    one_less k = omega arith

    chosen : (size : Size) (x : Rectangle) (t u : Bool) → t ≡ cond u false true → stale_in size (if t then Some x else None) ≡ (if u then sized size else x)
    chosen size x true true e = absurd (cc)
    chosen size x false true e = refl
    chosen size x true false e = refl
    chosen size x false false e = absurd (cc)

    by_rule : (size : Size) (n : ℕ) (damages : List Rectangle) → stale_in size (age damages n) ≡ (if nat_le (length damages) n then sized size else bound (take n damages))
    by_rule size n damages =
        let other : nat_lt n (length damages) ≡ cond (nat_le (length damages) n) false true = grind arith in
        chosen size (bound (take n damages)) (nat_lt n (length damages)) (nat_le (length damages) n) other

-- the buffers are next in turn
next_by : (size : Size) (k : ℕ) (damages : List Rectangle) → (turns_after size (suc k) damages).next ≡ length damages % suc k
unfolding turns_after turned damaged
next_by size k [] = sym (zero-mod (suc k))
next_by size k (r ∷ before) =
    let t = turns_after size (suc k) before in
    let count : length (map (option_map (join r)) t.stales) ≡ suc k =
    length-map t.stales (option_map (join r)) ∙ (ap length (stales_are size k before) ∙ length_ages before 0 (suc k)) in
    let more : length before + 1 ≡ suc (length before) = omega arith in
    ap (λ n. (t.next + 1) % n) count
    ∙ (ap (λ n. (n + 1) % suc k) (next_by size k before) ∙ (mod-add-mod (length before) (suc k) 1 ∙ ap (λ n. n % suc k) more))

pub stale_is : (size : Size) (count : ℕ) (r : Rectangle) (before : List Rectangle) → 1 ≤ count → stale_of (damaged (turns_after size count before) r) ≡ stale_with size count (r ∷ before)
stale_is size zero r before some = absurd (omega arith)
stale_is size (suc k) r before some = stale_by size k r before

pub next_is : (size : Size) (count : ℕ) (damages : List Rectangle) → 1 ≤ count → (turns_after size count damages).next ≡ length damages % count
next_is size zero damages some = absurd (omega arith)
next_is size (suc k) damages some = next_by size k damages

-- as many buffers as at first
pub count_is : (size : Size) (count : ℕ) (damages : List Rectangle) → 1 ≤ count → length (turns_after size count damages).stales ≡ count
count_is size zero damages some = absurd (omega arith)
count_is size (suc k) damages some = ap length (stales_are size k damages) ∙ length_ages damages 0 (suc k)

-- the display's size stays
pub turns_size : (size : Size) (count : ℕ) (damages : List Rectangle) → (turns_after size count damages).size ≡ size
turns_size = size_stays
