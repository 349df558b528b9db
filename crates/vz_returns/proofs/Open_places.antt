-- Those that await feedback are those that have places, where one is added and where one is noted.
use Rattle.std.proofs.Common.{◌≡◌, ℕ, ◌+◌, ◌-◌, ◌<◌, true, false, Option, Some, None, is_some, List, [], ◌∷◌, length, min, Result, Ok, Err, OnOk, ap, sym, ◌∙◌, arith, cond}
use Rattle.std.specs.{List.list_all, Map.lookup}
use Rattle.std.proofs.{lemmas.Bool.Decides.nat_tests, Math.Nat.min-le_right}
use Rattle.vz_ids.specs.{declared.Sub.Sub, Ids.same_sub}
use Rattle.vz_returns.specs.Unfed.{before, in_order, is_open, place_in, opened, fed}
use Rattle.vz_returns.proofs.Kept.{both, from_same_sub, opened_has, fed_has, opened_in_order, fed_in_order}
use Rattle.vz_returns.proofs.Sorted_subs.{none_left, none_in_order, none_behind, insert_length, told_none, told_some}
use Rattle.vz_returns.specs.Notes.{AreKept}

-- How many

pub fed_length : (list : List Sub) (s : Sub) → in_order list ≡ true → is_open list s ≡ true → length (fed s list) + 1 ≡ length list
unfolding in_order
fed_length [] s sorted there = absurd (cc)
fed_length (x ∷ list) s sorted there = grind (arith, nat_tests, both (list_all (before x) list) (in_order list) sorted, fed_length list s, from_same_sub x s, none_behind x list, none_left list s)

-- None at first

pub none_kept : (unfed : List Sub) (places : List (Sub × ℕ)) (free : ℕ) → unfed ≡ [] → places ≡ [] → AreKept unfed places free
none_kept unfed places free list none =
    let few = ap length none in
    record {
      sorted = ap in_order list ∙ none_in_order;
      same = λ t. ap (λ l. is_open l t) list ∙ sym (ap (λ l. is_some (lookup (same_sub t) l)) none);
      count = ap length list ∙ sym few;
      room = omega (arith, few);
    }

-- One is noted

pub kept_noted : (unfed fewer : List Sub) (places left : List (Sub × ℕ)) (s : Sub) (n free rest : ℕ) → AreKept unfed places free
    → fewer ≡ fed s unfed → Some n ≡ lookup (same_sub s) places
    → ((t : Sub) → lookup (same_sub t) left ≡ cond (same_sub s t) None (lookup (same_sub t) places)) → length left + 1 ≡ length places
    → rest + 1 ≡ free → AreKept fewer left rest
kept_noted unfed fewer places left s n free rest k list found others len less = grind (arith, nat_tests, fed_length, fed_in_order, fed_has, told_none)

-- how many await feedback or have it due
pub count_noted : (unfed fewer : List Sub) (places : List (Sub × ℕ)) (s : Sub) (n free : ℕ) → AreKept unfed places free
    → fewer ≡ fed s unfed → Some n ≡ lookup (same_sub s) places → length fewer + 1 ≡ length unfed
count_noted unfed fewer places s n free k list found = grind (arith, nat_tests, fed_length unfed s k.sorted)

-- One is added

pub kept_added : (unfed more : List Sub) (places longer : List (Sub × ℕ)) (s : Sub) (m free : ℕ) → AreKept unfed places free
    → more ≡ opened s unfed → lookup (same_sub s) places ≡ None
    → ((t : Sub) → lookup (same_sub t) longer ≡ cond (same_sub s t) (Some m) (lookup (same_sub t) places))
    → length longer ≡ length places + 1 → length places < free → AreKept more longer free
kept_added unfed more places longer s m free k list new others len less =
    let none : is_open unfed s ≡ false = k.same s ∙ ap is_some new in
    let long = ap length list ∙ insert_length unfed (place_in unfed s) s in
    let count = k.count in
    record {
      sorted = ap in_order list ∙ opened_in_order unfed s k.sorted none;
      same = λ t. ap (λ l. is_open l t) list ∙ opened_has unfed s t ∙
          told_some (same_sub s t) (is_open unfed t) m (lookup (same_sub t) places) (lookup (same_sub t) longer) (others t) (k.same t);
      count = omega (arith, long, len, count);
      room = omega (arith, len, less);
    }

-- what holds of a call's value, where it is unwrapped
pub on_ok : {A E : Type 0} (P : Type 0) (r : Result A E) (v : A) → r ≡ Ok v → OnOk r P → P
on_ok P (Ok w) v e h = h
on_ok P (Err f) v e h = absurd (cc)

-- one more entry, where the key is new
pub one_longer : (a b : ℕ) (old found : Option ℕ) → old ≡ found → found ≡ None → a ≡ b + cond (is_some old) 0 1 → a ≡ b + 1
one_longer a b old found e f h = h ∙ ap {B = ℕ} (λ (o : Option ℕ). b + cond (is_some o) 0 1) (e ∙ f)

-- where there is room for one more, it can have its feedback due
pub has_free : (a free n : ℕ) → 0 < min a (free - n) → n < free
has_free a free n h = let p = min-le_right a (free - n) in omega (arith, h, p)
