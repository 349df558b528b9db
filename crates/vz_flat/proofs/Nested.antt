-- How the nesting of groups goes on, operation by operation.
use Rattle.std.proofs.Common.{◌≡◌, ℕ, zero, suc, ◌+◌, ◌-◌, ◌≤◌, ◌<◌, get_or, true, false, ◌&&◌, max, Option, Some, None, List, [], ◌∷◌, drop, length, refl, ap, ◌∙◌, arith}
use Rattle.std.specs.{Prelude.nat_lt, Prelude.MatchOption, List.list_all}
use Rattle.std.proofs.{lemmas.List.drop_more, lemmas.Bool.and_parts, lemmas.Bool.ltb-true, lemmas.Bool.eqb-true, lemmas.Bool.Decides.nat_tests}
use Rattle.vz_flat.specs.{declared.op.Op.Op, declared.op.TheConstants.MOST_OPEN, declared.nesting.Nesting.Nesting, Nesting.NestsOn}
use Rattle.vz_flat.specs.declared.op.Op.TheVariants.{Fill, Blit, Push, Pop}
use Rattle.vz_flat.specs.Ops.{is_nested, is_inside, is_whole, is_whole_from, deepest}
use Rattle.vz_rules.proofs.Facts.{and_false as and_no}

-- at least as many groups are open at once as are open
pub deepest_least : (n : ℕ) (ops : List Op) → n ≤ deepest n ops
unfolding deepest
deepest_least n [] = omega arith
deepest_least n (Push area o m ∷ ops) =
    let more = deepest_least (n + 1) ops in omega (arith, more)
deepest_least n (Pop ∷ ops) = omega arith
deepest_least n (Fill area c o m ∷ ops) = deepest_least n ops
deepest_least n (Blit area block tx ty o m ∷ ops) = deepest_least n ops

-- and at most as many as the limit
pub deepest_most : (n : ℕ) (ops : List Op) → n ≤ MOST_OPEN → is_nested n ops ≡ true → deepest n ops ≤ MOST_OPEN
unfolding deepest is_nested
deepest_most n [] few e = few
deepest_most n (Push area o m ∷ ops) few e =
    let parts = and_parts (nat_lt n MOST_OPEN) (is_nested (n + 1) ops) e in
    let less = ltb-true n MOST_OPEN parts.0 in
    deepest_most (n + 1) ops (omega (arith, less)) parts.1
deepest_most n (Pop ∷ ops) few e =
    let rest = deepest_most (n - 1) ops (omega (arith, few)) (and_parts (nat_lt 0 n) (is_nested (n - 1) ops) e).1 in
    omega (arith, rest, few)
deepest_most n (Fill area c o m ∷ ops) few e = deepest_most n ops few e
deepest_most n (Blit area block tx ty o m ∷ ops) few e = deepest_most n ops few e

pub most_of : (ops : List Op) (n : ℕ) → is_whole ops ≡ true → n ≡ deepest 0 ops → n ≤ MOST_OPEN
unfolding is_whole
most_of ops n whole e = grind (arith, nat_tests, deepest_most 0 ops, and_parts (is_nested 0 ops) (list_all is_inside ops) whole)

-- Whole operations

-- an operation whose texels are not inside its block stands in no whole list
pub outside : (n : ℕ) (op : Op) (rest : List Op) → is_inside op ≡ false → is_whole_from n (op ∷ rest) ≡ false
outside n op rest e = ap (λ t. is_nested n (op ∷ rest) && (t && list_all is_inside rest)) e ∙ and_no (is_nested n (op ∷ rest))

-- a Fill and a Blit leave the nesting
pub stays_fill : (before : Nesting) (op : Op) (area : _) (c : _) (o : ℕ) (m : _) → op ≡ Fill area c o m → before.now_open ≤ before.deepest → NestsOn before op before
unfolding is_nested is_inside deepest
stays_fill before op area c o m is ordered = rw is (record { whole = λ rest. refl; most = λ rest. refl; ordered = ordered })

pub stays_blit : (before : Nesting) (op : Op) (area : _) (block : _) (tx ty : _) (o : ℕ) (m : _) → op ≡ Blit area block tx ty o m → is_inside op ≡ true → before.now_open ≤ before.deepest → NestsOn before op before
unfolding is_nested deepest
stays_blit before op area block tx ty o m is inside ordered = grind (arith, nat_tests)

-- a Push opens a group more
pub pushes : (before after : Nesting) (area : _) (o : ℕ) (m : _) → nat_lt before.now_open MOST_OPEN ≡ true → after.now_open ≡ before.now_open + 1 → after.deepest ≡ max before.deepest (before.now_open + 1) → NestsOn before (Push area o m) after
unfolding is_nested is_inside deepest
pushes before after area o m low more most = grind (arith, nat_tests, deepest_least)

pub pushes_too_deep : (n : ℕ) (area : _) (o : ℕ) (m : _) (rest : List Op) → nat_lt n MOST_OPEN ≡ false → is_whole_from n (Push area o m ∷ rest) ≡ false
unfolding is_nested
pushes_too_deep n area o m rest e = ap (λ t. (t && is_nested (n + 1) rest) && list_all is_inside (Push area o m ∷ rest)) e

-- a Pop ends one
pub pops : (before after : Nesting) → nat_lt 0 before.now_open ≡ true → after.now_open ≡ before.now_open - 1 → after.deepest ≡ before.deepest → before.now_open ≤ before.deepest → NestsOn before Pop after
unfolding is_nested is_inside deepest
pops before after low less same ordered = grind (arith, nat_tests)

pub pops_none : (n : ℕ) (rest : List Op) → nat_lt 0 n ≡ false → is_whole_from n (Pop ∷ rest) ≡ false
unfolding is_nested
pops_none n rest e = ap (λ t. (t && is_nested (n - 1) rest) && list_all is_inside (Pop ∷ rest)) e

module _ (before : Nesting) (op : Op) where
  abbrev Answered : Option Nesting → Type 0
  Answered r = MatchOption r ((rest : List Op) → is_whole_from before.now_open (op ∷ rest) ≡ false) (λ n. NestsOn before op n)

  pub pushed : (r : Option Nesting) (area : _) (o : ℕ) (m : _) → op ≡ Push area o m
      → MatchOption r (nat_lt before.now_open MOST_OPEN ≡ false) (λ n. (nat_lt before.now_open MOST_OPEN ≡ true) × (n.now_open ≡ before.now_open + 1) × (n.deepest ≡ max before.deepest (before.now_open + 1)))
      → Answered r
  pushed None area o m is e = λ rest. rw is (pushes_too_deep before.now_open area o m rest e)
  pushed (Some n) area o m is e = rw is (pushes before n area o m e.0 e.1 e.2)

  pub popped : (r : Option Nesting) → op ≡ Pop → before.now_open ≤ before.deepest
      → MatchOption r (nat_lt 0 before.now_open ≡ false) (λ n. (nat_lt 0 before.now_open ≡ true) × (n.now_open ≡ before.now_open - 1) × (n.deepest ≡ before.deepest))
      → Answered r
  popped None is ordered e = λ rest. rw is (pops_none before.now_open rest e)
  popped (Some n) is ordered e = rw is (pops before n e.0 e.1 e.2 ordered)

-- The walk over a list

abbrev pub IsAfter : Nesting → ℕ → List Op → Type 0
IsAfter n k ops = (n.now_open ≤ n.deepest) × (is_whole ops ≡ is_whole_from n.now_open (drop k ops)) × (deepest 0 ops ≡ max n.deepest (deepest n.now_open (drop k ops)))

pub at_start : (ops : List Op) → IsAfter (record { now_open = 0; deepest = 0 }) 0 ops
unfolding is_whole
at_start ops = (omega arith, refl, omega arith)

pub one_more : (before after : Nesting) (op : Op) (k : ℕ) (ops : List Op) → drop k ops ≡ op ∷ drop (k + 1) ops → IsAfter before k ops → NestsOn before op after → IsAfter after (k + 1) ops
one_more before after op k ops split is on = grind (arith, nat_tests)

pub at_end : (n : Nesting) (k : ℕ) (ops : List Op) → drop k ops ≡ [] → IsAfter n k ops → n.now_open ≡ 0 → (is_whole ops ≡ true) × (n.deepest ≡ deepest 0 ops)
unfolding is_nested deepest
at_end n k ops done is none = grind (arith, nat_tests)

pub left_open : (n : Nesting) (k : ℕ) (ops : List Op) → drop k ops ≡ [] → IsAfter n k ops → (n.now_open ≡ 0 → ⊥) → is_whole ops ≡ false
unfolding is_nested
left_open n k ops done is some = grind (arith, nat_tests, eqb-true n.now_open 0)

pub split : (ops : List Op) (k : ℕ) (d op : Op) → k < length ops → get_or ops k d ≡ op → drop k ops ≡ op ∷ drop (k + 1) ops
split ops k d op low is = drop_more ops k d low ∙ ap (λ o. o ∷ drop (k + 1) ops) is

pub all_dropped : (ops : List Op) (k : ℕ) → length ops ≤ k → drop k ops ≡ []
all_dropped [] zero e = refl
all_dropped [] (suc k) e = refl
all_dropped (op ∷ ops) zero e = absurd (omega (arith, e))
all_dropped (op ∷ ops) (suc k) e = grind (arith, nat_tests, all_dropped ops k)
