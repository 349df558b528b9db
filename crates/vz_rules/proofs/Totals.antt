-- What an answer, and what follows it, do to the totals of a client's resource.
use Rattle.std.proofs.Common.{◌≡◌, ℕ, ◌+◌, ◌-◌, ◌<◌, ◌≤◌, Bool, true, false, ◌&&◌, ◌||◌, ◌==◌, Option, Some, None, List, [], ◌∷◌, map, refl, ap, sym, ◌∙◌, subst, cond, arith, sum_by, is_some}
use Rattle.std.specs.Prelude.{nat_lt}
use Rattle.std.specs.Option.{option_map}
use Rattle.std.specs.List.{list_all, list_any}
use Rattle.std.proofs.lemmas.Bool.{eqb-true, ltb-true, lt-ltb, and_parts, and_from, both_ways, or_parts, not-false}
use Rattle.std.proofs.lemmas.List.Sums.{sum_by-append}
use Rattle.vz_pixels.specs.Block.{Block}
use Rattle.vz_frame.specs.declared.frame.Listing.{Listing}
use Rattle.vz_frame.specs.Frame.{lists}
use Rattle.vz_rules.specs.declared.entry.Returned.{Returned}
use Rattle.vz_rules.specs.World.{World, Client, Resource, resource_in}
use Rattle.vz_rules.specs.Messages.{took, new_resource, put_resource, is_unknown, lend, reclaim}
use Rattle.vz_rules.specs.Returns.{goes_back, queue_resource, returns_of, queue_returns}
use Rattle.vz_rules.specs.Accounts.{total_of}
use Rattle.vz_rules.specs.Kept.{count_of, AreRising}
use Rattle.vz_rules.proofs.Facts.{false_at, uncounted}
use Rattle.vz_rules.proofs.Rising.{find_map, find_test, counted, Rising, rising_map, find_above}
use Rattle.vz_rules.proofs.Given.{id_of, size_of, given_of, resource_given}
use Rattle.vz_rules.proofs.Kept_returns.{rising_put}

-- the queued references of a resource in a client's queue
abbrev pub in_queue_of : ℕ → Client → ℕ
in_queue_of id x = sum_by (count_of id) x.queue

-- what an answer makes of a client: so many references were lent, and these returns handed over
pub record IsAnswered (id : ℕ) (x y : Client) (new : ℕ) (handed : List Returned) : Type 0 where
  pub rising : Rising id_of y.resources
  pub lent : total_of (λ s. s.lent) id y ≡ total_of (λ s. s.lent) id x + new
  pub queued : total_of (λ s. s.queued) id y ≡ total_of (λ s. s.queued) id x
  pub reclaimed : total_of (λ s. s.queued) id x ≡ total_of (λ s. s.reclaimed) id x + in_queue_of id x
      → total_of (λ s. s.reclaimed) id y ≡ total_of (λ s. s.reclaimed) id x + sum_by (count_of id) handed
  pub in_queue : in_queue_of id y + sum_by (count_of id) handed ≡ in_queue_of id x

-- a total in some resources
abbrev total_in : (Resource → ℕ) → ℕ → List Resource → ℕ
total_in total id rs = counted total (resource_in id rs)

-- Where the resources stay

pub unchanged : (id : ℕ) (x y : Client) → y.resources ≡ x.resources → y.queue ≡ x.queue → Rising id_of x.resources → IsAnswered id x y 0 []
unchanged id x y same queue up =
    record {
      rising = subst (Rising id_of) (sym same) up;
      lent = omega (arith, ap (total_in (λ s. s.lent) id) same);
      queued = ap (total_in (λ s. s.queued) id) same;
      reclaimed = λ e. omega (arith, ap (total_in (λ s. s.reclaimed) id) same);
      in_queue = omega (arith, ap (sum_by (count_of id)) queue);
    }

-- An upload

above_less : (n m : ℕ) (rs : List Resource) → n < m → list_all (λ (t : Resource). nat_lt m t.id) rs ≡ true → list_all (λ (t : Resource). nat_lt n t.id) rs ≡ true
above_less n m [] l h = refl
above_less n m (s ∷ ss) l h =
    let both = and_parts (nat_lt m s.id) (list_all (λ (t : Resource). nat_lt m t.id) ss) h in
    and_from (nat_lt n s.id) (list_all (λ (t : Resource). nat_lt n t.id) ss) (lt-ltb n s.id (omega (arith, ltb-true m s.id both.0, l))) (above_less n m ss l both.1)

above_new : (id : ℕ) (s : Resource) (ss : List Resource) → nat_lt id s.id ≡ true → Rising id_of (s ∷ ss) → list_all (λ (t : Resource). nat_lt id t.id) (s ∷ ss) ≡ true
above_new id s ss l up =
    and_from (nat_lt id s.id) (list_all (λ (t : Resource). nat_lt id t.id) ss) l (above_less id s.id ss (ltb-true id s.id l) up.0)

-- resources stand by rising id, in the words of both
are_rising : (rs : List Resource) → Rising id_of rs → AreRising rs
are_rising [] up = tt
are_rising (s ∷ ss) up = (up.0, are_rising ss up.1)

from_rising : (rs : List Resource) → AreRising rs → Rising id_of rs
from_rising [] up = tt
from_rising (s ∷ ss) up = (up.0, from_rising ss up.1)

-- a total that a new resource does not have, and that a new block leaves
abbrev IsTotal : (Resource → ℕ) → Type 0
IsTotal total = (s : Resource) (block : Block) → (total (record s { block = block }) ≡ total s) × (total (new_resource s.id block) ≡ 0)

zero_some : (total : Resource → ℕ) (t : Bool) (s : Resource) → total s ≡ 0 → counted total (cond t (Some s) None) ≡ 0
zero_some total true s e = e
zero_some total false s e = refl

same_some : (total : Resource → ℕ) (t : Bool) (r s : Resource) (o : Option Resource) → total r ≡ total s → counted total (cond t (Some r) o) ≡ counted total (cond t (Some s) o)
same_some total true r s o e = e
same_some total false r s o e = refl

next_some : (total : Resource → ℕ) (t : Bool) (s : Resource) (o q : Option Resource) → counted total o ≡ counted total q → counted total (cond t (Some s) o) ≡ counted total (cond t (Some s) q)
next_some total true s o q e = refl
next_some total false s o q e = e

new_some : (total : Resource → ℕ) (t : Bool) (r : Resource) (o : Option Resource) → total r ≡ 0 → (t ≡ true → o ≡ None) → counted total (cond t (Some r) o) ≡ counted total o
new_some total true r o e h = e ∙ ap (counted total) (sym (h refl))
new_some total false r o e h = refl

total_put : (total : Resource → ℕ) → IsTotal total → (n id : ℕ) (block : Block) (rs : List Resource) → Rising id_of rs → total_in total n (put_resource id block rs) ≡ total_in total n rs
total_put total is n id block [] up = zero_some total (id == n) (new_resource id block) (is (new_resource id block) block).1
total_put total is n id block (s ∷ ss) up =
    elim (s.id == id) as (λ (b : Bool). total_in total n (cond b (record s { block = block } ∷ ss) (cond (nat_lt id s.id) (new_resource id block ∷ s ∷ ss) (s ∷ put_resource id block ss)))
    ≡ total_in total n (s ∷ ss)) [
      | true ↦ same_some total (s.id == n) (record s { block = block }) s (resource_in n ss) (is s block).0
      | false ↦
          elim (nat_lt id s.id) as (λ (b : Bool). nat_lt id s.id ≡ b → total_in total n (cond b (new_resource id block ∷ s ∷ ss) (s ∷ put_resource id block ss)) ≡ total_in total n (s ∷ ss)) [
            | true ↦ λ l. new_some total (id == n) (new_resource id block) (resource_in n (s ∷ ss)) (is (new_resource id block) block).1
                (λ e. ap (λ m. resource_in m (s ∷ ss)) (sym (eqb-true id n e)) ∙ find_above id_of id (s ∷ ss) (above_new id s ss l up))
            | false ↦ λ l. next_some total (s.id == n) s (resource_in n (put_resource id block ss)) (resource_in n ss) (total_put total is n id block ss up.1)
          ] refl
    ]

-- a client after its upload was stored
abbrev pub storing : ℕ → Block → Client → Client
storing id block x = record x { resources = put_resource id block x.resources }

pub answered_stored : (n id : ℕ) (block : Block) (x : Client) → Rising id_of x.resources → IsAnswered n x (took (storing id block x)) 0 []
answered_stored n id block x up =
    record {
      rising = from_rising (put_resource id block x.resources) (rising_put id block x.resources (are_rising x.resources up));
      lent = omega (arith, total_put (λ s. s.lent) (λ s b. (refl, refl)) n id block x.resources up);
      queued = total_put (λ s. s.queued) (λ s b. (refl, refl)) n id block x.resources up;
      reclaimed = λ e. omega (arith, total_put (λ s. s.reclaimed) (λ s b. (refl, refl)) n id block x.resources up);
      in_queue = omega arith;
    }

-- A submission

abbrev lends : List Listing → Bool → Resource → Resource
lends listings t s = cond t (record s { lent = s.lent + 1 }) s

lent_id : (listings : List Listing) (t : Bool) (s : Resource) → (lends listings t s).id ≡ s.id
lent_id listings true s = refl
lent_id listings false s = refl

lent_more : (listings : List Listing) (t : Bool) (s : Resource) → (lends listings t s).lent ≡ s.lent + cond t 1 0
lent_more listings true s = refl
lent_more listings false s = omega arith

lent_rest : (listings : List Listing) (t : Bool) (s : Resource) → ((lends listings t s).queued ≡ s.queued) × ((lends listings t s).reclaimed ≡ s.reclaimed)
lent_rest listings true s = (refl, refl)
lent_rest listings false s = (refl, refl)

mapped : (total : Resource → ℕ) (f : Resource → Resource) (id : ℕ) (rs : List Resource) → ((s : Resource) → (f s).id ≡ s.id) → total_in total id (map f rs) ≡ counted total (option_map f (resource_in id rs))
mapped total f id rs same = ap (counted total) (find_map (λ (s : Resource). s.id == id) f rs (λ s. ap (λ n. n == id) (same s)))

counted_same : (total : Resource → ℕ) (f : Resource → Resource) (o : Option Resource) → ((s : Resource) → total (f s) ≡ total s) → counted total (option_map f o) ≡ counted total o
counted_same total f None same = refl
counted_same total f (Some s) same = same s

lent_by : (listings : List Listing) (id : ℕ) (rs : List Resource) (o : Option Resource) → resource_in id rs ≡ o → (list_any (lists id) listings ≡ true → is_some o ≡ true)
    → counted (λ s. s.lent) (option_map (lend listings) o) ≡ counted (λ s. s.lent) o + cond (list_any (lists id) listings) 1 0
lent_by listings id rs None e known = uncounted (list_any (lists id) listings) (false_at (list_any (lists id) listings) (λ t. both_ways false refl (known t)))
lent_by listings id rs (Some s) e known =
    lent_more listings (list_any (lists s.id) listings) s
    ∙ ap (λ n. s.lent + cond (list_any (lists n) listings) 1 0) (eqb-true s.id id (find_test (λ (r : Resource). r.id == id) rs s e))

pub answered_lent : (id : ℕ) (listings : List Listing) (x y : Client) → y.resources ≡ map (lend listings) x.resources → y.queue ≡ x.queue → Rising id_of x.resources
    → (list_any (lists id) listings ≡ true → is_some (resource_in id x.resources) ≡ true) → IsAnswered id x y (cond (list_any (lists id) listings) 1 0) []
answered_lent id listings x y same queue up known =
    let ids : (s : Resource) → (lend listings s).id ≡ s.id = λ s. lent_id listings (list_any (lists s.id) listings) s in
    let queued = mapped (λ s. s.queued) (lend listings) id x.resources ids ∙ counted_same (λ s. s.queued) (lend listings) (resource_in id x.resources) (λ s. (lent_rest listings (list_any (lists s.id) listings) s).0) in
    let reclaimed = mapped (λ s. s.reclaimed) (lend listings) id x.resources ids ∙ counted_same (λ s. s.reclaimed) (lend listings) (resource_in id x.resources) (λ s. (lent_rest listings (list_any (lists s.id) listings) s).1) in
    record {
      rising = subst (Rising id_of) (sym same) (rising_map id_of (lend listings) x.resources ids up);
      lent = ap (total_in (λ s. s.lent) id) same ∙ (mapped (λ s. s.lent) (lend listings) id x.resources ids ∙ lent_by listings id x.resources (resource_in id x.resources) refl known);
      queued = ap (total_in (λ s. s.queued) id) same ∙ queued;
      reclaimed = λ e. omega (arith, ap (total_in (λ s. s.reclaimed) id) same, reclaimed);
      in_queue = omega (arith, ap (sum_by (count_of id)) queue);
    }

-- each id that a frame lists is that of a resource, where no listing is unknown
unknown_some : (id : ℕ) (l : Listing) (rs : List Resource) → l.id ≡ id → list_any (λ (s : Resource). (s.id == l.id) && (s.block.w == l.w) && (s.block.h == l.h)) rs ≡ true → is_some (resource_in id rs) ≡ true
unknown_some id l [] e h = absurd (cc)
unknown_some id l (s ∷ ss) e h =
    elim (s.id == l.id) as (λ (t : Bool). (s.id == l.id) ≡ t
    → ((t && (s.block.w == l.w) && (s.block.h == l.h)) || list_any (λ (r : Resource). (r.id == l.id) && (r.block.w == l.w) && (r.block.h == l.h)) ss) ≡ true → is_some (resource_in id (s ∷ ss)) ≡ true) [
      | true ↦ λ k m. ap (λ (t : Bool). is_some (cond t (Some s) (resource_in id ss))) (ap (λ n. s.id == n) (sym e) ∙ k)
      | false ↦ λ k m. ap (λ (t : Bool). is_some (cond t (Some s) (resource_in id ss))) (ap (λ n. s.id == n) (sym e) ∙ k) ∙ unknown_some id l ss e m
    ] refl h

pub known_listed : (id : ℕ) (rs : List Resource) (listings : List Listing) → list_any (is_unknown rs) listings ≡ false → list_any (lists id) listings ≡ true → is_some (resource_in id rs) ≡ true
known_listed id rs [] h k = absurd (cc)
known_listed id rs (l ∷ ls) h k =
    let none = or_parts (is_unknown rs l) (list_any (is_unknown rs) ls) h in
    elim (lists id l) as (λ (t : Bool). lists id l ≡ t → (t || list_any (lists id) ls) ≡ true → is_some (resource_in id rs) ≡ true) [
      | true ↦ λ e m. unknown_some id l rs (eqb-true l.id id e) (not-false _ none.0)
      | false ↦ λ e m. known_listed id rs ls none.1 m
    ] refl k

-- The queue is handed over

all_reclaimed : (o : Option Resource) → counted (λ s. s.reclaimed) (option_map (λ (s : Resource). record s { reclaimed = s.queued }) o) ≡ counted (λ s. s.queued) o
all_reclaimed None = refl
all_reclaimed (Some s) = refl

pub answered_reclaimed : (id : ℕ) (x : Client) → Rising id_of x.resources → IsAnswered id x (took (reclaim x)) 0 x.queue
answered_reclaimed id x up =
    let all : Resource → Resource = λ s. record s { reclaimed = s.queued } in
    let lent = mapped (λ s. s.lent) all id x.resources (λ s. refl) ∙ counted_same (λ s. s.lent) all (resource_in id x.resources) (λ s. refl) in
    let queued = mapped (λ s. s.queued) all id x.resources (λ s. refl) ∙ counted_same (λ s. s.queued) all (resource_in id x.resources) (λ s. refl) in
    let reclaimed = mapped (λ s. s.reclaimed) all id x.resources (λ s. refl) ∙ all_reclaimed (resource_in id x.resources) in
    record {
      rising = rising_map id_of all x.resources (λ s. refl) up;
      lent = omega (arith, lent);
      queued = queued;
      reclaimed = λ e. omega (arith, reclaimed, e);
      in_queue = omega arith;
    }

-- References are given back

-- what giving back makes of a client: so many references are queued
pub record IsGivenBack (id : ℕ) (x y : Client) (back : ℕ) : Type 0 where
  pub rising : Rising id_of y.resources
  pub lent : total_of (λ s. s.lent) id y ≡ total_of (λ s. s.lent) id x
  pub queued : total_of (λ s. s.queued) id y ≡ total_of (λ s. s.queued) id x + back
  pub reclaimed : total_of (λ s. s.reclaimed) id y ≡ total_of (λ s. s.reclaimed) id x
  pub in_queue : in_queue_of id y ≡ in_queue_of id x + back
  pub paid : total_of (λ s. s.queued) id x ≤ total_of (λ s. s.lent) id x → total_of (λ s. s.queued) id y ≤ total_of (λ s. s.lent) id y

abbrev backs : Bool → Resource → Resource
backs t s = cond t (record s { queued = s.lent }) s

back_rest : (t : Bool) (s : Resource) → ((backs t s).id ≡ s.id) × ((backs t s).lent ≡ s.lent) × ((backs t s).reclaimed ≡ s.reclaimed)
back_rest true s = (refl, refl, refl)
back_rest false s = (refl, refl, refl)

back_queued : (t : Bool) (s : Resource) → (t ≡ true → s.queued < s.lent) → (backs t s).queued ≡ s.queued + cond t (s.lent - s.queued) 0
back_queued true s h = omega (arith, h refl)
back_queued false s h = omega arith

back_paid : (t : Bool) (s : Resource) → s.queued ≤ s.lent → (backs t s).queued ≤ (backs t s).lent
back_paid true s h = omega arith
back_paid false s h = h

goes_more : (w : World) (c : ℕ) (s : Resource) → goes_back w c s ≡ true → s.queued < s.lent
goes_more w c s h = ltb-true s.queued s.lent (and_parts (nat_lt s.queued s.lent) _ h).0

queued_by : (w : World) (c : ℕ) (o : Option Resource) → counted (λ s. s.queued) (option_map (queue_resource w c) o) ≡ counted (λ s. s.queued) o + counted (given_of size_of (goes_back w) c) o
queued_by w c None = omega arith
queued_by w c (Some s) = back_queued (goes_back w c s) s (goes_more w c s)

paid_by : (w : World) (c : ℕ) (o : Option Resource) → counted (λ s. s.queued) o ≤ counted (λ s. s.lent) o
    → counted (λ s. s.queued) (option_map (queue_resource w c) o) ≤ counted (λ s. s.lent) (option_map (queue_resource w c) o)
paid_by w c None h = h
paid_by w c (Some s) h = back_paid (goes_back w c s) s h

pub given_back : (w : World) (id : ℕ) (x : Client) → Rising id_of x.resources
    → IsGivenBack id x (queue_returns w x) (counted (given_of size_of (goes_back w) x.number) (resource_in id x.resources))
given_back w id x up =
    let give : Resource → Resource = queue_resource w x.number in
    let rest : (s : Resource) → ((give s).id ≡ s.id) × ((give s).lent ≡ s.lent) × ((give s).reclaimed ≡ s.reclaimed) = λ s. back_rest (goes_back w x.number s) s in
    let ids : (s : Resource) → (give s).id ≡ s.id = λ s. (rest s).0 in
    let queued = mapped (λ s. s.queued) give id x.resources ids in
    let lent = mapped (λ s. s.lent) give id x.resources ids in
    record {
      rising = rising_map id_of give x.resources ids up;
      lent = lent ∙ counted_same (λ s. s.lent) give (resource_in id x.resources) (λ s. (rest s).1);
      queued = queued ∙ queued_by w x.number (resource_in id x.resources);
      reclaimed = mapped (λ s. s.reclaimed) give id x.resources ids ∙ counted_same (λ s. s.reclaimed) give (resource_in id x.resources) (λ s. (rest s).2);
      in_queue = sum_by-append (count_of id) x.queue (returns_of w x) ∙ ap (λ n. in_queue_of id x + n) (resource_given size_of (goes_back w) x.number id x.resources up);
      paid = λ h. omega (arith, queued, lent, paid_by w x.number (resource_in id x.resources) h);
    }
