-- What is kept of resources, where one is stored, where the queue is reclaimed and where references are given back.
use Rattle.std.proofs.Common.{◌≡◌, ℕ, ◌<◌, ◌≤◌, Bool, true, false, ◌&&◌, ◌==◌, ◌⊎◌, inl, inr, List, [], ◌∷◌, refl, ap, sym, ◌∙◌, arith, cond, subst, Contains, count_by, sum_by}
use Rattle.std.specs.Prelude.{nat_lt}
use Rattle.std.proofs.lemmas.Bool.{and_parts, eqb-true, eqb-false, ltb-true, lt-ltb, ltb-false, cases_order, false_from_ne_true, cond-false}
use Rattle.std.proofs.lemmas.List.Sums.{sum_by-cons}
use Rattle.std.specs.List.{list_any, list_all}
use Rattle.vz_pixels.specs.Block.{Block}
use Rattle.vz_frame.specs.Frame.{lists}
use Rattle.vz_rules.specs.declared.entry.Returned.{Returned}
use Rattle.vz_rules.specs.World.{Client, Resource, Submission}
use Rattle.vz_rules.specs.Messages.{new_resource, put_resource, took, reclaim}
use Rattle.vz_rules.specs.Kept.{KeepsShelf, KeepsResource, HasResource, AreRising, borrows, holds_of, count_of}
use Rattle.vz_rules.proofs.Members.{contains_here, contains_there, contains_cases, contains_none, contains_map, all_at, all_from, any_at}
use Rattle.vz_rules.proofs.Counts.{count_none}
use Rattle.vz_rules.proofs.Kept_shelves.{has_mapped, rising_map}

pub sum_none : {A : Type 0} (f : A → ℕ) (xs : List A) → ((x : A) → Contains xs x → f x ≡ 0) → sum_by f xs ≡ 0
sum_none f [] h = refl
sum_none f (x ∷ xs) h = omega (arith, sum_by-cons f x xs, h x (contains_here x xs), sum_none f xs (λ y c. h y (contains_there x y xs c)))

-- An upload

-- the same totals under one id
pub record SameTotals (r s : Resource) : Type 0 where
  pub id : s.id ≡ r.id
  pub lent : s.lent ≡ r.lent
  pub queued : s.queued ≡ r.queued
  pub reclaimed : s.reclaimed ≡ r.reclaimed

itself : (r : Resource) → SameTotals r r
itself r = record { id = refl; lent = refl; queued = refl; reclaimed = refl }

-- a resource with the totals of one that is there, or a new one of an id that none has
abbrev pub IsPut : ℕ → Block → List Resource → Resource → Type 0
IsPut id block ss x =
    ((r : Resource) × Contains ss r × SameTotals r x) ⊎ ((x ≡ new_resource id block) × ((r : Resource) → Contains ss r → r.id ≡ id → ⊥))

pub put_at : (id : ℕ) (block : Block) (ss : List Resource) (x : Resource) → AreRising ss → Contains (put_resource id block ss) x → IsPut id block ss x
put_at id block [] x up c =
    elim (contains_cases (new_resource id block) x [] c) [
      | inl e ↦ inr (sym e, λ r k e. contains_none r k)
      | inr r ↦ absurd (contains_none x r)
    ]
put_at id block (s ∷ ss) x up c =
    elim (s.id == id) as (λ (t : Bool). (s.id == id) ≡ t
    → Contains (cond t (record s { block = block } ∷ ss) (cond (nat_lt id s.id) (new_resource id block ∷ s ∷ ss) (s ∷ put_resource id block ss))) x → IsPut id block (s ∷ ss) x) [
      | true ↦ λ e k. elim (contains_cases (record s { block = block }) x ss k) [
        | inl same ↦ inl (s, contains_here s ss, subst (λ y. SameTotals s y) same (record { id = refl; lent = refl; queued = refl; reclaimed = refl }))
        | inr m ↦ inl (x, contains_there s x ss m, itself x)
      ]
      | false ↦ λ e k.
          elim (nat_lt id s.id) as (λ (u : Bool). nat_lt id s.id ≡ u → Contains (cond u (new_resource id block ∷ s ∷ ss) (s ∷ put_resource id block ss)) x → IsPut id block (s ∷ ss) x) [
            | true ↦ λ l m. elim (contains_cases (new_resource id block) x (s ∷ ss) m) [
              | inl same ↦ inr (
                sym same,
                λ r q f. elim (contains_cases s r ss q) [
                  | inl z ↦ eqb-false s.id id e (ap (λ (y : Resource). y.id) z ∙ f)
                  | inr z ↦ omega (arith, ltb-true id s.id l, ltb-true s.id r.id (all_at (λ (y : Resource). nat_lt s.id y.id) ss r up.0 z), f)
                ],
              )
              | inr q ↦ inl (x, q, itself x)
            ]
            | false ↦ λ l m. elim (contains_cases s x (put_resource id block ss) m) [
              | inl same ↦ inl (s, contains_here s ss, subst (λ y. SameTotals s y) same (itself s))
              | inr q ↦ elim (put_at id block ss x up.1 q) [
                | inl z ↦ inl (z.0, contains_there s z.0 ss z.1, z.2)
                | inr z ↦ inr (
                  z.0,
                  λ r y f. elim (contains_cases s r ss y) [
                    | inl w ↦ eqb-false s.id id e (ap (λ (y : Resource). y.id) w ∙ f)
                    | inr w ↦ z.1 r w f
                  ],
                )
              ]
            ]
          ] refl k
    ] refl c

put_above : (n id : ℕ) (block : Block) (ss : List Resource) → AreRising ss → nat_lt n id ≡ true → list_all (λ (t : Resource). nat_lt n t.id) ss ≡ true
    → list_all (λ (t : Resource). nat_lt n t.id) (put_resource id block ss) ≡ true
put_above n id block ss up l h =
    all_from (λ (t : Resource). nat_lt n t.id) (put_resource id block ss) (λ x c. elim (put_at id block ss x up c) [
      | inl r ↦ ap (λ k. nat_lt n k) r.2.id ∙ all_at (λ (t : Resource). nat_lt n t.id) ss r.0 h r.1
      | inr r ↦ ap (λ (y : Resource). nat_lt n y.id) r.0 ∙ l
    ])

less : (a b : ℕ) → a ≤ b → (a ≡ b → ⊥) → a < b
less a b l n = elim (cases_order a b) [ inl e ↦ absurd (n e) | inr r ↦ elim r [ inl k ↦ k | inr k ↦ absurd (omega arith) ] ]

pub rising_put : (id : ℕ) (block : Block) (ss : List Resource) → AreRising ss → AreRising (put_resource id block ss)
rising_put id block [] up = (refl, tt)
rising_put id block (s ∷ ss) up =
    elim (s.id == id) as (λ (t : Bool). (s.id == id) ≡ t
    → AreRising (cond t (record s { block = block } ∷ ss) (cond (nat_lt id s.id) (new_resource id block ∷ s ∷ ss) (s ∷ put_resource id block ss)))) [
      | true ↦ λ e. up
      | false ↦ λ e.
          elim (nat_lt id s.id) as (λ (u : Bool). nat_lt id s.id ≡ u → AreRising (cond u (new_resource id block ∷ s ∷ ss) (s ∷ put_resource id block ss))) [
            | true ↦ λ l. (
              all_from (λ (t : Resource). nat_lt id t.id) (s ∷ ss) (λ x c. elim (contains_cases s x ss c) [
                | inl z ↦ ap (λ (y : Resource). nat_lt id y.id) (sym z) ∙ l
                | inr z ↦ lt-ltb id x.id (omega (arith, ltb-true id s.id l, ltb-true s.id x.id (all_at (λ (y : Resource). nat_lt s.id y.id) ss x up.0 z)))
              ]),
              up,
            )
            | false ↦ λ l.
                (put_above s.id id block ss up.1 (lt-ltb s.id id (less s.id id (ltb-false id s.id l) (eqb-false s.id id e))) up.0, rising_put id block ss up.1)
          ] refl
    ] refl

has_put : (id : ℕ) (block : Block) (ss : List Resource) (n : ℕ) → HasResource ss n → HasResource (put_resource id block ss) n
has_put id block [] n h = absurd (contains_none h.0 h.1)
has_put id block (s ∷ ss) n h =
    elim (s.id == id) as (λ (t : Bool). HasResource (cond t (record s { block = block } ∷ ss) (cond (nat_lt id s.id) (new_resource id block ∷ s ∷ ss) (s ∷ put_resource id block ss))) n) [
      | true ↦ elim (contains_cases s h.0 ss h.1) [
        | inl e ↦ (record s { block = block }, contains_here (record s { block = block }) ss, ap (λ (y : Resource). y.id) e ∙ h.2)
        | inr m ↦ (h.0, contains_there (record s { block = block }) h.0 ss m, h.2)
      ]
      | false ↦ elim (nat_lt id s.id) as (λ (u : Bool). HasResource (cond u (new_resource id block ∷ s ∷ ss) (s ∷ put_resource id block ss)) n) [
        | true ↦ (h.0, contains_there (new_resource id block) h.0 (s ∷ ss) h.1, h.2)
        | false ↦ elim (contains_cases s h.0 ss h.1) [
          | inl e ↦ (s, contains_here s (put_resource id block ss), ap (λ (y : Resource). y.id) e ∙ h.2)
          | inr m ↦ let r = has_put id block ss n (h.0, m, h.2) in (r.0, contains_there s r.0 (put_resource id block ss) r.1, r.2)
        ]
      ]
    ]

totals_of_same : (holding : Submission → Bool) (subs : List Submission) (c : ℕ) (queue : List Returned) (r s : Resource) → SameTotals r s
    → KeepsResource holding subs c queue r → KeepsResource holding subs c queue s
totals_of_same holding subs c queue r s same t =
    record {
      reclaimed = omega (arith, t.reclaimed, same.reclaimed, same.queued);
      queued = omega (arith, t.queued, same.queued, same.lent);
      lent = same.lent ∙ (t.lent ∙ ap (λ n. count_by (borrows c n) subs) (sym same.id));
      out = omega (arith, t.out, same.lent, same.queued, ap (λ n. count_by (holds_of holding c n) subs) same.id);
      in_queue = omega (arith, t.in_queue, same.queued, same.reclaimed, ap (λ n. sum_by (count_of n) queue) same.id);
    }

-- an id that no resource has is listed by no submission
never_listed : (holding : Submission → Bool) (subs : List Submission) (c : Client) (id : ℕ) → KeepsShelf holding subs c
    → ((r : Resource) → Contains c.resources r → r.id ≡ id → ⊥)
    → (s : Submission) → Contains subs s → borrows c.number id s ≡ false
never_listed holding subs c id h none s p =
    false_from_ne_true (borrows c.number id s) (λ b.
    let both = and_parts (s.submitted.sub.client == c.number) (list_any (lists id) s.submitted.frame.resources) b in
    let l = any_at (lists id) s.submitted.frame.resources both.1 in
    let r = h.listed s l.0 p (eqb-true s.submitted.sub.client c.number both.0) l.1 in
    none r.0 r.1 (r.2 ∙ eqb-true l.0.id id l.2))

not_first : (a b c : Bool) → (a && c) ≡ false → ((a && b) && c) ≡ false
not_first true true c h = h
not_first _ _ c h = refl

new_totals : (holding : Submission → Bool) (subs : List Submission) (c : Client) (id : ℕ) (block : Block) → KeepsShelf holding subs c
    → ((r : Resource) → Contains c.resources r → r.id ≡ id → ⊥) → KeepsResource holding subs c.number c.queue (new_resource id block)
new_totals holding subs c id block h none =
    record {
      reclaimed = omega arith;
      queued = omega arith;
      lent = sym (count_none (borrows c.number id) subs (never_listed holding subs c id h none));
      out = omega (
        arith,
        count_none (holds_of holding c.number id) subs (λ s p.
            not_first (s.submitted.sub.client == c.number) (holding s) (list_any (lists id) s.submitted.frame.resources) (never_listed holding subs c id h none s p)),
      );
      in_queue = omega (
        arith,
        sum_none (count_of id) c.queue (λ r p.
            cond-false (r.id == id) r.count 0 (false_from_ne_true (r.id == id) (λ e. let k = (h.returns r p).known in none k.0 k.1 (k.2 ∙ eqb-true r.id id e)))),
      );
    }

-- a client after its upload was stored
abbrev pub storing : ℕ → Block → Client → Client
storing id block c = record c { resources = put_resource id block c.resources }

pub shelf_stored : (holding : Submission → Bool) (subs : List Submission) (c : Client) (id : ℕ) (block : Block) → KeepsShelf holding subs c
    → KeepsShelf holding subs (took (storing id block c))
shelf_stored holding subs c id block h =
    record {
      taken = omega (arith, h.taken);
      rising = rising_put id block c.resources h.rising;
      listed = λ s l p by q. has_put id block c.resources l.id (h.listed s l p by q);
      totals = λ s p. elim (put_at id block c.resources s h.rising p) [
        | inl r ↦ totals_of_same holding subs c.number c.queue r.0 s r.2 (h.totals r.0 r.1)
        | inr r ↦ subst (λ x. KeepsResource holding subs c.number c.queue x) (sym r.0) (new_totals holding subs c id block h r.1)
      ];
      returns = λ r p. let k = h.returns r p in record { client = k.client; some = k.some; known = has_put id block c.resources r.id k.known };
    }

-- The queue is reclaimed

pub shelf_reclaimed : (holding : Submission → Bool) (subs : List Submission) (c : Client) → KeepsShelf holding subs c
    → KeepsShelf holding subs (took (reclaim c))
shelf_reclaimed holding subs c h =
    let all : Resource → Resource = λ s. record s { reclaimed = s.queued } in
    record {
      taken = omega (arith, h.taken);
      rising = rising_map all c.resources (λ s. refl) h.rising;
      listed = λ s l p by q. has_mapped all c.resources l.id (λ x. refl) (h.listed s l p by q);
      totals = λ s p.
          let m = contains_map all c.resources s p in
          let t = h.totals m.0 m.1 in
          subst (λ x. KeepsResource holding subs c.number [] x) m.2
          (record { reclaimed = omega arith; queued = t.queued; lent = t.lent; out = t.out; in_queue = omega arith });
      returns = λ r p. absurd (contains_none r p);
    }
