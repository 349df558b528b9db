-- The newest surface of a group stays the newest where others go.
use Rattle.std.proofs.Common.{◌≡◌, ℕ, ◌+◌, ◌<◌, ◌≤◌, Bool, true, false, not, ◌&&◌, ◌||◌, ◌==◌, ◌⊎◌, inl, inr, Option, Some, None, List, [], ◌∷◌, filter, refl, ap, sym, ◌∙◌, arith, cond, subst, Contains}
use Rattle.std.specs.Prelude.{nat_le, nat_lt}
use Rattle.std.proofs.lemmas.Bool.{and_parts, and_from, or_cases, cases_order, eq-eqb, eqb-true, leb-true, ltb-true, ltb-false, lt-ltb, le-ltb}
use Rattle.vz_ids.specs.declared.LocalSurfaceId.{LocalSurfaceId}
use Rattle.vz_ids.specs.declared.SurfaceId.{SurfaceId}
use Rattle.vz_ids.specs.declared.SurfaceRange.{SurfaceRange}
use Rattle.vz_ids.specs.Ids.{same_sink, same_surface, same_group, is_raised, newer, at_least}
use Rattle.vz_rules.specs.World.{Client, Surface, FrameData}
use Rattle.vz_rules.specs.Scene.{newer_frame, newest, in_range, from_start, after_start, or_else, shown_frame}
use Rattle.vz_rules.specs.Kept.{KeepsClients, KeepsSurfaces}
use Rattle.vz_rules.proofs.Reached.{from_same, from_same_sink}
use Rattle.vz_rules.proofs.Members.{same_tests, contains_here, contains_there, contains_cases, contains_none, contains_at, at_same, filter_at}
use Rattle.vz_rules.proofs.Kept_last.{one_owner}

-- the sum of the numbers of an id, by which the surfaces of a client rise
abbrev pub rank : FrameData → ℕ
rank i = i.id.local.parent + i.id.local.child

-- of these frames the newer one has the greater rank
abbrev pub ByRank : List FrameData → Type 0
ByRank xs = (a b : FrameData) → Contains xs a → Contains xs b → newer a.id.local b.id.local ≡ nat_lt (rank b) (rank a)

pub none_at_all : (xs : List FrameData) → newest xs ≡ None → xs ≡ []
none_at_all [] h = refl
none_at_all (x ∷ xs) h = absurd (some x (newest xs) h)
  where
    some : (i : FrameData) (o : Option FrameData) → newer_frame i o ≡ None → ⊥
    some i None h = absurd (cc)
    some i (Some j) h = by (newer j.id.local i.id.local) h
      where
        by : (t : Bool) → ◌≡◌ {A = Option FrameData} (cond t (Some j) (Some i)) None → ⊥
        by true e = absurd (cc)
        by false e = absurd (cc)

-- of two the newest is the one of the greater rank
newer_of : (x j i : FrameData) (t : Bool) → ◌≡◌ {A = Option FrameData} (cond t (Some j) (Some x)) (Some i) → ((t ≡ true) × (j ≡ i)) ⊎ ((t ≡ false) × (x ≡ i))
newer_of x j i true h = inl (refl, cc)
newer_of x j i false h = inr (refl, cc)

-- it is one of them, and none has a greater rank
pub newest_is : (xs : List FrameData) (i : FrameData) → ByRank xs → newest xs ≡ Some i → Contains xs i × ((k : FrameData) → Contains xs k → rank k ≤ rank i)
newest_is [] i ranks h = absurd (cc)
newest_is (x ∷ xs) i ranks h =
    elim (newest xs) as (λ (o : Option FrameData). newest xs ≡ o → newer_frame x o ≡ Some i → Contains (x ∷ xs) i × ((k : FrameData) → Contains (x ∷ xs) k → rank k ≤ rank i)) [
      | None ↦ λ e g. let same : x ≡ i = cc in (
        subst (λ z. Contains (x ∷ xs) z) same (contains_here x xs),
        λ k c. elim (contains_cases x k xs c) [
          | inl s ↦ omega (arith, ap rank (sym s ∙ same))
          | inr m ↦ absurd (contains_none k (subst (λ l. Contains l k) (none_at_all xs e) m))
        ],
      )
      | Some j ↦ λ e g.
          let rest = newest_is xs j (λ a b p q. ranks a b (contains_there x a xs p) (contains_there x b xs q)) e in
          let test = ranks j x (contains_there x j xs rest.0) (contains_here x xs) in
          elim (newer_of x j i (newer j.id.local x.id.local) g) [
            | inl r ↦
                let more = ltb-true (rank x) (rank j) (sym test ∙ r.0) in
                let same = ap rank r.1 in (
                  subst (λ z. Contains (x ∷ xs) z) r.1 (contains_there x j xs rest.0),
                  λ k c. elim (contains_cases x k xs c) [
                    | inl s ↦ omega (arith, more, same, ap rank s)
                    | inr m ↦ omega (arith, rest.1 k m, same)
                  ],
                )
            | inr r ↦
                let less = ltb-false (rank x) (rank j) (sym test ∙ r.0) in
                let same = ap rank r.1 in (
                  subst (λ z. Contains (x ∷ xs) z) r.1 (contains_here x xs),
                  λ k c. elim (contains_cases x k xs c) [
                    | inl s ↦ omega (arith, same, ap rank s)
                    | inr m ↦ omega (arith, rest.1 k m, less, same)
                  ],
                )
          ]
    ] refl h

-- where a frame beats no other it is the newest with them
newest_first : (x : FrameData) (xs : List FrameData) (o : Option FrameData) → newest xs ≡ o → ((k : FrameData) → Contains xs k → newer k.id.local x.id.local ≡ false)
    → ByRank xs → newer_frame x o ≡ Some x
newest_first x xs None e none ranks = refl
newest_first x xs (Some j) e none ranks = ap (λ (t : Bool). cond t (Some j) (Some x)) (none j (newest_is xs j ranks e).0)

-- the newest stays where it is kept
newest_kept : (kept : FrameData → Bool) (xs : List FrameData) (i : FrameData) → ByRank xs → newest xs ≡ Some i → kept i ≡ true → newest (filter kept xs) ≡ Some i
newest_kept kept [] i ranks h k = absurd (cc)
newest_kept kept (x ∷ xs) i ranks h k =
    let later : ByRank xs = λ a b p q. ranks a b (contains_there x a xs p) (contains_there x b xs q) in
    let some : ByRank (filter kept xs) = λ a b p q. later a b (filter_at kept xs a p).0 (filter_at kept xs b q).0 in
    elim (newest xs) as (λ (o : Option FrameData). newest xs ≡ o → newer_frame x o ≡ Some i → newest (filter kept (x ∷ xs)) ≡ Some i) [
      | None ↦ λ e g.
          let same : x ≡ i = cc in
          let empty = none_at_all xs e in
          ap (λ l. newest (cond (kept x) (x ∷ filter kept l) (filter kept l))) empty
          ∙ (ap (λ (t : Bool). newest (cond t (x ∷ []) [])) (ap kept same ∙ k) ∙ ap (λ z. Some z) same)
      | Some j ↦ λ e g.
          let test = ranks j x (contains_there x j xs (newest_is xs j later e).0) (contains_here x xs) in
          elim (newer_of x j i (newer j.id.local x.id.local) g) [
            | inl r ↦ with_later (kept x) j r.1 (newest_kept kept xs j later e (ap kept r.1 ∙ k)) r.0
            | inr r ↦
                ap (λ (t : Bool). newest (cond t (x ∷ filter kept xs) (filter kept xs))) (ap kept r.1 ∙ k)
                ∙ (newest_first x (filter kept xs) (newest (filter kept xs)) refl (λ m c.
                let here = (filter_at kept xs m c).0 in
                ranks m x (contains_there x m xs here) (contains_here x xs)
                ∙ le_test (rank x) (rank m) (omega (arith, (newest_is xs j later e).1 m here, ltb-false (rank x) (rank j) (sym test ∙ r.0)))) some
                ∙ ap (λ z. Some z) r.1)
          ]
    ] refl h
  where
    le_test : (a b : ℕ) → b ≤ a → nat_lt a b ≡ false
    le_test a b l = le-ltb a b l

    with_later : (t : Bool) (j : FrameData) → j ≡ i → newest (filter kept xs) ≡ Some j → newer j.id.local x.id.local ≡ true
        → newest (cond t (x ∷ filter kept xs) (filter kept xs)) ≡ Some i
    with_later true j same e n =
        ap (newer_frame x) e ∙ (ap (λ (t : Bool). cond t (Some j) (Some x)) n ∙ ap (λ z. Some z) same)
    with_later false j same e n = e ∙ ap (λ z. Some z) same

-- The ranks of a client's surfaces

on_rises : (a b : LocalSurfaceId) → is_raised a b ≡ true → a.parent + a.child < b.parent + b.child
on_rises a b h =
    let on = and_parts (nat_le a.parent b.parent && nat_le a.child b.child) (nat_lt a.parent b.parent || nat_lt a.child b.child) h in
    let p = and_parts (nat_le a.parent b.parent) (nat_le a.child b.child) on.0 in
    let parents = leb-true a.parent b.parent p.0 in
    let children = leb-true a.child b.child p.1 in
    elim (or_cases (nat_lt a.parent b.parent) (nat_lt a.child b.child) on.1) [
      | inl l ↦ omega (arith, children, ltb-true a.parent b.parent l)
      | inr l ↦ omega (arith, parents, ltb-true a.child b.child l)
    ]

-- of two surfaces of one client one goes on from the other, or they are one
pub in_line : (cs : List Client) (ss : List Surface) (s t : Surface) → KeepsSurfaces cs ss → Contains ss s → Contains ss t → s.client ≡ t.client
    → (is_raised s.id.local t.id.local ≡ true) ⊎ ((is_raised t.id.local s.id.local ≡ true) ⊎ (s ≡ t))
in_line cs ss s t h p q same =
    let n = contains_at ss s p in
    let m = contains_at ss t q in
    elim (cases_order n.0 m.0) [
      | inl e ↦ inr (inr (at_same ss n.0 m.0 s t n.1 m.1 e))
      | inr r ↦ elim r [
        | inl l ↦ inl (h.go_on n.0 m.0 s t n.1 m.1 l same)
        | inr l ↦ inr (inl (h.go_on m.0 n.0 t s m.1 n.1 l (sym same)))
      ]
    ]

-- a frame on a surface that was created
abbrev pub IsOnCreated : List Surface → FrameData → Type 0
IsOnCreated ss i = (c : Surface) × Contains ss c × (c.id ≡ i.id)

newer_by_rank : (cs : List Client) (ss : List Surface) (a b : FrameData) → KeepsClients cs → KeepsSurfaces cs ss → IsOnCreated ss a → IsOnCreated ss b
    → a.id.sink ≡ b.id.sink → a.id.local.token.0 ≡ b.id.local.token.0 → newer a.id.local b.id.local ≡ nat_lt (rank b) (rank a)
newer_by_rank cs ss a b hc hs x y sink token =
    let owner = one_owner cs ss x.0 y.0 hc hs x.1 y.1 (ap (λ (i : SurfaceId). i.sink) x.2 ∙ (sink ∙ ap (λ (i : SurfaceId). i.sink) (sym y.2))) in
    same_tests (newer a.id.local b.id.local) (nat_lt (rank b) (rank a))
    (λ e. lt-ltb (rank b) (rank a) (on_rises b.id.local a.id.local (and_parts (a.id.local.token.0 == b.id.local.token.0) (is_raised b.id.local a.id.local) e).1))
    (λ e.
    let less = ltb-true (rank b) (rank a) e in
    let ranks = ap (λ (i : SurfaceId). i.local.parent + i.local.child) x.2 in
    let others = ap (λ (i : SurfaceId). i.local.parent + i.local.child) y.2 in
    and_from (a.id.local.token.0 == b.id.local.token.0) (is_raised b.id.local a.id.local) (eq-eqb a.id.local.token.0 b.id.local.token.0 token)
    (elim (in_line cs ss x.0 y.0 hs x.1 y.1 owner) [
      | inl l ↦ absurd (omega (arith, less, on_rises x.0.id.local y.0.id.local l, ranks, others))
      | inr r ↦ elim r [
        | inl l ↦ ap (λ (i : SurfaceId). is_raised i.local a.id.local) (sym y.2) ∙ (ap (λ (i : SurfaceId). is_raised y.0.id.local i.local) (sym x.2) ∙ l)
        | inr l ↦ absurd (omega (arith, less, ranks, others, ap (λ (c : Surface). c.id.local.parent + c.id.local.child) l))
      ]
    ]))

-- Groups

pub grouped : (a b : SurfaceId) → at_least a b ≡ true → (a.sink ≡ b.sink) × (a.local.token.0 ≡ b.local.token.0)
grouped a b h =
    elim (or_cases (same_surface a b) (same_sink a.sink b.sink && newer a.local b.local) h) [
      | inl e ↦ (ap (λ (i : SurfaceId). i.sink) (from_same a b e), ap (λ (i : SurfaceId). i.local.token.0) (from_same a b e))
      | inr e ↦
          let both = and_parts (same_sink a.sink b.sink) (newer a.local b.local) e in
          (from_same_sink a.sink b.sink both.0, eqb-true a.local.token.0 b.local.token.0 (and_parts (a.local.token.0 == b.local.token.0) (is_raised b.local a.local) both.1).0)
    ]

-- frames of one group stand by rank
pub group_ranks : (cs : List Client) (ss : List Surface) (id : SurfaceId) (p : FrameData → Bool) (xs : List FrameData) → KeepsClients cs → KeepsSurfaces cs ss
    → ((i : FrameData) → Contains xs i → IsOnCreated ss i) → ((i : FrameData) → p i ≡ true → (i.id.sink ≡ id.sink) × (i.id.local.token.0 ≡ id.local.token.0))
    → ByRank (filter p xs)
group_ranks cs ss id p xs hc hs made grouped a b c d =
    let x = filter_at p xs a c in
    let y = filter_at p xs b d in
    let u = grouped a x.1 in
    let v = grouped b y.1 in
    newer_by_rank cs ss a b hc hs (made a x.0) (made b y.0) (u.0 ∙ sym v.0) (u.1 ∙ sym v.1)

pub in_group : (range : SurfaceRange) (i : FrameData) → in_range range i ≡ true → (i.id.sink ≡ range.end.sink) × (i.id.local.token.0 ≡ range.end.local.token.0)
in_group range i h =
    let g = grouped range.end i.id (and_parts (at_least range.end i.id) (from_start range.start range.end i) h).0 in
    (sym g.0, sym g.1)

-- What is shown

twice_by : {A : Type 0} (x : A) (p q : A → Bool) (ps qs : List A) (a b : Bool) → p x ≡ a → q x ≡ b → filter p qs ≡ filter q ps
    → filter p (cond b (x ∷ qs) qs) ≡ filter q (cond a (x ∷ ps) ps)
twice_by x p q ps qs true true e f h =
    ap (λ (t : Bool). cond t (x ∷ filter p qs) (filter p qs)) e ∙ (ap (λ l. x ∷ l) h ∙ sym (ap (λ (t : Bool). cond t (x ∷ filter q ps) (filter q ps)) f))
twice_by x p q ps qs true false e f h = h ∙ sym (ap (λ (t : Bool). cond t (x ∷ filter q ps) (filter q ps)) f)
twice_by x p q ps qs false true e f h = ap (λ (t : Bool). cond t (x ∷ filter p qs) (filter p qs)) e ∙ h
twice_by x p q ps qs false false e f h = h

filter_twice : {A : Type 0} (p q : A → Bool) (xs : List A) → filter p (filter q xs) ≡ filter q (filter p xs)
filter_twice p q [] = refl
filter_twice p q (x ∷ xs) = twice_by x p q (filter p xs) (filter q xs) (p x) (q x) refl refl (filter_twice p q xs)

-- of a group the newest stays where it is kept
kept_in : (p kept : FrameData → Bool) (xs : List FrameData) (o : Option FrameData) → ByRank (filter p xs) → newest (filter p xs) ≡ o
    → ((i : FrameData) → o ≡ Some i → kept i ≡ true)
    → newest (filter p (filter kept xs)) ≡ o
kept_in p kept xs None ranks e k = ap newest (filter_twice p kept xs ∙ ap (filter kept) (none_at_all (filter p xs) e))
kept_in p kept xs (Some i) ranks e k = ap newest (filter_twice p kept xs) ∙ newest_kept kept (filter p xs) i ranks e (k i refl)

starts_by : (cs : List Client) (ss : List Surface) (start : Option SurfaceId) (end : SurfaceId) (kept : FrameData → Bool) (xs : List FrameData) (o : Option FrameData)
    → KeepsClients cs → KeepsSurfaces cs ss
    → ((i : FrameData) → Contains xs i → IsOnCreated ss i) → newest (filter (after_start start end) xs) ≡ o → ((i : FrameData) → o ≡ Some i → kept i ≡ true)
    → newest (filter (after_start start end) (filter kept xs)) ≡ o
starts_by cs ss None end kept xs o hc hs made e k = ap newest (nothing (filter kept xs)) ∙ (ap newest (sym (nothing xs)) ∙ e)
  where
    nothing : (ys : List FrameData) → filter (after_start None end) ys ≡ []
    nothing [] = refl
    nothing (y ∷ ys) = nothing ys
starts_by cs ss (Some start) end kept xs o hc hs made e k =
    kept_in (after_start (Some start) end) kept xs o
    (group_ranks cs ss start (after_start (Some start) end) xs hc hs made (λ i h. grouped i.id start (and_parts (not (same_group start end)) (at_least i.id start) h).1)) e k

either_kept : (kept : FrameData → Bool) (a b c d : Option FrameData) → (((i : FrameData) → a ≡ Some i → kept i ≡ true) → c ≡ a)
    → (((i : FrameData) → b ≡ Some i → kept i ≡ true) → d ≡ b)
    → ((i : FrameData) → or_else a b ≡ Some i → kept i ≡ true) → or_else c d ≡ or_else a b
either_kept kept None b c d f g k = ap (λ o. or_else o d) (f (λ i e. absurd (cc))) ∙ g k
either_kept kept (Some a) b c d f g k = ap (λ o. or_else o d) (f k)

-- what a range shows stays where it is kept
pub shown_kept : (cs : List Client) (ss : List Surface) (range : SurfaceRange) (kept : FrameData → Bool) (xs : List FrameData) → KeepsClients cs → KeepsSurfaces cs ss
    → ((i : FrameData) → Contains xs i → IsOnCreated ss i) → ((i : FrameData) → shown_frame xs range ≡ Some i → kept i ≡ true)
    → shown_frame (filter kept xs) range ≡ shown_frame xs range
unfolding shown_frame
shown_kept cs ss range kept xs hc hs made k =
    either_kept kept (newest (filter (in_range range) xs)) (newest (filter (after_start range.start range.end) xs)) _ _
    (kept_in (in_range range) kept xs (newest (filter (in_range range) xs)) (group_ranks cs ss range.end (in_range range) xs hc hs made (in_group range)) refl)
    (starts_by cs ss range.start range.end kept xs (newest (filter (after_start range.start range.end) xs)) hc hs made refl) k
