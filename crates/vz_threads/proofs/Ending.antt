-- That a history with the display's tail behind it is one of a run.
use Rattle.std.proofs.Common.{◌≡◌, ℕ, zero, suc, ◌+◌, ◌<◌, ◌≤◌, ◌⊎◌, not, Bool, true, false, inl, inr, Some, List, [], ◌∷◌, ◌++◌, length, take, filter, refl, sym, ap, subst, ◌∙◌, arith, slice_get, Contains}
use Rattle.std.specs.{Prelude.IsTrue, Prelude.IsFalse, Prelude.count_by, List.list_all}
use Rattle.std.proofs.{Math.Seq.take-append-add, lemmas.List.Elements.filter-append, lemmas.List.Folds.list_all-append, lemmas.Bool.Decides.nat_tests}
use Rattle.std.proofs.{lemmas.Bool.and_parts, lemmas.Bool.and_from, lemmas.List.length-append, lemmas.List.take_all, lemmas.List.take-append-le}
use Rattle.vz_rules.specs.{Plan.Plan, Step.world}
use Rattle.vz_rules.specs.{declared.entry.Event.Event, declared.entry.Entry.Entry, Whole.is_of, Whole.mine, Whole.is_in_time, Accounts.takes}
use Rattle.vz_rules.specs.declared.entry.Event.TheVariants as event
use Rattle.vz_rules.specs.Course.{is_of_client, is_begin, is_draw, is_calm, displayed, IsShow, AreRounds, AreBegins, IsCourse, StandsAt, some_waits, EndsAfterOver, IsPaced}
use Rattle.vz_rules.proofs.Members.{at_contains, at_within, contains_cases, contains_none, append_contains, filter_has, filter_none, none_filtered, all_at}
use Rattle.vz_threads.specs.Tails.{IsTail}
use Rattle.vz_threads.proofs.Places.{at_append, filter_all, EndsFiltered, ends_filtered}
use Rattle.std.proofs.lemmas.Grind.{common_steps}

-- The display's entries

-- an entry is the display's
abbrev pub is_shown : Entry → Bool
is_shown e = not (is_of_client e.event)

-- these entries are all the display's
abbrev pub AreShown : List Entry → Type 0
AreShown es = IsTrue (list_all is_shown es)

begin_by : (v : Event) → (elim v [ event.Begin ↦ true | _ ↦ false ]) ≡ true → v ≡ event.Begin
begin_by v is = grind (arith, nat_tests)

-- an entry of Begin
begin_event : (e : Entry) → is_begin e ≡ true → e.event ≡ event.Begin
begin_event e is = begin_by e.event is

shown_as : (e : Entry) (v : Event) → not (is_of_client v) ≡ true → e.event ≡ v → is_shown e ≡ true
shown_as e v is same = ap (λ u. not (is_of_client u)) same ∙ is

pub begins_shown : (es : List Entry) → AreBegins es → AreShown es
begins_shown [] all = refl
begins_shown (e ∷ es) all = grind (arith, nat_tests, and_parts (is_begin e) (list_all is_begin es) all, and_from (is_shown e) (list_all is_shown es), shown_as e, begin_event e, begins_shown es)

pub show_shown : (es : List Entry) → IsShow es → AreShown es
show_shown [] is = absurd is
show_shown (d ∷ []) is = and_from (is_shown d) true (shown_as d event.Draw refl is.0) refl
show_shown (d ∷ e ∷ []) is = grind (arith, nat_tests, and_from (is_shown d) (list_all is_shown (e ∷ [])), shown_as d, and_from (is_shown e) true, shown_as e)
show_shown (d ∷ e ∷ f ∷ es) is = absurd is

pub tail_shown : (begins last : List Entry) → AreBegins begins → IsShow last → AreShown (begins ++ last)
tail_shown begins last first then = grind (arith, nat_tests, list_all-append, and_from, begins_shown, show_shown)

-- the display's entries leave those of a client
pub mine_stay : (h tail : List Entry) (c : ℕ) → AreShown tail → mine (h ++ tail) c ≡ mine h c
unfolding mine
mine_stay h tail c shown = grind (arith, nat_tests, common_steps, filter-append (is_of c) h tail, filter_none (is_of c) tail, all_at is_shown tail)

pub takes_stay : (h tail : List Entry) (c : ℕ) → AreShown tail → takes (h ++ tail) c ≡ takes h c
unfolding takes
takes_stay h tail c shown = ap (filter (λ (e : Entry). is_in_time e.reply)) (mine_stay h tail c shown)

-- the course of the whole
pub course_is : (rounds : ℕ) (h begins last first : List Entry) (over : Entry) → AreBegins begins → IsShow last → displayed h ≡ first ++ over ∷ [] → AreRounds rounds first → over.event ≡ event.Over
    → IsCourse rounds (displayed (h ++ (begins ++ last)))
unfolding displayed
course_is rounds h begins last first over begun shown all rounded ended = grind (arith, nat_tests, common_steps, filter-append is_shown h, filter_all is_shown, tail_shown begins last begun shown)

-- What stands behind Over

show_no_over : (es : List Entry) (x : Entry) → IsShow es → Contains es x → x.event ≡ event.Over → ⊥
show_no_over [] x is there ends = absurd is
show_no_over (d ∷ []) x is there ends =
    elim (contains_cases d x [] there) [
      | inl same ↦ (let e : event.Draw ≡ event.Over = sym is.0 ∙ (ap (λ (y : Entry). y.event) same ∙ ends) in cc)
      | inr rest ↦ contains_none x rest
    ]
show_no_over (d ∷ f ∷ []) x is there ends =
    elim (contains_cases d x (f ∷ []) there) [
      | inl same ↦ (let e : event.Draw ≡ event.Over = sym is.0 ∙ (ap (λ (y : Entry). y.event) same ∙ ends) in cc)
      | inr rest ↦ elim (contains_cases f x [] rest) [
        | inl same ↦ (let e : event.Done ≡ event.Over = sym is.2 ∙ (ap (λ (y : Entry). y.event) same ∙ ends) in cc)
        | inr none ↦ contains_none x none
      ]
    ]
show_no_over (d ∷ f ∷ g ∷ es) x is there ends = absurd is

-- rounds have no end
rounds_no_over : (n : ℕ) (es : List Entry) (x : Entry) → AreRounds n es → Contains es x → x.event ≡ event.Over → ⊥
rounds_no_over zero es x is there ends = contains_none x (subst (λ (l : List Entry). Contains l x) is there)
rounds_no_over (suc n) es x is there ends =
    elim (contains_cases is.0 x (is.1 ++ is.2) (subst (λ (l : List Entry). Contains l x) is.3 there)) [
      | inl same ↦ (let e : event.Begin ≡ event.Over = sym is.4 ∙ (ap (λ (y : Entry). y.event) same ∙ ends) in cc)
      | inr more ↦ elim (append_contains is.1 is.2 x more) [
        | inl show ↦ show_no_over is.1 x is.5 show ends
        | inr rest ↦ rounds_no_over n is.2 x is.6 rest ends
      ]
    ]

module _ (h tail : List Entry) (rounds : ℕ) (first : List Entry) (over : Entry) (rounded : AreRounds rounds first) (e : EndsFiltered is_shown h first over) where
  length_front : length h ≡ length e.before + (1 + length e.behind)
  length_front = ap length e.stands ∙ (length-append e.before (over ∷ e.behind) ∙ omega arith)

  -- Over stands no earlier than where the rounds are at their end
  over_late : (o : ℕ) → StandsAt (h ++ tail) o event.Over → length e.before ≤ o
  over_late o at =
      elim (at_append h tail o at.0 at.1) [
        | inr far ↦ omega (arith, far.1, length_front)
        | inl near ↦ elim (at_append e.before (over ∷ e.behind) o at.0 (ap (λ l. slice_get l o) (sym e.stands) ∙ near)) [
          | inr there ↦ omega (arith, there.1)
          | inl early ↦ absurd (rounds_no_over rounds first at.0 rounded
              (subst (λ (l : List Entry). Contains l at.0) e.earlier (filter_has is_shown e.before at.0 (at_contains e.before o at.0 early) (shown_as at.0 event.Over refl at.2))) at.2)
        ]
      ]

  behind_by : (k : ℕ) (x : Entry) → 0 < k → slice_get (over ∷ e.behind) k ≡ Some x → is_shown x ≡ true → ⊥
  behind_by zero x some at shown = omega (arith, some)
  behind_by (suc k) x some at shown =
      let none : is_shown x ≡ false = none_filtered is_shown e.behind x e.none (at_contains e.behind k x at) in
      let w : true ≡ false = sym shown ∙ none in cc

  -- an entry of the display behind Over stands in the tail
  in_tail : (o n : ℕ) (x : Entry) → StandsAt (h ++ tail) o event.Over → o < n → slice_get (h ++ tail) n ≡ Some x → is_shown x ≡ true
      → (k : ℕ) × (n ≡ length h + k) × (slice_get tail k ≡ Some x)
  in_tail o n x ends later at shown =
      let late : length e.before ≤ o = over_late o ends in
      elim (at_append h tail n x at) [
        | inr far ↦ far
        | inl near ↦ elim (at_append e.before (over ∷ e.behind) n x (ap (λ l. slice_get l n) (sym e.stands) ∙ near)) [
          | inl early ↦ absurd (omega (arith, late, later, at_within e.before n x early))
          | inr there ↦ absurd (behind_by there.0 x (omega (arith, late, later, there.1)) there.2 shown)
        ]
      ]

  -- and none of a client stands behind it
  tail_alone : (n m c : ℕ) → AreShown tail → length h ≤ n → n < m → StandsAt (h ++ tail) m (event.Client c) → ⊥
  tail_alone n m c shown from later at =
      elim (at_append h tail m at.0 at.1) [
        | inl near ↦ omega (arith, from, later, at_within h m at.0 near)
        | inr far ↦ (let own : is_shown at.0 ≡ true = all_at is_shown tail at.0 shown (at_contains tail far.0 at.0 far.2) in
            let w : false ≡ true = sym (ap (λ v. not (is_of_client v)) at.2) ∙ own in cc)
      ]

show_at : (last : List Entry) (j : ℕ) (x : Entry) → IsShow last → slice_get last j ≡ Some x → ((j ≡ 0) × (x.event ≡ event.Draw)) ⊎ (x.event ≡ event.Done)
show_at last j x is at = grind (arith, nat_tests)

-- what stands before a place of the tail
before_tail : (h begins last : List Entry) (n k : ℕ) → n ≡ length h + k → k ≤ length begins → take n (h ++ (begins ++ last)) ≡ h ++ take k begins
before_tail h begins last n k at within = grind (arith, nat_tests, take-append-add h, take-append-le k begins last within)

module _ (p : Plan) (h begins last : List Entry) (tail : IsTail p h begins last) where
  -- a Begin of the tail comes where some submission waits
  begin_waits : (n k : ℕ) (x : Entry) → n ≡ length h + k → slice_get (begins ++ last) k ≡ Some x → x.event ≡ event.Begin → IsTrue (some_waits (world p (take n (h ++ (begins ++ last)))))
  begin_waits n k x at there is = grind (arith, nat_tests, at_append begins last k x there, at_within begins k x, before_tail h begins last n k at, show_at last)

  -- the drawing of the tail comes where none does
  draw_waits_not : (n k : ℕ) (x : Entry) → n ≡ length h + k → slice_get (begins ++ last) k ≡ Some x → x.event ≡ event.Draw → IsFalse (some_waits (world p (take n (h ++ (begins ++ last)))))
  draw_waits_not n k x at there is =
      elim (at_append begins last k x there) [
        | inl here ↦ absurd (let e : event.Begin ≡ event.Draw = sym (begin_event x (all_at is_begin begins x tail.begun.are_begins (at_contains begins k x here))) ∙ is in cc)
        | inr far ↦ elim (show_at last far.0 x tail.is_show far.2) [
          | inl draw ↦ (let whole : k ≡ length begins = omega (arith, far.1, draw.0) in
              ap (λ l. some_waits (world p l)) (before_tail h begins last n k at (omega (arith, whole)) ∙ ap (λ l. h ++ l) (take_all k begins (omega (arith, whole)))) ∙ tail.none_waits)
          | inr done ↦ absurd (let e : event.Draw ≡ event.Done = sym is ∙ done in cc)
        ]
      ]

-- what is asked of the history behind Over
pub ends_after_over : (p : Plan) (rounds : ℕ) (h begins last first : List Entry) (over : Entry) → IsTail p h begins last → displayed h ≡ first ++ over ∷ [] → AreRounds rounds first
    → EndsAfterOver p (h ++ (begins ++ last))
unfolding displayed
ends_after_over p rounds h begins last first over tail all rounded =
    let e : EndsFiltered is_shown h first over = ends_filtered is_shown h first over all in
    let there = in_tail h (begins ++ last) rounds first over rounded e in
    record {
      begins = λ o n ends later at.
          let r = there o n at.0 ends later at.1 (shown_as at.0 event.Begin refl at.2) in
          begin_waits p h begins last tail n r.0 at.0 r.1 r.2 at.2;
      draws = λ o n ends later at.
          let r = there o n at.0 ends later at.1 (shown_as at.0 event.Draw refl at.2) in
          draw_waits_not p h begins last tail n r.0 at.0 r.1 r.2 at.2;
      alone = λ o n m c ends later which more at.
          tail_alone h (begins ++ last) rounds first over rounded e n m c (tail_shown begins last tail.begun.are_begins tail.is_show)
          (elim which [
            | inl begin ↦ (let r = there o n begin.0 ends later begin.1 (shown_as begin.0 event.Begin refl begin.2) in omega (arith, r.1))
            | inr draw ↦ (let r = there o n draw.0 ends later draw.1 (shown_as draw.0 event.Draw refl draw.2) in omega (arith, r.1))
          ]) more at;
    }

-- a paced front stays paced
pub paced_on : (p : Plan) (h tail : List Entry) (rounds : ℕ) → IsPaced p h rounds → IsPaced p (h ++ tail) rounds
paced_on p h tail rounds paced t here =
    let r = paced t here in
    let same : take r.0 (h ++ tail) ≡ take r.0 h = take-append-le r.0 h tail r.1 in (
      r.0,
      omega (arith, r.1, length-append h tail),
      ap (count_by is_begin) same ∙ r.2,
      ap (count_by is_draw) same ∙ r.3,
      ap (λ l. is_calm p (world p l)) same ∙ r.4,
    )
