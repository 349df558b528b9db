-- What a player or a tester has taken, event by event.
use Rattle.std.proofs.Common.{◌≡◌, ℕ, suc, ◌+◌, ◌<◌, false, List, [], ◌∷◌, ◌++◌, length, take, get_or, refl, sym, ap, subst, ◌∙◌, inl, inr, append_assoc, arith}
use Rattle.std.proofs.{Math.Seq.take-suc, lemmas.List.map-append}
use Rattle.vz_display.specs.Displayed.{upto_most, display_at, display_after}
use Rattle.vz_player.specs.Played.{Played, first_played, played_on, next_entry, painted_by, display_of, StopsAt}
use Rattle.vz_rules.specs.{Plan.Plan, declared.entry.Entry.Entry, Frames.painted, Frames.painted_of, Frames.drawn_frames, Frames.drawn_frames_from}
use Rattle.vz_rules.specs.{declared.entry.Event.Event, Step.entry_in, Step.world}
use Rattle.vz_player.specs.Tested.{Tested, tested_on}
use Rattle.viz_run.specs.{Ends.events_in, Taken.HasTaken, Taken.HasTested}

-- the event of an entry is that for which it was made
event_of_next : (q : Played) (e : Event) → (next_entry q e).event ≡ e
unfolding entry_in
event_of_next q e = refl

-- the first events with one more
front_more : (es : List Event) (i : ℕ) (d : Event) → i < length es → take (i + 1) es ≡ take i es ++ get_or es i d ∷ []
front_more es i d in_range = ap (λ (n : ℕ). take n es) (the_next i) ∙ take-suc es i d in_range
  where
    the_next : (n : ℕ) → n + 1 ≡ suc n
    the_next n = omega arith

module _ (es : List Event) (i : ℕ) (d : Event) (p q r : Played) (in_range : i < length es) (before : HasTaken (take i es) p q) where
  entry_more :
      r.plan ≡ q.plan → r.buffers ≡ q.buffers → r.history ≡ q.history ++ next_entry q (get_or es i d) ∷ [] → HasTaken (take (i + 1) es) p r
  entry_more plan buffers history =
      let e : Event = get_or es i d in
      record {
        plan = plan ∙ before.plan;
        buffers = buffers ∙ before.buffers;
        history = ap events_in history ∙ map-append (λ (x : Entry). x.event) q.history (next_entry q e ∷ [])
            ∙ ap (λ (x : Event). events_in q.history ++ x ∷ []) (event_of_next q e)
            ∙ ap (λ (xs : List Event). xs ++ e ∷ []) before.history
            ∙ append_assoc (events_in p.history) (take i es) (e ∷ [])
            ∙ ap (λ (xs : List Event). events_in p.history ++ xs) (sym (front_more es i d in_range));
      }

  -- one more was taken
  pub one_taken : r ≡ played_on q (get_or es i d) → HasTaken (take (i + 1) es) p r
  unfolding played_on
  one_taken is = entry_more (ap (λ (x : Played). x.plan) is) (ap (λ (x : Played). x.buffers) is) (ap (λ (x : Played). x.history) is)

  -- and nothing stopped the player
  pub goes_on : r ≡ played_on q (get_or es i d) → q.stopped ≡ false → r.stopped ≡ false
  unfolding played_on
  goes_on is going = ap (λ (x : Played). x.stopped) is ∙ going

  -- or want of memory came
  pub stopped_at : StopsAt q (get_or es i d) r → (n : ℕ) × HasTaken (take n es) p r
  unfolding StopsAt played_on
  stopped_at (inl same) = (i, subst (HasTaken (take i es) p) (sym same) before)
  stopped_at (inr is) =
      (i + 1, entry_more (ap (λ (x : Played). x.plan) is) (ap (λ (x : Played). x.buffers) is) (ap (λ (x : Played). x.history) is))

-- a tester took one more
pub one_tested :
    (es : List Event) (i : ℕ) (d : Event) (p q r : Tested) → i < length es → HasTested (take i es) p q → r ≡ tested_on q (get_or es i d)
    → HasTested (take (i + 1) es) p r
unfolding tested_on entry_in
one_tested es i d p q r in_range before is =
    let e : Event = get_or es i d in
    let next : Entry = entry_in q.plan (world q.plan q.history) e in
    record {
      plan = ap (λ (x : Tested). x.plan) is ∙ before.plan;
      point = ap (λ (x : Tested). x.point) is ∙ before.point;
      history = ap (λ (x : Tested). events_in x.history) is ∙ map-append (λ (x : Entry). x.event) q.history (next ∷ [])
          ∙ ap (λ (xs : List Event). xs ++ e ∷ []) before.history
          ∙ append_assoc (events_in p.history) (take i es) (e ∷ [])
          ∙ ap (λ (xs : List Event). events_in p.history ++ xs) (sym (front_more es i d in_range));
    }

-- the display says how many points were painted for what it shows
shown_points : (q : Played) → (display_of q).painted ≡ upto_most (painted_by q)
unfolding display_at display_after painted
shown_points q = refl

none_painted : (p : Plan) (count : ℕ) → painted_by (first_played p count) ≡ 0
unfolding painted painted_of drawn_frames drawn_frames_from
none_painted p count = refl

module _ (p : Plan) (count : ℕ) (es : List Event) (old new : Played) (h : List Entry)
    (first : old ≡ first_played p count) (taken : HasTaken es old new) (is : h ≡ new.history) where
  same_points : painted_by new ≡ painted p h count
  same_points =
      ap (λ (x : Plan). painted x new.history new.buffers) (taken.plan ∙ ap (λ (x : Played). x.plan) first)
      ∙ ap (λ (n : ℕ). painted p new.history n) (taken.buffers ∙ ap (λ (x : Played). x.buffers) first)
      ∙ ap (λ (xs : List Entry). painted p xs count) (sym is)

  -- the display says how many points were painted
  pub points_shown : (n : ℕ) → n ≡ (display_of new).painted → n ≡ upto_most (painted p h count)
  points_shown n says = says ∙ shown_points new ∙ ap upto_most same_points

  -- each of them was counted
  pub points_counted : (s t : ℕ) → t + painted_by old ≡ s + painted_by new → t ≡ s + painted p h count
  points_counted s t counted =
      let none : painted_by old ≡ 0 = ap painted_by first ∙ none_painted p count in
      omega (arith, counted, none, same_points)
