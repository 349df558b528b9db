-- What a player that was given events leaves: its history, and the frames of that history.
use Rattle.std.proofs.Common.{◌≡◌, ℕ, List, [], ◌++◌, length, take, sym, ap, subst, ◌∙◌, inl, inr, arith}
use Rattle.vz_outside.specs.Shelved.{Shelved, Name, Appends, AppendsFront}
use Rattle.vz_player.specs.{Taken.played_all, Taken.StopsAmong, Taken.AddsFrames, Taken.AddsFramesFront, Played.Played, Played.first_played}
use Rattle.vz_player.proofs.{Growing.frames_then_frames, Growing.no_frames, Outs.whole_front, Taking.events_all, Taking.plan_all, Taking.buffers_all}
use Rattle.vz_pixels.specs.Colour.{Colour}
use Rattle.vz_rules.specs.{Frames.written, Frames.frames_bytes, declared.entry.Event.Event, declared.entry.Entry.Entry, declared.entry.Rest.Rest}
use Rattle.vz_rules.specs.{Log.rest_of, Plan.Plan, Step.Legal}
use Rattle.viz_run.specs.{Ends.IsHistory, Ends.events_in, Taken.HasTaken}

-- a player that has taken some events
pub has_played : (old new : Played) (es : List Event) → new ≡ played_all old es → HasTaken es old new
has_played old new es is = record {
  plan = ap (λ (x : Played). x.plan) is ∙ plan_all old es;
  buffers = ap (λ (x : Played). x.buffers) is ∙ buffers_all old es;
  history = ap (λ (x : Played). events_in x.history) is ∙ events_all old es;
}

-- one that stopped has taken the first of them
pub has_stopped : (old new : Played) (es : List Event) → StopsAmong old es new → (n : ℕ) × HasTaken (take n es) old new
has_stopped old new es (n, few, inl is) = (n, has_played old new (take n es) is)
has_stopped old new es (n, few, inr is) = (
  n,
  record {
    plan = ap (λ (x : Played). x.plan) is ∙ plan_all old (take n es);
    buffers = ap (λ (x : Played). x.buffers) is ∙ buffers_all old (take n es);
    history = ap (λ (x : Played). events_in x.history) is ∙ events_all old (take n es);
  },
)

module _ (p : Plan) (count : ℕ) (es : List Event) (old new : Played) (h : List Entry)
    (first : old ≡ first_played p count) (taken : HasTaken es old new) (is : h ≡ new.history) where
  same_plan : new.plan ≡ p
  same_plan = taken.plan ∙ ap (λ (x : Played). x.plan) first

  same_buffers : new.buffers ≡ count
  same_buffers = taken.buffers ∙ ap (λ (x : Played). x.buffers) first

  -- its history is one of these events
  pub is_history : Legal new.plan new.history → IsHistory p es h
  is_history legal = record {
    legal = subst (λ (x : Plan). Legal x h) same_plan (subst (Legal new.plan) (sym is) legal);
    all = ap events_in is ∙ (taken.history ∙ ap (λ (x : Played). events_in x.history ++ es) first);
  }

  -- what is out behind it
  pub rest_is : (rest : Rest) → rest ≡ rest_of new.plan new.history → rest ≡ rest_of p h
  rest_is rest says = says ∙ (ap (λ (x : Plan). rest_of x new.history) same_plan ∙ ap (rest_of p) (sym is))

  same_frames : written new.plan new.history new.buffers ≡ written p h count
  same_frames =
      ap (λ (x : Plan). written x new.history new.buffers) same_plan
      ∙ (ap (λ (n : ℕ). written p new.history n) same_buffers ∙ ap (λ (xs : List Entry). written p xs count) (sym is))

  -- the frames that it added are those of the history
  added_frames :
      (more : List (List Colour)) → written new.plan new.history new.buffers ≡ written old.plan old.history old.buffers ++ more →
      frames_bytes more ≡ frames_bytes (written p h count)
  added_frames more grows =
      let none : frames_bytes (written old.plan old.history old.buffers) ≡ [] =
      ap (λ (x : Played). frames_bytes (written x.plan x.history x.buffers)) first ∙ no_frames p count in
      sym (ap (λ (l : List ℕ). l ++ frames_bytes more) none)
      ∙ (sym (frames_then_frames (written old.plan old.history old.buffers) more)
      ∙ (sym (ap frames_bytes grows) ∙ ap frames_bytes same_frames))

  pub frames_appended : (name : Name) (a b : Shelved) → AddsFrames old new name a b → Appends (frames_bytes (written p h count)) name a b
  frames_appended name a b adds = subst (λ (l : List ℕ). Appends l name a b) (added_frames adds.0 adds.1) adds.2

  pub frames_begun : (name : Name) (a b : Shelved) → AddsFramesFront old new name a b → AppendsFront (frames_bytes (written p h count)) name a b
  frames_begun name a b adds = subst (λ (l : List ℕ). AppendsFront l name a b) (added_frames adds.0 adds.1) adds.2

-- what was written whole was begun
pub whole_appended : (all : List ℕ) (name : Name) (a b : Shelved) → Appends all name a b → AppendsFront all name a b
whole_appended all name a b added told =
    (length all, omega arith, subst (λ (l : List ℕ). Appends l name a b) (whole_front all) added told)
