-- The drawings of a history, shown and written, as the history goes on.
use Rattle.std.proofs.Common.{◌≡◌, ℕ, ◌+◌, List, [], ◌∷◌, ◌++◌, refl, ap, sym, ◌∙◌, subst, append-nil, arith, Some, Result, Ok}
use Rattle.vz_geom.specs.Rectangle.{Rectangle}
use Rattle.vz_buffers.proofs.Turning.{turns_size}
use Rattle.vz_outside.specs.Shelved.{Name, KeepsOthers, Appends, AppendsFront, Behaves}
use Rattle.vz_outside.specs.declared.shelf.ShelfError.{ShelfError}
use Rattle.vz_outside.proofs.{Calls.ran_one, Behaving.then_behaves}
use Rattle.vz_rules.specs.{World.Scene, Scene.scene_of, declared.entry.Entry.Entry, declared.entry.Reply.Reply, Step.Legal, Step.world}
use Rattle.vz_rules.specs.{declared.entry.Reply.TheVariants.Drawn, Frames.drawn_frame_of, Frames.written, Frames.painted, Frames.frames_bytes}
use Rattle.vz_machine.specs.{Pictured.Pictured, Stepping.ShowsDrawn}
use Rattle.vz_display.specs.Displayed.{Displayed, display_at, display_after, shown, steps_for, IsNext}
use Rattle.vz_display.proofs.Histories.{drawn_is, written_is, steps_is, other_is}
use Rattle.vz_player.proofs.{Frames.last_whole, Growing.frames_then_frames, Growing.one_frame, Taking.shows_written, Taking.frame_is}
use Rattle.vz_player.proofs.Adding.{HasAdded, none_added, more_added, front_added, still_open}
use Rattle.vz_threads.specs.{Courses.frames_of, Rounds.Setup, Rounds.MayBegin, Rounds.AreShown}
use Rattle.vz_threads.specs.Outlets.{Outlook, Fixed, file_of, frame_bytes, MayShow, Shows, BeginsFrame}
use Rattle.vz_threads.proofs.{Going.Amid, Quiet.written_goes_on, Quiet.painted_goes_on, Quiet.display_goes_on}
use Rattle.std.proofs.{lemmas.Bool.Decides.nat_tests, lemmas.Grind.common_steps}

module _ (k : Setup) (start : Outlook) where
  -- shown as much, a history may be another one that draws the same
  pub shown_same : (now : Outlook) (h g : List Entry) → display_at k.plan g k.buffers ≡ display_at k.plan h k.buffers → written k.plan g k.buffers ≡ written k.plan h k.buffers → painted k.plan g k.buffers ≡ painted k.plan h k.buffers
      → AreShown k start now h → AreShown k start now g
  shown_same now h g display frames steps are = grind (arith, nat_tests)

  -- clients' entries draw nothing
  pub shown_amid : (now : Outlook) (h before : List Entry) → Legal k.plan before → Amid h before → AreShown k start now h → AreShown k start now before
  shown_amid now h before legal between are = grind (arith, nat_tests, shown_same, display_goes_on, written_goes_on, painted_goes_on)

  -- nor does an entry that is not Drawn
  pub shown_other : (now : Outlook) (h : List Entry) (e : Entry) → drawn_frame_of (scene_of (world k.plan h)) e.reply ≡ [] → AreShown k start now h → AreShown k start now (h ++ e ∷ [])
  shown_other now h e none are = grind (arith, nat_tests, other_is k.plan h e k.buffers none, shown_same now h)

  -- the frames stay as clients' entries come, and by an entry that is not Drawn
  pub frames_amid : (h before : List Entry) → Legal k.plan before → Amid h before → frames_of k.plan before k.buffers ≡ frames_of k.plan h k.buffers
  frames_amid h before legal between = grind (arith, nat_tests, written_goes_on k.plan h between.more k.buffers (subst (Legal k.plan) between.all legal) between.clients)

  pub frames_other : (h : List Entry) (e : Entry) → drawn_frame_of (scene_of (world k.plan h)) e.reply ≡ [] → frames_of k.plan (h ++ e ∷ []) k.buffers ≡ frames_of k.plan h k.buffers
  frames_other h e none = ap frames_bytes (other_is k.plan h e k.buffers none).1

  -- what was added to the file
  added : (now : Outlook) (h : List Entry) → MayBegin k start → AreShown k start now h → HasAdded (frames_of k.plan h k.buffers) start.fixed.slot start.shelf now.shelf
  added now h begins are = record { opened = begins.opened; ran = ran_one tt start.shelf now.shelf are.behaves; appended = are.written; others = are.others }

  -- the name of the file stays
  named : (now : Outlook) (h : List Entry) → AreShown k start now h → file_of now ≡ now.shelf.name start.fixed.slot
  named now h are = ap (λ (f : Fixed). now.shelf.name f.slot) are.fixed

  -- a picture of a drawing, before it is shown
  pub record Pictures (now : Outlook) (h : List Entry) (e : Entry) (x : Pictured) : Type 0 where
    pub damage : Rectangle
    pub drawn : e.reply ≡ Drawn damage
    pub scene : Scene
    pub seen : scene_of (world k.plan h) ≡ Some scene
    pub shows : ShowsDrawn (record { plan = k.plan; world = world k.plan h }) (Drawn damage) (Some x)
    pub next : IsNext k.plan h e k.buffers
    pub display : shown now.display x ≡ display_at k.plan (h ++ e ∷ []) k.buffers

  pictures_by : (now : Outlook) (h : List Entry) (e : Entry) (x : Pictured) (r : Reply) → MayBegin k start → AreShown k start now h → e.reply ≡ r → ShowsDrawn (record { plan = k.plan; world = world k.plan h }) r (Some x) → Pictures now h e x
  pictures_by now h e x r begins are is shows = grind (arith, nat_tests, written_is, drawn_is)

  pub pictures : (now : Outlook) (h : List Entry) (e : Entry) (x : Pictured) → MayBegin k start → AreShown k start now h → ShowsDrawn (record { plan = k.plan; world = world k.plan h }) e.reply (Some x) → Pictures now h e x
  pictures now h e x begins are shows = pictures_by now h e x e.reply begins are refl shows

  -- the outlet may show it
  pub may_show : (now : Outlook) (h : List Entry) (e : Entry) (x : Pictured) → MayBegin k start → AreShown k start now h → Pictures now h e x → MayShow now x
  unfolding display_at display_after
  may_show now h e x begins are p = grind (arith, nat_tests, turns_size, shows_written, last_whole, still_open, added)

  -- the bytes of the frame
  next_bytes : (now : Outlook) (h : List Entry) (e : Entry) (x : Pictured) → Pictures now h e x → frames_of k.plan (h ++ e ∷ []) k.buffers ≡ frames_of k.plan h k.buffers ++ frame_bytes (shown now.display x)
  next_bytes now h e x p = grind (arith, nat_tests, frames_then_frames, one_frame, frame_is)

  -- it was shown
  pub shown_next : (now new : Outlook) (h : List Entry) (e : Entry) (x : Pictured) → MayBegin k start → AreShown k start now h → Pictures now h e x → new.fixed ≡ now.fixed → Shows x now new
      → KeepsOthers (file_of now) now.shelf new.shelf → Behaves {T = Unit {0}} now.shelf new.shelf (Ok tt) → AreShown k start new (h ++ e ∷ [])
  shown_next now new h e x begins are p same shows others behaves =
      let ran = ran_one tt now.shelf new.shelf behaves in
      let more = more_added start.fixed.slot (frames_of k.plan h k.buffers) start.shelf now.shelf new.shelf (added now h begins are) (frame_bytes (shown now.display x)) (frames_of k.plan (h ++ e ∷ []) k.buffers)
      (subst (λ (d : Displayed). Appends (frame_bytes d) (now.shelf.name start.fixed.slot) now.shelf new.shelf) shows.display (subst (λ (n : Name). Appends (frame_bytes new.display) n now.shelf new.shelf) (named now h are) shows.written))
      (subst (λ (n : Name). KeepsOthers n now.shelf new.shelf) (named now h are) others) ran (next_bytes now h e x p) in
      let steps : steps_for now.display x.changed + painted k.plan h k.buffers ≡ painted k.plan (h ++ e ∷ []) k.buffers =
      ap (λ (d : Displayed). steps_for d x.changed + painted k.plan h k.buffers) are.display ∙ ap (λ (r : Rectangle). steps_for (display_at k.plan h k.buffers) r + painted k.plan h k.buffers) p.shows.3
      ∙ steps_is k.plan h e k.buffers p.damage begins.some p.drawn in
      record {
        fixed = same ∙ are.fixed;
        display = shows.display ∙ p.display;
        counted = sums new.steps now.steps start.steps (steps_for now.display x.changed) (painted k.plan h k.buffers) (painted k.plan (h ++ e ∷ []) k.buffers) shows.counted are.counted steps;
        written = more.appended;
        others = more.others;
        behaves = then_behaves (Ok tt) start.shelf now.shelf new.shelf (ran_one tt start.shelf now.shelf are.behaves) behaves (λ no. no);
      }
    where
      sums : (new now start more h all : ℕ) → new ≡ now + more → now ≡ start + h → more + h ≡ all → new ≡ start + all
      sums new now start more h all a b c = omega (arith, a, b, c)

  -- or a front part of its frame was written
  pub front_next : (now new : Outlook) (h : List Entry) (e : Entry) (x : Pictured) → MayBegin k start → AreShown k start now h → Pictures now h e x → BeginsFrame x now new
      → AppendsFront (frames_of k.plan (h ++ e ∷ []) k.buffers) (file_of start) start.shelf new.shelf
  front_next now new h e x begins are p begun =
      front_added start.fixed.slot (frames_of k.plan h k.buffers) start.shelf now.shelf new.shelf (added now h begins are) (frame_bytes (shown now.display x)) [] (frames_of k.plan (h ++ e ∷ []) k.buffers)
      (subst (λ (n : Name). AppendsFront (frame_bytes (shown now.display x)) n now.shelf new.shelf) (named now h are) begun)
      (next_bytes now h e x p ∙ sym (append-nil (frames_of k.plan h k.buffers ++ frame_bytes (shown now.display x))))

  -- all that was written is a front part
  pub front_whole : (now : Outlook) (h : List Entry) → AreShown k start now h → AppendsFront (frames_of k.plan h k.buffers) (file_of start) start.shelf now.shelf
  front_whole now h are told = grind (arith, nat_tests, common_steps)

  -- others are kept by a call more
  pub others_next : (now new : Outlook) (h : List Entry) → MayBegin k start → AreShown k start now h → KeepsOthers (file_of now) now.shelf new.shelf → KeepsOthers (file_of start) start.shelf new.shelf
  others_next now new h begins are kept = Rattle.vz_player.proofs.Adding.others_kept start.fixed.slot (frames_of k.plan h k.buffers) start.shelf now.shelf new.shelf (added now h begins are) (subst (λ (n : Name). KeepsOthers n now.shelf new.shelf) (named now h are) kept)

  -- an error behind what went well
  pub behaves_next : {T : Type 0} (r : Result T ShelfError) (now new : Outlook) (h : List Entry) → AreShown k start now h → Behaves now.shelf new.shelf r → Behaves start.shelf new.shelf r
  behaves_next r now new h are behaves = then_behaves r start.shelf now.shelf new.shelf (ran_one tt start.shelf now.shelf are.behaves) behaves (λ no. no)
