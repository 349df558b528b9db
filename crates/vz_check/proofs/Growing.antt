-- The frames of a history, one entry more at its end.
use Rattle.std.proofs.Common.{◌≡◌, List, [], ◌∷◌, ◌++◌, map, refl, sym, ap, ◌∙◌, append-nil, append_assoc}
use Rattle.std.specs.{List.flat_map, Prelude.ℕ}
use Rattle.vz_rules.specs.{Plan.Plan, Scene.scene_of, declared.entry.Entry.Entry, declared.entry.Reply.Reply}
use Rattle.vz_rules.specs.{World.World, World.opening, Whole.picture_in, Step.world, Step.world_from, declared.entry.Reply.TheVariants.Drawn}
use Rattle.vz_rules.specs.Frames.{DrawnFrame, drawn_frame_of, drawn_frames_from, drawn_frames, picture_of, frames, pixel_bytes, frames_bytes}
use Rattle.vz_rules.proofs.Runs.{drawn_frames_from-append}
use Rattle.vz_check.specs.{Verdict.frames_of, Judged.drawn_bytes}

-- the bytes of drawings
abbrev shown_bytes : Plan → List DrawnFrame → List ℕ
shown_bytes p drawn = flat_map (flat_map pixel_bytes) (map (λ s. picture_of p.size s.scene) drawn)

shown_then_shown : (p : Plan) (first then : List DrawnFrame) → shown_bytes p (first ++ then) ≡ shown_bytes p first ++ shown_bytes p then
shown_then_shown p [] then = refl
shown_then_shown p (s ∷ ss) then =
    ap (λ l. flat_map pixel_bytes (picture_of p.size s.scene) ++ l) (shown_then_shown p ss then)
    ∙ sym (append_assoc (flat_map pixel_bytes (picture_of p.size s.scene)) (shown_bytes p ss) (shown_bytes p then))

shown_one : (p : Plan) (w : World) (r : Reply) → shown_bytes p (drawn_frame_of (scene_of w) r ++ []) ≡ drawn_bytes p w r
unfolding picture_in
shown_one p w (Drawn damage) = append-nil (flat_map pixel_bytes (picture_of p.size (scene_of w)))
shown_one p w _ = refl

-- the frames are those of before, and the one of the entry
pub frames_more : (p : Plan) (h : List Entry) (e : Entry) → frames_of p (h ++ e ∷ []) ≡ frames_of p h ++ drawn_bytes p (world p h) e.reply
unfolding frames_bytes frames drawn_frames drawn_frames_from world
frames_more p h e =
    ap (shown_bytes p) (drawn_frames_from-append p (opening p) h (e ∷ []))
    ∙ (shown_then_shown p (drawn_frames_from p (opening p) h) (drawn_frame_of (scene_of (world_from p (opening p) h)) e.reply ++ [])
    ∙ ap (λ l. shown_bytes p (drawn_frames_from p (opening p) h) ++ l) (shown_one p (world_from p (opening p) h) e.reply))

-- the frames of a history begin with those of its front
pub frames_front : (p : Plan) (h g : List Entry) → (more : List ℕ) × (frames_of p (h ++ g) ≡ frames_of p h ++ more)
unfolding frames_bytes frames drawn_frames
frames_front p h g =
    (shown_bytes p (drawn_frames_from p (world_from p (opening p) h) g), ap (shown_bytes p) (drawn_frames_from-append p (opening p) h g) ∙ shown_then_shown p (drawn_frames_from p (opening p) h) (drawn_frames_from p (world_from p (opening p) h) g))

pub no_frames : (p : Plan) → frames_of p [] ≡ []
unfolding frames_bytes frames drawn_frames drawn_frames_from
no_frames p = refl
