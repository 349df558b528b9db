-- A display after a history.
use Rattle.std.proofs.Common.{◌≡◌, ℕ, ◌+◌, ◌≤◌, ◌-◌, Some, slice_get, List, [], ◌∷◌, ◌++◌, reverse, refl, ap, sym, ◌∙◌, append-nil}
use Rattle.std.proofs.lemmas.List.{reverse-append}
use Rattle.vz_geom.specs.Rectangle.{Rectangle}
use Rattle.vz_pixels.specs.Colour.{Colour}
use Rattle.vz_geom.specs.Display.{IsDisplaySize}
use Rattle.vz_rules.specs.Plan.{Plan}
use Rattle.vz_rules.specs.declared.entry.Entry.{Entry}
use Rattle.vz_rules.specs.declared.entry.Reply.TheVariants.{Drawn}
use Rattle.vz_rules.specs.World.{Scene, opening}
use Rattle.vz_rules.specs.Scene.{scene_of}
use Rattle.vz_rules.specs.Paint.{picture}
use Rattle.vz_rules.specs.Step.{world, world_from}
use Rattle.vz_rules.specs.Frames.{DrawnFrame, drawn_frame_of, drawn_frames, drawn_frames_from, stale, repainted, written_of, written, painted_of, painted}
use Rattle.vz_rules.proofs.Runs.{drawn_frames_from-append}
use Rattle.vz_machine.specs.Pictured.{Pictured, colours_in}
use Rattle.vz_display.specs.Displayed.{display_after, display_at, shown, steps_for, current, IsNext}
use Rattle.vz_display.proofs.Drawings.{more_is, steps_are, current_is}

-- the drawings of a history with an entry more
drawn_frames_more : (p : Plan) (h : List Entry) (e : Entry) → drawn_frames p (h ++ e ∷ []) ≡ drawn_frames p h ++ drawn_frame_of (scene_of (world p h)) e.reply
unfolding drawn_frames drawn_frames_from world
drawn_frames_more p h e =
    drawn_frames_from-append p (opening p) h (e ∷ [])
    ∙ ap (λ l. drawn_frames_from p (opening p) h ++ l) (append-nil (drawn_frame_of (scene_of (world_from p (opening p) h)) e.reply))

-- newest first
drawn_frames_back : (p : Plan) (h : List Entry) (e : Entry) → reverse (drawn_frames p (h ++ e ∷ [])) ≡ reverse (drawn_frame_of (scene_of (world p h)) e.reply) ++ reverse (drawn_frames p h)
drawn_frames_back p h e = ap reverse (drawn_frames_more p h e) ∙ reverse-append (drawn_frames p h) (drawn_frame_of (scene_of (world p h)) e.reply)

abbrev next_drawn_frame : Plan → List Entry → Rectangle → DrawnFrame
next_drawn_frame p h r = record { scene = scene_of (world p h); damage = r }

drawn_frames_drawn : (p : Plan) (h : List Entry) (e : Entry) (r : Rectangle) → e.reply ≡ Drawn r → reverse (drawn_frames p (h ++ e ∷ [])) ≡ next_drawn_frame p h r ∷ reverse (drawn_frames p h)
drawn_frames_drawn p h e r drawn = drawn_frames_back p h e ∙ ap (λ reply. reverse (drawn_frame_of (scene_of (world p h)) reply) ++ reverse (drawn_frames p h)) drawn

drawn_frames_other : (p : Plan) (h : List Entry) (e : Entry) → drawn_frame_of (scene_of (world p h)) e.reply ≡ [] → reverse (drawn_frames p (h ++ e ∷ [])) ≡ reverse (drawn_frames p h)
drawn_frames_other p h e none = drawn_frames_back p h e ∙ ap (λ l. reverse l ++ reverse (drawn_frames p h)) none

pub drawn_is : (p : Plan) (h : List Entry) (e : Entry) (count : ℕ) (r : Rectangle) (scene : Scene) (pictured : Pictured) → IsDisplaySize p.size → 1 ≤ count → e.reply ≡ Drawn r → scene_of (world p h) ≡ Some scene
    → pictured.size ≡ p.size → colours_in pictured ≡ picture p.size scene → pictured.changed ≡ r
    → shown (display_at p h count) pictured ≡ display_at p (h ++ e ∷ []) count
unfolding display_at
drawn_is p h e count r scene pictured sides some drawn seen same colours changed =
    let before : List DrawnFrame = reverse (drawn_frames p h) in
    more_is p.size count before scene pictured sides some same colours
    ∙ (ap (λ x. display_after p.size count (record { scene = Some scene; damage = x } ∷ before)) changed
    ∙ (ap (λ o. display_after p.size count (record { scene = o; damage = r } ∷ before)) (sym seen)
    ∙ ap (display_after p.size count) (sym (drawn_frames_drawn p h e r drawn))))

pub written_is : (p : Plan) (h : List Entry) (e : Entry) (count : ℕ) (r : Rectangle) → 1 ≤ count → e.reply ≡ Drawn r → IsNext p h e count
unfolding display_at written written_of
written_is p h e count r some drawn =
    let before : List DrawnFrame = reverse (drawn_frames p h) in
    let all = drawn_frames_drawn p h e r drawn in
    let earlier : List (List Colour) = written_of p.size count before in
    let frame : List Colour = repainted p.size (stale p.size count (next_drawn_frame p h r ∷ before)) (scene_of (world p h)) (slice_get earlier (count - 1)) in
    record {
      frame = frame;
      more = ap (λ l. reverse (written_of p.size count l)) all ∙ reverse-append (frame ∷ []) earlier;
      is = ap (λ l. current (display_after p.size count l)) all ∙ current_is p.size count (next_drawn_frame p h r ∷ before) frame earlier some refl;
    }

pub steps_is : (p : Plan) (h : List Entry) (e : Entry) (count : ℕ) (r : Rectangle) → 1 ≤ count → e.reply ≡ Drawn r → steps_for (display_at p h count) r + painted p h count ≡ painted p (h ++ e ∷ []) count
unfolding display_at painted
steps_is p h e count r some drawn =
    steps_are p.size count (reverse (drawn_frames p h)) (next_drawn_frame p h r) some ∙ ap (painted_of p.size count) (sym (drawn_frames_drawn p h e r drawn))

pub other_is : (p : Plan) (h : List Entry) (e : Entry) (count : ℕ) → drawn_frame_of (scene_of (world p h)) e.reply ≡ []
    → (display_at p (h ++ e ∷ []) count ≡ display_at p h count) × (written p (h ++ e ∷ []) count ≡ written p h count) × (painted p (h ++ e ∷ []) count ≡ painted p h count)
unfolding display_at written painted
other_is p h e count none =
    let same = drawn_frames_other p h e none in
    (ap (display_after p.size count) same, ap (λ l. reverse (written_of p.size count l)) same, ap (painted_of p.size count) same)
