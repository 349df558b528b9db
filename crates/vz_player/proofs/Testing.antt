-- What a hit tester keeps, and what it notes, as it takes an event.
use Rattle.std.proofs.Common.{◌≡◌, ◌≤◌, Bool, true, false, ◌&&◌, Option, Some, None, List, [], ◌∷◌, ◌++◌, length, reverse, refl, sym, ap, subst, ◌∙◌, append-nil, cond}
use Rattle.std.specs.{Prelude.is_some, Option.option_and_then}
use Rattle.std.proofs.lemmas.List.{reverse-append}
use Rattle.vz_base.specs.declared.limits.TheConstants.{MOST_FILES}
use Rattle.vz_geom.specs.{declared.Point.Point, Rectangle.Rectangle, Rectangle.is_empty_rect}
use Rattle.vz_frame.specs.Frame.{first_of}
use Rattle.vz_rules.specs.{Plan.Plan, World.World, World.Machine, World.Scene, World.opening, Walk.walk_of, Walk.too_much, declared.entry.Entry.Entry}
use Rattle.vz_rules.specs.{Scene.scene_of, Damage.drawn_damage, declared.entry.Event.Event, declared.entry.Reply.Reply, Hit.Target, Hit.hit_at}
use Rattle.vz_rules.specs.declared.entry.Event.TheVariants as event
use Rattle.vz_rules.specs.declared.entry.Reply.TheVariants as reply
use Rattle.vz_rules.specs.{Messages.Answer, Messages.says, Frames.DrawnFrame, Frames.drawn_frame_of, Frames.drawn_frames, Frames.drawn_frames_from}
use Rattle.vz_rules.specs.Step.{scene_answer, draw_answer, answer_to, outcome_of, step_in, entry_in, accepted_frames, world, world_from, NamesClient, Legal, LegalFrom}
use Rattle.vz_rules.specs.Whole.{walk_in, too_much_in, drawable_in, hit_in, hit_last}
use Rattle.vz_rules.proofs.Runs.{world-more, legal-more, drawn_frames_from-append}
use Rattle.vz_machine.specs.Stepping.{Goes, ShowsDrawn, IsOnDisplay}
use Rattle.vz_player.specs.Tested.{Tested, tested_on, hit_then, IsTested}

-- What a drawing shows

-- if this reply is Drawn, a drawing shows all that is seen
abbrev Shows : Plan → World → Reply → Type 0
Shows p w (reply.Drawn damage) = drawable_in p w ≡ scene_of w
Shows p w _ = Unit {0}

abbrev Answered : Plan → World → Answer → Type 0
Answered p w a = Shows p w a.reply

by_test : (p : Plan) (w : World) (t : Bool) (a b : Answer) → Answered p w a → (t ≡ false → Answered p w b) → Answered p w (cond t a b)
by_test p w true a b h k = h
by_test p w false a b h k = k refl

drawable_scene : (p : Plan) (w : World) (scene : Scene) → scene_of w ≡ Some scene → too_much (walk_of p.size scene) ≡ false → drawable_in p w ≡ scene_of w
unfolding drawable_in too_much_in walk_in
drawable_scene p w scene seen few =
    ap (λ (t : Bool). elim t [ true ↦ None | false ↦ scene_of w ]) (ap (λ (o : Option Scene). too_much (elim o [ Some s ↦ walk_of p.size s | None ↦ [] ])) seen ∙ few)

shows_scene : (p : Plan) (w : World) (scene : Scene) → scene_of w ≡ Some scene → Answered p w (scene_answer p w scene)
unfolding scene_answer
shows_scene p w scene seen =
    let damage : Rectangle = drawn_damage p.size w.last (accepted_frames w) scene.root (walk_of p.size scene) in
    by_test p w (too_much (walk_of p.size scene)) _ _ tt
    (λ few. by_test p w (is_some w.last && is_empty_rect damage) _ _ tt (λ k. drawable_scene p w scene seen few))

shows_seen : (p : Plan) (w : World) (o : Option Scene) → scene_of w ≡ o → Answered p w (elim o [ Some scene ↦ scene_answer p w scene | None ↦ says reply.NoRoot w ])
shows_seen p w None e = tt
shows_seen p w (Some scene) e = shows_scene p w scene e

shows_step : (p : Plan) (w : World) → Shows p w (step_in p w event.Draw).reply
unfolding step_in outcome_of answer_to draw_answer
shows_step p w = by_test p w (is_some w.in_flight) (says reply.Busy w) _ tt (λ k. shows_seen p w (scene_of w) refl)

-- what is hit at a point of a scene, if there is one
abbrev target_at : Option Scene → Point → Target
target_at o q = option_and_then (λ (scene : Scene). hit_at scene q) o

drawn_target : (p : Plan) (w : World) (q : Point) (r : Reply) (before : Target) → Shows p w r → hit_then (hit_in p w q) r before ≡ hit_then (target_at (scene_of w) q) r before
unfolding hit_in
drawn_target p w q (reply.Drawn damage) before shows = ap (λ (o : Option Scene). target_at o q) shows
drawn_target p w q r before shows = refl

-- an entry without a picture changes no target
kept_target : (m : Machine) (now before : Target) (r : Reply) → ShowsDrawn m r None → hit_then now r before ≡ before
kept_target m now before (reply.Drawn damage) shows = absurd shows
kept_target m now before r shows = refl

-- The last drawing of a history with an entry more

abbrev last_target : List DrawnFrame → Point → Target
last_target drawn q = elim (first_of (reverse drawn)) [ Some s ↦ target_at s.scene q | None ↦ None ]

frames_more : (p : Plan) (h : List Entry) (e : Entry) → drawn_frames p (h ++ e ∷ []) ≡ drawn_frames p h ++ drawn_frame_of (scene_of (world p h)) e.reply
unfolding drawn_frames drawn_frames_from world
frames_more p h e =
    drawn_frames_from-append p (opening p) h (e ∷ [])
    ∙ ap (λ l. drawn_frames_from p (opening p) h ++ l) (append-nil (drawn_frame_of (scene_of (world_from p (opening p) h)) e.reply))

last_by : (drawn : List DrawnFrame) (o : Option Scene) (q : Point) (r : Reply) → last_target (drawn ++ drawn_frame_of o r) q ≡ hit_then (target_at o q) r (last_target drawn q)
last_by drawn o q (reply.Drawn damage) =
    ap (λ (l : List DrawnFrame). elim (first_of l) [ Some s ↦ target_at s.scene q | None ↦ None ]) (reverse-append drawn (record { scene = o; damage = damage } ∷ []))
last_by drawn o q r = ap (λ (l : List DrawnFrame). last_target l q) (append-nil drawn)

hit_more : (p : Plan) (h : List Entry) (e : Entry) (q : Point) → hit_last p (h ++ e ∷ []) q ≡ hit_then (target_at (scene_of (world p h)) q) e.reply (hit_last p h q)
unfolding hit_last
hit_more p h e q =
    ap (λ (l : List DrawnFrame). last_target l q) (frames_more p h e)
    ∙ last_by (drawn_frames p h) (scene_of (world p h)) q e.reply

-- A hit tester goes on by an event

-- before the first event
pub opening_tested : (m : Machine) (h : List Entry) (q : Point) → m.world ≡ opening m.plan → length m.plan.files ≤ MOST_FILES → IsOnDisplay m q → h ≡ []
    → IsTested m None (record { plan = m.plan; history = h; point = q })
unfolding world world_from Legal LegalFrom hit_last drawn_frames drawn_frames_from
opening_tested m h q starts files on none =
    subst (λ (l : List Entry). IsTested m None (record { plan = m.plan; history = l; point = q })) (sym none) (
    record {
      behind = ap (λ (w : World). record { plan = m.plan; world = w }) starts;
      legal = tt;
      files = files;
      on = on;
      is = refl;
    }
    )

-- what a hit tester becomes
pub on_is : (m n : Machine) (noted : Target) (old : Tested) (v : Event) (e : Entry) (h kept g : List Entry) (q : Point) → IsTested m noted old → e ≡ entry_in m.plan m.world v → Goes m v n
    → record { plan = m.plan; history = h; point = q } ≡ old → kept ≡ h → g ≡ kept ++ e ∷ [] → record { plan = n.plan; history = g; point = q } ≡ tested_on old v
unfolding tested_on
on_is m n noted old v e h kept g q is entry goes view same more =
    let next : e ≡ entry_in old.plan (world old.plan old.history) v = entry ∙ ap (λ (x : Machine). entry_in x.plan x.world v) is.behind in
    let plan : n.plan ≡ old.plan = ap (λ (x : Machine). x.plan) goes ∙ ap (λ (t : Tested). t.plan) view in
    let all : g ≡ old.history ++ entry_in old.plan (world old.plan old.history) v ∷ [] =
    more ∙ (ap (λ l. l ++ e ∷ []) same ∙ (ap (λ (t : Tested). t.history ++ e ∷ []) view ∙ ap (λ (x : Entry). old.history ++ x ∷ []) next))
    in
    ap (λ (p : Plan). record { plan = p; history = g; point = q }) plan
    ∙ (ap (λ (l : List Entry). record { plan = old.plan; history = l; point = q }) all
    ∙ ap (λ (t : Tested). record { plan = old.plan; history = old.history ++ entry_in old.plan (world old.plan old.history) v ∷ []; point = t.point }) view)

event_is : (p : Plan) (w : World) (v : Event) → (entry_in p w v).event ≡ v
unfolding entry_in
event_is p w v = refl

-- what a hit tester keeps stands for what it becomes
tested_is : (m n : Machine) (noted next : Target) (old new : Tested) (v : Event) (e : Entry) → IsTested m noted old → NamesClient old.plan v → e ≡ entry_in m.plan m.world v → Goes m v n
    → next ≡ hit_then (target_at (scene_of m.world) old.point) e.reply noted → new ≡ tested_on old v → IsTested n next new
unfolding tested_on
tested_is m n noted next old new v e is named entry goes hit new_is =
    subst (IsTested n next) (sym new_is) (
    record {
      behind = n_is;
      legal = legal-more old.plan old.history x is.legal (subst (NamesClient old.plan) (sym same) named) (ap (entry_in old.plan (world old.plan old.history)) (sym same));
      files = is.files;
      on = subst (λ (y : Machine). IsOnDisplay y old.point) (sym goes) is.on;
      is =
          hit
          ∙ (ap (λ (y : Machine). hit_then (target_at (scene_of y.world) old.point) e.reply noted) is.behind
          ∙ (ap (λ (y : Entry). hit_then (target_at (scene_of (world old.plan old.history)) old.point) y.reply noted) x_is
          ∙ (ap (hit_then (target_at (scene_of (world old.plan old.history)) old.point) x.reply) is.is ∙ sym (hit_more old.plan old.history x old.point))));
    }
    )
  where
    x : Entry
    x = entry_in old.plan (world old.plan old.history) v

    same : x.event ≡ v
    same = event_is old.plan (world old.plan old.history) v

    x_is : e ≡ x
    x_is = entry ∙ ap (λ (y : Machine). entry_in y.plan y.world v) is.behind

    n_is : n ≡ record { plan = old.plan; world = world old.plan (old.history ++ x ∷ []) }
    n_is =
        goes ∙ (ap (λ (y : Machine). record { plan = y.plan; world = (step_in y.plan y.world v).world }) is.behind
        ∙ (ap (λ (u : Event). record { plan = old.plan; world = (step_in old.plan (world old.plan old.history) u).world }) (sym same)
        ∙ ap (λ (w : World). record { plan = old.plan; world = w }) (sym (world-more old.plan old.history x))))

-- after an event that draws nothing
pub kept_tested : (m n : Machine) (noted : Target) (old new : Tested) (v : Event) (e : Entry) → IsTested m noted old → NamesClient old.plan v → e ≡ entry_in m.plan m.world v → Goes m v n
    → ShowsDrawn m e.reply None → new ≡ tested_on old v → IsTested n noted new
kept_tested m n noted old new v e is named entry goes shows new_is =
    tested_is m n noted noted old new v e is named entry goes (sym (kept_target m (target_at (scene_of m.world) old.point) noted e.reply shows)) new_is

reply_is : (p : Plan) (w : World) (v : Event) → (entry_in p w v).reply ≡ (step_in p w v).reply
unfolding entry_in
reply_is p w v = refl

-- after Draw
pub drawn_tested : (m n : Machine) (noted now next : Target) (old new : Tested) (q : Point) (e : Entry) → IsTested m noted old → e ≡ entry_in m.plan m.world event.Draw → Goes m event.Draw n
    → q ≡ old.point → now ≡ hit_in m.plan m.world q → next ≡ hit_then now e.reply noted → new ≡ tested_on old event.Draw → IsTested n next new
drawn_tested m n noted now next old new q e is entry goes here asked hit new_is =
    let answered : (step_in m.plan m.world event.Draw).reply ≡ e.reply = sym (ap (λ (x : Entry). x.reply) entry ∙ reply_is m.plan m.world event.Draw) in
    let shows : Shows m.plan m.world e.reply = subst (Shows m.plan m.world) answered (shows_step m.plan m.world) in
    let found : now ≡ hit_in m.plan m.world old.point = asked ∙ ap (hit_in m.plan m.world) here in
    tested_is m n noted next old new event.Draw e is tt entry goes (hit ∙ (ap (λ (t : Target). hit_then t e.reply noted) found ∙ drawn_target m.plan m.world old.point e.reply noted shows)) new_is
