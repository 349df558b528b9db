-- What a player keeps, and what it shows, as it takes an event.
use Rattle.std.proofs.Common.{◌≡◌, ℕ, ◌+◌, ◌≤◌, Bool, true, false, Option, Some, None, Result, Ok, Err, List, [], ◌∷◌, ◌++◌, length, map, reverse, inl, inr, refl, sym, ap, subst, ◌∙◌, arith}
use Rattle.std.specs.{Prelude.is_some, Prelude.IfSome, Prelude.OnErr, Option.option_map}
use Rattle.vz_base.specs.declared.limits.TheConstants.{MOST_FILES}
use Rattle.vz_geom.specs.{declared.Size.Size, Rectangle.Rectangle, Display.IsDisplaySize}
use Rattle.vz_pixels.specs.Colour.{Colour}
use Rattle.vz_rules.specs.{Plan.Plan, World.World, World.Machine, World.opening, declared.entry.Entry.Entry, declared.entry.Reply.TheVariants.Drawn}
use Rattle.vz_rules.specs.{Scene.scene_of, declared.entry.Event.Event, declared.entry.Reply.Reply, declared.entry.Rest.Rest, Log.rest_in, Log.rest_of}
use Rattle.vz_rules.specs.Step.{step_in, entry_in, world, world_from, NamesClient, Legal, LegalFrom}
use Rattle.vz_rules.specs.Frames.{DrawnFrame, drawn_frame_of, drawn_frames, drawn_frames_from, painted}
use Rattle.vz_buffers.proofs.Turning.{turns_size}
use Rattle.vz_rules.proofs.Runs.{world-more, legal-more}
use Rattle.vz_machine.specs.{Pictured.Pictured, Stepping.Goes, Stepping.ShowsDrawn}
use Rattle.vz_display.specs.Displayed.{Displayed, first_displayed, current, buffer_with, display_at, display_after, steps_for}
use Rattle.vz_display.proofs.Drawings.{first_is, current_is}
use Rattle.vz_display.proofs.Histories.{drawn_is, written_is, steps_is, other_is}
use Rattle.vz_player.proofs.Frames.{newest_is}
use Rattle.vz_player.specs.Played.{Played, played_at, machine_of, next_entry, played_on, frames_of, painted_by, display_of, Writes, StopsAt, IsPlayed, shown_with, steps_with}

pub on_err : {A E : Type 0} (r : Result A E) (P : Type 0) → P → OnErr r P
on_err (Ok x) P p = tt
on_err (Err e) P p = p

-- A display goes on by an entry

next_display : (p : Plan) (h : List Entry) (e : Entry) (count : ℕ) (r : Reply) (o : Option Pictured) → IsDisplaySize p.size → 1 ≤ count → e.reply ≡ r
    → ShowsDrawn (record { plan = p; world = world p h }) r o → shown_with (display_at p h count) o ≡ display_at p (h ++ e ∷ []) count
next_display p h e count (Drawn r) (Some x) sides some is shows = drawn_is p h e count r shows.0 x sides some is shows.1 shows.2.size shows.2.colours shows.3
next_display p h e count (Drawn r) None sides some is shows = absurd shows
next_display p h e count r (Some x) sides some is shows = absurd shows
next_display p h e count r None sides some is shows = sym (other_is p h e count (ap (drawn_frame_of (scene_of (world p h))) is)).0

next_steps : (p : Plan) (h : List Entry) (e : Entry) (count : ℕ) (r : Reply) (o : Option Pictured) → 1 ≤ count → e.reply ≡ r
    → ShowsDrawn (record { plan = p; world = world p h }) r o → steps_with (display_at p h count) o + painted p h count ≡ painted p (h ++ e ∷ []) count
next_steps p h e count (Drawn r) (Some x) some is shows =
    ap (λ (y : Rectangle). steps_for (display_at p h count) y + painted p h count) shows.3 ∙ steps_is p h e count r some is
next_steps p h e count (Drawn r) None some is shows = absurd shows
next_steps p h e count r (Some x) some is shows = absurd shows
next_steps p h e count r None some is shows =
    let same = (other_is p h e count (ap (drawn_frame_of (scene_of (world p h))) is)).2 in
    omega (arith, same)

next_written : (p : Plan) (h : List Entry) (e : Entry) (count : ℕ) (s : Bool) (r : Reply) (o : Option Pictured) → 1 ≤ count → e.reply ≡ r → ShowsDrawn (record { plan = p; world = world p h }) r o
    → Writes (record { plan = p; history = h; buffers = count; stopped = s }) (record { plan = p; history = h ++ e ∷ []; buffers = count; stopped = s }) (is_some o)
next_written p h e count s (Drawn r) (Some x) some is shows = let next = written_is p h e count r some is in (next.frame, next.more)
next_written p h e count s (Drawn r) None some is shows = absurd shows
next_written p h e count s r (Some x) some is shows = absurd shows
next_written p h e count s r None some is shows = (other_is p h e count (ap (drawn_frame_of (scene_of (world p h))) is)).1

-- A machine goes on by an event

event_is : (p : Plan) (w : World) (v : Event) (e : Entry) → e ≡ entry_in p w v → e.event ≡ v
unfolding entry_in
event_is p w v e is = ap (λ (x : Entry). x.event) is

-- the entry of an event, in the world behind the history
next_is : (m : Machine) (old : Played) (v : Event) (e : Entry) → m ≡ machine_of old → e ≡ entry_in m.plan m.world v → e ≡ next_entry old v
next_is m old v e behind is = is ∙ ap (λ (x : Machine). entry_in x.plan x.world v) behind

-- what a player becomes
pub new_is : (m m' : Machine) (d : Displayed) (old : Played) (v : Event) (e : Entry) (h g : List Entry) (count : ℕ) (s : Bool) → IsPlayed m d old → e ≡ entry_in m.plan m.world v → Goes m v m'
    → h ≡ old.history → g ≡ h ++ e ∷ [] → count ≡ old.buffers
    → record { plan = m'.plan; history = g; buffers = count; stopped = s } ≡ record (played_on old v) { stopped = s }
unfolding played_on
new_is m m' d old v e h g count s is entry goes same more buffers =
    let plan : m'.plan ≡ old.plan = ap (λ (x : Machine). x.plan) goes ∙ ap (λ (x : Machine). x.plan) is.behind in
    let all : g ≡ old.history ++ next_entry old v ∷ [] = more ∙ (ap (λ l. l ++ e ∷ []) same ∙ ap (λ x. old.history ++ x ∷ []) (next_is m old v e is.behind entry)) in
    ap (λ (p : Plan). record { plan = p; history = g; buffers = count; stopped = s }) plan
    ∙ (ap (λ (l : List Entry). record { plan = old.plan; history = l; buffers = count; stopped = s }) all
    ∙ ap (λ (n : ℕ). record { plan = old.plan; history = old.history ++ next_entry old v ∷ []; buffers = n; stopped = s }) buffers)

-- a player that goes on is not stopped
pub going_is : (old new : Played) (v : Event) → old.stopped ≡ false → new ≡ record (played_on old v) { stopped = false } → new ≡ played_on old v
unfolding played_on
going_is old new v going is = is ∙ ap (λ (s : Bool). record { plan = old.plan; history = old.history ++ next_entry old v ∷ []; buffers = old.buffers; stopped = s }) (sym going)

-- what was to be seen, behind the history
shows_behind : (m : Machine) (old : Played) (r : Reply) (o : Option Pictured) → m ≡ machine_of old → ShowsDrawn m r o → ShowsDrawn (machine_of old) r o
shows_behind m old r o behind shows = subst (λ (x : Machine). ShowsDrawn x r o) behind shows

-- what a player keeps stands for what it becomes
pub played_is : (m m' : Machine) (d d' : Displayed) (old new : Played) (v : Event) (e : Entry) (o : Option Pictured) (s : Bool) → IsPlayed m d old → NamesClient old.plan v → e ≡ entry_in m.plan m.world v → Goes m v m'
    → ShowsDrawn m e.reply o → old.stopped ≡ false → (s ≡ false → d' ≡ shown_with d o) → new ≡ record (played_on old v) { stopped = s } → IsPlayed m' d' new
unfolding played_on
played_is m m' d d' old new v e o s is named entry goes shows going shown new_is =
    subst (IsPlayed m' d') (sym new_is) (
    record {
      behind = m_is;
      legal = legal-more old.plan old.history x is.legal (subst (NamesClient old.plan) (sym same) named) (ap (entry_in old.plan (world old.plan old.history)) (sym same));
      files = is.files;
      sides = is.sides;
      some = is.some;
      shows = λ t. shown t ∙ (ap (λ y. shown_with y o) (is.shows going) ∙ next_display old.plan old.history x old.buffers x.reply o is.sides is.some refl seen);
    }
    )
  where
    x : Entry
    x = next_entry old v

    same : x.event ≡ v
    same = event_is old.plan (world old.plan old.history) v x refl

    seen : ShowsDrawn (machine_of old) x.reply o
    seen = shows_behind m old x.reply o is.behind (subst (λ (y : Entry). ShowsDrawn m y.reply o) (next_is m old v e is.behind entry) shows)

    m_is : m' ≡ record { plan = old.plan; world = world old.plan (old.history ++ x ∷ []) }
    m_is =
        goes ∙ (ap (λ (y : Machine). record { plan = y.plan; world = (step_in y.plan y.world v).world }) is.behind
        ∙ (ap (λ (u : Event). record { plan = old.plan; world = (step_in old.plan (world old.plan old.history) u).world }) (sym same)
        ∙ ap (λ (w : World). record { plan = old.plan; world = w }) (sym (world-more old.plan old.history x))))

-- the frames that are written then
pub writes_is : (m : Machine) (d : Displayed) (old new : Played) (v : Event) (e : Entry) (o : Option Pictured) (b : Bool) → IsPlayed m d old → e ≡ entry_in m.plan m.world v → ShowsDrawn m e.reply o
    → b ≡ is_some o → new ≡ played_on old v → Writes old new b
unfolding played_on
writes_is m d old new v e o b is entry shows drawn goes =
    let x : Entry = next_entry old v in
    let seen : ShowsDrawn (machine_of old) x.reply o = shows_behind m old x.reply o is.behind (subst (λ (y : Entry). ShowsDrawn m y.reply o) (next_is m old v e is.behind entry) shows) in
    subst (λ (n : Played). Writes old n b) (sym goes) (subst (Writes old (played_on old v)) (sym drawn) (next_written old.plan old.history x old.buffers old.stopped x.reply o is.some refl seen))

-- and the steps that were counted
pub counted_is : (m : Machine) (d : Displayed) (old new : Played) (v : Event) (e : Entry) (o : Option Pictured) (before after : ℕ) → IsPlayed m d old → e ≡ entry_in m.plan m.world v → ShowsDrawn m e.reply o
    → old.stopped ≡ false → after ≡ before + steps_with d o → new ≡ played_on old v → after + painted_by old ≡ before + painted_by new
unfolding played_on
counted_is m d old new v e o before after is entry shows going counted goes =
    let x : Entry = next_entry old v in
    let seen : ShowsDrawn (machine_of old) x.reply o = shows_behind m old x.reply o is.behind (subst (λ (y : Entry). ShowsDrawn m y.reply o) (next_is m old v e is.behind entry) shows) in
    let steps : steps_with (display_of old) o + painted_by old ≡ painted_by (played_on old v) = next_steps old.plan old.history x old.buffers x.reply o is.some refl seen in
    sums before after (steps_with d o) (steps_with (display_of old) o) (painted_by old) (painted_by (played_on old v)) (painted_by new) counted (ap (λ y. steps_with y o) (is.shows going)) steps (ap painted_by goes)
  where
    sums : (before after more same old_all all new_all : ℕ) → after ≡ before + more → more ≡ same → same + old_all ≡ all → new_all ≡ all → after + old_all ≡ before + new_all
    sums before after more same old_all all new_all a b c d = omega (arith, a, b, c, d)

-- a picture has the display's size
pub picture_fits : {A : Type 0} (f : A → Pictured) (m : Machine) (r : Reply) (o : Option A) (size : Size) → ShowsDrawn m r (option_map f o) → m.plan.size ≡ size → IfSome o (λ x. (f x).size ≡ size)
picture_fits f m (Drawn r) (Some x) size shows same = shows.2.size ∙ same
picture_fits f m r (Some x) size shows same = absurd shows
picture_fits f m r None size shows same = tt

-- the display of a player has the plan's size
pub display_size : (m : Machine) (d : Displayed) (old : Played) → IsPlayed m d old → old.stopped ≡ false → d.turns.size ≡ old.plan.size
unfolding display_at display_after
display_size m d old is going = ap (λ (x : Displayed). x.turns.size) (is.shows going) ∙ turns_size old.plan.size old.buffers (map (λ (s : DrawnFrame). s.damage) (reverse (drawn_frames old.plan old.history)))

-- a display shows the frame that is written last
pub current_shown : (m : Machine) (d : Displayed) (old : Played) (earlier : List (List Colour)) (frame : List Colour) → IsPlayed m d old → old.stopped ≡ false → frames_of old ≡ earlier ++ frame ∷ []
    → current d ≡ buffer_with old.plan.size frame
unfolding display_at
current_shown m d old earlier frame is going last =
    ap current (is.shows going)
    ∙ current_is old.plan.size old.buffers (reverse (drawn_frames old.plan old.history)) frame (reverse earlier) is.some (newest_is old.plan old.history old.buffers earlier frame last)

-- before the first event
pub opening_is : (m : Machine) (d : Displayed) (h : List Entry) (size : Size) (count : ℕ) → m.world ≡ opening m.plan → length m.plan.files ≤ MOST_FILES → m.plan.size ≡ size → IsDisplaySize size → 1 ≤ count
    → d ≡ first_displayed size count → h ≡ [] → IsPlayed m d (record { plan = m.plan; history = h; buffers = count; stopped = false })
unfolding world world_from Legal LegalFrom display_at drawn_frames drawn_frames_from
opening_is m d h size count starts files same sides some first none =
    subst (λ (l : List Entry). IsPlayed m d (record { plan = m.plan; history = l; buffers = count; stopped = false })) (sym none) (
    record {
      behind = ap (λ (w : World). record { plan = m.plan; world = w }) starts;
      legal = tt;
      files = files;
      sides = subst IsDisplaySize (sym same) sides;
      some = some;
      shows = λ t. first ∙ (ap (λ (z : Size). first_displayed z count) (sym same) ∙ sym (first_is m.plan.size count));
    }
    )

-- what is still out
pub rest_is : (m : Machine) (d : Displayed) (old : Played) (r : Rest) → IsPlayed m d old → r ≡ rest_in m.world → r ≡ rest_of old.plan old.history
unfolding rest_of
rest_is m d old r is out = out ∙ ap (λ (x : Machine). rest_in x.world) is.behind

-- Want of memory

pub stops_before : (old new : Played) (v : Event) → new ≡ old → StopsAt old v new
unfolding StopsAt
stops_before old new v same = inl same

pub stops_after : (old new : Played) (v : Event) → new ≡ record (played_on old v) { stopped = true } → StopsAt old v new
unfolding StopsAt
stops_after old new v is = inr is

-- nothing has changed
pub same_played : (m m' : Machine) (h g : List Entry) (count : ℕ) (s : Bool) (old : Played) → record { plan = m.plan; history = h; buffers = count; stopped = s } ≡ old → m' ≡ m → g ≡ h
    → record { plan = m'.plan; history = g; buffers = count; stopped = s } ≡ old
same_played m m' h g count s old is same all =
    ap (λ (x : Machine). record { plan = x.plan; history = g; buffers = count; stopped = s }) same
    ∙ (ap (λ (l : List Entry). record { plan = m.plan; history = l; buffers = count; stopped = s }) all ∙ is)

-- behind a history that came about elsewhere
pub resumed_is : (m : Machine) (d : Displayed) (h : List Entry) (count : ℕ) → m.world ≡ world m.plan h → Legal m.plan h → length m.plan.files ≤ MOST_FILES → IsDisplaySize m.plan.size → 1 ≤ count
    → d ≡ display_at m.plan h count → IsPlayed m d (played_at m.plan h count)
resumed_is m d h count behind legal files sides some shown = record {
  behind = ap (λ (w : World). record { plan = m.plan; world = w }) behind;
  legal = legal;
  files = files;
  sides = sides;
  some = some;
  shows = λ t. shown;
}

pub unturned :
    {old : Played} {h g : List Entry} {count : ℕ} {s : Bool} (m n : Machine) (v : Event) → record { plan = m.plan; history = h; buffers = count; stopped = s } ≡ old → n ≡ m
    → g ≡ h → StopsAt old v (record { plan = n.plan; history = g; buffers = count; stopped = s })
unturned {old = old} {h = h} {g = g} {count = count} {s = s} m n v at same all = stops_before old _ v (same_played m n h g count s old at same all)

-- A turn of a player, as its code makes it

module _
    {d : Displayed} {old : Played} {e : Entry} {h g k : List Entry} {count : ℕ} {s : Bool} (m n : Machine) (v : Event) (o : Option Pictured)
    (at : record { plan = m.plan; history = h; buffers = count; stopped = s } ≡ old)
    (stands : IsPlayed m d (record { plan = m.plan; history = h; buffers = count; stopped = s }))
    (entry : e ≡ entry_in m.plan m.world v) (goes : Goes m v n) (shows : ShowsDrawn m e.reply o) (same : g ≡ h) (more : k ≡ g ++ e ∷ [])
    (going : old.stopped ≡ false)
  where
    stood : IsPlayed m d old
    stood = subst (IsPlayed m d) at stands

    turned : (t : Bool) → record { plan = n.plan; history = k; buffers = count; stopped = t } ≡ record (played_on old v) { stopped = t }
    turned t = new_is m n d old v e g k count t stood entry goes (same ∙ ap (λ (p : Played). p.history) at) more (ap (λ (p : Played). p.buffers) at)

    pub turn_invariant :
        NamesClient old.plan v → (d' : Displayed) (t : Bool) → (t ≡ false → d' ≡ shown_with d o)
        → IsPlayed n d' (record { plan = n.plan; history = k; buffers = count; stopped = t })
    turn_invariant named d' t shown = played_is m n d d' old _ v e o t stood named entry goes shows going shown (turned t)

    -- it was stopped
    pub turn_stops : StopsAt old v (record { plan = n.plan; history = k; buffers = count; stopped = true })
    turn_stops = stops_after old _ v (turned true)

    module _ (t : Bool) (off : t ≡ false) where
      pub turn_taken : record { plan = n.plan; history = k; buffers = count; stopped = t } ≡ played_on old v
      turn_taken = going_is old _ v going (turned t ∙ ap (λ (b : Bool). record (played_on old v) { stopped = b }) off)

      pub turn_written : (b : Bool) → b ≡ is_some o → Writes old (record { plan = n.plan; history = k; buffers = count; stopped = t }) b
      turn_written b drawn = writes_is m d old _ v e o b stood entry shows drawn turn_taken

      pub turn_counted :
          (before after : ℕ) → after ≡ before + steps_with d o
          → after + painted_by old ≡ before + painted_by (record { plan = n.plan; history = k; buffers = count; stopped = t })
      turn_counted before after counted = counted_is m d old _ v e o before after stood entry shows going counted turn_taken
