-- Each drawing of a legal history agrees with the one before it outside its damage.
use Rattle.std.proofs.Common.{◌≡◌, ℕ, zero, suc, ◌≤◌, Bool, true, false, Option, Some, None, List, [], ◌∷◌, ◌++◌, map, reverse, append_assoc, append-nil, refl, ap, sym, ◌∙◌, arith, subst, slice_get}
use Rattle.std.specs.Prelude.{is_some}
use Rattle.std.proofs.lemmas.Bool.{both_ways, false_from_ne_true}
use Rattle.std.proofs.lemmas.List.{map-append, reverse-append, reverse-reverse}
use Rattle.vz_geom.specs.declared.Point.{Point}
use Rattle.vz_geom.specs.declared.Size.{Size}
use Rattle.vz_geom.specs.Rectangle.{Rectangle, has, sized, is_empty_rect}
use Rattle.vz_geom.proofs.Bounds.{in_is_full}
use Rattle.vz_rules.specs.Plan.{Plan, IsPlan}
use Rattle.vz_rules.specs.declared.entry.Event.{Event}
use Rattle.vz_rules.specs.declared.entry.Entry.{Entry}
use Rattle.vz_rules.specs.declared.entry.Reply.{Reply}
use Rattle.vz_rules.specs.declared.entry.Reply.TheVariants as reply
use Rattle.vz_rules.specs.World.{World, FrameData, Scene, Aggregation, opening}
use Rattle.vz_rules.specs.Scene.{scene_of}
use Rattle.vz_rules.specs.Trace.{AreHonest}
use Rattle.vz_rules.specs.Walk.{walk_of}
use Rattle.vz_rules.specs.Damage.{drawn_damage}
use Rattle.vz_rules.specs.Step.{step_in, world_from, world, entry_in, LegalFrom, Legal, accepted_frames}
use Rattle.vz_rules.specs.Whole.{is_aggregation, scene_then, memory_of}
use Rattle.vz_rules.specs.Frames.{DrawnFrame, drawn_frame_of, drawn_frames_from, drawn_frames, frames, written, Honest}
use Rattle.vz_rules.proofs.Last.{last_then}
use Rattle.vz_rules.proofs.Redrawn.{draws_agree}
use Rattle.vz_rules.proofs.Patches.{seen_at, AgreeOutside, AreLinked, drawn_frame_picture, written_whole}
use Rattle.vz_rules.proofs.Goes.{goes_step}
use Rattle.vz_rules.proofs.Holding.{Holds, Remembers, holds_first, accepted_is, remembers_now, remembers_step, are_later, holds_step}
use Rattle.vz_rules.proofs.Drawings.{damage_in, Says, says_step}

-- Honesty

at_front : {A : Type 0} (xs ys : List A) (n : ℕ) (x : A) → slice_get xs n ≡ Some x → slice_get (xs ++ ys) n ≡ Some x
at_front [] ys n x h = absurd (cc)
at_front (y ∷ xs) ys zero x h = h
at_front (y ∷ xs) ys (suc n) x h = at_front xs ys n x h

honest_front : (xs ys : List FrameData) → AreHonest (xs ++ ys) → AreHonest xs
honest_front xs ys honest i j f g p q = honest i j f g (at_front xs ys i f p) (at_front xs ys j g q)

-- what is accepted stays accepted
grows_from : (p : Plan) (w : World) (h : List Entry) → Holds w → (more : List FrameData) × (accepted_frames (world_from p w h) ≡ accepted_frames w ++ more)
unfolding world_from
grows_from p w [] holds = ([], sym (append-nil (accepted_frames w)))
grows_from p w (x ∷ h) holds =
    let first = goes_step p w x.event holds.always in
    let rest = grows_from p (step_in p w x.event).world h (holds_step p w x.event holds) in
    (first.more ++ rest.0, rest.1 ∙ (ap (λ (l : List FrameData). l ++ rest.0) first.active ∙ append_assoc (accepted_frames w) first.more rest.0))

-- A drawing

none_in : (r : Rectangle) (p : Point) → is_empty_rect r ≡ true → has r p ≡ false
none_in r p h = false_from_ne_true (has r p) (λ e. both_ways (is_empty_rect r) (in_is_full r p e) h)

-- outside its damage what is seen looks as what is remembered
agrees_outside : (p : Plan) (w : World) (before now : Scene) → Holds w → AreHonest (accepted_frames w) → Remembers before w → w.last ≡ memory_of p (Some before)
    → scene_of w ≡ Some now
    → AgreeOutside p.size (damage_in p w now) (Some before) (Some now)
agrees_outside p w before now holds honest r last seen q inside misses =
    draws_agree p.size before now (accepted_frames w) (accepted_is w holds) honest (are_later w before now holds r seen) q
    r.rooted.0 (remembers_now w now holds seen).rooted.0 r.rooted.1 (remembers_now w now holds seen).rooted.1 inside
    (ap (λ (m : Option Aggregation). has (drawn_damage p.size m (accepted_frames w) now.root (walk_of p.size now)) q) (sym last) ∙ misses)

-- the same at each point of the display
abbrev AgreeAll : Size → Option Scene → Option Scene → Type 0
AgreeAll size a b = (p : Point) → has (sized size) p ≡ true → seen_at a p ≡ seen_at b p

-- the newest drawing agrees with what is remembered, and each with the one before it
abbrev IsChain : Size → Option Scene → List DrawnFrame → Type 0
IsChain size None drawn = drawn ≡ []
IsChain size (Some scene) [] = ⊥
IsChain size (Some scene) (s ∷ before) = AgreeAll size (Some scene) s.scene × AreLinked size (s ∷ before)

abbrev RemembersAll : Option Scene → World → Type 0
RemembersAll None w = Unit {0}
RemembersAll (Some scene) w = Remembers scene w

linked_in : (size : Size) (a : Option Scene) (drawn : List DrawnFrame) → IsChain size a drawn → AreLinked size drawn
linked_in size None drawn h = subst (AreLinked size) (sym h) tt
linked_in size (Some scene) [] h = absurd h
linked_in size (Some scene) (s ∷ before) h = h.1

-- a drawing agrees with the one before it outside its damage
link_drawn : (p : Plan) (w : World) (before now : Scene) (s : DrawnFrame) → Holds w → AreHonest (accepted_frames w) → Remembers before w
    → w.last ≡ memory_of p (Some before) → scene_of w ≡ Some now
    → AgreeAll p.size (Some before) s.scene → (o : Option Scene) → o ≡ Some now → (damage : Rectangle) → damage ≡ damage_in p w now → AgreeOutside p.size damage s.scene o
link_drawn p w before now s holds honest r last seen same o e damage f q inside misses =
    sym (same q inside)
    ∙ (agrees_outside p w before now holds honest r last seen q inside (ap (λ (d : Rectangle). has d q) (sym f) ∙ misses)
    ∙ ap (λ (x : Option Scene). seen_at x q) (sym e))

-- it goes to the front
chain_drawn : (p : Plan) (w : World) (a : Option Scene) (drawn : List DrawnFrame) (now : Scene) → Holds w → AreHonest (accepted_frames w) → RemembersAll a w → w.last ≡ memory_of p a
    → scene_of w ≡ Some now → IsChain p.size a drawn → (o : Option Scene) → o ≡ Some now → (damage : Rectangle) → damage ≡ damage_in p w now
    → IsChain p.size o (record { scene = o; damage = damage } ∷ drawn)
chain_drawn p w a drawn now holds honest r last seen chain None e damage f = absurd (cc)
chain_drawn p w None drawn now holds honest r last seen chain (Some scene) e damage f =
    ((λ q inside. refl), subst (λ (l : List DrawnFrame). AreLinked p.size (record { scene = Some scene; damage = damage } ∷ l)) (sym chain) (tt, tt))
chain_drawn p w (Some before) [] now holds honest r last seen chain (Some scene) e damage f = absurd chain
chain_drawn p w (Some before) (s ∷ earlier) now holds honest r last seen chain (Some scene) e damage f =
    ((λ q inside. refl), (link_drawn p w before now s holds honest r last seen chain.0 (Some scene) e damage f, chain.1))

-- where nothing changed nothing is drawn
chain_unchanged : (p : Plan) (w : World) (a : Option Scene) (drawn : List DrawnFrame) (now : Scene) → Holds w → AreHonest (accepted_frames w) → RemembersAll a w
    → w.last ≡ memory_of p a
    → scene_of w ≡ Some now → IsChain p.size a drawn → is_some w.last ≡ true → is_empty_rect (damage_in p w now) ≡ true → IsChain p.size (Some now) drawn
chain_unchanged p w None drawn now holds honest r last seen chain some empty = absurd (both_ways (is_some w.last) (ap is_some last) some)
chain_unchanged p w (Some before) [] now holds honest r last seen chain some empty = absurd chain
chain_unchanged p w (Some before) (s ∷ earlier) now holds honest r last seen chain some empty =
    ((λ q inside. sym (agrees_outside p w before now holds honest r last seen q inside (none_in (damage_in p w now) q empty)) ∙ chain.0 q inside), chain.1)

chain_step : (p : Plan) (w : World) (a : Option Scene) (drawn : List DrawnFrame) (r : Reply) → Holds w → AreHonest (accepted_frames w) → RemembersAll a w → w.last ≡ memory_of p a
    → Says p w r → IsChain p.size a drawn → IsChain p.size (scene_then (scene_of w) r a) (drawn_frame_of (scene_of w) r ++ drawn)
chain_step p w a drawn (reply.Drawn damage) holds honest rem last said chain =
    chain_drawn p w a drawn said.0 holds honest rem last said.1 chain (scene_of w) said.1 damage said.2
chain_step p w a drawn reply.Unchanged holds honest rem last said chain =
    subst (λ (o : Option Scene). IsChain p.size o drawn) (sym said.1) (chain_unchanged p w a drawn said.0 holds honest rem last said.1 chain said.2 said.3)
chain_step p w a drawn _ holds honest rem last said chain = chain

remembers_by : (p : Plan) (w : World) (e : Event) (o : Option Scene) → Holds w → RemembersAll o w → RemembersAll o (step_in p w e).world
remembers_by p w e None holds r = tt
remembers_by p w e (Some scene) holds r = remembers_step p w e scene holds r

seen_remembered : (w : World) (o : Option Scene) → Holds w → scene_of w ≡ o → RemembersAll o w
seen_remembered w None holds e = tt
seen_remembered w (Some scene) holds e = remembers_now w scene holds e

remembers_then : (w : World) (t : Bool) (a : Option Scene) → Holds w → RemembersAll a w → RemembersAll (elim t [ true ↦ scene_of w | false ↦ a ]) w
remembers_then w true a holds r = seen_remembered w (scene_of w) holds refl
remembers_then w false a holds r = r

-- Histories

drawn_frame_reversed : (o : Option Scene) (r : Reply) → reverse (drawn_frame_of o r) ≡ drawn_frame_of o r
drawn_frame_reversed o (reply.Drawn damage) = refl
drawn_frame_reversed o _ = refl

-- the drawings after an entry stand before it, newest first
drawn_frames_reversed : (o : Option Scene) (r : Reply) (later drawn : List DrawnFrame) → reverse (drawn_frame_of o r ++ later) ++ drawn ≡ reverse later ++ (drawn_frame_of o r ++ drawn)
drawn_frames_reversed o r later drawn =
    ap (λ (l : List DrawnFrame). l ++ drawn) (reverse-append (drawn_frame_of o r) later)
    ∙ (append_assoc (reverse later) (reverse (drawn_frame_of o r)) drawn ∙ ap (λ (l : List DrawnFrame). reverse later ++ (l ++ drawn)) (drawn_frame_reversed o r))

says_entry : (p : Plan) (w : World) (x : Entry) → x ≡ entry_in p w x.event → Says p w x.reply
unfolding entry_in
says_entry p w x made = subst (λ (y : Entry). Says p w y.reply) (sym made) (says_step p w x.event)

linked_from : (p : Plan) (w : World) (a : Option Scene) (drawn : List DrawnFrame) (h : List Entry) → LegalFrom p w h → Holds w
    → AreHonest (accepted_frames (world_from p w h)) → RemembersAll a w → w.last ≡ memory_of p a
    → IsChain p.size a drawn → AreLinked p.size (reverse (drawn_frames_from p w h) ++ drawn)
unfolding world_from drawn_frames_from LegalFrom
linked_from p w a drawn [] legal holds honest r last chain = linked_in p.size a drawn chain
linked_from p w a drawn (x ∷ h) legal holds honest r last chain =
    let after = (step_in p w x.event).world in
    let seen = scene_then (scene_of w) x.reply a in
    let more = grows_from p w (x ∷ h) holds in
    let here : AreHonest (accepted_frames w) = honest_front (accepted_frames w) more.0 (subst AreHonest more.1 honest) in
    subst (AreLinked p.size) (sym (drawn_frames_reversed (scene_of w) x.reply (drawn_frames_from p after h) drawn))
    (linked_from p after seen (drawn_frame_of (scene_of w) x.reply ++ drawn) h legal.2 (holds_step p w x.event holds) honest
    (remembers_by p w x.event seen holds (remembers_then w (is_aggregation x.reply) a holds r)) (last_then p w a x legal.1 last)
    (chain_step p w a drawn x.reply holds here r last (says_entry p w x legal.1) chain))

map_reverse : {A B : Type 0} (f : A → B) (xs : List A) → map f (reverse xs) ≡ reverse (map f xs)
map_reverse f [] = refl
map_reverse f (x ∷ xs) =
    ap (map f) (reverse-append (x ∷ []) xs)
    ∙ (map-append f (reverse xs) (x ∷ [])
    ∙ (ap (λ l. l ++ f x ∷ []) (map_reverse f xs) ∙ sym (reverse-append (f x ∷ []) (map f xs))))

-- each frame that is repainted inside the damage alone is the whole picture
pub written_is : (p : Plan) (h : List Entry) (n : ℕ) → IsPlan p → Legal p h → Honest p h → 1 ≤ n → written p h n ≡ frames p h
unfolding written frames drawn_frames Legal Honest world opening
written_is p h zero is legal honest l = absurd (omega (arith, l))
written_is p h (suc n) is legal honest l =
    let drawn = drawn_frames_from p (opening p) h in
    let linked : AreLinked p.size (reverse drawn) =
    subst (AreLinked p.size) (append-nil (reverse drawn)) (linked_from p (opening p) None [] h legal (holds_first p is) honest tt refl refl) in
    ap reverse (written_whole p.size n (reverse drawn) is.sizes linked)
    ∙ (sym (map_reverse (drawn_frame_picture p.size) (reverse drawn)) ∙ ap (map (drawn_frame_picture p.size)) (reverse-reverse drawn))
