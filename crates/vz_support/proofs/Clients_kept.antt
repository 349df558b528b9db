-- What leaves clients' messages and blocks as they are, and what is read of them.
use Rattle.std.proofs.Common.{◌≡◌, ℕ, zero, suc, ◌+◌, ◌-◌, Bool, true, false, not, ◌&&◌, ◌==◌, Option, Some, None, is_some, List, [], ◌∷◌, map, find, drop, length, get_or, slice_get, refl, ap, sym, ◌∙◌, subst, cond, nat_lt, arith}
use Rattle.std.specs.{Option.option_map, Option.option_map_or, Option.option_and_then, List.list_any, List.list_all, List.filter_map}
use Rattle.std.proofs.{lemmas.Bool.eqb-true, lemmas.Bool.and_parts, lemmas.Option.get_or_from_slice_get as got, lemmas.Bool.Decides.nat_tests}
use Rattle.vz_ids.specs.declared.Sub.{Sub}
use Rattle.vz_pixels.specs.Block.{Block}
use Rattle.vz_frame.specs.{declared.frame.CompositorFrame.CompositorFrame, declared.frame.Listing.Listing, declared.message.ClientFile.ClientFile}
use Rattle.vz_frame.specs.Frame.{first_of}
use Rattle.vz_rules.specs.{Plan.Plan, Settle.round}
use Rattle.vz_rules.specs.World.{World, Client, Surface, Submission, Scene, Resource, client_at, file_of, next_message, resource_in, new_client, new_clients, opening}
use Rattle.vz_rules.specs.{Kept.AreRising, Messages.Answer, Messages.says, Messages.is_unknown, Messages.blocks_of, Singly.rising, Singly.going}
use Rattle.vz_rules.specs.{Scene.scene_of, Reach.naming, Returns.queue_returns, Returns.give_back, Returns.feed, Walk.walk_of, Walk.too_much}
use Rattle.vz_rules.specs.declared.entry.Reply.TheVariants as reply
use Rattle.vz_rules.specs.Step.{deliver, is_attached, next_tick, begin_answer, scene_answer, draw_answer, done_answer}
use Rattle.vz_rules.proofs.{Members.find_at, Members.contains_at, Kept_first.client_at_first, Facts.or_false, Facts.map_at as mapped}
use Rattle.vz_support.specs.Sent.{Sender, opened, nobody, sender_at, block_in, knows, blocks_in}
use Rattle.vz_support.specs.Sending.{left_in, IsSender, AreSenders}
use Rattle.vz_support.proofs.Sending.{IsAlike, blocks_kept, all_alike}

-- The world's clients stay

pub same_clients : (p : Plan) (w v : World) (list : List Sender) → v.clients ≡ w.clients → AreSenders p w list → AreSenders p v list
same_clients p w v list e h =
    record { count = h.count ∙ ap length (sym e); each = λ c x at. h.each c x (ap (find (λ (z : Client). z.number == c)) (sym e) ∙ at) }

pub stays_rising : (p : Plan) (w : World) (s : Submission) (list : List Sender) → AreSenders p w list → AreSenders p (rising s w) list
unfolding rising
stays_rising p w s list h = same_clients p w (rising s w) list refl h

pub stays_round : (p : Plan) (w : World) (list : List Sender) → AreSenders p w list → AreSenders p (round w) list
unfolding round
stays_round p w list h = same_clients p w (round w) list refl h

pub stays_named : (p : Plan) (w : World) (list : List Sender) → AreSenders p w list → AreSenders p (naming w) list
unfolding naming
stays_named p w list h = same_clients p w (naming w) list refl h

pub stays_going : (p : Plan) (w : World) (c : Surface) (list : List Sender) → AreSenders p w list → AreSenders p (going c w) list
unfolding going
stays_going p w c list h = same_clients p w (going c w) list refl h

pub stays_fed : (p : Plan) (w : World) (presented : List Sub) (list : List Sender) → AreSenders p w list → AreSenders p (feed presented w) list
unfolding feed
stays_fed p w presented list h = same_clients p w (feed presented w) list refl h

pub stays_done : (p : Plan) (w : World) (list : List Sender) → AreSenders p w list → AreSenders p (done_answer w).world list
unfolding done_answer
stays_done p w list h = by (is_some w.in_flight)
  where
    by : (t : Bool) → AreSenders p (cond t (says reply.Shown (record w { in_flight = None })) (says reply.Nothing w)).world list
    by true = same_clients p w (record w { in_flight = None }) list refl h
    by false = h

either_same : (t : Bool) (a b : Answer) (w : World) → a.world.clients ≡ w.clients → b.world.clients ≡ w.clients → (cond t a b).world.clients ≡ w.clients
either_same true a b w e f = e
either_same false a b w e f = f

scene_same : (p : Plan) (w : World) (scene : Scene) → (scene_answer p w scene).world.clients ≡ w.clients
unfolding scene_answer
scene_same p w scene = grind (arith, nat_tests, either_same (too_much (walk_of p.size scene)), either_same)

maybe_same : (p : Plan) (w : World) (o : Option Scene) → (elim o as (λ o. Answer) [ Some scene ↦ scene_answer p w scene | None ↦ says reply.NoRoot w ]).world.clients ≡ w.clients
maybe_same p w None = refl
maybe_same p w (Some scene) = scene_same p w scene

pub stays_drawn : (p : Plan) (w : World) (list : List Sender) → AreSenders p w list → AreSenders p (draw_answer p w).world list
unfolding draw_answer
stays_drawn p w list h = same_clients p w _ list (either_same (is_some w.in_flight) _ _ w refl (maybe_same p w (scene_of w))) h

-- Changes that are none of their messages and blocks

delivered_alike : (t : Bool) (n : ℕ) (x : Client) → IsAlike x (cond t (record x { delivered = Some n }) x)
delivered_alike true n x = record { number = refl; sink = refl; taken = refl; closed = refl; answered = refl; blocks = λ id. refl }
delivered_alike false n x = record { number = refl; sink = refl; taken = refl; closed = refl; answered = refl; blocks = λ id. refl }

pub stays_begun : (p : Plan) (w : World) (list : List Sender) → AreSenders p w list → AreSenders p (begin_answer p w).world list
unfolding begin_answer
stays_begun p w list h =
    all_alike p w (begin_answer p w).world (deliver p w (next_tick w.tick)) list refl (λ x. delivered_alike (is_attached p w x && not x.closed) (next_tick w.tick) x) h

queued_id : (t : Bool) (r : Resource) → (cond t (record r { queued = r.lent }) r).id ≡ r.id
queued_id true r = refl
queued_id false r = refl

queued_block : (t : Bool) (r : Resource) → (cond t (record r { queued = r.lent }) r).block ≡ r.block
queued_block true r = refl
queued_block false r = refl

pub stays_given : (p : Plan) (w : World) (list : List Sender) → AreSenders p w list → AreSenders p (give_back w) list
unfolding give_back
stays_given p w list h = grind (arith, nat_tests, all_alike p w (give_back w) (queue_returns w) list refl, blocks_kept, queued_id, queued_block)

-- What is read

first_at : {A : Type 0} (n : ℕ) (xs : List A) → first_of (drop n xs) ≡ slice_get xs n
first_at zero [] = refl
first_at zero (x ∷ xs) = refl
first_at (suc n) [] = refl
first_at (suc n) (x ∷ xs) = first_at n xs

first_left : (o : Option ClientFile) (n : ℕ) → first_of (left_in o n) ≡ option_and_then (λ (f : ClientFile). slice_get f.messages n) o
first_left None n = refl
first_left (Some f) n = first_at n f.messages

pub tells_next : (p : Plan) (w : World) (x : Client) (list : List Sender) → AreSenders p w list → client_at w x.number ≡ Some x → first_of (sender_at list x.number).left ≡ next_message p x
tells_next p w x list h here = ap first_of (h.each x.number x here).left ∙ first_left (file_of p x.number) x.taken

read_same : (blocks : List (ℕ × Block)) (rs : List Resource) (ls : List Listing) → ((id : ℕ) → block_in blocks id ≡ option_map (λ (r : Resource). r.block) (resource_in id rs))
    → filter_map (λ (l : Listing). option_map (λ (s : Resource). s.block) (resource_in l.id rs)) ls ≡ blocks_in blocks ls
read_same blocks rs [] e = refl
read_same blocks rs (l ∷ ls) e = grind (arith, nat_tests, read_same blocks rs ls e)

pub tells_blocks : (p : Plan) (w : World) (x : Client) (frame : CompositorFrame) (list : List Sender) → AreSenders p w list → client_at w x.number ≡ Some x
    → blocks_of x.resources frame ≡ blocks_in (sender_at list x.number).blocks frame.resources
tells_blocks p w x frame list h here = read_same (sender_at list x.number).blocks x.resources frame.resources (h.each x.number x here).blocks

abbrev serves : Listing → Resource → Bool
serves l s = (s.id == l.id) && (s.block.w == l.w) && (s.block.h == l.h)

-- of rising resources one at most has an id, the first that is found
none_serves : (l : Listing) (rs : List Resource) → list_all (λ (t : Resource). nat_lt l.id t.id) rs ≡ true → list_any (serves l) rs ≡ false
none_serves l [] h = refl
none_serves l (r ∷ rs) h = grind (arith, nat_tests, and_parts (nat_lt l.id r.id), none_serves l rs, eqb-true r.id l.id)

served : (l : Listing) (rs : List Resource) → AreRising rs → list_any (serves l) rs ≡ option_map_or (λ (b : Block). (b.w == l.w) && (b.h == l.h)) (option_map (λ (r : Resource). r.block) (resource_in l.id rs)) false
served l [] up = refl
served l (r ∷ rs) up = grind (arith, nat_tests, served l rs up.1, none_serves l rs, eqb-true r.id l.id, or_false)

all_known : (blocks : List (ℕ × Block)) (rs : List Resource) (ls : List Listing) → AreRising rs → ((id : ℕ) → block_in blocks id ≡ option_map (λ (r : Resource). r.block) (resource_in id rs))
    → list_any (is_unknown rs) ls ≡ not (list_all (knows blocks) ls)
all_known blocks rs [] up e = refl
all_known blocks rs (l ∷ ls) up e = grind (arith, nat_tests, served l rs up, all_known blocks rs ls up e)

pub tells_unknown : (p : Plan) (w : World) (x : Client) (frame : CompositorFrame) (list : List Sender) → AreRising x.resources → AreSenders p w list → client_at w x.number ≡ Some x
    → list_any (is_unknown x.resources) frame.resources ≡ not (list_all (knows (sender_at list x.number).blocks) frame.resources)
tells_unknown p w x frame list up h here = all_known (sender_at list x.number).blocks x.resources frame.resources up (h.each x.number x here).blocks

-- The opening

count_new : (k : ℕ) (files : List ClientFile) → length (map opened files) ≡ length (new_clients k files)
count_new k [] = refl
count_new k (f ∷ files) = ap (λ n. suc n) (count_new (k + 1) files)

opens_as : (p : Plan) (x : Client) (f : ClientFile) → file_of p x.number ≡ Some f → x ≡ new_client x.number f.sink → IsSender p x (opened f)
opens_as p x f e is = grind (arith, nat_tests)

pub opens : (p : Plan) → AreSenders p (opening p) (map opened p.files)
unfolding opening
opens p =
    record {
      count = count_new 1 p.files;
      each = λ c x at.
          let found = find_at (λ (z : Client). z.number == c) (new_clients 1 p.files) x at in
          let n = contains_at (new_clients 1 p.files) x found.0 in
          let first = client_at_first p.files 1 n.0 x n.1 in
          let number : x.number ≡ 1 + n.0 = ap (λ (y : Client). y.number) first.2 in
          let same : x.number ≡ c = eqb-true x.number c found.1 in
          let place : c - 1 ≡ n.0 = omega (arith, number, same) in
          let file : file_of p x.number ≡ Some first.0 = ap (λ k. slice_get p.files (k - 1)) same ∙ (ap (slice_get p.files) place ∙ first.1) in
          subst (IsSender p x) (sym (ap (λ k. get_or (map opened p.files) k nobody) place ∙ got (map opened p.files) n.0 (opened first.0) nobody (mapped opened p.files n.0 first.0 first.1)))
          (opens_as p x first.0 file (first.2 ∙ ap (λ k. new_client k first.0.sink) (sym number)));
    }
