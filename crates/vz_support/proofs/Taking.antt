-- What is kept for a client changes with the message that it takes.
use Rattle.std.proofs.Common.{◌≡◌, ℕ, ◌≤◌, Bool, true, false, ◌==◌, Option, Some, List, [], ◌∷◌, map, refl, ap, sym, ◌∙◌, subst, cond, arith}
use Rattle.std.proofs.{lemmas.Bool.eq-eqb, lemmas.Bool.Decides.nat_tests}
use Rattle.vz_pixels.specs.Block.{Block}
use Rattle.vz_frame.specs.declared.message.Message.{Message}
use Rattle.vz_frame.specs.{declared.message.Message.TheVariants.DidNotProduce, declared.message.Message.TheVariants.Close, Frame.first_of}
use Rattle.vz_rules.specs.declared.entry.Reply.TheVariants as reply
use Rattle.vz_rules.specs.declared.entry.Refusal.TheVariants as refusal
use Rattle.vz_rules.specs.{Plan.Plan, World.World, World.Client, World.client_at, World.change_client}
use Rattle.vz_rules.specs.Messages.{took, taking, says, refused, reclaim, answer_tick, in_use, put_resource, upload_answer, message_answer}
use Rattle.vz_rules.proofs.{Cases.number_at, Members.when_same}
use Rattle.vz_support.specs.Sent.{Sender, sender_at, taking_one, closing, answered_by, storing_block}
use Rattle.vz_support.specs.{Changed.ChangesOne, Sending.AreSenders, Supporting.Supported, Supporting.IsSupport, Supporting.Sends}
use Rattle.vz_support.proofs.{Sending.some_number, Support_kept.same_seats, Support_kept.related_by, Asking.next_same}
use Rattle.vz_support.proofs.Messaging.{follows_plain, follows_reclaim, follows_noted, follows_stored, follows_closed}
use Rattle.vz_sinks.specs.Relating.{Related, seat_of, close_one}

pub same_number : (a b : ℕ) → ◌≡◌ {A = Option Message} (Some (DidNotProduce a)) (Some (DidNotProduce b)) → a ≡ b
same_number a b e = cc

-- Two changes of one client

twice : {A : Type 0} (t : Bool) (a b d : A) → cond t a (cond t b d) ≡ cond t a d
twice true a b d = refl
twice false a b d = refl

pub two_changes : (c : ℕ) (f g : Sender → Sender) (a b d : List Sender) → 1 ≤ c → ChangesOne c f a b → ChangesOne c g b d
    → ChangesOne c (λ s. g (f s)) a d
two_changes c f g a b d some first second = grind (arith, nat_tests, eq-eqb c c refl, twice)

-- The seats

-- a message that a client takes leaves its seat where what changes of the client is none of it
took_seats : (f : Client → Client) (c : ℕ) (xs : List Client) → ((y : Client) → seat_of (f y) ≡ seat_of y)
    → map seat_of (change_client (λ y. took (f y)) c xs) ≡ map seat_of xs
took_seats f c xs e =
    same_seats (λ y. cond (y.number == c) (took (f y)) y) xs (λ y. when_same seat_of (λ z. took (f z)) (y.number == c) y (e y))

one_closed : (t : Bool) (x : Client)
    → seat_of (cond t (took (record x { closed = true })) x) ≡ cond t (record (seat_of x) { closed = true }) (seat_of x)
one_closed true x = refl
one_closed false x = refl

closed_seats : (c : ℕ) (xs : List Client)
    → map seat_of (change_client (λ (y : Client). took (record y { closed = true })) c xs) ≡ map (close_one c) (map seat_of xs)
closed_seats c [] = refl
closed_seats c (x ∷ xs) = λ i. one_closed (x.number == c) x i ∷ closed_seats c xs i

-- Messages

-- a client takes a message that leaves its seat
pub takes : (p : Plan) (w : World) (v : Supported) (x : Client) (f : Client → Client) (new : List Sender)
    → ((y : Client) → seat_of (f y) ≡ seat_of y)
    → AreSenders p (taking f x w) new → IsSupport p w v → IsSupport p (taking f x w) (record v { clients = new })
takes p w v x f new e senders is = grind (arith, nat_tests, related_by v.sinks.first w (taking f x w) (took_seats f x.number w.clients e) refl, took_seats f x.number w.clients e)

pub ticked_seat : (t : Bool) (tick : ℕ) (y : Client) → seat_of (cond t (record y { answered = tick }) y) ≡ seat_of y
ticked_seat true tick y = refl
ticked_seat false tick y = refl

module _ (p : Plan) (w : World) (v : Supported) (c : ℕ) (x : Client) (m : Message) (sends : Sends p w c x m) (is : IsSupport p w v) where
  pub number_is : x.number ≡ c
  number_is = number_at w c x sends.here

  pub here_is : client_at w x.number ≡ Some x
  here_is = ap (client_at w) number_is ∙ sends.here

  pub some_is : 1 ≤ c
  some_is = some_number w.clients c x sends.keeps.clients sends.here

  pub sent_is : first_of (sender_at v.clients c).left ≡ Some m
  sent_is = next_same p w v c x is sends.here ∙ sends.next

  pub changes_at : (g : Sender → Sender) (new : List Sender) → ChangesOne c g v.clients new → ChangesOne x.number g v.clients new
  changes_at g new = subst (λ n. ChangesOne n g v.clients new) (sym number_is)

  pub takes_plain : (new : List Sender) → ChangesOne c taking_one v.clients new
      → IsSupport p (taking (λ y. y) x w) (record v { clients = new })
  takes_plain new changes =
      takes p w v x (λ y. y) new (λ y. refl)
      (follows_plain p w x v.clients new sends.keeps.clients is.clients here_is (changes_at taking_one new changes)) is

  pub takes_returns : (new : List Sender) → ChangesOne c taking_one v.clients new
      → IsSupport p (taking reclaim x w) (record v { clients = new })
  takes_returns new changes =
      takes p w v x reclaim new (λ y. refl)
      (follows_reclaim p w x v.clients new sends.keeps.clients is.clients here_is (changes_at taking_one new changes)) is

  -- the tick is noted
  pub noted_at : (n : ℕ) (new : List Sender) → ChangesOne c (λ s. answered_by v.tick n (taking_one s)) v.clients new
      → ChangesOne x.number (λ s. answered_by w.tick n (taking_one s)) v.clients new
  noted_at n new changes =
      subst (λ t. ChangesOne x.number (λ s. answered_by t n (taking_one s)) v.clients new) is.tick
      (changes_at (λ s. answered_by v.tick n (taking_one s)) new changes)

  pub takes_answer : (n : ℕ) (mid new : List Sender) → ChangesOne c taking_one v.clients mid → ChangesOne c (answered_by v.tick n) mid new
      → IsSupport p (taking (answer_tick w.tick n) x w) (record v { clients = new })
  takes_answer n mid new first second =
      takes p w v x (answer_tick w.tick n) new (λ y. ticked_seat (n == w.tick) w.tick y)
      (follows_noted p w x n v.clients new sends.keeps.clients is.clients here_is
      (noted_at n new (two_changes c taking_one (answered_by v.tick n) v.clients mid new some_is first second)))
      is

  pub takes_block : (id : ℕ) (block : Block) (new : List Sender) → in_use x.resources id ≡ false
      → ChangesOne c (λ s. storing_block id block (taking_one s)) v.clients new
      → IsSupport p (upload_answer w x id block).world (record v { clients = new })
  unfolding upload_answer
  takes_block id block new free changes =
      by (follows_stored p w x id block v.clients new sends.keeps.clients is.clients here_is free
      (changes_at (λ s. storing_block id block (taking_one s)) new changes))
    where
      put : Client → Client
      put y = record y { resources = put_resource id block y.resources }

      by : AreSenders p (upload_answer w x id block).world new → IsSupport p (upload_answer w x id block).world (record v { clients = new })
      by = subst
          (λ (t : Bool). AreSenders p (cond t (refused w x refusal.InUse) (says reply.Stored (taking put x w))).world new
          → IsSupport p (cond t (refused w x refusal.InUse) (says reply.Stored (taking put x w))).world (record v { clients = new }))
          (sym free) (λ senders. takes p w v x put new (λ y. refl) senders is)

  pub closes : (mid new : List Sender) (sinks : Related) → ChangesOne c taking_one v.clients mid → ChangesOne c closing mid new
      → sinks.first ≡ v.sinks.first → sinks.seats ≡ map (close_one c) v.sinks.seats → sinks.relations ≡ v.sinks.relations
      → IsSupport p (message_answer w x Close).world (record v { clients = new; sinks = sinks })
  unfolding message_answer
  closes mid new sinks first second same seats relations =
      record {
        clients =
            follows_closed p w x v.clients new sends.keeps.clients is.clients here_is
            (changes_at (λ s. closing (taking_one s)) new (two_changes c taking_one closing v.clients mid new some_is first second));
        first = is.first ∙ ap (λ z. Some z) (sym same);
        sinks =
            λ i. record {
              first = sinks.first;
              seats = closed_is i;
              relations = (relations ∙ ap (λ (r : Related). r.relations) is.sinks) i;
            };
        tick = is.tick;
        root = is.root;
        over = is.over;
      }
    where
      closed_is : sinks.seats ≡ map seat_of (change_client (λ (y : Client). took (record y { closed = true })) x.number w.clients)
      closed_is =
          seats
          ∙ ((λ i. map (close_one (sym number_is i)) (ap (λ (r : Related). r.seats) is.sinks i)) ∙ sym (closed_seats x.number w.clients))
