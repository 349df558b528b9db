-- What each message of a client changes of what is kept of it.
use Rattle.std.proofs.Common.{◌≡◌, ℕ, Bool, true, false, ◌==◌, Option, Some, None, List, [], ◌∷◌, map, refl, sym, subst, cond, nat_eq, arith}
use Rattle.std.specs.Option.{option_map}
use Rattle.std.proofs.{lemmas.Bool.eqb-true, lemmas.Bool.Decides.nat_tests}
use Rattle.indexmap.specs.IndexMap.{insert_entry}
use Rattle.vz_ids.specs.declared.LocalSurfaceId.{LocalSurfaceId}
use Rattle.vz_pixels.specs.Block.{Block}
use Rattle.vz_frame.specs.{declared.frame.CompositorFrame.CompositorFrame, declared.message.Message.TheVariants.Close}
use Rattle.vz_rules.specs.{Plan.Plan, Kept.KeepsClients}
use Rattle.vz_rules.specs.World.{World, Client, Resource, client_at, resource_in}
use Rattle.vz_rules.specs.declared.entry.Refusal.TheVariants as refusal
use Rattle.vz_rules.specs.declared.entry.Reply.TheVariants as reply
use Rattle.vz_rules.specs.Messages.{says, refused, took, taking, reclaim, answer_tick, submitting, lend, in_use, put_resource, upload_answer, accepted, message_answer}
use Rattle.vz_support.specs.Sent.{Sender, sender_at, taking_one, closing, answered_by, block_in, storing_block}
use Rattle.vz_support.specs.{Changed.ChangesOne, Sending.IsSender, Sending.AreSenders}
use Rattle.vz_support.proofs.Sending.{IsAlike, alike_sends, took_sends, blocks_kept, one_changes}
use Rattle.vz_rules.proofs.Facts.{flip as symmetric}

-- a client that took a message and is otherwise alike
took_alike : (p : Plan) (x y : Client) (s : Sender) → IsAlike x y → IsSender p x s → IsSender p (took y) (taking_one s)
took_alike p x y s a h = took_sends p y s (alike_sends p x y s a h)

reclaimed_alike : (x : Client) → IsAlike x (reclaim x)
reclaimed_alike x = grind (arith, nat_tests, blocks_kept)

-- Blocks that are stored

-- the entry of an id is the new one
put_in_map : (id i : ℕ) (block : Block) (es : List (ℕ × Block)) → block_in (insert_entry nat_eq es id block) i ≡ cond (i == id) (Some block) (block_in es i)
put_in_map id i block [] = refl
put_in_map id i block (e ∷ es) = grind (arith, nat_tests, put_in_map id i block es, eqb-true id e.0, eqb-true i e.0, symmetric e.0 id)

abbrev read : Option Resource → Option Block
read = option_map (λ (r : Resource). r.block)

-- and the resource of an id has it
put_in_list : (id i : ℕ) (block : Block) (rs : List Resource) → read (resource_in i (put_resource id block rs)) ≡ cond (i == id) (Some block) (read (resource_in i rs))
put_in_list id i block [] = grind (arith, nat_tests, symmetric i id)
put_in_list id i block (r ∷ rs) = grind (arith, nat_tests, put_in_list id i block rs, symmetric i id, eqb-true r.id id, eqb-true r.id i)

stored_sends : (p : Plan) (x : Client) (id : ℕ) (block : Block) (s : Sender) → IsSender p x s
    → IsSender p (took (record x { resources = put_resource id block x.resources })) (storing_block id block (taking_one s))
stored_sends p x id block s i = grind (arith, nat_tests, took_sends p x s i, put_in_map id, put_in_list id)

-- A tick that is answered

ticked_sends : (p : Plan) (y : Client) (tick n : ℕ) (s : Sender) → IsSender p (took y) s → IsSender p (took (answer_tick tick n y)) (answered_by tick n s)
ticked_sends p y tick n s i = grind (arith, nat_tests)

lent_alike : (x : Client) (frame : CompositorFrame) → IsAlike x (record x { resources = map (lend frame.resources) x.resources })
lent_alike x frame = grind (arith, nat_tests, blocks_kept (lend frame.resources))

ticked_number : (t : Bool) (tick : ℕ) (y : Client) → (cond t (record y { answered = tick }) y).number ≡ y.number
ticked_number true tick y = refl
ticked_number false tick y = refl

module _ (p : Plan) (w : World) (x : Client) (old new : List Sender) (keeps : KeepsClients w.clients) (h : AreSenders p w old) (here : client_at w x.number ≡ Some x) where
  pub follows_plain : ChangesOne x.number taking_one old new → AreSenders p (taking (λ y. y) x w) new
  follows_plain changes =
      one_changes p w (taking (λ y. y) x w) x (λ y. y) taking_one old new keeps here changes (took_sends p x (sender_at old x.number)) h refl (λ y. refl)

  pub follows_reclaim : ChangesOne x.number taking_one old new → AreSenders p (taking reclaim x w) new
  follows_reclaim changes =
      one_changes p w (taking reclaim x w) x reclaim taking_one old new keeps here changes (took_alike p x (reclaim x) (sender_at old x.number) (reclaimed_alike x)) h refl (λ y. refl)

  pub follows_begun : ChangesOne x.number taking_one old new → AreSenders p (taking (λ (y : Client). record y { delivered = None }) x w) new
  follows_begun changes =
      one_changes p w (taking (λ (y : Client). record y { delivered = None }) x w) x (λ y. record y { delivered = None }) taking_one old new keeps here changes
      (took_alike p x (record x { delivered = None }) (sender_at old x.number) (record { number = refl; sink = refl; taken = refl; closed = refl; answered = refl; blocks = λ id. refl }))
      h refl (λ y. refl)

  closed_sends : IsSender p x (sender_at old x.number) → IsSender p (took (record x { closed = true })) (closing (taking_one (sender_at old x.number)))
  closed_sends i = grind (arith, nat_tests, took_sends p x (sender_at old x.number) i)

  pub follows_closed : ChangesOne x.number (λ s. closing (taking_one s)) old new → AreSenders p (message_answer w x Close).world new
  unfolding message_answer
  follows_closed changes =
      one_changes p w (message_answer w x Close).world x (λ y. record y { closed = true }) (λ s. closing (taking_one s)) old new keeps here changes closed_sends h refl (λ y. refl)

pub follows_stored : (p : Plan) (w : World) (x : Client) (id : ℕ) (block : Block) (old new : List Sender) → KeepsClients w.clients → AreSenders p w old → client_at w x.number ≡ Some x
    → in_use x.resources id ≡ false → ChangesOne x.number (λ s. storing_block id block (taking_one s)) old new → AreSenders p (upload_answer w x id block).world new
unfolding upload_answer
follows_stored p w x id block old new keeps h here free changes =
    let put : Client → Client = λ y. record y { resources = put_resource id block y.resources } in
    subst (λ (t : Bool). AreSenders p (cond t (refused w x refusal.InUse) (says reply.Stored (taking put x w))).world new) (sym free)
    (one_changes p w (taking put x w) x put (λ s. storing_block id block (taking_one s)) old new keeps here changes (stored_sends p x id block (sender_at old x.number)) h refl (λ y. refl))

pub follows_noted : (p : Plan) (w : World) (x : Client) (n : ℕ) (old new : List Sender) → KeepsClients w.clients → AreSenders p w old → client_at w x.number ≡ Some x
    → ChangesOne x.number (λ s. answered_by w.tick n (taking_one s)) old new → AreSenders p (taking (answer_tick w.tick n) x w) new
follows_noted p w x n old new keeps h here changes =
    one_changes p w (taking (answer_tick w.tick n) x w) x (answer_tick w.tick n) (λ s. answered_by w.tick n (taking_one s)) old new keeps here changes
    (λ i. ticked_sends p x w.tick n (taking_one (sender_at old x.number)) (took_sends p x (sender_at old x.number) i)) h refl (λ y. ticked_number (n == w.tick) w.tick y)

pub follows_accepted : (p : Plan) (w : World) (x : Client) (local : LocalSurfaceId) (frame : CompositorFrame) (old new : List Sender) → KeepsClients w.clients → AreSenders p w old
    → client_at w x.number ≡ Some x → ChangesOne x.number (λ s. answered_by w.tick frame.metadata.ack (taking_one s)) old new → AreSenders p (accepted w x local frame).world new
unfolding accepted
follows_accepted p w x local frame old new keeps h here changes =
    one_changes p w (accepted w x local frame).world x (submitting w frame) (λ s. answered_by w.tick frame.metadata.ack (taking_one s)) old new keeps here changes
    (λ i. ticked_sends p (record x { resources = map (lend frame.resources) x.resources }) w.tick frame.metadata.ack (taking_one (sender_at old x.number))
    (took_alike p x (record x { resources = map (lend frame.resources) x.resources }) (sender_at old x.number) (lent_alike x frame) i))
    h refl (λ y. ticked_number (frame.metadata.ack == w.tick) w.tick (record y { resources = map (lend frame.resources) y.resources }))
