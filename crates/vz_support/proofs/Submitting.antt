-- Submissions that are accepted or given back, and what is asked for them.
use Rattle.std.proofs.Common.{◌≡◌, ℕ, suc, ◌+◌, ◌-◌, ◌≤◌, Bool, true, false, not, ◌&&◌, ◌||◌, ◌==◌, Option, Some, List, [], ◌∷◌, drop}
use Rattle.std.proofs.Common.{length, get_or, slice_get, refl, ap, sym, ◌∙◌, subst, cond, arith}
use Rattle.std.specs.List.{list_any, list_all}
use Rattle.std.proofs.{lemmas.Bool.eqb-true, lemmas.Bool.Decides.nat_tests}
use Rattle.vz_ids.specs.{declared.FrameSinkId.FrameSinkId, declared.LocalSurfaceId.LocalSurfaceId, Ids.same_sink}
use Rattle.vz_frame.specs.{declared.frame.CompositorFrame.CompositorFrame, declared.message.Message.TheVariants.Submit, Frame.first_of}
use Rattle.vz_frame.specs.{declared.frame.Listing.Listing, declared.message.Message.Message}
use Rattle.vz_rules.specs.{Plan.Plan, World.World, World.Client, World.client_at, Kept.KeepsClients, Kept.AreRising}
use Rattle.vz_rules.specs.Messages.{taking, submitting, accepted, is_unknown, blocks_of}
use Rattle.vz_rules.proofs.{Cases.number_at, Members.at_contains, Members.at_within, Members.find_at}
use Rattle.vz_support.specs.Sent.{Sender, nobody, sender_at, taking_one, giving_back, answered_by, knows, blocks_in}
use Rattle.vz_support.specs.Changed.{ChangesOne}
use Rattle.vz_support.specs.{Sending.IsSender, Sending.AreSenders, Supporting.Supported, Supporting.IsSupport, Supporting.HasTaken, Supporting.Sends}
use Rattle.vz_support.proofs.{Sending.some_number, Asking.numbered_there, Requesting.same_client}
use Rattle.vz_support.proofs.{Clients_kept.tells_unknown, Clients_kept.tells_blocks, Messaging.follows_accepted, Support_kept.stays_like}
use Rattle.vz_support.proofs.Taking.{two_changes, takes, ticked_seat, here_is, some_is, sent_is, noted_at}

-- Accepted

module _ (p : Plan) (w : World) (c : ℕ) (x : Client) (local : LocalSurfaceId) (frame : CompositorFrame) (before v : Supported)
    (sends : Sends p w c x (Submit frame local)) (is : IsSupport p w before) (taken : HasTaken c before v) where
  same_tick : v.tick ≡ before.tick
  same_tick = ap (λ (z : Supported). z.tick) taken.kept

  noted : (new : List Sender) → ChangesOne c (answered_by v.tick frame.metadata.ack) v.clients new
      → ChangesOne x.number (λ s. answered_by w.tick frame.metadata.ack (taking_one s)) before.clients new
  noted new changes =
      noted_at p w before c x (Submit frame local) sends is frame.metadata.ack new
      (two_changes c taking_one (answered_by before.tick frame.metadata.ack) before.clients v.clients new
      (some_is p w before c x (Submit frame local) sends is) taken.changes
      (subst (λ t. ChangesOne c (answered_by t frame.metadata.ack) v.clients new) same_tick changes))

  accepts_before : (new : List Sender) → AreSenders p (accepted w x local frame).world new
      → IsSupport p (accepted w x local frame).world (record before { clients = new })
  unfolding accepted
  accepts_before new senders = grind (arith, nat_tests, stays_like p (taking (submitting w frame) x w) (accepted w x local frame).world, takes p w before x (submitting w frame) new, ticked_seat)

  pub accepts : (new : List Sender) → ChangesOne c (answered_by v.tick frame.metadata.ack) v.clients new
      → IsSupport p (accepted w x local frame).world (record v { clients = new })
  accepts new changes =
      subst (λ (z : Supported). IsSupport p (accepted w x local frame).world (record z { clients = new })) (sym taken.kept)
      (accepts_before new
      (follows_accepted p w x local frame before.clients new sends.keeps.clients is.clients
      (here_is p w before c x (Submit frame local) sends is) (noted new changes)))

-- Given back

whole : (m : Message) (xs : List Message) → first_of xs ≡ Some m → m ∷ drop 1 xs ≡ xs
whole m [] e = absurd (cc)
whole m (y ∷ xs) e = let same : y ≡ m = cc in ap (λ z. z ∷ xs) (sym same)

-- what was taken and is given back is as before
restored : (m : Message) (s : Sender) → first_of s.left ≡ Some m → giving_back m (taking_one s) ≡ s
restored m s e = grind (arith, nat_tests, whole m s.left e)

back_at : (c q : ℕ) (s : Sender) (old : List Sender) → s ≡ sender_at old c → (t : Bool) → (q == c) ≡ t
    → cond t s (sender_at old q) ≡ sender_at old q
back_at c q s old e true is = e ∙ ap (sender_at old) (sym (eqb-true q c is))
back_at c q s old e false is = refl

module _ (p : Plan) (w : World) (c : ℕ) (x : Client) (m : Message) (before v : Supported)
    (sends : Sends p w c x m) (is : IsSupport p w before) (taken : HasTaken c before v) where
  all_back : (new : List Sender) → ChangesOne c (giving_back m) v.clients new → (q : ℕ) → 1 ≤ q
      → sender_at new q ≡ sender_at before.clients q
  all_back new changes q one =
      let both = two_changes c taking_one (giving_back m) before.clients v.clients new (some_is p w before c x m sends is) taken.changes
      changes in
      both.each q one
      ∙ back_at c q (giving_back m (taking_one (sender_at before.clients c))) before.clients
      (restored m (sender_at before.clients c) (sent_is p w before c x m sends is)) (q == c) refl

  pub gives_back : (new : List Sender) → ChangesOne c (giving_back m) v.clients new → IsSupport p w (record v { clients = new })
  gives_back new changes =
      subst (λ (z : Supported). IsSupport p w (record z { clients = new })) (sym taken.kept)
      (record {
        clients = record {
          count = changes.count ∙ (taken.changes.count ∙ is.clients.count);
          each = λ q z at.
              subst (IsSender p z) (sym (all_back new changes q (some_number w.clients q z sends.keeps.clients at)))
              (is.clients.each q z at);
        };
        first = is.first;
        sinks = is.sinks;
        tick = is.tick;
        root = is.root;
        over = is.over;
      })

-- What is asked

pub same_submission : (a b : LocalSurfaceId) (f g : CompositorFrame) → ◌≡◌ {A = Option Message} (Some (Submit f a)) (Some (Submit g b))
    → (a ≡ b) × (f ≡ g)
same_submission a b f g e = (cc, cc)

pub unknown_same : (p : Plan) (w : World) (v : Supported) (c : ℕ) (x : Client) (frame : CompositorFrame) (ls : List Listing) (b : Bool)
    → AreRising x.resources → IsSupport p w v
    → client_at w c ≡ Some x → frame.resources ≡ ls → b ≡ list_all (knows (sender_at v.clients c).blocks) ls
    → not b ≡ list_any (is_unknown x.resources) frame.resources
unknown_same p w v c x frame ls b up is here same e = grind (arith, nat_tests, number_at w c x here, tells_unknown p w x frame v.clients up is.clients)

pub blocks_same : (p : Plan) (w : World) (v : Supported) (c : ℕ) (x : Client) (frame : CompositorFrame) (ls : List Listing)
    → IsSupport p w v
    → client_at w c ≡ Some x → frame.resources ≡ ls → blocks_in (sender_at v.clients c).blocks ls ≡ blocks_of x.resources frame
blocks_same p w v c x frame ls is here same = grind (arith, nat_tests, number_at w c x here, tells_blocks p w x frame v.clients is.clients)

-- a client is found by its place
at_place : (w : World) (n : ℕ) (x : Client) → KeepsClients w.clients → slice_get w.clients n ≡ Some x → client_at w (n + 1) ≡ Some x
at_place w n x keeps at =
    let low : 1 ≤ n + 1 = omega arith in
    let within = at_within w.clients n x at in
    let high : n + 1 ≤ length w.clients = omega (arith, within) in
    let there = numbered_there w (n + 1) keeps low high in
    let found = find_at (λ (z : Client). z.number == n + 1) w.clients there.0 there.1 in
    there.1
    ∙ ap (λ z. Some z)
    (same_client w.clients there.0 x keeps found.0 (at_contains w.clients n x at)
    (eqb-true there.0.number (n + 1) found.1 ∙ sym (keeps.numbered n x at)))

-- a test that holds of what is kept as of the clients, place by place
any_same : (f : Sender → Bool) (g : Client → Bool) (list : List Sender) (xs : List Client) → length list ≡ length xs
    → ((n : ℕ) (x : Client) → slice_get xs n ≡ Some x → f (get_or list n nobody) ≡ g x) → list_any f list ≡ list_any g xs
any_same f g [] [] e h = refl
any_same f g [] (x ∷ xs) e h = absurd (cc)
any_same f g (s ∷ list) [] e h = absurd (cc)
any_same f g (s ∷ list) (x ∷ xs) e h =
    let rest : length list ≡ length xs = cc in
    λ i. h 0 x refl i || any_same f g list xs rest (λ n y at. h (suc n) y at) i

pub gone_same : (p : Plan) (w : World) (v : Supported) (sink : FrameSinkId) → KeepsClients w.clients → IsSupport p w v
    → list_any (λ (s : Sender). s.closed && same_sink s.sink sink) v.clients
    ≡ list_any (λ (x : Client). x.closed && same_sink x.sink sink) w.clients
gone_same p w v sink keeps is =
    any_same (λ (s : Sender). s.closed && same_sink s.sink sink) (λ (x : Client). x.closed && same_sink x.sink sink) v.clients w.clients
    is.clients.count
    (λ n x at.
    let kept = is.clients.each (n + 1) x (at_place w n x keeps at) in
    let place : n ≡ n + 1 - 1 = omega arith in
    ap (λ k. (get_or v.clients k nobody).closed && same_sink (get_or v.clients k nobody).sink sink) place
    ∙ (λ i. kept.closed i && same_sink (kept.sink i) sink))
