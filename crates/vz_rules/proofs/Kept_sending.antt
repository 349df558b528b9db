-- What a world keeps of the messages that its clients sent, from the first world on and through each step.
use Rattle.std.proofs.Common.{◌≡◌, ℕ, Bool, true, false, ◌&&◌, ◌==◌, inl, inr, Some, None, List, [], ◌∷◌, map, length, refl, ap, sym, ◌∙◌, arith, cond, subst, Contains}
use Rattle.std.specs.Prelude.{not}
use Rattle.std.specs.List.{list_any}
use Rattle.std.proofs.lemmas.List.{length-map}
use Rattle.vz_ids.specs.declared.LocalSurfaceId.{LocalSurfaceId}
use Rattle.vz_ids.specs.declared.Sub.{Sub}
use Rattle.vz_frame.specs.declared.frame.CompositorFrame.{CompositorFrame}
use Rattle.vz_frame.specs.declared.message.Message.TheVariants.{Upload, Submit}
use Rattle.vz_frame.specs.Frame.{frame_size}
use Rattle.vz_frame.specs.Fits.{fits_block}
use Rattle.vz_rules.specs.declared.entry.Event.{Event}
use Rattle.vz_rules.specs.declared.entry.Entry.{Entry}
use Rattle.vz_rules.specs.Plan.{Plan, IsPlan}
use Rattle.vz_rules.specs.World.{World, Client, FrameData, Resource, Submission, new_clients, opening, is_waiting, is_on}
use Rattle.vz_rules.specs.Returns.{goes_back, queue_resource, queue_returns}
use Rattle.vz_rules.specs.Reach.{collect}
use Rattle.vz_rules.specs.Settle.{settle}
use Rattle.vz_rules.specs.Messages.{Answer, taking, submitting, lend, answer_tick, new_submission, id_of, replace_on, reclaim, accepted, client_answer}
use Rattle.vz_rules.specs.Step.{next_tick, is_attached, deliver, begin_answer, answer_to, accepted_frames, outcome_of, step_in, presented_by, world_from, world}
use Rattle.vz_rules.specs.Kept.{KeepsAlways, Keeps, IsWhole, HasSize, KeepsBlocks, KeepsRelations, KeepsMessages}
use Rattle.vz_rules.proofs.Members.{contains_none, contains_at, contains_map, contains_push, map_contains, find_at, append_contains}
use Rattle.vz_rules.proofs.Stays.{frame_of}
use Rattle.vz_rules.proofs.Goes.{Goes, goes_step}
use Rattle.vz_rules.proofs.Follow_ups.{frames_of, outcome_clients, outcome_frames}
use Rattle.vz_rules.proofs.Cases.{client_cases, answer_cases}
use Rattle.vz_rules.proofs.Kept_first.{client_at_first, keeps_first}
use Rattle.vz_rules.proofs.Kept_between.{keeps_step}
use Rattle.vz_rules.proofs.Kept_files.{next_fits}
use Rattle.vz_rules.proofs.Kept_related.{relations_map, relations_taking, relations_joined, relations_after}
use Rattle.vz_rules.proofs.Kept_sent.{Sends, submit_fits, upload_fits, new_whole, sends_same, sends_map, sends_upload, blocks_taking}
use Rattle.vz_rules.proofs.Facts.{same_when}

-- what is kept but for the sizes of surfaces
record Sent (w : World) : Type 0 where
  active : (s : Submission) → Contains w.subs s → IsWhole s.submitted
  blocks : (c : Client) → Contains w.clients c → KeepsBlocks c
  relations : KeepsRelations w.clients w.relations

-- The answers

sent_taking : (w : World) (c : Client) (f : Client → Client) → ((x : Client) → Contains w.clients x → Sends x (f x)) → Sent w → Sent (taking f c w)
sent_taking w c f sends h =
    record {
      active = h.active;
      blocks = blocks_taking w c f sends h.blocks;
      relations = relations_taking w c f (λ x q. (sends x q).sink) h.relations;
    }

-- clients that change neither sink nor resources
sent_plain : (w : World) (c : Client) (f : Client → Client) → ((x : Client) → (f x).sink ≡ x.sink) → ((x : Client) → (f x).resources ≡ x.resources)
    → ((x : Client) → (f x).taken ≡ x.taken) → Sent w → Sent (taking f c w)
sent_plain w c f sink resources taken h = sent_taking w c f (λ x p. sends_same x (f x) (sink x) (resources x) (taken x) (h.blocks x p)) h

tick_sends : (t : Bool) (now : ℕ) (c d : Client) → Sends c d → Sends c (cond t (record d { answered = now }) d)
tick_sends true now c d h = record { sink = h.sink; fit = h.fit; few = h.few }
tick_sends false now c d h = h

submit_sends : (w : World) (frame : CompositorFrame) (x : Client) → KeepsBlocks x → Sends x (submitting w frame x)
submit_sends w frame x h =
    let lent = record x { resources = map (lend frame.resources) x.resources } in
    tick_sends (frame.metadata.ack == w.tick) w.tick x lent
    (sends_map (lend frame.resources) x lent (λ s. same_when (λ (x : Resource). x.block) (list_any (λ l. l.id == s.id) frame.resources) _ s refl) refl refl refl h)

whole_map : (f : Submission → Submission) (subs : List Submission) → ((s : Submission) → (f s).submitted ≡ s.submitted) → ((s : Submission) → Contains subs s → IsWhole s.submitted)
    → (s : Submission) → Contains (map f subs) s → IsWhole s.submitted
whole_map f subs same h s p =
    let m = contains_map f subs s p in
    subst IsWhole (sym (same m.0) ∙ ap frame_of m.2) (h m.0 m.1)

sent_accepted : (w : World) (c : Client) (local : LocalSurfaceId) (frame : CompositorFrame) → IsWhole (new_submission w c local frame).submitted → Sent w
    → Sent (accepted w c local frame).world
unfolding accepted
sent_accepted w c local frame whole h =
    let f = replace_on (id_of c local) in
    record {
      active = λ s p. elim (contains_push (map f w.subs) (new_submission w c local frame) s p) [
        | inl m ↦ whole_map f w.subs (λ t. same_when (λ (x : Submission). x.submitted) (is_waiting t && is_on (id_of c local) t) _ t refl) h.active s m
        | inr e ↦ subst (λ (x : Submission). IsWhole x.submitted) e whole
      ];
      blocks = blocks_taking w c (submitting w frame) (λ x q. submit_sends w frame x (h.blocks x q)) h.blocks;
      relations = relations_taking w c (submitting w frame) (λ x q. (submit_sends w frame x (h.blocks x q)).sink) h.relations;
    }

sent_client : (p : Plan) (w : World) (n : ℕ) → IsPlan p → KeepsAlways w → Sent w → Sent (client_answer p w n).world
sent_client p w n is a h =
    client_cases p w n (λ x. Sent x.world) h (λ c e number.
    let here = (find_at (λ (x : Client). x.number == n) w.clients c e).0 in
    record {
      turned = λ m r t at. sent_plain w c (λ x. x) (λ x. refl) (λ x. refl) (λ x. refl) h;
      not_yet = λ at. h;
      stored = λ id block free at.
          let fits = next_fits p c (Upload id block) is at in
          sent_taking w c _ (λ x q. sends_upload id block x (upload_fits fits.0.format id block fits.1) (h.blocks x q)) h;
      submitted = λ local frame good at.
          let fits = next_fits p c (Submit frame local) is at in
          let both = submit_fits fits.0.format local frame fits.1 in
          sent_accepted w c local frame (new_whole w c local frame (a.shelves c here).rising (h.blocks c here) both.0 both.1 good) h;
      noted = λ k at. sent_taking w c (answer_tick w.tick k) (λ x q. tick_sends (k == w.tick) w.tick x x (sends_same x x refl refl refl (h.blocks x q))) h;
      reclaimed = λ at. sent_taking w c reclaim (λ x q. sends_map (λ s. record s { reclaimed = s.queued }) x (reclaim x) (λ s. refl) refl refl refl (h.blocks x q)) h;
      rooted = λ local root at. let k = sent_plain w c (λ x. x) (λ x. refl) (λ x. refl) (λ x. refl) h in record { active = k.active; blocks = k.blocks; relations = k.relations };
      joined = λ parent child good at.
          let k = sent_plain w c (λ x. x) (λ x. refl) (λ x. refl) (λ x. refl) h in
          record { active = k.active; blocks = k.blocks; relations = relations_joined w c parent child good h.relations };
      began = λ k d at. sent_plain w c (λ (x : Client). record x { delivered = None }) (λ x. refl) (λ x. refl) (λ x. refl) h;
      over = λ at. sent_plain w c (λ x. x) (λ x. refl) (λ x. refl) (λ x. refl) h;
      left = λ at.
          let k = sent_plain w c (λ (x : Client). record x { closed = true }) (λ x. refl) (λ x. refl) (λ x. refl) h in
          record { active = k.active; blocks = k.blocks; relations = k.relations };
    })

delivered_blocks : (t : Bool) (now : ℕ) (c : Client) → KeepsBlocks c → KeepsBlocks (cond t (record c { delivered = Some now }) c)
delivered_blocks true now c h = record { fit = h.fit; few = h.few }
delivered_blocks false now c h = h

sent_begin : (p : Plan) (w : World) → Sent w → Sent (begin_answer p w).world
unfolding begin_answer
sent_begin p w h =
    let next = next_tick w.tick in
    record {
      active = h.active;
      blocks = λ d q.
          let m = contains_map (deliver p w next) w.clients d q in
          subst KeepsBlocks m.2 (delivered_blocks (is_attached p w m.0 && not m.0.closed) next m.0 (h.blocks m.0 m.1));
      relations = relations_map (deliver p w next) w.clients w.relations (λ c q. same_when (λ (x : Client). x.sink) (is_attached p w c && not c.closed) _ c refl) h.relations;
    }

sent_answer : (p : Plan) (w : World) (e : Event) → IsPlan p → KeepsAlways w → Sent w → Sent (answer_to p w e).world
sent_answer p w e is a h =
    answer_cases p w (λ x y. Sent y.world) (λ n. sent_client p w n is a h) (record {
      begins = sent_begin p w h;
      draws = λ r f last drawn. record { active = h.active; blocks = h.blocks; relations = h.relations };
      dones = λ r f drawn. record { active = h.active; blocks = h.blocks; relations = h.relations };
      overs = record { active = h.active; blocks = h.blocks; relations = h.relations };
    }) e

-- What follows

-- what a submission was accepted with is that of one in a world with the same frames
frame_before : (before after : List Submission) (s : Submission) → frames_of after ≡ frames_of before → Contains after s → (t : Submission) × Contains before t × (t.submitted ≡ s.submitted)
frame_before before after s e p = contains_map frame_of before s.submitted (subst (λ (l : List FrameData). Contains l s.submitted) e (map_contains frame_of after s p))

queued_blocks : (w : World) (c : Client) → KeepsBlocks c → KeepsBlocks (queue_returns w c)
queued_blocks w c h =
    let g = queue_resource w c.number in
    record {
      fit = λ s p.
          let m = contains_map g c.resources s p in
          ap (λ (x : Resource). fits_block x.block) (sym m.2) ∙ (ap fits_block (same_when (λ (x : Resource). x.block) (goes_back w c.number m.0) _ m.0 refl) ∙ h.fit m.0 m.1);
      few = omega (arith, length-map c.resources g, h.few);
    }

sent_end : (presented : List Sub) (a : Answer) → Sent a.world → Sent (outcome_of presented a).world
sent_end presented a h =
    let v = (outcome_of presented a).world in
    record {
      active = λ s p.
          let t = frame_before a.world.subs v.subs s (outcome_frames presented a) p in
          subst IsWhole t.2 (h.active t.0 t.1);
      blocks = λ c p.
          let m = contains_map (queue_returns (collect (settle a.world))) a.world.clients c (subst (λ l. Contains l c) (outcome_clients presented a) p) in
          subst KeepsBlocks m.2 (queued_blocks (collect (settle a.world)) m.0 (h.blocks m.0 m.1));
      relations = relations_after presented a h.relations;
    }

-- The world

size_after : (w v : World) (s : Submission) → Goes w v → KeepsMessages w → Contains v.subs s → HasSize v.surfaces s.submitted.id (frame_size s.submitted.frame)
size_after w v s goes h p =
    elim (append_contains (accepted_frames w) goes.more s.submitted (subst (λ (l : List FrameData). Contains l s.submitted) goes.active (map_contains frame_of v.subs s p))) [
      | inl m ↦
          let t = contains_map frame_of w.subs s.submitted m in
          subst (λ (i : FrameData). HasSize v.surfaces i.id (frame_size i.frame)) t.2 (goes.surfaces t.0.submitted.id (frame_size t.0.submitted.frame) (h.sizes t.0 t.1))
      | inr m ↦ goes.sizes s.submitted m
    ]

sent_step : (p : Plan) (w : World) (e : Event) → IsPlan p → KeepsAlways w → Sent w → Sent (step_in p w e).world
unfolding step_in
sent_step p w e is a h = sent_end (presented_by w e) (answer_to p w e) (sent_answer p w e is a h)

-- a step keeps it
pub messages_step : (p : Plan) (w : World) (e : Event) → IsPlan p → KeepsAlways w → KeepsMessages w → KeepsMessages (step_in p w e).world
messages_step p w e is a h =
    let kept = sent_step p w e is a (record { active = h.active; blocks = h.blocks; relations = h.relations }) in
    record { active = kept.active; relations = kept.relations; sizes = λ s q. size_after w (step_in p w e).world s (goes_step p w e a) h q; blocks = kept.blocks }

-- the first world does
pub messages_first : (p : Plan) → KeepsMessages (opening p)
unfolding opening
messages_first p =
    record {
      active = λ s q. absurd (contains_none s q);
      sizes = λ s q. absurd (contains_none s q);
      blocks = λ c q.
          let at = contains_at (new_clients 1 p.files) c q in
          let m = client_at_first p.files 1 at.0 c at.1 in
          record {
            fit = λ s i. absurd (contains_none s (subst (λ (x : Client). Contains x.resources s) m.2 i));
            few = omega (arith, ap (λ (x : Client). length x.resources) m.2);
          };
      relations = record { known = λ r q. absurd (contains_none r q); once = λ parent child. omega arith };
    }

messages_from : (p : Plan) (w : World) (h : List Entry) → IsPlan p → Keeps w → KeepsMessages w → KeepsMessages (world_from p w h)
unfolding world_from
messages_from p w [] is a k = k
messages_from p w (e ∷ h) is a k = messages_from p (step_in p w e.event).world h is (keeps_step p w e.event a.always) (messages_step p w e.event is a.always k)

-- and the world after each history
pub messages_world : (p : Plan) (h : List Entry) → IsPlan p → KeepsMessages (world p h)
unfolding world
messages_world p h is = messages_from p (opening p) h is (keeps_first p is) (messages_first p)
