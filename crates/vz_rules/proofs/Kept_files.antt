-- What a world keeps of its plan, from the first world on and through each step.
use Rattle.std.proofs.Common.{◌≡◌, ℕ, ◌+◌, ◌-◌, ◌≤◌, Bool, true, false, not, ◌&&◌, ◌==◌, inl, inr, Option, Some, None, List, map, length, refl, ap, sym, ◌∙◌, arith, cond, slice_get, Contains, unwrap_or, sum_by}
use Rattle.std.specs.Prelude.{nat_le}
use Rattle.std.specs.List.{list_any, list_all}
use Rattle.std.specs.Option.{option_and_then}
use Rattle.std.proofs.lemmas.Bool.{and_parts, eqb-true, leb-true}
use Rattle.vz_pixels.specs.Block.{Block}
use Rattle.vz_ids.specs.declared.LocalSurfaceId.{LocalSurfaceId}
use Rattle.vz_frame.specs.declared.frame.CompositorFrame.{CompositorFrame}
use Rattle.vz_frame.specs.declared.message.ClientFile.{ClientFile}
use Rattle.vz_frame.specs.declared.message.Message.{Message}
use Rattle.vz_frame.specs.declared.message.Message.TheVariants.{Upload, Submit}
use Rattle.vz_frame.specs.Fits.{within, is_number, fits_surface, fits_range, fits_listing, fits_pass, fits_sink, fits_file, fits_message, fits_frame, fits_block, fits_local, fits_optional}
use Rattle.vz_rules.specs.declared.entry.Refusal.{Refusal}
use Rattle.vz_rules.specs.declared.entry.Refusal.TheVariants as refusal
use Rattle.vz_rules.specs.Plan.{Plan, IsPlan}
use Rattle.vz_rules.specs.World.{World, Client, Resource, Submission, file_of, next_message, is_waiting, is_on}
use Rattle.vz_rules.specs.Messages.{Answer, took, taking, refused, accepted, submitting, lend, answer_tick, new_submission, id_of, replace_on, reclaim, client_answer}
use Rattle.vz_rules.specs.Kept.{KeepsClients, KeepsAlways, KeepsFiles, KeepsIds, KeepsPlan, AreRising}
use Rattle.vz_rules.proofs.Members.{at_contains, at_within, all_at, find_at}
use Rattle.vz_rules.proofs.Kept_returns.{put_at, storing}
use Rattle.vz_rules.proofs.Kept_submits.{one_of_number}
use Rattle.vz_rules.proofs.Kept_plan.{FollowsFile, files_keep, ids_map, due_map, due_push}
use Rattle.vz_rules.proofs.Facts.{same_when}
use Rattle.vz_rules.proofs.Cases.{client_cases}

-- A client that takes a message

-- the message is in the file
is_in_file : (p : Plan) (c : Client) (m : Message) (o : Option ClientFile) → option_and_then (λ (f : ClientFile). slice_get f.messages c.taken) o ≡ Some m
    → (f : ClientFile) × (o ≡ Some f) × Contains f.messages m
is_in_file p c m None h = absurd (cc)
is_in_file p c m (Some f) h = (f, refl, at_contains f.messages c.taken m h)

pub file_parts : (f : ClientFile) → fits_file f ≡ true → (length f.messages ≤ 4096) × (list_all (fits_message f.format) f.messages ≡ true)
unfolding fits_file
file_parts f h =
    let start = within 1 2 f.format && fits_sink f.sink && not ((f.sink.client_id == 0) && (f.sink.sink_id == 0)) in
    let all = and_parts (start && nat_le (length f.messages) 4096) (list_all (fits_message f.format) f.messages) h in
    (leb-true (length f.messages) 4096 (and_parts start (nat_le (length f.messages) 4096) all.0).1, all.1)

-- a client's next message fits
pub next_fits : (p : Plan) (c : Client) (m : Message) → IsPlan p → next_message p c ≡ Some m → (f : ClientFile) × (fits_message f.format m ≡ true)
next_fits p c m is e =
    let r = is_in_file p c m (file_of p c.number) e in
    let file = at_contains p.files (c.number - 1) r.0 r.1 in
    (r.0, all_at (fits_message r.0.format) r.0.messages m (file_parts r.0 (all_at fits_file p.files r.0 is.all_fit file)).1 r.2)

-- there is one more message for it
abbrev pub HasRoom : Plan → World → Client → Type 0
HasRoom p w c = (n : ℕ) (x : Client) (f : ClientFile) → slice_get w.clients n ≡ Some x → x.number ≡ c.number → slice_get p.files n ≡ Some f → x.taken + 1 ≤ length f.messages

pub has_room : (p : Plan) (w : World) (c : Client) (m : Message) → KeepsClients w.clients → Contains w.clients c → next_message p c ≡ Some m → HasRoom p w c
has_room p w c m h q e n x f at same file =
    let one = one_of_number w.clients x c h (at_contains w.clients n x at) q same in
    let place : c.number - 1 ≡ n = omega (arith, h.numbered n x at, same) in
    let mine : file_of p c.number ≡ Some f = ap (slice_get p.files) place ∙ file in
    let next : slice_get f.messages c.taken ≡ Some m = ap (option_and_then (λ (g : ClientFile). slice_get g.messages c.taken)) (sym mine) ∙ e in
    omega (arith, at_within f.messages c.taken m next, ap (λ (y : Client). y.taken) one)

-- a client changes, and neither its sink nor what it took
record StaysFile (c d : Client) : Type 0 where
  sink : d.sink ≡ c.sink
  taken : d.taken ≡ c.taken
  ids : KeepsIds c → KeepsIds d

same_file : (c : Client) → StaysFile c c
same_file c = record { sink = refl; taken = refl; ids = λ h. h }

follows_by : (t : Bool) (files : List ClientFile) (n : ℕ) (x d : Client) → StaysFile x d
    → (t ≡ true → (f : ClientFile) → slice_get files n ≡ Some f → x.taken + 1 ≤ length f.messages)
    → FollowsFile files n x (cond t (took d) x)
follows_by true files n x d s room = record { sink = s.sink; taken = λ f r l. omega (arith, s.taken, room refl f r); ids = s.ids }
follows_by false files n x d s room = record { sink = refl; taken = λ f r l. l; ids = λ h. h }

files_taking : (p : Plan) (w : World) (c : Client) (f : Client → Client) → HasRoom p w c → ((x : Client) → Contains w.clients x → StaysFile x (f x))
    → KeepsFiles p.files w.clients
    → KeepsFiles p.files (taking f c w).clients
files_taking p w c f room stays h =
    files_keep p.files w.clients (λ x. cond (x.number == c.number) (took (f x)) x)
    (λ n x at. follows_by (x.number == c.number) p.files n x (f x) (stays x (at_contains w.clients n x at)) (λ e g r. room n x g at (eqb-true x.number c.number e) r)) h

-- The messages

stored_ids : (id : ℕ) (block : Block) (c : Client) → 1 ≤ id → id ≤ 4294967295 → AreRising c.resources → KeepsIds c → KeepsIds (storing id block c)
stored_ids id block c l m up h s q =
    elim (put_at id block c.resources s up q) [
      | inl r ↦ let b = h r.0 r.1 in (omega (arith, b.0, r.2.id), omega (arith, b.1, r.2.id))
      | inr r ↦ (omega (arith, l, ap (λ (x : Resource). x.id) r.0), omega (arith, m, ap (λ (x : Resource). x.id) r.0))
    ]

third_of : (a b c d e f g h i j k l : Bool) → (a && b && c && d && e && f && g && h && i && j && k && l) ≡ true → c ≡ true
third_of a b true d e f g h i j k l t = refl
third_of true true false d e f g h i j k l t = absurd (cc)
third_of true false false d e f g h i j k l t = absurd (cc)
third_of false b false d e f g h i j k l t = absurd (cc)

near : (o : Option ℕ) → fits_optional (λ d. nat_le d 64) o ≡ true → unwrap_or o 4 ≤ 64
near None h = omega arith
near (Some d) h = leb-true d 64 h

submit_near : (format : ℕ) (local : LocalSurfaceId) (frame : CompositorFrame) → fits_message format (Submit frame local) ≡ true
    → unwrap_or frame.metadata.deadline 4 ≤ 64
unfolding fits_message fits_frame
submit_near format local frame h =
    let m = frame.metadata in
    near m.deadline (third_of (is_number m.token) (is_number m.ack) (fits_optional (λ d. nat_le d 64) m.deadline) (nat_le (length m.dependencies) 16) (list_all fits_surface m.dependencies)
    (nat_le (length m.references) 64) (list_all fits_range m.references) (nat_le (length frame.resources) 64) (list_all fits_listing frame.resources)
    (nat_le (length frame.passes) 16) (nat_le (sum_by (λ p. length p.quads) frame.passes) 1024) (list_all (fits_pass format) frame.passes) (and_parts (fits_local local) (fits_frame format frame) h).1)

upload_id : (format id : ℕ) (block : Block) → fits_message format (Upload id block) ≡ true → (1 ≤ id) × (id ≤ 4294967295)
unfolding fits_message
upload_id format id block h =
    let both = and_parts (nat_le 1 id) (nat_le id 4294967295) (and_parts (within 1 4294967295 id) (fits_block block) h).0 in
    (leb-true 1 id both.0, leb-true id 4294967295 both.1)

-- the clients of an answer keep their files, and its deadlines are near
abbrev pub Plans : Plan → Answer → Type 0
Plans p a = KeepsPlan p a.world

plans_taking : (p : Plan) (w : World) (c : Client) (f : Client → Client) → HasRoom p w c → ((x : Client) → Contains w.clients x → StaysFile x (f x))
    → KeepsPlan p w → KeepsPlan p (taking f c w)
plans_taking p w c f room stays h = record { files = files_taking p w c f room stays h.files; due = h.due }

plans_refused : (p : Plan) (w : World) (c : Client) (r : Refusal) → HasRoom p w c → KeepsPlan p w → Plans p (refused w c r)
plans_refused p w c r room h = plans_taking p w c (λ x. x) room (λ x q. same_file x) h

answered_file : (t : Bool) (now : ℕ) (c d : Client) → StaysFile c d → StaysFile c (cond t (record d { answered = now }) d)
answered_file true now c d h = record { sink = h.sink; taken = h.taken; ids = h.ids }
answered_file false now c d h = h

submit_file : (w : World) (frame : CompositorFrame) (x : Client) → StaysFile x (submitting w frame x)
submit_file w frame x =
    let lent = record x { resources = map (lend frame.resources) x.resources } in
    answered_file (frame.metadata.ack == w.tick) w.tick x lent
    (record { sink = refl; taken = refl; ids = ids_map (lend frame.resources) x lent (λ s. same_when (λ (x : Resource). x.id) (list_any (λ l. l.id == s.id) frame.resources) _ s refl) refl })

plans_accepted : (p : Plan) (w : World) (c : Client) (local : LocalSurfaceId) (frame : CompositorFrame) → HasRoom p w c
    → unwrap_or frame.metadata.deadline 4 ≤ 64 → KeepsPlan p w
    → Plans p (accepted w c local frame)
unfolding accepted new_submission
plans_accepted p w c local frame room l h =
    record {
      files = files_taking p w c (submitting w frame) room (λ x q. submit_file w frame x) h.files;
      due = due_push (map (replace_on (id_of c local)) w.subs) (new_submission w c local frame) w.tick (omega (arith, l))
          (due_map (replace_on (id_of c local)) w.subs w.tick (λ s. same_when (λ (x : Submission). x.due) (is_waiting s && is_on (id_of c local) s) _ s refl) h.due);
    }

pub plans_client : (p : Plan) (w : World) (n : ℕ) → IsPlan p → KeepsAlways w → KeepsPlan p w → Plans p (client_answer p w n)
plans_client p w n is a h =
    client_cases p w n (Plans p) h (λ c e number.
    let room : (m : Message) → next_message p c ≡ Some m → HasRoom p w c = λ m. has_room p w c m a.clients (find_at (λ (x : Client). x.number == n) w.clients c e).0 in
    record {
      turned = λ m r timely at. plans_refused p w c r (room m at) h;
      not_yet = λ at. h;
      stored = λ id block free at.
          let fits = next_fits p c (Upload id block) is at in
          let bounds = upload_id fits.0.format id block fits.1 in
          plans_taking p w c (storing id block) (room _ at) (λ x q. record { sink = refl; taken = refl; ids = stored_ids id block x bounds.0 bounds.1 (a.shelves x q).rising }) h;
      submitted = λ local frame good at.
          let fits = next_fits p c (Submit frame local) is at in
          plans_accepted p w c local frame (room _ at) (submit_near fits.0.format local frame fits.1) h;
      noted = λ k at. plans_taking p w c (answer_tick w.tick k) (room _ at) (λ x q. answered_file (k == w.tick) w.tick x x (same_file x)) h;
      reclaimed = λ at.
          plans_taking p w c reclaim (room _ at) (λ x q. record { sink = refl; taken = refl; ids = ids_map (λ s. record s { reclaimed = s.queued }) x (reclaim x) (λ s. refl) refl }) h;
      rooted = λ local root at. let k = plans_refused p w c refusal.NotRoot (room _ at) h in record { files = k.files; due = k.due };
      joined = λ parent child good at. let k = plans_refused p w c refusal.Loop (room _ at) h in record { files = k.files; due = k.due };
      began = λ k d at. plans_taking p w c (λ (x : Client). record x { delivered = None }) (room _ at) (λ x q. record { sink = refl; taken = refl; ids = λ i. i }) h;
      over = λ at. plans_refused p w c refusal.NotRoot (room _ at) h;
      left = λ at.
          let k = plans_taking p w c (λ (x : Client). record x { closed = true }) (room _ at) (λ x q. record { sink = refl; taken = refl; ids = λ i. i }) h in
          record { files = k.files; due = k.due };
    })
