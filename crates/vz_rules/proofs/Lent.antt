-- The submissions that list a resource are as many as the entries that lent it.
use Rattle.std.proofs.Common.{◌≡◌, ℕ, ◌+◌, Bool, true, false, ◌&&◌, ◌==◌, inl, inr, Option, List, [], ◌∷◌, ◌++◌, length, refl, ap, sym, ◌∙◌, cond, arith, count_by, append_assoc, append-nil, find}
use Rattle.std.specs.List.{list_any}
use Rattle.std.proofs.lemmas.Bool.{eqb-true}
use Rattle.std.proofs.lemmas.List.Sums.{sum_by_push}
use Rattle.vz_frame.specs.declared.message.Message.{Message}
use Rattle.vz_frame.specs.Frame.{lists}
use Rattle.vz_rules.specs.Plan.{Plan}
use Rattle.vz_rules.specs.declared.entry.Entry.{Entry}
use Rattle.vz_rules.specs.World.{World, Client, FrameData, opening}
use Rattle.vz_rules.specs.Messages.{Answer}
use Rattle.vz_rules.specs.Step.{answer_to, step_in, entry_in, outcome_of, presented_by, world, Legal}
use Rattle.vz_rules.specs.Whole.{is_of, mine}
use Rattle.vz_rules.specs.Accounts.{of_client, takes, taken_in, message_at, submits, lends, lent_from, lent_over}
use Rattle.vz_rules.specs.Kept.{borrows}
use Rattle.vz_rules.proofs.Prefixes.{Steps, along}
use Rattle.vz_rules.proofs.Follow_ups.{frames_of, outcome_frames, count_frames}
use Rattle.vz_rules.proofs.Taken.{steps_taken, none_taken}
use Rattle.vz_rules.proofs.Acceptances.{Accepts, AcceptsNone, answer_either}
use Rattle.vz_rules.proofs.Cases.{is_acceptance, is_event_of}

-- a frame of a client's submission that lists a resource
abbrev takes_up : ℕ → ℕ → FrameData → Bool
takes_up c id i = (i.sub.client == c) && list_any (lists id) i.frame.resources

lent_push : (p : Plan) (before h : List Entry) (c id : ℕ) (e : Entry) → lent_from p before c id (h ++ e ∷ []) ≡ lent_from p before c id h + cond (lends p (before ++ h) c id e) 1 0
lent_push p before [] c id e =
    let none : before ++ [] ≡ before = append-nil before in
    omega (arith, ap (λ l. cond {A = ℕ} (lends p l c id e) 1 0) none)
lent_push p before (x ∷ h) c id e =
    let same : (before ++ x ∷ []) ++ h ≡ before ++ x ∷ h = append_assoc before (x ∷ []) h in
    omega (arith, lent_push p (before ++ x ∷ []) h c id e, ap (λ l. cond {A = ℕ} (lends p l c id e) 1 0) same)

-- what is kept of a world and the history before it
record Lent (p : Plan) (c id : ℕ) (w : World) (h : List Entry) : Type 0 where
  taken : taken_in w c ≡ length (takes h c)
  lent : count_by (takes_up c id) (frames_of w.subs) ≡ lent_over p h c id

not_lent : (a o m : Bool) → a ≡ false → cond {A = ℕ} (a && o && m) 1 0 ≡ 0
not_lent true o m e = absurd (cc)
not_lent false o m e = refl

-- the entry of an accepted submission lends where it lists the resource
lends_by : (n c id : ℕ) (t a l : Bool) (m : Option Message) → (n == c) ≡ t → a ≡ true → (n ≡ c → submits id m ≡ l) → (a && t && submits id m) ≡ (t && l)
lends_by n c id true true l m e h next = next (eqb-true n c e)
lends_by n c id false true l m e h next = refl
lends_by n c id t false l m e h next = absurd (cc)

module _ (p : Plan) (c id : ℕ) (w : World) (h : List Entry) (e : Entry) (i : Lent p c id w h) (is : e ≡ entry_in p w e.event) where
  abbrev now : Answer
  now = answer_to p w e.event

  later_frames : frames_of (step_in p w e.event).world.subs ≡ frames_of now.world.subs
  unfolding step_in
  later_frames = outcome_frames (presented_by w e.event) now

  same_reply : e.reply ≡ now.reply
  unfolding entry_in step_in outcome_of
  same_reply = ap (λ (x : Entry). x.reply) is

  more : lent_over p (h ++ e ∷ []) c id ≡ lent_over p h c id + cond (lends p h c id e) 1 0
  unfolding lent_over
  more = lent_push p [] h c id e

  none_later : AcceptsNone w now → count_by (takes_up c id) (frames_of (step_in p w e.event).world.subs) ≡ lent_over p (h ++ e ∷ []) c id
  none_later a =
      let same = ap (count_by (takes_up c id)) (later_frames ∙ a.active) in
      let none = not_lent (is_acceptance e.reply) (is_of c e) (submits id (message_at p c (length (takes h c)))) (ap is_acceptance same_reply ∙ a.reply) in
      omega (arith, same, i.lent, more, none)

  one_later : Accepts p w e.event now → count_by (takes_up c id) (frames_of (step_in p w e.event).world.subs) ≡ lent_over p (h ++ e ∷ []) c id
  one_later a =
      let n : ℕ = a.client.number in
      let pushed = ap (count_by (takes_up c id)) (later_frames ∙ a.active) ∙ sum_by_push (λ x. cond (takes_up c id x) 1 0) (frames_of w.subs) a.new in
      let mine : is_of c e ≡ (n == c) = ap (is_event_of c) a.event in
      let accepted : is_acceptance e.reply ≡ true = ap is_acceptance (same_reply ∙ a.reply) in
      let next : n ≡ c → submits id (message_at p c (length (takes h c))) ≡ list_any (lists id) a.new.frame.resources = λ same.
      let found = ap (of_client (λ x. x.taken)) (ap (λ k. find (λ (x : Client). x.number == k) w.clients) (sym same) ∙ a.found) in
      let place : length (takes h c) ≡ a.client.taken = sym i.taken ∙ found in
      ap (submits id) (ap (message_at p c) place ∙ (ap (λ k. message_at p k a.client.taken) (sym same) ∙ a.next)) in
      let lent : lends p h c id e ≡ takes_up c id a.new =
      ap (λ t. is_acceptance e.reply && t && submits id (message_at p c (length (takes h c)))) mine
      ∙ (lends_by n c id (n == c) (is_acceptance e.reply) (list_any (lists id) a.new.frame.resources) (message_at p c (length (takes h c))) refl accepted next
      ∙ ap (λ k. (k == c) && list_any (lists id) a.new.frame.resources) (sym a.client_is)) in
      omega (arith, pushed, i.lent, more, ap (λ t. cond {A = ℕ} t 1 0) lent)

steps_lent : (p : Plan) (c id : ℕ) → Steps p (Lent p c id)
steps_lent p c id w h e i names is =
    record {
      taken = steps_taken p c w h e i.taken names is;
      lent = elim (answer_either p w e.event) [ inl a ↦ none_later p c id w h e i is a | inr a ↦ one_later p c id w h e i is a ];
    }

opening_lent : (p : Plan) (c id : ℕ) → Lent p c id (opening p) []
unfolding opening takes mine lent_over
opening_lent p c id = record { taken = none_taken 1 c p.files; lent = refl }

pub borrowed_are_lent : (p : Plan) (h : List Entry) (c id : ℕ) → Legal p h → count_by (borrows c id) (world p h).subs ≡ lent_over p h c id
borrowed_are_lent p h c id l = count_frames (takes_up c id) (world p h).subs ∙ (along p (Lent p c id) (steps_lent p c id) (opening_lent p c id) h l).lent
