-- What a world keeps of its plan, through each step.
use Rattle.std.proofs.Common.{◌≡◌, ℕ, zero, suc, ◌+◌, ◌≤◌, ◌&&◌, ◌||◌, inl, inr, Some, List, [], ◌∷◌, ◌++◌, map, length, refl, ap, sym, ◌∙◌, arith, subst, slice_get, Contains}
use Rattle.std.specs.List.{list_any}
use Rattle.std.proofs.lemmas.List.{length-map}
use Rattle.vz_ids.specs.declared.Sub.{Sub}
use Rattle.vz_frame.specs.declared.message.ClientFile.{ClientFile}
use Rattle.vz_rules.specs.Plan.{Plan}
use Rattle.vz_rules.specs.World.{World, Client, Resource, Submission, is_waiting, is_active, is_on}
use Rattle.vz_rules.specs.Settle.{is_ready, ready, after_round, round, rounds, settle}
use Rattle.vz_rules.specs.Reach.{naming, drop_on, lost_in, clearing, collect}
use Rattle.vz_rules.specs.Returns.{goes_back, queue_resource, queue_returns, give_back, mark_fed, feed}
use Rattle.vz_rules.specs.Kept.{KeepsFiles, KeepsIds, DueSoon, KeepsPlan}
use Rattle.vz_rules.proofs.Members.{at_map, at_contains, contains_at, contains_map, contains_push}
use Rattle.vz_rules.proofs.Facts.{same_when, same_either}

-- The clients and their files

-- a client keeps its sink and its ids, and takes no more than there is
pub record FollowsFile (files : List ClientFile) (n : ℕ) (c d : Client) : Type 0 where
  pub sink : d.sink ≡ c.sink
  pub taken : (f : ClientFile) → slice_get files n ≡ Some f → c.taken ≤ length f.messages → d.taken ≤ length f.messages
  pub ids : KeepsIds c → KeepsIds d

pub files_keep : (files : List ClientFile) (cs : List Client) (k : Client → Client)
    → ((n : ℕ) (c : Client) → slice_get cs n ≡ Some c → FollowsFile files n c (k c)) → KeepsFiles files cs → KeepsFiles files (map k cs)
files_keep files cs k follows h =
    record {
      as_many = length-map cs k ∙ h.as_many;
      sinks = λ n c f q r. let m = at_map k cs n c q in ap (λ (x : Client). x.sink) (sym m.2) ∙ ((follows n m.0 m.1).sink ∙ h.sinks n m.0 f m.1 r);
      taken = λ n c f q r. let m = at_map k cs n c q in subst (λ (x : Client). x.taken ≤ length f.messages) m.2 ((follows n m.0 m.1).taken f r (h.taken n m.0 f m.1 r));
      ids = λ c q.
          let place = contains_at (map k cs) c q in
          let m = at_map k cs place.0 c place.1 in
          subst KeepsIds m.2 ((follows place.0 m.0 m.1).ids (h.ids m.0 (at_contains cs place.0 m.0 m.1)));
    }

-- resources that keep their ids
pub ids_map : (g : Resource → Resource) (c d : Client) → ((s : Resource) → (g s).id ≡ s.id) → d.resources ≡ map g c.resources → KeepsIds c → KeepsIds d
ids_map g c d name same h s q =
    let m = contains_map g c.resources s (subst (λ l. Contains l s) same q) in
    let e : s.id ≡ m.0.id = ap (λ (x : Resource). x.id) (sym m.2) ∙ name m.0 in
    let b = h m.0 m.1 in
    (omega (arith, e, b.0), omega (arith, e, b.1))

-- Deadlines

pub due_map : (f : Submission → Submission) (subs : List Submission) (now : ℕ) → ((s : Submission) → (f s).due ≡ s.due) → DueSoon subs now
    → DueSoon (map f subs) now
due_map f subs now same h s c = let m = contains_map f subs s c in omega (arith, h m.0 m.1, same m.0, ap (λ (x : Submission). x.due) m.2)

pub due_later : (subs : List Submission) (now next : ℕ) → now ≤ next → DueSoon subs now → DueSoon subs next
due_later subs now next l h s c = omega (arith, h s c, l)

pub due_push : (subs : List Submission) (new : Submission) (now : ℕ) → new.due ≤ now + 64 → DueSoon subs now → DueSoon (subs ++ new ∷ []) now
due_push subs new now l h s c = elim (contains_push subs new s c) [ inl m ↦ h s m | inr e ↦ subst (λ (x : Submission). x.due ≤ now + 64) e l ]

-- What follows a change

pub plan_round : (p : Plan) (w : World) → KeepsPlan p w → KeepsPlan p (round w)
unfolding round
plan_round p w h =
    record {
      files = h.files;
      due = due_map (after_round (is_ready w) (ready w)) w.subs w.tick (λ s. same_either (λ (x : Submission). x.due) (is_ready w s) (is_active s && list_any (is_on s.submitted.id) (ready w)) _ _ s refl refl) h.due;
    }

plan_rounds : (p : Plan) (n : ℕ) (w : World) → KeepsPlan p w → KeepsPlan p (rounds n w)
unfolding rounds
plan_rounds p zero w h = h
plan_rounds p (suc n) w h = plan_rounds p n (round w) (plan_round p w h)

pub plan_settle : (p : Plan) (w : World) → KeepsPlan p w → KeepsPlan p (settle w)
unfolding settle
plan_settle p w h = plan_rounds p (length w.subs) w h

pub plan_naming : (p : Plan) (w : World) → KeepsPlan p w → KeepsPlan p (naming w)
unfolding naming
plan_naming p w h = record { files = h.files; due = h.due }

pub plan_collect : (p : Plan) (w : World) → KeepsPlan p w → KeepsPlan p (collect w)
unfolding collect clearing naming
plan_collect p w h =
    let lost = lost_in (naming w) in
    record { files = h.files; due = due_map (drop_on lost) w.subs w.tick (λ s. same_when (λ (x : Submission). x.due) ((is_waiting s || is_active s) && list_any (λ c. is_on c.id s) lost) _ s refl) h.due }

pub plan_given : (p : Plan) (w : World) → KeepsPlan p w → KeepsPlan p (give_back w)
unfolding give_back
plan_given p w h =
    record {
      files = files_keep p.files w.clients (queue_returns w) (λ n c q. record {
        sink = refl;
        taken = λ f r l. l;
        ids = ids_map (queue_resource w c.number) c (queue_returns w c) (λ r. same_when (λ (x : Resource). x.id) (goes_back w c.number r) _ r refl) refl;
      }) h.files;
      due = h.due;
    }

plan_fed : (p : Plan) (presented : List Sub) (w : World) → KeepsPlan p w → KeepsPlan p (feed presented w)
unfolding feed
plan_fed p presented w h = record { files = h.files; due = due_map (mark_fed w presented) w.subs w.tick (λ s. refl) h.due }

-- what follows a change keeps it
pub plan_end : (p : Plan) (presented : List Sub) (w : World) → KeepsPlan p w → KeepsPlan p (feed presented (give_back (collect (settle w))))
plan_end p presented w h = plan_fed p presented (give_back (collect (settle w))) (plan_given p (collect (settle w)) (plan_collect p (settle w) (plan_settle p w h)))
