-- What clients' entries leave as it is: the frames that are drawn, painted and written, and the display.
use Rattle.std.proofs.Common.{◌≡◌, ℕ, true, false, Option, List, [], ◌∷◌, ◌++◌, reverse, append-nil, refl, ap, ◌∙◌, arith}
use Rattle.std.specs.{Prelude.IsTrue, List.list_all}
use Rattle.std.proofs.{lemmas.Bool.and_parts, lemmas.Bool.Decides.nat_tests}
use Rattle.vz_rules.specs.Plan.{Plan}
use Rattle.vz_rules.specs.{World.World, World.Client, World.Scene, World.opening, Messages.Answer, Messages.accepted, Messages.client_answer}
use Rattle.vz_rules.specs.{declared.entry.Event.Event, declared.entry.Reply.Reply, declared.entry.Entry.Entry, Course.is_of_client, Course.is_drawn}
use Rattle.vz_rules.specs.Step.{answer_to, outcome_of, step_in, entry_in, world, world_from, LegalFrom, Legal}
use Rattle.vz_rules.specs.Frames.{DrawnFrame, painted_of, written_of, drawn_frame_of, drawn_frames, drawn_frames_from, painted, written}
use Rattle.vz_rules.proofs.{Cases.client_cases, Runs.drawn_frames_from-append}
use Rattle.vz_display.specs.Displayed.{display_after, display_at}

-- these entries are all clients'
abbrev pub AreClients : List Entry → Type 0
AreClients es = IsTrue (list_all (λ (e : Entry). is_of_client e.event) es)

-- a client's message draws nothing
client_draws_none : (p : Plan) (w : World) (c : ℕ) → is_drawn (client_answer p w c).reply ≡ false
unfolding accepted
client_draws_none p w c =
    client_cases p w c (λ (a : Answer). is_drawn a.reply ≡ false) refl (λ (x : Client) found same.
    record {
      turned = λ m r t e. refl;
      not_yet = λ e. refl;
      stored = λ id block u e. refl;
      submitted = λ local frame u e. refl;
      noted = λ n e. refl;
      reclaimed = λ e. refl;
      rooted = λ local root e. refl;
      joined = λ parent child u e. refl;
      began = λ n u e. refl;
      over = λ e. refl;
      left = λ e. refl;
    })

-- and so does a client's step
pub client_step_draws_none : (p : Plan) (w : World) (e : Event) → is_of_client e ≡ true → is_drawn (step_in p w e).reply ≡ false
unfolding step_in outcome_of answer_to
client_step_draws_none p w e is = grind (arith, nat_tests, client_draws_none)

-- an entry that draws nothing adds no frame
no_frame_of : (s : Option Scene) (r : Reply) → is_drawn r ≡ false → drawn_frame_of s r ≡ []
no_frame_of s r none = grind (arith, nat_tests)

-- the reply of an entry that the machine makes
pub reply_of : (p : Plan) (w : World) (e : Entry) → e ≡ entry_in p w e.event → e.reply ≡ (step_in p w e.event).reply
unfolding entry_in
reply_of p w e is = ap (λ (x : Entry). x.reply) is

clients_draw_none : (p : Plan) (w : World) (more : List Entry) → LegalFrom p w more → AreClients more → drawn_frames_from p w more ≡ []
unfolding LegalFrom drawn_frames_from
clients_draw_none p w [] legal clients = refl
clients_draw_none p w (e ∷ more) legal clients = grind (arith, nat_tests, and_parts, no_frame_of, reply_of, client_step_draws_none, clients_draw_none p (step_in p w e.event).world more legal.2)

legal_rest_from : (p : Plan) (w : World) (h more : List Entry) → LegalFrom p w (h ++ more) → LegalFrom p (world_from p w h) more
unfolding LegalFrom world_from
legal_rest_from p w [] more legal = legal
legal_rest_from p w (e ∷ h) more legal = legal_rest_from p (step_in p w e.event).world h more legal.2

-- the rest of a legal history is legal from the world behind its front
pub legal_rest : (p : Plan) (h more : List Entry) → Legal p (h ++ more) → LegalFrom p (world p h) more
unfolding Legal world
legal_rest p h more legal = legal_rest_from p (opening p) h more legal

-- the drawings stay as clients' entries come behind them
pub frames_go_on : (p : Plan) (h more : List Entry) → Legal p (h ++ more) → AreClients more → drawn_frames p (h ++ more) ≡ drawn_frames p h
unfolding drawn_frames world
frames_go_on p h more legal clients =
    drawn_frames_from-append p (opening p) h more
    ∙ (ap (λ l. drawn_frames_from p (opening p) h ++ l) (clients_draw_none p (world_from p (opening p) h) more (legal_rest p h more legal) clients)
    ∙ append-nil (drawn_frames_from p (opening p) h))

-- and so do the frames that are written, the points that are painted, and the display
pub written_goes_on : (p : Plan) (h more : List Entry) (n : ℕ) → Legal p (h ++ more) → AreClients more → written p (h ++ more) n ≡ written p h n
unfolding written
written_goes_on p h more n legal clients = ap (λ (l : List DrawnFrame). reverse (written_of p.size n (reverse l))) (frames_go_on p h more legal clients)

pub painted_goes_on : (p : Plan) (h more : List Entry) (n : ℕ) → Legal p (h ++ more) → AreClients more → painted p (h ++ more) n ≡ painted p h n
unfolding painted
painted_goes_on p h more n legal clients = ap (λ (l : List DrawnFrame). painted_of p.size n (reverse l)) (frames_go_on p h more legal clients)

pub display_goes_on : (p : Plan) (h more : List Entry) (n : ℕ) → Legal p (h ++ more) → AreClients more → display_at p (h ++ more) n ≡ display_at p h n
unfolding display_at
display_goes_on p h more n legal clients = ap (λ (l : List DrawnFrame). display_after p.size n (reverse l)) (frames_go_on p h more legal clients)
