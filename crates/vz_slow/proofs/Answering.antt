-- What messages answer, by what was done for them.
use Rattle.std.proofs.Common.{◌≡◌, ℕ, Bool, true, false, ◌==◌, arith, Option, Some, None, List, [], ◌∷◌, map, find, refl, sym, ap, ◌∙◌, if◌then◌else◌, cond}
use Rattle.std.proofs.lemmas.Bool.Decides.{nat_tests}
use Rattle.vz_ids.specs.declared.FrameSinkId.{FrameSinkId}
use Rattle.vz_ids.specs.declared.LocalSurfaceId.{LocalSurfaceId}
use Rattle.vz_pixels.specs.Block.{Block}
use Rattle.vz_rules.specs.World.{World, Client, Surface, client_at, change_client, next_message}
use Rattle.vz_rules.specs.Plan.{Plan}
use Rattle.vz_frame.specs.declared.message.Message.{Message}
use Rattle.vz_rules.specs.Messages.{Answer, took, taking, says, refused, in_use, put_resource, upload_answer, root_answer, await_answer, mark_of, unless_refused, relate, hierarchy_refusal, hierarchy_answer, message_answer, known_client_answer, client_answer}
use Rattle.vz_rules.specs.declared.entry.Reply.TheVariants as reply
use Rattle.vz_rules.specs.declared.entry.Refusal.{Refusal}
use Rattle.vz_rules.specs.declared.entry.Refusal.TheVariants as refusal

number_found : (t : Bool) (x y : Client) (c : ℕ) (rest : Option Client) → (y.number == c) ≡ t → (rest ≡ Some x → x.number ≡ c) → cond t (Some y) rest ≡ Some x → x.number ≡ c
number_found true x y c rest h next e = let same : y ≡ x = cc in let is : y.number ≡ c = grind (arith, nat_tests) in ap (λ (z : Client). z.number) (sym same) ∙ is
number_found false x y c rest h next e = next e

find_number : (clients : List Client) (c : ℕ) (x : Client) → find (λ (y : Client). y.number == c) clients ≡ Some x → x.number ≡ c
find_number [] c x h = absurd (cc)
find_number (y ∷ ys) c x h = number_found (y.number == c) x y c (find (λ (z : Client). z.number == c) ys) refl (find_number ys c x) h

-- the client that is found has the number
pub number_is : (w : World) (c : ℕ) (x : Client) → client_at w c ≡ Some x → x.number ≡ c
number_is w c x h = find_number w.clients c x h

-- the client took its message and was changed
pub changed_is : (w v : World) → v ≡ w → (f : Client → Client) (c : ℕ) (x : Client) → client_at w c ≡ Some x → (clients : List Client)
    → clients ≡ change_client (λ y. took (f y)) c v.clients → ◌≡◌ {A = World} (record v { clients = clients }) (taking f x w)
changed_is w v e f c x h clients is =
    let with_clients : World → World = λ u. record u { clients = clients } in
    let with_list : List Client → World = λ l. record w { clients = l } in
    let number : c ≡ x.number = sym (number_is w c x h) in
    ap with_clients e ∙ ap with_list (is ∙ (ap (λ (u : World). change_client (λ y. took (f y)) c u.clients) e ∙ ap (λ n. change_client (λ y. took (f y)) n w.clients) number))

-- an upload of a resource that is in use
pub upload_in_use : (w : World) (x : Client) (id : ℕ) (block : Block) → in_use x.resources id ≡ true → refused w x refusal.InUse ≡ upload_answer w x id block
unfolding upload_answer
upload_in_use w x id block h =
    ap (λ (t : Bool). if t then refused w x refusal.InUse else says reply.Stored (taking (λ (y : Client). record y { resources = put_resource id block y.resources }) x w)) (sym h)

-- an upload that is stored
pub upload_stored : (w v : World) (x : Client) (id : ℕ) (block : Block) → in_use x.resources id ≡ false → v ≡ taking (λ (y : Client). record y { resources = put_resource id block y.resources }) x w
    → says reply.Stored v ≡ upload_answer w x id block
unfolding upload_answer
upload_stored w v x id block h e =
    ap (says reply.Stored) e
    ∙ ap (λ (t : Bool). if t then refused w x refusal.InUse else says reply.Stored (taking (λ (y : Client). record y { resources = put_resource id block y.resources }) x w)) (sym h)

-- the answer to a client that names the root, by whether it is the first
abbrev root_by : World → Client → LocalSurfaceId → Bool → Answer
root_by w x local t =
    if t then says reply.Rooted (record (taking (λ y. y) x w) { root = Some (record { sink = x.sink; local = local }) })
    else refused w x refusal.NotRoot

-- another client than the first names the root
pub root_refused : (w : World) (x : Client) (local : LocalSurfaceId) → (x.number == 1) ≡ false → refused w x refusal.NotRoot ≡ root_answer w x local
unfolding root_answer
root_refused w x local h = ap (root_by w x local) (sym h)

-- the first client names the root
pub root_named : (w v : World) (x : Client) (sink : FrameSinkId) (local : LocalSurfaceId) → (x.number == 1) ≡ true → sink ≡ x.sink → v ≡ taking (λ y. y) x w
    → says reply.Rooted (record v { root = Some (record { sink = sink; local = local }) }) ≡ root_answer w x local
unfolding root_answer
root_named w v x sink local h e is =
    ap (λ (u : World). says reply.Rooted (record u { root = Some (record { sink = sink; local = local }) })) is
    ∙ (ap (λ (s : FrameSinkId). says reply.Rooted (record (taking (λ y. y) x w) { root = Some (record { sink = s; local = local }) })) e ∙ ap (root_by w x local) (sym h))

-- the answer to a client that waits, by what was delivered
abbrev await_by : World → Client → Option ℕ → Bool → Answer
await_by w x o t =
    elim o [
      | Some n ↦ says (reply.Began n) (taking (λ (y : Client). record y { delivered = None }) x w)
      | None ↦ if t then says reply.Over (taking (λ y. y) x w) else says (reply.Refused refusal.NotYet) w
    ]

-- a begin-frame stands untaken
pub await_began : (w v : World) (x : Client) (d : Option ℕ) (n : ℕ) → d ≡ x.delivered → d ≡ Some n → v ≡ taking (λ (y : Client). record y { delivered = None }) x w
    → says (reply.Began n) v ≡ await_answer w x
unfolding await_answer
await_began w v x d n e is k = ap (says (reply.Began n)) k ∙ ap (λ (o : Option ℕ). await_by w x o w.over) (sym is ∙ e)

-- it is over
pub await_over : (w v : World) (x : Client) (d : Option ℕ) → d ≡ x.delivered → d ≡ None → w.over ≡ true → v ≡ taking (λ y. y) x w → says reply.Over v ≡ await_answer w x
unfolding await_answer
await_over w v x d e is over k =
    ap (says reply.Over) k ∙ (ap (λ (t : Bool). await_by w x None t) (sym over) ∙ ap (λ (o : Option ℕ). await_by w x o w.over) (sym is ∙ e))

-- it is not over
pub await_not_yet : (w : World) (x : Client) (d : Option ℕ) → d ≡ x.delivered → d ≡ None → w.over ≡ false → says (reply.Refused refusal.NotYet) w ≡ await_answer w x
unfolding await_answer
await_not_yet w x d e is over = ap (λ (t : Bool). await_by w x None t) (sym over) ∙ ap (λ (o : Option ℕ). await_by w x o w.over) (sym is ∙ e)

-- the client is closed, and its surfaces are marked
pub left_is : (w v : World) (c : ℕ) (x : Client) → client_at w c ≡ Some x → v ≡ taking (λ (y : Client). record y { closed = true }) x w → (surfaces : List Surface) → surfaces ≡ map (mark_of c) v.surfaces
    → says reply.Left (record v { surfaces = surfaces }) ≡ says reply.Left (record (taking (λ (y : Client). record y { closed = true }) x w) { surfaces = map (mark_of x.number) w.surfaces })
left_is w v c x h e surfaces is =
    let with_surfaces : World → World = λ u. record u { surfaces = surfaces } in
    let with_list : List Surface → World = λ l. record (taking (λ (y : Client). record y { closed = true }) x w) { surfaces = l } in
    ap (says reply.Left) (ap with_surfaces e ∙ ap with_list (is ∙ (ap (λ (u : World). map (mark_of c) u.surfaces) e ∙ ap (λ n. map (mark_of n) w.surfaces) (sym (number_is w c x h)))))

-- the client that is found is the one that stands there
pub found_is : (w : World) (c : ℕ) (x y : Client) (clients : List Client) (o : Option Client) → client_at w c ≡ Some x → o ≡ find (λ (z : Client). z.number == c) clients
    → clients ≡ w.clients → o ≡ Some y → y ≡ x
found_is w c x y clients o h e is k =
    let same : Some y ≡ Some x = sym k ∙ (e ∙ (ap (find (λ (z : Client). z.number == c)) is ∙ h)) in
    cc

-- where none is found there is none
pub found_none : (w : World) (c : ℕ) (x : Client) (clients : List Client) (o : Option Client) → client_at w c ≡ Some x → o ≡ find (λ (z : Client). z.number == c) clients
    → clients ≡ w.clients → o ≡ None → ⊥
found_none w c x clients o h e is k =
    let same : None ≡ Some x = sym k ∙ (e ∙ (ap (find (λ (z : Client). z.number == c)) is ∙ h)) in
    cc

-- a relation that is refused
pub relation_refused : (w : World) (x : Client) (parent child : FrameSinkId) (r : Refusal) (o : Option Refusal) → o ≡ hierarchy_refusal w x parent child → o ≡ Some r
    → refused w x r ≡ hierarchy_answer w x parent child
unfolding hierarchy_answer
relation_refused w x parent child r o e is =
    ap (λ t. unless_refused w x t (says reply.Joined (record (taking (λ y. y) x w) { relations = relate parent child w.relations }))) (sym is ∙ e)

-- one that is registered
pub relation_joined : (w v u : World) (x : Client) (parent child : FrameSinkId) (o : Option Refusal) → o ≡ hierarchy_refusal w x parent child → o ≡ None
    → v ≡ taking (λ y. y) x w → u ≡ record v { relations = relate parent child v.relations } → says reply.Joined u ≡ hierarchy_answer w x parent child
unfolding hierarchy_answer
relation_joined w v u x parent child o e is took joined =
    let relating : World → World = λ z. record z { relations = relate parent child z.relations } in
    ap (says reply.Joined) (joined ∙ ap relating took)
    ∙ ap (λ t. unless_refused w x t (says reply.Joined (record (taking (λ y. y) x w) { relations = relate parent child w.relations }))) (sym is ∙ e)

-- what is found among the clients
pub client_at_is : (w : World) (c : ℕ) (clients : List Client) (o r : Option Client) → o ≡ find (λ (z : Client). z.number == c) clients → clients ≡ w.clients → o ≡ r → client_at w c ≡ r
client_at_is w c clients o r e is k = ap (find (λ (z : Client). z.number == c)) (sym is) ∙ (sym e ∙ k)

-- the answer to a client by what is found of it
abbrev client_by : Plan → World → Option Client → Answer
client_by p w o = elim o [ None ↦ says (reply.Refused refusal.NoMessage) w | Some x ↦ known_client_answer p w x ]

-- the answer to a client by its next message
abbrev known_by : World → Client → Option Message → Bool → Answer
known_by w x o t = elim o [ None ↦ says (reply.Refused refusal.NoMessage) w | Some m ↦ if t then refused w x refusal.AlreadyClosed else message_answer w x m ]

-- there is no such client
pub client_none : (p : Plan) (w : World) (c : ℕ) → client_at w c ≡ None → says (reply.Refused refusal.NoMessage) w ≡ client_answer p w c
unfolding client_answer
client_none p w c h = ap (client_by p w) (sym h)

-- the answer to a client that is found
pub client_found : (p : Plan) (w : World) (c : ℕ) (x : Client) → client_at w c ≡ Some x → known_client_answer p w x ≡ client_answer p w c
unfolding client_answer
client_found p w c x h = ap (client_by p w) (sym h)

-- no message is left
pub known_none : (p : Plan) (w : World) (x : Client) (o : Option Message) → o ≡ next_message p x → o ≡ None → says (reply.Refused refusal.NoMessage) w ≡ known_client_answer p w x
unfolding known_client_answer
known_none p w x o e is = ap (λ m. known_by w x m x.closed) (sym is ∙ e)

-- the client is closed
pub known_closed : (p : Plan) (w : World) (x : Client) (o : Option Message) (m : Message) → o ≡ next_message p x → o ≡ Some m → x.closed ≡ true → refused w x refusal.AlreadyClosed ≡ known_client_answer p w x
unfolding known_client_answer
known_closed p w x o m e is h = ap (λ t. known_by w x (Some m) t) (sym h) ∙ ap (λ k. known_by w x k x.closed) (sym is ∙ e)

-- the client is not closed
pub known_open : (p : Plan) (w : World) (x : Client) (o : Option Message) (m : Message) → o ≡ next_message p x → o ≡ Some m → x.closed ≡ false → message_answer w x m ≡ known_client_answer p w x
unfolding known_client_answer
known_open p w x o m e is h = ap (λ t. known_by w x (Some m) t) (sym h) ∙ ap (λ k. known_by w x k x.closed) (sym is ∙ e)
