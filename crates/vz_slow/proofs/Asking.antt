-- What is asked of a machine between steps.
use Rattle.std.proofs.Common.{◌≡◌, ℕ, suc, ◌+◌, ◌-◌, ◌<◌, ◌≤◌, Bool, true, false, ◌==◌, Option, Some, None, List, [], ◌∷◌, map, find, refl, ap, sym, ◌∙◌, arith, cond, slice_get, Contains}
use Rattle.std.specs.Option.{option_map}
use Rattle.std.proofs.lemmas.Bool.{eqb-true, eqb-false}
use Rattle.std.proofs.lemmas.List.{length-map}
use Rattle.vz_ids.specs.declared.FrameSinkId.{FrameSinkId}
use Rattle.vz_ids.specs.Ids.{same_sink}
use Rattle.vz_frame.specs.declared.message.ClientFile.{ClientFile}
use Rattle.vz_frame.specs.Frame.{first_of}
use Rattle.vz_rules.specs.Plan.{Plan, has_sink}
use Rattle.vz_rules.specs.World.{World, Client, client_at, file_of, new_client, new_clients, opening}
use Rattle.vz_rules.specs.Course.{some_waits}
use Rattle.vz_rules.specs.Kept.{KeepsFiles}
use Rattle.vz_rules.proofs.Members.{any_from, contains_here, map_contains}
use Rattle.vz_rules.proofs.Reached.{self_same_sink}
use Rattle.vz_slow.specs.declared.asked.Asked.{Asked}
use Rattle.vz_slow.specs.Asked.{AreFewFrom, asked_of}
use Rattle.vz_slow.specs.Reaching.{IsReached}

some_same : {A : Type 0} {x y : A} → Some x ≡ Some y → x ≡ y
some_same e = cc

-- Few sinks

-- the first client has the first file's sink
first_client : (files : List ClientFile) (clients : List Client) (first : FrameSinkId) → KeepsFiles files clients
    → ◌≡◌ {A = Option FrameSinkId} (elim (first_of files) [ Some file ↦ Some file.sink | None ↦ None ]) (Some first) → (c : Client) × Contains clients c × (c.sink ≡ first)
first_client [] clients first h is = absurd (cc)
first_client (f ∷ files) [] first h is = absurd (omega (arith, h.as_many))
first_client (f ∷ files) (c ∷ clients) first h is = (c, contains_here c clients, h.sinks 0 c f refl refl ∙ some_same is)

-- a client's sink is one of theirs
sink_of_client : (clients : List Client) (sink : FrameSinkId) → (c : Client) × Contains clients c × (c.sink ≡ sink) → has_sink (map (λ (c : Client). c.sink) clients) sink ≡ true
sink_of_client clients sink r =
    any_from (same_sink sink) (map (λ (c : Client). c.sink) clients) r.0.sink (map_contains (λ (c : Client). c.sink) clients r.0 r.1)
    (ap (same_sink sink) r.2 ∙ self_same_sink sink)

-- the sinks of a world are those of its clients
pub few_from : (p : Plan) (w : World) → IsReached p w → AreFewFrom p w.relations
few_from p w r first is =
    record {
      all = map (λ c. c.sink) w.clients;
      few = let long = length-map w.clients (λ c. c.sink) in let many = r.keeps_plan.files.as_many in let most = r.plan.few_files in omega (arith, long, many, most);
      first = sink_of_client w.clients first (first_client p.files w.clients first r.keeps_plan.files is);
      children = λ q m. sink_of_client w.clients q.1 (r.keeps_messages.relations.known q m).1;
    }

-- at the opening nothing is related
pub few_first : (p : Plan) (over : Bool) → IsReached p (record (opening p) { over = over }) → AreFewFrom p []
unfolding opening
few_first p over r = few_from p (record (opening p) { over = over }) r

-- The opening world

abbrev at_place : ℕ → List ClientFile → ℕ → Option Client
at_place c files k = option_map (λ (f : ClientFile). new_client c f.sink) (slice_get files k)

client_from : (n c : ℕ) (files : List ClientFile) → n ≤ c → find (λ (x : Client). x.number == c) (new_clients n files) ≡ at_place c files (c - n)
client_from n c [] l = refl
client_from n c (f ∷ files) l =
    elim (n == c) as (λ (t : Bool). (n == c) ≡ t → cond t (Some (new_client n f.sink)) (find (λ (x : Client). x.number == c) (new_clients (n + 1) files)) ≡ at_place c (f ∷ files) (c - n)) [
      | true ↦ λ e.
          let same : n ≡ c = eqb-true n c e in
          let at : c - n ≡ 0 = omega (arith, same) in
          ap (λ k. Some (new_client k f.sink)) same ∙ ap (at_place c (f ∷ files)) (sym at)
      | false ↦ λ e.
          let other : n ≡ c → ⊥ = eqb-false n c e in
          let at : c - n ≡ suc (c - (n + 1)) = omega (arith, l, other) in
          client_from (n + 1) c files (omega (arith, l, other)) ∙ ap (at_place c (f ∷ files)) (sym at)
    ] refl

-- a client of the opening world is that of its file
pub first_at : (p : Plan) (c : ℕ) → 0 < c → client_at (opening p) c ≡ option_map (λ (f : ClientFile). new_client c f.sink) (file_of p c)
unfolding opening
first_at p c l = client_from 1 c p.files (omega (arith, l))

pub first_none : (p : Plan) (over : Bool) (c : ℕ) → 0 < c → file_of p c ≡ None → ◌≡◌ {A = Option Asked} None (option_map (asked_of p (record (opening p) { over = over })) (client_at (opening p) c))
first_none p over c l is =
    sym (ap (option_map (asked_of p (record (opening p) { over = over }))) (first_at p c l ∙ ap (option_map (λ (f : ClientFile). new_client c f.sink)) is))

pub first_some : (p : Plan) (over : Bool) (c : ℕ) (f : ClientFile) (x : Client) (a : Asked) → 0 < c → file_of p c ≡ Some f → x ≡ new_client c f.sink
    → a ≡ asked_of p (record (opening p) { over = over }) x → Some a ≡ option_map (asked_of p (record (opening p) { over = over })) (client_at (opening p) c)
first_some p over c f x a l is new gives =
    let w : World = record (opening p) { over = over } in
    ap (λ (a : Asked). Some a) (gives ∙ ap (asked_of p w) new)
    ∙ sym (ap (option_map (asked_of p w)) (first_at p c l ∙ ap (option_map (λ (f : ClientFile). new_client c f.sink)) is))

pub first_tick : (p : Plan) (over : Bool) → (record (opening p) { over = over }).tick ≡ 0
unfolding opening
first_tick p over = refl

pub first_relations : (p : Plan) (over : Bool) → (record (opening p) { over = over }).relations ≡ []
unfolding opening
first_relations p over = refl

pub first_waits : (p : Plan) (over : Bool) → some_waits (record (opening p) { over = over }) ≡ false
unfolding opening
first_waits p over = refl

-- Another world

pub some_asked : (p : Plan) (w : World) (c : ℕ) (x : Client) (a : Asked) → client_at w c ≡ Some x → a ≡ asked_of p w x → Some a ≡ option_map (asked_of p w) (client_at w c)
some_asked p w c x a found gives = ap (λ (a : Asked). Some a) gives ∙ sym (ap (option_map (asked_of p w)) found)
