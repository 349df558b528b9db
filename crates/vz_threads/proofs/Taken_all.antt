-- That all messages are taken and every entry is in time, and with it that a history is one of a run.
use Rattle.std.proofs.Common.{◌≡◌, ℕ, zero, suc, ◌+◌, ◌-◌, ◌<◌, ◌≤◌, ◌==◌, not, Bool, true, false, inl, inr, Option, Some, None, List, [], ◌∷◌, ◌++◌, length, map, filter, find, get_or, refl, sym, ap, subst, ◌∙◌, arith, cond, slice_get, Contains, is_some}
use Rattle.std.specs.{Prelude.IsTrue, Prelude.is_none, Option.option_and_then, List.list_all}
use Rattle.std.proofs.{lemmas.Bool.ne_eqb, lemmas.Bool.Decides.nat_tests, lemmas.Option.slice_get_past, lemmas.Grind.common_steps}
use Rattle.vz_frame.specs.declared.message.ClientFile.{ClientFile}
use Rattle.vz_rules.specs.{Plan.Plan, Plan.message_counts, Scene.scene_of, declared.entry.Event.Event, declared.entry.Entry.Entry}
use Rattle.vz_rules.specs.World.{World, Client, Scene, client_at, new_client, new_clients, next_message}
use Rattle.vz_rules.specs.declared.entry.Event.TheVariants as event
use Rattle.vz_rules.specs.declared.entry.Reply.TheVariants as reply
use Rattle.vz_rules.specs.{Messages.Answer, Messages.says, Course.is_of_client, Course.displayed, Course.AreRounds, Course.IsPaced, Accounts.takes}
use Rattle.vz_rules.specs.Step.{answer_to, begin_answer, draw_answer, done_answer, scene_answer, outcome_of, step_in, world, NamesClient, Legal}
use Rattle.vz_rules.specs.Whole.{is_of, mine, is_in_time, TakesAll, AllInTime}
use Rattle.vz_rules.proofs.{Given.number_of, Numbered.HasNumbers, Numbered.numbers_are, Numbered.numbers_rise, Prefixes.legal-at, Taken.taken_are}
use Rattle.vz_rules.proofs.Rising.{Rising}
use Rattle.vz_rules.proofs.Members.{all_at, all_from, contains_cases, contains_none, contains_at, contains_map, map_contains, filter_has}
use Rattle.vz_threads.specs.{Courses.IsRun, Tails.IsTail, Tails.TookAll}
use Rattle.vz_threads.proofs.{Quiet.reply_of, Places.at_split, Places.all_pass}
use Rattle.vz_threads.proofs.Ending.{is_shown, AreShown, tail_shown, mine_stay, takes_stay, course_is, ends_after_over, paced_on}

eqb_self : (n : ℕ) → (n == n) ≡ true
eqb_self n = grind (arith, nat_tests)

-- The clients

-- where numbers rise, a client is the one that is found by its own
find_own : (cs : List Client) (x : Client) → Rising number_of cs → Contains cs x → find (λ (y : Client). y.number == x.number) cs ≡ Some x
find_own [] x rise there = absurd (contains_none x there)
find_own (y ∷ cs) x rise there = grind (arith, nat_tests, common_steps, contains_cases y x cs there, eqb_self x.number, all_at, ne_eqb y.number x.number, find_own cs x rise.1)

new_within : (n : ℕ) (files : List ClientFile) (y : Client) → Contains (new_clients n files) y → (n ≤ y.number) × (y.number < n + length files)
new_within n [] y there = absurd (contains_none y there)
new_within n (f ∷ files) y there =
    elim (contains_cases (new_client n f.sink) y (new_clients (n + 1) files) there) [
      | inl same ↦ (let is : n ≡ y.number = ap (λ (z : Client). z.number) same in (omega (arith, is), omega (arith, is)))
      | inr rest ↦ (let r = new_within (n + 1) files y rest in (omega (arith, r.0), omega (arith, r.1)))
    ]

-- its number is one of the files'
number_within : (p : Plan) (w : World) (x : Client) → HasNumbers p w → Contains w.clients x → (1 ≤ x.number) × (x.number ≤ length p.files)
number_within p w x numbers there =
    let m = contains_map number_of (new_clients 1 p.files) x.number (subst (λ (l : List ℕ). Contains l x.number) numbers (map_contains number_of w.clients x there)) in
    let r = new_within 1 p.files m.0 m.1 in
    (omega (arith, r.0, m.2), omega (arith, r.1, m.2))

-- a client that took as many messages as its file has has none left
none_left : (files : List ClientFile) (k taken : ℕ) → k < length files → taken ≡ get_or (map (λ (f : ClientFile). length f.messages) files) k 0
    → option_and_then (λ (f : ClientFile). slice_get f.messages taken) (slice_get files k) ≡ None
none_left [] k taken here all = absurd (omega (arith, here))
none_left (f ∷ files) zero taken here all = slice_get_past f.messages taken (omega (arith, all))
none_left (f ∷ files) (suc k) taken here all = none_left files k taken (omega (arith, here)) all

took_all_is : (p : Plan) (h : List Entry) (x : Client) → Legal p h → Contains (world p h).clients x → (1 ≤ x.number → x.number ≤ length p.files → length (takes h x.number) ≡ get_or (message_counts p) (x.number - 1) 0)
    → is_none (next_message p x) ≡ true
took_all_is p h x legal there all =
    let numbers : HasNumbers p (world p h) = numbers_are p h legal in
    let within = number_within p (world p h) x numbers there in
    let found : client_at (world p h) x.number ≡ Some x = find_own (world p h).clients x (numbers_rise p (world p h) numbers) there in
    let taken : x.taken ≡ get_or (message_counts p) (x.number - 1) 0 =
    sym (ap (λ (o : Option Client). elim o [ Some y ↦ y.taken | None ↦ 0 ]) found) ∙ (taken_are p h x.number legal ∙ all within.0 within.1) in
    ap is_none (none_left p.files (x.number - 1) x.taken (omega (arith, within.0, within.1)) taken)

-- all messages are taken
pub takes_all : (p : Plan) (h : List Entry) → Legal p h → ((c : ℕ) → 1 ≤ c → c ≤ length p.files → length (takes h c) ≡ get_or (message_counts p) (c - 1) 0) → TakesAll p (world p h)
takes_all p h legal all = all_from (λ (c : Client). is_none (next_message p c)) (world p h).clients (λ x there. took_all_is p h x legal there (all x.number))

-- The replies to the display

-- an answer is in time
abbrev AnswersInTime : Answer → Type 0
AnswersInTime a = is_in_time a.reply ≡ true

by_test : (t : Bool) (a b : Answer) → AnswersInTime a → AnswersInTime b → AnswersInTime (cond t a b)
by_test t a b h k = grind (arith, nat_tests)

scene_in_time : (p : Plan) (w : World) (scene : Scene) → AnswersInTime (scene_answer p w scene)
unfolding scene_answer
scene_in_time p w scene = grind (arith, nat_tests)

seen_in_time : (p : Plan) (w : World) (o : Option Scene) → AnswersInTime (elim o [ Some scene ↦ scene_answer p w scene | None ↦ says reply.NoRoot w ])
seen_in_time p w None = refl
seen_in_time p w (Some scene) = scene_in_time p w scene

draw_in_time : (p : Plan) (w : World) → AnswersInTime (draw_answer p w)
unfolding draw_answer
draw_in_time p w = by_test (is_some w.in_flight) (says reply.Busy w) _ refl (seen_in_time p w (scene_of w))

done_in_time : (w : World) → AnswersInTime (done_answer w)
unfolding done_answer
done_in_time w = by_test (is_some w.in_flight) (says reply.Shown (record w { in_flight = None })) (says reply.Nothing w) refl refl

shown_in_time : (p : Plan) (w : World) (v : Event) → not (is_of_client v) ≡ true → is_in_time (step_in p w v).reply ≡ true
unfolding step_in outcome_of answer_to begin_answer
shown_in_time p w (event.Client c) is = absurd (cc)
shown_in_time p w event.Begin is = refl
shown_in_time p w event.Draw is = draw_in_time p w
shown_in_time p w event.Done is = done_in_time w
shown_in_time p w event.Over is = refl

-- The entries

-- an entry is the display's, or that of a client
entry_by : (v : Event) (b : Bool) → not (is_of_client v) ≡ b → (c : ℕ) × (b ≡ false → v ≡ event.Client c)
entry_by (event.Client c) b is = (c, λ no. refl)
entry_by event.Begin b is = (0, λ no. absurd (let w : true ≡ false = is ∙ no in cc))
entry_by event.Draw b is = (0, λ no. absurd (let w : true ≡ false = is ∙ no in cc))
entry_by event.Done b is = (0, λ no. absurd (let w : true ≡ false = is ∙ no in cc))
entry_by event.Over b is = (0, λ no. absurd (let w : true ≡ false = is ∙ no in cc))

client_in_time : (p : Plan) (h : List Entry) (x : Entry) (c : ℕ) → Contains h x → NamesClient p x.event → x.event ≡ event.Client c
    → ((c : ℕ) → 1 ≤ c → c ≤ length p.files → length (mine h c) ≡ length (takes h c)) → is_in_time x.reply ≡ true
unfolding mine takes
client_in_time p h x c there named own each =
    let within : NamesClient p (event.Client c) = subst (NamesClient p) own named in
    let all : list_all (λ (e : Entry). is_in_time e.reply) (filter (is_of c) h) ≡ true = all_pass (λ (e : Entry). is_in_time e.reply) (filter (is_of c) h) (each c (omega (arith, within.0)) within.1) in
    let here : is_of c x ≡ true = ap (λ (v : Event). elim v [ event.Client d ↦ d == c | _ ↦ false ]) own ∙ eqb_self c in
    all_at (λ (e : Entry). is_in_time e.reply) (filter (is_of c) h) x all (filter_has (is_of c) h x there here)

entry_in_time : (p : Plan) (h : List Entry) (x : Entry) → Legal p h → Contains h x
    → ((c : ℕ) → 1 ≤ c → c ≤ length p.files → length (mine h c) ≡ length (takes h c)) → is_in_time x.reply ≡ true
entry_in_time p h x legal there each = grind (arith, nat_tests, contains_at h x there, at_split h, legal-at p, is_shown x, reply_of p, shown_in_time p, entry_by x.event false, client_in_time p h x)

-- every entry is in time
pub all_in_time : (p : Plan) (h : List Entry) → Legal p h → ((c : ℕ) → 1 ≤ c → c ≤ length p.files → length (mine h c) ≡ length (takes h c)) → AllInTime h
all_in_time p h legal each = all_from (λ (e : Entry). is_in_time e.reply) h (λ x there. entry_in_time p h x legal there each)

-- The run

-- a legal history is one of a run: up to its tail it has the display's rounds and Over, paced where that is asked, and the
-- clients took all of their messages there, each in time
pub run_is : (p : Plan) (rounds : ℕ) (paced : Bool) (h begins last first : List Entry) (over : Entry) → Legal p (h ++ (begins ++ last)) → IsTail p h begins last
    → displayed h ≡ first ++ over ∷ [] → AreRounds rounds first → over.event ≡ event.Over → (IsTrue paced → IsPaced p h rounds)
    → ((c : ℕ) → 1 ≤ c → c ≤ length p.files → TookAll p h c) → IsRun p rounds paced (h ++ (begins ++ last))
run_is p rounds paced h begins last first over legal tail all rounded ended pace took =
    let shown : AreShown (begins ++ last) = tail_shown begins last tail.begun.are_begins tail.is_show in
    record {
      legal = legal;
      display = record {
        course = course_is rounds h begins last first over tail.begun.are_begins tail.is_show all rounded ended;
        ends = ends_after_over p rounds h begins last first over tail all rounded;
      };
      pace = λ asked. paced_on p h (begins ++ last) rounds (pace asked);
      taken = takes_all p (h ++ (begins ++ last)) legal (λ c from upto. ap length (takes_stay h (begins ++ last) c shown) ∙ (took c from upto).all);
      in_time = all_in_time p (h ++ (begins ++ last)) legal (λ c from upto.
          ap length (mine_stay h (begins ++ last) c shown) ∙ ((took c from upto).each ∙ sym (ap length (takes_stay h (begins ++ last) c shown))));
    }
