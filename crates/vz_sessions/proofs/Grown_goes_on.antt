-- A plan with one message more goes on where the plan ended.
use Rattle.std.proofs.Common.{◌≡◌, ℕ, zero, suc, ◌+◌, ◌-◌, ◌<◌, ◌≤◌, Bool, true, false, ◌&&◌, ◌==◌, inl, inr, Option, Some, None, List, [], ◌∷◌, ◌++◌, map, length, refl, ap, sym, ◌∙◌, arith, cond, subst, slice_get, Contains, length-append}
use Rattle.std.specs.Prelude.{not, nat_le}
use Rattle.std.specs.Option.{option_and_then}
use Rattle.std.specs.List.{list_all}
use Rattle.std.proofs.lemmas.Bool.{and_parts}
use Rattle.std.proofs.lemmas.Bool.Decides.{nat_tests}
use Rattle.vz_base.specs.declared.limits.TheConstants.{MOST_FILES, MOST_MESSAGES}
use Rattle.vz_ids.specs.declared.FrameSinkId.{FrameSinkId}
use Rattle.vz_frame.specs.declared.message.ClientFile.{ClientFile}
use Rattle.vz_frame.specs.declared.message.Message.{Message}
use Rattle.vz_frame.specs.Fits.{fits_message, fits_file}
use Rattle.vz_rules.specs.Plan.{Plan, IsPlan, has_sink, taken_from, first_taken}
use Rattle.vz_rules.specs.declared.entry.Event.{Event}
use Rattle.vz_rules.specs.declared.entry.Event.TheVariants as event
use Rattle.vz_rules.specs.declared.entry.Entry.{Entry}
use Rattle.vz_rules.specs.World.{World, file_of, opening}
use Rattle.vz_rules.specs.Step.{step_in, world, NamesClient, LegalFrom, Legal}
use Rattle.vz_rules.specs.Whole.{is_of}
use Rattle.vz_rules.specs.Kept.{KeepsPlan}
use Rattle.vz_rules.specs.Accounts.{message_at}
use Rattle.vz_rules.proofs.Kept_files.{file_parts}
use Rattle.vz_rules.proofs.Members.{none_not_some, all_at, at_contains, contains_none, contains_cases}
use Rattle.vz_sessions.specs.Grown.{with_message, sent_at, grown, is_miss, NeverMisses, GoesOn, IsSettled, AreSettled, HasRoom}
use Rattle.vz_sessions.proofs.Legal_stays.{legal-onward, world-onward}

-- The files

sent_sinks : (n : ℕ) (m : Message) (files : List ClientFile) → map (λ (f : ClientFile). f.sink) (sent_at n m files) ≡ map (λ (f : ClientFile). f.sink) files
unfolding sent_at
sent_sinks n m [] = refl
sent_sinks zero m (f ∷ fs) = refl
sent_sinks (suc n) m (f ∷ fs) = ap (λ l. f.sink ∷ l) (sent_sinks n m fs)

pub get_before : {A : Type 0} (xs ys : List A) (k : ℕ) (x : A) → slice_get xs k ≡ Some x → slice_get (xs ++ ys) k ≡ Some x
get_before [] ys k x h = absurd (none_not_some x h)
get_before (z ∷ xs) ys zero x h = h
get_before (z ∷ xs) ys (suc k) x h = get_before xs ys k x h

pub get_end : {A : Type 0} (xs : List A) (y : A) → slice_get (xs ++ y ∷ []) (length xs) ≡ Some y
get_end [] y = refl
get_end (z ∷ xs) y = get_end xs y

-- the message at a place of a file that may be there
abbrev in_file : ℕ → Option ClientFile → Option Message
in_file k o = option_and_then (λ (f : ClientFile). slice_get f.messages k) o

-- the file at this place has one message more
pub sent_here : (n : ℕ) (m : Message) (files : List ClientFile) (f : ClientFile) → slice_get files n ≡ Some f → slice_get (sent_at n m files) n ≡ Some (with_message m f)
unfolding sent_at
sent_here n m [] f h = absurd (none_not_some f h)
sent_here zero m (g ∷ gs) f h = let s : g ≡ f = cc in ap (λ z. Some (with_message m z)) s
sent_here (suc n) m (g ∷ gs) f h = sent_here n m gs f h

-- and the others are as they were
sent_elsewhere : (n k : ℕ) (m : Message) (files : List ClientFile) → (n ≡ k → ⊥) → slice_get (sent_at n m files) k ≡ slice_get files k
unfolding sent_at
sent_elsewhere n k m [] apart = refl
sent_elsewhere zero zero m (f ∷ fs) apart = absurd (apart refl)
sent_elsewhere zero (suc k) m (f ∷ fs) apart = refl
sent_elsewhere (suc n) zero m (f ∷ fs) apart = refl
sent_elsewhere (suc n) (suc k) m (f ∷ fs) apart = sent_elsewhere n k m fs (λ e. apart (ap suc e))

-- each message stays at its place
sent_keeps : (n k j : ℕ) (m x : Message) (files : List ClientFile) → in_file j (slice_get files k) ≡ Some x → in_file j (slice_get (sent_at n m files) k) ≡ Some x
unfolding sent_at
sent_keeps n k j m x [] h = h
sent_keeps zero zero j m x (f ∷ fs) h = get_before f.messages (m ∷ []) j x h
sent_keeps zero (suc k) j m x (f ∷ fs) h = h
sent_keeps (suc n) zero j m x (f ∷ fs) h = h
sent_keeps (suc n) (suc k) j m x (f ∷ fs) h = sent_keeps n k j m x fs h

-- The plan

pub goes_on : (p : Plan) (c : ℕ) (m : Message) → GoesOn p (grown p c m)
unfolding grown
goes_on p c m =
    record {
      size = refl;
      sinks = sent_sinks (c - 1) m p.files;
      messages = λ n k x h. sent_keeps (c - 1) (n - 1) k m x p.files h;
    }

-- messages of other clients are as they were
pub others_same : (p : Plan) (c n k : ℕ) (m : Message) → 0 < c → 0 < n → (c ≡ n → ⊥) → message_at (grown p c m) n k ≡ message_at p n k
unfolding grown
others_same p c n k m low above apart = ap (in_file k) (sent_elsewhere (c - 1) (n - 1) m p.files (λ e. apart (let f : c - 1 ≡ n - 1 = e in omega (arith, f, low, above))))

is_of_client : (e : Entry) (c : ℕ) → e.event ≡ event.Client c → is_of c e ≡ true
is_of_client e c h = ap (λ (x : Event). elim x [ event.Client d ↦ d == c | _ ↦ false ]) h ∙ (let f : (c == c) ≡ true = grind (arith, nat_tests) in f)

misses : (a b : Bool) → a ≡ true → b ≡ true → not (a && b) ≡ true → ⊥
misses true true e f h = absurd (cc)
misses true false e f h = absurd (cc)
misses false b e f h = absurd (cc)

-- an entry of a client that never misses is settled
pub settled_by : (p : Plan) (c : ℕ) (m : Message) (e : Entry) → 0 < c → NamesClient p e.event → not (is_of c e && is_miss e.reply) ≡ true → IsSettled p (grown p c m) e
settled_by p c m e low names never n k of_n told =
    let named : NamesClient p (event.Client n) = subst (NamesClient p) of_n names in
    others_same p c n k m low named.0 (λ same. misses (is_of c e) (is_miss e.reply) (is_of_client e c (of_n ∙ ap event.Client (sym same))) (ap is_miss told) never)

-- Histories

named_from : (p : Plan) (w : World) (h : List Entry) (e : Entry) → LegalFrom p w h → Contains h e → NamesClient p e.event
unfolding LegalFrom
named_from p w [] e l c = absurd (contains_none e c)
named_from p w (x ∷ h) e l c =
    elim (contains_cases x e h c) [
      | inl same ↦ subst (λ (y : Entry). NamesClient p y.event) same l.0
      | inr later ↦ named_from p (step_in p w x.event).world h e l.2 later
    ]

-- each entry of a legal history is of a client of the plan, or of the display
pub named_in : (p : Plan) (h : List Entry) (e : Entry) → Legal p h → Contains h e → NamesClient p e.event
unfolding Legal
named_in p h e l c = named_from p (opening p) h e l c

pub settled : (p : Plan) (h : List Entry) (c : ℕ) (m : Message) → NamesClient p (event.Client c) → NeverMisses c h → Legal p h → AreSettled p (grown p c m) h
settled p h c m names never l e at =
    settled_by p c m e names.0 (named_in p h e l at) (all_at (λ x. not (is_of c x && is_miss x.reply)) h e never at)

pub grown_legal : (p : Plan) (h : List Entry) (c : ℕ) (m : Message) → NamesClient p (event.Client c) → NeverMisses c h → Legal p h → Legal (grown p c m) h
grown_legal p h c m names never l = legal-onward p (grown p c m) h (goes_on p c m) (settled p h c m names never l) l

pub grown_world : (p : Plan) (h : List Entry) (c : ℕ) (m : Message) → NamesClient p (event.Client c) → NeverMisses c h → Legal p h → world (grown p c m) h ≡ world p h
grown_world p h c m names never l = world-onward p (grown p c m) h (goes_on p c m) (settled p h c m names never l) l

-- What always holds of a plan

sinks_from : List FrameSinkId → ℕ → List FrameSinkId → Option ℕ
sinks_from earlier n [] = None
sinks_from earlier n (s ∷ ss) = cond (has_sink earlier s) (Some n) (sinks_from (s ∷ earlier) (n + 1) ss)

taken_is : (earlier : List FrameSinkId) (n : ℕ) (files : List ClientFile) → taken_from earlier n files ≡ sinks_from earlier n (map (λ (f : ClientFile). f.sink) files)
unfolding sinks_from
taken_is earlier n [] = refl
taken_is earlier n (f ∷ fs) = ap (λ o. cond (has_sink earlier f.sink) (Some n) o) (taken_is (f.sink ∷ earlier) (n + 1) fs)

pub sent_distinct : (n : ℕ) (m : Message) (files : List ClientFile) → first_taken (sent_at n m files) ≡ first_taken files
unfolding first_taken
sent_distinct n m files = taken_is [] 0 (sent_at n m files) ∙ (ap (sinks_from [] 0) (sent_sinks n m files) ∙ sym (taken_is [] 0 files))

pub sent_length : (n : ℕ) (m : Message) (files : List ClientFile) → length (sent_at n m files) ≡ length files
unfolding sent_at
sent_length n m [] = refl
sent_length zero m (f ∷ fs) = refl
sent_length (suc n) m (f ∷ fs) = ap suc (sent_length n m fs)

one_more : (t : Message → Bool) (xs : List Message) (m : Message) → list_all t xs ≡ true → t m ≡ true → list_all t (xs ++ m ∷ []) ≡ true
one_more t [] m h k = ap (λ b. b && true) k
one_more t (x ∷ xs) m h k = let b = and_parts (t x) (list_all t xs) h in ap (λ c. c && list_all t (xs ++ m ∷ [])) b.0 ∙ one_more t xs m b.1 k

file_fits : (f : ClientFile) (m : Message) → HasRoom f m → fits_file f ≡ true → fits_file (with_message m f) ≡ true
unfolding fits_file
file_fits f m room h =
    let b = and_parts _ (list_all (fits_message f.format) f.messages) h in
    let few = and_parts _ (nat_le (length f.messages) MOST_MESSAGES) b.0 in
    let short : nat_le (length (f.messages ++ m ∷ [])) MOST_MESSAGES ≡ true = let e = length-append f.messages (m ∷ []) in grind (arith, nat_tests, e, room.0) in
    let rest : _ ≡ true = few.0 in
    rw (rest, short, one_more (fits_message f.format) f.messages m b.1 room.1) refl

all_fit : (n : ℕ) (m : Message) (files : List ClientFile) → ((f : ClientFile) → slice_get files n ≡ Some f → HasRoom f m) → list_all fits_file files ≡ true → list_all fits_file (sent_at n m files) ≡ true
unfolding sent_at
all_fit n m [] room h = refl
all_fit zero m (f ∷ fs) room h = let b = and_parts (fits_file f) (list_all fits_file fs) h in ap (λ t. t && list_all fits_file fs) (file_fits f m (room f refl) b.0) ∙ b.1
all_fit (suc n) m (f ∷ fs) room h = let b = and_parts (fits_file f) (list_all fits_file fs) h in ap (λ t. t && list_all fits_file (sent_at n m fs)) b.0 ∙ all_fit n m fs room b.1

-- a plan stays one where there is room for the message, and it fits
pub grown_plan : (p : Plan) (c : ℕ) (m : Message) → IsPlan p → ((f : ClientFile) → file_of p c ≡ Some f → HasRoom f m) → IsPlan (grown p c m)
unfolding grown
grown_plan p c m is room =
    let many : length (sent_at (c - 1) m p.files) ≡ length p.files = sent_length (c - 1) m p.files in
    record {
      some_files = subst (λ n. 1 ≤ n) (sym many) is.some_files;
      few_files = subst (λ n. n ≤ MOST_FILES) (sym many) is.few_files;
      all_fit = all_fit (c - 1) m p.files room is.all_fit;
      distinct = sent_distinct (c - 1) m p.files ∙ is.distinct;
      sizes = is.sizes;
    }

-- and no plan has more messages in a file, or one that does not fit
pub room_needed : (p : Plan) (c : ℕ) (f : ClientFile) (m : Message) → IsPlan (grown p c m) → file_of p c ≡ Some f → HasRoom f m
unfolding grown
room_needed p c f m is at =
    let sent = sent_at (c - 1) m p.files in
    let fits = all_at fits_file sent (with_message m f) is.all_fit (at_contains sent (c - 1) (with_message m f) (sent_here (c - 1) m p.files f at)) in
    let parts = file_parts (with_message m f) fits in
    let few : length (f.messages ++ m ∷ []) ≤ MOST_MESSAGES = parts.0 in
    let last = at_contains (f.messages ++ m ∷ []) (length f.messages) m (get_end f.messages m) in
    (let e = length-append f.messages (m ∷ []) in omega (arith, e, few), all_at (fits_message f.format) (f.messages ++ m ∷ []) m parts.1 last)

-- What always holds of a world and its plan

sent_taken : (n k : ℕ) (m : Message) (files : List ClientFile) (g : ClientFile) → slice_get (sent_at n m files) k ≡ Some g
    → (f : ClientFile) × (slice_get files k ≡ Some f) × (g.sink ≡ f.sink) × (length f.messages ≤ length g.messages)
unfolding sent_at
sent_taken n k m [] g h = absurd (none_not_some g h)
sent_taken zero zero m (f ∷ fs) g h =
    let e : with_message m f ≡ g = cc in
    (f, refl, ap (λ (x : ClientFile). x.sink) (sym e), subst (λ (x : ClientFile). length f.messages ≤ length x.messages) e (let l = length-append f.messages (m ∷ []) in omega (arith, l)))
sent_taken zero (suc k) m (f ∷ fs) g h = (g, h, refl, omega arith)
sent_taken (suc n) zero m (f ∷ fs) g h = (g, h, refl, omega arith)
sent_taken (suc n) (suc k) m (f ∷ fs) g h = sent_taken n k m fs g h

pub grown_keeps : (p : Plan) (w : World) (c : ℕ) (m : Message) → KeepsPlan p w → KeepsPlan (grown p c m) w
unfolding grown
grown_keeps p w c m k =
    record {
      files = record {
        as_many = k.files.as_many ∙ sym (sent_length (c - 1) m p.files);
        sinks = λ n x g at here. let f = sent_taken (c - 1) n m p.files g here in k.files.sinks n x f.0 at f.1 ∙ sym f.2;
        taken = λ n x g at here. let f = sent_taken (c - 1) n m p.files g here in let low : x.taken ≤ length f.0.messages = k.files.taken n x f.0 at f.1 in let more : length f.0.messages ≤ length g.messages = f.3 in omega (arith, low, more);
        ids = k.files.ids;
      };
      due = k.due;
    }
