-- Texts without a line feed, and lines, which end with the only one.
use Rattle.std.proofs.Common.{◌≡◌, ℕ, nat_abs, ◌+◌, ◌%◌, ◌^◌, ◌≤◌, ◌<◌, Bool, true, false, not, ◌&&◌, ◌==◌, ltb, leb, codes, List, [], ◌∷◌, ◌++◌, refl, ap, ◌∙◌, if◌then◌else◌, arith, leb-true, ne_eqb, decimal}
use Rattle.std.specs.List.{list_all, flat_map}
use Rattle.std.proofs.lemmas.Bool.{and_parts, and_from}
use Rattle.std.proofs.lemmas.List.Folds.{list_all-append}
use Rattle.std.proofs.lemmas.Fmt.{decimal_by_steps}
use Rattle.vz_geom.specs.Rectangle.{Rectangle}
use Rattle.vz_ids.specs.declared.Sub.{Sub}
use Rattle.vz_rules.specs.declared.entry.Event.{Event}
use Rattle.vz_rules.specs.declared.entry.Event.TheVariants as event
use Rattle.vz_rules.specs.declared.entry.Reply.{Reply}
use Rattle.vz_rules.specs.declared.entry.Reply.TheVariants as reply
use Rattle.vz_rules.specs.declared.entry.Refusal.{Refusal}
use Rattle.vz_rules.specs.declared.entry.Refusal.TheVariants as refusal
use Rattle.vz_rules.specs.declared.entry.Returned.{Returned}
use Rattle.vz_rules.specs.declared.entry.Fed.{Fed}
use Rattle.vz_rules.specs.declared.entry.Effects.{Effects}
use Rattle.vz_rules.specs.declared.entry.Entry.{Entry}
use Rattle.vz_rules.specs.Log.{then_number, dotted, with_count, event_text, rule_number, refusal_text, reply_text, effects_text, activated_text, destroyed_text, returned_text, fed_text, entry_text, held_text, open_text}
use Rattle.vz_rules.specs.Log.{is_log_number, is_count, is_log_client, has_text_sub, has_text_lost, has_text_return, has_text_effects, has_text_damage, answers_client, answers, has_text_entry}
use Rattle.vz_journal.proofs.Damages.{drawn_parts}
use Rattle.vz_journal.proofs.Took.{sub_text, return_text, reclaim_text, has_text_of}
use Rattle.vz_journal.proofs.Again_lines.{damage_numbers, rule_again, event_named}
use Rattle.vz_journal.proofs.Took_lines.{has_text_event}

-- a byte that is no line feed
abbrev pub is_within : ℕ → Bool
is_within b = not (b == 10)

-- no line feed
abbrev pub no_feed : List ℕ → Bool
no_feed bytes = list_all is_within bytes

pub joined_feed : (a b : List ℕ) → no_feed a ≡ true → no_feed b ≡ true → no_feed (a ++ b) ≡ true
joined_feed a b p q = list_all-append is_within a b ∙ and_from (no_feed a) (no_feed b) p q

digit_within : (b : ℕ) → 48 ≤ b → is_within b ≡ true
digit_within b low = ap not (ne_eqb b 10 (λ is. omega arith))

decimal_feed : (n : ℕ) → n < 2 ^ 64 → no_feed (decimal n) ≡ true
decimal_feed = decimal_by_steps (λ n ds. no_feed ds ≡ true)
    (λ n small. and_from (is_within (48 + n)) true (digit_within (48 + n) (omega arith)) refl)
    (λ n ds large before. joined_feed ds ((48 + n % 10) ∷ []) before (and_from (is_within (48 + n % 10)) true (digit_within (48 + n % 10) (omega arith)) refl))

pub number_feed : (n : ℕ) → is_log_number n ≡ true → no_feed (decimal n) ≡ true
number_feed n good =
    let small : n ≤ 4294967295 = leb-true n 4294967295 good in
    decimal_feed n (omega arith)

count_feed : (n : ℕ) → is_count n ≡ true → no_feed (decimal n) ≡ true
count_feed n good = number_feed n (and_parts (ltb 0 n) (is_log_number n) good).1

client_feed : (c : ℕ) → is_log_client c ≡ true → no_feed (decimal c) ≡ true
client_feed c good =
    let small : c ≤ 16 = leb-true c 16 (and_parts (ltb 0 c) (leb c 16) good).1 in
    decimal_feed c (omega arith)

sub_feed : (c k : ℕ) → is_log_client c ≡ true → is_count k ≡ true → no_feed (dotted c k) ≡ true
sub_feed c k p q = joined_feed (decimal c) (46 ∷ decimal k) (client_feed c p) (count_feed k q)

counted_feed : (id n : ℕ) → is_count id ≡ true → is_count n ≡ true → no_feed (with_count id n) ≡ true
counted_feed id n p q = joined_feed (decimal id) (120 ∷ decimal n) (count_feed id p) (count_feed n q)

return_feed : (r : Returned) → has_text_return r ≡ true → (no_feed (with_count r.id r.count) ≡ true) × (no_feed (return_text r) ≡ true)
return_feed r good =
    let last = and_parts (is_log_client r.client && is_count r.id) (is_count r.count) good in
    let first = and_parts (is_log_client r.client) (is_count r.id) last.0 in
    let two = counted_feed r.id r.count first.1 last.1 in
    (two, joined_feed (decimal r.client) (46 ∷ with_count r.id r.count) (client_feed r.client first.0) two)

rows_feed : {A : Type 0} (text : A → List ℕ) (good : A → Bool) → ((a : A) → good a ≡ true → no_feed (text a) ≡ true) → (xs : List A) → list_all good xs ≡ true → no_feed (flat_map text xs) ≡ true
rows_feed text good each [] all = refl
rows_feed text good each (x ∷ xs) all =
    let parts = and_parts (good x) (list_all good xs) all in
    joined_feed (text x) (flat_map text xs) (each x parts.0) (rows_feed text good each xs parts.1)

event_feed : (e : Event) → has_text_event e ≡ true → no_feed (event_text e) ≡ true
unfolding event_text
event_feed (event.Client c) good = client_feed c good
event_feed event.Begin good = refl
event_feed event.Draw good = refl
event_feed event.Done good = refl
event_feed event.Over good = refl

refusal_feed : (r : Refusal) → no_feed (refusal_text r) ≡ true
unfolding refusal_text
refusal_feed (refusal.Malformed rule) = number_feed (rule_number rule) (rule_again rule).0
refusal_feed refusal.AlreadyClosed = refl
refusal_feed refusal.UnknownResource = refl
refusal_feed refusal.InvariantsViolation = refl
refusal_feed refusal.SizeMismatch = refl
refusal_feed refusal.InUse = refl
refusal_feed refusal.NotRoot = refl
refusal_feed refusal.Loop = refl
refusal_feed refusal.UnknownSink = refl
refusal_feed refusal.ParentOfOther = refl
refusal_feed refusal.NotYet = refl
refusal_feed refusal.NoMessage = refl

small_feed : (n : ℕ) → n ≤ 2048 → no_feed (then_number n) ≡ true
small_feed n low = decimal_feed n (omega arith)

drawn_feed : (d : Rectangle) → has_text_damage d ≡ true → no_feed (then_number (nat_abs d.x) ++ then_number (nat_abs d.y) ++ then_number (nat_abs d.w) ++ then_number (nat_abs d.h)) ≡ true
drawn_feed d good =
    let parts = drawn_parts (nat_abs d.x) (nat_abs d.y) (nat_abs d.w) (nat_abs d.h) (damage_numbers d good).1 in
    let x = small_feed (nat_abs d.x) (omega (arith, parts.2)) in
    let y = small_feed (nat_abs d.y) (omega (arith, parts.3)) in
    let w = small_feed (nat_abs d.w) (omega (arith, parts.2)) in
    let h = small_feed (nat_abs d.h) (omega (arith, parts.3)) in
    joined_feed (then_number (nat_abs d.x) ++ then_number (nat_abs d.y) ++ then_number (nat_abs d.w)) (then_number (nat_abs d.h))
    (joined_feed (then_number (nat_abs d.x) ++ then_number (nat_abs d.y)) (then_number (nat_abs d.w)) (joined_feed (then_number (nat_abs d.x)) (then_number (nat_abs d.y)) x y) w) h

-- the numbers of a reply can be written
abbrev pub has_numbers : Reply → Bool
has_numbers (reply.Accepted k i) = is_count k && is_count i
has_numbers (reply.Reclaimed rs) = list_all has_text_return rs
has_numbers (reply.Began n) = is_log_number n
has_numbers (reply.Ticked n) = is_log_number n
has_numbers (reply.Drawn d) = has_text_damage d
has_numbers _ = true

reply_feed : (r : Reply) → has_numbers r ≡ true → no_feed (reply_text r) ≡ true
unfolding reply_text
reply_feed reply.Stored good = refl
reply_feed (reply.Accepted k i) good =
    let parts = and_parts (is_count k) (is_count i) good in
    joined_feed (then_number k) (then_number i) (count_feed k parts.0) (count_feed i parts.1)
reply_feed reply.Noted good = refl
reply_feed (reply.Reclaimed rs) good = rows_feed reclaim_text has_text_return (λ r h. (return_feed r h).0) rs good
reply_feed reply.Rooted good = refl
reply_feed reply.Joined good = refl
reply_feed (reply.Began n) good = number_feed n good
reply_feed reply.Over good = refl
reply_feed reply.Left good = refl
reply_feed (reply.Refused r) good = refusal_feed r
reply_feed (reply.Ticked n) good = number_feed n good
reply_feed (reply.Drawn d) good = drawn_feed d good
reply_feed reply.Unchanged good = refl
reply_feed reply.NoRoot good = refl
reply_feed reply.TooMuch good = refl
reply_feed reply.Busy good = refl
reply_feed reply.Shown good = refl
reply_feed reply.Nothing good = refl
reply_feed reply.Ended good = refl

own_returns : (c : ℕ) (rs : List Returned) → list_all (has_text_of c) rs ≡ true → list_all has_text_return rs ≡ true
own_returns c [] good = refl
own_returns c (r ∷ rs) good =
    let parts = and_parts (has_text_of c r) (list_all (has_text_of c) rs) good in
    and_from (has_text_return r) (list_all has_text_return rs) (and_parts (r.client == c) (has_text_return r) parts.0).1 (own_returns c rs parts.1)

client_numbers : (c : ℕ) (r : Reply) → answers_client c r ≡ true → has_numbers r ≡ true
unfolding answers_client
client_numbers c reply.Stored good = refl
client_numbers c (reply.Accepted k i) good = good
client_numbers c reply.Noted good = refl
client_numbers c (reply.Reclaimed rs) good = own_returns c rs good
client_numbers c reply.Rooted good = refl
client_numbers c reply.Joined good = refl
client_numbers c (reply.Began n) good = good
client_numbers c reply.Over good = refl
client_numbers c reply.Left good = refl
client_numbers c (reply.Refused r) good = refl
client_numbers c (reply.Ticked n) good = absurd cc
client_numbers c (reply.Drawn d) good = absurd cc
client_numbers c reply.Unchanged good = refl
client_numbers c reply.NoRoot good = refl
client_numbers c reply.TooMuch good = refl
client_numbers c reply.Busy good = refl
client_numbers c reply.Shown good = refl
client_numbers c reply.Nothing good = refl
client_numbers c reply.Ended good = refl

-- the events of no client have words, ticks and drawings as answers
abbrev IsOther : Event → Type 0
IsOther e = ((k i : ℕ) → answers e (reply.Accepted k i) ≡ false) × ((rs : List Returned) → answers e (reply.Reclaimed rs) ≡ false) × ((n : ℕ) → answers e (reply.Began n) ≡ false)
    × ((n : ℕ) → answers e (reply.Ticked n) ≡ true → is_log_number n ≡ true) × ((d : Rectangle) → answers e (reply.Drawn d) ≡ true → has_text_damage d ≡ true)

other_numbers : (e : Event) → IsOther e → (r : Reply) → answers e r ≡ true → has_numbers r ≡ true
other_numbers e other reply.Stored good = refl
other_numbers e other (reply.Accepted k i) good = absurd (let none = other.0 k i in cc)
other_numbers e other reply.Noted good = refl
other_numbers e other (reply.Reclaimed rs) good = absurd (let none = other.1 rs in cc)
other_numbers e other reply.Rooted good = refl
other_numbers e other reply.Joined good = refl
other_numbers e other (reply.Began n) good = absurd (let none = other.2 n in cc)
other_numbers e other reply.Over good = refl
other_numbers e other reply.Left good = refl
other_numbers e other (reply.Refused r) good = refl
other_numbers e other (reply.Ticked n) good = other.3 n good
other_numbers e other (reply.Drawn d) good = other.4 d good
other_numbers e other reply.Unchanged good = refl
other_numbers e other reply.NoRoot good = refl
other_numbers e other reply.TooMuch good = refl
other_numbers e other reply.Busy good = refl
other_numbers e other reply.Shown good = refl
other_numbers e other reply.Nothing good = refl
other_numbers e other reply.Ended good = refl

numbers_fit : (e : Event) (r : Reply) → answers e r ≡ true → has_numbers r ≡ true
unfolding answers
numbers_fit (event.Client c) r good = client_numbers c r (and_parts (is_log_client c) (answers_client c r) good).1
numbers_fit event.Begin r good = other_numbers event.Begin ((λ k i. refl), (λ rs. refl), (λ n. refl), (λ n h. h), (λ d h. absurd cc)) r good
numbers_fit event.Draw r good = other_numbers event.Draw ((λ k i. refl), (λ rs. refl), (λ n. refl), (λ n h. absurd cc), (λ d h. h)) r good
numbers_fit event.Done r good = other_numbers event.Done ((λ k i. refl), (λ rs. refl), (λ n. refl), (λ n h. absurd cc), (λ d h. absurd cc)) r good
numbers_fit event.Over r good = other_numbers event.Over ((λ k i. refl), (λ rs. refl), (λ n. refl), (λ n h. absurd cc), (λ d h. absurd cc)) r good

-- ---- effects

fed_feed : (f : Fed) → has_text_sub f.sub ≡ true → no_feed (fed_text f) ≡ true
fed_feed f good =
    let parts = and_parts (is_log_client f.sub.client) (is_count f.sub.ordinal) good in
    let two = sub_feed f.sub.client f.sub.ordinal parts.0 parts.1 in
    signed f.presented (sub_text f.sub) two
  where
    signed : (presented : Bool) (text : List ℕ) → no_feed text ≡ true → no_feed (32 ∷ (if presented then 112 else 100) ∷ text) ≡ true
    signed true text h = h
    signed false text h = h

pub effects_feed : (e : Effects) → has_text_effects e ≡ true → no_feed (effects_text e) ≡ true
unfolding effects_text
effects_feed e good =
    let t2 = and_parts (list_all has_text_sub e.activated && list_all has_text_lost e.destroyed && list_all has_text_return e.returned) (list_all (λ (f : Fed). has_text_sub f.sub) e.fed) good in
    let t1 = and_parts (list_all has_text_sub e.activated && list_all has_text_lost e.destroyed) (list_all has_text_return e.returned) t2.0 in
    let t0 = and_parts (list_all has_text_sub e.activated) (list_all has_text_lost e.destroyed) t1.0 in
    let a = rows_feed activated_text has_text_sub (λ s h. let p = and_parts (is_log_client s.client) (is_count s.ordinal) h in sub_feed s.client s.ordinal p.0 p.1) e.activated t0.0 in
    let d = rows_feed destroyed_text has_text_lost (λ s h. let p = and_parts (is_log_client s.client) (is_count s.surface) h in sub_feed s.client s.surface p.0 p.1) e.destroyed t0.1 in
    let r = rows_feed returned_text has_text_return (λ s h. (return_feed s h).1) e.returned t1.1 in
    let f = rows_feed fed_text (λ (f : Fed). has_text_sub f.sub) fed_feed e.fed t2.1 in
    let texts_2 = joined_feed (flat_map activated_text e.activated) (flat_map destroyed_text e.destroyed) a d in
    let texts_3 = joined_feed (flat_map activated_text e.activated ++ flat_map destroyed_text e.destroyed) (flat_map returned_text e.returned) texts_2 r in
    joined_feed (flat_map activated_text e.activated ++ flat_map destroyed_text e.destroyed ++ flat_map returned_text e.returned) (flat_map fed_text e.fed) texts_3 f

-- ---- lines

-- a text that ends with its only line feed
pub record IsLine (text : List ℕ) : Type 0 where
  pub front : List ℕ
  pub is : text ≡ front ++ 10 ∷ []
  pub plain : no_feed front ≡ true

pub entry_line : (e : Entry) → has_text_entry e ≡ true → IsLine (entry_text e)
unfolding entry_text
entry_line e good =
    let parts = and_parts (answers e.event e.reply) (has_text_effects e.effects) good in
    let event = event_feed e.event (event_named e.event e.reply parts.0) in
    let reply = reply_feed e.reply (numbers_fit e.event e.reply parts.0) in
    let effects = effects_feed e.effects parts.1 in
    let first = joined_feed (event_text e.event) (32 ∷ reply_text e.reply) event reply in
    record { front = event_text e.event ++ (32 ∷ reply_text e.reply) ++ effects_text e.effects; is = refl; plain = joined_feed (event_text e.event ++ (32 ∷ reply_text e.reply)) (effects_text e.effects) first effects }

pub held_line : (r : Returned) → has_text_return r ≡ true → IsLine (held_text r)
held_line r good =
    let last = and_parts (is_log_client r.client && is_count r.id) (is_count r.count) good in
    let first = and_parts (is_log_client r.client) (is_count r.id) last.0 in
    let name = joined_feed (codes "held ") (decimal r.client) refl (client_feed r.client first.0) in
    record { front = codes "held " ++ decimal r.client ++ (46 ∷ with_count r.id r.count); is = refl; plain = joined_feed (codes "held " ++ decimal r.client) (46 ∷ with_count r.id r.count) name (return_feed r good).0 }

pub open_line : (s : Sub) → has_text_sub s ≡ true → IsLine (open_text s)
open_line s good =
    let parts = and_parts (is_log_client s.client) (is_count s.ordinal) good in
    record { front = codes "open " ++ dotted s.client s.ordinal; is = refl; plain = joined_feed (codes "open ") (dotted s.client s.ordinal) refl (sub_feed s.client s.ordinal parts.0 parts.1) }

pub last_line : IsLine (codes "end\n")
last_line = record { front = codes "end"; is = refl; plain = refl }
