-- Lines that can be named and are written are read again.
use Rattle.std.proofs.Common.{◌≡◌, ℕ, ℤ, pos, negsuc, nat_abs, ◌+ℤ◌, ◌+◌, Bool, true, false, ◌&&◌, ◌==◌, ltb, leb, int_le, int_lt, codes, List, [], ◌∷◌, ◌++◌, Option, Some, None, refl, sym, ap, ◌∙◌, append_assoc, if◌then◌else◌, arith, le-leb, decimal}
use Rattle.std.specs.List.{list_all, flat_map}
use Rattle.std.proofs.lemmas.Bool.{and_parts, and_from}
use Rattle.vz_geom.specs.Rectangle.{Rectangle}
use Rattle.vz_ids.specs.declared.Sub.{Sub}
use Rattle.vz_frame.specs.declared.rules.Rule.{Rule}
use Rattle.vz_frame.specs.declared.rules.Rule.TheVariants.{NoPass, BadRoot, PassIds, PassOrder, VisibleOutside, UnlistedResource, ListedTwice, TileOutside, BadRange, BadDependency, DamageOutside}
use Rattle.vz_rules.specs.declared.entry.Event.{Event}
use Rattle.vz_rules.specs.declared.entry.Event.TheVariants as event
use Rattle.vz_rules.specs.declared.entry.Reply.{Reply}
use Rattle.vz_rules.specs.declared.entry.Reply.TheVariants as reply
use Rattle.vz_rules.specs.declared.entry.Refusal.{Refusal}
use Rattle.vz_rules.specs.declared.entry.Refusal.TheVariants as refusal
use Rattle.vz_rules.specs.declared.entry.Returned.{Returned}
use Rattle.vz_rules.specs.declared.entry.Lost.{Lost}
use Rattle.vz_rules.specs.declared.entry.Fed.{Fed}
use Rattle.vz_rules.specs.declared.entry.Effects.{Effects}
use Rattle.vz_rules.specs.declared.entry.Entry.{Entry}
use Rattle.vz_rules.specs.Log.{then_number, with_count, event_text, rule_number, refusal_text, reply_text, effects_text, activated_text, destroyed_text, returned_text, fed_text, entry_text, held_text, open_text}
use Rattle.vz_rules.specs.Log.{is_log_number, is_count, is_log_client, has_text_sub, has_text_lost, has_text_return, has_text_effects, has_text_damage, answers_client, answers, has_text_entry}
use Rattle.vz_journal.specs.Reading.{Read, ◌>>=◌, word_at, one_of, all_at, number_at, count_at, next_number_at, counted_at, reclaim_at, activated_at, destroyed_at, returned_at, fed_at, effects_at, client_event_at, event_at}
use Rattle.vz_journal.specs.Reading.{rule_of, refusal_of, malformed_at, refused_at, accepted_at, began_at, client_reply_at, ticked_at, drawn_on, is_drawn, drawn_at, draw_reply_at, reply_at, entry_at, held_at, open_at}
use Rattle.vz_journal.proofs.Chosen.{pick, skip}
use Rattle.vz_journal.proofs.Damages.{drawn_parts}
use Rattle.vz_journal.proofs.Took.{sub_text, return_text, reclaim_text}
use Rattle.vz_journal.proofs.Took_lines.{event_word, has_text_event, decimal_of}
use Rattle.vz_journal.proofs.Again.{Again, Starting, no_digit_first, anything, next, words, clients, next_numbers, next_counts, subs, returns, reclaims, activateds, destroyeds, returneds, feds, row_before, all_again}

-- ---- events

pub events : Again event_at event_word has_text_event anything
unfolding event_at client_event_at event_text one_of
events = record { law = law }
  where
    law : (e : Event) (rest : List ℕ) → has_text_event e ≡ true → anything rest ≡ true → event_at (event_word e ++ rest) ≡ Some (e, rest)
    law (event.Client c) rest good fits =
        ap client_event_at (append_assoc (decimal c) (32 ∷ []) rest)
        ∙ next clients c (32 ∷ rest) _ _ good refl (next (words (codes " ")) tt rest _ _ refl refl refl)
    law event.Begin rest good fits = refl
    law event.Draw rest good fits = refl
    law event.Done rest good fits = refl
    law event.Over rest good fits = refl

-- ---- refusals

numbered : (n : ℕ) (text : List ℕ) (rest : List ℕ) → decimal n ≡ text → is_log_number n ≡ true → no_digit_first rest ≡ true → next_number_at (32 ∷ (text ++ rest)) ≡ Some (n, rest)
numbered n text rest same small ends = ap (λ (t : List ℕ). next_number_at (32 ∷ (t ++ rest))) (sym same) ∙ next_numbers.law n rest small ends

-- a refusal that is only a number
plain_refused : (n : ℕ) (r : Refusal) (rest : List ℕ) → decimal n ≡ refusal_text r → is_log_number n ≡ true → (n == 2) ≡ false → refusal_of n ≡ Some r → no_digit_first rest ≡ true
    → refused_at (32 ∷ (refusal_text r ++ rest)) ≡ Some (reply.Refused r, rest)
unfolding refused_at
plain_refused n r rest same small other given ends =
    let read = numbered n (refusal_text r) rest same small ends in
    ap (λ (x : Read ℕ). x >>= λ (m : ℕ × List ℕ). (if m.0 == 2 then malformed_at m.1 else (refusal_of m.0 >>= λ why. Some (reply.Refused why, m.1)))) read
    ∙ skip (n == 2) (malformed_at rest) (refusal_of n >>= λ why. Some (reply.Refused why, rest)) other
    ∙ ap (λ (x : Option Refusal). x >>= λ why. Some (reply.Refused why, rest)) given

pub rule_again : (r : Rule) → (is_log_number (rule_number r) ≡ true) × (rule_of (rule_number r) ≡ Some r)
unfolding rule_of rule_number
rule_again NoPass = (refl, refl)
rule_again BadRoot = (refl, refl)
rule_again PassIds = (refl, refl)
rule_again PassOrder = (refl, refl)
rule_again VisibleOutside = (refl, refl)
rule_again UnlistedResource = (refl, refl)
rule_again ListedTwice = (refl, refl)
rule_again TileOutside = (refl, refl)
rule_again BadRange = (refl, refl)
rule_again BadDependency = (refl, refl)
rule_again DamageOutside = (refl, refl)

malformed_again : (rule : Rule) (rest : List ℕ) → no_digit_first rest ≡ true → malformed_at (then_number (rule_number rule) ++ rest) ≡ Some (reply.Refused (refusal.Malformed rule), rest)
unfolding malformed_at
malformed_again rule rest ends =
    let named = rule_again rule in
    next next_numbers (rule_number rule) rest _ _ named.0 ends (ap (λ (x : Option Rule). x >>= λ why. Some (reply.Refused (refusal.Malformed why), rest)) named.1)

refused_again : (r : Refusal) (rest : List ℕ) → no_digit_first rest ≡ true → refused_at (32 ∷ (refusal_text r ++ rest)) ≡ Some (reply.Refused r, rest)
unfolding refusal_text refusal_of refused_at
refused_again (refusal.Malformed rule) rest ends =
    let read = numbered 2 (codes "2") (then_number (rule_number rule) ++ rest) decimal_of.1 refl refl in
    ap (λ (x : Read ℕ). x >>= λ (m : ℕ × List ℕ). (if m.0 == 2 then malformed_at m.1 else (refusal_of m.0 >>= λ why. Some (reply.Refused why, m.1)))) read
    ∙ malformed_again rule rest ends
refused_again refusal.AlreadyClosed rest ends = plain_refused 1 refusal.AlreadyClosed rest decimal_of.0 refl refl refl ends
refused_again refusal.UnknownResource rest ends = plain_refused 3 refusal.UnknownResource rest decimal_of.2 refl refl refl ends
refused_again refusal.InvariantsViolation rest ends = plain_refused 4 refusal.InvariantsViolation rest decimal_of.3 refl refl refl ends
refused_again refusal.SizeMismatch rest ends = plain_refused 5 refusal.SizeMismatch rest decimal_of.4 refl refl refl ends
refused_again refusal.InUse rest ends = plain_refused 6 refusal.InUse rest decimal_of.5 refl refl refl ends
refused_again refusal.NotRoot rest ends = plain_refused 7 refusal.NotRoot rest decimal_of.6 refl refl refl ends
refused_again refusal.Loop rest ends = plain_refused 8 refusal.Loop rest decimal_of.7 refl refl refl ends
refused_again refusal.UnknownSink rest ends = plain_refused 9 refusal.UnknownSink rest decimal_of.8 refl refl refl ends
refused_again refusal.ParentOfOther rest ends = plain_refused 10 refusal.ParentOfOther rest decimal_of.9 refl refl refl ends
refused_again refusal.NotYet rest ends = plain_refused 11 refusal.NotYet rest decimal_of.10 refl refl refl ends
refused_again refusal.NoMessage rest ends = plain_refused 12 refusal.NoMessage rest decimal_of.11 refl refl refl ends

-- ---- replies

accepted_again : (k i : ℕ) (rest : List ℕ) → is_count k ≡ true → is_count i ≡ true → no_digit_first rest ≡ true → accepted_at (then_number k ++ (then_number i ++ rest)) ≡ Some (reply.Accepted k i, rest)
unfolding accepted_at
accepted_again k i rest good_k good_i ends = next next_counts k (then_number i ++ rest) _ _ good_k refl (next next_counts i rest _ _ good_i ends refl)

began_again : (n : ℕ) (rest : List ℕ) → is_log_number n ≡ true → no_digit_first rest ≡ true → began_at (then_number n ++ rest) ≡ Some (reply.Began n, rest)
unfolding began_at
began_again n rest good ends = next next_numbers n rest _ _ good ends refl

reclaim_start : Starting reclaim_text no_digit_first
reclaim_start = record { some = λ r. omega arith; may = λ r rest. refl }

client_again : (c : ℕ) (r : Reply) (rest : List ℕ) → answers_client c r ≡ true → no_digit_first rest ≡ true → reclaim_at c rest ≡ None → client_reply_at c (reply_text r ++ rest) ≡ Some (r, rest)
unfolding client_reply_at reply_text answers_client one_of
client_again c reply.Stored rest good ends none = refl
client_again c (reply.Accepted k i) rest good ends none =
    let parts = and_parts (is_count k) (is_count i) good in
    ap accepted_at (append_assoc (then_number k) (then_number i) rest) ∙ accepted_again k i rest parts.0 parts.1 ends
client_again c reply.Noted rest good ends none = refl
client_again c (reply.Reclaimed rs) rest good ends none =
    ap (λ (x : List Returned × List ℕ). Some (reply.Reclaimed x.0, x.1)) (all_again (reclaims c) reclaim_start rs rest good ends none)
client_again c reply.Rooted rest good ends none = refl
client_again c reply.Joined rest good ends none = refl
client_again c (reply.Began n) rest good ends none = began_again n rest good ends
client_again c reply.Over rest good ends none = refl
client_again c reply.Left rest good ends none = refl
client_again c (reply.Refused r) rest good ends none = refused_again r rest ends
client_again c (reply.Ticked n) rest good ends none = absurd cc
client_again c (reply.Drawn d) rest good ends none = absurd cc
client_again c reply.Unchanged rest good ends none = absurd cc
client_again c reply.NoRoot rest good ends none = absurd cc
client_again c reply.TooMuch rest good ends none = absurd cc
client_again c reply.Busy rest good ends none = absurd cc
client_again c reply.Shown rest good ends none = absurd cc
client_again c reply.Nothing rest good ends none = absurd cc
client_again c reply.Ended rest good ends none = absurd cc

ticked_again : (n : ℕ) (rest : List ℕ) → is_log_number n ≡ true → no_digit_first rest ≡ true → ticked_at (codes "ticked" ++ (then_number n ++ rest)) ≡ Some (reply.Ticked n, rest)
unfolding ticked_at
ticked_again n rest good ends = next (words (codes "ticked")) tt (then_number n ++ rest) _ _ refl refl (next next_numbers n rest _ _ good ends refl)

drawn_numbers : (x y w h : ℕ) (rest : List ℕ) → is_drawn x y w h ≡ true → no_digit_first rest ≡ true
    → drawn_at (then_number x ++ (then_number y ++ (then_number w ++ (then_number h ++ rest)))) ≡ Some (reply.Drawn (drawn_on x y w h), rest)
unfolding drawn_at
drawn_numbers x y w h rest fits ends =
    let parts = drawn_parts x y w h fits in
    let small_x : is_log_number x ≡ true = le-leb x 4294967295 (omega (arith, parts.2)) in
    let small_y : is_log_number y ≡ true = le-leb y 4294967295 (omega (arith, parts.3)) in
    let small_w : is_log_number w ≡ true = le-leb w 4294967295 (omega (arith, parts.2)) in
    let small_h : is_log_number h ≡ true = le-leb h 4294967295 (omega (arith, parts.3)) in
    next next_numbers x (then_number y ++ (then_number w ++ (then_number h ++ rest))) _ _ small_x refl
    (next next_numbers y (then_number w ++ (then_number h ++ rest)) _ _ small_y refl
    (next next_numbers w (then_number h ++ rest) _ _ small_w refl
    (next next_numbers h rest _ _ small_h ends (pick (is_drawn x y w h) (Some (reply.Drawn (drawn_on x y w h), rest)) None fits))))

natural : (z : ℤ) → int_le (pos 0) z ≡ true → z ≡ pos (nat_abs z)
natural (pos n) h = refl
natural (negsuc n) h = absurd cc

positive : (z : ℤ) → int_lt (pos 0) z ≡ true → z ≡ pos (nat_abs z)
positive (pos n) h = refl
positive (negsuc n) h = absurd cc

-- the numbers of a damage that can be named
pub damage_numbers : (d : Rectangle) → has_text_damage d ≡ true → (d ≡ drawn_on (nat_abs d.x) (nat_abs d.y) (nat_abs d.w) (nat_abs d.h)) × (is_drawn (nat_abs d.x) (nat_abs d.y) (nat_abs d.w) (nat_abs d.h) ≡ true)
damage_numbers d good =
    let t4 = and_parts (int_le (pos 0) d.x && int_le (pos 0) d.y && int_lt (pos 0) d.w && int_lt (pos 0) d.h && int_le (d.x +ℤ d.w) (pos 2048)) (int_le (d.y +ℤ d.h) (pos 2048)) good in
    let t3 = and_parts (int_le (pos 0) d.x && int_le (pos 0) d.y && int_lt (pos 0) d.w && int_lt (pos 0) d.h) (int_le (d.x +ℤ d.w) (pos 2048)) t4.0 in
    let t2 = and_parts (int_le (pos 0) d.x && int_le (pos 0) d.y && int_lt (pos 0) d.w) (int_lt (pos 0) d.h) t3.0 in
    let t1 = and_parts (int_le (pos 0) d.x && int_le (pos 0) d.y) (int_lt (pos 0) d.w) t2.0 in
    let t0 = and_parts (int_le (pos 0) d.x) (int_le (pos 0) d.y) t1.0 in
    let is_x = natural d.x t0.0 in
    let is_y = natural d.y t0.1 in
    let is_w = positive d.w t1.1 in
    let is_h = positive d.h t2.1 in
    let same : d ≡ drawn_on (nat_abs d.x) (nat_abs d.y) (nat_abs d.w) (nat_abs d.h) = λ i. record { x = is_x i; y = is_y i; w = is_w i; h = is_h i } in
    let fits : has_text_damage (drawn_on (nat_abs d.x) (nat_abs d.y) (nat_abs d.w) (nat_abs d.h)) ≡ true = ap has_text_damage (sym same) ∙ good in
    (same, from_naturals (nat_abs d.x) (nat_abs d.y) (nat_abs d.w) (nat_abs d.h) fits)
  where
    from_naturals : (x y w h : ℕ) → has_text_damage (drawn_on x y w h) ≡ true → is_drawn x y w h ≡ true
    from_naturals x y w h good =
        let t4 = and_parts (leb 0 x && leb 0 y && ltb 0 w && ltb 0 h && leb (x + w) 2048) (leb (y + h) 2048) good in
        let t3 = and_parts (leb 0 x && leb 0 y && ltb 0 w && ltb 0 h) (leb (x + w) 2048) t4.0 in
        let t2 = and_parts (leb 0 x && leb 0 y && ltb 0 w) (ltb 0 h) t3.0 in
        let t1 = and_parts (leb 0 x && leb 0 y) (ltb 0 w) t2.0 in
        and_from _ _ (and_from _ _ (and_from _ _ t1.1 t2.1) t3.1) t4.1

drawn_again : (d : Rectangle) (rest : List ℕ) → has_text_damage d ≡ true → no_digit_first rest ≡ true
    → drawn_at (then_number (nat_abs d.x) ++ (then_number (nat_abs d.y) ++ (then_number (nat_abs d.w) ++ (then_number (nat_abs d.h) ++ rest)))) ≡ Some (reply.Drawn d, rest)
drawn_again d rest good ends =
    let n = damage_numbers d good in
    drawn_numbers (nat_abs d.x) (nat_abs d.y) (nat_abs d.w) (nat_abs d.h) rest n.1 ends ∙ ap (λ (e : Rectangle). Some (reply.Drawn e, rest)) (sym n.0)

row_of_four : (a b c d rest : List ℕ) → (a ++ b ++ c ++ d) ++ rest ≡ a ++ (b ++ (c ++ (d ++ rest)))
row_of_four a b c d rest = simp append_assoc

draw_again : (r : Reply) (rest : List ℕ) → answers event.Draw r ≡ true → no_digit_first rest ≡ true → draw_reply_at (reply_text r ++ rest) ≡ Some (r, rest)
unfolding draw_reply_at reply_text answers one_of
draw_again (reply.Drawn d) rest good ends =
    ap drawn_at (row_of_four (then_number (nat_abs d.x)) (then_number (nat_abs d.y)) (then_number (nat_abs d.w)) (then_number (nat_abs d.h)) rest) ∙ drawn_again d rest good ends
draw_again reply.Unchanged rest good ends = refl
draw_again reply.NoRoot rest good ends = refl
draw_again reply.TooMuch rest good ends = refl
draw_again reply.Busy rest good ends = refl
draw_again reply.Stored rest good ends = absurd cc
draw_again (reply.Accepted k i) rest good ends = absurd cc
draw_again reply.Noted rest good ends = absurd cc
draw_again (reply.Reclaimed rs) rest good ends = absurd cc
draw_again reply.Rooted rest good ends = absurd cc
draw_again reply.Joined rest good ends = absurd cc
draw_again (reply.Began n) rest good ends = absurd cc
draw_again reply.Over rest good ends = absurd cc
draw_again reply.Left rest good ends = absurd cc
draw_again (reply.Refused r) rest good ends = absurd cc
draw_again (reply.Ticked n) rest good ends = absurd cc
draw_again reply.Shown rest good ends = absurd cc
draw_again reply.Nothing rest good ends = absurd cc
draw_again reply.Ended rest good ends = absurd cc

-- the replies to the other events, one by one
abbrev pub PlainAgain : Event → Type 0
PlainAgain e = (r : Reply) (rest : List ℕ) → answers e r ≡ true → no_digit_first rest ≡ true → reply_at e (reply_text r ++ rest) ≡ Some (r, rest)

begin_again : PlainAgain event.Begin
unfolding reply_at reply_text answers
begin_again (reply.Ticked n) rest good ends = ticked_again n rest good ends
begin_again (reply.Drawn d) rest good ends = absurd cc
begin_again reply.Unchanged rest good ends = absurd cc
begin_again reply.NoRoot rest good ends = absurd cc
begin_again reply.TooMuch rest good ends = absurd cc
begin_again reply.Busy rest good ends = absurd cc
begin_again reply.Stored rest good ends = absurd cc
begin_again (reply.Accepted k i) rest good ends = absurd cc
begin_again reply.Noted rest good ends = absurd cc
begin_again (reply.Reclaimed rs) rest good ends = absurd cc
begin_again reply.Rooted rest good ends = absurd cc
begin_again reply.Joined rest good ends = absurd cc
begin_again (reply.Began n) rest good ends = absurd cc
begin_again reply.Over rest good ends = absurd cc
begin_again reply.Left rest good ends = absurd cc
begin_again (reply.Refused r) rest good ends = absurd cc
begin_again reply.Shown rest good ends = absurd cc
begin_again reply.Nothing rest good ends = absurd cc
begin_again reply.Ended rest good ends = absurd cc

done_again : PlainAgain event.Done
unfolding reply_at reply_text answers one_of
done_again reply.Shown rest good ends = refl
done_again reply.Nothing rest good ends = refl
done_again (reply.Ticked n) rest good ends = absurd cc
done_again (reply.Drawn d) rest good ends = absurd cc
done_again reply.Unchanged rest good ends = absurd cc
done_again reply.NoRoot rest good ends = absurd cc
done_again reply.TooMuch rest good ends = absurd cc
done_again reply.Busy rest good ends = absurd cc
done_again reply.Stored rest good ends = absurd cc
done_again (reply.Accepted k i) rest good ends = absurd cc
done_again reply.Noted rest good ends = absurd cc
done_again (reply.Reclaimed rs) rest good ends = absurd cc
done_again reply.Rooted rest good ends = absurd cc
done_again reply.Joined rest good ends = absurd cc
done_again (reply.Began n) rest good ends = absurd cc
done_again reply.Over rest good ends = absurd cc
done_again reply.Left rest good ends = absurd cc
done_again (reply.Refused r) rest good ends = absurd cc
done_again reply.Ended rest good ends = absurd cc

over_again : PlainAgain event.Over
unfolding reply_at reply_text answers one_of
over_again reply.Ended rest good ends = refl
over_again reply.Shown rest good ends = absurd cc
over_again reply.Nothing rest good ends = absurd cc
over_again (reply.Ticked n) rest good ends = absurd cc
over_again (reply.Drawn d) rest good ends = absurd cc
over_again reply.Unchanged rest good ends = absurd cc
over_again reply.NoRoot rest good ends = absurd cc
over_again reply.TooMuch rest good ends = absurd cc
over_again reply.Busy rest good ends = absurd cc
over_again reply.Stored rest good ends = absurd cc
over_again (reply.Accepted k i) rest good ends = absurd cc
over_again reply.Noted rest good ends = absurd cc
over_again (reply.Reclaimed rs) rest good ends = absurd cc
over_again reply.Rooted rest good ends = absurd cc
over_again reply.Joined rest good ends = absurd cc
over_again (reply.Began n) rest good ends = absurd cc
over_again reply.Over rest good ends = absurd cc
over_again reply.Left rest good ends = absurd cc
over_again (reply.Refused r) rest good ends = absurd cc

pub replies_again : (e : Event) (r : Reply) (rest : List ℕ) → answers e r ≡ true → no_digit_first rest ≡ true → ((c : ℕ) → reclaim_at c rest ≡ None) → reply_at e (reply_text r ++ rest) ≡ Some (r, rest)
unfolding reply_at answers
replies_again (event.Client c) r rest good ends none = client_again c r rest (and_parts (is_log_client c) (answers_client c r) good).1 ends (none c)
replies_again event.Begin r rest good ends none = begin_again r rest good ends
replies_again event.Draw r rest good ends none = draw_again r rest good ends
replies_again event.Done r rest good ends none = done_again r rest good ends
replies_again event.Over r rest good ends none = over_again r rest good ends

-- an event that answers can be named
pub event_named : (e : Event) (r : Reply) → answers e r ≡ true → has_text_event e ≡ true
unfolding answers
event_named (event.Client c) r good = (and_parts (is_log_client c) (answers_client c r) good).0
event_named event.Begin r good = refl
event_named event.Draw r good = refl
event_named event.Done r good = refl
event_named event.Over r good = refl

-- ---- effects: what stands where a kind of them ends

by_sign : (P : ℕ → Type 0) (b : Bool) → P 112 → P 100 → P (if b then 112 else 100)
by_sign P true shown dropped = shown
by_sign P false shown dropped = dropped

-- feedback and the end of a line
abbrev pub feds_on : List Fed → List ℕ → List ℕ
feds_on fs rest = flat_map fed_text fs ++ (10 ∷ rest)

abbrev pub returns_on : List Returned → List Fed → List ℕ → List ℕ
returns_on rs fs rest = flat_map returned_text rs ++ feds_on fs rest

abbrev pub losses_on : List Lost → List Returned → List Fed → List ℕ → List ℕ
losses_on ls rs fs rest = flat_map destroyed_text ls ++ returns_on rs fs rest

abbrev pub effects_on : List Sub → List Lost → List Returned → List Fed → List ℕ → List ℕ
effects_on ss ls rs fs rest = flat_map activated_text ss ++ losses_on ls rs fs rest

pub by_feds : (P : List ℕ → Type 0) → ((t : List ℕ) → P (10 ∷ t)) → ((t : List ℕ) → P (32 ∷ 112 ∷ t)) → ((t : List ℕ) → P (32 ∷ 100 ∷ t)) → (fs : List Fed) (rest : List ℕ) → P (feds_on fs rest)
by_feds P line shown dropped [] rest = line rest
by_feds P line shown dropped (f ∷ fs) rest =
    by_sign (λ k. P (32 ∷ k ∷ ((sub_text f.sub ++ flat_map fed_text fs) ++ (10 ∷ rest)))) f.presented (shown _) (dropped _)

pub by_returns : (P : List ℕ → Type 0) → ((t : List ℕ) → P (10 ∷ t)) → ((t : List ℕ) → P (32 ∷ 112 ∷ t)) → ((t : List ℕ) → P (32 ∷ 100 ∷ t)) → ((t : List ℕ) → P (32 ∷ 60 ∷ t)) → (rs : List Returned) (fs : List Fed) (rest : List ℕ) → P (returns_on rs fs rest)
by_returns P line shown dropped back [] fs rest = by_feds P line shown dropped fs rest
by_returns P line shown dropped back (r ∷ rs) fs rest = back _

pub by_losses : (P : List ℕ → Type 0) → ((t : List ℕ) → P (10 ∷ t)) → ((t : List ℕ) → P (32 ∷ 112 ∷ t)) → ((t : List ℕ) → P (32 ∷ 100 ∷ t)) → ((t : List ℕ) → P (32 ∷ 60 ∷ t)) → ((t : List ℕ) → P (32 ∷ 120 ∷ t))
    → (ls : List Lost) (rs : List Returned) (fs : List Fed) (rest : List ℕ) → P (losses_on ls rs fs rest)
by_losses P line shown dropped back lost [] rs fs rest = by_returns P line shown dropped back rs fs rest
by_losses P line shown dropped back lost (l ∷ ls) rs fs rest = lost _

pub by_effects : (P : List ℕ → Type 0) → ((t : List ℕ) → P (10 ∷ t)) → ((t : List ℕ) → P (32 ∷ 112 ∷ t)) → ((t : List ℕ) → P (32 ∷ 100 ∷ t)) → ((t : List ℕ) → P (32 ∷ 60 ∷ t)) → ((t : List ℕ) → P (32 ∷ 120 ∷ t)) → ((t : List ℕ) → P (32 ∷ 43 ∷ t))
    → (ss : List Sub) (ls : List Lost) (rs : List Returned) (fs : List Fed) (rest : List ℕ) → P (effects_on ss ls rs fs rest)
by_effects P line shown dropped back lost active [] ls rs fs rest = by_losses P line shown dropped back lost ls rs fs rest
by_effects P line shown dropped back lost active (s ∷ ss) ls rs fs rest = active _

no_fed : (rest : List ℕ) → fed_at (10 ∷ rest) ≡ None
unfolding fed_at word_at
no_fed rest = refl

no_returned : (fs : List Fed) (rest : List ℕ) → returned_at (feds_on fs rest) ≡ None
unfolding returned_at word_at
no_returned fs rest = by_feds (λ s. returned_at s ≡ None) (λ t. refl) (λ t. refl) (λ t. refl) fs rest

no_destroyed : (rs : List Returned) (fs : List Fed) (rest : List ℕ) → destroyed_at (returns_on rs fs rest) ≡ None
unfolding destroyed_at word_at
no_destroyed rs fs rest = by_returns (λ s. destroyed_at s ≡ None) (λ t. refl) (λ t. refl) (λ t. refl) (λ t. refl) rs fs rest

no_activated : (ls : List Lost) (rs : List Returned) (fs : List Fed) (rest : List ℕ) → activated_at (losses_on ls rs fs rest) ≡ None
unfolding activated_at word_at
no_activated ls rs fs rest = by_losses (λ s. activated_at s ≡ None) (λ t. refl) (λ t. refl) (λ t. refl) (λ t. refl) (λ t. refl) ls rs fs rest

no_reclaim : (c : ℕ) (ss : List Sub) (ls : List Lost) (rs : List Returned) (fs : List Fed) (rest : List ℕ) → reclaim_at c (effects_on ss ls rs fs rest) ≡ None
unfolding reclaim_at word_at counted_at count_at number_at
no_reclaim c ss ls rs fs rest = by_effects (λ s. reclaim_at c s ≡ None) (λ t. refl) (λ t. refl) (λ t. refl) (λ t. refl) (λ t. refl) (λ t. refl) ss ls rs fs rest

no_digit : (ss : List Sub) (ls : List Lost) (rs : List Returned) (fs : List Fed) (rest : List ℕ) → no_digit_first (effects_on ss ls rs fs rest) ≡ true
no_digit ss ls rs fs rest = by_effects (λ s. no_digit_first s ≡ true) (λ t. refl) (λ t. refl) (λ t. refl) (λ t. refl) (λ t. refl) (λ t. refl) ss ls rs fs rest

active_start : Starting activated_text no_digit_first
active_start = record { some = λ s. omega arith; may = λ s rest. refl }

lost_start : Starting destroyed_text no_digit_first
lost_start = record { some = λ s. omega arith; may = λ s rest. refl }

back_start : Starting returned_text no_digit_first
back_start = record { some = λ s. omega arith; may = λ s rest. refl }

fed_start : Starting fed_text no_digit_first
fed_start = record { some = λ s. omega arith; may = λ s rest. refl }

-- the effects, as each kind of them is read
abbrev from_fed : List Sub → List Lost → List Returned → List Fed × List ℕ → Effects × List ℕ
from_fed ss ls rs x = (record { activated = ss; destroyed = ls; returned = rs; fed = x.0 }, x.1)

abbrev from_back : List Sub → List Lost → List Returned × List ℕ → Effects × List ℕ
from_back ss ls x = from_fed ss ls x.0 (all_at fed_at x.1)

abbrev from_lost : List Sub → List Lost × List ℕ → Effects × List ℕ
from_lost ss x = from_back ss x.0 (all_at returned_at x.1)

abbrev from_active : List Sub × List ℕ → Effects × List ℕ
from_active x = from_lost x.0 (all_at destroyed_at x.1)

-- the effects of four readings
four_kinds : (bytes : List ℕ) (ss : List Sub) (ls : List Lost) (rs : List Returned) (fs : List Fed) (b1 b2 b3 b4 : List ℕ) → all_at activated_at bytes ≡ (ss, b1) → all_at destroyed_at b1 ≡ (ls, b2) → all_at returned_at b2 ≡ (rs, b3) → all_at fed_at b3 ≡ (fs, b4)
    → effects_at bytes ≡ (record { activated = ss; destroyed = ls; returned = rs; fed = fs }, b4)
unfolding effects_at
four_kinds bytes ss ls rs fs b1 b2 b3 b4 e1 e2 e3 e4 =
    ap (λ (x : List Sub × List ℕ). from_active x) e1 ∙ ap (λ (x : List Lost × List ℕ). from_lost ss x) e2 ∙ ap (λ (x : List Returned × List ℕ). from_back ss ls x) e3
    ∙ ap (λ (x : List Fed × List ℕ). from_fed ss ls rs x) e4

pub effects_again : (ss : List Sub) (ls : List Lost) (rs : List Returned) (fs : List Fed) (rest : List ℕ) → has_text_effects (record { activated = ss; destroyed = ls; returned = rs; fed = fs }) ≡ true
    → effects_at (effects_on ss ls rs fs rest) ≡ (record { activated = ss; destroyed = ls; returned = rs; fed = fs }, 10 ∷ rest)
effects_again ss ls rs fs rest good =
    let t2 = and_parts (list_all has_text_sub ss && list_all has_text_lost ls && list_all has_text_return rs) (list_all (λ (f : Fed). has_text_sub f.sub) fs) good in
    let t1 = and_parts (list_all has_text_sub ss && list_all has_text_lost ls) (list_all has_text_return rs) t2.0 in
    let t0 = and_parts (list_all has_text_sub ss) (list_all has_text_lost ls) t1.0 in
    let ends_3 : no_digit_first (feds_on fs rest) ≡ true = row_before fed_text no_digit_first fed_start fs (10 ∷ rest) refl in
    let ends_2 : no_digit_first (returns_on rs fs rest) ≡ true = row_before returned_text no_digit_first back_start rs (feds_on fs rest) ends_3 in
    let ends_1 : no_digit_first (losses_on ls rs fs rest) ≡ true = row_before destroyed_text no_digit_first lost_start ls (returns_on rs fs rest) ends_2 in
    four_kinds (effects_on ss ls rs fs rest) ss ls rs fs (losses_on ls rs fs rest) (returns_on rs fs rest) (feds_on fs rest) (10 ∷ rest)
    (all_again activateds active_start ss (losses_on ls rs fs rest) t0.0 ends_1 (no_activated ls rs fs rest))
    (all_again destroyeds lost_start ls (returns_on rs fs rest) t0.1 ends_2 (no_destroyed rs fs rest))
    (all_again returneds back_start rs (feds_on fs rest) t1.1 ends_3 (no_returned fs rest))
    (all_again feds fed_start fs (10 ∷ rest) t2.1 refl (no_fed rest))

-- ---- lines

line_of : (a w b p q r s l rest : List ℕ) → (a ++ (w ++ b) ++ (p ++ q ++ r ++ s) ++ l) ++ rest ≡ (a ++ w) ++ (b ++ (p ++ (q ++ (r ++ (s ++ (l ++ rest))))))
line_of a w b p q r s l rest = simp append_assoc

held_line : (w a m l rest : List ℕ) → (w ++ a ++ m ++ l) ++ rest ≡ w ++ ((a ++ m) ++ (l ++ rest))
held_line w a m l rest = simp append_assoc

open_line : (w a l rest : List ℕ) → (w ++ a ++ l) ++ rest ≡ w ++ (a ++ (l ++ rest))
open_line w a l rest = simp append_assoc

pub entries : Again entry_at entry_text has_text_entry anything
unfolding entry_at entry_text effects_text
entries = record { law = law }
  where
    law : (e : Entry) (rest : List ℕ) → has_text_entry e ≡ true → anything rest ≡ true → entry_at (entry_text e ++ rest) ≡ Some (e, rest)
    law e rest good fits =
        let parts = and_parts (answers e.event e.reply) (has_text_effects e.effects) good in
        let ss = e.effects.activated in
        let ls = e.effects.destroyed in
        let rs = e.effects.returned in
        let fs = e.effects.fed in
        let tail = effects_on e.effects.activated e.effects.destroyed e.effects.returned e.effects.fed rest in
        let effects = effects_again e.effects.activated e.effects.destroyed e.effects.returned e.effects.fed rest parts.1 in
        let reply = replies_again e.event e.reply (effects_on e.effects.activated e.effects.destroyed e.effects.returned e.effects.fed rest) parts.0 (no_digit e.effects.activated e.effects.destroyed e.effects.returned e.effects.fed rest) (λ c. no_reclaim c e.effects.activated e.effects.destroyed e.effects.returned e.effects.fed rest) in
        ap entry_at (line_of (event_text e.event) (32 ∷ []) (reply_text e.reply) (flat_map activated_text ss) (flat_map destroyed_text ls) (flat_map returned_text rs) (flat_map fed_text fs) (10 ∷ []) rest)
        ∙ next events e.event (reply_text e.reply ++ tail) _ _ (event_named e.event e.reply parts.0) refl
        (ap (λ (x : Read Reply). x >>= λ (re : Reply × List ℕ). (word_at (codes "\n") (effects_at re.1).1 >>= λ line. Some (record { event = e.event; reply = re.0; effects = (effects_at re.1).0 }, line.1))) reply
        ∙ ap (λ (x : Effects × List ℕ). (word_at (codes "\n") x.1 >>= λ line. Some (record { event = e.event; reply = e.reply; effects = x.0 }, line.1))) effects
        ∙ next (words (codes "\n")) tt rest _ _ refl refl refl)

pub helds : Again held_at held_text has_text_return anything
unfolding held_at
helds = record {
  law = λ r rest good fits.
      ap held_at (held_line (codes "held ") (decimal r.client) (46 ∷ with_count r.id r.count) (10 ∷ []) rest)
      ∙ next (words (codes "held ")) tt (return_text r ++ (10 ∷ rest)) _ _ refl refl
      (next returns r (10 ∷ rest) _ _ good refl
      (next (words (codes "\n")) tt rest _ _ refl refl refl));
}

pub opens : Again open_at open_text has_text_sub anything
unfolding open_at
opens = record {
  law = λ s rest good fits.
      ap open_at (open_line (codes "open ") (sub_text s) (10 ∷ []) rest)
      ∙ next (words (codes "open ")) tt (sub_text s ++ (10 ∷ rest)) _ _ refl refl
      (next subs s (10 ∷ rest) _ _ good refl
      (next (words (codes "\n")) tt rest _ _ refl refl refl));
}
