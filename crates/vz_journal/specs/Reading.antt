-- Reading a log, part by part: the value and the bytes after it, if the bytes begin with the text
-- of a value.
use Rattle.std.specs.Prelude.{ℕ, zero, suc, ◌+◌, ◌-◌, ◌*◌, ◌==◌, pos, Bool, true, false, ◌&&◌, nat_lt, nat_le, codes}
use Rattle.std.specs.Prelude.{Option, Some, None, Result, Ok, Err, List, [], ◌∷◌, length, drop, slice_index, if◌then◌else◌}
use Rattle.std.specs.List.{starts_with}
use Rattle.vz_base.specs.declared.limits.TheConstants.{GREATEST_DISPLAY_SIDE, GREATEST_NUMBER}
use Rattle.vz_geom.specs.Rectangle.{Rectangle}
use Rattle.vz_ids.specs.declared.Sub.{Sub}
use Rattle.vz_frame.specs.declared.rules.Rule.{Rule}
use Rattle.vz_frame.specs.declared.rules.Rule.TheVariants.{NoPass, BadRoot, PassIds, PassOrder, VisibleOutside, UnlistedResource}
use Rattle.vz_frame.specs.declared.rules.Rule.TheVariants.{ListedTwice, TileOutside, BadRange, BadDependency, DamageOutside}
use Rattle.vz_rules.specs.declared.entry.Event.{Event}
use Rattle.vz_rules.specs.declared.entry.Event.TheVariants as event
use Rattle.vz_rules.specs.declared.entry.Reply.{Reply}
use Rattle.vz_rules.specs.declared.entry.Reply.TheVariants as reply
use Rattle.vz_rules.specs.declared.entry.Refusal.{Refusal}
use Rattle.vz_rules.specs.declared.entry.Refusal.TheVariants as refusal
use Rattle.vz_rules.specs.declared.entry.Returned.{Returned}
use Rattle.vz_rules.specs.declared.entry.Lost.{Lost}
use Rattle.vz_rules.specs.declared.entry.Fed.{Fed}
use Rattle.vz_rules.specs.declared.entry.Effects.{Effects}
use Rattle.vz_rules.specs.declared.entry.Entry.{Entry}
use Rattle.vz_rules.specs.declared.entry.Rest.{Rest}
use Rattle.vz_rules.specs.Log.{is_log_client}

-- a value and the bytes after it, if the bytes begin with one
abbrev pub Read : Type 0 → Type 0
Read A = Option (A × List ℕ)

-- reading goes on after a value, if there was one
infixl 10 ◌>>=◌
abbrev pub ◌>>=◌ : {A B : Type 0} → Option A → (A → Option B) → Option B
(Some x) >>= f = f x
None >>= f = None

-- a value that was read, if it passes a test
abbrev pub tested : {A : Type 0} → Bool → A → Option A
tested good x = if good then Some x else None

-- the bytes begin with this word
abbrev pub begins : List ℕ → List ℕ → Bool
begins word bytes = starts_with (λ a b. a == b) bytes word

-- the bytes after this word
abbrev pub after : List ℕ → List ℕ → List ℕ
after word bytes = drop (length word) bytes

-- reads a word
unfoldable pub word_at : List ℕ → List ℕ → Read (Unit {0})
word_at word bytes = if begins word bytes then Some (tt, after word bytes) else None

-- the value of the first of these words that the bytes begin with
unfoldable pub one_of : {A : Type 0} → List (List ℕ × A) → List ℕ → Read A
one_of [] bytes = None
one_of (w ∷ ws) bytes = if begins w.0 bytes then Some (w.1, after w.0 bytes) else one_of ws bytes

-- a value and those that follow it, if there is one
abbrev pub with_first : {A : Type 0} → Read A → List ℕ → (List ℕ → List A × List ℕ) → List A × List ℕ
with_first None bytes others = ([], bytes)
with_first (Some a) bytes others = (a.0 ∷ (others a.1).0, (others a.1).1)

-- the values at the front, up to a number of them
unfoldable pub items_at : {A : Type 0} → (List ℕ → Read A) → ℕ → List ℕ → List A × List ℕ
items_at read zero bytes = ([], bytes)
items_at read (suc n) bytes = with_first (read bytes) bytes (items_at read n)

-- all values at the front
abbrev pub all_at : {A : Type 0} → (List ℕ → Read A) → List ℕ → List A × List ℕ
all_at read bytes = items_at read (length bytes) bytes

-- a digit
abbrev pub is_digit : ℕ → Bool
is_digit b = nat_le 48 b && nat_le b 57

-- a number with one more digit
abbrev pub with_digit : ℕ → ℕ → ℕ
with_digit n b = 10 * n + (b - 48)

-- a number after its first digits were read, which have this value
unfoldable pub digits_at : ℕ → List ℕ → Read ℕ
digits_at n [] = Some (n, [])
digits_at n (b ∷ bs) =
    if is_digit b then (if nat_le (with_digit n b) GREATEST_NUMBER then digits_at (with_digit n b) bs else None) else Some (n, b ∷ bs)

-- a number without a leading zero
unfoldable pub number_at : List ℕ → Read ℕ
number_at bytes =
    if slice_index bytes 0 == 48 then Some (0, drop 1 bytes)
    else (if is_digit (slice_index bytes 0) then digits_at (slice_index bytes 0 - 48) (drop 1 bytes) else None)

-- a number that is not 0
unfoldable pub count_at : List ℕ → Read ℕ
count_at bytes = do
  n ← number_at bytes
  tested (nat_lt 0 n.0) n

-- the number of a client
unfoldable pub client_at : List ℕ → Read ℕ
client_at bytes = do
  n ← number_at bytes
  tested (is_log_client n.0) n

-- a blank and a number
unfoldable pub next_number_at : List ℕ → Read ℕ
next_number_at bytes = do
  blank ← word_at (codes " ") bytes
  number_at blank.1

-- a blank and a number that is not 0
unfoldable pub next_count_at : List ℕ → Read ℕ
next_count_at bytes = do
  blank ← word_at (codes " ") bytes
  count_at blank.1

-- a client and one of its numbers, with a dot between them
unfoldable pub sub_at : List ℕ → Read Sub
sub_at bytes = do
  client ← client_at bytes
  dot ← word_at (codes ".") client.1
  ordinal ← count_at dot.1
  Some (record { client = client.0; ordinal = ordinal.0 }, ordinal.1)

-- a resource of this client and a count
unfoldable pub counted_at : ℕ → List ℕ → Read Returned
counted_at client bytes = do
  id ← count_at bytes
  times ← word_at (codes "x") id.1
  count ← count_at times.1
  Some (record { client = client; id = id.0; count = count.0 }, count.1)

-- a client, one of its resources and a count
unfoldable pub return_at : List ℕ → Read Returned
return_at bytes = do
  client ← client_at bytes
  dot ← word_at (codes ".") client.1
  counted_at client.0 dot.1

-- a submission that became active
unfoldable pub activated_at : List ℕ → Read Sub
activated_at bytes = do
  sign ← word_at (codes " +") bytes
  sub_at sign.1

-- a surface that was destroyed
unfoldable pub destroyed_at : List ℕ → Read Lost
destroyed_at bytes = do
  sign ← word_at (codes " x") bytes
  sub ← sub_at sign.1
  Some (record { client = sub.0.client; surface = sub.0.ordinal }, sub.1)

-- references that were queued for a client
unfoldable pub returned_at : List ℕ → Read Returned
returned_at bytes = do
  sign ← word_at (codes " <") bytes
  return_at sign.1

-- the submission that got this feedback
unfoldable pub fed_by : Bool → List ℕ → Read Fed
fed_by presented bytes = do
  sub ← sub_at bytes
  Some (record { sub = sub.0; presented = presented }, sub.1)

-- the feedback of a submission
unfoldable pub fed_at : List ℕ → Read Fed
fed_at bytes =
    if begins (codes " p") bytes then fed_by true (after (codes " p") bytes)
    else (word_at (codes " d") bytes >>= λ sign. fed_by false sign.1)

-- the effects, in the order of their kinds, as many as there are
unfoldable pub effects_at : List ℕ → Effects × List ℕ
effects_at bytes =
    let activated = all_at activated_at bytes in
    let destroyed = all_at destroyed_at activated.1 in
    let returned = all_at returned_at destroyed.1 in
    let fed = all_at fed_at returned.1 in
    (record { activated = activated.0; destroyed = destroyed.0; returned = returned.0; fed = fed.0 }, fed.1)

-- the events of the display, each with the blank after it
abbrev pub plain_events : List (List ℕ × Event)
plain_events =
    (codes "begin ", event.Begin) ∷ (codes "draw ", event.Draw) ∷ (codes "done ", event.Done) ∷ (codes "over ", event.Over) ∷ []

-- the number of a client and the blank after it
unfoldable pub client_event_at : List ℕ → Read Event
client_event_at bytes = do
  client ← client_at bytes
  blank ← word_at (codes " ") client.1
  Some (event.Client client.0, blank.1)

-- an event and the blank after it
unfoldable pub event_at : List ℕ → Read Event
event_at bytes = if begins (codes "c") bytes then client_event_at (after (codes "c") bytes) else one_of plain_events bytes

-- the rule with this number, in the order in which the rules are tested
unfoldable pub rule_of : ℕ → Option Rule
rule_of n =
    if n == 1 then Some NoPass
    else (if n == 2 then Some BadRoot
    else (if n == 3 then Some PassIds
    else (if n == 4 then Some PassOrder
    else (if n == 5 then Some VisibleOutside
    else (if n == 6 then Some UnlistedResource
    else (if n == 7 then Some ListedTwice
    else (if n == 8 then Some TileOutside
    else (if n == 9 then Some BadRange
    else (if n == 10 then Some BadDependency
    else (if n == 11 then Some DamageOutside
    else None))))))))))

-- the refusal with this number, except 2, which a rule follows
unfoldable pub refusal_of : ℕ → Option Refusal
refusal_of n =
    if n == 1 then Some refusal.AlreadyClosed
    else (if n == 3 then Some refusal.UnknownResource
    else (if n == 4 then Some refusal.InvariantsViolation
    else (if n == 5 then Some refusal.SizeMismatch
    else (if n == 6 then Some refusal.InUse
    else (if n == 7 then Some refusal.NotRoot
    else (if n == 8 then Some refusal.Loop
    else (if n == 9 then Some refusal.UnknownSink
    else (if n == 10 then Some refusal.ParentOfOther
    else (if n == 11 then Some refusal.NotYet
    else (if n == 12 then Some refusal.NoMessage
    else None))))))))))

-- the rule that a malformed frame breaks
unfoldable pub malformed_at : List ℕ → Read Reply
malformed_at bytes = do
  n ← next_number_at bytes
  rule ← rule_of n.0
  Some (reply.Refused (refusal.Malformed rule), n.1)

-- the number of a refusal, and after 2 the number of the broken rule
unfoldable pub refused_at : List ℕ → Read Reply
refused_at bytes = do
  n ← next_number_at bytes
  if n.0 == 2 then malformed_at n.1 else (refusal_of n.0 >>= λ why. Some (reply.Refused why, n.1))

-- the ordinal and the index of a submission
unfoldable pub accepted_at : List ℕ → Read Reply
accepted_at bytes = do
  ordinal ← next_count_at bytes
  index ← next_count_at ordinal.1
  Some (reply.Accepted ordinal.0 index.0, index.1)

-- the number of the begin-frame that the client takes
unfoldable pub began_at : List ℕ → Read Reply
began_at bytes = do
  number ← next_number_at bytes
  Some (reply.Began number.0, number.1)

-- references that this client reclaims
unfoldable pub reclaim_at : ℕ → List ℕ → Read Returned
reclaim_at client bytes = do
  blank ← word_at (codes " ") bytes
  counted_at client blank.1

-- the replies to a client that have no numbers
abbrev pub client_replies : List (List ℕ × Reply)
client_replies =
    (codes "stored", reply.Stored) ∷ (codes "noted", reply.Noted) ∷ (codes "rooted", reply.Rooted) ∷ (codes "joined", reply.Joined)
    ∷ (codes "over", reply.Over) ∷ (codes "left", reply.Left) ∷ []

-- a reply to this client
unfoldable pub client_reply_at : ℕ → List ℕ → Read Reply
client_reply_at client bytes =
    if begins (codes "accepted") bytes then accepted_at (after (codes "accepted") bytes)
    else (if begins (codes "began") bytes then began_at (after (codes "began") bytes)
    else (if begins (codes "reclaimed") bytes then
    (let all = all_at (reclaim_at client) (after (codes "reclaimed") bytes) in Some (reply.Reclaimed all.0, all.1))
    else (if begins (codes "refused") bytes then refused_at (after (codes "refused") bytes)
    else one_of client_replies bytes)))

-- the number of a tick
unfoldable pub ticked_at : List ℕ → Read Reply
ticked_at bytes = do
  word ← word_at (codes "ticked") bytes
  number ← next_number_at word.1
  Some (reply.Ticked number.0, number.1)

-- a rectangle with these numbers
abbrev pub drawn_on : ℕ → ℕ → ℕ → ℕ → Rectangle
drawn_on x y w h = record { x = pos x; y = pos y; w = pos w; h = pos h }

-- a rectangle with points, whose edges are on the greatest display
abbrev pub is_drawn : ℕ → ℕ → ℕ → ℕ → Bool
is_drawn x y w h = nat_lt 0 w && nat_lt 0 h && nat_le (x + w) GREATEST_DISPLAY_SIDE && nat_le (y + h) GREATEST_DISPLAY_SIDE

-- the damage of a drawn frame
unfoldable pub drawn_at : List ℕ → Read Reply
drawn_at bytes = do
  x ← next_number_at bytes
  y ← next_number_at x.1
  w ← next_number_at y.1
  h ← next_number_at w.1
  tested (is_drawn x.0 y.0 w.0 h.0) (reply.Drawn (drawn_on x.0 y.0 w.0 h.0), h.1)

-- the replies to Draw that have no numbers
abbrev pub draw_replies : List (List ℕ × Reply)
draw_replies =
    (codes "unchanged", reply.Unchanged) ∷ (codes "noroot", reply.NoRoot) ∷ (codes "toomuch", reply.TooMuch) ∷ (codes "busy", reply.Busy) ∷ []

-- a reply to Draw
unfoldable pub draw_reply_at : List ℕ → Read Reply
draw_reply_at bytes = if begins (codes "drawn") bytes then drawn_at (after (codes "drawn") bytes) else one_of draw_replies bytes

-- the replies to Done
abbrev pub done_replies : List (List ℕ × Reply)
done_replies = (codes "shown", reply.Shown) ∷ (codes "nothing", reply.Nothing) ∷ []

-- the reply to Over
abbrev pub over_replies : List (List ℕ × Reply)
over_replies = (codes "ended", reply.Ended) ∷ []

-- a reply to this event
unfoldable pub reply_at : Event → List ℕ → Read Reply
reply_at (event.Client c) bytes = client_reply_at c bytes
reply_at event.Begin bytes = ticked_at bytes
reply_at event.Draw bytes = draw_reply_at bytes
reply_at event.Done bytes = one_of done_replies bytes
reply_at event.Over bytes = one_of over_replies bytes

-- the line of an entry
unfoldable pub entry_at : List ℕ → Read Entry
entry_at bytes = do
  event ← event_at bytes
  reply ← reply_at event.0 event.1
  let effects = effects_at reply.1 in
      (word_at (codes "\n") effects.1
      >>= λ line. Some (record { event = event.0; reply = reply.0; effects = effects.0 }, line.1))

-- the line of a resource with outstanding references
unfoldable pub held_at : List ℕ → Read Returned
held_at bytes = do
  word ← word_at (codes "held ") bytes
  held ← return_at word.1
  line ← word_at (codes "\n") held.1
  Some (held.0, line.1)

-- the line of a submission without feedback
unfoldable pub open_at : List ℕ → Read Sub
open_at bytes = do
  word ← word_at (codes "open ") bytes
  sub ← sub_at word.1
  line ← word_at (codes "\n") sub.1
  Some (sub.0, line.1)

-- the lines of entries, then the `held` lines, then the `open` lines, as many of each as there are
unfoldable pub lines_at : List ℕ → (List Entry × Rest) × List ℕ
lines_at bytes =
    let entries = all_at entry_at bytes in
    let held = all_at held_at entries.1 in
    let unfed = all_at open_at held.1 in
    ((entries.0, record { held = held.0; unfed = unfed.0 }), unfed.1)

-- the number of these lines
abbrev pub line_count : List Entry × Rest → ℕ
line_count x = length x.0 + length x.1.held + length x.1.unfed

-- the last line and nothing after it, or otherwise the line that is wrong
unfoldable pub ended : List Entry × Rest → List ℕ → Result (List Entry × Rest) ℕ
ended x bytes =
    if begins (codes "end\n") bytes then (if length bytes == 4 then Ok x else Err (line_count x + 2)) else Err (line_count x + 1)

-- a whole log, or otherwise the first line that is wrong
unfoldable pub log_in : List ℕ → Result (List Entry × Rest) ℕ
log_in bytes = ended (lines_at bytes).0 (lines_at bytes).1
