-- The totals of a caller, and what an entry adds to them.
use Rattle.std.specs.Prelude.{◌≡◌, ℕ, ◌+◌, ◌-◌, ◌^◌, ◌<◌, ◌≤◌, min, Bool, true, false, ◌&&◌, List, [], ◌∷◌, ◌++◌, length, count_by, if◌then◌else◌}
use Rattle.std.specs.List.{sum_by}
use Rattle.vz_rules.specs.Plan.{Plan}
use Rattle.vz_rules.specs.declared.entry.Event.TheVariants as event
use Rattle.vz_rules.specs.declared.entry.Reply.TheVariants as reply
use Rattle.vz_rules.specs.declared.entry.Entry.{Entry}
use Rattle.vz_rules.specs.Whole.{mine, is_of, is_in_time}
use Rattle.vz_rules.specs.Accounts.{accepts, takes, message_at}
use Rattle.vz_rules.specs.Course.{is_begin, is_draw, is_drawn, displayed}
use Rattle.vz_machine.specs.Stepping.{listed_in}
use Rattle.vz_desk.specs.declared.answer.Note.{Note}
use Rattle.vz_desk.specs.declared.totals.Totals.{Totals}
use Rattle.vz_desk.specs.Books.{Booked, next_entry}
use Rattle.vz_desk.specs.Flights.{flies_behind}

-- a message is refused
abbrev pub refuses : Entry → Bool
refuses e = elim e.reply [ reply.Refused why ↦ true | _ ↦ false ]

-- the drawn frame was shown when it was done
abbrev pub shows : Entry → Bool
shows e = elim e.reply [ reply.Shown ↦ true | _ ↦ false ]

-- an entry of Done
abbrev pub is_done : Entry → Bool
is_done e = elim e.event [ event.Done ↦ true | _ ↦ false ]

-- how many references an entry returns to its client
abbrev pub handed_back : Entry → ℕ
handed_back e = elim e.reply [ reply.Reclaimed returns ↦ sum_by (λ r. r.count) returns | _ ↦ 0 ]

-- how many resources the message lists that a client takes after a history
abbrev pub listed_behind : Plan → List Entry → ℕ → ℕ
listed_behind p h c = listed_in (message_at p c (length (takes h c)))

-- how many references a client's entry lends after a history: one for each resource of the frame
-- that it accepts
abbrev pub lent_by : Plan → List Entry → ℕ → Entry → ℕ
lent_by p h c e = if accepts e then listed_behind p h c else 0

-- how many references the client's entries among these lend, after a history
abbrev pub lent_from : Plan → List Entry → ℕ → List Entry → ℕ
lent_from p h c [] = 0
lent_from p h c (e ∷ es) = (if is_of c e then lent_by p h c e else 0) + lent_from p (h ++ e ∷ []) c es

-- a count of 64 bits, which stays at its greatest value
abbrev pub upto_most : ℕ → ℕ
upto_most n = min n (2 ^ 64 - 1)

-- the totals of a client are those of its entries; counts of references stay at their greatest
-- value
pub record AreTotals (p : Plan) (h : List Entry) (c : ℕ) (t : Totals) : Type 0 where
  pub calls : t.calls ≡ length (mine h c)
  pub taken : t.taken ≡ length (takes h c)
  pub accepted : t.accepted ≡ count_by accepts (mine h c)
  pub refused : t.refused ≡ count_by refuses (mine h c)
  pub lent : t.lent ≡ upto_most (lent_from p [] c h)
  pub back : t.back ≡ upto_most (sum_by handed_back (mine h c))

-- the totals before the first call
abbrev pub no_totals : Totals
no_totals = record { calls = 0; taken = 0; accepted = 0; refused = 0; lent = 0; back = 0 }

-- the totals of the display's end: begin-frames, drawings, drawings that drew, and frames done;
-- and whether a frame is in flight
pub record DisplayTotals : Type 0 where
  pub begins : ℕ
  pub draws : ℕ
  pub drawn : ℕ
  pub dones : ℕ
  pub in_flight : Bool

-- the display's totals before its first call
abbrev pub no_display_totals : DisplayTotals
no_display_totals = record { begins = 0; draws = 0; drawn = 0; dones = 0; in_flight = false }

-- the entry is a drawing that drew
abbrev pub draws_frame : Entry → Bool
draws_frame e = is_draw e && is_drawn e.reply

-- the totals of the display are those of its entries, which alone determine whether a frame is in
-- flight
pub record AreDisplayTotals (h : List Entry) (t : DisplayTotals) : Type 0 where
  pub begins : t.begins ≡ count_by is_begin (displayed h)
  pub draws : t.draws ≡ count_by is_draw (displayed h)
  pub drawn : t.drawn ≡ count_by draws_frame (displayed h)
  pub dones : t.dones ≡ count_by is_done (displayed h)
  pub in_flight : t.in_flight ≡ flies_behind false (displayed h)

-- the note for an entry at a place, if its message lists so many resources
abbrev pub noted_with : Entry → ℕ → ℕ → Note
noted_with e listed place = record {
  place = place;
  accepted = accepts e;
  refused = refuses e;
  lent = if accepts e then listed else 0;
  back = upto_most (handed_back e);
}

-- the note for an entry of a client, after a history
abbrev pub noted : Plan → List Entry → ℕ → Entry → Note
noted p h c e = noted_with e (listed_behind p h c) (length h + 1)

-- the note describes a client's next entry, and says whether its message was taken; the entry's
-- place is a number of 64 bits
pub record TellsNext {S : Type 0} (b : Booked S) (c : ℕ) (told : Note) (timely : Bool) : Type 0 where
  pub note : told ≡ noted b.plan b.history c (next_entry b (event.Client c))
  pub in_time : timely ≡ is_in_time (next_entry b (event.Client c)).reply
  pub few : length b.history + 1 < 2 ^ 64

-- the note for an entry of the display
abbrev pub noted_plainly : List Entry → Note
noted_plainly h = record { place = length h + 1; accepted = false; refused = false; lent = 0; back = 0 }

-- the totals after one more entry
abbrev pub with_note : Totals → Bool → Note → Totals
with_note t in_time n = record {
  calls = t.calls + 1;
  taken = if in_time then t.taken + 1 else t.taken;
  accepted = if n.accepted then t.accepted + 1 else t.accepted;
  refused = if n.refused then t.refused + 1 else t.refused;
  lent = upto_most (t.lent + n.lent);
  back = upto_most (t.back + n.back);
}

-- no count is at its greatest value
pub record AreFew (t : Totals) : Type 0 where
  pub calls : t.calls < 2 ^ 64 - 1
  pub taken : t.taken ≤ t.calls
  pub accepted : t.accepted ≤ t.calls
  pub refused : t.refused ≤ t.calls
