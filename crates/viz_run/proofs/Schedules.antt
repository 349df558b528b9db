-- Events of a schedule, byte by byte.
use Rattle.std.proofs.Common.{rules, ◌≡◌, ℕ, ◌+◌, ◌<◌, ◌≤◌, Bool, true, false, cond, not, ◌||◌, ◌==◌, leb, nat_lt, if◌then◌else◌, Option, Some, None, All, List, [], ◌∷◌, ◌++◌, take, drop, get_or, length, refl, sym, ap, ◌∙◌, subst, arith}
use mir.Val.{bool_byte}
use Rattle.std.proofs.Common.{drop-cons, add-one}
use Rattle.std.proofs.{lemmas.Grind.take_at_read, lemmas.Bool.le-ltb, lemmas.Bool.leb-true, lemmas.Bool.and_parts}
use Rattle.std.proofs.lemmas.List.Elements.{filter_map-append, All-append, All-cons, All-nil}
use Rattle.vz_base.specs.declared.limits.TheConstants.{MOST_FILES, MOST_EVENTS}
use Rattle.std.proofs.{lemmas.List.Sums.count_by_more_yes, lemmas.List.Sums.count_by_more_no, lemmas.List.drop_all, lemmas.List.length-take-le}
use Rattle.std.specs.{List.cons_option, Option.option_map}
use Rattle.vz_frame.specs.Fits.{within}
use Rattle.vz_rules.specs.declared.entry.Event.TheVariants as event
use Rattle.vz_codec.specs.declared.fault.FileRule.TheVariants as fault
use Rattle.vz_rules.specs.{declared.entry.Event.Event, Plan.Plan, Step.NamesClient}
use Rattle.vz_geom.specs.declared.Size.{Size}
use Rattle.vz_codec.specs.declared.fault.FileRule.{FileRule}
use Rattle.viz_run.specs.{declared.refused.Reason.TheVariants.Rule, declared.refused.Reason.TheVariants.Long, Refusals.Flaw, Refusals.refused_at}
use Rattle.viz_run.specs.declared.refused.Refused.{Refused}
use Rattle.viz_run.specs.Schedule.{event_of, events_of, is_event, is_draw, draws_in, rule_broken, flaw_behind, schedule_refused}

-- one byte more counts one more where it is a drawing
pub draws_more : (bytes : List ℕ) (n draws one : ℕ) (drawn : Bool) → n < length bytes → draws ≡ draws_in (take n bytes)
    → drawn ≡ is_draw (get_or bytes n 0) → one ≡ bool_byte drawn → draws + one ≡ draws_in (take (n + 1) bytes)
draws_more bytes n draws one drawn low counted is count =
    ap (λ (m : ℕ). m + one) counted ∙ (ap (λ (m : ℕ). draws_in (take n bytes) + m) count ∙ sym (by_test drawn (sym is)))
  where
    by_test : (t : Bool) → is_draw (get_or bytes n 0) ≡ t → draws_in (take (n + 1) bytes) ≡ draws_in (take n bytes) + bool_byte t
    by_test true is = count_by_more_yes is_draw bytes n 0 low is
    by_test false is = count_by_more_no is_draw bytes n 0 low is ∙ omega arith

-- a rule that the byte at a place breaks, and else what is said of those behind it
abbrev unless_broken : ℕ → Option FileRule → Option Flaw → Option Flaw
unless_broken n (Some rule) others = Some (record { at = n; reason = Rule rule })
unless_broken n None others = others

-- of bytes that are not too long another thing is said
short_flaw : (length : ℕ) (other : Option Flaw) → length ≤ MOST_EVENTS → cond (nat_lt MOST_EVENTS length) (Some (record { at = MOST_EVENTS; reason = Long })) other ≡ other
short_flaw length other short = ap (λ (t : Bool). cond t (Some (record { at = MOST_EVENTS; reason = Long })) other) (le-ltb MOST_EVENTS length short)

-- the bytes up to a place break no rule, and these are their events
pub record HasEvents (p : Plan) (bytes : List ℕ) (n : ℕ) (events : List Event) : Type 0 where
  pub others : flaw_behind p [] bytes ≡ flaw_behind p (take n bytes) (drop n bytes)
  pub are : events ≡ events_of (take n bytes)
  pub named : All (NamesClient p) events

in_range : (low high n : ℕ) → within low high n ≡ true → (low ≤ n) × (n ≤ high)
in_range low high n is =
    let both = and_parts (leb low n) (leb n high) is in
    (leb-true low n both.0, leb-true n high both.1)

-- the event of a byte that is one of the plan's is of the display or of a client of the plan
event_named : (p : Plan) (byte : ℕ) (e : Event) → length p.files ≤ MOST_FILES → is_event (length p.files) byte ≡ true → event_of byte ≡ Some e → NamesClient p e
unfolding event_of
event_named p byte e few is same = by_client (within 1 MOST_FILES byte) refl same
  where
    some_is : {a b : Event} → Some a ≡ Some b → a ≡ b
    some_is same = search rules

    display : (a b c d : Bool)
        → (if a then Some event.Begin else (if b then Some event.Draw else (if c then Some event.Done else (if d then Some event.Over else None)))) ≡ Some e
        → NamesClient p e
    display true b c d is = subst (NamesClient p) (some_is is) tt
    display false true c d is = subst (NamesClient p) (some_is is) tt
    display false false true d is = subst (NamesClient p) (some_is is) tt
    display false false false true is = subst (NamesClient p) (some_is is) tt
    display false false false false is = absurd (search rules)

    client : within 1 MOST_FILES byte ≡ true → (t : Bool) → within 1 (length p.files) byte ≡ t → (t || within 0x11 0x14 byte) ≡ true → NamesClient p (event.Client byte)
    client small true here either = let bounds = in_range 1 (length p.files) byte here in (omega (arith, bounds.0), bounds.1)
    client small false here either =
        let bounds = in_range 1 MOST_FILES byte small in
        let other = in_range 0x11 0x14 byte either in
        absurd (omega (arith, bounds.1, other.0))

    by_client : (t : Bool) → within 1 MOST_FILES byte ≡ t
        → (if t then Some (event.Client byte) else (if byte == 0x11 then Some event.Begin else (if byte == 0x12 then Some event.Draw else (if byte == 0x13 then Some event.Done else (if byte == 0x14 then Some event.Over else None))))) ≡ Some e
        → NamesClient p e
    by_client true small one = subst (NamesClient p) (some_is one) (client small (within 1 (length p.files) byte) refl is)
    by_client false large one = display (byte == 0x11) (byte == 0x12) (byte == 0x13) (byte == 0x14) one

-- a byte that breaks no rule is an event of the plan
unbroken : (t d : Bool) (rest : Option FileRule) → (if not t then Some fault.Tag else rest) ≡ None → t ≡ true
unbroken true d rest is = refl
unbroken false d rest is = absurd (search rules)

-- so are its events
named_event : (p : Plan) (draws byte : ℕ) → length p.files ≤ MOST_FILES → rule_broken (length p.files) p.size draws byte ≡ None → All (NamesClient p) (events_of (byte ∷ []))
named_event p draws byte few good = each (event_of byte) refl
  where
    each : (o : Option Event) → event_of byte ≡ o → All (NamesClient p) (cons_option o [])
    each None is = All-nil (NamesClient p)
    each (Some e) is = All-cons (NamesClient p) e [] (event_named p byte e few (unbroken (is_event (length p.files) byte) true _ good) is) (All-nil (NamesClient p))

-- behind bytes that break no rule, the byte at a place
pub at_byte : (bytes : List ℕ) (n byte : ℕ) → n < length bytes → byte ≡ get_or bytes n 0
    → (take (n + 1) bytes ≡ take n bytes ++ byte ∷ []) × (drop n bytes ≡ byte ∷ drop (n + 1) bytes)
at_byte bytes n byte low at = (
  (take_at_read bytes n 0 low).1 ∙ ap (λ (x : ℕ). take n bytes ++ x ∷ []) (sym at),
  rw (drop-cons bytes n 0 low, ← at, add-one) refl,
)

-- what is said of a byte and those behind it, where it breaks a rule or not
one_byte : (p : Plan) (before rest : List ℕ) (byte : ℕ) → flaw_behind p before (byte ∷ rest)
    ≡ unless_broken (length before) (rule_broken (length p.files) p.size (draws_in (before ++ byte ∷ [])) byte) (flaw_behind p (before ++ byte ∷ []) rest)
unfolding flaw_behind
one_byte p before rest byte = either (rule_broken (length p.files) p.size (draws_in (before ++ byte ∷ [])) byte)
  where
    either : (o : Option FileRule) → ◌≡◌ {A = Option Flaw}
        (elim o [ Some rule ↦ Some (record { at = length before; reason = Rule rule }) | None ↦ flaw_behind p (before ++ byte ∷ []) rest ])
        (unless_broken (length before) o (flaw_behind p (before ++ byte ∷ []) rest))
    either None = refl
    either (Some rule) = refl

-- so it is of the bytes from a place on
flaw_from : (p : Plan) (bytes : List ℕ) (n byte : ℕ) → n < length bytes → byte ≡ get_or bytes n 0
    → flaw_behind p (take n bytes) (drop n bytes)
    ≡ unless_broken n (rule_broken (length p.files) p.size (draws_in (take (n + 1) bytes)) byte) (flaw_behind p (take (n + 1) bytes) (drop (n + 1) bytes))
flaw_from p bytes n byte low at =
    let parts = at_byte bytes n byte low at in
    let rest = drop (n + 1) bytes in
    let said : List ℕ → Option FileRule = λ before. rule_broken (length p.files) p.size (draws_in before) byte in
    ap (flaw_behind p (take n bytes)) parts.1
    ∙ (one_byte p (take n bytes) rest byte
    ∙ (ap (λ (m : ℕ). unless_broken m (said (take n bytes ++ byte ∷ [])) (flaw_behind p (take n bytes ++ byte ∷ []) rest)) (length-take-le n bytes (omega (arith, low)))
    ∙ ap (λ (before : List ℕ). unless_broken n (said before) (flaw_behind p before rest)) (sym parts.0)))

-- one byte more breaks no rule
pub events_more :
    (p : Plan) (bytes : List ℕ) (n byte draws : ℕ) (events more : List Event) → n < length bytes → byte ≡ get_or bytes n 0
    → length p.files ≤ MOST_FILES → HasEvents p bytes n events → draws ≡ draws_in (take (n + 1) bytes)
    → rule_broken (length p.files) p.size draws byte ≡ None → more ≡ events ++ events_of (byte ∷ []) → HasEvents p bytes (n + 1) more
events_more p bytes n byte draws events more low at few has counted good pushed =
    let upto = (at_byte bytes n byte low at).0 in record {
      others = has.others ∙ (flaw_from p bytes n byte low at
          ∙ ap (λ (o : Option FileRule). unless_broken n o (flaw_behind p (take (n + 1) bytes) (drop (n + 1) bytes)))
          (ap (λ (d : ℕ). rule_broken (length p.files) p.size d byte) (sym counted) ∙ good));
      are = pushed ∙ (ap (λ (es : List Event). es ++ events_of (byte ∷ [])) has.are ∙ sym (ap events_of upto ∙ filter_map-append event_of (take n bytes) (byte ∷ [])));
      named = subst (All (NamesClient p)) (sym pushed) (All-append (NamesClient p) events (events_of (byte ∷ [])) has.named (named_event p draws byte few good));
    }

-- the byte at a place breaks a rule
pub flawed_here :
    (p : Plan) (bytes : List ℕ) (n byte draws : ℕ) (events : List Event) (rule : FileRule) (r : Refused) → n < length bytes → byte ≡ get_or bytes n 0
    → length bytes ≤ MOST_EVENTS → HasEvents p bytes n events → draws ≡ draws_in (take (n + 1) bytes)
    → rule_broken (length p.files) p.size draws byte ≡ Some rule → r ≡ refused_at 0 (record { at = n; reason = Rule rule }) → schedule_refused p bytes ≡ Some r
flawed_here p bytes n byte draws events rule r low at short has counted broken is =
    ap (option_map (refused_at 0)) (short_flaw (length bytes) (flaw_behind p [] bytes) short ∙ (has.others ∙ (flaw_from p bytes n byte low at
    ∙ ap (λ (o : Option FileRule). unless_broken n o (flaw_behind p (take (n + 1) bytes) (drop (n + 1) bytes)))
    (ap (λ (d : ℕ). rule_broken (length p.files) p.size d byte) (sym counted) ∙ broken))))
    ∙ ap Some (sym is)

-- no byte breaks a rule
pub none_flawed : (p : Plan) (bytes : List ℕ) (n : ℕ) (events : List Event) → length bytes ≤ n → length bytes ≤ MOST_EVENTS → HasEvents p bytes n events
    → schedule_refused p bytes ≡ None
unfolding flaw_behind
none_flawed p bytes n events high short has =
    ap (option_map (refused_at 0)) (short_flaw (length bytes) (flaw_behind p [] bytes) short
    ∙ (has.others ∙ ap (λ (l : List ℕ). flaw_behind p (take n bytes) l) (drop_all n bytes high)))

-- what is asked with the clients and the size of a plan is asked of the plan
pub asked_of : (p : Plan) (clients : ℕ) (size : Size) (draws byte : ℕ) (o : Option FileRule) → clients ≡ length p.files → size ≡ p.size
    → rule_broken clients size draws byte ≡ o → rule_broken (length p.files) p.size draws byte ≡ o
asked_of p clients size draws byte o same_clients same_size is =
    ap (λ (n : ℕ). rule_broken n p.size draws byte) (sym same_clients) ∙ (ap (λ (s : Size). rule_broken clients s draws byte) (sym same_size) ∙ is)
