-- What the display has seen, while clients make their entries between its own.
use Rattle.std.proofs.Common.{◌≡◌, ℕ, ◌+◌, false, List, [], ◌∷◌, ◌++◌, length, reverse, refl, ap, sym, ◌∙◌, subst, arith}
use Rattle.std.proofs.{lemmas.List.reverse-append, lemmas.List.reverse-reverse, lemmas.List.Elements.filter-append, lemmas.Bool.and_from as all_true}
use mathlib.Core.List.{IsPrefix, map-append}
use Rattle.vz_loans.specs.Rule.{places}
use Rattle.vz_loans.proofs.Logs.{places_own}
use Rattle.vz_rules.specs.{Plan.Plan, World.World, declared.entry.Event.Event}
use Rattle.vz_rules.specs.{declared.entry.Entry.Entry, Step.Legal, Step.world, Step.entry_in, Step.NamesClient, Course.is_of_client, Course.displayed}
use Rattle.vz_rules.proofs.{Runs.legal-more, Numbered.rest_same}
use Rattle.vz_desk.specs.{Books.caller_in, Books.numbered, Totals.DisplayTotals}
use Rattle.vz_desk.specs.Owners.{Owner, HasSeen, IsSameOwner, Makes, MakesNone}
use Rattle.vz_desk.proofs.{Owning.longer_history, Owning.same_plan, Displaying.shown_same}
use Rattle.vz_threads.proofs.Quiet.{AreClients}
use Rattle.std.proofs.lemmas.Bool.Decides.{nat_tests}

-- an event of the display
abbrev pub IsOwn : Event → Type 0
IsOwn e = is_of_client e ≡ false

-- entries among which the display has none are clients'
pub are_clients : (more : List Entry) → displayed more ≡ [] → AreClients more
unfolding displayed
are_clients [] is = refl
are_clients (e ∷ more) is = grind (arith, nat_tests, all_true (is_of_client e.event), are_clients more)

-- what came between what the display had seen and an entry of its own: clients' entries
pub record Amid (h before : List Entry) : Type 0 where
  pub more : List Entry
  pub all : before ≡ h ++ more
  pub clients : AreClients more
  pub same : displayed before ≡ displayed h

append_none : {A : Type 0} (xs ys : List A) → xs ++ ys ≡ xs → ys ≡ []
append_none [] ys is = is
append_none (x ∷ xs) ys is = append_none xs ys (rest_same x x (xs ++ ys) xs is)

-- where the display has no place more, only clients' entries came between
pub amid : (s : List (ℕ × Entry)) (h before : List Entry) → s ≡ numbered h → IsPrefix s (numbered before) → places 0 (numbered before) ≡ places 0 s → Amid h before
unfolding displayed
amid s h before seen later stay = grind (arith, nat_tests, longer_history h before, shown_same h before s seen later stay, are_clients, append_none, filter-append)

init_same : {A : Type 0} (xs ys : List A) (x y : A) → xs ++ x ∷ [] ≡ ys ++ y ∷ [] → xs ≡ ys
init_same xs ys x y is = grind (arith, nat_tests, reverse-append xs (x ∷ []), reverse-append ys (y ∷ []), reverse-reverse xs, rest_same x y (reverse xs) (reverse ys), reverse-reverse ys)

caller_is : (e : Event) → IsOwn e → caller_in e ≡ 0
caller_is e own = grind (arith, nat_tests)

own_named : (p : Plan) (e : Event) → IsOwn e → NamesClient p e
own_named p e own = grind (arith, nat_tests)

pub event_of : (p : Plan) (w : World) (e : Event) (made : Entry) → made ≡ entry_in p w e → made.event ≡ e
unfolding entry_in
event_of p w e made is = ap (λ (x : Entry). x.event) is

displayed_one : (h : List Entry) (e : Entry) → is_of_client e.event ≡ false → displayed (h ++ e ∷ []) ≡ displayed h ++ e ∷ []
unfolding displayed
displayed_one h e own = grind (arith, nat_tests, filter-append)

-- the display made an entry behind clients' ones
pub record Made (p : Plan) (d : Owner DisplayTotals) (h : List Entry) (v : Event) (before : List Entry) (made : Entry) : Type 0 where
  pub amid : Amid h before
  pub legal : Legal p before
  pub is_event : made.event ≡ v
  pub entry : made ≡ entry_in p (world p before) made.event
  pub display : d.number ≡ 0
  pub sees : HasSeen d p (before ++ made ∷ [])
  pub displayed_is : displayed (before ++ made ∷ []) ≡ displayed h ++ made ∷ []

pub made_is : (p q : Plan) (d d' : Owner DisplayTotals) (h before : List Entry) (v : Event) (made : Entry) → HasSeen d p h → d.number ≡ 0 → IsOwn v → IsSameOwner d d' → Makes d d' v q before made → (q ≡ p) × Made p d' h v before made
made_is p q d d' h before v made sees display own same makes = (
  is,
  record {
    amid = between;
    legal = legal;
    is_event = named;
    entry = entry;
    display = same.number ∙ display;
    sees = record {
      planned = same.plan ∙ sees.planned;
      seen = makes.seen;
      legal = legal-more p before made legal (subst (NamesClient p) (sym named) (own_named p v own)) entry;
    };
    displayed_is = displayed_one before made (ap is_of_client named ∙ own) ∙ ap (λ (l : List Entry). l ++ made ∷ []) between.same;
  },
)
  where
    is : q ≡ p
    is = same_plan q p (sym makes.planned ∙ same.plan ∙ sees.planned)

    legal : Legal p before
    legal = subst (λ (x : Plan). Legal x before) is makes.legal

    named : made.event ≡ v
    named = event_of q (world q before) v made makes.entry

    entry : made ≡ entry_in p (world p before) made.event
    entry = subst (λ (x : Plan × Event). made ≡ entry_in x.0 (world x.0 before) x.1) (λ i. (is i, sym named i)) makes.entry

    own_places : places 0 (numbered (before ++ made ∷ [])) ≡ places 0 (numbered before) ++ (1 + length (numbered before)) ∷ []
    own_places =
        ap (places 0) (map-append (λ (e : Entry). (caller_in e.event, e)) before (made ∷ []))
        ∙ ap (λ (n : ℕ). places 0 (numbered before ++ (n, made) ∷ [])) (ap caller_in named ∙ caller_is v own)
        ∙ places_own 1 0 (numbered before) made

    stay : places 0 (numbered before) ≡ places 0 d.seen
    stay =
        init_same (places 0 (numbered before)) (places 0 d.seen) (1 + length (numbered before)) (length before + 1)
        (sym own_places ∙ ap (places 0) (sym makes.seen) ∙ ap (λ (n : ℕ). places n d'.seen) (sym (same.number ∙ display)) ∙ makes.mine ∙ ap (λ (n : ℕ). places n d.seen ++ (length before + 1) ∷ []) display)

    between : Amid h before
    between = amid d.seen h before sees.seen makes.later stay

-- the display made none, and sees a longer history
pub waited_is : (p q : Plan) (d d' : Owner DisplayTotals) (h g : List Entry) → HasSeen d p h → d.number ≡ 0 → IsSameOwner d d' → MakesNone d d' → HasSeen d' q g → (q ≡ p) × Amid h g × HasSeen d' p g
waited_is p q d d' h g sees display same none then = grind (arith, nat_tests, amid d.seen h g sees.seen (subst (IsPrefix d.seen) then.seen same.later), same_plan q p)
