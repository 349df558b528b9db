-- The plain machine goes through a history.
use Rattle.std.proofs.Common.{◌≡◌, ℕ, zero, suc, ◌+◌, ◌<◌, List, [], ◌∷◌, length, take, get_or, slice_get, Some, refl, sym, ap, ◌∙◌, subst}
use Rattle.std.proofs.lemmas.Grind.{take_at_read}
use Rattle.std.proofs.lemmas.Option.{slice_get-get_or}
use Rattle.vz_rules.specs.Plan.{Plan}
use Rattle.vz_rules.specs.World.{World, Machine, opening}
use Rattle.vz_rules.specs.declared.entry.Entry.{Entry}
use Rattle.vz_rules.specs.Step.{step_in, world_from, world, NamesClient, LegalFrom, Legal}
use Rattle.vz_rules.proofs.Runs.{world-more}

-- the machine of this plan in this world
abbrev pub standing : Plan → World → Machine
standing p w = record { plan = p; world = w }

pub at_first : (p : Plan) → opening p ≡ world p []
unfolding world world_from
at_first p = refl

same_machine : (m : Machine) (p : Plan) (w : World) → m.plan ≡ p → m.world ≡ w → m ≡ standing p w
same_machine m p w e f = ap (λ q. standing q m.world) e ∙ ap (standing p) f

some_same : {A : Type 0} {x y : A} → Some x ≡ Some y → x ≡ y
some_same e = cc

world_next : (p : Plan) (h : List Entry) (k : ℕ) (d : Entry) → k < length h → (step_in p (world p (take k h)) (get_or h k d).event).world ≡ world p (take (k + 1) h)
world_next p h k d l = sym (ap (world p) (take_at_read h k d l).1 ∙ world-more p (take k h) (get_or h k d))

-- the next event is as the history's events are
pub named_next : (m : Machine) (p : Plan) (h : List Entry) (k : ℕ) (d : Entry) → k < length h → m ≡ standing p (world p (take k h))
    → ((k : ℕ) (e : Entry) → slice_get h k ≡ Some e → NamesClient p e.event) → NamesClient m.plan (get_or h k d).event
named_next m p h k d l is named =
    subst (λ q. NamesClient q (get_or h k d).event) (sym (ap (λ n. n.plan) is)) (named k (get_or h k d) (slice_get-get_or h k d l))

-- one step more
pub one_more : (m n : Machine) (p : Plan) (h : List Entry) (k : ℕ) (d : Entry) → k < length h → m ≡ standing p (world p (take k h))
    → n.plan ≡ m.plan → n.world ≡ (step_in m.plan m.world (get_or h k d).event).world → n ≡ standing p (world p (take (k + 1) h))
one_more m n p h k d l is same left =
    same_machine n p (world p (take (k + 1) h)) (same ∙ ap (λ o. o.plan) is)
    (left ∙ (ap (λ (o : Machine). (step_in o.plan o.world (get_or h k d).event).world) is ∙ world_next p h k d l))

named_from : (p : Plan) (w : World) (h : List Entry) → LegalFrom p w h → (k : ℕ) (e : Entry) → slice_get h k ≡ Some e → NamesClient p e.event
unfolding LegalFrom
named_from p w [] l k e is = absurd (cc)
named_from p w (x ∷ h) l zero e is = subst (λ y. NamesClient p y.event) (some_same is) l.0
named_from p w (x ∷ h) l (suc k) e is = named_from p (step_in p w x.event).world h l.2 k e is

-- in a history that the machine makes each event of a client names one of the plan
pub legal_names : (p : Plan) (h : List Entry) → Legal p h → (k : ℕ) (e : Entry) → slice_get h k ≡ Some e → NamesClient p e.event
unfolding Legal
legal_names p h l = named_from p (opening p) h l
