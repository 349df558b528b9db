-- What stands before a place of a legal history, and facts that hold along one.
use Rattle.std.proofs.Common.{◌≡◌, List, [], ◌∷◌, ◌++◌, sym, subst, append_assoc, append-nil}
use Rattle.vz_rules.specs.Plan.{Plan}
use Rattle.vz_rules.specs.declared.entry.Entry.{Entry}
use Rattle.vz_rules.specs.World.{World, opening}
use Rattle.vz_rules.specs.Step.{step_in, world_from, world, entry_in, NamesClient, LegalFrom, Legal}

legal_from-front : (p : Plan) (w : World) (h k : List Entry) → LegalFrom p w (h ++ k) → LegalFrom p w h
unfolding LegalFrom
legal_from-front p w [] k l = tt
legal_from-front p w (x ∷ h) k l = (l.0, l.1, legal_from-front p (step_in p w x.event).world h k l.2)

-- what stands before the rest of a legal history is legal
pub legal-front : (p : Plan) (h k : List Entry) → Legal p (h ++ k) → Legal p h
unfolding Legal
legal-front p h k l = legal_from-front p (opening p) h k l

legal_from-at : (p : Plan) (w : World) (h k : List Entry) (e : Entry) → LegalFrom p w (h ++ e ∷ k) → NamesClient p e.event × (e ≡ entry_in p (world_from p w h) e.event)
unfolding LegalFrom world_from
legal_from-at p w [] k e l = (l.0, l.1)
legal_from-at p w (x ∷ h) k e l = legal_from-at p (step_in p w x.event).world h k e l.2

-- each entry of it is the one that the machine makes at its place
pub legal-at : (p : Plan) (h k : List Entry) (e : Entry) → Legal p (h ++ e ∷ k) → NamesClient p e.event × (e ≡ entry_in p (world p h) e.event)
unfolding Legal world
legal-at p h k e l = legal_from-at p (opening p) h k e l

-- one step keeps a fact of a world and of the history before it
abbrev pub Steps : Plan → (World → List Entry → Type 0) → Type 0
Steps p P =
    (w : World) (h : List Entry) (e : Entry) → P w h → NamesClient p e.event → e ≡ entry_in p w e.event → P (step_in p w e.event).world (h ++ e ∷ [])

along_from : (p : Plan) (P : World → List Entry → Type 0) → Steps p P → (w : World) (g h : List Entry) → P w g → LegalFrom p w h → P (world_from p w h) (g ++ h)
unfolding LegalFrom world_from
along_from p P step w g [] i l = subst (P w) (sym (append-nil g)) i
along_from p P step w g (e ∷ h) i l =
    subst (P (world_from p (step_in p w e.event).world h)) (append_assoc g (e ∷ []) h)
    (along_from p P step (step_in p w e.event).world (g ++ e ∷ []) h (step w g e i l.0 l.1) l.2)

-- a fact that holds of the opening, and that each step keeps, holds after each legal history
pub along : (p : Plan) (P : World → List Entry → Type 0) → Steps p P → P (opening p) [] → (h : List Entry) → Legal p h → P (world p h) h
unfolding Legal world
along p P step i h l = along_from p P step (opening p) [] h i l
