-- The rule of the channel: what was put into it is what was got from it, followed by what it
-- holds. One pass alone may put parcels into it, and one alone may get parcels from it.
use Rattle.std.specs.Prelude.{◌≡◌, ℕ, Bool, true, false, ◌⊎◌, List, [], ◌∷◌, ◌++◌, Option, MatchOption}
use mathlib.Core.Option.{some}
use mathlib.Core.List.{IsPrefix}
use lib.ListN.{get_elem?}
use Rattle.vz_pipe.specs.declared.parcel.Parcel.{Parcel}
use Rattle.vz_pipe.specs.declared.parcel.Parcel.TheVariants.{Frame, End}
use Rattle.vz_pipe.specs.declared.view.View.{View}

module _ {T : Type 0} where
  -- the frames among the parcels
  abbrev pub frames : List (Parcel T) → List T
  frames [] = []
  frames (Frame x ∷ ps) = x ∷ frames ps
  frames (End ∷ ps) = frames ps

  -- whether the mark of the end is among the parcels
  abbrev pub has_end : List (Parcel T) → Bool
  has_end [] = false
  has_end (Frame x ∷ ps) = has_end ps
  has_end (End ∷ ps) = true

  -- no parcel comes after the mark
  abbrev pub IsSealed : List (Parcel T) → Type 0
  IsSealed [] = Unit {0}
  IsSealed (Frame x ∷ ps) = IsSealed ps
  IsSealed (End ∷ ps) = ps ≡ []

  -- what a pass knows, part by part
  abbrev pub note : Bool → Bool → List (Parcel T) → List (Parcel T) → List T → List T → View T
  note sends takes put got gave had = record { sends = sends; takes = takes; put = put; got = got; gave = gave; had = had }

  -- what the sender's side knows
  abbrev pub sending : List (Parcel T) → List T → View T
  sending put gave = note true false put [] gave []

  -- what the receiver's side knows
  abbrev pub taking : List (Parcel T) → List T → View T
  taking got had = note false true [] got [] had

  -- what a pass that has both sides knows
  abbrev pub both : List (Parcel T) → List (Parcel T) → List T → List T → View T
  both put got gave had = note true true put got gave had

  -- a pass that knows nothing: what it knew went to another pass
  abbrev pub spent : View T
  spent = note false false [] [] [] []

  -- the pass with the sender's number alone is the sender's, and it knows what was put and which
  -- frames of the list were given; so it is with the receiver's, and what was got
  abbrev pub Fits : ℕ → ℕ → List (Parcel T) → List (Parcel T) → List T → ℕ → View T → Type 0
  Fits sender receiver put got given pass v =
      (v.sends ≡ true → (pass ≡ sender) × (v.put ≡ put) × (v.gave ≡ given))
      × (v.takes ≡ true → (pass ≡ receiver) × (v.got ≡ got) × (v.had ≡ given))

  -- the rule: what was put is what was got, followed by the parcels that the channel holds, and
  -- frames of the list were given only if it holds none
  pub record Ordered (items : List (Parcel T)) (views : List (View T)) : Type 0 where
    pub sender : ℕ
    pub receiver : ℕ
    pub put : List (Parcel T)
    pub got : List (Parcel T)
    pub given : List T
    pub order : put ≡ got ++ items
    pub sealed : IsSealed put
    pub beside : (given ≡ []) ⊎ (items ≡ [])
    pub fit : (pass : ℕ) (v : View T) → get_elem? views pass ≡ some v → Fits sender receiver put got given pass v

  -- a parcel went into the channel
  abbrev pub puts : View T → Parcel T → View T → Type 0
  puts v p w = w ≡ note v.sends v.takes (v.put ++ p ∷ []) v.got v.gave v.had

  -- a parcel came from the channel. No mark came before it, and no frame of the list was given.
  -- If the pass also knows what was put, what was got is a front part of that, and a mark is
  -- the end of it
  pub record Gets (v : View T) (p : Parcel T) (w : View T) : Type 0 where
    pub got : w ≡ note v.sends v.takes v.put (v.got ++ p ∷ []) v.gave v.had
    pub none : v.had ≡ []
    pub unmarked : has_end v.got ≡ false
    pub agreed : v.sends ≡ true → v.gave ≡ v.had
    pub in_order : v.sends ≡ true → IsPrefix (v.got ++ p ∷ []) v.put
    pub last : v.sends ≡ true → p ≡ End → v.put ≡ v.got ++ p ∷ []

  -- what is known if the channel held these parcels: what was put is what was got, followed by
  -- them, and frames of the list were given only if there are none of them
  abbrev pub told : View T → List (Parcel T) → Type 0
  told v items = v.sends ≡ true → (v.put ≡ v.got ++ items) × (v.gave ≡ v.had) × ((v.had ≡ []) ⊎ (items ≡ []))

  -- the receiver got the next frame of the list, if there is one, and the two sides were cut
  pub record HandsOver (v : View T) (list : List T) (r : Option T) (sender receiver : View T) (rest : List T) : Type 0 where
    pub sender_is : sender ≡ sending v.put sender.gave
    pub receiver_is : receiver ≡ taking v.got receiver.had
    pub given : MatchOption r ((list ≡ []) × (rest ≡ []) × (sender.gave ≡ v.gave) × (receiver.had ≡ v.had)) (λ x. (list ≡ x ∷ rest) × (sender.gave ≡ v.gave ++ x ∷ []) × (receiver.had ≡ v.had ++ x ∷ []))
