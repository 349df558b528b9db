-- Lists of parcels, and of the frames among them.
use Rattle.std.proofs.Common.{◌≡◌, true, false, true≢false, List, [], ◌∷◌, ◌++◌, sym, refl, ap, ◌∙◌, append-nil}
use Rattle.vz_pipe.specs.declared.parcel.Parcel.{Parcel}
use Rattle.vz_pipe.specs.declared.parcel.Parcel.TheVariants.{Frame, End}
use Rattle.vz_pipe.specs.Rule.{frames, has_end, IsSealed}

module _ {A : Type 0} where
  -- what can be appended to a list that stays the same is empty
  pub nothing_more : (xs ys : List A) → xs ≡ xs ++ ys → ys ≡ []
  nothing_more [] ys e = sym e
  nothing_more (x ∷ xs) ys e = nothing_more xs ys (cc)

  pub not_longer : (xs : List A) (y : A) (ys : List A) → xs ≡ xs ++ y ∷ ys → ⊥
  not_longer xs y ys e = let n : y ∷ ys ≡ [] = nothing_more xs (y ∷ ys) e in cc

module _ {T : Type 0} where
  pub frames_append : (xs ys : List (Parcel T)) → frames (xs ++ ys) ≡ frames xs ++ frames ys
  frames_append [] ys = refl
  frames_append (Frame x ∷ xs) ys = ap (λ l. x ∷ l) (frames_append xs ys)
  frames_append (End ∷ xs) ys = frames_append xs ys

  pub frames_mark : (xs : List (Parcel T)) → frames (xs ++ End ∷ []) ≡ frames xs
  frames_mark xs = frames_append xs (End ∷ []) ∙ append-nil (frames xs)

  pub unmarked_more : (ps : List (Parcel T)) (x : T) → has_end ps ≡ false → has_end (ps ++ Frame x ∷ []) ≡ false
  unmarked_more [] x e = refl
  unmarked_more (Frame y ∷ ps) x e = unmarked_more ps x e
  unmarked_more (End ∷ ps) x e = absurd (true≢false e)

  pub marked : (ps : List (Parcel T)) → has_end (ps ++ End ∷ []) ≡ true
  marked [] = refl
  marked (Frame y ∷ ps) = marked ps
  marked (End ∷ ps) = refl

  pub sealed_more : (ps : List (Parcel T)) (p : Parcel T) → has_end ps ≡ false → IsSealed ps → IsSealed (ps ++ p ∷ [])
  sealed_more [] (Frame x) e s = tt
  sealed_more [] End e s = refl
  sealed_more (Frame y ∷ ps) p e s = sealed_more ps p e s
  sealed_more (End ∷ ps) p e s = absurd (true≢false e)

  -- no mark is before a parcel
  pub unmarked_before : (xs : List (Parcel T)) (p : Parcel T) (ys : List (Parcel T)) → IsSealed (xs ++ p ∷ ys) → has_end xs ≡ false
  unmarked_before [] p ys s = refl
  unmarked_before (Frame x ∷ xs) p ys s = unmarked_before xs p ys s
  unmarked_before (End ∷ []) p ys s = absurd (cc)
  unmarked_before (End ∷ x ∷ xs) p ys s = absurd (cc)

  -- nothing is after a mark
  pub sealed_last : (xs : List (Parcel T)) (p : Parcel T) (ys : List (Parcel T)) → p ≡ End → IsSealed (xs ++ p ∷ ys) → ys ≡ []
  sealed_last [] (Frame x) ys e s = absurd (cc)
  sealed_last [] End ys e s = s
  sealed_last (Frame x ∷ xs) p ys e s = sealed_last xs p ys e s
  sealed_last (End ∷ []) p ys e s = absurd (cc)
  sealed_last (End ∷ x ∷ xs) p ys e s = absurd (cc)
