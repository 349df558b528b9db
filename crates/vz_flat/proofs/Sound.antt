-- Operations that nest within groups, and whose texels are inside their blocks.
use Rattle.std.proofs.Common.{◌≡◌, ℕ, ◌+◌, ◌≤◌, Bool, true, false, ◌&&◌, List, [], ◌∷◌, ◌++◌, refl, ◌∙◌, arith}
use Rattle.std.specs.List.{list_all}
use Rattle.std.proofs.{lemmas.List.append-nil, lemmas.Grind.common_steps}
use Rattle.std.proofs.{lemmas.List.Folds.list_all-append, lemmas.Bool.lt-ltb, lemmas.Bool.and_from as both_true, lemmas.Bool.Decides.nat_tests}
use Rattle.vz_geom.specs.Rectangle.{Rectangle}
use Rattle.vz_pixels.specs.Colour.{Colour}
use Rattle.vz_frame.specs.declared.blend.Blend.{Blend}
use Rattle.vz_flat.specs.declared.op.Op.{Op}
use Rattle.vz_flat.specs.declared.op.Op.TheVariants.{Fill, Blit, Push, Pop}
use Rattle.vz_flat.specs.{declared.op.TheConstants.MOST_OPEN, Ops.is_nested, Ops.is_inside, Ops.is_whole, Parts.seen_flat, Parts.grouped_flat}

-- operations open so many groups at most within one another, and end each; and their texels are inside their blocks
pub record IsSound (depth : ℕ) (ops : List Op) : Type 0 where
  pub nests : (n : ℕ) (rest : List Op) → n + depth ≤ MOST_OPEN → is_nested n (ops ++ rest) ≡ is_nested n rest
  pub inside : list_all is_inside ops ≡ true

pub sound_none : (k : ℕ) → IsSound k []
sound_none k = record { nests = λ n rest few. refl; inside = refl }

pub sound_fill : (k : ℕ) (area : Rectangle) (c : Colour) (o : ℕ) (m : Blend) → IsSound k (Fill area c o m ∷ [])
unfolding is_nested is_inside
sound_fill k area c o m = record { nests = λ n rest few. refl; inside = refl }

-- a test with nothing beside it
alone : (t : Bool) → t ≡ true → (t && true) ≡ true
alone t e = rw e refl

pub sound_blit : (k : ℕ) (area : Rectangle) (block : _) (tx ty : _) (o : ℕ) (m : Blend) → is_inside (Blit area block tx ty o m) ≡ true
    → IsSound k (Blit area block tx ty o m ∷ [])
unfolding is_nested
sound_blit k area block tx ty o m e = record { nests = λ n rest few. refl; inside = alone (is_inside (Blit area block tx ty o m)) e }

pub sound_both : (k : ℕ) (xs ys : List Op) → IsSound k xs → IsSound k ys → IsSound k (xs ++ ys)
sound_both k xs ys a b = grind (arith, nat_tests, common_steps, list_all-append is_inside xs ys, both_true (list_all is_inside xs) (list_all is_inside ys) a.inside b.inside)

pub sound_less : (k n : ℕ) (xs : List Op) → k ≤ n → IsSound k xs → IsSound n xs
sound_less k n xs less a = record { nests = λ o rest few. a.nests o rest (omega (arith, few, less)); inside = a.inside }

-- in a group
nested_group : (n : ℕ) (area : Rectangle) (o : ℕ) (m : Blend) (xs rest : List Op) (k : ℕ) → n + (k + 1) ≤ MOST_OPEN → IsSound k xs
    → is_nested n ((Push area o m ∷ (xs ++ Pop ∷ [])) ++ rest) ≡ is_nested n rest
unfolding is_nested
nested_group n area o m xs rest k few a = grind (arith, nat_tests, common_steps, lt-ltb n MOST_OPEN, lt-ltb 0)

pub sound_group : (k : ℕ) (area : Rectangle) (o : ℕ) (m : Blend) (xs : List Op) → IsSound k xs → IsSound (k + 1) (grouped_flat area m o xs)
unfolding is_inside
sound_group k area o m xs a =
    record {
      nests = λ n rest few. nested_group n area o m xs rest k few a;
      inside = list_all-append is_inside xs (Pop ∷ []) ∙ alone (list_all is_inside xs) a.inside;
    }

pub sound_seen : (k : ℕ) (part : Rectangle) (xs : List Op) → IsSound k xs → IsSound k (seen_flat part xs)
sound_seen k part xs a = grind (arith, nat_tests, sound_none k)

pub sound_choice : (k : ℕ) (t : Bool) (xs ys : List Op) → IsSound k xs → IsSound k ys → IsSound k (elim t [ true ↦ xs | false ↦ ys ])
sound_choice k t xs ys a b = grind (arith, nat_tests)

-- a list that is sound within the limit is whole
pub whole_of_sound : (xs : List Op) → IsSound MOST_OPEN xs → is_whole xs ≡ true
unfolding is_whole is_nested
whole_of_sound xs a = grind (arith, nat_tests, both_true (is_nested 0 xs) (list_all is_inside xs), append-nil xs)
