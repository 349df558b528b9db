-- What the words of `gen` say of the rounds and of the names.
use Rattle.std.proofs.Common.{◌≡◌, ◌≢◌, ℕ, ◌≤◌, [], ◌∷◌, Bool, true, false, not, ◌&&◌, ◌||◌, ◌==◌, IsTrue, refl, sym, ap, ◌∙◌, arith}
use Rattle.std.specs.List.{list_all}
use Rattle.vz_base.specs.declared.limits.TheConstants.{MOST_ROUNDS}
use Rattle.vz_frame.specs.{Fits.within, Frame.has_repeat}
use Rattle.vz_rules.specs.Command.{Word, Gen, fits_command, is_name, are_names, same_text}
use Rattle.viz_run.proofs.Making.{AreApart}

parts : (a b : Bool) → (a && b) ≡ true → (a ≡ true) × (b ≡ true)
parts true b h = (refl, h)
parts false b h = absurd (let e : false ≡ true = h in cc)

both : (a b : Bool) → a ≡ true → b ≡ true → (a && b) ≡ true
both true b p q = q
both false b p q = p

same_text_refl : (a : Word) → same_text a a ≡ true
same_text_refl [] = refl
same_text_refl (a ∷ as') = both (a == a) (same_text as' as') (grind arith) (same_text_refl as')

-- no two of three are the same
none_same : (x y z w : Bool) → not ((x || (y || false)) || ((z || false) || w)) ≡ true → (x ≡ false) × (y ≡ false) × (z ≡ false)
none_same true y z w h = absurd (let e : false ≡ true = h in cc)
none_same false true z w h = absurd (let e : false ≡ true = h in cc)
none_same false false true w h = absurd (let e : false ≡ true = h in cc)
none_same false false false w h = (refl, refl, refl)

differ : (a b : Word) → same_text a b ≡ false → a ≢ b
differ a b other same = let again : same_text a b ≡ true = ap (same_text a) (sym same) ∙ same_text_refl a in cc

module _ (n : ℕ) (first second third : Word) (fits : IsTrue (fits_command (Gen n first second third))) where
  fit_parts : (within 1 MOST_ROUNDS n ≡ true) × (are_names (first ∷ second ∷ third ∷ []) ≡ true)
  unfolding fits_command
  fit_parts = parts (within 1 MOST_ROUNDS n) (are_names (first ∷ second ∷ third ∷ [])) fits

  -- there are few rounds
  pub few_rounds : n ≤ MOST_ROUNDS
  few_rounds = let e = fit_parts.0 in grind arith

  -- the names differ
  pub names_apart : AreApart first second third
  names_apart =
      let names = parts (list_all is_name (first ∷ second ∷ third ∷ [])) (not (has_repeat same_text (first ∷ second ∷ third ∷ []))) fit_parts.1 in
      let others = none_same (same_text first second) (same_text first third) (same_text second third) false names.1 in
      record {
        second = differ first second others.0;
        third = differ first third others.1;
        last = differ second third others.2;
      }
