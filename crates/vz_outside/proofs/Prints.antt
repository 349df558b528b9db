-- What stands while a text is printed piece by piece.
use Rattle.std.proofs.Common.{◌≡◌, ℕ, ◌+◌, ◌≤◌, List, length, take, drop, ◌++◌, IsTrue, Ok, refl, sym, subst, ap, ◌∙◌, arith, length-drop, append_assoc}
use Rattle.std.proofs.Math.Seq.{take-add}
use Rattle.vz_outside.proofs.Rises.{ok_not_failed}
use Rattle.vz_outside.specs.Sunk.{Sunk, Behaves, StaysFaultless, Takes}

-- so many bytes of a text were printed
pub record HasPrinted (text : List ℕ) (printed : ℕ) (old new : Sunk) : Type 0 where
  pub within : printed ≤ length text
  pub taken : Takes (take printed text) old new
  pub known : new.is_known ≡ old.is_known
  pub quiet : new.faults ≡ old.faults
  pub stays : IsTrue old.is_faultless → StaysFaultless old new

-- a call took so many more, from the front of what was left
pub printed_more :
    (text part : List ℕ) (printed more : ℕ) (old mid new : Sunk) →
    HasPrinted text printed old mid → part ≡ drop printed text → more ≤ length part →
    Takes (take more part) mid new → Behaves {T = ℕ} mid new (Ok more) →
    HasPrinted text (printed + more) old new
printed_more text part printed more old mid new before is_part few taken behaves = record {
  within = omega (arith, length-drop printed text, ap length is_part, before.within);
  taken = λ told.
      taken (subst IsTrue (sym before.known) told) ∙
      ap (λ (bytes : List ℕ). bytes ++ take more part) (before.taken told) ∙
      append_assoc old.bytes (take printed text) (take more part) ∙
      ap (λ (all : List ℕ). old.bytes ++ all) joined;
  known = behaves.known ∙ before.known;
  quiet = behaves.cause.quiet (λ same. ok_not_failed more same) ∙ before.quiet;
  stays = λ faultless. record {
    faultless = (behaves.stays (before.stays faultless).faultless).faultless;
    faults = (behaves.stays (before.stays faultless).faultless).faults ∙ (before.stays faultless).faults;
  };
}
  where
    joined : take printed text ++ take more part ≡ take (printed + more) text
    joined = rw (is_part, take-add printed more text) refl
