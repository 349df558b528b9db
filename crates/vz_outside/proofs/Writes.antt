-- What stands while a text is written piece by piece.
use Rattle.std.proofs.Common.{◌≡◌, ℕ, ◌+◌, ◌≤◌, List, Some, length, take, drop, ◌++◌, IsTrue, Ok, refl, subst, ap, arith, length-drop}
use Rattle.std.proofs.Math.Seq.{take-add}
use Rattle.vz_outside.proofs.Calls.{Ran, ran_one, ran_then_ran, kept_then_kept, append_then_append}
use Rattle.vz_outside.specs.Shelved.{Shelved, Name, Writing, KeepsOthers, Appends, Behaves, with_more}

-- so many bytes of a text were written
pub record HasWritten (text : List ℕ) (slot written : ℕ) (old new : Shelved) : Type 0 where
  pub within : written ≤ length text
  pub opened : old.mode slot ≡ Some Writing
  pub ran : Ran old new
  pub appended : Appends (take written text) (old.name slot) old new
  pub others : KeepsOthers (old.name slot) old new

-- a call wrote so many more, from the front of what was left
pub written_more :
    (text part : List ℕ) (slot written more : ℕ) (old mid new : Shelved) →
    HasWritten text slot written old mid → part ≡ drop written text → more ≤ length part →
    Appends (take more part) (mid.name slot) mid new → KeepsOthers (mid.name slot) mid new →
    Behaves {T = ℕ} mid new (Ok more) →
    HasWritten text slot (written + more) old new
written_more text part slot written more old mid new before is_part few appended others behaves = record {
  within = omega (arith, length-drop written text, ap length is_part, before.within);
  opened = before.opened;
  ran = ran_then_ran old mid new before.ran (ran_one more mid new behaves);
  appended = λ told. subst (λ (all : List ℕ). new.bytes (old.name slot) ≡ with_more (old.bytes (old.name slot)) all) joined (chain told told);
  others = record {
    files = λ told. (kept_then_kept (old.name slot) old mid new before.ran.call before.others (moved told)).files told;
    rests = λ told. (kept_then_kept (old.name slot) old mid new before.ran.call before.others (moved told)).rests told;
  };
}
  where
    named : IsTrue old.is_known → mid.name slot ≡ old.name slot
    named told = before.ran.call.names told slot Writing before.opened

    moved : IsTrue old.is_known → KeepsOthers (old.name slot) mid new
    moved told = subst (λ (name : Name). KeepsOthers name mid new) (named told) others

    chain : IsTrue old.is_known → Appends (take written text ++ take more part) (old.name slot) old new
    chain told =
        append_then_append (take written text) (take more part) (old.name slot) old mid new before.ran.call before.appended
        (subst (λ (name : Name). Appends (take more part) name mid new) (named told) appended)

    joined : take written text ++ take more part ≡ take (written + more) text
    joined = rw (is_part, take-add written more text) refl
