-- Rules of writing to a sink in memory.
use Rattle.std.proofs.Common.{ℕ, ◌<◌, ◌≤◌, List, ◌++◌, length, take, IsTrue, Result, Ok, Err, IfOk, OnErr, refl, sym, ap, subst, arith}
use Rattle.std.proofs.Math.Seq.{take-length}
use Rattle.vz_outside.proofs.Counting.{faultless_counted, faultless_not_failing}
use Rattle.vz_outside.proofs.Rises.{cause_of_failed, cause_of_memory, cause_of_ok, memory_not_failed, ok_not_failed}
use Rattle.vz_outside.specs.InMemory.{Collected, Collects, sunk_of}
use Rattle.vz_outside.specs.{Numbered.after_one_call, Numbered.after_one_fault, Numbered.is_faultless, declared.shelf.ShelfError.ShelfError}
use Rattle.vz_outside.specs.Sunk.{Sunk, Behaves, KeepsBytes, StaysFaultless, Takes}
use Rattle.vz_outside.specs.declared.shelf.ShelfError.TheVariants.{Failed, Memory}

-- all that a sink owes of a write
pub record CollectRules (old new : Sunk) (piece : List ℕ) (result : Result ℕ ShelfError) : Type 0 where
  pub some : IfOk result (λ n. 0 < n)
  pub count : IfOk result (λ n. n ≤ length piece)
  pub taken : IfOk result (λ n. Takes (take n piece) old new)
  pub untouched : OnErr result (KeepsBytes old new)
  pub behaves : Behaves old new result

-- the sink with more bytes
abbrev fuller : Collected → List ℕ → Collected
fuller sink piece = record { bytes = sink.bytes ++ piece; calls = after_one_call sink.calls }

-- a faultless sink whose calls are counted on is faultless
counted_stays :
    (sink : Collected) (bytes : List ℕ) → IsTrue (is_faultless sink.calls) →
    StaysFaultless (sunk_of sink) (sunk_of (record { bytes = bytes; calls = after_one_call sink.calls }))
counted_stays sink bytes faultless = record { faultless = faultless_counted sink.calls faultless; faults = refl }

-- the piece was taken
collect_ok :
    (sink : Collected) (piece : List ℕ) → 0 < length piece →
    CollectRules (sunk_of sink) (sunk_of (fuller sink piece)) piece (Ok (length piece))
collect_ok sink piece some = record {
  some = some;
  count = omega arith;
  taken = λ told. ap (λ (part : List ℕ). sink.bytes ++ part) (sym (take-length piece));
  untouched = tt;
  behaves = record {
    known = refl;
    cause = cause_of_ok sink.calls.faults sink.calls.faults (length piece) refl;
    works = λ faultless same. ok_not_failed (length piece) same;
    stays = counted_stays sink (sink.bytes ++ piece);
  };
}

-- what a write answers and leaves keeps all rules
pub collect_rules :
    (old : Collected) (piece : List ℕ) (result : Result ℕ ShelfError) (new : Collected) → 0 < length piece →
    Collects old piece result new → CollectRules (sunk_of old) (sunk_of new) piece result
collect_rules old piece (Ok n) new some collects =
    subst (λ (m : ℕ). CollectRules (sunk_of old) (sunk_of new) piece (Ok m)) (sym collects.1)
    (subst (λ (m : Collected). CollectRules (sunk_of old) (sunk_of m) piece (Ok (length piece))) (sym collects.2)
    (collect_ok old piece some))
collect_rules old piece (Err Failed) new some collects =
    subst (λ (m : Collected). CollectRules (sunk_of old) (sunk_of m) piece (Err Failed)) (sym collects.1)
    (record {
      some = tt;
      count = tt;
      taken = tt;
      untouched = λ told. refl;
      behaves = record {
        known = refl;
        cause = cause_of_failed old.calls.faults (after_one_fault old.calls).faults refl;
        works = λ faultless same. faultless_not_failing old.calls faultless collects.0;
        stays = λ faultless. faultless_not_failing old.calls faultless collects.0;
      };
    })
collect_rules old piece (Err Memory) new some collects =
    subst (λ (m : Collected). CollectRules (sunk_of old) (sunk_of m) piece (Err Memory)) (sym collects.1)
    (record {
      some = tt;
      count = tt;
      taken = tt;
      untouched = λ told. refl;
      behaves = record {
        known = refl;
        cause = cause_of_memory old.calls.faults old.calls.faults refl;
        works = λ faultless same. memory_not_failed same;
        stays = counted_stays old old.bytes;
      };
    })
