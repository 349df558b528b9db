-- Laws on what calls of a shelf change: each holds of no call, and of two calls where it holds of both.
use Rattle.std.proofs.Common.{◌≡◌, ℕ, Some, None, Option, List, [], ◌∷◌, ◌++◌, IsTrue, Ok, refl, sym, ◌∙◌, ap, subst, arith, append_assoc}
use Rattle.std.proofs.{lemmas.List.append-nil, lemmas.Bool.Decides.nat_tests}
use Rattle.vz_outside.proofs.Rises.{cause_of_ok, ok_not_failed}
use Rattle.vz_outside.specs.Shelved.{Shelved, Name, IsCall, SameFiles, ReadsOnly, KeepsOthers, Appends, with_more, IsUntouched, StaysFaultless, BehavesUnless}

-- no call keeps all
pub call_same : (s : Shelved) → IsCall s s
call_same s = grind (arith, nat_tests)

-- what holds of two calls holds of both together
pub call_then_call : (a b c : Shelved) → IsCall a b → IsCall b c → IsCall a c
call_then_call a b c first then = grind (arith, nat_tests)

-- bytes are known after a call where they were before
pub known_after : (a b : Shelved) → IsCall a b → IsTrue a.is_known → IsTrue b.is_known
known_after a b call told = subst IsTrue (sym call.known) told

pub files_then_files : (a b c : Shelved) → IsCall a b → SameFiles a b → SameFiles b c → SameFiles a c
files_then_files a b c call first then told name = then (known_after a b call told) name ∙ first told name

pub reads_then_reads : (one : ℕ) (a b c : Shelved) → IsCall a b → ReadsOnly one a b → ReadsOnly one b c → ReadsOnly one a c
reads_then_reads one a b c call first then = grind (arith, nat_tests, files_then_files a b c call first.files then.files, known_after a b call)

-- no call keeps the others
pub kept_same : (one : Name) (s : Shelved) → KeepsOthers one s s
kept_same one s = record { files = λ told name other. refl; rests = λ told slot mode is other. refl }

pub kept_then_kept :
    (one : Name) (a b c : Shelved) → IsCall a b → KeepsOthers one a b → KeepsOthers one b c → KeepsOthers one a c
kept_then_kept one a b c call first then = record {
  files = λ told name other. then.files (known_after a b call told) name other ∙ first.files told name other;
  rests = λ told slot mode is other.
      then.rests (known_after a b call told) slot mode (call.slots slot mode is)
      (λ same. other (sym (call.names told slot mode is) ∙ same)) ∙
      first.rests told slot mode is other;
}

-- where the bytes of all names and all rests stay, those of names other than one do
pub kept_of_untouched : (one : Name) (a b : Shelved) → IsUntouched a b → KeepsOthers one a b
kept_of_untouched one a b same = grind (arith, nat_tests)

-- with no more they are as they were
pub with_more-nil : (bytes : Option (List ℕ)) → with_more bytes [] ≡ bytes
with_more-nil None = refl
with_more-nil (Some bytes) = ap Some (append-nil bytes)

-- with more twice they have both behind them
pub with_more-with_more :
    (bytes : Option (List ℕ)) (first then : List ℕ) → with_more (with_more bytes first) then ≡ with_more bytes (first ++ then)
with_more-with_more (Some bytes) first then = ap Some (append_assoc bytes first then)
with_more-with_more None [] then = refl
with_more-with_more None (byte ∷ first) then = refl

-- no bytes are added by no call
pub append_nothing : (name : Name) (s : Shelved) → Appends [] name s s
append_nothing name s told = sym (with_more-nil (s.bytes name))

pub append_then_append :
    (first then name : Name) (a b c : Shelved) → IsCall a b →
    Appends first name a b → Appends then name b c → Appends (first ++ then) name a c
append_then_append first then name a b c call front back told =
    back (known_after a b call told) ∙
    ap (λ (o : Option (List ℕ)). with_more o then) (front told) ∙
    with_more-with_more (a.bytes name) first then

pub faultless_then_faultless : (a b c : Shelved) → StaysFaultless a b → StaysFaultless b c → StaysFaultless a c
faultless_then_faultless a b c first then = record { faultless = then.faultless; faults = then.faults ∙ first.faults }

-- calls that went through
pub record Ran (old new : Shelved) : Type 0 where
  pub call : IsCall old new
  pub quiet : new.faults ≡ old.faults
  pub stays : IsTrue old.is_faultless → StaysFaultless old new

-- no call went through
pub ran_none : (s : Shelved) → Ran s s
ran_none s = record { call = call_same s; quiet = refl; stays = λ faultless. record { faultless = faultless; faults = refl } }

-- a call that answered went through
pub ran_one : {T reason : Type 0} (x : T) (a b : Shelved) → BehavesUnless reason a b (Ok x) → Ran a b
ran_one x a b behaves = grind (arith, nat_tests, ok_not_failed)

-- so did two where both did
pub ran_then_ran : (a b c : Shelved) → Ran a b → Ran b c → Ran a c
ran_then_ran a b c first then = grind (arith, nat_tests, call_then_call a b c first.call then.call)

-- calls that went through behaved
pub ran_behaves : {T reason : Type 0} (x : T) (a b : Shelved) → Ran a b → BehavesUnless reason a b (Ok x)
ran_behaves x a b ran = grind (arith, nat_tests, cause_of_ok, ok_not_failed)
