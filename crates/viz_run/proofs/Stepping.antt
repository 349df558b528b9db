-- From what was played to what `step` answers.
use Rattle.std.proofs.Common.{rules, ◌≡◌, Result, Ok, Err, IsErrOf, IsErrAnd, IfErr, List, [], ◌∷◌, inl, inr, sym, ◌∙◌}
use Rattle.vz_outside.specs.Shelved.{Shelved, Name, IsCall, SameFiles}
use Rattle.vz_outside.proofs.Calls.{Ran, known_after}
use Rattle.vz_player.specs.Written.{Output, AreWhole, AreBegun, AreUnwritten, KeepsAllBut}
use Rattle.viz_run.specs.{Stops.Behaves, Stops.IsRefusal, declared.stop.Stop.Stop}
use Rattle.viz_run.specs.declared.stop.Stop.TheVariants as stop
use Rattle.viz_run.proofs.Making.{front_since}

-- Of calls before which the bytes of every name stayed

unwritten_since : (outputs : List Output) (a b c : Shelved) → IsCall a b → SameFiles a b → AreUnwritten outputs b c → AreUnwritten outputs a c
unwritten_since [] a b c call same none = tt
unwritten_since (o ∷ more) a b c call same none =
    (front_since o.name [] a b c call (λ told. same told o.name) none.0, unwritten_since more a b c call same none.1)

pub begun_since : (outputs : List Output) (a b c : Shelved) → IsCall a b → SameFiles a b → AreBegun outputs b c → AreBegun outputs a c
begun_since [] a b c call same begun = tt
begun_since (o ∷ more) a b c call same (inl whole) = inl (whole.0, begun_since more a b c call same whole.1)
begun_since (o ∷ more) a b c call same (inr some) =
    inr (front_since o.name o.bytes a b c call (λ told. same told o.name) some.0, unwritten_since more a b c call same some.1)

pub others_since : (names : List Name) (a b c : Shelved) → IsCall a b → SameFiles a b → KeepsAllBut names b c → KeepsAllBut names a c
others_since names a b c call same kept told name other = kept (known_after a b call told) name other ∙ same told name

-- whole files are begun
pub all_begun : (outputs : List Output) (a b : Shelved) → AreWhole outputs b → AreBegun outputs a b
all_begun [] a b whole = tt
all_begun (o ∷ more) a b whole = inl (whole.0, all_begun more a b whole.1)

-- Of stops

err_is : {T : Type 0} (x s : Stop) → IsErrOf {T = T} (Err x) s → x ≡ s
err_is x s this = search rules

-- a stop is no other one
pub is_none : {T : Type 0} (r : Result T Stop) (s t : Stop) → (s ≡ t → ⊥) → IsErrAnd r (λ x. x ≡ s) → IsErrOf r t → ⊥
is_none (Ok v) s t apart is this = absurd is
is_none (Err x) s t apart is this = apart (sym is ∙ err_is x t this)

pub ok_is_none : {T : Type 0} (x : T) (s : Stop) → IsErrOf (Ok x) s → ⊥
ok_is_none x s this = search rules

-- calls that answered went through
pub went_through : {T P : Type 0} (x : T) (a b : Shelved) → Behaves P a b (Ok x) → Ran a b
went_through x a b behaves = record {
  call = behaves.call;
  quiet = behaves.quiet (λ at. ok_is_none x stop.Fault at);
  stays = λ faultless. behaves.stays faultless (λ at. ok_is_none x stop.Fault at);
}

-- what holds at an error that may refuse
pub holds_at_err : {T : Type 0} (r : Result T Stop) (P : Type 0) → P → IfErr r (λ s. IsRefusal s → P)
holds_at_err (Ok v) P holds = tt
holds_at_err (Err s) P holds = λ refusal. holds

-- an error that is handed on is the same one
pub same_err : {T U : Type 0} (e t : Stop) (r : Result T Stop) → IsErrAnd r (λ s. s ≡ e) → IsErrOf r t → IsErrOf {T = U} (Err e) t
same_err e t (Ok v) is this = absurd is
same_err {U = U} e t (Err s) is this = to (sym is ∙ err_is s t this)
  where
    to : e ≡ t → IsErrOf {T = U} (Err e) t
    to h = search rules

pub err_same : {T U : Type 0} (e t : Stop) (r : Result T Stop) → IsErrAnd r (λ s. s ≡ e) → IsErrOf {T = U} (Err e) t → IsErrOf r t
err_same e t (Ok v) is this = absurd is
err_same {T = T} e t (Err s) is this = to (is ∙ err_is e t this)
  where
    to : s ≡ t → IsErrOf {T = T} (Err s) t
    to h = search rules

pub stays_at : {T U P : Type 0} (e : Stop) (r : Result T Stop) (a b : Shelved) → IsErrAnd r (λ s. s ≡ e) → Behaves {T = U} P a b (Err e) → Behaves P a b r
stays_at {T = T} {U = U} e r a b is behaves = record {
  call = behaves.call;
  fault = λ at. behaves.fault (same_err {T = T} {U = U} e stop.Fault r is at);
  quiet = λ other. behaves.quiet (λ at. other (err_same {T = T} {U = U} e stop.Fault r is at));
  works = λ faultless at. behaves.works faultless (same_err {T = T} {U = U} e stop.Fault r is at);
  stays = λ faultless other. behaves.stays faultless (λ at. other (err_same {T = T} {U = U} e stop.Fault r is at));
}
