-- The file that a display makes that sends its frames to another thread.
use Rattle.std.proofs.Common.{◌≡◌, ℕ, ◌≤◌, List, [], ◌++◌, length, take, Option, refl, ap, arith}
use Rattle.std.specs.Prelude.{unwrap_or}
use Rattle.std.proofs.{lemmas.List.take-append-le, lemmas.List.length-append, lemmas.Bool.Decides.nat_tests, lemmas.Grind.common_steps}
use Rattle.vz_outside.specs.Shelved.{Shelved, Name, Appends, AppendsFront}
use Rattle.vz_threads.specs.Pipes.{paper}

-- what was appended to an empty paper is what it has
pub sent_is : (all sent : List ℕ) → Appends all [] (paper []) (paper sent) → sent ≡ all
sent_is all sent is = ap (λ (o : Option (List ℕ)). unwrap_or o []) (is refl)

pub front_is : (all sent : List ℕ) → AppendsFront all [] (paper []) (paper sent) → (n : ℕ) × (n ≤ length all) × (sent ≡ take n all)
front_is all sent is = let f = is refl in (f.0, f.1, ap (λ (o : Option (List ℕ)). unwrap_or o []) f.2)

-- a front part of a front part is one
pub front_of_front : (n : ℕ) (all : List ℕ) (name : Name) (a b : Shelved) → n ≤ length all → AppendsFront (take n all) name a b → AppendsFront all name a b
front_of_front n all name a b low is told = grind (arith, nat_tests, common_steps)

pub front_longer : (first rest all : List ℕ) (name : Name) (a b : Shelved) → all ≡ first ++ rest → AppendsFront first name a b → AppendsFront all name a b
front_longer first rest all name a b is begun told = grind (arith, nat_tests, length-append first rest, take-append-le)
