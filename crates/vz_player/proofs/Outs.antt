-- What stands of the frames and of the log of `step`.
use Rattle.std.proofs.Math.Seq.{take-append-add}
use Rattle.std.proofs.Common.{◌≡◌, ◌≢◌, ℕ, zero, suc, ◌+◌, List, [], ◌∷◌, ◌++◌, length, take, Option, Some, IsTrue, Ok, inl, inr, refl, sym, ap, subst, ◌∙◌, take_all, arith}
use Rattle.vz_outside.specs.Shelved.{Shelved, Name, Writing, IsCall, KeepsOthers, Appends, AppendsFront, Behaves, with_more}
use Rattle.vz_outside.proofs.Calls.{Ran, ran_one, ran_then_ran, known_after}
use Rattle.vz_player.specs.Written.{Output, HasFront, KeepsAllBut, WritesAll, WritesSome, IsOut}
use Rattle.vz_player.specs.declared.outputs.Outputs.{Outputs}

-- the two files, with what they are to hold
abbrev pub both : Name → Name → List ℕ → List ℕ → List Output
both frames log drawn text = record { name = frames; bytes = drawn } ∷ record { name = log; bytes = text } ∷ []

-- a file that is written stays as it is where another one is written
pub out_kept :
    (name other : Name) (slot : ℕ) (held : List ℕ) (a b : Shelved) →
    IsOut name slot held a → IsCall a b → name ≢ other → KeepsOthers other a b → IsOut name slot held b
out_kept name other slot held a b out call apart kept = record {
  writing = call.slots slot Writing out.writing;
  named = λ told.
      (let before : IsTrue a.is_known = subst IsTrue call.known told in
      call.names before slot Writing out.writing ∙ out.named before);
  holds = λ told.
      (let before : IsTrue a.is_known = subst IsTrue call.known told in kept.files before name apart ∙ out.holds before);
}

-- and holds more where it is written itself
pub out_more :
    (name : Name) (slot : ℕ) (held more : List ℕ) (a b : Shelved) →
    IsOut name slot held a → IsCall a b → Appends more (a.name slot) a b → IsOut name slot (held ++ more) b
out_more name slot held more a b out call added = record {
  writing = call.slots slot Writing out.writing;
  named = λ told.
      (let before : IsTrue a.is_known = subst IsTrue call.known told in
      call.names before slot Writing out.writing ∙ out.named before);
  holds = λ told.
      (let before : IsTrue a.is_known = subst IsTrue call.known told in
      let P : Name → Type 0 = λ n. b.bytes n ≡ with_more (a.bytes n) more in
      subst P (out.named before) (added before) ∙ ap (λ (o : Option (List ℕ)). with_more o more) (out.holds before));
}

-- the others of a slot's name are those of the file's name
pub others_named :
    (name : Name) (slot : ℕ) (held : List ℕ) (a b : Shelved) → IsOut name slot held a → KeepsOthers (a.name slot) a b → KeepsOthers name a b
others_named name slot held a b out kept = record {
  files = λ told. (subst (λ n. KeepsOthers n a b) (out.named told) kept).files told;
  rests = λ told. (subst (λ n. KeepsOthers n a b) (out.named told) kept).rests told;
}

-- all of it is a front part
pub whole_front : (all : List ℕ) → all ≡ take (length all) all
whole_front all = sym (take_all (length all) all (omega arith))

-- a front part of nothing is one of anything
pub front_of_nothing : (name : Name) (all : List ℕ) (a b : Shelved) → HasFront name [] a b → HasFront name all a b
front_of_nothing name all a b front told = elim (front told) [ inl same ↦ inl same | inr some ↦ inr (0, some.1 ∙ ap Some (nothing some.0)) ]
  where
    nothing : (n : ℕ) → take n [] ≡ take 0 all
    nothing zero = refl
    nothing (suc n) = refl

-- where a file holds a front part of some bytes
pub front_of_out :
    (name : Name) (slot n : ℕ) (held all : List ℕ) (a b : Shelved) → IsOut name slot held b → held ≡ take n all → IsCall a b → HasFront name all a b
front_of_out name slot n held all a b out is call told = inr (n, out.holds (known_after a b call told) ∙ ap Some is)

-- where a front part of more was written behind what a file held
pub front_of_begun :
    (name : Name) (slot : ℕ) (held more all : List ℕ) (a b c : Shelved) →
    IsOut name slot held b → IsCall a b → AppendsFront more (b.name slot) b c → all ≡ held ++ more → HasFront name all a c
front_of_begun name slot held more all a b c out call begun is told =
    let there : IsTrue b.is_known = known_after a b call told in
    let front = begun there in
    let P : Name → Type 0 = λ t. c.bytes t ≡ with_more (b.bytes t) (take front.0 more) in
    let added : c.bytes name ≡ with_more (b.bytes name) (take front.0 more) = subst P (out.named there) front.2 in
    inr (
      length held + front.0,
      added ∙ (ap (λ (o : Option (List ℕ)). with_more o (take front.0 more)) (out.holds there)
          ∙ ap Some (sym (ap (take (length held + front.0)) is ∙ take-append-add held more front.0))),
    )

-- the two files hold so much, after calls that went through, and every other name keeps its bytes
pub record Stands (frames log : Name) (outputs : Outputs) (drawn text : List ℕ) (a b : Shelved) : Type 0 where
  pub ran : Ran a b
  pub frames_are : IsOut frames outputs.frames drawn b
  pub log_is : IsOut log outputs.log text b
  pub others : KeepsAllBut (frames ∷ log ∷ []) a b

-- the two files were made
pub made_stands :
    (frames log : Name) (outputs : Outputs) (a b : Shelved) → IsOut frames outputs.frames [] b → IsOut log outputs.log [] b → KeepsAllBut (frames ∷ log ∷ []) a b →
    Behaves a b (Ok outputs) → Stands frames log outputs [] [] a b
made_stands frames log outputs a b frames_are log_is others behaves =
    record { ran = ran_one outputs a b behaves; frames_are = frames_are; log_is = log_is; others = others }

-- where they were not, all is begun at most
pub none_made :
    (frames log : Name) (drawn text : List ℕ) (a b : Shelved) → HasFront frames [] a b → HasFront log [] a b → KeepsAllBut (frames ∷ log ∷ []) a b →
    WritesSome (both frames log drawn text) a b
none_made frames log drawn text a b no_frames no_log others =
    record { begun = inr (front_of_nothing frames drawn a b no_frames, (no_log, tt)); others = others }

module _ (frames log : Name) (apart : frames ≢ log) (outputs : Outputs) (a b c : Shelved) where
  -- the log is
  all_but_log : IsCall a b → KeepsAllBut (frames ∷ log ∷ []) a b → KeepsOthers log b c → KeepsAllBut (frames ∷ log ∷ []) a c
  all_but_log call kept then told name other = then.files (known_after a b call told) name other.1.0 ∙ kept told name other

  -- the log is written
  pub log_stands :
      (drawn text : List ℕ) → Stands frames log outputs drawn [] a b → Appends text (b.name outputs.log) b c →
      KeepsOthers (b.name outputs.log) b c → Ran b c → Stands frames log outputs drawn text a c
  log_stands drawn text before added kept ran =
      let named = others_named log outputs.log [] b c before.log_is kept in
      record {
        ran = ran_then_ran a b c before.ran ran;
        frames_are = out_kept frames log outputs.frames drawn b c before.frames_are ran.call apart named;
        log_is = out_more log outputs.log [] text b c before.log_is ran.call added;
        others = all_but_log before.ran.call before.others named;
      }

  -- or that of the log
  pub log_cut :
      (drawn text : List ℕ) → Stands frames log outputs drawn [] a b → AppendsFront text (b.name outputs.log) b c →
      KeepsOthers (b.name outputs.log) b c → IsCall b c → WritesSome (both frames log drawn text) a c
  log_cut drawn text before begun kept call =
      let named = others_named log outputs.log [] b c before.log_is kept in
      let frames_are = out_kept frames log outputs.frames drawn b c before.frames_are call apart named in
      record {
        begun = inl (frames_are.holds, inr (front_of_begun log outputs.log [] text text a b c before.log_is before.ran.call begun refl, tt));
        others = all_but_log before.ran.call before.others named;
      }

module _ (frames log : Name) (outputs : Outputs) (drawn : List ℕ) (a b : Shelved) where
  -- and whole at the end
  pub stands_whole : (text : List ℕ) → Stands frames log outputs drawn text a b → WritesAll (both frames log drawn text) a b
  stands_whole text stands = record { whole = (stands.frames_are.holds, (stands.log_is.holds, tt)); others = stands.others }
