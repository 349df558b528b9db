-- What the answer of `viz_gen` says.
use Rattle.std.proofs.Common.{◌≡◌, ◌≢◌, ◌⊎◌, ◌<◌, ℕ, suc, ◌∙◌, Result, Ok, Err, List, length, map, take, drop, refl, sym, ap, subst, inl, inr, arith}
use Rattle.std.specs.{List.flat_map, List.sum, Prelude.zero, Prelude.IfOk}
use Rattle.vz_base.specs.declared.memory.Memory.{Memory as Want}
use Rattle.vz_codec.specs.Spelling.{file_bytes}
use Rattle.std.proofs.lemmas.List.{length-map}
use Rattle.vz_frame.specs.declared.message.ClientFile.{ClientFile}
use Rattle.vz_gen.proofs.Fitting.{made_three}
use Rattle.vz_gen.specs.Make.{make}
use Rattle.viz_c.specs.{Calls.cut, Numbers.IsWithin}
use Rattle.viz_c.specs.{Making.lengths_of, Making.AreLengths, Making.MakesMore, Making.AreMadeTold, Making.IsMadeTold, Rooms.Room, Rooms.Keeps, Rooms.KeepsRest, declared.rounds.Made.Made}
use Rattle.viz_c.specs.Answers.{DONE, MEMORY, CALL, ROOM}
use Rattle.viz_c.proofs.Cutting.{cut_again, all_lengths}

-- these are the files for so many rounds
abbrev AreMade : ℕ → Made → Type 0
AreMade rounds m = (m.bytes.items ≡ flat_map file_bytes (make rounds)) × (m.lengths.items ≡ lengths_of (make rounds))

-- there are as many lengths as a room has places, if that are three
pub as_many :
    (rounds : ℕ) (made : Result Made Want) (old : List ℕ) → IfOk made (λ m. m.lengths.items ≡ lengths_of (make rounds))
    → length old ≡ 3 → IfOk made (λ m. length m.lengths.items ≡ length old)
as_many rounds (Ok m) old lengths three =
    ap length lengths ∙ (length-map (make rounds) (λ (f : ClientFile). length (file_bytes f)) ∙ (made_three rounds ∙ sym three))
as_many rounds (Err e) old lengths three = tt

module _ (rounds code : ℕ) (r : Room) (old new : List ℕ) where
  pub done :
      (made : Result Made Want) → IfOk made (λ m. m.bytes.items ≡ flat_map file_bytes (make rounds))
      → IfOk made (λ m. m.lengths.items ≡ lengths_of (make rounds)) → IsMadeTold made code r old new
      → code ≡ DONE → cut new (take r.count r.after) ≡ map file_bytes (make rounds)
  done (Ok m) bytes lengths told is =
      let put = told.done is in
      let front : take r.count r.after ≡ m.bytes.items = ap (λ (n : ℕ). take n r.after) told.count ∙ put.front in
      ap (λ (ns : List ℕ). cut ns (take r.count r.after)) (told.lengths_are ∙ lengths)
      ∙ (ap (λ (bs : List ℕ). cut (lengths_of (make rounds)) bs) (front ∙ bytes) ∙ cut_again (make rounds))
  done (Err e) bytes lengths told is = absurd (omega (arith, told.0, is))

  -- the lengths that are told with files that were made
  lengths_of_all :
      (m : Made) → m.bytes.items ≡ flat_map file_bytes (make rounds) → m.lengths.items ≡ lengths_of (make rounds)
      → AreMadeTold m code r new → AreLengths rounds r.count new
  lengths_of_all m bytes lengths told =
      record {
        each = told.lengths_are ∙ lengths;
        all = told.count ∙ (ap length bytes ∙ (all_lengths (make rounds) ∙ ap sum (sym (told.lengths_are ∙ lengths))));
      }

  pub each_length :
      (made : Result Made Want) → IfOk made (λ m. m.bytes.items ≡ flat_map file_bytes (make rounds))
      → IfOk made (λ m. m.lengths.items ≡ lengths_of (make rounds)) → IsMadeTold made code r old new
      → code ≡ DONE → AreLengths rounds r.count new
  each_length (Ok m) bytes lengths told is = lengths_of_all m bytes lengths told
  each_length (Err e) bytes lengths told is = absurd (omega (arith, told.0, is))

  pub room :
      (made : Result Made Want) → IfOk made (λ m. m.bytes.items ≡ flat_map file_bytes (make rounds))
      → IfOk made (λ m. m.lengths.items ≡ lengths_of (make rounds)) → IsMadeTold made code r old new
      → code ≡ ROOM → MakesMore rounds (length r.before) r.count new
  room (Ok m) bytes lengths told is =
      record {
        told = lengths_of_all m bytes lengths told;
        small = subst (λ (n : ℕ). length r.before < n) (sym told.count) (told.room is);
      }
  room (Err e) bytes lengths told is = absurd (omega (arith, told.0, is))

  pub in_range : (made : Result Made Want) → IsMadeTold made code r old new → (code ≡ DONE) ⊎ IsWithin MEMORY ROOM code
  in_range (Ok m) told = by_code code (λ e. told.one e)
    where
      by_code : (n : ℕ) → (n ≢ DONE → n ≡ ROOM) → (n ≡ DONE) ⊎ IsWithin MEMORY ROOM n
      by_code zero other = inl refl
      by_code (suc n) other = let is = other (λ e. omega (arith, e)) in inr (omega (arith, is), omega (arith, is))
  in_range (Err e) told = inr (omega (arith, told.0), omega (arith, told.0))

  pub not_call : (made : Result Made Want) → IsMadeTold made code r old new → code ≢ CALL
  not_call (Ok m) told is = omega (arith, told.one (λ e. omega (arith, e, is)), is)
  not_call (Err e) told is = omega (arith, told.0, is)

  pub kept : (made : Result Made Want) → IsMadeTold made code r old new → code ≢ DONE → Keeps r.before r.after
  kept (Ok m) told other = told.kept other
  kept (Err e) told other = told.1

  pub behind : (made : Result Made Want) → IsMadeTold made code r old new → code ≡ DONE → KeepsRest r.count r.before r.after
  behind (Ok m) told is =
      let put = told.done is in
      ap (λ (n : ℕ). drop n r.after) told.count ∙ (put.behind ∙ ap (λ (n : ℕ). drop n r.before) (sym told.count))
  behind (Err e) told is = absurd (omega (arith, told.0, is))
