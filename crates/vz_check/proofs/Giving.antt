-- What a slot gives, and what was read of it.
use Rattle.std.proofs.Common.{◌≡◌, ℕ, ◌≤◌, Bool, true, false, List, [], ◌∷◌, ◌++◌, length, ◌==◌, take, take_all, Some, IsTrue, refl, sym, ap, ◌∙◌, append_assoc, arith, eqb-true}
use Rattle.std.specs.Prelude.{if◌then◌else◌}
use Rattle.std.proofs.lemmas.List.{append_cancel_left}
use Rattle.vz_outside.specs.Shelved.{Shelved, Reading, Consumes, ReadsOnly, IsFront}
use Rattle.vz_outside.proofs.Calls.{Ran, ran_none, ran_then_ran, reads_then_reads, known_after}
use Rattle.vz_rules.specs.Log.{BeginsWith}
use Rattle.vz_check.specs.Judged.{Gives, Lacks, IsEndRead}

-- no call reads nothing
pub reads_none : (slot : ℕ) (s : Shelved) → ReadsOnly slot s s
reads_none slot s = record { files = λ told name. refl; rests = λ told other mode is apart. refl }

-- these bytes were read of a slot that is open for reading, by calls that went through
pub record HasRead (bytes : List ℕ) (slot : ℕ) (old new : Shelved) : Type 0 where
  pub opened : old.mode slot ≡ Some Reading
  pub ran : Ran old new
  pub consumed : Consumes bytes slot old new
  pub kept : ReadsOnly slot old new

-- none were read by no call
pub none_read : (slot : ℕ) (s : Shelved) → s.mode slot ≡ Some Reading → HasRead [] slot s s
none_read slot s opened = record { opened = opened; ran = ran_none s; consumed = λ told. refl; kept = reads_none slot s }

module _ (slot : ℕ) (bytes : List ℕ) (a b : Shelved) (before : HasRead bytes slot a b) where
  -- the slot is open still
  pub still_open : b.mode slot ≡ Some Reading
  still_open = before.ran.call.slots slot Reading before.opened

  -- a call more reads no other slot
  pub reads_more : (c : Shelved) → ReadsOnly slot b c → ReadsOnly slot a c
  reads_more c kept = reads_then_reads slot a b c before.ran.call before.kept kept

  -- more were read
  pub more_read : (c : Shelved) (more : List ℕ) → Consumes more slot b c → ReadsOnly slot b c → Ran b c → HasRead (bytes ++ more) slot a c
  more_read c more consumed kept ran = record {
    opened = before.opened;
    ran = ran_then_ran a b c before.ran ran;
    consumed = λ told.
        before.consumed told ∙ (ap (λ l. bytes ++ l) (consumed (known_after a b before.ran.call told)) ∙ sym (append_assoc bytes more (c.rest slot)));
    kept = reads_more c kept;
  }

  -- what it gives now stood behind them
  pub gives_before : (more : List ℕ) → Gives more slot b → Gives (bytes ++ more) slot a
  gives_before more gives told = before.consumed told ∙ ap (λ l. bytes ++ l) (gives (known_after a b before.ran.call told))

  -- bytes that do not begin with a frame do not behind them
  pub lacks_behind : (frame all rest more : List ℕ) → (BeginsWith more frame → ⊥) → all ≡ (bytes ++ frame) ++ rest → BeginsWith (bytes ++ more) all → ⊥
  lacks_behind frame all rest more lacks is begins =
      let whole : bytes ++ (frame ++ (rest ++ begins.0)) ≡ bytes ++ more = parts bytes frame rest begins.0 ∙ (ap (λ l. l ++ begins.0) (sym is) ∙ begins.1) in
      lacks (rest ++ begins.0, append_cancel_left bytes (frame ++ (rest ++ begins.0)) more whole)
    where
      parts : (u v w x : List ℕ) → u ++ (v ++ (w ++ x)) ≡ ((u ++ v) ++ w) ++ x
      parts u v w x = simp append_assoc

  -- what it lacks now is lacked behind them
  pub lacks_before : (frame all rest : List ℕ) → Lacks frame slot b → all ≡ (bytes ++ frame) ++ rest → Lacks all slot a
  lacks_before frame all rest lacks is = (bytes ++ lacks.0, gives_before lacks.0 lacks.1, lacks_behind frame all rest lacks.0 lacks.2 is)

-- the rest of a slot where that is known, and these bytes where it is not
abbrev given_by : Bool → List ℕ → List ℕ → List ℕ
given_by known rest bytes = if known then rest else bytes

abbrev pub given : ℕ → Shelved → List ℕ → List ℕ
given slot s bytes = given_by s.is_known (s.rest slot) bytes

by_known : (known : Bool) (rest bytes : List ℕ) → IsTrue known → rest ≡ given_by known rest bytes
by_known true rest bytes told = refl
by_known false rest bytes told = absurd (cc)

-- they are what it gives
pub given_is : (slot : ℕ) (s : Shelved) (bytes : List ℕ) → Gives (given slot s bytes) slot s
given_is slot s bytes told = by_known s.is_known (s.rest slot) bytes told

front_by : (known : Bool) (n : ℕ) (rest piece : List ℕ) → (IsTrue known → piece ≡ take n rest) → take n piece ≡ piece → take n (given_by known rest piece) ≡ piece
front_by true n rest piece front whole = sym (front refl)
front_by false n rest piece front whole = whole

pub take_front : (front more : List ℕ) → take (length front) (front ++ more) ≡ front
take_front [] more = take_zero more
  where
    take_zero : (bytes : List ℕ) → take 0 bytes ≡ []
    take_zero [] = refl
    take_zero (b ∷ bs) = refl
take_front (b ∷ bs) more = ap (λ l. b ∷ l) (take_front bs more)

-- a piece that is as long as a frame may be and is not the frame
pub other_piece : (slot : ℕ) (s : Shelved) (piece frame : List ℕ) → IsFront (length frame) piece slot s → length piece ≤ length frame → (piece ≡ frame → ⊥) → Lacks frame slot s
other_piece slot s piece frame front few other = (
  given slot s piece,
  given_is slot s piece,
  λ begins.
      let cut : take (length frame) (given slot s piece) ≡ piece = front_by s.is_known (length frame) (s.rest slot) piece front (take_all (length frame) piece few) in
      let own : take (length frame) (given slot s piece) ≡ frame = ap (take (length frame)) (sym begins.1) ∙ take_front frame begins.0 in
      other (sym cut ∙ own),
)

-- nothing is left, or something is
none_left : (rest : List ℕ) → [] ≡ take 1 rest → rest ≡ []
none_left [] e = refl
none_left (b ∷ bs) e = absurd (cc)

pub end_read : (slot : ℕ) (s : Shelved) (piece : List ℕ) → IsFront 1 piece slot s → piece ≡ [] → IsEndRead slot s true
end_read slot s piece front none told = none_left (s.rest slot) (sym none ∙ front told)

some_by : (known : Bool) (rest piece : List ℕ) → (IsTrue known → piece ≡ take 1 rest) → (piece ≡ [] → ⊥) → given_by known rest piece ≡ [] → ⊥
some_by true rest piece front some none = some (front refl ∙ ap (take 1) none)
some_by false rest piece front some none = some none

pub more_left : (slot : ℕ) (s : Shelved) (piece : List ℕ) → IsFront 1 piece slot s → (piece ≡ [] → ⊥) → IsEndRead slot s false
more_left slot s piece front some = (given slot s piece, given_is slot s piece, some_by s.is_known (s.rest slot) piece front some)

-- what the length of a piece says of the end
pub end_told : (slot : ℕ) (s : Shelved) (piece : List ℕ) (none : Bool) → IsFront 1 piece slot s → none ≡ (length piece == 0) → IsEndRead slot s none
end_told slot s piece true front is = end_read slot s piece front (empty piece (eqb-true (length piece) 0 (sym is)))
  where
    empty : (l : List ℕ) → length l ≡ 0 → l ≡ []
    empty [] e = refl
    empty (b ∷ bs) e = absurd (omega (arith, e))
end_told slot s piece false front is = more_left slot s piece front (λ e. absurd (let wrong : false ≡ true = is ∙ ap (λ (l : List ℕ). length l == 0) e in cc))
