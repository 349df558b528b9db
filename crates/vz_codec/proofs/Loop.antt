-- Reading values one after the other, as a loop does.
use Rattle.std.proofs.Common.{◌≡◌, ℕ, suc, ◌-◌, ◌+◌, ◌≤◌, ◌<◌, List, [], ◌∷◌, ◌++◌, Ok, Err}
use Rattle.std.proofs.Common.{refl, sym, ap, ◌∙◌, append_assoc, arith}
use Rattle.std.proofs.lemmas.List.{append-nil}
use Rattle.vz_codec.specs.declared.error.ReadError.{ReadError}
use Rattle.vz_codec.specs.declared.error.ReadError.TheVariants as errors
use Rattle.vz_codec.specs.Reading.{Read, Reading, ◌>>=◌, row_at}
use Rattle.vz_codec.specs.Giving.{Fails}

-- what was read before, and what is still read
abbrev pub with_front : {A : Type 0} → List A → Read (List A) → Read (List A)
with_front front read = read >>= λ x. Ok (front ++ x.0, x.1)

regroup : {A : Type 0} (front : List A) (a : A) (read : Read (List A)) → with_front front (
    (read >>= λ (y : List A × List ℕ). Ok ((a, y.0), y.1)) >>= λ (x : (A × List A) × List ℕ). Ok (x.0.0 ∷ x.0.1, x.1)
    ) ≡ with_front (front ++ a ∷ []) read
regroup {A} front a (Ok x) = ap (λ (xs : List A). Ok (xs, x.1)) (simp append_assoc)
regroup front a (Err f) = refl

module _ {S A : Type 0} (read : S → Reading A) (after : S → A → S) where
  abbrev so_far : List A → ℕ → S → List ℕ → Read (List A)
  so_far front n s bytes = with_front front (row_at read after n s bytes)

  module _ (front : List A) (count i : ℕ) (s : S) (bytes : List ℕ) (total : Read (List A)) where
    pub goes_on : (a : A) (rest : List ℕ) → i < count → read s bytes ≡ Ok (a, rest)
        → so_far front (count - i) s bytes ≡ total → so_far (front ++ a ∷ []) (count - (i + 1)) (after s a) rest ≡ total
    unfolding row_at
    goes_on a rest lt h is =
        let k : count - i ≡ suc (count - (i + 1)) = omega arith in
        let more = row_at read after (count - (i + 1)) (after s a) rest in
        let one : so_far front (count - i) s bytes ≡ with_front (front ++ a ∷ []) more =
        rw (k, h) (regroup front a more) in
        sym one ∙ is

    pub ends : (e : ReadError) → i < count → Fails e (read s bytes) → so_far front (count - i) s bytes ≡ total
        → Fails e total
    unfolding row_at
    ends errors.Memory lt h is = tt
    ends (errors.Wrong left rule) lt h is =
        let k : count - i ≡ suc (count - (i + 1)) = omega arith in
        let one : so_far front (count - i) s bytes ≡ Err (record { left = left; rule = rule }) = rw (k, h) refl in
        sym is ∙ one

    pub is_done : count ≤ i → so_far front (count - i) s bytes ≡ total → total ≡ Ok (front, bytes)
    unfolding row_at
    is_done le is =
        let k : count - i ≡ 0 = omega arith in
        let all = ap (λ (xs : List A). Ok (xs, bytes)) (append-nil front) in
        let one : so_far front (count - i) s bytes ≡ Ok (front, bytes) = rw k all in
        sym is ∙ one
