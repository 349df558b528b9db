-- Options stand in front of words in one way.
use Rattle.std.proofs.Common.{◌≡◌, ℕ, ◌<◌, ◌^◌, List, [], ◌∷◌, ◌++◌, Bool, true, false, Option, Some, None, IsTrue, refl, sym, ap, subst, ◌∙◌, arith}
use Rattle.std.specs.Prelude.{codes, is_some}
use Rattle.std.specs.Fmt.{decimal}
use Rattle.vz_rules.specs.Command.{Word, flag_words, buffer_words, buffers_fit, same_text, begins_with_dash}
use Rattle.vz_words.specs.Words.{begins, IsFlag, IsBuffers}
use Rattle.vz_words.proofs.Spelled.{same_within, digits_begin}

-- an option that is read is the one that stands there
pub same_flag : (name : Word) (ws : List Word) (p q : Bool) (xs ys : List Word) → IsFlag name ws p xs → IsFlag name ws q ys → (p ≡ q) × (xs ≡ ys)
same_flag name ws true true xs ys a b = (refl, let d = a.0 in let e = b.0 in cc)
same_flag name ws false false xs ys a b = (refl, let d = a.0 in let e = b.0 in cc)
same_flag name ws true false xs ys a b = absurd (let d : true ≡ false = a.1 ∙ sym b.1 in cc)
same_flag name ws false true xs ys a b = absurd (let d : false ≡ true = a.1 ∙ sym b.1 in cc)

pub same_buffers : (ws : List Word) (p q : Option ℕ) (xs ys : List Word) → IsBuffers ws p xs → IsBuffers ws q ys → (p ≡ q) × (xs ≡ ys)
same_buffers ws (Some m) (Some n) xs ys a b =
    let d = a.0 in
    let e = b.0 in
    let spelled : decimal m ≡ decimal n = cc in
    let same : m ≡ n = same_within 1 4 m n (omega arith) a.2 b.2 spelled in
    (ap Some same, cc)
same_buffers ws None None xs ys a b = (refl, let d = a.0 in let e = b.0 in cc)
same_buffers ws (Some m) None xs ys a b = absurd (let d : true ≡ false = a.1 ∙ sym b.1 in cc)
same_buffers ws None (Some n) xs ys a b = absurd (let d : false ≡ true = a.1 ∙ sym b.1 in cc)

-- the options of `run` stand in front of words, and the rest behind them
abbrev pub AreOptions : (words : List Word) (paced : Bool) (buffers : Option ℕ) (pipe : Bool) (rest : List Word) → Type 0
AreOptions words paced buffers pipe rest =
    (first : List Word) × (second : List Word) × IsFlag (codes "--paced") words paced first × IsBuffers first buffers second × IsFlag (codes "--pipe") second pipe rest

pub same_options : (ws : List Word) (p p' : Bool) (b b' : Option ℕ) (q q' : Bool) (xs ys : List Word) → AreOptions ws p b q xs → AreOptions ws p' b' q' ys
    → (p ≡ p') × (b ≡ b') × (q ≡ q') × (xs ≡ ys)
same_options ws p p' b b' q q' xs ys o o' =
    let one = same_flag (codes "--paced") ws p p' o.0 o'.0 o.2 o'.2 in
    let two = same_buffers o'.0 b b' o.1 o'.1 (subst (λ zs. IsBuffers zs b o.1) one.1 o.3) o'.3 in
    let three = same_flag (codes "--pipe") o'.1 q q' xs ys (subst (λ zs. IsFlag (codes "--pipe") zs q xs) two.1 o.4) o'.4 in
    (one.0, two.0, three.0, three.1)

-- what begins with no dash is no option
other_dash : (name w : Word) → begins_with_dash name ≡ true → begins_with_dash w ≡ false → same_text w name ≡ false
other_dash [] w dash digit = absurd (let e : false ≡ true = dash in cc)
other_dash (c ∷ cs) [] dash digit = refl
other_dash (c ∷ cs) (d ∷ ds) dash digit = grind arith

-- the words behind each option
abbrev pub piped : Bool → List Word → List Word
piped q xs = flag_words (codes "--pipe") q ++ xs

abbrev pub buffered : Option ℕ → Bool → List Word → List Word
buffered b q xs = buffer_words b ++ piped q xs

abbrev pub optioned : Bool → Option ℕ → Bool → List Word → List Word
optioned p b q xs = flag_words (codes "--paced") p ++ buffered b q xs

pub optioned_is : (p : Bool) (b : Option ℕ) (q : Bool) (xs : List Word)
    → flag_words (codes "--paced") p ++ buffer_words b ++ flag_words (codes "--pipe") q ++ xs ≡ optioned p b q xs
optioned_is true (Some n) true xs = refl
optioned_is true (Some n) false xs = refl
optioned_is true None true xs = refl
optioned_is true None false xs = refl
optioned_is false (Some n) true xs = refl
optioned_is false (Some n) false xs = refl
optioned_is false None true xs = refl
optioned_is false None false xs = refl

module _ (w : ℕ) (rest : List Word) (small : w < 2 ^ 32) where
  reads_pipe : (q : Bool) → q ≡ begins (codes "--pipe") (piped q (decimal w ∷ rest))
  reads_pipe true = refl
  reads_pipe false = sym (other_dash (codes "--pipe") (decimal w) refl (digits_begin w small))

  reads_buffers : (b : Option ℕ) (q : Bool) → is_some b ≡ begins (codes "--buffers") (buffered b q (decimal w ∷ rest))
  reads_buffers (Some n) q = refl
  reads_buffers None true = refl
  reads_buffers None false = sym (other_dash (codes "--buffers") (decimal w) refl (digits_begin w small))

  reads_paced : (p : Bool) (b : Option ℕ) (q : Bool) → p ≡ begins (codes "--paced") (optioned p b q (decimal w ∷ rest))
  reads_paced true b q = refl
  reads_paced false (Some n) q = refl
  reads_paced false None true = refl
  reads_paced false None false = sym (other_dash (codes "--paced") (decimal w) refl (digits_begin w small))

  -- the options in front of a number are read as they are spelled
  pub reads : (p : Bool) (b : Option ℕ) (q : Bool) → IsTrue (buffers_fit b) → AreOptions (optioned p b q (decimal w ∷ rest)) p b q (decimal w ∷ rest)
  reads p b q fits = (buffered b q (decimal w ∷ rest), piped q (decimal w ∷ rest), (refl, reads_paced p b q), (refl, reads_buffers b q, fits), (refl, reads_pipe q))

-- words with these options are spelled so
pub spelled_so : (ws : List Word) (p : Bool) (b : Option ℕ) (q : Bool) (xs : List Word) → AreOptions ws p b q xs → ws ≡ optioned p b q xs
spelled_so ws p b q xs o =
    o.2.0 ∙ ap (λ zs. flag_words (codes "--paced") p ++ zs) (o.3.0 ∙ ap (λ zs. buffer_words b ++ zs) o.4.0)
