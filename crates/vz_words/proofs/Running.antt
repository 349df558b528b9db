-- When words are those of `run`.
use Rattle.std.proofs.Common.{◌≡◌, ℕ, ◌<◌, ◌^◌, List, ◌∷◌, Bool, true, false, ◌&&◌, Option, IsTrue, refl, sym, ap, subst, ◌∙◌, arith}
use Rattle.std.specs.Prelude.{codes, nat_le, ◌+◌}
use Rattle.std.specs.Fmt.{decimal}
use Rattle.vz_frame.specs.Fits.{within}
use Rattle.vz_rules.specs.Command.{Word, Run, buffers_fit, are_sides, frames_fit, are_files, are_names, command_words, fits_command, IsCommand, IsNoCommand}
use Rattle.vz_words.specs.Words.{IsFlag, IsBuffers, IsTimed}
use Rattle.vz_words.proofs.Pieces.{parts}
use Rattle.vz_words.proofs.Spelled.{within_is}
use Rattle.vz_words.proofs.Firsts.{Running, no_command}
use Rattle.vz_words.proofs.Given.{AreOptions, optioned, optioned_is, reads, spelled_so, same_flag, same_options}
use Rattle.vz_words.proofs.Shapes.{named_with, behind_ticks}

ran : (b s t f fs n : Bool) → b ≡ true → s ≡ true → (t && f) ≡ true → (fs && n) ≡ true → (((((b && s) && t) && f) && fs) && n) ≡ true
ran true true true true fs n p q r h = h
ran true true true false fs n p q r h = r
ran true true false f fs n p q r h = r
ran true false t f fs n p q r h = q
ran false s t f fs n p q r h = p

pub unran : (b s t f fs n : Bool) → (((((b && s) && t) && f) && fs) && n) ≡ true → (b ≡ true) × (s ≡ true) × ((t && f) ≡ true) × ((fs && n) ≡ true)
unran true true true true fs n h = (refl, refl, refl, h)
unran true true true false fs n h = absurd (let e : false ≡ true = h in cc)
unran true true false f fs n h = absurd (let e : false ≡ true = h in cc)
unran true false t f fs n h = absurd (let e : false ≡ true = h in cc)
unran false s t f fs n h = absurd (let e : false ≡ true = h in cc)

-- sides of a display are small numbers
pub small_side : (w h : ℕ) → IsTrue (are_sides w h) → w < 2 ^ 32
small_side w h sides =
    let k = parts (within 1 2048 w) (within 1 2048 h) sides in
    let j = within_is 1 2048 w k.0 in
    omega arith

pub run_found : (ws : List Word) (p : Bool) (b : Option ℕ) (q : Bool) (timed : List Word) (w h t : ℕ) (rest : List Word) (f l : Word) (files : List Word)
    → AreOptions ws p b q timed → IsTimed timed w h t rest → rest ≡ f ∷ l ∷ files → named_with rest files ≡ true → IsCommand (codes "run" ∷ ws) (Run p b q w h t f l files)
unfolding IsCommand command_words fits_command
run_found ws p b q timed w h t rest f l files options is same named =
    let names = ap (λ xs. named_with xs files) (sym same) ∙ named in
    let whole = is.0 in
    let numbers : timed ≡ decimal w ∷ decimal h ∷ decimal t ∷ f ∷ l ∷ files = cc in
    let spelled = spelled_so ws p b q timed options ∙ ap (optioned p b q) numbers ∙ sym (optioned_is p b q (decimal w ∷ decimal h ∷ decimal t ∷ f ∷ l ∷ files)) in (
      ran (buffers_fit b) (are_sides w h) (nat_le t 256) (frames_fit w h (t + 1)) (are_files files) (are_names (f ∷ l ∷ files)) options.3.2 is.1 is.2 names,
      ap (λ xs. codes "run" ∷ xs) spelled,
    )

pub no_run : (ws : List Word) → ((p : Bool) (b : Option ℕ) (q : Bool) (timed : List Word) (w h t : ℕ) (f l : Word) (files : List Word)
    → AreOptions ws p b q timed → IsTimed timed w h t (f ∷ l ∷ files) → named_with (f ∷ l ∷ files) files ≡ true → ⊥) → IsNoCommand (codes "run" ∷ ws)
unfolding fits_command
no_run ws other = no_command Running ws (λ p b q w h t f l files fits is.
    let k = unran (buffers_fit b) (are_sides w h) (nat_le t 256) (frames_fit w h (t + 1)) (are_files files) (are_names (f ∷ l ∷ files)) fits in
    let spelled = is ∙ optioned_is p b q (decimal w ∷ decimal h ∷ decimal t ∷ f ∷ l ∷ files) in
    let options = subst (λ xs. AreOptions xs p b q (decimal w ∷ decimal h ∷ decimal t ∷ f ∷ l ∷ files)) (sym spelled)
    (reads w (decimal h ∷ decimal t ∷ f ∷ l ∷ files) (small_side w h k.1) p b q k.0) in
    other p b q (decimal w ∷ decimal h ∷ decimal t ∷ f ∷ l ∷ files) w h t f l files options (refl, k.1, k.2) k.3)

-- the option for the number of buffers without such a number
pub no_run_buffers : (ws : List Word) (p : Bool) (rest : List Word) → IsFlag (codes "--paced") ws p rest → ((b : Option ℕ) (xs : List Word) → IsBuffers rest b xs → ⊥)
    → IsNoCommand (codes "run" ∷ ws)
no_run_buffers ws p rest given other = no_run ws (λ p' b' q' timed w h t f l files options is named.
    let same = same_flag (codes "--paced") ws p' p options.0 rest options.2 given in
    other b' options.1 (subst (λ xs. IsBuffers xs b' options.1) same.1 options.3))

-- no numbers behind the options
pub no_run_timed : (ws : List Word) (p : Bool) (b : Option ℕ) (q : Bool) (rest : List Word) → AreOptions ws p b q rest
    → ((w h t : ℕ) (xs : List Word) → IsTimed rest w h t xs → ⊥) → IsNoCommand (codes "run" ∷ ws)
no_run_timed ws p b q rest given other = no_run ws (λ p' b' q' timed w h t f l files options is named.
    let same = same_options ws p' p b' b q' q timed rest options given in
    other w h t (f ∷ l ∷ files) (subst (λ xs. IsTimed xs w h t (f ∷ l ∷ files)) same.3 is))

-- no names behind the numbers
pub no_run_behind : (ws : List Word) (p : Bool) (b : Option ℕ) (q : Bool) (timed : List Word) (w h t : ℕ) (rest : List Word) → AreOptions ws p b q timed → IsTimed timed w h t rest
    → ((f l : Word) (files : List Word) → rest ≡ f ∷ l ∷ files → named_with rest files ≡ true → ⊥) → IsNoCommand (codes "run" ∷ ws)
no_run_behind ws p b q timed w h t rest given is other = no_run ws (λ p' b' q' timed' w' h' t' f l files options is' named.
    let one = same_options ws p' p b' b q' q timed' timed options given in
    let two = behind_ticks timed w h t w' h' t' rest (f ∷ l ∷ files) is (subst (λ xs. IsTimed xs w' h' t' (f ∷ l ∷ files)) one.3 is') in
    other f l files two.3 (ap (λ xs. named_with xs files) two.3 ∙ named))
