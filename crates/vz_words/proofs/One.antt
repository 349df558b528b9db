-- Words are those of one command.
use Rattle.std.proofs.Common.{◌≡◌, ℕ, List, [], ◌∷◌, Bool, true, Option, IsTrue, refl, sym, ap, subst, ◌∙◌, arith}
use Rattle.std.specs.Prelude.{nat_le, nat_lt, ◌+◌}
use Rattle.std.specs.Fmt.{decimal}
use Rattle.vz_frame.specs.Fits.{within}
use Rattle.vz_rules.specs.Command.{Word, Command, Run, Step, Check, Gen, Demo, Hit, Turns, fits_command, buffers_fit, are_sides, frames_fit, are_files, are_names, IsCommand}
use Rattle.vz_words.proofs.Spelled.{same_within}
use Rattle.vz_words.proofs.Pieces.{parts}
use Rattle.vz_words.proofs.Firsts.{Running, Stepping, Checking, Making, Showing, Hitting, Turning, Each, kind, others, word_of, words_are, same_kind, of_kind}
use Rattle.vz_words.proofs.Given.{AreOptions, optioned_is, reads, same_options}
use Rattle.vz_words.proofs.Running.{unran, small_side}
use Rattle.vz_words.proofs.Shapes.{parted, unplaced, unturned, behind_sides, behind_ticks}

-- a command with the other words of this one is this one
abbrev IsThis : Command → Command → Type 0
IsThis a b = IsTrue (fits_command b) → others a ≡ others b → a ≡ b

this_demo : (n : ℕ) → IsTrue (fits_command (Demo n)) → Each (IsThis (Demo n)) Showing
unfolding fits_command
this_demo n fits n' fits' is = let same : n ≡ n' = same_within 1 1000 n n' (omega arith) fits fits' cc in ap Demo same

this_gen : (n : ℕ) (f s t : Word) → IsTrue (fits_command (Gen n f s t)) → Each (IsThis (Gen n f s t)) Making
unfolding fits_command
this_gen n f s t fits n' f' s' t' fits' is =
    let k = parts (within 1 1000 n) (are_names (f ∷ s ∷ t ∷ [])) fits in
    let k' = parts (within 1 1000 n') (are_names (f' ∷ s' ∷ t' ∷ [])) fits' in
    let same : n ≡ n' = same_within 1 1000 n n' (omega arith) k.0 k'.0 cc in
    cc

this_step : (w h : ℕ) (s f l : Word) (files : List Word) → IsTrue (fits_command (Step w h s f l files)) → Each (IsThis (Step w h s f l files)) Stepping
unfolding fits_command
this_step w h s f l files fits w' h' s' f' l' files' fits' is =
    let k = parted (are_sides w h) (are_files files) (are_names (s ∷ f ∷ l ∷ files)) fits in
    let k' = parted (are_sides w' h') (are_files files') (are_names (s' ∷ f' ∷ l' ∷ files')) fits' in
    let same = behind_sides (others (Step w h s f l files)) w h w' h' (s ∷ f ∷ l ∷ files) (s' ∷ f' ∷ l' ∷ files') (refl, k.0) (is, k'.0) in
    cc (same.0, same.1, same.2)

this_check : (w h : ℕ) (f l : Word) (files : List Word) → IsTrue (fits_command (Check w h f l files)) → Each (IsThis (Check w h f l files)) Checking
unfolding fits_command
this_check w h f l files fits w' h' f' l' files' fits' is =
    let k = parted (are_sides w h) (are_files files) (are_names (f ∷ l ∷ files)) fits in
    let k' = parted (are_sides w' h') (are_files files') (are_names (f' ∷ l' ∷ files')) fits' in
    let same = behind_sides (others (Check w h f l files)) w h w' h' (f ∷ l ∷ files) (f' ∷ l' ∷ files') (refl, k.0) (is, k'.0) in
    cc (same.0, same.1, same.2)

-- numbers below the sides of one display
same_below : (w h x x' : ℕ) → IsTrue (within 1 2048 w) → nat_lt x w ≡ true → nat_lt x' w ≡ true → decimal x ≡ decimal x' → x ≡ x'
same_below w h x x' side left left' is =
    let low : IsTrue (within 0 2048 x) = grind arith in
    let low' : IsTrue (within 0 2048 x') = grind arith in
    same_within 0 2048 x x' (omega arith) low low' is

this_hit : (w h : ℕ) (s : Word) (x y : ℕ) (files : List Word) → IsTrue (fits_command (Hit w h s x y files)) → Each (IsThis (Hit w h s x y files)) Hitting
unfolding fits_command
this_hit w h s x y files fits w' h' s' x' y' files' fits' is =
    let k = unplaced (are_sides w h) (nat_lt x w) (nat_lt y h) (are_files files) (are_names (s ∷ files)) fits in
    let k' = unplaced (are_sides w' h') (nat_lt x' w') (nat_lt y' h') (are_files files') (are_names (s' ∷ files')) fits' in
    let same = behind_sides (others (Hit w h s x y files)) w h w' h' (s ∷ decimal x ∷ decimal y ∷ files) (s' ∷ decimal x' ∷ decimal y' ∷ files') (refl, k.0) (is, k'.0) in
    let sides = parts (within 1 2048 w) (within 1 2048 h) k.0 in
    let rest = same.2 in
    let across : x ≡ x' = same_below w h x x' sides.0 k.1 (ap (nat_lt x') same.0 ∙ k'.1) cc in
    let down : y ≡ y' = same_below h w y y' sides.1 k.2 (ap (nat_lt y') same.1 ∙ k'.2) cc in
    cc (same.0, same.1, same.2, across, down)

this_turns : (w h t : ℕ) (files : List Word) → IsTrue (fits_command (Turns w h t files)) → Each (IsThis (Turns w h t files)) Turning
unfolding fits_command
this_turns w h t files fits w' h' t' files' fits' is =
    let k = unturned (are_sides w h) (nat_le t 256) (frames_fit w h (t + 1)) (are_files files) (are_names files) fits in
    let k' = unturned (are_sides w' h') (nat_le t' 256) (frames_fit w' h' (t' + 1)) (are_files files') (are_names files') fits' in
    let same = behind_ticks (others (Turns w h t files)) w h t w' h' t' files files' (refl, k.0, k.1) (is, k'.0, k'.1) in
    cc (same.0, same.1, same.2, same.3)

this_run : (p : Bool) (b : Option ℕ) (q : Bool) (w h t : ℕ) (f l : Word) (files : List Word) → IsTrue (fits_command (Run p b q w h t f l files))
    → Each (IsThis (Run p b q w h t f l files)) Running
unfolding fits_command
this_run p b q w h t f l files fits p' b' q' w' h' t' f' l' files' fits' is =
    let k = unran (buffers_fit b) (are_sides w h) (nat_le t 256) (frames_fit w h (t + 1)) (are_files files) (are_names (f ∷ l ∷ files)) fits in
    let k' = unran (buffers_fit b') (are_sides w' h') (nat_le t' 256) (frames_fit w' h' (t' + 1)) (are_files files') (are_names (f' ∷ l' ∷ files')) fits' in
    let timed = decimal w ∷ decimal h ∷ decimal t ∷ f ∷ l ∷ files in
    let timed' = decimal w' ∷ decimal h' ∷ decimal t' ∷ f' ∷ l' ∷ files' in
    let ws = others (Run p b q w h t f l files) in
    let given = subst (λ xs. AreOptions xs p b q timed) (sym (optioned_is p b q timed)) (reads w (decimal h ∷ decimal t ∷ f ∷ l ∷ files) (small_side w h k.1) p b q k.0) in
    let given' = subst (λ xs. AreOptions xs p' b' q' timed') (sym (is ∙ optioned_is p' b' q' timed'))
    (reads w' (decimal h' ∷ decimal t' ∷ f' ∷ l' ∷ files') (small_side w' h' k'.1) p' b' q' k'.0) in
    let one = same_options ws p p' b b' q q' timed timed' given given' in
    let two = behind_ticks timed w h t w' h' t' (f ∷ l ∷ files) (f' ∷ l' ∷ files') (refl, k.1, k.2) (one.3, k'.1, k'.2) in
    cc (one.0, one.1, one.2, two.0, two.1, two.2, two.3)

same_parts : (ws : List Word) (a b : Command) → IsCommand ws a → IsCommand ws b
    → (kind a ≡ kind b) × (others a ≡ others b) × IsTrue (fits_command a) × IsTrue (fits_command b)
unfolding IsCommand
same_parts ws a b is again =
    let e : word_of (kind a) ∷ others a ≡ word_of (kind b) ∷ others b = sym (words_are a) ∙ sym is.1 ∙ again.1 ∙ words_are b in
    (same_kind (kind a) (kind b) cc, cc, is.0, again.0)

this : (a : Command) → IsTrue (fits_command a) → Each (IsThis a) (kind a)
this (Run p b q w h t f l files) fits = this_run p b q w h t f l files fits
this (Step w h s f l files) fits = this_step w h s f l files fits
this (Check w h f l files) fits = this_check w h f l files fits
this (Gen n f s t) fits = this_gen n f s t fits
this (Demo n) fits = this_demo n fits
this (Hit w h s x y files) fits = this_hit w h s x y files fits
this (Turns w h t files) fits = this_turns w h t files fits

pub same_command : (ws : List Word) (a b : Command) → IsCommand ws a → IsCommand ws b → a ≡ b
same_command ws a b is again =
    let k = same_parts ws a b is again in
    of_kind (IsThis a) (kind a) (this a k.2) b k.0 k.3 k.1
