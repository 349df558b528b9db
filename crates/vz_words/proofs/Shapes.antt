-- When words are those of a command, and when they are those of none.
use Rattle.std.proofs.Common.{◌≡◌, ℕ, List, [], ◌∷◌, Bool, true, false, ◌&&◌, IsTrue, refl, sym, ap, ◌∙◌, arith}
use Rattle.std.specs.Prelude.{codes, nat_lt, nat_le, ◌+◌, ◌-◌}
use Rattle.std.specs.Fmt.{decimal}
use Rattle.vz_frame.specs.Fits.{within}
use Rattle.vz_rules.specs.Command.{Word, Step, Check, Gen, Demo, Hit, Turns, are_sides, frames_fit, are_files, are_names, command_words, fits_command, IsCommand, IsNoCommand}
use Rattle.vz_words.specs.Words.{IsDisplay, IsTimed}
use Rattle.vz_words.proofs.Pieces.{both, parts}
use Rattle.vz_words.proofs.Spelled.{same_within}
use Rattle.vz_words.proofs.Firsts.{Stepping, Checking, Making, Showing, Hitting, Turning, no_command}

-- `demo`
pub demo_found : (ws : List Word) (n : ℕ) → IsTrue (within 1 1000 n) → ws ≡ decimal n ∷ [] → IsCommand (codes "demo" ∷ ws) (Demo n)
unfolding IsCommand command_words fits_command
demo_found ws n fits is = (fits, ap (λ xs. codes "demo" ∷ xs) is)

pub no_demo : (ws : List Word) → ((n : ℕ) → IsTrue (within 1 1000 n) → ws ≡ decimal n ∷ [] → ⊥) → IsNoCommand (codes "demo" ∷ ws)
unfolding fits_command
no_demo ws other = no_command Showing ws other

-- `gen`
pub gen_found : (ws : List Word) (n : ℕ) (first second third : Word) → IsTrue (within 1 1000 n) → are_names (first ∷ second ∷ third ∷ []) ≡ true
    → ws ≡ decimal n ∷ first ∷ second ∷ third ∷ [] → IsCommand (codes "gen" ∷ ws) (Gen n first second third)
unfolding IsCommand command_words fits_command
gen_found ws n first second third fits named is =
    (both (within 1 1000 n) (are_names (first ∷ second ∷ third ∷ [])) fits named, ap (λ xs. codes "gen" ∷ xs) is)

pub no_gen : (ws : List Word) → ((n : ℕ) (first second third : Word) → IsTrue (within 1 1000 n) → are_names (first ∷ second ∷ third ∷ []) ≡ true
    → ws ≡ decimal n ∷ first ∷ second ∷ third ∷ [] → ⊥) → IsNoCommand (codes "gen" ∷ ws)
unfolding fits_command
no_gen ws other = no_command Making ws (λ n first second third fits is.
    let k = parts (within 1 1000 n) (are_names (first ∷ second ∷ third ∷ [])) fits in
    other n first second third k.0 k.1 is)

-- names with files among them
abbrev pub named_with : List Word → List Word → Bool
named_with names files = are_files files && are_names names

pub unnamed : (names files files' : List Word) → files ≡ files' → named_with names files ≡ true → named_with names files' ≡ false → ⊥
unnamed names files files' same right wrong = let e = ap (named_with names) same in cc

sided : (s f n : Bool) → s ≡ true → (f && n) ≡ true → ((s && f) && n) ≡ true
sided true f n p q = q
sided false f n p q = p

pub parted : (s f n : Bool) → ((s && f) && n) ≡ true → (s ≡ true) × ((f && n) ≡ true)
parted true f n h = (refl, h)
parted false f n h = absurd (let e : false ≡ true = h in cc)

-- `step`
pub step_found : (ws : List Word) (w h : ℕ) (s f l : Word) (files rest : List Word) → IsDisplay ws w h rest → rest ≡ s ∷ f ∷ l ∷ files
    → named_with rest files ≡ true → IsCommand (codes "step" ∷ ws) (Step w h s f l files)
unfolding IsCommand command_words fits_command
step_found ws w h s f l files rest shown is named =
    let names = ap (λ xs. named_with xs files) (sym is) ∙ named in
    let whole = shown.0 in
    (sided (are_sides w h) (are_files files) (are_names (s ∷ f ∷ l ∷ files)) shown.1 names, cc)

pub no_step : (ws : List Word) → ((w h : ℕ) (s f l : Word) (files : List Word) → IsDisplay ws w h (s ∷ f ∷ l ∷ files)
    → named_with (s ∷ f ∷ l ∷ files) files ≡ true → ⊥) → IsNoCommand (codes "step" ∷ ws)
unfolding fits_command
no_step ws other = no_command Stepping ws (λ w h s f l files fits is.
    let k = parted (are_sides w h) (are_files files) (are_names (s ∷ f ∷ l ∷ files)) fits in
    other w h s f l files (is, k.0) k.1)

pub no_step_behind : (ws : List Word) (w h : ℕ) (rest : List Word) → IsDisplay ws w h rest
    → ((s f l : Word) (files : List Word) → rest ≡ s ∷ f ∷ l ∷ files → named_with rest files ≡ true → ⊥) → IsNoCommand (codes "step" ∷ ws)
no_step_behind ws w h rest shown other = no_step ws (λ w' h' s f l files is named.
    let same : rest ≡ s ∷ f ∷ l ∷ files = (let a = shown.0 in let b = is.0 in cc) in
    other s f l files same (ap (λ xs. named_with xs files) same ∙ named))

-- `check`
pub check_found : (ws : List Word) (w h : ℕ) (f l : Word) (files rest : List Word) → IsDisplay ws w h rest → rest ≡ f ∷ l ∷ files
    → named_with rest files ≡ true → IsCommand (codes "check" ∷ ws) (Check w h f l files)
unfolding IsCommand command_words fits_command
check_found ws w h f l files rest shown is named =
    let names = ap (λ xs. named_with xs files) (sym is) ∙ named in
    let whole = shown.0 in
    (sided (are_sides w h) (are_files files) (are_names (f ∷ l ∷ files)) shown.1 names, cc)

pub no_check : (ws : List Word) → ((w h : ℕ) (f l : Word) (files : List Word) → IsDisplay ws w h (f ∷ l ∷ files)
    → named_with (f ∷ l ∷ files) files ≡ true → ⊥) → IsNoCommand (codes "check" ∷ ws)
unfolding fits_command
no_check ws other = no_command Checking ws (λ w h f l files fits is.
    let k = parted (are_sides w h) (are_files files) (are_names (f ∷ l ∷ files)) fits in
    other w h f l files (is, k.0) k.1)

pub no_check_behind : (ws : List Word) (w h : ℕ) (rest : List Word) → IsDisplay ws w h rest
    → ((f l : Word) (files : List Word) → rest ≡ f ∷ l ∷ files → named_with rest files ≡ true → ⊥) → IsNoCommand (codes "check" ∷ ws)
no_check_behind ws w h rest shown other = no_check ws (λ w' h' f l files is named.
    let same : rest ≡ f ∷ l ∷ files = (let a = shown.0 in let b = is.0 in cc) in
    other f l files same (ap (λ xs. named_with xs files) same ∙ named))

-- `hit`
placed : (s x y f n : Bool) → s ≡ true → x ≡ true → y ≡ true → (f && n) ≡ true → ((((s && x) && y) && f) && n) ≡ true
placed true true true f n p q r h = h
placed true true false f n p q r h = r
placed true false y f n p q r h = q
placed false x y f n p q r h = p

pub unplaced : (s x y f n : Bool) → ((((s && x) && y) && f) && n) ≡ true → (s ≡ true) × (x ≡ true) × (y ≡ true) × ((f && n) ≡ true)
unplaced true true true f n h = (refl, refl, refl, h)
unplaced true true false f n h = absurd (let e : false ≡ true = h in cc)
unplaced true false y f n h = absurd (let e : false ≡ true = h in cc)
unplaced false x y f n h = absurd (let e : false ≡ true = h in cc)

pub hit_found : (ws : List Word) (w h : ℕ) (s : Word) (x y : ℕ) (files rest : List Word) → IsDisplay ws w h rest → rest ≡ s ∷ decimal x ∷ decimal y ∷ files
    → nat_lt x w ≡ true → nat_lt y h ≡ true → named_with (s ∷ files) files ≡ true → IsCommand (codes "hit" ∷ ws) (Hit w h s x y files)
unfolding IsCommand command_words fits_command
hit_found ws w h s x y files rest shown is left below named =
    let whole = shown.0 in
    (placed (are_sides w h) (nat_lt x w) (nat_lt y h) (are_files files) (are_names (s ∷ files)) shown.1 left below named, cc)

pub no_hit : (ws : List Word) → ((w h : ℕ) (s : Word) (x y : ℕ) (files : List Word) → IsDisplay ws w h (s ∷ decimal x ∷ decimal y ∷ files)
    → nat_lt x w ≡ true → nat_lt y h ≡ true → named_with (s ∷ files) files ≡ true → ⊥) → IsNoCommand (codes "hit" ∷ ws)
unfolding fits_command
no_hit ws other = no_command Hitting ws (λ w h s x y files fits is.
    let k = unplaced (are_sides w h) (nat_lt x w) (nat_lt y h) (are_files files) (are_names (s ∷ files)) fits in
    other w h s x y files (is, k.0) k.1 k.2 k.3)

-- numbers from 0 on
pub from_zero : (n most : ℕ) → nat_le n most ≡ true → within 0 most n ≡ true
from_zero n most below = both (nat_le 0 n) (nat_le n most) (grind arith) below

-- a display with so many begin-frames that the frames are too much
pub too_much : (ws : List Word) (w h ticks : ℕ) (rest behind' : List Word) → IsDisplay ws w h rest → rest ≡ decimal ticks ∷ behind' → IsTrue (within 0 256 ticks)
    → frames_fit w h (ticks + 1) ≡ false → (w' h' ticks' : ℕ) (rest' : List Word) → IsTimed ws w' h' ticks' rest' → ⊥
too_much ws w h ticks rest behind' shown is fits much w' h' ticks' rest' timed =
    let a = shown.0 in
    let b = timed.0 in
    let sides = parts (within 1 2048 w) (within 1 2048 h) shown.1 in
    let sides' = parts (within 1 2048 w') (within 1 2048 h') timed.1 in
    let drawn = parts (nat_le ticks' 256) (frames_fit w' h' (ticks' + 1)) timed.2 in
    let wide : w ≡ w' = same_within 1 2048 w w' (omega arith) sides.0 sides'.0 cc in
    let high : h ≡ h' = same_within 1 2048 h h' (omega arith) sides.1 sides'.1 cc in
    let long : ticks ≡ ticks' = same_within 0 256 ticks ticks' (omega arith) fits (from_zero ticks' 256 drawn.0) cc in
    let little = drawn.1 in
    cc

-- the words behind the sides, and behind the begin-frames
pub behind_sides : (ws : List Word) (w h w' h' : ℕ) (rest rest' : List Word) → IsDisplay ws w h rest → IsDisplay ws w' h' rest'
    → (w ≡ w') × (h ≡ h') × (rest ≡ rest')
behind_sides ws w h w' h' rest rest' shown shown' =
    let a = shown.0 in
    let b = shown'.0 in
    let sides = parts (within 1 2048 w) (within 1 2048 h) shown.1 in
    let sides' = parts (within 1 2048 w') (within 1 2048 h') shown'.1 in
    (same_within 1 2048 w w' (omega arith) sides.0 sides'.0 cc, same_within 1 2048 h h' (omega arith) sides.1 sides'.1 cc, cc)

pub behind_ticks : (ws : List Word) (w h t w' h' t' : ℕ) (rest rest' : List Word) → IsTimed ws w h t rest → IsTimed ws w' h' t' rest'
    → (w ≡ w') × (h ≡ h') × (t ≡ t') × (rest ≡ rest')
behind_ticks ws w h t w' h' t' rest rest' timed timed' =
    let a = timed.0 in
    let b = timed'.0 in
    let d = parts (nat_le t 256) (frames_fit w h (t + 1)) timed.2 in
    let d' = parts (nat_le t' 256) (frames_fit w' h' (t' + 1)) timed'.2 in
    let sides = behind_sides ws w h w' h' (decimal t ∷ rest) (decimal t' ∷ rest') (a, timed.1) (b, timed'.1) in
    (sides.0, sides.1, same_within 0 256 t t' (omega arith) (from_zero t 256 d.0) (from_zero t' 256 d'.0) cc, cc)

-- `turns`
turned : (s t f fs n : Bool) → s ≡ true → (t && f) ≡ true → (fs && n) ≡ true → ((((s && t) && f) && fs) && n) ≡ true
turned true true true fs n p q h = h
turned true true false fs n p q h = q
turned true false f fs n p q h = q
turned false t f fs n p q h = p

pub unturned : (s t f fs n : Bool) → ((((s && t) && f) && fs) && n) ≡ true → (s ≡ true) × ((t && f) ≡ true) × ((fs && n) ≡ true)
unturned true true true fs n h = (refl, refl, h)
unturned true true false fs n h = absurd (let e : false ≡ true = h in cc)
unturned true false f fs n h = absurd (let e : false ≡ true = h in cc)
unturned false t f fs n h = absurd (let e : false ≡ true = h in cc)

pub turns_found : (ws : List Word) (w h t : ℕ) (files : List Word) → IsTimed ws w h t files → named_with files files ≡ true
    → IsCommand (codes "turns" ∷ ws) (Turns w h t files)
unfolding IsCommand command_words fits_command
turns_found ws w h t files timed named =
    (turned (are_sides w h) (nat_le t 256) (frames_fit w h (t + 1)) (are_files files) (are_names files) timed.1 timed.2 named, ap (λ xs. codes "turns" ∷ xs) timed.0)

pub no_turns : (ws : List Word) → ((w h t : ℕ) (files : List Word) → IsTimed ws w h t files → named_with files files ≡ true → ⊥)
    → IsNoCommand (codes "turns" ∷ ws)
unfolding fits_command
no_turns ws other = no_command Turning ws (λ w h t files fits is.
    let k = unturned (are_sides w h) (nat_le t 256) (frames_fit w h (t + 1)) (are_files files) (are_names files) fits in
    other w h t files (is, k.0, k.1) k.2)

-- a number below a side
pub below_side : (x w : ℕ) → nat_lt x w ≡ true → within 0 (w - 1) x ≡ true
below_side x w less = both (nat_le 0 x) (nat_le x (w - 1)) (grind arith) (grind arith)

pub in_side : (x w h : ℕ) → IsTrue (are_sides w h) → IsTrue (within 0 (w - 1) x) → nat_lt x w ≡ true
in_side x w h sides fits =
    let a = parts (within 1 2048 w) (within 1 2048 h) sides in
    let b = parts (nat_le 1 w) (nat_le w 2048) a.0 in
    let d = parts (nat_le 0 x) (nat_le x (w - 1)) fits in
    grind arith

pub in_height : (y w h : ℕ) → IsTrue (are_sides w h) → IsTrue (within 0 (h - 1) y) → nat_lt y h ≡ true
in_height y w h sides fits =
    let a = parts (within 1 2048 w) (within 1 2048 h) sides in
    in_side y h w (both (within 1 2048 h) (within 1 2048 w) a.1 a.0) fits

pub unnamed_before : (s s' : Word) (files files' : List Word) → s ≡ s' → files ≡ files' → named_with (s ∷ files) files ≡ true
    → named_with (s' ∷ files') files' ≡ false → ⊥
unnamed_before s s' files files' same all right wrong =
    let e : named_with (s ∷ files) files ≡ named_with (s' ∷ files') files' = λ i. named_with (same i ∷ all i) (all i) in
    cc

-- `hit`, behind the sides
pub no_hit_behind : (ws : List Word) (w h : ℕ) (rest : List Word) → IsDisplay ws w h rest
    → ((s : Word) (x y : ℕ) (files : List Word) → rest ≡ s ∷ decimal x ∷ decimal y ∷ files → nat_lt x w ≡ true → nat_lt y h ≡ true
    → named_with (s ∷ files) files ≡ true → ⊥) → IsNoCommand (codes "hit" ∷ ws)
no_hit_behind ws w h rest shown other = no_hit ws (λ w' h' s x y files is left below named.
    let same = behind_sides ws w h w' h' rest (s ∷ decimal x ∷ decimal y ∷ files) shown is in
    other s x y files same.2 (ap (nat_lt x) same.0 ∙ left) (ap (nat_lt y) same.1 ∙ below) named)

pub no_turns_behind : (ws : List Word) (w h t : ℕ) (rest : List Word) → IsTimed ws w h t rest → named_with rest rest ≡ false → IsNoCommand (codes "turns" ∷ ws)
no_turns_behind ws w h t rest timed wrong = no_turns ws (λ w' h' t' files timed' named.
    let same = behind_ticks ws w h t w' h' t' rest files timed timed' in
    let right = ap (λ xs. named_with xs xs) same.3 ∙ named in
    cc)
